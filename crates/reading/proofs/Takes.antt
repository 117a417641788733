-- What taking a field says of the list of bits.
use Rattle.std.proofs.Common.{◌≡◌, ℕ, ◌+◌, ◌*◌, ◌^◌, ◌<◌, ◌≤◌, cond, leb, List, length, take, drop, Some, None, Ok, Err, ⊎_elim, arith}
use Rattle.std.proofs.lemmas.Bool.{le-leb, cases_lt}
use Rattle.syntax.specs.declared.fault.ReadFault.TheVariants.{Ends}
use Rattle.syntax.specs.Parse.{field}
use Rattle.bits.specs.Bits.{bits_of, number_of, field_at}
use Rattle.bits.proofs.BitLists.{length_bits}
use Rattle.bits.proofs.Fields.{field_at_ends, field_at_reads, number_part_below}

module _ (w : ℕ) (bytes : List ℕ) (at : ℕ) (h : w ≤ 32) where
  pub taken_none : None ≡ cond (leb w 32) (field_at w (bits_of bytes) at) None → field w (bits_of bytes) at ≡ Err (Ends at)
  unfolding field
  taken_none e =
      let l = le-leb w 32 h in
      let f : None ≡ field_at w (bits_of bytes) at = rw l at e in
      rw (← f)

  pub taken_some : (v : ℕ) → Some v ≡ cond (leb w 32) (field_at w (bits_of bytes) at) None → (field w (bits_of bytes) at ≡ Ok (v, at + w)) × (at + w ≤ 8 * length bytes) × (v < 2 ^ w)
  unfolding field
  taken_some v e =
      let l = le-leb w 32 h in
      let f : Some v ≡ field_at w (bits_of bytes) at = rw l at e in
      ⊎_elim
      (λ (s : length (bits_of bytes) < at + w).
      let n = field_at_ends w (bits_of bytes) at s in
      let z : ◌≡◌ {A = ℕ} 0 1 = cc in absurd (omega arith))
      (λ (s : at + w ≤ length (bits_of bytes)).
      let n = field_at_reads w (bits_of bytes) at s in
      let b : at + w ≤ 8 * length bytes = omega (arith, length_bits bytes) in
      let g : v ≡ number_of (take w (drop at (bits_of bytes))) = cc in
      (rw (← f), b, rw g (number_part_below bytes at w w (omega arith))))
      (cases_lt (length (bits_of bytes)) (at + w))
