-- What follows the last field.
use Rattle.std.proofs.Common.{◌≡◌, ℕ, ◌+◌, ◌-◌, ◌*◌, ◌<◌, ◌≤◌, List, length, drop, Ok, Err, sym, ap, ◌∙◌, arith, length-drop}
use Rattle.std.proofs.lemmas.List.{take_all}
use Rattle.std.proofs.lemmas.Bool.{lt-ltb, le-ltb, eq-eqb, ne_eqb}
use Rattle.syntax.specs.declared.fault.ReadFault.{ReadFault}
use Rattle.syntax.specs.declared.fault.ReadFault.TheVariants.{Filling}
use Rattle.syntax.specs.Parse.{field}
use Rattle.bits.specs.Bits.{bits_of, number_of}
use Rattle.bits.proofs.BitLists.{length_bits}
use Rattle.bits.proofs.Fields.{field_at_reads}
use Rattle.reading.specs.Storing.{ended}

module _ (bytes : List ℕ) (at : ℕ) (h : at ≤ 8 * length bytes) where
  rest_long : length (drop at (bits_of bytes)) ≡ length bytes * 8 - at
  rest_long = simp length-drop (omega (arith, length_bits bytes))

  -- the field of all bits that are left
  rest_field : field (length bytes * 8 - at) (bits_of bytes) at ≡ Ok (number_of (drop at (bits_of bytes)), at + (length bytes * 8 - at))
  unfolding field
  rest_field =
      let t = take_all (length bytes * 8 - at) (drop at (bits_of bytes)) (omega (arith, rest_long)) in
      rw (field_at_reads (length bytes * 8 - at) (bits_of bytes) at (omega (arith, length_bits bytes)), t)

  rest_is : (v q : ℕ) → field (length bytes * 8 - at) (bits_of bytes) at ≡ Ok (v, q) → v ≡ number_of (drop at (bits_of bytes))
  rest_is v q e =
      let f = rest_field in
      let w : ◌≡◌ {A = ℕ × ℕ} (v, q) (number_of (drop at (bits_of bytes)), at + (length bytes * 8 - at)) = cc in
      ap (λ p. p.0) w

  pub ended_fine : (v q : ℕ) → length bytes * 8 - at < 8 → field (length bytes * 8 - at) (bits_of bytes) at ≡ Ok (v, q) → v ≡ 0 → ended (bits_of bytes) at ≡ Ok tt
  ended_fine v q l e z =
      rw (lt-ltb (length (drop at (bits_of bytes))) 8 (omega (arith, rest_long)), eq-eqb (number_of (drop at (bits_of bytes))) 0 (sym (rest_is v q e) ∙ z))

  pub ended_set : (v q : ℕ) → length bytes * 8 - at < 8 → field (length bytes * 8 - at) (bits_of bytes) at ≡ Ok (v, q) → (v ≡ 0 → ⊥) → ended (bits_of bytes) at ≡ Err (Filling at)
  ended_set v q l e z =
      rw (lt-ltb (length (drop at (bits_of bytes))) 8 (omega (arith, rest_long)), ne_eqb (number_of (drop at (bits_of bytes))) 0 (λ n. z (rest_is v q e ∙ n)))

  pub ended_long : 8 ≤ length bytes * 8 - at → ended (bits_of bytes) at ≡ Err (Filling at)
  ended_long l = rw (le-ltb (length (drop at (bits_of bytes))) 8 (omega (arith, rest_long)))

  pub ended_never : (f : ReadFault) → field (length bytes * 8 - at) (bits_of bytes) at ≡ Err f → ⊥
  ended_never f e = let g = rest_field in let z : ◌≡◌ {A = ℕ} 0 1 = cc in omega arith
