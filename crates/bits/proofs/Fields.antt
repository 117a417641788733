-- What the loops over the bits of a field keep.
use Rattle.std.proofs.Common.{◌≡◌, ℕ, suc, ◌+◌, ◌-◌, ◌*◌, ◌/◌, ◌%◌, ◌^◌, ◌<◌, ◌≤◌, Bool, true, false, cond, ◌&&◌, leb, List, length, get_or, take, drop, Option, Some, None, is_some, IfSome, sym, refl, ◌∙◌, ⊎_elim, arith, length-drop, length-take, pow_mono}
use Rattle.std.proofs.lemmas.List.{get_or-drop, get_or-take, get_or_past}
use Rattle.std.proofs.lemmas.List.Sums.{fold_more}
use Rattle.std.proofs.lemmas.Bool.{and_parts, le-leb, lt-leb, cases_lt}
use Rattle.bits.specs.Bits.{bits_of, number_of, digits, field_at}
use Rattle.bits.specs.Overwriting.{set_bit, set_bits}
use Rattle.bits.proofs.BitLists.{length_bits, bits_of-bit, number_of-below, digits_none, digits_front}
use Rattle.bits.proofs.SetBits.{set_bits_none, set_bits_more}

-- a field that reaches past the bits is none
pub field_at_ends : (w : ℕ) (bits : List ℕ) (at : ℕ) → length bits < at + w → field_at w bits at ≡ None
unfolding field_at
field_at_ends w bits at h = rw (lt-leb (at + w) (length bits) h)

-- one within them is the number there
pub field_at_reads : (w : ℕ) (bits : List ℕ) (at : ℕ) → at + w ≤ length bits → field_at w bits at ≡ Some (number_of (take w (drop at bits)))
unfolding field_at
field_at_reads w bits at h = rw (le-leb (at + w) (length bits) h)

cond_both : {A : Type 0} (a b : Bool) (x y : A) → (a && b) ≡ false → cond a (cond b x y) y ≡ y
cond_both false b x y h = refl
cond_both true b x y h = rw h

-- no field is read above 32 bits, nor one that reaches past the bits
pub field_none : (w : ℕ) (bytes : List ℕ) (at : ℕ) → (leb w 32 && leb (at + w) (8 * length bytes)) ≡ false → cond (leb w 32) (field_at w (bits_of bytes) at) None ≡ None
unfolding field_at
field_none w bytes at h = rw (length_bits bytes) (cond_both (leb w 32) (leb (at + w) (8 * length bytes)) (Some (number_of (take w (drop at (bits_of bytes))))) None h)

-- one that does not is read
pub field-whole : (w : ℕ) (bytes : List ℕ) (at : ℕ) → at + w ≤ 8 * length bytes → field_at w (bits_of bytes) at ≡ Some (number_of (take w (drop at (bits_of bytes))))
field-whole w bytes at h = field_at_reads w (bits_of bytes) at (omega (arith, length_bits bytes))

-- what is some where the bytes hold the field, and then what is there, is the field
pub field_of : {P : ℕ → Type 0} (w : ℕ) (bytes : List ℕ) (at : ℕ) (r : Option ℕ) → is_some r ≡ (leb w 32 && leb (at + w) (8 * length bytes)) → IfSome r P → ((v : ℕ) → P v → Some v ≡ field_at w (bits_of bytes) at) → r ≡ cond (leb w 32) (field_at w (bits_of bytes) at) None
field_of w bytes at (Some v) h p g = rw (and_parts (leb w 32) (leb (at + w) (8 * length bytes)) (sym h)).0 (g v p)
field_of w bytes at None h p g = sym (field_none w bytes at (sym h))

-- one bit more in a number
pub number_more : (bytes : List ℕ) (at k : ℕ) → at + k < 8 * length bytes → number_of (take (k + 1) (drop at (bits_of bytes))) ≡ number_of (take k (drop at (bits_of bytes))) * 2 + get_or (bits_of bytes) (at + k) 0
number_more bytes at k h =
    let n : k < length (drop at (bits_of bytes)) = simp length-drop (omega (arith, length_bits bytes)) in
    fold_more (λ (a b : ℕ). a * 2 + b) 0 (drop at (bits_of bytes)) k 0 n ∙ rw (get_or-drop at (bits_of bytes) k 0)

-- a number of few bits is small
pub number_part_below : (bytes : List ℕ) (at k n : ℕ) → k ≤ n → number_of (take k (drop at (bits_of bytes))) < 2 ^ n
number_part_below bytes at k n h =
    let rest = drop at (bits_of bytes) in
    let part = take k rest in
    let len : length part ≤ n = simp length-take (omega arith) in
    let low : (i : ℕ) → get_or part i 0 < 2 = λ i.
    ⊎_elim
    (λ (u : i < k). rw (get_or-take k rest i 0 u, get_or-drop at (bits_of bytes) i 0) (bits_of-bit bytes (at + i)))
    (λ (u : k ≤ i). rw (get_or_past part i 0 (simp length-take (omega arith))) (omega arith))
    (cases_lt i k) in
    omega (arith, number_of-below part low, pow_mono len)

-- the first k of the w bits of v are put from `at` on: what is left gives what all would
pub record Putting (v w at : ℕ) (out₀ : List ℕ) (k : ℕ) (out : List ℕ) : Type 0 where
  pub left : set_bits out (at + k) (digits (w - k) v) ≡ set_bits out₀ at (digits w v)

module _ {v w at : ℕ} {out₀ : List ℕ} where
  pub putting_more : {k : ℕ} {out : List ℕ} → Putting v w at out₀ k out → k < w → Putting v w at out₀ (k + 1) (set_bit out (at + k) (v / 2 ^ (w - 1 - k) % 2))
  putting_more {k} {out} h l =
      let n : w - k ≡ suc (w - 1 - k) = omega arith in
      let m : w - (k + 1) ≡ w - 1 - k = omega arith in
      let a : at + (k + 1) ≡ at + k + 1 = omega arith in
      let f = digits_front (w - 1 - k) v in
      let s = set_bits_more out (at + k) (v / 2 ^ (w - 1 - k) % 2) (digits (w - 1 - k) v) in
      record { left = rw (m, a, ← s, ← f, ← n) h.left }

  pub putting_all : {k : ℕ} {out : List ℕ} → Putting v w at out₀ k out → w ≤ k → out ≡ set_bits out₀ at (digits w v)
  putting_all {k} {out} h l =
      let z : w - k ≡ 0 = omega arith in
      let e : set_bits out (at + k) (digits 0 v) ≡ set_bits out₀ at (digits w v) = rw z at h.left in
      sym (rw (digits_none v) (set_bits_none out (at + k))) ∙ e
