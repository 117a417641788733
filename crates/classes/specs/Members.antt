-- Compartments by their members, and from that their laws.
use Rattle.std.specs.Prelude.{◌≡◌, ℕ, max, T, ◌⊎◌, ◌==◌, bit_or}
use Rattle.std.specs.Int.{bit_at}
use Rattle.std.proofs.Common.{sym, subst, ◌∙◌, inl, inr, ⊎_elim, arith, eqb→eq}
use Rattle.std.proofs.Math.Dec.{eqb_refl}
use Rattle.std.proofs.lemmas.Nat.{or_comm}
use Rattle.std.proofs.lemmas.Nat.Bits.{bit_at_or, bit_at-lt, bit_at-zero, bit_at_above, same_from_bits}
use Rattle.std.proofs.lemmas.Bool.{cases_lt}
use Rattle.classes.specs.Classes.{ClassLaws}
use Rattle.classes.specs.Systems.{compartments, Member, CompartmentMembers}

-- every member of a is one of b
abbrev Part : ℕ → ℕ → Type 0
Part a b = (i : ℕ) → Member i a → Member i b

larger : (a b i : ℕ) → Part a b → max (bit_at a i) (bit_at b i) ≡ bit_at b i
larger a b i h =
    let l = bit_at-lt a i in
    ⊎_elim (λ none. omega arith) (λ one. let e : bit_at b i ≡ 1 = h i (omega arith) in omega arith) (cases_lt (bit_at a i) 1)

-- a part adds nothing to the union
absorbs : (a b : ℕ) → Part a b → bit_or a b ≡ b
absorbs a b h = same_from_bits (bit_or a b) b (λ i. bit_at_or a b i ∙ larger a b i h)

from_part : (a b : ℕ) → Part a b → T (compartments.below a b)
from_part a b h = subst (λ (n : ℕ). T (n == b)) (sym (absorbs a b h)) (eqb_refl b)

to_either : (a b i : ℕ) → Member i (bit_or a b) → Member i a ⊎ Member i b
to_either a b i h =
    let e = bit_at_or a b i in
    let l = bit_at-lt a i in
    ⊎_elim (λ none. inr (omega arith)) (λ one. inl (omega arith)) (cases_lt (bit_at a i) 1)

from_first : (a b i : ℕ) → Member i a → Member i (bit_or a b)
from_first a b i h = bit_at_or a b i ∙ omega (arith, bit_at-lt b i)

from_second : (a b i : ℕ) → Member i b → Member i (bit_or a b)
from_second a b i h = bit_at_or a b i ∙ omega (arith, bit_at-lt a i)

to_part : (a b : ℕ) → T (compartments.below a b) → Part a b
to_part a b h i k = subst (Member i) (eqb→eq (bit_or a b) b h) (from_first a b i k)

pub compartment_members : CompartmentMembers
compartment_members = record {
  below = λ a b. (to_part a b, from_part a b);
  join = λ a b i. (to_either a b i, ⊎_elim (from_first a b i) (from_second a b i));
  bottom = λ i h. omega (arith, bit_at-zero i);
  sixteen = λ a i l h. ⊎_elim (λ k. k) (λ k. absurd (omega (arith, bit_at_above a 16 i l k))) (cases_lt i 16);
}

pub compartments_lawful : ClassLaws compartments
compartments_lawful = record {
  reflexive = λ x. from_part x x (λ i h. h);
  transitive = λ x y z p q. from_part x z (λ i h. to_part y z q i (to_part x y p i h));
  antisymmetric = λ x y p q. sym (eqb→eq (bit_or y x) x q) ∙ or_comm y x ∙ eqb→eq (bit_or x y) y p;
  bottom_least = λ x. eqb_refl x;
  join_first = λ x y. from_part x (bit_or x y) (from_first x y);
  join_second = λ x y. from_part y (bit_or x y) (from_second x y);
  join_least = λ x y z p q. from_part (bit_or x y) z (λ i h. ⊎_elim (to_part x z p i) (to_part y z q i) (to_either x y i h));
}
