-- The systems of this crate.
use Rattle.std.specs.Prelude.{◌≡◌, ℕ, ◌/◌, ◌%◌, ◌^◌, ◌<◌, max, cond, ◌&&◌, T, ◌⊎◌, ◌↔◌, Some, None, Option, ◌==◌, bit_or, nat_le}
use Rattle.std.specs.Int.{bit_at}
use Rattle.classes.specs.declared.pair.Both.{Both}
use Rattle.classes.specs.Classes.{Classes}

-- the ranks from 0 to the top, by their order as numbers
abbrev pub ranked : ℕ → Classes ℕ
ranked top = record {
  bottom = 0;
  join = max;
  below = nat_le;
  named = λ code. cond (nat_le code top) (Some code) None;
}

-- sets of numbers, each as the bits of one number: the join is the union, and a set is at or below those
-- to which it adds nothing
abbrev pub compartments : Classes ℕ
compartments = record {
  bottom = 0;
  join = bit_or;
  below = λ a b. (bit_or a b == b);
  named = λ code. Some code;
}

-- i is a member of the set a: bit i of a is 1
abbrev pub Member : ℕ → ℕ → Type 0
Member i a = bit_at a i ≡ 1

-- what compartments are by their members
pub record CompartmentMembers : Type 0 where
  -- a is at or below b exactly when every member of a is a member of b
  pub below : (a b : ℕ) → T (compartments.below a b) ↔ ((i : ℕ) → Member i a → Member i b)
  -- the members of a join are those of either part
  pub join : (a b i : ℕ) → Member i (compartments.join a b) ↔ (Member i a ⊎ Member i b)
  -- the bottom has no members
  pub bottom : (i : ℕ) → Member i compartments.bottom → ⊥
  -- a set in 16 bits has members below 16 alone
  pub sixteen : (a i : ℕ) → a < 2 ^ 16 → Member i a → i < 16

-- a class of each, where both codes name one
abbrev pub both_named : {X Y : Type 0} → Option X → Option Y → Option (Both X Y)
both_named (Some x) (Some y) = Some (record { first = x; second = y })
both_named (Some x) None = None
both_named None (Some y) = None
both_named None None = None

-- two systems as one, part by part; a code is the two codes of its bytes
abbrev pub paired : {X Y : Type 0} → Classes X → Classes Y → Classes (Both X Y)
paired m n = record {
  bottom = record { first = m.bottom; second = n.bottom };
  join = λ a b. record { first = m.join a.first b.first; second = n.join a.second b.second };
  below = λ a b. m.below a.first b.first && n.below a.second b.second;
  named = λ code. both_named (m.named (code / 256)) (n.named (code % 256));
}
