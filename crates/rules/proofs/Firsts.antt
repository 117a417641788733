-- The first place where a predicate fails.
use Rattle.std.proofs.Common.{◌≡◌, List, ◌++◌, map, Some, None, Option, Result, sym, refl, ap, ◌∙◌}
use Rattle.std.specs.Option.{option_map}
use Rattle.rules.specs.declared.fault.ExamineFault.{ExamineFault}
use Rattle.syntax.specs.Syntax.{BlockSyntax}
use Rattle.rules.specs.Examined.{First, none, fails, holds, Examined, answer_of}

module _ {A : Type 0} {P : A → Type 0} where
  -- there is one
  pub first_once : {xs : List A} {r s : Option A} → First P xs r → First P xs s → r ≡ s
  first_once none none = refl
  first_once (fails h) (fails k) = refl
  first_once (fails h) (holds k more) = absurd (h k)
  first_once (holds h more) (fails k) = absurd (k h)
  first_once (holds h more) (holds k others) = first_once more others

  -- where it holds at all of a list, what comes after decides
  pub first_after : {xs ys : List A} {r : Option A} → First P xs None → First P ys r → First P (xs ++ ys) r
  first_after none k = k
  first_after (holds h more) k = holds h (first_after more k)

  -- where it fails in a list, what comes after does not count
  pub first_before : {xs : List A} (ys : List A) {x : A} → First P xs (Some x) → First P (xs ++ ys) (Some x)
  first_before ys (fails h) = fails h
  first_before ys (holds h more) = holds h (first_before ys more)

-- from turn to turn of a loop: what is left of a list decides for all of it
module _ {A : Type 0} (P : A → Type 0) (all : List A) where
  abbrev pub Left : List A → Type 0
  Left left = (r : Option A) → First P left r → First P all r

  pub left_after : (xs left : List A) → Left (xs ++ left) → First P xs None → Left left
  left_after xs left w h r f = w r (first_after h f)

  pub left_before : (xs left : List A) (x : A) → Left (xs ++ left) → First P xs (Some x) → First P all (Some x)
  left_before xs left x w h = w (Some x) (first_before left h)

-- a predicate of images
pub first_map : {A B : Type 0} {P : B → Type 0} (f : A → B) {xs : List A} {r : Option A} → First (λ x. P (f x)) xs r → First P (map f xs) (option_map f r)
first_map f none = none
first_map f (fails h) = fails h
first_map f (holds h more) = holds h (first_map f more)

pub examined_once : (b : BlockSyntax) (r s : Result (Unit {0}) ExamineFault) → Examined b r → Examined b s → r ≡ s
examined_once b r s e f = e.answers ∙ ap answer_of (first_once e.is_first f.is_first) ∙ sym f.answers
