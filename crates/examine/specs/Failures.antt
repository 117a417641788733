-- Where something fails first.
use Rattle.std.specs.Prelude.{ℕ, ◌<◌, List, length, Option, All, HoldsAt, MatchOption}
use Rattle.std.specs.List.{AllWithin}

-- r is the place of the first element at which P fails, or none where P holds of all
abbrev pub FirstFailure : {A : Type 0} → (A → Type 0) → List A → Option ℕ → Type 0
FirstFailure P xs r =
    MatchOption r (All P xs) (λ i. (i < length xs) × HoldsAt (λ x. P x → ⊥) xs i × AllWithin P xs 0 i)
