-- What parts of an expression have in common.
use Rattle.std.specs.Prelude.{Bool, cond, Some, None, Option}
use Rattle.std.specs.Option.{option_eq}

-- there is one, and it is this one
abbrev pub is_this : {A : Type 0} → (A → A → Bool) → Option A → A → Bool
is_this same a x = option_eq same a (Some x)

-- what both have, where they have one
abbrev pub shared : {A : Type 0} → (A → A → Bool) → Option A → Option A → Option A
shared same a b = cond (option_eq same a b) b None

-- what there is, where a test holds
abbrev pub where_true : {A : Type 0} → Bool → Option A → Option A
where_true t a = cond t a None
