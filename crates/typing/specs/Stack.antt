-- A stack of parts, as a list with the latest first.
use Rattle.std.specs.Prelude.{◌≡◌, cond, List, [], ◌∷◌, length, Some, None, Option, nat_lt}
use Rattle.typing.specs.declared.part.Part.{Part}

-- what is done with a stack: a result and the stack after, or a refusal
abbrev pub Step : Type 0 → Type 0
Step A = List Part → Option (A × List Part)

-- one after another
abbrev pub next : {A B : Type 0} → Option (A × List Part) → (A → Step B) → Option (B × List Part)
next None k = None
next (Some r) k = k r.0 r.1

-- the same for `do`
abbrev pub ◌>>=◌ : {A B : Type 0} → Step A → (A → Step B) → Step B
◌>>=◌ s k ps = next (s ps) k

-- a call that did as a step says: what it returned, and the stack after it
abbrev pub Gives : {A : Type 0} → Option (A × List Part) → Option A → List Part → Type 0
Gives s (Some v) after = s ≡ Some (v, after)
Gives s None after = s ≡ None

-- a part more, where at most 8 then wait
abbrev pub push : Part → Step (Unit {0})
push p ps = cond (nat_lt (length ps) 8) (Some (tt, p ∷ ps)) None

-- the latest part
abbrev pub take_part : Step Part
take_part [] = None
take_part (p ∷ ps) = Some (p, ps)

-- a part that is no merge and no if
abbrev pub only_plain : Part → Step Part
only_plain p ps = cond p.control None (Some (p, ps))

-- the latest part, where it is plain
abbrev pub take_plain : Step Part
take_plain = do
  p ← take_part
  only_plain p

-- the only part
abbrev pub alone_part : List Part → Option Part
alone_part [] = None
alone_part (p ∷ []) = Some p
alone_part (p ∷ q ∷ ps) = None
