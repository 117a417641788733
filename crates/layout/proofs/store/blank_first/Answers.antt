use Rattle.std.proofs.Common.{◌≡◌, ℕ, ◌<◌, ◌≤◌, min, List, ◌++◌, length, get_or, take, drop, replicate, ◌∙◌, ⊎_elim, arith, length-append, length-drop}
use lib.ListN.{length-replicate}
use native.Mathlib.Nat.{min-le_left, min-le_right}
use Rattle.std.proofs.lemmas.Bool.{cases_lt}
use Rattle.std.proofs.lemmas.List.{get_or-replicate, get_or_past, get_or_append_left, length-take}
use Rattle.layout.proofs.store.blank_first.Goals as goal

-- with d over the first n elements, each of them is d, and so is what would stand past all
filled : {A : Type 0} (xs : List A) (d : A) (n i : ℕ) → i < n → get_or (replicate (length (take (min n (length xs)) xs)) d ++ drop (min n (length xs)) xs) i d ≡ d
filled xs d n i h =
    let k = min n (length xs) in
    let front = replicate (length (take k xs)) d in
    let l : length front ≡ k = simp (length-replicate, length-take) (omega (arith, min-le_left n (length xs), min-le_right n (length xs))) in
    ⊎_elim
    (λ (u : i < length xs). let w : i < k = omega arith in get_or_append_left front (drop k xs) d i (omega (arith, l)) ∙ get_or-replicate (length (take k xs)) i d d (omega (arith, l, length-replicate (length (take k xs)) d)))
    (λ (u : length xs ≤ i). get_or_past (front ++ drop k xs) i d (simp (length-append, length-drop) (omega (arith, l, min-le_right n (length xs)))))
    (cases_lt i (length xs))

pub returns-clause-first : goal.returns-clause-first
returns-clause-first c = λ i h. rw (c.fill.ensures.after (λ y e. e), c.min-end.ensures) (filled c.args.cells.now _ c.args.n i h)
