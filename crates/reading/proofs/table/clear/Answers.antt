use Rattle.std.proofs.Common.{◌<◌, ◌≤◌, ◌∙◌, ⊎_elim}
use Rattle.std.proofs.lemmas.Bool.{cases_lt}
use Rattle.reading.proofs.Loading.{holds_none}
use Rattle.reading.proofs.table.clear.Goals as goal

pub returns-clause-blank : goal.returns-clause-blank
returns-clause-blank c =
    let t = c.args.table.now in
    let e = c.clear-2.ensures in
    holds_none _ c.clear.ensures e.used (λ i.
    ⊎_elim
    (λ (h : i < t.store.used). e.cells i h)
    (λ (h : t.store.used ≤ i). e.past i h ∙ c.requires i h)
    (cases_lt i t.store.used))
