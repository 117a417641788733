-- The loop over cells.
use Rattle.std.proofs.Common.{◌≡◌, ℕ, ◌+◌, ◌<◌, ◌≤◌, List, [], length, get_or, drop, Some, None, Option, sym, ap, ◌∙◌}
use Rattle.std.proofs.lemmas.List.{at_drop_more, at_drop_all}
use Rattle.syntax.specs.declared.cell.Cell.{Cell}
use Rattle.syntax.specs.Syntax.{NodeSyntax}
use Rattle.typing.specs.declared.part.Part.{Part}
use Rattle.typing.specs.Stack.{next, alone_part}
use Rattle.typing.specs.Parts.{part_step, part_run, alone_after}
use Rattle.typing.proofs.Images.{tree_image}

module _ (n : NodeSyntax) (cs : List Cell) where
  -- the cells that are left make of the stack what all make of none
  abbrev pub Running : ℕ → List Part → Type 0
  Running i ps = part_run n (drop i cs) ps ≡ part_run n cs []

  turn : (i : ℕ) (d : Cell) (ps : List Part) (o : Option (Unit {0} × List Part)) → i < length cs → part_step n (get_or cs i d) ps ≡ o → Running i ps
      → next o (λ u. part_run n (drop (i + 1) cs)) ≡ part_run n cs []
  unfolding part_run
  turn i d ps o l e h =
      ap (λ s. next s (λ u. part_run n (drop (i + 1) cs))) (sym e)
      ∙ sym (at_drop_more (λ xs. part_run n xs ps) cs i d l)
      ∙ h

  pub running_more : (i : ℕ) (d : Cell) (ps qs : List Part) → i < length cs → part_step n (get_or cs i d) ps ≡ Some (tt, qs) → Running i ps → Running (i + 1) qs
  running_more i d ps qs l e h = turn i d ps (Some (tt, qs)) l e h

  pub running_stops : (i : ℕ) (d : Cell) (ps : List Part) → i < length cs → part_step n (get_or cs i d) ps ≡ None → Running i ps → None ≡ alone_after (part_run n cs [])
  running_stops i d ps l e h = ap alone_after (turn i d ps None l e h)

  pub running_all : (i : ℕ) (ps : List Part) → length cs ≤ i → Running i ps → alone_part ps ≡ alone_after (part_run n cs [])
  unfolding part_run
  running_all i ps l h = ap alone_after (sym (at_drop_all (λ xs. part_run n xs ps) cs i l) ∙ h)

-- what the loop over the cells needs
pub ruleset runs = (running_more, running_stops, running_all, tree_image)
