-- Working with parts is working with the trees that they stand for.
use Rattle.std.proofs.Common.{◌≡◌, Bool, true, false, cond, ltb, leb, List, [], ◌∷◌, map, length, Some, None, Option, refl, ap, ◌∙◌}
use lib.ListN.{length-map}
use Rattle.std.specs.Option.{option_map}
use Rattle.syntax.specs.declared.cell.Cell.{Cell}
use Rattle.syntax.specs.declared.cell.Cell.TheVariants.{Flow, Truth, Number, Unary, Binary, When, Merge, If}
use Rattle.syntax.specs.Syntax.{NodeSyntax}
use Rattle.rules.specs.Trees.{Control, flow, truth, number, unary, binary, when, simple, merge, choose, tree_step, few_waiting, tree_run, alone, tree_of}
use Rattle.typing.specs.declared.part.Part.{Part}
use Rattle.typing.specs.Stack.{next, push}
use Rattle.typing.specs.Parts.{part_of, part_step, part_run, alone_after}

module _ (n : NodeSyntax) where
  -- what is left of parts where trees are left
  abbrev imaged : Option (List Control) → Option (Unit {0} × List Part)
  imaged None = None
  imaged (Some ts) = Some (tt, map (part_of n) ts)

  abbrev few : Option (List Control) → Option (List Control)
  few o = few_waiting o Some

  -- a tree is put onto others where at most 8 are then there
  pushed : (t : Control) (ts : List Control) → push (part_of n t) (map (part_of n) ts) ≡ imaged (few (Some (t ∷ ts)))
  pushed t ts = ap (λ k. cond (ltb k 8) (Some (tt, part_of n t ∷ map (part_of n) ts)) None) (length-map ts (part_of n)) ∙ either (ltb (length ts) 8)
    where
      either : (b : Bool) → cond b (Some (tt, part_of n t ∷ map (part_of n) ts)) None ≡ imaged (cond b (Some (t ∷ ts)) None)
      either true = refl
      either false = refl

  step_image : (c : Cell) (ts : List Control) → part_step n c (map (part_of n) ts) ≡ imaged (few (tree_step c ts))
  step_image (Flow x) ts = pushed (simple (flow x)) ts
  step_image (Truth b) ts = pushed (simple (truth b)) ts
  step_image (Number z) ts = pushed (simple (number z)) ts
  step_image (Unary o) [] = refl
  step_image (Unary o) (simple a ∷ ts) = pushed (simple (unary o a)) ts
  step_image (Unary o) (merge x a b ∷ ts) = refl
  step_image (Unary o) (choose c a b ∷ ts) = refl
  step_image (Binary o) [] = refl
  step_image (Binary o) (simple b ∷ []) = refl
  step_image (Binary o) (merge y c d ∷ []) = refl
  step_image (Binary o) (choose e c d ∷ []) = refl
  step_image (Binary o) (simple b ∷ simple a ∷ ts) = pushed (simple (binary o a b)) ts
  step_image (Binary o) (simple b ∷ merge x c d ∷ ts) = refl
  step_image (Binary o) (simple b ∷ choose e c d ∷ ts) = refl
  step_image (Binary o) (merge y c d ∷ simple a ∷ ts) = refl
  step_image (Binary o) (merge y c d ∷ merge x e f ∷ ts) = refl
  step_image (Binary o) (merge y c d ∷ choose g e f ∷ ts) = refl
  step_image (Binary o) (choose h c d ∷ simple a ∷ ts) = refl
  step_image (Binary o) (choose h c d ∷ merge x e f ∷ ts) = refl
  step_image (Binary o) (choose h c d ∷ choose g e f ∷ ts) = refl
  step_image (When x s) [] = refl
  step_image (When x s) (simple a ∷ ts) = pushed (simple (when a x s)) ts
  step_image (When x s) (merge y a b ∷ ts) = refl
  step_image (When x s) (choose c a b ∷ ts) = refl
  step_image (Merge x) [] = refl
  step_image (Merge x) (b ∷ []) = refl
  step_image (Merge x) (b ∷ a ∷ ts) = pushed (merge x a b) ts
  step_image If [] = refl
  step_image If (b ∷ []) = refl
  step_image If (b ∷ a ∷ []) = refl
  step_image If (b ∷ a ∷ simple c ∷ ts) = pushed (choose c a b) ts
  step_image If (b ∷ a ∷ merge x d e ∷ ts) = refl
  step_image If (b ∷ a ∷ choose f d e ∷ ts) = refl

  -- after one step, given how the others go
  onward : (cs : List Cell) (o : Option (List Control)) → ((us : List Control) → part_run n cs (map (part_of n) us) ≡ imaged (tree_run cs us))
      → next (imaged (few o)) (λ u. part_run n cs) ≡ imaged (few_waiting o (λ us. tree_run cs us))
  onward cs None rest = refl
  onward cs (Some us) rest = either (leb (length us) 8)
    where
      either : (b : Bool) → next (imaged (cond b (Some us) None)) (λ u. part_run n cs) ≡ imaged (cond b (tree_run cs us) None)
      either true = rest us
      either false = refl

  pub run_image : (cs : List Cell) (ts : List Control) → part_run n cs (map (part_of n) ts) ≡ imaged (tree_run cs ts)
  unfolding part_run tree_run
  run_image [] ts = refl
  run_image (c ∷ cs) ts = ap (λ o. next o (λ u. part_run n cs)) (step_image c ts) ∙ onward cs (tree_step c ts) (run_image cs)

  -- the part that is left alone is that of the tree that is left alone
  alone_image : (o : Option (List Control)) → alone_after (imaged o) ≡ option_map (part_of n) (alone o)
  alone_image None = refl
  alone_image (Some []) = refl
  alone_image (Some (t ∷ [])) = refl
  alone_image (Some (t ∷ u ∷ ts)) = refl

  pub tree_image : (cs : List Cell) → alone_after (part_run n cs []) ≡ option_map (part_of n) (tree_of cs)
  unfolding tree_of
  tree_image cs = ap alone_after (run_image cs []) ∙ alone_image (tree_run cs [])
