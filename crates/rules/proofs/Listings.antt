-- The tree that is found cell by cell is the one that the cells list.
use Rattle.std.proofs.Common.{◌≡◌, ◌+◌, ◌≤◌, Bool, true, false, cond, leb, List, [], ◌∷◌, ◌++◌, length, Some, None, Option, sym, refl, ap, ◌∙◌, subst, append_assoc, append-nil, arith}
use Rattle.std.proofs.lemmas.Bool.{leb-true, le-leb}
use Rattle.syntax.specs.declared.cell.Cell.{Cell}
use Rattle.syntax.specs.declared.cell.Cell.TheVariants.{Flow, Truth, Number, Unary, Binary, When, Merge, If}
use Rattle.rules.specs.Trees.{Exp, Control, flow, truth, number, unary, binary, when, simple, merge, choose, exp_cells, control_cells, exp_waiting, control_waiting, Lists, tree_step, few_waiting, tree_run, alone, tree_of, TreesAreListed}

-- at least one value waits
exp_waits : (e : Exp) → 1 ≤ exp_waiting e
exp_waits (flow n) = omega arith
exp_waits (truth b) = omega arith
exp_waits (number z) = omega arith
exp_waits (unary o e) = exp_waits e
exp_waits (binary o a b) = omega (arith, exp_waits a)
exp_waits (when e n s) = exp_waits e

control_waits : (t : Control) → 1 ≤ control_waiting t
control_waits (simple e) = exp_waits e
control_waits (merge n a b) = omega (arith, control_waits a)
control_waits (choose c a b) = omega (arith, exp_waits c)

-- a cell after which few trees wait
run_more : (c : Cell) (cs : List Cell) (ts us : List Control) → tree_step c ts ≡ Some us → length us ≤ 8 → tree_run (c ∷ cs) ts ≡ tree_run cs us
unfolding tree_run
run_more c cs ts us e l =
    ap (λ o. few_waiting o (λ vs. tree_run cs vs)) e ∙ ap (λ b. cond b (tree_run cs us) None) (le-leb (length us) 8 l)

-- the cells of a tree leave just the tree
run_exp : (e : Exp) (cs : List Cell) (ts : List Control) → exp_waiting e + length ts ≤ 8 → tree_run (exp_cells e ++ cs) ts ≡ tree_run cs (simple e ∷ ts)
run_exp (flow n) cs ts l = run_more (Flow n) cs ts _ refl (omega arith)
run_exp (truth b) cs ts l = run_more (Truth b) cs ts _ refl (omega arith)
run_exp (number z) cs ts l = run_more (Number z) cs ts _ refl (omega arith)
run_exp (unary o e) cs ts l =
    simp append_assoc (run_exp e (Unary o ∷ cs) ts l ∙ run_more (Unary o) cs (simple e ∷ ts) _ refl (omega (arith, exp_waits e)))
run_exp (binary o a b) cs ts l =
    simp append_assoc
    (run_exp a (exp_cells b ++ (Binary o ∷ cs)) ts (omega arith)
    ∙ run_exp b (Binary o ∷ cs) (simple a ∷ ts) (omega arith)
    ∙ run_more (Binary o) cs (simple b ∷ simple a ∷ ts) _ refl (omega (arith, exp_waits a)))
run_exp (when e n s) cs ts l =
    simp append_assoc (run_exp e (When n s ∷ cs) ts l ∙ run_more (When n s) cs (simple e ∷ ts) _ refl (omega (arith, exp_waits e)))

run_control : (t : Control) (cs : List Cell) (ts : List Control) → control_waiting t + length ts ≤ 8 → tree_run (control_cells t ++ cs) ts ≡ tree_run cs (t ∷ ts)
run_control (simple e) cs ts l = run_exp e cs ts l
run_control (merge n a b) cs ts l =
    simp append_assoc
    (run_control a (control_cells b ++ (Merge n ∷ cs)) ts (omega arith)
    ∙ run_control b (Merge n ∷ cs) (a ∷ ts) (omega arith)
    ∙ run_more (Merge n) cs (b ∷ a ∷ ts) _ refl (omega (arith, control_waits a)))
run_control (choose c a b) cs ts l =
    simp append_assoc
    (run_exp c (control_cells a ++ (control_cells b ++ (If ∷ cs))) ts (omega arith)
    ∙ run_control a (control_cells b ++ (If ∷ cs)) (simple c ∷ ts) (omega arith)
    ∙ run_control b (If ∷ cs) (a ∷ simple c ∷ ts) (omega arith)
    ∙ run_more If cs (b ∷ a ∷ simple c ∷ ts) _ refl (omega (arith, exp_waits c)))

finds_listed : (cells : List Cell) (t : Control) → Lists cells t → tree_of cells ≡ Some t
unfolding tree_of tree_run
finds_listed cells t h =
    ap (λ xs. alone (tree_run xs [])) (sym h.listed ∙ sym (append-nil (control_cells t)))
    ∙ ap alone (run_control t [] [] (omega (arith, h.few)))

-- the cells that list what waits, the latest last; and at most 8 values waited for each of the trees
abbrev stack_cells : List Control → List Cell
stack_cells [] = []
stack_cells (t ∷ ts) = stack_cells ts ++ control_cells t

abbrev StackFew : List Control → Type 0
StackFew [] = Unit {0}
StackFew (t ∷ ts) = (control_waiting t + length ts ≤ 8) × StackFew ts

-- what waits lists the cells so far
pub record Waits (cells : List Cell) (ts us : List Control) : Type 0 where
  pub listed : stack_cells us ≡ stack_cells ts ++ cells
  pub few : length us ≤ 8 → StackFew ts → StackFew us

abbrev Stepped : List Cell → List Control → Option (List Control) → Type 0
Stepped cells ts None = Unit {0}
Stepped cells ts (Some us) = Waits cells ts us

step_one : (c : Cell) (f : Exp → Exp) (g : (e : Exp) → exp_cells (f e) ≡ exp_cells e ++ (c ∷ [])) (h : (e : Exp) → exp_waiting (f e) ≡ exp_waiting e) (e : Exp) (ts : List Control) → Waits (c ∷ []) (simple e ∷ ts) (simple (f e) ∷ ts)
step_one c f g h e ts = record {
  listed = ap (λ xs. stack_cells ts ++ xs) (g e) ∙ sym (append_assoc (stack_cells ts) (exp_cells e) (c ∷ []));
  few = λ l s. (omega (arith, s.0, h e), s.1);
}

steps : (c : Cell) (ts : List Control) → Stepped (c ∷ []) ts (tree_step c ts)
steps (Flow n) ts = record { listed = refl; few = λ l s. (omega arith, s) }
steps (Truth b) ts = record { listed = refl; few = λ l s. (omega arith, s) }
steps (Number z) ts = record { listed = refl; few = λ l s. (omega arith, s) }
steps (Unary o) [] = tt
steps (Unary o) (simple e ∷ ts) = step_one (Unary o) (unary o) (λ e. refl) (λ e. refl) e ts
steps (Unary o) (merge n a b ∷ ts) = tt
steps (Unary o) (choose c a b ∷ ts) = tt
steps (Binary o) [] = tt
steps (Binary o) (b ∷ []) = tt
steps (Binary o) (simple b ∷ simple a ∷ ts) = record {
  listed = simp append_assoc;
  few = λ l s. (omega (arith, s.0, s.1.0), s.1.1);
}
steps (Binary o) (merge n c d ∷ simple a ∷ ts) = tt
steps (Binary o) (choose n c d ∷ simple a ∷ ts) = tt
steps (Binary o) (b ∷ merge n c d ∷ ts) = tt
steps (Binary o) (b ∷ choose n c d ∷ ts) = tt
steps (When n s) [] = tt
steps (When n s) (simple e ∷ ts) = step_one (When n s) (λ x. when x n s) (λ e. refl) (λ e. refl) e ts
steps (When n s) (merge m a b ∷ ts) = tt
steps (When n s) (choose c a b ∷ ts) = tt
steps (Merge n) [] = tt
steps (Merge n) (b ∷ []) = tt
steps (Merge n) (b ∷ a ∷ ts) = record {
  listed = simp append_assoc;
  few = λ l s. (omega (arith, s.0, s.1.0), s.1.1);
}
steps If [] = tt
steps If (b ∷ []) = tt
steps If (b ∷ a ∷ []) = tt
steps If (b ∷ a ∷ simple c ∷ ts) = record {
  listed = simp append_assoc;
  few = λ l s. (omega (arith, s.0, s.1.0, s.1.1.0), s.1.1.1);
}
steps If (b ∷ a ∷ merge n c d ∷ ts) = tt
steps If (b ∷ a ∷ choose n c d ∷ ts) = tt

-- and so for a run
abbrev Ran : List Cell → List Control → Option (List Control) → Type 0
Ran cells ts None = Unit {0}
Ran cells ts (Some us) = (stack_cells us ≡ stack_cells ts ++ cells) × StackFew us

ran_first : (c : Cell) (cs : List Cell) (ts us : List Control) → Waits (c ∷ []) ts us → (o : Option (List Control)) → Ran cs us o → Ran (c ∷ cs) ts o
ran_first c cs ts us w None r = tt
ran_first c cs ts us w (Some vs) r =
    (r.0 ∙ ap (λ xs. xs ++ cs) w.listed ∙ append_assoc (stack_cells ts) (c ∷ []) cs, r.1)

ran_step : (c : Cell) (cs : List Cell) (rec : (us : List Control) → StackFew us → Ran cs us (tree_run cs us)) (ts : List Control) → StackFew ts → (o : Option (List Control)) → Stepped (c ∷ []) ts o → Ran (c ∷ cs) ts (few_waiting o (λ us. tree_run cs us))
ran_step c cs rec ts s None w = tt
ran_step c cs rec ts s (Some us) w = go (leb (length us) 8) refl
  where
    go : (b : Bool) → leb (length us) 8 ≡ b → Ran (c ∷ cs) ts (cond b (tree_run cs us) None)
    go true e = ran_first c cs ts us w (tree_run cs us) (rec us (w.few (leb-true (length us) 8 e) s))
    go false e = tt

ran : (cells : List Cell) (ts : List Control) → StackFew ts → Ran cells ts (tree_run cells ts)
unfolding tree_run
ran [] ts s = (sym (append-nil (stack_cells ts)), s)
ran (c ∷ cs) ts s = ran_step c cs (ran cs) ts s (tree_step c ts) (steps c ts)

alone_listed : (cells : List Cell) (o : Option (List Control)) → Ran cells [] o → (t : Control) → alone o ≡ Some t → Lists cells t
alone_listed cells None r t e = cc
alone_listed cells (Some []) r t e = cc
alone_listed cells (Some (u ∷ [])) r t e =
    let same : u ≡ t = cc in
    subst (Lists cells) same (record { listed = r.0; few = omega (arith, r.1.0) })
alone_listed cells (Some (u ∷ v ∷ ts)) r t e = cc

found_listed : (cells : List Cell) (t : Control) → tree_of cells ≡ Some t → Lists cells t
unfolding tree_of
found_listed cells t e = alone_listed cells (tree_run cells []) (ran cells [] tt) t e

pub trees_are_listed : TreesAreListed
trees_are_listed = record { found = found_listed; finds = finds_listed }
