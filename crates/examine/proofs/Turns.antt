-- Turns of the loops over equations, nodes and checks.
use Rattle.std.proofs.Common.{◌≡◌, ℕ, zero, suc, ◌+◌, ◌<◌, ◌≤◌, Bool, true, false, ◌∷◌, ◌++◌, length, get_or, drop, Some, None, Ok, Err, Decides, Option, sym, refl, ap, ◌∙◌, subst, arith}
use Rattle.std.proofs.lemmas.List.{get_or-map, length-map, at_drop_more, at_drop_all}
use Rattle.std.proofs.lemmas.Bool.Decides.{not_from_Decides}
use Rattle.syntax.specs.Syntax.{BlockSyntax}
use Rattle.std.specs.List.{flat_map}
use Rattle.layout.specs.declared.node.Equation.{Equation}
use Rattle.layout.specs.declared.node.Form.TheVariants.{Plain}
use Rattle.layout.specs.Layout.{equation_in}
use Rattle.rules.specs.declared.fault.Check.{Check}
use Rattle.rules.specs.declared.fault.Place.{Place}
use Rattle.rules.specs.declared.view.BlockView.{BlockView}
use Rattle.rules.specs.declared.view.NodeView.{NodeView}
use Rattle.checks.specs.declared.place.NodeInBlock.{NodeInBlock}
use Rattle.rules.specs.declared.fault.ExamineFault.{ExamineFault}
use Rattle.rules.specs.Faults.{fault_at}
use Rattle.rules.specs.Names.{node_at, equation_at, no_equation, no_node}
use Rattle.rules.specs.Views.{block_of, node_of}
use Rattle.rules.specs.Examined.{First, Holds, NodeHolds, EquationHolds, Examined, Question, none, fails, holds, equation_places, node_places, places_from, places, questions_of, questions, checks}
use Rattle.examine.specs.Failures.{FirstFailure}
use Rattle.std.specs.Option.{option_map}
use Rattle.rules.proofs.Firsts.{Left, left_after, left_before, first_map}

-- equation i of node k, and node k as a whole
abbrev pub at_equation : ℕ → ℕ → Place
at_equation k i = record { node = k; equation = Some i }

abbrev pub at_node : ℕ → Place
at_node k = record { node = k; equation = None }

module _ (P : Place → Type 0) (k : ℕ) where
  none_fails : (i len : ℕ) → ((j : ℕ) → i ≤ j → j < i + len → P (at_equation k j)) → First P (equation_places k i len) None
  unfolding equation_places
  none_fails i zero h = none
  none_fails i (suc len) h =
      holds (h i (omega arith) (omega arith)) (none_fails (i + 1) len (λ j l u. h j (omega arith) (omega arith)))

  one_fails : (i len m : ℕ) → m < len → ((j : ℕ) → i ≤ j → j < i + m → P (at_equation k j)) → (P (at_equation k (i + m)) → ⊥) → First P (equation_places k i len) (Some (at_equation k (i + m)))
  unfolding equation_places
  one_fails i zero m l h f = absurd (omega arith)
  one_fails i (suc len) zero l h f =
      let here : i + 0 ≡ i = omega arith in
      subst (λ j. First P (at_equation k i ∷ equation_places k (i + 1) len) (Some (at_equation k j))) (sym here) (fails (subst (λ j. P (at_equation k j) → ⊥) here f))
  one_fails i (suc len) (suc m) l h f =
      let on : i + 1 + m ≡ i + suc m = omega arith in
      holds (h i (omega arith) (omega arith))
      (subst (λ j. First P (equation_places k (i + 1) len) (Some (at_equation k j))) on
      (one_fails (i + 1) len m (omega arith) (λ j g u. h j (omega arith) (omega arith)) (subst (λ j. P (at_equation k j) → ⊥) (sym on) f)))

blank_equation : Equation
blank_equation = record { clock = 0; form = Plain 0 record { from = 0; len = 0 } }

-- what a check asks of the row of an equation
abbrev pub RowHolds : BlockSyntax → Check → ℕ → NodeView → Equation → Type 0
RowHolds b c k v e = EquationHolds b c k (node_of v) (equation_in v.cells.now e)

module _ (b : BlockSyntax) (c : Check) (k : ℕ) (v : NodeView) (same : node_of v ≡ node_at b k) where
  abbrev row : ℕ → Equation
  row i = get_or v.equations.now i blank_equation

  equation_row : (i : ℕ) → i < length v.equations.now → equation_in v.cells.now (row i) ≡ equation_at (node_of v) i
  equation_row i l = sym (get_or-map (equation_in v.cells.now) v.equations.now i blank_equation no_equation l)

  -- what is asked of a row is asked of the equation at its place
  at_place : (i : ℕ) → i < length v.equations.now → RowHolds b c k v (row i) → Holds b c (at_equation k i)
  at_place i l h = subst (λ n. EquationHolds b c k n (equation_at n i)) same (subst (EquationHolds b c k (node_of v)) (equation_row i l) h)

  at_row : (i : ℕ) → i < length v.equations.now → Holds b c (at_equation k i) → RowHolds b c k v (row i)
  at_row i l h = subst (EquationHolds b c k (node_of v)) (sym (equation_row i l)) (subst (λ n. EquationHolds b c k n (equation_at n i)) (sym same) h)

  pub first_of_rows : (r : Option ℕ) → FirstFailure (RowHolds b c k v) v.equations.now r → First (Holds b c) (equation_places k 0 (length v.equations.now)) (option_map (at_equation k) r)
  first_of_rows None all = none_fails (Holds b c) k 0 (length v.equations.now) (λ j l u. at_place j (omega arith) (all j blank_equation (omega arith)))
  first_of_rows (Some i) (l, failed, held) =
      let here : 0 + i ≡ i = omega arith in
      subst (λ j. First (Holds b c) (equation_places k 0 (length v.equations.now)) (Some (at_equation k j))) here
      (one_fails (Holds b c) k 0 (length v.equations.now) i l
      (λ j g u. at_place j (omega arith) (held j blank_equation g (omega arith)))
      (λ h. failed blank_equation (at_row i l (subst (λ j. Holds b c (at_equation k j)) here h))))

-- node k of a block, at which a check was asked of the node as a whole
module _ (w : BlockView) (c : Check) (k : ℕ) (at : NodeInBlock) (made : record { block : at.block ≡ w; number : at.number ≡ k; node : node_of at.node ≡ node_at (block_of w) k }) (r : Bool) (d : Decides r (NodeHolds (block_of w) c k (node_of at.node))) where
  -- what is known of the block and number that are held is known of those that they are
  known : (P : BlockSyntax → ℕ → Type 0) → P (block_of at.block) at.number → P (block_of w) k
  known P h = subst (P (block_of w)) made.number (subst (λ x. P (block_of x) at.number) made.block h)

  node_asked : Decides r (Holds (block_of w) c (at_node k))
  node_asked = subst (λ n. Decides r (NodeHolds (block_of w) c k n)) made.node d

  pub node_stops : r ≡ false → First (Holds (block_of w) c) (node_places k (node_at (block_of w) k)) (Some (at_node k))
  node_stops failed = fails (not_from_Decides r node_asked failed)

  pub node_goes_on : r ≡ true → (o : Option ℕ) → FirstFailure (RowHolds (block_of at.block) c at.number at.node) at.node.equations.now o → First (Holds (block_of w) c) (node_places k (node_at (block_of w) k)) (option_map (at_equation k) o)
  node_goes_on passed o f =
      let v = at.node in
      let many = sym (length-map v.equations.now (equation_in v.cells.now)) ∙ ap (λ n. length n.equations) made.node in
      let found = first_of_rows (block_of w) c k v made.node o (known (λ b j. FirstFailure (RowHolds b c j v) v.equations.now o) f) in
      holds (node_asked.0 passed) (subst (λ n. First (Holds (block_of w) c) (equation_places k 0 n) (option_map (at_equation k) o)) many found)

module _ (b : BlockSyntax) (c : Check) where
  -- the nodes from k on decide for all of them
  abbrev pub NodesLeft : ℕ → Type 0
  NodesLeft k = Left (Holds b c) (places b) (places_from k (drop k b))

  nodes_turn : (k : ℕ) → k < length b → NodesLeft k → Left (Holds b c) (places b) (node_places k (node_at b k) ++ places_from (k + 1) (drop (k + 1) b))
  unfolding places_from
  nodes_turn k l w = subst (Left (Holds b c) (places b)) (at_drop_more (places_from k) b k no_node l) w

  pub nodes_more : (k : ℕ) → k < length b → NodesLeft k → First (Holds b c) (node_places k (node_at b k)) None → NodesLeft (k + 1)
  nodes_more k l w f = left_after (Holds b c) (places b) (node_places k (node_at b k)) (places_from (k + 1) (drop (k + 1) b)) (nodes_turn k l w) f

  pub nodes_stop : (k : ℕ) (p : Place) → k < length b → NodesLeft k → First (Holds b c) (node_places k (node_at b k)) (Some p) → First (Holds b c) (places b) (Some p)
  nodes_stop k p l w f = left_before (Holds b c) (places b) (node_places k (node_at b k)) (places_from (k + 1) (drop (k + 1) b)) p (nodes_turn k l w) f

  pub nodes_all : (k : ℕ) → length b ≤ k → NodesLeft k → First (Holds b c) (places b) None
  unfolding places_from
  nodes_all k l w = w None (subst (λ ps. First (Holds b c) ps None) (sym (at_drop_all (places_from k) b k l)) none)

module _ (b : BlockSyntax) where
  abbrev pub Asked : Question → Type 0
  Asked q = Holds b q.0 q.1

  -- the checks from i on decide for all of them
  abbrev pub ChecksLeft : ℕ → Type 0
  ChecksLeft i = Left Asked (questions b) (flat_map (questions_of (places b)) (drop i checks))

  module _ (i : ℕ) (d : Check) (l : i < length checks) (w : ChecksLeft i) where
    checks_turn : Left Asked (questions b) (questions_of (places b) (get_or checks i d) ++ flat_map (questions_of (places b)) (drop (i + 1) checks))
    checks_turn = subst (Left Asked (questions b)) (at_drop_more (flat_map (questions_of (places b))) checks i d l) w

    pub checks_more : First (Holds b (get_or checks i d)) (places b) None → ChecksLeft (i + 1)
    checks_more f =
        left_after Asked (questions b) (questions_of (places b) (get_or checks i d)) (flat_map (questions_of (places b)) (drop (i + 1) checks)) checks_turn (first_map (λ p. (get_or checks i d, p)) f)

    pub checks_stop : (p : Place) (e : ExamineFault) → First (Holds b (get_or checks i d)) (places b) (Some p) → e ≡ fault_at (get_or checks i d) p → Examined b (Err e)
    checks_stop p e f is = record {
      first = Some (get_or checks i d, p);
      is_first = left_before Asked (questions b) (questions_of (places b) (get_or checks i d)) (flat_map (questions_of (places b)) (drop (i + 1) checks)) (get_or checks i d, p) checks_turn (first_map (λ p. (get_or checks i d, p)) f);
      answers = ap Err is;
    }

  pub checks_all : (i : ℕ) → length checks ≤ i → ChecksLeft i → Examined b (Ok tt)
  checks_all i l w = record {
    first = None;
    is_first = w None (subst (λ qs. First Asked qs None) (sym (at_drop_all (flat_map (questions_of (places b))) checks i l)) none);
    answers = refl;
  }
