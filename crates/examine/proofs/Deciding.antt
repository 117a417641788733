-- What is asked of the cycles of a node.
use Rattle.std.proofs.Common.{◌≡◌, ℕ, ◌<◌, Bool, length, get_or, Decides, sym, ◌∙◌, subst}
use Rattle.std.proofs.lemmas.List.{get_or-map}
use Rattle.syntax.specs.Syntax.{NodeSyntax}
use Rattle.layout.specs.declared.node.Node.{Node}
use Rattle.layout.specs.Layout.{node_in}
use Rattle.rules.specs.declared.fault.Check.{Check}
use Rattle.rules.specs.declared.fault.Check.TheVariants.{Cycles}
use Rattle.rules.specs.declared.view.BlockView.{BlockView}
use Rattle.rules.specs.Definitions.{NoCycle}
use Rattle.rules.specs.Examined.{NodeHolds}
use Rattle.rules.specs.Names.{node_at, no_node}
use Rattle.rules.specs.Views.{block_of}

-- asked of the row of node k, and of the node
pub cycle_decided : (v : BlockView) (k : ℕ) (n : NodeSyntax) (c : Check) (d : Node) (r : Bool) → k < length v.nodes.now → n ≡ node_at (block_of v) k → c ≡ Cycles → Decides r (NoCycle (node_in v.cells.now (get_or v.nodes.now k d))) → Decides r (NodeHolds (block_of v) c k n)
unfolding block_of
cycle_decided v k n c d r l e is h =
    subst (λ x. Decides r (NodeHolds (block_of v) x k n)) (sym is)
    (subst (λ m. Decides r (NoCycle m)) (sym (e ∙ get_or-map (node_in v.cells.now) v.nodes.now k d no_node l)) h)
