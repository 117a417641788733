use Rattle.std.proofs.Common.{◌<◌, [], ◌∷◌, ◌++◌, get_or, length, sym, ap, ◌∙◌, arith}
use Rattle.std.proofs.lemmas.List.{get_or-map}
use Rattle.syntax.specs.Syntax.{NodeSyntax}
use Rattle.layout.specs.Layout.{node_in}
use Rattle.rules.specs.Names.{no_node}
use Rattle.rules.specs.Size.{equations_size}
use Rattle.rules.specs.Views.{block_of}
use Rattle.checks.specs.Sizes.{capped_size}
use Rattle.checks.proofs.Places.{nodes_of}
use Rattle.checks.proofs.Sizing.{sizes_none, sizes_many, sizes_more, sizes_all}
use Rattle.checks.proofs.size.sizes_of.Goals as goal

pub loop-node-init : goal.loop-node-init
loop-node-init c = c.new-sizes.ensures ∙ sym (sizes_none (block_of c.args.block.now.view))

pub push-requires : goal.push-requires
push-requires c =
    let v = c.args.block.now.view in
    let k = c.loop-node.node-index in
    let many = ap (λ xs. length xs) c.loop-node.invariant ∙ sizes_many (block_of v) k (omega (arith, nodes_of v, c.loop-node-test.true)) in
    (omega arith, omega (arith, many, c.args.block.now.few, c.loop-node-test.true))

pub loop-node-preserved : goal.loop-node-preserved
unfolding block_of
loop-node-preserved c =
    let v = c.args.block.now.view in
    let b = block_of v in
    let k = c.loop-node.node-index in
    let r = c.node_size-size.result in
    let within : k < length b = omega (arith, nodes_of v, c.loop-node-test.true) in
    let read = c.view_of.ensures ∙ ap (node_in v.cells.now) c.node-item.is ∙ sym (get_or-map (node_in v.cells.now) v.nodes.now k _ no_node c.loop-node-test.true) in
    let size =
    c.node_size-size.ensures
    ∙ ap (λ (n : NodeSyntax). capped_size (equations_size b c.deref.result.now n.equations)) read
    ∙ ap (λ known. capped_size (equations_size b known (get_or b k no_node).equations)) (c.deref.ensures.0 ∙ c.loop-node.invariant) in
    c.push.ensures ∙ ap (λ xs. xs ++ (r ∷ [])) c.loop-node.invariant ∙ sizes_more b k r within size

pub returns : goal.returns
returns c =
    let v = c.args.block.now.view in
    c.loop-node.invariant ∙ sizes_all (block_of v) c.loop-node.node-index (omega (arith, nodes_of v, c.loop-node-test.false))
