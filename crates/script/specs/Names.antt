-- The names of a listing.
use Rattle.std.specs.Prelude.{ℕ, ◌+◌, ◌-◌, cond, nat_lt}
use Rattle.layout.specs.declared.node.Node.{Node}
use Rattle.script.specs.declared.listing.names.Name.{Name}
use Rattle.script.specs.declared.listing.names.Name.TheVariants.{OfNode, Input, Output, Local, NoNode, NoFlow}

-- of node n, in a block of `count` nodes
abbrev pub node_name_in : ℕ → ℕ → Name
node_name_in count n = cond (nat_lt n count) (OfNode n) (NoNode n)

-- of flow n of a node
abbrev pub flow_name_in : Node → ℕ → Name
flow_name_in node n =
    cond (nat_lt n node.inputs) (Input n)
    (cond (nat_lt n (node.inputs + node.outputs)) (Output (n - node.inputs))
    (cond (nat_lt n (node.inputs + node.outputs + node.locals)) (Local (n - (node.inputs + node.outputs))) (NoFlow n)))
