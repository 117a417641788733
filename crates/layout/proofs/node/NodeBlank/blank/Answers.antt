use Rattle.std.proofs.Common.{refl}
use Rattle.layout.specs.Blanks.{blank_node}
use Rattle.layout.proofs.node.NodeBlank.blank.Goals as goal

pub returns : goal.returns
unfolding blank_node
returns c = refl
