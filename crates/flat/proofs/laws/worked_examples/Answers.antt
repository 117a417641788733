use Rattle.flat.proofs.Instances.{worked_examples}
use Rattle.flat.proofs.laws.worked_examples.Goals as goal

pub returns : goal.returns
returns c = worked_examples
