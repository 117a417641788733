use Rattle.flat.proofs.Reach.{marked}
use Rattle.flat.proofs.laws.reaching_is_decided.Goals as goal

pub returns : goal.returns
returns c = marked
