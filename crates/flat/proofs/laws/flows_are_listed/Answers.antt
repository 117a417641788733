use Rattle.flat.proofs.Listed.{flows_are_listed}
use Rattle.flat.proofs.laws.flows_are_listed.Goals as goal

pub returns : goal.returns
returns c = flows_are_listed
