use Rattle.rules.proofs.Firsts.{examined_once}
use Rattle.rules.proofs.laws.examined_once.Goals as goal

pub returns : goal.returns
returns c = examined_once
