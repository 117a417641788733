use Rattle.flat.proofs.Answering.{histories_grow}
use Rattle.flat.proofs.laws.histories_grow.Goals as goal

pub returns : goal.returns
returns g c = histories_grow (g.R.Reckoning.meaning c.args.reckoning.now)
