use Rattle.flat.proofs.Answering.{one_answer}
use Rattle.flat.proofs.laws.one_answer.Goals as goal

pub returns : goal.returns
returns g c = one_answer (g.R.Reckoning.meaning c.args.reckoning.now)
