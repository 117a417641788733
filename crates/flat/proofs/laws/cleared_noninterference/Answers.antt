use Rattle.flat.proofs.NoSecret.{cleared_noninterference}
use Rattle.flat.proofs.laws.cleared_noninterference.Goals as goal

pub returns : goal.returns
returns g c = cleared_noninterference (g.met.S.ClassSystem.lawful c.args.system.now) (g.R.Reckoning.meaning c.args.reckoning.now)
