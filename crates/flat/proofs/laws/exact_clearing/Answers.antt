use Rattle.flat.proofs.Leasts.{exact_clearing}
use Rattle.flat.proofs.laws.exact_clearing.Goals as goal

pub returns : goal.returns
returns g c = exact_clearing (g.met.S.ClassSystem.lawful c.args.system.now)
