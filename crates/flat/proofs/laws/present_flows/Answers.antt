use Rattle.flat.proofs.Presence.{present_flows}
use Rattle.flat.proofs.laws.present_flows.Goals as goal

pub returns : goal.returns
returns g c = present_flows (g.R.Reckoning.meaning c.args.reckoning.now)
