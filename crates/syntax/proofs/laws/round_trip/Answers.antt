use Rattle.syntax.proofs.Trips.{round_trip}
use Rattle.syntax.proofs.laws.round_trip.Goals as goal

pub returns : goal.returns
returns c = round_trip
