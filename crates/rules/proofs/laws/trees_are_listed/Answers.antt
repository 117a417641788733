use Rattle.rules.proofs.Listings.{trees_are_listed}
use Rattle.rules.proofs.laws.trees_are_listed.Goals as goal

pub returns : goal.returns
returns c = trees_are_listed
