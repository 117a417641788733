use Rattle.classes.specs.Members.{compartment_members}
use Rattle.classes.proofs.laws.compartment_members.Goals as goal

pub returns : goal.returns
returns c = compartment_members
