use Rattle.bits.proofs.SetBits.{bits_overwritten}
use Rattle.bits.proofs.writing.bits_are_overwritten.Goals as goal

pub returns : goal.returns
returns c = bits_overwritten
