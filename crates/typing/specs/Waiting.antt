-- The list that a stack stands for.
use Rattle.std.specs.Prelude.{false, List, None, reverse}
use Rattle.typing.specs.declared.part.Part.{Part}
use Rattle.typing.specs.declared.waiting.Waiting.{Waiting}

-- what stands where no part waits
abbrev pub no_part : Part
no_part = record { control = false; kind = None; clock = None }

-- the parts that wait, the latest first
abbrev pub waiting_in : Waiting → List Part
waiting_in w = reverse w.parts.items
