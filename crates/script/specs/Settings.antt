-- A setting put into what a hall is made with.
use Rattle.script.specs.declared.command.Setting.{Setting}
use Rattle.script.specs.declared.command.Setting.TheVariants.{System, Numbers, Tables}
use Rattle.script.specs.declared.settings.Settings.{Settings}

abbrev pub with_setting : Settings → Setting → Settings
with_setting s (System x) = record { system = x; numbers = s.numbers; tables = s.tables }
with_setting s (Numbers x) = record { system = s.system; numbers = x; tables = s.tables }
with_setting s (Tables x) = record { system = s.system; numbers = s.numbers; tables = x }
