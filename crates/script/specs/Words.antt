-- What a word of a line stands for.
use Rattle.std.specs.Prelude.{ℕ, cond, ◌&&◌, List, length, Ok, Err, Result, nat_le, nat_lt}
use Rattle.std.specs.Str.Parse.{digits_value}
use Rattle.std.specs.Str.{all_ascii_digits}
use Rattle.script.specs.declared.fault.LineFault.{LineFault}
use Rattle.script.specs.declared.fault.LineFault.TheVariants.{NotInRange}

-- the number that a word of digits writes, where it is at most `most`
abbrev pub number_in : List ℕ → ℕ → Result ℕ LineFault
number_in word most = cond (nat_lt 0 (length word) && (all_ascii_digits word && nat_le (digits_value 10 word) most)) (Ok (digits_value 10 word)) (Err (NotInRange most))
