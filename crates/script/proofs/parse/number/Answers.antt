use Rattle.std.proofs.Common.{sym, ◌∙◌, arith}
use Rattle.std.proofs.lemmas.Bool.{false≢true}
use Rattle.std.proofs.lemmas.Str.Pattern.{starts_char}
use Rattle.script.proofs.Numbers.{number_read, number_refused}
use Rattle.script.proofs.parse.number.Goals as goal

pub returns-in-Ok : goal.returns-in-Ok
returns-in-Ok c =
    let sign = starts_char 43 c.args.word.now c.starts_with.result c.starts_with.ensures.cases (omega arith) (omega arith) in
    number_read c.args.word.now c.parse.result c.parse.ensures.value.0 c.in-Ok.n c.args.most (λ e. false≢true (sym c.if-not-starts_with.true ∙ sign.1 e)) c.in-Ok.is c.if-n-most.true

pub returns-in_default-3 : goal.returns-in_default-3
returns-in_default-3 c = number_refused c.args.word.now c.parse.result c.parse.ensures.value.0 _ c.args.most c.in_default.is (omega arith)
