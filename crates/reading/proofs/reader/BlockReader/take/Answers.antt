use Rattle.std.proofs.Common.{refl, arith}
use Rattle.reading.proofs.Takes.{taken_none, taken_some}
use Rattle.reading.proofs.reader.BlockReader.take.Goals as goal

pub returns-in_default-clause-takes : goal.returns-in_default-clause-takes
returns-in_default-clause-takes c = record {
  gives = taken_none c.args.width c.args.self.now.bytes.now c.args.self.now.at c.requires c.in_default.ensures;
  bytes = refl;
  on = omega arith;
  store = refl;
}

pub invariant_of-self : goal.invariant_of-self
invariant_of-self c =
    let r = c.args.self.now in
    let d = taken_some c.args.width r.bytes.now r.at c.requires c.in-Some.value c.in-Some.ensures in
    record { within = omega (arith, d, c.from.ensures); short = r.short; taken = omega (arith, r.taken); wide = r.wide }

pub returns : goal.returns
returns c =
    let d = taken_some c.args.width c.args.self.now.bytes.now c.args.self.now.at c.requires c.in-Some.value c.in-Some.ensures in
    record {
      takes = record { gives = rw c.from.ensures d.0; bytes = refl; on = omega arith; store = refl };
      bound = d.2;
      step = rw c.from.ensures;
    }
