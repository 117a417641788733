use Rattle.std.proofs.Common.{◌≡◌, ◌≤◌, length, replicate, ap, rules, ◌∙◌}
use Rattle.writing.proofs.Wholes.{block_of_rows, none_answer, none_bytes, some_fit, some_answer, some_bytes}
use Rattle.writing.proofs.table.write.Goals as goal

pub returns-then-is_empty-clause-answer : goal.returns-then-is_empty-clause-answer
returns-then-is_empty-clause-answer c =
    let long : 2048 ≤ length c.args.out.now = search rules in
    none_answer _ _ _ (block_of_rows c.args.table.now) c.if-is_empty.ensures c.args.out.now long

pub returns-then-is_empty-clause-bytes : goal.returns-then-is_empty-clause-bytes
returns-then-is_empty-clause-bytes c =
    let long : 2048 ≤ length c.args.out.now = search rules in
    let n : length c.in_ok-first.first.now ≡ 2048 = search rules in
    let z : c.fill.new.self ≡ replicate 2048 0 = c.fill.ensures.after (λ y h. h) ∙ ap (λ k. replicate k 0) n in
    rw z (none_bytes _ _ _ (block_of_rows c.args.table.now) c.if-is_empty.ensures c.args.out.now long)

pub write_fields-bits-requires : goal.write_fields-bits-requires
write_fields-bits-requires c = some_fit _ _ _ (block_of_rows c.args.table.now) c.if-is_empty.ensures c.requires

pub returns-clause-answer : goal.returns-clause-answer
returns-clause-answer c =
    let long : 2048 ≤ length c.args.out.now = search rules in
    rw (c.div_ceil.ensures, c.write_fields-bits.ensures.bits) (some_answer _ _ _ (block_of_rows c.args.table.now) c.if-is_empty.ensures c.requires c.args.out.now long)

pub returns-clause-bytes : goal.returns-clause-bytes
returns-clause-bytes c =
    let long : 2048 ≤ length c.args.out.now = search rules in
    let n : length c.in_ok-first.first.now ≡ 2048 = search rules in
    let z : c.fill.new.self ≡ replicate 2048 0 = c.fill.ensures.after (λ y h. h) ∙ ap (λ k. replicate k 0) n in
    rw (c.write_fields-bits.ensures.bytes, z) (some_bytes _ _ _ (block_of_rows c.args.table.now) c.if-is_empty.ensures c.requires c.args.out.now long)
