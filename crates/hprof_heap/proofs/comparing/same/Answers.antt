use Rattle.std.proofs.Common.{◌≡◌, false, rules}
use Rattle.hprof_heap.specs.Heap.{rows_in}
use Rattle.hprof_rows.proofs.SameHeaps.{same_heap, records_same, subs_same}
use Rattle.hprof_heap.proofs.comparing.same.Goals as goal

pub returns-then-same_records : goal.returns-then-same_records
returns-then-same_records c =
    let one = rows_in c.args.one.now in
    let other = rows_in c.args.other.now in
    let ids : one.ids ≡ other.ids = search rules in
    let millis : one.millis ≡ other.millis = search rules in (
      λ yes. same_heap one other ids millis (c.same_records.ensures.0 c.if-same_records.true) (c.same_subs.ensures.0 yes),
      λ same. c.same_subs.ensures.1 (subs_same one other c.args.one.now.sound c.args.other.now.sound same),
    )

pub returns-else-same_records : goal.returns-else-same_records
returns-else-same_records c =
    let one = rows_in c.args.one.now in
    let other = rows_in c.args.other.now in (
      λ yes. let no : c.same_records.result ≡ false = c.if-same_records.false in absurd cc,
      λ same. c.same_records.ensures.1 (records_same one other c.args.one.now.sound c.args.other.now.sound same),
    )

pub returns-then-millis : goal.returns-then-millis
returns-then-millis c = search rules

pub returns-then-ne : goal.returns-then-ne
returns-then-ne c = search rules
