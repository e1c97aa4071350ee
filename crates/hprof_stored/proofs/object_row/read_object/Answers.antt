use Rattle.std.proofs.Common.{[], ◌∙◌, arith}
use Rattle.hprof_stored.proofs.ObjectSpelling.{all_bytes, as_long, sub_fits}
use Rattle.hprof_stored.proofs.object_row.read_object.Goals as goal

pub returns-else-end-bytes-clause-none : goal.returns-else-end-bytes-clause-none
returns-else-end-bytes-clause-none c = λ other spelled spells.
    let ids = c.args.ids in
    let bytes = c.args.bytes.now in
    let long = as_long ids bytes spelled spells in
    let read = c.in-Ok-read_sub_into.ensures.only spelled [] (sub_fits ids bytes spelled spells) (all_bytes ids bytes spelled spells)
    (omega (arith, long, c.in-Ok.ensures)) (omega (arith, long, c.in-Ok.ensures)) in
    c.if-end-bytes.false (read.1 ∙ long)
