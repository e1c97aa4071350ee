use Rattle.std.proofs.Common.{Err, ap, sym, ◌∙◌}
use Rattle.std.proofs.lemmas.Result.{err_from_is_err_and}
use Rattle.hprof_values.specs.BoundedBytes.{bounds_of}
use Rattle.hprof_items.proofs.Dumps.{sub_stops}
use Rattle.hprof_items.proofs.sub_reading.read_item.Goals as goal

pub returns-in_err-tag-clause-fact : goal.returns-in_err-tag-clause-fact
returns-in_err-tag-clause-fact c =
    let item = c.args.item.now in
    let p = err_from_is_err_and c.from_residual.result c.from_residual.ensures.1 in
    let stops = sub_stops c.args.ids (bounds_of item) item.bytes.now c.in_err-tag.field-0.0 (sym c.read_tag.ensures ∙ c.in_err-tag.was) in
    rw p.1 (stops ∙ ap Err (sym p.2))
