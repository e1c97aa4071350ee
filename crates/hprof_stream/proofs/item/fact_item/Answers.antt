use Rattle.std.proofs.Common.{ℕ, ◌+◌, ltb, length, take, drop, Result, ap, ◌∙◌, arith, Err}
use Rattle.std.proofs.lemmas.Bool.{cond-false, le-ltb}
use Rattle.hprof_values.specs.declared.reason.Reason.{Reason}
use Rattle.hprof_values.specs.declared.parse_stop.ParseStop.TheVariants.{Short}
use Rattle.hprof_items.specs.FactValue.{FactValue}
use Rattle.hprof_items.specs.Reading.{body_at}
use Rattle.hprof_stream.specs.Item.{found_fact}
use Rattle.hprof_stream.proofs.item.fact_item.Goals as goal

pub returns-in-Ok-clause-found : goal.returns-in-Ok-clause-found
returns-in-Ok-clause-found c =
    let bytes = c.args.bytes.now in
    let head = c.args.head.now in
    let header = c.args.header.now in
    let read : Result FactValue Reason = body_at header.ids head.tag (take head.length (drop 9 bytes)) in
    cond-false (ltb (length bytes) (9 + head.length)) (Err Short) (found_fact header read (9 + head.length)) (le-ltb _ _ (omega arith))
    ∙ ap (λ (r : Result FactValue Reason). found_fact header r (9 + head.length))
    (ap (λ (n : ℕ). body_at header.ids head.tag (take n (drop 9 bytes))) (omega arith) ∙ c.in-Ok.ensures.exact)
