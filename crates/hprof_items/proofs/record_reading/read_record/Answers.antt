use Rattle.std.proofs.Common.{◌≡◌, List, ℕ, length, true, Result, Ok, Err, ap, ◌∙◌, arith}
use Rattle.std.specs.Prelude.{OnOk, IsOkAnd, MatchResult}
use Rattle.hprof_values.specs.declared.ids.IdSize.{IdSize}
use Rattle.hprof_values.specs.declared.reason.Reason.{Reason}
use Rattle.hprof_values.specs.declared.record_tag.RecordTag.{RecordTag}
use Rattle.hprof_values.specs.Ids.{IsBytes}
use Rattle.hprof_items.specs.FactValue.{FactValue, value_of}
use Rattle.hprof_items.specs.RecordBody.{is_legal_body, record_body, record_at, BodyFits}
use Rattle.hprof_items.proofs.RecordBodies.{given, never_faulty, record_again, record_found}
use Rattle.hprof_items.proofs.record_reading.read_record.Goals as goal

module _ (ids : IdSize) (tag : RecordTag) (body : List ℕ) (fact : FactValue) where
  -- which fact it is, or which fault
  abbrev pub IsRead : Result (Unit {0}) Reason → Type 0
  IsRead result = MatchResult result (λ _. record_at ids tag body ≡ Ok fact) (λ reason. record_at ids tag body ≡ Err reason)

  found_of : (result : Result (Unit {0}) Reason) → IsBytes body → is_legal_body ids tag (length body) ≡ true → IsRead result
      → OnOk result (BodyFits ids tag fact × (body ≡ record_body ids tag fact))
  found_of (Ok done) are legal read = record_found ids tag body fact are legal read
  found_of (Err reason) are legal read = tt

  -- where one fact is read, that is the answer
  only_of : (result : Result (Unit {0}) Reason) (spelled : FactValue) → record_at ids tag body ≡ Ok spelled → IsRead result
      → IsOkAnd result (λ _. fact ≡ spelled)
  only_of (Ok done) spelled again read = given fact spelled (record_at ids tag body) read again
  only_of (Err reason) spelled again read = never_faulty spelled reason (record_at ids tag body) again read

pub returns-clause-found : goal.returns-clause-found
returns-clause-found c =
    found_of c.args.ids c.args.tag c.args.body.now (value_of c.fact_in.new.fact) c.fact_in.result (λ i.
    omega (arith, c.type_inv.body i)) c.requires c.fact_in.ensures.exact

pub returns-clause-only : goal.returns-clause-only
returns-clause-only c = λ spelled fits e.
    only_of c.args.ids c.args.tag c.args.body.now (value_of c.fact_in.new.fact) c.fact_in.result spelled
    (ap (record_at c.args.ids c.args.tag) e ∙ record_again c.args.ids c.args.tag spelled fits) c.fact_in.ensures.exact
