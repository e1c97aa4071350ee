use Rattle.std.proofs.Common.{◌≡◌, ◌++◌, ◌∙◌, List, [], sym, ap, append-nil}
use Rattle.std.proofs.lemmas.Result.{on_ok_weaker}
use Rattle.hprof_heap.specs.HeapFacts.{facts_of, size_of}
use Rattle.hprof_layouts.specs.declared.field_value.FieldValue.{FieldValue}
use Rattle.hprof_layouts.specs.Fields.{fields_value}
use Rattle.hprof_layouts.proofs.FieldAnswers.{fields_once}
use Rattle.hprof_threads.specs.ThreadNames.{values_of}
use Rattle.hprof_threads.proofs.NameAnswers.{no_values}
use Rattle.hprof_show.specs.Shown.{field_referents}
use Rattle.hprof_show.proofs.shown.push_fields.Goals as goal

pub returns-in-Values : goal.returns-in-Values
returns-in-Values c = λ shown are.
    let found = c.in_ok-values.field-0 in
    let old = c.args.ids.now.items in
    let same = fields_once (size_of c.args.heap.now) (facts_of c.args.heap.now) c.args.id shown (fields_value found)
    c.holds_of_heap.ensures.agree are c.in_ok-values.ensures in
    let values : values_of shown ≡ c.in-Values.values.items =
    ap values_of (same ∙ ap fields_value c.in-Values.is) in
    on_ok_weaker c.push_values.result
    (λ pushed. pushed ∙ ap (λ (l : List FieldValue). old ++ field_referents l) (c.deref.ensures.value ∙ sym values)) c.push_values.ensures

pub returns-in_default : goal.returns-in_default
returns-in_default c = λ shown are.
    let found = c.in_ok-values.field-0 in
    let old = c.args.ids.now.items in
    let same = fields_once (size_of c.args.heap.now) (facts_of c.args.heap.now) c.args.id shown (fields_value found)
    c.holds_of_heap.ensures.agree are c.in_ok-values.ensures in
    let none : values_of shown ≡ [] = ap values_of same ∙ no_values found c.in_default.not-Values in
    sym (ap (λ (l : List FieldValue). old ++ field_referents l) none ∙ append-nil old)
