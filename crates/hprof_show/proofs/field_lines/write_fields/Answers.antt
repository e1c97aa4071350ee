use Rattle.std.proofs.Common.{◌≡◌, ◌++◌, ℕ, List, codes, sym, subst, refl}
use Rattle.std.proofs.lemmas.Result.{err_from_is_err_and}
use Rattle.hprof_layouts.specs.declared.field_value.FieldValue.{FieldValue}
use Rattle.hprof_layouts.specs.declared.field_value.Fields.{Fields}
use Rattle.hprof_layouts.specs.declared.field_value.Fields.TheVariants as variants
use Rattle.hprof_layouts.specs.Fields.{AreFields, FieldsValue, Values, fields_value}
use Rattle.hprof_layouts.proofs.FieldAnswers.{fields_once}
use Rattle.hprof_heap.specs.HeapFacts.{facts_of, size_of}
use Rattle.hprof_reports.specs.ObjectText.{why_no_fields}
use Rattle.hprof_lines.specs.Stopping.{WritesText}
use Rattle.hprof_lines.proofs.TextWriting.{text_stops, text_then}
use Rattle.hprof_describe.specs.Findings.{Findings}
use Rattle.hprof_show.specs.FieldLines.{fields_from, fields_text}
use Rattle.hprof_show.proofs.field_lines.write_fields.Goals as goal

pub returns-in-Values-clause-bytes : goal.returns-in-Values-clause-bytes
returns-in-Values-clause-bytes g c = λ found shown is are.
    let ids = size_of c.args.heap.now in
    let facts = facts_of c.args.heap.now in
    let there = subst (λ (why : Fields). AreFields ids facts c.args.object (fields_value why)) c.in-Values.is c.in_ok-why.ensures in
    let same = fields_once ids facts c.args.object shown (Values c.in-Values.values.items) c.holds_of_heap.ensures.agree are there in
    subst (λ (fields : FieldsValue). WritesText (g.W.Target.written c.args.target.now) (g.W.Target.written c.write_values.new.target)
    c.write_values.result (fields_text found c.args.class fields)) (sym same)
    (subst (λ (values : List FieldValue). WritesText (g.W.Target.written c.args.target.now) (g.W.Target.written c.write_values.new.target)
    c.write_values.result (fields_from found c.args.class 0 values)) c.deref.ensures.value (c.write_values.ensures.bytes found is))

-- what has no values says why
no_values : (found : Findings) (class : ℕ) (why : Fields) → ((values : _) → why ≡ variants.Values values → ⊥)
    → fields_text found class (fields_value why) ≡ codes "  " ++ why_no_fields (fields_value why)
no_values found class (variants.Values values) none = absurd (none values refl)
no_values found class (variants.Missing missing) none = refl
no_values found class variants.Cyclic none = refl
no_values found class (variants.WidthDiffers width) none = refl
no_values found class variants.NotAnInstance none = refl
no_values found class variants.NoObject none = refl

pub returns-in_err-write_str-in_default-clause-bytes : goal.returns-in_err-write_str-in_default-clause-bytes
returns-in_err-write_str-in_default-clause-bytes g c = λ found shown is are.
    let why = c.in_ok-why.why in
    let told = why_no_fields (fields_value why) in
    let same = fields_once (size_of c.args.heap.now) (facts_of c.args.heap.now) c.args.object shown (fields_value why)
    c.holds_of_heap.ensures.agree are c.in_ok-why.ensures in
    let r = c.from_residual-in_err-write_str-in_default.result in
    let old = g.W.Target.written c.args.target.now in
    let new = g.W.Target.written c.write_str.new.target in
    let p = err_from_is_err_and r c.from_residual-in_err-write_str-in_default.ensures.1 in
    subst (λ (fields : FieldsValue). WritesText old new r (fields_text found c.args.class fields)) (sym same)
    (rw (no_values found c.args.class why c.in_default.not-Values)
    (text_stops r old new p.0 (codes "  ") told p.1 c.in_err-write_str-in_default.ensures.bytes))

pub returns-in_ok-write_str-in_default-clause-bytes : goal.returns-in_ok-write_str-in_default-clause-bytes
returns-in_ok-write_str-in_default-clause-bytes g c = λ found shown is are.
    let why = c.in_ok-why.why in
    let told = why_no_fields (fields_value why) in
    let same = fields_once (size_of c.args.heap.now) (facts_of c.args.heap.now) c.args.object shown (fields_value why)
    c.holds_of_heap.ensures.agree are c.in_ok-why.ensures in
    let r = c.write_line.result in
    let old = g.W.Target.written c.args.target.now in
    let mid = g.W.Target.written c.write_str.new.target in
    let new = g.W.Target.written c.write_line.new.target in
    subst (λ (fields : FieldsValue). WritesText old new r (fields_text found c.args.class fields)) (sym same)
    (rw (no_values found c.args.class why c.in_default.not-Values)
    (text_then r old mid new (codes "  ") told c.in_ok-write_str-in_default.ensures.bytes
    (c.write_line.ensures.bytes told c.no_fields_line.ensures)))
