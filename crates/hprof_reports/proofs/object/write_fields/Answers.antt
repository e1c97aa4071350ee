use Rattle.std.proofs.Common.{◌≡◌, sym, subst, refl}
use Rattle.hprof_layouts.specs.declared.field_value.Fields.{Fields}
use Rattle.hprof_layouts.specs.declared.field_value.Fields.TheVariants as variants
use Rattle.hprof_layouts.specs.Fields.{AreFields, FieldsValue, Values, fields_value}
use Rattle.hprof_layouts.proofs.FieldAnswers.{fields_once}
use Rattle.hprof_heap.specs.HeapFacts.{facts_of, size_of}
use Rattle.hprof_naming.specs.Naming.{Naming}
use Rattle.hprof_values.specs.declared.ids.IdSize.{IdSize}
use Rattle.hprof_reports.specs.ObjectText.{fields_text, why_no_fields}
use Rattle.hprof_lines.specs.Stopping.{WritesText}
use Rattle.hprof_reports.proofs.object.write_fields.Goals as goal

pub returns-in-Values-clause-bytes : goal.returns-in-Values-clause-bytes
returns-in-Values-clause-bytes g c = λ naming shown is are.
    let ids = size_of c.args.heap.now in
    let facts = facts_of c.args.heap.now in
    let found = subst (λ (why : Fields). AreFields ids facts c.args.object (fields_value why)) c.in-Values.is c.in_ok-why.ensures in
    let same = fields_once ids facts c.args.object shown (Values c.in-Values.values.items) c.holds_of_heap.ensures.agree are found in
    subst (λ (fields : FieldsValue). WritesText (g.W.Target.written c.args.target.now) (g.W.Target.written c.write_entries.new.target)
    c.write_entries.result (fields_text naming ids fields)) (sym same)
    (c.write_entries.ensures.bytes naming c.in-Values.values.items is c.as_slice-values.ensures.value)

-- what has no values says why
no_values : (naming : Naming) (ids : IdSize) (why : Fields) → ((values : _) → why ≡ variants.Values values → ⊥)
    → fields_text naming ids (fields_value why) ≡ why_no_fields (fields_value why)
no_values naming ids (variants.Values values) none = absurd (none values refl)
no_values naming ids (variants.Missing class) none = refl
no_values naming ids variants.Cyclic none = refl
no_values naming ids (variants.WidthDiffers width) none = refl
no_values naming ids variants.NotAnInstance none = refl
no_values naming ids variants.NoObject none = refl

pub returns-in_default : goal.returns-in_default
returns-in_default g c = record {
  bytes = λ naming shown is are.
      let ids = size_of c.args.heap.now in
      let facts = facts_of c.args.heap.now in
      let why = c.in_ok-why.why in
      let same = fields_once ids facts c.args.object shown (fields_value why) c.holds_of_heap.ensures.agree are c.in_ok-why.ensures in
      subst (λ (fields : FieldsValue). WritesText (g.W.Target.written c.args.target.now)
      (g.W.Target.written c.write_line.new.target) c.write_line.result (fields_text naming ids fields)) (sym same)
      (rw (no_values naming ids why c.in_default.not-Values)
      (c.write_line.ensures.bytes (why_no_fields (fields_value why)) c.no_fields_line.ensures));
  health = c.write_line.ensures.health;
}
