-- There is a report `show`, and it is one text.
use Rattle.std.proofs.Common.{◌≡◌, ℕ, List, refl, sym, ap, ◌∙◌}
use Rattle.hprof_values.specs.declared.ids.IdSize.{IdSize}
use Rattle.hprof_items.specs.FactValue.{FactValue}
use Rattle.hprof_rows.specs.Conflict.{IsConsistent}
use Rattle.hprof_layouts.specs.Fields.{FieldsValue}
use Rattle.hprof_layouts.proofs.FieldAnswers.{fields_exist, fields_once}
use Rattle.hprof_describe.specs.Findings.{Findings}
use Rattle.hprof_describe.proofs.OneFinding.{findings_exist, one_findings}
use Rattle.hprof_show.specs.ShowText.{IsShowText, found_text}

pub some_show : (ids : IdSize) (facts : List FactValue) (id : ℕ) → IsConsistent facts → (text : List ℕ) × IsShowText ids facts id text
some_show ids facts id agree =
    let found = findings_exist ids facts agree in
    let fields = fields_exist ids facts id in (
      found_text found.0 id fields.0 (found.0.class id) (found.0.object id),
      record { agree = agree; found = found.0; are_found = found.1; fields = fields.0; are_fields = fields.1; is = refl },
    )

pub one_show_text : (ids : IdSize) (facts : List FactValue) (id : ℕ) (one other : List ℕ) → IsShowText ids facts id one
    → IsShowText ids facts id other → one ≡ other
one_show_text ids facts id one other is is_too =
    let found = one_findings ids facts is.agree is.found is_too.found is.are_found is_too.are_found in
    let fields = fields_once ids facts id is.fields is_too.fields is.agree is.are_fields is_too.are_fields in
    is.is ∙ ap (λ (f : Findings). found_text f id is.fields (f.class id) (f.object id)) found
    ∙ ap (λ (f : FieldsValue). found_text is_too.found id f (is_too.found.class id) (is_too.found.object id)) fields ∙ sym is_too.is
