-- The fields of an instance, one after the other.
use Rattle.std.proofs.Common.{◌≡◌, ℕ, ◌+◌, ◌<◌, ◌≤◌, List, [], ◌∷◌, ◌++◌, length, get_or, drop, refl, ap, ◌∙◌}
use Rattle.std.proofs.Common.{add-one, append_assoc, drop-cons}
use Rattle.std.proofs.lemmas.List.{drop_all}
use Rattle.hprof_values.specs.declared.basic.Basic.TheVariants as basics
use Rattle.hprof_layouts.specs.declared.field_value.FieldValue.{FieldValue}
use Rattle.hprof_describe.specs.Findings.{Findings}
use Rattle.hprof_show.specs.FieldLines.{field_line, fields_from, from_line}

-- some field
abbrev pub no_field : FieldValue
no_field = record { class = 0; name = 0; basic = basics.Array; bits = 0 }

-- the field at the place, and those behind it
module _ (found : Findings) (before place : ℕ) (values : List FieldValue) where
  pub field_next : place < length values
      → fields_from found before place (drop place values)
      ≡ from_line found before (get_or values place no_field).class
      ++ (field_line found place (get_or values place no_field)
      ++ fields_from found (get_or values place no_field).class (place + 1) (drop (place + 1) values))
  unfolding fields_from
  field_next within =
      let value = get_or values place no_field in
      let next : drop place values ≡ value ∷ drop (place + 1) values = rw (add-one, drop-cons values place no_field) refl in
      ap (fields_from found before place) next
      ∙ append_assoc (from_line found before value.class) (field_line found place value)
      (fields_from found value.class (place + 1) (drop (place + 1) values))

  pub no_next : length values ≤ place → fields_from found before place (drop place values) ≡ []
  unfolding fields_from
  no_next behind = ap (fields_from found before place) (drop_all place values behind)
