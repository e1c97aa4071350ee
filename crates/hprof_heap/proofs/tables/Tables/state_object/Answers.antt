use Rattle.std.proofs.Common.{◌≡◌, ◌∷◌, ℕ, List, drop, sym, ap, ◌∙◌}
use Rattle.hprof_values.specs.declared.ids.IdSize.{IdSize}
use Rattle.hprof_values.specs.Ids.{width_of}
use Rattle.hprof_items.specs.FactValue.{value_of}
use Rattle.hprof_byte_tables.specs.BytesTable.{byte_rows}
use Rattle.hprof_rows.specs.Kept.{without_id}
use Rattle.hprof_rows.proofs.KeptObjects.{object_stated, behind_tag}
use Rattle.hprof_heap.proofs.tables.Tables.state_object.Goals as goal

-- what is kept is the bytes without the identifier
kept_is : (ids : IdSize) (tag : ℕ) (bytes fields rest dump : List ℕ) (width : ℕ) → bytes ≡ tag ∷ fields → bytes ≡ dump
    → rest ≡ drop width fields → width ≡ width_of ids → tag ∷ rest ≡ without_id ids dump
kept_is ids tag bytes fields rest dump width parts spelled behind wide =
    ap (λ (l : List ℕ). tag ∷ l) (behind ∙ ap (λ (n : ℕ). drop n fields) wide)
    ∙ sym (behind_tag ids tag fields) ∙ ap (without_id ids) (sym parts ∙ spelled)

pub returns-clause-row : goal.returns-clause-row
returns-clause-row c =
    let its = c.args.self.now in
    let state = c.state_split in
    record {
      ok = object_stated its.ids state.result c.args.id (value_of c.args.fact.now) (c.in-Some.tag.now ∷ c.split_at.result.1.now)
          (byte_rows its.objects) (byte_rows state.new.self) c.requires.order
          (kept_is its.ids c.in-Some.tag.now c.args.bytes.now c.in-Some.fields.now c.split_at.result.1.now _ c.width.result
          c.in-Some.ensures.cases.0 c.requires.spelled c.split_at.ensures.back c.width.ensures) state.ensures.ok;
      err = state.ensures.err;
      absent = state.ensures.absent;
    }
