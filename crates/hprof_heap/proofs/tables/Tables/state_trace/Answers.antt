use Rattle.std.proofs.Common.{◌≡◌, ℕ, List, ◌++◌, length, Result, refl, subst, ap, ◌∙◌}
use Rattle.std.specs.Prelude.{IfOk}
use Rattle.hprof_values.specs.declared.ids.IdSize.{IdSize}
use Rattle.hprof_values.specs.FieldGroups.{field_bytes}
use Rattle.hprof_values.specs.Lists.{id_widths, identifiers_of}
use Rattle.hprof_tables.specs.declared.relation.Stated.{Stated}
use Rattle.hprof_byte_tables.specs.BytesTable.{byte_rows}
use Rattle.hprof_tables.specs.Relation.{States}
use Rattle.hprof_byte_tables.specs.Spans.{the_bytes}
use Rattle.hprof_heap.proofs.tables.Tables.state_trace.Goals as goal

-- what was stated of bytes was stated of the content that they are
stated_as : {E : Type 0} (r : Result Stated E) (serial : ℕ) (bytes content : List ℕ) (old new : List (ℕ × List ℕ)) → bytes ≡ content
    → IfOk r (λ answer. States the_bytes old serial bytes answer new) → IfOk r (λ answer. States the_bytes old serial content answer new)
stated_as r serial bytes content old new e ok =
    subst (λ (those : List ℕ). IfOk r (λ answer. States the_bytes old serial those answer new)) e ok

pub returns : goal.returns
returns c =
    let its = c.args.self.now in
    let state = c.state_prefixed in
    let frames = identifiers_of c.args.frames in
    let bytes = c.bytes.ensures.spelled.spelled
    ∙ ap (λ (i : IdSize). field_bytes (id_widths i (length frames)) frames) c.requires in
    let is = ap (λ (l : List ℕ). c.thread_bytes.result ++ l) bytes
    ∙ ap (λ (l : List ℕ). l ++ field_bytes (id_widths its.ids (length frames)) frames) c.thread_bytes.ensures in (
      record {
        ok = stated_as state.result c.args.serial _ _ (byte_rows its.traces) (byte_rows state.new.self) is state.ensures.ok;
        err = state.ensures.err;
        absent = state.ensures.absent;
      },
      refl,
    )
