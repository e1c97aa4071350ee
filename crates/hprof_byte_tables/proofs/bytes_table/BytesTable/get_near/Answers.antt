use Rattle.std.proofs.Common.{List, ℕ, Some, ap, subst, sym, ◌∙◌}
use Rattle.std.specs.Option.{option_copied, option_map}
use Rattle.hprof_byte_tables.specs.Spans.{IsSpanOf, lying}
use Rattle.hprof_tables.specs.SortedTable.{entries_of}
use Rattle.hprof_byte_tables.proofs.Spans.{row_lying, within_found}
use Rattle.hprof_byte_tables.proofs.bytes_table.BytesTable.get_near.Goals as goal

pub returns-in_err-span : goal.returns-in_err-span
returns-in_err-span c =
    let table = c.args.self.now in
    ap option_copied c.from_residual.ensures ∙ sym (row_lying table.bytes.items (entries_of table.rows) c.args.key
    ∙ ap (option_map (lying table.bytes.items)) (sym c.in_err-span.ensures))

pub returns : goal.returns
returns c =
    let table = c.args.self.now in
    let span = c.in_ok-span.span.now in
    let within = within_found table.bytes.items (entries_of table.rows) c.args.key span table.sound (sym c.in_ok-span.ensures) in
    let there : IsSpanOf c.deref.result.now span = subst (λ (l : List ℕ). IsSpanOf l span) (sym c.deref.ensures.value) within in
    c.row_in.ensures there
    ∙ ap (λ (l : List ℕ). Some (lying l span)) c.deref.ensures.value
    ∙ sym (row_lying table.bytes.items (entries_of table.rows) c.args.key
    ∙ ap (option_map (lying table.bytes.items)) (sym c.in_ok-span.ensures))
