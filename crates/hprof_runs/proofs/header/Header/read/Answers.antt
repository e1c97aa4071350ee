use Rattle.std.proofs.Common.{◌≡◌, ap, ◌∙◌, refl, true, false}
use Rattle.hprof_runs.specs.Spelling.{spelled_key, spelled_len}
use Rattle.hprof_runs.proofs.PassedOn.{if_error}
use Rattle.hprof_runs.proofs.Reading.{no_header, no_row, no_rows_left, row_come}
use Rattle.hprof_runs.proofs.header.Header.read.Goals as goal

pub returns-then-is_empty-clause-rows : goal.returns-then-is_empty-clause-rows
returns-then-is_empty-clause-rows g c =
    let none = c.if-is_empty.ensures.0 refl in
    no_rows_left g.S.Target.written c.args.bytes.now none.0 none.1

pub returns-in_err-hold-clause-fault : goal.returns-in_err-hold-clause-fault
returns-in_err-hold-clause-fault g c =
    if_error _ c.from_residual.result c.in_err-hold.field-0.0
    (no_header g.S.Target.written c.args.bytes.now c.args.bytes.now (λ none. let t : false ≡ true = c.if-is_empty.ensures.1 none in cc)
    c.in_err-hold.field-0.0 c.in_err-hold.ensures.fault)
    c.from_residual.ensures.1

pub returns-in_err-hold-2-clause-fault : goal.returns-in_err-hold-2-clause-fault
returns-in_err-hold-2-clause-fault g c =
    let mid = c.hold.new.self in
    let header = c.first_header-header.result in
    if_error _ c.from_residual-in_err-hold-2.result c.in_err-hold-2.field-0.0
    (no_row g.S.Target.written c.args.bytes.now mid (λ none. let t : false ≡ true = c.if-is_empty.ensures.1 none in cc)
    c.in_ok-hold.ensures.bytes c.in_ok-hold.ensures.held header
    (c.first_header-header.ensures.key ∙ ap spelled_key c.held.ensures) (c.first_header-header.ensures.len ∙ ap spelled_len c.held.ensures)
    c.pass.new.self c.pass.ensures.bytes c.in_err-hold-2.field-0.0 c.in_err-hold-2.ensures.fault)
    c.from_residual-in_err-hold-2.ensures.1

pub returns-clause-rows : goal.returns-clause-rows
returns-clause-rows g c =
    let mid = c.hold.new.self in
    let header = c.first_header-header.result in
    row_come g.S.Target.written c.args.bytes.now mid (λ none. let t : false ≡ true = c.if-is_empty.ensures.1 none in cc)
    c.in_ok-hold.ensures.bytes c.in_ok-hold.ensures.held header
    (c.first_header-header.ensures.key ∙ ap spelled_key c.held.ensures) (c.first_header-header.ensures.len ∙ ap spelled_len c.held.ensures)
    c.pass.new.self c.pass.ensures.bytes c.hold-2.new.self c.in_ok-hold-2.ensures.bytes c.in_ok-hold-2.ensures.held
