use Rattle.std.proofs.Common.{◌≡◌, ℕ, ◌-◌, List, ◌++◌, ◌∙◌, ap, arith, rules}
use Rattle.std.specs.Prelude.{min}
use Rattle.std.specs.String.{string_bytes}
use Rattle.hprof_show.specs.NumberLines.{number_text, row_line}
use Rattle.hprof_show.proofs.Rows.{row_begins, row_ends, row_more}
use Rattle.hprof_show.proofs.number_lines.row_line.Goals as goal

pub loop-at-init : goal.loop-at-init
loop-at-init c = λ found is.
    let few : c.min.result ≡ min 16 (c.args.count - c.args.place) = omega (arith, c.min.ensures) in
    row_begins found c.args.elem c.args.bytes.now (string_bytes c.in_ok-line.line) c.args.count c.args.place c.min.result
    c.in_ok-line.ensures.ok few

pub loop-at-preserved : goal.loop-at-preserved
loop-at-preserved c = λ found is.
    let pushed : c.deref.result.now ≡ string_bytes c.in_ok-number.number = search rules in
    row_more (number_text found c.args.elem c.args.bytes.now)
    (row_line found c.args.elem c.args.bytes.now c.args.count c.args.place) (string_bytes c.loop-at.line)
    (string_bytes c.push_str.new.self) c.loop-at.at _ (c.loop-at.invariant found is) c.loop-at-test.true
    (c.in_ok-push_str.ensures.bytes
    ∙ ap (λ (number : List ℕ). string_bytes c.loop-at.line ++ number) (pushed ∙ c.in_ok-number.ensures found is))

pub returns : goal.returns
returns c = λ found is.
    row_ends (number_text found c.args.elem c.args.bytes.now)
    (row_line found c.args.elem c.args.bytes.now c.args.count c.args.place) (string_bytes c.loop-at.line)
    (string_bytes c.push_str-2.new.self) c.loop-at.at _ (c.loop-at.invariant found is) c.loop-at-test.false
    c.in_ok-push_str-2.ensures.bytes
