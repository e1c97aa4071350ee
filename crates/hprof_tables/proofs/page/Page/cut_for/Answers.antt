use Rattle.std.proofs.Common.{◌≡◌, ◌<◌, ◌≤◌, length, arith, rules, inl, inr}
use Rattle.std.proofs.lemmas.Bool.{cases_lt}
use Rattle.hprof_tables.proofs.SortedRows.{AreKeys-weaker}
use Rattle.hprof_tables.proofs.PageRows.{cut_within, end_above, keys_below_row, keys_from_row}
use Rattle.hprof_tables.proofs.page.Page.cut_for.Goals as goal
use Rattle.hprof_tables.proofs.page.Page.cut_for.Goals.{then-place-eq0, else-place-eq0}

pub returns-then-place-len : goal.returns-then-place-len
returns-then-place-len g c =
    let page = c.args.self.now in
    let goes = c.requires.goes in
    let last : c.args.place ≡ length page.rows.items = search rules in
    record {
      above = end_above page.from page.to c.args.key c.args.place page.rows.items page.sound goes c.requires.some last;
      within = c.requires.has.1;
      place = goes.within;
      before = goes.below;
      behind = AreKeys-weaker (λ other. c.args.key < other) (λ other. c.args.key ≤ other) _ (λ other lt. omega arith) goes.above;
    }

pub returns : goal.returns
returns g c =
    let page = c.args.self.now in
    let row = c.index.result.now in
    let half = c.if-place-eq0.half in
    let some : 0 < length page.rows.items = c.requires.some in
    let count : c.len.result ≡ length page.rows.items = search rules in
    let not_last : c.args.place < length page.rows.items = elim (cases_lt c.args.place (length page.rows.items)) [
      | inl lt ↦ lt
      | inr le ↦
          let within : c.args.place ≤ length page.rows.items = c.requires.goes.within in
          absurd (c.if-place-len.false (omega arith))
    ] in
    let lt : half < length page.rows.items = elim c.if-place-eq0.branch [
      | then-place-eq0 w ↦ let none = w.half-is in omega arith
      | else-place-eq0 w ↦
          let is = w.half-is in
          let all : w.len-else-place-eq0.result ≡ length page.rows.items = search rules in
          omega arith
    ] in
    let first : half ≡ 0 → c.args.place ≡ 0 = elim c.if-place-eq0.branch [
      | then-place-eq0 w ↦ λ none. w.if-place-eq0.true
      | else-place-eq0 w ↦ λ none.
          let is = w.half-is in
          let all : w.len-else-place-eq0.result ≡ length page.rows.items = search rules in
          omega arith
    ] in
    let within =
    cut_within page.from page.to c.args.key c.args.place half page.rows.items row page.sound c.requires.goes c.requires.has.0 lt
    c.index.ensures
    first in
    record {
      above = within.0;
      within = within.1;
      place = omega arith;
      before = keys_below_row page.rows.items half row page.sound.ascends lt c.index.ensures;
      behind = keys_from_row page.rows.items half row page.sound.ascends lt c.index.ensures;
    }
