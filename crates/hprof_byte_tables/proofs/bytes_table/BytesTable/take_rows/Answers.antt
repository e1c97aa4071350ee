use Rattle.std.proofs.Common.{ℕ, List, refl, subst, sym}
use Rattle.std.proofs.lemmas.Result.{IfOk-weaker}
use Rattle.hprof_byte_tables.specs.Spans.{AreSpansOf}
use Rattle.hprof_tables.specs.SortedTable.{entries_of}
use Rattle.hprof_byte_tables.proofs.SameTables.{same_table, none_lying}
use Rattle.hprof_byte_tables.proofs.Spans.{within-append}
use Rattle.hprof_byte_tables.proofs.Taking.{fresh_apart, fresh_ascend, tried_within, tried_union}
use Rattle.hprof_byte_tables.proofs.bytes_table.BytesTable.take_rows.Goals as goal

pub merge-requires-clause-ascending : goal.merge-requires-clause-ascending
merge-requires-clause-ascending c =
    let old = c.args.self.now in
    let put = c.in_ok-fresh.ensures in
    fresh_ascend old.bytes.items c.append_rows.new.bytes.items (entries_of old.rows) c.in_ok-fresh.fresh.items _ put.behind old.sound
    put.lying
    c.requires.ascending

pub merge-requires-clause-apart : goal.merge-requires-clause-apart
merge-requires-clause-apart c =
    let old = c.args.self.now in
    let put = c.in_ok-fresh.ensures in
    fresh_apart old.bytes.items c.append_rows.new.bytes.items (entries_of old.rows) c.in_ok-fresh.fresh.items _ put.behind old.sound
    put.lying
    c.requires.apart

pub invariant_of-self : goal.invariant_of-self
invariant_of-self c =
    let old = c.args.self.now in
    let behind = c.in_err-fresh.ensures.behind in
    record {
      sound = subst (λ (l : List ℕ). AreSpansOf l (entries_of old.rows)) (sym behind.1)
          (within-append old.bytes.items behind.0 (entries_of old.rows) old.sound);
    }

pub invariant_of-self-2 : goal.invariant_of-self-2
invariant_of-self-2 c =
    let old = c.args.self.now in
    let put = c.in_ok-fresh.ensures in
    record {
      sound = tried_within old.bytes.items c.append_rows.new.bytes.items (entries_of old.rows) c.in_ok-fresh.fresh.items _ put.behind
          old.sound put.lying
          c.merge.result (entries_of c.merge.new.self) put.within c.merge.ensures.ok c.merge.ensures.err;
    }

pub returns-clause-ok : goal.returns-clause-ok
returns-clause-ok c =
    let old = c.args.self.now in
    let put = c.in_ok-fresh.ensures in
    tried_union old.bytes.items c.append_rows.new.bytes.items (entries_of old.rows) c.in_ok-fresh.fresh.items _ put.behind old.sound
    put.lying
    c.merge.result (entries_of c.merge.new.self) c.merge.ensures.ok

pub returns-clause-unchanged : goal.returns-clause-unchanged
returns-clause-unchanged c =
    let put = c.in_ok-fresh.ensures in
    IfOk-weaker c.merge.result _ _
    (λ done same none. same_table _ c.args.self.now (same (none_lying c.append_rows.new.bytes.items c.in_ok-fresh.fresh.items
    (λ row. row.0.now) c.args.lent.items put.lying none)) (put.unchanged none) refl)
    c.merge.ensures.unchanged
