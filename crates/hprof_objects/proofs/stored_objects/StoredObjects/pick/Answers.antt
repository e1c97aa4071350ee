use Rattle.std.proofs.Common.{ℕ, List, rules, subst, sym}
use Rattle.std.specs.Prelude.{IfErr}
use Rattle.hprof_objects.specs.declared.cut.Cut.{Cut}
use Rattle.hprof_objects.specs.Cuts.{CutInto, all_rows}
use Rattle.hprof_objects.specs.PartsRead.{PartRead}
use Rattle.hprof_objects.specs.PickedCuts.{TellsCuts}
use Rattle.hprof_objects.specs.PickingSink.{PicksRow, RefusesPicked}
use Rattle.hprof_objects.specs.StoredObjects.{AreToldAgain, IsOneStretch, objects_of, scratch_under}
use Rattle.hprof_objects.specs.Wanted.{Rises}
use Rattle.hprof_objects.proofs.OneStretch.{rows_union, stretch_union}
use Rattle.hprof_objects.proofs.PickedFront.{cuts_change, no_scratch, picks_of, where_ok}
use Rattle.hprof_objects.proofs.PickedMerge.{merged_picks, merged_union, over_lists, well_merged}
use Rattle.hprof_objects.proofs.WantedRows.{rises}
use Rattle.hprof_objects.proofs.stored_objects.StoredObjects.pick.Goals as goal

pub pick_cuts-requires-clause-rises : goal.pick_cuts-requires-clause-rises
pick_cuts-requires-clause-rises g c = rises c.args.wanted.now c.requires.ascend

-- ---- one stretch

pub returns-then-is_one_stretch-clause-objects : goal.returns-then-is_one_stretch-clause-objects
returns-then-is_one_stretch-clause-objects g c = λ reads again.
    let one : IsOneStretch c.args.self.now = search rules in
    let its = again.holds in
    let union = rows_union g.S.Target.written g.S.Target.health c.args.limits reads c.args.self.now one its in
    picks_of (objects_of reads) (all_rows its.lists) union g.T.RowSink.steps g.T.RowSink.refuses c.args.wanted.now c.args.sink.now
    c.pick_cuts.new.sink c.pick_cuts.result
    (c.pick_cuts.ensures.rows reads (all_rows its.lists)
    (subst (λ (l : List Cut). CutInto c.args.limits reads l (all_rows its.lists)) (sym c.deref.ensures.value) its.cut) union.ascends
    again.same)

pub returns-then-is_one_stretch-clause-union : goal.returns-then-is_one_stretch-clause-union
returns-then-is_one_stretch-clause-union g c =
    let one : IsOneStretch c.args.self.now = search rules in
    where_ok c.pick_cuts.result (λ reads again. stretch_union g.S.Target.written g.S.Target.health c.args.limits reads c.args.self.now one
    again.holds)

pub returns-then-is_one_stretch-clause-again : goal.returns-then-is_one_stretch-clause-again
returns-then-is_one_stretch-clause-again g c =
    let told = g.P.Parts.bytes c.args.parts.now in
    cuts_change g.S.Target.written g.S.Target.health c.args.limits told c.args.self.now c.pick_cuts.result
    (subst (λ (l : List Cut). IfErr c.pick_cuts.result (TellsCuts c.args.limits told l)) c.deref.ensures.value c.pick_cuts.ensures.tells)

pub returns-then-is_one_stretch-clause-read : goal.returns-then-is_one_stretch-clause-read
returns-then-is_one_stretch-clause-read g c =
    no_scratch c.args.limits (g.P.Parts.bytes c.args.parts.now) c.deref.result.now (g.S.Scratch.unreadable (scratch_under c.args.self.now))
    c.pick_cuts.result c.pick_cuts.ensures.tells

-- ---- all objects

pub merge-requires : goal.merge-requires
merge-requires g c = record {
  sink = (
    subst (λ (l : List ℕ). Rises l) (sym c.new-picking.ensures.wanted) (rises c.args.wanted.now c.requires.ascend),
    subst (λ t. g.T.RowSink.well t) (sym c.new-picking.ensures.state) c.requires.sink,
  );
}

pub returns-clause-objects : goal.returns-clause-objects
returns-clause-objects g c = λ reads again.
    let m = c.merge in
    let old = c.new-picking.result in
    let same = over_lists g.T.RowSink.steps g.T.RowSink.refuses m.ensures.rows.0 m.result old m.new.sink m.ensures.rows.1 in
    merged_picks g.T.RowSink.steps g.T.RowSink.refuses c.args.wanted.now (objects_of reads) old m.new.sink c.new-picking.ensures.wanted
    c.args.sink.now _ c.new-picking.ensures.state (search rules) m.result (m.ensures.objects reads again)

pub returns-clause-union : goal.returns-clause-union
returns-clause-union g c =
    let m = c.merge in
    merged_union (PicksRow g.T.RowSink.steps) (RefusesPicked g.T.RowSink.refuses) c.new-picking.result m.new.sink
    (λ (reads : List PartRead). AreToldAgain g.S.Target.written g.S.Target.health c.args.limits (g.P.Parts.bytes c.args.parts.now) reads
    c.args.self.now) objects_of m.result m.ensures.objects

pub returns-clause-well : goal.returns-clause-well
returns-clause-well g c =
    let m = c.merge in
    let old = c.new-picking.result in
    let same = over_lists g.T.RowSink.steps g.T.RowSink.refuses m.ensures.rows.0 m.result old m.new.sink m.ensures.rows.1 in
    well_merged g.T.RowSink.well m.new.sink _ (search rules) m.result m.ensures.well
