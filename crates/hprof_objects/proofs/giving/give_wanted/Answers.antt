use Rattle.std.proofs.Common.{ℕ, List, Result, subst}
use Rattle.std.proofs.lemmas.List.{nil_from_length}
use Rattle.hprof_merge.specs.Rows.{ByteRow}
use Rattle.hprof_runs.specs.Runs.{scratch_of}
use Rattle.hprof_objects.specs.declared.object_fault.ObjectFault.{ObjectFault}
use Rattle.hprof_objects.specs.Giving.{IsNowhere, IsThere, PicksHeld}
use Rattle.hprof_objects.specs.Searched.{StopsIn}
use Rattle.hprof_objects.specs.SearchedLists.{cuts_in}
use Rattle.hprof_objects.specs.Wanted.{Rises}
use Rattle.hprof_objects.proofs.GivenAll.{AreReadyFor, GaveSoFar, gave_all, gave_more, gave_none, gave_stops, keeps_next, nowhere_before}
use Rattle.hprof_objects.proofs.GivenAll.{ready_first, ready_next, ready_then, there_before}
use Rattle.hprof_objects.proofs.GivenOne.{stops_more, unless_more}
use Rattle.hprof_objects.proofs.PassedOn.{at_error, if_error}
use Rattle.hprof_objects.proofs.giving.give_wanted.Goals as goal

pub loop-id-init : goal.loop-id-init
loop-id-init g c =
    let reader = c.args.reader.now in
    record {
      rises = c.requires.rises;
      ready = ready_first g.S.Target.written g.R.Source.left g.R.Source.health g.R.Source.pulls (scratch_of reader.runs.now) reader.limits
          (g.P.Parts.bytes reader.parts.now) c.args.wanted.now c.args.lists.now c.requires.ready;
      gave = λ all held. gave_none g.T.RowSink.steps c.args.wanted.now all c.args.sink.now;
      well = c.requires.sink;
    }

pub give_one-requires-clause-ready : goal.give_one-requires-clause-ready
give_one-requires-clause-ready g c =
    let reader = c.args.reader.now in
    let scratch = scratch_of reader.runs.now in
    let told = g.P.Parts.bytes reader.parts.now in
    let now = c.loop-id in
    let old = c.args.lists.now in
    let id = c.in-Some.id.now in
    let after = c.in-Some.after.now in
    let is = c.in-Some.ensures.cases.0 in
    let are = subst (λ (l : List ℕ). AreReadyFor g.S.Target.written g.R.Source.left g.R.Source.health g.R.Source.pulls scratch reader.limits
    told l old now.lists) is now.invariant.ready in
    ready_next g.S.Target.written g.R.Source.left g.R.Source.health g.R.Source.pulls scratch reader.limits told id after old now.lists are

pub returns-in_err-give_one-clause-picks : goal.returns-in_err-give_one-clause-picks
returns-in_err-give_one-clause-picks g c =
    let reader = c.args.reader.now in
    let scratch = scratch_of reader.runs.now in
    let told = g.P.Parts.bytes reader.parts.now in
    let now = c.loop-id in
    let old = c.args.lists.now in
    let id = c.in-Some.id.now in
    let after = c.in-Some.after.now in
    let is = c.in-Some.ensures.cases.0 in
    let are = subst (λ (l : List ℕ). AreReadyFor g.S.Target.written g.R.Source.left g.R.Source.health g.R.Source.pulls scratch reader.limits
    told l old now.lists) is now.invariant.ready in
    let keeps = keeps_next g.S.Target.written g.R.Source.left g.R.Source.health g.R.Source.pulls scratch reader.limits told id after old
    now.lists are in
    let rises = subst (λ (l : List ℕ). Rises l) is now.invariant.rises in
    λ all held.
    let only = λ (row : ByteRow) (there : IsThere g.S.Target.written scratch reader.limits told c.args.rows.now (cuts_in now.lists) row).
    held.only row (there_before g.S.Target.written scratch reader.limits told c.args.rows.now id (cuts_in old) (cuts_in now.lists) keeps
    row there) in
    let gave = subst (λ (l : List ℕ). GaveSoFar g.T.RowSink.steps c.args.wanted.now all l c.args.sink.now now.sink) is
    (now.invariant.gave all held) in
    at_error (λ (r : Result (Unit {0}) (ObjectFault g.row.T-Fault.Denot)). PicksHeld g.T.RowSink.steps g.T.RowSink.refuses
    c.args.wanted.now all r c.args.sink.now c.give_one.new.sink) c.from_residual.result c.in_err-give_one.field-0.0
    (gave_stops g.T.RowSink.steps g.T.RowSink.refuses c.args.wanted.now all id after c.args.sink.now now.sink gave rises held.ascends
    (IsThere g.S.Target.written scratch reader.limits told c.args.rows.now (cuts_in now.lists))
    (IsNowhere g.S.Target.written scratch reader.limits told c.args.rows.now (cuts_in now.lists) id) only (Unit {0})
    c.in_err-give_one.field-0.0 c.give_one.new.sink c.in_err-give_one.ensures.gives)
    c.from_residual.ensures.1

pub returns-in_err-give_one-clause-stops : goal.returns-in_err-give_one-clause-stops
returns-in_err-give_one-clause-stops g c =
    let reader = c.args.reader.now in
    let scratch = scratch_of reader.runs.now in
    let told = g.P.Parts.bytes reader.parts.now in
    let now = c.loop-id in
    let old = c.args.lists.now in
    let id = c.in-Some.id.now in
    let after = c.in-Some.after.now in
    let is = c.in-Some.ensures.cases.0 in
    let are = subst (λ (l : List ℕ). AreReadyFor g.S.Target.written g.R.Source.left g.R.Source.health g.R.Source.pulls scratch reader.limits
    told l old now.lists) is now.invariant.ready in
    let keeps = keeps_next g.S.Target.written g.R.Source.left g.R.Source.health g.R.Source.pulls scratch reader.limits told id after old
    now.lists are in
    if_error _ c.from_residual.result c.in_err-give_one.field-0.0
    (unless_more (StopsIn g.S.Target.written scratch reader.limits told g.S.Scratch.unreadable (cuts_in now.lists))
    (StopsIn g.S.Target.written scratch reader.limits told g.S.Scratch.unreadable (cuts_in old)) c.in_err-give_one.field-0.0
    (stops_more g.S.Target.written scratch reader.limits told g.S.Scratch.unreadable (cuts_in now.lists) (cuts_in old) keeps.only
    c.in_err-give_one.field-0.0) c.in_err-give_one.ensures.stops)
    c.from_residual.ensures.1

pub loop-id-preserved : goal.loop-id-preserved
loop-id-preserved g c =
    let reader = c.args.reader.now in
    let scratch = scratch_of reader.runs.now in
    let told = g.P.Parts.bytes reader.parts.now in
    let now = c.loop-id in
    let old = c.args.lists.now in
    let id = c.in-Some.id.now in
    let after = c.in-Some.after.now in
    let is = c.in-Some.ensures.cases.0 in
    let are = subst (λ (l : List ℕ). AreReadyFor g.S.Target.written g.R.Source.left g.R.Source.health g.R.Source.pulls scratch reader.limits
    told l old now.lists) is now.invariant.ready in
    let keeps = keeps_next g.S.Target.written g.R.Source.left g.R.Source.health g.R.Source.pulls scratch reader.limits told id after old
    now.lists are in
    let rises = subst (λ (l : List ℕ). Rises l) is now.invariant.rises in
    record {
      rises = rises.1;
      ready = ready_then g.S.Target.written g.R.Source.left g.R.Source.health g.R.Source.pulls scratch reader.limits told id after old
          now.lists are c.give_one.new.lists rises c.in_ok-give_one.ensures.ready c.in_ok-give_one.ensures.keeps;
      gave = λ all held.
          let only = λ (row : ByteRow) (there : IsThere g.S.Target.written scratch reader.limits told c.args.rows.now (cuts_in now.lists)
          row).
          held.only row (there_before g.S.Target.written scratch reader.limits told c.args.rows.now id (cuts_in old) (cuts_in now.lists)
          keeps
          row there) in
          let gave = subst (λ (l : List ℕ). GaveSoFar g.T.RowSink.steps c.args.wanted.now all l c.args.sink.now now.sink) is
          (now.invariant.gave all held) in
          gave_more g.T.RowSink.steps g.T.RowSink.refuses c.args.wanted.now all id after c.args.sink.now now.sink gave rises held.ascends
          (IsThere g.S.Target.written scratch reader.limits told c.args.rows.now (cuts_in now.lists))
          (IsNowhere g.S.Target.written scratch reader.limits told c.args.rows.now (cuts_in now.lists) id) only (tt {0}) c.give_one.new.sink
          (λ none bytes has. held.every (id, bytes) has
          (nowhere_before g.S.Target.written scratch reader.limits told c.args.rows.now id (cuts_in old) (cuts_in now.lists) keeps none))
          c.in_ok-give_one.ensures.gives;
      well = c.in_ok-give_one.ensures.well;
    }

pub returns-clause-picks : goal.returns-clause-picks
returns-clause-picks g c =
    λ all held. gave_all g.T.RowSink.steps c.args.wanted.now all c.loop-id.rest.now c.args.sink.now c.loop-id.sink
    (nil_from_length c.loop-id.rest.now c.in_default.ensures.cases) (c.loop-id.invariant.gave all held)
