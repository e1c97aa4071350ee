use Rattle.std.proofs.Common.{◌<◌, Bool, length, get_or, Err, set, inl, inr, refl, sym, ap, subst, arith}
use Rattle.std.proofs.lemmas.List.{get_or-set_same}
use Rattle.std.proofs.lemmas.List.Elements.{All-set}
use Rattle.hprof_runs.specs.Runs.{scratch_of}
use Rattle.hprof_objects.specs.declared.any_cut.AnyCut.{AnyCut}
use Rattle.hprof_objects.specs.AnyCuts.{Among}
use Rattle.hprof_objects.specs.Giving.{AllLack, GivesIf, GivesShown}
use Rattle.hprof_objects.specs.Searched.{Finds, IsReady, LiesIn, StopsIn, open_shown}
use Rattle.hprof_objects.specs.SearchedLists.{cuts_in}
use Rattle.hprof_objects.proofs.GivenOne.{among_at, among_behind, given_shown, keeps_at, keeps_none, keeps_then, none_behind, on_ok}
use Rattle.hprof_objects.proofs.GivenOne.{shown_stops, stopped_gives, stops_more, unless_refused, unless_sink}
use Rattle.hprof_objects.proofs.giving.give_from.Goals as goal

pub loop-index-init : goal.loop-index-init
loop-index-init g c =
    record {
      ready = c.requires.ready;
      keeps = keeps_none c.args.id (cuts_in c.args.lists.now);
      lacks = λ cut among. inl among;
      well = c.requires.sink;
      same = refl;
    }

pub returns-in-Ok-true-clause-ready : goal.returns-in-Ok-true-clause-ready
returns-in-Ok-true-clause-ready g c =
    let reader = c.args.reader.now in
    let scratch = scratch_of reader.runs.now in
    let told = g.P.Parts.bytes reader.parts.now in
    let id = c.args.id in
    let now = c.loop-index in
    let lists = now.lists in
    let it = get_or lists now.index c.index-lists-index.result in
    let is = ap (get_or lists now.index) c.index-lists-index.is in
    let next = c.seek.new.self in
    let lt : now.index < length lists = omega (arith, c.loop-index-test.true, now.auto.lists) in
    on_ok c.give_shown.result (All-set (IsReady g.S.Target.written g.R.Source.left g.R.Source.health g.R.Source.pulls scratch
    reader.limits told id) lists now.index next c.in-Ok-true.ensures.ready now.invariant.ready)

pub returns-in-Ok-true-clause-keeps : goal.returns-in-Ok-true-clause-keeps
returns-in-Ok-true-clause-keeps g c =
    let id = c.args.id in
    let now = c.loop-index in
    let lists = now.lists in
    let it = get_or lists now.index c.index-lists-index.result in
    let is = ap (get_or lists now.index) c.index-lists-index.is in
    let next = c.seek.new.self in
    let lt : now.index < length lists = omega (arith, c.loop-index-test.true, now.auto.lists) in
    keeps_then id (cuts_in c.args.lists.now) (cuts_in lists) (cuts_in (set lists now.index next)) now.invariant.keeps
    (keeps_at id lists now.index it next lt is c.seek.ensures.keeps)

pub returns-in-Ok-true-clause-gives : goal.returns-in-Ok-true-clause-gives
returns-in-Ok-true-clause-gives g c =
    let reader = c.args.reader.now in
    let scratch = scratch_of reader.runs.now in
    let told = g.P.Parts.bytes reader.parts.now in
    let id = c.args.id in
    let now = c.loop-index in
    let lists = now.lists in
    let it = get_or lists now.index c.index-lists-index.result in
    let is = ap (get_or lists now.index) c.index-lists-index.is in
    let next = c.seek.new.self in
    let lt : now.index < length lists = omega (arith, c.loop-index-test.true, now.auto.lists) in
    let more = λ (cut : AnyCut) (among : Among it.cuts.now cut). now.invariant.keeps.only cut
    (among_at lists now.index it lt is cut among) in
    let finds = subst (λ (b : Bool). Finds g.S.Target.written scratch reader.limits told id b it.cuts.now (open_shown next.cursor))
    c.in-Ok-true.field-0-test c.in-Ok-true.ensures.finds in
    let gives = subst (λ s. GivesShown g.T.RowSink.steps g.T.RowSink.refuses (open_shown s.cursor) c.give_shown.result now.sink
    c.give_shown.new.sink) (get_or-set_same lists now.index next c.index-lists-index-in-Ok-true.result lt) c.give_shown.ensures.gives in
    subst (λ (t : g.row.T.Denot). GivesIf g.T.RowSink.steps g.T.RowSink.refuses (LiesIn g.S.Target.written scratch reader.limits told
    (cuts_in c.args.lists.now)) (AllLack g.S.Target.written scratch reader.limits told id (cuts_in c.args.lists.now)) id
    c.give_shown.result t c.give_shown.new.sink) (sym now.invariant.same)
    (given_shown g.T.RowSink.steps g.T.RowSink.refuses (LiesIn g.S.Target.written scratch reader.limits told (cuts_in c.args.lists.now))
    (AllLack g.S.Target.written scratch reader.limits told id (cuts_in c.args.lists.now)) id finds.0 (open_shown next.cursor)
    c.give_shown.result now.sink c.give_shown.new.sink finds.1
    (record { cut = finds.2.cut; among = more finds.2.cut finds.2.among; lies = finds.2.lies }) gives)

pub returns-in-Ok-true-clause-stops : goal.returns-in-Ok-true-clause-stops
returns-in-Ok-true-clause-stops g c =
    let reader = c.args.reader.now in
    let scratch = scratch_of reader.runs.now in
    let told = g.P.Parts.bytes reader.parts.now in
    let id = c.args.id in
    let now = c.loop-index in
    let lists = now.lists in
    let it = get_or lists now.index c.index-lists-index.result in
    let is = ap (get_or lists now.index) c.index-lists-index.is in
    let next = c.seek.new.self in
    let lt : now.index < length lists = omega (arith, c.loop-index-test.true, now.auto.lists) in
    shown_stops g.T.RowSink.steps g.T.RowSink.refuses (StopsIn g.S.Target.written scratch reader.limits told g.S.Scratch.unreadable
    (cuts_in c.args.lists.now)) (open_shown (get_or (set lists now.index next) now.index c.index-lists-index-in-Ok-true.result).cursor)
    c.give_shown.result now.sink
    c.give_shown.new.sink c.give_shown.ensures.gives

pub returns-in-Err-clause-keeps : goal.returns-in-Err-clause-keeps
returns-in-Err-clause-keeps g c =
    let id = c.args.id in
    let now = c.loop-index in
    let lists = now.lists in
    let it = get_or lists now.index c.index-lists-index.result in
    let is = ap (get_or lists now.index) c.index-lists-index.is in
    let next = c.seek.new.self in
    let lt : now.index < length lists = omega (arith, c.loop-index-test.true, now.auto.lists) in
    keeps_then id (cuts_in c.args.lists.now) (cuts_in lists) (cuts_in (set lists now.index next)) now.invariant.keeps
    (keeps_at id lists now.index it next lt is c.seek.ensures.keeps)

pub returns-in-Err-clause-gives : goal.returns-in-Err-clause-gives
returns-in-Err-clause-gives g c =
    let reader = c.args.reader.now in
    let scratch = scratch_of reader.runs.now in
    let told = g.P.Parts.bytes reader.parts.now in
    let id = c.args.id in
    let now = c.loop-index in
    let lists = now.lists in
    let it = get_or lists now.index c.index-lists-index.result in
    let is = ap (get_or lists now.index) c.index-lists-index.is in
    let next = c.seek.new.self in
    let lt : now.index < length lists = omega (arith, c.loop-index-test.true, now.auto.lists) in
    stopped_gives g.row.T-Fault.Denot g.S.Target.written scratch reader.limits told g.S.Scratch.unreadable (Unit {0}) g.T.RowSink.steps
    g.T.RowSink.refuses
    (LiesIn g.S.Target.written scratch reader.limits told (cuts_in c.args.lists.now))
    (AllLack g.S.Target.written scratch reader.limits told id (cuts_in c.args.lists.now)) id it.cuts.now c.in-Err.stop c.args.sink.now
    now.sink c.in-Err.ensures.stops now.invariant.same

pub returns-in-Err-clause-stops : goal.returns-in-Err-clause-stops
returns-in-Err-clause-stops g c =
    let reader = c.args.reader.now in
    let scratch = scratch_of reader.runs.now in
    let told = g.P.Parts.bytes reader.parts.now in
    let id = c.args.id in
    let now = c.loop-index in
    let lists = now.lists in
    let it = get_or lists now.index c.index-lists-index.result in
    let is = ap (get_or lists now.index) c.index-lists-index.is in
    let next = c.seek.new.self in
    let lt : now.index < length lists = omega (arith, c.loop-index-test.true, now.auto.lists) in
    let more = λ (cut : AnyCut) (among : Among it.cuts.now cut). now.invariant.keeps.only cut
    (among_at lists now.index it lt is cut among) in
    unless_sink (StopsIn g.S.Target.written scratch reader.limits told g.S.Scratch.unreadable (cuts_in c.args.lists.now)) c.in-Err.stop
    (stops_more g.S.Target.written scratch reader.limits told g.S.Scratch.unreadable it.cuts.now (cuts_in c.args.lists.now) more
    c.in-Err.stop c.in-Err.ensures.stops)

pub returns-in-Err-clause-well : goal.returns-in-Err-clause-well
returns-in-Err-clause-well g c =
    unless_refused {A = Unit {0}} (g.T.RowSink.well c.loop-index.sink) (Err c.in-Err.stop) c.loop-index.invariant.well

pub loop-index-preserved : goal.loop-index-preserved
loop-index-preserved g c =
    let reader = c.args.reader.now in
    let scratch = scratch_of reader.runs.now in
    let told = g.P.Parts.bytes reader.parts.now in
    let id = c.args.id in
    let now = c.loop-index in
    let lists = now.lists in
    let it = get_or lists now.index c.index-lists-index.result in
    let is = ap (get_or lists now.index) c.index-lists-index.is in
    let next = c.seek.new.self in
    let lt : now.index < length lists = omega (arith, c.loop-index-test.true, now.auto.lists) in
    let keeps = keeps_then id (cuts_in c.args.lists.now) (cuts_in lists) (cuts_in (set lists now.index next)) now.invariant.keeps
    (keeps_at id lists now.index it next lt is c.seek.ensures.keeps) in
    let lacks = subst (λ (b : Bool). Finds g.S.Target.written scratch reader.limits told id b it.cuts.now (open_shown next.cursor))
    c.in-Ok-false.field-0-test c.in-Ok-false.ensures.finds in
    record {
      ready = All-set (IsReady g.S.Target.written g.R.Source.left g.R.Source.health g.R.Source.pulls scratch reader.limits told id) lists
          now.index next c.in-Ok-false.ensures.ready now.invariant.ready;
      keeps = keeps;
      lacks = λ cut among. elim (now.invariant.lacks cut among) [
        | inl there ↦ elim (among_behind lists now.index it next lt is cut there) [
          | inl here ↦ inr (lacks cut here)
          | inr behind ↦ inl behind
        ]
        | inr none ↦ inr none
      ];
      well = now.invariant.well;
      same = now.invariant.same;
    }

pub returns-clause-gives : goal.returns-clause-gives
returns-clause-gives g c =
    let now = c.loop-index in
    inr (
      (λ cut among. elim (now.invariant.lacks cut among) [
        | inl there ↦ absurd (none_behind now.lists now.index (omega (arith, c.loop-index-test.false, now.auto.lists)) cut there)
        | inr none ↦ none
      ]),
      now.invariant.same,
    )
