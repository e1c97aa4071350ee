use Rattle.std.proofs.Common.{◌≡◌, List, subst, sym, ap, ◌∙◌}
use Rattle.std.specs.Prelude.{All, IfErr}
use Rattle.hprof_runs.specs.Runs.{scratch_of}
use Rattle.hprof_objects.specs.declared.any_cut.AnyCut.{AnyCut}
use Rattle.hprof_objects.specs.Giving.{AreHeld, UnlessOfSink}
use Rattle.hprof_objects.specs.Searched.{StopsIn}
use Rattle.hprof_objects.specs.SearchedLists.{IsFresh, cuts_in}
use Rattle.hprof_objects.proofs.GivenAll.{fresh_ready}
use Rattle.hprof_objects.proofs.PickedAgreed.{agreed_change, agreed_reads, all_cuts, are_held, picks_agreed}
use Rattle.hprof_objects.proofs.WantedRows.{rises}
use Rattle.hprof_objects.proofs.stored_objects.StoredObjects.pick_agreed.Goals as goal

pub give_wanted-requires-clause-ready : goal.give_wanted-requires-clause-ready
give_wanted-requires-clause-ready g c =
    fresh_ready g.S.Target.written g.R.Source.left g.R.Source.health g.R.Source.pulls (scratch_of c.args.self.now.runs) c.args.limits
    (g.P.Parts.bytes c.args.parts.now) 0 c.deref_mut.result.now (subst (All IsFresh) (sym c.deref_mut.ensures.value)
    c.in-Ok.ensures.fresh)

pub give_wanted-requires-clause-rises : goal.give_wanted-requires-clause-rises
give_wanted-requires-clause-rises g c =
    rises c.args.wanted.now c.requires.ascend

pub returns-clause-objects : goal.returns-clause-objects
returns-clause-objects g c =
    let cuts : cuts_in c.deref_mut.result.now ≡ all_cuts c.args.self.now =
    ap (λ l. cuts_in l) c.deref_mut.ensures.value ∙ c.in-Ok.ensures.same ∙ c.requires.lists in
    λ reads again.
    let union = c.requires.agree reads again in
    let told = g.P.Parts.bytes c.args.parts.now in
    picks_agreed g.S.Target.written g.S.Target.health c.args.limits told c.args.self.now reads again union.0 union.1 g.T.RowSink.steps
    g.T.RowSink.refuses c.args.wanted.now c.args.sink.now c.give_wanted.new.sink c.give_wanted.result
    (c.give_wanted.ensures.picks union.0 (subst (λ (l : List AnyCut). AreHeld g.S.Target.written (scratch_of c.args.self.now.runs)
    c.args.limits told c.args.self.now.rows l union.0) (sym cuts)
    (are_held g.S.Target.written g.S.Target.health c.args.limits told c.args.self.now reads again union.0 union.1)))

pub returns-clause-again : goal.returns-clause-again
returns-clause-again g c =
    let cuts : cuts_in c.deref_mut.result.now ≡ all_cuts c.args.self.now =
    ap (λ l. cuts_in l) c.deref_mut.ensures.value ∙ c.in-Ok.ensures.same ∙ c.requires.lists in
    let told = g.P.Parts.bytes c.args.parts.now in
    agreed_change g.S.Target.written g.S.Target.health c.args.limits told c.args.self.now g.row.T-Fault.Denot g.S.Scratch.unreadable
    c.give_wanted.result (subst (λ (l : List AnyCut). IfErr c.give_wanted.result (UnlessOfSink (StopsIn g.S.Target.written
    (scratch_of c.args.self.now.runs) c.args.limits told g.S.Scratch.unreadable l))) cuts c.give_wanted.ensures.stops)

pub returns-clause-read : goal.returns-clause-read
returns-clause-read g c =
    let cuts : cuts_in c.deref_mut.result.now ≡ all_cuts c.args.self.now =
    ap (λ l. cuts_in l) c.deref_mut.ensures.value ∙ c.in-Ok.ensures.same ∙ c.requires.lists in
    let told = g.P.Parts.bytes c.args.parts.now in
    agreed_reads g.S.Target.written g.S.Target.health c.args.limits told c.args.self.now g.row.T-Fault.Denot g.S.Scratch.unreadable
    c.give_wanted.result (subst (λ (l : List AnyCut). IfErr c.give_wanted.result (UnlessOfSink (StopsIn g.S.Target.written
    (scratch_of c.args.self.now.runs) c.args.limits told g.S.Scratch.unreadable l))) cuts c.give_wanted.ensures.stops)
