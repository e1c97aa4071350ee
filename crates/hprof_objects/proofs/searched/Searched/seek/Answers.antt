use Rattle.std.proofs.Common.{List, Some, inl, refl, sym, subst, ◌∙◌, arith}
use Rattle.hprof_runs.specs.Runs.{scratch_of}
use Rattle.hprof_objects.specs.declared.any_cut.AnyCut.{AnyCut}
use Rattle.hprof_objects.specs.AnyCuts.{Among, AreApart}
use Rattle.hprof_objects.specs.Searched.{KeepsFrom, StandsOpen}
use Rattle.hprof_objects.proofs.LookedUp.{finds_above, finds_none, finds_open, first_is, is_open, keeps_passed, ready_behind, stands_then}
use Rattle.hprof_objects.proofs.LookedUp.{stops_open}
use Rattle.hprof_objects.proofs.PassedOn.{if_error}
use Rattle.hprof_objects.proofs.searched.Searched.seek.Goals as goal

pub returns-in_default-clause-finds : goal.returns-in_default-clause-finds
returns-in_default-clause-finds g c =
    let reader = c.args.reader.now in
    let scratch = scratch_of reader.runs.now in
    let told = g.P.Parts.bytes reader.parts.now in
    let old = c.args.self.now in
    let new = c.pass_below.new.self in
    let keeps = keeps_passed c.args.id old new c.pass_below.ensures.passes in
    finds_none g.S.Target.written g.S.Scratch.unreadable g.R.Source.left g.R.Source.health g.R.Source.pulls scratch reader.limits told
    c.args.id old.cuts.now new.cuts.now keeps c.in_default.ensures.value

pub returns-then-first-id-clause-ready : goal.returns-then-first-id-clause-ready
returns-then-first-id-clause-ready g c =
    let reader = c.args.reader.now in
    let scratch = scratch_of reader.runs.now in
    let told = g.P.Parts.bytes reader.parts.now in
    let old = c.args.self.now in
    let new = c.pass_below.new.self in
    ready_behind g.S.Target.written g.R.Source.left g.R.Source.health g.R.Source.pulls scratch reader.limits told c.args.id old new
    c.requires
    c.pass_below.ensures.passes

pub returns-then-first-id-clause-keeps : goal.returns-then-first-id-clause-keeps
returns-then-first-id-clause-keeps g c =
    keeps_passed c.args.id c.args.self.now c.pass_below.new.self c.pass_below.ensures.passes

pub returns-then-first-id-clause-finds : goal.returns-then-first-id-clause-finds
returns-then-first-id-clause-finds g c =
    let reader = c.args.reader.now in
    let scratch = scratch_of reader.runs.now in
    let told = g.P.Parts.bytes reader.parts.now in
    let old = c.args.self.now in
    let new = c.pass_below.new.self in
    let keeps = keeps_passed c.args.id old new c.pass_below.ensures.passes in
    let ready = ready_behind g.S.Target.written g.R.Source.left g.R.Source.health g.R.Source.pulls scratch reader.limits told c.args.id
    old new
    c.requires c.pass_below.ensures.passes in
    let first = first_is new.cuts.now c.in-Some.cut.now c.in-Some.ensures.value in
    finds_above g.S.Target.written g.S.Scratch.unreadable g.R.Source.left g.R.Source.health g.R.Source.pulls scratch reader.limits told
    c.args.id old.cuts.now new.cuts.now keeps c.in-Some.cut.now first.0 first.1 ready.apart c.pass_below.ensures.from
    (omega (arith, c.if-first-id.true, c.first-2.ensures))

pub open_first-requires-clause-ready : goal.open_first-requires-clause-ready
open_first-requires-clause-ready g c =
    let reader = c.args.reader.now in
    let scratch = scratch_of reader.runs.now in
    let told = g.P.Parts.bytes reader.parts.now in
    let old = c.args.self.now in
    let new = c.pass_below.new.self in
    ready_behind g.S.Target.written g.R.Source.left g.R.Source.health g.R.Source.pulls scratch reader.limits told c.args.id old new
    c.requires
    c.pass_below.ensures.passes

pub returns-in_err-open_first-clause-keeps : goal.returns-in_err-open_first-clause-keeps
returns-in_err-open_first-clause-keeps g c =
    subst (λ (l : List AnyCut). KeepsFrom c.args.id c.args.self.now.cuts.now l) (sym c.open_first.ensures.cuts)
    (keeps_passed c.args.id c.args.self.now c.pass_below.new.self c.pass_below.ensures.passes)

pub returns-in_err-open_first-clause-stops : goal.returns-in_err-open_first-clause-stops
returns-in_err-open_first-clause-stops g c =
    let new = c.pass_below.new.self in
    let keeps = keeps_passed c.args.id c.args.self.now new c.pass_below.ensures.passes in
    let first = first_is new.cuts.now c.in-Some.cut.now c.in-Some.ensures.value in
    if_error _ c.from_residual.result c.in_err-open_first.field-0.0
    (record {
      cut = c.in-Some.cut.now;
      among = keeps.only c.in-Some.cut.now (subst (λ (l : List AnyCut). Among l c.in-Some.cut.now) (sym first.1) (inl refl));
      tells = c.in_err-open_first.ensures.tells;
    })
    c.from_residual.ensures.1

pub returns-in-Ok-clause-ready : goal.returns-in-Ok-clause-ready
returns-in-Ok-clause-ready g c =
    let reader = c.args.reader.now in
    let scratch = scratch_of reader.runs.now in
    let told = g.P.Parts.bytes reader.parts.now in
    let old = c.args.self.now in
    let new = c.pass_below.new.self in
    let ready = ready_behind g.S.Target.written g.R.Source.left g.R.Source.health g.R.Source.pulls scratch reader.limits told c.args.id
    old new
    c.requires c.pass_below.ensures.passes in
    let first = first_is new.cuts.now c.in-Some.cut.now c.in-Some.ensures.value in
    let opened = is_open g.S.Target.written g.R.Source.left g.R.Source.health g.R.Source.pulls scratch reader.limits told c.args.id
    c.in-Some.cut.now c.open_first.new.self.cursor c.in-Some-cursor.cursor c.in_ok-open_first.ensures.open c.in-Some-cursor.is in
    let up = c.in-Ok.ensures.shows in
    let stands = stands_then g.S.Target.written g.S.Scratch.unreadable g.R.Source.left g.R.Source.health g.R.Source.pulls scratch
    reader.limits told c.args.id
    c.in-Some.cut.now up.passed c.in-Some-cursor.cursor c.go_up_to.new.cursor up.shows up.below opened.1 in
    record {
      apart = subst (λ (l : List AnyCut). AreApart l) (sym c.open_first.ensures.cuts) ready.apart;
      can = c.in-Ok.ensures.well;
      stands = subst (λ (l : List AnyCut). StandsOpen g.S.Target.written g.R.Source.left g.R.Source.health g.R.Source.pulls scratch
          reader.limits told c.args.id (Some c.go_up_to.new.cursor) l) (sym (c.open_first.ensures.cuts ∙ first.1)) stands;
    }

pub returns-in-Ok-clause-keeps : goal.returns-in-Ok-clause-keeps
returns-in-Ok-clause-keeps g c =
    subst (λ (l : List AnyCut). KeepsFrom c.args.id c.args.self.now.cuts.now l) (sym c.open_first.ensures.cuts)
    (keeps_passed c.args.id c.args.self.now c.pass_below.new.self c.pass_below.ensures.passes)

pub returns-in-Ok-clause-finds : goal.returns-in-Ok-clause-finds
returns-in-Ok-clause-finds g c =
    let reader = c.args.reader.now in
    let scratch = scratch_of reader.runs.now in
    let told = g.P.Parts.bytes reader.parts.now in
    let old = c.args.self.now in
    let new = c.pass_below.new.self in
    let keeps = keeps_passed c.args.id old new c.pass_below.ensures.passes in
    let ready = ready_behind g.S.Target.written g.R.Source.left g.R.Source.health g.R.Source.pulls scratch reader.limits told c.args.id
    old new
    c.requires c.pass_below.ensures.passes in
    let first = first_is new.cuts.now c.in-Some.cut.now c.in-Some.ensures.value in
    let opened = is_open g.S.Target.written g.R.Source.left g.R.Source.health g.R.Source.pulls scratch reader.limits told c.args.id
    c.in-Some.cut.now c.open_first.new.self.cursor c.in-Some-cursor.cursor c.in_ok-open_first.ensures.open c.in-Some-cursor.is in
    let up = c.in-Ok.ensures.shows in
    let stands = stands_then g.S.Target.written g.S.Scratch.unreadable g.R.Source.left g.R.Source.health g.R.Source.pulls scratch
    reader.limits told c.args.id
    c.in-Some.cut.now up.passed c.in-Some-cursor.cursor c.go_up_to.new.cursor up.shows up.below opened.1 in
    finds_open g.S.Target.written g.S.Scratch.unreadable g.R.Source.left g.R.Source.health g.R.Source.pulls scratch reader.limits told
    c.args.id old.cuts.now new.cuts.now keeps c.in-Some.cut.now first.0 first.1 ready.apart c.pass_below.ensures.from c.in-Ok.found
    c.go_up_to.new.cursor c.in-Ok.ensures.found stands

pub returns-in-Err-clause-keeps : goal.returns-in-Err-clause-keeps
returns-in-Err-clause-keeps g c =
    subst (λ (l : List AnyCut). KeepsFrom c.args.id c.args.self.now.cuts.now l) (sym c.open_first.ensures.cuts)
    (keeps_passed c.args.id c.args.self.now c.pass_below.new.self c.pass_below.ensures.passes)

pub returns-in-Err-clause-stops : goal.returns-in-Err-clause-stops
returns-in-Err-clause-stops g c =
    let reader = c.args.reader.now in
    let scratch = scratch_of reader.runs.now in
    let told = g.P.Parts.bytes reader.parts.now in
    let old = c.args.self.now in
    let new = c.pass_below.new.self in
    let keeps = keeps_passed c.args.id old new c.pass_below.ensures.passes in
    let first = first_is new.cuts.now c.in-Some.cut.now c.in-Some.ensures.value in
    let opened = is_open g.S.Target.written g.R.Source.left g.R.Source.health g.R.Source.pulls scratch reader.limits told c.args.id
    c.in-Some.cut.now c.open_first.new.self.cursor c.in-Some-cursor.cursor c.in_ok-open_first.ensures.open c.in-Some-cursor.is in
    stops_open g.S.Target.written g.S.Scratch.unreadable g.R.Source.left g.R.Source.health g.R.Source.pulls scratch reader.limits told
    g.row.F.Denot c.args.id old.cuts.now c.in-Some.cut.now c.in-Some-cursor.cursor c.go_up_to.new.cursor c.in-Err.fault
    c.cut_stop.result (keeps.only c.in-Some.cut.now (subst (λ (l : List AnyCut). Among l c.in-Some.cut.now) (sym first.1) (inl refl)))
    c.cut_stop.ensures opened.1 c.in-Err.ensures.fails
