use Rattle.std.proofs.Common.{refl, subst, sym, arith}
use Rattle.std.proofs.lemmas.List.Elements.{Contains-get_or}
use Rattle.std.specs.Prelude.{Contains}
use Rattle.hprof_merge.specs.OneOf.{holds_either}
use Rattle.hprof_merge.specs.declared.one_of.OneOf.TheVariants.{Second}
use Rattle.hprof_runs.specs.AnyRows.{any_well}
use Rattle.hprof_objects.specs.declared.stretch.Stretch.{Stretch}
use Rattle.hprof_objects.specs.StretchCursor.{CanGoOn}
use Rattle.hprof_objects.proofs.OpeningFaults.{not_there}
use Rattle.hprof_objects.proofs.Opened.{added_all, added_more, added_none, well_more}
use Rattle.hprof_objects.proofs.opening.open_stretches.Goals as goal

pub loop-index-init : goal.loop-index-init
loop-index-init g c = record {
  adds = added_none g.R.Source.left g.R.Source.health g.R.Source.pulls c.args.limits (g.P.Parts.bytes c.args.parts.now)
      c.args.cursors.now.items;
  well = c.requires.well;
}

pub returns-in-Err-clause-fault : goal.returns-in-Err-clause-fault
returns-in-Err-clause-fault g c =
    let list = c.args.stretches.now in
    let stretch = c.index-stretches-index.result in
    record {
      stretch = stretch;
      among = subst (λ (s : Stretch). Contains list s) (sym c.index-stretches-index.is)
          (Contains-get_or list c.loop-index.index stretch c.loop-index-test.true);
      in_part = refl;
      refuses = c.in-Err.ensures.fault;
    }

pub returns-in_default-clause-fault : goal.returns-in_default-clause-fault
returns-in_default-clause-fault g c =
    let list = c.args.stretches.now in
    let stretch = c.index-stretches-index.result in
    record {
      stretch = stretch;
      among = subst (λ (s : Stretch). Contains list s) (sym c.index-stretches-index.is)
          (Contains-get_or list c.loop-index.index stretch c.loop-index-test.true);
      in_part = refl;
      refuses = tt;
    }

pub loop-index-preserved : goal.loop-index-preserved
loop-index-preserved g c =
    let now = c.loop-index in
    record {
      adds = added_more g.R.Source.left g.R.Source.health g.R.Source.pulls c.args.limits (g.P.Parts.bytes c.args.parts.now)
          c.args.stretches.now now.index c.index-stretches-index.result c.in-Ok.cursor c.args.cursors.now.items now.cursors.items
          c.push.new.self.items now.invariant.adds c.loop-index-test.true c.index-stretches-index.is c.in-Ok.ensures.rows
          c.in-Ok-push.ensures.items;
      well = well_more (holds_either any_well (CanGoOn g.R.Source.health)) now.cursors.items c.push.new.self.items (Second c.in-Ok.cursor)
          c.in-Ok-push.ensures.items now.invariant.well c.in-Ok.ensures.can;
    }

pub returns-clause-adds : goal.returns-clause-adds
returns-clause-adds g c =
    let now = c.loop-index in
    added_all g.R.Source.left g.R.Source.health g.R.Source.pulls c.args.limits (g.P.Parts.bytes c.args.parts.now) c.args.stretches.now
    now.index
    c.args.cursors.now.items now.cursors.items now.invariant.adds
    (omega (arith, c.loop-index-test.false, now.auto.index-end))

pub returns-clause-well : goal.returns-clause-well
returns-clause-well g c = c.loop-index.invariant.well

pub returns-then-stretch-count-clause-fault : goal.returns-then-stretch-count-clause-fault
returns-then-stretch-count-clause-fault g c =
    let list = c.args.stretches.now in
    let stretch = c.index-stretches-index.result in
    let told = g.P.Parts.bytes c.args.parts.now in
    record {
      stretch = stretch;
      among = subst (λ (s : Stretch). Contains list s) (sym c.index-stretches-index.is)
          (Contains-get_or list c.loop-index.index stretch c.loop-index-test.true);
      in_part = refl;
      refuses = not_there c.args.limits told stretch (omega (arith, c.count.ensures, c.if-stretch-count.true));
    }
