use Rattle.std.proofs.Common.{◌≡◌, ◌∷◌, [], List, false, subst, sym, refl, arith, rules}
use Rattle.hprof_merge.specs.Rows.{ByteRow}
use Rattle.hprof_merge.specs.Run.{Runs}
use Rattle.hprof_objects.specs.declared.object_fault.ObjectFault.{ObjectFault}
use Rattle.hprof_objects.specs.declared.stretch_fault.StretchFault.TheVariants.{Changed}
use Rattle.hprof_objects.specs.PickedCuts.{TellsCuts}
use Rattle.hprof_objects.proofs.OpeningFaults.{not_there}
use Rattle.hprof_objects.proofs.PickedCuts.{cut_passed, cut_refuses, cut_tells}
use Rattle.hprof_objects.proofs.picking.pick_cut.Goals as goal

-- none of its objects is wanted
pub returns-then-not-has_up_to-clause-rows : goal.returns-then-not-has_up_to-clause-rows
returns-then-not-has_up_to-clause-rows g c = λ reads rows it same.
    let none : c.has_up_to.result ≡ false = search rules in
    subst (λ (l : List ByteRow). Runs g.T.RowSink.steps c.args.sink.now l c.args.sink.now)
    (sym (cut_passed c.args.limits reads c.args.cut.now rows c.args.wanted.now (c.has_up_to.ensures none) it)) refl

pub returns-then-stretch-count-clause-tells : goal.returns-then-stretch-count-clause-tells
returns-then-stretch-count-clause-tells g c =
    let cut = c.args.cut.now in
    let told = g.P.Parts.bytes c.args.parts.now in
    subst (λ (s : ObjectFault g.row.T-Fault.Denot). TellsCuts c.args.limits told (cut ∷ []) s) (sym c.part_stop.ensures)
    (cut_refuses g.row.T-Fault.Denot c.args.limits told cut Changed
    (not_there c.args.limits told cut.stretch (omega (arith, c.count.ensures, c.if-stretch-count.true))))

pub returns-in-Err-clause-tells : goal.returns-in-Err-clause-tells
returns-in-Err-clause-tells g c =
    let cut = c.args.cut.now in
    let told = g.P.Parts.bytes c.args.parts.now in
    subst (λ (s : ObjectFault g.row.T-Fault.Denot). TellsCuts c.args.limits told (cut ∷ []) s) (sym c.part_stop-in-Err.ensures)
    (cut_refuses g.row.T-Fault.Denot c.args.limits told cut c.in-Err.fault c.in-Err.ensures.fault)

pub returns-clause-rows : goal.returns-clause-rows
returns-clause-rows g c = λ reads rows it same.
    c.pick_rows.ensures.rows rows (c.args.limits.max_reads, c.in-Ok.ensures.rows reads rows it.is same) it.is.stands.count it.last

pub returns-clause-tells : goal.returns-clause-tells
returns-clause-tells g c =
    cut_tells g.R.Source.left g.R.Source.health g.R.Source.pulls c.args.limits (g.P.Parts.bytes c.args.parts.now) c.args.cut.now
    c.in-Ok.cursor c.in-Ok.ensures.rows c.pick_rows.result c.pick_rows.ensures.tells
