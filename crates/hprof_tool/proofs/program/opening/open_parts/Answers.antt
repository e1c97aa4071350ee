use Rattle.std.proofs.Common.{◌≡◌, List, length, sym, ap, subst, ◌∙◌, ◌+◌, rules, All, take}
use Rattle.std.specs.Borrow.{Bor}
use Rattle.std.proofs.lemmas.List.{take_all, length_push}
use Rattle.std.proofs.lemmas.List.Elements.{All-push}
use Rattle.hprof_devices.specs.declared.health.Health.TheVariants.{Well}
use Rattle.hprof_tool.specs.Folder.{AreOpened}
use Rattle.hprof_tool.proofs.Files.{opened_at, cannot_open}
use Rattle.hprof_tool.proofs.program.opening.open_parts.Goals as goal

pub returns-clause-opened : goal.returns-clause-opened
returns-clause-opened g c =
    subst (λ (names : List (Bor (List _))). AreOpened (g.F.Folder.answered c.args.files.now) names c.loop-index.parts.items)
    (take_all c.loop-index.index c.args.names.now c.loop-index-test.false) c.loop-index.invariant.opened

pub returns-clause-count : goal.returns-clause-count
returns-clause-count g c = search rules

pub returns-in-Err-clause-kind : goal.returns-in-Err-clause-kind
returns-in-Err-clause-kind g c = cannot_open (g.F.Folder.answered c.args.files.now) c.args.names.now c.loop-index.index _
    c.loop-index.parts.items c.loop-index-test.true c.in-Err.ensures.fails c.loop-index.invariant.opened

pub loop-index-preserved : goal.loop-index-preserved
loop-index-preserved g c =
    let answered = g.F.Folder.answered c.args.files.now in
    let health = g.F.Part.Source.health in
    let grown = sym c.in_ok-push-in-Ok.ensures.items in
    record {
      opened = subst (λ (parts : List _). AreOpened answered (take (c.loop-index.index + 1) c.args.names.now) parts) grown
          (opened_at answered c.args.names.now c.loop-index.index _ c.loop-index.parts.items c.in-Ok.part c.loop-index-test.true
          c.in-Ok.ensures.opened c.loop-index.invariant.opened);
      well = subst (λ (parts : List _). All (λ part. health part ≡ Well) parts) grown
          (All-push (λ part. health part ≡ Well) c.loop-index.parts.items c.in-Ok.part c.loop-index.invariant.well c.in-Ok.ensures.well);
      count = ap length c.in_ok-push-in-Ok.ensures.items ∙ length_push c.loop-index.parts.items c.in-Ok.part
          ∙ ap (λ n. n + 1) c.loop-index.invariant.count;
    }
