use Rattle.std.proofs.Common.{◌≡◌, ◌++◌, List, ℕ, take, sym, ap, ◌∙◌, take-append-drop, arith, rules}
use Rattle.std.proofs.lemmas.Result.{err_from_is_err_and}
use Rattle.std.proofs.lemmas.Grind.{common_steps}
use Rattle.hprof_devices.proofs.Writes.{Pushed-more, Pushed-stopped}
use Rattle.hprof_devices.proofs.pushing.push_all.Goals as goal

pub returns-in_err-count-clause-bytes : goal.returns-in_err-count-clause-bytes
returns-in_err-count-clause-bytes g c =
    let p = err_from_is_err_and c.from_residual.result c.from_residual.ensures.1 in
    rw p.1 (Pushed-stopped _ _ _ _ _ c.loop-rest.invariant.pushed c.in_err-count.ensures.bytes)

pub loop-rest-preserved : goal.loop-rest-preserved
loop-rest-preserved g c =
    let rest = c.loop-rest.rest.now in
    let count = c.in_ok-count.count in
    let split : rest ≡ take count rest ++ c.split_at.result.1.now =
    sym (take-append-drop count rest) ∙ ap (λ (r : List ℕ). take count rest ++ r) (sym c.split_at.ensures.back) in
    record {
      pushed = Pushed-more _ _ _ _ rest (take count rest) c.split_at.result.1.now c.loop-rest.invariant.pushed split
          c.in_ok-count.ensures.bytes;
      well = c.in_ok-count.ensures.health;
    }

pub returns-clause-bytes : goal.returns-clause-bytes
returns-clause-bytes g c = grind (arith, common_steps)

pub returns-clause-health : goal.returns-clause-health
returns-clause-health g c = search rules

pub returns-in_err-count-clause-health : goal.returns-in_err-count-clause-health
returns-in_err-count-clause-health g c = search rules
