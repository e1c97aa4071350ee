use Rattle.std.proofs.Common.{refl, sym, ◌∙◌}
use Rattle.hprof_stream.specs.Progress.{place_of}
use Rattle.hprof_stream.proofs.Holding.{IsRest-held, IsRest-passing, not_some}
use Rattle.hprof_stream.proofs.held.count_passed.Goals as goal

pub returns-in-Some-clause-rest : goal.returns-in-Some-clause-rest
returns-in-Some-clause-rest c short walk none =
    let progress = c.args.progress.now in
    let bytes = rw c.deref.ensures.value at c.passing_at.ensures.bytes in
    let passing = rw c.deref.ensures.value at c.passing_at.ensures.passing in
    IsRest-passing progress.limits.max_item (place_of progress) c.args.rest.now.held.items _ bytes c.in-Some.passing short
    c.clear.ensures.held refl (sym passing ∙ c.in-Some.is)

pub returns-in_default-clause-rest : goal.returns-in_default-clause-rest
returns-in_default-clause-rest c short walk none =
    let progress = c.args.progress.now in
    let bytes = rw c.deref.ensures.value at c.passing_at.ensures.bytes in
    let passing = rw c.deref.ensures.value at c.passing_at.ensures.passing in
    IsRest-held progress.limits.max_item (place_of progress) c.args.rest.now.held.items _ bytes short refl none (sym passing
    ∙ not_some c.passing_at.result c.in_default.not-Some) walk
