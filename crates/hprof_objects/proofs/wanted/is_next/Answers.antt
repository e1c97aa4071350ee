use Rattle.hprof_objects.proofs.WantedRows.{first_is_key}
use Rattle.hprof_objects.proofs.wanted.is_next.Goals as goal

pub returns-in-Some : goal.returns-in-Some
returns-in-Some c =
    first_is_key c.args.wanted.now c.in-Some.first.now c.args.key c.in-Some.ensures.value c.requires.rises c.requires.from
