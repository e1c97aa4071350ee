use Rattle.hprof_stream.proofs.ItemSteps.{header_no_end}
use Rattle.hprof_stream.proofs.item.first_item.Goals as goal

pub returns-clause-place : goal.returns-clause-place
returns-clause-place c =
    λ fact. (
      tt,
      header_no_end c.in_ok-header.header c.args.bytes.now _ (c.read_header.ensures.found c.in_ok-header.header c.in_ok-header.len
          c.in_ok-header.was).0,
    )
