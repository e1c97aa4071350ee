use Rattle.hprof_items.proofs.Headers.{header_found, header_again}
use Rattle.hprof_items.proofs.laws.headers_read_back.Goals as goal

pub returns : goal.returns
returns c = (header_again, header_found)
