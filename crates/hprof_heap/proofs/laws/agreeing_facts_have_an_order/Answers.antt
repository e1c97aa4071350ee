use Rattle.hprof_rows.proofs.Inserting.{agreeing-order}
use Rattle.hprof_heap.proofs.laws.agreeing_facts_have_an_order.Goals as goal

pub returns : goal.returns
returns c = agreeing-order
