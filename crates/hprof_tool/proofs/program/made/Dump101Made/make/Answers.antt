use Rattle.std.specs.Prelude.{⊤}
use Rattle.hprof_engine.specs.Joining.{fault_of, none_known}
use Rattle.hprof_engine.specs.Joining101.{IsDump101Text, Refuses101}
use Rattle.hprof_engine.specs.Makes.{IsMadeOf}
use Rattle.hprof_stored.specs.Storing.{HaveObject}
use Rattle.hprof_tool.specs.Program.{usual_limits}
use Rattle.hprof_tool.proofs.Weaker.{weaker}
use Rattle.hprof_tool.proofs.program.made.Dump101Made.make.Goals as goal

pub returns-in-None : goal.returns-in-None
returns-in-None g c =
    weaker g.R.Source.left g.R.Source.health g.R.Source.pulls none_known HaveObject (λ facts none. absurd none) usual_limits
    (IsMadeOf IsDump101Text) Refuses101 (λ count. ⊥) (λ count. ⊤) ⊥ ⊤ ⊥ ⊤ (λ count none. tt) (λ none. tt) (λ none. tt)
    g.W.Target.written g.W.Target.health c.args.readers.now c.make_of_heap.new.readers c.args.target.now c.make_of_heap.new.target
    (fault_of c.make_of_heap.result) c.make_of_heap.ensures
