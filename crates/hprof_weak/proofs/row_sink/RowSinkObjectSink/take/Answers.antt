use Rattle.std.proofs.Common.{sym, ap, subst}
use Rattle.hprof_items.specs.FactValue.{FactValue, value_of}
use Rattle.hprof_weak.specs.Rows.{IsDoneWith}
use Rattle.hprof_weak.proofs.row_sink.RowSinkObjectSink.take.Goals as goal

pub returns-in_ok-put_weak-clause-takes : goal.returns-in_ok-put_weak-clause-takes
returns-in_ok-put_weak-clause-takes c = λ facts agree put.
    let puts = c.in_ok-put_weak.ensures.puts facts agree put in
    record {
      put = puts.put;
      keeps = puts.keeps;
      done = subst (λ (fact : FactValue). IsDoneWith facts c.put_weak.new.fields.items fact) (sym (ap value_of c.in-Instance.is))
          puts.within;
    }
