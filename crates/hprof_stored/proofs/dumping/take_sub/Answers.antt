use Rattle.std.proofs.Common.{rules, Err, ◌≡◌, ℕ, List, subst}
use Rattle.hprof_items.specs.SubRecord.{dump_bytes}
use Rattle.hprof_rows.specs.SubRow.{sub_fact}
use Rattle.hprof_segments.specs.Taking.{EndsTaking}
use Rattle.hprof_segments.specs.Writer.{held_bytes}
use Rattle.hprof_stored.proofs.Subs.{none_more, one_more}
use Rattle.hprof_stored.proofs.dumping.take_sub.Goals as goal

pub returns-then-is_err-clause-taken : goal.returns-then-is_err-clause-taken
returns-then-is_err-clause-taken g c = λ start subs has more.
    none_more start (g.W.Target.written c.args.target.now) (held_bytes c.args.writer.now) subs
    (dump_bytes c.args.ids (sub_fact c.args.ids c.args.row)) has more

pub returns-then-is_err-2-clause-taken : goal.returns-then-is_err-2-clause-taken
returns-then-is_err-2-clause-taken g c = λ start subs has more.
    none_more start (g.W.Target.written c.args.target.now) (held_bytes c.args.writer.now) subs
    (dump_bytes c.args.ids (sub_fact c.args.ids c.args.row)) has more

pub returns-in-Err-clause-taken : goal.returns-in-Err-clause-taken
returns-in-Err-clause-taken g c = λ start subs has.
    let new = g.W.Target.written c.take.new.target in
    let held = held_bytes c.take.new.self in
    let sub : List ℕ = dump_bytes c.args.ids (sub_fact c.args.ids c.args.row) in
    let same : c.deref.result.now ≡ sub = search rules in
    one_more start new held subs sub c.in-Err.fault
    (subst (λ (l : List ℕ). EndsTaking start new held subs l (Err c.in-Err.fault)) same (c.in-Err.ensures.taken start subs has))
