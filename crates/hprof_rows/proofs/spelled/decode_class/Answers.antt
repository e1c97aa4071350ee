use Rattle.std.proofs.Common.{[], length, sym, ap, ◌∙◌, arith, rules}
use Rattle.std.proofs.lemmas.List.{append-nil}
use Rattle.hprof_items.specs.SubRecord.{dump_bytes}
use Rattle.hprof_rows.proofs.spelled.decode_class.Goals as goal

pub returns-clause-fact : goal.returns-clause-fact
returns-clause-fact c = λ fact spells.
    let len = sym (ap length spells.spelled) in
    (c.in-Ok.ensures.only fact [] spells.fits (spells.spelled ∙ sym (append-nil (dump_bytes c.args.ids fact)))
    (omega (arith, len)) (omega (arith, len))).0

pub returns-clause-lists : goal.returns-clause-lists
returns-clause-lists c = search rules
