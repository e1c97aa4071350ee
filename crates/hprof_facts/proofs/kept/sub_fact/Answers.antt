use Rattle.std.proofs.Common.{[], length, sym, ap, ◌∙◌, arith, Some}
use Rattle.std.proofs.lemmas.List.{append-nil}
use Rattle.hprof_items.specs.SubRecord.{dump_bytes}
use Rattle.hprof_facts.proofs.kept.sub_fact.Goals as goal

pub returns-in-Ok-read_sub_into : goal.returns-in-Ok-read_sub_into
returns-in-Ok-read_sub_into c = record {
  fact = λ fact spells.
      let len = sym (ap length spells.spelled) in
      ap Some (c.in-Ok-read_sub_into.ensures.only fact [] spells.fits (spells.spelled ∙ sym (append-nil (dump_bytes c.args.ids fact)))
      (omega (arith, len)) (omega (arith, len))).0;
}
