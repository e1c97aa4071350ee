use Rattle.std.proofs.Common.{◌∙◌, ap, string_bytes, sym}
use Rattle.std.specs.BTreeMap.{get_by_text}
use Rattle.hprof_by_label.proofs.texts.Texts.number_of.Goals as goal

pub returns-in-Some-clause-number : goal.returns-in-Some-clause-number
returns-in-Some-clause-number c =
    c.requires.only (string_bytes c.args.label) c.in-Some.number
    (sym (ap (get_by_text c.args.self.now.numbers) c.as_str.ensures.value) ∙ sym c.find.ensures ∙ c.in-Some.is)

pub add-requires-clause-new : goal.add-requires-clause-new
add-requires-clause-new c =
    sym (ap (get_by_text c.args.self.now.numbers) c.as_str.ensures.value) ∙ sym c.find.ensures ∙ c.in-None.is
