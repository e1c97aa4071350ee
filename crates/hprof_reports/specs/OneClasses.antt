-- The report `classes` is one text.
use Rattle.std.proofs.Common.{◌≡◌, ℕ, List, sym, ap, ◌∙◌}
use Rattle.std.specs.Cmp.{IsTotalOrder}
use Rattle.std.proofs.lemmas.Cmp.{nat_cmp_total, on_total}
use Rattle.hprof_values.specs.declared.ids.IdSize.{IdSize}
use Rattle.hprof_items.specs.FactValue.{FactValue}
use Rattle.hprof_heap.specs.Classes.{ClassValue}
use Rattle.hprof_histogram.proofs.Members.{Contains-from_in, in_from_Contains, one_sorted}
use Rattle.hprof_naming.specs.Naming.{Naming}
use Rattle.hprof_naming.proofs.Namings.{one_naming}
use Rattle.hprof_reports.specs.ClassDumps.{AreClassDumps, dump_cmp}
use Rattle.hprof_reports.specs.ClassesText.{IsClassesText, classes_text}

dump_cmp_total : IsTotalOrder dump_cmp
dump_cmp_total = on_total (λ (dump : ClassValue). dump.id) nat_cmp_total

-- facts have one list of class dumps
one_list : (facts : List FactValue) (one other : List ClassValue) → AreClassDumps facts one → AreClassDumps facts other → one ≡ other
one_list facts one other are too =
    one_sorted dump_cmp_total one other are.ascend too.ascend
    (λ dump is. in_from_Contains other dump ((too.exact dump).1 ((are.exact dump).0 (Contains-from_in one dump is))))
    (λ dump is. in_from_Contains one dump ((are.exact dump).1 ((too.exact dump).0 (Contains-from_in other dump is))))

pub one_classes_text : (ids : IdSize) (facts : List FactValue) (one other : List ℕ) → IsClassesText ids facts one
    → IsClassesText ids facts other → one ≡ other
one_classes_text ids facts one other is is_too =
    let naming = one_naming facts is.agree is.naming is_too.naming is.is_naming is_too.is_naming in
    let dumps = one_list facts is.dumps is_too.dumps is.are_dumps is_too.are_dumps in
    is.is ∙ ap (λ (n : Naming). classes_text n ids facts is.dumps) naming
    ∙ ap (λ (l : List ClassValue). classes_text is_too.naming ids facts l) dumps ∙ sym is_too.is
