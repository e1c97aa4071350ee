use Rattle.std.specs.Prelude.{IfOk}
use Rattle.std.proofs.Common.{◌≡◌, ℕ, ◌/◌, ◌++◌, length, sym, subst, codes, ◌∙◌}
use Rattle.std.specs.Fmt.{decimal}
use Rattle.std.specs.String.{string_bytes}
use Rattle.hprof_values.specs.declared.ids.IdSize.{IdSize}
use Rattle.hprof_values.specs.Basic.{width_of_basic}
use Rattle.hprof_heap.specs.declared.object_dump.ObjectDump.{ObjectDump}
use Rattle.hprof_heap.specs.ObjectDump.{fact_of_object}
use Rattle.hprof_naming.specs.TypeWord.{type_word}
use Rattle.hprof_describe.specs.References.{object_words}
use Rattle.hprof_describe.proofs.references.object_words.Goals as goal

pub returns-in-ObjArray : goal.returns-in-ObjArray
returns-in-ObjArray c = λ found are.
    let it = c.in-ObjArray in
    let result = c.elements_words.result in
    subst (λ (row : ObjectDump). IfOk result (λ text. string_bytes text ≡ object_words found c.args.id (fact_of_object row))) (sym it.is)
    (subst (λ (n : ℕ). IfOk result (λ text. string_bytes text ≡ found.naming.label it.class ++ codes " of " ++ decimal n)) c.len.ensures
    (c.elements_words.ensures found.naming are.is_naming))

pub returns-in-PrimArray : goal.returns-in-PrimArray
returns-in-PrimArray c = λ found are.
    let it = c.in-PrimArray in
    let result = c.values_words.result in
    subst (λ (row : ObjectDump). IfOk result (λ text. string_bytes text ≡ object_words found c.args.id (fact_of_object row))) (sym it.is)
    (subst (λ (size : IdSize). IfOk result (λ text. string_bytes text
    ≡ type_word it.elem ++ codes "[] of " ++ decimal (length it.bytes.now / width_of_basic size it.elem)))
    (c.id_size.ensures.value ∙ sym are.ids_are)
    (subst (λ (n : ℕ). IfOk result (λ text. string_bytes text ≡ type_word it.elem ++ codes "[] of " ++ decimal n)) c.values_len.ensures
    c.values_words.ensures))
