use Rattle.std.proofs.Common.{◌≡◌, ℕ, List, ◌∷◌, Option, Some, sym, ap, subst, ◌∙◌}
use Rattle.hprof_values.specs.declared.ids.IdSize.{IdSize}
use Rattle.hprof_values.specs.declared.sub_tag.SubTag.{SubTag}
use Rattle.hprof_values.specs.SubTag.{tag_of_code}
use Rattle.hprof_items.specs.FactValue.{FactValue}
use Rattle.hprof_rows.specs.Kept.{KeepsObject}
use Rattle.hprof_rows.proofs.KeptObjects.{IsReadAs, object_read}
use Rattle.hprof_rows.proofs.kept.decode_object_into.Goals as goal

-- what is read behind the tag that was found
reads : (ids : IdSize) (id : ℕ) (fact : FactValue) (kept behind : List ℕ) (tag : ℕ) (answer : Option SubTag) (is : SubTag)
    → KeepsObject ids id fact kept → kept ≡ tag ∷ behind → answer ≡ tag_of_code tag
    → answer ≡ Some is → IsReadAs ids id fact (Some is) behind
reads ids id fact kept behind tag answer is keeps parts exact e =
    subst (λ (t : Option SubTag). IsReadAs ids id fact t behind) (sym exact ∙ e)
    (object_read ids id fact tag behind (subst (KeepsObject ids id fact) parts keeps))

pub kept_obj_array-requires-clause-whole : goal.kept_obj_array-requires-clause-whole
kept_obj_array-requires-clause-whole c =
    (reads c.args.ids c.args.id c.requires.0 c.args.kept.now c.in-Some.bytes.now c.in-Some.tag.now c.from_code.result _
    c.requires.1 c.in-Some.ensures.cases.0 c.from_code.ensures.exact
    (c.in-Some-ObjArrayDump.is ∙ ap (λ (t : SubTag). Some t) c.in-Some-ObjArrayDump.field-0-is)).1

pub kept_prim_array-requires-clause-type_is : goal.kept_prim_array-requires-clause-type_is
kept_prim_array-requires-clause-type_is c =
    let read = reads c.args.ids c.args.id c.requires.0 c.args.kept.now c.in-Some.bytes.now c.in-Some.tag.now c.from_code.result _
    c.requires.1 c.in-Some.ensures.cases.0 c.from_code.ensures.exact
    (c.in-Some-PrimArrayDump.is ∙ ap (λ (t : SubTag). Some t) c.in-Some-PrimArrayDump.field-0-is) in
    (read.1.0, read.1.1)

pub returns-in-Some-InstanceDump-clause-fact : goal.returns-in-Some-InstanceDump-clause-fact
returns-in-Some-InstanceDump-clause-fact c = λ value keeps.
    c.kept_instance.ensures.fact
    ∙ (reads c.args.ids c.args.id value c.args.kept.now c.in-Some.bytes.now c.in-Some.tag.now c.from_code.result _
    keeps c.in-Some.ensures.cases.0 c.from_code.ensures.exact
    (c.in-Some-InstanceDump.is ∙ ap (λ (t : SubTag). Some t) c.in-Some-InstanceDump.field-0-is)).1

pub returns-in-Some-ObjArrayDump-clause-fact : goal.returns-in-Some-ObjArrayDump-clause-fact
returns-in-Some-ObjArrayDump-clause-fact c = λ value keeps.
    c.kept_obj_array.ensures.fact
    ∙ (reads c.args.ids c.args.id value c.args.kept.now c.in-Some.bytes.now c.in-Some.tag.now c.from_code.result _
    keeps c.in-Some.ensures.cases.0 c.from_code.ensures.exact
    (c.in-Some-ObjArrayDump.is ∙ ap (λ (t : SubTag). Some t) c.in-Some-ObjArrayDump.field-0-is)).2

pub returns-in-Some-PrimArrayDump-clause-fact : goal.returns-in-Some-PrimArrayDump-clause-fact
returns-in-Some-PrimArrayDump-clause-fact c = λ value keeps.
    let read = reads c.args.ids c.args.id value c.args.kept.now c.in-Some.bytes.now c.in-Some.tag.now c.from_code.result _
    keeps c.in-Some.ensures.cases.0 c.from_code.ensures.exact
    (c.in-Some-PrimArrayDump.is ∙ ap (λ (t : SubTag). Some t) c.in-Some-PrimArrayDump.field-0-is) in
    c.kept_prim_array.ensures.fact read.1.0 read.1.1 ∙ read.1.2
