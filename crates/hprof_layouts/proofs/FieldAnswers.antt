-- An object has one answer of `fields`.
use Rattle.std.specs.Prelude.{IfOk, if◌then◌else◌}
use Rattle.std.proofs.Common.{◌≡◌, ℕ, ◌==◌, Bool, true, false, cond, List, length, Result, Ok, Err, refl, sym, ap, subst, ◌∙◌}
use Rattle.std.proofs.Common.{inl, inr, arith}
use Rattle.std.proofs.lemmas.Bool.{eqb-true, eq-eqb, cases_order, false_from_ne_true}
use Rattle.hprof_values.specs.declared.ids.IdSize.{IdSize}
use Rattle.hprof_values.specs.declared.basic.Basic.{Basic}
use Rattle.hprof_items.specs.FactValue.{FactValue, Name, Load, Unload, Frame, Trace, Start, End, Rooted, Class, Instance, ObjArray}
use Rattle.hprof_items.specs.FactValue.{PrimArray}
use Rattle.hprof_rows.specs.declared.key.Key.TheVariants as keys
use Rattle.hprof_rows.specs.Conflict.{IsConsistent}
use Rattle.hprof_rows.specs.Facts.{Has}
use Rattle.hprof_heap.specs.Objects.{IsObject, HasInstance, HasNoObject}
use Rattle.hprof_heap.proofs.ClassFacts.{OneDumpEach, one_dump_each}
use Rattle.hprof_heap.proofs.ObjectFacts.{Found, NotFound, look_up}
use Rattle.hprof_layouts.specs.declared.slot.Slot.{Slot}
use Rattle.hprof_layouts.specs.declared.field_value.Fields.{Fields}
use Rattle.hprof_layouts.specs.Layout.{LayoutValue, Known, IsLayout}
use Rattle.hprof_layouts.specs.Layout.{Missing as MissingLayout, Cyclic as CyclicLayout}
use Rattle.hprof_layouts.specs.Fields.{FieldsValue, Values, Missing, Cyclic, WidthDiffers, NotAnInstance, NoObject}
use Rattle.hprof_layouts.specs.Fields.{AreFields, AreInstanceFields, OfInstance, HasArray, OfObjects, OfNumbers, fields_value, values_in}
use Rattle.hprof_layouts.specs.Fields.{width_of_slots}
use Rattle.hprof_layouts.proofs.Layouts.{at_most_one, at_least_one}

-- ---- the fields of an instance

-- what a layout and bytes come to
abbrev fields_by : IdSize → LayoutValue → List ℕ → FieldsValue
fields_by ids (Known slots) bytes =
    if width_of_slots ids slots == length bytes then Values (values_in ids slots bytes) else WidthDiffers (width_of_slots ids slots)
fields_by ids (MissingLayout class) bytes = Missing class
fields_by ids CyclicLayout bytes = Cyclic

-- the layout of the class and the bytes come to these fields
record ByLayout (ids : IdSize) (facts : List FactValue) (class : ℕ) (bytes : List ℕ) (fields : FieldsValue) : Type 0 where
  pub layout : LayoutValue
  pub layout_is : IsLayout facts class layout
  pub fields_are : fields ≡ fields_by ids layout bytes

module _ (ids : IdSize) (facts : List FactValue) (class : ℕ) (bytes : List ℕ) where
  -- what is chosen by the width
  chosen : (slots : List Slot) (t : Bool) → (width_of_slots ids slots == length bytes) ≡ t
      → cond t (Values (values_in ids slots bytes)) (WidthDiffers (width_of_slots ids slots)) ≡ fields_by ids (Known slots) bytes
  chosen slots t e =
      ap (λ (b : Bool). cond b (Values (values_in ids slots bytes)) (WidthDiffers (width_of_slots ids slots))) (sym e)

  by_layout : (fields : FieldsValue) → AreInstanceFields ids facts class bytes fields → ByLayout ids facts class bytes fields
  by_layout (Values values) are = record {
    layout = Known are.slots;
    layout_is = are.known;
    fields_are = ap Values are.values_are ∙ chosen are.slots true (eq-eqb (width_of_slots ids are.slots) (length bytes) are.fills);
  }
  by_layout (Missing missing) are = record { layout = MissingLayout missing; layout_is = are; fields_are = refl }
  by_layout Cyclic are = record { layout = CyclicLayout; layout_is = are; fields_are = refl }
  by_layout (WidthDiffers width) are = record {
    layout = Known are.slots;
    layout_is = are.known;
    fields_are = ap WidthDiffers are.width_is ∙ chosen are.slots false (false_from_ne_true (width_of_slots ids are.slots == length bytes)
        (λ yes. are.differs (are.width_is ∙ eqb-true (width_of_slots ids are.slots) (length bytes) yes)));
  }
  by_layout NotAnInstance are = absurd are
  by_layout NoObject are = absurd are

  pub instance_once : OneDumpEach facts → (one other : FieldsValue) → AreInstanceFields ids facts class bytes one
      → AreInstanceFields ids facts class bytes other → one ≡ other
  instance_once each one other are too =
      let a = by_layout one are in
      let b = by_layout other too in
      let same = at_most_one facts class a.layout b.layout each a.layout_is b.layout_is in
      a.fields_are ∙ ap (λ (l : LayoutValue). fields_by ids l bytes) same ∙ sym b.fields_are

  -- what a layout leaves to say
  filled : (layout : LayoutValue) → IsLayout facts class layout
      → (fields : FieldsValue) × AreInstanceFields ids facts class bytes fields
  filled (Known slots) known = elim (cases_order (width_of_slots ids slots) (length bytes)) [
    | inl e ↦ (Values (values_in ids slots bytes), record { slots = slots; known = known; fills = e; values_are = refl })
    | inr apart ↦ (
      WidthDiffers (width_of_slots ids slots),
      record {
        slots = slots;
        known = known;
        width_is = refl;
        differs = λ e. elim apart [ inl lt ↦ omega arith | inr gt ↦ omega arith ];
      },
    )
  ]
  filled (MissingLayout missing) is = (Missing missing, is)
  filled CyclicLayout is = (Cyclic, is)

  pub instance_exists : (fields : FieldsValue) × AreInstanceFields ids facts class bytes fields
  instance_exists = let some = at_least_one facts class in filled some.0 some.1

-- ---- the fields of an object

-- there is no dump, or an array, or an instance with its fields
data Told (ids : IdSize) (facts : List FactValue) (object : ℕ) (fields : FieldsValue) : Type 0 where
  NoDump : HasNoObject facts object → fields ≡ NoObject → Told ids facts object fields
  AnArray : HasArray facts object → fields ≡ NotAnInstance → Told ids facts object fields
  AnInstance : OfInstance ids facts object fields → Told ids facts object fields

-- so it is told of any answer, and from any
told : (ids : IdSize) (facts : List FactValue) (object : ℕ) (fields : FieldsValue) → AreFields ids facts object fields
    → Told ids facts object fields
told ids facts object NoObject are = NoDump are refl
told ids facts object NotAnInstance are = AnArray are refl
told ids facts object (Values values) are = AnInstance are
told ids facts object (Missing class) are = AnInstance are
told ids facts object Cyclic are = AnInstance are
told ids facts object (WidthDiffers width) are = AnInstance are

pub of_instance : (ids : IdSize) (facts : List FactValue) (object : ℕ) (fields : FieldsValue) → OfInstance ids facts object fields
    → AreFields ids facts object fields
of_instance ids facts object NoObject is = absurd is.fields_are
of_instance ids facts object NotAnInstance is = absurd is.fields_are
of_instance ids facts object (Values values) is = is
of_instance ids facts object (Missing class) is = is
of_instance ids facts object Cyclic is = is
of_instance ids facts object (WidthDiffers width) is = is

-- ---- which of the three

-- an object that has no dump is no instance and no array
no_instance : (facts : List FactValue) (object class : ℕ) (bytes : List ℕ) → HasNoObject facts object
    → HasInstance facts object class bytes → ⊥
no_instance facts object class bytes none is = none (Instance object is.trace class bytes) is.has refl

no_array : (facts : List FactValue) (object : ℕ) → HasNoObject facts object → HasArray facts object → ⊥
no_array facts object none (OfObjects class elements is) = none (ObjArray object is.trace class elements) is.has refl
no_array facts object none (OfNumbers elem bytes is) = none (PrimArray object is.trace elem bytes) is.has refl

-- an instance is no array
not_both : (facts : List FactValue) (object class : ℕ) (bytes : List ℕ) → IsConsistent facts → HasInstance facts object class bytes
    → HasArray facts object → ⊥
not_both facts object class bytes agree is (OfObjects other elements array) =
    let same = agree (keys.Object object) (Instance object is.trace class bytes) (ObjArray object array.trace other elements) is.has
    array.has refl refl in
    absurd cc
not_both facts object class bytes agree is (OfNumbers elem others array) =
    let same = agree (keys.Object object) (Instance object is.trace class bytes) (PrimArray object array.trace elem others) is.has array.has
    refl refl in
    absurd cc

-- an instance has one class and one list of bytes
one_instance : (ids : IdSize) (facts : List FactValue) (object : ℕ) (one other : FieldsValue) → IsConsistent facts
    → OfInstance ids facts object one → OfInstance ids facts object other → one ≡ other
one_instance ids facts object one other agree is too =
    let same : Instance object is.instance.trace is.class is.bytes ≡ Instance object too.instance.trace too.class too.bytes =
    agree (keys.Object object) _ _ is.instance.has too.instance.has refl refl in
    let classes : too.class ≡ is.class = cc in
    let lists : too.bytes ≡ is.bytes = cc in
    instance_once ids facts is.class is.bytes (one_dump_each facts agree) one other is.fields_are
    (subst (λ (b : List ℕ). AreInstanceFields ids facts is.class b other) lists
    (subst (λ (c : ℕ). AreInstanceFields ids facts c too.bytes other) classes too.fields_are))

-- an object has at most one answer
pub fields_once : (ids : IdSize) (facts : List FactValue) (object : ℕ) (one other : FieldsValue) → IsConsistent facts
    → AreFields ids facts object one → AreFields ids facts object other → one ≡ other
fields_once ids facts object one other agree are too = go (told ids facts object one are) (told ids facts object other too) where
  go : Told ids facts object one → Told ids facts object other → one ≡ other
  go (NoDump none e) (NoDump none_too f) = e ∙ sym f
  go (NoDump none e) (AnArray array f) = absurd (no_array facts object none array)
  go (NoDump none e) (AnInstance is) = absurd (no_instance facts object is.class is.bytes none is.instance)
  go (AnArray array e) (NoDump none f) = absurd (no_array facts object none array)
  go (AnArray array e) (AnArray array_too f) = e ∙ sym f
  go (AnArray array e) (AnInstance is) = absurd (not_both facts object is.class is.bytes agree is.instance array)
  go (AnInstance is) (NoDump none f) = absurd (no_instance facts object is.class is.bytes none is.instance)
  go (AnInstance is) (AnArray array f) = absurd (not_both facts object is.class is.bytes agree is.instance array)
  go (AnInstance is) (AnInstance is_too) = one_instance ids facts object one other agree is is_too

-- ---- from a dump

-- a fact with the key of the object is a dump of it
pub dump_of_instance : (facts : List FactValue) (object id trace class : ℕ) (bytes : List ℕ) → Has facts (Instance id trace class bytes)
    → IsObject object (Instance id trace class bytes) → HasInstance facts object class bytes
dump_of_instance facts object id trace class bytes has is =
    let same : keys.Object id ≡ keys.Object object = cc in
    let e : id ≡ object = cc in
    record { trace = trace; has = subst (λ (n : ℕ). Has facts (Instance n trace class bytes)) e has }

pub dump_of_objects : (facts : List FactValue) (object id trace class : ℕ) (elements : List ℕ)
    → Has facts (ObjArray id trace class elements) → IsObject object (ObjArray id trace class elements) → HasArray facts object
dump_of_objects facts object id trace class elements has is =
    let same : keys.Object id ≡ keys.Object object = cc in
    let e : id ≡ object = cc in
    OfObjects class elements (record { trace = trace; has = subst (λ (n : ℕ). Has facts (ObjArray n trace class elements)) e has })

pub dump_of_numbers : (facts : List FactValue) (object id trace : ℕ) (elem : Basic) (bytes : List ℕ)
    → Has facts (PrimArray id trace elem bytes) → IsObject object (PrimArray id trace elem bytes) → HasArray facts object
dump_of_numbers facts object id trace elem bytes has is =
    let same : keys.Object id ≡ keys.Object object = cc in
    let e : id ≡ object = cc in
    OfNumbers elem bytes (record { trace = trace; has = subst (λ (n : ℕ). Has facts (PrimArray n trace elem bytes)) e has })

-- an object has an answer
pub fields_exist : (ids : IdSize) (facts : List FactValue) (object : ℕ) → (fields : FieldsValue) × AreFields ids facts object fields
fields_exist ids facts object = elim (look_up facts object) [
  | NotFound none ↦ (NoObject, none)
  | Found fact has is ↦ go fact has is
] where
  go : (fact : FactValue) → Has facts fact → IsObject object fact → (fields : FieldsValue) × AreFields ids facts object fields
  go (Instance id trace class bytes) has is =
      let some = instance_exists ids facts class bytes in (
        some.0,
        of_instance ids facts object some.0 (record {
          class = class;
          bytes = bytes;
          instance = dump_of_instance facts object id trace class bytes has is;
          fields_are = some.1;
        }),
      )
  go (ObjArray id trace class elements) has is = (NotAnInstance, dump_of_objects facts object id trace class elements has is)
  go (PrimArray id trace elem bytes) has is = (NotAnInstance, dump_of_numbers facts object id trace elem bytes has is)
  go (Name id text) has is = absurd cc
  go (Load serial class trace name) has is = absurd cc
  go (Unload serial) has is = absurd cc
  go (Frame id method signature source class_serial line) has is = absurd cc
  go (Trace serial thread frames) has is = absurd cc
  go (Start thread other trace name group parent_group) has is = absurd cc
  go (End thread) has is = absurd cc
  go (Rooted root) has is = absurd cc
  go (Class id trace parent loader signers domain reserved1 reserved2 size constants statics fields) has is = absurd cc

-- what is answered for an instance is answered for the object
pub fields_of_instance : {E : Type 0} (ids : IdSize) (facts : List FactValue) (object class : ℕ) (bytes : List ℕ) (r : Result Fields E)
    → HasInstance facts object class bytes → IfOk r (λ fields. AreInstanceFields ids facts class bytes (fields_value fields))
    → IfOk r (λ fields. AreFields ids facts object (fields_value fields))
fields_of_instance ids facts object class bytes (Ok fields) instance are =
    of_instance ids facts object (fields_value fields) (record { class = class; bytes = bytes; instance = instance; fields_are = are })
fields_of_instance ids facts object class bytes (Err e) instance are = tt
