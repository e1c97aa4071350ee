-- The report `show` of two findings that say the same of each identifier of which it says what it is.
use Rattle.std.specs.Prelude.{◌==◌, if◌then◌else◌, not, map, take}
use Rattle.std.proofs.Common.{◌≡◌, ℕ, ◌+◌, ◌-◌, zero, suc, Bool, true, false, cond, List, [], ◌∷◌, ◌++◌, length, Option, Some, None}
use Rattle.std.proofs.Common.{Ok, refl, sym, ap, codes, subst, ◌∙◌}
use Rattle.std.specs.Fmt.{decimal}
use Rattle.std.specs.List.{AllByRecursion, filter}
use Rattle.hprof_values.specs.declared.basic.Basic.{Basic}
use Rattle.hprof_values.specs.declared.basic.Basic.TheVariants as basics
use Rattle.hprof_values.specs.declared.value.Constant.{Constant}
use Rattle.hprof_values.specs.declared.value.Static.{Static}
use Rattle.hprof_items.specs.SubRecord.{element_type}
use Rattle.hprof_values.specs.Value.{constant_of, static_of}
use Rattle.hprof_items.specs.FactValue.{FactValue, Instance, ObjArray, PrimArray}
use Rattle.hprof_heap.specs.Classes.{ClassValue}
use Rattle.hprof_layouts.specs.declared.field_value.FieldValue.{FieldValue}
use Rattle.hprof_layouts.specs.Fields.{FieldsValue, Values, Missing, Cyclic, WidthDiffers, NotAnInstance, NoObject}
use Rattle.hprof_lines.specs.Line.{each_line, text_of_lines}
use Rattle.hprof_naming.specs.Texts.{TextValue}
use Rattle.hprof_describe.specs.Findings.{Findings}
use Rattle.hprof_describe.specs.Nodes.{node_text}
use Rattle.hprof_describe.specs.Values.{value_text}
use Rattle.hprof_show.specs.ClassLines.{class_text, constant_line, constants_text, equal_line, named_line, own_fields_text, referred_text}
use Rattle.hprof_show.specs.ClassLines.{static_line, statics_text}
use Rattle.hprof_show.specs.ElementLines.{Element, element_line, elements_text, more_line, nulls_line, present_from}
use Rattle.hprof_show.specs.FieldLines.{field_line, fields_from, fields_text, from_line}
use Rattle.hprof_show.specs.NumberLines.{numbers_text, values_text}
use Rattle.hprof_show.specs.Shown.{class_referents, constant_referents, element_referents, field_referents}
use Rattle.hprof_show.specs.Shown.{found_object_referents, is_some_id, referent, shown_ids, static_referents}
use Rattle.hprof_show.specs.ShowText.{contents_text, found_text, object_line, object_text}
use Rattle.hprof_words.proofs.Among.{all_back, all_front}
use Rattle.hprof_words.proofs.SameWords.{Agrees, node_same, object_words_same, reference_same, with_others}

-- an array of numbers has elements of such a type
abbrev pub IsArrayOfNumbers : FactValue → Type 0
IsArrayOfNumbers (PrimArray id trace elem bytes) = element_type (Some elem) ≡ Ok elem
IsArrayOfNumbers fact = Unit {0}

-- the dumps, of which that of a class has the identifier
abbrev pub AreFound : ℕ → Option ClassValue → Option FactValue → Type 0
AreFound id None None = Unit {0}
AreFound id (Some dump) None = dump.id ≡ id
AreFound id None (Some fact) = IsArrayOfNumbers fact
AreFound id (Some dump) (Some fact) = (dump.id ≡ id) × IsArrayOfNumbers fact

module _ (one : Findings) (object : ℕ → Option FactValue) (text : ℕ → TextValue) (thread_name : ℕ → Option (List ℕ)) where
  abbrev other : Findings
  other = with_others one object text thread_name

  abbrev Same : ℕ → Type 0
  Same id = Agrees one object text thread_name id

  -- ---- a value

  value_same : (basic : Basic) (bits : ℕ) → Same (referent basic bits) → value_text one basic bits ≡ value_text other basic bits
  unfolding value_text
  value_same basics.Array bits same = reference_same one object text thread_name bits same
  value_same basics.Object bits same = reference_same one object text thread_name bits same
  value_same basics.Boolean bits same = refl
  value_same basics.Char bits same = refl
  value_same basics.Float bits same = refl
  value_same basics.Double bits same = refl
  value_same basics.Byte bits same = refl
  value_same basics.Short bits same = refl
  value_same basics.Int bits same = refl
  value_same basics.Long bits same = refl

  -- ---- a class

  named_same : (word : List ℕ) (id : ℕ) → Same id → named_line one word id ≡ named_line other word id
  named_same word id same =
      ap (λ (value : List ℕ). if id == 0 then [] else equal_line word value) (reference_same one object text thread_name id same)

  -- lines that are the same for each
  lines_same : {X : Type 0} (line line_too : ℕ → X → List ℕ) (of : X → ℕ)
      → ((place : ℕ) (x : X) → Same (of x) → line place x ≡ line_too place x) → (place : ℕ) (xs : List X)
      → AllByRecursion Same (map of xs) → text_of_lines (each_line line place xs) ≡ text_of_lines (each_line line_too place xs)
  lines_same line line_too of each place [] all = refl
  lines_same line line_too of each place (x ∷ xs) all =
      ap (λ (front : List ℕ). front ++ text_of_lines (each_line line (place + 1) xs)) (each place x all.0)
      ∙ ap (λ (back : List ℕ). line_too place x ++ back) (lines_same line line_too of each (place + 1) xs all.1)

  constant_same : (place : ℕ) (constant : Constant) → Same (referent constant.value.basic constant.value.bits)
      → constant_line one place constant ≡ constant_line other place constant
  constant_same place constant same =
      ap (λ (value : List ℕ). equal_line (codes "constant " ++ decimal place) value)
      (value_same constant.value.basic constant.value.bits same)

  static_same : (place : ℕ) (field : Static) → Same (referent field.value.basic field.value.bits)
      → static_line one place field ≡ static_line other place field
  static_same place field same =
      ap (λ (value : List ℕ). equal_line (codes "static " ++ decimal place ++ codes " " ++ one.naming.name_text field.name) value)
      (value_same field.value.basic field.value.bits same)

  constants_same : (dump : ClassValue) → AllByRecursion Same (constant_referents dump.constants)
      → constants_text one dump ≡ constants_text other dump
  unfolding constants_text
  constants_same dump all = lines_same (constant_line one) (constant_line other)
      (λ (constant : Constant). referent constant.value.basic constant.value.bits) constant_same 0 (map constant_of dump.constants) all

  statics_same : (dump : ClassValue) → AllByRecursion Same (static_referents dump.statics) → statics_text one dump ≡ statics_text other dump
  unfolding statics_text
  statics_same dump all = lines_same (static_line one) (static_line other)
      (λ (field : Static). referent field.value.basic field.value.bits) static_same 0 (map static_of dump.statics) all

  own_same : (dump : ClassValue) → own_fields_text one dump ≡ own_fields_text other dump
  unfolding own_fields_text
  own_same dump = refl

  referred_same : (dump : ClassValue) → Same dump.parent → Same dump.loader → Same dump.signers → Same dump.domain
      → referred_text one dump ≡ referred_text other dump
  unfolding referred_text
  referred_same dump parent loader signers domain =
      let one_line = named_same (codes "super") dump.parent parent in
      let two = named_same (codes "loader") dump.loader loader in
      let three = named_same (codes "signers") dump.signers signers in
      let four = named_same (codes "domain") dump.domain domain in
      cc

  class_same : (dump : ClassValue) → Same dump.id → AllByRecursion Same (class_referents dump) → class_text one dump ≡ class_text other dump
  unfolding class_text
  class_same dump own all =
      let values = all.1.1.1.1 in
      let constants = all_front Same (constant_referents dump.constants) (static_referents dump.statics) values in
      let statics = all_back Same (constant_referents dump.constants) (static_referents dump.statics) values in
      let node : node_text one dump.id ≡ node_text other dump.id = node_same one object text thread_name dump.id own in
      let referred : referred_text one dump ≡ referred_text other dump =
      referred_same dump all.0 all.1.0 all.1.1.0 all.1.1.1.0 in
      let constant : constants_text one dump ≡ constants_text other dump = constants_same dump constants in
      let fixed : statics_text one dump ≡ statics_text other dump = statics_same dump statics in
      let fields : own_fields_text one dump ≡ own_fields_text other dump = own_same dump in
      cc

  -- ---- an instance

  value_line_same : (place : ℕ) (value : FieldValue) → Same (referent value.basic value.bits)
      → field_line one place value ≡ field_line other place value
  value_line_same place value same =
      ap (λ (told : List ℕ). equal_line (codes "field " ++ decimal place ++ codes " " ++ one.naming.name_text value.name) told)
      (value_same value.basic value.bits same)

  values_same : (before place : ℕ) (values : List FieldValue) → AllByRecursion Same (field_referents values)
      → fields_from one before place values ≡ fields_from other before place values
  unfolding fields_from
  values_same before place [] all = refl
  values_same before place (value ∷ values) all =
      let from = from_line one before value.class in
      ap (λ (line : List ℕ). from ++ line ++ fields_from one value.class (place + 1) values) (value_line_same place value all.0)
      ∙ ap (λ (back : List ℕ). from ++ field_line other place value ++ back) (values_same value.class (place + 1) values all.1)

  fields_same : (class : ℕ) (fields : FieldsValue) → AllByRecursion Same (found_object_referents fields (Some (Instance 0 0 class [])))
      → fields_text one class fields ≡ fields_text other class fields
  fields_same class (Values values) all = values_same class 0 values all
  fields_same class (Missing missing) all = refl
  fields_same class Cyclic all = refl
  fields_same class (WidthDiffers width) all = refl
  fields_same class NotAnInstance all = refl
  fields_same class NoObject all = refl

  -- ---- an array

  element_same : (element : Element) → Same element.id → element_line one element ≡ element_line other element
  element_same element same =
      ap (λ (value : List ℕ). equal_line (codes "element " ++ decimal element.place) value)
      (reference_same one object text thread_name element.id same)

  -- so many of the elements from that place on
  abbrev Told : ℕ → List ℕ → List Element → Type 0
  Told n ids elements = AllByRecursion Same (take n ids)
      → text_of_lines (map (element_line one) (take n elements)) ≡ text_of_lines (map (element_line other) (take n elements))

  told_none : (ids : List ℕ) (elements : List Element) → Told zero ids elements
  told_none [] [] all = refl
  told_none [] (element ∷ elements) all = refl
  told_none (id ∷ ids) [] all = refl
  told_none (id ∷ ids) (element ∷ elements) all = refl

  told_one : (n place id : ℕ) (ids : List ℕ) (elements : List Element) → Told n ids elements
      → Told (suc n) (id ∷ ids) ((record { place = place; id = id }) ∷ elements)
  told_one n place id ids elements told all =
      ap (λ (front : List ℕ). front ++ text_of_lines (map (element_line one) (take n elements)))
      (element_same (record { place = place; id = id }) all.0)
      ∙ ap (λ (back : List ℕ). element_line other (record { place = place; id = id }) ++ back) (told all.1)

  told_same : (place : ℕ) (ids : List ℕ) (n : ℕ) → Told n (filter is_some_id ids) (present_from place ids)
  unfolding present_from
  told_same place [] zero = λ all. refl
  told_same place [] (suc n) = λ all. refl
  told_same place (id ∷ ids) n = by_test (told_same (place + 1) ids) n (id == 0) where
    by_test : ((m : ℕ) → Told m (filter is_some_id ids) (present_from (place + 1) ids)) → (n : ℕ) (null : Bool)
        → Told n (cond (not null) (id ∷ filter is_some_id ids) (filter is_some_id ids))
        (cond null (present_from (place + 1) ids) ((record { place = place; id = id }) ∷ present_from (place + 1) ids))
    by_test rest n true = rest n
    by_test rest zero false = told_none (id ∷ filter is_some_id ids) ((record { place = place; id = id }) ∷ present_from (place + 1) ids)
    by_test rest (suc n) false = told_one n place id (filter is_some_id ids) (present_from (place + 1) ids) (rest n)

  elements_same : (elements : List ℕ) → AllByRecursion Same (element_referents elements)
      → elements_text one elements ≡ elements_text other elements
  unfolding elements_text
  elements_same elements all =
      ap (λ (told : List ℕ). told ++ more_line 100 (length (present_from 0 elements))
      ++ nulls_line (length elements - length (present_from 0 elements))) (told_same 0 elements 100 all)

  numbers_same : (elem : Basic) (bytes : List ℕ) → element_type (Some elem) ≡ Ok elem
      → values_text one elem bytes ≡ values_text other elem bytes
  unfolding numbers_text value_text
  numbers_same basics.Array bytes of = absurd cc
  numbers_same basics.Object bytes of = absurd cc
  numbers_same basics.Boolean bytes of = refl
  numbers_same basics.Char bytes of = refl
  numbers_same basics.Float bytes of = refl
  numbers_same basics.Double bytes of = refl
  numbers_same basics.Byte bytes of = refl
  numbers_same basics.Short bytes of = refl
  numbers_same basics.Int bytes of = refl
  numbers_same basics.Long bytes of = refl

  -- ---- what is found

  contents_same : (fields : FieldsValue) (fact : FactValue) → IsArrayOfNumbers fact
      → AllByRecursion Same (found_object_referents fields (Some fact)) → contents_text one fields fact ≡ contents_text other fields fact
  contents_same fields (Instance id trace class bytes) numbers all = fields_same class fields all
  contents_same fields (ObjArray id trace class elements) numbers all = elements_same elements all
  contents_same fields (PrimArray id trace elem bytes) numbers all = numbers_same elem bytes numbers
  contents_same fields fact numbers all = refl

  object_same : (id : ℕ) (fields : FieldsValue) (fact : FactValue) → IsArrayOfNumbers fact → Same id
      → AllByRecursion Same (found_object_referents fields (Some fact)) → object_text one id fields fact ≡ object_text other id fields fact
  unfolding object_text
  object_same id fields fact numbers own all =
      let words = object_words_same one object text thread_name id own fact in
      let line : object_line one id fact ≡ object_line other id fact = cc in
      let contents : contents_text one fields fact ≡ contents_text other fields fact = contents_same fields fact numbers all in
      cc

  pub found_same : (id : ℕ) (fields : FieldsValue) (class : Option ClassValue) (found : Option FactValue) → AreFound id class found
      → AllByRecursion Same (shown_ids id fields class found)
      → found_text one id fields class found ≡ found_text other id fields class found
  found_same id fields None None are all = refl
  found_same id fields (Some dump) None are all =
      class_same dump (subst Same (sym are) all.0) (all_front Same (class_referents dump) [] all.1)
  found_same id fields None (Some fact) are all = object_same id fields fact are all.0 all.1
  found_same id fields (Some dump) (Some fact) are all =
      let of_class = all_front Same (class_referents dump) (found_object_referents fields (Some fact)) all.1 in
      let of_object = all_back Same (class_referents dump) (found_object_referents fields (Some fact)) all.1 in
      ap (λ (front : List ℕ). front ++ object_text one id fields fact) (class_same dump (subst Same (sym are.0) all.0) of_class)
      ∙ ap (λ (back : List ℕ). class_text other dump ++ back) (object_same id fields fact are.1 all.0 of_object)
