-- What is needed next, from its parts.
use Rattle.std.specs.Prelude.{Contains, IsTrue, ◌⊎◌}
use Rattle.std.proofs.Common.{◌≡◌, ℕ, List, ◌++◌, [], ◌∷◌, inl, inr, sym, ap, subst, ◌∙◌, append_assoc}
use Rattle.std.proofs.lemmas.List.Elements.{Contains-append_left, Contains-push}
use Rattle.hprof_values.specs.declared.ids.IdSize.{IdSize}
use Rattle.hprof_items.specs.FactValue.{FactValue}
use Rattle.hprof_rows.specs.Conflict.{IsConsistent}
use Rattle.hprof_histogram.specs.Chosen.{is_among}
use Rattle.hprof_layouts.specs.Fields.{AreFields, FieldsValue}
use Rattle.hprof_layouts.proofs.FieldAnswers.{fields_once}
use Rattle.hprof_naming.specs.Texts.{target_of_field}
use Rattle.hprof_threads.specs.ThreadNames.{IsNameObject, values_of}
use Rattle.hprof_threads.proofs.FirstHolding.{first_once}
use Rattle.hprof_reports.specs.TextObjects.{IsValueArray}
use Rattle.hprof_reports.proofs.ValueArrays.{one_array}
use Rattle.hprof_words.specs.Words.{HasNext}
use Rattle.hprof_words.proofs.Among.{among_of_contains, contains_of_among}

-- an object has one object that holds its name
one_name_object : (facts : List FactValue) (fields : FieldsValue) (one other : ℕ) → IsNameObject facts fields one
    → IsNameObject facts fields other → one ≡ other
one_name_object facts fields one other is too =
    is.2 ∙ ap target_of_field (first_once facts (values_of fields) is.0 too.0 is.1 too.1) ∙ sym too.2

-- an array or a name that was read of an object, and the fields that it was read of
pub record ReadsOf (ids : IdSize) (facts : List FactValue) (Is : FieldsValue → ℕ → Type 0) (id object : ℕ) : Type 0 where
  pub fields : FieldsValue
  pub are_fields : AreFields ids facts id fields
  pub is : Is fields object

-- the list has the identifier, unless it is 0
abbrev pub IsSomeIn : List ℕ → ℕ → Type 0
IsSomeIn list id = (id ≡ 0) ⊎ Contains list id

among_some : (list : List ℕ) (other id : ℕ) → other ≡ id → IsSomeIn list id → (other ≡ 0) ⊎ IsTrue (is_among list other)
among_some list other id same (inl zero) = inl (same ∙ zero)
among_some list other id same (inr has) =
    inr (subst (λ (n : ℕ). IsTrue (is_among list n)) (sym same) (among_of_contains list id has))

module _ (ids : IdSize) (facts : List FactValue) (id : ℕ) where
  pub next_of_parts : IsConsistent facts → (list : List ℕ) (array name : ℕ) → ReadsOf ids facts (IsValueArray facts) id array
      → ReadsOf ids facts (IsNameObject facts) id name → Contains list id → IsSomeIn list array → IsSomeIn list name
      → HasNext ids facts list id
  next_of_parts agree list array name text named has has_array has_name = record {
    object = among_of_contains list id has;
    array = λ fields other are of.
        let same = fields_once ids facts id fields text.fields agree are text.are_fields in
        let array_is : other ≡ array =
        one_array facts text.fields other array (subst (λ (f : FieldsValue). IsValueArray facts f other) same of) text.is in
        among_some list other array array_is has_array;
    name = λ fields other are of.
        let same = fields_once ids facts id fields named.fields agree are named.are_fields in
        let name_is : other ≡ name =
        one_name_object facts named.fields other name (subst (λ (f : FieldsValue). IsNameObject facts f other) same of) named.is in
        among_some list other name name_is has_name;
  }

  -- a longer list has it too
  pub next_of_more : (list more : List ℕ) → ((node : ℕ) → Contains list node → Contains more node) → HasNext ids facts list id
      → HasNext ids facts more id
  next_of_more list more into has = record {
    object = longer id has.object;
    array = λ fields array are of. elim (has.array fields array are of) [ inl none ↦ inl none | inr there ↦ inr (longer array there) ];
    name = λ fields name are of. elim (has.name fields name are of) [ inl none ↦ inl none | inr there ↦ inr (longer name there) ];
  }
    where
      longer : (node : ℕ) → IsTrue (is_among list node) → IsTrue (is_among more node)
      longer node there = among_of_contains more node (into node (contains_of_among list node there))

-- an identifier that was appended, and behind it more, twice
module _ (old one two new : List ℕ) (id : ℕ) (second third : List ℕ) (first_is : one ≡ old ++ id ∷ []) (second_is : two ≡ one ++ second)
    (third_is : new ≡ two ++ third) where
  in_new : (node : ℕ) → Contains two node → Contains new node
  in_new node has = subst (λ (l : List ℕ). Contains l node) (sym third_is) (Contains-append_left two third node has)

  in_two : (node : ℕ) → Contains one node → Contains two node
  in_two node has = subst (λ (l : List ℕ). Contains l node) (sym second_is) (Contains-append_left one second node has)

  pub has_first : Contains new id
  has_first = in_new id (in_two id (subst (λ (l : List ℕ). Contains l id) (sym first_is) (Contains-push old id)))

  pub has_second : (node : ℕ) → IsSomeIn two node → IsSomeIn new node
  has_second node some = elim some [ inl zero ↦ inl zero | inr has ↦ inr (in_new node has) ]

  pub grown : (more : List ℕ) × (new ≡ old ++ more)
  grown = (
    (id ∷ second) ++ third,
    third_is ∙ ap (λ (l : List ℕ). l ++ third)
        (second_is ∙ ap (λ (l : List ℕ). l ++ second) first_is ∙ append_assoc old (id ∷ []) second)
        ∙ append_assoc old (id ∷ second) third,
  )
