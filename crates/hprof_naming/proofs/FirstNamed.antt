-- The first of some values whose name has given bytes: there is one at most, and it can be told whether there is one.
use Rattle.std.proofs.Common.{◌≡◌, ℕ, ◌+◌, ◌<◌, List, [], ◌∷◌, ◌++◌, length, get_or, drop, Option, Some, None, ◌⊎◌, inl, inr}
use Rattle.std.proofs.Common.{refl, sym, ap, ◌∙◌, subst}
use Rattle.std.specs.List.{AllByRecursion}
use Rattle.std.specs.Prelude.{bytes_eq}
use Rattle.std.proofs.lemmas.Bool.{cases_eq, cases_Bool}
use Rattle.std.proofs.lemmas.Bool.Decides.{not_from_Decides}
use Rattle.std.proofs.lemmas.Slice.Eq.{bytes_eq-Decides}
use Rattle.hprof_items.specs.FactValue.{FactValue, Name, Load, Unload, Frame, Trace, Start, End, Rooted, Class, Instance, ObjArray}
use Rattle.hprof_items.specs.FactValue.{PrimArray}
use Rattle.hprof_rows.proofs.Tables.{drop_from}
use Rattle.hprof_heap.specs.Names.{HasName}
use Rattle.hprof_layouts.specs.declared.field_value.FieldValue.{FieldValue}
use Rattle.hprof_naming.specs.Texts.{IsFirstNamed}

-- ---- whether a name has given bytes

abbrev OneOrNot : Type 0 → Type 0
OneOrNot P = P ⊎ (¬ P)

-- two lists of bytes are one, or two
same_bytes : (one other : List ℕ) → OneOrNot (one ≡ other)
same_bytes one other = elim (cases_Bool (bytes_eq one other)) [
  | inl same ↦ inl ((bytes_eq-Decides one other).0 same)
  | inr apart ↦ inr (not_from_Decides (bytes_eq one other) (bytes_eq-Decides one other) apart)
]

-- the bytes of a name, and its identifier
abbrev bytes_in : FactValue → List ℕ
bytes_in (Name id text) = text
bytes_in fact = []

abbrev id_in : FactValue → ℕ
id_in (Name id text) = id
id_in fact = 0

same_name : (name : ℕ) (word : List ℕ) (fact : FactValue) → OneOrNot (Name name word ≡ fact)
same_name name word (Name id text) = elim (cases_eq name id) [
  | inr apart ↦ inr (λ e. apart (ap id_in e))
  | inl same ↦ elim (same_bytes word text) [
    | inr apart ↦ inr (λ e. apart (ap bytes_in e))
    | inl same_too ↦ inl (ap (λ (n : ℕ). Name n word) same ∙ ap (λ (bytes : List ℕ). Name id bytes) same_too)
  ]
]
same_name name word (Load serial class trace other) = inr (λ e. cc)
same_name name word (Unload serial) = inr (λ e. cc)
same_name name word (Frame id method signature source class_serial line) = inr (λ e. cc)
same_name name word (Trace serial thread frames) = inr (λ e. cc)
same_name name word (Start thread object trace other group parent_group) = inr (λ e. cc)
same_name name word (End thread) = inr (λ e. cc)
same_name name word (Rooted root) = inr (λ e. cc)
same_name name word (Class id trace parent loader signers domain reserved1 reserved2 size constants statics fields) = inr (λ e. cc)
same_name name word (Instance id trace class bytes) = inr (λ e. cc)
same_name name word (ObjArray id trace class elements) = inr (λ e. cc)
same_name name word (PrimArray id trace elem bytes) = inr (λ e. cc)

has_name_or_not : (facts : List FactValue) (name : ℕ) (word : List ℕ) → OneOrNot (HasName facts name word)
has_name_or_not [] name word = inr (λ has. has)
has_name_or_not (first ∷ facts) name word = elim (same_name name word first) [
  | inl same ↦ inl (inl same)
  | inr apart ↦ elim (has_name_or_not facts name word) [
    | inl has ↦ inl (inr has)
    | inr none ↦ inr (λ has. elim has [ inl same ↦ apart same | inr there ↦ none there ])
  ]
]

module _ (facts : List FactValue) (word : List ℕ) where
  abbrev IsNamed : FieldValue → Type 0
  IsNamed value = HasName facts value.name word

  abbrev NotNamed : FieldValue → Type 0
  NotNamed value = ¬ (HasName facts value.name word)

  -- ---- from the values behind one

  -- the first of all, where the one in front has another name
  pub first_later : (value : FieldValue) (values : List FieldValue) (first : Option FieldValue) → NotNamed value
      → IsFirstNamed facts word values first → IsFirstNamed facts word (value ∷ values) first
  first_later value values (Some first) apart is =
      (value ∷ is.0, is.1, ap (λ (l : List FieldValue). value ∷ l) is.2, is.3, (apart, is.4))
  first_later value values None apart none = (apart, none)

  pub first_here : (value : FieldValue) (values : List FieldValue) → IsNamed value → IsFirstNamed facts word (value ∷ values) (Some value)
  first_here value values is = ([], values, refl, is, tt)

  -- some values have a first, or none has the name
  pub first_exists : (values : List FieldValue) → (first : Option FieldValue) × IsFirstNamed facts word values first
  first_exists [] = (None, tt)
  first_exists (value ∷ values) = elim (has_name_or_not facts value.name word) [
    | inl is ↦ (Some value, first_here value values is)
    | inr apart ↦
        let rest = first_exists values in
        (rest.0, first_later value values rest.0 apart rest.1)
  ]

  -- ---- there is one at most

  -- it is the one in front, or that of the others
  data Place (value : FieldValue) (values : List FieldValue) (first : Option FieldValue) : Type 0 where
    Here : IsNamed value → first ≡ Some value → Place value values first
    Later : NotNamed value → IsFirstNamed facts word values first → Place value values first

  some_place : (value : FieldValue) (values : List FieldValue) (first : FieldValue) (before after : List FieldValue)
      → value ∷ values ≡ before ++ first ∷ after → IsNamed first → AllByRecursion NotNamed before → Place value values (Some first)
  some_place value values first [] after e is none =
      let same : first ≡ value = cc in
      Here (subst IsNamed same is) (ap Some same)
  some_place value values first (other ∷ before) after e is none =
      let same : other ≡ value = cc in
      let rest : values ≡ before ++ first ∷ after = cc in
      Later (subst NotNamed same none.0) (before, after, rest, is, none.1)

  place : (value : FieldValue) (values : List FieldValue) (first : Option FieldValue) → IsFirstNamed facts word (value ∷ values) first
      → Place value values first
  place value values (Some first) is = some_place value values first is.0 is.1 is.2 is.3 is.4
  place value values None none = Later none.0 none.1

  -- no values have no first
  none_in_none : (first : FieldValue) (before after : List FieldValue) → [] ≡ before ++ first ∷ after → ⊥
  none_in_none first [] after e = cc
  none_in_none first (other ∷ before) after e = cc

  pub first_once : (values : List FieldValue) (one other : Option FieldValue) → IsFirstNamed facts word values one
      → IsFirstNamed facts word values other → one ≡ other
  first_once [] None None is too = refl
  first_once [] (Some one) other is too = absurd (none_in_none one is.0 is.1 is.2)
  first_once [] None (Some other) is too = absurd (none_in_none other too.0 too.1 too.2)
  first_once (value ∷ values) one other is too = elim (place value values one is) [
    | Here named same ↦ elim (place value values other too) [
      | Here named_too same_too ↦ same ∙ sym same_too
      | Later apart rest ↦ absurd (apart named)
    ]
    | Later apart rest ↦ elim (place value values other too) [
      | Here named same ↦ absurd (apart named)
      | Later apart_too rest_too ↦ first_once values one other rest rest_too
    ]
  ]

  -- ---- along the values

  -- the first of those from this place on is the first of all
  pub record GoesOn (values : List FieldValue) (place : ℕ) : Type 0 where
    pub on : (first : Option FieldValue) → IsFirstNamed facts word (drop place values) first → IsFirstNamed facts word values first

  module _ (values : List FieldValue) (place : ℕ) (default : FieldValue) (done : GoesOn values place) (within : place < length values) where
    pub goes_on : NotNamed (get_or values place default) → GoesOn values (place + 1)
    goes_on apart = record {
      on = λ first rest. done.on first
          (subst (λ (l : List FieldValue). IsFirstNamed facts word l first) (sym (drop_from values place default within))
          (first_later (get_or values place default) (drop (place + 1) values) first apart rest));
    }

    pub ends_here : IsNamed (get_or values place default) → IsFirstNamed facts word values (Some (get_or values place default))
    ends_here named =
        done.on (Some (get_or values place default))
        (subst (λ (l : List FieldValue). IsFirstNamed facts word l (Some (get_or values place default)))
        (sym (drop_from values place default within))
        (first_here (get_or values place default) (drop (place + 1) values) named))
