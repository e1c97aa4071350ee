-- The rows of what was counted are a histogram.
use Rattle.std.proofs.Common.{◌≡◌, ℕ, ◌<◌, Bool, true, false, cond, List, [], ◌∷◌, Option, Some, None, Ok, length, get_or, refl, sym, ap}
use Rattle.std.proofs.Common.{subst, ◌∙◌, inl, inr, arith, unwrap_or}
use Rattle.std.specs.Prelude.{nat_eq}
use Rattle.std.specs.List.{All, IsDistinct, filter}
use Rattle.std.specs.List.Sorted.{IsPermutation, IsStrictlySortedBy}
use Rattle.std.proofs.lemmas.Bool.{both_ways, eqb-true, lt-ltb, ltb-true}
use Rattle.std.proofs.lemmas.Cmp.{nat_eq_equiv}
use Rattle.std.proofs.lemmas.List.Elements.{All-append, All-contains, All-filter, All-from_get_or, All-map, All-weaker, filter_passes}
use Rattle.std.proofs.lemmas.List.Sorted.{Contains-permutation, IsPermutation-sym}
use Rattle.std.proofs.lemmas.Map.Entries.{lookup_from_place, place_from_lookup}
use Rattle.std.proofs.lemmas.Option.{slice_get-get_or}
use Rattle.hprof_tables.specs.HintedMap.{keys_in, rows_in, value_in}
use Rattle.hprof_values.specs.declared.ids.IdSize.{IdSize}
use Rattle.hprof_values.specs.declared.basic.Basic.{Basic}
use Rattle.hprof_values.specs.declared.basic.Basic.TheVariants as basics
use Rattle.hprof_items.specs.FactValue.{FactValue, PrimArray}
use Rattle.hprof_items.specs.Spelling.{Fits}
use Rattle.hprof_items.specs.SubRecord.{element_type}
use Rattle.hprof_rows.specs.Facts.{Has, AllFit}
use Rattle.hprof_histogram.specs.declared.row.Kind.{Kind}
use Rattle.hprof_histogram.specs.declared.row.Kind.TheVariants.{Class, Prim}
use Rattle.hprof_histogram.specs.declared.row.Row.{Row}
use Rattle.hprof_histogram.specs.declared.counted.Counted.{Counted}
use Rattle.hprof_histogram.specs.declared.counted_kinds.CountedKinds.{CountedKinds}
use Rattle.hprof_histogram.specs.Histogram.{object_kind, is_kind, of_kind, row_cmp, CountsKind, IsHistogram}
use Rattle.hprof_histogram.specs.CountedKinds.{IsTally, counted_in, nothing, kept_of, type_of, row_of, has_objects, class_rows}
use Rattle.hprof_histogram.specs.CountedKinds.{type_rows, element_types}
use Rattle.hprof_histogram.proofs.CandidateRows.{candidates}
use Rattle.hprof_histogram.proofs.Members.{IsIn, Contains-from_in, in_back, in_filter, in_from_slice_get, in_front, in_map}
use Rattle.hprof_histogram.proofs.Tallies.{same_itself}

-- ---- facts

-- the elements of an array that has a spelling are of one of the eight types
element_listed : (elem : Basic) → element_type (Some elem) ≡ Ok elem → IsIn elem element_types
element_listed basics.Array e = absurd cc
element_listed basics.Object e = absurd cc
element_listed basics.Boolean e = inl refl
element_listed basics.Char e = inr (inl refl)
element_listed basics.Float e = inr (inr (inl refl))
element_listed basics.Double e = inr (inr (inr (inl refl)))
element_listed basics.Byte e = inr (inr (inr (inr (inl refl))))
element_listed basics.Short e = inr (inr (inr (inr (inr (inl refl)))))
element_listed basics.Int e = inr (inr (inr (inr (inr (inr (inl refl))))))
element_listed basics.Long e = inr (inr (inr (inr (inr (inr (inr (inl refl)))))))

type_listed : (ids : IdSize) (fact : FactValue) (elem : Basic) → Fits ids fact → object_kind fact ≡ Some (Prim elem)
    → IsIn elem element_types
type_listed ids (PrimArray id trace own bytes) elem fits e =
    let same : own ≡ elem = cc in subst (λ (b : Basic). IsIn b element_types) same (element_listed own fits.0.3)
type_listed ids _ elem fits e = absurd cc

-- an object is counted
pub some_counted : (kind : Kind) (facts : List FactValue) (fact : FactValue) → Has facts fact → object_kind fact ≡ Some kind
    → 0 < length (of_kind kind facts)
some_counted kind [] fact has is = absurd has
some_counted kind (first ∷ facts) fact has is =
    by_test (λ later. some_counted kind facts fact later is) (is_kind kind (object_kind first)) refl where
      by_test : (Has facts fact → 0 < length (of_kind kind facts)) → (b : Bool) → is_kind kind (object_kind first) ≡ b
          → 0 < length (cond b (first ∷ of_kind kind facts) (of_kind kind facts))
      by_test later true e = omega arith
      by_test later false e = elim has [
        | inl same ↦
            let own : is_kind kind (object_kind first) ≡ true =
            ap (λ (f : FactValue). is_kind kind (object_kind f)) (sym same) ∙ ap (is_kind kind) is ∙ same_itself kind in
            absurd (both_ways (is_kind kind (object_kind first)) e own)
        | inr rest ↦ later rest
      ]

-- ---- what a row says

module _ (tally : CountedKinds) (apart : IsDistinct nat_eq (keys_in tally.classes)) where
  -- the row says what the tally has of its kind
  abbrev IsOfTally : Row → Type 0
  IsOfTally row = row ≡ row_of row.kind (counted_in tally row.kind)

  class_row_of_tally : (class : ℕ) (counted : Counted) → kept_of tally.classes class ≡ counted → IsOfTally (row_of (Class class) counted)
  class_row_of_tally class counted kept = ap (row_of (Class class)) (sym kept)

  entries_kept : All (λ (entry : ℕ × Counted). kept_of tally.classes entry.0 ≡ entry.1) (rows_in tally.classes)
  entries_kept = All-from_get_or (λ (entry : ℕ × Counted). kept_of tally.classes entry.0 ≡ entry.1) (rows_in tally.classes) (0, nothing)
      (λ place lt.
      let entry : ℕ × Counted = get_or (rows_in tally.classes) place (0, nothing) in
      let found : value_in tally.classes entry.0 ≡ Some entry.1 =
      lookup_from_place nat_eq_equiv (rows_in tally.classes) place entry.0 entry.1 apart
      (slice_get-get_or (rows_in tally.classes) place (0, nothing) lt) in
      ap (λ (o : Option Counted). unwrap_or o nothing) found)

  candidates_of_tally : All IsOfTally (candidates (rows_in tally.classes) tally.types)
  candidates_of_tally =
      All-append IsOfTally (class_rows (rows_in tally.classes)) (type_rows tally.types element_types)
      (All-map IsOfTally (λ (entry : ℕ × Counted). row_of (Class entry.0) entry.1) (rows_in tally.classes)
      (All-weaker (λ (entry : ℕ × Counted). kept_of tally.classes entry.0 ≡ entry.1) (λ entry. IsOfTally (row_of (Class entry.0) entry.1))
      (λ entry kept. class_row_of_tally entry.0 entry.1 kept) (rows_in tally.classes) entries_kept))
      (All-map IsOfTally (λ (elem : Basic). row_of (Prim elem) (type_of tally.types elem)) element_types
      (All-from_get_or (λ elem. IsOfTally (row_of (Prim elem) (type_of tally.types elem))) element_types basics.Array (λ place lt. refl)))

  module _ (ids : IdSize) (facts : List FactValue) (is : IsTally ids facts tally) where
    row_counts : (row : Row) → IsOfTally row → has_objects row ≡ true → CountsKind ids facts row
    row_counts row says some = record {
      some = ltb-true 0 row.count some;
      count = ap (λ (r : Row). r.count) says ∙ ap (λ (c : Counted). c.count) (is row.kind);
      bytes = ap (λ (r : Row). r.bytes) says ∙ ap (λ (c : Counted). c.bytes) (is row.kind);
    }

    -- ---- the row of an object

    -- a row of the kind
    pub record HasRow (rows : List Row) (kind : Kind) : Type 0 where
      pub row : Row
      pub has : IsIn row rows
      pub is_of : row.kind ≡ kind

    class_row : (class : ℕ) → 0 < (counted_in tally (Class class)).count
        → HasRow (filter has_objects (candidates (rows_in tally.classes) tally.types)) (Class class)
    class_row class some = found (value_in tally.classes class) refl where
      found : (o : Option Counted) → value_in tally.classes class ≡ o
          → HasRow (filter has_objects (candidates (rows_in tally.classes) tally.types)) (Class class)
      found None e =
          let none : counted_in tally (Class class) ≡ nothing =
          ap (λ (o : Option Counted). unwrap_or o nothing) e in
          absurd (omega (arith, some, ap (λ (c : Counted). c.count) none))
      found (Some counted) e =
          let at = place_from_lookup (nat_eq class) (rows_in tally.classes) counted e in
          let here : counted_in tally (Class class) ≡ counted =
          ap (λ (o : Option Counted). unwrap_or o nothing) e in
          let row = row_of (Class at.1) counted in
          let passes : has_objects row ≡ true = lt-ltb 0 counted.count (omega (arith, some, ap (λ (c : Counted). c.count) here)) in
          let in_rows = in_front (class_rows (rows_in tally.classes)) (type_rows tally.types element_types) row
          (in_map (λ (entry : ℕ × Counted). row_of (Class entry.0) entry.1) (rows_in tally.classes) (at.1, counted)
          (in_from_slice_get (rows_in tally.classes) at.0 (at.1, counted) at.2)) in
          record {
            row = row;
            has = in_filter has_objects (candidates (rows_in tally.classes) tally.types) row passes in_rows;
            is_of = ap Class (sym (eqb-true class at.1 at.3));
          }

    type_row : (elem : Basic) → IsIn elem element_types → 0 < (counted_in tally (Prim elem)).count
        → HasRow (filter has_objects (candidates (rows_in tally.classes) tally.types)) (Prim elem)
    type_row elem has some =
        let row = row_of (Prim elem) (type_of tally.types elem) in
        let in_rows = in_back (class_rows (rows_in tally.classes)) (type_rows tally.types element_types) row
        (in_map (λ (e : Basic). row_of (Prim e) (type_of tally.types e)) element_types elem has) in
        record {
          row = row;
          has = in_filter has_objects (candidates (rows_in tally.classes) tally.types) row (lt-ltb 0 row.count some) in_rows;
          is_of = refl;
        }

    kind_row : AllFit ids facts → (fact : FactValue) (kind : Kind) → Has facts fact → object_kind fact ≡ Some kind
        → HasRow (filter has_objects (candidates (rows_in tally.classes) tally.types)) kind
    kind_row fit fact (Class class) has own =
        class_row class (omega (arith, some_counted (Class class) facts fact has own, ap (λ (c : Counted). c.count) (is (Class class))))
    kind_row fit fact (Prim elem) has own =
        type_row elem (type_listed ids fact elem (fit fact has) own)
        (omega (arith, some_counted (Prim elem) facts fact has own, ap (λ (c : Counted). c.count) (is (Prim elem))))

    -- so those that have objects are a histogram, once they are in order
    pub rows_are_histogram : AllFit ids facts → (rows : List Row)
        → IsPermutation (filter has_objects (candidates (rows_in tally.classes) tally.types)) rows → IsStrictlySortedBy row_cmp rows
        → IsHistogram ids facts rows
    rows_are_histogram fit rows moved sorted =
        let all = candidates (rows_in tally.classes) tally.types in
        let before = filter has_objects all in
        record {
          ascend = sorted;
          counts = λ row has.
              let had = Contains-permutation rows before row (IsPermutation-sym before rows moved) has in
              row_counts row (All-contains IsOfTally before row (All-filter has_objects IsOfTally all candidates_of_tally) had)
              (All-contains (λ r. has_objects r ≡ true) before row (filter_passes has_objects all) had);
          all = λ fact kind has own.
              let found = kind_row fit fact kind has own in
              (found.row, Contains-permutation before rows found.row moved (Contains-from_in before found.row found.has), found.is_of);
        }
