-- In canonical order the facts of records stand before those of sub-records.
use Rattle.std.proofs.Common.{◌≡◌, ◌<◌, ◌≤◌, Bool, true, false, List, [], ◌∷◌, ◌++◌, drop, refl, sym, ap, ◌∙◌, inl, inr, arith}
use Rattle.std.specs.Prelude.{nat_lt, slice_index}
use Rattle.std.specs.List.{filter}
use Rattle.std.specs.Ordering.{is_lt}
use Rattle.std.proofs.lemmas.Bool.{cases_Bool, ltb-true, ltb-false}
use Rattle.hprof_items.specs.FactValue.{FactValue, Name}
use Rattle.hprof_rows.specs.SubFacts.{is_record_fact, is_sub_fact}
use Rattle.hprof_rows.specs.Order.{order_of, IsBefore, IsCanonicalOrder}
use Rattle.hprof_rows.proofs.Tables.{IsOf, later, filter_none, all_weaker}

-- the first seven tables are those of records
pub by_place : (fact : FactValue) → is_record_fact fact ≡ nat_lt (slice_index (order_of fact) 0) 7
by_place (Name id text) = refl
by_place fact = refl

stands_first : (fact : FactValue) → IsOf (slice_index (order_of fact) 0) fact
stands_first (Name id text) = record { more = id ∷ []; stands = refl }
stands_first fact = record { more = drop 1 (order_of fact); stands = refl }

-- what stands behind a sub-record is one
sub_behind : (fact other : FactValue) → is_record_fact fact ≡ false → IsBefore fact other → is_record_fact other ≡ false
sub_behind fact other sub before =
    let place = slice_index (order_of fact) 0 in
    let place_too = slice_index (order_of other) 0 in
    let low : 7 ≤ place = ltb-false place 7 (sym (by_place fact) ∙ sub) in
    elim (cases_Bool (is_record_fact other)) [
      | inl recorded ↦
          let high : place_too < 7 = ltb-true place_too 7 (sym (by_place other) ∙ recorded) in
          let clash : true ≡ false = sym (ap is_lt before) ∙ later place place_too fact other (stands_first fact) (stands_first other)
          (omega arith) in
          absurd cc
      | inr sub_too ↦ sub_too
    ]

-- the facts of records, and then the others
parts_by : (fact : FactValue) (rows : List FactValue) (first : Bool) → is_record_fact fact ≡ first → IsCanonicalOrder (fact ∷ rows)
    → filter is_record_fact rows ++ filter is_sub_fact rows ≡ rows → filter is_record_fact (fact ∷ rows) ++ filter is_sub_fact
    (fact ∷ rows) ≡ fact ∷ rows
parts_by fact rows true is ordered rest = rw is (ap (λ (l : List FactValue). fact ∷ l) rest)
parts_by fact rows false is ordered rest =
    let none : filter is_record_fact rows ≡ [] =
    filter_none is_record_fact rows
    (all_weaker (IsBefore fact) (λ other. is_record_fact other ≡ false) rows (λ other before. sub_behind fact other is before) ordered.0) in
    rw (is, none) (ap (λ (l : List FactValue). fact ∷ l) (rw none at rest))

pub parts_in_order : (rows : List FactValue) → IsCanonicalOrder rows → filter is_record_fact rows ++ filter is_sub_fact rows ≡ rows
parts_in_order [] ordered = refl
parts_in_order (fact ∷ rows) ordered = parts_by fact rows (is_record_fact fact) refl ordered (parts_in_order rows ordered.1)
