-- Facts have a histogram: the rows of their objects, each put where it belongs.
use Rattle.std.proofs.Common.{◌≡◌, ◌<◌, List, [], ◌∷◌, Option, Some, None, length, refl, sym, ap, subst, ◌∙◌, inl, inr}
use Rattle.std.specs.List.Sorted.{IsStrictlySortedBy}
use Rattle.std.specs.Ordering.{nat_cmp, ordering_then}
use Rattle.std.specs.declared.cmp.Ordering.{Ordering}
use Rattle.std.specs.declared.cmp.Ordering.TheVariants.{Less, Equal, Greater}
use Rattle.std.proofs.lemmas.Bool.{eqb-true}
use Rattle.hprof_values.specs.declared.ids.IdSize.{IdSize}
use Rattle.hprof_items.specs.FactValue.{FactValue}
use Rattle.hprof_rows.specs.Facts.{Has}
use Rattle.hprof_histogram.specs.declared.row.Kind.{Kind}
use Rattle.hprof_histogram.specs.declared.row.Row.{Row}
use Rattle.hprof_histogram.specs.Histogram.{object_kind, kind_cmp, of_kind, row_cmp, CountsKind, IsHistogram}
use Rattle.hprof_histogram.specs.CountedKinds.{counted_of, row_of}
use Rattle.hprof_histogram.proofs.HistogramRows.{some_counted}
use Rattle.hprof_histogram.proofs.Joining.{join_one}
use Rattle.hprof_histogram.proofs.Members.{IsIn, in_from_Contains, Contains-from_in}
use Rattle.hprof_histogram.proofs.OneHistogram.{one_kind}
use Rattle.hprof_histogram.proofs.RowOrder.{row_cmp_total, then_tied, tied_kinds, tied_numbers}

-- ---- rows

-- two orders that are a tie together: the first is a tie
pub first_tied : (first second : Ordering) → ordering_then first second ≡ Equal → first ≡ Equal
first_tied Less second e = cc
first_tied Equal second e = refl
first_tied Greater second e = cc

-- rows of which neither is before the other are one
one_tied : (row other : Row) → row_cmp row other ≡ Equal → row ≡ other
one_tied row other e =
    let by_bytes = nat_cmp other.bytes row.bytes in
    let by_count = nat_cmp other.count row.count in
    let of_kinds = kind_cmp row.kind other.kind in
    let counts_tied = then_tied by_bytes (ordering_then by_count of_kinds) e in
    let bytes : other.bytes ≡ row.bytes =
    eqb-true other.bytes row.bytes (tied_numbers other.bytes row.bytes (first_tied by_bytes (ordering_then by_count of_kinds) e)) in
    let count : other.count ≡ row.count =
    eqb-true other.count row.count (tied_numbers other.count row.count (first_tied by_count of_kinds counts_tied)) in
    let kind = one_kind row.kind other.kind (tied_kinds row.kind other.kind (then_tied by_count of_kinds counts_tied)) in
    λ i. record { kind = kind i; count = sym count i; bytes = sym bytes i }

module _ (ids : IdSize) (facts : List FactValue) where
  -- the row of a kind
  abbrev row_for : Kind → Row
  row_for kind = row_of kind (counted_of ids kind facts)

  -- it counts the objects of a kind that has some
  row_for_counts : (kind : Kind) → 0 < length (of_kind kind facts) → CountsKind ids facts (row_for kind)
  row_for_counts kind some = record { some = some; count = refl; bytes = refl }

  -- rows for the objects among some of the facts
  record RowsFor (some : List FactValue) : Type 0 where
    pub rows : List Row
    pub ascend : IsStrictlySortedBy row_cmp rows
    pub counts : (row : Row) → IsIn row rows → CountsKind ids facts row
    pub all : (fact : FactValue) (kind : Kind) → Has some fact → object_kind fact ≡ Some kind → IsIn (row_for kind) rows

  -- a fact that is an object, and others
  object_more : (fact : FactValue) (own : Kind) (some : List FactValue) → object_kind fact ≡ Some own → Has facts fact → RowsFor some
      → RowsFor (fact ∷ some)
  object_more fact own some is here before =
      let more = join_one row_cmp row_cmp_total one_tied (row_for own) before.rows before.ascend in
      record {
        rows = more.all;
        ascend = more.sorted;
        counts = λ row has. elim (more.only row has) [
          | inl same ↦ subst (CountsKind ids facts) (sym same) (row_for_counts own (some_counted own facts fact here is))
          | inr had ↦ before.counts row had
        ];
        all = λ other kind has of. elim has [
          | inl same ↦
              let kinds : Some own ≡ Some kind = sym is ∙ ap object_kind (sym same) ∙ of in
              let one : own ≡ kind = cc in
              subst (λ (k : Kind). IsIn (row_for k) more.all) one more.has
          | inr later ↦ more.keeps (row_for kind) (before.all other kind later of)
        ];
      }

  -- one that is none, and others
  other_more : (fact : FactValue) (some : List FactValue) → object_kind fact ≡ None → RowsFor some → RowsFor (fact ∷ some)
  other_more fact some none before = record {
    rows = before.rows;
    ascend = before.ascend;
    counts = before.counts;
    all = λ other kind has of. elim has [
      | inl same ↦ let is_none : object_kind other ≡ None = ap object_kind same ∙ none in absurd cc
      | inr later ↦ before.all other kind later of
    ];
  }

  -- rows for whichever of the facts
  rows_for : (some : List FactValue) → ((fact : FactValue) → Has some fact → Has facts fact) → RowsFor some
  unfolding IsStrictlySortedBy
  rows_for [] among = record {
    rows = [];
    ascend = tt;
    counts = λ row has. absurd has;
    all = λ fact kind has of. absurd has;
  }
  rows_for (fact ∷ some) among = by_kind (rows_for some (λ other has. among other (inr has))) (object_kind fact) refl where
    by_kind : RowsFor some → (o : Option Kind) → object_kind fact ≡ o → RowsFor (fact ∷ some)
    by_kind before None e = other_more fact some e before
    by_kind before (Some own) e = object_more fact own some e (among fact (inl refl)) before

-- rows for all of them are a histogram
pub at_least_one : (ids : IdSize) (facts : List FactValue) → (rows : List Row) × IsHistogram ids facts rows
at_least_one ids facts =
    let made = rows_for ids facts facts (λ fact has. has) in (
      made.rows,
      record {
        ascend = made.ascend;
        counts = λ row has. made.counts row (in_from_Contains made.rows row has);
        all = λ fact kind has of.
            let row = row_of kind (counted_of ids kind facts) in
            (row, Contains-from_in made.rows row (made.all fact kind has of), refl);
      },
    )
