-- Tables that have the same parts.
use Rattle.std.proofs.Common.{◌≡◌, ℕ, List, length, sym, ap, ◌∙◌}
use mathlib.Core.HLevel.{is_prop→PathP}
use Rattle.hprof_byte_tables.specs.declared.bytes_table.BytesTable.{BytesTable}
use Rattle.hprof_byte_tables.specs.Spans.{AreSpansOf, AreSpansOf-prop, lying, rows_lying}
use Rattle.hprof_tables.specs.Relation.{contents_of}
use Rattle.hprof_byte_tables.specs.declared.framed_rows.Span.{Span}
use Rattle.std.proofs.lemmas.List.{length-map}
use Rattle.hprof_tables.specs.SortedTable.{entries_of}

-- they are the same, since their soundness has at most one proof
pub same_table : (new old : BytesTable) → new.rows ≡ old.rows → new.bytes ≡ old.bytes → new.alloc ≡ old.alloc → new ≡ old
same_table new old rows bytes alloc = λ i. record {
  rows = rows i;
  bytes = bytes i;
  alloc = alloc i;
  sound = is_prop→PathP (λ j. AreSpansOf (bytes j).items (entries_of (rows j)))
      (λ j. AreSpansOf-prop (bytes j).items (entries_of (rows j))) new.sound old.sound i;
}

-- where no row was lent, none has a place
pub none_lying : {V : Type 0} (bytes : List ℕ) (places : List (ℕ × Span)) (content : V → List ℕ) (lent : List (ℕ × V))
    → rows_lying bytes places ≡ contents_of content lent → length lent ≡ 0 → length places ≡ 0
none_lying bytes places content lent lay none =
    sym (length-map places (λ row. (row.0, lying bytes row.1))) ∙ ap length lay ∙ length-map lent (λ row. (row.0, content row.1)) ∙ none
