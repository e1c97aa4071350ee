-- The rows of the objects of parts, as facts come.
use Rattle.std.proofs.Common.{◌≡◌, List, [], ◌∷◌, ◌++◌, refl, sym, ap, ◌∙◌, append_assoc, append-nil}
use Rattle.hprof_values.specs.declared.ids.IdSize.{IdSize}
use Rattle.hprof_items.specs.FactValue.{FactValue}
use Rattle.hprof_merge.specs.Rows.{ByteRow}
use Rattle.hprof_merge.specs.Showing.{only}
use Rattle.hprof_objects.specs.ObjectRows.{object_row, object_rows}
use Rattle.hprof_objects.specs.PartsRead.{PartRead, rows_of_part, rows_of_parts, with_fact}

-- rows of facts one after the other
pub object_rows-append : (ids : IdSize) (facts more : List FactValue)
    → object_rows ids (facts ++ more) ≡ object_rows ids facts ++ object_rows ids more
object_rows-append ids [] more = refl
object_rows-append ids (fact ∷ facts) more =
    ap (λ (rows : List ByteRow). only (object_row ids fact) ++ rows) (object_rows-append ids facts more)
    ∙ sym (append_assoc (only (object_row ids fact)) (object_rows ids facts) (object_rows ids more))

-- rows of parts one after the other
pub rows_of_parts-append : (parts : List PartRead) (part : PartRead)
    → rows_of_parts (parts ++ part ∷ []) ≡ rows_of_parts parts ++ rows_of_part part
rows_of_parts-append [] part = append-nil (rows_of_part part)
rows_of_parts-append (first ∷ parts) part =
    ap (λ (rows : List ByteRow). rows_of_part first ++ rows) (rows_of_parts-append parts part)
    ∙ sym (append_assoc (rows_of_part first) (rows_of_parts parts) (rows_of_part part))

-- a fact more
pub rows_of_part-with : (part : PartRead) (fact : FactValue)
    → rows_of_part (with_fact part fact) ≡ rows_of_part part ++ only (object_row part.ids fact)
rows_of_part-with part fact =
    object_rows-append part.ids part.facts (fact ∷ [])
    ∙ ap (λ (rows : List ByteRow). rows_of_part part ++ rows) (append-nil (only (object_row part.ids fact)))

pub rows_of_parts-with : (parts : List PartRead) (part : PartRead) (fact : FactValue)
    → rows_of_parts (parts ++ with_fact part fact ∷ []) ≡ rows_of_parts (parts ++ part ∷ []) ++ only (object_row part.ids fact)
rows_of_parts-with parts part fact =
    rows_of_parts-append parts (with_fact part fact)
    ∙ (ap (λ (rows : List ByteRow). rows_of_parts parts ++ rows) (rows_of_part-with part fact)
    ∙ (sym (append_assoc (rows_of_parts parts) (rows_of_part part) (only (object_row part.ids fact)))
    ∙ ap (λ (rows : List ByteRow). rows ++ only (object_row part.ids fact)) (sym (rows_of_parts-append parts part))))
