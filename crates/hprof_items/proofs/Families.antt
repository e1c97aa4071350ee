-- No spelling of a fact begins another of its family: records, or sub-records.
use Rattle.std.proofs.Common.{◌≡◌, ℕ, List, ◌++◌, Option, Some, None}
use Rattle.std.specs.Prelude.{is_some}
use Rattle.hprof_values.specs.declared.ids.IdSize.{IdSize}
use Rattle.hprof_values.specs.declared.record_tag.RecordTag.{RecordTag}
use Rattle.hprof_items.specs.FactValue.{FactValue}
use Rattle.hprof_items.specs.RecordBody.{record_of}
use Rattle.hprof_items.specs.Spelling.{spelled_as, spelling, FitsAs, Fits}
use Rattle.hprof_items.proofs.RecordBodies.{record_once}
use Rattle.hprof_items.proofs.Dumps.{dump_once}

once_as : (ids : IdSize) (fact other : FactValue) (rest more : List ℕ) (a b : Option RecordTag) → FitsAs ids a fact → FitsAs ids b other
    → is_some a ≡ is_some b
    → spelled_as ids a fact ++ rest ≡ spelled_as ids b other ++ more → (fact ≡ other) × (rest ≡ more)
once_as ids fact other rest more (Some tag) (Some tag_too) fits fits_too one_family e =
    record_once ids fact other tag tag_too rest more fits.0 fits_too.0 fits.1 fits_too.1 e
once_as ids fact other rest more (Some tag) None fits fits_too one_family e = absurd cc
once_as ids fact other rest more None (Some tag) fits fits_too one_family e = absurd cc
once_as ids fact other rest more None None fits fits_too one_family e = dump_once ids fact other rest more fits.0 fits_too.0 e

pub spelling_once : (ids : IdSize) (fact other : FactValue) (rest more : List ℕ) → Fits ids fact → Fits ids other
    → is_some (record_of fact) ≡ is_some (record_of other)
    → spelling ids fact ++ rest ≡ spelling ids other ++ more → (fact ≡ other) × (rest ≡ more)
spelling_once ids fact other rest more fits fits_too one_family e =
    once_as ids fact other rest more (record_of fact) (record_of other) fits fits_too one_family e
