-- Sub-records, as a heap keeps them.
use Rattle.std.specs.Prelude.{◌≡◌, ℕ, List, ◌++◌, length, Bool, true, false, ⊤}
use Rattle.std.specs.Coded.{Unit-prop}
use Rattle.std.proofs.Props.{props}
use Rattle.std.specs.List.{AllByRecursion}
use Rattle.hprof_values.specs.declared.ids.IdSize.{IdSize}
use Rattle.hprof_values.specs.declared.root.Root.{Root}
use Rattle.hprof_items.specs.FactValue.{FactValue, Rooted}
use Rattle.hprof_items.specs.Spelling.{Fits}
use Rattle.hprof_rows.specs.declared.sub_row.SubRow.{SubRow}
use Rattle.hprof_rows.specs.declared.sub_row.SubRow.TheVariants as rows
use Rattle.hprof_rows.specs.Content.{decode_class, object_fact}
use Rattle.hprof_byte_tables.specs.Spans.{the_bytes}
use Rattle.hprof_rows.specs.Fitting.{Fits-prop}
use Rattle.hprof_rows.specs.HeapRows.{root_facts, spelled_facts, object_facts}
use Rattle.hprof_rows.specs.TableRows.{IsSpelled, AreSpelled, AreSpelled-prop, IsObject, AreObjects, AreObjects-prop, all-prop}

-- ---- one sub-record

-- the fact that it states
abbrev pub sub_fact : IdSize → SubRow → FactValue
sub_fact ids (rows.Root root) = Rooted root
sub_fact ids (rows.Class row) = decode_class ids 0 (the_bytes row.now)
sub_fact ids (rows.Object id kept) = object_fact ids id (the_bytes kept.now)

-- the root has a spelling, or the bytes are one, or what is kept of one
abbrev pub IsWritable : IdSize → SubRow → Type 0
IsWritable ids (rows.Root root) = Fits ids (Rooted root)
IsWritable ids (rows.Class row) = IsSpelled ids (0, row.now)
IsWritable ids (rows.Object id kept) = IsObject ids (id, kept.now)

-- it is a root or a class
abbrev pub IsNoObject : SubRow → Type 0
IsNoObject (rows.Root root) = ⊤
IsNoObject (rows.Class row) = ⊤
IsNoObject (rows.Object id kept) = ⊥

-- ---- those of a heap

abbrev pub AllRootsFit : IdSize → List Root → Type 0
AllRootsFit ids roots = AllByRecursion (λ root. Fits ids (Rooted root)) roots

-- each of them can be written
abbrev pub AreWritable : IdSize → List Root → List (ℕ × List ℕ) → List (ℕ × List ℕ) → Type 0
AreWritable ids roots classes objects = AllRootsFit ids roots × AreSpelled ids classes × AreObjects ids objects

pub AreWritable-prop : (ids : IdSize) (roots : List Root) (classes objects : List (ℕ × List ℕ))
    → IsProp (AreWritable ids roots classes objects)
AreWritable-prop ids roots classes objects =
    hlevel (all-prop (λ root. Fits ids (Rooted root)) (λ root. Fits-prop ids (Rooted root)) roots, AreSpelled-prop, AreObjects-prop)

-- the facts of roots, classes and objects
abbrev pub facts_of_subs : IdSize → List Root → List (ℕ × List ℕ) → List (ℕ × List ℕ) → List FactValue
facts_of_subs ids roots classes objects = root_facts roots ++ (spelled_facts ids classes ++ object_facts ids objects)

-- where that was found, no roots and no classes are left
abbrev pub HasEnded : Bool → List Root → List (ℕ × List ℕ) → Type 0
HasEnded false roots classes = ⊤
HasEnded true roots classes = (length roots ≡ 0) × (length classes ≡ 0)

-- it has at most one proof
pub HasEnded-prop : (at_objects : Bool) (roots : List Root) (classes : List (ℕ × List ℕ)) → IsProp (HasEnded at_objects roots classes)
HasEnded-prop false roots classes = Unit-prop
HasEnded-prop true roots classes = hlevel props
