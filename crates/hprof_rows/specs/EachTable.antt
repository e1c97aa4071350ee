-- What each table of a heap is: the fact of a key and a content, the contents of its rows, and what stating and joining do to them.
use Rattle.std.specs.Prelude.{◌≡◌, ◌<◌, ◌^◌, ℕ, List, [], ◌∷◌, Option, Some, None, Result, IfOk, OnErr, length, false, ⊤}
use Rattle.std.specs.BTreeMap.{is_at}
use Rattle.std.specs.List.{list_any}
use Rattle.std.specs.Map.{lookup}
use Rattle.std.specs.Ordering.{nat_cmp}
use Rattle.hprof_values.specs.declared.ids.IdSize.{IdSize}
use Rattle.hprof_values.specs.declared.root.Root.{Root}
use Rattle.hprof_items.specs.FactValue.{FactValue, Name, Load, Unload, Frame, Trace, Start, End, Rooted, Class, Instance, ObjArray}
use Rattle.hprof_items.specs.FactValue.{PrimArray}
use Rattle.hprof_tables.specs.declared.relation.Stated.{Stated}
use Rattle.hprof_tables.specs.Relation.{States, contents_of}
use Rattle.hprof_tables.specs.SideBySide.{IsFirstDifference, LacksOne}
use Rattle.hprof_byte_tables.specs.Spans.{the_bytes}
use Rattle.hprof_tables.specs.Union.{AreUnion}
use Rattle.hprof_rows.specs.declared.key.Key.{Key}
use Rattle.hprof_rows.specs.declared.key.Key.TheVariants as keys
use Rattle.hprof_rows.specs.declared.table.Table.{Table}
use Rattle.hprof_rows.specs.declared.table.Table.TheVariants as tables
use Rattle.hprof_rows.specs.Content.{content_of, load_fact, unload_fact, frame_fact, trace_fact, start_fact, end_fact, decode_class}
use Rattle.hprof_rows.specs.Content.{object_fact}
use Rattle.hprof_rows.specs.HeapRows.{HeapRows, no_content}
use Rattle.hprof_rows.specs.NumberRows.{load_numbers, frame_numbers, start_numbers}
use Rattle.hprof_rows.specs.Order.{root_cmp}
use Rattle.hprof_rows.specs.RootSet.{StatesRoot, IsUnionOfRoots, LacksRoot}

-- ---- each table

-- all have keys but that of roots
abbrev pub IsKeyed : Table → Type 0
IsKeyed tables.Roots = ⊥
IsKeyed table = ⊤

-- the fact of a key and a content
abbrev pub fact_at : IdSize → Table → ℕ → List ℕ → FactValue
fact_at ids tables.Names = Name
fact_at ids tables.Loads = load_fact
fact_at ids tables.Unloads = unload_fact
fact_at ids tables.Frames = frame_fact
fact_at ids tables.Traces = trace_fact ids
fact_at ids tables.Starts = start_fact
fact_at ids tables.Ends = end_fact
fact_at ids tables.Roots = unload_fact
fact_at ids tables.Classes = decode_class ids
fact_at ids tables.Objects = object_fact ids

-- the keys and contents of the rows
abbrev pub contents_at : Table → HeapRows → List (ℕ × List ℕ)
contents_at tables.Names rows = rows.names
contents_at tables.Loads rows = contents_of load_numbers rows.loads
contents_at tables.Unloads rows = contents_of no_content rows.unloads
contents_at tables.Frames rows = contents_of frame_numbers rows.frames
contents_at tables.Traces rows = rows.traces
contents_at tables.Starts rows = contents_of start_numbers rows.starts
contents_at tables.Ends rows = contents_of no_content rows.ends
contents_at tables.Roots rows = []
contents_at tables.Classes rows = rows.classes
contents_at tables.Objects rows = rows.objects

-- the numbers that are keys: serials, where the rows have serials
abbrev pub IsNumberIn : Table → ℕ → Type 0
IsNumberIn tables.Loads number = number < 2 ^ 32
IsNumberIn tables.Traces number = number < 2 ^ 32
IsNumberIn tables.Starts number = number < 2 ^ 32
IsNumberIn table number = ⊤

-- the key of the facts under a number; facts of some tables have none
abbrev pub key_in : Table → ℕ → Option Key
key_in tables.Names number = Some (keys.Name number)
key_in tables.Loads number = Some (keys.Load number)
key_in tables.Frames number = Some (keys.Frame number)
key_in tables.Traces number = Some (keys.Trace number)
key_in tables.Starts number = Some (keys.Thread number)
key_in tables.Classes number = Some (keys.Class number)
key_in tables.Objects number = Some (keys.Object number)
key_in table number = None

-- the number of rows
abbrev pub count_at : Table → HeapRows → ℕ
count_at tables.Roots rows = length rows.roots
count_at table rows = length (contents_at table rows)

-- the rows with those of others in one table
abbrev pub with_rows : Table → HeapRows → HeapRows → HeapRows
with_rows tables.Names rows new = record rows { names = new.names }
with_rows tables.Loads rows new = record rows { loads = new.loads }
with_rows tables.Unloads rows new = record rows { unloads = new.unloads }
with_rows tables.Frames rows new = record rows { frames = new.frames }
with_rows tables.Traces rows new = record rows { traces = new.traces }
with_rows tables.Starts rows new = record rows { starts = new.starts }
with_rows tables.Ends rows new = record rows { ends = new.ends }
with_rows tables.Roots rows new = record rows { roots = new.roots }
with_rows tables.Classes rows new = record rows { classes = new.classes }
with_rows tables.Objects rows new = record rows { objects = new.objects }

-- ---- stating

-- what stating a content under a key does to rows; where memory is refused they are as they were, and the key is new
pub record StatesRow {V E : Type 0} (content : V → List ℕ) (old : List (ℕ × V)) (key : ℕ) (stated : List ℕ) (r : Result Stated E)
    (new : List (ℕ × V)) : Type 0 where
  pub ok : IfOk r (λ answer. States content old key stated answer new)
  pub err : OnErr r (new ≡ old)
  pub absent : OnErr r (lookup (is_at (nat_cmp key)) old ≡ None)

pub record StatesRootRow {E : Type 0} (old : List Root) (root : Root) (r : Result Stated E) (new : List Root) : Type 0 where
  pub ok : IfOk r (λ answer. StatesRoot old root answer new)
  pub err : OnErr r (new ≡ old)
  pub absent : OnErr r (list_any (is_at (root_cmp root)) old ≡ false)

-- what stating a fact does to the rows: its content is stated under its key in its table, and no other table changes
abbrev pub StatesFact : {E : Type 0} → HeapRows → FactValue → Result Stated E → HeapRows → Type 0
StatesFact old (Name id text) r new = StatesRow the_bytes old.names id text r new.names × (new ≡ with_rows tables.Names old new)
StatesFact old (Load serial class trace name) r new =
    StatesRow load_numbers old.loads serial (class ∷ trace ∷ name ∷ []) r new.loads × (new ≡ with_rows tables.Loads old new)
StatesFact old (Unload serial) r new = StatesRow no_content old.unloads serial [] r new.unloads × (new ≡ with_rows tables.Unloads old new)
StatesFact old (Frame id method signature source class_serial line) r new =
    StatesRow frame_numbers old.frames id (content_of old.ids (Frame id method signature source class_serial line)) r new.frames
    × (new ≡ with_rows tables.Frames old new)
StatesFact old (Trace serial thread frames) r new =
    StatesRow the_bytes old.traces serial (content_of old.ids (Trace serial thread frames)) r new.traces
    × (new ≡ with_rows tables.Traces old new)
StatesFact old (Start thread object trace name group parent_group) r new =
    StatesRow start_numbers old.starts thread (object ∷ trace ∷ name ∷ group ∷ parent_group ∷ []) r new.starts
    × (new ≡ with_rows tables.Starts old new)
StatesFact old (End thread) r new = StatesRow no_content old.ends thread [] r new.ends × (new ≡ with_rows tables.Ends old new)
StatesFact old (Rooted root) r new = StatesRootRow old.roots root r new.roots × (new ≡ with_rows tables.Roots old new)
StatesFact old (Class id trace parent loader signers domain reserved1 reserved2 size constants statics fields) r new =
    StatesRow the_bytes old.classes id
    (content_of old.ids (Class id trace parent loader signers domain reserved1 reserved2 size constants statics fields)) r new.classes
    × (new ≡ with_rows tables.Classes old new)
StatesFact old (Instance id trace class bytes) r new =
    StatesRow the_bytes old.objects id (content_of old.ids (Instance id trace class bytes)) r new.objects
    × (new ≡ with_rows tables.Objects old new)
StatesFact old (ObjArray id trace class elements) r new =
    StatesRow the_bytes old.objects id (content_of old.ids (ObjArray id trace class elements)) r new.objects
    × (new ≡ with_rows tables.Objects old new)
StatesFact old (PrimArray id trace elem bytes) r new =
    StatesRow the_bytes old.objects id (content_of old.ids (PrimArray id trace elem bytes)) r new.objects
    × (new ≡ with_rows tables.Objects old new)

-- ---- comparing

-- the least key at which a table differs from that of others
pub record DiffersFirst (table : Table) (one other : HeapRows) (found : Option ℕ) : Type 0 where
  pub first : IsFirstDifference (contents_at table one) (contents_at table other) found

-- ---- joining

-- what joining a table with that of others comes to: the rows of both, and no other table changes; where memory is refused all is as
-- it was, and a row of the others is new
pub record JoinsRows {A E : Type 0} (table : Table) (old other : HeapRows) (r : Result A E) (new : HeapRows) : Type 0 where
  pub ok : IfOk r (λ _. AreUnion (contents_at table old) (contents_at table other) (contents_at table new))
  pub err : OnErr r (new ≡ old)
  pub absent : OnErr r (LacksOne (contents_at table old) (contents_at table other))

pub record JoinsRoots {A E : Type 0} (old other : HeapRows) (r : Result A E) (new : HeapRows) : Type 0 where
  pub ok : IfOk r (λ _. IsUnionOfRoots old.roots other.roots new.roots)
  pub err : OnErr r (new ≡ old)
  pub absent : OnErr r (LacksRoot old.roots other.roots)

abbrev pub JoinsTable : {A E : Type 0} → Table → HeapRows → HeapRows → Result A E → HeapRows → Type 0
JoinsTable tables.Roots old other r new = JoinsRoots old other r new × (new ≡ with_rows tables.Roots old new)
JoinsTable table old other r new = JoinsRows table old other r new × (new ≡ with_rows table old new)
