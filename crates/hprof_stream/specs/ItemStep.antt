-- What the item that was read says of what stands at the front.
use Rattle.std.specs.Prelude.{◌≡◌, ◌==◌, ℕ, ◌-◌, Bool, true, false, List, [], ◌∷◌, slice_index, Option, Some, ⊤, Result, Ok, Err}
use Rattle.hprof_items.specs.declared.header.Header.{Header}
use Rattle.hprof_values.specs.declared.parse_stop.ParseStop.{ParseStop}
use Rattle.hprof_values.specs.FieldGroups.{◌>>=◌}
use Rattle.hprof_items.specs.FactValue.{FactValue, value_of, ListsHave}
use Rattle.hprof_stream.specs.ItemValue.{ItemValue}
use Rattle.hprof_stream.specs.ItemValue as items
use Rattle.hprof_stream.specs.Item.{Place, Start, Between, Within, place_in, Found}

-- the facts that it states
abbrev pub facts_stated : ItemValue → List FactValue
facts_stated (items.Fact fact) = value_of fact ∷ []
facts_stated (items.Sub fact) = value_of fact ∷ []
facts_stated _ = []

-- the place that it leads to from another, by so many bytes
abbrev pub place_after : Place → ItemValue → ℕ → Place
place_after place (items.Header header) n = Between header
place_after (Between header) (items.Dump len) n = place_in header len
place_after (Within header room) item n = place_in header (room - n)
place_after place item n = place

-- what was read is what was found
abbrev pub IsFound : Place → Result (ItemValue × ℕ) ParseStop → Result (Found × ℕ) ParseStop → Type 0
IsFound place read found =
    found ≡ (read >>= λ (item, n). Ok (record { next = place_after place item n; facts = facts_stated item }, n))

-- which items may stand at a place
abbrev pub Stands : Place → ItemValue → Type 0
Stands Start (items.Header header) = ⊤
Stands (Between header) (items.Fact fact) = ⊤
Stands (Between header) (items.Dump len) = ⊤
Stands (Between header) items.End = ⊤
Stands (Between header) items.Skipped = ⊤
Stands (Within header room) (items.Sub fact) = ⊤
Stands _ _ = ⊥

-- whether it ends a heap dump
abbrev pub is_end_item : ItemValue → Bool
is_end_item items.End = true
is_end_item _ = false

-- what holds of the item that was read
abbrev pub IfRead : Result (ItemValue × ℕ) ParseStop → (ItemValue → Type 0) → Type 0
IfRead (Ok (item, n)) holds = holds item
IfRead (Err stop) holds = ⊤

-- it stands at the place, and ends a heap dump exactly where its first byte says so
abbrev pub IsOfPlace : Place → List ℕ → ItemValue → Type 0
IsOfPlace place bytes item = Stands place item × (is_end_item item ≡ (slice_index bytes 0 == 0x2c))

-- the lists of a record's fact have identifiers of the header's size
abbrev pub ItemLists : Option Header → ItemValue → Type 0
ItemLists (Some header) (items.Fact fact) = ListsHave header.ids fact
ItemLists _ _ = ⊤

-- a record with a fact
abbrev pub IsFact : ItemValue → Type 0
IsFact (items.Fact fact) = ⊤
IsFact _ = ⊥
