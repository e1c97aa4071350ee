-- The names of all classes, gathered.
use Rattle.std.specs.Prelude.{◌<◌, ◌≤◌, ℕ, List, ◌++◌, [], ◌∷◌, Option, Some, None, option_map, ⊤}
use Rattle.std.specs.Ordering.{nat_cmp}
use Rattle.std.specs.BTreeMap.{get}
use Rattle.hprof_items.specs.FactValue.{FactValue, Load}
use Rattle.hprof_rows.specs.Facts.{Has}
use Rattle.hprof_heap.specs.ClassName.{NamesClass}
use Rattle.hprof_naming.specs.declared.class_names.ClassNames.{ClassNames}
use Rattle.hprof_naming.specs.declared.class_names.Named.{Named}

-- of the facts that load the class, this is the one of least serial
pub record IsFirstLoad (facts : List FactValue) (class : ℕ) (named : Named) : Type 0 where
  pub trace : ℕ
  pub loaded : Has facts (Load named.serial class trace named.name)
  pub least : (other trace_too name : ℕ) → Has facts (Load other class trace_too name) → named.serial ≤ other

-- that, if one of the facts loads it
abbrev pub IsFirst : List FactValue → ℕ → Option Named → Type 0
IsFirst facts class (Some named) = IsFirstLoad facts class named
IsFirst facts class None = (serial trace name : ℕ) → Has facts (Load serial class trace name) → ⊥

-- of each class that was gathered
abbrev pub AreFirst : List FactValue → ClassNames → Type 0
AreFirst facts names = (class : ℕ) → IsFirst facts class (get nat_cmp names.names class)

-- that has a greater serial, if there is one
abbrev pub IsBelow : ℕ → Option Named → Type 0
IsBelow serial (Some named) = serial < named.serial
IsBelow serial None = ⊤

-- one fact more was gone over
abbrev pub NotesFact : FactValue → ClassNames → ClassNames → Type 0
NotesFact fact old new = (facts : List FactValue) → AreFirst facts old → AreFirst (facts ++ fact ∷ []) new

-- the names that were gathered are those of the facts
abbrev pub AreClassNames : List FactValue → ClassNames → Type 0
AreClassNames facts names = (class : ℕ) → NamesClass facts class (option_map (λ named. named.name) (get nat_cmp names.names class))
