-- What a sink is given where some objects are wanted.
use Rattle.std.specs.Prelude.{◌≡◌, ◌+◌, ℕ, true, List, [], ◌∷◌, ◌++◌, Result, Ok, Err}
use Rattle.hprof_merge.specs.Rows.{ByteRow}
use Rattle.hprof_merge.specs.Run.{Runs}
use Rattle.hprof_merge.specs.TwoContents.{IsLeastWithTwoContents}
use Rattle.hprof_merge.specs.Union.{IsUnion, IsUnionBelow}
use Rattle.hprof_objects.specs.declared.object_fault.ObjectFault.{ObjectFault}
use Rattle.hprof_objects.specs.declared.object_fault.ObjectFault.TheVariants.{OutOfMemory, TwoContents, Scratch, Part, Sink}
use Rattle.hprof_objects.specs.Wanted.{is_among, wanted_rows}

module _ {T : Type 0} (steps : T → ℕ → List ℕ → T → Type 0) (wanted : List ℕ) where
  -- the sink was run over the wanted ones of all rows of the lists, in order of key, each once
  pub record PicksAll (lists : List (List ByteRow)) (old new : T) : Type 0 where
    pub all : List ByteRow
    pub union : IsUnion lists all
    pub run : Runs steps old (wanted_rows wanted all) new

  -- the sink was run over the wanted ones of the rows of the lists whose keys are below the bound, in order of key, each once
  pub record PicksBelow (lists : List (List ByteRow)) (bound : ℕ) (old new : T) : Type 0 where
    pub front : List ByteRow
    pub union : IsUnionBelow lists bound front
    pub run : Runs steps old (wanted_rows wanted front) new

  -- the same, for some bound
  abbrev pub PicksFront : List (List ByteRow) → T → T → Type 0
  PicksFront lists old new = (bound : ℕ) × PicksBelow lists bound old new

module _ {T G : Type 0} (steps : T → ℕ → List ℕ → T → Type 0) (refuses : T → ℕ → List ℕ → G → T → Type 0) (wanted : List ℕ) where
  -- after the wanted rows below it, the sink refused this wanted row of the lists, the only one with its key
  pub record RefusesWanted (lists : List (List ByteRow)) (row : ByteRow) (fault : G) (old new : T) : Type 0 where
    pub front : List ByteRow
    pub union : IsUnionBelow lists (row.0 + 1) (front ++ row ∷ [])
    pub mid : T
    pub run : Runs steps old (wanted_rows wanted front) mid
    pub is_wanted : is_among wanted row.0 ≡ true
    pub refused : refuses mid row.0 row.1 fault new

  -- why picking from these lists stopped, and what the sink took before: at the least key with two contents all wanted rows below it, at a
  -- row that the sink refused all wanted rows below that one
  abbrev pub StopsPicking : List (List ByteRow) → ObjectFault G → T → T → Type 0
  StopsPicking lists OutOfMemory old new = PicksFront steps wanted lists old new
  StopsPicking lists (TwoContents key) old new = IsLeastWithTwoContents lists key × PicksBelow steps wanted lists key old new
  StopsPicking lists (Scratch fault) old new = PicksFront steps wanted lists old new
  StopsPicking lists (Part part fault) old new = PicksFront steps wanted lists old new
  StopsPicking lists (Sink fault) old new = (row : ByteRow) × RefusesWanted lists row fault old new

  -- what picking from these lists answers, and what it does to the sink
  abbrev pub Picks : {A : Type 0} → List (List ByteRow) → Result A (ObjectFault G) → T → T → Type 0
  Picks lists (Ok done) old new = PicksAll steps wanted lists old new
  Picks lists (Err stop) old new = StopsPicking lists stop old new

  -- ---- picking from one list of rows

  -- the sink took the wanted ones of the first rows
  pub record PicksFirst (rows : List ByteRow) (old new : T) : Type 0 where
    pub front : List ByteRow
    pub behind : List ByteRow
    pub are : rows ≡ front ++ behind
    pub run : Runs steps old (wanted_rows wanted front) new

  -- it took the wanted ones of the rows before a wanted one, which it refused
  pub record RefusesAmong (rows : List ByteRow) (fault : G) (old new : T) : Type 0 where
    pub front : List ByteRow
    pub row : ByteRow
    pub behind : List ByteRow
    pub are : rows ≡ front ++ row ∷ behind
    pub mid : T
    pub run : Runs steps old (wanted_rows wanted front) mid
    pub is_wanted : is_among wanted row.0 ≡ true
    pub refused : refuses mid row.0 row.1 fault new

  -- what picking from a list of rows answers, of which none has two contents and none is in scratch
  abbrev pub PicksOf : {A : Type 0} → List ByteRow → Result A (ObjectFault G) → T → T → Type 0
  PicksOf rows (Ok done) old new = Runs steps old (wanted_rows wanted rows) new
  PicksOf rows (Err OutOfMemory) old new = PicksFirst rows old new
  PicksOf rows (Err (TwoContents key)) old new = ⊥
  PicksOf rows (Err (Scratch fault)) old new = ⊥
  PicksOf rows (Err (Part part fault)) old new = PicksFirst rows old new
  PicksOf rows (Err (Sink fault)) old new = RefusesAmong rows fault old new
