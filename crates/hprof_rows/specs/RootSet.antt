-- A set of roots.
use Rattle.std.specs.Prelude.{◌≡◌, ◌||◌, true, false, List}
use Rattle.std.specs.List.{list_any}
use Rattle.std.specs.List.Sorted.{IsStrictlySortedBy}
use Rattle.std.specs.BTreeMap.{is_at}
use Rattle.std.specs.BTreeSet.{insert_key}
use Rattle.hprof_values.specs.declared.root.Root.{Root}
use Rattle.hprof_rows.specs.Order.{root_cmp}
use Rattle.hprof_rows.specs.declared.root_set.RootSet.{RootSet}
use Rattle.hprof_tables.specs.declared.relation.Stated.{Stated}
use Rattle.hprof_tables.specs.declared.relation.Stated.TheVariants.{New, Same, Differs}

-- the roots, in order
abbrev pub roots_of : RootSet → List Root
roots_of set = set.roots.keys

-- what stating a root does: it is put in its place, or is there
abbrev pub StatesRoot : List Root → Root → Stated → List Root → Type 0
StatesRoot old root New new = (list_any (is_at (root_cmp root)) old ≡ false) × (new ≡ insert_key root_cmp old root)
StatesRoot old root Same new = (list_any (is_at (root_cmp root)) old ≡ true) × (new ≡ old)
StatesRoot old root Differs new = ⊥

-- others have a root that is none of these
abbrev pub LacksRoot : List Root → List Root → Type 0
LacksRoot roots others = (root : Root) × (list_any (is_at (root_cmp root)) others ≡ true) × (list_any (is_at (root_cmp root)) roots ≡ false)

-- the roots of both, in order
pub record IsUnionOfRoots (old other new : List Root) : Type 0 where
  pub ordered : IsStrictlySortedBy root_cmp new
  pub each : (root : Root) → list_any (is_at (root_cmp root)) new
      ≡ (list_any (is_at (root_cmp root)) old || list_any (is_at (root_cmp root)) other)
