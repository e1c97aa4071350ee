-- The order of facts in a dump: table by table, each by the keys of its facts; roots in the order of their spellings.
use Rattle.std.specs.Prelude.{◌≡◌, ℕ, List, [], ◌∷◌, ⊤}
use Rattle.std.specs.List.{AllByRecursion}
use Rattle.std.specs.Cmp.Lexicographic.{slice_cmp}
use Rattle.std.specs.Ordering.{nat_cmp}
use Rattle.std.specs.declared.cmp.Ordering.{Ordering}
use Rattle.std.specs.declared.cmp.Ordering.TheVariants.{Less}
use Rattle.hprof_values.specs.declared.root.Root.{Root}
use Rattle.hprof_values.specs.contracts.root.RootOrd.TheImpl as root_ord
use Rattle.hprof_values.specs.Root.{tag_of_root, root_numbers}
use Rattle.hprof_values.specs.SubTag.{code_of_tag}
use Rattle.hprof_items.specs.FactValue.{FactValue, Name, Load, Unload, Frame, Trace, Start, End, Rooted, Class, Instance, ObjArray}
use Rattle.hprof_items.specs.FactValue.{PrimArray}

-- where a fact stands in a dump: the place of its table among the tables, and then its place there
abbrev pub order_of : FactValue → List ℕ
order_of (Name id text) = 0 ∷ id ∷ []
order_of (Load serial class trace name) = 1 ∷ serial ∷ []
order_of (Unload serial) = 2 ∷ serial ∷ []
order_of (Frame id method signature source class_serial line) = 3 ∷ id ∷ []
order_of (Trace serial thread frames) = 4 ∷ serial ∷ []
order_of (Start thread object trace name group parent_group) = 5 ∷ thread ∷ []
order_of (End thread) = 6 ∷ thread ∷ []
order_of (Rooted root) = 7 ∷ code_of_tag (tag_of_root root) ∷ root_numbers root
order_of (Class id trace parent loader signers domain reserved1 reserved2 size constants statics fields) = 8 ∷ id ∷ []
order_of (Instance id trace class bytes) = 9 ∷ id ∷ []
order_of (ObjArray id trace class elements) = 9 ∷ id ∷ []
order_of (PrimArray id trace elem bytes) = 9 ∷ id ∷ []

-- the first fact stands before the second
abbrev pub IsBefore : FactValue → FactValue → Type 0
IsBefore fact other = slice_cmp nat_cmp (order_of fact) (order_of other) ≡ Less

-- each fact stands before all that follow it, so that no key comes twice
abbrev pub IsCanonicalOrder : List FactValue → Type 0
IsCanonicalOrder [] = ⊤
IsCanonicalOrder (fact ∷ facts) = AllByRecursion (IsBefore fact) facts × IsCanonicalOrder facts

-- the order of roots
abbrev pub root_cmp : Root → Root → Ordering
root_cmp = (root_ord.ghosts).cmp
