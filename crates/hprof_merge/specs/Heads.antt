-- The keys in a tree of contests.
use Rattle.std.specs.Prelude.{ℕ, List, Option}
use Rattle.hprof_merge.specs.declared.contest_tree.ContestTree.{ContestTree}
use Rattle.hprof_merge.specs.Tree.{keys_from}

-- the keys, by their places
abbrev pub keys_in : ContestTree → List (Option ℕ)
keys_in tree = keys_from tree.count tree.nodes.items
