-- Parts that are divided among groups, each of which is joined.
use Rattle.std.specs.Prelude.{ℕ, ◌↔◌, List, [], ◌∷◌, ⊤}
use Rattle.std.specs.List.{Contains}
use Rattle.hprof_engine.specs.Makes.{IsDump}

-- the same parts, in whatever order and however often
abbrev pub SameParts : List (List ℕ) → List (List ℕ) → Type 0
SameParts parts others = (part : List ℕ) → Contains parts part ↔ Contains others part

-- each of the parts is in one group, or in more, and no other part is in any
abbrev pub AreDivided : (parts : List (List ℕ)) (groups : List (List (List ℕ))) → Type 0
AreDivided parts groups = (part : List ℕ) → Contains parts part ↔ ((group : List (List ℕ)) × Contains groups group × Contains group part)

-- these are the dumps of the groups, each of its own
abbrev pub AreDumps : (groups : List (List (List ℕ))) (dumps : List (List ℕ)) → Type 0
AreDumps [] [] = ⊤
AreDumps (group ∷ groups) (dump ∷ dumps) = IsDump group dump × AreDumps groups dumps
AreDumps [] (dump ∷ dumps) = ⊥
AreDumps (group ∷ groups) [] = ⊥
