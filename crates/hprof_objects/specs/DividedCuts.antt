-- Cuts that are divided into lists.
use Rattle.std.specs.Prelude.{◌≡◌, ◌≤◌, ℕ, List, [], ◌∷◌, length, take, drop}
use Rattle.std.specs.Coded.{le_prop}
use Rattle.std.proofs.Props.{props}
use Rattle.hprof_objects.specs.declared.any_cut.AnyCut.{AnyCut}
use Rattle.hprof_objects.specs.AnyCuts.{AreAbove, AreApart, last_in}

-- the cuts are lists of so many cuts, one list after another, and in a list each cut lies above the one before
abbrev pub AreDivided : List AnyCut → List ℕ → Type 0
AreDivided cuts [] = cuts ≡ []
AreDivided cuts (count ∷ counts) = (count ≤ length cuts) × AreApart (take count cuts) × AreDivided (drop count cuts) counts

AreAbove-prop : (last : ℕ) (cuts : List AnyCut) → IsProp (AreAbove last cuts)
AreAbove-prop last [] = hlevel props
AreAbove-prop last (cut ∷ cuts) = hlevel (props, le_prop, AreAbove-prop (last_in cut) cuts)

AreApart-prop : (cuts : List AnyCut) → IsProp (AreApart cuts)
AreApart-prop [] = hlevel props
AreApart-prop (cut ∷ cuts) = AreAbove-prop (last_in cut) cuts

pub AreDivided-prop : (cuts : List AnyCut) (counts : List ℕ) → IsProp (AreDivided cuts counts)
AreDivided-prop cuts [] = hlevel props
AreDivided-prop cuts (count ∷ counts) =
    hlevel (props, le_prop, AreApart-prop (take count cuts), AreDivided-prop (drop count cuts) counts)
