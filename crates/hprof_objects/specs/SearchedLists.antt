-- Lists of cuts in which identifiers are looked up.
use Rattle.std.specs.Prelude.{◌≡◌, ◌++◌, All, List, [], ◌∷◌, None}
use Rattle.hprof_objects.specs.declared.any_cut.AnyCut.{AnyCut}
use Rattle.hprof_objects.specs.declared.searched.Searched.{Searched}
use Rattle.hprof_objects.specs.AnyCuts.{AreApart}

-- the cuts of all lists
abbrev pub cuts_in : {S R : Type 0} → List (Searched S R) → List AnyCut
cuts_in [] = []
cuts_in (it ∷ lists) = it.cuts.now ++ cuts_in lists

-- each of its cuts lies above the one before, and none is open
pub record IsFresh {S R : Type 0} (it : Searched S R) : Type 0 where
  pub apart : AreApart it.cuts.now
  pub closed : it.cursor ≡ None

-- the lists have exactly these cuts
pub record Divides {S R : Type 0} (cuts : List AnyCut) (lists : List (Searched S R)) : Type 0 where
  pub same : cuts_in lists ≡ cuts
  pub fresh : All IsFresh lists
