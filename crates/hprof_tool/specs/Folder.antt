-- What a folder answers to a program that names its files.
use Rattle.std.specs.Prelude.{◌≡◌, ℕ, List, [], ◌∷◌, ⊤, take, Some, slice_get}
use Rattle.std.specs.Borrow.{Bor}

-- what came of the calls by names, for proofs alone
--   P, W: the parts that are opened, and the new files
--   IsOpened, IsCreated: this part, or this file, as it is here, came of opening, or creating, the one of that name
--   CannotOpen, CannotCreate: that was tried, and no file came of it
--   MayCreate: the file of that name may be created
--   HasNone: no new file of that name is left: none was created, or it was tried to remove it
pub record Answered (P W : Type 0) : Type 1 where
  pub IsOpened : List ℕ → P → Type 0
  pub CannotOpen : List ℕ → Type 0
  pub MayCreate : List ℕ → Type 0
  pub IsCreated : List ℕ → W → Type 0
  pub CannotCreate : List ℕ → Type 0
  pub HasNone : List ℕ → Type 0

-- a folder of which nothing is told, and which lets every file be created
abbrev pub nothing_told : {P W : Type 0} → Answered P W
nothing_told = record {
  IsOpened = λ name part. ⊤;
  CannotOpen = λ name. ⊤;
  MayCreate = λ name. ⊤;
  IsCreated = λ name file. ⊤;
  CannotCreate = λ name. ⊤;
  HasNone = λ name. ⊤;
}

-- these parts are those of these names, in order, as they came of opening them
abbrev pub AreOpened : {P W : Type 0} → Answered P W → List (Bor (List ℕ)) → List P → Type 0
AreOpened answered [] [] = ⊤
AreOpened answered (name ∷ names) (part ∷ parts) = answered.IsOpened name.now part × AreOpened answered names parts
AreOpened answered [] (part ∷ parts) = ⊥
AreOpened answered (name ∷ names) [] = ⊥

-- the part of the name at that place could not be opened, and those of the names before it were
pub record CannotOpenAt {P W : Type 0} (answered : Answered P W) (names : List (Bor (List ℕ))) (index : ℕ) : Type 0 where
  pub name : Bor (List ℕ)
  pub at : slice_get names index ≡ Some name
  pub fails : answered.CannotOpen name.now
  pub before : List P
  pub opened : AreOpened answered (take index names) before

-- once the parts of these names are opened, the file of that name may be created
abbrev pub MayCreateBehind : {P W : Type 0} → Answered P W → List (Bor (List ℕ)) → (out : List ℕ) → Type 0
MayCreateBehind {P} answered names out = (parts : List P) → AreOpened answered names parts → answered.MayCreate out
