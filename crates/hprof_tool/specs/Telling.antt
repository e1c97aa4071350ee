-- What is told of a refusal, and of the faults of parts.
use Rattle.std.specs.Prelude.{◌≡◌, ◌⊎◌, ℕ, List, [], ◌∷◌, ◌++◌, ◌≤◌, length, take, Option, Some, None, ⊤, codes}
use Rattle.std.specs.Borrow.{Bor}
use Rattle.std.specs.Io.KnownBytes.{Appends}
use Rattle.hprof_devices.specs.declared.health.Health.{Health}
use Rattle.hprof_devices.specs.declared.health.WriteFault.TheVariants as write_faults
use Rattle.hprof_engine.specs.declared.tool_fault.ToolFault.TheVariants as tool
use Rattle.hprof_engine.specs.FaultText.{IsFaultText}
use Rattle.hprof_engine.specs.declared.salvaged.FaultedPart.{FaultedPart}
use Rattle.hprof_engine.specs.declared.salvaged.Salvaged.{Salvaged}
use Rattle.hprof_tool.specs.declared.program.refused.Refused.{Refused}
use Rattle.hprof_tool.specs.declared.program.refused.Refused.TheVariants as refusals
use Rattle.hprof_tool.specs.Folder.{Answered}
use Rattle.hprof_tool.specs.Program.{IsRefusalText}
use Rattle.hprof_tool.specs.SalvagedFiles.{IsSalvagedFile, IsSalvageRefusal}

-- the end of a line
abbrev pub line_end : ℕ
line_end = 10

-- the text tells these faults in order, each in one line, as a refusal of the part for it is told
abbrev pub TellsFaults : List FaultedPart → List ℕ → Type 0
TellsFaults [] text = text ≡ []
TellsFaults (fault ∷ faults) text = (line : List ℕ) × (rest : List ℕ) × IsFaultText (tool.Part fault.index fault.fault) line
    × (text ≡ line ++ line_end ∷ rest) × TellsFaults faults rest

-- a front of the bytes was written
abbrev pub TellsFront : List ℕ → (old new : Option (List ℕ)) → Type 0
TellsFront bytes old new = (count : ℕ) × (count ≤ length bytes) × Appends old new (take count bytes)

-- the line in which the program tells a text on its errors
abbrev pub told_line : List ℕ → List ℕ
told_line text = codes "hprof: " ++ (text ++ line_end ∷ [])

-- a front of the line was written that tells the refusal, or, if there was no memory for its text, that memory ran out
abbrev pub TellsRefusal : Refused → (old new : Option (List ℕ)) → Type 0
TellsRefusal why old new =
    (text : List ℕ) × (IsRefusalText why text ⊎ (text ≡ codes "out of memory")) × TellsFront (told_line text) old new

-- the faults of parts could not be told: the write failed
abbrev pub IsOfTelling : Refused → Type 0
IsOfTelling (refusals.Engine (tool.Write write_faults.Failed)) = ⊤
IsOfTelling other = ⊥

-- a front of a text that tells these faults was written
abbrev pub TellsSomeFaults : List FaultedPart → (old new : Option (List ℕ)) → Type 0
TellsSomeFaults faults old new = (text : List ℕ) × TellsFaults faults text × TellsFront text old new

module _ {P W : Type 0} (answered : Answered P W) (left : P → Option (List ℕ)) (health : P → Health) (pulls : P → ℕ)
    (contents : W → Option (List ℕ)) (names : List (Bor (List ℕ))) (out : List ℕ) where
  -- what is saved of the parts of these names was written to this new file, which is given back, and then a fault could not be told
  --   file: the file that is given back;  old, new: what the stream holds on which the faults are told, where it tells
  pub record CannotTell (file : Option W) (old new : Option (List ℕ)) (why : Refused) : Type 0 where
    pub salvaged : Salvaged
    pub written : W
    pub given_back : file ≡ Some written
    pub saved : IsSalvagedFile answered left health pulls contents names out salvaged written
    pub told : TellsSomeFaults salvaged.faults.items old new
    pub failed : IsOfTelling why

  -- what a refusal to save what can be saved of them and to tell their faults says: nothing is told, and no file is given back, where
  -- nothing was saved
  --   shown: what a stream tells that it holds;  old, new: the stream on which the faults are told
  abbrev pub RefusesSalvage : {O : Type 0} → (shown : O → Option (List ℕ)) → (file : Option W) → (old new : O) → Refused → Type 0
  RefusesSalvage shown file old new why =
      (IsSalvageRefusal answered left health pulls contents names out why × (new ≡ old) × (file ≡ None))
      ⊎ CannotTell file (shown old) (shown new) why
