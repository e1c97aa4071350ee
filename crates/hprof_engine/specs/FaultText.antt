-- The texts of refusals, each in one line, this project's own.
use Rattle.std.specs.Prelude.{◌≡◌, ℕ, List, ◌++◌, Option, None, Some, codes, decimal}
use Rattle.hprof_rows.specs.declared.key.Key.{Key}
use Rattle.hprof_rows.specs.KeyText.{key_text}
use Rattle.hprof_engine.specs.declared.heap_fault.HeapFault.{HeapFault}
use Rattle.hprof_engine.specs.declared.heap_fault.HeapFault.TheVariants as products
use Rattle.hprof_engine.specs.declared.loss.Loss.{Loss}
use Rattle.hprof_engine.specs.declared.loss.Loss.TheVariants as losses
use Rattle.hprof_engine.specs.declared.tool_fault.ToolFault.{ToolFault}
use Rattle.hprof_engine.specs.declared.tool_fault.ToolFault.TheVariants as tool

-- where a conflict is
abbrev pub conflict_text : Key → List ℕ
conflict_text key = codes "conflict at " ++ key_text key

-- why a heap was refused
abbrev pub refusal_text : HeapFault → List ℕ
refusal_text products.DumpTooLong = codes "dump too long"
refusal_text products.NoClass = codes "no class has this name"

-- the text says which part it is, counted from 0, and then why it was refused
abbrev pub IsPartText : ℕ → List ℕ → Type 0
IsPartText index text = (why : List ℕ) × (text ≡ codes "part " ++ (decimal index ++ (codes ": " ++ why)))

-- the part at that place, counted from 0, and why it was lost
abbrev pub lost_part : ℕ → List ℕ → List ℕ
lost_part index why = codes "part " ++ (decimal index ++ (codes ": " ++ why))

-- why objects were lost
abbrev pub loss_text : Loss → List ℕ
loss_text (losses.Changed index) = lost_part index (codes "changed")
loss_text (losses.Read index) = lost_part index (codes "read failed")
loss_text losses.Objects = codes "objects changed"
loss_text losses.Scratch = codes "scratch failed"

-- the text of a fault, unless it is one of a part
abbrev pub known_text : ToolFault → Option (List ℕ)
known_text (tool.Part index fault) = None
known_text tool.NoParts = Some (codes "no parts")
known_text tool.IdSizes = Some (codes "identifier sizes differ")
known_text (tool.Conflict key) = Some (conflict_text key)
known_text (tool.Refused refusal) = Some (refusal_text refusal)
known_text (tool.Lost loss) = Some (loss_text loss)
known_text (tool.Write fault) = Some (codes "write failed")
known_text tool.OutOfMemory = Some (codes "out of memory")

-- this is the text of a fault
abbrev pub IsFaultText : ToolFault → List ℕ → Type 0
IsFaultText (tool.Part index fault) text = IsPartText index text
IsFaultText other text = known_text other ≡ Some text
