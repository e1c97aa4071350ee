-- The line of a stack frame, as java.lang.StackTraceElement prints it: heapDumper.cpp, "HPROF binary format", HPROF_FRAME and
-- HPROF_LOAD_CLASS.
use Rattle.std.specs.Prelude.{◌≡◌, ◌==◌, ℕ, ℤ, pos, negsuc, List, [], ◌++◌, map, Option, Some, None, codes, if◌then◌else◌}
use Rattle.std.specs.Fmt.{decimal}
use Rattle.std.specs.Ordering.{int_eq}
use Rattle.hprof_text.specs.Identifier.{id_digits}
use Rattle.hprof_items.specs.FactValue.{FactValue, Frame, Load}
use Rattle.hprof_rows.specs.Facts.{Has}
use Rattle.hprof_naming.specs.Naming.{Naming}
use Rattle.hprof_threads.specs.declared.stack_frame.StackFrame.{StackFrame}

-- ---- what the facts have of a frame

-- FRAME says this of the frame
pub record HasFrame (facts : List FactValue) (id : ℕ) (frame : StackFrame) : Type 0 where
  pub signature : ℕ
  pub has : Has facts (Frame id frame.method signature frame.source frame.class_serial frame.line)

-- that, if there is a FRAME
abbrev pub IsFrameFound : List FactValue → ℕ → Option StackFrame → Type 0
IsFrameFound facts id (Some frame) = HasFrame facts id frame
IsFrameFound facts id None = (frame : StackFrame) → HasFrame facts id frame → ⊥

-- LOAD_CLASS gives the class with that serial this name
pub record IsLoaded (facts : List FactValue) (serial name : ℕ) : Type 0 where
  pub class : ℕ
  pub trace : ℕ
  pub has : Has facts (Load serial class trace name)

-- that, if there is a LOAD_CLASS
abbrev pub IsLoadFound : List FactValue → ℕ → Option ℕ → Type 0
IsLoadFound facts serial (Some name) = IsLoaded facts serial name
IsLoadFound facts serial None = (name : ℕ) → IsLoaded facts serial name → ⊥

-- the name of the class of a frame, if there is a frame
abbrev pub IsClassOfFrame : List FactValue → Option StackFrame → Option ℕ → Type 0
IsClassOfFrame facts (Some frame) class = IsLoadFound facts frame.class_serial class
IsClassOfFrame facts None class = class ≡ None

-- ---- in print

-- `.` in the place of each `/`
abbrev pub dotted : List ℕ → List ℕ
dotted text = map (λ byte. if byte == 47 then 46 else byte) text

-- a class of this name; `\?` for a class that was not loaded
abbrev pub class_text : Naming → Option ℕ → List ℕ
class_text naming (Some name) = dotted (naming.name_text name)
class_text naming None = codes "\\?"

-- a source file; 0 is none
abbrev pub source_text : Naming → ℕ → List ℕ
source_text naming source = if source == 0 then codes "Unknown Source" else naming.name_text source

-- what stands behind the source: the line, if it is above 0; that the method is compiled, for -2, which is `negsuc 1`; else nothing
abbrev pub line_text : ℤ → List ℕ
line_text (pos line) = if line == 0 then [] else codes ":" ++ decimal line
line_text (negsuc below) = if below == 1 then codes ", compiled" else []

-- the place in the source; -3, which is `negsuc 2`, is a native method
abbrev pub place_text : Naming → ℕ → ℤ → List ℕ
place_text naming source line = if int_eq line (negsuc 2) then codes "Native Method" else source_text naming source ++ line_text line

-- the class, the method and the place; a frame without a FRAME as a name that the facts do not give
abbrev pub frame_line : Naming → ℕ → Option StackFrame → Option ℕ → List ℕ
frame_line naming id (Some frame) class = class_text naming class ++ codes "." ++ naming.name_text frame.method ++ codes "("
    ++ place_text naming frame.source frame.line ++ codes ")"
frame_line naming id None class = codes "\\?" ++ id_digits id

-- the line of what the facts have of the frame
pub record IsFrameLine (facts : List FactValue) (naming : Naming) (id : ℕ) (line : List ℕ) : Type 0 where
  pub frame : Option StackFrame
  pub frame_found : IsFrameFound facts id frame
  pub class : Option ℕ
  pub class_found : IsClassOfFrame facts frame class
  pub is : line ≡ frame_line naming id frame class
