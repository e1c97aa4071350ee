-- The answer where several classes have the name that was asked for. Its form is this project's own.
use Rattle.std.specs.Prelude.{◌≡◌, ℕ, List, ◌++◌, length, map, codes}
use Rattle.std.specs.Fmt.{decimal}
use Rattle.hprof_values.specs.declared.ids.IdSize.{IdSize}
use Rattle.hprof_items.specs.FactValue.{FactValue}
use Rattle.hprof_rows.specs.Conflict.{IsConsistent}
use Rattle.hprof_lines.specs.Line.{text_of_lines}
use Rattle.hprof_describe.specs.Findings.{AreFindings, Findings}
use Rattle.hprof_describe.specs.Nodes.{node_text}

-- how many classes there are
abbrev pub number_line : ℕ → List ℕ
number_line number = decimal number ++ codes " classes have this name\n"

-- a class in a line
abbrev pub class_line : Findings → ℕ → List ℕ
class_line found class = node_text found class ++ codes "\n"

abbrev pub class_lines : Findings → List ℕ → List ℕ
class_lines found classes = text_of_lines (map (class_line found) classes)

-- their number, and then each in a line
abbrev pub named_text : Findings → List ℕ → List ℕ
named_text found classes = number_line (length classes) ++ class_lines found classes

-- the text is the answer of these facts, which agree, where these classes have the name
pub record IsNamedText (ids : IdSize) (facts : List FactValue) (classes : List ℕ) (text : List ℕ) : Type 0 where
  pub agree : IsConsistent facts
  pub found : Findings
  pub are_found : AreFindings ids facts found
  pub is : text ≡ named_text found classes
