-- The report `text` is one line.
use Rattle.std.proofs.Common.{◌≡◌, ℕ, List, sym, ap, ◌∙◌}
use Rattle.hprof_values.specs.declared.ids.IdSize.{IdSize}
use Rattle.hprof_items.specs.FactValue.{FactValue}
use Rattle.hprof_naming.proofs.OneText.{text_once}
use Rattle.hprof_reports.specs.TextReport.{IsTextLine, text_line}

pub one_text_line : (ids : IdSize) (facts : List FactValue) (id : ℕ) (one other : List ℕ) → IsTextLine ids facts id one
    → IsTextLine ids facts id other → one ≡ other
one_text_line ids facts id one other is is_too =
    is.is ∙ ap (text_line id) (text_once facts is.agree ids id is.text is_too.text is.is_text is_too.is_text) ∙ sym is_too.is
