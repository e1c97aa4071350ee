-- The lines of help, written one after the other.
use Rattle.std.proofs.Common.{◌≡◌, ℕ, ◌+◌, ◌<◌, List, ◌∷◌, Option, Result, Err, length, get_or, drop, sym, subst}
use Rattle.std.specs.List.{flat_map}
use Rattle.std.proofs.lemmas.Grind.{flat_map-append}
use Rattle.hprof_devices.proofs.OneByOne.{Wrote}
use Rattle.hprof_devices.proofs.Writes.{WritesFront, WritesFront-more, WritesFront-then}
use Rattle.hprof_engine.specs.declared.product.ProductFault.{ProductFault}
use Rattle.hprof_lines.specs.Stopping.{WritesText}
use Rattle.hprof_lines.proofs.TextWriting.{text_stopped}
use Rattle.hprof_rows.proofs.Tables.{drop_from}
use Rattle.hprof_questions.specs.declared.report_word.ReportWord.{ReportWord}
use Rattle.hprof_questions.specs.declared.report.HeapReport.TheVariants.{Check}
use Rattle.hprof_questions.specs.declared.report_word.ReportWord.TheVariants.{Heap}
use Rattle.hprof_questions.specs.Words.{all_words, usage_line}

-- one of them stopped the writing
pub usage_stops : {A : Type 0} (r : Result A ProductFault) (stop : ProductFault) (old mid new : Option (List ℕ)) (place : ℕ)
    → place < length all_words → r ≡ Err stop → Wrote usage_line old mid all_words (drop place all_words)
    → WritesFront mid new (usage_line (get_or all_words place (Heap Check))) → WritesText old new r (flat_map usage_line all_words)
usage_stops r stop old mid new place within e w front =
    let one = get_or all_words place (Heap Check) in
    let rest = drop (place + 1) all_words in
    let before = subst (Wrote usage_line old mid all_words) (drop_from all_words place (Heap Check) within) w in
    text_stopped r old new stop (flat_map usage_line all_words) e
    (subst (λ (l : List ReportWord). WritesFront old new (flat_map usage_line l)) (sym before.parts)
    (subst (WritesFront old new) (sym (flat_map-append usage_line before.front (one ∷ rest)))
    (WritesFront-then old mid new (flat_map usage_line before.front) (flat_map usage_line (one ∷ rest)) before.appended
    (WritesFront-more mid new (usage_line one) (flat_map usage_line rest) front))))
