-- Of whichever facts that agree the report `threads` has one text.
use Rattle.std.proofs.Common.{◌≡◌, ℕ, List, refl, sym, subst, ◌∙◌}
use Rattle.std.specs.List.{flat_map}
use Rattle.hprof_values.specs.declared.ids.IdSize.{IdSize}
use Rattle.hprof_items.specs.FactValue.{FactValue}
use Rattle.hprof_rows.specs.Conflict.{IsConsistent}
use Rattle.hprof_naming.specs.Naming.{Naming}
use Rattle.hprof_threads.proofs.FrameAnswers.{line_exists, line_once}
use Rattle.hprof_threads.proofs.ThreadAnswers.{object_exists, object_once, stack_exists, stack_once}
use Rattle.hprof_describe.specs.Findings.{Findings}
use Rattle.hprof_describe.proofs.OneFinding.{findings_exist, one_findings}
use Rattle.hprof_holders.specs.ThreadFindings.{AreThreadFindings, ThreadFindings}
use Rattle.hprof_holders.specs.ThreadsText.{IsThreadsText, thread_text}
use Rattle.hprof_holders.proofs.SomeHeld.{all_held, are_rows_of, one_rows, rows_of}
use Rattle.hprof_holders.proofs.SomeSerials.{all_serials, one_serials}

module _ (facts : List FactValue) (agree : IsConsistent facts) where
  -- there is something to find of each thread
  pub threads_exist : (naming : Naming) → (threads : ThreadFindings) × AreThreadFindings facts naming threads
  threads_exist naming = (
    record {
      object = λ serial. (object_exists facts serial agree).0;
      stack = λ serial. (stack_exists facts serial agree).0;
      frame_line = λ frame. (line_exists facts naming frame).0;
    },
    record {
      objects = λ serial. (object_exists facts serial agree).1;
      stacks = λ serial. (stack_exists facts serial agree).1;
      frame_lines = λ frame. (line_exists facts naming frame).1;
    },
  )

  -- and nothing else
  pub one_threads : (naming : Naming) (one other : ThreadFindings) → AreThreadFindings facts naming one
      → AreThreadFindings facts naming other → one ≡ other
  one_threads naming one other are too =
      let objects = λ (serial : ℕ). object_once facts agree serial (one.object serial) (other.object serial) (are.objects serial)
      (too.objects serial) in
      let stacks = λ (serial : ℕ). stack_once facts agree serial (one.stack serial) (other.stack serial) (are.stacks serial)
      (too.stacks serial) in
      let lines = λ (frame : ℕ). line_once facts agree naming frame (one.frame_line frame) (other.frame_line frame) (are.frame_lines frame)
      (too.frame_lines frame) in
      λ i. record {
        object = λ serial. objects serial i;
        stack = λ serial. stacks serial i;
        frame_line = λ frame. lines frame i;
      }

  module _ (ids : IdSize) where
    pub text_exists : (text : List ℕ) × IsThreadsText ids facts text
    text_exists =
        let found = findings_exist ids facts agree in
        let threads = threads_exist found.0.naming in
        let all = all_held facts in
        let serials = all_serials facts in (
          flat_map (λ serial. thread_text found.0 threads.0 serial (rows_of all.0 serial)) serials.0,
          record {
            agree = agree;
            found = found.0;
            are_found = found.1;
            threads = threads.0;
            are_threads = threads.1;
            held = rows_of all.0;
            are_held = are_rows_of facts all.0 all.1;
            serials = serials.0;
            are_serials = serials.1;
            is = refl;
          },
        )

    pub text_once : (one other : List ℕ) → IsThreadsText ids facts one → IsThreadsText ids facts other → one ≡ other
    text_once one other are too =
        let found = one_findings ids facts agree are.found too.found are.are_found too.are_found in
        let threads = one_threads too.found.naming are.threads too.threads
        (subst (λ (f : Findings). AreThreadFindings facts f.naming are.threads) found are.are_threads) too.are_threads in
        let held = λ (serial : ℕ). one_rows facts serial (are.held serial) (too.held serial) (are.are_held serial) (too.are_held serial) in
        let serials = one_serials facts are.serials too.serials are.are_serials too.are_serials in
        let same : flat_map (λ serial. thread_text are.found are.threads serial (are.held serial)) are.serials
        ≡ flat_map (λ serial. thread_text too.found too.threads serial (too.held serial)) too.serials =
        λ i. flat_map (λ serial. thread_text (found i) (threads i) serial (held serial i)) (serials i) in
        are.is ∙ same ∙ sym too.is
