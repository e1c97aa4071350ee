-- The text of a thread, from its parts.
use Rattle.std.specs.Prelude.{if◌then◌else◌}
use Rattle.std.specs.Fmt.{decimal}
use Rattle.std.proofs.Common.{◌≡◌, ◌==◌, ℕ, ◌+◌, Bool, List, [], ◌∷◌, ◌++◌, length, codes, refl, sym, ap, ◌∙◌, append_assoc, append-nil}
use Rattle.std.specs.List.{filter}
use Rattle.std.proofs.lemmas.Bool.{eq-eqb, ne_eqb}
use Rattle.hprof_threads.specs.declared.held.Held.{Held}
use Rattle.hprof_describe.specs.Findings.{Findings}
use Rattle.hprof_describe.specs.Nodes.{node_text}
use Rattle.hprof_holders.specs.ThreadFindings.{ThreadFindings, frames_of}
use Rattle.hprof_holders.specs.ThreadsText.{elsewhere_text, frame_text, head_line, is_elsewhere, stack_text, thread_text}

module _ (found : Findings) (threads : ThreadFindings) (serial : ℕ) where
  abbrev front : List ℕ
  front = codes "thread " ++ decimal serial

  abbrev behind : Bool → ℕ → List ℕ
  behind none object = front ++ (if none then [] else codes " " ++ node_text found object) ++ codes "\n"

  -- a thread without an object
  pub head_alone : (object : ℕ) → threads.object serial ≡ object → object ≡ 0
      → codes "thread " ++ (decimal serial ++ codes "\n") ≡ head_line found threads serial
  head_alone object is zero =
      sym (append_assoc (codes "thread ") (decimal serial) (codes "\n"))
      ∙ ap (λ (l : List ℕ). l ++ codes "\n") (sym (append-nil front))
      ∙ ap (λ (b : Bool). behind b (threads.object serial)) (sym (eq-eqb (threads.object serial) 0 (is ∙ zero)))

  -- and one that has one
  pub head_with : (object : ℕ) → threads.object serial ≡ object → (object ≡ 0 → ⊥)
      → codes "thread " ++ (decimal serial ++ (codes " " ++ (node_text found object ++ codes "\n"))) ≡ head_line found threads serial
  head_with object is some =
      sym (append_assoc (codes "thread ") (decimal serial) (codes " " ++ (node_text found object ++ codes "\n")))
      ∙ ap (λ (l : List ℕ). front ++ l) (sym (append_assoc (codes " ") (node_text found object) (codes "\n")))
      ∙ sym (append_assoc front (codes " " ++ node_text found object) (codes "\n"))
      ∙ ap (λ (b : Bool). behind b object) (sym (ne_eqb object 0 some))
      ∙ ap (λ (n : ℕ). behind (n == 0) n) (sym is)

-- the line of a frame
pub at_parts : (line want : List ℕ) → line ≡ want → codes "  at " ++ (line ++ codes "\n") ≡ codes "  at " ++ want ++ codes "\n"
at_parts line want is = ap (λ (l : List ℕ). codes "  at " ++ (l ++ codes "\n")) is ∙ sym (append_assoc (codes "  at ") want (codes "\n"))

module _ (found : Findings) (threads : ThreadFindings) (rows : List Held) where
  pub stack_more : (number frame : ℕ) (frames : List ℕ) → stack_text found threads number rows (frame ∷ frames)
      ≡ frame_text found threads rows number frame ++ stack_text found threads (number + 1) rows frames
  unfolding stack_text
  stack_more number frame frames = refl

  pub no_stack : (number : ℕ) → stack_text found threads number rows [] ≡ []
  unfolding stack_text
  no_stack number = refl

  pub stack_done : (number : ℕ) (frames : List ℕ) → frames ≡ [] → length (stack_text found threads number rows frames) ≡ 0
  stack_done number frames none =
      ap (λ (l : List ℕ). length (stack_text found threads number rows l)) none ∙ ap (λ (l : List ℕ). length l) (no_stack number)

  -- the stack, and what is held elsewhere
  abbrev pub places_text : List ℕ → List ℕ
  places_text frames = stack_text found threads 0 rows frames ++ elsewhere_text found (filter (is_elsewhere (length frames)) rows)

  -- without a stack all is held elsewhere
  pub no_places : elsewhere_text found (filter (is_elsewhere 0) rows) ≡ places_text []
  no_places = ap (λ (l : List ℕ). l ++ elsewhere_text found (filter (is_elsewhere 0) rows)) (sym (no_stack 0))

  pub thread_parts : (serial : ℕ) → thread_text found threads serial rows
      ≡ head_line found threads serial ++ places_text (frames_of threads serial)
  unfolding thread_text
  thread_parts serial =
      append_assoc (head_line found threads serial) (stack_text found threads 0 rows (frames_of threads serial))
      (elsewhere_text found (filter (is_elsewhere (length (frames_of threads serial))) rows))
