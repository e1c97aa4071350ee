-- The report `threads` of two findings that say the same of each object which it names.
use Rattle.std.specs.Prelude.{◌==◌, ◌⊎◌, if◌then◌else◌}
use Rattle.std.proofs.Common.{◌≡◌, ℕ, ◌+◌, Bool, List, [], ◌∷◌, ◌++◌, length, codes, inl, inr, refl, sym, ap, ◌∙◌}
use Rattle.std.specs.Fmt.{decimal}
use Rattle.std.specs.List.{All, filter, flat_map}
use Rattle.std.proofs.lemmas.Bool.{eq-eqb}
use Rattle.std.proofs.lemmas.List.Elements.{All-filter, All-head, All-tail}
use Rattle.hprof_threads.specs.declared.held.Held.{Held}
use Rattle.hprof_threads.specs.declared.held.Place.{Place}
use Rattle.hprof_describe.specs.Findings.{Findings}
use Rattle.hprof_describe.specs.Nodes.{node_text}
use Rattle.hprof_holders.specs.ThreadFindings.{ThreadFindings, frames_of}
use Rattle.hprof_holders.specs.ThreadsText.{elsewhere_text, frame_text, head_line, held_line, is_elsewhere, is_in_frame}
use Rattle.hprof_holders.specs.ThreadsText.{place_line, rows_behind, same_place, stack_text, thread_text}

module _ (one other : Findings) (threads : ThreadFindings) where
  abbrev pub SameNode : ℕ → Type 0
  SameNode node = node_text one node ≡ node_text other node

  abbrev pub SameHeld : Held → Type 0
  SameHeld held = SameNode held.object

  -- ---- what is held

  held_same : (held : Held) → SameHeld held → held_line one held ≡ held_line other held
  held_same held same = ap (λ (l : List ℕ). codes "    " ++ l ++ codes "\n") same

  lines_same : (rows : List Held) → All SameHeld rows → flat_map (held_line one) rows ≡ flat_map (held_line other) rows
  lines_same [] all = refl
  lines_same (row ∷ rows) all =
      ap (λ (l : List ℕ). l ++ flat_map (held_line one) rows) (held_same row (All-head SameHeld row rows all))
      ∙ ap (λ (l : List ℕ). held_line other row ++ l) (lines_same rows (All-tail SameHeld row rows all))

  -- ---- the stack

  frame_same : (rows : List Held) → All SameHeld rows → (number frame : ℕ)
      → frame_text one threads rows number frame ≡ frame_text other threads rows number frame
  frame_same rows all number frame =
      ap (λ (l : List ℕ). codes "  at " ++ threads.frame_line frame ++ codes "\n" ++ l)
      (lines_same (filter (is_in_frame number) rows) (All-filter (is_in_frame number) SameHeld rows all))

  frames_same : (rows : List Held) → All SameHeld rows → (number : ℕ) (frames : List ℕ)
      → stack_text one threads number rows frames ≡ stack_text other threads number rows frames
  unfolding stack_text
  frames_same rows all number [] = refl
  frames_same rows all number (frame ∷ frames) =
      ap (λ (l : List ℕ). l ++ stack_text one threads (number + 1) rows frames) (frame_same rows all number frame)
      ∙ ap (λ (l : List ℕ). frame_text other threads rows number frame ++ l) (frames_same rows all (number + 1) frames)

  -- ---- elsewhere

  behind_same : (before : Place) (rows : List Held) → All SameHeld rows → rows_behind one before rows ≡ rows_behind other before rows
  unfolding rows_behind
  behind_same before [] all = refl
  behind_same before (row ∷ rows) all =
      let place = if same_place before row.place then [] else place_line row.place in
      ap (λ (l : List ℕ). place ++ l ++ rows_behind one row.place rows) (held_same row (All-head SameHeld row rows all))
      ∙ ap (λ (l : List ℕ). place ++ held_line other row ++ l) (behind_same row.place rows (All-tail SameHeld row rows all))

  elsewhere_same : (rows : List Held) → All SameHeld rows → elsewhere_text one rows ≡ elsewhere_text other rows
  elsewhere_same [] all = refl
  elsewhere_same (row ∷ rows) all =
      ap (λ (l : List ℕ). place_line row.place ++ l ++ rows_behind one row.place rows) (held_same row (All-head SameHeld row rows all))
      ∙ ap (λ (l : List ℕ). place_line row.place ++ held_line other row ++ l)
      (behind_same row.place rows (All-tail SameHeld row rows all))

  -- ---- a thread

  head_of : Findings → ℕ → Bool → List ℕ
  head_of found serial none =
      codes "thread " ++ decimal serial ++ (if none then [] else codes " " ++ node_text found (threads.object serial)) ++ codes "\n"

  head_same : (serial : ℕ) → (threads.object serial ≡ 0) ⊎ SameNode (threads.object serial)
      → head_line one threads serial ≡ head_line other threads serial
  unfolding head_of
  head_same serial (inl zero) =
      let none = eq-eqb (threads.object serial) 0 zero in
      ap (head_of one serial) none ∙ sym (ap (head_of other serial) none)
  head_same serial (inr same) =
      ap (λ (l : List ℕ). codes "thread " ++ decimal serial ++ (if threads.object serial == 0 then [] else codes " " ++ l) ++ codes "\n")
      same

  pub thread_same : (serial : ℕ) (rows : List Held) → (threads.object serial ≡ 0) ⊎ SameNode (threads.object serial)
      → All SameHeld rows → thread_text one threads serial rows ≡ thread_text other threads serial rows
  unfolding thread_text
  thread_same serial rows own all =
      let test = is_elsewhere (length (frames_of threads serial)) in
      let head = head_same serial own in
      let stack = frames_same rows all 0 (frames_of threads serial) in
      let rest = elsewhere_same (filter test rows) (All-filter test SameHeld rows all) in
      ap (λ (l : List ℕ). l ++ stack_text one threads 0 rows (frames_of threads serial) ++ elsewhere_text one (filter test rows)) head
      ∙ ap (λ (l : List ℕ). head_line other threads serial ++ l ++ elsewhere_text one (filter test rows)) stack
      ∙ ap (λ (l : List ℕ). head_line other threads serial ++ stack_text other threads 0 rows (frames_of threads serial) ++ l) rest

  -- ---- all of them

  module _ (held : ℕ → List Held) where
    abbrev pub SameThread : ℕ → Type 0
    SameThread serial = thread_text one threads serial (held serial) ≡ thread_text other threads serial (held serial)

    pub texts_same : (serials : List ℕ) → All SameThread serials
        → flat_map (λ serial. thread_text one threads serial (held serial)) serials
        ≡ flat_map (λ serial. thread_text other threads serial (held serial)) serials
    texts_same [] all = refl
    texts_same (serial ∷ serials) all =
        ap (λ (l : List ℕ). l ++ flat_map (λ number. thread_text one threads number (held number)) serials)
        (All-head SameThread serial serials all)
        ∙ ap (λ (l : List ℕ). thread_text other threads serial (held serial) ++ l)
        (texts_same serials (All-tail SameThread serial serials all))
