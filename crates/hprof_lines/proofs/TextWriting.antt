-- What several texts come to that are written one after the other, and may stop for want of memory.
use Rattle.std.proofs.Common.{◌≡◌, inl, ℕ, ◌+◌, List, [], ◌∷◌, ◌++◌, Option, Result, Ok, Err, refl, sym, ap, subst, arith}
use Rattle.std.specs.Io.KnownBytes.{Appends}
use Rattle.std.proofs.KnownBytes.{Appends-nil, Appends-trans}
use Rattle.hprof_devices.proofs.Writes.{WritesFront, WritesFront-more, WritesFront-then, Pushed}
use Rattle.hprof_values.specs.declared.ids.IdSize.{IdSize}
use Rattle.hprof_items.specs.FactValue.{FactValue}
use Rattle.hprof_heap.specs.declared.heap.Heap.{Heap}
use Rattle.hprof_heap.specs.Heap.{heap_of}
use Rattle.hprof_heap.specs.HeapFacts.{facts_of, size_of}
use Rattle.hprof_engine.specs.declared.product.ProductFault.{ProductFault}
use Rattle.hprof_lines.specs.Line.{each_line}
use Rattle.hprof_engine.specs.declared.product.ProductFault.TheVariants as stops
use Rattle.hprof_engine.specs.Makes.{EndsWriting}
use Rattle.hprof_devices.specs.declared.health.Health.{Health}
use Rattle.std.specs.Prelude.{⊤, map}
use Rattle.hprof_lines.specs.Stopping.{WritesText, LeavesTarget}

module _ {A : Type 0} (r : Result A ProductFault) where
  -- nothing was written before it stopped
  pub text_unwritten : (old : Option (List ℕ)) (stop : ProductFault) (text : List ℕ) → r ≡ Err stop → WritesText old old r text
  text_unwritten old stop text e = rw e (0, omega arith, Appends-nil old)

  -- a front was written when it stopped
  pub text_stopped : (old new : Option (List ℕ)) (stop : ProductFault) (text : List ℕ) → r ≡ Err stop → WritesFront old new text
      → WritesText old new r text
  text_stopped old new stop text e front = rw e front

  -- a front of the first text was
  pub text_stops : (old new : Option (List ℕ)) (stop : ProductFault) (a b : List ℕ) → r ≡ Err stop → WritesFront old new a
      → WritesText old new r (a ++ b)
  text_stops old new stop a b e front = rw e (WritesFront-more old new a b front)

  -- all of the first text was, and nothing of the next
  pub text_stops_between : (old new : Option (List ℕ)) (stop : ProductFault) (a b : List ℕ) → r ≡ Err stop → Appends old new a
      → WritesText old new r (a ++ b)
  text_stops_between old new stop a b e first =
      rw e (WritesFront-then old new new a b first (0, omega arith, Appends-nil new))

-- the first text was written, and then the next as far as it went
pub text_then : {A : Type 0} (r : Result A ProductFault) (old mid new : Option (List ℕ)) (a b : List ℕ) → Appends old mid a
    → WritesText mid new r b
    → WritesText old new r (a ++ b)
text_then (Ok done) old mid new a b first second = Appends-trans old mid new a b first second
text_then (Err stop) old mid new a b first second = WritesFront-then old mid new a b first second

-- ---- what is pushed

module _ {A : Type 0} (r : Result A ProductFault) (stop : ProductFault) (e : r ≡ Err stop) (old mid : Option (List ℕ)) (all rest : List ℕ)
    (p : Pushed old mid all rest) where
  -- it stopped between two pieces
  pub pushed_stops : WritesText old mid r all
  pushed_stops = subst (WritesText old mid r) (sym p.parts) (text_stops_between r old mid stop p.front rest e p.appended)

  -- it stopped within the next piece
  pub pushed_stops_within : (new : Option (List ℕ)) (piece others : List ℕ) → rest ≡ piece ++ others → WritesFront mid new piece
      → WritesText old new r all
  pushed_stops_within new piece others split front =
      subst (WritesText old new r) (sym p.parts)
      (rw e (WritesFront-then old mid new p.front rest p.appended
      (subst (WritesFront mid new) (sym split) (WritesFront-more mid new piece others front))))

-- lines that do not tell the place
pub lines_without_places : {A : Type 0} (line : A → List ℕ) (place : ℕ) (xs : List A) → each_line (λ at. line) place xs ≡ map line xs
lines_without_places line place [] = refl
lines_without_places line place (x ∷ xs) = ap (λ (lines : List (List ℕ)). line x ∷ lines) (lines_without_places line (place + 1) xs)

-- ---- how the writing of a report ends

pub text_ends : {W : Type 0} (written : W → Option (List ℕ)) (well : W → Health) (IsText : List ℕ → Type 0) (before after : W)
    (r : Result (Unit {0}) ProductFault) (text : List ℕ)
    → IsText text → WritesText (written before) (written after) r text → LeavesTarget r (well after)
    → EndsWriting written well IsText (λ refusal. ⊥) ⊤ before after r
text_ends written well IsText before after (Ok done) text is writes health = (health, (text, is, writes))
text_ends written well IsText before after (Err (stops.Write fault)) text is front health = (health, (text, front.0, is, front.2))
text_ends written well IsText before after (Err stops.OutOfMemory) text is front health = (tt, health, inl (text, front.0, is, front.2))
text_ends written well IsText before after (Err (stops.Refused refusal)) text is front health = absurd health

-- the same of a report that is told by the facts and the size of a heap
pub report_ends : {W : Type 0} (written : W → Option (List ℕ)) (well : W → Health) (IsText : IdSize → List FactValue → List ℕ → Type 0)
    (heap : Heap) (before after : W) (r : Result (Unit {0}) ProductFault)
    → (text : List ℕ) × IsText (size_of heap) (facts_of heap) text × WritesText (written before) (written after) r text
    → LeavesTarget r (well after)
    → EndsWriting written well (IsText (heap_of heap).ids (heap_of heap).facts) (λ refusal. ⊥) ⊤ before after r
unfolding facts_of size_of
report_ends written well IsText heap before after r wrote health =
    text_ends written well (IsText (heap_of heap).ids (heap_of heap).facts) before after r wrote.0 wrote.1 wrote.2 health
