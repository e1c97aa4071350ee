-- Stretches stay stretches, as facts and bytes of the last part come.
use Rattle.std.proofs.Common.{◌≡◌, ◌⊎◌, ℕ, zero, suc, List, [], ◌∷◌, ◌++◌, length, Some, slice_get}
use Rattle.std.proofs.Common.{refl, sym, subst, ap, inl, inr}
use Rattle.hprof_items.specs.FactValue.{FactValue}
use Rattle.hprof_stream.specs.declared.limits.Limits.{Limits}
use Rattle.hprof_merge.specs.Rows.{ByteRow}
use Rattle.hprof_merge.specs.Showing.{only}
use Rattle.hprof_objects.specs.declared.stretch.Stretch.{Stretch}
use Rattle.hprof_objects.specs.ObjectRows.{object_row}
use Rattle.hprof_objects.specs.PartsRead.{PartRead, with_bytes, with_fact}
use Rattle.hprof_objects.specs.Stretches.{AreStretches, IsStretch, StandsIn}
use Rattle.hprof_objects.proofs.Stretches.{stands_with_bytes, stands_with_fact}

-- a place of a list is before its last, or the last
at_last : {X : Type 0} (xs : List X) (last : X) (n : ℕ) (x : X) → slice_get (xs ++ last ∷ []) n ≡ Some x
    → (slice_get xs n ≡ Some x) ⊎ ((n ≡ length xs) × (x ≡ last))
at_last [] last zero x e = inr (refl, cc)
at_last [] last (suc n) x e = absurd cc
at_last (first ∷ xs) last zero x e = inl e
at_last (first ∷ xs) last (suc n) x e = elim (at_last xs last n x e) [
  | inl h ↦ inl h
  | inr h ↦ inr (ap suc h.0, h.1)
]

pub before_last : {X : Type 0} (xs : List X) (last : X) (n : ℕ) (x : X) → slice_get xs n ≡ Some x → slice_get (xs ++ last ∷ []) n ≡ Some x
before_last [] last n x e = absurd cc
before_last (first ∷ xs) last zero x e = e
before_last (first ∷ xs) last (suc n) x e = before_last xs last n x e

pub at_end : {X : Type 0} (xs : List X) (last : X) → slice_get (xs ++ last ∷ []) (length xs) ≡ Some last
at_end [] last = refl
at_end (first ∷ xs) last = at_end xs last

module _ (limits : Limits) where
  -- what stands in each part after the last of them changed
  stretch_moves : (parts : List PartRead) (part next : PartRead) → ((stretch : Stretch) (rows more : List ByteRow)
      → StandsIn limits part stretch rows more → (after : List ByteRow) × StandsIn limits next stretch rows after)
      → (stretch : Stretch) (rows : List ByteRow) → IsStretch limits (parts ++ part ∷ []) stretch rows
      → IsStretch limits (parts ++ next ∷ []) stretch rows
  stretch_moves parts part next moves stretch rows it = elim (at_last parts part stretch.part it.part it.is) [
    | inl earlier ↦ record {
      part = it.part;
      is = before_last parts next stretch.part it.part earlier;
      more = it.more;
      stands = it.stands;
    }
    | inr last ↦
        let moved = moves stretch rows it.more (subst (λ (p : PartRead). StandsIn limits p stretch rows it.more) last.1 it.stands) in
        record {
          part = next;
          is = subst (λ (n : ℕ). slice_get (parts ++ next ∷ []) n ≡ Some next) (sym last.0) (at_end parts next);
          more = moved.0;
          stands = moved.1;
        }
  ]

  -- each of several stretches
  each_stretch : (old new : List PartRead) → ((stretch : Stretch) (rows : List ByteRow) → IsStretch limits old stretch rows
      → IsStretch limits new stretch rows) → (stretches : List Stretch) (lists : List (List ByteRow))
      → AreStretches limits old stretches lists
      → AreStretches limits new stretches lists
  each_stretch old new moves [] [] are = tt
  each_stretch old new moves [] (rows ∷ lists) are = absurd are
  each_stretch old new moves (stretch ∷ stretches) [] are = absurd are
  each_stretch old new moves (stretch ∷ stretches) (rows ∷ lists) are =
      (moves stretch rows are.0, each_stretch old new moves stretches lists are.1)

  -- one stretch more
  pub stretches_with : (parts : List PartRead) (stretches : List Stretch) (lists : List (List ByteRow)) (last : Stretch)
      (rows : List ByteRow)
      → AreStretches limits parts stretches lists → IsStretch limits parts last rows
      → AreStretches limits parts (stretches ++ last ∷ []) (lists ++ rows ∷ [])
  stretches_with parts [] [] last rows are it = (it, tt)
  stretches_with parts [] (first ∷ lists) last rows are it = absurd are
  stretches_with parts (stretch ∷ stretches) [] last rows are it = absurd are
  stretches_with parts (stretch ∷ stretches) (first ∷ lists) last rows are it =
      (are.0, stretches_with parts stretches lists last rows are.1 it)

  -- a part more, of which nothing came
  pub stretch_begun : (parts : List PartRead) (part : PartRead) (stretch : Stretch) (rows : List ByteRow)
      → IsStretch limits parts stretch rows
      → IsStretch limits (parts ++ part ∷ []) stretch rows
  stretch_begun parts part stretch rows it = record {
    part = it.part;
    is = before_last parts part stretch.part it.part it.is;
    more = it.more;
    stands = it.stands;
  }

  pub stretches_begun : (parts : List PartRead) (part : PartRead) (stretches : List Stretch) (lists : List (List ByteRow))
      → AreStretches limits parts stretches lists → AreStretches limits (parts ++ part ∷ []) stretches lists
  stretches_begun parts part stretches lists are =
      each_stretch parts (parts ++ part ∷ []) (stretch_begun parts part) stretches lists are

  -- a fact more
  pub stretch_with_fact : (parts : List PartRead) (part : PartRead) (fact : FactValue) (stretch : Stretch) (rows : List ByteRow)
      → IsStretch limits (parts ++ part ∷ []) stretch rows → IsStretch limits (parts ++ with_fact part fact ∷ []) stretch rows
  stretch_with_fact parts part fact =
      stretch_moves parts part (with_fact part fact) (λ stretch rows more stands. (
        more ++ only (object_row part.ids fact),
        stands_with_fact limits part fact stretch rows more stands,
      ))

  pub stretches_with_fact : (parts : List PartRead) (part : PartRead) (fact : FactValue) (stretches : List Stretch)
      (lists : List (List ByteRow)) → AreStretches limits (parts ++ part ∷ []) stretches lists
      → AreStretches limits (parts ++ with_fact part fact ∷ []) stretches lists
  stretches_with_fact parts part fact stretches lists are =
      each_stretch (parts ++ part ∷ []) (parts ++ with_fact part fact ∷ []) (stretch_with_fact parts part fact) stretches lists are

  -- bytes more
  pub stretch_with_bytes : (parts : List PartRead) (part : PartRead) (extra : List ℕ) (stretch : Stretch) (rows : List ByteRow)
      → IsStretch limits (parts ++ part ∷ []) stretch rows → IsStretch limits (parts ++ with_bytes part extra ∷ []) stretch rows
  stretch_with_bytes parts part extra =
      stretch_moves parts part (with_bytes part extra) (λ stretch rows more stands. (
        more,
        stands_with_bytes limits part extra stretch rows more stands,
      ))

  pub stretches_with_bytes : (parts : List PartRead) (part : PartRead) (extra : List ℕ) (stretches : List Stretch)
      (lists : List (List ByteRow)) → AreStretches limits (parts ++ part ∷ []) stretches lists
      → AreStretches limits (parts ++ with_bytes part extra ∷ []) stretches lists
  stretches_with_bytes parts part extra stretches lists are =
      each_stretch (parts ++ part ∷ []) (parts ++ with_bytes part extra ∷ []) (stretch_with_bytes parts part extra) stretches lists are
