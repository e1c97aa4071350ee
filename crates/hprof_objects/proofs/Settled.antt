-- A stretch that goes on.
use Rattle.std.proofs.Common.{◌≡◌, ◌+◌, ◌<◌, ℕ, List, [], ◌∷◌, ◌++◌, length, take, Option, Some, None, refl, sym, subst, ap, ◌∙◌}
use Rattle.std.proofs.Common.{append_assoc}
use Rattle.std.proofs.Common.{length-append, Bool, true, false, Result, Ok, Err}
use Rattle.std.specs.Prelude.{IfOk, OnOk}
use Rattle.hprof_devices.specs.declared.health.Health.{Health}
use Rattle.hprof_items.specs.FactValue.{FactValue}
use Rattle.hprof_stream.specs.declared.limits.Limits.{Limits}
use Rattle.hprof_merge.specs.Rows.{ByteRow}
use Rattle.hprof_merge.specs.Showing.{only}
use Rattle.hprof_runs.specs.declared.runs.Runs.{Runs}
use Rattle.hprof_objects.specs.declared.cut.Cut.{Cut}
use Rattle.hprof_objects.specs.declared.growing.Growing.{Growing}
use Rattle.hprof_objects.specs.declared.growing.Piece.{Piece}
use Rattle.hprof_objects.specs.declared.growing.Stands.{Stands}
use Rattle.hprof_objects.specs.declared.growing.Stands.TheVariants.{InMemory, InPart}
use Rattle.hprof_objects.specs.declared.open_cut.OpenCut.{OpenCut}
use Rattle.hprof_objects.specs.declared.stretch.Stretch.{Stretch}
use Rattle.hprof_objects.specs.Cuts.{cut_behind, cut_of, whole_cut}
use Rattle.hprof_objects.specs.Growing.{extended, grown_first, grown_in_part}
use Rattle.hprof_objects.specs.Log.{Keeps}
use Rattle.hprof_objects.specs.ObjectRows.{object_row}
use Rattle.hprof_objects.specs.PartsRead.{PartRead, with_fact}
use Rattle.hprof_objects.specs.Stretches.{IsGrowingStretch, IsPiece, IsPieceOf, IsPlaceIn, StandAt, StandsIn}
use Rattle.hprof_objects.specs.declared.row_store.RowStore.{RowStore}
use Rattle.hprof_objects.specs.Store.{Pushes, rows_of_store, runs_of_store}
use Rattle.hprof_objects.proofs.Logged.{keeps_cut, keeps_extended, keeps_forgotten, keeps_pushed, keeps_spilled, keeps_staying}
use Rattle.hprof_objects.proofs.Stretches.{all_below, place_with_fact, stands_alone, stands_longer, stands_with_fact}

-- a front that is taken
take_front : {X : Type 0} (front rest : List X) → take (length front) (front ++ rest) ≡ front
take_front [] rest = refl
take_front (x ∷ front) rest = ap (λ (l : List _). x ∷ l) (take_front front rest)

-- a piece goes on
pub piece_goes_on : (limits : Limits) (part : PartRead) (fact : FactValue) (piece next : Piece) → IsPiece limits part piece
    → next.place ≡ piece.place → next.passed ≡ piece.passed + 1 → IsPiece limits (with_fact part fact) next
piece_goes_on limits part fact piece next it same more = record {
  since = it.since ++ fact ∷ [];
  place = subst (λ p. IsPlaceIn limits (with_fact part fact) p (it.since ++ fact ∷ [])) (sym same)
      (place_with_fact limits part fact piece.place it.since it.place);
  passed = more ∙ (ap (λ (n : ℕ). n + 1) it.passed ∙ sym (length-append it.since (fact ∷ [])));
}

module _ {S : Type 0} (written : S → Option (List ℕ)) (health : S → Health) (limits : Limits) (parts : List PartRead) (part : PartRead)
    (number : ℕ) where
  -- it stays in the part
  pub settled_staying : (memory after : List ByteRow) (scratch : Runs S) (stays : List Stretch) (cuts : List Cut)
      (cut : Option OpenCut) (growing next : Growing) (from : ℕ) (rows : List ByteRow) → growing.stands ≡ InMemory from
      → next ≡ grown_in_part growing → after ≡ take from memory
      → IsGrowingStretch limits number part growing memory rows
      → Keeps written health limits parts part number memory scratch stays cuts cut None
      → Keeps written health limits parts part number after scratch stays cuts (Some (whole_cut growing)) (Some next)
  settled_staying memory after scratch stays cuts cut growing next from rows stands is taken grows it =
      let at = subst (λ (s : Stands). StandAt s rows memory) stands grows.at in
      let front : take from memory ≡ at.0 =
      ap (take from) at.1 ∙ (ap (λ (n : ℕ). take n (at.0 ++ rows)) (sym at.2) ∙ take_front at.0 rows) in
      subst (λ (g : Growing). Keeps written health limits parts part number after scratch stays cuts (Some (whole_cut growing)) (Some g))
      (sym is)
      (subst (λ (m : List ByteRow). Keeps written health limits parts part number m scratch stays cuts (Some (whole_cut growing))
      (Some (grown_in_part growing))) (sym (taken ∙ front))
      (keeps_staying written health limits parts part number memory at.0 scratch stays cuts cut growing from rows stands at.1 grows it))

-- the stretch of one object
pub first_grows : (limits : Limits) (part : PartRead) (number : ℕ) (fact : FactValue) (piece : Piece) (id len from : ℕ) (bytes : List ℕ)
    (memory front : List ByteRow) → IsPiece limits part piece → object_row part.ids fact ≡ Some (id, bytes)
    → memory ≡ front ++ (id, bytes) ∷ [] → length front ≡ from
    → IsGrowingStretch limits number (with_fact part fact) (grown_first number piece id len from) memory ((id, bytes) ∷ [])
first_grows limits part number fact piece id len from bytes memory front is object alone place = record {
  of_part = refl;
  stands = stands_alone limits part fact (id, bytes) number piece is object;
  first = (bytes, [], refl);
  last = ([], bytes, refl);
  at = (front, alone, place);
}

-- an object more, behind those in memory
pub next_grows : (limits : Limits) (part : PartRead) (number : ℕ) (fact : FactValue) (growing : Growing) (id len from : ℕ) (bytes : List ℕ)
    (memory after rows : List ByteRow) → growing.stands ≡ InMemory from → growing.last < id → object_row part.ids fact ≡ Some (id, bytes)
    → after ≡ memory ++ (id, bytes) ∷ [] → IsGrowingStretch limits number part growing memory rows
    → IsGrowingStretch limits number (with_fact part fact) (extended growing id len) after (rows ++ (id, bytes) ∷ [])
next_grows limits part number fact growing id len from bytes memory after rows stands above object pushed it = record {
  of_part = it.of_part;
  stands = stands_longer limits (with_fact part fact) growing.stretch rows (id, bytes)
      (subst (λ (more : List ByteRow). StandsIn limits (with_fact part fact) growing.stretch rows more) (ap only object)
      (stands_with_fact limits part fact growing.stretch rows [] it.stands))
      (all_below growing.last rows id it.stands.ascend it.last above);
  first = (it.first.0, it.first.1 ++ (id, bytes) ∷ [], ap (λ (l : List ByteRow). l ++ (id, bytes) ∷ []) it.first.2);
  last = (rows, bytes, refl);
  at = subst (λ (s : Stands). StandAt s (rows ++ (id, bytes) ∷ []) after) (sym stands) (
    at.0,
    pushed ∙ (ap (λ (l : List ByteRow). l ++ (id, bytes) ∷ []) at.1 ∙ append_assoc at.0 rows ((id, bytes) ∷ [])),
    at.2,
  );
}
  where
    at : StandAt (InMemory from) rows memory
    at = subst (λ (s : Stands). StandAt s rows memory) stands it.at

-- the same, wherever it stands
pub keeps_same : {S : Type 0} (written : S → Option (List ℕ)) (health : S → Health) (limits : Limits) (parts : List PartRead)
    (part : PartRead) (number other : ℕ) (memory after : List ByteRow) (scratch next : Runs S) (stays more : List Stretch)
    (cuts others : List Cut) (cut : Option OpenCut) (growing : Option Growing) → other ≡ number → after ≡ memory → next ≡ scratch
    → more ≡ stays → others ≡ cuts → Keeps written health limits parts part number memory scratch stays cuts cut growing
    → Keeps written health limits parts part other after next more others cut growing
keeps_same written health limits parts part number other memory after scratch next stays more cuts others cut growing a b c d e it =
    rw (a, b, c, d, e) it

-- no stretch grows
pub ungrown : {S : Type 0} (written : S → Option (List ℕ)) (health : S → Health) (limits : Limits) (parts : List PartRead) (part : PartRead)
    (number : ℕ) (memory : List ByteRow) (scratch : Runs S) (stays : List Stretch) (cuts : List Cut) (cut : Option OpenCut)
    (growing : Option Growing) → growing ≡ None
    → Keeps written health limits parts part number memory scratch stays cuts cut growing
    → Keeps written health limits parts part number memory scratch stays cuts cut None
ungrown written health limits parts part number memory scratch stays cuts cut growing none it =
    subst (λ (g : Option Growing). Keeps written health limits parts part number memory scratch stays cuts cut g) none it

-- a row was pushed
pub pushed_keeps : {S : Type 0} (written : S → Option (List ℕ)) (health : S → Health) (limits : Limits) (parts : List PartRead)
    (part : PartRead) (number : ℕ) (stays : List Stretch) (cuts : List Cut) (cut : Option OpenCut) (fact : FactValue) (row : ByteRow)
    (old new : RowStore S) (spilled : Bool)
    → object_row part.ids fact ≡ Some row → Pushes written health spilled old row new
    → Keeps written health limits parts part number (rows_of_store old) (runs_of_store old) stays cuts cut None
    → Keeps written health limits parts (with_fact part fact) number (rows_of_store new) (runs_of_store new) stays cuts cut None
pushed_keeps written health limits parts part number stays cuts cut fact row old new false object pushed it =
    keeps_pushed written health limits parts part number fact row (rows_of_store old) (rows_of_store new) (runs_of_store old)
    (runs_of_store new) stays cuts cut object pushed.0 pushed.1 it
pushed_keeps written health limits parts part number stays cuts cut fact row old new true object pushed it =
    keeps_spilled written health limits parts part number fact row (rows_of_store old) (rows_of_store new) (runs_of_store old)
    (runs_of_store new) stays cuts cut object pushed.0 pushed.1 it

-- what holds of each answer holds where there is one
pub where_ok : {A E P : Type 0} {F : A → Type 0} (result : Result A E) → IfOk result F → ((answer : A) → F answer → P) → OnOk result P
where_ok (Ok answer) holds then = then answer holds
where_ok (Err fault) holds then = tt

-- the rows of a growing stretch, and what is kept where it is forgotten
pub record WasGrowing {S : Type 0} (written : S → Option (List ℕ)) (health : S → Health) (limits : Limits) (parts : List PartRead)
    (part : PartRead) (number : ℕ) (memory : List ByteRow) (scratch : Runs S) (stays : List Stretch) (cuts : List Cut)
    (cut : Option OpenCut)
    (growing : Growing) : Type 0 where
  pub rows : List ByteRow
  pub grows : IsGrowingStretch limits number part growing memory rows
  pub keeps : Keeps written health limits parts part number memory scratch stays cuts cut None

pub was_growing : {S : Type 0} (written : S → Option (List ℕ)) (health : S → Health) (limits : Limits) (parts : List PartRead)
    (part : PartRead) (number : ℕ) (memory : List ByteRow) (scratch : Runs S) (stays : List Stretch) (cuts : List Cut)
    (cut : Option OpenCut)
    (known : Option Growing) (growing : Growing) (from : ℕ) → known ≡ Some growing → growing.stands ≡ InMemory from
    → Keeps written health limits parts part number memory scratch stays cuts cut known
    → WasGrowing written health limits parts part number memory scratch stays cuts cut growing
was_growing written health limits parts part number memory scratch stays cuts cut known growing from is stands it =
    let kept = subst (λ (g : Option Growing). Keeps written health limits parts part number memory scratch stays cuts cut g) is it in
    record {
      rows = kept.grown;
      grows = kept.grows;
      keeps = keeps_forgotten written health limits parts part number memory scratch stays cuts cut growing from stands kept;
    }

-- a stretch that stays in its part has one object more
pub grows_in_part : {S : Type 0} (written : S → Option (List ℕ)) (health : S → Health) (limits : Limits) (parts : List PartRead)
    (part : PartRead) (number : ℕ) (memory : List ByteRow) (scratch : Runs S) (stays : List Stretch) (cuts : List Cut)
    (cut : Option OpenCut)
    (known : Option Growing) (growing next : Growing) (fact : FactValue) (id len : ℕ) (bytes : List ℕ) → known ≡ Some growing
    → growing.stands ≡ InPart → growing.last < id → object_row part.ids fact ≡ Some (id, bytes) → next ≡ extended growing id len
    → Keeps written health limits parts part number memory scratch stays cuts cut known
    → Keeps written health limits parts (with_fact part fact) number memory scratch stays cuts cut (Some next)
grows_in_part written health limits parts part number memory scratch stays cuts cut known growing next fact id len bytes is stands above
    object same it =
    subst (λ (g : Growing). Keeps written health limits parts (with_fact part fact) number memory scratch stays cuts cut (Some g))
    (sym same)
    (keeps_extended written health limits parts part number fact (id, bytes) memory scratch stays cuts cut growing len object above stands
    (subst (λ (g : Option Growing). Keeps written health limits parts part number memory scratch stays cuts cut g) is it))

-- the object begins another cut
pub grows_cut : {S : Type 0} (written : S → Option (List ℕ)) (health : S → Health) (limits : Limits) (parts : List PartRead)
    (part : PartRead) (number : ℕ) (memory : List ByteRow) (scratch : Runs S) (stays : List Stretch) (cuts more : List Cut)
    (known : Option OpenCut) (cut next_cut : OpenCut) (closed : Cut) (known_growing : Option Growing) (growing next : Growing)
    (known_piece : Option Piece) (piece : Piece) (fact : FactValue) (id len : ℕ) (bytes : List ℕ) → known_growing ≡ Some growing
    → growing.stands ≡ InPart → growing.last < id → object_row part.ids fact ≡ Some (id, bytes) → next ≡ extended growing id len
    → known ≡ Some cut → known_piece ≡ Some piece → closed ≡ cut_of cut growing → more ≡ cuts ++ closed ∷ []
    → next_cut ≡ cut_behind growing piece id → IsPieceOf limits part known_piece
    → Keeps written health limits parts part number memory scratch stays cuts known known_growing
    → Keeps written health limits parts (with_fact part fact) number memory scratch stays more (Some next_cut) (Some next)
grows_cut written health limits parts part number memory scratch stays cuts more known cut next_cut closed known_growing growing next
    known_piece piece fact id len bytes is stands above object same cut_is piece_is closes adds begins in_piece it =
    let kept = subst (λ (g : Option Growing). Keeps written health limits parts part number memory scratch stays cuts (Some cut) g) is
    (subst (λ (c : Option OpenCut). Keeps written health limits parts part number memory scratch stays cuts c known_growing) cut_is it) in
    let its = keeps_cut written health limits parts part number fact (id, bytes) memory scratch stays cuts cut growing piece len object
    above stands (subst (λ (p : Option Piece). IsPieceOf limits part p) piece_is in_piece) kept in
    subst (λ (g : Growing). Keeps written health limits parts (with_fact part fact) number memory scratch stays more (Some next_cut)
    (Some g)) (sym same)
    (subst (λ (c : OpenCut). Keeps written health limits parts (with_fact part fact) number memory scratch stays more (Some c)
    (Some (extended growing id len))) (sym begins)
    (subst (λ (l : List Cut). Keeps written health limits parts (with_fact part fact) number memory scratch stays l
    (Some (cut_behind growing piece id)) (Some (extended growing id len)))
    (sym (adds ∙ ap (λ (c : Cut). cuts ++ c ∷ []) closes)) its))
