-- What was picked of one list of rows, which is the union of lists.
use Rattle.std.proofs.Common.{◌≡◌, ◌<◌, ◌≤◌, ◌+◌, ◌++◌, ℕ, List, [], ◌∷◌, Option, Result, Ok, Err}
use Rattle.std.proofs.Common.{sym, subst, ◌∙◌, arith, append_assoc, inl, inr}
use Rattle.std.specs.Prelude.{IfErr, OnOk}
use Rattle.hprof_devices.specs.declared.health.Health.{Health}
use Rattle.hprof_stream.specs.declared.limits.Limits.{Limits}
use Rattle.hprof_merge.specs.Rows.{ByteRow, Has, IsAscending}
use Rattle.hprof_merge.specs.Union.{IsUnion, IsUnionBelow}
use Rattle.hprof_runs.proofs.TwoPieces.{ascends_behind, ascends_front, below_behind, from_first, has_either, has_front}
use Rattle.hprof_objects.specs.declared.cut.Cut.{Cut}
use Rattle.hprof_objects.specs.declared.object_fault.ObjectFault.{ObjectFault}
use Rattle.hprof_objects.specs.declared.object_fault.ObjectFault.TheVariants as stops
use Rattle.hprof_objects.specs.declared.stored_objects.StoredObjects.{StoredObjects}
use Rattle.hprof_objects.specs.declared.stretch_fault.StretchFault.TheVariants as faults
use Rattle.hprof_objects.specs.MergedObjects.{IfScratchFails, TellsChange}
use Rattle.hprof_objects.specs.PickedCuts.{TellsCuts}
use Rattle.hprof_objects.specs.Picks.{Picks, PicksFirst, PicksFront, PicksOf, RefusesAmong, RefusesWanted}

-- ---- the first rows of a union

-- a key above all
top : List ByteRow → ℕ
top [] = 0
top (row ∷ rows) = (row.0 + 1) + top rows

below_top : (rows : List ByteRow) (row : ByteRow) → Has rows row → row.0 < top rows
unfolding top
below_top [] row has = absurd has
below_top (first ∷ rows) row (inl is) = subst (λ (r : ByteRow). r.0 < (first.0 + 1) + top rows) (sym is) (omega arith)
below_top (first ∷ rows) row (inr has) = let lt = below_top rows row has in omega (arith, lt)

module _ (lists : List (List ByteRow)) (rows : List ByteRow) (union : IsUnion lists rows) where
  front_below : (front behind : List ByteRow) (bound : ℕ) → rows ≡ front ++ behind → ((row : ByteRow) → Has front row → row.0 < bound)
      → ((row : ByteRow) → Has behind row → bound ≤ row.0) → IsUnionBelow lists bound front
  front_below front behind bound is low high = record {
    ascends = ascends_front front behind (subst (λ (l : List ByteRow). IsAscending l) is union.ascends);
    same = λ row. (
      (λ has. ((union.same row).0 (subst (λ (l : List ByteRow). Has l row) (sym is) (has_front front behind row has)), low row has)),
      (λ there. elim (has_either front behind row (subst (λ (l : List ByteRow). Has l row) is ((union.same row).1 there.0))) [
        | inl has ↦ has
        | inr has ↦ let le = high row has in let lt = there.1 in absurd (omega (arith, le, lt))
      ]),
    );
  }

  -- up to some bound
  first_below : (front behind : List ByteRow) → rows ≡ front ++ behind → (bound : ℕ) × IsUnionBelow lists bound front
  first_below front [] is = (top front, front_below front [] (top front) is (below_top front) (λ row has. absurd has))
  first_below front (next ∷ behind) is =
      let up = subst (λ (l : List ByteRow). IsAscending l) is union.ascends in (
        next.0,
        front_below front (next ∷ behind) next.0 is (below_behind front next behind up)
            (from_first next behind (ascends_behind front (next ∷ behind) up)),
      )

  -- up to a row
  below_row : (front : List ByteRow) (row : ByteRow) (behind : List ByteRow) → rows ≡ front ++ row ∷ behind
      → IsUnionBelow lists (row.0 + 1) (front ++ row ∷ [])
  below_row front row behind is =
      let up = subst (λ (l : List ByteRow). IsAscending l) is union.ascends in
      let behind_up = ascends_behind front (row ∷ behind) up in
      front_below (front ++ row ∷ []) behind (row.0 + 1) (is ∙ sym (append_assoc front (row ∷ []) behind))
      (λ other has. elim (has_either front (row ∷ []) other has) [
        | inl there ↦ let lt = below_behind front row behind up other there in omega (arith, lt)
        | inr there ↦ is_row other there
      ]) (λ other has. let lt = behind_up.0 other has in omega (arith, lt))
    where
      is_row : (other : ByteRow) → Has (row ∷ []) other → other.0 < row.0 + 1
      is_row other (inl same) = subst (λ (r : ByteRow). r.0 < row.0 + 1) (sym same) (omega arith)
      is_row other (inr never) = absurd never

  -- ---- what was picked

  module _ {T G : Type 0} (steps : T → ℕ → List ℕ → T → Type 0) (refuses : T → ℕ → List ℕ → G → T → Type 0) (wanted : List ℕ)
      (old new : T) where
    picks_front : PicksFirst steps refuses wanted rows old new → PicksFront steps wanted lists old new
    picks_front picks =
        let it = first_below picks.front picks.behind picks.are in (it.0, record { front = picks.front; union = it.1; run = picks.run })

    refuses_wanted : (fault : G) → RefusesAmong steps refuses wanted rows fault old new
        → (row : ByteRow) × RefusesWanted steps refuses wanted lists row fault old new
    refuses_wanted fault picks = (
      picks.row,
      record {
        front = picks.front;
        union = below_row picks.front picks.row picks.behind picks.are;
        mid = picks.mid;
        run = picks.run;
        is_wanted = picks.is_wanted;
        refused = picks.refused;
      },
    )

    pub picks_of : {A : Type 0} (result : Result A (ObjectFault G)) → PicksOf steps refuses wanted rows result old new
        → Picks steps refuses wanted lists result old new
    picks_of (Ok done) picks = record { all = rows; union = union; run = picks }
    picks_of (Err stops.OutOfMemory) picks = picks_front picks
    picks_of (Err (stops.TwoContents key)) picks = absurd picks
    picks_of (Err (stops.Scratch fault)) picks = absurd picks
    picks_of (Err (stops.Part part fault)) picks = picks_front picks
    picks_of (Err (stops.Sink fault)) picks = refuses_wanted fault picks

-- ---- what a stop tells

module _ {S : Type 0} (written : S → Option (List ℕ)) (health : S → Health) (limits : Limits) (told : List (Option (List ℕ)))
    (objects : StoredObjects S) where
  stop_changes : {G : Type 0} (stop : ObjectFault G) → TellsCuts limits told objects.cuts.items stop
      → TellsChange written health limits told objects stop
  stop_changes stops.OutOfMemory tells = tt
  stop_changes (stops.TwoContents key) tells = tt
  stop_changes (stops.Scratch fault) tells = absurd tells
  stop_changes (stops.Part part faults.OutOfMemory) tells = tt
  stop_changes (stops.Part part faults.Read) tells = tt
  stop_changes (stops.Part part faults.Changed) tells = λ reads holds same. tells reads holds.cut.lists holds.cut.are same
  stop_changes (stops.Sink fault) tells = tt

  pub cuts_change : {A G : Type 0} (result : Result A (ObjectFault G)) → IfErr result (TellsCuts limits told objects.cuts.items)
      → IfErr result (TellsChange written health limits told objects)
  cuts_change (Ok done) tells = tt
  cuts_change (Err stop) tells = stop_changes stop tells

pub no_scratch : {A G : Type 0} (limits : Limits) (told : List (Option (List ℕ))) (cuts : List Cut) (P : Type 0)
    (result : Result A (ObjectFault G)) → IfErr result (TellsCuts limits told cuts)
    → IfErr result (λ stop. IfScratchFails stop P)
no_scratch limits told cuts P (Ok done) tells = tt
no_scratch limits told cuts P (Err stops.OutOfMemory) tells = tt
no_scratch limits told cuts P (Err (stops.TwoContents key)) tells = tt
no_scratch limits told cuts P (Err (stops.Scratch fault)) tells = absurd tells
no_scratch limits told cuts P (Err (stops.Part part fault)) tells = tt
no_scratch limits told cuts P (Err (stops.Sink fault)) tells = tt

-- what holds, holds at the end
pub where_ok : {A E P : Type 0} (result : Result A E) → P → OnOk result P
where_ok (Ok done) holds = holds
where_ok (Err fault) holds = tt
