-- Picking objects of cuts, one cut after another.
use Rattle.std.proofs.Common.{◌≡◌, ◌≤◌, ◌++◌, ℕ, false, List, [], ◌∷◌, Option, Result, Ok, Err}
use Rattle.std.proofs.Common.{refl, sym, ap, subst, ◌∙◌, append_assoc, append-nil, inl}
use Rattle.std.specs.Prelude.{IfErr, ⊤}
use Rattle.hprof_devices.specs.declared.health.Health.{Health}
use Rattle.hprof_stream.specs.declared.limits.Limits.{Limits}
use Rattle.hprof_merge.specs.Rows.{ByteRow, Has, IsAscending}
use Rattle.hprof_merge.specs.Run.{Runs}
use Rattle.hprof_runs.proofs.TwoPieces.{ascends_behind, from_first, has_back, has_front}
use Rattle.hprof_objects.specs.declared.cut.Cut.{Cut}
use Rattle.hprof_objects.specs.declared.object_fault.ObjectFault.{ObjectFault}
use Rattle.hprof_objects.specs.declared.object_fault.ObjectFault.TheVariants as stops
use Rattle.hprof_objects.specs.declared.stretch_cursor.StretchCursor.{StretchCursor}
use Rattle.hprof_objects.specs.declared.stretch_fault.StretchFault.{StretchFault}
use Rattle.hprof_objects.specs.declared.stretch_fault.StretchFault.TheVariants as faults
use Rattle.hprof_objects.specs.Cuts.{AreCuts, CutInto, IsCutOf, all_rows}
use Rattle.hprof_objects.specs.ObjectCursors.{part_stop}
use Rattle.hprof_objects.specs.PartsRead.{PartRead}
use Rattle.hprof_objects.specs.PickedCuts.{TellsCursor, TellsCuts}
use Rattle.hprof_objects.specs.Picks.{PicksFirst, PicksOf, RefusesAmong}
use Rattle.hprof_objects.specs.ReadAgain.{IsSameAt}
use Rattle.hprof_objects.specs.StretchCursor.{OpensStretch, RefusesStretch}
use Rattle.hprof_objects.specs.StretchFault.{ByFault}
use Rattle.hprof_objects.specs.StretchKnown.{StretchComes}
use Rattle.hprof_objects.specs.Wanted.{is_among, wanted_rows}
use Rattle.hprof_objects.proofs.PickedRows.{at_most_end, wanted_both}
use Rattle.hprof_objects.proofs.WantedRows.{wanted-none, wanted-same}

-- ---- one cut

-- none of its objects is wanted
pub cut_passed : (limits : Limits) (reads : List PartRead) (cut : Cut) (rows : List ByteRow) (wanted : List ℕ)
    → ((id : ℕ) → id ≤ cut.last → is_among wanted id ≡ false) → IsCutOf limits reads cut rows → wanted_rows wanted rows ≡ []
cut_passed limits reads cut rows wanted none it =
    wanted-none wanted rows (λ row has. none row.0 (at_most_end rows cut.last it.last it.is.stands.ascend row has))

-- it cannot be read again
pub cut_refuses : (G : Type 0) (limits : Limits) (told : List (Option (List ℕ))) (cut : Cut) (fault : StretchFault)
    → RefusesStretch limits told cut.stretch fault → TellsCuts {G = G} limits told (cut ∷ []) (part_stop cut.stretch.part fault)
cut_refuses G limits told cut faults.OutOfMemory refuses = tt
cut_refuses G limits told cut faults.Read refuses = tt
cut_refuses G limits told cut faults.Changed refuses = never
  where
    never : (reads : List PartRead) (lists : List (List ByteRow)) → AreCuts limits reads (cut ∷ []) lists
        → IsSameAt limits told reads cut.stretch.part → ⊥
    never reads [] are same = absurd are
    never reads (rows ∷ lists) are same = refuses reads rows are.0.is same

-- what a stop of its cursor tells
module _ {R : Type 0} (left : R → Option (List ℕ)) (health : R → Health) (pulls : R → ℕ) (limits : Limits)
    (told : List (Option (List ℕ))) (cut : Cut) (it : StretchCursor R)
    (opens : OpensStretch left health pulls limits told cut.stretch it) where
  never_changed : (fault : StretchFault) → ByFault fault ⊤ ((rows : List ByteRow) → StretchComes left health pulls it rows → ⊥)
      → ByFault fault ⊤ ((reads : List PartRead) (lists : List (List ByteRow)) → AreCuts limits reads (cut ∷ []) lists
      → IsSameAt limits told reads cut.stretch.part → ⊥)
  never_changed faults.OutOfMemory never = tt
  never_changed faults.Read never = tt
  never_changed faults.Changed never = all
    where
      all : (reads : List PartRead) (lists : List (List ByteRow)) → AreCuts limits reads (cut ∷ []) lists
          → IsSameAt limits told reads cut.stretch.part → ⊥
      all reads [] are same = absurd are
      all reads (rows ∷ lists) are same = never rows (limits.max_reads, opens reads rows are.0.is same)

  stop_tells : {G : Type 0} (stop : ObjectFault G) → TellsCursor left health pulls cut.stretch.part it stop
      → TellsCuts limits told (cut ∷ []) stop
  stop_tells stops.OutOfMemory tells = tt
  stop_tells (stops.TwoContents key) tells = tells
  stop_tells (stops.Scratch fault) tells = tells
  stop_tells (stops.Part part fault) tells =
      subst (λ (n : ℕ). ByFault fault ⊤ ((reads : List PartRead) (lists : List (List ByteRow)) → AreCuts limits reads (cut ∷ []) lists
      → IsSameAt limits told reads n → ⊥)) (sym tells.0) (never_changed fault tells.1)
  stop_tells (stops.Sink fault) tells = tt

  pub cut_tells : {A G : Type 0} (result : Result A (ObjectFault G))
      → IfErr result (TellsCursor left health pulls cut.stretch.part it) → IfErr result (TellsCuts limits told (cut ∷ []))
  cut_tells (Ok done) tells = tt
  cut_tells (Err stop) tells = stop_tells stop tells

-- ---- cuts one after another

-- what a stop at one of them tells of all
pub among_tells : {G : Type 0} (limits : Limits) (told : List (Option (List ℕ))) (cuts : List Cut) (cut : Cut)
    → ((reads : List PartRead) (lists : List (List ByteRow)) → AreCuts limits reads cuts lists
    → (rows : List ByteRow) × IsCutOf limits reads cut rows) → (stop : ObjectFault G) → TellsCuts limits told (cut ∷ []) stop
    → TellsCuts limits told cuts stop
among_tells limits told cuts cut among stops.OutOfMemory tells = tt
among_tells limits told cuts cut among (stops.TwoContents key) tells = tells
among_tells limits told cuts cut among (stops.Scratch fault) tells = tells
among_tells limits told cuts cut among (stops.Part part faults.OutOfMemory) tells = tt
among_tells limits told cuts cut among (stops.Part part faults.Read) tells = tt
among_tells limits told cuts cut among (stops.Part part faults.Changed) tells = λ reads lists are same.
    let it = among reads lists are in tells reads (it.0 ∷ []) (it.1, tt) same
among_tells limits told cuts cut among (stops.Sink fault) tells = tt

-- the cuts that are left are some of all
abbrev pub AreLeft : Limits → List Cut → List Cut → Type 0
AreLeft limits cuts rest = (reads : List PartRead) (lists : List (List ByteRow)) → AreCuts limits reads cuts lists
    → (behind : List (List ByteRow)) × AreCuts limits reads rest behind

pub left_first : (limits : Limits) (cuts rest after : List Cut) (cut : Cut) → rest ≡ cut ∷ after → AreLeft limits cuts rest
    → (reads : List PartRead) (lists : List (List ByteRow)) → AreCuts limits reads cuts lists
    → (rows : List ByteRow) × IsCutOf limits reads cut rows
left_first limits cuts rest after cut is are reads lists all = first there.0 there.1
  where
    there : (behind : List (List ByteRow)) × AreCuts limits reads (cut ∷ after) behind
    there = subst (λ (l : List Cut). (behind : List (List ByteRow)) × AreCuts limits reads l behind) is (are reads lists all)

    first : (behind : List (List ByteRow)) → AreCuts limits reads (cut ∷ after) behind
        → (rows : List ByteRow) × IsCutOf limits reads cut rows
    first [] its = absurd its
    first (rows ∷ behind) its = (rows, its.0)

pub left_after : (limits : Limits) (cuts rest after : List Cut) (cut : Cut) → rest ≡ cut ∷ after → AreLeft limits cuts rest
    → AreLeft limits cuts after
left_after limits cuts rest after cut is are reads lists all = others there.0 there.1
  where
    there : (behind : List (List ByteRow)) × AreCuts limits reads (cut ∷ after) behind
    there = subst (λ (l : List Cut). (behind : List (List ByteRow)) × AreCuts limits reads l behind) is (are reads lists all)

    others : (behind : List (List ByteRow)) → AreCuts limits reads (cut ∷ after) behind
        → (behind : List (List ByteRow)) × AreCuts limits reads after behind
    others [] its = absurd its
    others (rows ∷ behind) its = (behind, its.1)

-- ---- what was picked

module _ {T : Type 0} (steps : T → ℕ → List ℕ → T → Type 0) (wanted : List ℕ) where
  -- the sink took the wanted ones of the objects of the first cuts; from the next object on the same are wanted
  pub record CutsSoFar (limits : Limits) (reads : List PartRead) (rows : List ByteRow) (rest : List Cut) (behind : List ℕ) (old new : T)
      : Type 0 where
    pub done : List ByteRow
    pub more : List ByteRow
    pub are : rows ≡ done ++ more
    pub cuts : CutInto limits reads rest more
    pub run : Runs steps old (wanted_rows wanted done) new
    pub same : (row : ByteRow) → Has more row → is_among behind row.0 ≡ is_among wanted row.0

  pub no_cuts : (limits : Limits) (reads : List PartRead) (rows : List ByteRow) (cuts : List Cut) (sink : T)
      → CutInto limits reads cuts rows
      → CutsSoFar limits reads rows cuts wanted sink sink
  no_cuts limits reads rows cuts sink cut =
      record { done = []; more = rows; are = refl; cuts = cut; run = refl; same = λ row has. refl }

  pub all_cuts : (limits : Limits) (reads : List PartRead) (rows : List ByteRow) (rest : List Cut) (behind : List ℕ) (old new : T)
      → rest ≡ [] → CutsSoFar limits reads rows rest behind old new → Runs steps old (wanted_rows wanted rows) new
  all_cuts limits reads rows rest behind old new none it =
      let nothing : it.more ≡ [] = no_more it.cuts.lists (subst (λ (l : List Cut). AreCuts limits reads l it.cuts.lists) none it.cuts.are)
      it.cuts.whole in
      subst (λ (l : List ByteRow). Runs steps old (wanted_rows wanted l) new)
      (sym (it.are ∙ (ap (λ (l : List ByteRow). it.done ++ l) nothing ∙ append-nil it.done))) it.run
    where
      no_more : {more : List ByteRow} (lists : List (List ByteRow)) → AreCuts limits reads [] lists → all_rows lists ≡ more → more ≡ []
      no_more [] are whole = sym whole
      no_more (rows ∷ lists) are whole = absurd are

  module _ (limits : Limits) (reads : List PartRead) (rows : List ByteRow) (ascends : IsAscending rows) (rest after : List Cut) (cut : Cut)
      (behind next : List ℕ) (old mid : T) (is : rest ≡ cut ∷ after)
      (from : (id : ℕ) → cut.first ≤ id → is_among next id ≡ is_among behind id)
      (it : CutsSoFar limits reads rows rest behind old mid) where
    -- the objects of the next cut, and those behind it
    pub record NextCut : Type 0 where
      pub its : List ByteRow
      pub is_cut : IsCutOf limits reads cut its
      pub others : List ByteRow
      pub are_others : CutInto limits reads after others
      pub whole : it.more ≡ its ++ others

    next_of : (lists : List (List ByteRow)) → AreCuts limits reads (cut ∷ after) lists → all_rows lists ≡ it.more → NextCut
    next_of [] are whole = absurd are
    next_of (its ∷ lists) are whole = record {
      its = its;
      is_cut = are.0;
      others = all_rows lists;
      are_others = record { lists = lists; are = are.1; whole = refl };
      whole = sym whole;
    }

    pub next_cut : NextCut
    next_cut =
        next_of it.cuts.lists (subst (λ (l : List Cut). AreCuts limits reads l it.cuts.lists) is it.cuts.are) it.cuts.whole

    more_ascends : IsAscending (next_cut.its ++ next_cut.others)
    more_ascends =
        subst (λ (l : List ByteRow). IsAscending l) next_cut.whole
        (ascends_behind it.done it.more (subst (λ (l : List ByteRow). IsAscending l) it.are ascends))

    -- from its first object on the same are wanted
    same_from : (row : ByteRow) → Has (next_cut.its ++ next_cut.others) row → is_among next row.0 ≡ is_among wanted row.0
    same_from row has =
        let begins = next_cut.is_cut.first in
        let all : next_cut.its ++ next_cut.others ≡ (cut.first, begins.0) ∷ (begins.1 ++ next_cut.others) =
        ap (λ (l : List ByteRow). l ++ next_cut.others) begins.2 in
        from row.0 (from_first (cut.first, begins.0) (begins.1 ++ next_cut.others)
        (subst (λ (l : List ByteRow). IsAscending l) all more_ascends) row (subst (λ (l : List ByteRow). Has l row) all has))
        ∙ it.same row (subst (λ (l : List ByteRow). Has l row) (sym next_cut.whole) has)

    same_its : (l : List ByteRow) → ((row : ByteRow) → Has l row → Has next_cut.its row) → wanted_rows next l ≡ wanted_rows wanted l
    same_its l inside =
        wanted-same wanted next l (λ row has. same_from row (has_front next_cut.its next_cut.others row (inside row has)))

    -- the next cut is done
    pub cut_done : (new : T) → Runs steps mid (wanted_rows next next_cut.its) new → CutsSoFar limits reads rows after next old new
    cut_done new run = record {
      done = it.done ++ next_cut.its;
      more = next_cut.others;
      are = it.are ∙ (ap (λ (l : List ByteRow). it.done ++ l) next_cut.whole ∙ sym (append_assoc it.done next_cut.its next_cut.others));
      cuts = next_cut.are_others;
      run = wanted_both steps wanted old mid new it.done next_cut.its it.run
          (subst (λ (l : List ByteRow). Runs steps mid l new) (same_its next_cut.its (λ row has. has)) run);
      same = λ row has. same_from row (has_back next_cut.its next_cut.others row has);
    }

    -- or picking stopped in it
    module _ {G : Type 0} (refuses : T → ℕ → List ℕ → G → T → Type 0) (new : T) where
      first_of_it : PicksFirst steps refuses next next_cut.its mid new → PicksFirst steps refuses wanted rows old new
      first_of_it picks = record {
        front = it.done ++ picks.front;
        behind = picks.behind ++ next_cut.others;
        are = it.are ∙ (ap (λ (l : List ByteRow). it.done ++ l)
            (next_cut.whole ∙ (ap (λ (l : List ByteRow). l ++ next_cut.others) picks.are
            ∙ append_assoc picks.front picks.behind next_cut.others))
            ∙ sym (append_assoc it.done picks.front (picks.behind ++ next_cut.others)));
        run = wanted_both steps wanted old mid new it.done picks.front it.run
            (subst (λ (l : List ByteRow). Runs steps mid l new) (same_its picks.front (λ row has.
            subst (λ (l : List ByteRow). Has l row) (sym picks.are) (has_front picks.front picks.behind row has))) picks.run);
      }

      refused_in_it : (fault : G) → RefusesAmong steps refuses next next_cut.its fault mid new
          → RefusesAmong steps refuses wanted rows fault old new
      refused_in_it fault picks = record {
        front = it.done ++ picks.front;
        row = picks.row;
        behind = picks.behind ++ next_cut.others;
        are = it.are ∙ (ap (λ (l : List ByteRow). it.done ++ l)
            (next_cut.whole ∙ (ap (λ (l : List ByteRow). l ++ next_cut.others) picks.are
            ∙ append_assoc picks.front (picks.row ∷ picks.behind) next_cut.others))
            ∙ sym (append_assoc it.done picks.front (picks.row ∷ (picks.behind ++ next_cut.others))));
        mid = picks.mid;
        run = wanted_both steps wanted old mid picks.mid it.done picks.front it.run
            (subst (λ (l : List ByteRow). Runs steps mid l picks.mid) (same_its picks.front (λ row has.
            subst (λ (l : List ByteRow). Has l row) (sym picks.are) (has_front picks.front (picks.row ∷ picks.behind) row has))) picks.run);
        is_wanted = sym (same_from picks.row (has_front next_cut.its next_cut.others picks.row
            (subst (λ (l : List ByteRow). Has l picks.row) (sym picks.are)
            (has_back picks.front (picks.row ∷ picks.behind) picks.row (inl refl))))) ∙ picks.is_wanted;
        refused = picks.refused;
      }

      pub cut_stops : (A : Type 0) (stop : ObjectFault G) → PicksOf steps refuses next {A = A} next_cut.its (Err stop) mid new
          → PicksOf steps refuses wanted {A = A} rows (Err stop) old new
      cut_stops A stops.OutOfMemory picks = first_of_it picks
      cut_stops A (stops.TwoContents key) picks = absurd picks
      cut_stops A (stops.Scratch fault) picks = absurd picks
      cut_stops A (stops.Part part fault) picks = first_of_it picks
      cut_stops A (stops.Sink fault) picks = refused_in_it fault picks
