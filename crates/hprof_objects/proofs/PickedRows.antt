-- Picking rows that a cursor over a stretch shows.
use Rattle.std.proofs.Common.{◌≡◌, ◌≤◌, ◌+◌, ◌++◌, ℕ, Bool, true, false, cond, List, [], ◌∷◌, length, Option, Some, None, Err}
use Rattle.std.proofs.Common.{refl, sym, ap, subst, ◌∙◌, arith, append_assoc, append-nil, length-append, inl, inr}
use Rattle.hprof_devices.specs.declared.health.Health.{Health}
use Rattle.hprof_merge.specs.Rows.{ByteRow, Has, IsAscending}
use Rattle.hprof_merge.specs.Run.{Runs}
use Rattle.hprof_merge.specs.Showing.{only}
use Rattle.hprof_runs.proofs.TwoPieces.{has_back}
use Rattle.hprof_objects.specs.declared.stretch_cursor.StretchCursor.{StretchCursor}
use Rattle.hprof_objects.specs.declared.stretch_fault.StretchFault.{StretchFault}
use Rattle.hprof_objects.specs.declared.stretch_fault.StretchFault.TheVariants as faults
use Rattle.hprof_objects.specs.ObjectCursors.{part_stop}
use Rattle.hprof_objects.specs.PickedCuts.{TellsCursor}
use Rattle.hprof_objects.specs.Picks.{PicksFirst, PicksOf, RefusesAmong}
use Rattle.hprof_objects.specs.PickingSink.{TakesIf}
use Rattle.hprof_objects.specs.StretchCursor.{ComesTo, FailsAt, GoesOn, stretch_shown}
use Rattle.hprof_objects.specs.StretchKnown.{StretchComes}
use Rattle.hprof_objects.specs.Wanted.{is_among, wanted_rows}
use Rattle.hprof_objects.specs.Stretches.{EndsAt}
use Rattle.hprof_objects.proofs.Stretches.{at_most_last}
use Rattle.hprof_objects.proofs.WantedRows.{wanted-append, wanted-none}

-- ---- runs

pub run_both : {T : Type 0} (steps : T → ℕ → List ℕ → T → Type 0) (old mid new : T) (rows more : List ByteRow) → Runs steps old rows mid
    → Runs steps mid more new → Runs steps old (rows ++ more) new
run_both steps old mid new [] more run behind = subst (λ t. Runs steps t more new) (sym run) behind
run_both steps old mid new (row ∷ rows) more run behind = (run.0, run.1, run_both steps run.0 mid new rows more run.2 behind)

-- the wanted ones of rows, one after another
pub wanted_both : {T : Type 0} (steps : T → ℕ → List ℕ → T → Type 0) (wanted : List ℕ) (old mid new : T) (rows more : List ByteRow)
    → Runs steps old (wanted_rows wanted rows) mid → Runs steps mid (wanted_rows wanted more) new
    → Runs steps old (wanted_rows wanted (rows ++ more)) new
wanted_both steps wanted old mid new rows more run behind =
    subst (λ (l : List ByteRow). Runs steps old l new) (sym (wanted-append wanted rows more))
    (run_both steps old mid new (wanted_rows wanted rows) (wanted_rows wanted more) run behind)

-- one row, which is taken if it is wanted
taken_if : {T : Type 0} (steps : T → ℕ → List ℕ → T → Type 0) (is : Bool) (old : T) (key : ℕ) (bytes : List ℕ) (new : T)
    → TakesIf steps is old key bytes new → Runs steps old (cond is ((key, bytes) ∷ []) []) new
taken_if steps true old key bytes new took = (new, took, refl)
taken_if steps false old key bytes new took = took

pub wanted_one : {T : Type 0} (steps : T → ℕ → List ℕ → T → Type 0) (wanted : List ℕ) (is : Bool) (old : T) (key : ℕ) (bytes : List ℕ)
    (new : T) → is ≡ is_among wanted key → TakesIf steps is old key bytes new
    → Runs steps old (wanted_rows wanted ((key, bytes) ∷ [])) new
wanted_one steps wanted is old key bytes new same took =
    subst (λ (b : Bool). Runs steps old (cond b ((key, bytes) ∷ []) []) new) same (taken_if steps is old key bytes new took)

-- no row is above the last
pub at_most_end : (rows : List ByteRow) (last : ℕ) → EndsAt rows last → IsAscending rows → (row : ByteRow) → Has rows row → row.0 ≤ last
at_most_end rows last ends up row has =
    at_most_last ends.0 (last, ends.1) (subst (λ (l : List ByteRow). IsAscending l) ends.2 up) row
    (subst (λ (l : List ByteRow). Has l row) ends.2 has)

-- ---- a row that is shown

only_one : (shown : Option ByteRow) (row : ByteRow) (more : List ByteRow) → only shown ≡ row ∷ more → shown ≡ Some row
only_one None row more is = absurd cc
only_one (Some other) row more is = cc

module _ {R T : Type 0} (left : R → Option (List ℕ)) (health : R → Health) (pulls : R → ℕ) (steps : T → ℕ → List ℕ → T → Type 0)
    (wanted : List ℕ) where
  -- so many of the rows were passed, and the sink took the wanted ones; from the next row on the same keys are wanted
  pub record PickedSoFar (rows : List ByteRow) (it : StretchCursor R) (behind : List ℕ) (count : ℕ) (old new : T) : Type 0 where
    pub done : List ByteRow
    pub rest : List ByteRow
    pub are : rows ≡ done ++ rest
    pub passed : length done ≡ count
    pub comes : StretchComes left health pulls it rest
    pub run : Runs steps old (wanted_rows wanted done) new
    pub same : (row : ByteRow) → Has rest row → is_among behind row.0 ≡ is_among wanted row.0

  pub none_picked : (rows : List ByteRow) (it : StretchCursor R) (sink : T) → StretchComes left health pulls it rows
      → PickedSoFar rows it wanted 0 sink sink
  none_picked rows it sink comes = record {
    done = [];
    rest = rows;
    are = refl;
    passed = refl;
    comes = comes;
    run = refl;
    same = λ row has. refl;
  }

  module _ (rows : List ByteRow) (it : StretchCursor R) (behind : List ℕ) (count : ℕ) (old mid : T)
      (picked : PickedSoFar rows it behind count old mid) where
    -- no row is left
    all_picked : picked.rest ≡ [] → Runs steps old (wanted_rows wanted rows) mid
    all_picked none =
        subst (λ (l : List ByteRow). Runs steps old (wanted_rows wanted l) mid)
        (sym (picked.are ∙ (ap (λ (l : List ByteRow). picked.done ++ l) none ∙ append-nil picked.done))) picked.run

    -- since none is shown
    pub picked_to_end : only (stretch_shown it) ≡ [] → Runs steps old (wanted_rows wanted rows) mid
    picked_to_end none =
        let stands = picked.comes.1.stands in
        all_picked (stands.are ∙ (ap (λ (l : List ByteRow). l ++ stands.behind) none ∙ stands.none (not_shown (stretch_shown it) none)))
      where
        not_shown : (shown : Option ByteRow) → only shown ≡ [] → shown ≡ None
        not_shown None is = refl
        not_shown (Some row) is = absurd cc

    -- since as many were passed as there are
    pub picked_counted : count ≡ length rows → Runs steps old (wanted_rows wanted rows) mid
    picked_counted all =
        let long = ap (λ (l : List ByteRow). length l) picked.are ∙ length-append picked.done picked.rest in
        all_picked (no_rows picked.rest (omega (arith, long, picked.passed, all)))
      where
        no_rows : (l : List ByteRow) → length l ≡ 0 → l ≡ []
        no_rows [] none = refl
        no_rows (row ∷ l) none = absurd (omega (arith, none))

    -- ---- a row is shown, and these keys are wanted from it on

    module _ (key : ℕ) (bytes : List ℕ) (more : List ByteRow) (shows : only (stretch_shown it) ≡ (key, bytes) ∷ more) (next : List ℕ)
        (from : (id : ℕ) → key ≤ id → is_among next id ≡ is_among behind id) where
      first : picked.rest ≡ (key, bytes) ∷ picked.comes.1.stands.behind
      first =
          let stands = picked.comes.1.stands in
          stands.are ∙ ap (λ (shown : Option ByteRow). only shown ++ stands.behind) (only_one (stretch_shown it) (key, bytes) more shows)

      comes_first : ComesTo left health pulls picked.comes.0 it ((key, bytes) ∷ picked.comes.1.stands.behind)
      comes_first = subst (λ (l : List ByteRow). ComesTo left health pulls picked.comes.0 it l) first picked.comes.1

      -- the same keys are wanted as at first
      from_first : (row : ByteRow) → Has ((key, bytes) ∷ picked.comes.1.stands.behind) row → is_among next row.0 ≡ is_among wanted row.0
      from_first row (inl is) =
          from row.0 (subst (λ (r : ByteRow). key ≤ r.0) (sym is) (omega arith))
          ∙ picked.same row (subst (λ (l : List ByteRow). Has l row) (sym first) (inl is))
      from_first row (inr has) =
          let lt = comes_first.ascends.0 row has in
          from row.0 (omega (arith, lt)) ∙ picked.same row (subst (λ (l : List ByteRow). Has l row) (sym first) (inr has))

      -- no key is wanted from it on, up to the last row
      pub picked_last : (last : ℕ) → ((id : ℕ) → id ≤ last → is_among next id ≡ false)
          → ((row : ByteRow) → Has rows row → row.0 ≤ last) → Runs steps old (wanted_rows wanted rows) mid
      picked_last last none low =
          let never : wanted_rows wanted picked.rest ≡ [] =
          wanted-none wanted picked.rest (λ row has. sym (from_first row (subst (λ (l : List ByteRow). Has l row) first has))
          ∙ none row.0 (low row (subst (λ (l : List ByteRow). Has l row) (sym picked.are) (has_back picked.done picked.rest row has)))) in
          subst (λ (l : List ByteRow). Runs steps old (wanted_rows wanted l) mid) (sym picked.are)
          (wanted_both steps wanted old mid mid picked.done picked.rest picked.run
          (subst (λ (l : List ByteRow). Runs steps mid l mid) (sym never) refl))

      all : rows ≡ (picked.done ++ (key, bytes) ∷ []) ++ picked.comes.1.stands.behind
      all =
          picked.are ∙ (ap (λ (l : List ByteRow). picked.done ++ l) first
          ∙ sym (append_assoc picked.done ((key, bytes) ∷ []) picked.comes.1.stands.behind))

      -- the sink took it, if it is wanted
      module _ (new : T) (took : TakesIf steps (is_among next key) mid key bytes new) where
        run_more : Runs steps old (wanted_rows wanted (picked.done ++ (key, bytes) ∷ [])) new
        run_more =
            wanted_both steps wanted old mid new picked.done ((key, bytes) ∷ []) picked.run
            (wanted_one steps wanted (is_among next key) mid key bytes new (from_first (key, bytes) (inl refl)) took)

        pub picked_more : (on : StretchCursor R) → GoesOn left health pulls it on → PickedSoFar rows on next (count + 1) old new
        picked_more on goes = record {
          done = picked.done ++ (key, bytes) ∷ [];
          rest = picked.comes.1.stands.behind;
          are = all;
          passed = length-append picked.done ((key, bytes) ∷ []) ∙ ap (λ (n : ℕ). n + 1) picked.passed;
          comes = (picked.comes.0, goes.behind picked.comes.0 (key, bytes) picked.comes.1.stands.behind comes_first);
          run = run_more;
          same = λ row has. from_first row (inr has);
        }

        pub picked_first : {G : Type 0} (refuses : T → ℕ → List ℕ → G → T → Type 0) → PicksFirst steps refuses wanted rows old new
        picked_first refuses = record {
          front = picked.done ++ (key, bytes) ∷ [];
          behind = picked.comes.1.stands.behind;
          are = all;
          run = run_more;
        }

      -- or the sink refused it
      pub picked_refused : {G : Type 0} (refuses : T → ℕ → List ℕ → G → T → Type 0) (fault : G) (new : T) → is_among next key ≡ true
          → refuses mid key bytes fault new → RefusesAmong steps refuses wanted rows fault old new
      picked_refused refuses fault new is refused = record {
        front = picked.done;
        row = (key, bytes);
        behind = picked.comes.1.stands.behind;
        are = picked.are ∙ ap (λ (l : List ByteRow). picked.done ++ l) first;
        mid = mid;
        run = picked.run;
        is_wanted = sym (from_first (key, bytes) (inl refl)) ∙ is;
        refused = refused;
      }

-- ---- a cursor that failed

pub first_stops : (A : Type 0) {T G : Type 0} (steps : T → ℕ → List ℕ → T → Type 0) (refuses : T → ℕ → List ℕ → G → T → Type 0)
    (wanted : List ℕ) (rows : List ByteRow) (old new : T) (part : ℕ) (fault : StretchFault) → PicksFirst steps refuses wanted rows old new
    → PicksOf steps refuses wanted {A = A} rows (Err (part_stop part fault)) old new
first_stops A steps refuses wanted rows old new part faults.OutOfMemory picks = picks
first_stops A steps refuses wanted rows old new part faults.Read picks = picks
first_stops A steps refuses wanted rows old new part faults.Changed picks = picks

pub cursor_tells : (G : Type 0) {R : Type 0} (left : R → Option (List ℕ)) (health : R → Health) (pulls : R → ℕ) (part : ℕ)
    (was it on : StretchCursor R) (fault : StretchFault) → FailsAt left health pulls it fault on
    → ((rows : List ByteRow) → StretchComes left health pulls was rows → (rest : List ByteRow) × StretchComes left health pulls it rest)
    → TellsCursor {G = G} left health pulls part was (part_stop part fault)
cursor_tells G left health pulls part was it on faults.OutOfMemory fails comes = tt
cursor_tells G left health pulls part was it on faults.Read fails comes = (refl, tt)
cursor_tells G left health pulls part was it on faults.Changed fails comes =
    (refl, λ rows come. let there = comes rows come in fails there.1.0 there.0 there.1.1)
