-- What a fault of a cursor over stored objects tells, by the place of the cursor.
use Rattle.std.proofs.Common.{◌≡◌, ◌<◌, ◌≤◌, ◌-◌, ◌∷◌, ◌++◌, ◌⊎◌, ℕ, zero, suc, List, [], length, map, Option, slice_index_or}
use Rattle.std.proofs.Common.{inl, inr, refl, sym, ap, subst, ◌∙◌, arith}
use Rattle.std.specs.Prelude.{All}
use Rattle.std.specs.declared.convert.Infallible.{Infallible}
use Rattle.std.proofs.lemmas.List.{get_or_past}
use Rattle.hprof_devices.specs.declared.health.Health.{Health}
use Rattle.hprof_stream.specs.declared.limits.Limits.{Limits}
use Rattle.hprof_merge.specs.declared.one_of.OneOf.{OneOf}
use Rattle.hprof_merge.specs.declared.one_of.OneOf.TheVariants.{First, Second}
use Rattle.hprof_merge.specs.OneOf.{fails_either, goes_either, of_either}
use Rattle.hprof_merge.specs.Rows.{ByteRow}
use Rattle.hprof_merge.specs.Showing.{AllShow, Shows}
use Rattle.hprof_merge.proofs.EitherShows as either
use Rattle.hprof_runs.specs.declared.firsts.Firsts.{Firsts}
use Rattle.hprof_runs.specs.declared.others.Others.{Others}
use Rattle.hprof_runs.specs.declared.run_cursor.RunCursor.{RunCursor}
use Rattle.hprof_runs.specs.declared.run_fault.RunFault.{RunFault}
use Rattle.hprof_runs.specs.declared.run_fault.RunFault.TheVariants as runs
use Rattle.hprof_runs.specs.AnyRows.{AnyComesTo, FirstsCome, IsOverRows, OthersCome, firsts_known, others_known, run_known}
use Rattle.hprof_runs.specs.Known.{AllComeTo, IsKnown, comes_either, either_known}
use Rattle.hprof_runs.specs.Picking.{FirstsGo, OthersGo, firsts_shown, others_shown}
use Rattle.hprof_runs.specs.RunCursor as run
use Rattle.hprof_runs.proofs.AllRows.{known_so_far}
use Rattle.hprof_objects.specs.declared.stretch.Stretch.{Stretch}
use Rattle.hprof_objects.specs.declared.stretch_cursor.StretchCursor.{StretchCursor}
use Rattle.hprof_objects.specs.declared.stretch_fault.StretchFault.{StretchFault}
use Rattle.hprof_objects.specs.declared.stretch_fault.StretchFault.TheVariants as stretches
use Rattle.hprof_objects.specs.ObjectCursors.{AllOpen, ObjectCursor, ObjectsCome, part_of}
use Rattle.hprof_objects.specs.PartsRead.{PartRead}
use Rattle.hprof_objects.specs.ReadAgain.{IsSameAt}
use Rattle.hprof_objects.specs.StretchCursor as stretch
use Rattle.hprof_objects.specs.StretchKnown.{StretchComes, stretch_known}
use Rattle.hprof_objects.specs.Stretches.{AreStretches, IsStretch}

module _ {C : Type 0} (shown : C → Option ByteRow) (goes : C → C → Type 0) where
  -- the cursor at a place showed some rows; past the last there is only the default
  pub at_place : (old mid : List C) (came : List (List ByteRow)) (place : ℕ) (d : C) → AllShow shown goes old mid came
      → (rows : List ByteRow) × Shows shown goes (slice_index_or old place d) rows (slice_index_or mid place d)
  at_place old mid came place d shows = elim (nat_order place (length old)) [
    | inl lt ↦ (slice_index_or came place [], shows.each place d lt)
    | inr ge ↦ ([], get_or_past old place d ge ∙ sym (get_or_past mid place d (let count = shows.count in omega (arith, ge, count))))
  ]
    where
      nat_order : (a b : ℕ) → (a < b) ⊎ (b ≤ a)
      nat_order zero zero = inr (omega arith)
      nat_order zero (suc b) = inl (omega arith)
      nat_order (suc a) zero = inr (omega arith)
      nat_order (suc a) (suc b) = elim (nat_order a b) [ inl lt ↦ inl (omega (arith, lt)) | inr ge ↦ inr (omega (arith, ge)) ]

module _ {S R : Type 0} (written : S → Option (List ℕ)) (unreadable : S → Type 0) (left : R → Option (List ℕ)) (health : R → Health)
    (pulls : R → ℕ) where
  -- what a cursor over stored objects shows, how it goes on, and how it fails
  abbrev pub shown : ObjectCursor S R → Option ByteRow
  shown it = of_either (of_either (of_either firsts_shown others_shown) run.run_shown) stretch.stretch_shown it

  abbrev pub goes : ObjectCursor S R → ObjectCursor S R → Type 0
  goes old new = goes_either (goes_either (goes_either FirstsGo OthersGo) (run.GoesOn written)) (stretch.GoesOn left health pulls) old new

  abbrev pub fails : ObjectCursor S R → OneOf (OneOf (OneOf Infallible Infallible) RunFault) StretchFault → ObjectCursor S R → Type 0
  fails old fault new =
      fails_either (fails_either (fails_either (λ one fault other. ⊥) (λ one fault other. ⊥)) (run.FailsRun written unreadable))
      (stretch.FailsAt left health pulls) old fault new

  pub known : IsKnown shown goes (ObjectsCome written left health pulls)
  known =
      either_known (of_either (of_either firsts_shown others_shown) run.run_shown) stretch.stretch_shown
      (goes_either (goes_either FirstsGo OthersGo) (run.GoesOn written)) (stretch.GoesOn left health pulls) (AnyComesTo written)
      (StretchComes left health pulls)
      (either_known (of_either firsts_shown others_shown) run.run_shown (goes_either FirstsGo OthersGo) (run.GoesOn written)
      (comes_either FirstsCome OthersCome) (run.ComesTo written)
      (either_known firsts_shown others_shown FirstsGo OthersGo FirstsCome OthersCome firsts_known others_known) (run_known written))
      (stretch_known left health pulls)

  -- ---- faults of the scratch

  -- a cursor that comes to rows finds no damage
  no_damage : (it next : ObjectCursor S R) (rows : List ByteRow) → ObjectsCome written left health pulls it rows
      → fails it (First (Second runs.Damaged)) next → ⊥
  no_damage (First (First (First it))) (First next) rows comes failed = absurd failed
  no_damage (First (First (First it))) (Second next) rows comes failed = absurd failed
  no_damage (First (First (Second it))) (First next) rows comes failed = absurd failed
  no_damage (First (First (Second it))) (Second next) rows comes failed = absurd failed
  no_damage (First (Second it)) (First (First next)) rows comes failed = absurd failed
  no_damage (First (Second it)) (First (Second next)) rows comes failed = failed.damaged rows comes
  no_damage (First (Second it)) (Second next) rows comes failed = absurd failed
  no_damage (Second it) (First next) rows comes failed = absurd failed
  no_damage (Second it) (Second next) rows comes failed = absurd failed

  -- nor does a cursor over a stretch
  no_scratch : (fault : RunFault) (it : StretchCursor R) (next : ObjectCursor S R) → fails (Second it) (First (Second fault)) next → ⊥
  no_scratch fault it (First next) failed = absurd failed
  no_scratch fault it (Second next) failed = absurd failed

  -- a cursor over a run stays in its scratch
  run_scratch : (rows : List ByteRow) (old new : RunCursor S) → Shows run.run_shown (run.GoesOn written) old rows new
      → run.scratch_of_run new ≡ run.scratch_of_run old
  run_scratch [] old new shows = ap run.scratch_of_run (sym shows)
  run_scratch (row ∷ rows) old new shows = run_scratch rows shows.1.0 new shows.1.2 ∙ shows.1.1.same_scratch

  -- a read that failed is one of that scratch
  read_of_run : (it : RunCursor S) (next : ObjectCursor S R) → fails (First (Second it)) (First (Second runs.Read)) next
      → unreadable (run.scratch_of_run it)
  read_of_run it (First (First next)) failed = absurd failed
  read_of_run it (First (Second next)) failed = failed.read
  read_of_run it (Second next) failed = absurd failed

  no_read : (it : OneOf Firsts Others) (next : ObjectCursor S R) → fails (First (First it)) (First (Second runs.Read)) next → ⊥
  no_read (First it) (First next) failed = absurd failed
  no_read (First it) (Second next) failed = absurd failed
  no_read (Second it) (First next) failed = absurd failed
  no_read (Second it) (Second next) failed = absurd failed

  -- each cursor comes to rows, or is one over a stretch
  over_stretches : (opened : List (StretchCursor R)) (place : ℕ) (d : ObjectCursor S R)
      → ((rows : List ByteRow) × ObjectsCome written left health pulls d rows)
      → ((rows : List ByteRow) × ObjectsCome written left health pulls (slice_index_or (map Second opened) place d) rows)
      ⊎ ((it : StretchCursor R) × (slice_index_or (map Second opened) place d ≡ Second it))
  over_stretches [] place d comes = inl comes
  over_stretches (it ∷ opened) zero d comes = inr (it, refl)
  over_stretches (it ∷ opened) (suc place) d comes = over_stretches opened place d comes

  comes_or_over : (over_rows : List (ObjectCursor S R)) (lists : List (List ByteRow)) (opened : List (StretchCursor R)) (place : ℕ)
      (d : ObjectCursor S R)
      → AllComeTo (ObjectsCome written left health pulls) over_rows lists
      → ((rows : List ByteRow) × ObjectsCome written left health pulls d rows)
      → ((rows : List ByteRow) × ObjectsCome written left health pulls (slice_index_or (over_rows ++ map Second opened) place d) rows)
      ⊎ ((it : StretchCursor R) × (slice_index_or (over_rows ++ map Second opened) place d ≡ Second it))
  comes_or_over [] [] opened place d come comes = over_stretches opened place d comes
  comes_or_over [] (rows ∷ lists) opened place d come comes = absurd come
  comes_or_over (it ∷ over_rows) [] opened place d come comes = absurd come
  comes_or_over (it ∷ over_rows) (rows ∷ lists) opened zero d come comes = inl (rows, come.0)
  comes_or_over (it ∷ over_rows) (rows ∷ lists) opened (suc place) d come comes = comes_or_over over_rows lists opened place d come.1 comes

  pub never_damaged : (over_rows : List (ObjectCursor S R)) (lists : List (List ByteRow)) (opened : List (StretchCursor R))
      (mid : List (ObjectCursor S R)) (came : List (List ByteRow)) (place : ℕ) (d next : ObjectCursor S R)
      → AllComeTo (ObjectsCome written left health pulls) over_rows lists
      → ((rows : List ByteRow) × ObjectsCome written left health pulls d rows)
      → AllShow shown goes (over_rows ++ map Second opened) mid came
      → fails (slice_index_or mid place d) (First (Second runs.Damaged)) next → ⊥
  never_damaged over_rows lists opened mid came place d next come comes shows failed =
      let here = slice_index_or (over_rows ++ map Second opened) place d in
      let after = slice_index_or mid place d in
      let seen = at_place shown goes (over_rows ++ map Second opened) mid came place d shows in
      elim (comes_or_over over_rows lists opened place d come comes) [
        | inl those ↦
            let rest = known_so_far shown goes (ObjectsCome written left health pulls) known seen.0 here after those.0 those.1 seen.1 in
            no_damage after next rest.0 rest.2 failed
        | inr it ↦
            let kept = either.shows_second (of_either (of_either firsts_shown others_shown) run.run_shown) stretch.stretch_shown
            (goes_either (goes_either FirstsGo OthersGo) (run.GoesOn written)) (stretch.GoesOn left health pulls) it.0 after seen.0
            (subst (λ (c : ObjectCursor S R). Shows shown goes c seen.0 after) it.1 seen.1) in
            no_scratch runs.Damaged kept.0 next
            (subst (λ (c : ObjectCursor S R). fails c (First (Second runs.Damaged)) next) kept.1 failed)
      ]

  -- ---- faults of a part

  -- a cursor over rows has none
  no_part : (fault : StretchFault) (it : OneOf (OneOf Firsts Others) (RunCursor S)) (next : ObjectCursor S R)
      → fails (First it) (Second fault) next → ⊥
  no_part fault it next failed = absurd failed

  -- the cursor is over a stretch of this part, one of these
  pub record IsOver (limits : Limits) (told : List (Option (List ℕ))) (list : List Stretch) (part : ℕ) (here : ObjectCursor S R) : Type 0
    where
      pub it : StretchCursor R
      pub is : here ≡ Second it
      pub its : Stretch
      pub in_part : its.part ≡ part
      pub opens : stretch.OpensStretch left health pulls limits told its it
      pub among : (reads : List PartRead) (lists : List (List ByteRow)) → AreStretches limits reads list lists
          → (rows : List ByteRow) × IsStretch limits reads its rows

  module _ (scratch : S) (limits : Limits) (told : List (Option (List ℕ))) where
    -- each cursor is over rows, or over the stretch at its place
    stretch_at : (list : List Stretch) (opened : List (StretchCursor R)) (place : ℕ) (d : ObjectCursor S R)
        → AllOpen left health pulls limits told list opened → IsOverRows scratch d
        → IsOverRows scratch (slice_index_or (map Second opened) place d)
        ⊎ IsOver limits told list (part_of list place) (slice_index_or (map Second opened) place d)
    stretch_at [] [] place d each over = inl over
    stretch_at [] (it ∷ opened) place d each over = absurd each
    stretch_at (one ∷ list) [] place d each over = absurd each
    stretch_at (one ∷ list) (it ∷ opened) zero d each over = inr (record {
      it = it;
      is = refl;
      its = one;
      in_part = refl;
      opens = each.0;
      among = first;
    })
      where
        first : (reads : List PartRead) (lists : List (List ByteRow)) → AreStretches limits reads (one ∷ list) lists
            → (rows : List ByteRow) × IsStretch limits reads one rows
        first reads [] are = absurd are
        first reads (rows ∷ lists) are = (rows, are.0)
    stretch_at (one ∷ list) (it ∷ opened) (suc place) d each over = elim (stretch_at list opened place d each.1 over) [
      | inl rows ↦ inl rows
      | inr there ↦ inr (behind one list (part_of list place) (slice_index_or (map Second opened) place d) there)
    ]
      where
        behind : (one : Stretch) (list : List Stretch) (part : ℕ) (here : ObjectCursor S R) → IsOver limits told list part here
            → IsOver limits told (one ∷ list) part here
        behind one list part here there = record {
          it = there.it;
          is = there.is;
          its = there.its;
          in_part = there.in_part;
          opens = there.opens;
          among = later;
        }
          where
            later : (reads : List PartRead) (lists : List (List ByteRow)) → AreStretches limits reads (one ∷ list) lists
                → (rows : List ByteRow) × IsStretch limits reads there.its rows
            later reads [] are = absurd are
            later reads (rows ∷ lists) are = there.among reads lists are.1

    pub rows_or_stretch : (over_rows : List (ObjectCursor S R)) (list : List Stretch) (opened : List (StretchCursor R)) (place : ℕ)
        (d : ObjectCursor S R) → All (IsOverRows scratch) over_rows → AllOpen left health pulls limits told list opened → IsOverRows
        scratch d
        → IsOverRows scratch (slice_index_or (over_rows ++ map Second opened) place d)
        ⊎ IsOver limits told list (part_of list (place - length over_rows)) (slice_index_or (over_rows ++ map Second opened) place d)
    rows_or_stretch [] list opened place d kind each over =
        let same : place ≡ place - 0 = omega arith in
        let here = slice_index_or (map Second opened) place d in
        subst (λ (n : ℕ). IsOverRows scratch here ⊎ IsOver limits told list (part_of list n) here) same
        (stretch_at list opened place d each over)
    rows_or_stretch (one ∷ over_rows) list opened zero d kind each over = inl (kind 0 one (omega arith))
    rows_or_stretch (one ∷ over_rows) list opened (suc place) d kind each over =
        let same : place - length over_rows ≡ suc place - length (one ∷ over_rows) = omega arith in
        let here = slice_index_or (over_rows ++ map Second opened) place d in
        subst (λ (n : ℕ). IsOverRows scratch here ⊎ IsOver limits told list (part_of list n) here) same
        (rows_or_stretch over_rows list opened place d (λ k e lt. kind (suc k) e (omega (arith, lt))) each over)

    pub never_changed : (over_rows : List (ObjectCursor S R)) (list : List Stretch) (opened : List (StretchCursor R))
        (mid : List (ObjectCursor S R)) (came : List (List ByteRow)) (place : ℕ) (d next : ObjectCursor S R)
        → All (IsOverRows scratch) over_rows → AllOpen left health pulls limits told list opened → IsOverRows scratch d
        → AllShow shown goes (over_rows ++ map Second opened) mid came
        → fails (slice_index_or mid place d) (Second stretches.Changed) next
        → (reads : List PartRead) (lists : List (List ByteRow)) → AreStretches limits reads list lists
        → IsSameAt limits told reads (part_of list (place - length over_rows)) → ⊥
    never_changed over_rows list opened mid came place d next kind each over shows failed reads lists are same =
        let here = slice_index_or (over_rows ++ map Second opened) place d in
        let after = slice_index_or mid place d in
        let seen = at_place shown goes (over_rows ++ map Second opened) mid came place d shows in
        elim (rows_or_stretch over_rows list opened place d kind each over) [
          | inl rows ↦ of_rows here after seen.0 seen.1 rows failed
          | inr it ↦
              let kept = either.shows_second (of_either (of_either firsts_shown others_shown) run.run_shown) stretch.stretch_shown
              (goes_either (goes_either FirstsGo OthersGo) (run.GoesOn written)) (stretch.GoesOn left health pulls) it.it after seen.0
              (subst (λ (c : ObjectCursor S R). Shows shown goes c seen.0 after) it.is seen.1) in
              let those = it.among reads lists are in
              let comes = it.opens reads those.0 those.1 (subst (IsSameAt limits told reads) (sym it.in_part) same) in
              let rest = known_so_far stretch.stretch_shown (stretch.GoesOn left health pulls) (StretchComes left health pulls)
              (stretch_known left health pulls) seen.0 it.it kept.0 those.0 (limits.max_reads, comes) kept.2 in
              of_part kept.0 next rest.0 rest.2
              (subst (λ (c : ObjectCursor S R). fails c (Second stretches.Changed) next) kept.1 failed)
        ]
      where
        of_part : (it : StretchCursor R) (next : ObjectCursor S R) (rows : List ByteRow) → StretchComes left health pulls it rows
            → fails (Second it) (Second stretches.Changed) next → ⊥
        of_part it (First next) rows comes failed = absurd failed
        of_part it (Second next) rows comes failed = failed comes.0 rows comes.1

        of_rows : (here after : ObjectCursor S R) (rows : List ByteRow) → Shows shown goes here rows after → IsOverRows scratch here
            → fails after (Second stretches.Changed) next → ⊥
        of_rows (First here) after rows shows over failed =
            let kept = either.shows_first (of_either (of_either firsts_shown others_shown) run.run_shown) stretch.stretch_shown
            (goes_either (goes_either FirstsGo OthersGo) (run.GoesOn written)) (stretch.GoesOn left health pulls) here after rows shows in
            no_part stretches.Changed kept.0 next
            (subst (λ (c : ObjectCursor S R). fails c (Second stretches.Changed) next) kept.1 failed)
        of_rows (Second here) after rows shows over failed = absurd over

    -- ---- reads that fail

    pub its_scratch : (over_rows : List (ObjectCursor S R)) (list : List Stretch) (opened : List (StretchCursor R))
        (mid : List (ObjectCursor S R)) (came : List (List ByteRow)) (place : ℕ) (d next : ObjectCursor S R)
        → All (IsOverRows scratch) over_rows → AllOpen left health pulls limits told list opened → IsOverRows scratch d
        → AllShow shown goes (over_rows ++ map Second opened) mid came
        → fails (slice_index_or mid place d) (First (Second runs.Read)) next → unreadable scratch
    its_scratch over_rows list opened mid came place d next kind each over shows failed =
        let here = slice_index_or (over_rows ++ map Second opened) place d in
        let after = slice_index_or mid place d in
        let seen = at_place shown goes (over_rows ++ map Second opened) mid came place d shows in
        elim (rows_or_stretch over_rows list opened place d kind each over) [
          | inl rows ↦ of_rows here after seen.0 seen.1 rows failed
          | inr it ↦
              let kept = either.shows_second (of_either (of_either firsts_shown others_shown) run.run_shown) stretch.stretch_shown
              (goes_either (goes_either FirstsGo OthersGo) (run.GoesOn written)) (stretch.GoesOn left health pulls) it.it after seen.0
              (subst (λ (c : ObjectCursor S R). Shows shown goes c seen.0 after) it.is seen.1) in
              absurd (no_scratch runs.Read kept.0 next
              (subst (λ (c : ObjectCursor S R). fails c (First (Second runs.Read)) next) kept.1 failed))
        ]
      where
        of_rows : (here after : ObjectCursor S R) (rows : List ByteRow) → Shows shown goes here rows after → IsOverRows scratch here
            → fails after (First (Second runs.Read)) next → unreadable scratch
        of_rows (First (First here)) after rows shows over failed =
            let kept = either.shows_first (of_either (of_either firsts_shown others_shown) run.run_shown) stretch.stretch_shown
            (goes_either (goes_either FirstsGo OthersGo) (run.GoesOn written)) (stretch.GoesOn left health pulls) (First here) after rows
            shows in
            let inner = either.shows_first (of_either firsts_shown others_shown) run.run_shown (goes_either FirstsGo OthersGo)
            (run.GoesOn written) here kept.0 rows kept.2 in
            absurd (no_read inner.0 next (subst (λ (c : ObjectCursor S R). fails c (First (Second runs.Read)) next)
            (kept.1 ∙ ap (λ (c : OneOf (OneOf Firsts Others) (RunCursor S)). First c) inner.1) failed))
        of_rows (First (Second here)) after rows shows over failed =
            let kept = either.shows_first (of_either (of_either firsts_shown others_shown) run.run_shown) stretch.stretch_shown
            (goes_either (goes_either FirstsGo OthersGo) (run.GoesOn written)) (stretch.GoesOn left health pulls) (Second here) after rows
            shows in
            let inner = either.shows_second (of_either firsts_shown others_shown) run.run_shown (goes_either FirstsGo OthersGo)
            (run.GoesOn written) here kept.0 rows kept.2 in
            subst unreadable (run_scratch rows here inner.0 inner.2 ∙ over)
            (read_of_run inner.0 next (subst (λ (c : ObjectCursor S R). fails c (First (Second runs.Read)) next)
            (kept.1 ∙ ap (λ (c : OneOf (OneOf Firsts Others) (RunCursor S)). First c) inner.1) failed))
        of_rows (Second here) after rows shows over failed = absurd over
