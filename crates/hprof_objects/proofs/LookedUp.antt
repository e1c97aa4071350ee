-- Looking up identifiers in cuts.
use Rattle.std.proofs.Common.{◌≡◌, ◌<◌, ◌≤◌, ◌⊎◌, ◌++◌, ℕ, Bool, true, false, List, [], ◌∷◌, Option, Some, None, inl, inr, refl, sym, ap}
use Rattle.std.proofs.Common.{subst, ◌∙◌, append_assoc, arith, slice_get}
use Rattle.std.specs.Option.{is_some}
use Rattle.hprof_devices.specs.declared.health.Health.{Health}
use Rattle.hprof_stream.specs.declared.limits.Limits.{Limits}
use Rattle.hprof_merge.specs.declared.one_of.OneOf.{OneOf}
use Rattle.hprof_merge.specs.declared.one_of.OneOf.TheVariants.{First, Second}
use Rattle.hprof_merge.specs.OneOf.{fails_either, goes_either}
use Rattle.hprof_merge.specs.Rows.{ByteRow, Has, IsAscending}
use Rattle.hprof_merge.specs.Showing.{Shows}
use Rattle.hprof_runs.specs.declared.run_fault.RunFault.{RunFault}
use Rattle.hprof_runs.specs.AnyRows.{run_known}
use Rattle.hprof_runs.specs.declared.run_fault.RunFault.TheVariants as runs
use Rattle.hprof_runs.specs.Known.{IsKnown, either_known}
use Rattle.hprof_runs.specs.Picked.{first_of}
use Rattle.hprof_runs.specs.RunCursor as run
use Rattle.hprof_runs.proofs.AllRows.{known_so_far}
use Rattle.hprof_runs.proofs.TwoPieces.{from_first, has_back, has_either}
use Rattle.hprof_objects.specs.declared.any_cut.AnyCut.{AnyCut}
use Rattle.hprof_objects.specs.declared.any_cut.AnyCut.TheVariants.{InPart, InRun}
use Rattle.hprof_objects.specs.declared.object_fault.ObjectFault.{ObjectFault}
use Rattle.hprof_objects.specs.declared.searched.Searched.{Searched}
use Rattle.hprof_objects.specs.declared.stretch_fault.StretchFault.{StretchFault}
use Rattle.hprof_objects.specs.declared.stretch_fault.StretchFault.TheVariants as stretches
use Rattle.hprof_objects.specs.AnyCuts.{Among, AreAbove, AreApart, Comes, CutCanGoOn, CutComes, CutCursor, IsOver}
use Rattle.hprof_objects.specs.AnyCuts.{TellsCut, first_in, last_in, stop_in}
use Rattle.hprof_objects.specs.Searched.{BeginFrom, IsOpenAt, IsReady, KeepsFrom, LackFor, OpenCanGoOn, PassesBelow, StandsIn, StandsOpen}
use Rattle.hprof_objects.specs.Searched.{Finds, StopsIn, cut_shown}
use Rattle.hprof_objects.specs.Seeking.{FailsBehind, IsFound}
use Rattle.hprof_objects.specs.StretchCursor as stretch
use Rattle.hprof_objects.specs.StretchKnown.{StretchComes, stretch_known}
use Rattle.hprof_objects.proofs.PickedRows.{at_most_end}

-- ---- some of the cuts

pub among_front : (cuts others : List AnyCut) (cut : AnyCut) → Among cuts cut → Among (cuts ++ others) cut
among_front [] others cut among = absurd among
among_front (first ∷ cuts) others cut (inl same) = inl same
among_front (first ∷ cuts) others cut (inr among) = inr (among_front cuts others cut among)

pub among_back : (cuts others : List AnyCut) (cut : AnyCut) → Among others cut → Among (cuts ++ others) cut
among_back [] others cut among = among
among_back (first ∷ cuts) others cut among = inr (among_back cuts others cut among)

pub among_either : (cuts others : List AnyCut) (cut : AnyCut) → Among (cuts ++ others) cut → Among cuts cut ⊎ Among others cut
among_either [] others cut among = inr among
among_either (first ∷ cuts) others cut (inl same) = inl (inl same)
among_either (first ∷ cuts) others cut (inr among) = elim (among_either cuts others cut among) [
  | inl there ↦ inl (inr there)
  | inr there ↦ inr there
]

above_behind : (last : ℕ) (cuts others : List AnyCut) → AreAbove last (cuts ++ others) → AreApart others
above_behind last [] [] above = tt
above_behind last [] (cut ∷ others) above = above.2
above_behind last (cut ∷ cuts) others above = above_behind (last_in cut) cuts others above.2

apart_behind : (cuts others : List AnyCut) → AreApart (cuts ++ others) → AreApart others
apart_behind [] others apart = apart
apart_behind (cut ∷ cuts) others apart = above_behind (last_in cut) cuts others apart

-- all of them are above an identifier that the one before is not below
all_above : (last : ℕ) (cuts : List AnyCut) → AreAbove last cuts → (cut : AnyCut) → Among cuts cut → last < first_in cut
all_above last [] above cut among = absurd among
all_above last (first ∷ cuts) above cut (inl same) = subst (λ (c : AnyCut). last < first_in c) (sym same) above.0
all_above last (first ∷ cuts) above cut (inr among) =
    let lt = all_above (last_in first) cuts above.2 cut among in
    let from = above.0 in let to = above.1 in omega (arith, lt, from, to)

-- ---- cuts that are passed

module _ {S R : Type 0} (id : ℕ) where
  pub keeps_passed : (old new : Searched S R) → PassesBelow id old new → KeepsFrom id old.cuts.now new.cuts.now
  keeps_passed old new passes = record {
    kept = λ cut among. elim (among_either passes.passed new.cuts.now cut (subst (λ (l : List AnyCut). Among l cut) passes.are among)) [
      | inl there ↦ inr (passes.below cut there)
      | inr there ↦ inl there
    ];
    only = λ cut among. subst (λ (l : List AnyCut). Among l cut) (sym passes.are) (among_back passes.passed new.cuts.now cut among);
  }

module _ {S R : Type 0} (written : S → Option (List ℕ)) (left : R → Option (List ℕ)) (health : R → Health) (pulls : R → ℕ) (scratch : S)
    (limits : Limits) (told : List (Option (List ℕ))) (key : ℕ) where
  pub ready_behind : (old new : Searched S R) → IsReady written left health pulls scratch limits told key old → PassesBelow key old new
      → IsReady written left health pulls scratch limits told key new
  ready_behind old new ready passes = record {
    apart = apart_behind passes.passed new.cuts.now (subst (λ (l : List AnyCut). AreApart l) passes.are ready.apart);
    can = elim passes.opened [
      | inl same ↦ subst (OpenCanGoOn health) (sym same.0) ready.can
      | inr none ↦ subst (OpenCanGoOn health) (sym none) tt
    ];
    stands = elim passes.opened [
      | inl same ↦
          let cuts : old.cuts.now ≡ new.cuts.now = passes.are ∙ ap (λ (l : List AnyCut). l ++ new.cuts.now) same.1 in
          subst (λ (o : Option (CutCursor S R)). StandsOpen written left health pulls scratch limits told key o new.cuts.now) (sym same.0)
          (subst (StandsOpen written left health pulls scratch limits told key old.cursor) cuts ready.stands)
      | inr none ↦
          subst (λ (o : Option (CutCursor S R)). StandsOpen written left health pulls scratch limits told key o new.cuts.now) (sym none) tt
    ];
  }

  -- the first cut is open
  pub open_at : (cursor : Option (CutCursor S R)) (cuts : List AnyCut) (cut : AnyCut) (rest : List AnyCut) → cuts ≡ cut ∷ rest
      → is_some cursor ≡ true → OpenCanGoOn health cursor → StandsOpen written left health pulls scratch limits told key cursor cuts
      → IsOpenAt written left health pulls scratch limits told cut key cursor
  open_at None cuts cut rest is some can stands = absurd cc
  open_at (Some it) cuts cut rest is some can stands = record {
    it = it;
    is = refl;
    can = can;
    stands = subst (StandsOpen written left health pulls scratch limits told key (Some it)) is stands;
  }

  -- a cut that was opened
  pub opened_at : (cut : AnyCut) (it : CutCursor S R) → CutCanGoOn health it → IsOver scratch cut it
      → ((rows : List ByteRow) → Comes written scratch limits told cut rows → CutComes written left health pulls it rows)
      → IsOpenAt written left health pulls scratch limits told cut key (Some it)
  opened_at cut it can over comes = record {
    it = it;
    is = refl;
    can = can;
    stands = record {
      over = over;
      comes = λ rows its. record { passed = []; rest = rows; are = refl; below = λ row never. absurd never; comes = comes rows its };
    };
  }

  -- the cursor over it
  pub is_open : (cut : AnyCut) (cursor : Option (CutCursor S R)) (it : CutCursor S R)
      → IsOpenAt written left health pulls scratch limits told cut key cursor → cursor ≡ Some it
      → CutCanGoOn health it × StandsIn written left health pulls scratch limits told cut key it
  is_open cut cursor it at is =
      let same : at.it ≡ it = one (sym at.is ∙ is) in
      (subst (CutCanGoOn health) same at.can, subst (StandsIn written left health pulls scratch limits told cut key) same at.stands)
    where
      one : Some at.it ≡ Some it → at.it ≡ it
      one e = cc

-- the first of the cuts
pub first_is : (cuts : List AnyCut) (cut : AnyCut) → Some cut ≡ slice_get cuts 0 → (rest : List AnyCut) × (cuts ≡ cut ∷ rest)
first_is [] cut is = absurd cc
first_is (first ∷ rest) cut is = let same : first ≡ cut = cc in (rest, ap (λ (c : AnyCut). c ∷ rest) same)

-- ---- cuts without a row

module _ {S : Type 0} (written : S → Option (List ℕ)) (scratch : S) (limits : Limits) (told : List (Option (List ℕ))) where
  pub comes_within : (cut : AnyCut) (rows : List ByteRow) → Comes written scratch limits told cut rows → (row : ByteRow) → Has rows row
      → (first_in cut ≤ row.0) × (row.0 ≤ last_in cut)
  comes_within (InPart cut) rows comes row has =
      let it = comes.1 in
      let up = it.is.stands.ascend in
      let first = it.first in (
        from_first (cut.first, first.0) first.1 (subst (λ (l : List ByteRow). IsAscending l) first.2 up) row (subst (λ (l : List
            ByteRow). Has l row) first.2 has),
        at_most_end rows cut.last it.last up row has,
      )
  comes_within (InRun cut) rows comes row has = comes.2.within row has

  pub lacks_below : (id : ℕ) (cut : AnyCut) → last_in cut < id → LackFor written scratch limits told id cut
  lacks_below id cut lt rows comes bytes has =
      let to = (comes_within cut rows comes (id, bytes) has).1 in omega (arith, lt, to)

  pub lacks_above : (id : ℕ) (cut : AnyCut) → id < first_in cut → LackFor written scratch limits told id cut
  lacks_above id cut lt rows comes bytes has =
      let from = (comes_within cut rows comes (id, bytes) has).0 in omega (arith, lt, from)

  -- behind the first cut there is none, nor in it
  pub lacks_all : (id : ℕ) (cut : AnyCut) (rest : List AnyCut) → AreApart (cut ∷ rest) → id ≤ last_in cut
      → LackFor written scratch limits told id cut → (other : AnyCut) → Among (cut ∷ rest) other
      → LackFor written scratch limits told id other
  lacks_all id cut rest apart le lacks other (inl same) =
      subst (λ (c : AnyCut). LackFor written scratch limits told id c) (sym same) lacks
  lacks_all id cut rest apart le lacks other (inr among) =
      let lt = all_above (last_in cut) rest apart other among in lacks_above id other (omega (arith, lt, le))

  -- nor in those that were passed
  pub lacks_kept : (id : ℕ) (old new : List AnyCut) → KeepsFrom id old new
      → ((cut : AnyCut) → Among new cut → LackFor written scratch limits told id cut) → (cut : AnyCut) → Among old cut
      → LackFor written scratch limits told id cut
  lacks_kept id old new keeps lacks cut among = elim (keeps.kept cut among) [
    | inl there ↦ lacks cut there
    | inr lt ↦ lacks_below id cut lt
  ]

-- ---- going on in a cut

module _ {S R : Type 0} (written : S → Option (List ℕ)) (unreadable : S → Type 0) (left : R → Option (List ℕ)) (health : R → Health)
    (pulls : R → ℕ) where
  -- how a cursor over a cut goes on, and how it fails
  abbrev pub cut_goes : CutCursor S R → CutCursor S R → Type 0
  cut_goes old new = goes_either (run.GoesOn written) (stretch.GoesOn left health pulls) old new

  abbrev pub cut_fails : CutCursor S R → OneOf RunFault StretchFault → CutCursor S R → Type 0
  cut_fails old fault new = fails_either (run.FailsRun written unreadable) (stretch.FailsAt left health pulls) old fault new

  cut_known : IsKnown cut_shown cut_goes (CutComes written left health pulls)
  cut_known =
      either_known run.run_shown stretch.stretch_shown (run.GoesOn written) (stretch.GoesOn left health pulls) (run.ComesTo written)
      (StretchComes left health pulls) (run_known written) (stretch_known left health pulls)

  module _ (scratch : S) where
    -- it stays over the same cut
    over_next : (cut : AnyCut) (old new : CutCursor S R) → cut_goes old new → IsOver scratch cut old → IsOver scratch cut new
    over_next (InPart cut) (First old) new goes over = absurd over
    over_next (InPart cut) (Second old) (First new) goes over = absurd goes
    over_next (InPart cut) (Second old) (Second new) goes over = tt
    over_next (InRun cut) (First old) (First new) goes over = goes.same_scratch ∙ over
    over_next (InRun cut) (First old) (Second new) goes over = absurd goes
    over_next (InRun cut) (Second old) new goes over = absurd over

    over_then : (cut : AnyCut) (rows : List ByteRow) (old new : CutCursor S R) → Shows cut_shown cut_goes old rows new
        → IsOver scratch cut old → IsOver scratch cut new
    over_then cut [] old new shows over = subst (IsOver scratch cut) shows over
    over_then cut (row ∷ rows) old new shows over =
        over_then cut rows shows.1.0 new shows.1.2 (over_next cut old shows.1.0 shows.1.1 over)

    module _ (limits : Limits) (told : List (Option (List ℕ))) where
      -- behind rows below the key it still stands in the cut
      pub stands_then : (key : ℕ) (cut : AnyCut) (rows : List ByteRow) (old new : CutCursor S R) → Shows cut_shown cut_goes old rows new
          → ((row : ByteRow) → Has rows row → row.0 < key) → StandsIn written left health pulls scratch limits told cut key old
          → StandsIn written left health pulls scratch limits told cut key new
      stands_then key cut rows old new shows low stands = record {
        over = over_then cut rows old new shows stands.over;
        comes = λ all comes.
            let its = stands.comes all comes in
            let on = known_so_far cut_shown cut_goes (CutComes written left health pulls) cut_known rows old new its.rest its.comes shows in
            record {
              passed = its.passed ++ rows;
              rest = on.0;
              are = its.are ∙ ap (λ (l : List ByteRow). its.passed ++ l) on.1 ∙ sym (append_assoc its.passed rows on.0);
              below = λ row has. elim (has_either its.passed rows row has) [ inl there ↦ its.below row there | inr there ↦ low row there ];
              comes = on.2;
            };
      }

      lacks_open : (key : ℕ) (cut : AnyCut) (it : CutCursor S R) → StandsIn written left health pulls scratch limits told cut key it
          → IsFound key false (cut_shown it) → LackFor written scratch limits told key cut
      lacks_open key cut it stands found rows comes bytes has =
          let its = stands.comes rows comes in
          elim (has_either its.passed its.rest (key, bytes) (subst (λ (l : List ByteRow). Has l (key, bytes)) its.are has)) [
            | inl there ↦ let lt = its.below (key, bytes) there in omega (arith, lt)
            | inr there ↦ none its.rest (cut_known.first it its.rest its.comes) (cut_known.ascend it its.rest its.comes) there
          ]
        where
          none : (rest : List ByteRow) → cut_shown it ≡ first_of rest → IsAscending rest → Has rest (key, bytes) → ⊥
          none [] shows up has = has
          none (row ∷ rest) shows up has =
              let above : key < row.0 = subst (IsFound key false) shows found in
              let le = from_first row rest up (key, bytes) has in omega (arith, above, le)

      found_open : (key : ℕ) (cut : AnyCut) (it : CutCursor S R) → StandsIn written left health pulls scratch limits told cut key it
          → IsFound key true (cut_shown it)
          → (bytes : List ℕ) × (cut_shown it ≡ Some (key, bytes))
          × ((rows : List ByteRow) → Comes written scratch limits told cut rows → Has rows (key, bytes))
      found_open key cut it stands found = one (cut_shown it) refl found
        where
          lies : (row : ByteRow) → cut_shown it ≡ Some row → (rows : List ByteRow) → Comes written scratch limits told cut rows
              → Has rows row
          lies row is rows comes =
              let its = stands.comes rows comes in
              subst (λ (l : List ByteRow). Has l row) (sym its.are)
              (has_back its.passed its.rest row (first_has its.rest row (sym (cut_known.first it its.rest its.comes) ∙ is)))
            where
              first_has : (rest : List ByteRow) (row : ByteRow) → first_of rest ≡ Some row → Has rest row
              first_has [] row is = absurd cc
              first_has (first ∷ rest) row is = let same : row ≡ first = cc in inl same

          one : (shown : Option ByteRow) → cut_shown it ≡ shown → IsFound key true shown
              → (bytes : List ℕ) × (cut_shown it ≡ Some (key, bytes))
              × ((rows : List ByteRow) → Comes written scratch limits told cut rows → Has rows (key, bytes))
          one None is found = absurd found
          one (Some row) is found =
              let same : cut_shown it ≡ Some (key, row.1) =
              is ∙ ap (λ (k : ℕ). let r : ByteRow = (k, row.1) in Some r) found in (row.1, same, lies (key, row.1) same)

      module _ (key : ℕ) (old cuts : List AnyCut) (keeps : KeepsFrom key old cuts) where
        pub finds_none : None ≡ slice_get cuts 0 → (cut : AnyCut) → Among old cut → LackFor written scratch limits told key cut
        finds_none none = lacks_kept written scratch limits told key old cuts keeps (λ cut among. absurd (no_cut cuts none cut among))
          where
            no_cut : (cuts : List AnyCut) → None ≡ slice_get cuts 0 → (cut : AnyCut) → Among cuts cut → ⊥
            no_cut [] none cut among = among
            no_cut (first ∷ cuts) none cut among = cc

        module _ (cut : AnyCut) (rest : List AnyCut) (is : cuts ≡ cut ∷ rest) (apart : AreApart cuts) (from : BeginFrom key cuts) where
          finds_first : LackFor written scratch limits told key cut → (other : AnyCut) → Among old other
              → LackFor written scratch limits told key other
          finds_first lacks =
              lacks_kept written scratch limits told key old cuts keeps
              (subst (λ (l : List AnyCut). (other : AnyCut) → Among l other → LackFor written scratch limits told key other) (sym is)
              (lacks_all written scratch limits told key cut rest (subst (λ (l : List AnyCut). AreApart l) is apart)
              (subst (BeginFrom key) is from) lacks))

          pub finds_above : key < first_in cut → (other : AnyCut) → Among old other → LackFor written scratch limits told key other
          finds_above lt = finds_first (lacks_above written scratch limits told key cut lt)

          among_old : Among old cut
          among_old = keeps.only cut (subst (λ (l : List AnyCut). Among l cut) (sym is) (inl refl))

          pub finds_open : (found : Bool) (it : CutCursor S R) → IsFound key found (cut_shown it)
              → StandsIn written left health pulls scratch limits told cut key it
              → Finds written scratch limits told key found old (cut_shown it)
          finds_open true it found stands =
              let one = found_open key cut it stands found in
              (one.0, one.1, record { cut = cut; among = among_old; lies = one.2 })
          finds_open false it found stands = finds_first (lacks_open key cut it stands found)

      -- a cursor over the cut failed
      cut_refuses : (G : Type 0) (cut : AnyCut) (it next : CutCursor S R) (fault : OneOf RunFault StretchFault)
          → cut_fails it fault next → IsOver scratch cut it
          → ((rows : List ByteRow) → Comes written scratch limits told cut rows → (rest : List ByteRow) × CutComes written left health
          pulls it rest)
          → TellsCut written scratch limits told {G = G} unreadable cut (stop_in cut fault)
      cut_refuses G (InPart cut) (First it) next fault fails over comes = absurd over
      cut_refuses G (InPart cut) (Second it) (First next) (First fault) fails over comes = absurd fails
      cut_refuses G (InPart cut) (Second it) (Second next) (First fault) fails over comes = absurd fails
      cut_refuses G (InPart cut) (Second it) (First next) (Second fault) fails over comes = absurd fails
      cut_refuses G (InPart cut) (Second it) (Second next) (Second stretches.OutOfMemory) fails over comes = tt
      cut_refuses G (InPart cut) (Second it) (Second next) (Second stretches.Read) fails over comes = (refl, tt)
      cut_refuses G (InPart cut) (Second it) (Second next) (Second stretches.Changed) fails over comes =
          (refl, λ rows its. let on = comes rows its in fails on.1.0 on.0 on.1.1)
      cut_refuses G (InRun cut) (First it) (First next) (First runs.OutOfMemory) fails over comes = tt
      cut_refuses G (InRun cut) (First it) (First next) (First runs.Read) fails over comes = (subst unreadable over fails.read, tt)
      cut_refuses G (InRun cut) (First it) (First next) (First runs.Damaged) fails over comes =
          (tt, λ rows its. let on = comes rows its in fails.damaged on.0 on.1)
      cut_refuses G (InRun cut) (First it) (Second next) (First fault) fails over comes = absurd fails
      cut_refuses G (InRun cut) (First it) next (Second fault) fails over comes = absurd fails
      cut_refuses G (InRun cut) (Second it) next fault fails over comes = absurd over

      pub stops_open : (G : Type 0) (key : ℕ) (old : List AnyCut) (cut : AnyCut) (it new : CutCursor S R) (fault : OneOf RunFault
          StretchFault)
          (stop : ObjectFault G) → Among old cut → stop ≡ stop_in cut fault
          → StandsIn written left health pulls scratch limits told cut key it → FailsBehind cut_shown cut_goes cut_fails it fault new
          → StopsIn written scratch limits told unreadable old stop
      stops_open G key old cut it new fault stop among why stands fails = record {
        cut = cut;
        among = among;
        tells = subst (λ (s : ObjectFault G). TellsCut written scratch limits told unreadable cut s) (sym why)
            (cut_refuses G cut fails.mid new fault fails.failed (over_then cut fails.passed it fails.mid fails.shows stands.over)
            (λ rows comes.
            let its = stands.comes rows comes in
            let on = known_so_far cut_shown cut_goes (CutComes written left health pulls) cut_known fails.passed it fails.mid its.rest
            its.comes fails.shows in
            (on.0, on.2)));
      }
