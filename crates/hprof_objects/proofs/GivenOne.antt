-- Giving the object of one identifier.
use Rattle.std.proofs.Common.{◌≡◌, ◌<◌, ◌≤◌, ◌+◌, ◌⊎◌, ◌++◌, ℕ, zero, suc, List, [], ◌∷◌, length, drop, set, get_or}
use Rattle.std.proofs.Common.{Option, Some, None, Result, Ok, Err, inl, inr, sym, ap, subst, ◌∙◌, arith}
use Rattle.std.specs.Prelude.{IfErr, OnOk}
use Rattle.std.proofs.Math.Seq.{drop-cons}
use Rattle.std.proofs.lemmas.List.{drop-set-lt}
use Rattle.hprof_stream.specs.declared.limits.Limits.{Limits}
use Rattle.hprof_merge.specs.Rows.{ByteRow}
use Rattle.hprof_objects.specs.declared.any_cut.AnyCut.{AnyCut}
use Rattle.hprof_objects.specs.declared.any_cut.AnyCut.TheVariants.{InPart, InRun}
use Rattle.hprof_objects.specs.declared.object_fault.ObjectFault.{ObjectFault}
use Rattle.hprof_objects.specs.declared.object_fault.ObjectFault.TheVariants as stops
use Rattle.hprof_objects.specs.declared.searched.Searched.{Searched}
use Rattle.hprof_objects.specs.AnyCuts.{Among, TellsCut}
use Rattle.hprof_objects.specs.Giving.{GivesIf, GivesShown, UnlessOfSink}
use Rattle.hprof_objects.specs.MergedObjects.{UnlessRefused}
use Rattle.hprof_objects.specs.Searched.{KeepsFrom, StopsIn}
use Rattle.hprof_objects.specs.SearchedLists.{cuts_in}
use Rattle.hprof_objects.proofs.LookedUp.{among_back, among_either, among_front}

-- ---- cuts that are kept

pub keeps_none : (id : ℕ) (cuts : List AnyCut) → KeepsFrom id cuts cuts
keeps_none id cuts = record { kept = λ cut among. inl among; only = λ cut among. among }

pub keeps_then : (id : ℕ) (old mid new : List AnyCut) → KeepsFrom id old mid → KeepsFrom id mid new → KeepsFrom id old new
keeps_then id old mid new one two = record {
  kept = λ cut among. elim (one.kept cut among) [ inl there ↦ two.kept cut there | inr lt ↦ inr lt ];
  only = λ cut among. one.only cut (two.only cut among);
}

-- the same cuts are behind others
keeps_both : (id : ℕ) (old new others more : List AnyCut) → KeepsFrom id old new → KeepsFrom id others more
    → KeepsFrom id (old ++ others) (new ++ more)
keeps_both id old new others more one two = record {
  kept = λ cut among. elim (among_either old others cut among) [
    | inl there ↦ elim (one.kept cut there) [ inl here ↦ inl (among_front new more cut here) | inr lt ↦ inr lt ]
    | inr there ↦ elim (two.kept cut there) [ inl here ↦ inl (among_back new more cut here) | inr lt ↦ inr lt ]
  ];
  only = λ cut among. elim (among_either new more cut among) [
    | inl there ↦ among_front old others cut (one.only cut there)
    | inr there ↦ among_back old others cut (two.only cut there)
  ];
}

module _ {S R : Type 0} where
  -- of a list at an index
  pub keeps_at : (id : ℕ) (lists : List (Searched S R)) (index : ℕ) (it new : Searched S R) → index < length lists
      → it ≡ get_or lists index it → KeepsFrom id it.cuts.now new.cuts.now → KeepsFrom id (cuts_in lists) (cuts_in (set lists index new))
  keeps_at id [] index it new lt is keeps = absurd (omega (arith, lt))
  keeps_at id (first ∷ lists) zero it new lt is keeps =
      keeps_both id first.cuts.now new.cuts.now (cuts_in lists) (cuts_in lists)
      (subst (λ (s : Searched S R). KeepsFrom id s.cuts.now new.cuts.now) is keeps) (keeps_none id (cuts_in lists))
  keeps_at id (first ∷ lists) (suc index) it new lt is keeps =
      keeps_both id first.cuts.now first.cuts.now (cuts_in lists) (cuts_in (set lists index new)) (keeps_none id first.cuts.now)
      (keeps_at id lists index it new (omega (arith, lt)) is keeps)

  pub among_at : (lists : List (Searched S R)) (index : ℕ) (it : Searched S R) → index < length lists → it ≡ get_or lists index it
      → (cut : AnyCut) → Among it.cuts.now cut → Among (cuts_in lists) cut
  among_at [] index it lt is cut among = absurd (omega (arith, lt))
  among_at (first ∷ lists) zero it lt is cut among =
      among_front first.cuts.now (cuts_in lists) cut (subst (λ (s : Searched S R). Among s.cuts.now cut) is among)
  among_at (first ∷ lists) (suc index) it lt is cut among =
      among_back first.cuts.now (cuts_in lists) cut (among_at lists index it (omega (arith, lt)) is cut among)

  -- it is in that list or behind it
  pub among_behind : (lists : List (Searched S R)) (index : ℕ) (it new : Searched S R) → index < length lists
      → it ≡ get_or lists index it → (cut : AnyCut) → Among (cuts_in (drop index lists)) cut
      → Among it.cuts.now cut ⊎ Among (cuts_in (drop (index + 1) (set lists index new))) cut
  among_behind lists index it new lt is cut among =
      let rest = drop (index + 1) lists in
      let more : suc index ≡ index + 1 = omega arith in
      let here : drop index lists ≡ it ∷ rest =
      drop-cons lists index it lt ∙ ap (λ (s : Searched S R). s ∷ drop (suc index) lists) (sym is)
      ∙ ap (λ (n : ℕ). it ∷ drop n lists) more in
      let same : drop (index + 1) (set lists index new) ≡ rest = drop-set-lt (index + 1) lists index new (omega arith) in
      elim (among_either it.cuts.now (cuts_in rest) cut (subst (λ (l : List (Searched S R)). Among (cuts_in l) cut) here among)) [
        | inl there ↦ inl there
        | inr there ↦ inr (subst (λ (l : List (Searched S R)). Among (cuts_in l) cut) (sym same) there)
      ]

  -- none is behind the last list
  pub none_behind : (lists : List (Searched S R)) (index : ℕ) → length lists ≤ index → (cut : AnyCut)
      → Among (cuts_in (drop index lists)) cut → ⊥
  none_behind [] zero le cut among = among
  none_behind [] (suc index) le cut among = among
  none_behind (it ∷ lists) zero le cut among = absurd (omega (arith, le))
  none_behind (it ∷ lists) (suc index) le cut among = none_behind lists index (omega (arith, le)) cut among

-- ---- what the sink is given

module _ {T G A : Type 0} (steps : T → ℕ → List ℕ → T → Type 0) (refuses : T → ℕ → List ℕ → G → T → Type 0) where
  given_some : (There : ByteRow → Type 0) (Nowhere : Type 0) (id : ℕ) (bytes : List ℕ) (result : Result A (ObjectFault G)) (old new : T)
      → There (id, bytes) → GivesShown steps refuses (Some (id, bytes)) result old new
      → GivesIf steps refuses There Nowhere id result old new
  given_some There Nowhere id bytes (Ok done) old new there gives = inl (bytes, there, gives)
  given_some There Nowhere id bytes (Err stops.OutOfMemory) old new there gives = absurd gives
  given_some There Nowhere id bytes (Err (stops.TwoContents key)) old new there gives = absurd gives
  given_some There Nowhere id bytes (Err (stops.Scratch fault)) old new there gives = absurd gives
  given_some There Nowhere id bytes (Err (stops.Part part fault)) old new there gives = absurd gives
  given_some There Nowhere id bytes (Err (stops.Sink fault)) old new there gives = (bytes, there, gives)

  -- the row that is shown is there
  pub given_shown : (There : ByteRow → Type 0) (Nowhere : Type 0) (id : ℕ) (bytes : List ℕ) (shown : Option ByteRow)
      (result : Result A (ObjectFault G)) (old new : T) → shown ≡ Some (id, bytes) → There (id, bytes)
      → GivesShown steps refuses shown result old new → GivesIf steps refuses There Nowhere id result old new
  given_shown There Nowhere id bytes shown result old new is there gives =
      given_some There Nowhere id bytes result old new there
      (subst (λ (s : Option ByteRow). GivesShown steps refuses s result old new) is gives)

  -- a stop while it was given is one of the sink
  pub shown_stops : (P : ObjectFault G → Type 0) (shown : Option ByteRow) (result : Result A (ObjectFault G)) (old new : T)
      → GivesShown steps refuses shown result old new → IfErr result (UnlessOfSink P)
  shown_stops P shown (Ok done) old new gives = tt
  shown_stops P None (Err stop) old new gives = absurd gives
  shown_stops P (Some row) (Err stops.OutOfMemory) old new gives = absurd gives
  shown_stops P (Some row) (Err (stops.TwoContents key)) old new gives = absurd gives
  shown_stops P (Some row) (Err (stops.Scratch fault)) old new gives = absurd gives
  shown_stops P (Some row) (Err (stops.Part part fault)) old new gives = absurd gives
  shown_stops P (Some row) (Err (stops.Sink fault)) old new gives = tt

-- ---- reading stopped

module _ {S : Type 0} (G : Type 0) (written : S → Option (List ℕ)) (scratch : S) (limits : Limits) (told : List (Option (List ℕ)))
    (unreadable : S → Type 0) where
  no_contents : (cut : AnyCut) (key : ℕ) → TellsCut written scratch limits told {G = G} unreadable cut (stops.TwoContents key) → ⊥
  no_contents (InPart cut) key tells = tells
  no_contents (InRun cut) key tells = tells

  no_sink : (cut : AnyCut) (fault : G) → TellsCut written scratch limits told {G = G} unreadable cut (stops.Sink fault) → ⊥
  no_sink (InPart cut) fault tells = tells
  no_sink (InRun cut) fault tells = tells

  pub stopped_gives : {T : Type 0} (A : Type 0) (steps : T → ℕ → List ℕ → T → Type 0) (refuses : T → ℕ → List ℕ → G → T → Type 0)
      (There : ByteRow → Type 0) (Nowhere : Type 0) (id : ℕ) (cuts : List AnyCut) (stop : ObjectFault G) (old new : T)
      → StopsIn written scratch limits told unreadable cuts stop → old ≡ new
      → GivesIf steps refuses {A = A} There Nowhere id (Err stop) old new
  stopped_gives A steps refuses There Nowhere id cuts stops.OutOfMemory old new stopped same = same
  stopped_gives A steps refuses There Nowhere id cuts (stops.TwoContents key) old new stopped same =
      absurd (no_contents stopped.cut key stopped.tells)
  stopped_gives A steps refuses There Nowhere id cuts (stops.Scratch fault) old new stopped same = same
  stopped_gives A steps refuses There Nowhere id cuts (stops.Part part fault) old new stopped same = same
  stopped_gives A steps refuses There Nowhere id cuts (stops.Sink fault) old new stopped same =
      absurd (no_sink stopped.cut fault stopped.tells)

pub unless_sink : {G : Type 0} (P : ObjectFault G → Type 0) (stop : ObjectFault G) → P stop → UnlessOfSink P stop
unless_sink P stops.OutOfMemory it = it
unless_sink P (stops.TwoContents key) it = it
unless_sink P (stops.Scratch fault) it = it
unless_sink P (stops.Part part fault) it = it
unless_sink P (stops.Sink fault) it = tt

pub unless_more : {G : Type 0} (P Q : ObjectFault G → Type 0) (stop : ObjectFault G) → (P stop → Q stop) → UnlessOfSink P stop
    → UnlessOfSink Q stop
unless_more P Q stops.OutOfMemory more it = more it
unless_more P Q (stops.TwoContents key) more it = more it
unless_more P Q (stops.Scratch fault) more it = more it
unless_more P Q (stops.Part part fault) more it = more it
unless_more P Q (stops.Sink fault) more it = tt

pub unless_refused : {A G : Type 0} (P : Type 0) (result : Result A (ObjectFault G)) → P → UnlessRefused P result
unless_refused P (Ok done) it = it
unless_refused P (Err stops.OutOfMemory) it = it
unless_refused P (Err (stops.TwoContents key)) it = it
unless_refused P (Err (stops.Scratch fault)) it = it
unless_refused P (Err (stops.Part part fault)) it = it
unless_refused P (Err (stops.Sink fault)) it = tt

-- more cuts, or others that are kept
pub stops_more : {S G : Type 0} (written : S → Option (List ℕ)) (scratch : S) (limits : Limits) (told : List (Option (List ℕ)))
    (unreadable : S → Type 0) (cuts all : List AnyCut) → ((cut : AnyCut) → Among cuts cut → Among all cut) → (stop : ObjectFault G)
    → StopsIn written scratch limits told unreadable cuts stop → StopsIn written scratch limits told unreadable all stop
stops_more written scratch limits told unreadable cuts all more stop stopped =
    record { cut = stopped.cut; among = more stopped.cut stopped.among; tells = stopped.tells }

pub on_ok : {A E : Type 0} {P : Type 0} (result : Result A E) → P → OnOk result P
on_ok (Ok done) it = it
on_ok (Err stop) it = tt
