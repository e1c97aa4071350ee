-- Giving the objects of wanted identifiers, one after another.
use Rattle.std.proofs.Common.{◌≡◌, ◌<◌, ◌≤◌, ◌+◌, ◌++◌, ℕ, true, false, List, [], ◌∷◌, Option, Some, None, Ok, Err}
use Rattle.std.proofs.Common.{slice_index_or, inl, inr, refl, sym, ap, subst, ◌∙◌, append_assoc, arith, eqb}
use Rattle.std.specs.Prelude.{All}
use Rattle.std.proofs.lemmas.Bool.Decides.{eqb_tells}
use Rattle.hprof_devices.specs.declared.health.Health.{Health}
use Rattle.hprof_stream.specs.declared.limits.Limits.{Limits}
use Rattle.hprof_merge.specs.Rows.{ByteRow, Has, IsAscending}
use Rattle.hprof_merge.specs.Run.{Runs}
use Rattle.hprof_runs.specs.declared.sorted_rows.SortedRows.{SortedRows}
use Rattle.hprof_runs.proofs.TwoPieces.{ascends_behind, below_behind, has_back, has_either, has_front}
use Rattle.hprof_objects.specs.declared.any_cut.AnyCut.{AnyCut}
use Rattle.hprof_objects.specs.declared.object_fault.ObjectFault.{ObjectFault}
use Rattle.hprof_objects.specs.declared.object_fault.ObjectFault.TheVariants as stops
use Rattle.hprof_objects.specs.declared.searched.Searched.{Searched}
use Rattle.hprof_objects.specs.AnyCuts.{CutCursor}
use Rattle.hprof_objects.specs.Giving.{GivesIf, IsNowhere, IsThere, PicksHeld}
use Rattle.hprof_objects.specs.Picks.{PicksFirst, RefusesAmong}
use Rattle.hprof_objects.specs.Searched.{IsReady, KeepsFrom, OpenCanGoOn, StandsOpen}
use Rattle.hprof_objects.specs.SearchedLists.{IsFresh, cuts_in}
use Rattle.hprof_objects.specs.Wanted.{AreFrom, Rises, is_among, wanted_rows}
use Rattle.hprof_objects.proofs.GivenOne.{keeps_none, keeps_then}
use Rattle.hprof_objects.proofs.LookedUp.{lacks_kept}
use Rattle.hprof_objects.proofs.PickedRows.{wanted_both, wanted_one}
use Rattle.hprof_objects.proofs.WantedRows.{above_among, differ, from_lower, passed_among, wanted-none}

-- ---- rows up to a wanted one

-- the row stands between others
record StandsAmong (rows : List ByteRow) (row : ByteRow) : Type 0 where
  front : List ByteRow
  behind : List ByteRow
  are : rows ≡ front ++ row ∷ behind

stands_among : (rows : List ByteRow) (row : ByteRow) → Has rows row → StandsAmong rows row
stands_among [] row has = absurd has
stands_among (first ∷ rows) row (inl same) =
    record { front = []; behind = rows; are = ap (λ (r : ByteRow). r ∷ rows) (sym same) }
stands_among (first ∷ rows) row (inr has) =
    let it = stands_among rows row has in
    record { front = first ∷ it.front; behind = it.behind; are = ap (λ (l : List ByteRow). first ∷ l) it.are }

module _ {T : Type 0} (steps : T → ℕ → List ℕ → T → Type 0) (wanted : List ℕ) where
  -- the sink took the wanted ones of the first rows, which are below the identifiers that are left; of the other rows, these are wanted
  pub record GaveSoFar (rows : List ByteRow) (left : List ℕ) (old new : T) : Type 0 where
    pub front : List ByteRow
    pub behind : List ByteRow
    pub are : rows ≡ front ++ behind
    pub run : Runs steps old (wanted_rows wanted front) new
    pub below : (row : ByteRow) → Has front row → AreFrom (row.0 + 1) left
    pub same : (row : ByteRow) → Has behind row → is_among left row.0 ≡ is_among wanted row.0

  pub gave_none : (rows : List ByteRow) (sink : T) → GaveSoFar rows wanted sink sink
  gave_none rows sink = record {
    front = [];
    behind = rows;
    are = refl;
    run = refl;
    below = λ row never. absurd never;
    same = λ row has. refl;
  }

  pub gave_all : (rows : List ByteRow) (left : List ℕ) (old new : T) → left ≡ [] → GaveSoFar rows left old new
      → Runs steps old (wanted_rows wanted rows) new
  gave_all rows left old new none gave =
      subst (λ (l : List ByteRow). Runs steps old (wanted_rows wanted l) new) (sym gave.are)
      (wanted_both steps wanted old new new gave.front gave.behind gave.run
      (subst (λ (l : List ByteRow). Runs steps new l new)
      (sym (wanted-none wanted gave.behind (λ row has. sym (gave.same row has) ∙ ap (λ (l : List ℕ). is_among l row.0) none))) refl))

  module _ (rows : List ByteRow) (id : ℕ) (after : List ℕ) (old mid : T) (gave : GaveSoFar rows (id ∷ after) old mid)
      (rises : Rises (id ∷ after)) (up : IsAscending rows) where
    -- no row has the identifier
    pub gave_nothing : ((bytes : List ℕ) → Has rows (id, bytes) → ⊥) → GaveSoFar rows after old mid
    gave_nothing none = record {
      front = gave.front;
      behind = gave.behind;
      are = gave.are;
      run = gave.run;
      below = λ row has. (gave.below row has).1;
      same = λ row has. sym (other row has) ∙ gave.same row has;
    }
      where
        other : (row : ByteRow) → Has gave.behind row → is_among (id ∷ after) row.0 ≡ is_among after row.0
        other row has =
            let ne : eqb id row.0 ≡ false =
            differ id row.0 (λ alike. none row.1 (subst (λ (k : ℕ). Has rows (k, row.1)) (sym alike)
            (subst (λ (l : List ByteRow). Has l row) (sym gave.are) (has_back gave.front gave.behind row has)))) in
            rw ne refl

    module _ (bytes : List ℕ) (has : Has rows (id, bytes)) where
      abbrev one : ByteRow
      one = (id, bytes)

      its : StandsAmong gave.behind one
      its = elim (has_either gave.front gave.behind one (subst (λ (l : List ByteRow). Has l one) gave.are has)) [
        | inl there ↦ absurd (let from = (gave.below one there).0 in omega (arith, from))
        | inr there ↦ stands_among gave.behind one there
      ]

      whole : rows ≡ (gave.front ++ its.front) ++ one ∷ its.behind
      whole = gave.are ∙ ap (λ (l : List ByteRow). gave.front ++ l) its.are ∙ sym (append_assoc gave.front its.front (one ∷ its.behind))

      behind_up : IsAscending (its.front ++ one ∷ its.behind)
      behind_up =
          ascends_behind gave.front (its.front ++ one ∷ its.behind)
          (subst (λ (l : List ByteRow). IsAscending l) (gave.are ∙ ap (λ (l : List ByteRow). gave.front ++ l) its.are) up)

      lower_from : (key : ℕ) → key < id → AreFrom (key + 1) (id ∷ after)
      lower_from key lt = (omega (arith, lt), from_lower (key + 1) (id + 1) after (omega (arith, lt)) rises.0)

      -- the rows before it are not wanted
      up_to : Runs steps old (wanted_rows wanted (gave.front ++ its.front)) mid
      up_to =
          wanted_both steps wanted old mid mid gave.front its.front gave.run
          (subst (λ (l : List ByteRow). Runs steps mid l mid) (sym (wanted-none wanted its.front none)) refl)
        where
          none : (other : ByteRow) → Has its.front other → is_among wanted other.0 ≡ false
          none other there =
              let lt = below_behind its.front one its.behind behind_up other there in
              let in_behind : Has gave.behind other =
              subst (λ (l : List ByteRow). Has l other) (sym its.are) (has_front its.front (one ∷ its.behind) other there) in
              sym (gave.same other in_behind)
              ∙ above_among other.0 (id ∷ after)
              (lower_from other.0 lt) other.0 (omega arith)

      is_wanted : is_among wanted id ≡ true
      is_wanted =
          sym (gave.same one (subst (λ (l : List ByteRow). Has l one) (sym its.are) (has_back its.front (one ∷ its.behind) one (inl refl))))
          ∙ first_among id after
        where
          first_among : (id : ℕ) (after : List ℕ) → is_among (id ∷ after) id ≡ true
          first_among id after = elim (eqb_tells id id) [ inl same ↦ rw same.0 refl | inr told ↦ absurd (told.1 refl) ]

      -- the sink took it
      pub gave_row : (new : T) → steps mid id bytes new → GaveSoFar rows after old new
      gave_row new took = record {
        front = (gave.front ++ its.front) ++ one ∷ [];
        behind = its.behind;
        are = whole ∙ sym (append_assoc (gave.front ++ its.front) (one ∷ []) its.behind);
        run = wanted_both steps wanted old mid new (gave.front ++ its.front) (one ∷ []) up_to taken;
        below = λ other has. elim (has_either (gave.front ++ its.front) (one ∷ []) other has) [
          | inl there ↦ elim (has_either gave.front its.front other there) [
            | inl first ↦ (gave.below other first).1
            | inr next ↦ let lt = below_behind its.front one its.behind behind_up other next in at_most other (omega (arith, lt))
          ]
          | inr there ↦ at_most other (last other there)
        ];
        same = λ other has.
            let lt = (ascends_behind its.front (one ∷ its.behind) behind_up).0 other has in
            sym (passed_among id after other.0 lt)
            ∙ gave.same other (subst (λ (l : List ByteRow). Has l other) (sym its.are) (has_back its.front (one ∷ its.behind) other
            (inr has)));
      }
        where
          taken : Runs steps mid (wanted_rows wanted (one ∷ [])) new
          taken = wanted_one steps wanted true mid id bytes new (sym is_wanted) took

          at_most : (other : ByteRow) → other.0 ≤ id → AreFrom (other.0 + 1) after
          at_most other le = from_lower (other.0 + 1) (id + 1) after (omega (arith, le)) rises.0

          last : (other : ByteRow) → Has (one ∷ []) other → other.0 ≤ id
          last other (inl same) = let e : other.0 ≡ id = ap (λ (r : ByteRow). r.0) same in omega (arith, e)
          last other (inr never) = absurd never

      -- the sink refused it
      pub refused_row : {G : Type 0} (refuses : T → ℕ → List ℕ → G → T → Type 0) (fault : G) (new : T)
          → refuses mid id bytes fault new → RefusesAmong steps refuses wanted rows fault old new
      refused_row refuses fault new refused = record {
        front = gave.front ++ its.front;
        row = one;
        behind = its.behind;
        are = whole;
        mid = mid;
        run = up_to;
        is_wanted = is_wanted;
        refused = refused;
      }

-- ---- what a sink is given for one identifier

module _ {T G : Type 0} (steps : T → ℕ → List ℕ → T → Type 0) (refuses : T → ℕ → List ℕ → G → T → Type 0) (wanted : List ℕ)
    (rows : List ByteRow) (id : ℕ) (after : List ℕ) (old mid : T) (gave : GaveSoFar steps wanted rows (id ∷ after) old mid)
    (rises : Rises (id ∷ after)) (up : IsAscending rows) (There : ByteRow → Type 0) (Nowhere : Type 0)
    (only : (row : ByteRow) → There row → Has rows row) where
  pub gave_more : {A : Type 0} (done : A) (new : T) → (Nowhere → (bytes : List ℕ) → Has rows (id, bytes) → ⊥)
      → GivesIf steps refuses There Nowhere id (Ok done) mid new → GaveSoFar steps wanted rows after old new
  gave_more done new none (inl it) = gave_row steps wanted rows id after old mid gave rises up it.0 (only (id, it.0) it.1) new it.2
  gave_more done new none (inr it) =
      subst (GaveSoFar steps wanted rows after old) it.1 (gave_nothing steps wanted rows id after old mid gave rises up (none it.0))

  picks_first : (new : T) → mid ≡ new → PicksFirst steps refuses wanted rows old new
  picks_first new same = record {
    front = gave.front;
    behind = gave.behind;
    are = gave.are;
    run = subst (Runs steps old (wanted_rows wanted gave.front)) same gave.run;
  }

  pub gave_stops : (A : Type 0) (stop : ObjectFault G) (new : T) → GivesIf steps refuses {A = A} There Nowhere id (Err stop) mid new
      → PicksHeld steps refuses {A = A} wanted rows (Err stop) old new
  gave_stops A stops.OutOfMemory new same = picks_first new same
  gave_stops A (stops.TwoContents key) new never = never
  gave_stops A (stops.Scratch fault) new same = picks_first new same
  gave_stops A (stops.Part part fault) new same = picks_first new same
  gave_stops A (stops.Sink fault) new it =
      refused_row steps wanted rows id after old mid gave rises up it.0 (only (id, it.0) it.1) refuses fault new it.2

-- ---- later identifiers

pub keeps_later : (key id : ℕ) (old new : List AnyCut) → key ≤ id → KeepsFrom key old new → KeepsFrom id old new
keeps_later key id old new le keeps = record {
  kept = λ cut among. elim (keeps.kept cut among) [ inl there ↦ inl there | inr lt ↦ inr (omega (arith, lt, le)) ];
  only = keeps.only;
}

module _ {S R : Type 0} (written : S → Option (List ℕ)) (left : R → Option (List ℕ)) (health : R → Health) (pulls : R → ℕ) (scratch : S)
    (limits : Limits) (told : List (Option (List ℕ))) where
  stands_later : (key id : ℕ) (cursor : Option (CutCursor S R)) (cuts : List AnyCut) → key ≤ id
      → StandsOpen written left health pulls scratch limits told key cursor cuts
      → StandsOpen written left health pulls scratch limits told id cursor cuts
  stands_later key id None cuts le stands = tt
  stands_later key id (Some it) [] le stands = tt
  stands_later key id (Some it) (cut ∷ cuts) le stands = record {
    over = stands.over;
    comes = λ rows its.
        let on = stands.comes rows its in
        record {
          passed = on.passed;
          rest = on.rest;
          are = on.are;
          below = λ row has. let lt = on.below row has in omega (arith, lt, le);
          comes = on.comes;
        };
  }

  pub all_later : (key id : ℕ) (lists : List (Searched S R)) → key ≤ id
      → All (IsReady written left health pulls scratch limits told key) lists
      → All (IsReady written left health pulls scratch limits told id) lists
  all_later key id lists le ready k d lt =
      let it = ready k d lt in
      record {
        apart = it.apart;
        can = it.can;
        stands = stands_later key id (slice_index_or lists k d).cursor (slice_index_or lists k d).cuts.now le it.stands;
      }

  pub fresh_ready : (key : ℕ) (lists : List (Searched S R)) → All IsFresh lists
      → All (IsReady written left health pulls scratch limits told key) lists
  fresh_ready key lists fresh k d lt =
      let it = fresh k d lt in
      let list = slice_index_or lists k d in
      record {
        apart = it.apart;
        can = subst (OpenCanGoOn health) (sym it.closed) tt;
        stands = subst (λ (o : Option (CutCursor S R)). StandsOpen written left health pulls scratch limits told key o list.cuts.now)
            (sym it.closed) tt;
      }

  -- the lists can be asked for the identifiers that are left
  pub record AreReadyFor (ids : List ℕ) (old now : List (Searched S R)) : Type 0 where
    pub low : ℕ
    pub from : AreFrom low ids
    pub ready : All (IsReady written left health pulls scratch limits told low) now
    pub keeps : KeepsFrom low (cuts_in old) (cuts_in now)

  pub ready_first : (ids : List ℕ) (lists : List (Searched S R)) → All (IsReady written left health pulls scratch limits told 0) lists
      → AreReadyFor ids lists lists
  ready_first ids lists ready = record { low = 0; from = from_zero ids; ready = ready; keeps = keeps_none 0 (cuts_in lists) }
    where
      from_zero : (ids : List ℕ) → AreFrom 0 ids
      from_zero [] = tt
      from_zero (id ∷ ids) = (omega arith, from_zero ids)

  module _ (id : ℕ) (after : List ℕ) (old now : List (Searched S R)) (are : AreReadyFor (id ∷ after) old now) where
    pub ready_next : All (IsReady written left health pulls scratch limits told id) now
    ready_next = all_later are.low id now are.from.0 are.ready

    pub keeps_next : KeepsFrom id (cuts_in old) (cuts_in now)
    keeps_next = keeps_later are.low id (cuts_in old) (cuts_in now) are.from.0 are.keeps

    pub ready_then : (new : List (Searched S R)) → Rises (id ∷ after) → All (IsReady written left health pulls scratch limits told id) new
        → KeepsFrom id (cuts_in now) (cuts_in new) → AreReadyFor after old new
    ready_then new rises ready keeps = record {
      low = id;
      from = from_lower id (id + 1) after (omega arith) rises.0;
      ready = ready;
      keeps = keeps_then id (cuts_in old) (cuts_in now) (cuts_in new) keeps_next keeps;
    }

-- ---- rows that are there

module _ {S : Type 0} (written : S → Option (List ℕ)) (scratch : S) (limits : Limits) (told : List (Option (List ℕ))) (rows : SortedRows)
    (id : ℕ) (old now : List AnyCut) (keeps : KeepsFrom id old now) where
  pub there_before : (row : ByteRow) → IsThere written scratch limits told rows now row → IsThere written scratch limits told rows old row
  there_before row (inl has) = inl has
  there_before row (inr lies) = inr (record { cut = lies.cut; among = keeps.only lies.cut lies.among; lies = lies.lies })

  pub nowhere_before : IsNowhere written scratch limits told rows now id → IsNowhere written scratch limits told rows old id
  nowhere_before none = (none.0, lacks_kept written scratch limits told id old now keeps none.1)
