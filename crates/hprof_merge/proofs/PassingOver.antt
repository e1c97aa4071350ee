-- Cursors passed over that show the same row as the one that is held.
use Rattle.std.proofs.Common.{◌≡◌, ◌≢◌, ◌<◌, ◌≤◌, ◌^◌, ℕ, List, [], ◌∷◌, Option, Some, None, refl, sym, ap, subst, ◌∙◌, inl, inr, arith}
use Rattle.std.proofs.Common.{length, set}
use Rattle.std.specs.Prelude.{sum_by}
use Rattle.std.proofs.lemmas.List.{get_or-set_same, get_or-set_other}
use Rattle.std.proofs.lemmas.Bool.{cases_eq}
use Rattle.hprof_merge.specs.declared.merge_fault.MergeFault.{MergeFault}
use Rattle.hprof_merge.specs.declared.merge_fault.MergeFault.TheVariants.{OutOfMemory, TwoContents, Cursor, Sink}
use Rattle.hprof_merge.specs.Rows.{ByteRow, Has, IsAscending, first_key, HaveSameFirst}
use Rattle.hprof_merge.specs.Union.{rows_at, AnyHas, AllAscend}
use Rattle.hprof_merge.specs.Tree.{head_at}
use Rattle.hprof_merge.specs.Contest.{MatchesBut, IsPlaceOfHead}
use Rattle.hprof_merge.specs.Merging.{AllAbove}
use Rattle.hprof_merge.specs.Showing.{all_shown, GoesAt}
use Rattle.hprof_merge.specs.Stopping.{LeavesCursors, IsFaultAt, PassesEquals, StopsPassing, room_of}
use Rattle.hprof_merge.proofs.Lists.{ascending_first, first_row, same_first, Has-front}
use Rattle.hprof_merge.proofs.Joined.{joined, any_joined, nothing, nothing_has, one_row, one_row_only}
use Rattle.hprof_merge.proofs.Showing.{shown_other, above_here, gone_then, none_gone, one_gone, less_room}

-- ---- lists whose first keys are in the contest, but for the one that is held

module _ (held : ℕ) (lists : List (List ByteRow)) (heads : List (Option ℕ)) (matches : MatchesBut held heads lists) where
  pub place_not_held : (place key : ℕ) → head_at heads place ≡ Some key → place ≢ held
  place_not_held place key here e =
      let none : head_at heads place ≡ None = ap (λ (k : ℕ). head_at heads k) e ∙ matches.none in
      let both : None ≡ Some key = sym none ∙ here in
      cc

  pub place_begins : (place key : ℕ) → head_at heads place ≡ Some key → first_key (rows_at lists place) ≡ Some key
  place_begins place key here = sym (matches.others place (place_not_held place key here)) ∙ here

  pub no_lower : (key : ℕ) → ((row : ByteRow) → AnyHas lists row → key ≤ row.0) → (place other : ℕ) → head_at heads place ≡ Some other
      → key ≤ other
  no_lower key least place other is =
      let first = first_row (rows_at lists place) other (place_begins place other is) in
      least (other, first.0) (place, Has-front (rows_at lists place) (other, first.0) first.1 first.2)

  pub others_above : (key : ℕ) → AllAscend lists → IsPlaceOfHead heads key None → AllAbove key held lists
  others_above key up above place apart = each (rows_at lists place) (up place) (first_key (rows_at lists place)) refl refl
    where
      each : (rows : List ByteRow) → IsAscending rows → (first : Option ℕ) → first_key (rows_at lists place) ≡ first → first_key rows
          ≡ first
          → (row : ByteRow) → Has rows row → key < row.0
      each [] up first is rows_is row has = absurd has
      each (top ∷ rest) up first is rows_is row has =
          let le = ascending_first top rest up row has in
          let lt : key < top.0 = above place top.0 (matches.others place apart ∙ is ∙ sym rows_is) in
          omega arith

module _ {C : Type 0} (shown : C → Option ByteRow) (goes : C → C → Type 0) where
  -- none is passed over yet
  pub passes_none : (key held : ℕ) (cursors : List C) (heads : List (Option ℕ)) → MatchesBut held heads (all_shown shown cursors)
      → ((row : ByteRow) → AnyHas (all_shown shown cursors) row → key ≤ row.0) → PassesEquals shown goes key held cursors cursors heads
  passes_none key held cursors heads matches least = record {
    came = nothing (length cursors);
    shows = none_gone shown goes cursors;
    equal = λ row has. absurd (nothing_has (length cursors) row has);
    matches = matches;
    kept = refl;
    least = least;
  }

  -- one more is passed over
  module _ (rises : (old new : C) (row next : ByteRow) → goes old new → shown old ≡ Some row → shown new ≡ Some next → row.0 < next.0)
      (key held place : ℕ) (old mid new : List C) (heads next_heads : List (Option ℕ))
      (passes : PassesEquals shown goes key held old mid heads)
      (here : head_at heads place ≡ Some key) (heads_lt : place < length heads) (lt : place < length mid)
      (head : first_key (rows_at (all_shown shown old) held) ≡ Some key)
      (same : HaveSameFirst (rows_at (all_shown shown mid) held) (rows_at (all_shown shown mid) place)) (step : GoesAt goes place mid new)
      (heads_are : next_heads ≡ set heads place (first_key (rows_at (all_shown shown new) place))) where
    apart : place ≢ held
    apart = place_not_held held (all_shown shown mid) heads passes.matches place key here

    pub passes_more : PassesEquals shown goes key held old new next_heads
    passes_more =
        let held_begins : first_key (rows_at (all_shown shown mid) held) ≡ Some key = ap first_key passes.kept ∙ head in
        let there_begins = place_begins held (all_shown shown mid) heads passes.matches place key here in
        let both = same_first (rows_at (all_shown shown mid) held)
        (rows_at (all_shown shown mid) place) key held_begins there_begins same in
        let row : ByteRow = (key, both.0) in
        let held_is : rows_at (all_shown shown mid) held ≡ row ∷ both.1 = both.3 in
        let is : rows_at (all_shown shown mid) place ≡ row ∷ both.2 = both.4 in
        record {
          came = joined passes.came (one_row (length mid) place row);
          shows = gone_then shown goes old mid new passes.came (one_row (length mid) place row) passes.shows
              (one_gone shown goes mid new place row both.2 lt step is);
          equal = λ other has. elim (any_joined passes.came (one_row (length mid) place row) other has) [
            | inl before ↦ passes.equal other before
            | inr now ↦
                let e : other ≡ row = one_row_only (length mid) place row lt other now in
                let P : ByteRow → Type 0 = λ r. Has (rows_at (all_shown shown old) held) r in
                subst P (sym e) (Has-front (rows_at (all_shown shown old) held) row both.1 (sym passes.kept ∙ held_is))
          ];
          matches = record {
            none = ap (λ (h : List (Option ℕ)). head_at h held) heads_are
                ∙ get_or-set_other heads place held (first_key (rows_at (all_shown shown new) place)) None (λ e. apart (sym e))
                ∙ passes.matches.none;
            others = λ other off. ap (λ (h : List (Option ℕ)). head_at h other) heads_are ∙ elim (cases_eq other place) [
              | inl e ↦
                  let P : ℕ → Type 0 =
                  λ k. head_at (set heads place (first_key (rows_at (all_shown shown new) place))) k
                  ≡ first_key (rows_at (all_shown shown new) k) in
                  subst P (sym e) (get_or-set_same heads place (first_key (rows_at (all_shown shown new) place)) None heads_lt)
              | inr away ↦
                  get_or-set_other heads place other (first_key (rows_at (all_shown shown new) place)) None away
                  ∙ passes.matches.others other off ∙ ap first_key (sym (shown_other shown mid new place step.next step.is other away))
            ];
          };
          kept = shown_other shown mid new place step.next step.is held (λ e. apart (sym e)) ∙ passes.kept;
          least = λ other has. elim (cases_eq has.0 place) [
            | inl e ↦
                let P : ℕ → Type 0 = λ k. Has (rows_at (all_shown shown new) k) other in
                let more = above_here shown goes rises mid new place row both.2 lt step is other (subst P e has.1) in
                omega arith
            | inr away ↦
                let P : List ByteRow → Type 0 = λ l. Has l other in
                passes.least other (has.0, subst P (shown_other shown mid new place step.next step.is has.0 away) has.1)
          ];
        }

  -- two contents at the key
  pub passes_contents : (key held place : ℕ) (old mid : List C) (heads : List (Option ℕ)) → PassesEquals shown goes key held old mid heads
      → head_at heads place ≡ Some key → first_key (rows_at (all_shown shown old) held) ≡ Some key
      → (HaveSameFirst (rows_at (all_shown shown mid) held) (rows_at (all_shown shown mid) place) → ⊥)
      → {F G : Type 0} → (fails : C → F → C → Type 0) → StopsPassing shown goes {G = G} fails key held old mid (TwoContents key)
  passes_contents key held place old mid heads passes here head differ fails =
      let held_begins : first_key (rows_at (all_shown shown mid) held) ≡ Some key = ap first_key passes.kept ∙ head in
      let there_begins = place_begins held (all_shown shown mid) heads passes.matches place key here in
      let one = first_row (rows_at (all_shown shown mid) held) key held_begins in
      let other = first_row (rows_at (all_shown shown mid) place) key there_begins in
      record {
        mid = mid;
        heads = heads;
        passes = passes;
        leaves = refl;
        stops = (
          refl,
          record {
            one = one.0;
            other = other.0;
            has_one = (held, Has-front (rows_at (all_shown shown mid) held) (key, one.0) one.1 one.2);
            has_other = (place, Has-front (rows_at (all_shown shown mid) place) (key, other.0) other.1 other.2);
            differ = λ e. differ (
                let P : List ByteRow → List ByteRow → Type 0 = λ l m. HaveSameFirst l m in
                subst (λ (l : List ByteRow). P l (rows_at (all_shown shown mid) place)) (sym one.2)
                (subst (λ (m : List ByteRow). P ((key, one.0) ∷ one.1) m) (sym other.2) e)
                );
          },
        );
      }

  -- the cursor at the place failed
  pub passes_fault : (key held place : ℕ) (old mid : List C) (heads : List (Option ℕ)) → PassesEquals shown goes key held old mid heads
      → head_at heads place ≡ Some key → {F G : Type 0} → (fails : C → F → C → Type 0) (new : List C) (stop : MergeFault F G)
      → IsFaultAt place stop → LeavesCursors fails stop mid new → StopsPassing shown goes fails key held old new stop
  passes_fault key held place old mid heads passes here fails new OutOfMemory never leaves = absurd never
  passes_fault key held place old mid heads passes here fails new (TwoContents other) never leaves = absurd never
  passes_fault key held place old mid heads passes here fails new (Cursor at fault) is leaves =
      record {
        mid = mid;
        heads = heads;
        passes = passes;
        leaves = leaves;
        stops = let P : ℕ → Type 0 = λ k. first_key (rows_at (all_shown shown mid) k) ≡ Some key in
            subst P (sym is) (place_begins held (all_shown shown mid) heads passes.matches place key here);
      }
  passes_fault key held place old mid heads passes here fails new (Sink fault) never leaves = absurd never

module _ {C : Type 0} (shown : C → Option ByteRow) (goes : C → C → Type 0)
    (rises : (old new : C) (row next : ByteRow) → goes old new → shown old ≡ Some row → shown new ≡ Some next → row.0 < next.0) where
  -- there is less room once one more is passed over
  pub passes_less : (key held place : ℕ) (old mid new : List C) (heads : List (Option ℕ)) → PassesEquals shown goes key held old mid heads
      → head_at heads place ≡ Some key → place < length mid → key < 2 ^ 64 → GoesAt goes place mid new
      → sum_by room_of (all_shown shown new) < sum_by room_of (all_shown shown mid)
  passes_less key held place old mid new heads passes here lt fits step =
      let first = first_row (rows_at (all_shown shown mid) place) key
      (place_begins held (all_shown shown mid) heads passes.matches place key here) in
      less_room shown goes rises mid new place (key, first.0) first.1 lt fits step first.2
