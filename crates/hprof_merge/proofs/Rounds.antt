-- A round of a merge: cursors that show the least key go on, and the row is given to the sink.
use Rattle.std.proofs.Common.{◌≡◌, ◌<◌, ◌≤◌, ◌+◌, ◌^◌, ◌++◌, ◌⊎◌, ℕ, List, [], ◌∷◌, Option, Some, None, Ok, Err, refl, sym, ap, subst, ◌∙◌}
use Rattle.std.proofs.Common.{inl, inr, arith, length, set}
use Rattle.std.specs.Prelude.{sum_by}
use Rattle.std.proofs.lemmas.List.{get_or-set_same, get_or-set_other}
use Rattle.std.proofs.lemmas.Bool.{cases_eq}
use Rattle.hprof_merge.specs.declared.merge_fault.MergeFault.{MergeFault}
use Rattle.hprof_merge.specs.declared.merge_fault.MergeFault.TheVariants.{OutOfMemory, TwoContents, Cursor, Sink}
use Rattle.hprof_merge.specs.Rows.{ByteRow, Has, IsAscending, first_key}
use Rattle.hprof_merge.specs.Run.{Runs}
use Rattle.hprof_merge.specs.Union.{rows_at, AnyHas, AllAscend, IsUnionBelow}
use Rattle.hprof_merge.specs.Tree.{head_at}
use Rattle.hprof_merge.specs.Contest.{Matches, MatchesBut, IsLeastHead}
use Rattle.hprof_merge.specs.Merging.{AllAbove, TakesBelow, GivesFirst}
use Rattle.hprof_merge.specs.Showing.{all_shown, GoesAt, AllShow}
use Rattle.hprof_merge.specs.Stopping.{LeavesCursors, IsFaultAt, StopsLevel, StopsBecause, PassesEquals, MergesAll, StopsMerging, room_of}
use Rattle.hprof_merge.proofs.Lists.{ascending_first, first_row, no_row, Has-front}
use Rattle.hprof_merge.proofs.Merged.{AreLeft, least_contents, taken_more, Runs-append}
use Rattle.hprof_merge.proofs.Unions.{either_has, front_has, back_has}
use Rattle.hprof_merge.proofs.Joined.{joined, any_joined, joined_front, joined_back, nothing, nothing_has, one_row, one_row_has}
use Rattle.hprof_merge.proofs.Joined.{one_row_only}
use Rattle.hprof_merge.proofs.Showing.{shown_ascend, shown_same, shown_other, above_here, gone_then, none_gone, one_gone, less_room}

module _ (now : List (List ByteRow)) (heads : List (Option ℕ)) (key place : ℕ) (up : AllAscend now) (matches : Matches heads now)
    (least : IsLeastHead heads (Some (key, place))) where
  pub key_first : first_key (rows_at now place) ≡ Some key
  key_first = sym (matches place) ∙ least.1

  -- the least key of the contest is the least of all that are left
  pub least_row : (row : ByteRow) → AnyHas now row → key ≤ row.0
  least_row row has = each (rows_at now has.0) refl has.1
    where
      each : (rows : List ByteRow) → rows_at now has.0 ≡ rows → Has rows row → key ≤ row.0
      each [] is there = absurd there
      each (first ∷ rest) is there =
          let P : List ByteRow → Type 0 = λ l. IsAscending l in
          let low : key ≤ first.0 = least.2 has.0 first.0 (matches has.0 ∙ ap first_key is) in
          let more = ascending_first first rest (subst P is (up has.0)) row there in
          omega arith

module _ {C T : Type 0} (shown : C → Option ByteRow) (goes : C → C → Type 0) (steps : T → ℕ → List ℕ → T → Type 0) where
  -- the rows that came are below a bound, and were given to the sink; those that are shown are not below it
  pub record SoFar (old now : List C) (old_sink sink : T) : Type 0 where
    pub came : List (List ByteRow)
    pub bound : ℕ
    pub front : List ByteRow
    pub shows : AllShow shown goes old now came
    pub below : (row : ByteRow) → AnyHas came row → row.0 < bound
    pub above : (row : ByteRow) → AnyHas (all_shown shown now) row → bound ≤ row.0
    pub union : IsUnionBelow came bound front
    pub run : Runs steps old_sink front sink

  pub so_far_begins : (cursors : List C) (sink : T) → SoFar cursors cursors sink sink
  so_far_begins cursors sink = record {
    came = nothing (length cursors);
    bound = 0;
    front = [];
    shows = none_gone shown goes cursors;
    below = λ row has. absurd (nothing_has (length cursors) row has);
    above = λ row has. omega arith;
    union = record {
      ascends = tt;
      same = λ row. ((λ none. absurd none), (λ both. absurd (nothing_has (length cursors) row both.0)));
    };
    run = refl;
  }

  -- memory ran out before the first row
  pub no_memory : {F G : Type 0} → (fails : C → F → C → Type 0) (refuses : T → ℕ → List ℕ → G → T → Type 0) (cursors : List C) (sink : T)
      → StopsMerging shown goes steps fails refuses cursors cursors OutOfMemory sink sink
  no_memory fails refuses cursors sink = record {
    came = nothing (length cursors);
    mid = cursors;
    shows = none_gone shown goes cursors;
    leaves = refl;
    stops = ((λ row has. nothing_has (length cursors) row has), refl);
  }

  -- no row is shown
  pub so_far_ends : (old now : List C) (heads : List (Option ℕ)) (old_sink sink : T) → SoFar old now old_sink sink
      → Matches heads (all_shown shown now) → IsLeastHead heads None → MergesAll shown goes steps old now old_sink sink
  so_far_ends old now heads old_sink sink so matches none = record {
    came = so.came;
    shows = so.shows;
    ended = λ row has.
        let empty : rows_at (all_shown shown now) has.0 ≡ [] =
        no_row (rows_at (all_shown shown now) has.0) (sym (matches has.0) ∙ none has.0) in
        let P : List ByteRow → Type 0 = λ l. Has l row in
        subst P empty has.1;
    taken = record {
      all = so.front;
      union = record {
        ascends = so.union.ascends;
        same = λ row. ((λ has. ((so.union.same row).0 has).0), (λ has. (so.union.same row).1 (has, so.below row has)));
      };
      run = so.run;
    };
  }

  module _ {F G : Type 0} (fails : C → F → C → Type 0) (refuses : T → ℕ → List ℕ → G → T → Type 0) (old now : List C)
      (heads : List (Option ℕ)) (key held : ℕ) (old_sink sink : T) (so : SoFar old now old_sink sink)
      (matches : Matches heads (all_shown shown now))
      (is_least : IsLeastHead heads (Some (key, held))) where
    pub shown_key : first_key (rows_at (all_shown shown now) held) ≡ Some key
    shown_key = key_first (all_shown shown now) heads key held (shown_ascend shown now) matches is_least

    pub shown_least : (row : ByteRow) → AnyHas (all_shown shown now) row → key ≤ row.0
    shown_least = least_row (all_shown shown now) heads key held (shown_ascend shown now) matches is_least

    pub held_out : (next : List (Option ℕ)) → next ≡ set heads held None → MatchesBut held next (all_shown shown now)
    held_out next next_is = record {
      none = ap (λ (l : List (Option ℕ)). head_at l held) next_is ∙ get_or-set_same heads held None None is_least.0;
      others = λ other apart.
          ap (λ (l : List (Option ℕ)). head_at l other) next_is ∙ get_or-set_other heads held other None None apart ∙ matches other;
    }

    from_bound : so.bound ≤ key
    from_bound =
        let first = first_row (rows_at (all_shown shown now) held) key shown_key in
        so.above (key, first.0) (held, Has-front (rows_at (all_shown shown now) held) (key, first.0) first.1 first.2)

    module _ (mid : List C) (mid_heads : List (Option ℕ)) (passes : PassesEquals shown goes key held now mid mid_heads) where
      abbrev mid_came : List (List ByteRow)
      mid_came = joined so.came passes.came

      abbrev known : List (List ByteRow)
      known = mid_came ++ all_shown shown mid

      mid_shows : AllShow shown goes old mid mid_came
      mid_shows = gone_then shown goes old now mid so.came passes.came so.shows passes.shows

      -- a row that was passed over is shown by the cursor that is held
      still_shown : (row : ByteRow) → AnyHas passes.came row → AnyHas (all_shown shown mid) row
      still_shown row has =
          let P : List ByteRow → Type 0 = λ l. Has l row in (held, subst P (sym passes.kept) (passes.equal row has))

      mid_below : (row : ByteRow) → AnyHas mid_came row → (row.0 < key) ⊎ AnyHas (all_shown shown mid) row
      mid_below row has = elim (any_joined so.came passes.came row has) [
        | inl before ↦ let lt = so.below row before in let le = from_bound in inl (omega arith)
        | inr over ↦ inr (still_shown row over)
      ]

      known_left : AreLeft known (all_shown shown mid) key
      known_left = record {
        ascend = shown_ascend shown mid;
        same = λ row. (
          (λ has. (back_has mid_came (all_shown shown mid) row has, passes.least row has)),
          (λ both. elim (either_has mid_came (all_shown shown mid) row both.0.0 both.0.1) [
            | inl came ↦ elim (mid_below row came) [
              | inl lt ↦ let le = both.1 in absurd (omega arith)
              | inr there ↦ there
            ]
            | inr there ↦ there
          ]),
        );
      }

      known_union : IsUnionBelow known key so.front
      known_union = record {
        ascends = so.union.ascends;
        same = λ row. (
          (λ has.
              let both = (so.union.same row).0 has in
              let lt = both.1 in
              let le = from_bound in
              let came = joined_front so.came passes.came row both.0 in
              (front_has mid_came (all_shown shown mid) row came.0 came.1, omega arith)),
          (λ both. elim (either_has mid_came (all_shown shown mid) row both.0.0 both.0.1) [
            | inl came ↦ elim (any_joined so.came passes.came row came) [
              | inl before ↦ (so.union.same row).1 (before, so.below row before)
              | inr over ↦ let le = passes.least row (still_shown row over) in let lt = both.1 in absurd (omega arith)
            ]
            | inr there ↦ let le = passes.least row there in let lt = both.1 in absurd (omega arith)
          ]),
        );
      }

      known_taken : TakesBelow steps known key old_sink sink
      known_taken = record { front = so.front; union = known_union; run = so.run }

      pub over_stops : (new : List C) (stop : MergeFault F G) → LeavesCursors fails stop mid new → StopsLevel key (all_shown shown mid) stop
          → StopsMerging shown goes steps fails refuses old new stop old_sink sink
      over_stops new OutOfMemory leaves never = absurd never
      over_stops new (TwoContents other) leaves stops =
          let P : ℕ → Type 0 = λ k. StopsBecause steps {F = F} refuses mid_came (all_shown shown mid) (TwoContents k) old_sink sink in
          record {
            came = mid_came;
            mid = mid;
            shows = mid_shows;
            leaves = leaves;
            stops = subst P (sym stops.0) (
              passes.least,
              least_contents known (all_shown shown mid) key so.front known_left known_union stops.1,
              known_taken,
            );
          }
      over_stops new (Cursor at fault) leaves stops =
          record { came = mid_came; mid = mid; shows = mid_shows; leaves = leaves; stops = (key, passes.least, stops, inl known_taken) }
      over_stops new (Sink fault) leaves never = absurd never

      module _ (above : AllAbove key held (all_shown shown mid)) (rows : List ByteRow)
          (rows_are : rows_at (all_shown shown mid) held ≡ rows) where
        rows_first : first_key rows ≡ Some key
        rows_first = ap first_key (sym rows_are ∙ passes.kept) ∙ shown_key

        pub over_refused : (fault : G) (after : T) → GivesFirst steps refuses {A = Unit {0}} rows (Err fault) sink after
            → StopsMerging shown goes steps fails refuses old mid (Sink fault) old_sink after
        over_refused fault after given =
            let first = first_row rows key rows_first in
            let row : ByteRow = (key, first.0) in
            let P : List ByteRow → Type 0 = λ l. GivesFirst steps refuses {A = Unit {0}} l (Err fault) sink after in
            record {
              came = mid_came;
              mid = mid;
              shows = mid_shows;
              leaves = refl;
              stops = (
                row,
                passes.least,
                record {
                  front = so.front;
                  union = taken_more known (all_shown shown mid) held row first.1
                      (rows_are ∙ first.2) known_left above so.front known_union;
                  mid = sink;
                  run = so.run;
                  refused = subst P first.2 given;
                },
              );
            }

        module _ (after : T) (given : GivesFirst steps refuses {A = Unit {0}} rows (Ok tt) sink after) where
          given_step : (bytes : List ℕ) (rest : List ByteRow) → rows ≡ (key, bytes) ∷ rest → steps sink key bytes after
          given_step bytes rest is =
              let P : List ByteRow → Type 0 = λ l. GivesFirst steps refuses {A = Unit {0}} l (Ok tt) sink after in subst P is given

          pub over_fault : (new : List C) (stop : MergeFault F G) → IsFaultAt held stop → LeavesCursors fails stop mid new
              → StopsMerging shown goes steps fails refuses old new stop old_sink after
          over_fault new OutOfMemory never leaves = absurd never
          over_fault new (TwoContents other) never leaves = absurd never
          over_fault new (Cursor at fault) is leaves =
              let first = first_row rows key rows_first in
              let row : ByteRow = (key, first.0) in
              let P : ℕ → Type 0 = λ k. first_key (rows_at (all_shown shown mid) k) ≡ Some key in
              record {
                came = mid_came;
                mid = mid;
                shows = mid_shows;
                leaves = leaves;
                stops = (
                  key,
                  passes.least,
                  subst P (sym is) (ap first_key rows_are ∙ rows_first),
                  inr (record {
                    front = so.front ++ row ∷ [];
                    union = taken_more known (all_shown shown mid) held row first.1
                        (rows_are ∙ first.2) known_left above so.front known_union;
                    run = Runs-append steps old_sink so.front sink row after so.run (given_step first.0 first.1 first.2);
                  }),
                );
              }
          over_fault new (Sink fault) never leaves = absurd never

          module _ (rises : (one next : C) (row other : ByteRow) → goes one next → shown one ≡ Some row → shown next ≡ Some other
              → row.0 < other.0)
              (new : List C) (lt : held < length mid) (step : GoesAt goes held mid new) where
            pub over_goes : SoFar old new old_sink after
            over_goes =
                let first = first_row rows key rows_first in
                let row : ByteRow = (key, first.0) in
                let is : rows_at (all_shown shown mid) held ≡ row ∷ first.1 = rows_are ∙ first.2 in
                let one : List (List ByteRow) = one_row (length mid) held row in
                let more = taken_more known (all_shown shown mid) held row first.1 is known_left above so.front known_union in
                record {
                  came = joined mid_came one;
                  bound = key + 1;
                  front = so.front ++ row ∷ [];
                  shows = gone_then shown goes old mid new mid_came one mid_shows (one_gone shown goes mid new held row first.1 lt step is);
                  below = below row first.1 is;
                  above = λ other has. elim (cases_eq has.0 held) [
                    | inl e ↦
                        let P : ℕ → Type 0 = λ k. Has (rows_at (all_shown shown new) k) other in
                        let gt = above_here shown goes rises mid new held row first.1 lt step is other (subst P e has.1) in
                        omega arith
                    | inr away ↦
                        let P : List ByteRow → Type 0 = λ l. Has l other in
                        let gt = above has.0 away other (subst P (shown_other shown mid new held step.next step.is has.0 away) has.1) in
                        omega arith
                  ];
                  union = record {
                    ascends = more.ascends;
                    same = λ other. (
                      (λ has.
                          let both = (more.same other).0 has in
                          (came_below row first.1 is other both.0 both.1, both.1)),
                      (λ both. (more.same other).1 (
                        elim (any_joined mid_came one other both.0) [
                          | inl came ↦ front_has mid_came (all_shown shown mid) other came.0 came.1
                          | inr last ↦
                              let e : other ≡ row = one_row_only (length mid) held row lt other last in
                              let P : ByteRow → Type 0 = λ r. AnyHas known r in
                              subst P (sym e) (back_has mid_came (all_shown shown mid) row
                              (held, Has-front (rows_at (all_shown shown mid) held) row first.1 is))
                        ],
                        both.1,
                      )),
                    );
                  };
                  run = Runs-append steps old_sink so.front sink row after so.run (given_step first.0 first.1 first.2);
                }
              where
                -- a row that is shown and has the key is the one that was taken
                at_key : (row : ByteRow) (rest : List ByteRow) → rows_at (all_shown shown mid) held ≡ row ∷ rest → (other : ByteRow)
                    → AnyHas (all_shown shown mid) other → other.0 < key + 1 → other ≡ row
                at_key row rest is other has lt_next = elim (cases_eq has.0 held) [
                  | inl e ↦
                      let P : ℕ → Type 0 = λ k. Has (rows_at (all_shown shown mid) k) other in
                      shown_same shown mid held other row (subst P e has.1) (Has-front (rows_at (all_shown shown mid) held) row rest is)
                  | inr away ↦ let gt = above has.0 away other has.1 in absurd (omega arith)
                ]

                below : (row : ByteRow) (rest : List ByteRow) → rows_at (all_shown shown mid) held ≡ row ∷ rest → (other : ByteRow)
                    → AnyHas (joined mid_came (one_row (length mid) held row)) other → other.0 < key + 1
                below row rest is other has = elim (any_joined mid_came (one_row (length mid) held row) other has) [
                  | inl came ↦ elim (any_joined so.came passes.came other came) [
                    | inl before ↦ let less = so.below other before in let le = from_bound in omega arith
                    | inr over ↦ same_key other (passes.equal other over)
                  ]
                  | inr last ↦
                      let e : other ≡ row = one_row_only (length mid) held row lt other last in
                      let P : List ByteRow → Type 0 = λ l. Has l row in
                      let there : Has (rows_at (all_shown shown now) held) row =
                      subst P passes.kept (Has-front (rows_at (all_shown shown mid) held) row rest is) in
                      let Q : ByteRow → Type 0 = λ r. r.0 < key + 1 in
                      subst Q (sym e) (same_key row there)
                ]
                  where
                    same_key : (other : ByteRow) → Has (rows_at (all_shown shown now) held) other → other.0 < key + 1
                    same_key other there =
                        let first = first_row (rows_at (all_shown shown now) held) key shown_key in
                        let e : other ≡ (key, first.0) =
                        shown_same shown now held other (key, first.0) there
                        (Has-front (rows_at (all_shown shown now) held) (key, first.0) first.1 first.2) in
                        let f : other.0 ≡ key = ap (λ (r : ByteRow). r.0) e in
                        omega arith

                came_below : (row : ByteRow) (rest : List ByteRow) → rows_at (all_shown shown mid) held ≡ row ∷ rest → (other : ByteRow)
                    → AnyHas known other
                    → other.0 < key + 1 → AnyHas (joined mid_came (one_row (length mid) held row)) other
                came_below row rest is other has lt_next = elim (either_has mid_came (all_shown shown mid) other has.0 has.1) [
                  | inl came ↦ joined_front mid_came (one_row (length mid) held row) other came
                  | inr there ↦
                      let e : other ≡ row = at_key row rest is other there lt_next in
                      let P : ByteRow → Type 0 = λ r. AnyHas (joined mid_came (one_row (length mid) held row)) r in
                      subst P (sym e) (joined_back mid_came (one_row (length mid) held row) row (one_row_has (length mid) held row lt))
                ]

-- there is less room behind a round
module _ {C : Type 0} (shown : C → Option ByteRow) (goes : C → C → Type 0)
    (rises : (one next : C) (row other : ByteRow) → goes one next → shown one ≡ Some row → shown next ≡ Some other → row.0 < other.0) where
  pub round_less : (key held : ℕ) (now mid new : List C) (mid_heads : List (Option ℕ)) → PassesEquals shown goes key held now mid mid_heads
      → first_key (rows_at (all_shown shown now) held) ≡ Some key → held < length mid → key < 2 ^ 64 → GoesAt goes held mid new
      → sum_by room_of (all_shown shown mid) ≤ sum_by room_of (all_shown shown now)
      → sum_by room_of (all_shown shown new) < sum_by room_of (all_shown shown now)
  round_less key held now mid new mid_heads passes head lt fits step fewer =
      let first = first_row (rows_at (all_shown shown mid) held) key (ap first_key passes.kept ∙ head) in
      let less = less_room shown goes rises mid new held (key, first.0) first.1 lt fits step first.2 in
      omega arith

-- the contest behind a round
pub round_keys : {C : Type 0} (shown : C → Option ByteRow) (goes : C → C → Type 0) (held : ℕ) (mid new : List C)
    (mid_heads heads : List (Option ℕ))
    → MatchesBut held mid_heads (all_shown shown mid) → held < length mid_heads → GoesAt goes held mid new
    → heads ≡ set mid_heads held (first_key (rows_at (all_shown shown new) held)) → Matches heads (all_shown shown new)
round_keys shown goes held mid new mid_heads heads matches lt step heads_are at =
    ap (λ (h : List (Option ℕ)). head_at h at) heads_are ∙ elim (cases_eq at held) [
      | inl e ↦
          let P : ℕ → Type 0 =
          λ k. head_at (set mid_heads held (first_key (rows_at (all_shown shown new) held))) k
          ≡ first_key (rows_at (all_shown shown new) k) in
          subst P (sym e) (get_or-set_same mid_heads held (first_key (rows_at (all_shown shown new) held)) None lt)
      | inr apart ↦
          get_or-set_other mid_heads held at (first_key (rows_at (all_shown shown new) held)) None apart ∙ matches.others at apart
          ∙ ap first_key (sym (shown_other shown mid new held step.next step.is at apart))
    ]
