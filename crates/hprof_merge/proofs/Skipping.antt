-- Late rows that are skipped one by one, and what comes of it.
use Rattle.std.proofs.Common.{◌≡◌, ◌<◌, ◌≤◌, ◌+◌, ◌++◌, ℕ, List, [], ◌∷◌, Bool, Option, Some, None, refl, sym, ap, subst, ◌∙◌, inl, inr}
use Rattle.std.proofs.Common.{cond}
use Rattle.std.proofs.Common.{arith, length}
use Rattle.std.proofs.lemmas.Bool.{cases_lt, lt-ltb, le-ltb}
use Rattle.std.proofs.lemmas.List.{length-append}
use Rattle.hprof_merge.specs.Rows.{ByteRow, Has}
use Rattle.hprof_merge.specs.Late.{in_order_above, rows_in_order}
use Rattle.hprof_merge.specs.Showing.{Shows}
use Rattle.hprof_merge.specs.Skipping.{ShowsLate, IsSkippedTo, IsStillLate, FailsBehind}
use Rattle.hprof_merge.specs.declared.skip_late.SkipLate.{SkipLate}
use Rattle.hprof_merge.specs.SkipLate.{shown_skipping, GoesSkipping}
use Rattle.hprof_merge.specs.declared.refuse_late.RefuseLate.{RefuseLate}
use Rattle.hprof_merge.specs.RefuseLate.{shown_refusing, GoesUp}
use Rattle.hprof_merge.proofs.Lists.{Has-append}
use Rattle.hprof_merge.proofs.Showing.{shows_then}

module _ {C : Type 0} (shown : C → Option ByteRow) (goes : C → C → Type 0) where
  -- so many rows whose keys are not above this one were skipped
  pub record Skipped (key count : ℕ) (old new : C) : Type 0 where
    pub out : List ByteRow
    pub shows : Shows shown goes old out new
    pub low : (row : ByteRow) → Has out row → row.0 ≤ key
    pub counted : length out ≡ count

  pub none_skipped : (key : ℕ) (old : C) → Skipped key 0 old old
  none_skipped key old = record { out = []; shows = refl; low = λ row has. absurd has; counted = refl }

  pub one_skipped : (key count : ℕ) (old mid new : C) → Skipped key count old mid → ShowsLate shown key mid → goes mid new
      → Skipped key (count + 1) old new
  one_skipped key count old mid new so late went =
      let row : ByteRow = late.0 in
      record {
        out = so.out ++ row ∷ [];
        shows = shows_then shown goes old so.out (row ∷ []) mid new so.shows (late.1, (new, went, refl));
        low = λ other has. elim (Has-append so.out row other has) [
          | inl there ↦ so.low other there
          | inr e ↦ let P : ByteRow → Type 0 = λ r. r.0 ≤ key in subst P (sym e) late.2
        ];
        counted = let sum = length-append so.out (row ∷ []) in let is = so.counted in omega arith;
      }

  pub skipped_to : (key count limit : ℕ) (old new : C) → Skipped key count old new → count ≤ limit → (ShowsLate shown key new → ⊥)
      → IsSkippedTo shown goes key limit old new
  skipped_to key count limit old new so le none = record {
    out = so.out;
    shows = so.shows;
    low = so.low;
    few = let is = so.counted in omega arith;
    high = λ next is. elim (cases_lt key next.0) [
      | inl high ↦ high
      | inr low ↦ absurd (none (next, is, low))
    ];
  }

  pub still_late : (key count limit : ℕ) (old new : C) → Skipped key count old new → count ≤ limit → limit ≤ count → ShowsLate shown key new
      → IsStillLate shown goes key limit old new
  still_late key count limit old new so le ge late = record {
    out = so.out;
    shows = so.shows;
    low = so.low;
    all = let is = so.counted in omega arith;
    late = late;
  }

  pub fails_behind : {F : Type 0} → (fails : C → F → C → Type 0) (key count limit : ℕ) (old mid : C) (fault : F) (new : C)
      → Skipped key count old mid → count < limit → ShowsLate shown key mid → fails mid fault new
      → FailsBehind shown goes fails key limit old fault new
  fails_behind fails key count limit old mid fault new so lt late failed = record {
    out = so.out;
    mid = mid;
    shows = so.shows;
    low = so.low;
    few = let is = so.counted in omega arith;
    late = late;
    failed = failed;
  }

  -- ---- all that is shown once late rows are skipped

  -- rows that are not above the key are late
  late_behind : (key : ℕ) (out rest : List ByteRow) → ((row : ByteRow) → Has out row → row.0 ≤ key) → in_order_above key (out ++ rest)
      ≡ in_order_above key rest
  late_behind key [] rest low = refl
  late_behind key (row ∷ out) rest low =
      ap (λ (t : Bool). cond t (row ∷ in_order_above row.0 (out ++ rest)) (in_order_above key (out ++ rest)))
      (le-ltb key row.0 (low row (inl refl)))
      ∙ late_behind key out rest (λ other has. low other (inr has))

  -- if the first of them is above the key, it is in order
  first_in_order : (key : ℕ) (row : ByteRow) (rest : List ByteRow) → key < row.0 → in_order_above key (row ∷ rest)
      ≡ rows_in_order (row ∷ rest)
  first_in_order key row rest lt =
      ap (λ (t : Bool). cond t (row ∷ in_order_above row.0 rest) (in_order_above key rest)) (lt-ltb key row.0 lt)

  abbrev InOrderOf : SkipLate C → List ByteRow → SkipLate C → Type 0
  InOrderOf old came new = (all : List ByteRow) × Shows shown goes old.cursor all new.cursor × (came ≡ rows_in_order all)

  pub all_in_order : (old new : SkipLate C) (came : List ByteRow) → Shows (shown_skipping shown) (GoesSkipping shown goes) old came new
      → shown_skipping shown new ≡ None → InOrderOf old came new
  all_in_order old new [] same end = ([], ap (λ (s : SkipLate C). s.cursor) same, refl)
  all_in_order old new (row ∷ came) shows end =
      let after : SkipLate C = shows.1.0 in
      let next = shows.1.1.next row shows.0 in
      let rest = all_in_order after new came shows.1.2 end in (
        row ∷ (next.skipped.out ++ rest.0),
        (
          shows.0,
          (
            next.mid,
            next.went,
            shows_then shown goes next.mid next.skipped.out rest.0 after.cursor new.cursor next.skipped.shows
                rest.1,
          ),
        ),
        ap (λ (l : List ByteRow). row ∷ l)
            (rest.2 ∙ sym (late_behind row.0 next.skipped.out rest.0 next.skipped.low
            ∙ behind row after.cursor rest.0 rest.1 next.skipped.high)),
      )
    where
      behind : (row : ByteRow) (after : C) (rest : List ByteRow) → Shows shown goes after rest new.cursor
          → ((next : ByteRow) → shown after ≡ Some next → row.0 < next.0) → in_order_above row.0 rest ≡ rows_in_order rest
      behind row after [] shows high = refl
      behind row after (first ∷ rest) shows high = first_in_order row.0 first rest (high first shows.0)

  -- ---- all that is shown where no row may be late

  pub all_below : (old new : RefuseLate C) (came : List ByteRow) → Shows (shown_refusing shown) (GoesUp shown goes) old came new
      → Shows shown goes old.cursor came new.cursor
  all_below old new [] same = ap (λ (s : RefuseLate C). s.cursor) same
  all_below old new (row ∷ came) shows =
      let after : RefuseLate C = shows.1.0 in
      (shows.0, (after.cursor, shows.1.1.went, all_below after new came shows.1.2))
