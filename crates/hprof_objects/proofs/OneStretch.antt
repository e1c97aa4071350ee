-- Objects that are stored as one stretch.
use Rattle.std.proofs.Common.{◌≡◌, ◌≤◌, ◌++◌, ℕ, zero, suc, List, [], ◌∷◌, length, Option, Some, None, refl, sym, ap, subst}
use Rattle.std.proofs.Common.{◌∙◌, append-nil, arith}
use Rattle.std.specs.Prelude.{slice_get}
use Rattle.hprof_devices.specs.declared.health.Health.{Health}
use Rattle.hprof_stream.specs.declared.limits.Limits.{Limits}
use Rattle.hprof_merge.specs.Rows.{ByteRow, Has}
use Rattle.hprof_merge.specs.TwoContents.{HasTwoContents}
use Rattle.hprof_merge.specs.Union.{IsUnion, rows_at}
use Rattle.hprof_merge.proofs.Unions.{enough_union, union_apart, union_unique}
use Rattle.hprof_runs.specs.RowsIn.{sorted_in}
use Rattle.hprof_runs.proofs.Added.{runs_count}
use Rattle.hprof_objects.specs.declared.stored_objects.StoredObjects.{StoredObjects}
use Rattle.hprof_objects.specs.declared.stretch.Stretch.{Stretch}
use Rattle.hprof_objects.specs.Cuts.{all_rows}
use Rattle.hprof_objects.specs.PartsRead.{PartRead}
use Rattle.hprof_objects.specs.StoredObjects.{HoldsObjects, IsOneStretch, objects_of}
use Rattle.hprof_objects.specs.Stretches.{AreStretches}

-- the number of objects of the first stretch, if there is one
abbrev pub first_count : List Stretch → ℕ
first_count [] = 0
first_count (stretch ∷ stretches) = stretch.count

pub first_counted : (list slice : List Stretch) (stretch : Stretch) → slice ≡ list → Some stretch ≡ slice_get slice 0
    → stretch.count ≡ first_count list
first_counted list [] stretch same is = absurd cc
first_counted list (first ∷ others) stretch same is =
    let one : stretch ≡ first = cc in ap (λ (s : Stretch). s.count) one ∙ ap first_count same

pub none_counted : (list slice : List Stretch) → slice ≡ list → None ≡ slice_get slice 0 → 0 ≡ first_count list
none_counted list [] same is = ap first_count same
none_counted list (first ∷ others) same is = absurd cc

-- ---- the rows of one stretch

in_it : (rows : List ByteRow) (row : ByteRow) (place : ℕ) → Has (rows_at ([] ∷ rows ∷ []) place) row → Has rows row
in_it rows row zero has = absurd has
in_it rows row (suc zero) has = has
in_it rows row (suc (suc place)) has = absurd has

in_none : (row : ByteRow) (place : ℕ) → Has (rows_at ([] ∷ []) place) row → Has [] row
in_none row zero has = has
in_none row (suc place) has = has

no_list : (lists : List (List ByteRow)) → length lists ≡ 0 → lists ≡ []
no_list [] none = refl
no_list (rows ∷ lists) none = absurd (omega (arith, none))

-- they are those of all lists
one_union : (limits : Limits) (reads : List PartRead) (list : List Stretch) (lists : List (List ByteRow))
    → AreStretches limits reads list lists → length list ≤ 1
    → IsUnion ([] ∷ lists) (all_rows lists) × (first_count list ≡ length (all_rows lists))
one_union limits reads [] [] are few =
    (record { ascends = tt; same = λ row. ((λ has. absurd has), (λ any. in_none row any.0 any.1)) }, refl)
one_union limits reads [] (rows ∷ lists) are few = absurd are
one_union limits reads (one ∷ list) [] are few = absurd are
one_union limits reads (one ∷ []) (rows ∷ []) are few =
    subst (λ (l : List ByteRow). IsUnion ([] ∷ rows ∷ []) l × (one.count ≡ length l)) (sym (append-nil rows)) (
      record { ascends = are.0.stands.ascend; same = λ row. ((λ has. (1, has)), (λ any. in_it rows row any.0 any.1)) },
      are.0.stands.count,
    )
one_union limits reads (one ∷ []) (rows ∷ other ∷ lists) are few = absurd are.1
one_union limits reads (one ∷ other ∷ list) lists are few = absurd (omega (arith, few))

-- ---- the objects of the parts

module _ {S : Type 0} (written : S → Option (List ℕ)) (health : S → Health) (limits : Limits) (reads : List PartRead)
    (objects : StoredObjects S) (is : IsOneStretch objects) (holds : HoldsObjects written health limits reads objects) where
  counted_union : IsUnion (objects_of reads) (all_rows holds.lists) × (first_count objects.stretches.items ≡ length (all_rows holds.lists))
  counted_union =
      let runs : holds.runs ≡ [] =
      no_list holds.runs (sym (runs_count holds.are_runs.all objects.runs.runs.items holds.runs holds.are_runs.each) ∙ is.no_runs) in
      let lists : sorted_in objects.rows ∷ (holds.runs ++ holds.lists) ≡ [] ∷ holds.lists =
      ap (λ (l : List ByteRow). l ∷ (holds.runs ++ holds.lists)) is.no_rows
      ∙ ap (λ (l : List (List ByteRow)). [] ∷ (l ++ holds.lists)) runs in
      let it = one_union limits reads objects.stretches.items holds.lists holds.are_stretches is.one in (
        (enough_union (objects_of reads) (sorted_in objects.rows ∷ (holds.runs ++ holds.lists)) holds.enough (all_rows holds.lists)).1
            (subst (λ (l : List (List ByteRow)). IsUnion l (all_rows holds.lists)) (sym lists) it.0),
        it.1,
      )

  -- the rows of the stretch
  pub rows_union : IsUnion (objects_of reads) (all_rows holds.lists)
  rows_union = counted_union.0

  pub stretch_union : (rows : List ByteRow) × IsUnion (objects_of reads) rows
  stretch_union = (all_rows holds.lists, rows_union)

  pub stretch_count : (rows : List ByteRow) → IsUnion (objects_of reads) rows → first_count objects.stretches.items ≡ length rows
  stretch_count rows union =
      counted_union.1 ∙ ap length (union_unique (objects_of reads) (all_rows holds.lists) rows rows_union union)

  -- no identifier has two contents
  pub one_stretch_apart : (key : ℕ) → HasTwoContents (objects_of reads) key → ⊥
  one_stretch_apart key two = union_apart (objects_of reads) (all_rows holds.lists) key rows_union two
