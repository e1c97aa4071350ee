-- The part of a stretch, by its place among the stretches.
use Rattle.std.proofs.Common.{
  ◌≡◌,
  ◌<◌,
  ◌≤◌,
  ℕ,
  zero,
  suc,
  true,
  false,
  nat_lt,
  List,
  [],
  ◌∷◌,
  length,
  slice_index_or,
  refl,
  sym,
  ap,
  ◌∙◌,
  arith,
}
use Rattle.std.proofs.lemmas.Bool.{ltb-false, ltb-true}
use Rattle.hprof_objects.specs.declared.stretch.Stretch.{Stretch}
use Rattle.hprof_objects.specs.ObjectCursors.{part_of}

part_at : (list : List Stretch) (index : ℕ) (d : Stretch) → index < length list → (slice_index_or list index d).part ≡ part_of list index
part_at [] index d lt = absurd (omega (arith, lt))
part_at (stretch ∷ list) zero d lt = refl
part_at (stretch ∷ list) (suc index) d lt = part_at list index d (omega (arith, lt))

part_past : (list : List Stretch) (index : ℕ) → length list ≤ index → 0 ≡ part_of list index
part_past [] index le = refl
part_past (stretch ∷ list) zero le = absurd (omega (arith, le))
part_past (stretch ∷ list) (suc index) le = part_past list index (omega (arith, le))

pub part_found : (list slice : List Stretch) (index : ℕ) (stretch : Stretch) → slice ≡ list → true ≡ nat_lt index (length slice)
    → stretch ≡ slice_index_or slice index stretch → stretch.part ≡ part_of list index
part_found list slice index stretch same lt is =
    let inside : index < length slice = ltb-true index (length slice) (sym lt) in
    ap (λ (s : Stretch). s.part) is
    ∙ (part_at slice index stretch inside ∙ ap (λ (l : List Stretch). part_of l index) same)

pub part_missed : (list slice : List Stretch) (index : ℕ) → slice ≡ list → false ≡ nat_lt index (length slice) → 0 ≡ part_of list index
part_missed list slice index same ge =
    let past : length slice ≤ index = ltb-false index (length slice) (sym ge) in
    part_past slice index past ∙ ap (λ (l : List Stretch). part_of l index) same
