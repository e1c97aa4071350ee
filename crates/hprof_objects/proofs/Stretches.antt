-- Stretches, as facts and bytes of their part come.
use Rattle.std.proofs.Common.{◌≡◌, ◌<◌, ◌+◌, ℕ, List, [], ◌∷◌, ◌++◌, Option, Some, refl, sym, ap, subst, ◌∙◌}
use Rattle.std.proofs.Common.{append_assoc, append-nil, length-append, arith, ◌≤◌, inl, inr}
use Rattle.hprof_items.specs.FactValue.{FactValue}
use Rattle.hprof_stream.specs.declared.limits.Limits.{Limits}
use Rattle.hprof_stream.specs.declared.part_place.PartPlace.{PartPlace}
use Rattle.hprof_merge.specs.Rows.{ByteRow, Has, IsAscending}
use Rattle.hprof_merge.specs.Showing.{only}
use Rattle.hprof_merge.proofs.Lists.{append-ascending, append-last}
use Rattle.hprof_objects.specs.declared.growing.Piece.{Piece}
use Rattle.hprof_objects.specs.declared.stretch.Stretch.{Stretch}
use Rattle.hprof_objects.specs.ObjectRows.{object_row, object_rows}
use Rattle.hprof_objects.specs.PartsRead.{PartRead, with_bytes, with_fact}
use Rattle.hprof_objects.specs.Growing.{longer}
use Rattle.hprof_objects.specs.Stretches.{EndsAt, IsPiece, IsPlaceIn, StandsIn}
use Rattle.hprof_objects.proofs.Rows.{object_rows-append}

-- the last of ascending rows is the highest
pub at_most_last : (before : List ByteRow) (last : ByteRow) → IsAscending (before ++ last ∷ []) → (row : ByteRow)
    → Has (before ++ last ∷ []) row
    → row.0 ≤ last.0
at_most_last [] last up row (inl is) = subst (λ (r : ByteRow). r.0 ≤ last.0) (sym is) (omega arith)
at_most_last [] last up row (inr never) = absurd never
at_most_last (first ∷ before) last up row (inl is) =
    let lt = up.0 last (append-last before last) in
    subst (λ (r : ByteRow). r.0 ≤ last.0) (sym is) (omega (arith, lt))
at_most_last (first ∷ before) last up row (inr h) = at_most_last before last up.1 row h

-- all rows are below a key that is above the last
pub all_below : (last : ℕ) (rows : List ByteRow) (key : ℕ) → IsAscending rows → EndsAt rows last → last < key
    → (row : ByteRow) → Has rows row → row.0 < key
all_below last rows key up ends lt row h =
    let le = at_most_last ends.0 (last, ends.1) (subst IsAscending ends.2 up) row (subst (λ (l : List ByteRow). Has l row) ends.2 h) in
    omega (arith, le, lt)

module _ (limits : Limits) (part : PartRead) where
  -- a place stays one as facts come
  pub place_with_fact : (fact : FactValue) (place : PartPlace) (since : List FactValue) → IsPlaceIn limits part place since
      → IsPlaceIn limits (with_fact part fact) place (since ++ fact ∷ [])
  place_with_fact fact place since inside = record {
    front = inside.front;
    back = inside.back;
    told = inside.told;
    cuts_bytes = inside.cuts_bytes;
    cuts_facts = ap (λ (facts : List FactValue). facts ++ fact ∷ []) inside.cuts_facts ∙ append_assoc inside.told since (fact ∷ []);
    behind = inside.behind;
  }

  -- and as bytes come
  pub place_with_bytes : (more : List ℕ) (place : PartPlace) (since : List FactValue) → IsPlaceIn limits part place since
      → IsPlaceIn limits (with_bytes part more) place since
  place_with_bytes more place since inside = record {
    front = inside.front;
    back = inside.back ++ more;
    told = inside.told;
    cuts_bytes = ap (λ (bytes : List ℕ). bytes ++ more) inside.cuts_bytes ∙ append_assoc inside.front inside.back more;
    cuts_facts = inside.cuts_facts;
    behind = inside.behind;
  }

  -- the objects of a stretch stay its objects
  pub stands_with_fact : (fact : FactValue) (stretch : Stretch) (rows more : List ByteRow) → StandsIn limits part stretch rows more
      → StandsIn limits (with_fact part fact) stretch rows (more ++ only (object_row part.ids fact))
  stands_with_fact fact stretch rows more stands = record {
    before = stands.before;
    after = stands.after ++ fact ∷ [];
    place = subst (λ (since : List FactValue). IsPlaceIn limits (with_fact part fact) stretch.place since)
        (append_assoc stands.before stands.after (fact ∷ []))
        (place_with_fact fact stretch.place (stands.before ++ stands.after) stands.place);
    passed = stands.passed;
    are = object_rows-append part.ids stands.after (fact ∷ [])
        ∙ (ap (λ (rest : List ByteRow). object_rows part.ids stands.after ++ rest) (append-nil (only (object_row part.ids fact)))
        ∙ (ap (λ (front : List ByteRow). front ++ only (object_row part.ids fact)) stands.are
        ∙ append_assoc rows more (only (object_row part.ids fact))));
    count = stands.count;
    ascend = stands.ascend;
  }

  pub stands_with_bytes : (extra : List ℕ) (stretch : Stretch) (rows more : List ByteRow) → StandsIn limits part stretch rows more
      → StandsIn limits (with_bytes part extra) stretch rows more
  stands_with_bytes extra stretch rows more stands = record {
    before = stands.before;
    after = stands.after;
    place = place_with_bytes extra stretch.place (stands.before ++ stands.after) stands.place;
    passed = stands.passed;
    are = stands.are;
    count = stands.count;
    ascend = stands.ascend;
  }

  -- the next object above the last belongs to a growing stretch
  pub stands_longer : (stretch : Stretch) (rows : List ByteRow) (row : ByteRow) → StandsIn limits part stretch rows (row ∷ [])
      → ((other : ByteRow) → Has rows other → other.0 < row.0) → StandsIn limits part (longer stretch) (rows ++ row ∷ []) []
  stands_longer stretch rows row stands above = record {
    before = stands.before;
    after = stands.after;
    place = stands.place;
    passed = stands.passed;
    are = stands.are ∙ sym (append-nil (rows ++ row ∷ []));
    count = ap (λ (n : ℕ). n + 1) stands.count ∙ sym (length-append rows (row ∷ []));
    ascend = append-ascending rows row stands.ascend above;
  }

  -- an object alone, behind what came of a piece
  pub stands_alone : (fact : FactValue) (row : ByteRow) (number : ℕ) (piece : Piece) → IsPiece limits part piece
      → object_row part.ids fact ≡ Some row
      → StandsIn limits (with_fact part fact) (record {
        part = number;
        place = piece.place;
        passed = piece.passed;
        count =
            1;
      }) (row ∷ []) []
  stands_alone fact row number piece is object = record {
    before = is.since;
    after = fact ∷ [];
    place = place_with_fact fact piece.place is.since is.place;
    passed = is.passed;
    are = ap (λ (shown : Option ByteRow). only shown ++ []) object;
    count = refl;
    ascend = ((λ other never. absurd never), tt);
  }
