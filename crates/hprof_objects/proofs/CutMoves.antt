-- Cuts, as facts and bytes of the last part come, and as a stretch grows.
use Rattle.std.proofs.Common.{◌≡◌, ◌<◌, ℕ, List, [], ◌∷◌, ◌++◌, length, Option, Some, None, slice_get}
use Rattle.std.proofs.Common.{refl, sym, subst, ap, ◌∙◌, append_assoc, append-nil, length-append, arith}
use Rattle.std.proofs.lemmas.List.Concat.{flat_map-append}
use Rattle.hprof_items.specs.FactValue.{FactValue}
use Rattle.hprof_stream.specs.declared.limits.Limits.{Limits}
use Rattle.hprof_merge.specs.Rows.{ByteRow}
use Rattle.hprof_merge.specs.Showing.{only}
use Rattle.hprof_objects.specs.declared.cut.Cut.{Cut}
use Rattle.hprof_objects.specs.declared.growing.Growing.{Growing}
use Rattle.hprof_objects.specs.declared.growing.Piece.{Piece}
use Rattle.hprof_objects.specs.declared.growing.Stands.{Stands}
use Rattle.hprof_objects.specs.declared.growing.Stands.TheVariants.{InMemory, InPart}
use Rattle.hprof_objects.specs.declared.open_cut.OpenCut.{OpenCut}
use Rattle.hprof_objects.specs.declared.stretch.Stretch.{Stretch}
use Rattle.hprof_objects.specs.Cuts.{AreCut, AreCuts, AreCutStanding, CutInto, IsCutOf, IsCutSoFar}
use Rattle.hprof_objects.specs.Cuts.{all_rows, cut_behind, cut_of, cut_staying, stretch_of, whole_cut}
use Rattle.hprof_objects.specs.Growing.{extended, grown_in_part}
use Rattle.hprof_objects.specs.ObjectRows.{object_row}
use Rattle.hprof_objects.specs.PartsRead.{PartRead, with_bytes, with_fact}
use Rattle.hprof_objects.specs.Stretches.{IsGrowingStretch, IsPiece, IsStretch, StandsIn}
use Rattle.hprof_objects.proofs.Stretches.{all_below, stands_alone, stands_longer, stands_with_bytes, stands_with_fact}
use Rattle.hprof_objects.proofs.StretchesMoved.{at_end, stretch_with_bytes, stretch_with_fact}

module _ (limits : Limits) where
  -- ---- closed cuts

  -- the stretches of cuts are those of other parts too
  cuts_moved : (old new : List PartRead) → ((stretch : Stretch) (rows : List ByteRow) → IsStretch limits old stretch rows
      → IsStretch limits new stretch rows) → (cuts : List Cut) (lists : List (List ByteRow)) → AreCuts limits old cuts lists
      → AreCuts limits new cuts lists
  cuts_moved old new moves [] [] are = tt
  cuts_moved old new moves [] (rows ∷ lists) are = absurd are
  cuts_moved old new moves (cut ∷ cuts) [] are = absurd are
  cuts_moved old new moves (cut ∷ cuts) (rows ∷ lists) are = (
    record { is = moves cut.stretch rows are.0.is; first = are.0.first; last = are.0.last },
    cuts_moved old new moves cuts lists are.1,
  )

  pub into_moved : (old new : List PartRead) → ((stretch : Stretch) (rows : List ByteRow) → IsStretch limits old stretch rows
      → IsStretch limits new stretch rows) → (cuts : List Cut) (rows : List ByteRow) → CutInto limits old cuts rows
      → CutInto limits new cuts rows
  into_moved old new moves cuts rows it =
      record { lists = it.lists; are = cuts_moved old new moves cuts it.lists it.are; whole = it.whole }

  -- one cut more
  cuts_with : (parts : List PartRead) (cuts : List Cut) (lists : List (List ByteRow)) (last : Cut) (rows : List ByteRow)
      → AreCuts limits parts cuts lists → IsCutOf limits parts last rows
      → AreCuts limits parts (cuts ++ last ∷ []) (lists ++ rows ∷ [])
  cuts_with parts [] [] last rows are it = (it, tt)
  cuts_with parts [] (first ∷ lists) last rows are it = absurd are
  cuts_with parts (cut ∷ cuts) [] last rows are it = absurd are
  cuts_with parts (cut ∷ cuts) (first ∷ lists) last rows are it = (are.0, cuts_with parts cuts lists last rows are.1 it)

  into_with : (parts : List PartRead) (cuts : List Cut) (rows more : List ByteRow) (last : Cut) → CutInto limits parts cuts rows
      → IsCutOf limits parts last more → CutInto limits parts (cuts ++ last ∷ []) (rows ++ more)
  into_with parts cuts rows more last it one = record {
    lists = it.lists ++ more ∷ [];
    are = cuts_with parts cuts it.lists last more it.are one;
    whole = flat_map-append (λ (l : List ByteRow). l) it.lists (more ∷ [])
        ∙ (ap (λ (l : List ByteRow). l ++ (more ++ [])) it.whole ∙ ap (λ (l : List ByteRow). rows ++ l) (append-nil more));
  }

-- the rows of lists and of one more
pub all_rows-with : (lists : List (List ByteRow)) (last : List ByteRow) → all_rows (lists ++ last ∷ []) ≡ all_rows lists ++ last
all_rows-with lists last =
    flat_map-append (λ (l : List ByteRow). l) lists (last ∷ []) ∙ ap (λ (l : List ByteRow). all_rows lists ++ l) (append-nil last)

module _ (limits : Limits) (parts : List PartRead) (part : PartRead) where
  -- ---- the part changes

  module _ (next : PartRead) (moves : (stretch : Stretch) (rows : List ByteRow) → IsStretch limits (parts ++ part ∷ []) stretch rows
      → IsStretch limits (parts ++ next ∷ []) stretch rows)
      (stays : (stretch : Stretch) (rows : List ByteRow) → StandsIn limits part stretch rows [] → StandsIn limits next stretch rows [])
      (cuts : List Cut) (rows : List ByteRow) where
    standing_moved : (stands : Stands) (cut : Option OpenCut) (growing : Growing) (grown : List ByteRow)
        → AreCutStanding limits (parts ++ part ∷ []) part cuts rows stands cut growing grown
        → AreCutStanding limits (parts ++ next ∷ []) next cuts rows stands cut growing grown
    standing_moved (InMemory from) cut growing grown it = into_moved limits (parts ++ part ∷ []) (parts ++ next ∷ []) moves cuts rows it
    standing_moved InPart None growing grown it = absurd it
    standing_moved InPart (Some cut) growing grown it = record {
      front = it.front;
      back = it.back;
      whole = it.whole;
      others = into_moved limits (parts ++ part ∷ []) (parts ++ next ∷ []) moves cuts (rows ++ it.front) it.others;
      before = it.before;
      stands = stays (stretch_of cut growing) it.back it.stands;
      first = it.first;
      last = it.last;
    }

    moved : (cut : Option OpenCut) (growing : Option Growing) (grown : List ByteRow)
        → AreCut limits (parts ++ part ∷ []) part cuts rows cut growing grown
        → AreCut limits (parts ++ next ∷ []) next cuts rows cut growing grown
    moved cut None grown it = into_moved limits (parts ++ part ∷ []) (parts ++ next ∷ []) moves cuts rows it
    moved cut (Some growing) grown it = standing_moved growing.stands cut growing grown it

  -- a fact comes that is no object
  pub cut_with_other : (fact : FactValue) (cuts : List Cut) (rows : List ByteRow) (cut : Option OpenCut) (growing : Option Growing)
      (grown : List ByteRow) → object_row part.ids fact ≡ None → AreCut limits (parts ++ part ∷ []) part cuts rows cut growing grown
      → AreCut limits (parts ++ with_fact part fact ∷ []) (with_fact part fact) cuts rows cut growing grown
  cut_with_other fact cuts rows cut growing grown none it =
      moved (with_fact part fact) (stretch_with_fact limits parts part fact)
      (λ stretch its stands. subst (λ (more : List ByteRow). StandsIn limits (with_fact part fact) stretch its more) (ap only none)
      (stands_with_fact limits part fact stretch its [] stands)) cuts rows cut growing grown it

  -- bytes come
  pub cut_with_bytes : (extra : List ℕ) (cuts : List Cut) (rows : List ByteRow) (cut : Option OpenCut) (growing : Option Growing)
      (grown : List ByteRow) → AreCut limits (parts ++ part ∷ []) part cuts rows cut growing grown
      → AreCut limits (parts ++ with_bytes part extra ∷ []) (with_bytes part extra) cuts rows cut growing grown
  cut_with_bytes extra cuts rows cut growing grown it =
      moved (with_bytes part extra) (stretch_with_bytes limits parts part extra)
      (λ stretch its stands. stands_with_bytes limits part extra stretch its [] stands) cuts rows cut growing grown it

  -- any fact, and no stretch grows
  pub into_with_fact : (fact : FactValue) (cuts : List Cut) (rows : List ByteRow) → CutInto limits (parts ++ part ∷ []) cuts rows
      → CutInto limits (parts ++ with_fact part fact ∷ []) cuts rows
  into_with_fact fact cuts rows it =
      into_moved limits (parts ++ part ∷ []) (parts ++ with_fact part fact ∷ []) (stretch_with_fact limits parts part fact) cuts rows it

  -- ---- a stretch that stays in its part

  module _ (number : ℕ) (cuts : List Cut) (rows : List ByteRow) (growing : Growing) (memory grown : List ByteRow)
      (numbered : number ≡ length parts) (grows : IsGrowingStretch limits number part growing memory grown) where
    -- it is one cut at first
    pub cut_first : CutInto limits (parts ++ part ∷ []) cuts rows
        → IsCutSoFar limits (parts ++ part ∷ []) part cuts rows (whole_cut growing) (grown_in_part growing) grown
    cut_first it = record {
      front = [];
      back = grown;
      whole = refl;
      others = subst (λ (l : List ByteRow). CutInto limits (parts ++ part ∷ []) cuts l) (sym (append-nil rows)) it;
      before = refl;
      stands = record {
        before = grows.stands.before;
        after = grows.stands.after;
        place = grows.stands.place;
        passed = grows.stands.passed;
        are = grows.stands.are;
        count = omega (arith, grows.stands.count);
        ascend = grows.stands.ascend;
      };
      first = grows.first;
      last = grows.last;
    }

    module _ (cut : OpenCut) (it : IsCutSoFar limits (parts ++ part ∷ []) part cuts rows cut growing grown) where
      -- the last cut, as far as the stretch came
      is_cut : IsCutOf limits (parts ++ part ∷ []) (cut_of cut growing) it.back
      is_cut = record {
        is = record {
          part = part;
          is = subst (λ (n : ℕ). slice_get (parts ++ part ∷ []) n ≡ Some part) (sym (grows.of_part ∙ numbered)) (at_end parts part);
          more = [];
          stands = it.stands;
        };
        first = it.first;
        last = it.last;
      }

      -- with it all rows are cut
      pub cut_whole : CutInto limits (parts ++ part ∷ []) (cuts ++ cut_of cut growing ∷ []) (rows ++ grown)
      cut_whole =
          subst (λ (l : List ByteRow). CutInto limits (parts ++ part ∷ []) (cuts ++ cut_of cut growing ∷ []) l)
          (append_assoc rows it.front it.back ∙ ap (λ (l : List ByteRow). rows ++ l) (sym it.whole))
          (into_with limits (parts ++ part ∷ []) cuts (rows ++ it.front) it.back (cut_of cut growing) it.others is_cut)

      module _ (fact : FactValue) (row : ByteRow) (len : ℕ) (object : object_row part.ids fact ≡ Some row) (above : growing.last < row.0)
        where
          -- the next object in the last cut
          longer_stands : StandsIn limits (with_fact part fact) (stretch_of cut (extended growing row.0 len)) (it.back ++ row ∷ []) []
          longer_stands =
              let next = stands_longer limits (with_fact part fact) (stretch_of cut growing) it.back row
              (subst (λ (more : List ByteRow). StandsIn limits (with_fact part fact) (stretch_of cut growing) it.back more)
              (ap only object) (stands_with_fact limits part fact (stretch_of cut growing) it.back [] it.stands))
              (all_below growing.last it.back row.0 it.stands.ascend it.last above) in
              let all = ap (λ (l : List ByteRow). length l) it.whole ∙ length-append it.front it.back in
              record {
                before = next.before;
                after = next.after;
                place = next.place;
                passed = next.passed;
                are = next.are;
                count = omega (arith, next.count, all, it.before, grows.stands.count);
                ascend = next.ascend;
              }

          pub cut_longer : IsCutSoFar limits (parts ++ with_fact part fact ∷ []) (with_fact part fact) cuts rows cut
              (extended growing row.0 len) (grown ++ row ∷ [])
          cut_longer = record {
            front = it.front;
            back = it.back ++ row ∷ [];
            whole = ap (λ (l : List ByteRow). l ++ row ∷ []) it.whole ∙ append_assoc it.front it.back (row ∷ []);
            others = into_with_fact fact cuts (rows ++ it.front) it.others;
            before = it.before;
            stands = longer_stands;
            first = (it.first.0, it.first.1 ++ row ∷ [], ap (λ (l : List ByteRow). l ++ row ∷ []) it.first.2);
            last = (it.back, row.1, refl);
          }

          -- or in another one
          alone_stands : (piece : Piece) → IsPiece limits part piece
              → StandsIn limits (with_fact part fact) (stretch_of (cut_behind growing piece row.0) (extended growing row.0 len)) (row ∷ [])
              []
          alone_stands piece is =
              let alone = stands_alone limits part fact row number piece is object in
              record {
                before = alone.before;
                after = alone.after;
                place = alone.place;
                passed = alone.passed;
                are = alone.are;
                count = omega arith;
                ascend = alone.ascend;
              }

          pub cut_more : (piece : Piece) → IsPiece limits part piece
              → IsCutSoFar limits (parts ++ with_fact part fact ∷ []) (with_fact part fact) (cuts ++ cut_of cut growing ∷ []) rows
              (cut_behind growing piece row.0) (extended growing row.0 len) (grown ++ row ∷ [])
          cut_more piece is = record {
            front = grown;
            back = row ∷ [];
            whole = refl;
            others = into_with_fact fact (cuts ++ cut_of cut growing ∷ []) (rows ++ grown) cut_whole;
            before = grows.stands.count;
            stands = alone_stands piece is;
            first = (row.1, [], refl);
            last = ([], row.1, refl);
          }

    -- with the last cut, if there is one, all rows are cut
    pub cut_closed : (cut : Option OpenCut) → AreCutStanding limits (parts ++ part ∷ []) part cuts rows InPart cut growing grown
        → CutInto limits (parts ++ part ∷ []) (cuts ++ cut_staying InPart cut growing) (rows ++ grown)
    cut_closed None it = absurd it
    cut_closed (Some cut) it = cut_whole cut it

    -- the next object
    pub cut_extended : (fact : FactValue) (row : ByteRow) (len : ℕ) → object_row part.ids fact ≡ Some row → growing.last < row.0
        → (cut : Option OpenCut) → AreCutStanding limits (parts ++ part ∷ []) part cuts rows InPart cut growing grown
        → AreCutStanding limits (parts ++ with_fact part fact ∷ []) (with_fact part fact) cuts rows InPart cut
        (extended growing row.0 len) (grown ++ row ∷ [])
    cut_extended fact row len object above None it = absurd it
    cut_extended fact row len object above (Some cut) it = cut_longer cut it fact row len object above
