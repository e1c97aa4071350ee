-- What a log keeps, as facts and bytes come, and as rows move.
use Rattle.std.proofs.Common.{◌≡◌, ◌⊎◌, ◌<◌, ℕ, List, [], ◌∷◌, ◌++◌, length, Option, Some, None, slice_get}
use Rattle.std.proofs.Common.{refl, sym, subst, ap, ◌∙◌, append-nil, inl, inr}
use Rattle.hprof_devices.specs.declared.health.Health.{Health}
use Rattle.hprof_items.specs.FactValue.{FactValue}
use Rattle.hprof_stream.specs.declared.limits.Limits.{Limits}
use Rattle.hprof_merge.specs.Rows.{ByteRow, Has}
use Rattle.hprof_merge.specs.Showing.{only}
use Rattle.hprof_merge.specs.Union.{AnyHas}
use Rattle.hprof_merge.proofs.Lists.{Has-append, append-has, append-last}
use Rattle.hprof_merge.proofs.Unions.{back_has, either_has, front_has}
use Rattle.hprof_runs.specs.declared.runs.Runs.{Runs}
use Rattle.hprof_runs.specs.Runs.{KeepsRuns}
use Rattle.hprof_objects.specs.declared.cut.Cut.{Cut}
use Rattle.hprof_objects.specs.declared.growing.Growing.{Growing}
use Rattle.hprof_objects.specs.declared.growing.Piece.{Piece}
use Rattle.hprof_objects.specs.declared.growing.Stands.{Stands}
use Rattle.hprof_objects.specs.declared.growing.Stands.TheVariants.{InMemory, InPart}
use Rattle.hprof_objects.specs.declared.open_cut.OpenCut.{OpenCut}
use Rattle.hprof_objects.specs.declared.stretch.Stretch.{Stretch}
use Rattle.hprof_objects.specs.Cuts.{AreCutStanding, CutInto, all_rows, cut_behind, cut_of, cut_staying, last_cut, whole_cut}
use Rattle.hprof_objects.specs.Enough.{HasTwo, IsEnough}
use Rattle.hprof_objects.specs.Log.{IsKept, Keeps}
use Rattle.hprof_objects.specs.ObjectRows.{object_row}
use Rattle.hprof_objects.specs.Growing.{extended, grown_in_part, longer, staying, staying_at}
use Rattle.hprof_objects.specs.Store.{Spills}
use Rattle.hprof_objects.specs.PartsRead.{PartRead, rows_of_parts, with_bytes, with_fact}
use Rattle.hprof_objects.specs.Stretches.{IsGrowingIn, IsGrowingStretch, IsPiece, StandAt, StandsIn}
use Rattle.hprof_objects.proofs.Enough.{enough_moved, enough_of, enough_with}
use Rattle.hprof_objects.proofs.Rows.{rows_of_parts-append, rows_of_parts-with}
use Rattle.hprof_objects.proofs.Spilled.{alone_has, has_alone}
use Rattle.hprof_objects.proofs.CutMoves.{all_rows-with, cut_closed, cut_extended, cut_first, cut_more, cut_with_bytes, cut_with_other}
use Rattle.hprof_objects.proofs.CutMoves.{into_with_fact}
use Rattle.hprof_objects.proofs.Stretches.{all_below, stands_longer, stands_with_bytes, stands_with_fact}
use Rattle.hprof_objects.proofs.StretchesMoved.{at_end, stretches_with, stretches_with_bytes, stretches_with_fact}

-- ---- rows that move

-- the rows of a list are those of a front and of the rest
has_parts : (xs ys : List ByteRow) (row : ByteRow) → Has (xs ++ ys) row → Has xs row ⊎ Has ys row
has_parts [] ys row h = inr h
has_parts (x ∷ xs) ys row (inl is) = inl (inl is)
has_parts (x ∷ xs) ys row (inr h) = elim (has_parts xs ys row h) [ inl front ↦ inl (inr front) | inr back ↦ inr back ]

has_front : (xs ys : List ByteRow) (row : ByteRow) → Has xs row → Has (xs ++ ys) row
has_front [] ys row h = absurd h
has_front (x ∷ xs) ys row (inl is) = inl is
has_front (x ∷ xs) ys row (inr h) = inr (has_front xs ys row h)

has_back : (xs ys : List ByteRow) (row : ByteRow) → Has ys row → Has (xs ++ ys) row
has_back [] ys row h = h
has_back (x ∷ xs) ys row h = inr (has_back xs ys row h)

-- what is kept, by where it is
kept : {X : Type 0} (memory : List ByteRow) (runs lists : List (List ByteRow)) (grown : List ByteRow) (row : ByteRow)
    → IsKept memory runs lists grown row → (Has memory row → X) → (AnyHas runs row → X) → (AnyHas lists row → X) → (Has grown row → X) → X
kept memory runs lists grown row (inl h) a b c d = a h
kept memory runs lists grown row (inr (inl h)) a b c d = b h
kept memory runs lists grown row (inr (inr (inl h))) a b c d = c h
kept memory runs lists grown row (inr (inr (inr h))) a b c d = d h

module _ {S : Type 0} (written : S → Option (List ℕ)) (health : S → Health) (limits : Limits) (parts : List PartRead) (part : PartRead)
    (number : ℕ) where
  -- what is kept of a part, of which a fact came that is no object
  pub keeps_other : (fact : FactValue) (memory : List ByteRow) (scratch : Runs S) (stays : List Stretch) (cuts : List Cut)
      (cut : Option OpenCut) (growing : Option Growing)
      → object_row part.ids fact ≡ None → Keeps written health limits parts part number memory scratch stays cuts cut growing
      → Keeps written health limits parts (with_fact part fact) number memory scratch stays cuts cut growing
  keeps_other fact memory scratch stays cuts cut growing none it = record {
    numbered = it.numbered;
    runs = it.runs;
    are_runs = it.are_runs;
    lists = it.lists;
    are_stretches = stretches_with_fact limits parts part fact stays it.lists it.are_stretches;
    grown = it.grown;
    grows = grows growing it.grown it.grows;
    enough = subst (λ (rows : List ByteRow). IsEnough rows (IsKept memory it.runs it.lists it.grown)) (sym same) it.enough;
    cut = cut_with_other limits parts part fact cuts (all_rows it.lists) cut growing it.grown none it.cut;
  }
    where
      grows : (g : Option Growing) (rows : List ByteRow) → IsGrowingIn limits number part g memory rows
          → IsGrowingIn limits number (with_fact part fact) g memory rows
      grows None rows is = is
      grows (Some g) rows is = record {
        of_part = is.of_part;
        stands = subst (λ (more : List ByteRow). StandsIn limits (with_fact part fact) g.stretch rows more) (ap only none)
            (stands_with_fact limits part fact g.stretch rows [] is.stands);
        first = is.first;
        last = is.last;
        at = is.at;
      }

      same : rows_of_parts (parts ++ with_fact part fact ∷ []) ≡ rows_of_parts (parts ++ part ∷ [])
      same =
          rows_of_parts-with parts part fact
          ∙ (ap (λ (o : Option ByteRow). rows_of_parts (parts ++ part ∷ []) ++ only o) none
          ∙ append-nil (rows_of_parts (parts ++ part ∷ [])))

  -- and of which bytes came
  pub keeps_bytes : (extra : List ℕ) (memory : List ByteRow) (scratch : Runs S) (stays : List Stretch) (cuts : List Cut)
      (cut : Option OpenCut) (growing : Option Growing)
      → Keeps written health limits parts part number memory scratch stays cuts cut growing
      → Keeps written health limits parts (with_bytes part extra) number memory scratch stays cuts cut growing
  keeps_bytes extra memory scratch stays cuts cut growing it = record {
    numbered = it.numbered;
    runs = it.runs;
    are_runs = it.are_runs;
    lists = it.lists;
    are_stretches = stretches_with_bytes limits parts part extra stays it.lists it.are_stretches;
    grown = it.grown;
    grows = grows growing it.grown it.grows;
    enough = subst (λ (rows : List ByteRow). IsEnough rows (IsKept memory it.runs it.lists it.grown)) (sym same) it.enough;
    cut = cut_with_bytes limits parts part extra cuts (all_rows it.lists) cut growing it.grown it.cut;
  }
    where
      grows : (g : Option Growing) (rows : List ByteRow) → IsGrowingIn limits number part g memory rows
          → IsGrowingIn limits number (with_bytes part extra) g memory rows
      grows None rows is = is
      grows (Some g) rows is = record {
        of_part = is.of_part;
        stands = stands_with_bytes limits part extra g.stretch rows [] is.stands;
        first = is.first;
        last = is.last;
        at = is.at;
      }

      same : rows_of_parts (parts ++ with_bytes part extra ∷ []) ≡ rows_of_parts (parts ++ part ∷ [])
      same = rows_of_parts-append parts (with_bytes part extra) ∙ sym (rows_of_parts-append parts part)

  -- ---- the growing stretch ends

  -- its rows are in memory
  pub keeps_forgotten : (memory : List ByteRow) (scratch : Runs S) (stays : List Stretch) (cuts : List Cut) (cut : Option OpenCut)
      (growing : Growing) (from : ℕ)
      → growing.stands ≡ InMemory from → Keeps written health limits parts part number memory scratch stays cuts cut (Some growing)
      → Keeps written health limits parts part number memory scratch stays cuts cut None
  keeps_forgotten memory scratch stays cuts cut growing from stands it = record {
    numbered = it.numbered;
    runs = it.runs;
    are_runs = it.are_runs;
    lists = it.lists;
    are_stretches = it.are_stretches;
    grown = [];
    grows = refl;
    enough = enough_moved (rows_of_parts (parts ++ part ∷ [])) (IsKept memory it.runs it.lists it.grown) (IsKept memory it.runs it.lists [])
        it.enough (λ row h. kept memory it.runs it.lists it.grown row h inl (λ b. inr (inl b)) (λ c. inr (inr (inl c))) (λ d. inl
        (inside row d)))
        (λ row h. kept memory it.runs it.lists [] row h inl (λ b. inr (inl b)) (λ c. inr (inr (inl c))) (λ d. absurd d));
    cut = subst (λ (s : Stands). AreCutStanding limits (parts ++ part ∷ []) part cuts (all_rows it.lists) s cut growing it.grown) stands
        it.cut;
  }
    where
      inside : (row : ByteRow) → Has it.grown row → Has memory row
      inside row h =
          let at = subst (λ (s : Stands). StandAt s it.grown memory) stands it.grows.at in
          subst (λ (l : List ByteRow). Has l row) (sym at.1) (has_back at.0 it.grown row h)

  -- it stays in the part
  keeps_closed : (memory : List ByteRow) (scratch : Runs S) (stays : List Stretch) (cuts : List Cut) (cut after : Option OpenCut)
      (growing : Growing) → growing.stands ≡ InPart
      → Keeps written health limits parts part number memory scratch stays cuts cut (Some growing)
      → Keeps written health limits parts part number memory scratch (stays ++ growing.stretch ∷ [])
      (cuts ++ cut_staying InPart cut growing) after None
  keeps_closed memory scratch stays cuts cut after growing stands it = record {
    numbered = it.numbered;
    runs = it.runs;
    are_runs = it.are_runs;
    lists = it.lists ++ it.grown ∷ [];
    are_stretches = stretches_with limits (parts ++ part ∷ []) stays it.lists growing.stretch it.grown it.are_stretches (record {
      part = part;
      is = subst (λ (n : ℕ). slice_get (parts ++ part ∷ []) n ≡ Some part) (sym (it.grows.of_part ∙ it.numbered)) (at_end parts part);
      more = [];
      stands = it.grows.stands;
    });
    grown = [];
    grows = refl;
    enough = enough_moved (rows_of_parts (parts ++ part ∷ [])) (IsKept memory it.runs it.lists it.grown)
        (IsKept memory it.runs (it.lists ++ it.grown ∷ []) []) it.enough
        (λ row h. kept memory it.runs it.lists it.grown row h inl (λ b. inr (inl b))
        (λ c. inr (inr (inl (front_has it.lists (it.grown ∷ []) row c.0 c.1))))
        (λ d. inr (inr (inl (back_has it.lists (it.grown ∷ []) row (has_alone it.grown row d))))))
        (λ row h. kept memory it.runs (it.lists ++ it.grown ∷ []) [] row h inl (λ b. inr (inl b))
        (λ c. elim (either_has it.lists (it.grown ∷ []) row c.0 c.1) [
          | inl front ↦ inr (inr (inl front))
          | inr back ↦ inr (inr (inr (alone_has it.grown row back)))
        ]) (λ d. absurd d));
    cut = subst (λ (rows : List ByteRow). CutInto limits (parts ++ part ∷ []) (cuts ++ cut_staying InPart cut growing) rows)
        (sym (all_rows-with it.lists it.grown))
        (cut_closed limits parts part number cuts (all_rows it.lists) growing memory it.grown it.numbered it.grows cut
        (subst (λ (s : Stands). AreCutStanding limits (parts ++ part ∷ []) part cuts (all_rows it.lists) s cut growing it.grown) stands
        it.cut));
  }

  -- nothing is added
  nothing_added : (memory : List ByteRow) (scratch : Runs S) (stays : List Stretch) (cuts : List Cut) (cut after : Option OpenCut)
      → Keeps written health limits parts part number memory scratch stays cuts cut None
      → Keeps written health limits parts part number memory scratch (stays ++ []) (cuts ++ []) after None
  nothing_added memory scratch stays cuts cut after it =
      subst (λ (l : List Stretch). Keeps written health limits parts part number memory scratch l (cuts ++ []) after None)
      (sym (append-nil stays))
      (subst (λ (l : List Cut). Keeps written health limits parts part number memory scratch stays l after None) (sym (append-nil cuts))
      (record {
        numbered = it.numbered;
        runs = it.runs;
        are_runs = it.are_runs;
        lists = it.lists;
        are_stretches = it.are_stretches;
        grown = it.grown;
        grows = it.grows;
        enough = it.enough;
        cut = it.cut;
      }))

  -- in either case
  ended_by : (memory : List ByteRow) (scratch : Runs S) (stays : List Stretch) (cuts : List Cut) (cut after : Option OpenCut)
      (growing : Growing) (stands : Stands) → growing.stands ≡ stands
      → Keeps written health limits parts part number memory scratch stays cuts cut (Some growing)
      → Keeps written health limits parts part number memory scratch (stays ++ staying_at stands growing.stretch)
      (cuts ++ cut_staying stands cut growing) after None
  ended_by memory scratch stays cuts cut after growing (InMemory from) is it =
      nothing_added memory scratch stays cuts cut after (keeps_forgotten memory scratch stays cuts cut growing from is it)
  ended_by memory scratch stays cuts cut after growing InPart is it = keeps_closed memory scratch stays cuts cut after growing is it

  pub keeps_ended : (memory : List ByteRow) (scratch : Runs S) (stays : List Stretch) (cuts : List Cut) (cut after : Option OpenCut)
      (growing : Option Growing) → Keeps written health limits parts part number memory scratch stays cuts cut growing
      → Keeps written health limits parts part number memory scratch (stays ++ staying growing) (cuts ++ last_cut growing cut) after None
  keeps_ended memory scratch stays cuts cut after None it = nothing_added memory scratch stays cuts cut after it
  keeps_ended memory scratch stays cuts cut after (Some growing) it =
      ended_by memory scratch stays cuts cut after growing growing.stands refl it

  -- ---- an object comes

  -- all rows with the one of a fact
  rows_with : (fact : FactValue) (row : ByteRow) → object_row part.ids fact ≡ Some row
      → rows_of_parts (parts ++ with_fact part fact ∷ []) ≡ rows_of_parts (parts ++ part ∷ []) ++ row ∷ []
  rows_with fact row object =
      rows_of_parts-with parts part fact ∙ ap (λ (o : Option ByteRow). rows_of_parts (parts ++ part ∷ []) ++ only o) object

  -- it stands behind the others in memory
  pub keeps_pushed : (fact : FactValue) (row : ByteRow) (memory after : List ByteRow) (scratch next : Runs S) (stays : List Stretch)
      (cuts : List Cut) (cut : Option OpenCut)
      → object_row part.ids fact ≡ Some row → after ≡ memory ++ row ∷ [] → KeepsRuns written health scratch next
      → Keeps written health limits parts part number memory scratch stays cuts cut None
      → Keeps written health limits parts (with_fact part fact) number after next stays cuts cut None
  keeps_pushed fact row memory after scratch next stays cuts cut object pushed stay it = record {
    numbered = it.numbered;
    runs = it.runs;
    are_runs = stay it.runs it.are_runs;
    lists = it.lists;
    are_stretches = stretches_with_fact limits parts part fact stays it.lists it.are_stretches;
    grown = [];
    grows = refl;
    enough = subst (λ (rows : List ByteRow). IsEnough rows (IsKept after it.runs it.lists [])) (sym (rows_with fact row object))
        (enough_with (rows_of_parts (parts ++ part ∷ [])) (IsKept memory it.runs it.lists it.grown) (IsKept after it.runs it.lists []) row
        it.enough (λ r h. kept memory it.runs it.lists it.grown r h
        (λ a. inl (subst (λ (l : List ByteRow). Has l r) (sym pushed) (append-has memory row r a))) (λ b. inr (inl b))
        (λ c. inr (inr (inl c))) (λ d. absurd (none r d)))
        (inl (subst (λ (l : List ByteRow). Has l row) (sym pushed) (append-last memory row)))
        (λ r h. kept after it.runs it.lists [] r h (λ a. elim (Has-append memory row r (subst (λ (l : List ByteRow). Has l r) pushed a)) [
          | inl old ↦ inl (inl old)
          | inr is ↦ inr is
        ]) (λ b. inl (inr (inl b))) (λ c. inl (inr (inr (inl c)))) (λ d. absurd d)));
    cut = into_with_fact limits parts part fact cuts (all_rows it.lists) it.cut;
  }
    where
      none : (r : ByteRow) → Has it.grown r → ⊥
      none r h = subst (λ (l : List ByteRow). Has l r) it.grows h

  -- it is alone in memory, since the others went to scratch
  pub keeps_spilled : (fact : FactValue) (row : ByteRow) (memory after : List ByteRow) (scratch next : Runs S) (stays : List Stretch)
      (cuts : List Cut) (cut : Option OpenCut)
      → object_row part.ids fact ≡ Some row → after ≡ row ∷ [] → Spills written health memory scratch next
      → Keeps written health limits parts part number memory scratch stays cuts cut None
      → Keeps written health limits parts (with_fact part fact) number after next stays cuts cut None
  keeps_spilled fact row memory after scratch next stays cuts cut object alone spill it = record {
    numbered = it.numbered;
    runs = it.runs ++ spill.lists;
    are_runs = spill.adds it.runs it.are_runs;
    lists = it.lists;
    are_stretches = stretches_with_fact limits parts part fact stays it.lists it.are_stretches;
    grown = [];
    grows = refl;
    enough = subst (λ (rows : List ByteRow). IsEnough rows (IsKept after (it.runs
        ++ spill.lists) it.lists [])) (sym (rows_with fact row object))
        (enough_with (rows_of_parts (parts ++ part ∷ [])) (IsKept [] (it.runs ++ spill.lists) it.lists [])
        (IsKept after (it.runs ++ spill.lists) it.lists []) row fewer
        (λ r h. kept [] (it.runs
        ++ spill.lists) it.lists [] r h (λ a. absurd a) (λ b. inr (inl b)) (λ c. inr (inr (inl c))) (λ d. absurd d))
        (inl (subst (λ (l : List ByteRow). Has l row) (sym alone) (inl refl)))
        (λ r h. kept after (it.runs ++ spill.lists) it.lists [] r h (λ a. elim (subst (λ (l : List ByteRow). Has l r) alone a) [
          | inl is ↦ inr is
          | inr never ↦ absurd never
        ]) (λ b. inl (inr (inl b))) (λ c. inl (inr (inr (inl c)))) (λ d. absurd d)));
    cut = into_with_fact limits parts part fact cuts (all_rows it.lists) it.cut;
  }
    where
      none : (r : ByteRow) → Has it.grown r → ⊥
      none r h = subst (λ (l : List ByteRow). Has l r) it.grows h

      two : (key : ℕ) → HasTwo (AnyHas spill.lists) key → HasTwo (IsKept [] (it.runs ++ spill.lists) it.lists []) key
      two key t = record {
        one = t.one;
        other = t.other;
        has_one = inr (inl (back_has it.runs spill.lists (key, t.one) t.has_one));
        has_other = inr (inl (back_has it.runs spill.lists (key, t.other) t.has_other));
        differ = t.differ;
      }

      fewer : IsEnough (rows_of_parts (parts ++ part ∷ [])) (IsKept [] (it.runs ++ spill.lists) it.lists [])
      fewer =
          enough_of (rows_of_parts (parts ++ part ∷ [])) (IsKept memory it.runs it.lists it.grown)
          (IsKept [] (it.runs ++ spill.lists) it.lists []) it.enough
          (λ r h. kept [] (it.runs ++ spill.lists) it.lists [] r h (λ a. absurd a)
          (λ b. elim (either_has it.runs spill.lists r b.0 b.1) [
            | inl old ↦ inr (inl old)
            | inr new ↦ inl (spill.enough.only r new)
          ]) (λ c. inr (inr (inl c))) (λ d. absurd d))
          (λ r h. kept memory it.runs it.lists it.grown r h
          (λ a. elim (spill.enough.each r a) [
            | inl new ↦ inl (inr (inl (back_has it.runs spill.lists r new)))
            | inr pair ↦ inr (two r.0 pair)
          ]) (λ b. inl (inr (inl (front_has it.runs spill.lists r b.0 b.1)))) (λ c. inl (inr (inr (inl c)))) (λ d. absurd (none r d)))

  -- ---- a stretch grows

  -- its rows are the last ones in memory
  pub keeps_growing : (memory : List ByteRow) (scratch : Runs S) (stays : List Stretch) (cuts : List Cut) (cut after : Option OpenCut)
      (growing : Growing) (from : ℕ)
      (grown : List ByteRow) → growing.stands ≡ InMemory from → IsGrowingStretch limits number part growing memory grown
      → Keeps written health limits parts part number memory scratch stays cuts cut None
      → Keeps written health limits parts part number memory scratch stays cuts after (Some growing)
  keeps_growing memory scratch stays cuts cut after growing from grown stands grows it = record {
    numbered = it.numbered;
    runs = it.runs;
    are_runs = it.are_runs;
    lists = it.lists;
    are_stretches = it.are_stretches;
    grown = grown;
    grows = grows;
    enough = enough_moved (rows_of_parts (parts ++ part ∷ [])) (IsKept memory it.runs it.lists it.grown)
        (IsKept memory it.runs it.lists grown) it.enough
        (λ r h. kept memory it.runs it.lists it.grown r h inl (λ b. inr (inl b)) (λ c. inr (inr (inl c))) (λ d. absurd (none r d)))
        (λ r h. kept memory it.runs it.lists grown r h inl (λ b. inr (inl b)) (λ c. inr (inr (inl c))) (λ d. inl (inside r d)));
    cut = subst (λ (s : Stands). AreCutStanding limits (parts ++ part ∷ []) part cuts (all_rows it.lists) s after growing grown)
        (sym stands) it.cut;
  }
    where
      none : (r : ByteRow) → Has it.grown r → ⊥
      none r h = subst (λ (l : List ByteRow). Has l r) it.grows h

      inside : (r : ByteRow) → Has grown r → Has memory r
      inside r h =
          let at = subst (λ (s : Stands). StandAt s grown memory) stands grows.at in
          subst (λ (l : List ByteRow). Has l r) (sym at.1) (has_back at.0 grown r h)

  -- its rows leave the memory, since it stays in the part
  pub keeps_staying : (memory front : List ByteRow) (scratch : Runs S) (stays : List Stretch) (cuts : List Cut) (cut : Option OpenCut)
      (growing : Growing) (from : ℕ) (grown : List ByteRow) → growing.stands ≡ InMemory from → memory ≡ front ++ grown
      → IsGrowingStretch limits number part growing memory grown
      → Keeps written health limits parts part number memory scratch stays cuts cut None
      → Keeps written health limits parts part number front scratch stays cuts (Some (whole_cut growing)) (Some (grown_in_part growing))
  keeps_staying memory front scratch stays cuts cut growing from grown stands parted grows it = record {
    numbered = it.numbered;
    runs = it.runs;
    are_runs = it.are_runs;
    lists = it.lists;
    are_stretches = it.are_stretches;
    grown = grown;
    grows = record {
      of_part = grows.of_part;
      stands = grows.stands;
      first = grows.first;
      last = grows.last;
      at = tt;
    };
    enough = enough_moved (rows_of_parts (parts ++ part ∷ [])) (IsKept memory it.runs it.lists it.grown)
        (IsKept front it.runs it.lists grown) it.enough
        (λ r h. kept memory it.runs it.lists it.grown r h
        (λ a. elim (has_parts front grown r (subst (λ (l : List ByteRow). Has l r) parted a)) [
          | inl first ↦ inl first
          | inr rest ↦ inr (inr (inr rest))
        ]) (λ b. inr (inl b)) (λ c. inr (inr (inl c))) (λ d. absurd (none r d)))
        (λ r h. kept front it.runs it.lists grown r h
        (λ a. inl (subst (λ (l : List ByteRow). Has l r) (sym parted) (has_front front grown r a))) (λ b. inr (inl b))
        (λ c. inr (inr (inl c))) (λ d. inl (subst (λ (l : List ByteRow). Has l r) (sym parted) (has_back front grown r d))));
    cut = cut_first limits parts part number cuts (all_rows it.lists) growing memory grown it.numbered grows it.cut;
  }
    where
      none : (r : ByteRow) → Has it.grown r → ⊥
      none r h = subst (λ (l : List ByteRow). Has l r) it.grows h

  -- an object behind those that stay in the part; its cuts are told by the caller
  grown_by : (fact : FactValue) (row : ByteRow) (memory : List ByteRow) (scratch : Runs S) (stays : List Stretch) (cuts more : List Cut)
      (cut after : Option OpenCut) (growing : Growing) (len : ℕ) → object_row part.ids fact ≡ Some row → growing.last < row.0
      → growing.stands ≡ InPart
      → ((rows grown : List ByteRow) → number ≡ length parts → IsGrowingStretch limits number part growing memory grown
      → AreCutStanding limits (parts ++ part ∷ []) part cuts rows InPart cut growing grown
      → AreCutStanding limits (parts ++ with_fact part fact ∷ []) (with_fact part fact) more rows InPart after
      (extended growing row.0 len) (grown ++ row ∷ []))
      → Keeps written health limits parts part number memory scratch stays cuts cut (Some growing)
      → Keeps written health limits parts (with_fact part fact) number memory scratch stays more after (Some (extended growing row.0 len))
  grown_by fact row memory scratch stays cuts more cut after growing len object above in_part are_cut it = record {
    numbered = it.numbered;
    runs = it.runs;
    are_runs = it.are_runs;
    lists = it.lists;
    are_stretches = stretches_with_fact limits parts part fact stays it.lists it.are_stretches;
    grown = it.grown ++ row ∷ [];
    grows = record {
      of_part = it.grows.of_part;
      stands = grown_stands;
      first = (it.grows.first.0, it.grows.first.1 ++ row ∷ [], ap (λ (l : List ByteRow). l ++ row ∷ []) it.grows.first.2);
      last = (it.grown, row.1, refl);
      at = subst (λ (s : Stands). StandAt s (it.grown ++ row ∷ []) memory) (sym in_part) tt;
    };
    enough = subst (λ (rows : List ByteRow). IsEnough rows (IsKept memory it.runs it.lists (it.grown ++ row ∷ [])))
        (sym (rows_with fact row object))
        (enough_with (rows_of_parts (parts ++ part ∷ [])) (IsKept memory it.runs it.lists it.grown)
        (IsKept memory it.runs it.lists (it.grown ++ row ∷ [])) row it.enough
        (λ r h. kept memory it.runs it.lists it.grown r h inl (λ b. inr (inl b)) (λ c. inr (inr (inl c)))
        (λ d. inr (inr (inr (append-has it.grown row r d)))))
        (inr (inr (inr (append-last it.grown row))))
        (λ r h. kept memory it.runs it.lists (it.grown ++ row ∷ []) r h (λ a. inl (inl a)) (λ b. inl (inr (inl b)))
        (λ c. inl (inr (inr (inl c)))) (λ d. elim (Has-append it.grown row r d) [
          | inl old ↦ inl (inr (inr (inr old)))
          | inr is ↦ inr is
        ])));
    cut = subst (λ (s : Stands). AreCutStanding limits (parts ++ with_fact part fact ∷ []) (with_fact part fact) more (all_rows it.lists) s
        after (extended growing row.0 len) (it.grown ++ row ∷ [])) (sym in_part)
        (are_cut (all_rows it.lists) it.grown it.numbered it.grows
        (subst (λ (s : Stands). AreCutStanding limits (parts ++ part ∷ []) part cuts (all_rows it.lists) s cut growing it.grown) in_part
        it.cut));
  }
    where
      grown_stands : StandsIn limits (with_fact part fact) (longer growing.stretch) (it.grown ++ row ∷ []) []
      grown_stands =
          stands_longer limits (with_fact part fact) growing.stretch it.grown row
          (subst (λ (more : List ByteRow). StandsIn limits (with_fact part fact) growing.stretch it.grown more) (ap only object)
          (stands_with_fact limits part fact growing.stretch it.grown [] it.grows.stands))
          (all_below growing.last it.grown row.0 it.grows.stands.ascend it.grows.last above)

  -- the object is one more of the last cut
  pub keeps_extended : (fact : FactValue) (row : ByteRow) (memory : List ByteRow) (scratch : Runs S) (stays : List Stretch)
      (cuts : List Cut) (cut : Option OpenCut) (growing : Growing) (len : ℕ) → object_row part.ids fact ≡ Some row
      → growing.last < row.0 → growing.stands ≡ InPart
      → Keeps written health limits parts part number memory scratch stays cuts cut (Some growing)
      → Keeps written health limits parts (with_fact part fact) number memory scratch stays cuts cut (Some (extended growing row.0 len))
  keeps_extended fact row memory scratch stays cuts cut growing len object above in_part it =
      grown_by fact row memory scratch stays cuts cuts cut cut growing len object above in_part (λ rows grown numbered grows cut_so_far.
      cut_extended limits parts part number cuts rows growing memory grown numbered grows fact row len object above cut cut_so_far) it

  -- it begins another cut
  pub keeps_cut : (fact : FactValue) (row : ByteRow) (memory : List ByteRow) (scratch : Runs S) (stays : List Stretch) (cuts : List Cut)
      (cut : OpenCut) (growing : Growing) (piece : Piece) (len : ℕ) → object_row part.ids fact ≡ Some row → growing.last < row.0
      → growing.stands ≡ InPart → IsPiece limits part piece
      → Keeps written health limits parts part number memory scratch stays cuts (Some cut) (Some growing)
      → Keeps written health limits parts (with_fact part fact) number memory scratch stays (cuts ++ cut_of cut growing ∷ [])
      (Some (cut_behind growing piece row.0)) (Some (extended growing row.0 len))
  keeps_cut fact row memory scratch stays cuts cut growing piece len object above in_part is it =
      grown_by fact row memory scratch stays cuts (cuts ++ cut_of cut growing ∷ []) (Some cut) (Some (cut_behind growing piece row.0))
      growing len object above in_part (λ rows grown numbered grows cut_so_far.
      cut_more limits parts part number cuts rows growing memory grown numbered grows cut cut_so_far fact row len object above piece is) it
