-- Parts that begin and end in a log.
use Rattle.std.proofs.Common.{◌≡◌, ℕ, List, [], ◌∷◌, ◌++◌, length, Option, Some, None, refl, sym, subst, ap, ◌∙◌, append-nil, inl, inr}
use Rattle.hprof_devices.specs.declared.health.Health.{Health}
use Rattle.hprof_stream.specs.declared.limits.Limits.{Limits}
use Rattle.hprof_values.specs.declared.ids.IdSize.{IdSize}
use Rattle.hprof_merge.specs.Rows.{ByteRow, Has}
use Rattle.hprof_objects.specs.declared.cut.Cut.{Cut}
use Rattle.hprof_objects.specs.declared.growing.Growing.{Growing}
use Rattle.hprof_objects.specs.declared.object_log.ObjectLog.{ObjectLog}
use Rattle.hprof_objects.specs.declared.open_cut.OpenCut.{OpenCut}
use Rattle.hprof_objects.specs.declared.row_store.RowStore.{RowStore}
use Rattle.hprof_objects.specs.declared.stretch.Stretch.{Stretch}
use Rattle.hprof_objects.specs.Cuts.{CutInto, all_rows, last_cut}
use Rattle.hprof_objects.specs.Enough.{IsEnough}
use Rattle.hprof_objects.specs.Growing.{piece_begun, staying}
use Rattle.hprof_stream.specs.declared.part_place.PartPlace.{PartPlace}
use Rattle.hprof_objects.specs.Log.{HasLogged, HoldsParts, IsKept, IsPlaceNow, Keeps}
use Rattle.hprof_objects.specs.PartsRead.{PartRead, part_begun, rows_of_part, rows_of_parts}
use Rattle.hprof_objects.specs.Store.{rows_of_store, runs_of_store}
use Rattle.hprof_objects.specs.Stretches.{AreStretches, IsPieceOf}
use Rattle.hprof_objects.proofs.CutMoves.{into_moved}
use Rattle.hprof_objects.proofs.StretchesMoved.{stretch_begun, stretches_begun}
use Rattle.hprof_objects.proofs.Rows.{rows_of_parts-append}

-- nothing is enough of nothing
pub nothing_enough : (memory : List ByteRow) → memory ≡ [] → IsEnough [] (IsKept memory [] [] [])
nothing_enough memory none = record {
  only = λ row h. absurd (no row h);
  each = λ row h. absurd h;
}
  where
    no : (row : ByteRow) → IsKept memory [] [] [] row → ⊥
    no row (inl h) = subst (λ (l : List ByteRow). Has l row) none h
    no row (inr (inl (place, never))) = never
    no row (inr (inr (inl (place, never)))) = never
    no row (inr (inr (inr never))) = never

-- a part begins of which nothing came
pub begun_rows : (parts : List PartRead) (ids : IdSize) → rows_of_parts (parts ++ part_begun ids ∷ []) ≡ rows_of_parts parts
begun_rows parts ids = rows_of_parts-append parts (part_begun ids) ∙ append-nil (rows_of_parts parts)

module _ {S : Type 0} (written : S → Option (List ℕ)) (health : S → Health) (limits : Limits) where
  pub part_begins : (parts : List PartRead) (ids : IdSize) (number : ℕ) (log : ObjectLog S) (store : RowStore S) (stays : List Stretch)
      (cuts : List Cut) (cut : Option OpenCut) (growing : Option Growing) → store ≡ log.store
      → stays ≡ log.stretches.items ++ staying log.growing → cuts ≡ log.cuts.items ++ last_cut log.growing log.cut → growing ≡ None
      → HoldsParts written health limits parts log → number ≡ length parts
      → Keeps written health limits parts (part_begun ids) number (rows_of_store store) (runs_of_store store) stays cuts cut growing
  part_begins parts ids number log store stays cuts cut growing same_store same same_cuts none it numbered =
      subst (λ (g : Option Growing). Keeps written health limits parts (part_begun ids) number (rows_of_store store) (runs_of_store store)
      stays cuts cut g) (sym none)
      (subst (λ (s : RowStore S). Keeps written health limits parts (part_begun ids) number (rows_of_store s) (runs_of_store s) stays cuts
      cut None) (sym same_store) (record {
        numbered = numbered;
        runs = it.runs;
        are_runs = it.are_runs;
        lists = it.lists;
        are_stretches = subst (λ (l : List Stretch). AreStretches limits (parts ++ part_begun ids ∷ []) l it.lists) (sym stayed)
            (stretches_begun limits parts (part_begun ids) log.stretches.items it.lists it.are_stretches);
        grown = [];
        grows = refl;
        enough = subst (λ (rows : List ByteRow). IsEnough rows (IsKept (rows_of_store log.store) it.runs it.lists []))
            (sym (begun_rows parts ids)) it.enough;
        cut = subst (λ (l : List Cut). CutInto limits (parts ++ part_begun ids ∷ []) l (all_rows it.lists)) (sym cut_before)
            (into_moved limits parts (parts ++ part_begun ids ∷ []) (stretch_begun limits parts (part_begun ids)) log.cuts.items
            (all_rows it.lists) it.cut);
      }))
    where
      cut_before : cuts ≡ log.cuts.items
      cut_before =
          same_cuts
          ∙ (ap (λ (g : Option Growing). log.cuts.items ++ last_cut g log.cut) it.no_growing ∙ append-nil log.cuts.items)

      stayed : stays ≡ log.stretches.items
      stayed =
          same
          ∙ (ap (λ (g : Option Growing). log.stretches.items ++ staying g) it.no_growing ∙ append-nil log.stretches.items)

  pub part_ends : (parts : List PartRead) (part : PartRead) (log : ObjectLog S) → log.growing ≡ None
      → HasLogged written health limits parts part log → HoldsParts written health limits (parts ++ part ∷ []) log
  part_ends parts part log none it =
      let kept = subst (λ (g : Option Growing). Keeps written health limits parts part log.part (rows_of_store log.store)
      (runs_of_store log.store) log.stretches.items log.cuts.items log.cut g) none it.0 in
      record {
        no_growing = none;
        runs = kept.runs;
        are_runs = kept.are_runs;
        lists = kept.lists;
        are_stretches = kept.are_stretches;
        enough = subst (λ (rows : List ByteRow). IsEnough (rows_of_parts (parts ++ part ∷ []))
            (IsKept (rows_of_store log.store) kept.runs kept.lists rows)) kept.grows kept.enough;
        cut = kept.cut;
      }

  -- a part without objects, which did not begin in the log
  pub holds_bare : (parts : List PartRead) (part : PartRead) (log : ObjectLog S) → rows_of_part part ≡ []
      → HoldsParts written health limits parts log → HoldsParts written health limits (parts ++ part ∷ []) log
  holds_bare parts part log none it = record {
    no_growing = it.no_growing;
    runs = it.runs;
    are_runs = it.are_runs;
    lists = it.lists;
    are_stretches = stretches_begun limits parts part log.stretches.items it.lists it.are_stretches;
    enough = subst (λ (rows : List ByteRow). IsEnough rows (IsKept (rows_of_store log.store) it.runs it.lists []))
        (sym (rows_of_parts-append parts part ∙ ap (λ (l : List ByteRow). rows_of_parts parts ++ l) none
        ∙ append-nil (rows_of_parts parts))) it.enough;
    cut = into_moved limits parts (parts ++ part ∷ []) (stretch_begun limits parts part) log.cuts.items (all_rows it.lists) it.cut;
  }

-- a piece begins behind all facts that were taken
pub piece_begins : (limits : Limits) (part : PartRead) (place : Option PartPlace) → IsPlaceNow limits part place
    → IsPieceOf limits part (piece_begun place)
piece_begins limits part None now = tt
piece_begins limits part (Some place) now = record { since = []; place = now; passed = refl }
