-- Class dumps alone, place by place.
use Rattle.std.specs.Prelude.{◌↔◌, IsTrue}
use Rattle.std.proofs.Common.{◌≡◌, ◌<◌, ◌+◌, ◌∙◌, ℕ, Bool, false, List, get_or, length, sym, subst, inl, inr, arith, slice_set}
use Rattle.std.proofs.Common.{get_or-set_other, get_or-set_same}
use Rattle.std.proofs.lemmas.Bool.{cases_eq}
use Rattle.std.proofs.Math.ListN.{length-set}
use Rattle.hprof_items.specs.FactValue.{FactValue}
use Rattle.hprof_rows.specs.Conflict.{IsConsistent}
use Rattle.hprof_retained.specs.Tree.{count_of, node_at}
use Rattle.hprof_retained.specs.declared.retained.Retained.{Retained}
use Rattle.hprof_by_label.specs.Labels.{AreNodeLabels}
use Rattle.hprof_by_label.specs.declared.node_labels.NodeLabels.{NodeLabels}
use Rattle.hprof_suspects.specs.Groups.{IsClassAlone}
use Rattle.hprof_suspects.specs.Grounds.{AreAlone, HasClassObjects, IsClassLabelled}
use Rattle.hprof_suspects.specs.PartPlaces.{IsMarked}
use Rattle.hprof_suspects.proofs.PlaceLabels.{label_of_class}

module _ (others : List FactValue) (retained : Retained) (labels : NodeLabels) where
  abbrev pub IsAloneAt : ℕ → Type 0
  IsAloneAt place = IsClassLabelled labels place × IsClassAlone others (node_at retained place)

  -- the places before a bound are marked
  pub record AreAloneTo (marks : List Bool) (done : ℕ) : Type 0 where
    pub as_many : length marks ≡ count_of retained
    pub each : (place : ℕ) → 0 < place → place < done → IsMarked marks place ↔ IsAloneAt place

  pub alone_begin : (marks : List Bool) → length marks ≡ count_of retained → AreAloneTo marks 1
  alone_begin marks many = record { as_many = many; each = λ place some low. absurd (omega arith) }

  pub alone_more : (marks : List Bool) (done : ℕ) (is : Bool) → done < count_of retained → IsTrue is ↔ IsAloneAt done
      → AreAloneTo marks done → AreAloneTo (slice_set marks done is) (done + 1)
  alone_more marks done is low decides so = record {
    as_many = length-set marks done is ∙ so.as_many;
    each = λ place some before. elim (cases_eq place done) [
      | inl same ↦
          subst (λ (p : ℕ). IsMarked (slice_set marks done is) p ↔ IsAloneAt p) (sym same)
          (λ marked. decides.0 (sym here ∙ marked), λ alone. here ∙ decides.1 alone)
      | inr apart ↦
          let was = so.each place some (omega arith) in
          let kept = get_or-set_other marks done place is false apart in
          (λ marked. was.0 (sym kept ∙ marked), λ alone. kept ∙ was.1 alone)
    ];
  } where
    here : get_or (slice_set marks done is) done false ≡ is
    here = get_or-set_same marks done is false (let many = so.as_many in omega arith)

  pub alone_end : (marks : List Bool) (done : ℕ) → done ≡ count_of retained → AreAloneTo marks done → (facts : List FactValue)
      → IsConsistent facts → AreNodeLabels facts retained labels → HasClassObjects facts retained labels others
      → AreAlone facts retained marks
  alone_end marks done all so facts agree are has place some low =
      let is = so.each place some (omega arith) in (
        λ marked. let at = is.0 marked in (has place some low at.0).0 at.1,
        λ alone.
            let labelled = label_of_class facts agree retained labels are place some low alone in
            is.1 (labelled, (has place some low labelled).1 alone),
      )
