-- Parts, place by place.
use Rattle.std.specs.Prelude.{◌↔◌, IsTrue}
use Rattle.std.proofs.Common.{◌≡◌, ◌<◌, ◌+◌, ◌∙◌, ℕ, Bool, true, false, List, get_or, length, sym, ap, subst, inl, inr, arith, slice_set}
use Rattle.std.proofs.Common.{get_or-set_other, get_or-set_same}
use Rattle.std.specs.BTreeMap.{BTreeMap}
use Rattle.std.proofs.lemmas.Bool.{cases_eq}
use Rattle.std.proofs.Math.ListN.{length-set}
use Rattle.hprof_values.specs.declared.ids.IdSize.{IdSize}
use Rattle.hprof_items.specs.FactValue.{FactValue}
use Rattle.hprof_rows.specs.Conflict.{IsConsistent}
use Rattle.hprof_retained.specs.Tree.{IsTreeOf, count_of}
use Rattle.hprof_retained.specs.declared.retained.Retained.{Retained}
use Rattle.hprof_by_label.specs.Labels.{AreNodeLabels}
use Rattle.hprof_by_label.specs.declared.node_labels.NodeLabels.{NodeLabels}
use Rattle.hprof_suspects.specs.Heads.{AreHeads}
use Rattle.hprof_suspects.specs.Parts.{Roots}
use Rattle.hprof_suspects.specs.PartPlaces.{AreOnlyTo, AreParts, IsMarked, IsPartAt, IsPartBy, over_in}
use Rattle.hprof_suspects.specs.declared.only.GroupLabel.{GroupLabel}
use Rattle.hprof_suspects.proofs.HeadPlaces.{over_less}
use Rattle.hprof_suspects.proofs.PartPlaces.{part_back, part_forth}

-- the places before a bound are marked if they are those of parts
pub record AreMarkedTo (ids : IdSize) (facts : List FactValue) (retained : Retained) (parts : List Bool) (done : ℕ) : Type 0 where
  pub as_many : length parts ≡ count_of retained
  pub exact : (place : ℕ) → place < done → IsMarked parts place ↔ IsPartAt ids facts retained place

pub marked_begin : (ids : IdSize) (facts : List FactValue) (retained : Retained) (parts : List Bool) → length parts ≡ count_of retained
    → 0 < count_of retained → AreMarkedTo ids facts retained (slice_set parts 0 true) 1
marked_begin ids facts retained parts many some = record {
  as_many = length-set parts 0 true ∙ many;
  exact = λ place low. (
    λ marked. subst (IsPartAt ids facts retained) (let P : 0 ≡ place = omega arith in P) Roots,
    λ part.
        let same : place ≡ 0 = omega arith in
        ap (λ p. get_or (slice_set parts 0 true) p false) same ∙ get_or-set_same parts 0 true false (omega arith),
  );
}

module _ (ids : IdSize) (facts : List FactValue) (agree : IsConsistent facts) (retained : Retained) (tree : IsTreeOf ids facts retained)
    (labels : NodeLabels) (labelled : AreNodeLabels facts retained labels) (heads : List ℕ) (are : AreHeads ids facts retained heads)
    (only : BTreeMap GroupLabel ℕ) (kept : AreOnlyTo retained labels heads only (count_of retained)) where
  pub marked_more : (parts : List Bool) (done : ℕ) (is : Bool) → 0 < done → done < count_of retained
      → IsTrue is ↔ IsPartBy facts retained labels heads only parts done → AreMarkedTo ids facts retained parts done
      → AreMarkedTo ids facts retained (slice_set parts done is) (done + 1)
  marked_more parts done is some low decides so = record {
    as_many = length-set parts done is ∙ so.as_many;
    exact = λ place before. elim (cases_eq place done) [
      | inl same ↦
          subst (λ (p : ℕ). IsMarked (slice_set parts done is) p ↔ IsPartAt ids facts retained p) (sym same)
          (λ marked. forth (decides.0 (sym here ∙ marked)), λ part. here ∙ decides.1 (back part))
      | inr apart ↦
          let was = so.exact place (omega arith) in
          let kept_mark = get_or-set_other parts done place is false apart in
          (λ marked. was.0 (sym kept_mark ∙ marked), λ part. kept_mark ∙ was.1 part)
    ];
  } where
    here : get_or (slice_set parts done is) done false ≡ is
    here = get_or-set_same parts done is false (let many = so.as_many in omega arith)

    above_less : over_in retained heads done < done
    above_less = over_less ids facts retained tree heads are done (some, low)

    forth : IsPartBy facts retained labels heads only parts done → IsPartAt ids facts retained done
    forth by =
        part_forth ids facts agree retained tree labels labelled heads are only kept done (some, low) by.large
        ((so.exact (over_in retained heads done) above_less).0 by.above) by.singled

    back : IsPartAt ids facts retained done → IsPartBy facts retained labels heads only parts done
    back part =
        let by = part_back ids facts agree retained tree labels labelled heads are only kept done (some, low) part in
        record {
          large = by.large;
          above = (so.exact (over_in retained heads done) above_less).1 by.above;
          singled = by.singled;
        }

pub marked_end : (ids : IdSize) (facts : List FactValue) (retained : Retained) (parts : List Bool) (done : ℕ) → done ≡ count_of retained
    → AreMarkedTo ids facts retained parts done → AreParts ids facts retained parts
marked_end ids facts retained parts done all so = record {
  as_many = so.as_many;
  exact = λ place low. so.exact place (omega arith);
}
