-- What is told of suspects, one after the other, and as the report.
use Rattle.std.specs.Prelude.{map}
use Rattle.std.specs.List.{flat_map}
use Rattle.std.proofs.Common.{◌++◌, ℕ, List, [], ◌∷◌, sym, ap, subst, inl, inr, refl}
use Rattle.std.proofs.lemmas.List.Concat.{flat_map-cons}
use Rattle.hprof_values.specs.declared.ids.IdSize.{IdSize}
use Rattle.hprof_items.specs.FactValue.{FactValue}
use Rattle.hprof_rows.specs.Conflict.{IsConsistent}
use Rattle.hprof_describe.specs.Findings.{AreFindings, Findings}
use Rattle.hprof_retained.specs.Tree.{total_of}
use Rattle.hprof_retained.specs.declared.retained.Retained.{Retained}
use Rattle.hprof_keeps.specs.Order.{retained_in}
use Rattle.hprof_keeps.specs.WeakSum as weak
use Rattle.hprof_keeps.specs.declared.weakly.WeakSum.{WeakSum}
use Rattle.hprof_keeps.proofs.Held.{are_retained}
use Rattle.hprof_by_label.specs.declared.node_labels.NodeLabels.{NodeLabels}
use Rattle.hprof_suspects.specs.LabelSums.{sum_of}
use Rattle.hprof_suspects.specs.SuspectsText.{AreTexts, IsPartText, IsSuspectsPart, IsSuspectsText, NoMore, OneMore, Suspect}
use Rattle.hprof_suspects.specs.SuspectsText.{chain_lines, piece_line, suspect_line}
use Rattle.hprof_suspects.specs.Told.{AreTold, AreToldOf, IsFoundOut, IsTold, nodes_of, report_text, told_text}
use Rattle.hprof_suspects.specs.declared.told.Told.{Told}

module _ (ids : IdSize) (facts : List FactValue) (retained : Retained) (labels : NodeLabels) where
  -- one more
  pub told_more : (suspects : List Suspect) (told : List Told) → AreToldOf ids facts retained labels suspects told → (suspect : Suspect)
      (own : Told) → IsTold ids facts retained labels suspect own
      → AreToldOf ids facts retained labels (suspects ++ suspect ∷ []) (told ++ own ∷ [])
  told_more [] told none suspect own is =
      subst (λ (l : List Told). AreToldOf ids facts retained labels (suspect ∷ []) (l ++ own ∷ [])) (sym none) (is, refl)
  told_more (first ∷ suspects) [] never suspect own is = absurd never
  told_more (first ∷ suspects) (one ∷ told) are suspect own is = (are.0, told_more suspects told are.1 suspect own is)

  -- ---- in print

  module _ (found : Findings) where
    told_is_text : (suspect : Suspect) (told : Told) → IsTold ids facts retained labels suspect told
        → IsPartText ids facts found (retained_in retained) (total_of retained) suspect.part suspect.pieces
        (told_text found retained labels told)
    told_is_text suspect told is = record {
      chain = nodes_of retained told;
      is_chain = is.chain;
      sums = map (sum_of labels) told.lines.items;
      are_sums = is.sums;
      is = ap (λ (pieces : ℕ). suspect_line (total_of retained) pieces ++ (chain_lines found (retained_in retained) (nodes_of retained told)
          ++ flat_map piece_line (map (sum_of labels) told.lines.items))) is.pieces;
    }

    are_texts : (suspects : List Suspect) (told : List Told) → AreToldOf ids facts retained labels suspects told
        → AreTexts ids facts found (retained_in retained) (total_of retained) suspects (flat_map (told_text found retained labels) told)
    are_texts [] told none =
        subst (λ (l : List Told). AreTexts ids facts found (retained_in retained) (total_of retained) []
        (flat_map (told_text found retained labels) l)) (sym none) NoMore
    are_texts (suspect ∷ suspects) [] never = absurd never
    are_texts (suspect ∷ suspects) (own ∷ told) are =
        subst (AreTexts ids facts found (retained_in retained) (total_of retained) (suspect ∷ suspects))
        (sym (flat_map-cons (told_text found retained labels) own told))
        (OneMore suspect suspects (told_text found retained labels own) (flat_map (told_text found retained labels) told)
        (told_is_text suspect own are.0) (are_texts suspects told are.1))

    is_part : (told : List Told) → AreTold ids facts retained labels told
        → IsSuspectsPart ids facts found (retained_in retained) (total_of retained) (flat_map (told_text found retained labels) told)
    is_part told are = elim are [
      | inl none ↦ inl (none.0, ap (flat_map (told_text found retained labels)) none.1)
      | inr some ↦ inr (some.0, some.1, some.2, are_texts some.1 told some.3)
    ]

    -- it is the report
    pub report_is : IsConsistent facts → AreFindings ids facts found → (weakly : WeakSum) (told : List Told)
        → IsFoundOut ids facts retained labels weakly told → IsSuspectsText ids facts (report_text found retained labels weakly told)
    report_is agree are_found weakly told is = record {
      agree = agree;
      found = found;
      are_found = are_found;
      retained = retained_in retained;
      are_retained = are_retained ids facts retained is.tree;
      total = total_of retained;
      is_total = is.tree.total;
      weakly = weak.sum_of weakly;
      are_weakly = is.sum;
      behind = flat_map (told_text found retained labels) told;
      is_behind = is_part told is.are_told;
      is = refl;
    }
