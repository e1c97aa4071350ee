-- If facts agree, they have a report, and it is one.
use Rattle.std.specs.Prelude.{IfOk}
use Rattle.std.specs.List.{flat_map}
use Rattle.std.proofs.Common.{◌≡◌, ◌++◌, ℕ, List, [], ◌∷◌, Option, Some, None, Result, Ok, Err, refl, inl, inr}
use Rattle.std.proofs.lemmas.Bool.{cases_eq}
use Rattle.hprof_values.specs.declared.ids.IdSize.{IdSize}
use Rattle.hprof_items.specs.FactValue.{FactValue}
use Rattle.hprof_rows.specs.Conflict.{IsConsistent}
use Rattle.hprof_edges.specs.Edges.{AnyEdge}
use Rattle.hprof_reach.specs.Reaching.{IsStart, IsStepBy}
use Rattle.hprof_weak.specs.Weak.{IsStrong}
use Rattle.hprof_describe.specs.Findings.{Findings}
use Rattle.hprof_describe.proofs.OneFinding.{findings_exist}
use Rattle.hprof_dominators.specs.Dominating as over
use Rattle.hprof_dominators.proofs.Listed.{same_reached}
use Rattle.hprof_histogram.proofs.Members.{Contains-from_in, IsIn}
use Rattle.hprof_retained.specs.Retained.{IsHeld, IsTotal, Sum}
use Rattle.hprof_retained.proofs.HeldOrNot.{steps_along}
use Rattle.hprof_retained.proofs.SomeSums.{total_exists}
use Rattle.hprof_keeps.specs.KeepsText.{IsKeepsText, total_line, weakly_line}
use Rattle.hprof_keeps.specs.Order.{AreDominators, AreRetained}
use Rattle.hprof_keeps.proofs.LargestFirst.{are_sums, sums}
use Rattle.hprof_keeps.proofs.SomeKeeps.{keeps_exists, weakly_exists}
use Rattle.hprof_suspects.specs.Parts.{IsPart}
use Rattle.hprof_suspects.specs.SuspectsText.{AreTexts, IsChain, IsPartText, IsSuspectsPart, IsSuspectsText, NoMore, OneMore, Suspect}
use Rattle.hprof_suspects.specs.SuspectsText.{chain_lines, piece_line, suspect_line}
use Rattle.hprof_suspects.proofs.NodeGroups.{walk_of}
use Rattle.hprof_suspects.proofs.NodeParts.{part_held}
use Rattle.hprof_suspects.proofs.NodePieces.{part_sums}
use Rattle.hprof_suspects.proofs.NodeSome.{held_is_node}
use Rattle.hprof_suspects.proofs.NodeSuspects.{all_suspects}
use Rattle.hprof_suspects.proofs.OneText.{text_once}

module _ (ids : IdSize) (facts : List FactValue) where
  abbrev Step : ℕ → ℕ → Type 0
  Step from to = IsStepBy (IsStrong facts) ids facts from to

  abbrev AnyStep : ℕ → ℕ → Type 0
  AnyStep from to = IsStepBy AnyEdge ids facts from to

  -- what strong references reach, references reach
  reached : (node : ℕ) → IsHeld ids facts node → over.IsReached (IsStart facts) AnyStep node
  reached node held =
      let walk = walk_of ids facts node held in
      (same_reached (IsStart facts) AnyStep node).0 (
        walk.0,
        steps_along (IsStart facts) AnyStep Step node
            (λ from to step. (record { via = step.0.via; position = step.0.position; edge = step.0.edge; holds = tt }, step.1))
            node walk.0 walk.1,
      )

module _ (ids : IdSize) (facts : List FactValue) (agree : IsConsistent facts) where
  -- its report `keeps` has them
  held_dominators : (node : ℕ) → IsHeld ids facts node → (nodes : List ℕ) × AreDominators ids facts node nodes
  held_dominators node held = go (keeps_exists ids facts agree node).0 (keeps_exists ids facts agree node).1 where
    go : (text : List ℕ) → IsKeepsText ids facts node text → (nodes : List ℕ) × AreDominators ids facts node nodes
    go text keeps = elim keeps.is [
      | inl roots ↦ absurd ((held_is_node ids facts node held).0 roots.0)
      | inr some ↦ elim some.1 [
        | inl none ↦ absurd (none.0 (held_is_node ids facts node held))
        | inr there ↦ elim there [
          | inl here ↦ (here.1.dominators, here.1.are_dominators)
          | inr other ↦ elim other [
            | inl weakly ↦ absurd (weakly.1.1 held)
            | inr not ↦ absurd (not.1 (reached ids facts node held))
          ]
        ]
      ]
    ]

module _ (ids : IdSize) (facts : List FactValue) (agree : IsConsistent facts) (found : Findings) (retained : ℕ → Sum)
    (are : AreRetained ids facts retained) (total : Sum) (is_total : IsTotal ids facts total) where
  chain : (part : Option ℕ) → IsPart ids facts retained total part → (nodes : List ℕ) × IsChain ids facts part nodes
  chain None is = ([], refl)
  chain (Some node) is = held_dominators ids facts agree node (part_held ids facts agree retained are total is_total node is)

  part_text : (part : Option ℕ) (pieces : ℕ) → IsPart ids facts retained total part → (text : List ℕ)
      × IsPartText ids facts found retained total part pieces text
  part_text part pieces is =
      let above = chain part is in
      let sums = part_sums ids facts agree retained are total is_total part pieces in (
        suspect_line total pieces ++ (chain_lines found retained above.0 ++ flat_map piece_line sums.0),
        record { chain = above.0; is_chain = above.1; sums = sums.0; are_sums = sums.1; is = refl },
      )

  texts : (suspects : List Suspect) → ((suspect : Suspect) → IsIn suspect suspects → IsPart ids facts retained total suspect.part)
      → (text : List ℕ) × AreTexts ids facts found retained total suspects text
  texts [] each = ([], NoMore)
  texts (suspect ∷ suspects) each =
      let own = part_text suspect.part suspect.pieces (each suspect (inl refl)) in
      let rest = texts suspects (λ s on. each s (inr on)) in
      (own.0 ++ rest.0, OneMore suspect suspects own.0 rest.0 own.1 rest.1)

  behind_exists : (text : List ℕ) × IsSuspectsPart ids facts found retained total text
  behind_exists = elim (cases_eq total.bytes 0) [
    | inl none ↦ ([], inl (none, refl))
    | inr some ↦
        let suspects = all_suspects ids facts agree retained are total is_total in
        let text = texts suspects.0 (λ suspect on. (suspects.1.right suspect (Contains-from_in suspects.0 suspect on)).is_part) in
        (text.0, inr (some, suspects.0, suspects.1, text.1))
  ]

-- facts that agree have a report
pub suspects_exist : (ids : IdSize) (facts : List FactValue) → IsConsistent facts → (text : List ℕ) × IsSuspectsText ids facts text
suspects_exist ids facts agree =
    let found = findings_exist ids facts agree in
    let total = total_exists ids facts agree in
    let weakly = weakly_exists ids facts agree in
    let behind = behind_exists ids facts agree found.0 (sums ids facts agree) (are_sums ids facts agree) total.0 total.1 in (
      total_line total.0 ++ weakly_line weakly.0 ++ behind.0,
      record {
        agree = agree;
        found = found.0;
        are_found = found.1;
        retained = sums ids facts agree;
        are_retained = are_sums ids facts agree;
        total = total.0;
        is_total = total.1;
        weakly = weakly.0;
        are_weakly = weakly.1;
        behind = behind.0;
        is_behind = behind.1;
        is = refl;
      },
    )

-- and only one
pub suspects_once : (ids : IdSize) (facts : List FactValue) (one other : List ℕ) → IsSuspectsText ids facts one
    → IsSuspectsText ids facts other → one ≡ other
suspects_once ids facts one other is too = text_once ids facts is.agree one other is too

-- the text that was made, or one that could be made
pub made_or_some : {A E : Type 0} (r : Result A E) (bytes : A → List ℕ) (IsText : List ℕ → Type 0) → IfOk r (λ a. IsText (bytes a))
    → (text : List ℕ) × IsText text → (text : List ℕ) × IsText text × IfOk r (λ a. bytes a ≡ text)
made_or_some (Ok a) bytes IsText is some = (bytes a, is, refl)
made_or_some (Err e) bytes IsText is some = (some.0, some.1, is)
