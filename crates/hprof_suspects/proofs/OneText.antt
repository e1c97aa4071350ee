-- Facts that agree have one report.
use Rattle.std.specs.Prelude.{nat_lt, take, drop, if◌then◌else◌}
use Rattle.std.specs.List.{flat_map}
use Rattle.std.proofs.Common.{◌≡◌, ◌-◌, ◌++◌, ◌∙◌, ℕ, zero, suc, List, [], ◌∷◌, Option, Some, None, codes, length, refl, sym, ap, subst}
use Rattle.std.proofs.Common.{inl, inr}
use Rattle.std.specs.Fmt.{decimal}
use Rattle.std.specs.Cmp.{IsTotalOrder}
use Rattle.std.proofs.lemmas.Cmp.{back_total, nat_cmp_total, on_total, then_total}
use Rattle.hprof_values.specs.declared.ids.IdSize.{IdSize}
use Rattle.hprof_items.specs.FactValue.{FactValue}
use Rattle.hprof_rows.specs.Conflict.{IsConsistent}
use Rattle.hprof_describe.specs.Findings.{Findings}
use Rattle.hprof_describe.specs.Nodes.{node_text}
use Rattle.hprof_describe.proofs.OneFinding.{one_findings}
use Rattle.hprof_dominators.proofs.Listed.{dominator_reached}
use Rattle.hprof_histogram.proofs.Members.{Contains-from_in, IsIn, in_from_Contains, one_sorted}
use Rattle.hprof_reach.specs.Reaching.{IsStart, IsStepBy}
use Rattle.hprof_weak.specs.Weak.{IsStrong}
use Rattle.hprof_retained.specs.Retained.{IsHeld, Sum}
use Rattle.hprof_retained.specs.Weakly.{IsWeaklyHeld}
use Rattle.hprof_retained.proofs.OneSums.{one_sum}
use Rattle.hprof_keeps.specs.KeepsText.{above_lines, retained_line, sum_words, total_line, weakly_line}
use Rattle.hprof_keeps.specs.Order.{AreRetained}
use Rattle.hprof_keeps.proofs.OneKeeps.{one_dominators}
use Rattle.hprof_suspects.specs.Parts.{PieceSum}
use Rattle.hprof_suspects.specs.SuspectsText.{ArePieceSums, AreSuspects, AreTexts, IsChain, IsPartText, IsSuspectsPart, IsSuspectsText}
use Rattle.hprof_suspects.specs.SuspectsText.{NoMore, OneMore, Suspect, chain_lines, id_of, piece_line, suspect_cmp, suspect_line}
use Rattle.hprof_suspects.proofs.OtherSums.{piece_sum_too, same_sum, suspect_too}
use Rattle.hprof_suspects.proofs.NodePieces.{pieces_total}

pub suspects_total : IsTotalOrder suspect_cmp
suspects_total =
    then_total (back_total (on_total (λ (suspect : Suspect). suspect.pieces) nat_cmp_total))
    (on_total (λ (suspect : Suspect). id_of suspect.part) nat_cmp_total)

in_taken : (x n : ℕ) (xs : List ℕ) → IsIn x (take n xs) → IsIn x xs
in_taken x zero xs on = absurd on
in_taken x (suc n) [] on = absurd on
in_taken x (suc n) (y ∷ xs) on = elim on [ inl same ↦ inl same | inr later ↦ inr (in_taken x n xs later) ]

in_dropped : (x n : ℕ) (xs : List ℕ) → IsIn x (drop n xs) → IsIn x xs
in_dropped x zero xs on = on
in_dropped x (suc n) [] on = absurd on
in_dropped x (suc n) (y ∷ xs) on = inr (in_dropped x n xs on)

module _ (found : Findings) (retained other : ℕ → Sum) where
  line_same : (node : ℕ) → retained node ≡ other node → retained_line found retained node ≡ retained_line found other node
  unfolding retained_line
  line_same node same = ap (λ (s : Sum). sum_words s ++ codes " " ++ node_text found node ++ codes "\n") same

  lines_same : (nodes : List ℕ) → ((node : ℕ) → IsIn node nodes → retained node ≡ other node)
      → above_lines found retained nodes ≡ above_lines found other nodes
  lines_same [] same = refl
  lines_same (node ∷ nodes) same =
      let first = line_same node (same node (inl refl)) in
      let rest = lines_same nodes (λ later on. same later (inr on)) in
      λ i. first i ++ rest i

  chain_same : (nodes : List ℕ) → ((node : ℕ) → IsIn node nodes → retained node ≡ other node)
      → chain_lines found retained nodes ≡ chain_lines found other nodes
  chain_same nodes same =
      let all = lines_same nodes same in
      let first = lines_same (take 10 nodes) (λ node on. same node (in_taken node 10 nodes on)) in
      let last = lines_same (drop (length nodes - 10) nodes) (λ node on. same node (in_dropped node (length nodes - 10) nodes on)) in
      λ i. if nat_lt 20 (length nodes)
      then first i ++ (codes ".. " ++ decimal (length nodes - 20) ++ codes " more\n" ++ last i)
      else all i

module _ (ids : IdSize) (facts : List FactValue) (agree : IsConsistent facts) (found : Findings) (total : Sum) (retained other : ℕ → Sum)
    (are : AreRetained ids facts retained) (too : AreRetained ids facts other) where
  one_suspects : (one others : List Suspect) → AreSuspects ids facts retained total one → AreSuspects ids facts other total others
      → one ≡ others
  one_suspects one others is theirs =
      one_sorted suspects_total one others is.ordered theirs.ordered
      (λ suspect on. in_from_Contains others suspect (theirs.all suspect.part suspect.pieces
      (suspect_too ids facts agree total retained other are too suspect.part suspect.pieces
      (is.right suspect (Contains-from_in one suspect on)))))
      (λ suspect on. in_from_Contains one suspect (is.all suspect.part suspect.pieces
      (suspect_too ids facts agree total other retained too are suspect.part suspect.pieces
      (theirs.right suspect (Contains-from_in others suspect on)))))

  module _ (part : Option ℕ) (pieces : ℕ) where
    one_sums : (one others : List PieceSum) → ArePieceSums ids facts retained total part pieces one
        → ArePieceSums ids facts other total part pieces others → one ≡ others
    one_sums one others is theirs =
        one_sorted pieces_total one others is.ordered theirs.ordered
        (λ sum on.
        let own = is.right sum (Contains-from_in one sum on) in
        in_from_Contains others sum (theirs.all sum (piece_sum_too ids facts agree total retained other are too part sum own.0) own.1))
        (λ sum on.
        let own = theirs.right sum (Contains-from_in others sum on) in
        in_from_Contains one sum (is.all sum (piece_sum_too ids facts agree total other retained too are part sum own.0) own.1))

  one_chain : (part : Option ℕ) (one others : List ℕ) → IsChain ids facts part one → IsChain ids facts part others → one ≡ others
  one_chain None one others is theirs = is ∙ sym theirs
  one_chain (Some node) one others is theirs = one_dominators ids facts node one others is theirs

  chain_held : (part : Option ℕ) (chain : List ℕ) → IsChain ids facts part chain → (node : ℕ) → IsIn node chain → IsHeld ids facts node
  chain_held None chain is node on = absurd (subst (IsIn node) is on)
  chain_held (Some top) chain is node on =
      dominator_reached (IsStart facts) (IsStepBy (IsStrong facts) ids facts) node top ((is.exact node).0 (Contains-from_in chain node on))

  one_part : (part : Option ℕ) (pieces : ℕ) (text others : List ℕ) → IsPartText ids facts found retained total part pieces text
      → IsPartText ids facts found other total part pieces others → text ≡ others
  one_part part pieces text others is theirs =
      let chain = one_chain part is.chain theirs.chain is.is_chain theirs.is_chain in
      let lines = chain_same found retained other is.chain
      (λ node on. same_sum ids facts agree total retained other are too node (chain_held part is.chain is.is_chain node on))
      ∙ ap (chain_lines found other) chain in
      let sums = ap (flat_map piece_line) (one_sums part pieces is.sums theirs.sums is.are_sums theirs.are_sums) in
      is.is ∙ (λ i. suspect_line total pieces ++ (lines i ++ sums i)) ∙ sym theirs.is

  -- ---- the texts of suspects

  record First (sums : ℕ → Sum) (suspect : Suspect) (suspects : List Suspect) (text : List ℕ) : Type 0 where
    own : List ℕ
    is_own : IsPartText ids facts found sums total suspect.part suspect.pieces own
    rest : List ℕ
    are_rest : AreTexts ids facts found sums total suspects rest
    is : text ≡ own ++ rest

  first_text : (sums : ℕ → Sum) (suspect : Suspect) (suspects all : List Suspect) (text : List ℕ)
      → AreTexts ids facts found sums total all text
      → all ≡ suspect ∷ suspects → First sums suspect suspects text
  first_text sums suspect suspects _ _ NoMore same = absurd cc
  first_text sums suspect suspects _ _ (OneMore one more text rest is_own are_rest) same =
      let head : one ≡ suspect = cc in
      let tail : more ≡ suspects = cc in
      record {
        own = text;
        is_own = subst (λ (s : Suspect). IsPartText ids facts found sums total s.part s.pieces text) head is_own;
        rest = rest;
        are_rest = subst (λ (s : List Suspect). AreTexts ids facts found sums total s rest) tail are_rest;
        is = refl;
      }

  no_text : (sums : ℕ → Sum) (all : List Suspect) (text : List ℕ) → AreTexts ids facts found sums total all text → all ≡ [] → text ≡ []
  no_text sums _ _ NoMore same = refl
  no_text sums _ _ (OneMore one more text rest is_own are_rest) same = absurd cc

  one_texts : (suspects : List Suspect) (text others : List ℕ) → AreTexts ids facts found retained total suspects text
      → AreTexts ids facts found other total suspects others → text ≡ others
  one_texts [] text others are_texts theirs = no_text retained [] text are_texts refl ∙ sym (no_text other [] others theirs refl)
  one_texts (suspect ∷ suspects) text others are_texts theirs =
      let first = first_text retained suspect suspects (suspect ∷ suspects) text are_texts refl in
      let second = first_text other suspect suspects (suspect ∷ suspects) others theirs refl in
      let own = one_part suspect.part suspect.pieces first.own second.own first.is_own second.is_own in
      let rest = one_texts suspects first.rest second.rest first.are_rest second.are_rest in
      first.is ∙ (λ i. own i ++ rest i) ∙ sym second.is

  one_behind : (text others : List ℕ) → IsSuspectsPart ids facts found retained total text
      → IsSuspectsPart ids facts found other total others
      → text ≡ others
  one_behind text others (inl none) (inl theirs) = none.1 ∙ sym theirs.1
  one_behind text others (inl none) (inr theirs) = absurd (theirs.0 none.0)
  one_behind text others (inr some) (inl theirs) = absurd (some.0 theirs.0)
  one_behind text others (inr some) (inr theirs) =
      let suspects = one_suspects some.1 theirs.1 some.2 theirs.2 in
      one_texts theirs.1 text others (subst (λ (s : List Suspect). AreTexts ids facts found retained total s text) suspects some.3) theirs.3

pub text_once : (ids : IdSize) (facts : List FactValue) → IsConsistent facts → (one other : List ℕ) → IsSuspectsText ids facts one
    → IsSuspectsText ids facts other → one ≡ other
text_once ids facts agree one other is too =
    let found = one_findings ids facts agree is.found too.found is.are_found too.are_found in
    let total = one_sum ids facts agree (IsHeld ids facts) is.total too.total is.is_total too.is_total in
    let weakly = one_sum ids facts agree (IsWeaklyHeld ids facts) is.weakly too.weakly is.are_weakly too.are_weakly in
    let P : Findings → Sum → Type 0 = λ f t. IsSuspectsPart ids facts f is.retained t is.behind in
    let moved = subst (λ (t : Sum). P too.found t) total (subst (λ (f : Findings). P f is.total) found is.is_behind) in
    let behind = one_behind ids facts agree too.found too.total is.retained too.retained is.are_retained too.are_retained is.behind
    too.behind
    moved too.is_behind in
    is.is ∙ (λ i. total_line (total i) ++ weakly_line (weakly i) ++ behind i) ∙ sym too.is
