-- If facts agree, there are suspects, in order.
use Rattle.std.specs.Prelude.{map}
use Rattle.std.proofs.Common.{◌≡◌, ◌≢◌, ◌≤◌, ◌+◌, ◌*◌, ℕ, List, [], ◌∷◌, Option, Some, None, refl, sym, ap, subst, inl, inr, arith}
use Rattle.std.specs.Cmp.{IsTotalOrder}
use Rattle.std.specs.Ordering.{nat_cmp, ordering_then}
use Rattle.std.specs.declared.cmp.Ordering.{Ordering}
use Rattle.std.specs.declared.cmp.Ordering.TheVariants.{Less, Equal, Greater}
use Rattle.std.proofs.lemmas.Cmp.{nat_cmp_total, on_total, then_total}
use Rattle.hprof_values.specs.declared.ids.IdSize.{IdSize}
use Rattle.hprof_items.specs.FactValue.{FactValue}
use Rattle.hprof_rows.specs.Conflict.{IsConsistent}
use Rattle.hprof_dominators.specs.Walks.{IsOn}
use Rattle.hprof_histogram.proofs.Members.{Contains-from_in, IsIn, in_from_Contains}
use Rattle.hprof_histogram.proofs.RowOrder.{then_tied}
use Rattle.hprof_retained.specs.Retained.{IsTotal, Sum}
use Rattle.hprof_retained.proofs.NodeLists.{IsListOf, held_dumped, nodes_exist}
use Rattle.hprof_retained.proofs.OneSums.{same_sum_by}
use Rattle.hprof_keeps.specs.Order.{AreRetained}
use Rattle.hprof_suspects.specs.Groups.{IsBelow}
use Rattle.hprof_suspects.specs.Parts.{HasPieces, IsPart, IsSuspect, Roots}
use Rattle.hprof_suspects.specs.SuspectsText.{AreSuspects, Suspect, id_of, suspect_cmp}
use Rattle.hprof_suspects.proofs.Decisions.{le_decided}
use Rattle.hprof_suspects.proofs.InOrder.{equal_numbers, first_tied, in_order, less_numbers, rises_too}
use Rattle.hprof_suspects.proofs.NodeParts.{part_decided, part_held, part_pieces}
use Rattle.hprof_suspects.proofs.NodeSome.{held_is_node}
use Rattle.hprof_suspects.proofs.OneText.{suspects_total}

-- ---- an order that tells all apart

abbrev told : Option ℕ → ℕ
told None = 0
told (Some node) = node + 1

one_told : (one other : Option ℕ) → told one ≡ told other → one ≡ other
one_told None None same = refl
one_told None (Some other) same = absurd (omega arith)
one_told (Some one) None same = absurd (omega arith)
one_told (Some one) (Some other) same = let equal : one ≡ other = omega arith in ap Some equal

abbrev full_cmp : Suspect → Suspect → Ordering
full_cmp one other = ordering_then (suspect_cmp one other) (nat_cmp (told one.part) (told other.part))

full_total : IsTotalOrder full_cmp
full_total = then_total suspects_total (on_total (λ (suspect : Suspect). told suspect.part) nat_cmp_total)

full_tied : (one other : Suspect) → full_cmp one other ≡ Equal → one ≡ other
full_tied one other e =
    let parts = nat_cmp (told one.part) (told other.part) in
    let names = nat_cmp (id_of one.part) (id_of other.part) in
    let first = first_tied (suspect_cmp one other) parts e in
    let part = one_told one.part other.part (equal_numbers (told one.part) (told other.part) (then_tied (suspect_cmp one other) parts e)) in
    let pieces = equal_numbers other.pieces one.pieces (first_tied (nat_cmp other.pieces one.pieces) names first) in
    let same : one.pieces ≡ other.pieces = sym pieces in
    λ i. record { part = part i; pieces = same i }

module _ (ids : IdSize) (facts : List FactValue) (agree : IsConsistent facts) (retained : ℕ → Sum) (are : AreRetained ids facts retained)
    (total : Sum) (is_total : IsTotal ids facts total) where
  abbrev Part : Option ℕ → Type 0
  Part part = IsPart ids facts retained total part

  abbrev Right : Suspect → Type 0
  Right suspect = IsSuspect ids facts retained total suspect.part suspect.pieces

  one_pieces : (part : Option ℕ) (one other : ℕ) → HasPieces ids facts retained total part one
      → HasPieces ids facts retained total part other → one ≡ other
  one_pieces part one other is too =
      let own = is.are_below in
      let also = too.are_below in
      let sums = same_sum_by (λ node. (retained node).bytes) (λ node. IsBelow ids facts part node × Part (Some node)) own.nodes also.nodes
      own.once also.once own.exact also.exact in
      let first = own.bytes_are in
      let second = also.bytes_are in
      let here = is.is in
      let there = too.is in
      omega arith

  -- the suspects among some parts
  record Gathered (parts : List (Option ℕ)) : Type 0 where
    all : List Suspect
    right : (suspect : Suspect) → IsIn suspect all → Right suspect
    keeps : (part : Option ℕ) → IsIn part parts → (pieces : ℕ) → IsSuspect ids facts retained total part pieces
        → IsIn (record { part = part; pieces = pieces }) all

  gathered : (parts : List (Option ℕ)) → ((part : Option ℕ) → IsIn part parts → Part part) → Gathered parts
  gathered [] each = record { all = []; right = λ suspect on. absurd on; keeps = λ part on pieces is. absurd on }
  gathered (first ∷ parts) each =
      more (part_pieces ids facts agree retained are total is_total first (each first (inl refl)))
      (gathered parts (λ part on. each part (inr on))) where
        more : (pieces : ℕ) × HasPieces ids facts retained total first pieces → Gathered parts → Gathered (first ∷ parts)
        more own rest =
            let same_pieces : (part : Option ℕ) → part ≡ first → (pieces : ℕ) → IsSuspect ids facts retained total part pieces
            → pieces ≡ own.0 =
            λ part same pieces is. one_pieces first pieces own.0
            (subst (λ (p : Option ℕ). HasPieces ids facts retained total p pieces) same is.has_pieces) own.1 in
            elim (le_decided total.bytes (10 * own.0)) [
              | inr few ↦ record {
                all = rest.all;
                right = rest.right;
                keeps = λ part on pieces is. elim on [
                  | inl same ↦
                      let equal = same_pieces part same pieces is in
                      let enough = is.enough in
                      absurd (few (subst (λ (p : ℕ). total.bytes ≤ 10 * p) equal enough))
                  | inr later ↦ rest.keeps part later pieces is
                ];
              }
              | inl enough ↦ record {
                all = record { part = first; pieces = own.0 } ∷ rest.all;
                right = λ suspect on. elim on [
                  | inl same ↦ subst Right (sym same)
                      (record { is_part = each first (inl refl); has_pieces = own.1; enough = enough })
                  | inr later ↦ rest.right suspect later
                ];
                keeps = λ part on pieces is. elim on [
                  | inl same ↦
                      let equal = same_pieces part same pieces is in
                      inl (λ i. record { part = same i; pieces = equal i })
                  | inr later ↦ inr (rest.keeps part later pieces is)
                ];
              }
            ]

  -- ---- all parts

  some_in : (nodes : List ℕ) (node : ℕ) → IsOn node nodes → IsIn (Some node) (map Some nodes)
  some_in [] node on = absurd on
  some_in (first ∷ nodes) node on = elim on [ inl same ↦ inl (ap Some same) | inr later ↦ inr (some_in nodes node later) ]

  in_some : (nodes : List ℕ) → ((node : ℕ) → IsOn node nodes → Part (Some node)) → (part : Option ℕ) → IsIn part (map Some nodes)
      → Part part
  in_some [] each part on = absurd on
  in_some (first ∷ nodes) each part on = elim on [
    | inl same ↦ subst Part (sym same) (each first (inl refl))
    | inr later ↦ in_some nodes (λ node on_too. each node (inr on_too)) part later
  ]

  part_nodes : (nodes : List ℕ) × IsListOf (λ node. Part (Some node)) nodes
  part_nodes = nodes_exist ids facts agree (λ node. Part (Some node)) (part_decided ids facts agree retained are total is_total)
      (λ node part. held_dumped ids facts agree node (part_held ids facts agree retained are total is_total node part))

  -- ---- in order

  not_zero : (node : ℕ) → Part (Some node) → node ≢ 0
  not_zero node part = (held_is_node ids facts node (part_held ids facts agree retained are total is_total node part)).0

  one_id : (one other : Option ℕ) → Part one → Part other → id_of one ≡ id_of other → told one ≡ told other
  one_id None None is too same = refl
  one_id None (Some other) is too same = absurd (not_zero other too (sym same))
  one_id (Some one) None is too same = absurd (not_zero one is same)
  one_id (Some one) (Some other) is too same = ap (λ (n : ℕ). n + 1) same

  rises : (one other : Suspect) → Right one → Right other → full_cmp one other ≡ Less → suspect_cmp one other ≡ Less
  rises one other is too less = go (suspect_cmp one other) refl less where
    go : (order : Ordering) → suspect_cmp one other ≡ order → ordering_then order (nat_cmp (told one.part) (told other.part)) ≡ Less
        → order ≡ Less
    go Less e less = refl
    go Equal e less =
        let name = equal_numbers (id_of one.part) (id_of other.part)
        (then_tied (nat_cmp other.pieces one.pieces) (nat_cmp (id_of one.part) (id_of other.part)) e) in
        let same = one_id one.part other.part is.is_part too.is_part name in
        let before = less_numbers (told one.part) (told other.part) less in
        absurd (omega arith)
    go Greater e less = absurd cc

  pub all_suspects : (suspects : List Suspect) × AreSuspects ids facts retained total suspects
  all_suspects = go part_nodes.0 part_nodes.1 where
    go : (nodes : List ℕ) → IsListOf (λ node. Part (Some node)) nodes → (suspects : List Suspect)
        × AreSuspects ids facts retained total suspects
    go nodes list =
        let so = gathered (None ∷ map Some nodes) (λ part on. elim on [
          | inl same ↦ subst Part (sym same) Roots
          | inr later ↦ in_some nodes (λ node there. (list.exact node).0 there) part later
        ]) in
        let ordered = in_order full_cmp full_total full_tied so.all in
        let right : (suspect : Suspect) → IsIn suspect ordered.all → Right suspect =
        λ suspect on. so.right suspect (ordered.only suspect on) in (
          ordered.all,
          record {
            ordered = rises_too full_cmp suspect_cmp ordered.all (λ one x on on_too. rises one x (right one on) (right x on_too))
                ordered.sorted;
            right = λ suspect has. right suspect (in_from_Contains ordered.all suspect has);
            all = λ part pieces is. Contains-from_in ordered.all (record { part = part; pieces = pieces })
                (ordered.keeps (record { part = part; pieces = pieces }) (so.keeps part (there part is.is_part) pieces is));
          },
        ) where
          there : (part : Option ℕ) → Part part → IsIn part (None ∷ map Some nodes)
          there None is = inl refl
          there (Some node) is = inr (some_in nodes node ((list.exact node).1 is))
