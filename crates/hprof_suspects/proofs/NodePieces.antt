-- If facts agree, the pieces of a part have sums by label, in order.
use Rattle.std.proofs.Common.{◌≡◌, ◌≢◌, ◌≤◌, ◌*◌, ℕ, List, [], ◌∷◌, Option, Some, length, refl, sym, subst, inl, inr, arith}
use Rattle.std.specs.Cmp.{IsTotalOrder}
use Rattle.std.specs.Cmp.Lexicographic.{slice_cmp}
use Rattle.std.specs.Ordering.{nat_cmp, ordering_then}
use Rattle.std.specs.declared.cmp.Ordering.TheVariants.{Equal}
use Rattle.std.proofs.lemmas.Cmp.{back_total, nat_cmp_total, nat_list_cmp_total, on_total, then_total}
use Rattle.std.proofs.lemmas.Map.Lookups.{exact_bytes}
use Rattle.hprof_histogram.proofs.RowOrder.{then_tied}
use Rattle.hprof_values.specs.declared.ids.IdSize.{IdSize}
use Rattle.hprof_items.specs.FactValue.{FactValue}
use Rattle.hprof_rows.specs.Conflict.{IsConsistent}
use Rattle.hprof_dominators.specs.Walks.{IsOn}
use Rattle.hprof_histogram.proofs.Members.{Contains-from_in, IsIn, in_from_Contains}
use Rattle.hprof_retained.specs.Retained.{IsTotal, Sum}
use Rattle.hprof_retained.proofs.Deciding.{Decided, both_decided, not_decided}
use Rattle.hprof_retained.proofs.NodeLists.{IsListOf, nodes_exist}
use Rattle.hprof_retained.proofs.OneSums.{one_count, same_sum_by}
use Rattle.hprof_keeps.specs.Order.{AreRetained}
use Rattle.hprof_by_label.specs.NodeLabel.{IsNodeLabel}
use Rattle.hprof_by_label.proofs.OneLabel.{one_node_label}
use Rattle.hprof_suspects.specs.Groups.{IsBelow}
use Rattle.hprof_suspects.specs.Parts.{AddUp, IsPart, IsPiece, IsPieceSum, PieceSum}
use Rattle.hprof_suspects.specs.SuspectsText.{ArePieceSums, piece_cmp}
use Rattle.hprof_suspects.proofs.Decisions.{has_label_decided, label_exists, le_decided}
use Rattle.hprof_suspects.proofs.InOrder.{equal_numbers, first_tied, in_order}
use Rattle.hprof_suspects.proofs.NodeParts.{Added, added, below_decided, below_dumped, part_decided}

pub pieces_total : IsTotalOrder piece_cmp
pieces_total =
    then_total (back_total (on_total (λ (sum : PieceSum). sum.bytes) nat_cmp_total))
    (then_total (back_total (on_total (λ (sum : PieceSum). sum.count) nat_cmp_total))
    (on_total (λ (sum : PieceSum). sum.label) nat_list_cmp_total))

pub pieces_tied : (one other : PieceSum) → piece_cmp one other ≡ Equal → one ≡ other
pieces_tied one other e =
    let text = slice_cmp nat_cmp one.label other.label in
    let rest = ordering_then (nat_cmp other.count one.count) text in
    let second = then_tied (nat_cmp other.bytes one.bytes) rest e in
    let bytes : one.bytes ≡ other.bytes = sym (equal_numbers other.bytes one.bytes (first_tied (nat_cmp other.bytes one.bytes) rest e)) in
    let count : one.count ≡ other.count = sym (equal_numbers other.count one.count
    (first_tied (nat_cmp other.count one.count) text second)) in
    let label : one.label ≡ other.label = exact_bytes one.label other.label (then_tied (nat_cmp other.count one.count) text second) in
    λ i. record { label = label i; bytes = bytes i; count = count i }

counted : (nodes : List ℕ) (count node : ℕ) → IsOn node nodes → count ≡ length nodes → count ≢ 0
counted [] count node on many = absurd on
counted (one ∷ nodes) count node on many = λ none. absurd (omega arith)

first_on : (nodes : List ℕ) (count : ℕ) → count ≢ 0 → count ≡ length nodes → (node : ℕ) × IsOn node nodes
first_on [] count some many = absurd (some many)
first_on (node ∷ nodes) count some many = (node, inl refl)

module _ (ids : IdSize) (facts : List FactValue) (agree : IsConsistent facts) (retained : ℕ → Sum) (are : AreRetained ids facts retained)
    (total : Sum) (is_total : IsTotal ids facts total) (part : Option ℕ) (pieces : ℕ) where
  abbrev Loose : ℕ → Type 0
  Loose node = IsBelow ids facts part node × (IsPart ids facts retained total (Some node) → ⊥)

  abbrev Sums : PieceSum → Type 0
  Sums sum = IsPieceSum ids facts retained total part sum

  loose_decided : (node : ℕ) → Decided (Loose node)
  loose_decided node = both_decided (below_decided ids facts agree retained are total is_total part node)
      (not_decided (part_decided ids facts agree retained are total is_total node))

  piece_decided : (label : List ℕ) (node : ℕ) → Decided (IsPiece ids facts retained total part label node)
  piece_decided label node = elim (loose_decided node) [
    | inr none ↦ inr (λ piece. none (piece.0, piece.1))
    | inl loose ↦ elim (has_label_decided facts agree node label) [
      | inl is ↦ inl (loose.0, loose.1, is)
      | inr none ↦ inr (λ piece. none piece.2)
    ]
  ]

  sum_of : (label : List ℕ) → Added ids facts agree retained are total is_total (IsPiece ids facts retained total part label)
  sum_of label = added ids facts agree retained are total is_total (IsPiece ids facts retained total part label) (piece_decided label)
      (λ node piece. below_dumped ids facts agree retained are total is_total part node piece.0)

  one_sum : (one other : PieceSum) → one.label ≡ other.label → Sums one → Sums other → one ≡ other
  one_sum one other same is too = go same_add where
    same_add : AddUp ids facts retained total (IsPiece ids facts retained total part one.label) other.bytes other.count
    same_add = subst (λ (label : List ℕ). AddUp ids facts retained total (IsPiece ids facts retained total part label)
        other.bytes other.count) (sym same) too.add_up

    go : AddUp ids facts retained total (IsPiece ids facts retained total part one.label) other.bytes other.count → one ≡ other
    go also =
        let own = is.add_up in
        let sums = same_sum_by (λ node. (retained node).bytes) (IsPiece ids facts retained total part one.label) own.nodes also.nodes
        own.once also.once own.exact also.exact in
        let first = own.bytes_are in
        let second = also.bytes_are in
        let bytes : one.bytes ≡ other.bytes = omega arith in
        let count : one.count ≡ other.count = one_count (IsPiece ids facts retained total part one.label) one.count other.count
        (record { nodes = own.nodes; once = own.once; exact = own.exact; is = own.count_is })
        (record { nodes = also.nodes; once = also.once; exact = also.exact; is = also.count_is }) in
        λ i. record { label = same i; bytes = bytes i; count = count i }

  -- the sums of the labels of some pieces
  record Listed (nodes : List ℕ) : Type 0 where
    all : List PieceSum
    right : (sum : PieceSum) → IsIn sum all → Sums sum × (pieces ≤ 10 * sum.bytes)
    keeps : (node : ℕ) → IsOn node nodes → (sum : PieceSum) → IsNodeLabel facts node sum.label → Sums sum → pieces ≤ 10 * sum.bytes
        → IsIn sum all

  listed : (nodes : List ℕ) → ((node : ℕ) → IsOn node nodes → Loose node) → Listed nodes
  listed [] loose = record {
    all = [];
    right = λ sum on. absurd on;
    keeps = λ node on sum has is enough. absurd on;
  }
  listed (first ∷ nodes) loose = more (label_exists facts first) (listed nodes (λ node on. loose node (inr on))) where
    more : (label : List ℕ) × IsNodeLabel facts first label → Listed nodes → Listed (first ∷ nodes)
    more label rest =
        let sum = sum_of label.0 in
        let new : PieceSum = record { label = label.0; bytes = sum.bytes; count = sum.count } in
        let own = loose first (inl refl) in
        let is_new : Sums new = record {
          some = counted sum.adds.nodes sum.count first ((sum.adds.exact first).1 (own.0, own.1, label.1)) sum.adds.count_is;
          add_up = sum.adds;
        } in
        let same_sum : (node : ℕ) → node ≡ first → (other : PieceSum) → IsNodeLabel facts node other.label → Sums other → other ≡ new =
        λ node same other has is. one_sum other new
        (one_node_label facts agree first other.label label.0 (subst (λ (n : ℕ). IsNodeLabel facts n other.label) same has) label.1)
        is is_new in
        elim (le_decided pieces (10 * sum.bytes)) [
          | inr few ↦ record {
            all = rest.all;
            right = rest.right;
            keeps = λ node on other has is enough. elim on [
              | inl same ↦ absurd (few (subst (λ (s : PieceSum). pieces ≤ 10 * s.bytes) (same_sum node same other has is) enough))
              | inr later ↦ rest.keeps node later other has is enough
            ];
          }
          | inl enough ↦ record {
            all = new ∷ rest.all;
            right = λ other on. elim on [
              | inl same ↦ subst (λ (s : PieceSum). Sums s × (pieces ≤ 10 * s.bytes)) (sym same) (is_new, enough)
              | inr later ↦ rest.right other later
            ];
            keeps = λ node on other has is much. elim on [
              | inl same ↦ inl (same_sum node same other has is)
              | inr later ↦ inr (rest.keeps node later other has is much)
            ];
          }
        ]

  pub part_sums : (sums : List PieceSum) × ArePieceSums ids facts retained total part pieces sums
  part_sums = go nodes.0 nodes.1 where
    nodes : (nodes : List ℕ) × IsListOf Loose nodes
    nodes = nodes_exist ids facts agree Loose loose_decided
        (λ node loose. below_dumped ids facts agree retained are total is_total part node loose.0)

    go : (nodes : List ℕ) → IsListOf Loose nodes → (sums : List PieceSum) × ArePieceSums ids facts retained total part pieces sums
    go nodes list =
        let so = listed nodes (λ node on. (list.exact node).0 on) in
        let ordered = in_order piece_cmp pieces_total pieces_tied so.all in (
          ordered.all,
          record {
            ordered = ordered.sorted;
            right = λ sum has. so.right sum (ordered.only sum (in_from_Contains ordered.all sum has));
            all = λ sum is enough.
                let first = first_on is.add_up.nodes sum.count is.some is.add_up.count_is in
                let piece = (is.add_up.exact first.0).0 first.1 in
                Contains-from_in ordered.all sum (ordered.keeps sum
                (so.keeps first.0 ((list.exact first.0).1 (piece.0, piece.1)) sum piece.2 is enough));
          },
        )
