-- If facts agree, they have a report `retained`.
use Rattle.std.proofs.Common.{◌≡◌, ◌++◌, ◌∙◌, ℕ, Bool, true, false, List, [], ◌∷◌, Option, Some, None, codes, refl, sym, ap, subst, inl}
use Rattle.std.proofs.Common.{inr}
use Rattle.std.specs.Prelude.{bytes_eq}
use Rattle.std.specs.List.{flat_map}
use Rattle.std.specs.List.Sorted.{IsStrictlySortedBy}
use Rattle.std.proofs.lemmas.Bool.{both_ways}
use Rattle.std.proofs.lemmas.Slice.Eq.{bytes_eq-Decides}
use Rattle.hprof_values.specs.declared.ids.IdSize.{IdSize}
use Rattle.hprof_items.specs.FactValue.{FactValue, Instance, ObjArray, PrimArray}
use Rattle.hprof_rows.specs.Conflict.{IsConsistent}
use Rattle.hprof_heap.specs.Found.{IsObjectFound}
use Rattle.hprof_dominators.specs.Walks.{IsOn}
use Rattle.hprof_dominators.proofs.Listed.{dominator_reached}
use Rattle.hprof_histogram.proofs.Joining.{join_one}
use Rattle.hprof_histogram.proofs.Members.{Contains-from_in, IsIn, in_from_Contains}
use Rattle.hprof_meaning.proofs.LabelTexts.{bare_exists}
use Rattle.hprof_naming.proofs.Lookups.{object_exists}
use Rattle.hprof_naming.specs.TypeWord.{type_word}
use Rattle.hprof_reach.specs.Reaching.{IsStart, IsStepBy}
use Rattle.hprof_weak.specs.Weak.{IsStrong}
use Rattle.hprof_retained.specs.Retained.{Dominates, IsHeld}
use Rattle.hprof_retained.proofs.Deciding.{Decided, both_decided}
use Rattle.hprof_retained.proofs.HeldOrNot.{dominates_or_not, held_or_not}
use Rattle.hprof_retained.proofs.NodeLists.{held_dumped, held_nodes}
use Rattle.hprof_retained.proofs.SomeSums.{sum_exists}
use Rattle.hprof_by_label.specs.LabelRows.{AreRows, IsHeldWith, IsKeptBy, IsRow, RowValue, row_cmp}
use Rattle.hprof_by_label.specs.NodeLabel.{IsFoundLabel, IsNodeLabel}
use Rattle.hprof_by_label.specs.RetainedText.{IsRetainedText, row_line}
use Rattle.hprof_by_label.proofs.OneLabel.{one_node_label}
use Rattle.hprof_by_label.proofs.RowOrder.{row_cmp_total, tied_rows}

-- ---- labels

found_label_exists : (facts : List FactValue) (node : ℕ) (object : Option FactValue) → IsObjectFound facts node object
    → (label : List ℕ) × IsFoundLabel facts object label
found_label_exists facts node None found = (codes "java/lang/Class", refl)
found_label_exists facts node (Some (PrimArray id trace elem bytes)) found = (type_word elem ++ codes "[]", refl)
found_label_exists facts node (Some (Instance id trace class bytes)) found = bare_exists facts class
found_label_exists facts node (Some (ObjArray id trace class elements)) found = bare_exists facts class
found_label_exists facts node (Some object) found = absurd (let is = found.1 in cc)

-- a node has a label
pub node_label_exists : (facts : List FactValue) (node : ℕ) → (label : List ℕ) × IsNodeLabel facts node label
node_label_exists facts node =
    let object = object_exists facts node in
    let label = found_label_exists facts node object.0 object.1 in
    (label.0, (object.0, object.1, label.1))

-- one of some holds or none does
some_or_none : (P : ℕ → Type 0) → ((node : ℕ) → Decided (P node)) → (nodes : List ℕ) → Decided ((node : ℕ) × IsOn node nodes × P node)
some_or_none P decide [] = inr (λ some. some.1)
some_or_none P decide (node ∷ nodes) = elim (decide node) [
  | inl holds ↦ inl (node, inl refl, holds)
  | inr not ↦ elim (some_or_none P decide nodes) [
    | inl some ↦ inl (some.0, inr some.1, some.2)
    | inr none ↦ inr (λ some. elim some.1 [
      | inl here ↦ not (subst P here some.2)
      | inr later ↦ none (some.0, later, some.2)
    ])
  ]
]

module _ (ids : IdSize) (facts : List FactValue) (agree : IsConsistent facts) where
  abbrev label_of : ℕ → List ℕ
  label_of node = (node_label_exists facts node).0

  label_or_not : (label : List ℕ) (node : ℕ) → Decided (IsNodeLabel facts node label)
  label_or_not label node = by_test (bytes_eq (label_of node) label) refl where
    by_test : (b : Bool) → bytes_eq (label_of node) label ≡ b → Decided (IsNodeLabel facts node label)
    by_test true same =
        inl (subst (IsNodeLabel facts node) ((bytes_eq-Decides (label_of node) label).0 same) (node_label_exists facts node).1)
    by_test false other =
        inr (λ is. both_ways _ other ((bytes_eq-Decides (label_of node) label).1
        (one_node_label facts agree node (label_of node) label (node_label_exists facts node).1 is)))

  kept_or_not : (label : List ℕ) (node : ℕ) → Decided (IsKeptBy ids facts label node)
  kept_or_not label node =
      let nodes = held_nodes ids facts agree in
      elim (some_or_none (λ x. IsNodeLabel facts x label × Dominates ids facts x node)
      (λ x. both_decided (label_or_not label x) (dominates_or_not ids facts agree x node)) nodes.0) [
        | inl some ↦ inl (some.0, some.2.0, some.2.1)
        | inr none ↦ inr (λ kept.
            none (
              kept.0,
              (nodes.2 kept.0).1 (dominator_reached (IsStart facts) (IsStepBy (IsStrong facts) ids facts) kept.0 node kept.2),
              (kept.1, kept.2),
            ))
      ]

  -- ---- rows

  row_exists : (node : ℕ) → IsHeld ids facts node → (row : RowValue) × IsRow ids facts row × (row.label ≡ label_of node)
  row_exists node held =
      let label = label_of node in
      let own = sum_exists ids facts agree (IsHeldWith ids facts label)
      (λ x. both_decided (held_or_not ids facts agree x) (label_or_not label x)) (λ x with_it. held_dumped ids facts agree x with_it.0) in
      let kept = sum_exists ids facts agree (IsKeptBy ids facts label) (kept_or_not label)
      (λ x by. held_dumped ids facts agree x by.2.reached) in (
        record { label = label; retained = kept.0.bytes; bytes = own.0.bytes; count = own.0.objects },
        record { some = (node, (held, (node_label_exists facts node).1)); own = own.1; retained = kept.1.0 },
        refl,
      )

  -- the rows of the labels of some nodes, in order
  record RowsOf (nodes : List ℕ) : Type 0 where
    all : List RowValue
    sorted : IsStrictlySortedBy row_cmp all
    right : (row : RowValue) → IsIn row all → IsRow ids facts row
    there : (node : ℕ) → IsOn node nodes → (row : RowValue) × IsIn row all × (row.label ≡ label_of node)

  rows_of : (nodes : List ℕ) → ((node : ℕ) → IsOn node nodes → IsHeld ids facts node) → RowsOf nodes
  unfolding IsStrictlySortedBy
  rows_of [] held = record { all = []; sorted = tt; right = λ row has. absurd has; there = λ node on. absurd on }
  rows_of (node ∷ nodes) held =
      let rest = rows_of nodes (λ other on. held other (inr on)) in
      let row = row_exists node (held node (inl refl)) in
      let more = join_one row_cmp row_cmp_total tied_rows row.0 rest.all rest.sorted in
      record {
        all = more.all;
        sorted = more.sorted;
        right = λ one has. elim (more.only one has) [
          | inl same ↦ subst (IsRow ids facts) (sym same) row.1
          | inr later ↦ rest.right one later
        ];
        there = λ other on. elim on [
          | inl here ↦ (row.0, more.has, row.2 ∙ sym (ap label_of here))
          | inr later ↦ let at = rest.there other later in (at.0, more.keeps at.0 at.1, at.2)
        ];
      }

  rows_exist : (rows : List RowValue) × AreRows ids facts rows
  rows_exist =
      let nodes = held_nodes ids facts agree in
      let rows = rows_of nodes.0 (λ node on. (nodes.2 node).0 on) in (
        rows.all,
        record {
          ordered = rows.sorted;
          right = λ row has. rows.right row (in_from_Contains rows.all row has);
          all = λ label node with_it.
              let there = rows.there node ((nodes.2 node).1 with_it.0) in
              let text = one_node_label facts agree node (label_of node) label (node_label_exists facts node).1 with_it.1 in
              (there.0, Contains-from_in rows.all there.0 there.1, there.2 ∙ text);
        },
      )

  pub retained_exists : (text : List ℕ) × IsRetainedText ids facts text
  retained_exists =
      let rows = rows_exist in
      (flat_map row_line rows.0, record { agree = agree; rows = rows.0; are_rows = rows.1; is = refl })
