-- What can be decided of nodes and of places.
use Rattle.std.proofs.Common.{◌≡◌, ◌≤◌, ◌++◌, ℕ, List, Option, Some, None, codes, refl, subst, inl, inr, arith}
use Rattle.std.proofs.lemmas.Bool.{both_ways, cases_Bool, cases_lt}
use Rattle.std.proofs.lemmas.Slice.Eq.{bytes_eq-Decides}
use Rattle.std.specs.Str.{bytes_eq}
use Rattle.hprof_items.specs.FactValue.{FactValue, Instance, ObjArray, PrimArray}
use Rattle.hprof_rows.specs.Conflict.{IsConsistent}
use Rattle.hprof_heap.specs.Found.{IsObjectFound}
use Rattle.hprof_naming.specs.TypeWord.{type_word}
use Rattle.hprof_naming.proofs.Lookups.{object_exists, object_once}
use Rattle.hprof_meaning.proofs.LabelTexts.{bare_exists}
use Rattle.hprof_retained.proofs.Deciding.{Decided}
use Rattle.hprof_by_label.specs.NodeLabel.{IsNodeLabel}
use Rattle.hprof_by_label.proofs.OneLabel.{one_node_label}
use Rattle.hprof_suspects.specs.Groups.{HaveOneLabel, IsClassAlone}

pub le_decided : (a b : ℕ) → Decided (a ≤ b)
le_decided a b = elim (cases_lt b a) [ inl more ↦ inr (λ less. omega arith) | inr less ↦ inl less ]

pub list_decided : (xs ys : List ℕ) → Decided (xs ≡ ys)
list_decided xs ys = elim (cases_Bool (bytes_eq xs ys)) [
  | inl equal ↦ inl ((bytes_eq-Decides xs ys).0 equal)
  | inr unequal ↦ inr (λ same. both_ways (bytes_eq xs ys) unequal ((bytes_eq-Decides xs ys).1 same))
]

module _ (facts : List FactValue) where
  -- a node has a label
  pub label_exists : (node : ℕ) → (label : List ℕ) × IsNodeLabel facts node label
  label_exists node = go (object_exists facts node).0 (object_exists facts node).1 where
    go : (object : Option FactValue) → IsObjectFound facts node object → (label : List ℕ) × IsNodeLabel facts node label
    go None found = (codes "java/lang/Class", (None, found, refl))
    go (Some (PrimArray id trace elem bytes)) found =
        (type_word elem ++ codes "[]", (Some (PrimArray id trace elem bytes), found, refl))
    go (Some (Instance id trace class bytes)) found =
        let label = bare_exists facts class in (label.0, (Some (Instance id trace class bytes), found, label.1))
    go (Some (ObjArray id trace class elements)) found =
        let label = bare_exists facts class in (label.0, (Some (ObjArray id trace class elements), found, label.1))
    go (Some other) found = let is = found.1 in absurd cc

  module _ (agree : IsConsistent facts) where
    pub alone_decided : (node : ℕ) → Decided (IsClassAlone facts node)
    alone_decided node = go (object_exists facts node).0 (object_exists facts node).1 where
      go : (object : Option FactValue) → IsObjectFound facts node object → Decided (IsClassAlone facts node)
      go None found = inl found
      go (Some object) found = inr (λ alone.
          let clash = object_once facts agree node (Some object) None found alone in absurd cc)

    pub has_label_decided : (node : ℕ) (label : List ℕ) → Decided (IsNodeLabel facts node label)
    has_label_decided node label =
        let own = label_exists node in
        elim (list_decided own.0 label) [
          | inl same ↦ inl (subst (IsNodeLabel facts node) same own.1)
          | inr other ↦ inr (λ is. other (one_node_label facts agree node own.0 label own.1 is))
        ]

    pub alike_decided : (one other : ℕ) → Decided (HaveOneLabel facts one other)
    alike_decided one other =
        let own = label_exists one in
        elim (has_label_decided other own.0) [
          | inl too ↦ inl (own.0, own.1, too)
          | inr apart ↦ inr (λ alike.
              apart (subst (IsNodeLabel facts other) (one_node_label facts agree one alike.0 own.0 alike.1 own.1) alike.2))
        ]
