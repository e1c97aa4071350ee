-- Kinds of nodes and steps, from their parts.
use Rattle.std.specs.Prelude.{bytes_eq, ◌&&◌}
use Rattle.std.proofs.Common.{◌≡◌, ℕ, Bool, true, false, List, ◌++◌, Option, Some, refl, sym, ap, ◌∙◌}
use Rattle.std.specs.Option.{option_map}
use Rattle.std.proofs.lemmas.Slice.Eq.{bytes_eq-Decides}
use Rattle.hprof_values.specs.declared.ids.IdSize.{IdSize}
use Rattle.hprof_items.specs.FactValue.{FactValue}
use Rattle.hprof_rows.specs.Conflict.{IsConsistent}
use Rattle.hprof_heap.specs.declared.class_dump.ClassDump.{ClassDump}
use Rattle.hprof_heap.specs.declared.object_dump.ObjectDump.{ObjectDump}
use Rattle.hprof_heap.specs.ClassDump.{AnswersClass, class_value}
use Rattle.hprof_heap.specs.ObjectDump.{AnswersObject, fact_of_object}
use Rattle.hprof_edges.specs.declared.edge.Edge.{Edge}
use Rattle.hprof_naming.specs.Naming.{Naming}
use Rattle.hprof_reports.specs.RefsText.{via_word}
use Rattle.hprof_describe.specs.Findings.{AreFindings, Findings}
use Rattle.hprof_describe.specs.Nodes.{kind_of, kind_text}
use Rattle.hprof_describe.proofs.FoundOnce.{kind_found}
use Rattle.hprof_holders.specs.declared.steps.Step.{Step}
use Rattle.hprof_holders.specs.Steps.{EdgeFindings, name_behind, step_kind, weak_word}
use Rattle.hprof_why.specs.Folding.{Link, is_alike}
use Rattle.hprof_why.specs.Walks.{step_by}

-- equal texts are found equal
pub found_equal : (one other : List ℕ) → one ≡ other → true ≡ bytes_eq one other
found_equal one other same = sym ((bytes_eq-Decides one other).1 same)

module _ (ids : IdSize) (facts : List FactValue) (agree : IsConsistent facts) (found : Findings) (are : AreFindings ids facts found)
    (id : ℕ) where
  -- what was found of a node tells its kind
  pub kind_told : (class was_class : Option ClassDump) (object was_object : Option ObjectDump) → AnswersClass ids facts id was_class
      → AnswersObject ids facts id was_object → was_class ≡ class → was_object ≡ object
      → kind_of found.naming id (option_map class_value class) (option_map fact_of_object object) ≡ kind_text found id
  kind_told class was_class object was_object is_class is_object same_class same_object =
      (λ i. kind_of found.naming id (option_map class_value (sym same_class i)) (option_map fact_of_object (sym same_object i)))
      ∙ kind_found ids facts agree found are id was_class was_object is_class is_object

-- steps with the same parts have one kind
pub same_words : (naming : Naming) (edges : EdgeFindings) (first next : Edge) (one other : Step) → one ≡ step_by edges first
    → other ≡ step_by edges next → (one.edge.via ≡ other.edge.via) × (one.name ≡ other.name) × (one.is_weak ≡ other.is_weak)
    → step_kind naming edges first ≡ step_kind naming edges next
unfolding step_kind
same_words naming edges first next one other is too same =
    let via : first.via ≡ next.via = sym (ap (λ (s : Step). s.edge.via) is) ∙ same.0 ∙ ap (λ (s : Step). s.edge.via) too in
    let name : edges.name first ≡ edges.name next = sym (ap (λ (s : Step). s.name) is) ∙ same.1 ∙ ap (λ (s : Step). s.name) too in
    let weak : edges.is_weak first ≡ edges.is_weak next =
    sym (ap (λ (s : Step). s.is_weak) is) ∙ same.2 ∙ ap (λ (s : Step). s.is_weak) too in
    λ i. weak_word (weak i) ++ via_word (via i) ++ name_behind naming (name i)

-- where the nodes are of one kind, the steps decide
pub both_alike : (step_kind node_kind : List ℕ) (link : Link) → bytes_eq node_kind link.node_kind ≡ true
    → bytes_eq step_kind link.step_kind ≡ is_alike step_kind node_kind link
both_alike step_kind node_kind link e =
    sym (ap (λ (b : Bool). bytes_eq step_kind link.step_kind && b) e ∙ all (bytes_eq step_kind link.step_kind)) where
      all : (b : Bool) → (b && true) ≡ b
      all true = refl
      all false = refl

pub some_is : {A : Type 0} (one other : A) → Some one ≡ Some other → one ≡ other
some_is one other same = cc
