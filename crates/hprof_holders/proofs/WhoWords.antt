-- The lines of the report `who`, from the texts that stand in them.
use Rattle.std.proofs.Common.{◌≡◌, ℕ, Bool, List, ◌++◌, Option, Some, None, refl, ◌∙◌, sym, ap, append_assoc, codes}
use Rattle.std.specs.Fmt.{decimal}
use Rattle.std.specs.Option.{option_map}
use Rattle.hprof_text.specs.Identifier.{id_digits}
use Rattle.hprof_items.specs.FactValue.{FactValue}
use Rattle.hprof_heap.specs.Classes.{ClassValue}
use Rattle.hprof_edges.specs.declared.edge.Edge.{Edge}
use Rattle.hprof_lines.specs.Line.{nothing_line}
use Rattle.hprof_describe.specs.Findings.{Findings}
use Rattle.hprof_describe.specs.Nodes.{kind_text, node_text}
use Rattle.hprof_holders.specs.Steps.{EdgeFindings, step_kind, step_text}
use Rattle.hprof_holders.specs.Sums.{SumValue}
use Rattle.hprof_holders.specs.WhoText.{edge_kind, edge_line, none_line, sum_line}

module _ (found : Findings) (names : EdgeFindings) (edge : Edge) where
  pub line_of_parts : (node step : List ℕ) → node ≡ node_text found edge.from → step ≡ step_text found.naming names edge
      → node ++ (codes " " ++ (step ++ codes "\n")) ≡ edge_line found names edge
  line_of_parts node step e f =
      sym (append_assoc (node ++ codes " ") step (codes "\n") ∙ append_assoc node (codes " ") (step ++ codes "\n"))
      ∙ ap (λ (n : List ℕ). n ++ codes " " ++ step ++ codes "\n") e
      ∙ ap (λ (s : List ℕ). node_text found edge.from ++ codes " " ++ s ++ codes "\n") f

  pub kind_of_parts : (kind step : List ℕ) → kind ≡ kind_text found edge.from → step ≡ step_kind found.naming names edge
      → kind ++ (codes " " ++ step) ≡ edge_kind found names edge
  kind_of_parts kind step e f =
      sym (append_assoc kind (codes " ") step) ∙ ap (λ (k : List ℕ). k ++ codes " " ++ step) e
      ∙ ap (λ (s : List ℕ). kind_text found edge.from ++ codes " " ++ s) f

pub sum_parts : (sum : SumValue) → decimal sum.count ++ (codes " times " ++ (sum.text ++ codes "\n")) ≡ sum_line sum
sum_parts sum =
    sym (append_assoc (decimal sum.count ++ codes " times ") sum.text (codes "\n")
    ∙ append_assoc (decimal sum.count) (codes " times ") (sum.text ++ codes "\n"))

-- what has neither a class dump nor an object dump
pub no_none_line : (id : ℕ) (class : Option ClassValue) (object : Option FactValue) → class ≡ None → object ≡ None
    → nothing_line id ≡ none_line id class object
no_none_line id None None none none_too = refl
no_none_line id None (Some fact) none none_too = absurd cc
no_none_line id (Some dump) object none none_too = absurd cc

-- what has a class dump or an object dump
pub some_none_line : (id : ℕ) (class : Option ClassValue) (object : Option FactValue) → (class ≡ None → object ≡ None → ⊥)
    → codes "nothing refers to " ++ (id_digits id ++ codes "\n") ≡ none_line id class object
some_none_line id None None some = absurd (some refl refl)
some_none_line id None (Some fact) some = sym (append_assoc (codes "nothing refers to ") (id_digits id) (codes "\n"))
some_none_line id (Some dump) object some = sym (append_assoc (codes "nothing refers to ") (id_digits id) (codes "\n"))

-- a text about a step is that of its edge
module _ (names : EdgeFindings) (own edge : Edge) (same : own ≡ edge) where
  pub told_name : (name : Option ℕ) → name ≡ names.name edge → name ≡ names.name own
  told_name name e = e ∙ sym (ap names.name same)

  pub told_weak : (is_weak : Bool) → is_weak ≡ names.is_weak edge → is_weak ≡ names.is_weak own
  told_weak is_weak e = e ∙ sym (ap names.is_weak same)

-- where a value is none, so is what it is a value of
pub none_of_value : {X Y : Type 0} (f : X → Y) (found : Option X) → option_map f found ≡ None → found ≡ None
none_of_value f None e = refl
none_of_value f (Some x) e = absurd cc
