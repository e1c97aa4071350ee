-- What is told of labels, name by name.
use Rattle.std.proofs.Common.{◌≡◌, ◌↔◌, ◌<◌, ℕ, Bool, true, false, cond, List, [], ◌∷◌, ◌++◌, Option, Some, None, refl, sym, ap, subst}
use Rattle.std.proofs.Common.{◌∙◌}
use Rattle.std.specs.BTreeMap.{BTreeMap, get, is_at}
use Rattle.std.specs.Ordering.{MatchOrdering, is_eq, nat_cmp}
use Rattle.std.specs.declared.cmp.Ordering.{Ordering}
use Rattle.std.specs.declared.cmp.Ordering.TheVariants.{Less, Equal, Greater}
use Rattle.std.proofs.Common.{append_assoc, append-nil}
use Rattle.std.proofs.lemmas.Bool.Decides.{same_from_decides}
use Rattle.std.proofs.lemmas.Cmp.{ranked}
use Rattle.std.proofs.lemmas.List.Elements.{filter-append}
use Rattle.std.proofs.lemmas.Slice.Eq.{bytes_eq-Decides}
use Rattle.hprof_items.specs.FactValue.{FactValue}
use Rattle.hprof_rows.specs.Conflict.{IsConsistent}
use Rattle.hprof_heap.specs.ClassName.{NamesClass}
use Rattle.hprof_naming.specs.MeantLabel.{Means, meant_label, slashed}
use Rattle.hprof_naming.proofs.FirstLoads.{one_class_name}
use Rattle.hprof_meaning.specs.BareLabels.{AreBareLabels, IsBareLabelOf}
use Rattle.hprof_meaning.specs.Judgements.{AreJudged, IsClassJudged, IsJudged, is_meant, meant_of}
use Rattle.hprof_meaning.proofs.LabelTexts.{one_bare_of}

-- what a comparison tells is the test
pub is_the_test : (word label : List ℕ) (is : Bool) → ((is ≡ true) ↔ Means word label) → is ≡ is_meant word label
is_the_test word label is exact =
    same_from_decides is (is_meant word label) exact (bytes_eq-Decides (slashed label) (slashed (meant_label word)))

module _ (facts : List FactValue) (agree : IsConsistent facts) where
  -- what is told of one label of a name is told of each
  pub judged_by : (word : List ℕ) (name : Option ℕ) (label : List ℕ) (is : Bool) → IsBareLabelOf facts name label
      → ((is ≡ true) ↔ Means word label) → IsJudged facts word name is
  judged_by word name label is is_label exact other is_other =
      is_the_test word label is exact ∙ ap (is_meant word) (one_bare_of facts agree name label other is_label is_other)

  -- what is told of the name of a class is told of the class
  pub class_judged_by : (word : List ℕ) (class : ℕ) (name : Option ℕ) (is : Bool) → NamesClass facts class name
      → IsJudged facts word name is
      → IsClassJudged facts word class is
  class_judged_by word class name is names judged label is_label =
      let same = one_class_name facts class is_label.0 name agree is_label.1 names in
      judged label (subst (λ (n : Option ℕ). IsBareLabelOf facts n label) same is_label.2)

-- ---- what is kept

at_is : (own name : ℕ) → is_at (nat_cmp own) name ≡ true → own ≡ name
at_is own name e = by_order (nat_cmp own name) (ranked own name _ refl) e where
  by_order : (o : Ordering) → MatchOrdering o (own < name) (own ≡ name) (name < own) → is_eq o ≡ true → own ≡ name
  by_order Less at e = absurd cc
  by_order Equal at e = at
  by_order Greater at e = absurd cc

module _ (facts : List FactValue) (word : List ℕ) where
  pub judged_more : (old new : BTreeMap ℕ Bool) (own : ℕ) (answer : Bool)
      → ((name : ℕ) → get nat_cmp new name ≡ cond (is_at (nat_cmp own) name) (Some answer) (get nat_cmp old name))
      → IsJudged facts word (Some own) answer → AreJudged facts word old → AreJudged facts word new
  judged_more old new own answer put judged are name is e = by_test (is_at (nat_cmp own) name) refl (sym (put name) ∙ e) where
    by_test : (b : Bool) → is_at (nat_cmp own) name ≡ b → cond b (Some answer) (get nat_cmp old name) ≡ Some is
        → IsJudged facts word (Some name) is
    by_test true at e =
        let same : answer ≡ is = cc in
        subst (λ (b : Bool). IsJudged facts word (Some name) b) same
        (subst (λ (n : ℕ). IsJudged facts word (Some n) answer) (at_is own name at) judged)
    by_test false at e = are name is e

  pub judged_none : (judged : BTreeMap ℕ Bool) → ((name : ℕ) → get nat_cmp judged name ≡ None) → AreJudged facts word judged
  judged_none judged none name is e = let clash : Some is ≡ None = sym e ∙ none name in absurd cc

-- ---- a loop

-- what was found, and then what is meant of what is left, is what is meant of all
pub record AreFoundTo (facts : List FactValue) (word : List ℕ) (label : ℕ → List ℕ) (classes found left : List ℕ) (judged : BTreeMap ℕ Bool)
    : Type 0 where
  pub so_far : found ++ meant_of word label left ≡ meant_of word label classes
  pub are_judged : AreJudged facts word judged

module _ (facts : List FactValue) (word : List ℕ) (label : ℕ → List ℕ) (are : AreBareLabels facts label) where
  pub found_begins : (classes found : List ℕ) (judged : BTreeMap ℕ Bool) → found ≡ [] → ((name : ℕ) → get nat_cmp judged name ≡ None)
      → AreFoundTo facts word label classes found classes judged
  found_begins classes found judged nothing none = record {
    so_far = ap (λ (l : List ℕ). l ++ meant_of word label classes) nothing;
    are_judged = judged_none facts word judged none;
  }

  pub found_more : (classes found after left rest : List ℕ) (old new : BTreeMap ℕ Bool) (class : ℕ) (is : Bool) → left ≡ class ∷ rest
      → after ≡ found ++ cond is (class ∷ []) [] → IsClassJudged facts word class is → AreJudged facts word new
      → AreFoundTo facts word label classes found left old → AreFoundTo facts word label classes after rest new
  found_more classes found after left rest old new class is e pushed judged kept to = record {
    so_far = ap (λ (l : List ℕ). l ++ meant_of word label rest) pushed
        ∙ ap (λ (b : Bool). (found ++ cond b (class ∷ []) []) ++ meant_of word label rest) (judged (label class) (are class))
        ∙ append_assoc found (meant_of word label (class ∷ [])) (meant_of word label rest)
        ∙ ap (λ (l : List ℕ). found ++ l) (sym (filter-append (λ class. is_meant word (label class)) (class ∷ []) rest))
        ∙ ap (λ (l : List ℕ). found ++ meant_of word label l) (sym e)
        ∙ to.so_far;
    are_judged = kept;
  }

  pub found_all : (classes found left : List ℕ) (judged : BTreeMap ℕ Bool) → left ≡ []
      → AreFoundTo facts word label classes found left judged
      → found ≡ meant_of word label classes
  found_all classes found left judged none to =
      sym (append-nil found) ∙ ap (λ (l : List ℕ). found ++ meant_of word label l) (sym none) ∙ to.so_far
