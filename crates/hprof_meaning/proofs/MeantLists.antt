-- Lists of classes that a word means.
use Rattle.std.proofs.Common.{◌≡◌, ◌↔◌, ℕ, Bool, true, false, cond, List, [], ◌∷◌, refl, sym, ap, subst, ◌∙◌, inl, inr}
use Rattle.std.specs.List.{filter}
use Rattle.std.proofs.lemmas.Cmp.{nat_cmp_total}
use Rattle.std.proofs.lemmas.List.Kept.{IsStrictlyIncreasing-filter}
use Rattle.std.proofs.lemmas.Map.Keys.{sorted_from_strictly_increasing}
use Rattle.std.proofs.lemmas.Slice.Eq.{bytes_eq-Decides}
use Rattle.hprof_items.specs.FactValue.{FactValue}
use Rattle.hprof_rows.specs.Conflict.{IsConsistent}
use Rattle.hprof_naming.specs.MeantLabel.{Means, meant_label, slashed}
use Rattle.hprof_histogram.proofs.Members.{IsIn, Contains-from_in, in_filter, in_from_Contains, one_sorted}
use Rattle.hprof_meaning.specs.BareLabels.{AreBareLabels}
use Rattle.hprof_meaning.specs.Judgements.{is_meant, meant_of}
use Rattle.hprof_meaning.specs.MeantClasses.{AreAll, AreMeantClasses, AreMeantDumps, HasMeantLabel, IsClass, IsDumped, IsMeantClass}
use Rattle.hprof_meaning.specs.MeantClasses.{IsMeantDump}
use Rattle.hprof_meaning.proofs.LabelTexts.{one_bare_label}

-- a member of those that pass is a member, and passes
from_filter : (p : ℕ → Bool) (xs : List ℕ) (x : ℕ) → IsIn x (filter p xs) → IsIn x xs × (p x ≡ true)
from_filter p [] x has = absurd has
from_filter p (y ∷ ys) x has = by_test (from_filter p ys x) (p y) refl has where
  by_test : (IsIn x (filter p ys) → IsIn x ys × (p x ≡ true)) → (b : Bool) → p y ≡ b → IsIn x (cond b (y ∷ filter p ys) (filter p ys))
      → IsIn x (y ∷ ys) × (p x ≡ true)
  by_test later true e has = elim has [
    | inl is ↦ (inl is, ap p is ∙ e)
    | inr rest ↦ let there = later rest in (inr there.0, there.1)
  ]
  by_test later false e has = let there = later has in (inr there.0, there.1)

-- the same holds of what the lists are of
pub all_same : (Holds Says : ℕ → Type 0) (classes : List ℕ) → ((id : ℕ) → Holds id ↔ Says id) → AreAll Holds classes → AreAll Says classes
all_same Holds Says classes same are = record {
  ascend = are.ascend;
  exact = λ id. (λ has. (same id).0 ((are.exact id).0 has), λ says. (are.exact id).1 ((same id).1 says));
}

-- two such lists are one
pub one_all : (Holds : ℕ → Type 0) (one other : List ℕ) → AreAll Holds one → AreAll Holds other → one ≡ other
one_all Holds one other are too =
    one_sorted nat_cmp_total one other (sorted_from_strictly_increasing one are.ascend) (sorted_from_strictly_increasing other too.ascend)
    (λ id is. in_from_Contains other id ((too.exact id).1 ((are.exact id).0 (Contains-from_in one id is))))
    (λ id is. in_from_Contains one id ((are.exact id).1 ((too.exact id).0 (Contains-from_in other id is))))

module _ (facts : List FactValue) (agree : IsConsistent facts) (word : List ℕ) (label : ℕ → List ℕ) (are : AreBareLabels facts label) where
  has_label : (id : ℕ) → is_meant word (label id) ≡ true → HasMeantLabel facts word id
  has_label id e = record {
    label = label id;
    is_label = are id;
    means = (bytes_eq-Decides (slashed (label id)) (slashed (meant_label word))).0 e;
  }

  passes : (id : ℕ) → HasMeantLabel facts word id → is_meant word (label id) ≡ true
  passes id has =
      let same = one_bare_label facts agree id has.label (label id) has.is_label (are id) in
      (bytes_eq-Decides (slashed (label id)) (slashed (meant_label word))).1 (subst (Means word) same has.means)

  meant_of_all : (Holds : ℕ → Type 0) (classes : List ℕ) → AreAll Holds classes
      → AreAll (λ id. Holds id × HasMeantLabel facts word id) (meant_of word label classes)
  meant_of_all Holds classes all = record {
    ascend = IsStrictlyIncreasing-filter (λ id. is_meant word (label id)) classes all.ascend;
    exact = λ id. (
      λ has.
          let there = from_filter (λ id. is_meant word (label id)) classes id (in_from_Contains (meant_of word label classes) id has) in
          ((all.exact id).0 (Contains-from_in classes id there.0), has_label id there.1),
      λ is. Contains-from_in (meant_of word label classes) id
          (in_filter (λ id. is_meant word (label id)) classes id (passes id is.1) (in_from_Contains classes id ((all.exact id).1 is.0))),
    );
  }

  pub meant_classes : (classes found : List ℕ) → AreAll (IsClass facts) classes → found ≡ meant_of word label classes
      → AreMeantClasses facts word found
  meant_classes classes found all is =
      subst (AreAll (IsMeantClass facts word)) (sym is)
      (all_same (λ id. IsClass facts id × HasMeantLabel facts word id) (IsMeantClass facts word) (meant_of word label classes)
      (λ id. (λ both. record { is_class = both.0; labelled = both.1 }, λ meant. (meant.is_class, meant.labelled)))
      (meant_of_all (IsClass facts) classes all))

  pub meant_dumps : (classes found : List ℕ) → AreAll (IsDumped facts) classes → found ≡ meant_of word label classes
      → AreMeantDumps facts word found
  meant_dumps classes found all is =
      subst (AreAll (IsMeantDump facts word)) (sym is)
      (all_same (λ id. IsDumped facts id × HasMeantLabel facts word id) (IsMeantDump facts word) (meant_of word label classes)
      (λ id. (λ both. record { is_dumped = both.0; labelled = both.1 }, λ meant. (meant.is_dumped, meant.labelled)))
      (meant_of_all (IsDumped facts) classes all))
