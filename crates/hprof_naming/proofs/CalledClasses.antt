-- Where facts agree, it can be told whether a class is called by a word.
use Rattle.std.proofs.Common.{◌≡◌, ℕ, List, Option, Some, None, ◌⊎◌, inl, inr, sym, subst}
use Rattle.std.specs.Prelude.{bytes_eq}
use Rattle.std.proofs.lemmas.Bool.{cases_Bool}
use Rattle.std.proofs.lemmas.Bool.Decides.{not_from_Decides}
use Rattle.std.proofs.lemmas.Slice.Eq.{bytes_eq-Decides}
use Rattle.hprof_items.specs.FactValue.{FactValue}
use Rattle.hprof_rows.specs.Conflict.{IsConsistent}
use Rattle.hprof_heap.proofs.NameFacts.{Found, NotFound, look_up, one_name}
use Rattle.hprof_heap.specs.ClassName.{NamesClass}
use Rattle.hprof_heap.specs.Names.{HasName}
use Rattle.hprof_naming.proofs.FirstLoads.{class_name_exists, one_class_name}
use Rattle.hprof_naming.specs.Called.{IsCalled}

abbrev pub OneOrNot : Type 0 → Type 0
OneOrNot P = P ⊎ (¬ P)

module _ (facts : List FactValue) (agree : IsConsistent facts) (word : List ℕ) where
  pub has_name_or_not : (name : ℕ) → OneOrNot (HasName facts name word)
  has_name_or_not name = elim (look_up facts name) [
    | NotFound none ↦ inr (λ has. none word has)
    | Found bytes has ↦ elim (cases_Bool (bytes_eq bytes word)) [
      | inl same ↦ inl (subst (λ (b : List ℕ). HasName facts name b) ((bytes_eq-Decides bytes word).0 same) has)
      | inr apart ↦ inr (λ has_too.
          not_from_Decides (bytes_eq bytes word) (bytes_eq-Decides bytes word) apart (one_name facts name bytes word agree has has_too))
    ]
  ]

  -- a class of another name is not called so
  pub not_called : (class name : ℕ) → NamesClass facts class (Some name) → ¬ (HasName facts name word) → ¬ (IsCalled facts class word)
  not_called class name names none is =
      let same : Some name ≡ Some is.name = one_class_name facts class (Some name) (Some is.name) agree names is.names in
      let one : name ≡ is.name = cc in
      none (subst (λ (n : ℕ). HasName facts n word) (sym one) is.has)

  pub called_or_not : (class : ℕ) → OneOrNot (IsCalled facts class word)
  called_or_not class = by_name (class_name_exists facts class).0 (class_name_exists facts class).1 where
    by_name : (name : Option ℕ) → NamesClass facts class name → OneOrNot (IsCalled facts class word)
    by_name None none = inr (λ is. none is.names.serial is.names.trace is.name is.names.loaded)
    by_name (Some name) names = elim (has_name_or_not name) [
      | inl is ↦ inl (record { name = name; names = names; has = is })
      | inr apart ↦ inr (not_called class name names apart)
    ]
