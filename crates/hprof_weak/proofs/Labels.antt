-- What names say of classes.
use Rattle.std.specs.Prelude.{◌↔◌, IfNone, IfSome}
use Rattle.std.specs.Option.{option_copied}
use Rattle.std.proofs.Common.{◌≡◌, ℕ, List, Option, Some, None, Bor, ap, subst}
use Rattle.hprof_items.specs.FactValue.{FactValue}
use Rattle.hprof_rows.specs.Conflict.{IsConsistent}
use Rattle.hprof_heap.specs.ClassName.{NamesClass}
use Rattle.hprof_heap.specs.Names.{HasName, HasNoName}
use Rattle.hprof_naming.proofs.FirstLoads.{one_class_name}
use Rattle.hprof_naming.specs.Called.{IsCalled}

-- ---- names that are found

module _ (facts : List FactValue) (name : ℕ) where
  -- what is found is what the name has
  pub found_name : (found : Option (Bor (List ℕ))) → IfSome found (λ bytes. HasName facts name bytes.now)
      → IfSome found (λ bytes. (other : List ℕ) → HasName facts name other → bytes.now ≡ other) → IfNone found (HasNoName facts name)
      → (word : List ℕ) → HasName facts name word ↔ (option_copied found ≡ Some word)
  found_name None has only none word = (λ is. absurd (none word is), λ e. absurd cc)
  found_name (Some bytes) has only none word = (
    λ is. ap Some (only word is),
    λ e. let same : bytes.now ≡ word = cc in subst (HasName facts name) same has,
  )

-- ---- classes that are called

module _ (facts : List FactValue) (agree : IsConsistent facts) (class : ℕ) where
  pub called_so : (name : ℕ) (found : Option (List ℕ)) → NamesClass facts class (Some name)
      → ((word : List ℕ) → HasName facts name word ↔ (found ≡ Some word))
      → (label : List ℕ) → IsCalled facts class label ↔ (found ≡ Some label)
  called_so name found names are label = (
    λ called.
        let same : Some called.name ≡ Some name = one_class_name facts class (Some called.name) (Some name) agree called.names names in
        let name_is : called.name ≡ name = cc in
        (are label).0 (subst (λ (n : ℕ). HasName facts n label) name_is called.has),
    λ e. record { name = name; names = names; has = (are label).1 e },
  )
