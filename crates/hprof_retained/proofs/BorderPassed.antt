-- The border, as a pass finds it.
use Rattle.std.specs.Prelude.{◌↔◌, Contains}
use Rattle.std.proofs.Common.{◌≡◌, ◌⊎◌, ◌∙◌, ℕ, List, [], ◌∷◌, refl, sym, ap, subst, inl, inr, arith}
use Rattle.hprof_values.specs.declared.ids.IdSize.{IdSize}
use Rattle.hprof_items.specs.FactValue.{FactValue}
use Rattle.hprof_edges.specs.LeftOut.{fields_in}
use Rattle.hprof_edges.specs.declared.left_out.LeftOut.{LeftOut}
use Rattle.hprof_passes.specs.Passing.{IsWhole, TakesObjects, objects_among}
use Rattle.hprof_reach.specs.Nodes.{IsClassNode}
use Rattle.hprof_reach.proofs.TableNodes.{IsGiven, same_given}
use Rattle.hprof_retained.specs.Border.{AreAround, IsOnBorder, IsOutside}
use Rattle.hprof_retained.specs.BorderTaken.{TakesBorder}
use Rattle.hprof_retained.specs.Tree.{place_of}
use Rattle.hprof_retained.specs.declared.border_sink.BorderSink.{BorderSink}
use Rattle.hprof_retained.specs.declared.retained.Retained.{Retained}
use Rattle.hprof_retained.proofs.BorderLists.{all_around, border_nodes, other_objects, sorted_around}
use Rattle.hprof_retained.proofs.WeaklyFound.{same_classes}

-- ---- what one object gives, and those behind it

module _ (Gives : FactValue → ℕ → Type 0) where
  none_given : (old new : List ℕ) → old ≡ new → (node : ℕ) → Contains new node ↔ (Contains old node ⊎ IsGiven Gives [] node)
  none_given old new same node = (
    λ has. inl (subst (λ (l : List ℕ). Contains l node) (sym same) has),
    λ either. elim either [
      | inl has ↦ subst (λ (l : List ℕ). Contains l node) same has
      | inr is ↦ absurd is.has
    ],
  )

  one_given : (old mid new : List ℕ) (object : FactValue) (objects : List FactValue)
      → ((node : ℕ) → Contains mid node ↔ (Contains old node ⊎ Gives object node))
      → ((node : ℕ) → Contains new node ↔ (Contains mid node ⊎ IsGiven Gives objects node)) → (node : ℕ)
      → Contains new node ↔ (Contains old node ⊎ IsGiven Gives (object ∷ objects) node)
  one_given old mid new object objects first rest node = (
    λ has. elim ((rest node).0 has) [
      | inl there ↦ elim ((first node).0 there) [
        | inl was ↦ inl was
        | inr gives ↦ inr (record { fact = object; has = inl refl; gives = gives })
      ]
      | inr is ↦ inr (record { fact = is.fact; has = inr is.has; gives = is.gives })
    ],
    λ either. (rest node).1 (elim either [
      | inl was ↦ inl ((first node).1 (inl was))
      | inr is ↦ elim is.has [
        | inl same ↦ inl ((first node).1 (inr (subst (λ (f : FactValue). Gives f node) same is.gives)))
        | inr later ↦ inr (record { fact = is.fact; has = later; gives = is.gives })
      ]
    ]),
  )

-- ---- the objects, one by one

module _ (ids : IdSize) (retained : Retained) (weak : LeftOut) where
  -- what objects give stands on both sides
  record IsGivenAround (objects : List FactValue) (old new : BorderSink) : Type 0 where
    pub others : (node : ℕ) → Contains new.border.others.items node
        ↔ (Contains old.border.others.items node ⊎ IsGiven (IsOutside retained) objects node)
    pub sources : (node : ℕ) → Contains new.border.sources.items node
        ↔ (Contains old.border.sources.items node ⊎ IsGiven (IsOnBorder (fields_in weak) retained) objects node)

  given_around : (objects : List FactValue) (old new : BorderSink) → old.retained.now ≡ retained → old.border.weak.now ≡ weak
      → TakesObjects (λ one size object other. TakesBorder object one other) ids old objects new → IsGivenAround objects old new
  given_around [] old new tree fields same = record {
    others = none_given (IsOutside retained) old.border.others.items new.border.others.items
        (ap (λ (s : BorderSink). s.border.others.items) same);
    sources = none_given (IsOnBorder (fields_in weak) retained) old.border.sources.items new.border.sources.items
        (ap (λ (s : BorderSink). s.border.sources.items) same);
  }
  given_around (object ∷ objects) old new tree fields took =
      let mid = took.0 in
      let first = took.1 in
      let rest = given_around objects mid new (first.retained ∙ tree) (first.weak ∙ fields) took.2 in
      record {
        others = one_given (IsOutside retained) old.border.others.items mid.border.others.items new.border.others.items object objects
            (subst (λ (t : Retained). (node : ℕ) → Contains mid.border.others.items node
            ↔ (Contains old.border.others.items node ⊎ IsOutside t object node)) tree first.others) rest.others;
        sources = one_given (IsOnBorder (fields_in weak) retained) old.border.sources.items mid.border.sources.items
            new.border.sources.items object objects
            (subst (λ (t : Retained). (node : ℕ) → Contains mid.border.sources.items node
            ↔ (Contains old.border.sources.items node ⊎ IsOnBorder (fields_in weak) t object node)) tree
            (subst (λ (w : LeftOut). (node : ℕ) → Contains mid.border.sources.items node
            ↔ (Contains old.border.sources.items node ⊎ IsOnBorder (fields_in w) old.retained.now object node)) fields first.sources))
            rest.sources;
      }

  -- ---- all

  nothing_before : (list : List ℕ) (Holds : ℕ → Type 0) → ((node : ℕ) → Contains list node ↔ Holds node) → (node : ℕ)
      → Contains list node ↔ (Contains [] node ⊎ Holds node)
  nothing_before list Holds are node = (
    λ has. inr ((are node).0 has),
    λ either. elim either [ inl none ↦ absurd (let low = none.1 in omega arith) | inr holds ↦ (are node).1 holds ],
  )

  pub around_over : (facts all : List FactValue) → IsWhole ids facts all → (old new : BorderSink) → old.retained.now ≡ retained
      → old.border.weak.now ≡ weak
      → ((node : ℕ) → Contains old.border.others.items node ↔ (IsClassNode facts node × (place_of retained node ≡ 0)))
      → old.border.sources.items ≡ [] → TakesObjects (λ one size object other. TakesBorder object one other) ids old (objects_among all) new
      → (sorted : List ℕ) → ((node : ℕ) → Contains sorted node ↔ Contains new.border.others.items node)
      → AreAround all (fields_in weak) retained sorted new.border.sources.items
  around_over facts all whole old new tree fields classes none took sorted same =
      let given = given_around (objects_among all) old new tree fields took in
      let are_classes : (node : ℕ) → Contains old.border.others.items node ↔ (IsClassNode all node × (place_of retained node ≡ 0)) =
      λ node. (
        λ has. (let is = (classes node).0 has in ((same_classes ids facts all whole node).0 is.0, is.1)),
        λ is. (classes node).1 ((same_classes ids facts all whole node).1 is.0, is.1),
      ) in
      sorted_around retained all (fields_in weak) new.border.others.items sorted new.border.sources.items same (
      all_around retained all (fields_in weak) [] old.border.others.items new.border.others.items old.border.sources.items
      new.border.sources.items refl
      (nothing_before old.border.others.items (λ (node : ℕ). IsClassNode all node × (place_of retained node ≡ 0)) are_classes)
      (same_given (IsGiven (IsOutside retained) (objects_among all)) _ old.border.others.items new.border.others.items
      (other_objects retained all) given.others) none
      (same_given (IsGiven (IsOnBorder (fields_in weak) retained) (objects_among all)) _ old.border.sources.items
      new.border.sources.items (border_nodes retained (fields_in weak) all) given.sources))
