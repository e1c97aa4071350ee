-- Of whichever facts an object has a list of roots, in canonical order.
use Rattle.std.specs.Prelude.{◌↔◌, map}
use Rattle.std.proofs.Common.{◌≡◌, ◌==◌, ℕ, Bool, true, false, List, [], ◌∷◌, Option, Some, None, refl, sym, ap, subst, ◌∙◌, inl, inr}
use Rattle.std.specs.List.{AllByRecursion}
use Rattle.std.specs.List.Sorted.{IsStrictlySortedBy}
use Rattle.std.specs.Ordering.{is_eq}
use Rattle.std.specs.declared.cmp.Ordering.TheVariants.{Less, Equal}
use Rattle.std.proofs.lemmas.Bool.{both_ways, eq-eqb, eqb-true}
use Rattle.hprof_values.specs.declared.root.Root.{Root}
use Rattle.hprof_values.specs.contracts.root.RootOrd.TheImpl.Laws.{total-law}
use Rattle.hprof_items.specs.FactValue.{FactValue, Rooted}
use Rattle.hprof_rows.specs.Facts.{Has}
use Rattle.hprof_rows.specs.Order.{IsBefore, IsCanonicalOrder, root_cmp}
use Rattle.hprof_rows.proofs.Roots.{root_place, same_root}
use Rattle.hprof_histogram.proofs.Members.{IsIn, Contains-from_in, in_from_Contains}
use Rattle.hprof_histogram.proofs.Joining.{join_one}
use Rattle.hprof_reach.specs.Reaching.{root_id}
use Rattle.hprof_reach.specs.Roots.{AreRootsOf, root_in}

-- roots that compare as equal are one
root_tied : (one other : Root) → root_cmp one other ≡ Equal → one ≡ other
root_tied one other e = let same : Rooted one ≡ Rooted other = same_root one other (ap is_eq e) in cc

-- a fact that is a root, and one that is none
root_is : (fact : FactValue) (root : Root) → root_in fact ≡ Some root → fact ≡ Rooted root
root_is (Rooted own) root e = cc
root_is _ root e = absurd cc

no_root : (fact : FactValue) (root : Root) → root_in fact ≡ None → Rooted root ≡ fact → ⊥
no_root fact root none is = let some : Some root ≡ None = ap root_in is ∙ none in cc

module _ (id : ℕ) where
  -- the roots of the object among some facts
  record RootsAmong (facts : List FactValue) : Type 0 where
    pub all : List Root
    pub sorted : IsStrictlySortedBy root_cmp all
    pub exact : (root : Root) → IsIn root all ↔ (Has facts (Rooted root) × (root_id root ≡ id))

  -- one root of the object more
  with_root : (own : Root) (facts : List FactValue) → root_id own ≡ id → RootsAmong facts → RootsAmong (Rooted own ∷ facts)
  with_root own facts is_own before =
      let more = join_one root_cmp total-law root_tied own before.all before.sorted in
      record {
        all = more.all;
        sorted = more.sorted;
        exact = λ root. (
          λ there. elim (more.only root there) [
            | inl is ↦ (inl (ap Rooted is), ap root_id is ∙ is_own)
            | inr was ↦ let has = (before.exact root).0 was in (inr has.0, has.1)
          ],
          λ has. elim has.0 [
            | inl is ↦ let same : root ≡ own = cc in subst (λ (r : Root). IsIn r more.all) (sym same) more.has
            | inr later ↦ more.keeps root ((before.exact root).1 (later, has.1))
          ],
        );
      }

  -- a fact more that is no root of the object
  without_root : (fact : FactValue) (facts : List FactValue) → ((root : Root) → Rooted root ≡ fact → root_id root ≡ id → ⊥)
      → RootsAmong facts → RootsAmong (fact ∷ facts)
  without_root fact facts none before = record {
    all = before.all;
    sorted = before.sorted;
    exact = λ root. (
      λ there. (let has = (before.exact root).0 there in (inr has.0, has.1)),
      λ has. elim has.0 [
        | inl is ↦ absurd (none root is has.1)
        | inr later ↦ (before.exact root).1 (later, has.1)
      ],
    );
  }

  roots_among : (facts : List FactValue) → RootsAmong facts
  unfolding IsStrictlySortedBy
  roots_among [] = record { all = []; sorted = tt; exact = λ root. (λ there. absurd there, λ has. absurd has.0) }
  roots_among (fact ∷ facts) = by_root (root_in fact) refl (roots_among facts) where
    by_id : (own : Root) → fact ≡ Rooted own → (test : Bool) → (root_id own == id) ≡ test → RootsAmong facts → RootsAmong (fact ∷ facts)
    by_id own is true e before =
        subst (λ (f : FactValue). RootsAmong (f ∷ facts)) (sym is) (with_root own facts (eqb-true (root_id own) id e) before)
    by_id own is false e before = without_root fact facts (λ root same is_id.
        let both : Rooted root ≡ Rooted own = same ∙ is in
        let one : root ≡ own = cc in
        both_ways (root_id own == id) e (eq-eqb (root_id own) id (sym (ap root_id one) ∙ is_id))) before

    by_root : (found : Option Root) → root_in fact ≡ found → RootsAmong facts → RootsAmong (fact ∷ facts)
    by_root None e before = without_root fact facts (λ root same is_id. no_root fact root e same) before
    by_root (Some own) e before = by_id own (root_is fact own e) (root_id own == id) refl before

-- ---- their order

before_all : (root : Root) (roots : List Root) → AllByRecursion (λ other. root_cmp root other ≡ Less) roots
    → AllByRecursion (IsBefore (Rooted root)) (map Rooted roots)
before_all root [] all = tt
before_all root (other ∷ roots) all = (sym (root_place root other) ∙ all.0, before_all root roots all.1)

in_canonical_order : (roots : List Root) → IsStrictlySortedBy root_cmp roots → IsCanonicalOrder (map Rooted roots)
unfolding IsStrictlySortedBy
in_canonical_order [] sorted = tt
in_canonical_order (root ∷ roots) sorted = (before_all root roots sorted.0, in_canonical_order roots sorted.1)

pub roots_exist : (facts : List FactValue) (id : ℕ) → (roots : List Root) × AreRootsOf facts id roots
roots_exist facts id =
    let made = roots_among id facts in (
      made.all,
      record {
        ordered = in_canonical_order made.all made.sorted;
        exact = λ root. (
          λ there. (made.exact root).0 (in_from_Contains made.all root there),
          λ has. Contains-from_in made.all root ((made.exact root).1 has),
        );
      },
    )
