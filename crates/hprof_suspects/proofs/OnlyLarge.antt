-- The only large head with a key, place by place.
use Rattle.std.proofs.Common.{◌≡◌, ◌≢◌, ◌<◌, ◌+◌, ◌∙◌, ℕ, Bool, true, false, List, Option, Some, None, cond, refl, sym, ap, subst, inl, inr}
use Rattle.std.proofs.Common.{arith}
use Rattle.std.specs.BTreeMap.{BTreeMap, get, is_at}
use Rattle.std.proofs.lemmas.Bool.{both_ways, cases_eq}
use Rattle.hprof_retained.specs.declared.retained.Retained.{Retained}
use Rattle.hprof_by_label.specs.declared.node_labels.NodeLabels.{NodeLabels}
use Rattle.hprof_suspects.specs.PartPlaces.{AreOnlyTo, IsLargeHead, IsLargeWith, IsOnlyOf, key_cmp, key_in, noted}
use Rattle.hprof_suspects.specs.declared.only.GroupLabel.{GroupLabel}
use Rattle.hprof_suspects.proofs.MapKeys.{at_is, is_at_own}

-- of the same places the same
only_alike : (Has Other : ℕ → Type 0) → ((place : ℕ) → Has place → Other place) → ((place : ℕ) → Other place → Has place)
    → (only : Option ℕ)
    → IsOnlyOf Has only → IsOnlyOf Other only
only_alike Has Other forth back None none = λ place other. none place (back place other)
only_alike Has Other forth back (Some only) is = elim is [
  | inl one ↦ inl (forth only one.0, λ place other. one.1 place (back place other))
  | inr several ↦
      let both = several.1 in
      inr (several.0, (both.0, both.1, forth both.0 both.2, forth both.1 both.3, both.4))
]

-- one more place
only_noted : (Has More : ℕ → Type 0) (new : ℕ) → ((place : ℕ) → Has place → More place × (place ≢ new)) → More new
    → ((place : ℕ) → More place → place ≢ new → Has place) → (only : Option ℕ) → IsOnlyOf Has only → IsOnlyOf More (Some (noted only new))
only_noted Has More new forth here back None none = inl (
  here,
  λ place more. elim (cases_eq place new) [ inl same ↦ same | inr apart ↦ absurd (none place (back place more apart)) ],
)
only_noted Has More new forth here back (Some only) is = elim is [
  | inl one ↦ let before = forth only one.0 in inr (refl, (only, new, before.0, here, before.1))
  | inr several ↦
      let both = several.1 in
      inr (refl, (both.0, both.1, (forth both.0 both.2).0, (forth both.1 both.3).0, both.4))
]

module _ (retained : Retained) (labels : NodeLabels) (heads : List ℕ) where
  pub only_begin : (only : BTreeMap GroupLabel ℕ) → ((key : GroupLabel) → get key_cmp only key ≡ None)
      → AreOnlyTo retained labels heads only 1
  only_begin only empty key =
      subst (IsOnlyOf (IsLargeWith retained labels heads key 1)) (sym (empty key))
      (λ place has. let some = has.some in let before = has.before in omega arith)

  module _ (only : BTreeMap GroupLabel ℕ) (done : ℕ) (done_some : 0 < done) (so : AreOnlyTo retained labels heads only done) where
    later : (key : GroupLabel) (place : ℕ) → IsLargeWith retained labels heads key done place
        → IsLargeWith retained labels heads key (done + 1) place
    later key place has = record {
      some = has.some;
      before = let before = has.before in omega arith;
      large = has.large;
      key_is = has.key_is;
    }

    earlier : (key : GroupLabel) (place : ℕ) → IsLargeWith retained labels heads key (done + 1) place → place ≢ done
        → IsLargeWith retained labels heads key done place
    earlier key place has apart = record {
      some = has.some;
      before = let before = has.before in omega arith;
      large = has.large;
      key_is = has.key_is;
    }

    pub only_same : ¬ (IsLargeHead retained heads done) → AreOnlyTo retained labels heads only (done + 1)
    only_same small key =
        only_alike (IsLargeWith retained labels heads key done) (IsLargeWith retained labels heads key (done + 1)) (later key)
        (λ place has. earlier key place has (λ same. small (subst (IsLargeHead retained heads) same has.large))) (get key_cmp only key)
        (so key)

    pub only_more : IsLargeHead retained heads done → (new : BTreeMap GroupLabel ℕ) → (own : GroupLabel)
        → own ≡ key_in retained labels heads done
        → ((other : GroupLabel) → get key_cmp new other
        ≡ cond (is_at (key_cmp own) other) (Some (noted (get key_cmp only own) done)) (get key_cmp only other))
        → AreOnlyTo retained labels heads new (done + 1)
    only_more large new own own_is put key =
        subst (IsOnlyOf (IsLargeWith retained labels heads key (done + 1))) (sym (put key)) (by_test (is_at (key_cmp own) key) refl) where
          by_test : (b : Bool) → is_at (key_cmp own) key ≡ b
              → IsOnlyOf (IsLargeWith retained labels heads key (done + 1))
              (cond b (Some (noted (get key_cmp only own) done)) (get key_cmp only key))
          by_test true at =
              let same : own ≡ key = at_is own key at in
              only_noted (IsLargeWith retained labels heads key done) (IsLargeWith retained labels heads key (done + 1)) done
              (λ place has. (later key place has, λ e. let before = has.before in omega arith))
              (record { some = done_some; before = omega arith; large = large; key_is = sym own_is ∙ same }) (earlier key)
              (get key_cmp only own)
              (subst (λ (k : GroupLabel). IsOnlyOf (IsLargeWith retained labels heads key done) (get key_cmp only k)) (sym same) (so key))
          by_test false at =
              only_alike (IsLargeWith retained labels heads key done) (IsLargeWith retained labels heads key (done + 1)) (later key)
              (λ place has. earlier key place has (λ e.
              let same : own ≡ key = own_is ∙ ap (key_in retained labels heads) (sym e) ∙ has.key_is in
              apart_at same at)) (get key_cmp only key) (so key) where
                apart_at : own ≡ key → is_at (key_cmp own) key ≡ false → ⊥
                apart_at same at = both_ways _ at (is_at_own own key same)
