-- Parts by places: a large head right below a part that is singled out.
use Rattle.std.proofs.Common.{◌≡◌, ◌<◌, ◌∙◌, ℕ, zero, suc, List, Option, Some, None, refl, sym, ap, subst, inl, inr, arith}
use Rattle.std.specs.BTreeMap.{BTreeMap, get}
use Rattle.hprof_values.specs.declared.ids.IdSize.{IdSize}
use Rattle.hprof_items.specs.FactValue.{FactValue}
use Rattle.hprof_rows.specs.Conflict.{IsConsistent}
use Rattle.hprof_retained.specs.Retained.{Sum}
use Rattle.hprof_retained.specs.Tree.{IsTreeOf, count_of, node_at, total_of}
use Rattle.hprof_retained.specs.declared.retained.Retained.{Retained}
use Rattle.hprof_keeps.specs.Order.{node_of, retained_in}
use Rattle.hprof_keeps.proofs.Held.{sum_there}
use Rattle.hprof_keeps.proofs.Places as places
use Rattle.hprof_by_label.specs.Labels.{AreNodeLabels}
use Rattle.hprof_by_label.specs.declared.node_labels.NodeLabels.{NodeLabels}
use Rattle.hprof_suspects.specs.Groups.{HaveOneLabel, IsBelow}
use Rattle.hprof_suspects.specs.Heads.{AreHeads, head_in}
use Rattle.hprof_suspects.specs.Parts.{IsLarge, IsOnlyLarge, IsPart, IsSingled, Large, Roots}
use Rattle.hprof_suspects.specs.PartPlaces.{AreOnlyTo, IsLargeHead, IsLargeWith, IsOnlyOf, IsPartAt, IsSingledAt, key_cmp, key_in, over_in}
use Rattle.hprof_suspects.specs.declared.only.GroupLabel.{GroupLabel}
use Rattle.hprof_suspects.proofs.HeadPlaces as by_place
use Rattle.hprof_suspects.proofs.PartSums as sums
use Rattle.hprof_suspects.proofs.PlaceLabels.{one_label, one_number}

module _ (ids : IdSize) (facts : List FactValue) (agree : IsConsistent facts) (retained : Retained) (tree : IsTreeOf ids facts retained)
    (labels : NodeLabels) (labelled : AreNodeLabels facts retained labels) (heads : List ℕ) (are : AreHeads ids facts retained heads)
    (only : BTreeMap GroupLabel ℕ) (kept : AreOnlyTo retained labels heads only (count_of retained)) where
  abbrev Place : ℕ → Type 0
  Place place = (0 < place) × (place < count_of retained)

  abbrev over : ℕ → ℕ
  over place = over_in retained heads place

  abbrev Big : ℕ → Type 0
  Big node = IsLarge ids facts (retained_in retained) (total_of retained) node

  abbrev Key : GroupLabel → ℕ → Type 0
  Key key place = IsLargeWith retained labels heads key (count_of retained) place

  is_large : (place : ℕ) → Place place → IsLargeHead retained heads place → Big (node_at retained place)
  is_large place is large =
      let same = ap (λ (s : Sum). s.bytes) (sum_there ids facts retained tree place is.0 is.1) in
      let much = large.1 in
      omega arith

  -- a place that has the key
  has_key : (place other : ℕ) → Place place → Place other → head_in heads other ≡ other → over other ≡ over place
      → Big (node_at retained other)
      → HaveOneLabel facts (node_at retained other) (node_at retained place) → Key (key_in retained labels heads place) other
  has_key place other is too own group large alike =
      let same = ap (λ (s : Sum). s.bytes) (sum_there ids facts retained tree other too.0 too.1) in
      let label = one_number facts agree retained labels labelled other place too.0 too.1 is.0 is.1 alike in
      record {
        some = too.0;
        before = too.1;
        large = (own, omega arith);
        key_is = λ i. record { group = group i; label = label i };
      }

  -- the only one with its key is the only large one with its label
  only_forth : (place : ℕ) → Place place → get key_cmp only (key_in retained labels heads place) ≡ Some place
      → IsOnlyLarge ids facts (retained_in retained) (total_of retained) (node_of retained (over place)) (node_at retained place)
  only_forth place is found other below large alike =
      let less = by_place.over_less ids facts retained tree heads are place is in
      let low = is.1 in
      let at = sums.at_below ids facts retained tree heads are (over place) other (omega arith) below in
      let key = has_key place at.place is at.is at.own at.group_is (subst Big (sym at.node_is) large)
      (subst (λ (n : ℕ). HaveOneLabel facts n (node_at retained place)) (sym at.node_is) alike) in
      let same = go at.place key (subst (IsOnlyOf (Key (key_in retained labels heads place))) found
      (kept (key_in retained labels heads place))) in
      sym at.node_is ∙ ap (node_at retained) same where
        go : (other : ℕ) → Key (key_in retained labels heads place) other → IsOnlyOf (Key (key_in retained labels heads place)) (Some place)
            → other ≡ place
        go other key one = elim one [
          | inl alone ↦ alone.1 other key
          | inr several ↦ let none = several.0 in let some = is.0 in absurd (omega arith)
        ]

  only_back : (place : ℕ) → Place place → IsLargeHead retained heads place
      → IsOnlyLarge ids facts (retained_in retained) (total_of retained) (node_of retained (over place)) (node_at retained place)
      → get key_cmp only (key_in retained labels heads place) ≡ Some place
  only_back place is large lone =
      go (get key_cmp only (key_in retained labels heads place)) (kept (key_in retained labels heads place)) where
        own : Key (key_in retained labels heads place) place
        own = record { some = is.0; before = is.1; large = large; key_is = refl }

        equal : (other : ℕ) → Key (key_in retained labels heads place) other → other ≡ place
        equal other key =
            let too : Place other = (key.some, key.before) in
            let group : over other ≡ over place = ap (λ (k : GroupLabel). k.group) key.key_is in
            let label = ap (λ (k : GroupLabel). k.label) key.key_is in
            let below = by_place.below_over ids facts retained tree heads are other too key.large.0 in
            places.one_place ids facts retained tree other place too is
            (lone (node_at retained other) (subst (λ (g : ℕ). IsBelow ids facts (node_of retained g) (node_at retained other)) group below)
            (is_large other too key.large)
            (one_label facts agree retained labels labelled other place too.0 too.1 is.0 is.1 label))

        go : (only : Option ℕ) → IsOnlyOf (Key (key_in retained labels heads place)) only → only ≡ Some place
        go None none = absurd (none place own)
        go (Some one) has = elim has [
          | inl alone ↦ ap Some (equal one alone.0)
          | inr several ↦
              let both = several.1 in
              absurd (both.4 (equal both.0 both.2 ∙ sym (equal both.1 both.3)))
        ]

  singled_forth : (place : ℕ) → Place place → IsSingledAt facts retained labels heads only place
      → IsSingled ids facts (retained_in retained) (total_of retained) (node_of retained (over place)) (node_at retained place)
  singled_forth place is singled = elim singled [
    | inl top ↦ inr (inl (ap (node_of retained) top))
    | inr other ↦ elim other [ inl found ↦ inr (inr (only_forth place is found)) | inr alone ↦ inl alone ]
  ]

  top_is : (group : ℕ) → node_of retained group ≡ None → group ≡ 0
  top_is zero none = refl
  top_is (suc group) none =
      let clash : Some (node_at retained (suc group)) ≡ None = sym (places.node_of_some retained (suc group) (omega arith)) ∙ none in
      absurd cc

  singled_back : (place : ℕ) → Place place → IsLargeHead retained heads place
      → IsSingled ids facts (retained_in retained) (total_of retained) (node_of retained (over place)) (node_at retained place)
      → IsSingledAt facts retained labels heads only place
  singled_back place is large singled = elim singled [
    | inl alone ↦ inr (inr alone)
    | inr other ↦ elim other [
      | inl top ↦ inl (top_is (over place) top)
      | inr lone ↦ inr (inl (only_back place is large lone))
    ]
  ]

  -- ---- a part

  pub part_forth : (place : ℕ) → Place place → IsLargeHead retained heads place → IsPartAt ids facts retained (over place)
      → IsSingledAt facts retained labels heads only place → IsPartAt ids facts retained place
  part_forth place is large above singled =
      subst (IsPart ids facts (retained_in retained) (total_of retained)) (sym (places.node_of_some retained place is.0))
      (Large (node_of retained (over place)) (node_at retained place) above
      (by_place.below_over ids facts retained tree heads are place is large.0) (is_large place is large) (singled_forth place is singled))

  pub record IsSingledPart (place : ℕ) : Type 0 where
    pub large : IsLargeHead retained heads place
    pub above : IsPartAt ids facts retained (over place)
    pub singled : IsSingledAt facts retained labels heads only place

  pub part_back : (place : ℕ) → Place place → IsPartAt ids facts retained place → IsSingledPart place
  part_back place is part = go (node_of retained place) part (sym (places.node_of_some retained place is.0)) where
    go : (some : Option ℕ) → IsPart ids facts (retained_in retained) (total_of retained) some → Some (node_at retained place) ≡ some
        → IsSingledPart place
    go _ Roots same = absurd cc
    go _ (Large above node is_part below large singled) same =
        let node_is : node ≡ node_at retained place = cc in
        let over_is = by_place.over_is ids facts retained tree heads are above place is (subst (IsBelow ids facts above) node_is below) in
        let sum = ap (λ (s : Sum). s.bytes) (sum_there ids facts retained tree place is.0 is.1) in
        let much = subst Big node_is large in
        let head : IsLargeHead retained heads place = (over_is.0, omega arith) in
        let P : Option ℕ → ℕ → Type 0 = IsSingled ids facts (retained_in retained) (total_of retained) in
        record {
          large = head;
          above = subst (IsPart ids facts (retained_in retained) (total_of retained)) over_is.1 is_part;
          singled = singled_back place is head
              (subst (λ (a : Option ℕ). P a (node_at retained place)) over_is.1 (subst (λ (n : ℕ). P above n) node_is singled));
        }
