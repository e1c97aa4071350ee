-- The places of nodes that facts give, fact by fact.
use Rattle.std.specs.Prelude.{◌↔◌, Contains}
use Rattle.std.proofs.Common.{◌≡◌, ◌≢◌, ◌⊎◌, ◌<◌, ◌==◌, ◌++◌, ◌∙◌, ℕ, Bool, true, false, cond, List, [], ◌∷◌, Some, append_assoc, refl}
use Rattle.std.proofs.Common.{sym, ap, subst, inl, inr, arith}
use Rattle.std.proofs.lemmas.Bool.{eqb-true, eqb-false}
use Rattle.std.proofs.lemmas.List.{append-nil, get_or_default}
use Rattle.std.proofs.lemmas.List.Elements.{Contains-append_cases, Contains-append_left, Contains-push}
use Rattle.std.proofs.lemmas.List.Quantifiers.{all_pairs_push}
use Rattle.hprof_items.specs.FactValue.{FactValue}
use Rattle.hprof_rows.specs.declared.key.Key.{Key}
use Rattle.hprof_rows.specs.Facts.{Has}
use Rattle.hprof_rows.specs.Key.{key_of}
use Rattle.hprof_rows.specs.Order.{IsBefore, IsCanonicalOrder}
use Rattle.hprof_rows.proofs.FactSets.{All-has, Has-back, Has-front, Has-parts}
use Rattle.hprof_rows.proofs.Order.{IsBefore-key}
use Rattle.hprof_histogram.proofs.Members.{in_from_Contains}
use Rattle.hprof_retained.specs.Tree.{count_of, node_at, place_of}
use Rattle.hprof_retained.specs.declared.retained.Retained.{Retained}
use Rattle.hprof_keeps.specs.Gathered.{ArePlacesOf, IsGiven, places_of_node}
use Rattle.hprof_keeps.proofs.Found.{placed}
use Rattle.hprof_keeps.proofs.Held.{place_there}

-- ---- places

-- nodes of which the same holds have the same places
pub same_places : (retained : Retained) (Holds Next : ℕ → Type 0) (places : List ℕ) → ((node : ℕ) → Holds node ↔ Next node)
    → ArePlacesOf retained Holds places → ArePlacesOf retained Next places
same_places retained Holds Next places same are = record {
  once = are.once;
  exact = λ place. (
    λ has. let is = (are.exact place).0 has in (is.0, is.1, (same (node_at retained place)).0 is.2),
    λ is. (are.exact place).1 (is.0, is.1, (same (node_at retained place)).1 is.2),
  );
}

pub no_places : (retained : Retained) (Holds : ℕ → Type 0) → ((node : ℕ) → Holds node → ⊥) → ArePlacesOf retained Holds []
no_places retained Holds none = record {
  once = λ i j d less low. absurd (omega arith);
  exact = λ place. (λ has. let low = has.1 in absurd (omega arith), λ is. absurd (none (node_at retained place) is.2));
}

module _ (retained : Retained) (Holds : ℕ → Type 0) (node : ℕ) (places : List ℕ) (are : ArePlacesOf retained Holds places) where
  abbrev Next : ℕ → Type 0
  Next n = Holds n ⊎ (n ≡ node)

  -- a node that is not held has no place
  none_more : place_of retained node ≡ 0 → ArePlacesOf retained Next places
  none_more none = record {
    once = are.once;
    exact = λ place. (
      λ has. let is = (are.exact place).0 has in (is.0, is.1, inl is.2),
      λ is. elim is.2 [
        | inl before ↦ (are.exact place).1 (is.0, is.1, before)
        | inr same ↦
            let at : place_of retained node ≡ place = ap (place_of retained) (sym same) ∙ place_there retained place is.0 is.1 in
            let some = is.0 in
            absurd (omega arith)
      ],
    );
  }

  one_more : place_of retained node ≢ 0 → (Holds node → ⊥) → ArePlacesOf retained Next (places ++ place_of retained node ∷ [])
  one_more some new =
      let place = place_of retained node in
      let at = placed retained node some in
      record {
        once = all_pairs_push (λ one other. one ≢ other) places place are.once (λ k d low same.
            let has : Contains places place = (k, low, get_or_default places k place d low ∙ same) in
            new (subst Holds at.2 ((are.exact place).0 has).2));
        exact = λ x. (
          λ there. elim (Contains-append_cases places (place ∷ []) x there) [
            | inl before ↦ let is = (are.exact x).0 before in (is.0, is.1, inl is.2)
            | inr last ↦ elim (in_from_Contains (place ∷ []) x last) [
              | inl same ↦
                  let P : ℕ → Type 0 = λ n. (0 < n) × (n < count_of retained) × Next (node_at retained n) in
                  subst P (sym same) (at.0, at.1, inr at.2)
              | inr never ↦ absurd never
            ]
          ],
          λ is. elim is.2 [
            | inl before ↦ Contains-append_left places (place ∷ []) x ((are.exact x).1 (is.0, is.1, before))
            | inr same ↦
                let here : place ≡ x = ap (place_of retained) (sym same) ∙ place_there retained x is.0 is.1 in
                subst (Contains (places ++ place ∷ [])) here (Contains-push places place)
          ],
        );
      }

  -- with the place of one node more, if it has one
  pub one_node_more : (Holds node → ⊥) → ArePlacesOf retained Next (places ++ places_of_node retained node)
  one_node_more new = by_test (place_of retained node == 0) refl where
    by_test : (b : Bool) → (place_of retained node == 0) ≡ b → ArePlacesOf retained Next (places ++ cond b [] (place_of retained node ∷ []))
    by_test true e =
        subst (ArePlacesOf retained Next) (sym (append-nil places)) (none_more (eqb-true (place_of retained node) 0 e))
    by_test false e = one_more (λ none. eqb-false (place_of retained node) 0 e none) new

-- ---- fact by fact

module _ (Gives : FactValue → ℕ → Type 0) where
  -- with one fact more what it gives is given
  given_more : (came : List FactValue) (fact : FactValue) (node : ℕ)
      → IsGiven Gives (came ++ fact ∷ []) node ↔ (IsGiven Gives came node ⊎ Gives fact node)
  given_more came fact node = (there, back) where
    there : IsGiven Gives (came ++ fact ∷ []) node → IsGiven Gives came node ⊎ Gives fact node
    there given = elim (Has-parts came (fact ∷ []) given.0 given.1) [
      | inl was ↦ inl (given.0, was, given.2)
      | inr new ↦ elim new [ inl same ↦ inr (subst (λ (f : FactValue). Gives f node) same given.2) | inr none ↦ absurd none ]
    ]

    back : IsGiven Gives came node ⊎ Gives fact node → IsGiven Gives (came ++ fact ∷ []) node
    back (inl given) = (given.0, Has-front came (fact ∷ []) given.0 given.1, given.2)
    back (inr gives) = (fact, Has-back came (fact ∷ []) fact (inl refl), gives)

  module _ (retained : Retained) (Before : ℕ → Type 0) where
    -- before, or given by one of these
    abbrev pub Among : List FactValue → ℕ → Type 0
    Among came node = Before node ⊎ IsGiven Gives came node

    -- of the facts some came, whose nodes are taken beside those from before; the others are left, each behind those that came
    pub record Gathering (all left : List FactValue) (places : List ℕ) : Type 0 where
      pub came : List FactValue
      pub all_are : all ≡ came ++ left
      pub ordered : IsCanonicalOrder left
      pub behind : (one other : FactValue) → Has came one → Has left other → IsBefore one other
      pub are : ArePlacesOf retained (Among came) places

    pub none_came : (all left : List FactValue) (places : List ℕ) → left ≡ all → IsCanonicalOrder left → ArePlacesOf retained Before places
        → Gathering all left places
    none_came all left places same ordered are = record {
      came = [];
      all_are = sym same;
      ordered = ordered;
      behind = λ one other has later. absurd has;
      are = same_places retained Before (Among []) places
          (λ node. (λ is. inl is, λ is. elim is [ inl before ↦ before | inr given ↦ absurd given.1 ])) are;
    }

    pub all_came : (all left : List FactValue) (places : List ℕ) → left ≡ [] → Gathering all left places
        → ArePlacesOf retained (Among all) places
    all_came all left places none gathering =
        let same : gathering.came ≡ all =
        sym (gathering.all_are ∙ ap (λ (l : List FactValue). gathering.came ++ l) none ∙ append-nil gathering.came) in
        subst (λ (l : List FactValue). ArePlacesOf retained (Among l) places) same gathering.are

    module _ (all left rest : List FactValue) (fact : FactValue) (places : List ℕ) (next : left ≡ fact ∷ rest)
        (gathering : Gathering all left places) where
      now_ordered : IsCanonicalOrder (fact ∷ rest)
      now_ordered = subst IsCanonicalOrder next gathering.ordered

      -- it is one of those left
      left_has : (other : FactValue) → Has (fact ∷ rest) other → Has left other
      left_has other has = subst (λ (l : List FactValue). Has l other) (sym next) has

      -- and of all
      pub next_has : Has all fact
      next_has = subst (λ (l : List FactValue). Has l fact) (sym gathering.all_are)
          (Has-back gathering.came left fact (left_has fact (inl refl)))

      -- the fact came
      came_one : (after : List ℕ) → ArePlacesOf retained (Among (gathering.came ++ fact ∷ [])) after → Gathering all rest after
      came_one after are = record {
        came = gathering.came ++ fact ∷ [];
        all_are = gathering.all_are ∙ ap (λ (l : List FactValue). gathering.came ++ l) next
            ∙ sym (append_assoc gathering.came (fact ∷ []) rest);
        ordered = now_ordered.1;
        behind = λ one other has later. elim (Has-parts gathering.came (fact ∷ []) one has) [
          | inl was ↦ gathering.behind one other was (left_has other (inr later))
          | inr new ↦ elim new [
            | inl same ↦ subst (λ (f : FactValue). IsBefore f other) (sym same) (All-has (IsBefore fact) rest other now_ordered.0 later)
            | inr none ↦ absurd none
          ]
        ];
        are = are;
      }

      -- it gives no node
      pub came_other : ((node : ℕ) → Gives fact node → ⊥) → Gathering all rest places
      came_other none = came_one places (same_places retained (Among gathering.came) (Among (gathering.came ++ fact ∷ [])) places (λ node. (
        λ among. elim among [
          | inl before ↦ inl before
          | inr given ↦ inr ((given_more gathering.came fact node).1 (inl given))
        ],
        λ among. elim among [
          | inl before ↦ inl before
          | inr given ↦ elim ((given_more gathering.came fact node).0 given) [
            | inl was ↦ inr was
            | inr gives ↦ absurd (none node gives)
          ]
        ],
      )) gathering.are)

      module _ (keys : ℕ → Key) (keyed : (f : FactValue) (n : ℕ) → Gives f n → key_of f ≡ Some (keys n))
          (one_key : (n m : ℕ) → keys n ≡ keys m → n ≡ m) (node : ℕ) (gives : Gives fact node) where
        -- no other that came gives the node
        new_node : IsGiven Gives gathering.came node → ⊥
        new_node given = IsBefore-key given.0 fact (keys node) (gathering.behind given.0 fact given.1 (left_has fact (inl refl)))
            (keyed given.0 node given.2) (keyed fact node gives)

        one_node : (n : ℕ) → Gives fact n → n ≡ node
        one_node n gives_too =
            let same : Some (keys n) ≡ Some (keys node) = sym (keyed fact n gives_too) ∙ keyed fact node gives in
            one_key n node cc

        -- it gives one, which was not there before
        pub came_given : (Before node → ⊥) → Gathering all rest (places ++ places_of_node retained node)
        came_given new =
            let Some_more : ℕ → Type 0 = λ n. Among gathering.came n ⊎ (n ≡ node) in
            came_one (places ++ places_of_node retained node) (same_places retained Some_more (Among (gathering.came ++ fact ∷ []))
            (places ++ places_of_node retained node) (λ n. (
              λ among. elim among [
                | inl was ↦ elim was [
                  | inl before ↦ inl before
                  | inr given ↦ inr ((given_more gathering.came fact n).1 (inl given))
                ]
                | inr same ↦ inr ((given_more gathering.came fact n).1 (inr (subst (Gives fact) (sym same) gives)))
              ],
              λ among. elim among [
                | inl before ↦ inl (inl before)
                | inr given ↦ elim ((given_more gathering.came fact n).0 given) [
                  | inl was ↦ inl (inr was)
                  | inr gives_too ↦ inr (one_node n gives_too)
                ]
              ],
            )) (one_node_more retained (Among gathering.came) node places gathering.are
            (λ among. elim among [ inl before ↦ new before | inr given ↦ new_node given ])))
