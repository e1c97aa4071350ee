-- In a graph of finitely many nodes each has a distance, or none, and a path, or none.
use Rattle.std.specs.Prelude.{◌↔◌}
use Rattle.std.specs.List.{IsDistinct, list_any, AllByRecursion, flat_map}
use Rattle.std.proofs.Common.{◌≡◌, ℕ, zero, suc, ◌+◌, ◌<◌, ◌≤◌, ◌==◌, Bool, true, false, ◌||◌, ◌&&◌, List, [], ◌∷◌, ◌++◌, length, reverse}
use Rattle.std.proofs.Common.{Option, Some, None, refl, sym, ap, subst, ◌∙◌, ◌⊎◌, inl, inr, arith}
use Rattle.std.proofs.lemmas.Bool.{eqb-true, eq-eqb, or_cases, or_left, or_right, and_parts, cases_lt, false_from_ne_true}
use Rattle.std.proofs.lemmas.Cmp.{nat_eq_equiv}
use Rattle.std.proofs.lemmas.List.{reverse-reverse}
use Rattle.std.proofs.lemmas.List.Folds.{list_any-append}
use Rattle.std.proofs.lemmas.Map.Made.{length-le_from_is_member}
use Rattle.hprof_search.specs.Walks.{Reaches, IsDistance, HasDistance, IsLeastBefore, IsWayBack, IsPath}

-- ---- lists of numbers

-- whether the list has the number
abbrev pub has : List ℕ → ℕ → Bool
has xs n = list_any (λ other. n == other) xs

pub has_append : (xs ys : List ℕ) (n : ℕ) → has (xs ++ ys) n ≡ true → (has xs n ≡ true) ⊎ (has ys n ≡ true)
has_append xs ys n e = or_cases (has xs n) (has ys n) (sym (list_any-append (λ other. n == other) xs ys) ∙ e)

pub has_left : (xs ys : List ℕ) (n : ℕ) → has xs n ≡ true → has (xs ++ ys) n ≡ true
has_left xs ys n e = list_any-append (λ other. n == other) xs ys ∙ or_left (has xs n) (has ys n) e

pub has_right : (xs ys : List ℕ) (n : ℕ) → has ys n ≡ true → has (xs ++ ys) n ≡ true
has_right xs ys n e = list_any-append (λ other. n == other) xs ys ∙ or_right (has xs n) (has ys n) e

has_flat : (f : ℕ → List ℕ) (xs : List ℕ) (y : ℕ) → has (flat_map f xs) y ≡ true
    → (x : ℕ) × (has xs x ≡ true) × (has (f x) y ≡ true)
has_flat f [] y e = absurd cc
has_flat f (x ∷ xs) y e = elim (has_append (f x) (flat_map f xs) y e) [
  | inl here ↦ (x, or_left (x == x) (has xs x) (eq-eqb x x refl), here)
  | inr later ↦ let more = has_flat f xs y later in (more.0, or_right (more.0 == x) (has xs more.0) more.1, more.2)
]

flat_has : (f : ℕ → List ℕ) (xs : List ℕ) (x y : ℕ) → has xs x ≡ true → has (f x) y ≡ true → has (flat_map f xs) y ≡ true
flat_has f [] x y e there = absurd cc
flat_has f (first ∷ xs) x y e there = elim (or_cases (x == first) (has xs x) e) [
  | inl here ↦ has_left (f first) (flat_map f xs) y (subst (λ (n : ℕ). has (f n) y ≡ true) (eqb-true x first here) there)
  | inr later ↦ has_right (f first) (flat_map f xs) y (flat_has f xs x y later there)
]

-- all of the one list are in the other, or one is not
missing : (xs ys : List ℕ)
    → ((n : ℕ) → has xs n ≡ true → has ys n ≡ true) ⊎ ((n : ℕ) × (has xs n ≡ true) × (has ys n ≡ false))
missing [] ys = inl (λ n e. absurd cc)
missing (x ∷ xs) ys = go (has ys x) refl (missing xs ys) where
  go : (t : Bool) → has ys x ≡ t → ((n : ℕ) → has xs n ≡ true → has ys n ≡ true) ⊎ ((n : ℕ) × (has xs n ≡ true) × (has ys n ≡ false))
      → ((n : ℕ) → has (x ∷ xs) n ≡ true → has ys n ≡ true) ⊎ ((n : ℕ) × (has (x ∷ xs) n ≡ true) × (has ys n ≡ false))
  go false e rest = inr (x, or_left (x == x) (has xs x) (eq-eqb x x refl), e)
  go true e (inr found) = inr (found.0, or_right (found.0 == x) (has xs found.0) found.1, found.2)
  go true e (inl rest) = inl (λ n there. elim (or_cases (n == x) (has xs n) there) [
    | inl here ↦ subst (λ (m : ℕ). has ys m ≡ true) (sym (eqb-true n x here)) e
    | inr later ↦ rest n later
  ])

fresh : (n : ℕ) (xs : List ℕ) → has xs n ≡ false → AllByRecursion (λ other. (n == other) ≡ false) xs
fresh n [] e = tt
fresh n (x ∷ xs) e = elim (n == x) as (λ v. (v || has xs n) ≡ false
    → (v ≡ false) × AllByRecursion (λ other. (n == other) ≡ false) xs) [
      | true ↦ λ h. absurd cc
      | false ↦ λ h. (refl, fresh n xs h)
    ] e

-- ---- the least number that passes

record IsLeast (p : ℕ → Bool) (least : ℕ) : Type 0 where
  pub passes : p least ≡ true
  pub least_is : (other : ℕ) → p other ≡ true → least ≤ other

module _ (p : ℕ → Bool) (bound : ℕ) (passes : p bound ≡ true) where
  -- at a place that passes, and before which none does
  is_least : (at : ℕ) → p at ≡ true → ((other : ℕ) → other < at → p other ≡ false) → IsLeast p at
  is_least at here below = record {
    passes = here;
    least_is = λ other there. elim (cases_lt other at) [
      | inl less ↦ let none = below other less in absurd cc
      | inr up ↦ up
    ];
  }

  -- none passes up to the next place
  none_below : (at : ℕ) → p at ≡ false → ((other : ℕ) → other < at → p other ≡ false) → (other : ℕ) → other < suc at → p other ≡ false
  none_below at none below other less = elim (cases_lt other at) [
    | inl earlier ↦ below other earlier
    | inr up ↦ let same : at ≡ other = omega arith in subst (λ (n : ℕ). p n ≡ false) same none
  ]

  ends_here : (at : ℕ) → bound ≡ at → p at ≡ false → ⊥
  ends_here at same none = let there = subst (λ (n : ℕ). p n ≡ true) same passes in absurd cc

  least_from : (left at : ℕ) → bound ≡ left + at → ((other : ℕ) → other < at → p other ≡ false) → (t : Bool) → p at ≡ t
      → (least : ℕ) × IsLeast p least
  least_from left at e below true here = (at, is_least at here below)
  least_from zero at e below false none = absurd (ends_here at (omega arith) none)
  least_from (suc left) at e below false none =
      least_from left (suc at) (omega arith) (none_below at none below) (p (suc at)) refl

least_passes : (p : ℕ → Bool) (bound : ℕ) → p bound ≡ true → (least : ℕ) × IsLeast p least
least_passes p bound passes = least_from p bound passes bound 0 (omega arith) (λ other less. absurd (omega arith)) (p 0) refl

-- ---- walks

module _ (Starts : ℕ → Type 0) (Steps : ℕ → ℕ → Type 0) (nodes starts : List ℕ) (targets : ℕ → List ℕ)
    (are_starts : (node : ℕ) → (has starts node ≡ true) ↔ Starts node)
    (are_targets : (from to : ℕ) → (has (targets from) to ≡ true) ↔ Steps from to)
    (starts_there : (node : ℕ) → Starts node → has nodes node ≡ true)
    (steps_there : (from to : ℕ) → Steps from to → has nodes to ≡ true) where
  -- what is reached by at most so many steps
  abbrev seen : ℕ → List ℕ
  seen zero = starts
  seen (suc count) = seen count ++ flat_map targets (seen count)

  record IsEarly (count node : ℕ) : Type 0 where
    pub steps : ℕ
    pub few : steps ≤ count
    pub reaches : Reaches Starts Steps steps node

  seen_reached : (count node : ℕ) → has (seen count) node ≡ true → IsEarly count node
  seen_reached zero node e = record { steps = 0; few = omega arith; reaches = (are_starts node).0 e }
  seen_reached (suc count) node e = elim (has_append (seen count) (flat_map targets (seen count)) node e) [
    | inl before ↦
        let is = seen_reached count node before in
        record { steps = is.steps; few = let few = is.few in omega arith; reaches = is.reaches }
    | inr now ↦
        let from = has_flat targets (seen count) node now in
        let is = seen_reached count from.0 from.1 in
        record {
          steps = suc is.steps;
          few = let few = is.few in omega arith;
          reaches = (from.0, is.reaches, (are_targets from.0 node).0 from.2);
        }
  ]

  one_more : (count from to : ℕ) → has (seen count) from ≡ true → Steps from to → has (seen (suc count)) to ≡ true
  one_more count from to there step =
      has_right (seen count) (flat_map targets (seen count)) to (flat_has targets (seen count) from to there ((are_targets from to).1 step))

  reached_seen : (steps node : ℕ) → Reaches Starts Steps steps node → has (seen steps) node ≡ true
  reached_seen zero node is = (are_starts node).1 is
  reached_seen (suc steps) node is = one_more steps is.0 node (reached_seen steps is.0 is.1) is.2

  reached_there : (steps node : ℕ) → Reaches Starts Steps steps node → has nodes node ≡ true
  reached_there zero node is = starts_there node is
  reached_there (suc steps) node is = steps_there is.0 node is.2

  seen_there : (count node : ℕ) → has (seen count) node ≡ true → has nodes node ≡ true
  seen_there count node e = let is = seen_reached count node e in reached_there is.steps node is.reaches

  -- ---- where nothing more is seen

  abbrev Closed : ℕ → Type 0
  Closed count = (node : ℕ) → has (seen (suc count)) node ≡ true → has (seen count) node ≡ true

  start_seen : (count node : ℕ) → has starts node ≡ true → has (seen count) node ≡ true
  start_seen zero node e = e
  start_seen (suc count) node e = has_left (seen count) (flat_map targets (seen count)) node (start_seen count node e)

  closed_all : (count : ℕ) → Closed count → (steps node : ℕ) → Reaches Starts Steps steps node → has (seen count) node ≡ true
  closed_all count closed zero node is = start_seen count node ((are_starts node).1 is)
  closed_all count closed (suc steps) node is =
      closed node (one_more count is.0 node (closed_all count closed steps is.0 is.1) is.2)

  closes : (fuel count : ℕ) (found : List ℕ) → length found ≡ count → length nodes < fuel + count
      → IsDistinct (λ one other. one == other) found → ((n : ℕ) → has found n ≡ true → has (seen count) n ≡ true)
      → (end : ℕ) × Closed end
  unfolding IsDistinct
  closes zero count found counted little distinct are =
      let few = length-le_from_is_member nat_eq_equiv found nodes distinct (λ n e. seen_there count n (are n e)) in
      absurd (omega (arith, few, counted, little))
  closes (suc fuel) count found counted little distinct are = elim (missing (seen (suc count)) (seen count)) [
    | inl closed ↦ (count, closed)
    | inr new ↦
        closes fuel (suc count) (new.0 ∷ found) (ap suc counted) (omega arith) (
          fresh new.0 found (false_from_ne_true (has found new.0) (λ there.
              (let seen_it = are new.0 there in let not_seen = new.2 in absurd cc))),
          distinct,
        )
        (λ n e. elim (or_cases (n == new.0) (has found n) e) [
          | inl here ↦ subst (λ (m : ℕ). has (seen (suc count)) m ≡ true) (sym (eqb-true n new.0 here)) new.1
          | inr there ↦ has_left (seen count) (flat_map targets (seen count)) n (are n there)
        ])
  ]

  end : (count : ℕ) × Closed count
  unfolding IsDistinct
  end = closes (suc (length nodes)) 0 [] refl (omega arith) tt (λ n e. absurd cc)

  -- ---- distances

  least_is_distance : (node count : ℕ) → IsLeast (λ k. has (seen k) node) count → IsDistance Starts Steps node count
  least_is_distance node count is =
      let early = seen_reached count node is.passes in
      let least = λ (other : ℕ) (reaches : Reaches Starts Steps other node). is.least_is other (reached_seen other node reaches) in
      let less = least early.steps early.reaches in
      let few = early.few in
      let same : early.steps ≡ count = omega arith in
      record { reaches = subst (λ (n : ℕ). Reaches Starts Steps n node) same early.reaches; least = least }

  pub distance_exists : (node : ℕ) → (distance : Option ℕ) × HasDistance Starts Steps node distance
  distance_exists node = go (has (seen end.0) node) refl where
    go : (t : Bool) → has (seen end.0) node ≡ t → (distance : Option ℕ) × HasDistance Starts Steps node distance
    go true e = let least = least_passes (λ k. has (seen k) node) end.0 e in (Some least.0, least_is_distance node least.0 least.1)
    go false e = (None, λ count reaches. (let there = closed_all end.0 end.1 count node reaches in absurd cc))

  -- ---- paths

  near : (count before node : ℕ) → IsDistance Starts Steps node (suc count) → has (seen count) before ≡ true → Steps before node
      → IsDistance Starts Steps before count
  near count before node is there step =
      let early = seen_reached count before there in
      let more = is.least (suc early.steps) (before, early.reaches, step) in
      let few = early.few in
      let same : early.steps ≡ count = omega arith in
      record {
        reaches = subst (λ (n : ℕ). Reaches Starts Steps n before) same early.reaches;
        least = λ other reaches. (let far = is.least (suc other) (before, reaches, step) in omega arith);
      }

  both : (x y : Bool) → x ≡ true → y ≡ true → (x && y) ≡ true
  both x y e f = rw e f

  -- of the nodes before, the least
  least_exists : (count node : ℕ) → IsDistance Starts Steps node (suc count)
      → (before : ℕ) × IsLeastBefore Starts Steps count before node
  least_exists count node is =
      let some = is.reaches in
      let passes = λ (n : ℕ). has (seen count) n && has (targets n) node in
      let least = least_passes passes some.0 (both (has (seen count) some.0) (has (targets some.0) node) (reached_seen count some.0 some.1)
      ((are_targets some.0 node).1 some.2)) in
      let parts = and_parts (has (seen count) least.0) (has (targets least.0) node) least.1.passes in
      let step = (are_targets least.0 node).0 parts.1 in (
        least.0,
        record {
          distance = near count least.0 node is parts.0 step;
          steps = step;
          least = λ other at next. least.1.least_is other (both (has (seen count) other) (has (targets other) node)
              (reached_seen count other at.reaches) ((are_targets other node).1 next));
        },
      )

  way_on : (count node before : ℕ) (rest : List ℕ) → IsDistance Starts Steps node (suc count) → IsLeastBefore Starts Steps count before node
      → IsWayBack Starts Steps count before rest → IsWayBack Starts Steps (suc count) node (node ∷ rest)
  way_on count node before rest is least way = (is, (before, rest, refl, least, way))

  way_exists : (count node : ℕ) → IsDistance Starts Steps node count → (way : List ℕ) × IsWayBack Starts Steps count node way
  way_exists zero node is = (node ∷ [], (is, refl))
  way_exists (suc count) node is =
      let before = least_exists count node is in
      let rest = way_exists count before.0 before.1.distance in
      (node ∷ rest.0, way_on count node before.0 rest.0 is before.1 rest.1)

  pub path_exists : (node : ℕ) → (path : Option (List ℕ)) × IsPath Starts Steps node path
  path_exists node = go (distance_exists node) where
    go : (distance : Option ℕ) × HasDistance Starts Steps node distance → (path : Option (List ℕ)) × IsPath Starts Steps node path
    go (None, none) = (None, none)
    go (Some count, is) =
        let way = way_exists count node is in
        (Some (reverse way.0), (count, subst (IsWayBack Starts Steps count node) (sym (reverse-reverse way.0)) way.1))
