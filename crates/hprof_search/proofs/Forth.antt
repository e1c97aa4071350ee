-- A path, from its start on.
use Rattle.std.proofs.Common.{◌≡◌, ℕ, zero, suc, ◌+◌, ◌-◌, ◌<◌, ◌≤◌, List, [], ◌∷◌, ◌++◌, length, reverse, slice_index, inl, inr, refl, sym}
use Rattle.std.proofs.Common.{ap, subst, subst₂, ◌∙◌, arith, length-append, Some, None}
use Rattle.std.proofs.lemmas.Bool.{cases_order}
use Rattle.std.proofs.lemmas.List.{reverse-reverse, reverse-append}
use Rattle.std.proofs.Math.ListN.{get_or-append}
use Rattle.std.proofs.Math.Seq.{get_or-append_seam}
use Rattle.hprof_search.specs.Walks.{Reaches, HasDistance, IsLeastBefore, IsWayBack, IsPath, IsWalk}
use Rattle.hprof_search.proofs.OneWalk.{way_distance, same_distance}

at_seam : (nodes : List ℕ) (node count : ℕ) → length nodes ≡ count → slice_index (nodes ++ node ∷ []) count ≡ node
at_seam nodes node count long = subst (λ (n : ℕ). slice_index (nodes ++ node ∷ []) n ≡ node) long (get_or-append_seam nodes node [] 0)

module _ (Starts : ℕ → Type 0) (Steps : ℕ → ℕ → Type 0) where
  -- nodes from a start up to a node at that distance, each the least before the next
  record IsForth (count node : ℕ) (nodes : List ℕ) : Type 0 where
    long : length nodes ≡ suc count
    starts : Starts (slice_index nodes 0)
    ends : slice_index nodes count ≡ node
    least : (place : ℕ) → place < count → IsLeastBefore Starts Steps place (slice_index nodes place) (slice_index nodes (suc place))

  forth_more : (count before node : ℕ) (nodes : List ℕ) → IsForth count before nodes → IsLeastBefore Starts Steps count before node
      → IsForth (suc count) node (nodes ++ node ∷ [])
  forth_more count before node nodes is least =
      let long = is.long in
      let same = λ (k : ℕ) (below : k < suc count). get_or-append nodes (node ∷ []) 0 k (omega arith) in
      let last = at_seam nodes node (suc count) long in
      record {
        long = omega (arith, length-append nodes (node ∷ []));
        starts = subst Starts (sym (same 0 (omega arith))) is.starts;
        ends = last;
        least = λ place below. elim (cases_order place count) [
          | inl here ↦
              let P : ℕ → Type 0 =
              λ k. IsLeastBefore Starts Steps k (slice_index (nodes ++ node ∷ []) k) (slice_index (nodes ++ node ∷ []) (suc k)) in
              subst P (sym here) (subst₂ (IsLeastBefore Starts Steps count) (sym (same count (omega arith) ∙ is.ends)) (sym last) least)
          | inr apart ↦
              let short : place < count = elim apart [ inl lt ↦ lt | inr gt ↦ absurd (omega arith) ] in
              subst₂ (IsLeastBefore Starts Steps place) (sym (same place (omega arith))) (sym (same (suc place) (omega arith)))
              (is.least place short)
        ];
      }

  forth : (count node : ℕ) (back : List ℕ) → IsWayBack Starts Steps count node back → IsForth count node (reverse back)
  forth zero node back is =
      let P : List ℕ → Type 0 = λ nodes. IsForth zero node (reverse nodes) in
      subst P (sym is.1) (record {
        long = refl;
        starts = is.0.reaches;
        ends = refl;
        least = λ place below. absurd (omega arith);
      })
  forth (suc count) node back is =
      let P : List ℕ → Type 0 = λ nodes. IsForth (suc count) node nodes in
      let cut : reverse back ≡ reverse is.1.1 ++ node ∷ [] = ap (reverse {A = ℕ}) is.1.2 ∙ reverse-append (node ∷ []) is.1.1 in
      subst P (sym cut) (forth_more count is.1.0 node (reverse is.1.1) (forth count is.1.0 is.1.1 is.1.4) is.1.3)

  path_forth : (node : ℕ) (nodes : List ℕ) (path : IsPath Starts Steps node (Some nodes)) → IsForth path.0 node nodes
  path_forth node nodes path =
      let P : List ℕ → Type 0 = λ all. IsForth path.0 node all in
      subst P (reverse-reverse nodes) (forth path.0 node (reverse nodes) path.1)

  -- a path is a walk
  pub path_walks : (node : ℕ) (nodes : List ℕ) → IsPath Starts Steps node (Some nodes) → IsWalk Starts Steps nodes node
  path_walks node nodes path =
      let is = path_forth node nodes path in
      let long = is.long in
      let last : length nodes - 1 ≡ path.0 = omega arith in
      record {
        some = omega arith;
        starts = is.starts;
        steps = λ place below.
            let next : suc place ≡ place + 1 = omega arith in
            subst (λ (k : ℕ). Steps (slice_index nodes place) (slice_index nodes k)) next (is.least place (omega arith)).steps;
        ends = ap (slice_index nodes) last ∙ is.ends;
      }

  -- of as many steps as the distance
  pub path_counted : (node distance : ℕ) (nodes : List ℕ) → IsPath Starts Steps node (Some nodes)
      → HasDistance Starts Steps node (Some distance) → length nodes ≡ distance + 1
  path_counted node distance nodes path has =
      let long = (path_forth node nodes path).long in
      let same = same_distance Starts Steps node path.0 distance (way_distance Starts Steps path.0 node (reverse nodes) path.1) has in
      omega arith

  -- a walk reaches each of its nodes
  walk_reaches : (nodes : List ℕ) (node place : ℕ) → IsWalk Starts Steps nodes node → place < length nodes
      → Reaches Starts Steps place (slice_index nodes place)
  walk_reaches nodes node zero walk below = walk.starts
  walk_reaches nodes node (suc place) walk below =
      let next : place + 1 ≡ suc place = omega arith in
      let step = walk.steps place (omega arith) in (
        slice_index nodes place,
        walk_reaches nodes node place walk (omega arith),
        subst (λ (k : ℕ). Steps (slice_index nodes place) (slice_index nodes k)) next step,
      )

  pub path_shortest : (node : ℕ) (nodes other : List ℕ) → IsPath Starts Steps node (Some nodes) → IsWalk Starts Steps other node
      → length nodes ≤ length other
  path_shortest node nodes other path walk =
      let long = (path_forth node nodes path).long in
      let some = walk.some in
      let there = walk_reaches other node (length other - 1) walk (omega arith) in
      let reaches = subst (Reaches Starts Steps (length other - 1)) walk.ends there in
      let least = (way_distance Starts Steps path.0 node (reverse nodes) path.1).least (length other - 1) reaches in
      omega arith

  pub path_least : (node place : ℕ) (nodes : List ℕ) → IsPath Starts Steps node (Some nodes) → place + 1 < length nodes
      → IsLeastBefore Starts Steps place (slice_index nodes place) (slice_index nodes (place + 1))
  path_least node place nodes path below =
      let is = path_forth node nodes path in
      let long = is.long in
      let next : suc place ≡ place + 1 = omega arith in
      subst (λ (k : ℕ). IsLeastBefore Starts Steps place (slice_index nodes place) (slice_index nodes k)) next
      (is.least place (omega arith))

  -- where there is no distance there is no walk
  pub no_walk : (node : ℕ) (nodes : List ℕ) → HasDistance Starts Steps node None → IsWalk Starts Steps nodes node → ⊥
  no_walk node nodes none walk =
      let some = walk.some in
      let there = walk_reaches nodes node (length nodes - 1) walk (omega arith) in
      none (length nodes - 1) (subst (Reaches Starts Steps (length nodes - 1)) walk.ends there)

  walk_more : (nodes : List ℕ) (before node : ℕ) → IsWalk Starts Steps nodes before → Steps before node
      → IsWalk Starts Steps (nodes ++ node ∷ []) node
  walk_more nodes before node walk step =
      let some = walk.some in
      let long = length-append nodes (node ∷ []) in
      let same = λ (k : ℕ) (below : k < length nodes). get_or-append nodes (node ∷ []) 0 k below in
      let last = at_seam nodes node (length nodes) refl in
      let end : length (nodes ++ node ∷ []) - 1 ≡ length nodes = omega arith in
      record {
        some = omega arith;
        starts = subst Starts (sym (same 0 (omega arith))) walk.starts;
        steps = λ place below. elim (cases_order (place + 1) (length nodes)) [
          | inl here ↦
              let at : place ≡ length nodes - 1 = omega arith in
              let is = same place (omega arith) ∙ ap (slice_index nodes) at ∙ walk.ends in
              subst₂ Steps (sym is) (sym (ap (slice_index (nodes ++ node ∷ [])) here ∙ last)) step
          | inr apart ↦
              let short : place + 1 < length nodes = elim apart [ inl lt ↦ lt | inr gt ↦ absurd (omega arith) ] in
              subst₂ Steps (sym (same place (omega arith))) (sym (same (place + 1) short)) (walk.steps place short)
        ];
        ends = ap (slice_index (nodes ++ node ∷ [])) end ∙ last;
      }

  walk_of : (count node : ℕ) → Reaches Starts Steps count node → (nodes : List ℕ) × IsWalk Starts Steps nodes node
      × (length nodes ≡ count + 1)
  walk_of zero node reaches = (
    node ∷ [],
    record { some = omega arith; starts = reaches; steps = λ place below. absurd (omega arith); ends = refl },
    refl,
  )
  walk_of (suc count) node reaches =
      let before = walk_of count reaches.0 reaches.1 in
      let long = before.2 in (
        before.0 ++ node ∷ [],
        walk_more before.0 reaches.0 node before.1 reaches.2,
        omega (arith, length-append before.0 (node ∷ [])),
      )

  -- and where there is one there is a walk of as many steps
  pub some_walk : (node distance : ℕ) → HasDistance Starts Steps node (Some distance)
      → (nodes : List ℕ) × IsWalk Starts Steps nodes node × (length nodes ≡ distance + 1)
  some_walk node distance has = walk_of distance node has.reaches
