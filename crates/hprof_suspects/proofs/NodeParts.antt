-- If facts agree, it is decided what is a part, and each part has pieces.
use Rattle.std.proofs.Common.{◌≡◌, ◌≢◌, ◌≤◌, ◌+◌, ◌-◌, ◌*◌, ℕ, zero, suc, List, [], ◌∷◌, Option, Some, None, length, refl, sym, ap, subst}
use Rattle.std.proofs.Common.{inl, inr, arith}
use Rattle.std.specs.List.{sum_by}
use Rattle.std.proofs.lemmas.Bool.{cases_eq}
use Rattle.std.proofs.lemmas.List.Sums.{sum_by-cons}
use Rattle.hprof_values.specs.declared.ids.IdSize.{IdSize}
use Rattle.hprof_items.specs.FactValue.{FactValue}
use Rattle.hprof_rows.specs.Conflict.{IsConsistent}
use Rattle.hprof_dominators.specs.Retained.{IsOnce}
use Rattle.hprof_dominators.specs.Walks.{IsOn}
use Rattle.hprof_reach.specs.Reaching.{IsDumped}
use Rattle.hprof_retained.specs.Retained.{AreBytesOver, Dominates, IsHeld, IsTotal, Sum}
use Rattle.hprof_retained.proofs.Deciding.{Decided, apart_decided, both_decided, either_decided}
use Rattle.hprof_retained.proofs.NodeLists.{IsListOf, held_dumped, nodes_exist}
use Rattle.hprof_keeps.specs.Order.{AreRetained}
use Rattle.hprof_by_label.proofs.Joined.{bytes_joined, bytes_within, sum_of_none}
use Rattle.hprof_suspects.specs.Groups.{Above, HasHead, HaveOneLabel, IsBelow, IsHead, Itself}
use Rattle.hprof_suspects.specs.Parts.{AddUp, HasPieces, IsLarge, IsOnlyLarge, IsPart, IsSingled, Large, Roots, bytes_of}
use Rattle.hprof_suspects.proofs.AddedUp.{one_above}
use Rattle.hprof_suspects.proofs.Decisions.{alike_decided, alone_decided, le_decided}
use Rattle.hprof_suspects.proofs.NodeGroups.{IsWalk, below_head, each_other, either, head_below, head_over, heads_decided, over_head}
use Rattle.hprof_suspects.proofs.NodeGroups.{shorter, transitive, walk_of}

same_or_not : (one other : Option ℕ) → Decided (one ≡ other)
same_or_not None None = inl refl
same_or_not None (Some other) = inr (λ e. absurd cc)
same_or_not (Some one) None = inr (λ e. absurd cc)
same_or_not (Some one) (Some other) = elim (cases_eq one other) [
  | inl same ↦ inl (ap Some same)
  | inr apart ↦ inr (λ e. let same : one ≡ other = cc in apart same)
]

module _ (ids : IdSize) (facts : List FactValue) where
  top_is_head : (node head : ℕ) → HasHead ids facts node head → IsHead ids facts head
  top_is_head _ _ (Itself node own) = own
  top_is_head _ _ (Above node parent head joins rest) = top_is_head parent head rest

  -- ---- what is right below a group

  over_dominates : (group node : ℕ) → IsBelow ids facts (Some group) node → Dominates ids facts group node
  over_dominates group node below =
      let parent = below.1.0 in
      transitive ids facts group parent node (head_over ids facts parent group below.1.2) below.1.1.dominates

  over_other : (group node : ℕ) → IsBelow ids facts (Some group) node → group ≢ node
  over_other group node below same =
      let parent = below.1.0 in
      below.1.1.other (each_other ids facts parent node below.1.1.dominates
      (subst (λ (n : ℕ). Dominates ids facts n parent) same (head_over ids facts parent group below.1.2)))

  no_higher : (part : Option ℕ) (one other : ℕ) → IsBelow ids facts part one → IsBelow ids facts part other
      → Dominates ids facts one other → one ≡ other
  no_higher None one other below below_too up = below_too.1.none one up
  no_higher (Some group) one other below below_too up = elim (cases_eq one other) [
    | inl same ↦ same
    | inr apart ↦
        let parent = below_too.1.0 in
        let to_group = over_head ids facts one parent group below.0 below_too.1.2 (below_too.1.1.nearest one up apart) in
        absurd (over_other group one below (each_other ids facts group one (over_dominates group one below) to_group))
  ]

  -- two of these have nothing below them in common
  nothing_shared : (part : Option ℕ) (one other x : ℕ) → IsBelow ids facts part one → IsBelow ids facts part other
      → Dominates ids facts one x → Dominates ids facts other x → one ≡ other
  nothing_shared part one other x below below_too dominates dominates_too =
      elim (either ids facts one other x dominates dominates_too) [
        | inl up ↦ no_higher part one other below below_too up
        | inr down ↦ sym (no_higher part other one below_too below down)
      ]

module _ (ids : IdSize) (facts : List FactValue) (agree : IsConsistent facts) (retained : ℕ → Sum) (are : AreRetained ids facts retained)
    (total : Sum) (is_total : IsTotal ids facts total) where
  abbrev Part : Option ℕ → Type 0
  Part part = IsPart ids facts retained total part

  abbrev Big : ℕ → Type 0
  Big node = IsLarge ids facts retained total node

  abbrev Singled : Option ℕ → ℕ → Type 0
  Singled above node = IsSingled ids facts retained total above node

  pub below_decided : (part : Option ℕ) (node : ℕ) → Decided (IsBelow ids facts part node)
  below_decided part node = elim (heads_decided ids facts agree node) [
    | inr none ↦ inr (λ below. none (below_head ids facts part node below))
    | inl own ↦
        let is = head_below ids facts agree node own in
        elim (same_or_not is.0 part) [
          | inl same ↦ inl (subst (λ (p : Option ℕ). IsBelow ids facts p node) same is.1)
          | inr apart ↦ inr (λ below. apart (one_above ids facts is.0 part node is.1 below))
        ]
  ]

  pub below_dumped : (part : Option ℕ) (node : ℕ) → IsBelow ids facts part node → IsDumped facts node
  below_dumped part node below = held_dumped ids facts agree node (below_head ids facts part node below).held

  -- ---- parts

  abbrev IsRival : Option ℕ → ℕ → ℕ → Type 0
  IsRival above node other =
      (IsBelow ids facts above other × Big other) × (HaveOneLabel facts other node × (other ≡ node → ⊥))

  rivals : (above : Option ℕ) (node : ℕ) → (nodes : List ℕ) × IsListOf (IsRival above node) nodes
  rivals above node = nodes_exist ids facts agree (IsRival above node)
      (λ other. both_decided (both_decided (below_decided above other) (le_decided total.bytes (10 * (retained other).bytes)))
      (both_decided (alike_decided facts agree other node) (apart_decided other node)))
      (λ other rival. below_dumped above other rival.0.0)

  only_decided : (above : Option ℕ) (node : ℕ) → Decided (IsOnlyLarge ids facts retained total above node)
  only_decided above node = go (rivals above node).0 (rivals above node).1 where
    go : (nodes : List ℕ) → IsListOf (IsRival above node) nodes → Decided (IsOnlyLarge ids facts retained total above node)
    go [] list = inl (λ other below big alike. elim (cases_eq other node) [
      | inl same ↦ same
      | inr apart ↦ absurd ((list.exact other).1 ((below, big), (alike, apart)))
    ])
    go (first ∷ nodes) list = inr (λ only.
        let rival = (list.exact first).0 (inl refl) in rival.1.1 (only first rival.0.0 rival.0.1 rival.1.0))

  singled_decided : (above : Option ℕ) (node : ℕ) → Decided (Singled above node)
  singled_decided above node =
      either_decided (alone_decided facts agree node) (either_decided (same_or_not above None) (only_decided above node))

  pub record IsLargePart (node : ℕ) : Type 0 where
    pub above : Option ℕ
    pub is_part : Part above
    pub below : IsBelow ids facts above node
    pub big : Big node
    pub singled : Singled above node

  pub part_back : (some : Option ℕ) (node : ℕ) → Part some → some ≡ Some node → IsLargePart node
  part_back _ node Roots same = absurd cc
  part_back _ node (Large above own is_part below large singled) same =
      let node_is : own ≡ node = cc in
      record {
        above = above;
        is_part = is_part;
        below = subst (IsBelow ids facts above) node_is below;
        big = subst Big node_is large;
        singled = subst (Singled above) node_is singled;
      }

  part_step : (node : ℕ) (above : Option ℕ) → IsBelow ids facts above node → Decided (Part above) → Decided (Part (Some node))
  part_step node above below (inr none) = inr (λ part.
      let back = part_back (Some node) node part refl in
      none (subst Part (one_above ids facts back.above above node back.below below) back.is_part))
  part_step node above below (inl is) = elim (le_decided total.bytes (10 * (retained node).bytes)) [
    | inr small ↦ inr (λ part. small (part_back (Some node) node part refl).big)
    | inl large ↦ elim (singled_decided above node) [
      | inl singled ↦ inl (Large above node is below large singled)
      | inr none ↦ inr (λ part.
          let back = part_back (Some node) node part refl in
          none (subst (λ (a : Option ℕ). Singled a node) (one_above ids facts back.above above node back.below below) back.singled))
    ]
  ]

  -- there is a shorter walk to the group that a node is right below
  nearer : (group node : ℕ) (nodes : List ℕ) → IsWalk ids facts nodes node → IsBelow ids facts (Some group) node
      → (rest : List ℕ) × IsWalk ids facts rest group × (length rest + 1 ≤ length nodes)
  nearer group node nodes walk below =
      shorter ids facts group node nodes walk (over_dominates ids facts group node below) (over_other ids facts group node below)

  part_to : (most node : ℕ) (nodes : List ℕ) → IsWalk ids facts nodes node → length nodes ≤ most → (above : Option ℕ)
      → IsBelow ids facts above node → Decided (Part (Some node))
  part_to most node nodes walk short None below = part_step node None below (inl Roots)
  part_to zero node nodes walk short (Some group) below =
      let rest = nearer group node nodes walk below in
      let less = rest.2 in absurd (omega arith)
  part_to (suc most) node nodes walk short (Some group) below =
      let rest = nearer group node nodes walk below in
      let less = rest.2 in
      let next = head_below ids facts agree group (top_is_head ids facts below.1.0 group below.1.2) in
      part_step node (Some group) below (part_to most group rest.0 rest.1 (omega arith) next.0 next.1)

  pub part_decided : (node : ℕ) → Decided (Part (Some node))
  part_decided node = elim (heads_decided ids facts agree node) [
    | inr none ↦ inr (λ part.
        let back = part_back (Some node) node part refl in none (below_head ids facts back.above node back.below))
    | inl own ↦
        let walk = walk_of ids facts node own.held in
        let is = head_below ids facts agree node own in
        part_to (length walk.0) node walk.0 walk.1 (omega arith) is.0 is.1
  ]

  pub part_held : (node : ℕ) → Part (Some node) → IsHeld ids facts node
  part_held node part =
      let back = part_back (Some node) node part refl in (below_head ids facts back.above node back.below).held

  -- ---- sums

  -- all of which that holds
  pub record Added (Holds : ℕ → Type 0) : Type 0 where
    pub bytes : ℕ
    pub count : ℕ
    pub adds : AddUp ids facts retained total Holds bytes count

  pub added : (Holds : ℕ → Type 0) → ((node : ℕ) → Decided (Holds node)) → ((node : ℕ) → Holds node → IsDumped facts node) → Added Holds
  added Holds decide dumped =
      let nodes = nodes_exist ids facts agree Holds decide dumped in
      record {
        bytes = sum_by (λ node. (retained node).bytes) nodes.0;
        count = length nodes.0;
        adds = record { nodes = nodes.0; once = nodes.1.once; exact = nodes.1.exact; bytes_are = refl; count_is = refl };
      }

  -- one of these dominates it
  abbrev IsUnder : List ℕ → ℕ → Type 0
  IsUnder nodes x = (node : ℕ) × IsOn node nodes × Dominates ids facts node x

  all_under : (part : Option ℕ) (nodes : List ℕ) → IsOnce nodes → ((node : ℕ) → IsOn node nodes → IsBelow ids facts part node)
      → AreBytesOver ids facts (IsUnder nodes) (sum_by (λ node. (retained node).bytes) nodes)
  all_under part [] once below = (sum_of_none ids facts (IsUnder []) (λ x under. absurd under.1)).0
  all_under part (node ∷ nodes) once below =
      let first = are node (below_head ids facts part node (below node (inl refl))).held in
      let rest = all_under part nodes once.1 (λ n on. below n (inr on)) in
      let sum = sum_by-cons (λ node. (retained node).bytes) node nodes in
      subst (AreBytesOver ids facts (IsUnder (node ∷ nodes))) (sym sum)
      (bytes_joined (Dominates ids facts node) (IsUnder nodes) (IsUnder (node ∷ nodes))
      (λ x one other.
      let same = nothing_shared ids facts part node other.0 x (below node (inl refl)) (below other.0 (inr other.1)) one other.2 in
      once.0 (subst (λ (n : ℕ). IsOn n nodes) (sym same) other.1))
      (λ x. (
        λ under. elim under.1 [
          | inl same ↦ inl (subst (λ (n : ℕ). Dominates ids facts n x) same under.2)
          | inr later ↦ inr (under.0, later, under.2)
        ],
        λ either. elim either [ inl one ↦ (node, inl refl, one) | inr other ↦ (other.0, inr other.1, other.2) ],
      )) ids facts (retained node).bytes (sum_by (λ node. (retained node).bytes) nodes) first.0 rest)

  -- what is right below a node that is held, or right below the roots, retains no more than it
  pub fits : (part : Option ℕ) → ((group : ℕ) → part ≡ Some group → IsHeld ids facts group) → (nodes : List ℕ) → IsOnce nodes
      → ((node : ℕ) → IsOn node nodes → IsBelow ids facts part node)
      → sum_by (λ node. (retained node).bytes) nodes ≤ bytes_of ids facts retained total part
  fits None held nodes once below =
      bytes_within ids facts agree (IsUnder nodes) (IsHeld ids facts) (sum_by (λ node. (retained node).bytes) nodes) total.bytes
      (held_dumped ids facts agree) (λ x under. under.2.reached) (all_under None nodes once below) is_total.0
  fits (Some group) held nodes once below =
      bytes_within ids facts agree (IsUnder nodes) (Dominates ids facts group) (sum_by (λ node. (retained node).bytes) nodes)
      (retained group).bytes (λ x dominates. held_dumped ids facts agree x dominates.reached)
      (λ x under. transitive ids facts group under.0 x (over_dominates ids facts group under.0 (below under.0 under.1)) under.2)
      (all_under (Some group) nodes once below) (are group (held group refl)).0

  pub part_pieces : (part : Option ℕ) → Part part → (pieces : ℕ) × HasPieces ids facts retained total part pieces
  part_pieces part is =
      let below = added (λ node. IsBelow ids facts part node × Part (Some node))
      (λ node. both_decided (below_decided part node) (part_decided node)) (λ node both. below_dumped part node both.0) in
      let adds = below.adds in
      let sum = adds.bytes_are in
      let held : (group : ℕ) → part ≡ Some group → IsHeld ids facts group = λ group same. part_held group (subst Part same is) in
      let within = fits part held adds.nodes adds.once (λ node on. ((adds.exact node).0 on).0) in (
        bytes_of ids facts retained total part - below.bytes,
        record { below = below.bytes; count = below.count; are_below = adds; is = omega arith },
      )
