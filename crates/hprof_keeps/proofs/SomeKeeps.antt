-- If facts agree, there is a report `keeps` of each identifier.
use Rattle.std.specs.Prelude.{AllPairs}
use Rattle.std.proofs.Common.{◌≡◌, ◌≢◌, ◌⊎◌, ◌<◌, ℕ, zero, suc, List, [], ◌∷◌, ◌++◌, Option, Some, None, length, get_or, codes, refl, sym}
use Rattle.std.proofs.Common.{ap, subst, inl, inr, arith}
use Rattle.std.proofs.lemmas.Bool.{cases_eq}
use Rattle.hprof_values.specs.declared.ids.IdSize.{IdSize}
use Rattle.hprof_items.specs.FactValue.{FactValue}
use Rattle.hprof_rows.specs.Conflict.{IsConsistent}
use Rattle.hprof_heap.specs.Classes.{ClassValue}
use Rattle.hprof_heap.specs.Found.{IsClassFound, IsObjectFound}
use Rattle.hprof_text.specs.Identifier.{id_digits}
use Rattle.hprof_naming.proofs.Lookups.{class_exists, object_exists}
use Rattle.hprof_reach.specs.Reaching.{IsDumped, IsStart, IsStepBy}
use Rattle.hprof_weak.specs.Weak.{IsStrong}
use Rattle.hprof_dominators.specs.Retained.{IsOnce}
use Rattle.hprof_dominators.proofs.Listed.{dominator_reached, same_dominates}
use Rattle.hprof_dominators.proofs.Walking.{dominates_through, one_of_two}
use Rattle.hprof_describe.specs.Findings.{AreFindings, Findings}
use Rattle.hprof_describe.proofs.OneFinding.{findings_exist}
use Rattle.hprof_histogram.proofs.Members.{IsIn, Contains-from_in, in_from_Contains}
use Rattle.hprof_retained.specs.Retained.{Dominates, HasParent, IsHeld, IsSumOver, Sum}
use Rattle.hprof_retained.proofs.Deciding.{Decided, both_decided, not_decided}
use Rattle.hprof_retained.proofs.HeldOrNot.{dominates_or_not, held_or_not}
use Rattle.hprof_retained.proofs.NodeLists.{held_dumped, nodes_exist}
use Rattle.hprof_retained.proofs.OneParent.{one_parent}
use Rattle.hprof_retained.proofs.SomeParent.{parent_exists}
use Rattle.hprof_retained.proofs.SomeSums.{sum_exists, total_exists}
use Rattle.hprof_retained.proofs.WeaklyFound.{reached_node, reached_or_not}
use Rattle.hprof_retained.specs.Weakly.{IsWeaklyHeld}
use Rattle.hprof_keeps.specs.KeepsText.{IsHeldText, IsKeepsText, IsNodeText, IsRootsText}
use Rattle.hprof_keeps.specs.KeepsText.{above_lines, child_lines, total_line, weakly_line}
use Rattle.hprof_keeps.specs.Order.{AreChildren, AreDominators}
use Rattle.hprof_keeps.proofs.LargestFirst.{are_sums, in_on, largest_exist, on_in, sums}
use Rattle.hprof_keeps.proofs.OneKeeps.{not_each_other}

-- ---- lists of nodes

in_at : (xs : List ℕ) (k d : ℕ) → k < length xs → IsIn (get_or xs k d) xs
in_at [] k d low = absurd (omega arith)
in_at (x ∷ xs) zero d low = inl refl
in_at (x ∷ xs) (suc k) d low = inr (in_at xs k d (omega arith))

module _ (R : ℕ → ℕ → Type 0) where
  -- each is before those behind it
  abbrev Pairs : List ℕ → Type 0
  Pairs [] = Unit {0}
  Pairs (x ∷ xs) = ((y : ℕ) → IsIn y xs → R x y) × Pairs xs

  all_pairs : (xs : List ℕ) → Pairs xs → AllPairs R xs
  all_pairs [] pairs = λ i j d less low. absurd (omega arith)
  all_pairs (x ∷ xs) pairs = by_places (all_pairs xs pairs.1) where
    by_places : AllPairs R xs → (i j d : ℕ) → i < j → j < length (x ∷ xs) → R (get_or (x ∷ xs) i d) (get_or (x ∷ xs) j d)
    by_places rest i zero d less low = absurd (omega arith)
    by_places rest zero (suc j) d less low = pairs.0 (get_or xs j d) (in_at xs j d (omega arith))
    by_places rest (suc i) (suc j) d less low = rest i j d (omega arith) (omega arith)

  -- a list of these, each before those behind it
  record InPairs (nodes : List ℕ) : Type 0 where
    all : List ℕ
    pairs : Pairs all
    only : (x : ℕ) → IsIn x all → IsIn x nodes
    keeps : (x : ℕ) → IsIn x nodes → IsIn x all

  module _ (through : (x y z : ℕ) → R x y → R y z → R x z) where
    put : (x : ℕ) (nodes : List ℕ) → Pairs nodes → ((y : ℕ) → IsIn y nodes → R x y ⊎ R y x) → InPairs (x ∷ nodes)
    put x [] pairs either =
        record { all = x ∷ []; pairs = (λ y has. absurd has, tt); only = λ y has. has; keeps = λ y has. has }
    put x (node ∷ nodes) pairs either = elim (either node (inl refl)) [
      | inl before ↦ record {
        all = x ∷ node ∷ nodes;
        pairs = (
          λ y has. elim has [
            | inl same ↦ subst (R x) (sym same) before
            | inr later ↦ through x node y before (pairs.0 y later)
          ],
          pairs,
        );
        only = λ y has. has;
        keeps = λ y has. has;
      }
      | inr after ↦
          let rest = put x nodes pairs.1 (λ y has. either y (inr has)) in
          record {
            all = node ∷ rest.all;
            pairs = (
              λ y has. elim (rest.only y has) [
                | inl same ↦ subst (R node) (sym same) after
                | inr later ↦ pairs.0 y later
              ],
              rest.pairs,
            );
            only = λ y has. elim has [
              | inl same ↦ inr (inl same)
              | inr later ↦ elim (rest.only y later) [ inl same ↦ inl same | inr behind ↦ inr (inr behind) ]
            ];
            keeps = λ y has. elim has [
              | inl same ↦ inr (rest.keeps y (inl same))
              | inr later ↦ elim later [ inl same ↦ inl same | inr behind ↦ inr (rest.keeps y (inr behind)) ]
            ];
          }
    ]

    in_pairs : (nodes : List ℕ) → IsOnce nodes
        → ((x y : ℕ) → IsIn x nodes → IsIn y nodes → x ≢ y → R x y ⊎ R y x) → InPairs nodes
    in_pairs [] once either = record { all = []; pairs = tt; only = λ x has. has; keeps = λ x has. has }
    in_pairs (x ∷ nodes) once either =
        let rest = in_pairs nodes once.1 (λ y z has has_too. either y z (inr has) (inr has_too)) in
        let more = put x rest.all rest.pairs (λ y has. either x y (inl refl) (inr (rest.only y has))
        (λ same. once.0 (on_in x nodes (subst (λ (n : ℕ). IsIn n nodes) (sym same) (rest.only y has))))) in
        record {
          all = more.all;
          pairs = more.pairs;
          only = λ y has. elim (more.only y has) [ inl same ↦ inl same | inr later ↦ inr (rest.only y later) ];
          keeps = λ y has. elim has [
            | inl same ↦ more.keeps y (inl same)
            | inr later ↦ more.keeps y (inr (rest.keeps y later))
          ];
        }

-- ---- what is decided

same_option : (one other : Option ℕ) → Decided (one ≡ other)
same_option None None = inl refl
same_option None (Some other) = inr (λ e. absurd cc)
same_option (Some one) None = inr (λ e. absurd cc)
same_option (Some one) (Some other) = elim (cases_eq one other) [
  | inl same ↦ inl (ap Some same)
  | inr apart ↦ inr (λ e. let same : one ≡ other = cc in apart same)
]

dumped_or_not : (facts : List FactValue) (id : ℕ) → Decided (IsDumped facts id)
dumped_or_not facts id = go class.0 object.0 class.1 object.1 where
  class : (class : Option ClassValue) × IsClassFound facts id class
  class = class_exists facts id

  object : (object : Option FactValue) × IsObjectFound facts id object
  object = object_exists facts id

  go : (class : Option ClassValue) (object : Option FactValue) → IsClassFound facts id class → IsObjectFound facts id object
      → Decided (IsDumped facts id)
  go (Some dump) object is is_too = inl (inl (dump, is.0, is.1))
  go None (Some fact) is is_too = inl (inr (fact, is_too.0, is_too.1))
  go None None none none_too = inr (λ dumped. elim dumped [
    | inl class ↦ none class.0 class.1 class.2
    | inr object ↦ none_too object.0 object.1 object.2
  ])

-- ---- of facts that agree

module _ (ids : IdSize) (facts : List FactValue) (agree : IsConsistent facts) where
  abbrev Start : ℕ → Type 0
  Start = IsStart facts

  abbrev Step : ℕ → ℕ → Type 0
  Step from to = IsStepBy (IsStrong facts) ids facts from to

  pub weakly_exists : (sum : Sum) × IsSumOver ids facts (IsWeaklyHeld ids facts) sum
  weakly_exists = sum_exists ids facts agree (IsWeaklyHeld ids facts)
      (λ node. both_decided (reached_or_not ids facts agree node) (not_decided (held_or_not ids facts agree node)))
      (λ node weakly. (reached_node ids facts agree node weakly.0).1)

  abbrev retained : ℕ → Sum
  retained = sums ids facts agree

  -- ---- right below a node

  below_or_not : (parent : Option ℕ) (node : ℕ) → Decided (IsHeld ids facts node × HasParent ids facts node parent)
  below_or_not parent node = elim (held_or_not ids facts agree node) [
    | inr none ↦ inr (λ both. none both.0)
    | inl held ↦
        let is = parent_exists ids facts agree node held in
        elim (same_option is.0 parent) [
          | inl same ↦ inl (held, subst (HasParent ids facts node) same is.1)
          | inr apart ↦ inr (λ both. apart (one_parent Start Step node is.0 parent is.1 both.1))
        ]
  ]

  children_exist : (parent : Option ℕ) → (nodes : List ℕ) × AreChildren ids facts retained parent nodes
  children_exist parent = largest_exist ids facts agree (λ node. IsHeld ids facts node × HasParent ids facts node parent)
      (below_or_not parent) (λ node both. held_dumped ids facts agree node both.0)

  -- ---- the dominators of a node

  abbrev IsBefore : ℕ → ℕ → Type 0
  IsBefore x y = Dominates ids facts x y × (x ≢ y)

  through : (x y z : ℕ) → IsBefore x y → IsBefore y z → IsBefore x z
  through x y z one other = (
    (same_dominates Start Step x z).0 (dominates_through Start Step x y z ((same_dominates Start Step x y).1 one.0)
        ((same_dominates Start Step y z).1 other.0)),
    λ same. not_each_other ids facts x y one (subst (IsBefore y) (sym same) other),
  )

  -- of two that dominate a node the one dominates the other
  before_or_after : (id x y : ℕ) → Dominates ids facts x id → Dominates ids facts y id → x ≢ y → IsBefore x y ⊎ IsBefore y x
  before_or_after id x y one other apart =
      let first = (same_dominates Start Step x id).1 one in
      let walk = first.reached in
      elim (one_of_two Start Step x y id walk.0 walk.1 first ((same_dominates Start Step y id).1 other)) [
        | inl before ↦ inl ((same_dominates Start Step x y).0 before, apart)
        | inr after ↦ inr ((same_dominates Start Step y x).0 after, λ same. apart (sym same))
      ]

  dominators_exist : (id : ℕ) → (nodes : List ℕ) × AreDominators ids facts id nodes
  dominators_exist id =
      let all = nodes_exist ids facts agree (λ x. Dominates ids facts x id) (λ x. dominates_or_not ids facts agree x id)
      (λ x dominates. held_dumped ids facts agree x (dominator_reached Start Step x id dominates)) in
      let ordered = in_pairs IsBefore through all.0 all.1.once
      (λ x y has has_too apart. before_or_after id x y ((all.1.exact x).0 (on_in x all.0 has)) ((all.1.exact y).0 (on_in y all.0 has_too))
      apart) in (
        ordered.all,
        record {
          inward = all_pairs IsBefore ordered.all ordered.pairs;
          exact = λ x. (
            λ has. (all.1.exact x).0 (on_in x all.0 (ordered.only x (in_from_Contains ordered.all x has))),
            λ dominates. Contains-from_in ordered.all x (ordered.keeps x (in_on x all.0 ((all.1.exact x).1 dominates))),
          );
        },
      )

  -- ---- the text

  module _ (found : Findings) where
    roots_exist : (text : List ℕ) × IsRootsText ids facts found retained text
    roots_exist =
        let total = total_exists ids facts agree in
        let weakly = weakly_exists in
        let children = children_exist None in (
          total_line total.0 ++ weakly_line weakly.0 ++ child_lines found retained children.0,
          record {
            total = total.0;
            is_total = total.1;
            weakly = weakly.0;
            are_weakly = weakly.1;
            children = children.0;
            are_children = children.1;
            is = refl;
          },
        )

    held_exists : (id : ℕ) → IsHeld ids facts id → (text : List ℕ) × IsHeldText ids facts found retained id text
    held_exists id held =
        let total = total_exists ids facts agree in
        let dominators = dominators_exist id in
        let children = children_exist (Some id) in (
          total_line total.0 ++ above_lines found retained dominators.0 ++ child_lines found retained children.0,
          record {
            held = held;
            total = total.0;
            is_total = total.1;
            dominators = dominators.0;
            are_dominators = dominators.1;
            children = children.0;
            are_children = children.1;
            is = refl;
          },
        )

    node_exists : (id : ℕ) → id ≢ 0 → (text : List ℕ) × IsNodeText ids facts found retained id text
    node_exists id some = elim (dumped_or_not facts id) [
      | inr none ↦ (codes "nothing at " ++ id_digits id ++ codes "\n", inl (λ is. none is.1, refl))
      | inl dumped ↦ elim (held_or_not ids facts agree id) [
        | inl held ↦ let text = held_exists id held in (text.0, inr (inl ((some, dumped), text.1)))
        | inr not ↦ elim (reached_or_not ids facts agree id) [
          | inl reached ↦ (codes "only by weak references\n", inr (inr (inl ((some, dumped), (reached, not), refl))))
          | inr none ↦ (codes "not reached\n", inr (inr (inr ((some, dumped), none, refl))))
        ]
      ]
    ]

  made : (found : Findings) → AreFindings ids facts found → (id : ℕ) → (text : List ℕ) × IsKeepsText ids facts id text
  made found are id = elim (cases_eq id 0) [
    | inl is_zero ↦ let text = roots_exist found in (text.0, told text.0 (inl (is_zero, text.1)))
    | inr some ↦ let text = node_exists found id some in (text.0, told text.0 (inr (some, text.1)))
  ] where
    told : (text : List ℕ)
        → ((id ≡ 0) × IsRootsText ids facts found retained text) ⊎ ((id ≢ 0) × IsNodeText ids facts found retained id text)
        → IsKeepsText ids facts id text
    told text is = record {
      agree = agree;
      found = found;
      are_found = are;
      retained = retained;
      are_retained = are_sums ids facts agree;
      is = is;
    }

pub keeps_exists : (ids : IdSize) (facts : List FactValue) → IsConsistent facts → (id : ℕ)
    → (text : List ℕ) × IsKeepsText ids facts id text
keeps_exists ids facts agree id = let found = findings_exist ids facts agree in made ids facts agree found.0 found.1 id
