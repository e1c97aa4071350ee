-- The edges of a node more are put in, by numbers.
use Rattle.std.specs.Prelude.{◌↔◌, Contains, Option, slice_index, unwrap_or}
use Rattle.std.specs.Option.{option_or}
use Rattle.std.proofs.Common.{◌≡◌, ◌<◌, ◌+◌, ℕ, List, [], ◌∷◌, ◌++◌, Some, None, length, inl, inr, refl, ap, sym, subst, ◌∙◌, arith}
use Rattle.std.specs.List.Sorted.{IsStrictlyIncreasing}
use Rattle.std.proofs.lemmas.List.{length-append}
use Rattle.hprof_numbers.specs.Appends.{Appends}
use Rattle.hprof_numbers.specs.Lists.{IsListed}
use Rattle.hprof_numbers.specs.Numbers.{items_in}
use Rattle.hprof_numbers.specs.Places.{number_in}
use Rattle.hprof_numbers.specs.Predecessors.{list_of}
use Rattle.hprof_numbers.specs.Targets.{AreNumberedEdges, IsNumberOf, number_or}
use Rattle.hprof_numbers.specs.declared.lists.Lists.{Lists}
use Rattle.hprof_numbers.proofs.Arriving.{last}
use Rattle.hprof_numbers.proofs.Ascending.{has_number, number_of}
use Rattle.hprof_numbers.proofs.Behind.{AreRows, IsInRow, appends_more, appends_same, row_before, row_last, row_low, rows_more}
use Rattle.hprof_numbers.proofs.Placed.{has_place, stands}

-- ---- the number of a target

or_none : (number : Option ℕ) → option_or number None ≡ number
or_none None = refl
or_none (Some number) = refl

or_some : (number : Option ℕ) (other : ℕ) → option_or number (Some other) ≡ Some (unwrap_or number other)
or_some None other = refl
or_some (Some number) other = refl

-- what is found and what the other is make the number
pub number_is : (nodes : List ℕ) (other : Option ℕ) (target : ℕ) (found number : Option ℕ) → found ≡ number_in nodes target
    → number ≡ option_or found other → number_or nodes other target ≡ number
number_is nodes other target found number e is = ap (λ (o : Option ℕ). option_or o other) (sym e) ∙ sym is

module _ (nodes : List ℕ) where
  -- without another number a target that has one is a node
  pub only_nodes : (target number : ℕ) → number_or nodes None target ≡ Some number
      → (number < length nodes) × (slice_index nodes number ≡ target)
  only_nodes target number is = stands nodes target number (sym (or_none (number_in nodes target)) ∙ is)

  pub number_of_node : IsStrictlyIncreasing nodes → (IsTarget : ℕ → Type 0) (number : ℕ)
      → IsNumberOf nodes None IsTarget number ↔ ((number < length nodes) × IsTarget (slice_index nodes number))
  number_of_node ascend IsTarget number = (
    λ it. let at = only_nodes it.0 number it.2 in (at.0, subst IsTarget (sym at.1) it.1),
    λ it. let node = slice_index nodes number in
        (node, it.1, or_none (number_in nodes node) ∙ has_place nodes node ascend number it.0 refl),
  )

  -- what is listed is such a number
  pub number_listed : (Leads : ℕ → ℕ → Type 0) (other : Option ℕ) (lists : Lists) → AreNumberedEdges Leads nodes other lists
      → (from number : ℕ) → IsListed lists from number → IsNumberOf nodes other (Leads (slice_index nodes from)) number
  number_listed Leads other lists edges from number listed =
      let low = row_low (items_in lists.ends) (items_in lists.items) from number listed in
      (edges.exact from number (omega (arith, low, edges.as_many))).0 listed

  pub list_low : (target : ℕ) → list_of nodes target < length nodes + 1
  list_low target = by (number_in nodes target) refl where
    by : (number : Option ℕ) → number_in nodes target ≡ number → list_of nodes target < length nodes + 1
    by None e = omega (arith, ap (λ (o : Option ℕ). unwrap_or o (length nodes)) e)
    by (Some number) e = omega (arith, (stands nodes target number e).0, ap (λ (o : Option ℕ). unwrap_or o (length nodes)) e)

  -- with the number behind all nodes each target has that of its list
  module _ (other : ℕ) (behind : other ≡ length nodes) where
    pub number_of_list : (target : ℕ) → number_or nodes (Some other) target ≡ Some (list_of nodes target)
    number_of_list target =
        or_some (number_in nodes target) other ∙ ap (λ (n : ℕ). Some (unwrap_or (number_in nodes target) n)) behind

    pub list_of_number : (target number : ℕ) → number_or nodes (Some other) target ≡ Some number → number ≡ list_of nodes target
    list_of_number target number is = let both = sym is ∙ number_of_list target in cc

-- ---- the targets of a node

-- a number is that of one of the first so many targets
abbrev pub IsFirstNumber : List ℕ → Option ℕ → List ℕ → ℕ → ℕ → Type 0
IsFirstNumber nodes other targets count number =
    (place : ℕ) × (place < count) × (number_or nodes other (slice_index targets place) ≡ Some number)

module _ (nodes : List ℕ) (other : Option ℕ) (targets : List ℕ) where
  pub targets_all : (count : ℕ) (items then : List ℕ) → count ≡ length targets
      → Appends (IsFirstNumber nodes other targets count) items then → Appends (IsNumberOf nodes other (Contains targets)) items then
  targets_all count items then all appends = appends_same _ _ items then
      (λ one it. (slice_index targets it.0, has_number targets _ it.0 (omega (arith, it.1, all)) refl, it.2))
      (λ one it.
      let at = number_of targets it.0 it.1 in
      (at.0, omega (arith, at.1, all), ap (number_or nodes other) at.2 ∙ it.2))
      appends

  module _ (count : ℕ) (items then : List ℕ) (appends : Appends (IsFirstNumber nodes other targets count) items then) where
    later : (one : ℕ) → IsFirstNumber nodes other targets count one → IsFirstNumber nodes other targets (count + 1) one
    later one it = (it.0, omega (arith, it.1), it.2)

    -- a target has no number
    pub target_out : number_or nodes other (slice_index targets count) ≡ None
        → Appends (IsFirstNumber nodes other targets (count + 1)) items then
    target_out none = appends_same _ _ items then later
        (λ one it. elim (last it.0 count it.1) [
          | inl before ↦ (it.0, before, it.2)
          | inr is ↦
              let differ = sym (ap (λ (place : ℕ). number_or nodes other (slice_index targets place)) is ∙ none) ∙ it.2 in
              absurd cc
        ])
        appends

    -- or it has one
    pub target_in : (number : ℕ) → number_or nodes other (slice_index targets count) ≡ Some number
        → Appends (IsFirstNumber nodes other targets (count + 1)) items (then ++ number ∷ [])
    target_in number some = appends_more _ (IsFirstNumber nodes other targets (count + 1)) items then number later
        (count, omega arith, some)
        (λ one it. elim (last it.0 count it.1) [
          | inl before ↦ inl (it.0, before, it.2)
          | inr is ↦
              let same = sym it.2 ∙ ap (λ (place : ℕ). number_or nodes other (slice_index targets place)) is ∙ some in
              inr cc
        ])
        appends

-- the numbers of targets are below the number of nodes
pub below_more : (nodes ends items then targets : List ℕ) → AreRows ends items
    → Appends (IsNumberOf nodes None (Contains targets)) items then
    → ((number one : ℕ) → IsInRow ends items number one → one < length nodes)
    → (number one : ℕ) → IsInRow (ends ++ length then ∷ []) then number one → one < length nodes
below_more nodes ends items then targets rows appends below number one listed =
    let low = row_low (ends ++ length then ∷ []) then number one listed in
    elim (last number (length ends) (omega (arith, low, length-append ends (length then ∷ [])))) [
      | inl before ↦ below number one ((row_before _ ends items then rows appends number one before).0 listed)
      | inr is ↦
          let of = (row_last _ ends items then rows appends one).0
          (subst (λ (n : ℕ). IsInRow (ends ++ length then ∷ []) then n one) is listed) in
          (only_nodes nodes of.0 one of.2).0
    ]

-- ---- the edges of a node

-- the nodes with numbers below a bound have their lists
pub record HasEdges (Leads : ℕ → ℕ → Type 0) (nodes : List ℕ) (other : Option ℕ) (ends items : List ℕ) (done : ℕ) : Type 0 where
  pub rows : AreRows ends items
  pub as_many : length ends ≡ done
  pub each : (from number : ℕ) → from < done
      → IsInRow ends items from number ↔ IsNumberOf nodes other (Leads (slice_index nodes from)) number

module _ (Leads : ℕ → ℕ → Type 0) (nodes : List ℕ) (other : Option ℕ) (ends items then targets : List ℕ) (from : ℕ)
    (has : HasEdges Leads nodes other ends items from) (exact : (to : ℕ) → Contains targets to ↔ Leads (slice_index nodes from) to)
    (appends : Appends (IsNumberOf nodes other (Contains targets)) items then) where
  abbrev ends_then : List ℕ
  ends_then = ends ++ length then ∷ []

  now : (number : ℕ) → IsInRow ends_then then from number ↔ IsNumberOf nodes other (Leads (slice_index nodes from)) number
  now number =
      let is = subst (λ (n : ℕ). IsInRow ends_then then n number ↔ IsNumberOf nodes other (Contains targets) number)
      has.as_many (row_last _ ends items then has.rows appends number) in (
        λ it. let of = is.0 it in (of.0, (exact of.0).0 of.1, of.2),
        λ it. is.1 (it.0, (exact it.0).1 it.1, it.2),
      )

  pub edges_more : HasEdges Leads nodes other ends_then then (from + 1)
  edges_more = record {
    rows = rows_more _ ends items then has.rows appends;
    as_many = omega (arith, length-append ends (length then ∷ []), has.as_many);
    each = λ one number low. elim (last one from low) [
      | inl before ↦
          let is = row_before _ ends items then has.rows appends one number (omega (arith, before, has.as_many)) in
          (λ it. (has.each one number before).0 (is.0 it), λ it. is.1 ((has.each one number before).1 it))
      | inr is ↦ subst (λ (n : ℕ). IsInRow ends_then then n number
          ↔ IsNumberOf nodes other (Leads (slice_index nodes n)) number)
          (sym is) (now number)
    ];
  }
