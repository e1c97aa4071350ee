-- A class has one layout.
use Rattle.std.specs.Prelude.{◌≢◌}
use Rattle.std.proofs.Common.{◌≡◌, ℕ, zero, suc, ◌+◌, ◌<◌, List, [], ◌∷◌, ◌++◌, length, refl, sym, ap, subst, ◌∙◌}
use Rattle.std.proofs.Common.{inl, inr, arith, length-append}
use Rattle.std.proofs.lemmas.List.{append-nil}
use Rattle.std.proofs.lemmas.Bool.{cases_order}
use Rattle.hprof_items.specs.FactValue.{FactValue}
use Rattle.hprof_heap.specs.Classes.{ClassValue}
use Rattle.hprof_heap.proofs.ClassFacts.{OneDumpEach, Found, NotFound, look_up}
use Rattle.hprof_layouts.specs.Chain.{IsChain}
use Rattle.hprof_layouts.specs.Layout.{LayoutValue, Known, Missing, Cyclic, IsLayout, IsCyclic, slots_of}
use Rattle.hprof_layouts.proofs.Chains.{Stops, First, Second, beside, chain_more, stops_zero, stops_missing, stopped_list, stopped_end}
use Rattle.hprof_layouts.proofs.Rings.{longer_turns}

-- ---- no two

module _ (facts : List FactValue) where
  -- two chains that end for good are one
  pub record SameChain (dumps others : List ClassValue) (end last : ℕ) : Type 0 where
    pub lists : dumps ≡ others
    pub ends : end ≡ last

  pub one_chain : OneDumpEach facts → (class end last : ℕ) (dumps others : List ClassValue) → Stops facts end → Stops facts last
      → IsChain facts class dumps end → IsChain facts class others last → SameChain dumps others end last
  one_chain one class end last dumps others stops stops_too chain too = elim (beside facts one class dumps others end last chain too) [
    | First rest e left ↦
        let none = stopped_list facts end last rest stops left in
        record {
          lists = sym (append-nil dumps) ∙ ap (λ (l : List ClassValue). dumps ++ l) (sym none) ∙ sym e;
          ends = stopped_end facts end last rest stops left;
        }
    | Second rest e left ↦
        let none = stopped_list facts last end rest stops_too left in
        record {
          lists = e ∙ ap (λ (l : List ClassValue). others ++ l) none ∙ append-nil others;
          ends = sym (stopped_end facts last end rest stops_too left);
        }
  ]

  -- a chain from a ring does not end for good
  turns_on : OneDumpEach facts → (again end : ℕ) (ring : List ClassValue) → ring ≢ [] → IsChain facts again ring again → Stops facts end
      → (bound : ℕ) (rest : List ClassValue) → length rest < bound → IsChain facts again rest end → ⊥
  turns_on one again end ring some turns stops zero rest lt chain = absurd (omega arith)
  turns_on one again end ring some turns stops (suc bound) rest lt chain = elim (beside facts one again ring rest again end turns chain) [
    | First more e left ↦
        let counted : length rest ≡ length ring + length more = ap length e ∙ length-append ring more in
        elim (cases_order (length ring) 0) [
          | inl none ↦ some (empty ring none)
          | inr other ↦ turns_on one again end ring some turns stops bound more (omega arith) left
        ]
    | Second more e left ↦
        let same : end ≡ again = stopped_end facts end again more stops left in
        no_ring end ring some stops (subst (λ (c : ℕ). IsChain facts c ring c) (sym same) turns)
  ] where
    empty : (l : List ClassValue) → length l ≡ 0 → l ≡ []
    empty [] e = refl
    empty (d ∷ l) e = absurd (omega arith)

    no_ring : (end : ℕ) (ring : List ClassValue) → ring ≢ [] → Stops facts end → IsChain facts end ring end → ⊥
    no_ring end ring some stops turns = some (stopped_list facts end end ring stops turns)

  no_end : OneDumpEach facts → (class end : ℕ) (dumps : List ClassValue) → IsCyclic facts class → Stops facts end
      → IsChain facts class dumps end → ⊥
  no_end one class end dumps cyclic stops chain = elim (beside facts one class cyclic.dumps dumps cyclic.again end cyclic.chain chain) [
    | First rest e left ↦
        turns_on one cyclic.again end cyclic.ring cyclic.not_empty cyclic.turns stops (suc (length rest)) rest (omega arith) left
    | Second rest e left ↦
        let same : end ≡ cyclic.again = stopped_end facts end cyclic.again rest stops left in
        let turns = subst (λ (c : ℕ). IsChain facts c cyclic.ring c) (sym same) cyclic.turns in
        cyclic.not_empty (stopped_list facts end end cyclic.ring stops turns)
  ]

  -- a class has at most one layout
  pub at_most_one : (class : ℕ) (one other : LayoutValue) → OneDumpEach facts → IsLayout facts class one → IsLayout facts class other
      → one ≡ other
  at_most_one class (Known slots) (Known others) each is too =
      let same = one_chain each class 0 0 is.dumps too.dumps (stops_zero facts) (stops_zero facts) is.chain too.chain in
      ap Known (is.slots_are ∙ ap slots_of same.lists ∙ sym too.slots_are)
  at_most_one class (Known slots) (Missing missing) each is too =
      absurd (too.not_zero (sym (one_chain each class 0 missing is.dumps too.dumps (stops_zero facts)
      (stops_missing facts missing too.no_dump) is.chain too.chain).ends))
  at_most_one class (Known slots) Cyclic each is too = absurd (no_end each class 0 is.dumps too (stops_zero facts) is.chain)
  at_most_one class (Missing missing) (Known others) each is too =
      absurd (is.not_zero (one_chain each class missing 0 is.dumps too.dumps (stops_missing facts missing is.no_dump)
      (stops_zero facts) is.chain too.chain).ends)
  at_most_one class (Missing missing) (Missing other) each is too =
      ap Missing (one_chain each class missing other is.dumps too.dumps (stops_missing facts missing is.no_dump)
      (stops_missing facts other too.no_dump) is.chain too.chain).ends
  at_most_one class (Missing missing) Cyclic each is too =
      absurd (no_end each class missing is.dumps too (stops_missing facts missing is.no_dump) is.chain)
  at_most_one class Cyclic (Known others) each is too = absurd (no_end each class 0 too.dumps is (stops_zero facts) too.chain)
  at_most_one class Cyclic (Missing other) each is too =
      absurd (no_end each class other too.dumps is (stops_missing facts other too.no_dump) too.chain)
  at_most_one class Cyclic Cyclic each is too = refl

-- ---- one

-- some layout, or a chain so much longer
pub data Walked (facts : List FactValue) (class count : ℕ) : Type 0 where
  Ended : (layout : LayoutValue) → IsLayout facts class layout → Walked facts class count
  Long : (dumps : List ClassValue) (at : ℕ) → IsChain facts class dumps at → length dumps ≡ count → Walked facts class count

walked : (facts : List FactValue) (class count : ℕ) → Walked facts class count
walked facts class zero = Long [] class refl refl
walked facts class (suc count) = elim (walked facts class count) [
  | Ended layout is ↦ Ended layout is
  | Long dumps at chain counted ↦ elim (cases_order at 0) [
    | inl e ↦ Ended (Known (slots_of dumps)) (record { dumps = dumps; chain = subst (IsChain facts class dumps) e chain; slots_are = refl })
    | inr apart ↦
        let not_zero : at ≢ 0 = λ e. elim apart [ inl lt ↦ omega arith | inr gt ↦ omega arith ] in
        elim (look_up facts at) [
          | NotFound none ↦ Ended (Missing at) (record { dumps = dumps; chain = chain; not_zero = not_zero; no_dump = none })
          | Found dump has is ↦ Long (dumps ++ dump ∷ []) dump.parent (chain_more facts class dumps at dump chain not_zero is has)
              (length-append dumps (dump ∷ []) ∙ ap (λ (n : ℕ). n + 1) counted ∙ omega arith)
        ]
  ]
]

-- a class has a layout
pub at_least_one : (facts : List FactValue) (class : ℕ) → (layout : LayoutValue) × IsLayout facts class layout
at_least_one facts class = elim (walked facts class (suc (length facts))) [
  | Ended layout is ↦ (layout, is)
  | Long dumps at chain counted ↦ (Cyclic, longer_turns facts facts (λ dump has. has) class at dumps chain (omega arith))
]
