-- Chains of superclasses.
use Rattle.std.specs.Prelude.{◌≢◌}
use Rattle.std.proofs.Common.{◌≡◌, ℕ, List, [], ◌∷◌, ◌++◌, refl, sym, ap, subst, ◌∙◌}
use Rattle.hprof_items.specs.FactValue.{FactValue}
use Rattle.hprof_heap.specs.Classes.{ClassValue, HasDump}
use Rattle.hprof_heap.proofs.ClassFacts.{OneDumpEach}
use Rattle.hprof_layouts.specs.Chain.{IsChain}

module _ (facts : List FactValue) where
  -- a chain goes on where another begins
  pub chain_append : (class : ℕ) (dumps more : List ClassValue) (at end : ℕ) → IsChain facts class dumps at → IsChain facts at more end
      → IsChain facts class (dumps ++ more) end
  chain_append class [] more at end e chain = subst (λ (c : ℕ). IsChain facts c more end) (sym e) chain
  chain_append class (dump ∷ dumps) more at end c chain =
      (c.0, c.1, c.2, chain_append dump.parent dumps more at end c.3 chain)

  -- one class more
  pub chain_more : (class : ℕ) (dumps : List ClassValue) (at : ℕ) (dump : ClassValue) → IsChain facts class dumps at → at ≢ 0
      → dump.id ≡ at → HasDump facts dump → IsChain facts class (dumps ++ dump ∷ []) dump.parent
  chain_more class dumps at dump chain not_zero is has =
      chain_append class dumps (dump ∷ []) at dump.parent chain (not_zero, is, has, refl)

  -- what is left of the longer of two chains when the other ended
  pub data Beside (at : ℕ) (dumps : List ClassValue) (end : ℕ) (others : List ClassValue) : Type 0 where
    First : (rest : List ClassValue) → others ≡ dumps ++ rest → IsChain facts at rest end → Beside at dumps end others
    Second : (rest : List ClassValue) → dumps ≡ others ++ rest → IsChain facts end rest at → Beside at dumps end others

  -- two chains of a class go one way
  pub beside : OneDumpEach facts → (class : ℕ) (dumps others : List ClassValue) (at end : ℕ) → IsChain facts class dumps at
      → IsChain facts class others end → Beside at dumps end others
  beside one class [] others at end e chain = First others refl (subst (λ (c : ℕ). IsChain facts c others end) e chain)
  beside one class (dump ∷ dumps) [] at end chain e =
      Second (dump ∷ dumps) refl (subst (λ (c : ℕ). IsChain facts c (dump ∷ dumps) at) e chain)
  beside one class (dump ∷ dumps) (other ∷ others) at end chain too =
      let same : dump ≡ other = one dump other chain.2 too.2 (chain.1 ∙ sym too.1) in
      let next : IsChain facts dump.parent others end = subst (λ (d : ClassValue). IsChain facts d.parent others end) (sym same) too.3 in
      elim (beside one dump.parent dumps others at end chain.3 next) [
        | First rest e left ↦ First rest (ap (λ (d : ClassValue). d ∷ others) (sym same) ∙ ap (λ (l : List ClassValue). dump ∷ l) e) left
        | Second rest e left ↦
            Second rest (ap (λ (l : List ClassValue). dump ∷ l) e ∙ ap (λ (d : ClassValue). d ∷ (others ++ rest)) same) left
      ]

  -- no chain goes on from there
  pub record Stops (end : ℕ) : Type 0 where
    pub no_more : (dump : ClassValue) (dumps : List ClassValue) (last : ℕ) → IsChain facts end (dump ∷ dumps) last → ⊥

  pub stops_zero : Stops 0
  stops_zero = record { no_more = λ dump dumps last chain. chain.0 refl }

  pub stops_missing : (class : ℕ) → ((dump : ClassValue) → HasDump facts dump → dump.id ≢ class) → Stops class
  stops_missing class none = record { no_more = λ dump dumps last chain. none dump chain.2 chain.1 }

  -- what a chain from there has
  pub stopped_list : (end last : ℕ) (dumps : List ClassValue) → Stops end → IsChain facts end dumps last → dumps ≡ []
  stopped_list end last [] stops chain = refl
  stopped_list end last (dump ∷ dumps) stops chain = absurd (stops.no_more dump dumps last chain)

  pub stopped_end : (end last : ℕ) (dumps : List ClassValue) → Stops end → IsChain facts end dumps last → end ≡ last
  stopped_end end last [] stops chain = chain
  stopped_end end last (dump ∷ dumps) stops chain = absurd (stops.no_more dump dumps last chain)
