-- Walking up a chain of superclasses.
use Rattle.std.specs.Prelude.{◌≢◌}
use Rattle.std.proofs.Common.{◌≡◌, ◌⊎◌, inl, inr, ℕ, ◌+◌, ◌-◌, ◌<◌, ◌≤◌, List, [], ◌∷◌, ◌++◌, length, refl, sym, ap, subst, ◌∙◌, arith}
use Rattle.std.proofs.Common.{length-append, append_assoc}
use Rattle.std.proofs.lemmas.List.{append-nil}
use Rattle.hprof_items.specs.FactValue.{FactValue}
use Rattle.hprof_rows.specs.declared.table.Table.TheVariants as tables
use Rattle.hprof_rows.specs.Facts.{Has}
use Rattle.hprof_rows.specs.Tables.{stands_in, number_of_table, facts_of_table}
use Rattle.hprof_rows.proofs.Picking.{picked}
use Rattle.hprof_heap.specs.Classes.{ClassValue, HasDump, HasNoDump, fact_of_class}
use Rattle.hprof_layouts.specs.declared.slot.Slot.{Slot}
use Rattle.hprof_layouts.specs.Chain.{IsChain}
use Rattle.hprof_layouts.specs.Layout.{HasChain, IsKnown, IsMissing, IsCyclic, own_slots, slots_of}
use Rattle.hprof_layouts.proofs.Chains.{chain_more}
use Rattle.hprof_layouts.proofs.Rings.{longer_turns}

-- a class dump is among the facts of its table
pub dump_in_table : (facts : List FactValue) (dump : ClassValue) → HasDump facts dump
    → Has (facts_of_table tables.Classes facts) (fact_of_class dump)
dump_in_table facts dump has =
    picked (stands_in (number_of_table tables.Classes)) facts (fact_of_class dump) (record { has = has; passes = refl })

-- ---- up the chain

-- so many classes were passed, no more than there are
pub record Walking (facts : List FactValue) (class at passed classes : ℕ) : Type 0 where
  pub dumps : List ClassValue
  pub chain : IsChain facts class dumps at
  pub counted : length dumps ≡ passed
  pub few : passed ≤ classes
  pub all : classes ≡ length (facts_of_table tables.Classes facts)

pub walking_none : (facts : List FactValue) (class classes : ℕ) → classes ≡ length (facts_of_table tables.Classes facts)
    → Walking facts class class 0 classes
walking_none facts class classes all = record { dumps = []; chain = refl; counted = refl; few = omega arith; all = all }

module _ (facts : List FactValue) (class at passed classes : ℕ) (walking : Walking facts class at passed classes) where
  pub walked_more : (dump : ClassValue) → at ≢ 0 → HasDump facts dump → dump.id ≡ at → passed < classes
      → Walking facts class dump.parent (passed + 1) classes
  walked_more dump not_zero has is lt = record {
    dumps = walking.dumps ++ dump ∷ [];
    chain = chain_more facts class walking.dumps at dump walking.chain not_zero is has;
    counted = length-append walking.dumps (dump ∷ []) ∙ ap (λ (n : ℕ). n + 1) walking.counted;
    few = omega arith;
    all = walking.all;
  }

  pub walked_round : (dump : ClassValue) → at ≢ 0 → HasDump facts dump → dump.id ≡ at → passed ≡ classes → IsCyclic facts class
  walked_round dump not_zero has is full =
      let longer = chain_more facts class walking.dumps at dump walking.chain not_zero is has in
      let counted = length-append walking.dumps (dump ∷ []) in
      longer_turns facts (facts_of_table tables.Classes facts) (dump_in_table facts) class dump.parent (walking.dumps ++ dump ∷ []) longer
      (let c = walking.counted in let a = walking.all in omega arith)

  pub walked_out : at ≢ 0 → HasNoDump facts at → IsMissing facts class at
  walked_out not_zero none = record { dumps = walking.dumps; chain = walking.chain; not_zero = not_zero; no_dump = none }

  pub walked_all : at ≡ 0 → HasChain facts class passed
  walked_all e = record {
    dumps = walking.dumps;
    chain = subst (IsChain facts class walking.dumps) e walking.chain;
    counted = walking.counted;
  }

-- ---- past a mark

-- the chain came to the mark, and on from it
pub record Marked (facts : List FactValue) (class mark at : ℕ) : Type 0 where
  pub before : List ClassValue
  pub to_mark : IsChain facts class before mark
  pub since : List ClassValue
  pub onward : IsChain facts mark since at

-- so many classes were passed, among them the mark
pub record Watching (facts : List FactValue) (class at passed classes mark : ℕ) : Type 0 where
  pub walking : Walking facts class at passed classes
  pub marked : Marked facts class mark at

pub watching_none : (facts : List FactValue) (class classes : ℕ) → classes ≡ length (facts_of_table tables.Classes facts)
    → Watching facts class class 0 classes class
watching_none facts class classes all = record {
  walking = walking_none facts class classes all;
  marked = record { before = []; to_mark = refl; since = []; onward = refl };
}

module _ (facts : List FactValue) (class at passed classes mark : ℕ) (watching : Watching facts class at passed classes mark)
    (dump : ClassValue) (not_zero : at ≢ 0) (has : HasDump facts dump) (is : dump.id ≡ at) where
  -- the mark stays, or is the class that was come to
  pub watched_more : passed < classes → (next : ℕ) → (next ≡ mark) ⊎ (next ≡ dump.parent)
      → Watching facts class dump.parent (passed + 1) classes next
  watched_more lt next which = record { walking = longer; marked = go which } where
    longer : Walking facts class dump.parent (passed + 1) classes
    longer = walked_more facts class at passed classes watching.walking dump not_zero has is lt

    go : (next ≡ mark) ⊎ (next ≡ dump.parent) → Marked facts class next dump.parent
    go (inl stays) =
        let marked = watching.marked in
        subst (λ (n : ℕ). Marked facts class n dump.parent) (sym stays) (record {
          before = marked.before;
          to_mark = marked.to_mark;
          since = marked.since ++ dump ∷ [];
          onward = chain_more facts mark marked.since at dump marked.onward not_zero is has;
        })
    go (inr moves) = subst (λ (n : ℕ). Marked facts class n dump.parent) (sym moves) (record {
      before = longer.dumps;
      to_mark = longer.chain;
      since = [];
      onward = refl;
    })

  -- the chain came to the mark again
  pub watched_round : dump.parent ≡ mark → IsCyclic facts class
  watched_round e =
      let marked = watching.marked in
      record {
        dumps = marked.before;
        ring = marked.since ++ dump ∷ [];
        again = mark;
        chain = marked.to_mark;
        turns = subst (IsChain facts mark (marked.since ++ dump ∷ [])) e
            (chain_more facts mark marked.since at dump marked.onward not_zero is has);
        not_empty = λ none. (let counted = length-append marked.since (dump ∷ []) in let l = ap length none in omega arith);
      }

-- ---- along a chain that comes to 0

-- behind the slots come those of the classes that are left, so many
pub record Gathering (facts : List FactValue) (class at left : ℕ) (slots : List Slot) : Type 0 where
  pub rest : List ClassValue
  pub chain : IsChain facts at rest 0
  pub counted : length rest ≡ left
  pub known : IsKnown facts class (slots ++ slots_of rest)

pub gathered_none : (facts : List FactValue) (class count : ℕ) → HasChain facts class count → Gathering facts class class count []
gathered_none facts class count has = record {
  rest = has.dumps;
  chain = has.chain;
  counted = has.counted;
  known = record { dumps = has.dumps; chain = has.chain; slots_are = refl };
}

-- there is a class more
pub gathering_some : (facts : List FactValue) (class at left : ℕ) (slots : List Slot) → Gathering facts class at left slots → 0 < left
    → HasNoDump facts at → ⊥
gathering_some facts class at left slots gathering lt none =
    go gathering.rest gathering.chain (let c = gathering.counted in omega arith) where
      go : (rest : List ClassValue) → IsChain facts at rest 0 → 0 < length rest → ⊥
      go [] chain lt = omega arith
      go (dump ∷ rest) chain lt = none dump chain.2 chain.1

pub gathered_more : (facts : List FactValue) (class at left : ℕ) (slots : List Slot) (dump : ClassValue)
    → Gathering facts class at left slots → 0 < left → ((other : ClassValue) → HasDump facts other → other.id ≡ at → dump ≡ other)
    → Gathering facts class dump.parent (left - 1) (slots ++ own_slots dump)
gathered_more facts class at left slots dump gathering lt only =
    go gathering.rest gathering.chain gathering.counted gathering.known where
      go : (rest : List ClassValue) → IsChain facts at rest 0 → length rest ≡ left → IsKnown facts class (slots ++ slots_of rest)
          → Gathering facts class dump.parent (left - 1) (slots ++ own_slots dump)
      go [] chain counted known = absurd (omega arith)
      go (other ∷ rest) chain counted known =
          let same : dump ≡ other = only other chain.2 chain.1 in
          record {
            rest = rest;
            chain = subst (λ (d : ClassValue). IsChain facts d.parent rest 0) (sym same) chain.3;
            counted = omega arith;
            known = subst (λ (l : List Slot). IsKnown facts class l)
                (ap (λ (d : ClassValue). slots ++ (own_slots d ++ slots_of rest)) (sym same)
                ∙ sym (append_assoc slots (own_slots dump) (slots_of rest)))
                known;
          }

pub gathered_all : (facts : List FactValue) (class at left : ℕ) (slots : List Slot) → Gathering facts class at left slots → left ≡ 0
    → IsKnown facts class slots
gathered_all facts class at left slots gathering e = go gathering.rest (gathering.counted ∙ e) gathering.known where
  go : (rest : List ClassValue) → length rest ≡ 0 → IsKnown facts class (slots ++ slots_of rest) → IsKnown facts class slots
  go [] counted known = subst (IsKnown facts class) (append-nil slots) known
  go (dump ∷ rest) counted known = absurd (omega arith)
