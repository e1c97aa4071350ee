-- What was given, as what parts state.
use Rattle.std.proofs.Common.{◌≡◌, ℕ, zero, suc, min, List, [], ◌∷◌, ◌++◌, length, take, map, Option, Some, refl, sym, ap, subst, ◌∙◌}
use Rattle.std.specs.Prelude.{slice_get}
use Rattle.std.specs.List.{AllByRecursion, flat_map}
use Rattle.hprof_values.specs.declared.ids.IdSize.{IdSize}
use Rattle.hprof_items.specs.FactValue.{FactValue}
use Rattle.hprof_stream.specs.declared.limits.Limits.{Limits}
use Rattle.hprof_rows.specs.Facts.{SameFacts}
use Rattle.hprof_heap.specs.Gathering.{Given, all_given}
use Rattle.hprof_heap.specs.State.{PartState, StatesIt, IsLeastOf, IsState, HaveTwoSizes}
use Rattle.hprof_heap.proofs.Least.{IsLeastOf-one, IsLeastOf-cons}
use Rattle.hprof_engine.specs.Joining.{IsAccepted, AreGiven}
use Rattle.hprof_stream.proofs.Parts.{states_one}

-- what a part of these bytes states, of which this was given
abbrev pub part_state : List ℕ → Given → PartState
part_state bytes part = record { bytes = bytes; ids = part.header.ids; millis = part.header.millis; facts = part.facts }

abbrev pub states_of : List (List ℕ) → List Given → List PartState
states_of [] given = []
states_of (bytes ∷ parts) [] = []
states_of (bytes ∷ parts) (part ∷ given) = part_state bytes part ∷ states_of parts given

abbrev pub all_told : List (List ℕ) → List (Option (List ℕ))
all_told parts = map Some parts

module _ (limits : Limits) where
  -- the parts of these states
  pub states-bytes : (parts : List (List ℕ)) (given : List Given) → AreGiven limits (all_told parts) given
      → map (λ part. part.bytes) (states_of parts given) ≡ parts
  states-bytes [] given are = refl
  states-bytes (bytes ∷ parts) [] are = absurd are
  states-bytes (bytes ∷ parts) (part ∷ given) are = ap (λ (bs : List (List ℕ)). bytes ∷ bs) (states-bytes parts given are.1)

  -- each is one of its part
  pub states-each : (parts : List (List ℕ)) (given : List Given) → AreGiven limits (all_told parts) given
      → AllByRecursion StatesIt (states_of parts given)
  states-each [] given are = tt
  states-each (bytes ∷ parts) [] are = absurd are
  states-each (bytes ∷ parts) (part ∷ given) are = (are.0.1, states-each parts given are.1)

  -- their sizes are those that were given
  pub states-sizes : (ids : IdSize) (parts : List (List ℕ)) (given : List Given) → AreGiven limits (all_told parts) given
      → AllByRecursion (λ part. part.header.ids ≡ ids) given
      → AllByRecursion (λ part. part.ids ≡ ids) (states_of parts given)
  states-sizes ids [] given are sizes = tt
  states-sizes ids (bytes ∷ parts) [] are sizes = absurd are
  states-sizes ids (bytes ∷ parts) (part ∷ given) are sizes = (sizes.0, states-sizes ids parts given are.1 sizes.1)

  pub sizes-states : (ids : IdSize) (parts : List (List ℕ)) (given : List Given) → AreGiven limits (all_told parts) given
      → AllByRecursion (λ part. part.ids ≡ ids) (states_of parts given)
      → AllByRecursion (λ part. part.header.ids ≡ ids) given
  sizes-states ids [] [] are sizes = tt
  sizes-states ids [] (part ∷ given) are sizes = absurd are
  sizes-states ids (bytes ∷ parts) [] are sizes = absurd are
  sizes-states ids (bytes ∷ parts) (part ∷ given) are sizes = (sizes.0, sizes-states ids parts given are.1 sizes.1)

  -- their times are those that were given
  states-millis : (parts : List (List ℕ)) (given : List Given) → AreGiven limits (all_told parts) given
      → map (λ part. part.millis) (states_of parts given) ≡ map (λ part. part.header.millis) given
  states-millis [] [] are = refl
  states-millis [] (part ∷ given) are = absurd are
  states-millis (bytes ∷ parts) [] are = absurd are
  states-millis (bytes ∷ parts) (part ∷ given) are = ap (λ (ms : List ℕ). part.header.millis ∷ ms) (states-millis parts given are.1)

  -- their facts are those that were given
  states-facts : (parts : List (List ℕ)) (given : List Given) → AreGiven limits (all_told parts) given
      → flat_map (λ part. part.facts) (states_of parts given) ≡ all_given given
  states-facts [] [] are = refl
  states-facts [] (part ∷ given) are = absurd are
  states-facts (bytes ∷ parts) [] are = absurd are
  states-facts (bytes ∷ parts) (part ∷ given) are = ap (λ (fs : List FactValue). part.facts ++ fs) (states-facts parts given are.1)

  -- parts of one size state together what was given
  pub given_state : (parts : List (List ℕ)) (given : List Given) (ids : IdSize) (millis : ℕ) (facts : List FactValue)
      → AreGiven limits (all_told parts) given
      → AllByRecursion (λ part. part.header.ids ≡ ids) given → IsLeastOf (map (λ part. part.header.millis) given) millis
      → SameFacts facts (all_given given) → IsState parts ids millis facts
  given_state parts given ids millis facts are sizes least same = record {
    states = states_of parts given;
    of_parts = states-bytes parts given are;
    each = states-each parts given are;
    one_size = states-sizes ids parts given are sizes;
    earliest = subst (λ (ms : List ℕ). IsLeastOf ms millis) (sym (states-millis parts given are)) least;
    same = subst (λ (fs : List FactValue). SameFacts facts fs) (sym (states-facts parts given are)) same;
  }

  -- parts that were given two sizes have them
  pub given_sizes : (parts : List (List ℕ)) (given : List Given) → AreGiven limits (all_told parts) given
      → ((ids : IdSize) → AllByRecursion (λ part. part.header.ids ≡ ids) given → ⊥) → HaveTwoSizes parts
  given_sizes parts given are two = record {
    states = states_of parts given;
    of_parts = states-bytes parts given are;
    each = states-each parts given are;
    two = λ ids sizes. two ids (sizes-states ids parts given are sizes);
  }

  -- the parts that were given were read to their ends
  pub given_sound : (parts : List (List ℕ)) (given : List Given) → AreGiven limits (all_told parts) given
      → AllByRecursion (IsAccepted limits) parts
  given_sound [] given are = tt
  given_sound (bytes ∷ parts) [] are = absurd are
  given_sound (bytes ∷ parts) (part ∷ given) are = (are.0.0, given_sound parts given are.1)

  -- of no parts nothing was given, and of some something
  pub given_none : (parts : List (List ℕ)) → AreGiven limits (all_told parts) [] → parts ≡ []
  given_none [] are = refl
  given_none (bytes ∷ parts) are = absurd are

-- numbers that are not none have a least one
pub least_of : (ns : List ℕ) → (ns ≡ [] → ⊥) → (least : ℕ) × IsLeastOf ns least
least_of [] some = absurd (some refl)
least_of (n ∷ []) some = (n, IsLeastOf-one n)
least_of (n ∷ m ∷ ns) some = let rest = least_of (m ∷ ns) (λ e. cc) in (min n rest.0, IsLeastOf-cons n (m ∷ ns) rest.0 rest.1)

-- states of the same parts have the same sizes
pub sizes_once : (ids : IdSize) (states others : List PartState) → map (λ part. part.bytes) states ≡ map (λ part. part.bytes) others
    → AllByRecursion StatesIt states → AllByRecursion StatesIt others
    → AllByRecursion (λ part. part.ids ≡ ids) states → AllByRecursion (λ part. part.ids ≡ ids) others
sizes_once ids states [] e each each_too sizes = tt
sizes_once ids [] (other ∷ others) e each each_too sizes = absurd cc
sizes_once ids (part ∷ states) (other ∷ others) e each each_too sizes =
    let bytes : part.bytes ≡ other.bytes = cc in
    let behind : map (λ (p : PartState). p.bytes) states ≡ map (λ (p : PartState). p.bytes) others = cc in
    let one = states_one other.bytes part.ids other.ids part.millis other.millis part.facts other.facts
    (subst (λ (b : List ℕ). StatesIt (record { bytes = b; ids = part.ids; millis = part.millis; facts = part.facts })) bytes each.0)
    each_too.0 in
    (sym one.0 ∙ sizes.0, sizes_once ids states others behind each.1 each_too.1 sizes.1)

-- the part that a reader had to tell, among all parts
pub record IsPlaced {R : Type 0} (left : R → Option (List ℕ)) (old : List R) (parts : List (List ℕ)) (index : ℕ) (was : R) : Type 0 where
  pub before : List (List ℕ)
  pub bytes : List ℕ
  pub after : List (List ℕ)
  pub in_order : parts ≡ before ++ bytes ∷ after
  pub place : length before ≡ index
  pub told : left was ≡ Some bytes
  pub told_before : map left (take index old) ≡ all_told before

pub placed : {R : Type 0} (left : R → Option (List ℕ)) (old : List R) (parts : List (List ℕ)) (index : ℕ) (was : R)
    → map left old ≡ all_told parts → slice_get old index ≡ Some was → IsPlaced left old parts index was
placed left [] parts index was told there = absurd cc
placed left (reader ∷ old) [] index was told there = absurd cc
placed left (reader ∷ old) (bytes ∷ parts) zero was told there =
    let same : reader ≡ was = cc in
    let first : left reader ≡ Some bytes = cc in
    record {
      before = [];
      bytes = bytes;
      after = parts;
      in_order = refl;
      place = refl;
      told = ap left (sym same) ∙ first;
      told_before =
          refl;
    }
placed left (reader ∷ old) (bytes ∷ parts) (suc index) was told there =
    let first : left reader ≡ Some bytes = cc in
    let behind : map left old ≡ all_told parts = cc in
    let rest = placed left old parts index was behind there in
    record {
      before = bytes ∷ rest.before;
      bytes = rest.bytes;
      after = rest.after;
      in_order = ap (λ (bs : List (List ℕ)). bytes ∷ bs) {y = rest.before ++ rest.bytes ∷ rest.after} rest.in_order;
      place = ap suc rest.place;
      told = rest.told;
      told_before = ap (λ (l : Option (List ℕ)). l ∷ map left (take index old)) first
          ∙ ap (λ (ls : List (Option (List ℕ))). Some bytes ∷ ls) rest.told_before;
    }
