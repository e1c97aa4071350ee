-- The dumps of groups of parts, joined.
use Rattle.std.proofs.Common.{◌≡◌, ℕ, List, [], ◌∷◌, refl, sym, subst, ◌∙◌, inl, inr, arith}
use Rattle.std.specs.List.{AllByRecursion, Contains}
use Rattle.hprof_values.specs.declared.ids.IdSize.{IdSize}
use Rattle.hprof_items.specs.FactValue.{FactValue}
use Rattle.hprof_stream.specs.Part.{IsPart}
use Rattle.hprof_dump.proofs.Dump.{dump_is_part}
use Rattle.hprof_rows.specs.declared.key.Key.{Key}
use Rattle.hprof_rows.specs.Facts.{Has}
use Rattle.hprof_heap.specs.State.{HaveTwoSizes}
use Rattle.hprof_stream.proofs.Parts.{states_one}
use Rattle.hprof_engine.specs.Joining.{Agree, Disagree}
use Rattle.hprof_engine.specs.Makes.{IsDump}
use Rattle.hprof_engine.specs.Dividing.{AreDivided, AreDumps}
use Rattle.hprof_engine.specs.Outcome.{Outcome, OneHeap, Conflict, TwoSizes, ComesTo, IsSomePart}
use Rattle.hprof_engine.proofs.Together.{agree_heap, some_disagree}
use Rattle.hprof_engine.proofs.Outcomes.{SaysOn, comes_on, say_two_sizes, said_two_sizes, one_outcome}
use Rattle.hprof_engine.proofs.PartByPart.{Says, OneOf, SayTogether, says_once, say_together, contains_first, contains_later}
use Rattle.hprof_engine.proofs.PartByPart.{contains_cases}
use Rattle.hprof_engine.proofs.PartByPart.{contains_none, holds_of}

-- ---- one group and its dump

-- the dump is a part, and states what the parts of the group say together
record IsJoinedInto (ids : IdSize) (group : List (List ℕ)) (dump : List ℕ) : Type 0 where
  pub millis : ℕ
  pub facts : List FactValue
  pub say : SayTogether group ids millis facts
  pub part : IsPart dump ids millis facts

joined_into : (group : List (List ℕ)) (dump : List ℕ) → (is : IsDump group dump) → IsJoinedInto is.heap.ids group dump
joined_into group dump is = record {
  millis = is.heap.millis;
  facts = is.heap.facts;
  say = say_together group is.heap.ids is.heap.millis is.heap.facts is.agree.state;
  part = subst (λ (b : List ℕ). IsPart b is.heap.ids is.heap.millis is.heap.facts) (sym is.is)
      (dump_is_part is.heap.ids is.heap.millis is.heap.facts (agree_heap group is.heap.ids is.heap.millis is.heap.facts is.agree));
}

-- a group of which a part has that size is joined under it
joined_as : (ids other : IdSize) (group : List (List ℕ)) (dump : List ℕ) → IsJoinedInto ids group dump
    → ((bytes : List ℕ) → Contains group bytes → Says other bytes) → IsJoinedInto other group dump
joined_as ids other group dump is each =
    let first = is.say.earliest.0 in
    let again = each first.bytes first.there in
    let same = (states_one first.bytes ids other first.says.millis again.millis first.says.facts again.facts first.says.part
    again.part).0 in
    subst (λ (i : IdSize). IsJoinedInto i group dump) same is

-- and so is one whose dump has that size
joined_under : (ids other : IdSize) (group : List (List ℕ)) (dump : List ℕ) → IsJoinedInto ids group dump → Says other dump
    → IsJoinedInto other group dump
joined_under ids other group dump is says =
    let same = (states_one dump ids other is.millis says.millis is.facts says.facts is.part says.part).0 in
    subst (λ (i : IdSize). IsJoinedInto i group dump) same is

-- ---- the group of a dump, and the dump of a group

group_of : (groups : List (List (List ℕ))) (dumps : List (List ℕ)) → AreDumps groups dumps → (dump : List ℕ) → Contains dumps dump
    → (group : List (List ℕ)) × Contains groups group × IsDump group dump
group_of [] [] are dump there = absurd (contains_none dump there)
group_of [] (first ∷ dumps) are dump there = absurd are
group_of (group ∷ groups) [] are dump there = absurd are
group_of (group ∷ groups) (first ∷ dumps) are dump there = elim (contains_cases first dumps dump there) [
  | inl here ↦ (group, contains_first group groups, subst (IsDump group) here are.0)
  | inr later ↦ let of = group_of groups dumps are.1 dump later in (of.0, contains_later group groups of.0 of.1, of.2)
]

dump_of : (groups : List (List (List ℕ))) (dumps : List (List ℕ)) → AreDumps groups dumps → (group : List (List ℕ))
    → Contains groups group → (dump : List ℕ) × Contains dumps dump × IsDump group dump
dump_of [] [] are group there = absurd (contains_none group there)
dump_of [] (dump ∷ dumps) are group there = absurd are
dump_of (first ∷ groups) [] are group there = absurd are
dump_of (first ∷ groups) (dump ∷ dumps) are group there = elim (contains_cases first groups group there) [
  | inl here ↦ (dump, contains_first dump dumps, subst (λ (g : List (List ℕ)). IsDump g dump) here are.0)
  | inr later ↦ let of = dump_of groups dumps are.1 group later in (of.0, contains_later dump dumps of.0 of.1, of.2)
]

-- ---- all groups under one size

module _ (parts : List (List ℕ)) (groups : List (List (List ℕ))) (dumps : List (List ℕ)) (divided : AreDivided parts groups)
    (are : AreDumps groups dumps) where
  module _ (ids : IdSize) (joined : (group : List (List ℕ)) (dump : List ℕ) → Contains groups group → IsDump group dump
      → IsJoinedInto ids group dump) where
    -- a dump is that of a group, and it is one of the dumps
    record IsOfGroup (dump : List ℕ) : Type 0 where
      pub group : List (List ℕ)
      pub there : Contains groups group
      pub is : IsJoinedInto ids group dump

    of_dump : (dump : List ℕ) → Contains dumps dump → IsOfGroup dump
    of_dump dump there =
        let of = group_of groups dumps are dump there in
        record { group = of.0; there = of.1; is = joined of.0 dump of.1 of.2 }

    -- a part is one of a group, which has a dump
    record IsInGroup (bytes : List ℕ) : Type 0 where
      pub group : List (List ℕ)
      pub there : Contains groups group
      pub inside : Contains group bytes
      pub dump : List ℕ
      pub listed : Contains dumps dump
      pub is : IsJoinedInto ids group dump

    of_part : (bytes : List ℕ) → Contains parts bytes → IsInGroup bytes
    of_part bytes there =
        let of = (divided bytes).0 there in
        let dump = dump_of groups dumps are of.0 of.1 in
        record { group = of.0; there = of.1; inside = of.2; dump = dump.0; listed = dump.1; is = joined of.0 dump.0 of.1 dump.2 }

    -- what is said of a group's parts is said of a part, and of the dump
    part_in : (group : List (List ℕ)) → Contains groups group → OneOf group ids → OneOf parts ids
    part_in group there one = record { bytes = one.bytes; there = (divided one.bytes).1 (group, there, one.there); says = one.says }

    dump_says : (group : List (List ℕ)) (dump : List ℕ) → IsJoinedInto ids group dump → Says ids dump
    dump_says group dump is = record { millis = is.millis; facts = is.facts; part = is.part }

    -- what the parts say together their dumps say together
    dumps_together : (millis : ℕ) (facts : List FactValue) → SayTogether parts ids millis facts → SayTogether dumps ids millis facts
    unfolding part_in dump_says
    dumps_together millis facts say = record {
      each = λ dump there. let of = of_dump dump there in dump_says of.group dump of.is;
      earliest =
          let one = say.earliest.0 in
          let of = of_part one.bytes one.there in
          let inside = of.is.say.each one.bytes of.inside in
          let same = says_once ids ids one.bytes one.bytes one.says inside refl in
          let before = of.is.say.least (record { bytes = one.bytes; there = of.inside; says = inside }) in
          let behind = say.least (part_in of.group of.there of.is.say.earliest.0) in
          let at = of.is.say.earliest.1 in
          let its = say.earliest.1 in (
            record { bytes = of.dump; there = of.listed; says = dump_says of.group of.dump of.is },
            (omega (arith, before, behind, at, its, same.0)),
          );
      least = λ one.
          let of = of_dump one.bytes one.there in
          let same = says_once ids ids one.bytes one.bytes one.says (dump_says of.group one.bytes of.is) refl in
          let behind = say.least (part_in of.group of.there of.is.say.earliest.0) in
          let at = of.is.say.earliest.1 in
          omega (arith, same.0, behind, at);
      stated = λ fact has.
          let from = say.stated fact has in
          let of = of_part from.0.bytes from.0.there in
          let inside = of.is.say.each from.0.bytes of.inside in
          let same = says_once ids ids from.0.bytes from.0.bytes from.0.says inside refl in (
            record { bytes = of.dump; there = of.listed; says = dump_says of.group of.dump of.is },
            of.is.say.states fact (record { bytes = from.0.bytes; there = of.inside; says = inside })
                (subst (λ (l : List FactValue). Has l fact) same.1 from.1),
          );
      states = λ fact one has.
          let of = of_dump one.bytes one.there in
          let same = says_once ids ids one.bytes one.bytes one.says (dump_says of.group one.bytes of.is) refl in
          let from = of.is.say.stated fact (subst (λ (l : List FactValue). Has l fact) same.1 has) in
          say.states fact (part_in of.group of.there from.0) from.1;
    }

    -- and the other way round
    parts_together : (millis : ℕ) (facts : List FactValue) → SayTogether dumps ids millis facts → SayTogether parts ids millis facts
    unfolding part_in dump_says
    parts_together millis facts say = record {
      each = λ bytes there. let of = of_part bytes there in of.is.say.each bytes of.inside;
      earliest =
          let one = say.earliest.0 in
          let of = of_dump one.bytes one.there in
          let same = says_once ids ids one.bytes one.bytes one.says (dump_says of.group one.bytes of.is) refl in
          let at = of.is.say.earliest.1 in
          let its = say.earliest.1 in
          (part_in of.group of.there of.is.say.earliest.0, (at ∙ sym same.0 ∙ its));
      least = λ one.
          let of = of_part one.bytes one.there in
          let inside = of.is.say.each one.bytes of.inside in
          let same = says_once ids ids one.bytes one.bytes one.says inside refl in
          let before = of.is.say.least (record { bytes = one.bytes; there = of.inside; says = inside }) in
          let behind = say.least (record { bytes = of.dump; there = of.listed; says = dump_says of.group of.dump of.is }) in
          omega (arith, same.0, before, behind);
      stated = λ fact has.
          let from = say.stated fact has in
          let of = of_dump from.0.bytes from.0.there in
          let same = says_once ids ids from.0.bytes from.0.bytes from.0.says (dump_says of.group from.0.bytes of.is) refl in
          let inside = of.is.say.stated fact (subst (λ (l : List FactValue). Has l fact) same.1 from.1) in
          (part_in of.group of.there inside.0, inside.1);
      states = λ fact one has.
          let of = of_part one.bytes one.there in
          let inside = of.is.say.each one.bytes of.inside in
          let same = says_once ids ids one.bytes one.bytes one.says inside refl in
          let of_group = of.is.say.states fact (record { bytes = one.bytes; there = of.inside; says = inside })
          (subst (λ (l : List FactValue). Has l fact) same.1 has) in
          say.states fact (record { bytes = of.dump; there = of.listed; says = dump_says of.group of.dump of.is }) of_group;
    }

  -- ---- under whatever size

  -- where each part has that size, each group is joined under it
  under_parts : (ids : IdSize) → ((bytes : List ℕ) → Contains parts bytes → Says ids bytes) → (group : List (List ℕ)) (dump : List ℕ)
      → Contains groups group → IsDump group dump → IsJoinedInto ids group dump
  under_parts ids each group dump there is = joined_as is.heap.ids ids group dump (joined_into group dump is)
      (λ bytes inside. each bytes ((divided bytes).1 (group, there, inside)))

  -- where each dump has it, too
  under_dumps : (ids : IdSize) → ((dump : List ℕ) → Contains dumps dump → Says ids dump) → (group : List (List ℕ)) (dump : List ℕ)
      → Contains groups group → IsDump group dump → IsJoinedInto ids group dump
  under_dumps ids each group dump there is =
      let listed = dump_of groups dumps are group there in
      let its = joined_under listed.2.heap.ids ids group listed.0 (joined_into group listed.0 listed.2) (each listed.0 listed.1) in
      joined_as is.heap.ids ids group dump (joined_into group dump is) (λ bytes inside. its.say.each bytes inside)

  to_dumps : SaysOn parts dumps
  to_dumps = record {
    together = λ ids millis facts say. dumps_together ids (under_parts ids say.each) millis facts say;
    sizes = λ say. record {
      each = λ dump there.
          let of = group_of groups dumps are dump there in
          let is = joined_into of.0 dump of.2 in
          (of.2.heap.ids, is.millis, is.facts, is.part);
      two = λ ids all. say.two ids (λ bytes there.
          let of = of_part ids (under_dumps ids all) bytes there in of.is.say.each bytes of.inside);
    };
  }

  to_parts : SaysOn dumps parts
  to_parts = record {
    together = λ ids millis facts say. parts_together ids (under_dumps ids say.each) millis facts say;
    sizes = λ say. record {
      each = λ bytes there.
          let of = (divided bytes).0 there in
          let dump = dump_of groups dumps are of.0 of.1 in
          let says = (joined_into of.0 dump.0 dump.2).say.each bytes of.2 in
          (dump.2.heap.ids, says.millis, says.facts, says.part);
      two = λ ids all. say.two ids (λ dump there.
          let of = of_dump ids (under_parts ids all) dump there in
          record { millis = of.is.millis; facts = of.is.facts; part = of.is.part });
    };
  }

-- all dumps come to what all parts come to
pub dumps_come : (parts : List (List ℕ)) (groups : List (List (List ℕ))) (dumps : List (List ℕ)) (outcome : Outcome)
    → AreDivided parts groups → AreDumps groups dumps → ComesTo parts outcome → ComesTo dumps outcome
dumps_come parts groups dumps outcome divided are = comes_on parts dumps (to_dumps parts groups dumps divided are) outcome

pub parts_come : (parts : List (List ℕ)) (groups : List (List (List ℕ))) (dumps : List (List ℕ)) (outcome : Outcome)
    → AreDivided parts groups → AreDumps groups dumps → ComesTo dumps outcome → ComesTo parts outcome
parts_come parts groups dumps outcome divided are = comes_on dumps parts (to_parts parts groups dumps divided are) outcome

-- what comes to something are parts
each_is_part : (parts : List (List ℕ)) (outcome : Outcome) → ComesTo parts outcome → (bytes : List ℕ) → Contains parts bytes
    → IsSomePart bytes
each_is_part parts (OneHeap ids millis rows) agree bytes there =
    let says = (say_together parts ids millis rows agree.state).each bytes there in (ids, says.millis, says.facts, says.part)
each_is_part parts (Conflict key) dis bytes there =
    let says = (say_together parts dis.ids dis.millis dis.facts dis.state).each bytes there in (dis.ids, says.millis, says.facts, says.part)
each_is_part parts TwoSizes have bytes there = (say_two_sizes parts have).each bytes there

-- where a group has two sizes, all have, if each is a part
two_sizes_of : (parts : List (List ℕ)) (groups : List (List (List ℕ))) (group : List (List ℕ)) → AreDivided parts groups
    → Contains groups group → HaveTwoSizes group → ((bytes : List ℕ) → Contains parts bytes → IsSomePart bytes) → HaveTwoSizes parts
two_sizes_of parts groups group divided there have each = said_two_sizes parts (record {
  each = each;
  two = λ ids all. (say_two_sizes group have).two ids (λ bytes inside. all bytes ((divided bytes).1 (group, there, inside)));
})

pub group_has_two_sizes : (parts : List (List ℕ)) (groups : List (List (List ℕ))) (group : List (List ℕ)) → AreDivided parts groups
    → Contains groups group → HaveTwoSizes group → AllByRecursion IsSomePart parts → HaveTwoSizes parts
group_has_two_sizes parts groups group divided there have each =
    two_sizes_of parts groups group divided there have (λ bytes inside. holds_of IsSomePart parts bytes each inside)

-- and they come to nothing else
pub group_has_two_sizes_alone : (parts : List (List ℕ)) (groups : List (List (List ℕ))) (group : List (List ℕ)) (outcome : Outcome)
    → AreDivided parts groups → Contains groups group → HaveTwoSizes group → ComesTo parts outcome → outcome ≡ TwoSizes
group_has_two_sizes_alone parts groups group outcome divided there have comes = one_outcome parts outcome TwoSizes comes
    (two_sizes_of parts groups group divided there have (each_is_part parts outcome comes))

-- where a group does not agree, all do not
pub group_disagrees : (parts : List (List ℕ)) (groups : List (List (List ℕ))) (group : List (List ℕ)) (ids : IdSize) (millis : ℕ)
    (rows : List FactValue) (key : Key) → AreDivided parts groups → Contains groups group → Disagree group key
    → Agree parts ids millis rows → ⊥
group_disagrees parts groups group ids millis rows key divided there =
    some_disagree group parts (λ bytes inside. (divided bytes).1 (group, there, inside)) ids millis rows key
