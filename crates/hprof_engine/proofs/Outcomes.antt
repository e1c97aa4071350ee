-- What lists of parts come to: one thing, and the same of the same parts.
use Rattle.std.proofs.Common.{◌≡◌, ℕ, List, [], ◌∷◌, map, Option, Some, None, refl, sym, ap, subst, ◌⊎◌, inl, inr}
use Rattle.std.specs.List.{AllByRecursion, Contains, flat_map}
use Rattle.hprof_values.specs.declared.ids.IdSize.{IdSize}
use Rattle.hprof_values.specs.declared.ids.IdSize.TheVariants.{Four, Eight}
use Rattle.hprof_items.specs.FactValue.{FactValue}
use Rattle.hprof_items.specs.Spelling.{Fits}
use Rattle.hprof_stream.specs.Part.{IsPart}
use Rattle.hprof_rows.specs.declared.key.Key.{Key}
use Rattle.hprof_rows.specs.Facts.{Has, SameFacts}
use Rattle.hprof_rows.specs.HeapValue.{HeapValue, IsHeap}
use Rattle.hprof_heap.specs.State.{PartState, StatesIt, IsState, HaveTwoSizes}
use Rattle.hprof_rows.proofs.FactSets.{Has-parts, SameFacts-refl}
use Rattle.hprof_rows.proofs.Conflicts.{IsConsistent-same, IsLeastConflict-same, one_least, no_conflict}
use Rattle.hprof_rows.proofs.Order.{one_order, order_agrees}
use Rattle.hprof_heap.proofs.Marks.{Holds}
use Rattle.hprof_heap.proofs.Told.{holds_all, holds_least}
use Rattle.hprof_heap.proofs.Joins.{state_all}
use Rattle.hprof_stream.proofs.Parts.{states_one}
use Rattle.hprof_engine.specs.Joining.{Agree, Disagree}
use Rattle.hprof_engine.specs.Outcome.{Outcome, OneHeap, Conflict, TwoSizes, ComesTo, IsSomePart}
use Rattle.hprof_engine.specs.Dividing.{SameParts}
use Rattle.hprof_engine.proofs.Answers.{not_two_sizes}
use Rattle.hprof_engine.proofs.Dumps.{state_of_set}
use Rattle.hprof_engine.proofs.Stated.{least_of}
use Rattle.hprof_engine.proofs.Together.{together_once, part_fits, part_millis}
use Rattle.hprof_engine.proofs.PartByPart.{Says, OneOf, SayTogether, say_together, said_together, each_listed}
use Rattle.hprof_engine.proofs.PartByPart.{contains_first, contains_later, contains_image, image_of, holds_of, holds_of_all}

-- ---- two sizes, part by part

-- each of the parts is one, and no size is that of all
pub record SayTwoSizes (parts : List (List ℕ)) : Type 0 where
  pub each : (bytes : List ℕ) → Contains parts bytes → IsSomePart bytes
  pub two : (ids : IdSize) → ((bytes : List ℕ) → Contains parts bytes → Says ids bytes) → ⊥

-- what parts with two sizes say, part by part
pub say_two_sizes : (parts : List (List ℕ)) → HaveTwoSizes parts → SayTwoSizes parts
say_two_sizes parts have = record {
  each = λ bytes there.
      let of = image_of (λ (part : PartState). part.bytes) have.states bytes
      (subst (λ (l : List (List ℕ)). Contains l bytes) (sym have.of_parts) there) in
      let part = holds_of StatesIt have.states of.0 have.each of.1 in
      (of.0.ids, of.0.millis, of.0.facts, subst (λ (b : List ℕ). IsPart b of.0.ids of.0.millis of.0.facts) of.2 part);
  two = λ ids all. have.two ids (holds_of_all (λ (part : PartState). part.ids ≡ ids) have.states (λ state there.
      let says = all state.bytes (subst (λ (l : List (List ℕ)). Contains l state.bytes) have.of_parts
      (contains_image (λ (part : PartState). part.bytes) have.states state there)) in
      let part = holds_of StatesIt have.states state have.each there in
      (states_one state.bytes state.ids ids state.millis says.millis state.facts says.facts part says.part).0));
}

-- a list of what each part states
abbrev list_of_some : (parts : List (List ℕ)) → ((bytes : List ℕ) → Contains parts bytes → IsSomePart bytes) → List PartState
list_of_some [] each = []
list_of_some (bytes ∷ parts) each =
    let is = each bytes (contains_first bytes parts) in
    record { bytes = bytes; ids = is.0; millis = is.1; facts = is.2 }
    ∷ list_of_some parts (λ other there. each other (contains_later bytes parts other there))

-- it lists the parts
some-bytes : (parts : List (List ℕ)) (each : (bytes : List ℕ) → Contains parts bytes → IsSomePart bytes)
    → map (λ part. part.bytes) (list_of_some parts each) ≡ parts
some-bytes [] each = refl
some-bytes (bytes ∷ parts) each =
    ap (λ (l : List (List ℕ)). bytes ∷ l) (some-bytes parts (λ other there. each other (contains_later bytes parts other there)))

some-each : (parts : List (List ℕ)) (each : (bytes : List ℕ) → Contains parts bytes → IsSomePart bytes)
    → AllByRecursion StatesIt (list_of_some parts each)
some-each [] each = tt
some-each (bytes ∷ parts) each =
    ((each bytes (contains_first bytes parts)).3, some-each parts (λ other there. each other (contains_later bytes parts other there)))

-- what is said part by part is that they have two sizes
pub said_two_sizes : (parts : List (List ℕ)) → SayTwoSizes parts → HaveTwoSizes parts
said_two_sizes parts say = record {
  states = list_of_some parts say.each;
  of_parts = some-bytes parts say.each;
  each = some-each parts say.each;
  two = λ ids sizes. say.two ids (each_listed parts ids (list_of_some parts say.each) (some-bytes parts say.each) (some-each parts say.each)
      sizes);
}

-- ---- from one list to another

-- what one list of parts says, another says too
pub record SaysOn (parts others : List (List ℕ)) : Type 0 where
  pub together : (ids : IdSize) (millis : ℕ) (facts : List FactValue) → SayTogether parts ids millis facts
      → SayTogether others ids millis facts
  pub sizes : SayTwoSizes parts → SayTwoSizes others

-- so it comes to the same
pub comes_on : (parts others : List (List ℕ)) → SaysOn parts others → (outcome : Outcome) → ComesTo parts outcome → ComesTo others outcome
comes_on parts others on (OneHeap ids millis rows) agree = record {
  state = said_together others ids millis rows (on.together ids millis rows (say_together parts ids millis rows agree.state));
  consistent = agree.consistent;
  ordered = agree.ordered;
}
comes_on parts others on (Conflict key) dis = record {
  ids = dis.ids;
  millis = dis.millis;
  facts = dis.facts;
  state = said_together others dis.ids dis.millis dis.facts (on.together dis.ids dis.millis dis.facts
      (say_together parts dis.ids dis.millis dis.facts dis.state));
  least = dis.least;
}
comes_on parts others on TwoSizes have = said_two_sizes others (on.sizes (say_two_sizes parts have))

-- ---- the same parts

module _ (parts others : List (List ℕ)) (same : SameParts parts others) where
  -- one of the parts is one of the others
  one_over : (ids : IdSize) → OneOf parts ids → OneOf others ids
  one_over ids one = record { bytes = one.bytes; there = (same one.bytes).0 one.there; says = one.says }

  -- and one of the others is one of them
  one_back : (ids : IdSize) → OneOf others ids → OneOf parts ids
  one_back ids one = record { bytes = one.bytes; there = (same one.bytes).1 one.there; says = one.says }

  same_together : (ids : IdSize) (millis : ℕ) (facts : List FactValue) → SayTogether parts ids millis facts
      → SayTogether others ids millis facts
  unfolding one_over one_back
  same_together ids millis facts say = record {
    each = λ bytes there. say.each bytes ((same bytes).1 there);
    earliest = (one_over ids say.earliest.0, say.earliest.1);
    least = λ one. say.least (one_back ids one);
    stated = λ fact has. let of = say.stated fact has in (one_over ids of.0, of.1);
    states = λ fact one has. say.states fact (one_back ids one) has;
  }

  same_says_on : SaysOn parts others
  same_says_on = record {
    together = same_together;
    sizes = λ say. record {
      each = λ bytes there. say.each bytes ((same bytes).1 there);
      two = λ ids all. say.two ids (λ bytes there. all bytes ((same bytes).0 there));
    };
  }

-- the same parts come to the same
pub same_outcome : (parts others : List (List ℕ)) (outcome : Outcome) → SameParts parts others → ComesTo parts outcome
    → ComesTo others outcome
same_outcome parts others outcome same = comes_on parts others (same_says_on parts others same) outcome

-- ---- parts that are cut anew

-- parts that state something together have one size
one_size : (parts : List (List ℕ)) (ids other : IdSize) (millis more : ℕ) (facts rows : List FactValue)
    → SayTogether parts ids millis facts → SayTogether parts other more rows → ids ≡ other
one_size parts ids other millis more facts rows one two =
    let first = one.earliest.0 in
    let again = two.each first.bytes first.there in
    (states_one first.bytes ids other first.says.millis again.millis first.says.facts again.facts first.says.part again.part).0

-- they state one thing together
pub one_state : (parts : List (List ℕ)) (ids other : IdSize) (millis more : ℕ) (facts rows : List FactValue)
    → IsState parts ids millis facts → IsState parts other more rows → (ids ≡ other) × (millis ≡ more) × SameFacts facts rows
one_state parts ids other millis more facts rows one two =
    let say = say_together parts ids millis facts one in
    let say_too = say_together parts other more rows two in
    let once = together_once parts ids other millis more facts rows say say_too in
    (one_size parts ids other millis more facts rows say say_too, once.0, once.1)

pub cut_outcome : (parts others : List (List ℕ)) (ids : IdSize) (millis : ℕ) (facts : List FactValue) (outcome : Outcome)
    → IsState parts ids millis facts → IsState others ids millis facts → ComesTo parts outcome → ComesTo others outcome
cut_outcome parts others ids millis facts (OneHeap its_ids its_millis rows) one other agree =
    let once = one_state parts its_ids ids its_millis millis rows facts agree.state one in
    let state = state_of_set others ids millis rows facts other once.2 in
    record {
      state = subst (λ (i : IdSize). IsState others i its_millis rows) (sym once.0)
          (subst (λ (m : ℕ). IsState others ids m rows) (sym once.1) state);
      consistent = agree.consistent;
      ordered = agree.ordered;
    }
cut_outcome parts others ids millis facts (Conflict key) one other dis =
    let once = one_state parts dis.ids ids dis.millis millis dis.facts facts dis.state one in
    record {
      ids = ids;
      millis = millis;
      facts = facts;
      state = other;
      least = IsLeastConflict-same dis.facts facts key once.2 dis.least;
    }
cut_outcome parts others ids millis facts TwoSizes one other have = absurd (not_two_sizes parts ids millis facts one have)

-- ---- one outcome

-- a heap that parts come to is one
one_heap_of : (parts : List (List ℕ)) (ids other : IdSize) (millis more : ℕ) (rows others : List FactValue) → Agree parts ids millis rows
    → Agree parts other more others → OneHeap ids millis rows ≡ OneHeap other more others
one_heap_of parts ids other millis more rows others one two =
    let once = one_state parts ids other millis more rows others one.state two.state in
    let same = one_order rows others one.ordered two.ordered once.2 in
    cc (once.0, once.1, same)

-- parts that agree have no conflict
no_heap_and_conflict : (parts : List (List ℕ)) (ids : IdSize) (millis : ℕ) (rows : List FactValue) (key : Key) → Agree parts ids millis rows
    → Disagree parts key → ⊥
no_heap_and_conflict parts ids millis rows key agree dis =
    let once = one_state parts ids dis.ids millis dis.millis rows dis.facts agree.state dis.state in
    no_conflict dis.facts key (IsConsistent-same rows dis.facts once.2 agree.consistent) dis.least.conflict

pub one_outcome : (parts : List (List ℕ)) (one other : Outcome) → ComesTo parts one → ComesTo parts other → one ≡ other
one_outcome parts (OneHeap ids millis rows) (OneHeap other more others) is is_too =
    one_heap_of parts ids other millis more rows others is is_too
one_outcome parts (OneHeap ids millis rows) (Conflict key) is is_too = absurd (no_heap_and_conflict parts ids millis rows key is is_too)
one_outcome parts (OneHeap ids millis rows) TwoSizes is is_too = absurd (not_two_sizes parts ids millis rows is.state is_too)
one_outcome parts (Conflict key) (OneHeap ids millis rows) is is_too = absurd (no_heap_and_conflict parts ids millis rows key is_too is)
one_outcome parts (Conflict key) (Conflict other) is is_too =
    let once = one_state parts is.ids is_too.ids is.millis is_too.millis is.facts is_too.facts is.state is_too.state in
    let same = one_least is_too.facts key other (IsLeastConflict-same is.facts is_too.facts key once.2 is.least) is_too.least in
    ap Conflict same
one_outcome parts (Conflict key) TwoSizes is is_too = absurd (not_two_sizes parts is.ids is.millis is.facts is.state is_too)
one_outcome parts TwoSizes (OneHeap ids millis rows) is is_too = absurd (not_two_sizes parts ids millis rows is_too.state is)
one_outcome parts TwoSizes (Conflict key) is is_too = absurd (not_two_sizes parts is_too.ids is_too.millis is_too.facts is_too.state is)
one_outcome parts TwoSizes TwoSizes is is_too = refl

-- ---- some outcome

-- each of the states has that size, or not each
same_size_or : (ids other : IdSize) → (ids ≡ other) ⊎ (ids ≡ other → ⊥)
same_size_or Four Four = inl refl
same_size_or Four Eight = inr (λ e. cc)
same_size_or Eight Four = inr (λ e. cc)
same_size_or Eight Eight = inl refl

one_size_or : (ids : IdSize) (states : List PartState) → AllByRecursion (λ part. part.ids ≡ ids) states
    ⊎ (AllByRecursion (λ part. part.ids ≡ ids) states → ⊥)
one_size_or ids [] = inl tt
one_size_or ids (part ∷ states) = elim (same_size_or part.ids ids) [
  | inl same ↦ elim (one_size_or ids states) [ inl all ↦ inl (same, all) | inr some ↦ inr (λ all. some all.1) ]
  | inr apart ↦ inr (λ all. apart all.0)
]

-- all that parts of one size state fits it
all_fit : (ids : IdSize) (states : List PartState) → AllByRecursion StatesIt states → AllByRecursion (λ part. part.ids ≡ ids) states
    → (fact : FactValue) → Has (flat_map (λ part. part.facts) states) fact → Fits ids fact
all_fit ids [] each sizes fact has = absurd has
all_fit ids (part ∷ states) each sizes fact has =
    elim (Has-parts part.facts (flat_map (λ (p : PartState). p.facts) states) fact has) [
      | inl here ↦ subst (λ (i : IdSize). Fits i fact) sizes.0 (part_fits part.bytes part.ids part.millis part.facts each.0 fact here)
      | inr later ↦ all_fit ids states each.1 sizes.1 fact later
    ]

-- a first part, and others
module _ (first : PartState) (states : List PartState) (each : AllByRecursion StatesIt (first ∷ states)) where
  abbrev all_stated : List FactValue
  all_stated = flat_map (λ part. part.facts) (first ∷ states)

  some_of_one_size : AllByRecursion (λ part. part.ids ≡ first.ids) (first ∷ states)
      → (outcome : Outcome) × ComesTo (map (λ part. part.bytes) (first ∷ states)) outcome
  some_of_one_size sizes =
      let least = least_of (map (λ (part : PartState). part.millis) (first ∷ states)) (λ e. cc) in
      let state : IsState (map (λ part. part.bytes) (first ∷ states)) first.ids least.0 all_stated = record {
        states = first ∷ states;
        of_parts = refl;
        each = each;
        one_size = sizes;
        earliest = least.1;
        same = SameFacts-refl all_stated;
      } in
      let begun : IsHeap (record { ids = first.ids; millis = first.millis; facts = [] }) = record {
        is_millis = part_millis first.bytes first.ids first.millis first.facts each.0;
        fit = λ fact has. absurd has;
        ordered = tt;
      } in
      let nothing : Holds [] [] None = record { ordered = tt; was_given = λ fact has. has; each = λ fact has. absurd has; has_mark = tt } in
      let left = state_all all_stated [] (record { ids = first.ids; millis = first.millis; facts = [] }) None begun
      (all_fit first.ids (first ∷ states) each sizes) nothing in
      by_mark least.0 state left.new left.mark left.is_heap left.holds
    where
      by_mark : (millis : ℕ) → IsState (map (λ part. part.bytes) (first ∷ states)) first.ids millis all_stated → (new : HeapValue)
          (mark : Option Key) → IsHeap new → Holds all_stated new.facts mark
          → (outcome : Outcome) × ComesTo (map (λ part. part.bytes) (first ∷ states)) outcome
      by_mark millis state new None is holds =
          let same = holds_all all_stated new.facts holds in (
            OneHeap first.ids millis new.facts,
            record {
              state = state_of_set (map (λ (part : PartState). part.bytes) (first ∷ states)) first.ids millis new.facts all_stated
                  state same;
              consistent = order_agrees new.facts is.ordered;
              ordered = is.ordered;
            },
          )
      by_mark millis state new (Some key) is holds = (
        Conflict key,
        record {
          ids = first.ids;
          millis = millis;
          facts = all_stated;
          state = state;
          least = holds_least all_stated new.facts key holds;
        },
      )

  some_of_states : (outcome : Outcome) × ComesTo (map (λ part. part.bytes) (first ∷ states)) outcome
  some_of_states = elim (one_size_or first.ids (first ∷ states)) [
    | inl sizes ↦ some_of_one_size sizes
    | inr apart ↦ (
      TwoSizes,
      record {
        states = first ∷ states;
        of_parts = refl;
        each = each;
        two = λ ids sizes. apart (subst (λ (i : IdSize). AllByRecursion (λ part. part.ids ≡ i) (first ∷ states)) (sym sizes.0) sizes);
      },
    )
  ]

-- what each of a list of parts states
states_each : (parts : List (List ℕ)) → AllByRecursion IsSomePart parts
    → (states : List PartState) × (map (λ part. part.bytes) states ≡ parts) × AllByRecursion StatesIt states
states_each [] each = ([], refl, tt)
states_each (bytes ∷ parts) each =
    let is = each.0 in
    let rest = states_each parts each.1 in (
      record { bytes = bytes; ids = is.0; millis = is.1; facts = is.2 } ∷ rest.0,
      ap (λ (l : List (List ℕ)). bytes ∷ l) rest.1,
      (is.3, rest.2),
    )

some_by : (parts : List (List ℕ)) (states : List PartState) → map (λ part. part.bytes) states ≡ parts → AllByRecursion StatesIt states
    → (parts ≡ [] → ⊥) → (outcome : Outcome) × ComesTo parts outcome
some_by parts [] of_parts each some = absurd (some (sym of_parts))
some_by parts (first ∷ states) of_parts each some =
    let found = some_of_states first states each in
    (found.0, subst (λ (l : List (List ℕ)). ComesTo l found.0) of_parts found.1)

pub some_outcome : (parts : List (List ℕ)) → (parts ≡ [] → ⊥) → AllByRecursion IsSomePart parts → (outcome : Outcome)
    × ComesTo parts outcome
some_outcome parts some each =
    let of = states_each parts each in
    some_by parts of.0 of.1 of.2 some
