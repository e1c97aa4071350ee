-- What is saved of one more part.
use Rattle.std.proofs.Common.{◌≡◌, ℕ, ◌+◌, ◌-◌, ◌^◌, ◌<◌, ◌≤◌, min, List, [], ◌∷◌, ◌++◌, length, map, take, Option, Some, None, refl, sym}
use Rattle.std.proofs.Common.{ap, subst, ◌∙◌, append-nil, arith}
use Rattle.std.specs.List.{AllByRecursion}
use Rattle.std.proofs.lemmas.List.{length-append, length-map, take_all}
use Rattle.hprof_items.specs.declared.header.Header.{Header}
use Rattle.hprof_items.specs.FactValue.{FactValue}
use Rattle.hprof_stream.specs.declared.limits.Limits.{Limits}
use Rattle.hprof_stream.specs.declared.summary.PartSummary.{PartSummary}
use Rattle.hprof_stream.specs.Part.{all_bytes, all_facts, IsWritten, IsPart, IsSummary}
use Rattle.hprof_stream.specs.Item.{Start}
use Rattle.hprof_stream.specs.Fault.{HasNoFault, StatesSoFar}
use Rattle.hprof_stream.specs.Run.{Run, Steps}
use Rattle.hprof_stream.proofs.Faults.{none_stops}
use Rattle.hprof_stream.proofs.Grammar.{items_spelled}
use Rattle.hprof_stream.proofs.ItemLists.{items_at_start}
use Rattle.hprof_stream.proofs.Parts.{written_states}
use Rattle.hprof_heap.specs.Gathering.{Gathered, Given, Begins, Takes, Gathers}
use Rattle.hprof_engine.specs.Joining.{IsAccepted}
use Rattle.hprof_engine.proofs.Gathered.{Gathers-more}
use Rattle.hprof_engine.specs.Saved.{Saved, IsSaved, given_with, given_of, AreSaved}
use Rattle.hprof_engine.specs.Salvaging.{PartRead, handled, all_handled}

-- ---- lists

-- a function of the front with one more
pub map_one : {A B : Type 0} (f : A → B) (xs : List A) (x : A) → map f (xs ++ x ∷ []) ≡ map f xs ++ f x ∷ []
map_one f [] x = refl
map_one f (y ∷ xs) x = ap (λ ys. f y ∷ ys) (map_one f xs x)

-- what holds of each, and of one more
all_one : {A : Type 0} (P : A → Type 0) (xs : List A) (x : A) → AllByRecursion P xs → P x → AllByRecursion P (xs ++ x ∷ [])
all_one P [] x each is = (is, tt)
all_one P (y ∷ xs) x each is = (each.0, all_one P xs x each.1 is)

-- ---- what is given

given_with-append : (header : Option Header) (facts : List FactValue) (others more : List Given)
    → given_with header facts (others ++ more) ≡ given_with header facts others ++ more
given_with-append None facts others more = refl
given_with-append (Some header) facts others more = refl

given_of-more : (saved : List Saved) (one : Saved) → given_of (saved ++ one ∷ []) ≡ given_of saved ++ given_with one.header one.facts []
given_of-more [] one = refl
given_of-more (first ∷ saved) one = ap (given_with first.header first.facts) (given_of-more saved one)
    ∙ given_with-append first.header first.facts (given_of saved) (given_with one.header one.facts [])

-- nothing is saved of no parts
pub AreSaved-none : (longest : ℕ) → AreSaved longest [] []
AreSaved-none longest = record { saved = []; of_parts = refl; each = tt; has_given = refl }

-- of one more part this is saved
pub AreSaved-more : (longest : ℕ) (parts : List (List ℕ)) (given : List Given) (bytes : List ℕ) (header : Option Header)
    (facts : List FactValue) → AreSaved longest parts given → StatesSoFar longest bytes header facts
    → AreSaved longest (parts ++ bytes ∷ []) (given ++ given_with header facts [])
AreSaved-more longest parts given bytes header facts are states =
    let one : Saved = record { bytes = bytes; header = header; facts = facts } in
    record {
      saved = are.saved ++ one ∷ [];
      of_parts = map_one (λ (s : Saved). s.bytes) are.saved one ∙ ap (λ (ps : List (List ℕ)). ps ++ bytes ∷ []) are.of_parts;
      each = all_one (IsSaved longest) are.saved one are.each states;
      has_given = given_of-more are.saved one ∙ ap (λ (gs : List Given). gs ++ given_with header facts []) are.has_given;
    }

pub all_handled-more : (limits : Limits) (reads : List PartRead) (read : PartRead)
    → all_handled limits (reads ++ read ∷ []) ≡ all_handled limits reads ++ handled limits read ∷ []
all_handled-more limits reads read = map_one (handled limits) reads read

-- ---- what is gathered

-- bytes without a whole header state no facts
pub bare_states_none : (longest : ℕ) (bytes : List ℕ) (facts : List FactValue) → StatesSoFar longest bytes None facts → facts ≡ []
bare_states_none longest bytes facts states =
    sym states.has_facts ∙ ap all_facts (items_at_start longest Start states.place states.items states.splits.each states.has_header).1

-- parts, and then one more, where its header came
pub Gathers-with : (old mid new : Gathered) (parts : List Given) (header : Option Header) (facts : List FactValue) → Gathers old parts mid
    → (header ≡ None → facts ≡ []) → Run Begins Takes mid header facts new → Gathers old (parts ++ given_with header facts []) new
Gathers-with old mid new parts None facts gathers bare run =
    let still : mid ≡ new = subst (λ (fs : List FactValue). Steps Begins Takes mid fs new) (bare refl) run in
    subst (λ (gs : List Given). Gathers old gs new) (sym (append-nil parts)) (subst (λ (g : Gathered). Gathers old parts g) still gathers)
Gathers-with old mid new parts (Some header) facts gathers bare run = Gathers-more old mid new parts header facts gathers run

-- a count of parts, with one more where its header came; it stops at the greatest number
abbrev pub counted_with : Option Header → ℕ → ℕ
counted_with None count = count
counted_with (Some header) count = min (count + 1) (2 ^ 64 - 1)

pub counts-given : (given : List Given) (header : Option Header) (facts : List FactValue) (count : ℕ) → count ≡ length given
    → length given < 2 ^ 64 - 1 → counted_with header count ≡ length (given ++ given_with header facts [])
counts-given given None facts count is few = is ∙ ap length (sym (append-nil given))
counts-given given (Some header) facts count is few =
    omega (arith, length-append given (record { header = header; facts = facts } ∷ []))

given_with-length : (header : Option Header) (facts : List FactValue) (others : List Given)
    → length (given_with header facts others) ≤ length others + 1
given_with-length None facts others = omega arith
given_with-length (Some header) facts others = omega arith

given_of-length : (saved : List Saved) → length (given_of saved) ≤ length saved
given_of-length [] = omega arith
given_of-length (first ∷ saved) = omega (arith, given_with-length first.header first.facts (given_of saved), given_of-length saved)

-- no more is given than there are parts
pub given-size : (limits : Limits) (longest : ℕ) (reads : List PartRead) (given : List Given)
    → AreSaved longest (all_handled limits reads) given
    → length given ≤ length reads
given-size limits longest reads given are = omega (
  arith,
  given_of-length are.saved,
  ap length are.has_given,
  ap length are.of_parts,
  length-map are.saved (λ (s : Saved). s.bytes),
  length-map reads (handled limits),
)

-- ---- a part with no fault

-- its header and its facts are saved
pub whole_states : (longest : ℕ) (bytes : List ℕ) (summary : PartSummary) (facts : List FactValue) → HasNoFault longest bytes
    → IsSummary bytes summary → IsPart bytes summary.header.ids summary.header.millis facts
    → StatesSoFar longest bytes (Some summary.header) facts
whole_states longest bytes summary facts sound is part =
    let spelled = items_spelled longest sound.place sound.items sound.at_end sound.splits.each in
    let all : all_bytes sound.items ≡ bytes = sym (append-nil (all_bytes sound.items)) ∙ sym sound.splits.parts in
    let written : IsWritten bytes spelled.header spelled.records =
    subst (λ (b : List ℕ). IsWritten b spelled.header spelled.records) all spelled.written in
    let same = written_states bytes spelled.header summary.header spelled.records is.records written is.written in
    let alike = written_states bytes spelled.header part.header spelled.records part.records written part.written in
    record {
      items = sound.items;
      place = sound.place;
      rest = [];
      splits = sound.splits;
      ends = none_stops longest sound.place;
      has_header = spelled.kept ∙ ap Some same.0;
      has_facts = spelled.has_facts ∙ alike.1 ∙ part.has_facts;
    }

-- all its bytes were handled
pub handled_all : (limits : Limits) (came : List ℕ) → IsAccepted limits came → take limits.max_bytes came ≡ came
handled_all limits came accepted = take_all limits.max_bytes came accepted.1
