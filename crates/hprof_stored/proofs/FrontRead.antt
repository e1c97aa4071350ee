-- What the bytes of a part state at their front: under the size of its header, and facts that fit it.
use Rattle.std.proofs.Common.{◌≡◌, ℕ, List, [], ◌∷◌, ◌++◌, take, Option, Some, None, inl, inr, refl, sym, ap, subst}
use Rattle.std.specs.List.{AllByRecursion}
use Rattle.std.proofs.lemmas.List.{take_all}
use Rattle.hprof_values.specs.declared.ids.IdSize.{IdSize}
use Rattle.hprof_items.specs.declared.header.Header.{Header}
use Rattle.hprof_items.specs.FactValue.{FactValue}
use Rattle.hprof_items.specs.Spelling.{Fits}
use Rattle.hprof_stream.specs.declared.limits.Limits.{Limits}
use Rattle.hprof_stream.specs.Part.{IsPart, Stated, all_facts}
use Rattle.hprof_stream.specs.Item.{AreItems, IsItem, Place, Start, header_before, is_dump, is_dump_end, is_fact, is_header, is_skipped}
use Rattle.hprof_stream.specs.Item.{is_sub, more, none}
use Rattle.hprof_stream.specs.Fault.{StatesSoFar}
use Rattle.hprof_stream.specs.Walking.{IsBegun}
use Rattle.hprof_stream.proofs.ItemLists.{items_kept}
use Rattle.hprof_stream.proofs.Longer.{Splits-more}
use Rattle.hprof_stream.proofs.Parts.{states_one}
use Rattle.hprof_rows.specs.Facts.{AllFit, Has}
use Rattle.hprof_rows.proofs.FactSets.{Has-parts}
use Rattle.hprof_facts.specs.Sizes.{StatesUnder}
use Rattle.hprof_facts.proofs.GivenFirst.{taken_first}
use Rattle.hprof_facts.proofs.Results.{part_states}
use Rattle.hprof_heap.specs.Gathering.{Given}
use Rattle.hprof_objects.specs.ReadAgain.{StatesFirst}
use Rattle.hprof_objects.specs.Whole.{FitGiven}
use Rattle.hprof_engine.specs.Joining.{IsAccepted}
use Rattle.hprof_engine.specs.Saved.{IsSaved, Saved, given_of, given_with}
use Rattle.hprof_engine.specs.Sound.{IsAllOf}
use Rattle.hprof_engine.proofs.WholeParts.{all_of}

-- ---- under the size of the header

-- all items at the front
pub front_states : (longest : ℕ) (bytes : List ℕ) (header : Option Header) (facts : List FactValue) (ids : IdSize)
    → StatesSoFar longest bytes header facts → ((one : Header) → header ≡ Some one → one.ids ≡ ids)
    → StatesUnder longest bytes facts (Some ids)
front_states longest bytes header facts ids states size = record {
  items = states.items;
  place = states.place;
  rest = states.rest;
  splits = states.splits;
  has_facts = states.has_facts;
  has_size = begun (header_before states.place) (sym states.has_header);
}
  where
    begun : (told : Option Header) → header ≡ told → IsBegun told (Some ids)
    begun None e = tt
    begun (Some one) e = ap (λ (i : IdSize). Some i) (sym (size one e))

-- more bytes behind
pub front_more : (limits : Limits) (bytes behind : List ℕ) (ids : IdSize) (facts : List FactValue) → StatesFirst limits bytes ids facts
    → StatesFirst limits (bytes ++ behind) ids facts
front_more limits bytes behind ids facts first =
    let all = taken_first limits.max_bytes bytes behind in
    subst (λ (b : List ℕ). StatesUnder limits.max_item b facts (Some ids)) (sym all.1) (record {
      items = first.items;
      place = first.place;
      rest = first.rest ++ all.0;
      splits = Splits-more limits.max_item (take limits.max_bytes bytes) all.0 first.items first.place first.rest first.splits;
      has_facts = first.has_facts;
      has_size = first.has_size;
    })

-- a part with no fault states its facts
pub whole_states_first : (limits : Limits) (bytes : List ℕ) (ids : IdSize) (millis : ℕ) (facts : List FactValue) → IsAccepted limits bytes
    → IsPart bytes ids millis facts → StatesFirst limits bytes ids facts
whole_states_first limits bytes ids millis facts accepted part =
    let states = part_states limits.max_item bytes ids millis facts accepted.0 part in
    subst (λ (b : List ℕ). StatesUnder limits.max_item b facts (Some ids)) (sym (take_all limits.max_bytes bytes accepted.1))
    (front_states limits.max_item bytes states.0 facts ids states.1
    (λ one is. size one (subst (λ (h : Option Header). IsAllOf bytes h facts) is
    (all_of limits.max_item bytes states.0 facts accepted.0 states.1))))
  where
    size : (one : Header) → IsPart bytes one.ids one.millis facts → one.ids ≡ ids
    size one its = (states_one bytes one.ids ids one.millis millis facts facts its part).0

-- ---- facts that fit

-- a fact of an item fits the size of the header before it
item_fits : (longest : ℕ) (from : Place) (one : Stated) (to : Place) → IsItem longest from one to → (fact : FactValue) → Has one.facts fact
    → (header : Header) × (header_before from ≡ Some header) × Fits header.ids fact
item_fits longest from one to (is_header {header = header} fits spelled facts) fact has =
    absurd (subst (λ (l : List FactValue). Has l fact) facts has)
item_fits longest from one to (is_fact {header = header} {fact = own} states short facts) fact has =
    (header, refl, only_fits header own states.fits (subst (λ (l : List FactValue). Has l fact) facts has))
  where
    only_fits : (header : Header) (own : FactValue) → Fits header.ids own → Has (own ∷ []) fact → Fits header.ids fact
    only_fits header own fits (inl same) = subst (Fits header.ids) (sym same) fits
    only_fits header own fits (inr never) = absurd never
item_fits longest from one to (is_dump_end {header = header} ends facts) fact has =
    absurd (subst (λ (l : List FactValue). Has l fact) facts has)
item_fits longest from one to (is_dump {header = header} is is_time small spelled facts) fact has =
    absurd (subst (λ (l : List FactValue). Has l fact) facts has)
item_fits longest from one to (is_sub {header = header} {fact = own} states spelled in_room in_longest facts) fact has =
    (header, refl, only_fits header own states.fits (subst (λ (l : List FactValue). Has l fact) facts has))
  where
    only_fits : (header : Header) (own : FactValue) → Fits header.ids own → Has (own ∷ []) fact → Fits header.ids fact
    only_fits header own fits (inl same) = subst (Fits header.ids) (sym same) fits
    only_fits header own fits (inr never) = absurd never
item_fits longest from one to (is_skipped {header = header} states facts) fact has =
    absurd (subst (λ (l : List FactValue). Has l fact) facts has)

items_fit : (longest : ℕ) (header : Header) (from to : Place) (items : List Stated) → AreItems longest from items to
    → header_before to ≡ Some header → (fact : FactValue) → Has (all_facts items) fact → Fits header.ids fact
items_fit longest header from to items none is fact has = absurd has
items_fit longest header from to items (more {mid = mid} {one = one} {items = rest} first behind) is fact has =
    elim (Has-parts one.facts (all_facts rest) fact has) [
      | inl here ↦
          let it = item_fits longest from one mid first fact here in
          let kept = items_kept longest it.0 from to (one ∷ rest) (more {mid = mid} first behind) it.1 in
          let same : it.0 ≡ header = cc in
          subst (λ (h : Header). Fits h.ids fact) same it.2
      | inr later ↦ items_fit longest header mid to rest behind is fact later
    ]

saved_fit : (longest : ℕ) (bytes : List ℕ) (header : Header) (facts : List FactValue) → StatesSoFar longest bytes (Some header) facts
    → AllFit header.ids facts
saved_fit longest bytes header facts states fact has =
    items_fit longest header Start states.place states.items states.splits.each states.has_header fact
    (subst (λ (l : List FactValue). Has l fact) (sym states.has_facts) has)

fit_with : (longest : ℕ) (bytes : List ℕ) (header : Option Header) (facts : List FactValue) (others : List Given)
    → StatesSoFar longest bytes header facts → FitGiven others → FitGiven (given_with header facts others)
fit_with longest bytes None facts others states fit = fit
fit_with longest bytes (Some header) facts others states fit = (saved_fit longest bytes header facts states, fit)

-- what is saved of parts fits
pub all_saved_fit : (longest : ℕ) (saved : List Saved) → AllByRecursion (IsSaved longest) saved → FitGiven (given_of saved)
all_saved_fit longest [] are = tt
all_saved_fit longest (one ∷ saved) are =
    fit_with longest one.bytes one.header one.facts (given_of saved) are.0 (all_saved_fit longest saved are.1)
