-- Bytes are split into items in one way, so the fault with which they are refused is one.
use Rattle.std.proofs.Common.{◌≡◌, inl, inr, ℕ, true, false, eqb, List, [], ◌++◌, length, Option, Some, refl, sym, ap, subst, ◌∙◌}
use Rattle.std.proofs.Common.{append_assoc, arith, Result, Ok, Err, is_ok}
use Rattle.std.proofs.lemmas.Bool.{cases_Bool, eqb-true, both_ways, and_right}
use Rattle.std.proofs.lemmas.List.{nil_from_length}
use Rattle.hprof_values.specs.declared.reason.Reason.{Reason}
use Rattle.hprof_values.specs.declared.reason.Reason.TheVariants.{Truncated}
use Rattle.hprof_items.specs.declared.header.Header.{Header}
use Rattle.hprof_values.specs.declared.parse_stop.ParseStop.{ParseStop}
use Rattle.hprof_values.specs.declared.parse_stop.ParseStop.TheVariants.{Short, TooLong, Fault}
use Rattle.hprof_items.specs.FactValue.{FactValue}
use Rattle.hprof_values.proofs.Numbers.{same_parts}
use Rattle.hprof_items.proofs.Steps.{whole_parts}
use Rattle.hprof_stream.specs.declared.part_fault.PartFault.{PartFault}
use Rattle.hprof_stream.specs.declared.part_fault.PartFault.TheVariants.{Malformed, ItemTooLong}
use Rattle.hprof_stream.specs.Part.{Stated, all_bytes, all_facts}
use Rattle.hprof_stream.specs.Item.{Place, Start, Between, Within, Found, header_before, may_end, AreItems, none, more, records_begun}
use Rattle.hprof_stream.specs.Item.{begun_at, IsItem, item_at}
use Rattle.hprof_stream.specs.Fault.{Splits, fault_at, is_done, HasNoFault, IsFirstFault, is_lasting, is_settled}
use Rattle.hprof_stream.specs.Fault.{HasNoSettledFault, StatesSoFar}
use Rattle.hprof_stream.proofs.Items.{item_again}
use Rattle.hprof_stream.proofs.Refusals.{item_none, item_lasting}
use Rattle.hprof_stream.proofs.ItemLists.{AreItems-then, all_bytes-then}

-- ---- one way to split

-- bytes that begin with an item are whole there
front_is_whole : (longest : ℕ) (from mid : Place) (one : Stated) (behind bytes : List ℕ) → IsItem longest from one mid
    → one.bytes ++ behind ≡ bytes → is_ok (item_at longest from bytes) ≡ true
front_is_whole longest from mid one behind bytes is e =
    ap (λ (b : List ℕ). is_ok (item_at longest from b)) (sym e) ∙ ap is_ok (item_again longest from mid one behind is)

-- two items at the front of the same bytes are one
pub item_once : (longest : ℕ) (from mid next : Place) (one two : Stated) (rest others : List ℕ) → IsItem longest from one mid
    → IsItem longest from two next → one.bytes ++ rest ≡ two.bytes ++ others
    → (mid ≡ next) × (one ≡ two) × (rest ≡ others)
item_once longest from mid next one two rest others is is_too e =
    let left : Found = record { next = mid; facts = one.facts } in
    let right : Found = record { next = next; facts = two.facts } in
    let same : Ok (left, length one.bytes) ≡ Ok (right, length two.bytes) =
    sym (item_again longest from mid one rest is) ∙ ap (item_at longest from) e ∙ item_again longest from next two others is_too in
    let parts = whole_parts left right (length one.bytes) (length two.bytes) same in
    let bytes = same_parts one.bytes rest two.bytes others parts.1 e in
    let facts : one.facts ≡ two.facts = ap (λ (f : Found). f.facts) parts.0 in
    let both : one ≡ two =
    ap (λ (b : List ℕ). record { bytes = b; facts = one.facts }) bytes.0
    ∙ ap (λ (f : List FactValue). record { bytes = two.bytes; facts = f }) facts in
    (ap (λ (f : Found). f.next) parts.0, both, bytes.1)

-- items and a rest that does not begin with one are found in one way
pub items_once : (longest : ℕ) (from to end : Place) (items others : List Stated) (rest left : List ℕ) → AreItems longest from items to
    → AreItems longest from others end
    → all_bytes items ++ rest ≡ all_bytes others ++ left → is_ok (item_at longest to rest) ≡ false
    → is_ok (item_at longest end left) ≡ false
    → (items ≡ others) × (to ≡ end) × (rest ≡ left)
items_once longest from to end items others rest left none none e stops stops_too = (refl, refl, e)
items_once longest from to end items others rest left none (more {mid = mid} {one = one} {items = behind} first next) e stops stops_too =
    absurd (both_ways _ stops (front_is_whole longest from mid one (all_bytes behind ++ left) rest first
    (sym (append_assoc one.bytes (all_bytes behind) left) ∙ sym e)))
items_once longest from to end items others rest left (more {mid = mid} {one = one} {items = behind} first next) none e stops stops_too =
    absurd (both_ways _ stops_too (front_is_whole longest from mid one (all_bytes behind ++ rest) left first
    (sym (append_assoc one.bytes (all_bytes behind) rest) ∙ e)))
items_once longest from to end items others rest left (more {mid = mid} {one = one} {items = behind} first next)
    (more {mid = mid_too} {one = two} {items = behind_too} first_too next_too) e stops stops_too =
    let same = item_once longest from mid mid_too one two (all_bytes behind ++ rest) (all_bytes behind_too ++ left) first first_too
    (sym (append_assoc one.bytes (all_bytes behind) rest) ∙ e ∙ append_assoc two.bytes (all_bytes behind_too) left) in
    let later = items_once longest mid to end behind behind_too rest left next
    (subst (λ (p : Place). AreItems longest p behind_too end) (sym same.0) next_too) same.2 stops stops_too in
    (cc, later.1, later.2)

-- bytes are split in one way
pub splits_once : (longest : ℕ) (bytes : List ℕ) (items others : List Stated) (place end : Place) (rest left : List ℕ)
    → Splits longest bytes items place rest → Splits longest bytes others end left
    → is_ok (item_at longest place rest) ≡ false → is_ok (item_at longest end left) ≡ false
    → (items ≡ others) × (place ≡ end) × (rest ≡ left)
splits_once longest bytes items others place end rest left one two stops stops_too =
    items_once longest Start place end items others rest left one.each two.each (sym one.parts ∙ two.parts) stops stops_too

-- bytes state one thing so far
pub states_once : (longest : ℕ) (bytes : List ℕ) (header other : Option Header) (facts others : List FactValue)
    → StatesSoFar longest bytes header facts → StatesSoFar longest bytes other others
    → (header ≡ other) × (facts ≡ others)
states_once longest bytes header other facts others one two =
    let once = splits_once longest bytes one.items two.items one.place two.place one.rest two.rest one.splits two.splits one.ends
    two.ends in
    (sym one.has_header ∙ ap header_before once.1 ∙ two.has_header, sym one.has_facts ∙ ap all_facts once.0 ∙ two.has_facts)

-- items from one place begin one number of records
pub records_once : (longest : ℕ) (from begin to end : Place) (items : List Stated) → from ≡ begin → (are : AreItems longest from items to)
    → (others : AreItems longest begin items end)
    → records_begun are ≡ records_begun others
records_once longest from begin to end items same none none = refl
records_once longest from begin to end items same (more {mid = mid} {one = one} {items = behind} first next)
    (more {mid = other} first_too next_too) =
    let here = (item_once longest from mid other one one [] [] first
    (subst (λ (p : Place). IsItem longest p one other) (sym same) first_too) refl).0 in
    let later = records_once longest mid other to end behind here next next_too in
    omega (arith, ap begun_at same, later)

-- a split goes on over more items
pub Splits-then : (longest : ℕ) (bytes piece : List ℕ) (items others : List Stated) (place to : Place) (held rest : List ℕ)
    → Splits longest bytes items place held → AreItems longest place others to
    → held ++ piece ≡ all_bytes others ++ rest → Splits longest (bytes ++ piece) (items ++ others) to rest
Splits-then longest bytes piece items others place to held rest splits are parts = record {
  each = AreItems-then longest Start place to items others splits.each are;
  parts = ap (λ (b : List ℕ). b ++ piece) splits.parts ∙ append_assoc (all_bytes items) held piece
      ∙ ap (λ (b : List ℕ). all_bytes items ++ b) parts
      ∙ sym (append_assoc (all_bytes items) (all_bytes others) rest) ∙ ap (λ (b : List ℕ). b ++ rest) (sym (all_bytes-then items others));
}

-- ---- one fault

-- where a step is at fault it is not whole
fault_stops : (offset : ℕ) (step : Result (Found × ℕ) ParseStop) (fault : PartFault) → fault_at offset step ≡ Some fault
    → is_ok step ≡ false
fault_stops offset (Ok (found, n)) fault e = absurd cc
fault_stops offset (Err stop) fault e = refl

-- the first fault is one
pub first_fault_once : (longest : ℕ) (bytes : List ℕ) (one two : PartFault) → IsFirstFault longest bytes one
    → IsFirstFault longest bytes two → one ≡ two
first_fault_once longest bytes one two first second =
    let same = splits_once longest bytes first.items second.items first.place second.place first.rest second.rest first.splits second.splits
    (fault_stops _ _ one first.fails) (fault_stops _ _ two second.fails) in
    let found : fault_at (length (all_bytes first.items)) (item_at longest first.place first.rest)
    ≡ fault_at (length (all_bytes second.items)) (item_at longest second.place second.rest) =
    ap (λ (i : List Stated). fault_at (length (all_bytes i)) (item_at longest first.place first.rest)) same.0
    ∙ ap (λ (p : Place). fault_at (length (all_bytes second.items)) (item_at longest p first.rest)) same.1
    ∙ ap (λ (r : List ℕ). fault_at (length (all_bytes second.items)) (item_at longest second.place r)) same.2 in
    let both : Some one ≡ Some two = sym first.fails ∙ found ∙ second.fails in
    cc

-- where nothing is left nothing is whole
pub none_stops : (longest : ℕ) (place : Place) → is_ok (item_at longest place []) ≡ false
none_stops longest place = ap is_ok (item_none longest place)

-- where a part may end and nothing is left, it is done
done_at : (place : Place) → may_end place ≡ true → is_done place [] ≡ true
done_at Start e = e
done_at (Between header) e = refl
done_at (Within header room) e = e

-- bytes with no fault have no first fault
pub no_fault_no_first : (longest : ℕ) (bytes : List ℕ) (fault : PartFault) → HasNoFault longest bytes → IsFirstFault longest bytes fault → ⊥
no_fault_no_first longest bytes fault sound first =
    let same = splits_once longest bytes sound.items first.items sound.place first.place [] first.rest sound.splits first.splits
    (none_stops longest sound.place) (fault_stops _ _ fault first.fails) in
    let done : is_done first.place first.rest ≡ true =
    ap (λ (r : List ℕ). is_done first.place r) (sym same.2) ∙ ap (λ (p : Place). is_done p []) (sym same.1)
    ∙ done_at sound.place sound.at_end in
    both_ways (is_done first.place first.rest) first.undone done

-- a fault of an item that only lacks bytes is settled by none
short_fault : (offset : ℕ) (fault : PartFault) → fault_at offset (Err Short) ≡ Some fault → is_settled fault ≡ false
short_fault offset fault e = let same : Malformed offset Truncated ≡ fault = cc in ap is_settled (sym same)

-- where the rest only lacks bytes, no fault is settled
pub short_unsettled : (longest : ℕ) (bytes : List ℕ) (items : List Stated) (place : Place) (rest : List ℕ)
    → Splits longest bytes items place rest → item_at longest place rest ≡ Err Short → HasNoSettledFault longest bytes
short_unsettled longest bytes items place rest splits short fault first =
    let same = splits_once longest bytes items first.items place first.place rest first.rest splits first.splits (ap is_ok short)
    (fault_stops _ _ fault first.fails) in
    let here : item_at longest first.place first.rest ≡ Err Short =
    ap (λ (p : Place). item_at longest p first.rest) (sym same.1) ∙ ap (item_at longest place) (sym same.2) ∙ short in
    short_fault (length (all_bytes first.items)) fault (ap (fault_at (length (all_bytes first.items))) (sym here) ∙ first.fails)

-- what is refused is not done
pub refused_undone : (longest : ℕ) (place : Place) (rest : List ℕ) → (item_at longest place rest ≡ Err Short → ⊥)
    → is_done place rest ≡ false
refused_undone longest place rest never =
    elim (cases_Bool (eqb (length rest) 0)) [
      | inl nothing ↦ absurd (never (ap (item_at longest place) (nil_from_length rest (eqb-true (length rest) 0 nothing))
          ∙ item_none longest place))
      | inr something ↦ and_right (may_end place) (eqb (length rest) 0) something
    ]

-- what is at fault does not only lack bytes
fault_is_long : (reason : Reason) (step : Result (Found × ℕ) ParseStop) → step ≡ Err (Fault reason) → step ≡ Err Short → ⊥
fault_is_long reason step e short = cc

-- what is too long does not only lack bytes
too_long_is_long : (step : Result (Found × ℕ) ParseStop) → step ≡ Err TooLong → step ≡ Err Short → ⊥
too_long_is_long step e short = cc

-- an item at fault is a first fault, and settled
pub fault_is_first : (longest : ℕ) (bytes : List ℕ) (items : List Stated) (place : Place) (rest : List ℕ) (reason : Reason)
    → Splits longest bytes items place rest → item_at longest place rest ≡ Err (Fault reason)
    → IsFirstFault longest bytes (Malformed (length (all_bytes items)) reason) × (is_lasting reason ≡ true)
fault_is_first longest bytes items place rest reason splits e = (
  record {
    items = items;
    place = place;
    rest = rest;
    splits = splits;
    undone = refused_undone longest place rest (fault_is_long reason (item_at longest place rest) e);
    fails = ap (fault_at (length (all_bytes items))) e;
  },
  item_lasting longest place rest reason e,
)

-- an item that is too long is a first fault
pub too_long_is_first : (longest : ℕ) (bytes : List ℕ) (items : List Stated) (place : Place) (rest : List ℕ)
    → Splits longest bytes items place rest → item_at longest place rest ≡ Err TooLong
    → IsFirstFault longest bytes (ItemTooLong (length (all_bytes items)))
too_long_is_first longest bytes items place rest splits e =
    record {
      items = items;
      place = place;
      rest = rest;
      splits = splits;
      undone = refused_undone longest place rest (too_long_is_long (item_at longest place rest) e);
      fails = ap (fault_at (length (all_bytes items))) e;
    }
