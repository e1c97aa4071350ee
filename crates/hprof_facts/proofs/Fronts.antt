-- Items at the front of some bytes are the first of all that the bytes have, however many come behind.
use Rattle.std.proofs.Common.{◌≡◌, ℕ, false, List, ◌∷◌, ◌++◌, Option, Some, refl, sym, ap, subst, ◌∙◌, append_assoc, is_ok}
use Rattle.std.proofs.lemmas.Bool.{both_ways}
use Rattle.hprof_items.specs.declared.header.Header.{Header}
use Rattle.hprof_items.specs.FactValue.{FactValue}
use Rattle.hprof_stream.specs.declared.limits.Limits.{Limits}
use Rattle.hprof_stream.specs.declared.part_reader.PartReader.{PartReader}
use Rattle.hprof_stream.specs.Part.{Stated, all_bytes, all_facts}
use Rattle.hprof_stream.specs.Item.{AreItems, Place, Start, header_before, item_at, more, none}
use Rattle.hprof_stream.specs.Fault.{Splits, StatesSoFar}
use Rattle.hprof_stream.specs.Progress.{place_of}
use Rattle.hprof_stream.specs.Reader.{HasRead}
use Rattle.hprof_stream.proofs.Faults.{item_once}
use Rattle.hprof_stream.proofs.ItemLists.{all_facts-then, items_kept}
use Rattle.hprof_stream.proofs.Items.{item_again}
use Rattle.hprof_stream.proofs.Longer.{Splits-more}

-- the others are these items and more
record GoesOn (longest : ℕ) (to : Place) (items : List Stated) (end : Place) (others : List Stated) : Type 0 where
  behind : List Stated
  are : AreItems longest to behind end
  same : others ≡ items ++ behind

-- items over the same bytes, of which the others go as far as they can
items_go_on : (longest : ℕ) (from to end : Place) (items others : List Stated) (rest left : List ℕ) → AreItems longest from items to
    → AreItems longest from others end → all_bytes items ++ rest ≡ all_bytes others ++ left
    → is_ok (item_at longest end left) ≡ false → GoesOn longest to items end others
items_go_on longest from to end items others rest left none second e stops = record { behind = others; are = second; same = refl }
items_go_on longest from to end items others rest left (more {mid = mid} {one = one} {items = behind} first next) none e stops =
    let whole : is_ok (item_at longest from left) ≡ is_ok (item_at longest from (one.bytes ++ (all_bytes behind ++ rest))) =
    ap (λ (b : List ℕ). is_ok (item_at longest from b)) (sym e ∙ append_assoc one.bytes (all_bytes behind) rest) in
    absurd (both_ways _ stops (whole ∙ ap is_ok (item_again longest from mid one (all_bytes behind ++ rest) first)))
items_go_on longest from to end items others rest left (more {mid = mid} {one = one} {items = behind} first next)
    (more {mid = mid_too} {one = two} {items = behind_too} first_too next_too) e stops =
    let same = item_once longest from mid mid_too one two (all_bytes behind ++ rest) (all_bytes behind_too ++ left) first first_too
    (sym (append_assoc one.bytes (all_bytes behind) rest) ∙ e ∙ append_assoc two.bytes (all_bytes behind_too) left) in
    let later = items_go_on longest mid to end behind behind_too rest left next
    (subst (λ (p : Place). AreItems longest p behind_too end) (sym same.0) next_too) same.2 stops in
    record {
      behind = later.behind;
      are = later.are;
      same = ap (λ (s : Stated). s ∷ behind_too) (sym same.1) ∙ ap (λ (l : List Stated). one ∷ l) later.same;
    }

-- whole and right items at the front of the bytes state these facts
pub record StatesFirst (longest : ℕ) (bytes : List ℕ) (facts : List FactValue) : Type 0 where
  pub items : List Stated
  pub place : Place
  pub rest : List ℕ
  pub splits : Splits longest bytes items place rest
  pub has_facts : all_facts items ≡ facts

-- and more bytes behind
pub first_more : (longest : ℕ) (bytes extra : List ℕ) (facts : List FactValue) → StatesFirst longest bytes facts
    → StatesFirst longest (bytes ++ extra) facts
first_more longest bytes extra facts first = record {
  items = first.items;
  place = first.place;
  rest = first.rest ++ extra;
  splits = Splits-more longest bytes extra first.items first.place first.rest first.splits;
  has_facts = first.has_facts;
}

module _ (longest : ℕ) (bytes : List ℕ) (header : Option Header) (all : List FactValue) (states : StatesSoFar longest bytes header all)
  where
    resume_sub_record : (items : List Stated) (place : Place) (rest : List ℕ) → Splits longest bytes items place rest
        → GoesOn longest place items states.place states.items
    resume_sub_record items place rest splits =
        items_go_on longest Start place states.place items states.items rest states.rest splits.each states.splits.each
        (sym splits.parts ∙ states.splits.parts) states.ends

    -- they are the first of all facts
    pub first_facts : (facts : List FactValue) → StatesFirst longest bytes facts → (others : List FactValue) × (all ≡ facts ++ others)
    first_facts facts first =
        let on = resume_sub_record first.items first.place first.rest first.splits in (
          all_facts on.behind,
          sym states.has_facts ∙ ap all_facts on.same ∙ all_facts-then first.items on.behind
              ∙ ap (λ (l : List FactValue). l ++ all_facts on.behind) first.has_facts,
        )

    -- a header that was read stays
    pub first_header : (items : List Stated) (place : Place) (rest : List ℕ) (one : Header) → Splits longest bytes items place rest
        → header_before place ≡ Some one → header ≡ Some one
    first_header items place rest one splits is =
        let on = resume_sub_record items place rest splits in
        sym states.has_header ∙ items_kept longest one place states.place on.behind on.are is

-- what a reader has read
pub read_first : (limits : Limits) (bytes : List ℕ) (facts : List FactValue) (reader : PartReader) → HasRead limits bytes facts reader
    → StatesFirst limits.max_item bytes facts
read_first limits bytes facts reader read = record {
  items = read.items;
  place = place_of reader.progress;
  rest = read.unfinished;
  splits = read.splits;
  has_facts = read.has_facts;
}

-- what the bytes state so far
pub states_first : (longest : ℕ) (bytes : List ℕ) (header : Option Header) (facts : List FactValue) → StatesSoFar longest bytes header facts
    → StatesFirst longest bytes facts
states_first longest bytes header facts states =
    record { items = states.items; place = states.place; rest = states.rest; splits = states.splits; has_facts = states.has_facts }
