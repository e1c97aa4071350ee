-- Items at the front of the same bytes: those of one list begin the other.
use Rattle.std.proofs.Common.{◌≡◌, ◌⊎◌, ℕ, List, [], ◌∷◌, ◌++◌, Option, Some, None, inl, inr, refl, sym, ap, subst, ◌∙◌, append_assoc}
use Rattle.hprof_values.specs.declared.ids.IdSize.{IdSize}
use Rattle.hprof_items.specs.declared.header.Header.{Header}
use Rattle.hprof_items.specs.FactValue.{FactValue}
use Rattle.hprof_stream.specs.Part.{Stated, all_bytes, all_facts}
use Rattle.hprof_stream.specs.Item.{AreItems, Place, Start, header_before, more, none}
use Rattle.hprof_stream.specs.Walking.{IsBegun}
use Rattle.hprof_stream.proofs.Faults.{item_once}
use Rattle.hprof_stream.proofs.ItemLists.{all_facts-then, items_at_start, items_kept}
use Rattle.hprof_facts.specs.Sizes.{StatesUnder}

-- the others are these items and more
record GoesOn (longest : ℕ) (to : Place) (items : List Stated) (end : Place) (others : List Stated) : Type 0 where
  behind : List Stated
  are : AreItems longest to behind end
  same : others ≡ items ++ behind

items_go_on : (longest : ℕ) (from to end : Place) (items others : List Stated) (rest left : List ℕ) → AreItems longest from items to
    → AreItems longest from others end → all_bytes items ++ rest ≡ all_bytes others ++ left
    → GoesOn longest to items end others ⊎ GoesOn longest end others to items
items_go_on longest from to end items others rest left none second e = inl (record { behind = others; are = second; same = refl })
items_go_on longest from to end items others rest left (more {mid = mid} {one = one} {items = behind} first next) none e =
    inr (record { behind = one ∷ behind; are = more {mid = mid} first next; same = refl })
items_go_on longest from to end items others rest left (more {mid = mid} {one = one} {items = behind} first next)
    (more {mid = mid_too} {one = two} {items = behind_too} first_too next_too) e =
    let same = item_once longest from mid mid_too one two (all_bytes behind ++ rest) (all_bytes behind_too ++ left) first first_too
    (sym (append_assoc one.bytes (all_bytes behind) rest) ∙ e ∙ append_assoc two.bytes (all_bytes behind_too) left) in
    with_first one two same.1 (items_go_on longest mid to end behind behind_too rest left next
    (subst (λ (p : Place). AreItems longest p behind_too end) (sym same.0) next_too) same.2)
  where
    with_first : (one two : Stated) → one ≡ two → {behind behind_too : List Stated}
        → GoesOn longest to behind end behind_too ⊎ GoesOn longest end behind_too to behind
        → GoesOn longest to (one ∷ behind) end (two ∷ behind_too) ⊎ GoesOn longest end (two ∷ behind_too) to (one ∷ behind)
    with_first one two same {behind = behind} {behind_too = behind_too} (inl later) = inl (record {
      behind = later.behind;
      are = later.are;
      same = ap (λ (s : Stated). s ∷ behind_too) (sym same) ∙ ap (λ (l : List Stated). one ∷ l) later.same;
    })
    with_first one two same {behind = behind} {behind_too = behind_too} (inr later) = inr (record {
      behind = later.behind;
      are = later.are;
      same = ap (λ (s : Stated). s ∷ behind) same ∙ ap (λ (l : List Stated). two ∷ l) later.same;
    })

module _ (longest : ℕ) (bytes : List ℕ) (facts others : List FactValue) (begun begun_too : Option IdSize)
    (one : StatesUnder longest bytes facts begun) (two : StatesUnder longest bytes others begun_too) where
  compared : GoesOn longest one.place one.items two.place two.items ⊎ GoesOn longest two.place two.items one.place one.items
  compared = items_go_on longest Start one.place two.place one.items two.items one.rest two.rest one.splits.each two.splits.each
      (sym one.splits.parts ∙ two.splits.parts)

  -- what they state
  pub facts_go_on : ((more : List FactValue) × (others ≡ facts ++ more)) ⊎ ((more : List FactValue) × (facts ≡ others ++ more))
  facts_go_on = elim compared [
    | inl on ↦
        inl (
          all_facts on.behind,
          sym two.has_facts ∙ ap all_facts on.same ∙ all_facts-then one.items on.behind
              ∙ ap (λ (l : List FactValue). l ++ all_facts on.behind) one.has_facts,
        )
    | inr on ↦
        inr (
          all_facts on.behind,
          sym one.has_facts ∙ ap all_facts on.same ∙ all_facts-then two.items on.behind
              ∙ ap (λ (l : List FactValue). l ++ all_facts on.behind) two.has_facts,
        )
  ]

  -- they have one header
  one_header : (header header_too : Header) → header_before one.place ≡ Some header → header_before two.place ≡ Some header_too
      → header ≡ header_too
  one_header header header_too is is_too = elim compared [
    | inl on ↦ let kept = items_kept longest header one.place two.place on.behind on.are is in cc
    | inr on ↦ let kept = items_kept longest header_too two.place one.place on.behind on.are is_too in cc
  ]

-- the header of bytes that state facts, and the size that was begun
header_of_some : (longest : ℕ) (bytes : List ℕ) (facts : List FactValue) (begun : Option IdSize)
    (under : StatesUnder longest bytes facts begun) → (facts ≡ [] → ⊥)
    → (header : Header) × (header_before under.place ≡ Some header) × (begun ≡ Some header.ids)
header_of_some longest bytes facts begun under some = by (header_before under.place) refl under.has_size
  where
    by : (told : Option Header) → header_before under.place ≡ told → IsBegun told begun
        → (header : Header) × (header_before under.place ≡ Some header) × (begun ≡ Some header.ids)
    by None is begins =
        let nothing = items_at_start longest Start under.place under.items under.splits.each is in
        absurd (some (sym under.has_facts ∙ ap all_facts nothing.1))
    by (Some header) is begins = (header, is, begins)

-- facts at the front of the same bytes are of one size
pub one_size : (longest : ℕ) (bytes : List ℕ) (facts others : List FactValue) (begun begun_too : Option IdSize)
    → StatesUnder longest bytes facts begun → StatesUnder longest bytes others begun_too → (facts ≡ [] → ⊥) → (others ≡ [] → ⊥)
    → begun ≡ begun_too
one_size longest bytes facts others begun begun_too one two some some_too =
    let first = header_of_some longest bytes facts begun one some in
    let second = header_of_some longest bytes others begun_too two some_too in
    let same = one_header longest bytes facts others begun begun_too one two first.0 second.0 first.1 second.1 in
    first.2 ∙ ap (λ (h : Header). Some h.ids) same ∙ sym second.2
