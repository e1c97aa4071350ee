-- Sub-records are divided among segments in one way.
use Rattle.std.proofs.Common.{◌≡◌, ℕ, ◌+◌, ◌≤◌, ◌<◌, leb, List, [], ◌∷◌, ◌++◌, refl, sym, ap, subst, ◌∙◌, append_assoc, arith}
use Rattle.std.specs.Prelude.{sum_by}
use Rattle.std.specs.List.{AllByRecursion, flat_map}
use Rattle.std.proofs.lemmas.Bool.{leb-true, leb-false, cond_both}
use Rattle.std.proofs.lemmas.List.Sums.{sum_by-append, sum_by-cons}
use Rattle.hprof_dump.specs.Segments.{IsSegment, AreFull, IsPacked, packed_behind, packed}

-- two fronts of one list: they are the same, or one goes on behind the other
pub data Fronts {A : Type 0} (front other rest left : List A) : Type 0 where
  same : front ≡ other → rest ≡ left → Fronts front other rest left
  shorter : (next : A) (more : List A) → other ≡ front ++ next ∷ more → rest ≡ next ∷ (more ++ left) → Fronts front other rest left
  longer : (next : A) (more : List A) → front ≡ other ++ next ∷ more → left ≡ next ∷ (more ++ rest) → Fronts front other rest left

fronts : {A : Type 0} (front other rest left : List A) → front ++ rest ≡ other ++ left → Fronts front other rest left
fronts [] [] rest left e = same refl e
fronts [] (y ∷ other) rest left e = shorter y other refl e
fronts (x ∷ front) [] rest left e = longer x front refl (sym e)
fronts (x ∷ front) (y ∷ other) rest left e =
    let first : x ≡ y = cc in
    let behind : front ++ rest ≡ other ++ left = cc in
    elim (fronts front other rest left behind) [
      | same f r ↦ same (cc) r
      | shorter next more f r ↦ shorter next more (ap (λ (l : List _). y ∷ l) f ∙ ap (λ z. z ∷ (front ++ next ∷ more)) (sym first)) r
      | longer next more f r ↦ longer next more (ap (λ (l : List _). x ∷ l) f ∙ ap (λ z. z ∷ (other ++ next ∷ more)) first) r
    ]

module _ {A : Type 0} (size : A → ℕ) (most : ℕ) where
  -- a segment of more than one is no longer than the most
  long_segment : (segment more : List A) (next : A) → IsSegment size most segment → IsSegment size most (segment ++ next ∷ more)
      → sum_by size (segment ++ next ∷ more) ≤ most
  long_segment [] more next is long = absurd is
  long_segment (only ∷ []) more next is long = long
  long_segment (first ∷ second ∷ others) more next is long = long

  -- what is no longer than the most is a segment, where something stands before one more
  segment_more : (segment : List A) (next : A) → IsSegment size most segment → sum_by size segment + size next ≤ most
      → IsSegment size most (segment ++ next ∷ [])
  segment_more [] next is fits = absurd is
  segment_more (only ∷ []) next is fits = omega (arith, fits, sum_by-append size (only ∷ []) (next ∷ []))
  segment_more (first ∷ second ∷ others) next is fits = omega (arith, fits, sum_by-append size (first ∷ second ∷ others) (next ∷ []))

  -- ---- one way

  -- a segment does not end where a longer one does not
  not_shorter : (segment other : List A) (segments : List (List A)) (next : A) (more left : List A) → IsSegment size most segment
      → IsSegment size most other → AllByRecursion (IsSegment size most) segments
      → AreFull size most (segment ∷ segments) → other ≡ segment ++ next ∷ more → flat_map (λ s. s) segments ≡ next ∷ (more ++ left) → ⊥
  not_shorter segment other [] next more left is is_other each full front rest = cc
  not_shorter segment other ([] ∷ segments) next more left is is_other each full front rest = each.0
  not_shorter segment other ((first ∷ others) ∷ segments) next more left is is_other each full front rest =
      let here : first ≡ next = cc in
      let fits = long_segment segment more next is (subst (IsSegment size most) front is_other) in
      absurd (omega (arith, full.0, fits, sum_by-append size segment (next ∷ more), sum_by-cons size next more, ap size here))

  full_behind : (segment : List A) (segments : List (List A)) → AreFull size most (segment ∷ segments) → AreFull size most segments
  full_behind segment [] full = tt
  full_behind segment (next ∷ segments) full = full.1

  once : (segments others : List (List A)) → flat_map (λ s. s) segments ≡ flat_map (λ s. s) others
      → AllByRecursion (IsSegment size most) segments → AllByRecursion (IsSegment size most) others
      → AreFull size most segments → AreFull size most others → segments ≡ others
  once [] [] e each each_too full full_too = refl
  once [] ([] ∷ others) e each each_too full full_too = absurd each_too.0
  once [] ((first ∷ other) ∷ others) e each each_too full full_too = absurd cc
  once ([] ∷ segments) [] e each each_too full full_too = absurd each.0
  once ((first ∷ segment) ∷ segments) [] e each each_too full full_too = absurd cc
  once (segment ∷ segments) (other ∷ others) e each each_too full full_too =
      elim (fronts segment other (flat_map (λ s. s) segments) (flat_map (λ s. s) others) e) [
        | same front rest ↦
            let behind = once segments others rest each.1 each_too.1 (full_behind segment segments full)
            (full_behind other others full_too) in
            cc
        | shorter next more front rest ↦ absurd (not_shorter segment other segments next more (flat_map (λ s. s) others) each.0
            each_too.0 each.1 full front rest)
        | longer next more front rest ↦ absurd (not_shorter other segment others next more (flat_map (λ s. s) segments) each_too.0
            each.0 each_too.1 full_too front rest)
      ]

  pub packed_once : (subs : List A) (segments others : List (List A)) → IsPacked size most subs segments
      → IsPacked size most subs others → segments ≡ others
  packed_once subs segments others is is_too = once segments others (is.in_order ∙ sym is_too.in_order) is.each is_too.each is.full
      is_too.full

  -- ---- and this is it

  -- a division of what stands behind a segment's first sub-record begins with that
  abbrev Begins : A → List (List A) → Type 0
  Begins first [] = ⊥
  Begins first ([] ∷ segments) = ⊥
  Begins first ((one ∷ others) ∷ segments) = one ≡ first

  begins : (first : A) (begun subs : List A) → Begins first (packed_behind size most (first ∷ begun) subs)
  begins first begun [] = refl
  begins first begun (next ∷ subs) =
      cond_both (leb (sum_by size (first ∷ begun) + size next) most) (packed_behind size most ((first ∷ begun) ++ next ∷ []) subs)
      ((first ∷ begun) ∷ packed_behind size most (next ∷ []) subs) (Begins first)
      (λ t. begins first (begun ++ next ∷ []) subs) (λ f. refl)

  full_more : (segment : List A) (next : A) (segments : List (List A)) → most < sum_by size segment + size next → Begins next segments
      → AreFull size most segments → AreFull size most (segment ∷ segments)
  full_more segment next [] over begins_so full = absurd begins_so
  full_more segment next ([] ∷ segments) over begins_so full = absurd begins_so
  full_more segment next ((one ∷ others) ∷ segments) over begins_so full = (omega (arith, over, ap size begins_so), full)

  behind_is : (begun subs : List A) → IsSegment size most begun → IsPacked size most (begun ++ subs) (packed_behind size most begun subs)
  behind_is begun [] is = record { in_order = refl; each = (is, tt); full = tt }
  behind_is begun (next ∷ subs) is =
      cond_both (leb (sum_by size begun + size next) most) (packed_behind size most (begun ++ next ∷ []) subs)
      (begun ∷ packed_behind size most (next ∷ []) subs) (IsPacked size most (begun ++ next ∷ subs))
      (λ t. subst (λ (l : List A). IsPacked size most l (packed_behind size most (begun ++ next ∷ []) subs))
      (append_assoc begun (next ∷ []) subs)
      (behind_is (begun ++ next ∷ []) subs (segment_more begun next is (leb-true _ _ t))))
      (λ f.
      let rest = behind_is (next ∷ []) subs tt in
      record {
        in_order = ap (λ (l : List A). begun ++ l) rest.in_order;
        each = (is, rest.each);
        full = full_more begun next (packed_behind size most (next ∷ []) subs) (leb-false _ _ f) (begins next [] subs) rest.full;
      })

  pub packed_is : (subs : List A) → IsPacked size most subs (packed size most subs)
  packed_is [] = record { in_order = refl; each = tt; full = tt }
  packed_is (first ∷ subs) = behind_is (first ∷ []) subs tt
