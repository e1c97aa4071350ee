-- A path has parts, and in one way.
use Rattle.std.specs.Prelude.{if◌then◌else◌}
use Rattle.std.proofs.Common.{◌≡◌, ◌≤◌, ◌<◌, ◌-◌, ℕ, ◌+◌, zero, suc, Bool, true, false, List, [], ◌∷◌, ◌++◌, length, refl, sym, ap, subst}
use Rattle.std.proofs.Common.{◌∙◌, arith, inl, inr}
use Rattle.std.proofs.lemmas.List.{length-append}
use Rattle.std.proofs.lemmas.Bool.{cases_lt}
use Rattle.hprof_why.specs.Folding.{AreParts, IsFront, Link, NoPart, One, OnePart, Part, Stretch, alike_at_front, is_alike, kind_behind}
use Rattle.hprof_why.specs.Folding.{links_of, run_at_front}
use Rattle.hprof_why.proofs.Fronting.{first_part, no_parts, same_split}

-- ---- there are parts

-- no more links are alike than there are
alike_at_most : (step_kind node_kind : List ℕ) (links : List Link) → alike_at_front step_kind node_kind links ≤ length links
unfolding alike_at_front
alike_at_most step_kind node_kind [] = omega arith
alike_at_most step_kind node_kind (link ∷ links) = by (is_alike step_kind node_kind link) (alike_at_most step_kind node_kind links) where
  by : (b : Bool) → alike_at_front step_kind node_kind links ≤ length links
      → (if b then alike_at_front step_kind node_kind links + 1 else 0) ≤ length (link ∷ links)
  by true more = omega (arith, more)
  by false more = omega arith

record Cut (n : ℕ) (links : List Link) : Type 0 where
  pub front : List Link
  pub last : Link
  pub rest : List Link
  pub links_are : links ≡ (front ++ last ∷ []) ++ rest
  pub counted : length front ≡ n

cut : (n : ℕ) (links : List Link) → n < length links → Cut n links
cut n [] below = absurd (omega (arith, below))
cut zero (link ∷ links) below = record { front = []; last = link; rest = links; links_are = refl; counted = refl }
cut (suc n) (link ∷ links) below =
    let more = cut n links (omega (arith, below)) in
    let counted = more.counted in
    record {
      front = link ∷ more.front;
      last = more.last;
      rest = more.rest;
      links_are = ap (λ (l : List Link). link ∷ l) more.links_are;
      counted = omega arith;
    }

parts_within : (most : ℕ) (kind : List ℕ) (links : List Link) → length links ≤ most → (parts : List Part) × AreParts kind links parts
parts_within most kind [] below = ([], NoPart kind)
parts_within zero kind (link ∷ links) below = absurd (omega (arith, below))
parts_within (suc most) kind (link ∷ links) below = elim (cases_lt (run_at_front kind (link ∷ links)) 4) [
  | inl few ↦
      let more = parts_within most link.node_kind links (omega (arith, below)) in
      (One link ∷ more.0, OnePart kind (One link) links more.0 (omega (arith, few)) more.1)
  | inr many ↦
      let at_most = alike_at_most link.step_kind kind (link ∷ links) in
      let run = run_at_front kind (link ∷ links) in
      let it = cut (run - 2) links (omega (arith, many, at_most)) in
      let part = Stretch link it.front it.last in
      let all : link ∷ links ≡ links_of part ++ it.rest = ap (λ (l : List Link). link ∷ l) it.links_are in
      let long = ap (length {A = Link}) it.links_are in
      let both = length-append (it.front ++ it.last ∷ []) it.rest in
      let more = parts_within most (kind_behind kind (links_of part)) it.rest (omega (arith, below, long, both)) in
      let same = ap (run_at_front kind) all in
      let counted = it.counted in (
        part ∷ more.0,
        subst (λ (l : List Link). AreParts kind l (part ∷ more.0)) (sym all)
            (OnePart kind part it.rest more.0 (omega (arith, many, same), omega (arith, many, same, counted)) more.1),
      )
]

pub parts_exist : (kind : List ℕ) (links : List Link) → (parts : List Part) × AreParts kind links parts
parts_exist kind links = parts_within (length links) kind links (omega arith)

-- ---- and no others

some_link : (part : Part) (rest : List Link) → (link : Link) × (left : List Link) × (links_of part ++ rest ≡ link ∷ left)
some_link (One link) rest = (link, rest, refl)
some_link (Stretch first between last) rest = (first, (between ++ last ∷ []) ++ rest, refl)

same_part : (kind : List ℕ) (links : List Link) (one other : Part) (rest more : List Link) → IsFront kind links one
    → IsFront kind links other
    → links_of one ++ rest ≡ links_of other ++ more → (one ≡ other) × (rest ≡ more)
same_part kind links (One one) (One other) rest more is too same =
    let head : one ≡ other = cc in
    let tail : rest ≡ more = cc in
    (ap One head, tail)
same_part kind links (One one) (Stretch first between last) rest more is too same = absurd (let many = too.0 in omega (arith, is, many))
same_part kind links (Stretch first between last) (One other) rest more is too same = absurd (let many = is.0 in omega (arith, too, many))
same_part kind links (Stretch first between last) (Stretch start within end) rest more is too same =
    let one = is.1 in
    let other = too.1 in
    let one_long = length-append between (last ∷ []) in
    let other_long = length-append within (end ∷ []) in
    let split = same_split (first ∷ between ++ last ∷ []) (start ∷ within ++ end ∷ []) rest more
    (omega (arith, one, other, one_long, other_long)) same in
    let firsts = split.0 in
    let head : first ≡ start = cc in
    let tail : between ++ last ∷ [] ≡ within ++ end ∷ [] = cc in
    let inner = same_split between within (last ∷ []) (end ∷ []) (omega (arith, one, other)) tail in
    let ends = inner.1 in
    let last_is : last ≡ end = cc in
    ((λ i. Stretch (head i) (inner.0 i) (last_is i)), split.1)

pub parts_once : (kind : List ℕ) (links : List Link) (parts others : List Part) → AreParts kind links parts → AreParts kind links others
    → parts ≡ others
parts_once _ _ _ others (NoPart kind) too = sym (no_parts kind [] others too refl)
parts_once _ _ _ others (OnePart kind part rest parts is more) too =
    let some = some_link part rest in
    let first = first_part kind (links_of part ++ rest) others too some.0 some.1 some.2 in
    let same = same_part kind (links_of part ++ rest) part first.part rest first.rest is first.is_front first.links_are in
    let left = parts_once (kind_behind kind (links_of part)) rest parts first.others more
    (subst (λ (p : Part). AreParts (kind_behind kind (links_of p)) rest first.others) (sym same.0)
    (subst (λ (l : List Link). AreParts (kind_behind kind (links_of first.part)) l first.others) (sym same.1) first.are_others)) in
    (λ i. same.0 i ∷ left i) ∙ sym first.parts_are
