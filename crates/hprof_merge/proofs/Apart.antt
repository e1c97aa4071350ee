-- Keys, one of which stands apart from the others.
use Rattle.std.proofs.Common.{◌≡◌, ◌≢◌, ◌<◌, ◌≤◌, ℕ, List, Bool, Option, Some, None, sym, ap, subst, ◌∙◌, inl, inr, arith, length, set}
use Rattle.std.proofs.Common.{cond}
use Rattle.std.proofs.lemmas.List.{get_or-set_same, get_or-set_other, length-set, ext_get_or}
use Rattle.std.proofs.lemmas.Bool.{cases_eq, cases_lt, lt-ltb, le-ltb}
use Rattle.hprof_merge.specs.Tree.{lesser_of}
use Rattle.hprof_merge.specs.Tree.{head_at}
use Rattle.hprof_merge.specs.Contest.{IsLeastHead}

-- the key that stands apart, with its place
abbrev pub own_of : ℕ → Option ℕ → Option (ℕ × ℕ)
own_of apart None = None
own_of apart (Some key) = Some (key, apart)

module _ (keys : List (Option ℕ)) (apart : ℕ) (out : head_at keys apart ≡ None) where
  here : (key : Option ℕ) → apart < length keys → head_at (set keys apart key) apart ≡ key
  here key lt = get_or-set_same keys apart key None lt

  there : (key : Option ℕ) (place : ℕ) → place ≢ apart → head_at (set keys apart key) place ≡ head_at keys place
  there key place off = get_or-set_other keys apart place key None off

  nothing_apart : set keys apart None ≡ keys
  nothing_apart =
      let long = length-set keys apart None in
      ext_get_or None (set keys apart None) keys long (λ place lt. elim (cases_eq place apart) [
        | inl e ↦
            let within : apart < length keys = omega (arith, lt, long, e) in
            ap (λ (p : ℕ). head_at (set keys apart None) p) e ∙ here None within ∙ sym out
            ∙ sym (ap (λ (p : ℕ). head_at keys p) e)
        | inr off ↦ there None place off
      ])

  -- a key is not at the place
  off_of : (place key : ℕ) → head_at keys place ≡ Some key → place ≢ apart
  off_of place key is e =
      let none : None ≡ Some key = sym out ∙ ap (λ (p : ℕ). head_at keys p) (sym e) ∙ is in
      cc

  module _ (key : ℕ) (within : apart < length keys) where
    all : ℕ
    all = length keys

    same_key : (place other : ℕ) → place ≡ apart → head_at (set keys apart (Some key)) place ≡ Some other → key ≡ other
    same_key place other e is =
        let both : Some key ≡ Some other =
        sym (here (Some key) within) ∙ ap (λ (p : ℕ). head_at (set keys apart (Some key)) p) (sym e) ∙ is in
        cc

    -- it is a least one, if it is below no other
    own_least : ((place other : ℕ) → head_at keys place ≡ Some other → key ≤ other)
        → IsLeastHead (set keys apart (Some key)) (Some (key, apart))
    own_least below =
        let long = length-set keys apart (Some key) in (
          omega (arith, within, long),
          here (Some key) within,
          λ place other is. elim (cases_eq place apart) [
            | inl e ↦ let one = same_key place other e is in omega arith
            | inr off ↦ below place other (sym (there (Some key) place off) ∙ is)
          ],
        )

    -- a lesser one is a least one
    other_least : (least : ℕ × ℕ) → IsLeastHead keys (Some least) → least.0 < key → IsLeastHead (set keys apart (Some key)) (Some least)
    other_least least is less =
        let long = length-set keys apart (Some key) in
        let lt = is.0 in (
          omega (arith, lt, long),
          there (Some key) least.1 (off_of least.1 least.0 is.1) ∙ is.1,
          λ place other at. elim (cases_eq place apart) [
            | inl e ↦ let one = same_key place other e at in omega arith
            | inr off ↦ is.2 place other (sym (there (Some key) place off) ∙ at)
          ],
        )

  -- the lesser one of it and of a least one of the others
  pub first_of : (key : Option ℕ) (least : Option (ℕ × ℕ)) → (key ≢ None → apart < length keys) → IsLeastHead keys least
      → IsLeastHead (set keys apart key) (lesser_of (own_of apart key) least)
  first_of None least within is = subst (λ (l : List (Option ℕ)). IsLeastHead l least) (sym nothing_apart) is
  first_of (Some key) None within is =
      own_least key (within (λ e. cc)) (λ place other at. let none : None ≡ Some other = sym (is place) ∙ at in absurd cc)
  first_of (Some key) (Some least) within is = elim (cases_lt least.0 key) [
    | inl less ↦
        let won : lesser_of (Some (key, apart)) (Some least) ≡ Some least =
        ap (λ (t : Bool). cond t (Some least) (Some (key, apart))) (lt-ltb least.0 key less) in
        subst (IsLeastHead (set keys apart (Some key))) (sym won) (other_least key (within (λ e. cc)) least is less)
    | inr le ↦
        let won : lesser_of (Some (key, apart)) (Some least) ≡ Some (key, apart) =
        ap (λ (t : Bool). cond t (Some least) (Some (key, apart))) (le-ltb least.0 key le) in
        subst (IsLeastHead (set keys apart (Some key))) (sym won)
        (own_least key (within (λ e. cc)) (λ place other at. let low = is.2 place other at in omega arith))
  ]

-- ---- changes

module _ (keys : List (Option ℕ)) (apart place : ℕ) (key : Option ℕ) (off : place ≢ apart) where
  -- a key that is put elsewhere
  pub put_elsewhere : (head : Option ℕ) → set (set keys place head) apart key ≡ set (set keys apart key) place head
  put_elsewhere head =
      let one = length-set (set keys place head) apart key in
      let two = length-set keys place head in
      let three = length-set (set keys apart key) place head in
      let four = length-set keys apart key in
      let apart_off : apart ≢ place = λ e. off (sym e) in
      ext_get_or None (set (set keys place head) apart key) (set (set keys apart key) place head) (one ∙ two ∙ sym (three ∙ four))
      (λ at lt. elim (cases_eq at apart) [
        | inl e ↦
            let within : apart < length (set keys place head) = omega (arith, lt, one, e) in
            let alike : apart < length keys = omega (arith, within, two) in
            ap (λ (p : ℕ). head_at (set (set keys place head) apart key) p) e
            ∙ get_or-set_same (set keys place head) apart key None within
            ∙ sym (ap (λ (p : ℕ). head_at (set (set keys apart key) place head) p) e
            ∙ get_or-set_other (set keys apart key) place apart head None apart_off ∙ get_or-set_same keys apart key None alike)
        | inr other ↦
            get_or-set_other (set keys place head) apart at key None other ∙ elim (cases_eq at place) [
              | inl e ↦
                  let alike : place < length keys = omega (arith, lt, one, two, e) in
                  let within : place < length (set keys apart key) = omega (arith, alike, four) in
                  ap (λ (p : ℕ). head_at (set keys place head) p) e ∙ get_or-set_same keys place head None alike
                  ∙ sym (ap (λ (p : ℕ). head_at (set (set keys apart key) place head) p) e
                  ∙ get_or-set_same (set keys apart key) place head None within)
              | inr away ↦
                  get_or-set_other keys place at head None away
                  ∙ sym (get_or-set_other (set keys apart key) place at head None away ∙ get_or-set_other keys apart at key None other)
            ]
      ])

-- a key that is put twice at a place
pub put_again : (keys : List (Option ℕ)) (place : ℕ) (one other : Option ℕ) → set (set keys place one) place other ≡ set keys place other
put_again keys place one other =
    let long = length-set (set keys place one) place other in
    let was = length-set keys place one in
    let now = length-set keys place other in
    ext_get_or None (set (set keys place one) place other) (set keys place other) (long ∙ was ∙ sym now)
    (λ at lt. elim (cases_eq at place) [
      | inl e ↦
          let within : place < length (set keys place one) = omega (arith, lt, long, e) in
          let alike : place < length keys = omega (arith, within, was) in
          ap (λ (p : ℕ). head_at (set (set keys place one) place other) p) e
          ∙ get_or-set_same (set keys place one) place other None within
          ∙ sym (ap (λ (p : ℕ). head_at (set keys place other) p) e ∙ get_or-set_same keys place other None alike)
      | inr off ↦
          get_or-set_other (set keys place one) place at other None off ∙ get_or-set_other keys place at one None off
          ∙ sym (get_or-set_other keys place at other None off)
    ])
