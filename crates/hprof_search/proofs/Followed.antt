-- What is found where steps are followed, and then more steps.
use Rattle.std.proofs.Common.{◌≡◌, ◌⊎◌, ◌↔◌, ◌<◌, ◌≤◌, ◌++◌, ℕ, Bool, true, false, List, [], Contains, length, slice_index, inl, inr, refl}
use Rattle.std.proofs.Common.{sym, ap, subst, ◌∙◌, arith, append_assoc, append-nil}
use Rattle.std.proofs.lemmas.List.{get_or_past}
use Rattle.hprof_numbers.proofs.Places.{splits}
use Rattle.hprof_search.specs.Finds.{Finds, Follows, IsLeastLed, is_found}

pub true_or_false : (b : Bool) → (b ≡ true) ⊎ (b ≡ false)
true_or_false true = inl refl
true_or_false false = inr refl

pub found_within : (finds : Finds) (number : ℕ) → is_found finds number ≡ true → number < length finds.found
found_within finds number found = elim (splits number (length finds.found)) [
  | inl below ↦ below
  | inr beyond ↦ let none = get_or_past finds.found number false beyond in absurd (cc)
]

-- nothing is led to
pub follows_none : (Led : ℕ → ℕ → Type 0) (finds : Finds) → ((from number : ℕ) → Led from number → ⊥) → Follows Led finds finds
follows_none Led finds none = record {
  as_many = refl;
  stays = λ number found. (found, refl);
  came = λ number not_found found. absurd (cc);
  all = λ from number below led. absurd (none from number led);
  next = λ number. (
    λ has. inl has,
    λ either. elim either [ inl has ↦ has | inr both ↦ let no = both.0 in let yes = both.1 in absurd (cc) ],
  );
  order = ([], sym (append-nil finds.order), sym (append-nil finds.next));
  counted = refl;
}

-- the same is led to
pub follows_same : (Led Same : ℕ → ℕ → Type 0) (old new : Finds)
    → ((from number : ℕ) → number < length old.found → Led from number ↔ Same from number) → Follows Led old new → Follows Same old new
follows_same Led Same old new same follows =
    let many = follows.as_many in record {
      as_many = follows.as_many;
      stays = follows.stays;
      came = λ number not_found found.
          let below = found_within new number found in
          let is = follows.came number not_found found in
          record {
            led = (same _ number (omega arith)).0 is.led;
            least =
                λ other led. is.least other ((same other number (omega arith)).1 led);
          };
      all = λ from number below led. follows.all from number below ((same from number below).1 led);
      next = follows.next;
      order = follows.order;
      counted = follows.counted;
    }

module _ (First Then : ℕ → ℕ → Type 0) (old middle new : Finds) (first : Follows First old middle) (second : Follows Then middle new)
    (order : (one other number : ℕ) → First one number → Then other number → one ≤ other) where
  abbrev Both : ℕ → ℕ → Type 0
  Both from number = First from number ⊎ Then from number

  stays_too : (number : ℕ) → is_found old number ≡ true → is_found new number ≡ true
  stays_too number found = (second.stays number (first.stays number found).0).0

  came_too : (number : ℕ) → is_found old number ≡ false → is_found new number ≡ true
      → IsLeastLed Both (slice_index new.before number) number
  came_too number not_found found = elim (true_or_false (is_found middle number)) [
    | inl was ↦
        let is = first.came number not_found was in
        let same = (second.stays number was).1 in
        subst (λ (from : ℕ). IsLeastLed Both from number) (sym same) (record {
          led = inl is.led;
          least = λ other led. elim led [ inl early ↦ is.least other early | inr late ↦ order _ other number is.led late ];
        })
    | inr not ↦
        let is = second.came number not found in
        let below = found_within new number found in
        let many = first.as_many in
        let more = second.as_many in
        record {
          led = inr is.led;
          least = λ other led. elim led [
            | inl early ↦ let wrong = first.all other number (omega arith) early in absurd (cc)
            | inr late ↦ is.least other late
          ];
        }
  ]

  next_to : (number : ℕ) → Contains new.next number → Contains old.next number
      ⊎ ((is_found old number ≡ false) × (is_found new number ≡ true))
  next_to number has = elim ((second.next number).0 has) [
    | inl earlier ↦ elim ((first.next number).0 earlier) [
      | inl was ↦ inl was
      | inr came ↦ inr (came.0, (second.stays number came.1).0)
    ]
    | inr came ↦ elim (true_or_false (is_found old number)) [
      | inl was ↦ let wrong = (first.stays number was).0 in let no = came.0 in absurd (cc)
      | inr not ↦ inr (not, came.1)
    ]
  ]

  next_from : (number : ℕ) → Contains old.next number ⊎ ((is_found old number ≡ false) × (is_found new number ≡ true))
      → Contains new.next number
  next_from number either = elim either [
    | inl was ↦ (second.next number).1 (inl ((first.next number).1 (inl was)))
    | inr came ↦ elim (true_or_false (is_found middle number)) [
      | inl early ↦ (second.next number).1 (inl ((first.next number).1 (inr (came.0, early))))
      | inr not ↦ (second.next number).1 (inr (not, came.1))
    ]
  ]

  order_both : (came : List ℕ) × (new.order ≡ old.order ++ came) × (new.next ≡ old.next ++ came)
  order_both =
      let early = first.order in
      let late = second.order in (
        early.0 ++ late.0,
        late.1 ∙ ap (λ (ns : List ℕ). ns ++ late.0) early.1 ∙ append_assoc old.order early.0 late.0,
        late.2 ∙ ap (λ (ns : List ℕ). ns ++ late.0) early.2 ∙ append_assoc old.next early.0 late.0,
      )

  -- the ones and then the others, which are no less
  pub follows_both : Follows Both old new
  follows_both =
      let many = first.as_many in
      let more = second.as_many in record {
        as_many = second.as_many ∙ first.as_many;
        stays = λ number found. (
          stays_too number found,
          (second.stays number (first.stays number found).0).1 ∙ (first.stays number found).1,
        );
        came = came_too;
        all = λ from number below led. elim led [
          | inl early ↦ (second.stays number (first.all from number below early)).0
          | inr late ↦ second.all from number (omega arith) late
        ];
        next = λ number. (next_to number, next_from number);
        order = order_both;
        counted = second.counted ∙ first.counted;
      }
