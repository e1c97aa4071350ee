-- What is held of an item, and how far it was walked.
use Rattle.std.proofs.Common.{◌≡◌, ℕ, zero, suc, ◌+◌, ◌-◌, ◌<◌, ◌≤◌, ◌⊎◌, inl, inr, Bool, true, false, cond, List, [], ◌∷◌, ◌++◌}
use Rattle.std.proofs.Common.{length, take, drop, Option, Some, None, OnOk, is_some, Ok, Err, refl, sym, ap, subst, ◌∙◌}
use Rattle.std.proofs.Common.{append_assoc, append-nil, take-append-drop, arith}
use Rattle.std.proofs.lemmas.Bool.{eqb-true}
use Rattle.std.proofs.lemmas.List.{length-append, nil_from_length}
use Rattle.hprof_values.specs.Ids.{IsBytes}
use Rattle.hprof_values.specs.FieldGroups.{Bounds, with_more}
use Rattle.hprof_values.specs.declared.ids.IdSize.{IdSize}
use Rattle.hprof_values.specs.declared.parse_stop.ParseStop.{ParseStop}
use Rattle.hprof_values.specs.declared.parse_stop.ParseStop.TheVariants as stops
use Rattle.hprof_items.specs.declared.header.Header.{Header}
use Rattle.hprof_items.specs.declared.head.Head.{Head}
use Rattle.hprof_items.specs.declared.walk.Walk.{Walk}
use Rattle.hprof_items.specs.declared.walk.Walk.TheVariants.{Front, Entries}
use Rattle.hprof_items.specs.FactValue.{FactValue}
use Rattle.hprof_items.specs.Head.{head_bytes, kind_of}
use Rattle.hprof_items.specs.Reading.{head_at}
use Rattle.hprof_items.specs.SubReading.{bounds_within}
use Rattle.hprof_items.specs.SubRecord.{sub_at}
use Rattle.hprof_items.specs.Walk.{walked, end_of_read, IsPlaced}
use Rattle.hprof_values.specs.declared.bounded_bytes.BoundedBytes.{BoundedBytes}
use Rattle.std.specs.Prelude.{Result, ◌==◌}
use Rattle.hprof_stream.specs.declared.rest.Passing.{Passing}
use Rattle.hprof_stream.specs.declared.rest.Rest.{Rest}
use Rattle.hprof_stream.specs.Item.{Place, Start, Between, Within, found_sub, place_behind, is_skipped_kind}
use Rattle.hprof_stream.specs.Item.{is_skipped_head, is_passed_over, held_of, item_at}
use Rattle.hprof_stream.specs.Rest.{passing_by, passing_of, walk_at, IsWalked, IsWalkOf, IsRest}
use Rattle.hprof_stream.proofs.Rests.{passed_of, passed_none_held, passed_walk, held_none, passing_none, IsBytes-append}

-- ---- how far a sub-record was walked

-- with more bytes it was walked as far
IsWalked-more : (ids : IdSize) (room longest : ℕ) (bytes more : List ℕ) (walk : Walk) → IsWalked ids room longest bytes walk
    → IsWalked ids room longest (bytes ++ more) walk
IsWalked-more ids room longest bytes more walk is = record {
  placed = omega (arith, is.placed, length-append bytes more);
  same = λ extra. subst (λ (b : List ℕ). walked ids (bounds_within room longest b) b walk ≡ walked ids (bounds_within room longest b) b
      Front)
      (sym (append_assoc bytes more extra)) (is.same (more ++ extra));
}

pub IsWalkOf-more : (longest : ℕ) (place : Place) (bytes more : List ℕ) (walk : Walk) → IsWalkOf longest place bytes walk
    → IsWalkOf longest place (bytes ++ more) walk
IsWalkOf-more longest Start bytes more walk is = tt
IsWalkOf-more longest (Between header) bytes more walk is = tt
IsWalkOf-more longest (Within header room) bytes more walk is = IsWalked-more header.ids room longest bytes more walk is

-- none was walked yet
pub IsWalkOf-front : (longest : ℕ) (place : Place) (bytes : List ℕ) → IsWalkOf longest place bytes Front
IsWalkOf-front longest Start bytes = tt
IsWalkOf-front longest (Between header) bytes = tt
IsWalkOf-front longest (Within header room) bytes = record { placed = omega arith; same = λ more. refl }

no_end : (read : Result (FactValue × ℕ) ParseStop) (stop : ParseStop) → end_of_read read ≡ Err stop → read ≡ Err stop
no_end (Ok one) stop e = absurd cc
no_end (Err other) stop e = cc

-- where a walk goes on from another, it is of the same bytes; and where it wants more bytes, so does the item
module _ (longest : ℕ) (header : Header) (room : ℕ) (bytes : List ℕ) (from : Walk)
    (is : IsWalkOf longest (Within header room) bytes from) where
  pub IsWalkOf-on : (to : Walk) → walk_at to ≤ length bytes
      → ((more : List ℕ) → walked header.ids (with_more (bounds_within room longest bytes) (length more)) (bytes ++ more) to
      ≡ walked header.ids (with_more (bounds_within room longest bytes) (length more)) (bytes ++ more) from)
      → IsWalkOf longest (Within header room) bytes to
  IsWalkOf-on to placed on =
      let bounds : ℕ → Bounds = λ there. record { room = room; longest = longest; there = there } in
      record {
        placed = placed;
        same = λ more. subst (λ (n : ℕ). walked header.ids (bounds n) (bytes ++ more) to ≡ walked header.ids (bounds n) (bytes ++ more)
            from)
            (sym (length-append bytes more)) (on more) ∙ is.same more;
      }

  pub walked_short : walked header.ids (bounds_within room longest bytes) bytes from ≡ Err stops.Short
      → item_at longest (Within header room) bytes ≡ Err stops.Short
  unfolding walked item_at
  walked_short e =
      let whole : end_of_read (sub_at header.ids (bounds_within room longest bytes) bytes) ≡ Err stops.Short =
      sym (subst (λ (b : List ℕ). walked header.ids (bounds_within room longest b) b from
      ≡ walked header.ids (bounds_within room longest b) b Front) (append-nil bytes) (is.same [])) ∙ e in
      ap (found_sub header room) (no_end (sub_at header.ids (bounds_within room longest bytes) bytes) stops.Short whole)

-- it was walked no further than its bytes
pub placed_at : (item : BoundedBytes) (walk : Walk) → IsPlaced item walk → walk_at walk ≤ length item.bytes.now
placed_at item Front placed = omega arith
placed_at item (Entries kind left at) placed = placed

pub some_room : (room : ℕ) → (room ≡ 0 → ⊥) → 0 < room
some_room zero never = absurd (never refl)
some_room (suc room) never = omega arith

-- within a heap dump record
pub place_within : (before : Option Header) (room : ℕ) (header : Header) → before ≡ Some header → 0 < room
    → place_behind before room ≡ Within header room
place_within None room header e some = absurd cc
place_within (Some h) zero header e some = absurd (omega (arith, some))
place_within (Some h) (suc room) header e some = cc

-- the head of a record is there
pub head_there : (tag time len : ℕ) (bytes rest : List ℕ) → bytes ≡ head_bytes tag time len ++ rest → 9 ≤ length bytes
head_there tag time len bytes rest e =
    let nine : length (head_bytes tag time len) ≡ 9 = refl in
    omega (arith, nine, ap length e, length-append (head_bytes tag time len) rest)

-- ---- what is held

held_if : (test : Bool) (bytes : List ℕ) → 0 < length (cond test [] bytes) → cond test [] bytes ≡ bytes
held_if true bytes some = absurd (omega (arith, some))
held_if false bytes some = refl

-- of what something is held, all is
pub all_held : (longest : ℕ) (place : Place) (bytes : List ℕ) → 0 < length (held_of longest place bytes) → held_of longest place bytes
    ≡ bytes
all_held longest place bytes some = held_if (is_passed_over longest place bytes) bytes some

not_passing : (test : Bool) (bytes : List ℕ) (passing : Passing) → 0 < length (cond test [] bytes) → cond test (Some passing) None ≡ None
not_passing true bytes passing some = absurd (omega (arith, some))
not_passing false bytes passing some = refl

none_by : (step : Result (Head × ℕ) ParseStop) (bytes : List ℕ) → 0 < length (cond (is_skipped_head step) [] bytes)
    → passing_by step (length bytes) ≡ None
none_by (Ok (head, n)) bytes some = not_passing (is_skipped_kind (kind_of head.tag)) bytes (record {
  seen = length bytes;
  left =
      9 + head.length - length bytes;
}) some
none_by (Err stop) bytes some = refl

-- and it is not passed over
pub held_not_passing : (longest : ℕ) (place : Place) (bytes : List ℕ) → 0 < length (held_of longest place bytes)
    → passing_of longest place bytes ≡ None
held_not_passing longest Start bytes some = refl
held_not_passing longest (Between header) bytes some = none_by (head_at header.ids longest bytes) bytes some
held_not_passing longest (Within header room) bytes some = refl

held_unless : (test : Bool) (bytes : List ℕ) (passing : Passing) → cond test (Some passing) None ≡ None → cond test [] bytes ≡ bytes
held_unless true bytes passing e = absurd cc
held_unless false bytes passing e = refl

held_by : (step : Result (Head × ℕ) ParseStop) (bytes : List ℕ) → passing_by step (length bytes) ≡ None
    → cond (is_skipped_head step) [] bytes ≡ bytes
held_by (Ok (head, n)) bytes e = held_unless (is_skipped_kind (kind_of head.tag)) bytes (record {
  seen = length bytes;
  left =
      9 + head.length - length bytes;
}) e
held_by (Err stop) bytes e = refl

-- what is not passed over is held
pub held_all : (longest : ℕ) (place : Place) (bytes : List ℕ) → passing_of longest place bytes ≡ None → held_of longest place bytes ≡ bytes
held_all longest Start bytes e = refl
held_all longest (Between header) bytes e = held_by (head_at header.ids longest bytes) bytes e
held_all longest (Within header room) bytes e = refl

module _ (longest : ℕ) (place : Place) (bytes : List ℕ) (rest : Rest) where
  -- what is kept where all is held
  pub IsRest-held : IsBytes bytes → item_at longest place bytes ≡ Err stops.Short → rest.held.items ≡ bytes → rest.passing ≡ None
      → passing_of longest place bytes ≡ None → IsWalkOf longest place bytes rest.walk
      → IsRest longest place bytes rest
  IsRest-held are short held passing none walk = record {
    are_bytes = are;
    short = short;
    held = held ∙ sym (held_all longest place bytes none);
    passing = passing ∙ sym none;
    walk = walk;
  }

  -- and where it is passed over
  pub IsRest-passing : IsBytes bytes → (passing : Passing) → item_at longest place bytes ≡ Err stops.Short → rest.held.items ≡ []
      → rest.passing ≡ Some passing → passing_of longest place bytes ≡ Some passing
      → IsRest longest place bytes rest
  IsRest-passing are passing short held has same =
      let is = passed_of longest place bytes passing same in
      record {
        are_bytes = are;
        short = short;
        held = held ∙ sym (passed_none_held longest place bytes passing is);
        passing = has ∙ sym same;
        walk = passed_walk longest place bytes passing is bytes rest.walk;
      }

  -- where bytes are held, they are all that is there
  pub IsRest-all : IsRest longest place bytes rest → 0 < length rest.held.items → (rest.held.items ≡ bytes) × (rest.passing ≡ None)
  IsRest-all is some =
      let holds : 0 < length (held_of longest place bytes) = omega (arith, some, ap length is.held) in
      (is.held ∙ all_held longest place bytes holds, is.passing ∙ held_not_passing longest place bytes holds)

  -- where nothing is held, nor passed over, nothing is there
  pub IsRest-empty : IsRest longest place bytes rest → length rest.held.items ≡ 0 → rest.passing ≡ None → bytes ≡ []
  IsRest-empty is empty none =
      nil_from_length bytes (omega (arith, empty, ap length is.held, ap length (held_all longest place bytes (sym is.passing ∙ none))))

pub some_len : (n : ℕ) → false ≡ (n == 0) → 0 < n
some_len zero e = absurd cc
some_len (suc n) e = omega arith

pub some_not_none : true ≡ false → ⊥
some_not_none e = absurd cc

pub none_is : {A : Type 0} (one : Option A) → is_some one ≡ false → one ≡ None
none_is None e = refl
none_is (Some x) e = absurd cc

pub no_len : (n : ℕ) → true ≡ (n == 0) → n ≡ 0
no_len n e = eqb-true n 0 (sym e)

pub not_empty : {A : Type 0} (xs : List A) → false ≡ (length xs == 0) → xs ≡ [] → ⊥
not_empty [] some e = absurd cc
not_empty (x ∷ xs) some e = absurd cc

pub not_some : {A : Type 0} (one : Option A) → ((x : A) → one ≡ Some x → ⊥) → one ≡ None
not_some None never = refl
not_some (Some x) never = absurd (never x refl)

pub on_ok : {A E P Q : Type 0} (result : Result A E) → (P → Q) → OnOk result P → OnOk result Q
on_ok (Ok x) follows holds = follows holds
on_ok (Err e) follows holds = tt

-- what is left, and nothing was kept before it, is kept
pub kept_behind : (longest : ℕ) (place : Place) (still left : List ℕ) (kept rest : Rest) → IsRest longest place still kept
    → item_at longest place (still ++ left) ≡ Err stops.Short → (still ≡ []) ⊎ (left ≡ [])
    → (left ≡ [] → ⊥) → IsBytes left → passing_of longest place left ≡ None → rest.held.items ≡ kept.held.items ++ left
    → rest.walk ≡ kept.walk → rest.passing ≡ kept.passing
    → IsRest longest place (still ++ left) rest
kept_behind longest place still left kept rest is short (inr none) some are whole held walk passing = absurd (some none)
kept_behind longest place still left kept rest is short (inl none) some are whole held walk passing =
    let was : kept.held.items ≡ [] = is.held ∙ ap (held_of longest place) none ∙ held_none longest place in
    let passed : kept.passing ≡ None = is.passing ∙ ap (passing_of longest place) none ∙ passing_none longest place in
    let all : still ++ left ≡ left = ap (λ (b : List ℕ). b ++ left) none in
    let walked = IsWalkOf-more longest place still left kept.walk is.walk in
    IsRest-held longest place (still ++ left) rest (IsBytes-append still left is.are_bytes are) short (held
    ∙ ap (λ (b : List ℕ). b ++ left) was ∙ sym all) (passing ∙ passed)
    (ap (passing_of longest place) all ∙ whole) (subst (IsWalkOf longest place (still ++ left)) (sym walk) walked)

-- bytes that were cut in two
pub cut_bytes : (n : ℕ) (bytes front back : List ℕ) → front ≡ take n bytes → back ≡ drop n bytes → front ++ back ≡ bytes
cut_bytes n bytes front back e f = ap (λ (b : List ℕ). b ++ back) e ∙ ap (λ (b : List ℕ). take n bytes ++ b) f ∙ take-append-drop n bytes

-- what is held once more bytes were added
pub record Held (longest : ℕ) (place : Place) (front more held : List ℕ) (rest : Rest) : Type 0 where
  pub all : held ≡ front ++ more
  pub size : length rest.held.items ≡ length front
  pub none : rest.passing ≡ None
  pub walk : IsWalkOf longest place held rest.walk
  pub are_bytes : IsBytes (front ++ more)

pub held_more : (longest : ℕ) (place : Place) (front more held : List ℕ) (rest : Rest) → IsRest longest place front rest
    → 0 < length rest.held.items → held ≡ rest.held.items ++ more → IsBytes more
    → Held longest place front more held rest
held_more longest place front more held rest is some added are =
    let was = IsRest-all longest place front rest is some in
    let all : held ≡ front ++ more = added ∙ ap (λ (b : List ℕ). b ++ more) was.0 in
    record {
      all = all;
      size = ap length was.0;
      none = was.1;
      walk = subst (λ (b : List ℕ). IsWalkOf longest place b rest.walk) (sym all)
          (IsWalkOf-more longest place front more rest.walk is.walk);
      are_bytes = IsBytes-append front more is.are_bytes are;
    }
