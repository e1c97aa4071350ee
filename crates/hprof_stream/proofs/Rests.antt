-- What is kept of an item that is not whole yet.
use Rattle.std.proofs.Common.{◌≡◌, ℕ, zero, suc, ◌∷◌, ◌+◌, ◌-◌, ◌<◌, ◌≤◌, ltb, Bool, true, false, cond, List, [], ◌++◌, length, drop, Some}
use Rattle.std.proofs.Common.{None, refl, sym, ap, subst, ◌∙◌, append-nil, arith, Result, Ok, Err}
use Rattle.std.proofs.lemmas.Bool.{cond-true, cond-false, ltb-true, ltb-false, lt-ltb, le-ltb}
use Rattle.hprof_values.specs.Ids.{IsBytes}
use Rattle.hprof_values.proofs.Numbers.{IsBytes-tail}
use Rattle.hprof_items.specs.declared.header.Header.{Header}
use Rattle.hprof_items.specs.declared.head.Head.{Head}
use Rattle.hprof_items.specs.declared.head.HeadKind.{HeadKind}
use Rattle.hprof_items.specs.declared.head.HeadKind.TheVariants.{FactRecord, HeapDump, DumpEnd, Skipped}
use Rattle.hprof_values.specs.declared.parse_stop.ParseStop.{ParseStop}
use Rattle.hprof_values.specs.declared.parse_stop.ParseStop.TheVariants.{Short, TooLong, Fault}
use Rattle.hprof_items.specs.Head.{kind_of}
use Rattle.hprof_items.specs.Reading.{head_at}
use Rattle.hprof_items.proofs.Heads.{head_found}
use Rattle.hprof_stream.specs.ItemValue as items
use Rattle.hprof_stream.specs.declared.rest.Passing.{Passing}
use Rattle.hprof_stream.specs.declared.rest.Rest.{Rest}
use Rattle.hprof_items.specs.declared.walk.Walk.{Walk}
use Rattle.hprof_stream.specs.Item.{Place, Start, Between, Within, Found, found_record, found_behind, is_skipped_kind, is_skipped_head}
use Rattle.hprof_stream.specs.Item.{is_passed_over, held_of, item_at}
use Rattle.hprof_stream.specs.ItemStep.{Stands, IsOfPlace}
use Rattle.hprof_stream.specs.Rest.{passing_by, passing_of, IsWalkOf, IsRest}
use Rattle.hprof_stream.proofs.Refusals.{head_stays, item_none}
use Rattle.hprof_stream.proofs.ItemSteps.{record_ends}

-- bytes, and more of them
pub IsBytes-append : (bytes more : List ℕ) → IsBytes bytes → IsBytes more → IsBytes (bytes ++ more)
IsBytes-append [] more are others i = others i
IsBytes-append (b ∷ bytes) more are others zero = are 0
IsBytes-append (b ∷ bytes) more are others (suc i) = IsBytes-append bytes more (IsBytes-tail b bytes are) others i

-- ---- a record that is passed over

-- so much was seen of such a record, of which the head came
pub record IsPassed (longest : ℕ) (place : Place) (front : List ℕ) (passing : Passing) : Type 0 where
  pub header : Header
  pub head : Head
  pub taken : ℕ
  pub between : place ≡ Between header
  pub read : head_at header.ids longest front ≡ Ok (head, taken)
  pub kind : is_skipped_kind (kind_of head.tag) ≡ true
  pub same : passing ≡ record { seen = length front; left = 9 + head.length - length front }

skipped_kind : (kind : HeadKind) → is_skipped_kind kind ≡ true → kind ≡ Skipped
skipped_kind FactRecord e = absurd cc
skipped_kind HeapDump e = absurd cc
skipped_kind DumpEnd e = absurd cc
skipped_kind Skipped e = refl

passing_if : (test : Bool) (one passing : Passing) → cond test (Some one) None ≡ Some passing → (test ≡ true) × (passing ≡ one)
passing_if true one passing e = (refl, cc)
passing_if false one passing e = absurd cc

passed_by : (longest : ℕ) (header : Header) (front : List ℕ) (passing : Passing) (step : Result (Head × ℕ) ParseStop)
    → head_at header.ids longest front
    ≡ step → passing_by step (length front) ≡ Some passing
    → IsPassed longest (Between header) front passing
passed_by longest header front passing (Ok (head, n)) read e =
    let is = passing_if (is_skipped_kind (kind_of head.tag)) (record { seen = length front; left = 9 + head.length - length front })
    passing e in
    record { header = header; head = head; taken = n; between = refl; read = read; kind = is.0; same = is.1 }
passed_by longest header front passing (Err stop) read e = absurd cc

pub passed_of : (longest : ℕ) (place : Place) (front : List ℕ) (passing : Passing) → passing_of longest place front ≡ Some passing
    → IsPassed longest place front passing
passed_of longest Start front passing e = absurd cc
passed_of longest (Between header) front passing e = passed_by longest header front passing (head_at header.ids longest front) refl e
passed_of longest (Within header room) front passing e = absurd cc

module _ (longest : ℕ) (place : Place) (front : List ℕ) (passing : Passing) (is : IsPassed longest place front passing) (more : List ℕ)
  where
    head_on : head_at is.header.ids longest (front ++ more) ≡ Ok (is.head, is.taken)
    head_on = head_stays is.header.ids longest front more (Ok (is.head, is.taken)) (λ q. cc) is.read

    -- it is found as one that is passed over, also with more bytes
    passed_at : item_at longest place (front ++ more) ≡ found_record is.header Skipped is.head (front ++ more)
    unfolding item_at
    passed_at =
        ap (λ (p : Place). item_at longest p (front ++ more)) is.between
        ∙ ap (λ (r : Result (Head × ℕ) ParseStop). found_behind is.header r (front ++ more)) head_on
        ∙ ap (λ (k : HeadKind). found_record is.header k is.head (front ++ more)) (skipped_kind (kind_of is.head.tag) is.kind)

    -- with its last byte it is whole
    pub passed_whole : 9 + is.head.length ≤ length (front ++ more) → item_at longest place (front ++ more)
        ≡ Ok (record { next = place; facts = [] }, 9 + is.head.length)
    passed_whole all =
        let found : Place → Result (Found × ℕ) ParseStop = λ next. Ok (record { next = next; facts = [] }, 9 + is.head.length) in
        passed_at ∙ cond-false (ltb (length (front ++ more)) (9 + is.head.length)) (Err Short) (found (Between is.header)) (le-ltb _ _ all)
        ∙ ap found (sym is.between)

    -- before, it is not
    pub passed_short : length (front ++ more) < 9 + is.head.length → item_at longest place (front ++ more) ≡ Err Short
    passed_short few = passed_at ∙ cond-true (ltb (length (front ++ more)) (9 + is.head.length)) (Err Short) _ (lt-ltb _ _ few)

    -- nothing of it is held
    pub passed_held : held_of longest place (front ++ more) ≡ []
    passed_held =
        let over : is_passed_over longest place (front ++ more) ≡ true =
        ap (λ (p : Place). is_passed_over longest p (front ++ more)) is.between ∙ ap is_skipped_head head_on ∙ is.kind in
        cond-true (is_passed_over longest place (front ++ more)) [] (front ++ more) over

    -- and how much was seen of it
    pub passed_on : passing_of longest place (front ++ more) ≡ Some (record {
      seen = length (front ++ more);
      left =
          9 + is.head.length - length (front ++ more);
    })
    passed_on =
        ap (λ (p : Place). passing_of longest p (front ++ more)) is.between
        ∙ ap (λ (r : Result (Head × ℕ) ParseStop). passing_by r (length (front ++ more))) head_on
        ∙ cond-true (is_skipped_kind (kind_of is.head.tag))
        (Some (record { seen = length (front ++ more); left = 9 + is.head.length - length (front ++ more) })) None is.kind

-- nothing of it is walked
pub passed_walk : (longest : ℕ) (place : Place) (front : List ℕ) (passing : Passing) → IsPassed longest place front passing
    → (bytes : List ℕ) (walk : Walk) → IsWalkOf longest place bytes walk
passed_walk longest place front passing is bytes walk = subst (λ (p : Place). IsWalkOf longest p bytes walk) (sym is.between) tt

-- nor held
pub passed_none_held : (longest : ℕ) (place : Place) (front : List ℕ) (passing : Passing) → IsPassed longest place front passing
    → held_of longest place front ≡ []
passed_none_held longest place front passing is = ap (held_of longest place) (sym (append-nil front))
    ∙ passed_held longest place front passing is []

-- while it is short there are bytes to come
fewer_if : (longest : ℕ) (place : Place) (front : List ℕ) (passing : Passing) (is : IsPassed longest place front passing)
    → item_at longest place front ≡ Err Short
    → (few : Bool) → ltb (length front) (9 + is.head.length) ≡ few → length front < 9 + is.head.length
fewer_if longest place front passing is short true e = ltb-true (length front) (9 + is.head.length) e
fewer_if longest place front passing is short false e =
    let all : 9 + is.head.length ≤ length (front ++ []) =
    omega (arith, ltb-false (length front) (9 + is.head.length) e, ap length (append-nil front)) in
    let whole = passed_whole longest place front passing is [] all in
    let now : item_at longest place (front ++ []) ≡ Err Short = ap (item_at longest place) (append-nil front) ∙ short in
    absurd cc

pub passed_fewer : (longest : ℕ) (place : Place) (front : List ℕ) (passing : Passing) (is : IsPassed longest place front passing)
    → item_at longest place front ≡ Err Short → length front < 9 + is.head.length
passed_fewer longest place front passing is short =
    fewer_if longest place front passing is short (ltb (length front) (9 + is.head.length)) refl

-- a record that is passed over stands between records, and does not end a heap dump
pub passed_stands : (longest : ℕ) (place : Place) (front more : List ℕ) (passing : Passing) → IsPassed longest place front passing
    → IsBytes (front ++ more) → IsOfPlace place (front ++ more) items.Skipped
passed_stands longest place front more passing is are =
    let read = head_found is.header.ids longest (front ++ more) is.head is.taken are (head_on longest place front passing is more) in
    let none = record_ends is.head (front ++ more) (drop is.taken (front ++ more)) Skipped read.0
    (sym (skipped_kind (kind_of is.head.tag) is.kind)) in
    (subst (λ (p : Place). Stands p items.Skipped) (sym is.between) tt, none)

-- ---- nothing is there

same_branches : (test : Bool) (both : List ℕ) → cond test both both ≡ both
same_branches true both = refl
same_branches false both = refl

pub held_none : (longest : ℕ) (place : Place) → held_of longest place [] ≡ []
held_none longest place = same_branches (is_passed_over longest place []) []

pub passing_none : (longest : ℕ) (place : Place) → passing_of longest place [] ≡ None
unfolding head_at
passing_none longest Start = refl
passing_none longest (Between header) = refl
passing_none longest (Within header room) = refl

none_are : IsBytes []
none_are i = omega arith

pub IsRest-none : (longest : ℕ) (place : Place) (rest : Rest) → rest.held.items ≡ [] → rest.passing ≡ None
    → IsWalkOf longest place [] rest.walk → IsRest longest place [] rest
IsRest-none longest place rest held passing walk = record {
  are_bytes = none_are;
  short = item_none longest place;
  held = held ∙ sym (held_none longest place);
  passing = passing ∙ sym (passing_none longest place);
  walk = walk;
}
