-- Heads under two limits on the longest item.
use Rattle.std.proofs.Common.{◌≡◌, ◌⊎◌, inl, inr, ℕ, ◌≤◌, Bool, true, false, cond, ltb, ◌&&◌, List, length, drop, slice_index, refl, sym}
use Rattle.std.proofs.Common.{ap, subst, arith, Result, Ok, Err}
use Rattle.std.proofs.lemmas.Bool.{le-ltb, ltb-false}
use Rattle.byteorder.specs.Endian.{big_number}
use Rattle.hprof_items.specs.declared.head.Head.{Head}
use Rattle.hprof_values.specs.declared.ids.IdSize.{IdSize}
use Rattle.hprof_values.specs.declared.reason.Reason.TheVariants.{BadLength}
use Rattle.hprof_values.specs.declared.parse_stop.ParseStop.{ParseStop}
use Rattle.hprof_values.specs.declared.parse_stop.ParseStop.TheVariants.{Short, TooLong, Fault}
use Rattle.hprof_items.specs.Head.{is_fact_tag}
use Rattle.hprof_items.specs.Reading.{head_at, judged_head, is_legal, is_too_long}
use Rattle.hprof_items.proofs.Steps.{went_on, held, long_enough, whole_parts}

-- of two chains of tests that differ in the last test, which fails in the second only where it does in the first
tests_same_or_long : (w : Result (Head × ℕ) ParseStop) (legal long long_too : Bool) → (long ≡ false → long_too ≡ false)
    → (cond legal (cond long (Err TooLong) w) (Err (Fault BadLength)) ≡ cond legal (cond long_too (Err TooLong) w) (Err (Fault BadLength)))
    ⊎ (cond legal (cond long (Err TooLong) w) (Err (Fault BadLength)) ≡ Err TooLong)
tests_same_or_long w true true long_too h = inr refl
tests_same_or_long w true false long_too h = inl (ap (λ (b : Bool). cond b (Err TooLong) w) (sym (h refl)))
tests_same_or_long w false long long_too h = inl refl

-- what is not too long for the smaller limit is not for the greater
short_for_both : (fact : Bool) (less longest len : ℕ) → less ≤ longest → (fact && ltb less len) ≡ false → (fact && ltb longest len) ≡ false
short_for_both true less longest len le e = le-ltb longest len (let h = ltb-false less len e in omega arith)
short_for_both false less longest len le e = refl

-- the same behind a test that more bytes are needed
guarded : (b : Bool) (x y : Result (Head × ℕ) ParseStop) → (x ≡ y) ⊎ (x ≡ Err TooLong) → (cond b (Err Short) x ≡ cond b (Err Short) y)
    ⊎ (cond b (Err Short) x ≡ Err TooLong)
guarded true x y h = inl refl
guarded false x y h = h

-- a head is the same, or too long for the smaller limit
pub head_same_or_long : (ids : IdSize) (less longest : ℕ) (bytes : List ℕ) → less ≤ longest
    → (head_at ids less bytes ≡ head_at ids longest bytes) ⊎ (head_at ids less bytes ≡ Err TooLong)
unfolding head_at
head_same_or_long ids less longest bytes le =
    let head : Head = record { tag = slice_index bytes 0; time = big_number 4 (drop 1 bytes); length = big_number 4 (drop 5 bytes) } in
    let tests = tests_same_or_long (Ok (head, 9)) (is_legal ids head.tag head.length) (is_too_long less head) (is_too_long longest head)
    (short_for_both (is_fact_tag head.tag) less longest head.length le) in
    guarded (ltb (length bytes) 9) (judged_head ids less head) (judged_head ids longest head) tests

-- a head that is read is not too long
pub head_taken : (ids : IdSize) (less : ℕ) (bytes : List ℕ) (head : Head) (n : ℕ) → head_at ids less bytes ≡ Ok (head, n)
    → is_too_long less head ≡ false
unfolding head_at
head_taken ids less bytes head n e =
    let read : Head = record { tag = slice_index bytes 0; time = big_number 4 (drop 1 bytes); length = big_number 4 (drop 5 bytes) } in
    let judged = long_enough (length bytes) 9 (judged_head ids less read) head n e in
    let legal = held (is_legal ids read.tag read.length) (cond (is_too_long less read) (Err TooLong) (Ok (read, 9))) (Err (Fault BadLength))
    (Ok (head, n)) (λ h. cc) judged.1 in
    let taken = went_on (is_too_long less read) (Err TooLong) (Ok (read, 9)) (Ok (head, n)) (λ h. cc) legal.1 in
    let same = whole_parts read head 9 n taken.1 in
    subst (λ (h : Head). is_too_long less h ≡ false) same.0 taken.0
