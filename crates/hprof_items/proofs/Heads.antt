-- A head that is read is the head that was written, and what was written is read again.
use Rattle.std.proofs.Common.{◌≡◌, ℕ, ◌≤◌, inl, inr, Bool, true, false, cond, eqb, ltb, ◌||◌, List, ◌++◌, length, drop, Option, Some, refl}
use Rattle.std.proofs.Common.{sym, ap, subst, ◌∙◌, arith, ◌∷◌, append_assoc, Result, Ok, Err}
use Rattle.std.proofs.lemmas.Bool.{cond-false, cond-true, le-ltb, eqb-true, or_cases}
use Rattle.byteorder.specs.Endian.{big_bytes, big_number}
use Rattle.byteorder.specs.Numbers.{big_from-lt, big_number-reads_back}
use Rattle.hprof_values.specs.declared.ids.IdSize.{IdSize}
use Rattle.hprof_values.specs.declared.reason.Reason.TheVariants.{BadLength}
use Rattle.hprof_values.specs.declared.record_tag.RecordTag.{RecordTag}
use Rattle.hprof_values.specs.declared.record_tag.RecordTag.TheVariants as tags
use Rattle.hprof_values.specs.Ids.{IsBytes}
use Rattle.hprof_values.specs.RecordTag.{code_of_record, record_of_code}
use Rattle.hprof_values.proofs.Numbers.{IsBytes-drop, number_parts_at}
use Rattle.hprof_items.specs.declared.head.Head.{Head}
use Rattle.hprof_items.specs.declared.head.HeadKind.TheVariants.{FactRecord, HeapDump, DumpEnd, Skipped}
use Rattle.hprof_values.specs.declared.parse_stop.ParseStop.{ParseStop}
use Rattle.hprof_values.specs.declared.parse_stop.ParseStop.TheVariants.{Short, TooLong, Fault}
use Rattle.hprof_items.specs.Head.{head_bytes, is_fact_tag, is_dump_tag, is_end_tag, kind_of}
use Rattle.hprof_items.specs.Reading.{is_too_long, is_legal, judged_head, head_at, IsRightHead, is_legal_as}
use Rattle.hprof_items.specs.RecordBody.{is_legal_body}
use Rattle.hprof_items.proofs.RecordBodies.{record_code_again}
use Rattle.hprof_items.proofs.Steps.{went_on, held, long_enough, whole_parts}
use Rattle.std.proofs.Math.Seq.{drop-cons}
use Rattle.std.specs.Prelude.{slice_index}

-- the fields at their places
unfoldable pub fields : List ℕ → Head
fields bytes = record { tag = slice_index bytes 0; time = big_number 4 (drop 1 bytes); length = big_number 4 (drop 5 bytes) }

-- bytes with those fields at their places
pub fields_found : (bytes : List ℕ) → IsBytes bytes → 9 ≤ length bytes → bytes ≡ head_bytes (fields bytes).tag (fields bytes).time
    (fields bytes).length ++ drop 9 bytes
unfolding fields
fields_found bytes are long =
    let first : bytes ≡ slice_index bytes 0 ∷ drop 1 bytes = drop-cons bytes 0 0 (omega arith) in
    let time : drop 1 bytes ≡ big_bytes 4 (big_number 4 (drop 1 bytes)) ++ drop 5 bytes = number_parts_at 1 4 bytes are (omega arith) in
    let len : drop 5 bytes ≡ big_bytes 4 (big_number 4 (drop 5 bytes)) ++ drop 9 bytes = number_parts_at 5 4 bytes are (omega arith) in
    first
    ∙ ap (λ (r : List ℕ). slice_index bytes 0 ∷ r) time
    ∙ ap (λ (r : List ℕ). slice_index bytes 0 ∷ (big_bytes 4 (big_number 4 (drop 1 bytes)) ++ r)) len
    ∙ ap (λ (r : List ℕ). slice_index bytes 0 ∷ r)
    (sym (append_assoc (big_bytes 4 (big_number 4 (drop 1 bytes))) (big_bytes 4 (big_number 4 (drop 5 bytes))) (drop 9 bytes)))

-- the tests that a head passed
judged_found : (ids : IdSize) (longest : ℕ) (x head : Head) (n : ℕ) → judged_head ids longest x ≡ Ok (head, n)
    → (is_legal ids x.tag x.length ≡ true) × (is_too_long longest x ≡ false) × (x ≡ head) × (9 ≡ n)
judged_found ids longest x head n e =
    let last : Result (Head × ℕ) ParseStop = cond (is_too_long longest x) (Err TooLong) (Ok (x, 9)) in
    let legal = held (is_legal ids x.tag x.length) last (Err (Fault BadLength)) (Ok (head, n)) (λ h. cc) e in
    let taken = went_on (is_too_long longest x) (Err TooLong) (Ok (x, 9)) (Ok (head, n)) (λ h. cc) legal.1 in
    let same = whole_parts x head 9 n taken.1 in
    (legal.0, taken.0, same.0, same.1)

-- a head that passes them
judged_again : (ids : IdSize) (longest : ℕ) (head : Head) → IsRightHead ids longest head → judged_head ids longest head ≡ Ok (head, 9)
judged_again ids longest head right =
    let last : Result (Head × ℕ) ParseStop = cond (is_too_long longest head) (Err TooLong) (Ok (head, 9)) in
    cond-true (is_legal ids head.tag head.length) last (Err (Fault BadLength)) right.legal
    ∙ cond-false (is_too_long longest head) (Err TooLong) (Ok (head, 9)) right.taken

-- what is read is spelled so, and right
pub head_found : (ids : IdSize) (longest : ℕ) (bytes : List ℕ) (head : Head) (n : ℕ) → IsBytes bytes → head_at ids longest bytes
    ≡ Ok (head, n)
    → (bytes ≡ head_bytes head.tag head.time head.length ++ drop n bytes) × (n ≡ 9) × IsRightHead ids longest head
unfolding head_at fields
head_found ids longest bytes head n are e =
    let read : Head = fields bytes in
    let there = long_enough (length bytes) 9 (judged_head ids longest read) head n e in
    let judged = judged_found ids longest read head n there.1 in
    let right : IsRightHead ids longest read = record {
      tag = are 0;
      time = big_from-lt 0 4 (drop 1 bytes) (IsBytes-drop 1 bytes are);
      length = big_from-lt 0 4 (drop 5 bytes) (IsBytes-drop 5 bytes are);
      legal = judged.0;
      taken = judged.1;
    } in
    subst (λ (x : Head). (bytes ≡ head_bytes x.tag x.time x.length ++ drop n bytes) × (n ≡ 9) × IsRightHead ids longest x) judged.2
    (subst (λ (m : ℕ). (bytes ≡ head_bytes read.tag read.time read.length ++ drop m bytes) × (m ≡ 9) × IsRightHead ids longest read)
    judged.3
    (fields_found bytes are there.0, refl, right))

-- what is spelled so and right is read, whatever follows
pub head_again : (ids : IdSize) (longest : ℕ) (head : Head) (rest : List ℕ) → IsRightHead ids longest head
    → head_at ids longest (head_bytes head.tag head.time head.length ++ rest) ≡ Ok (head, 9)
unfolding head_at
head_again ids longest head rest right =
    let bytes : List ℕ = head_bytes head.tag head.time head.length ++ rest in
    let read : ℕ → ℕ → Head = λ time len. record { tag = head.tag; time = time; length = len } in
    let long : 9 ≤ length bytes = omega arith in
    let time : big_number 4 (drop 1 bytes) ≡ head.time = big_number-reads_back 4 head.time (big_bytes 4 head.length ++ rest) right.time in
    let len : big_number 4 (drop 5 bytes) ≡ head.length = big_number-reads_back 4 head.length rest right.length in
    cond-false (ltb (length bytes) 9) (Err Short) (judged_head ids longest
    (read (big_number 4 (drop 1 bytes)) (big_number 4 (drop 5 bytes))))
    (le-ltb _ _ long)
    ∙ ap (λ (m : ℕ). judged_head ids longest (read m (big_number 4 (drop 5 bytes)))) time
    ∙ ap (λ (m : ℕ). judged_head ids longest (read head.time m)) len
    ∙ judged_again ids longest head right

-- ---- records that state one fact

-- the first of four kinds
first_kind : (a b c : Bool) → cond a FactRecord (cond b HeapDump (cond c DumpEnd Skipped)) ≡ FactRecord → a ≡ true
first_kind true b c e = refl
first_kind false true c e = absurd cc
first_kind false false true e = absurd cc
first_kind false false false e = absurd cc

-- one of two tests held
either : {P : Type 0} (x y : Bool) → (x ≡ true → P) → (y ≡ true → P) → (x || y) ≡ true → P
either x y first other e = elim (or_cases x y e) [ inl h ↦ first h | inr h ↦ other h ]

-- a tag that stands for a record which states one fact
abbrev Named : ℕ → Type 0
Named tag = (known : RecordTag) × (record_of_code tag ≡ Some known)

by_code : (tag : ℕ) (known : RecordTag) → eqb tag (code_of_record known) ≡ true → Named tag
by_code tag known e = (known, ap record_of_code (eqb-true tag (code_of_record known) e) ∙ record_code_again known)

named : (tag : ℕ) → is_fact_tag tag ≡ true → Named tag
named tag =
    either _ _ (either _ _ (either _ _ (either _ _ (either _ _ (either _ _ (by_code tag tags.Utf8) (by_code tag tags.LoadClass))
    (by_code tag tags.UnloadClass)) (by_code tag tags.Frame)) (by_code tag tags.Trace)) (by_code tag tags.StartThread))
    (by_code tag tags.EndThread)

-- the head of such a record has the length of such a body
pub fact_head : (ids : IdSize) (longest : ℕ) (head : Head) → IsRightHead ids longest head → kind_of head.tag ≡ FactRecord
    → (known : RecordTag) × (record_of_code head.tag ≡ Some known) × (is_legal_body ids known head.length ≡ true)
fact_head ids longest head right kind =
    let tag = named head.tag (first_kind (is_fact_tag head.tag) (is_dump_tag head.tag) (is_end_tag head.tag) kind) in
    (tag.0, tag.1, ap (λ (known : Option RecordTag). is_legal_as ids known head.tag head.length) (sym tag.1) ∙ right.legal)
