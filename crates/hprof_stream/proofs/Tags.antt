-- What the tag of a record says of its head.
use Rattle.std.proofs.Common.{◌≡◌, inl, inr, ℕ, ◌+◌, ◌^◌, ◌<◌, ◌≤◌, Bool, true, false, cond, ltb, leb, eqb, List, length, Option, Some}
use Rattle.std.proofs.Common.{None, refl, sym, ap, subst, ◌∙◌, arith}
use Rattle.std.proofs.lemmas.Bool.{cond-true, cond-false, or_cases, and_cases, and_right, both_ways, ltb-false, eqb-true, eq-eqb, le-leb}
use Rattle.std.proofs.lemmas.Bool.{le-ltb}
use Rattle.std.proofs.lemmas.List.{length-append}
use Rattle.std.specs.Prelude.{◌==◌, ◌&&◌, sum}
use Rattle.hprof_values.specs.declared.ids.IdSize.{IdSize}
use Rattle.hprof_values.specs.declared.record_tag.RecordTag.{RecordTag}
use Rattle.hprof_values.specs.declared.record_tag.RecordTag.TheVariants as tags
use Rattle.hprof_values.specs.FieldGroups.{field_bytes}
use Rattle.hprof_values.specs.RecordTag.{code_of_record, all_records, record_of_code, record_fields, has_more}
use Rattle.hprof_values.proofs.EntryLists.{find_passes}
use Rattle.hprof_values.proofs.FieldGroups.{length-fields}
use Rattle.hprof_items.specs.declared.head.Head.{Head}
use Rattle.hprof_items.specs.declared.head.HeadKind.{HeadKind}
use Rattle.hprof_items.specs.declared.head.HeadKind.TheVariants.{FactRecord, HeapDump, DumpEnd, Skipped}
use Rattle.hprof_items.specs.FactValue.{FactValue, Name, Trace}
use Rattle.hprof_items.specs.Head.{is_fact_tag, is_dump_tag, is_end_tag, kind_of}
use Rattle.hprof_items.specs.Reading.{is_legal, is_legal_as, is_too_long, IsRightHead}
use Rattle.hprof_items.specs.RecordBody.{is_legal_body, record_of, record_numbers, record_rest, record_body, BodyFits}
use Rattle.hprof_items.proofs.RecordBodies.{record_code_again}

-- ---- tags and kinds

-- a code that stands for a tag is the code of that tag
pub code_is : (code : ℕ) (known : RecordTag) → record_of_code code ≡ Some known → code ≡ code_of_record known
code_is code known e =
    sym (eqb-true (code_of_record known) code (find_passes (λ (tag : RecordTag). code_of_record tag == code) all_records known e))

-- such a record states a fact
pub kind_of_fact : (known : RecordTag) → kind_of (code_of_record known) ≡ FactRecord
kind_of_fact tags.Utf8 = refl
kind_of_fact tags.LoadClass = refl
kind_of_fact tags.UnloadClass = refl
kind_of_fact tags.Frame = refl
kind_of_fact tags.Trace = refl
kind_of_fact tags.StartThread = refl
kind_of_fact tags.EndThread = refl

-- such a code is a byte
code_below : (known : RecordTag) → code_of_record known < 256
code_below tags.Utf8 = omega arith
code_below tags.LoadClass = omega arith
code_below tags.UnloadClass = omega arith
code_below tags.Frame = omega arith
code_below tags.Trace = omega arith
code_below tags.StartThread = omega arith
code_below tags.EndThread = omega arith

-- the tests behind the first, where it is not the first kind
not_first : (a b c : Bool) → (cond a FactRecord (cond b HeapDump (cond c DumpEnd Skipped)) ≡ FactRecord → ⊥) → a ≡ false
not_first true b c never = absurd (never refl)
not_first false b c never = refl

first_kind : (a b c : Bool) → cond a FactRecord (cond b HeapDump (cond c DumpEnd Skipped)) ≡ FactRecord → a ≡ true
first_kind true b c e = refl
first_kind false true c e = absurd cc
first_kind false false true e = absurd cc
first_kind false false false e = absurd cc

second_kind : (a b c : Bool) → cond a FactRecord (cond b HeapDump (cond c DumpEnd Skipped)) ≡ HeapDump → b ≡ true
second_kind true b c e = absurd cc
second_kind false true c e = refl
second_kind false false true e = absurd cc
second_kind false false false e = absurd cc

third_kind : (a b c : Bool) → cond a FactRecord (cond b HeapDump (cond c DumpEnd Skipped)) ≡ DumpEnd → c ≡ true
third_kind true b c e = absurd cc
third_kind false true c e = absurd cc
third_kind false false true e = refl
third_kind false false false e = absurd cc

last_kind : (a b c : Bool) → cond a FactRecord (cond b HeapDump (cond c DumpEnd Skipped)) ≡ Skipped → c ≡ false
last_kind true b c e = absurd cc
last_kind false true c e = absurd cc
last_kind false false true e = absurd cc
last_kind false false false e = refl

-- a heap dump has one of two tags
pub dump_tag : (tag : ℕ) → kind_of tag ≡ HeapDump → is_dump_tag tag ≡ true
dump_tag tag e = second_kind (is_fact_tag tag) (is_dump_tag tag) (is_end_tag tag) e

-- and each of the two is of a heap dump
pub dump_kind : (tag : ℕ) → is_dump_tag tag ≡ true → (kind_of tag ≡ HeapDump) × (tag < 256)
dump_kind tag e =
    elim (or_cases (eqb tag 0x0c) (eqb tag 0x1c) e) [
      | inl one ↦ subst (λ (t : ℕ). (kind_of t ≡ HeapDump) × (t < 256)) (sym (eqb-true tag 0x0c one)) (refl, omega arith)
      | inr two ↦ subst (λ (t : ℕ). (kind_of t ≡ HeapDump) × (t < 256)) (sym (eqb-true tag 0x1c two)) (refl, omega arith)
    ]

-- the record that ends a heap dump has one tag
pub end_tag : (tag : ℕ) → kind_of tag ≡ DumpEnd → tag ≡ 0x2c
end_tag tag e = eqb-true tag 0x2c (third_kind (is_fact_tag tag) (is_dump_tag tag) (is_end_tag tag) e)

-- the kind of a record that is none of a fact
abbrev NoFact : ℕ → Type 0
NoFact tag = kind_of tag ≡ FactRecord → ⊥

-- such a tag stands for no fact
no_record_as : (tag : ℕ) (known : Option RecordTag) → record_of_code tag ≡ known → NoFact tag → known ≡ None
no_record_as tag None e never = refl
no_record_as tag (Some known) e never = absurd (never (ap kind_of (code_is tag known e) ∙ kind_of_fact known))

no_record : (tag : ℕ) → NoFact tag → record_of_code tag ≡ None
no_record tag never = no_record_as tag (record_of_code tag) refl never

-- so any length is legal, but that of a HEAP_DUMP_END
pub legal_none : (ids : IdSize) (tag len : ℕ) → NoFact tag → is_legal ids tag len ≡ cond (is_end_tag tag) (len == 0) true
legal_none ids tag len never = ap (λ (known : Option RecordTag). is_legal_as ids known tag len) (no_record tag never)

-- and none is too long
pub taken_none : (longest : ℕ) (head : Head) → NoFact head.tag → is_too_long longest head ≡ false
taken_none longest head never =
    let no : is_fact_tag head.tag ≡ false = not_first (is_fact_tag head.tag) (is_dump_tag head.tag) (is_end_tag head.tag) never in
    ap (λ (b : Bool). b && ltb longest head.length) no

-- two kinds that differ
other_kind : (tag : ℕ) (kind : HeadKind) → kind_of tag ≡ kind → (kind ≡ FactRecord → ⊥) → NoFact tag
other_kind tag kind e never = λ is. never (sym e ∙ is)

pub dump_is_no_fact : (tag : ℕ) → kind_of tag ≡ HeapDump → NoFact tag
dump_is_no_fact tag e = other_kind tag HeapDump e (λ is. cc)

pub end_is_no_fact : (tag : ℕ) → kind_of tag ≡ DumpEnd → NoFact tag
end_is_no_fact tag e = other_kind tag DumpEnd e (λ is. cc)

pub skipped_is_no_fact : (tag : ℕ) → kind_of tag ≡ Skipped → NoFact tag
skipped_is_no_fact tag e = other_kind tag Skipped e (λ is. cc)

-- ---- heads that are right

-- where bytes may follow the fields any number of them may, and none elsewhere
legal_by : (more_may : Bool) (width more : ℕ) → (more_may ≡ false → more ≡ 0)
    → cond more_may (leb width (width + more)) (width + more == width) ≡ true
legal_by true width more none = le-leb width (width + more) (omega arith)
legal_by false width more none = let no = none refl in eq-eqb (width + more) width (omega arith)

-- and none does
rest_none : (ids : IdSize) (known : RecordTag) (fact : FactValue) → record_of fact ≡ Some known → has_more known ≡ false
    → length (record_rest ids fact) ≡ 0
rest_none ids known (Name id text) e none =
    let same : tags.Utf8 ≡ known = cc in let no : true ≡ false = ap has_more same ∙ none in absurd cc
rest_none ids known (Trace serial thread frames) e none =
    let same : tags.Trace ≡ known = cc in let no : true ≡ false = ap has_more same ∙ none in absurd cc
rest_none ids known _ e none = refl

-- the body of a fact has such a length
pub body_legal : (ids : IdSize) (known : RecordTag) (fact : FactValue) → BodyFits ids known fact
    → is_legal_body ids known (length (record_body ids known fact)) ≡ true
body_legal ids known fact fits =
    let widths : List ℕ = record_fields ids known in
    let len : length (record_body ids known fact) ≡ sum widths + length (record_rest ids fact) =
    omega (
      arith,
      length-fields widths (record_numbers fact) fits.numbers,
      length-append (field_bytes widths (record_numbers fact)) (record_rest ids fact),
    ) in
    ap (is_legal_body ids known) len ∙ legal_by (has_more known) (sum widths) (length (record_rest ids fact))
    (rest_none ids known fact fits.is)

-- the head of a record of a fact
pub fact_head_right : (ids : IdSize) (longest : ℕ) (known : RecordTag) (time len : ℕ) → time < 256 ^ 4 → len < 256 ^ 4
    → is_legal_body ids known len ≡ true → len ≤ longest
    → IsRightHead ids longest (record { tag = code_of_record known; time = time; length = len })
fact_head_right ids longest known time len is_time below legal short = record {
  tag = code_below known;
  time = is_time;
  length = below;
  legal = ap (λ (r : Option RecordTag). is_legal_as ids r (code_of_record known) len) (record_code_again known) ∙ legal;
  taken = and_right (is_fact_tag (code_of_record known)) (ltb longest len) (le-ltb longest len short);
}

-- the head of a record that is none of a fact, where it is legal
pub other_head_right : (ids : IdSize) (longest tag time len : ℕ) → NoFact tag → tag < 256 → time < 256 ^ 4 → len < 256 ^ 4
    → cond (is_end_tag tag) (len == 0) true ≡ true
    → IsRightHead ids longest (record { tag = tag; time = time; length = len })
other_head_right ids longest tag time len never is_tag is_time below legal = record {
  tag = is_tag;
  time = is_time;
  length = below;
  legal = legal_none ids tag len never ∙ legal;
  taken = taken_none longest (record { tag = tag; time = time; length = len }) never;
}

-- of records that are passed over, and of heap dumps, any length is
pub any_legal : (tag len : ℕ) → is_end_tag tag ≡ false → cond (is_end_tag tag) (len == 0) true ≡ true
any_legal tag len e = cond-false (is_end_tag tag) (len == 0) true e

pub skipped_is_no_end : (tag : ℕ) → kind_of tag ≡ Skipped → is_end_tag tag ≡ false
skipped_is_no_end tag e = last_kind (is_fact_tag tag) (is_dump_tag tag) (is_end_tag tag) e

pub dump_is_no_end : (tag : ℕ) → is_dump_tag tag ≡ true → is_end_tag tag ≡ false
dump_is_no_end tag e =
    elim (or_cases (eqb tag 0x0c) (eqb tag 0x1c) e) [
      | inl one ↦ ap is_end_tag (eqb-true tag 0x0c one)
      | inr two ↦ ap is_end_tag (eqb-true tag 0x1c two)
    ]

-- a record of a fact that is read is no longer than the longest
pub fact_taken : (longest : ℕ) (head : Head) → kind_of head.tag ≡ FactRecord → is_too_long longest head ≡ false → head.length ≤ longest
fact_taken longest head kind e =
    let is_fact : is_fact_tag head.tag ≡ true = first_kind (is_fact_tag head.tag) (is_dump_tag head.tag) (is_end_tag head.tag) kind in
    elim (and_cases (is_fact_tag head.tag) (ltb longest head.length) e) [
      | inl not_fact ↦ absurd (both_ways (is_fact_tag head.tag) not_fact is_fact)
      | inr not_long ↦ ltb-false longest head.length not_long
    ]

-- a HEAP_DUMP_END that is right has no body
pub end_is_empty : (ids : IdSize) (longest : ℕ) (head : Head) → kind_of head.tag ≡ DumpEnd → IsRightHead ids longest head → head.length ≡ 0
end_is_empty ids longest head kind right =
    let tag : head.tag ≡ 0x2c = end_tag head.tag kind in
    let legal : (head.length == 0) ≡ true =
    sym (cond-true (is_end_tag head.tag) (head.length == 0) true (eq-eqb _ _ tag))
    ∙ sym (legal_none ids head.tag head.length (end_is_no_fact head.tag kind)) ∙ right.legal in
    eqb-true head.length 0 legal
