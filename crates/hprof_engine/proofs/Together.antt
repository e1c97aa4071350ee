-- What some of the parts say among all, and what parts that agree state: a heap.
use Rattle.std.proofs.Common.{◌≡◌, ◌≤◌, ℕ, List, [], ◌∷◌, refl, sym, subst, ◌∙◌, inl, inr, arith}
use Rattle.std.specs.List.{AllByRecursion, Contains}
use Rattle.hprof_values.specs.declared.ids.IdSize.{IdSize}
use Rattle.hprof_items.specs.FactValue.{FactValue}
use Rattle.hprof_items.specs.Header.{IsMillis}
use Rattle.hprof_items.specs.Spelling.{Fits}
use Rattle.hprof_stream.specs.Part.{Stated, IsPart, all_facts}
use Rattle.hprof_stream.specs.Record.{IsRecord, IsSubFact, states, ends, dumps, skips}
use Rattle.hprof_rows.specs.declared.key.Key.{Key}
use Rattle.hprof_rows.specs.Facts.{Has, SameFacts}
use Rattle.hprof_rows.specs.HeapValue.{IsHeap}
use Rattle.hprof_rows.proofs.Conflicts.{HasConflict-more, no_conflict}
use Rattle.hprof_rows.proofs.FactSets.{Has-parts, All-has}
use Rattle.hprof_engine.specs.Joining.{Agree, Disagree}
use Rattle.hprof_engine.proofs.PartByPart.{OneOf, SayTogether, says_once, say_together}

-- ---- some of the parts

module _ (some parts : List (List ℕ)) (within : (bytes : List ℕ) → Contains some bytes → Contains parts bytes) (ids other : IdSize)
    (millis more : ℕ) (facts rows : List FactValue) (few : SayTogether some ids millis facts) (all : SayTogether parts other more rows)
  where
    -- one of some parts is one of all
    one_of_all : (one : OneOf some ids) → (it : OneOf parts other) × (one.says.millis ≡ it.says.millis) × (one.says.facts ≡ it.says.facts)
    one_of_all one =
        let there = within one.bytes one.there in
        let says = all.each one.bytes there in
        let same = says_once ids other one.bytes one.bytes one.says says refl in
        (record { bytes = one.bytes; there = there; says = says }, same.0, same.1)

    -- their facts are facts of all
    pub some_facts : (fact : FactValue) → Has facts fact → Has rows fact
    some_facts fact has =
        let one = few.stated fact has in
        let it = one_of_all one.0 in
        all.states fact it.0 (subst (λ (l : List FactValue). Has l fact) it.2 one.1)

    -- and their time is not before that of all
    pub some_later : more ≤ millis
    some_later =
        let it = one_of_all few.earliest.0 in
        subst (λ (n : ℕ). more ≤ n) (sym it.1 ∙ few.earliest.1) (all.least it.0)

-- parts say one thing together
pub together_once : (parts : List (List ℕ)) (ids other : IdSize) (millis more : ℕ) (facts rows : List FactValue)
    → SayTogether parts ids millis facts → SayTogether parts other more rows
    → (millis ≡ more) × SameFacts facts rows
together_once parts ids other millis more facts rows one two =
    let late = some_later parts parts (λ bytes there. there) ids other millis more facts rows one two in
    let late_too = some_later parts parts (λ bytes there. there) other ids more millis rows facts two one in (
      omega arith,
      λ fact. (
        some_facts parts parts (λ bytes there. there) ids other millis more facts rows one two fact,
        some_facts parts parts (λ bytes there. there) other ids more millis rows facts two one fact,
      ),
    )

-- where some of the parts do not agree, all do not
pub some_disagree : (some parts : List (List ℕ)) → ((bytes : List ℕ) → Contains some bytes → Contains parts bytes)
    → (ids : IdSize) (millis : ℕ) (rows : List FactValue) (key : Key) → Disagree some key → Agree parts ids millis rows → ⊥
some_disagree some parts within ids millis rows key dis agree =
    let few = say_together some dis.ids dis.millis dis.facts dis.state in
    let all = say_together parts ids millis rows agree.state in
    no_conflict rows key agree.consistent
    (HasConflict-more dis.facts rows key (some_facts some parts within dis.ids ids dis.millis millis dis.facts rows few all)
    dis.least.conflict)

-- ---- a heap

-- what records of that size state fits it
record_facts_fit : (ids : IdSize) (bytes : List ℕ) (facts : List FactValue) → IsRecord ids bytes facts → (fact : FactValue)
    → Has facts fact → Fits ids fact
record_facts_fit ids bytes _ (states is) fact has = elim has [ inl e ↦ subst (Fits ids) (sym e) is.fits | inr none ↦ absurd none ]
record_facts_fit ids bytes _ (ends is) fact has = absurd has
record_facts_fit ids bytes _ (dumps {facts} is) fact has = let sub = All-has (IsSubFact ids) facts fact is.each has in sub.fits
record_facts_fit ids bytes _ (skips is) fact has = absurd has

records_fit : (ids : IdSize) (records : List Stated) → AllByRecursion (λ one. IsRecord ids one.bytes one.facts) records
    → (fact : FactValue) → Has (all_facts records) fact → Fits ids fact
records_fit ids [] each fact has = absurd has
records_fit ids (one ∷ records) each fact has = elim (Has-parts one.facts (all_facts records) fact has) [
  | inl here ↦ record_facts_fit ids one.bytes one.facts each.0 fact here
  | inr later ↦ records_fit ids records each.1 fact later
]

-- what a part states fits its size
pub part_fits : (bytes : List ℕ) (ids : IdSize) (millis : ℕ) (facts : List FactValue) → IsPart bytes ids millis facts → (fact : FactValue)
    → Has facts fact → Fits ids fact
part_fits bytes ids millis facts part fact has =
    subst (λ (i : IdSize). Fits i fact) part.has_ids
    (records_fit part.header.ids part.records part.written.each fact (subst (λ (l : List FactValue). Has l fact) (sym part.has_facts) has))

-- its time is one
pub part_millis : (bytes : List ℕ) (ids : IdSize) (millis : ℕ) (facts : List FactValue) → IsPart bytes ids millis facts → IsMillis millis
part_millis bytes ids millis facts part = subst IsMillis part.has_millis part.written.is_millis

-- what parts that agree state is a heap
pub agree_heap : (parts : List (List ℕ)) (ids : IdSize) (millis : ℕ) (rows : List FactValue) → Agree parts ids millis rows
    → IsHeap (record { ids = ids; millis = millis; facts = rows })
agree_heap parts ids millis rows agree =
    let say = say_together parts ids millis rows agree.state in
    let first = say.earliest.0 in
    record {
      is_millis = subst IsMillis say.earliest.1 (part_millis first.bytes ids first.says.millis first.says.facts first.says.part);
      fit = λ fact has.
          let one = say.stated fact has in
          let it = one.0 in
          part_fits it.bytes ids it.says.millis it.says.facts it.says.part fact one.1;
      ordered = agree.ordered;
    }
