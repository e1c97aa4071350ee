-- A walk from the front of a sub-record, and how it comes to the lists of a class.
use Rattle.std.proofs.Common.{◌≡◌, ℕ, ◌≤◌, List, ◌++◌, length, drop, Result, Ok, Err, IfErr, refl, sym, ap, ◌∙◌, arith}
use Rattle.hprof_values.specs.declared.ids.IdSize.{IdSize}
use Rattle.hprof_values.specs.declared.entry.Entry.{Entry}
use Rattle.hprof_values.specs.declared.entry.EntryKind.{EntryKind}
use Rattle.hprof_values.specs.declared.entry.EntryKind.TheVariants as kinds
use Rattle.hprof_values.specs.declared.bounded_bytes.BoundedBytes.{BoundedBytes}
use Rattle.hprof_values.specs.declared.parse_stop.ParseStop.{ParseStop}
use Rattle.hprof_values.specs.declared.sub_tag.SubTag.{SubTag}
use Rattle.hprof_values.specs.declared.sub_tag.SubTag.TheVariants as tags
use Rattle.hprof_values.specs.FieldGroups.{fields_in, Bounds, ◌>>=◌, reached}
use Rattle.hprof_values.specs.Entries.{list_in, list_end}
use Rattle.hprof_values.specs.BoundedBytes.{bounds_of}
use Rattle.hprof_values.proofs.FieldGroups.{then_more, then_next, then_stop, reached_more}
use Rattle.hprof_items.specs.declared.walk.Walk.TheVariants.{Front, Entries}
use Rattle.hprof_items.specs.FactValue.{FactValue}
use Rattle.hprof_items.specs.ClassDump.{class_widths, class_of, class_at}
use Rattle.hprof_items.specs.SubRecord.{dump_at, tag_at}
use Rattle.hprof_items.specs.Walk.{end_of_read, behind, walked, FindsSame, StopsAt, count_at, class_count}
use Rattle.hprof_items.proofs.WalksReads.{tag_more, then_assoc, sub_parts}
use Rattle.hprof_items.proofs.Walks.{later, settled_ok, listed, list_counted, count_settled}

-- the end of what comes after a step
end_then : {A : Type 0} (r : Result A ParseStop) (next : A → Result (FactValue × ℕ) ParseStop)
    → end_of_read (r >>= next) ≡ (r >>= λ (x : A). end_of_read (next x))
end_then (Ok x) next = refl
end_then (Err stop) next = refl

-- steps that answer the same
then_same : {A : Type 0} (r : Result A ParseStop) (next other : A → Result ℕ ParseStop) → ((x : A) → next x ≡ other x)
    → (r >>= next) ≡ (r >>= other)
then_same (Ok x) next other same = same x
then_same (Err stop) next other same = refl

-- the end of an answer that has the end of a step
end_with : (r : Result ℕ ParseStop) (fact : FactValue) → end_of_read (r >>= λ (end : ℕ). Ok (fact, end)) ≡ r
end_with (Ok end) fact = refl
end_with (Err stop) fact = refl

-- where a class ends: its fields, and then its lists
class_parts : (ids : IdSize) (bounds : Bounds) (bytes : List ℕ)
    → let lists : ℕ → Result ℕ ParseStop = λ front.
    list_end ids kinds.Constant bounds bytes front >>= behind ids kinds.Constant bounds bytes in
    end_of_read (class_at ids bounds bytes) ≡ (reached bounds 1 (class_widths ids) >>= lists)
unfolding class_at
class_parts ids bounds bytes =
    let ns = fields_in (class_widths ids) (drop 1 bytes) in
    let entries : EntryKind → ℕ → List Entry = λ kind at. list_in ids kind bytes at in
    let ends : EntryKind → ℕ → Result ℕ ParseStop = λ kind at. list_end ids kind bounds bytes at in
    let fact : ℕ → ℕ → ℕ → FactValue =
    λ front statics fields. class_of ns (entries kinds.Constant front) (entries kinds.Static statics) (entries kinds.Field fields) in
    let third : ℕ → ℕ → ℕ → Result (FactValue × ℕ) ParseStop =
    λ front statics fields. ends kinds.Field fields >>= λ (end : ℕ). Ok (fact front statics fields, end) in
    let second : ℕ → ℕ → Result (FactValue × ℕ) ParseStop = λ front statics. ends kinds.Static statics >>= third front statics in
    let first : ℕ → Result (FactValue × ℕ) ParseStop = λ front. ends kinds.Constant front >>= second front in
    end_then (reached bounds 1 (class_widths ids)) first
    ∙ then_same (reached bounds 1 (class_widths ids)) _ _
    (λ front. end_then (ends kinds.Constant front) (second front) ∙ then_same (ends kinds.Constant front) _ _
    (λ statics. end_then (ends kinds.Static statics) (third front statics) ∙ then_same (ends kinds.Static statics) _ _
    (λ fields. end_with (ends kinds.Field fields) (fact front statics fields))))

-- what is found from the front, behind a tag that is there
pub front_tagged : (ids : IdSize) (tag : SubTag) (bounds : Bounds) (bytes : List ℕ) → tag_at bounds bytes ≡ Ok tag
    → walked ids bounds bytes Front ≡ end_of_read (dump_at ids tag bounds bytes)
unfolding walked
front_tagged ids tag bounds bytes e =
    ap end_of_read (sub_parts ids bounds bytes ∙ then_next (tag_at bounds bytes) (λ (tag : SubTag). dump_at ids tag bounds bytes) tag e)

-- a tag that is not there, or none, stops the walk
pub tag_stopped : (ids : IdSize) (bounds : Bounds) (bytes : List ℕ) (stop : ParseStop) → tag_at bounds bytes ≡ Err stop
    → walked ids bounds bytes Front ≡ Err stop
unfolding walked
tag_stopped ids bounds bytes stop e =
    ap end_of_read (sub_parts ids bounds bytes ∙ then_stop (tag_at bounds bytes) (λ (tag : SubTag). dump_at ids tag bounds bytes) stop e)

-- ---- a class

-- behind its fields, a class ends where its lists do
class_counted : (ids : IdSize) (bounds : Bounds) (bytes : List ℕ)
    → end_of_read (class_at ids bounds bytes) ≡ (class_count ids bounds bytes >>= listed ids kinds.Constant bounds bytes)
class_counted ids bounds bytes =
    class_parts ids bounds bytes
    ∙ then_same (reached bounds 1 (class_widths ids)) _ _ (list_counted ids kinds.Constant bounds bytes)
    ∙ then_assoc (reached bounds 1 (class_widths ids)) (count_at bounds bytes) (listed ids kinds.Constant bounds bytes)

-- a class whose fields and first count are there is walked on from its first constant
pub class_entered : (ids : IdSize) (item : BoundedBytes) (left begin : ℕ) → tag_at (bounds_of item) item.bytes.now ≡ Ok tags.ClassDump
    → class_count ids (bounds_of item) item.bytes.now ≡ Ok (left, begin)
    → FindsSame ids item (Entries kinds.Constant left begin) Front
unfolding walked
class_entered ids item left begin tagged e = λ more.
    let bytes = item.bytes.now ++ more in
    let longer = later item more in
    let there : (bounds_of item).there ≤ length item.bytes.now = omega arith in
    let tag = settled_ok _ _ tags.ClassDump (tag_more (bounds_of item) item.bytes.now more there) tagged in
    let count = settled_ok _ _ (left, begin)
    (then_more (reached (bounds_of item) 1 (class_widths ids)) (reached longer 1 (class_widths ids))
    (count_at (bounds_of item) item.bytes.now) (count_at longer bytes)
    (reached_more (bounds_of item) 1 (length more) (class_widths ids))
    (λ front. count_settled (bounds_of item) item.bytes.now more front there)) e in
    sym (front_tagged ids tags.ClassDump longer bytes tag ∙ class_counted ids longer bytes
    ∙ then_next (class_count ids longer bytes) (listed ids kinds.Constant longer bytes) (left, begin) count)

-- fields or a count that are not there stop the walk
pub class_stopped : (ids : IdSize) (bounds : Bounds) (bytes : List ℕ) (stop : ParseStop) → tag_at bounds bytes ≡ Ok tags.ClassDump
    → class_count ids bounds bytes ≡ Err stop
    → walked ids bounds bytes Front ≡ Err stop
class_stopped ids bounds bytes stop tagged e =
    front_tagged ids tags.ClassDump bounds bytes tagged ∙ class_counted ids bounds bytes
    ∙ then_stop (class_count ids bounds bytes) (listed ids kinds.Constant bounds bytes) stop e

-- what is no class is tested at once
pub tested_at_once : (ids : IdSize) (item : BoundedBytes) (tag : SubTag) (answer : Result ℕ ParseStop)
    → tag_at (bounds_of item) item.bytes.now ≡ Ok tag → (tag ≡ tags.ClassDump → ⊥)
    → IfErr answer (StopsAt ids item Front)
tested_at_once ids item tag (Ok end) tagged other = tt
tested_at_once ids item tag (Err stop) tagged other = λ class. let same : tag ≡ tags.ClassDump = cc in absurd (other same)
