-- A sub-record that is read ends within the longest item.
use Rattle.std.proofs.Common.{◌≡◌, ℕ, zero, suc, ◌*◌, ◌≤◌, Bool, true, false, cond, List, [], ◌∷◌, drop, Result, Ok, Err, refl, arith}
use Rattle.std.specs.Prelude.{◌==◌, slice_index}
use Rattle.hprof_values.specs.declared.ids.IdSize.{IdSize}
use Rattle.hprof_values.specs.declared.basic.Basic.{Basic}
use Rattle.hprof_values.specs.declared.entry.EntryKind.{EntryKind}
use Rattle.hprof_values.specs.declared.entry.EntryKind.TheVariants as kinds
use Rattle.hprof_values.specs.declared.parse_stop.ParseStop.{ParseStop}
use Rattle.hprof_values.specs.declared.parse_stop.ParseStop.TheVariants.{Short}
use Rattle.hprof_values.specs.declared.sub_tag.SubTag.{SubTag}
use Rattle.hprof_values.specs.declared.sub_tag.SubTag.TheVariants as tags
use Rattle.hprof_values.specs.Basic.{basic_of_code, width_of_basic}
use Rattle.hprof_values.specs.Entries.{entry_end, entries_end, list_in, list_end}
use Rattle.hprof_values.specs.FieldGroups.{Bounds, ◌>>=◌, fields_in, reached}
use Rattle.hprof_values.specs.Ids.{width_of}
use Rattle.hprof_values.specs.Lists.{ids_in}
use Rattle.hprof_values.specs.Root.{root_fields}
use Rattle.hprof_values.specs.SubTag.{tag_of_code}
use Rattle.hprof_values.proofs.FieldGroups.{sum_widths, then_ok, reached_passed}
use Rattle.hprof_items.specs.ClassDump.{class_widths, class_of, class_at}
use Rattle.hprof_items.specs.FactValue.{FactValue, Rooted, Instance, ObjArray, PrimArray}
use Rattle.hprof_items.specs.SubRecord.{instance_widths, obj_array_widths, prim_array_widths, root_of, root_at, cut, instance_at}
use Rattle.hprof_items.specs.SubRecord.{obj_array_at, element_type, prim_array_at, dump_at, judged_tag, sub_at}
use Rattle.hprof_items.proofs.SubRecords.{answer_parts}
use Rattle.hprof_items.proofs.WalksMore.{entry_lies}
use Rattle.hprof_stream.proofs.Stops.{number}

-- ---- steps, and the lists of a class

-- a fact that was read ends within the longest item
abbrev Ends : Bounds → Result (FactValue × ℕ) ParseStop → Type 0
Ends bounds r = (fact : FactValue) (n : ℕ) → r ≡ Ok (fact, n) → n ≤ bounds.longest

then_ends : {A : Type 0} (bounds : Bounds) (r : Result A ParseStop) (next : A → Result (FactValue × ℕ) ParseStop)
    → ((x : A) → r ≡ Ok x → Ends bounds (next x)) → Ends bounds (r >>= next)
then_ends bounds r next h fact n e = let first = then_ok r next (fact, n) e in h first.0 first.1 fact n first.2

last_ends : (bounds : Bounds) (made : FactValue) (end : ℕ) → end ≤ bounds.longest → Ends bounds (Ok (made, end))
last_ends bounds made end le fact n e = let same = answer_parts made fact end n (Ok (made, end)) refl e in omega (arith, le, same.1)

-- fields
reached_ends : (bounds : Bounds) (at : ℕ) (widths : List ℕ) (end : ℕ) → at ≤ bounds.longest → reached bounds at widths ≡ Ok end
    → end ≤ bounds.longest
reached_ends bounds at [] end le e = let same : at ≡ end = cc in omega (arith, le, same)
reached_ends bounds at (width ∷ widths) end le e = (reached_passed bounds at width widths end e).1.longest

-- a field, whatever stands before it
field_ends : (bounds : Bounds) (at width end : ℕ) → reached bounds at (width ∷ []) ≡ Ok end → end ≤ bounds.longest
field_ends bounds at width end e = (reached_passed bounds at width [] end e).1.longest

entries_ends : (ids : IdSize) (kind : EntryKind) (bounds : Bounds) (bytes : List ℕ) (count at end : ℕ) → at ≤ bounds.longest
    → entries_end ids kind bounds bytes count at ≡ Ok end → end ≤ bounds.longest
entries_ends ids kind bounds bytes zero at end le e = let same : at ≡ end = cc in omega (arith, le, same)
entries_ends ids kind bounds bytes (suc count) at end le e =
    let first = then_ok (entry_end ids kind bounds bytes at) (λ (mid : ℕ). entries_end ids kind bounds bytes count mid) end e in
    entries_ends ids kind bounds bytes count first.0 end (entry_lies ids kind bounds bytes at first.0 first.1).1.longest first.2

list_ends : (ids : IdSize) (kind : EntryKind) (bounds : Bounds) (bytes : List ℕ) (at end : ℕ) → list_end ids kind bounds bytes at ≡ Ok end
    → end ≤ bounds.longest
unfolding list_end
list_ends ids kind bounds bytes at end e =
    let count : ℕ = number 2 (drop at bytes) in
    let first = then_ok (reached bounds at (2 ∷ [])) (λ (begin : ℕ). entries_end ids kind bounds bytes count begin) end e in
    entries_ends ids kind bounds bytes count first.0 end (field_ends bounds at 2 first.0 first.1) first.2

-- ---- from the tag on

class_ends : (ids : IdSize) (bounds : Bounds) (bytes : List ℕ) → Ends bounds (class_at ids bounds bytes)
unfolding class_at
class_ends ids bounds bytes =
    let numbers : List ℕ = fields_in (class_widths ids) (drop 1 bytes) in
    let made : ℕ → ℕ → ℕ → FactValue =
    λ at s f. class_of numbers (list_in ids kinds.Constant bytes at) (list_in ids kinds.Static bytes s) (list_in ids kinds.Field bytes f) in
    let last : ℕ → ℕ → ℕ → Result (FactValue × ℕ) ParseStop =
    λ at s f. list_end ids kinds.Field bounds bytes f >>= λ (end : ℕ). Ok (made at s f, end) in
    let third : ℕ → ℕ → Result (FactValue × ℕ) ParseStop = λ at s. list_end ids kinds.Static bounds bytes s >>= λ (f : ℕ). last at s f in
    then_ends bounds (reached bounds 1 (class_widths ids))
    (λ (at : ℕ). list_end ids kinds.Constant bounds bytes at >>= λ (s : ℕ). third at s)
    (λ at was. then_ends bounds (list_end ids kinds.Constant bounds bytes at) (λ (s : ℕ). third at s)
    (λ s was. then_ends bounds (list_end ids kinds.Static bounds bytes s) (λ (f : ℕ). last at s f)
    (λ f was. then_ends bounds (list_end ids kinds.Field bounds bytes f) (λ (end : ℕ). Ok (made at s f, end))
    (λ end passed. last_ends bounds (made at s f) end (list_ends ids kinds.Field bounds bytes f end passed)))))

-- a group of fields, and then one more
raw_ends : (bounds : Bounds) (widths : List ℕ) (len : ℕ) (made : ℕ → FactValue)
    → Ends bounds (reached bounds 1 widths >>= λ (front : ℕ). reached bounds front (len ∷ []) >>= λ (end : ℕ). Ok (made front, end))
raw_ends bounds widths len made =
    let answer : ℕ → ℕ → Result (FactValue × ℕ) ParseStop = λ front end. Ok (made front, end) in
    then_ends bounds (reached bounds 1 widths) (λ (front : ℕ). reached bounds front (len ∷ []) >>= answer front)
    (λ front was. then_ends bounds (reached bounds front (len ∷ [])) (answer front)
    (λ end passed. last_ends bounds (made front) end (field_ends bounds front len end passed)))

root_ends : (ids : IdSize) (tag : SubTag) (bounds : Bounds) (bytes : List ℕ) → 1 ≤ bounds.longest
    → Ends bounds (root_at ids tag bounds bytes)
unfolding root_at
root_ends ids tag bounds bytes some =
    let widths : List ℕ = root_fields ids tag in
    let made : FactValue = Rooted (root_of tag (fields_in widths (drop 1 bytes))) in
    let answer : ℕ → Result (FactValue × ℕ) ParseStop = λ end. Ok (made, end) in
    then_ends bounds (reached bounds 1 widths) answer
    (λ end passed. last_ends bounds made end (reached_ends bounds 1 widths end some passed))

instance_ends : (ids : IdSize) (bounds : Bounds) (bytes : List ℕ) → Ends bounds (instance_at ids bounds bytes)
unfolding instance_at
instance_ends ids bounds bytes =
    let numbers : List ℕ = fields_in (instance_widths ids) (drop 1 bytes) in
    let len : ℕ = slice_index numbers 3 in
    raw_ends bounds (instance_widths ids) len (λ front. Instance (slice_index numbers 0) (slice_index numbers 1) (slice_index numbers 2)
    (cut len front bytes))

obj_array_ends : (ids : IdSize) (bounds : Bounds) (bytes : List ℕ) → Ends bounds (obj_array_at ids bounds bytes)
unfolding obj_array_at
obj_array_ends ids bounds bytes =
    let numbers : List ℕ = fields_in (obj_array_widths ids) (drop 1 bytes) in
    let len : ℕ = slice_index numbers 2 * width_of ids in
    raw_ends bounds (obj_array_widths ids) len (λ front. ObjArray (slice_index numbers 0) (slice_index numbers 1) (slice_index numbers 3)
    (ids_in ids (cut len front bytes)))

prim_array_ends : (ids : IdSize) (bounds : Bounds) (bytes : List ℕ) → Ends bounds (prim_array_at ids bounds bytes)
unfolding prim_array_at
prim_array_ends ids bounds bytes =
    let widths : List ℕ = prim_array_widths ids in
    let numbers : List ℕ = fields_in widths (drop 1 bytes) in
    let len : Basic → ℕ = λ elem. slice_index numbers 2 * width_of_basic ids elem in
    let typed : Result Basic ParseStop = element_type (basic_of_code (slice_index numbers 3)) in
    let made : ℕ → Basic → FactValue =
    λ front elem. PrimArray (slice_index numbers 0) (slice_index numbers 1) elem (cut (len elem) front bytes) in
    let answer : ℕ → Basic → ℕ → Result (FactValue × ℕ) ParseStop = λ front elem end. Ok (made front elem, end) in
    let valued : ℕ → Basic → Result (FactValue × ℕ) ParseStop = λ front elem. reached bounds front (len elem ∷ []) >>= answer front elem in
    then_ends bounds (reached bounds 1 widths) (λ (front : ℕ). typed >>= valued front)
    (λ front was. then_ends bounds typed (valued front)
    (λ elem was. then_ends bounds (reached bounds front (len elem ∷ [])) (answer front elem)
    (λ end passed. last_ends bounds (made front elem) end (field_ends bounds front (len elem) end passed))))

dump_ends : (ids : IdSize) (tag : SubTag) (bounds : Bounds) (bytes : List ℕ) → 1 ≤ bounds.longest
    → Ends bounds (dump_at ids tag bounds bytes)
dump_ends ids tags.ClassDump bounds bytes some = class_ends ids bounds bytes
dump_ends ids tags.InstanceDump bounds bytes some = instance_ends ids bounds bytes
dump_ends ids tags.ObjArrayDump bounds bytes some = obj_array_ends ids bounds bytes
dump_ends ids tags.PrimArrayDump bounds bytes some = prim_array_ends ids bounds bytes
dump_ends ids tag bounds bytes some = root_ends ids tag bounds bytes some

-- the first byte lies within the longest item
first_ends : (bounds : Bounds) (none : Bool) (front : ℕ) → cond none (Err Short) (reached bounds 0 (1 ∷ [])) ≡ Ok front → 1 ≤ bounds.longest
first_ends bounds true front e = absurd cc
first_ends bounds false front e = let lies = reached_passed bounds 0 1 [] front e in omega (arith, lies.0, lies.1.longest, sum_widths 1 [])

pub sub_ends : (ids : IdSize) (bounds : Bounds) (bytes : List ℕ) (fact : FactValue) (n : ℕ) → sub_at ids bounds bytes ≡ Ok (fact, n)
    → n ≤ bounds.longest
unfolding sub_at
sub_ends ids bounds bytes =
    let tag : Result SubTag ParseStop = judged_tag (tag_of_code (slice_index bytes 0)) in
    let first : Result ℕ ParseStop = cond (bounds.there == 0) (Err Short) (reached bounds 0 (1 ∷ [])) in
    then_ends bounds first (λ (front : ℕ). tag >>= λ (t : SubTag). dump_at ids t bounds bytes)
    (λ front passed. then_ends bounds tag (λ (t : SubTag). dump_at ids t bounds bytes)
    (λ t was. dump_ends ids t bounds bytes (first_ends bounds (bounds.there == 0) front passed)))
