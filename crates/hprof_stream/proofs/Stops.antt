-- What the tests of a sub-record stop with: more bytes are wanted only of an item that may be longer, and a fault lasts.
use Rattle.std.proofs.Common.{◌≡◌, ℕ, zero, suc, ◌+◌, ◌*◌, ◌≤◌, true, cond, ltb, List, [], ◌∷◌, drop, Option, Some, None, Result, Ok, Err}
use Rattle.std.proofs.Common.{refl, arith}
use Rattle.std.proofs.lemmas.Bool.{cond_both, ltb-false, ltb-true, eqb-true}
use Rattle.std.specs.Prelude.{◌==◌, slice_index}
use Rattle.hprof_values.specs.declared.ids.IdSize.{IdSize}
use Rattle.hprof_values.specs.declared.basic.Basic.{Basic}
use Rattle.hprof_values.specs.declared.basic.Basic.TheVariants as basics
use Rattle.hprof_values.specs.declared.entry.EntryKind.{EntryKind}
use Rattle.hprof_values.specs.declared.entry.EntryKind.TheVariants as kinds
use Rattle.hprof_values.specs.declared.reason.Reason.TheVariants.{PastEnd}
use Rattle.hprof_values.specs.declared.parse_stop.ParseStop.{ParseStop}
use Rattle.hprof_values.specs.declared.parse_stop.ParseStop.TheVariants.{Short, TooLong, Fault}
use Rattle.hprof_values.specs.declared.sub_tag.SubTag.{SubTag}
use Rattle.hprof_values.specs.declared.sub_tag.SubTag.TheVariants as tags
use Rattle.hprof_values.specs.Basic.{basic_of_code, width_of_basic}
use Rattle.hprof_values.specs.Entries.{lead_width, bits_width, judged_type, entry_end, entries_end, list_in, list_end}
use Rattle.hprof_values.specs.FieldGroups.{Bounds, ◌>>=◌, field_end, fields_in, reached}
use Rattle.hprof_values.specs.Ids.{width_of}
use Rattle.hprof_values.specs.Root.{root_fields}
use Rattle.hprof_values.specs.SubTag.{tag_of_code}
use Rattle.hprof_items.specs.ClassDump.{class_widths, class_of, class_at}
use Rattle.hprof_items.specs.FactValue.{FactValue, Rooted, Instance, ObjArray, PrimArray}
use Rattle.hprof_items.specs.SubRecord.{instance_widths, obj_array_widths, prim_array_widths, root_of, root_at, cut, instance_at}
use Rattle.hprof_items.specs.SubRecord.{obj_array_at, element_type, prim_array_at, dump_at, judged_tag, sub_at}
use Rattle.hprof_values.specs.Lists.{ids_in}
use Rattle.hprof_stream.specs.Fault.{is_lasting}

-- a number of so many bytes, the highest first
abbrev pub number : ℕ → List ℕ → ℕ
number width bytes = slice_index (fields_in (width ∷ []) bytes) 0

-- what an answer tells, by which it is
abbrev pub Stops : {A : Type 0} → Type 0 → Result A ParseStop → Type 0
Stops short (Ok x) = Unit {0}
Stops short (Err Short) = short
Stops short (Err TooLong) = Unit {0}
Stops short (Err (Fault reason)) = is_lasting reason ≡ true

-- more bytes are wanted where there are no more than the longest item has
abbrev pub StopsIn : {A : Type 0} → Bounds → Result A ParseStop → Type 0
StopsIn bounds r = Stops (bounds.there ≤ bounds.longest) r

-- two steps, one after the other
then_stops : {A B : Type 0} (bounds : Bounds) (r : Result A ParseStop) (next : A → Result B ParseStop) → StopsIn bounds r
    → ((x : A) → StopsIn bounds (next x)) → StopsIn bounds (r >>= next)
then_stops bounds (Ok x) next first later = later x
then_stops bounds (Err Short) next first later = first
then_stops bounds (Err TooLong) next first later = first
then_stops bounds (Err (Fault reason)) next first later = first

-- the tests of a field
field_stops : (bounds : Bounds) (end : ℕ) → StopsIn bounds (field_end bounds end)
field_stops bounds end =
    let P : Result ℕ ParseStop → Type 0 = StopsIn bounds in
    let there : Result ℕ ParseStop = cond (ltb bounds.there end) (Err Short) (Ok end) in
    cond_both (ltb bounds.room end) (Err (Fault PastEnd)) (cond (ltb bounds.longest end) (Err TooLong) there) P (λ past. refl)
    (λ within. cond_both (ltb bounds.longest end) (Err TooLong) there P (λ long. tt)
    (λ taken. cond_both (ltb bounds.there end) (Err Short) (Ok end) P
    (λ few. omega (arith, ltb-true bounds.there end few, ltb-false bounds.longest end taken)) (λ enough. tt)))

reached_stops : (bounds : Bounds) (at : ℕ) (widths : List ℕ) → StopsIn bounds (reached bounds at widths)
reached_stops bounds at [] = tt
reached_stops bounds at (width ∷ widths) =
    then_stops bounds (field_end bounds (at + width)) (λ (end : ℕ). reached bounds end widths) (field_stops bounds (at + width))
    (λ end. reached_stops bounds end widths)

-- ---- the lists of a class

type_stops : (bounds : Bounds) (basic : Option Basic) → StopsIn bounds (judged_type basic)
type_stops bounds None = refl
type_stops bounds (Some basic) = tt

entry_stops : (ids : IdSize) (kind : EntryKind) (bounds : Bounds) (bytes : List ℕ) (at : ℕ)
    → StopsIn bounds (entry_end ids kind bounds bytes at)
unfolding entry_end
entry_stops ids kind bounds bytes at =
    let typed : Result Basic ParseStop = judged_type (basic_of_code (slice_index bytes (at + lead_width ids kind))) in
    let last : ℕ → Basic → Result ℕ ParseStop = λ front basic. reached bounds front (bits_width ids kind basic ∷ []) in
    then_stops bounds (reached bounds at (lead_width ids kind ∷ 1 ∷ [])) (λ (front : ℕ). typed >>= last front)
    (reached_stops bounds at (lead_width ids kind ∷ 1 ∷ []))
    (λ front. then_stops bounds typed (last front) (type_stops bounds (basic_of_code (slice_index bytes (at + lead_width ids kind))))
    (λ basic. reached_stops bounds front (bits_width ids kind basic ∷ [])))

entries_stops : (ids : IdSize) (kind : EntryKind) (bounds : Bounds) (bytes : List ℕ) (count at : ℕ)
    → StopsIn bounds (entries_end ids kind bounds bytes count at)
entries_stops ids kind bounds bytes zero at = tt
entries_stops ids kind bounds bytes (suc count) at =
    then_stops bounds (entry_end ids kind bounds bytes at) (λ (end : ℕ). entries_end ids kind bounds bytes count end)
    (entry_stops ids kind bounds bytes at)
    (λ end. entries_stops ids kind bounds bytes count end)

list_stops : (ids : IdSize) (kind : EntryKind) (bounds : Bounds) (bytes : List ℕ) (at : ℕ)
    → StopsIn bounds (list_end ids kind bounds bytes at)
unfolding list_end
list_stops ids kind bounds bytes at =
    let count : ℕ = number 2 (drop at bytes) in
    then_stops bounds (reached bounds at (2 ∷ [])) (λ (begin : ℕ). entries_end ids kind bounds bytes count begin)
    (reached_stops bounds at (2 ∷ []))
    (λ begin. entries_stops ids kind bounds bytes count begin)

class_stops : (ids : IdSize) (bounds : Bounds) (bytes : List ℕ) → StopsIn bounds (class_at ids bounds bytes)
unfolding class_at
class_stops ids bounds bytes =
    let numbers : List ℕ = fields_in (class_widths ids) (drop 1 bytes) in
    let made : ℕ → ℕ → ℕ → FactValue =
    λ at s f. class_of numbers (list_in ids kinds.Constant bytes at) (list_in ids kinds.Static bytes s) (list_in ids kinds.Field bytes f) in
    let last : ℕ → ℕ → ℕ → Result (FactValue × ℕ) ParseStop =
    λ at s f. list_end ids kinds.Field bounds bytes f >>= λ (end : ℕ). Ok (made at s f, end) in
    let third : ℕ → ℕ → Result (FactValue × ℕ) ParseStop = λ at s. list_end ids kinds.Static bounds bytes s >>= λ (f : ℕ). last at s f in
    then_stops bounds (reached bounds 1 (class_widths ids))
    (λ (at : ℕ). list_end ids kinds.Constant bounds bytes at >>= λ (s : ℕ). third at s) (reached_stops bounds 1 (class_widths ids))
    (λ at. then_stops bounds (list_end ids kinds.Constant bounds bytes at) (λ (s : ℕ). third at s)
    (list_stops ids kinds.Constant bounds bytes at)
    (λ s. then_stops bounds (list_end ids kinds.Static bounds bytes s) (λ (f : ℕ). last at s f) (list_stops ids kinds.Static bounds bytes s)
    (λ f. then_stops bounds (list_end ids kinds.Field bounds bytes f) (λ (end : ℕ). Ok (made at s f, end))
    (list_stops ids kinds.Field bounds bytes f) (λ end. tt))))

-- ---- the others

root_stops : (ids : IdSize) (tag : SubTag) (bounds : Bounds) (bytes : List ℕ) → StopsIn bounds (root_at ids tag bounds bytes)
unfolding root_at
root_stops ids tag bounds bytes =
    let answer : ℕ → Result (FactValue × ℕ) ParseStop = λ end.
    Ok (Rooted (root_of tag (fields_in (root_fields ids tag) (drop 1 bytes))), end) in
    then_stops bounds (reached bounds 1 (root_fields ids tag)) answer (reached_stops bounds 1 (root_fields ids tag)) (λ end. tt)

instance_stops : (ids : IdSize) (bounds : Bounds) (bytes : List ℕ) → StopsIn bounds (instance_at ids bounds bytes)
unfolding instance_at
instance_stops ids bounds bytes =
    let numbers : List ℕ = fields_in (instance_widths ids) (drop 1 bytes) in
    let len : ℕ = slice_index numbers 3 in
    let answer : ℕ → ℕ → Result (FactValue × ℕ) ParseStop =
    λ front end. Ok (Instance (slice_index numbers 0) (slice_index numbers 1) (slice_index numbers 2) (cut len front bytes), end) in
    then_stops bounds (reached bounds 1 (instance_widths ids)) (λ (front : ℕ). reached bounds front (len ∷ []) >>= answer front)
    (reached_stops bounds 1 (instance_widths ids))
    (λ front. then_stops bounds (reached bounds front (len ∷ [])) (answer front) (reached_stops bounds front (len ∷ [])) (λ end. tt))

obj_array_stops : (ids : IdSize) (bounds : Bounds) (bytes : List ℕ) → StopsIn bounds (obj_array_at ids bounds bytes)
unfolding obj_array_at
obj_array_stops ids bounds bytes =
    let numbers : List ℕ = fields_in (obj_array_widths ids) (drop 1 bytes) in
    let len : ℕ = slice_index numbers 2 * width_of ids in
    let answer : ℕ → ℕ → Result (FactValue × ℕ) ParseStop =
    λ front end. Ok (
      ObjArray (slice_index numbers 0) (slice_index numbers 1) (slice_index numbers 3) (ids_in ids (cut len front bytes)),
      end,
    ) in
    then_stops bounds (reached bounds 1 (obj_array_widths ids)) (λ (front : ℕ). reached bounds front (len ∷ []) >>= answer front)
    (reached_stops bounds 1 (obj_array_widths ids))
    (λ front. then_stops bounds (reached bounds front (len ∷ [])) (answer front) (reached_stops bounds front (len ∷ [])) (λ end. tt))

element_stops : (bounds : Bounds) (basic : Option Basic) → StopsIn bounds (element_type basic)
element_stops bounds None = refl
element_stops bounds (Some basics.Array) = refl
element_stops bounds (Some basics.Object) = refl
element_stops bounds (Some _) = tt

prim_array_stops : (ids : IdSize) (bounds : Bounds) (bytes : List ℕ) → StopsIn bounds (prim_array_at ids bounds bytes)
unfolding prim_array_at
prim_array_stops ids bounds bytes =
    let numbers : List ℕ = fields_in (prim_array_widths ids) (drop 1 bytes) in
    let len : Basic → ℕ = λ elem. slice_index numbers 2 * width_of_basic ids elem in
    let typed : Result Basic ParseStop = element_type (basic_of_code (slice_index numbers 3)) in
    let answer : ℕ → Basic → ℕ → Result (FactValue × ℕ) ParseStop =
    λ front elem end. Ok (PrimArray (slice_index numbers 0) (slice_index numbers 1) elem (cut (len elem) front bytes), end) in
    let valued : ℕ → Basic → Result (FactValue × ℕ) ParseStop = λ front elem. reached bounds front (len elem ∷ []) >>= answer front elem in
    then_stops bounds (reached bounds 1 (prim_array_widths ids)) (λ (front : ℕ). typed >>= valued front)
    (reached_stops bounds 1 (prim_array_widths ids))
    (λ front. then_stops bounds typed (valued front) (element_stops bounds (basic_of_code (slice_index numbers 3)))
    (λ elem. then_stops bounds (reached bounds front (len elem ∷ [])) (answer front elem) (reached_stops bounds front (len elem ∷ []))
    (λ end. tt)))

dump_stops : (ids : IdSize) (tag : SubTag) (bounds : Bounds) (bytes : List ℕ) → StopsIn bounds (dump_at ids tag bounds bytes)
dump_stops ids tags.ClassDump bounds bytes = class_stops ids bounds bytes
dump_stops ids tags.InstanceDump bounds bytes = instance_stops ids bounds bytes
dump_stops ids tags.ObjArrayDump bounds bytes = obj_array_stops ids bounds bytes
dump_stops ids tags.PrimArrayDump bounds bytes = prim_array_stops ids bounds bytes
dump_stops ids tag bounds bytes = root_stops ids tag bounds bytes

-- ---- from the tag on

judged_stops : (bounds : Bounds) (tag : Option SubTag) → StopsIn bounds (judged_tag tag)
judged_stops bounds None = refl
judged_stops bounds (Some tag) = tt

first_stops : (bounds : Bounds) → StopsIn bounds (cond (bounds.there == 0) (Err Short) (reached bounds 0 (1 ∷ [])))
first_stops bounds =
    cond_both (bounds.there == 0) (Err Short) (reached bounds 0 (1 ∷ [])) (StopsIn bounds)
    (λ none. let no = eqb-true bounds.there 0 none in omega arith)
    (λ some. reached_stops bounds 0 (1 ∷ []))

pub sub_stops : (ids : IdSize) (bounds : Bounds) (bytes : List ℕ) → StopsIn bounds (sub_at ids bounds bytes)
unfolding sub_at
sub_stops ids bounds bytes =
    let tag : Option SubTag = tag_of_code (slice_index bytes 0) in
    then_stops bounds (cond (bounds.there == 0) (Err Short) (reached bounds 0 (1 ∷ [])))
    (λ (front : ℕ). judged_tag tag >>= λ (t : SubTag). dump_at ids t bounds bytes) (first_stops bounds)
    (λ front. then_stops bounds (judged_tag tag) (λ (t : SubTag). dump_at ids t bounds bytes) (judged_stops bounds tag)
    (λ t. dump_stops ids t bounds bytes))
