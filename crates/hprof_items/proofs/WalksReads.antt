-- More bytes behind a sub-record: no answer about it changes but the one that more are needed.
use Rattle.std.proofs.Common.{◌≡◌, ℕ, ◌+◌, ◌*◌, ◌≤◌, Bool, true, false, cond, List, [], ◌∷◌, ◌++◌, length, drop, Result, Ok, Err, refl, ap}
use Rattle.std.proofs.Common.{◌∙◌, inl, inr, arith}
use Rattle.std.proofs.lemmas.Bool.{eqb-false, ne_eqb}
use Rattle.std.specs.Prelude.{◌==◌, slice_index}
use Rattle.hprof_values.specs.declared.ids.IdSize.{IdSize}
use Rattle.hprof_values.specs.declared.basic.Basic.{Basic}
use Rattle.hprof_values.specs.declared.entry.Entry.{Entry}
use Rattle.hprof_values.specs.declared.entry.EntryKind.{EntryKind}
use Rattle.hprof_values.specs.declared.entry.EntryKind.TheVariants as kinds
use Rattle.hprof_values.specs.declared.sub_tag.SubTag.{SubTag}
use Rattle.hprof_values.specs.declared.sub_tag.SubTag.TheVariants as tags
use Rattle.hprof_values.specs.declared.parse_stop.ParseStop.{ParseStop}
use Rattle.hprof_values.specs.declared.parse_stop.ParseStop.TheVariants.{Short}
use Rattle.hprof_values.specs.Basic.{basic_of_code, width_of_basic}
use Rattle.hprof_values.specs.Ids.{width_of}
use Rattle.hprof_values.specs.FieldGroups.{fields_in, Bounds, ◌>>=◌, reached, with_more}
use Rattle.hprof_values.specs.Entries.{list_in, list_end}
use Rattle.hprof_values.specs.Lists.{ids_in}
use Rattle.hprof_values.specs.Root.{root_fields}
use Rattle.hprof_values.specs.SubTag.{tag_of_code}
use Rattle.hprof_items.specs.FactValue.{FactValue, Rooted, Instance, ObjArray, PrimArray}
use Rattle.hprof_items.specs.ClassDump.{class_widths, class_of, class_at}
use Rattle.hprof_items.specs.SubRecord.{instance_widths, obj_array_widths, prim_array_widths, root_of, root_at, cut, instance_at}
use Rattle.hprof_items.specs.SubRecord.{obj_array_at, element_type, prim_array_at, dump_at, judged_tag, sub_at, tag_at}
use Rattle.hprof_values.proofs.FieldGroups.{sum_widths, then_more, reached_passed, reached_more}
use Rattle.hprof_items.proofs.WalksMore.{byte_more, fields_more_at, cut_more, IsSettled, then_more_at, list_more, list_in_more}

-- answers that more bytes give, spelled in two ways
settled_by : {A : Type 0} (r s t : Result A ParseStop) → s ≡ t → IsSettled r t → IsSettled r s
settled_by r s t same (inl short) = inl short
settled_by r s t same (inr kept) = inr (same ∙ kept)

-- the numbers in the fields behind a tag
numbers_more : (bounds : Bounds) (widths bytes more : List ℕ) (end : ℕ) → bounds.there ≤ length bytes → reached bounds 1 widths ≡ Ok end
    → fields_in widths (drop 1 (bytes ++ more)) ≡ fields_in widths (drop 1 bytes)
numbers_more bounds [] bytes more end there passed = refl
numbers_more bounds (w ∷ ws) bytes more end there passed =
    let lies = reached_passed bounds 1 w ws end passed in
    fields_more_at (w ∷ ws) bytes more 1 (omega (arith, lies.0, lies.1.there))

-- fields behind a tag, and what rests on their numbers
front_more : (bounds : Bounds) (widths bytes more : List ℕ) (next later : List ℕ → ℕ → Result (FactValue × ℕ) ParseStop)
    → bounds.there ≤ length bytes
    → ((front : ℕ) → IsSettled (next (fields_in widths (drop 1 bytes)) front) (later (fields_in widths (drop 1 bytes)) front))
    → IsSettled (reached bounds 1 widths >>= next (fields_in widths (drop 1 bytes)))
    (reached (with_more bounds (length more)) 1 widths >>= later (fields_in widths (drop 1 (bytes ++ more))))
front_more bounds widths bytes more next later there h =
    let longer = with_more bounds (length more) in
    let numbers : List ℕ → List ℕ = λ all. fields_in widths (drop 1 all) in
    then_more_at (reached bounds 1 widths) (reached longer 1 widths) (next (numbers bytes)) (later (numbers (bytes ++ more)))
    (reached_more bounds 1 (length more) widths)
    (λ front passed. settled_by _ _ _ (ap (λ (ns : List ℕ). later ns front) (numbers_more bounds widths bytes more front there passed))
    (h front))

-- a field of so many bytes behind others, which the fact has
raw_more : (bounds : Bounds) (bytes more : List ℕ) (len front : ℕ) (fact : List ℕ → FactValue) → bounds.there ≤ length bytes
    → IsSettled {A = FactValue × ℕ} (reached bounds front (len ∷ []) >>= λ (end : ℕ). Ok (fact (cut len front bytes), end))
    (reached (with_more bounds (length more)) front (len ∷ []) >>= λ (end : ℕ). Ok (fact (cut len front (bytes ++ more)), end))
raw_more bounds bytes more len front fact there =
    let answer : List ℕ → ℕ → Result (FactValue × ℕ) ParseStop = λ raw end. Ok (fact raw, end) in
    then_more_at (reached bounds front (len ∷ [])) (reached (with_more bounds (length more)) front (len ∷ []))
    (answer (cut len front bytes)) (answer (cut len front (bytes ++ more))) (reached_more bounds front (length more) (len ∷ []))
    (λ end passed.
    let lies = reached_passed bounds front len [] end passed in
    inr (ap (λ (raw : List ℕ). answer raw end) (cut_more len front bytes more (omega (arith, lies.0, lies.1.there, sum_widths len [])))))

-- ---- the sub-records

root_more : (ids : IdSize) (tag : SubTag) (bounds : Bounds) (bytes more : List ℕ) → bounds.there ≤ length bytes
    → IsSettled (root_at ids tag bounds bytes) (root_at ids tag (with_more bounds (length more)) (bytes ++ more))
unfolding root_at
root_more ids tag bounds bytes more there =
    let answer : List ℕ → ℕ → Result (FactValue × ℕ) ParseStop = λ ns end. Ok (Rooted (root_of tag ns), end) in
    front_more bounds (root_fields ids tag) bytes more answer answer there (λ front. inr refl)

instance_more : (ids : IdSize) (bounds : Bounds) (bytes more : List ℕ) → bounds.there ≤ length bytes
    → IsSettled (instance_at ids bounds bytes) (instance_at ids (with_more bounds (length more)) (bytes ++ more))
unfolding instance_at
instance_more ids bounds bytes more there =
    let fact : List ℕ → List ℕ → FactValue = λ ns raw. Instance (slice_index ns 0) (slice_index ns 1) (slice_index ns 2) raw in
    let next : Bounds → List ℕ → List ℕ → ℕ → Result (FactValue × ℕ) ParseStop =
    λ limits all ns front.
    reached limits front (slice_index ns 3 ∷ []) >>= λ (end : ℕ). Ok (fact ns (cut (slice_index ns 3) front all), end) in
    front_more bounds (instance_widths ids) bytes more (next bounds bytes) (next (with_more bounds (length more)) (bytes ++ more)) there
    (λ front.
    let ns = fields_in (instance_widths ids) (drop 1 bytes) in
    raw_more bounds bytes more (slice_index ns 3) front (fact ns) there)

obj_array_more : (ids : IdSize) (bounds : Bounds) (bytes more : List ℕ) → bounds.there ≤ length bytes
    → IsSettled (obj_array_at ids bounds bytes) (obj_array_at ids (with_more bounds (length more)) (bytes ++ more))
unfolding obj_array_at
obj_array_more ids bounds bytes more there =
    let len : List ℕ → ℕ = λ ns. slice_index ns 2 * width_of ids in
    let fact : List ℕ → List ℕ → FactValue = λ ns raw. ObjArray (slice_index ns 0) (slice_index ns 1) (slice_index ns 3) (ids_in ids raw) in
    let next : Bounds → List ℕ → List ℕ → ℕ → Result (FactValue × ℕ) ParseStop =
    λ limits all ns front. reached limits front (len ns ∷ []) >>= λ (end : ℕ). Ok (fact ns (cut (len ns) front all), end) in
    front_more bounds (obj_array_widths ids) bytes more (next bounds bytes) (next (with_more bounds (length more)) (bytes ++ more)) there
    (λ front. let ns = fields_in (obj_array_widths ids) (drop 1 bytes) in raw_more bounds bytes more (len ns) front (fact ns) there)

prim_array_more : (ids : IdSize) (bounds : Bounds) (bytes more : List ℕ) → bounds.there ≤ length bytes
    → IsSettled (prim_array_at ids bounds bytes) (prim_array_at ids (with_more bounds (length more)) (bytes ++ more))
unfolding prim_array_at
prim_array_more ids bounds bytes more there =
    let longer = with_more bounds (length more) in
    let len : List ℕ → Basic → ℕ = λ ns elem. slice_index ns 2 * width_of_basic ids elem in
    let fact : List ℕ → Basic → List ℕ → FactValue = λ ns elem raw. PrimArray (slice_index ns 0) (slice_index ns 1) elem raw in
    let valued : Bounds → List ℕ → List ℕ → ℕ → Basic → Result (FactValue × ℕ) ParseStop =
    λ limits all ns front elem.
    reached limits front (len ns elem ∷ []) >>= λ (end : ℕ). Ok (fact ns elem (cut (len ns elem) front all), end) in
    let elem_of : List ℕ → Result Basic ParseStop = λ ns. element_type (basic_of_code (slice_index ns 3)) in
    front_more bounds (prim_array_widths ids) bytes more
    (λ (ns : List ℕ) (front : ℕ). elem_of ns >>= valued bounds bytes ns front)
    (λ (ns : List ℕ) (front : ℕ). elem_of ns >>= valued longer (bytes ++ more) ns front) there
    (λ front.
    let ns = fields_in (prim_array_widths ids) (drop 1 bytes) in
    then_more (elem_of ns) (elem_of ns) (valued bounds bytes ns front) (valued longer (bytes ++ more) ns front) (inr refl)
    (λ elem. raw_more bounds bytes more (len ns elem) front (fact ns elem) there))

-- a list of entries, and what rests on them
list_step : (ids : IdSize) (kind : EntryKind) (bounds : Bounds) (bytes more : List ℕ) (at : ℕ)
    (next later : List Entry → ℕ → Result (FactValue × ℕ) ParseStop) → bounds.there ≤ length bytes
    → ((entries : List Entry) (end : ℕ) → IsSettled (next entries end) (later entries end))
    → IsSettled (list_end ids kind bounds bytes at >>= next (list_in ids kind bytes at))
    (list_end ids kind (with_more bounds (length more)) (bytes ++ more) at >>= later (list_in ids kind (bytes ++ more) at))
list_step ids kind bounds bytes more at next later there h =
    then_more_at (list_end ids kind bounds bytes at) (list_end ids kind (with_more bounds (length more)) (bytes ++ more) at)
    (next (list_in ids kind bytes at)) (later (list_in ids kind (bytes ++ more) at)) (list_more ids kind bounds bytes more at there)
    (λ end passed. settled_by _ _ _ (ap (λ (es : List Entry). later es end) (list_in_more ids kind bounds bytes more at end there passed))
    (h (list_in ids kind bytes at) end))

class_more : (ids : IdSize) (bounds : Bounds) (bytes more : List ℕ) → bounds.there ≤ length bytes
    → IsSettled (class_at ids bounds bytes) (class_at ids (with_more bounds (length more)) (bytes ++ more))
unfolding class_at
class_more ids bounds bytes more there =
    let longer = with_more bounds (length more) in
    let last : List ℕ → List Entry → List Entry → List Entry → ℕ → Result (FactValue × ℕ) ParseStop =
    λ ns constants statics fields end. Ok (class_of ns constants statics fields, end) in
    let third : Bounds → List ℕ → List ℕ → List Entry → List Entry → ℕ → Result (FactValue × ℕ) ParseStop =
    λ limits all ns constants statics at.
    list_end ids kinds.Field limits all at >>= last ns constants statics (list_in ids kinds.Field all at) in
    let second : Bounds → List ℕ → List ℕ → List Entry → ℕ → Result (FactValue × ℕ) ParseStop =
    λ limits all ns constants at.
    list_end ids kinds.Static limits all at >>= third limits all ns constants (list_in ids kinds.Static all at) in
    let first : Bounds → List ℕ → List ℕ → ℕ → Result (FactValue × ℕ) ParseStop =
    λ limits all ns at. list_end ids kinds.Constant limits all at >>= second limits all ns (list_in ids kinds.Constant all at) in
    front_more bounds (class_widths ids) bytes more (first bounds bytes) (first longer (bytes ++ more)) there
    (λ front.
    let ns = fields_in (class_widths ids) (drop 1 bytes) in
    list_step ids kinds.Constant bounds bytes more front (second bounds bytes ns) (second longer (bytes ++ more) ns) there
    (λ constants statics.
    list_step ids kinds.Static bounds bytes more statics (third bounds bytes ns constants) (third longer (bytes ++ more) ns constants) there
    (λ entries fields.
    list_step ids kinds.Field bounds bytes more fields (last ns constants entries) (last ns constants entries) there
    (λ own end. inr refl))))

dump_more : (ids : IdSize) (tag : SubTag) (bounds : Bounds) (bytes more : List ℕ) → bounds.there ≤ length bytes
    → IsSettled (dump_at ids tag bounds bytes) (dump_at ids tag (with_more bounds (length more)) (bytes ++ more))
dump_more ids tags.ClassDump bounds bytes more there = class_more ids bounds bytes more there
dump_more ids tags.InstanceDump bounds bytes more there = instance_more ids bounds bytes more there
dump_more ids tags.ObjArrayDump bounds bytes more there = obj_array_more ids bounds bytes more there
dump_more ids tags.PrimArrayDump bounds bytes more there = prim_array_more ids bounds bytes more there
dump_more ids tag bounds bytes more there = root_more ids tag bounds bytes more there

-- ---- from the tag on

-- a test whether there is a byte, and what comes behind it
some_more : {A : Type 0} (t u : Bool) (r s : Result A ParseStop) → (t ≡ false → u ≡ false) → IsSettled r s
    → IsSettled (cond t (Err Short) r) (cond u (Err Short) s)
some_more true u r s h settled = inl refl
some_more false u r s h settled = settled_by _ _ _ (ap (λ (v : Bool). cond v (Err Short) s) (h refl)) settled

-- more bytes are some
still_some : (there more : ℕ) → (there == 0) ≡ false → (there + more == 0) ≡ false
still_some there more some = let other = eqb-false there 0 some in ne_eqb (there + more) 0 (λ e. other (omega arith))

-- the answer behind a test that went well
behind_test : (t : Bool) (r : Result ℕ ParseStop) (x : ℕ) → cond t (Err Short) r ≡ Ok x → r ≡ Ok x
behind_test true r x e = absurd cc
behind_test false r x e = e

pub tag_more : (bounds : Bounds) (bytes more : List ℕ) → bounds.there ≤ length bytes
    → IsSettled (tag_at bounds bytes) (tag_at (with_more bounds (length more)) (bytes ++ more))
tag_more bounds bytes more there =
    let longer = with_more bounds (length more) in
    let tag_of : List ℕ → Result SubTag ParseStop = λ all. judged_tag (tag_of_code (slice_index all 0)) in
    then_more_at (cond (bounds.there == 0) (Err Short) (reached bounds 0 (1 ∷ [])))
    (cond (bounds.there + length more == 0) (Err Short) (reached longer 0 (1 ∷ [])))
    (λ (front : ℕ). tag_of bytes) (λ (front : ℕ). tag_of (bytes ++ more))
    (some_more _ _ _ _ (still_some bounds.there (length more)) (reached_more bounds 0 (length more) (1 ∷ [])))
    (λ front passed.
    let lies = reached_passed bounds 0 1 [] front (behind_test (bounds.there == 0) _ front passed) in
    let code = byte_more bytes more 0 (omega (arith, lies.0, lies.1.there, sum_widths 1 [])) in
    inr (ap (λ (c : ℕ). judged_tag (tag_of_code c)) code))

-- steps may be put together in either way
pub then_assoc : {A B C : Type 0} (r : Result A ParseStop) (next : A → Result B ParseStop) (last : B → Result C ParseStop)
    → (r >>= λ (x : A). next x >>= last) ≡ ((r >>= next) >>= last)
then_assoc (Ok x) next last = refl
then_assoc (Err stop) next last = refl

-- a sub-record is its tag, and then what that tag says
pub sub_parts : (ids : IdSize) (bounds : Bounds) (bytes : List ℕ)
    → sub_at ids bounds bytes ≡ (tag_at bounds bytes >>= λ (tag : SubTag). dump_at ids tag bounds bytes)
unfolding sub_at
sub_parts ids bounds bytes =
    then_assoc (cond (bounds.there == 0) (Err Short) (reached bounds 0 (1 ∷ [])))
    (λ (front : ℕ). judged_tag (tag_of_code (slice_index bytes 0))) (λ (tag : SubTag). dump_at ids tag bounds bytes)

pub sub_more : (ids : IdSize) (bounds : Bounds) (bytes more : List ℕ) → bounds.there ≤ length bytes
    → IsSettled (sub_at ids bounds bytes) (sub_at ids (with_more bounds (length more)) (bytes ++ more))
sub_more ids bounds bytes more there =
    let longer = with_more bounds (length more) in
    let dump : Bounds → List ℕ → SubTag → Result (FactValue × ℕ) ParseStop = λ limits all tag. dump_at ids tag limits all in
    rw (sub_parts ids bounds bytes, sub_parts ids longer (bytes ++ more))
    (then_more (tag_at bounds bytes) (tag_at longer (bytes ++ more)) (dump bounds bytes) (dump longer (bytes ++ more))
    (tag_more bounds bytes more there) (λ tag. dump_more ids tag bounds bytes more there))
