-- Sub-records under two limits on the longest item: an answer is the same, or that the item is too long for the smaller.
use Rattle.std.proofs.Common.{◌≡◌, ◌⊎◌, inl, inr, ℕ, zero, suc, ◌+◌, ◌*◌, ◌≤◌, Bool, true, false, cond, ltb, List, [], ◌∷◌, drop, Result}
use Rattle.std.proofs.Common.{Ok, Err, refl, sym, ap, ◌∙◌, arith}
use Rattle.std.proofs.lemmas.Bool.{le-ltb, ltb-false}
use Rattle.std.specs.Prelude.{◌==◌, slice_index}
use Rattle.hprof_values.specs.declared.ids.IdSize.{IdSize}
use Rattle.hprof_values.specs.declared.basic.Basic.{Basic}
use Rattle.hprof_values.specs.declared.entry.EntryKind.{EntryKind}
use Rattle.hprof_values.specs.declared.entry.EntryKind.TheVariants as kinds
use Rattle.hprof_values.specs.declared.reason.Reason.TheVariants.{PastEnd}
use Rattle.hprof_values.specs.declared.parse_stop.ParseStop.{ParseStop}
use Rattle.hprof_values.specs.declared.parse_stop.ParseStop.TheVariants.{Short, TooLong, Fault}
use Rattle.hprof_values.specs.declared.sub_tag.SubTag.{SubTag}
use Rattle.hprof_values.specs.declared.sub_tag.SubTag.TheVariants as tags
use Rattle.hprof_values.specs.Basic.{basic_of_code, width_of_basic}
use Rattle.hprof_values.specs.Entries.{lead_width, bits_width, judged_type, entry_end, entries_end, list_in, list_end}
use Rattle.hprof_values.specs.FieldGroups.{Bounds, ◌>>=◌, field_end, fields_in, reached}
use Rattle.hprof_values.specs.Ids.{width_of}
use Rattle.hprof_values.specs.Lists.{ids_in}
use Rattle.hprof_values.specs.Root.{root_fields}
use Rattle.hprof_values.specs.SubTag.{tag_of_code}
use Rattle.hprof_items.specs.ClassDump.{class_widths, class_of, class_at}
use Rattle.hprof_items.specs.FactValue.{FactValue, Rooted, Instance, ObjArray, PrimArray}
use Rattle.hprof_items.specs.SubRecord.{instance_widths, obj_array_widths, prim_array_widths, root_of, root_at, cut, instance_at}
use Rattle.hprof_items.specs.SubRecord.{obj_array_at, element_type, prim_array_at, dump_at, judged_tag, sub_at}
use Rattle.hprof_stream.proofs.Stops.{number}

-- ---- one test under two limits

-- under the smaller limit the answer is the same, or that the item is too long
abbrev IsCut : {A : Type 0} → Result A ParseStop → Result A ParseStop → Type 0
IsCut r s = (r ≡ Err TooLong) ⊎ (r ≡ s)

then_cut : {A B : Type 0} (r s : Result A ParseStop) (next later : A → Result B ParseStop) → IsCut r s
    → ((x : A) → IsCut (next x) (later x))
    → IsCut (r >>= next) (s >>= later)
then_cut r s next later (inl long) h = inl (ap (λ (x : Result _ ParseStop). x >>= next) long)
then_cut (Ok x) s next later (inr same) h =
    elim (h x) [ inl long ↦ inl long | inr more ↦ inr (more ∙ ap (λ (y : Result _ ParseStop). y >>= later) same) ]
then_cut (Err stop) s next later (inr same) h = inr (ap (λ (y : Result _ ParseStop). y >>= later) same)

-- the bounds with another limit
abbrev with_limit : Bounds → ℕ → Bounds
with_limit bounds less = record { room = bounds.room; longest = less; there = bounds.there }

-- the tests of a field
tests_cut : (past less_long long : Bool) (there : Result ℕ ParseStop) → (less_long ≡ false → long ≡ false)
    → IsCut (cond past (Err (Fault PastEnd)) (cond less_long (Err TooLong) there))
    (cond past (Err (Fault PastEnd)) (cond long (Err TooLong) there))
tests_cut true less_long long there h = inr refl
tests_cut false true long there h = inl refl
tests_cut false false long there h = inr (ap (λ (b : Bool). cond b (Err TooLong) there) (sym (h refl)))

module _ (less : ℕ) (bounds : Bounds) (le : less ≤ bounds.longest) where
  field_cut : (end : ℕ) → IsCut (field_end (with_limit bounds less) end) (field_end bounds end)
  field_cut end =
      tests_cut (ltb bounds.room end) (ltb less end) (ltb bounds.longest end) (cond (ltb bounds.there end) (Err Short) (Ok end))
      (λ short. le-ltb bounds.longest end (let h = ltb-false less end short in omega (arith, h, le)))

  reached_cut : (at : ℕ) (widths : List ℕ) → IsCut (reached (with_limit bounds less) at widths) (reached bounds at widths)
  reached_cut at [] = inr refl
  reached_cut at (width ∷ widths) =
      then_cut (field_end (with_limit bounds less) (at + width)) (field_end bounds (at + width))
      (λ (end : ℕ). reached (with_limit bounds less) end widths) (λ (end : ℕ). reached bounds end widths)
      (field_cut (at + width)) (λ end. reached_cut end widths)

  -- ---- the lists of a class

  entry_cut : (ids : IdSize) (kind : EntryKind) (bytes : List ℕ) (at : ℕ)
      → IsCut (entry_end ids kind (with_limit bounds less) bytes at) (entry_end ids kind bounds bytes at)
  unfolding entry_end
  entry_cut ids kind bytes at =
      let small : Bounds = with_limit bounds less in
      let lead : List ℕ = lead_width ids kind ∷ 1 ∷ [] in
      let typed : Result Basic ParseStop = judged_type (basic_of_code (slice_index bytes (at + lead_width ids kind))) in
      let last : Bounds → ℕ → Basic → Result ℕ ParseStop = λ limits front basic. reached limits front (bits_width ids kind basic ∷ []) in
      then_cut (reached small at lead) (reached bounds at lead) (λ (front : ℕ). typed >>= last small front)
      (λ (front : ℕ). typed >>= last bounds front) (reached_cut at lead)
      (λ front. then_cut typed typed (last small front) (last bounds front) (inr refl)
      (λ basic. reached_cut front (bits_width ids kind basic ∷ [])))

  entries_cut : (ids : IdSize) (kind : EntryKind) (bytes : List ℕ) (count at : ℕ)
      → IsCut (entries_end ids kind (with_limit bounds less) bytes count at) (entries_end ids kind bounds bytes count at)
  entries_cut ids kind bytes zero at = inr refl
  entries_cut ids kind bytes (suc count) at =
      let small : Bounds = with_limit bounds less in
      then_cut (entry_end ids kind small bytes at) (entry_end ids kind bounds bytes at)
      (λ (end : ℕ). entries_end ids kind small bytes count end) (λ (end : ℕ). entries_end ids kind bounds bytes count end)
      (entry_cut ids kind bytes at) (λ end. entries_cut ids kind bytes count end)

  list_cut : (ids : IdSize) (kind : EntryKind) (bytes : List ℕ) (at : ℕ)
      → IsCut (list_end ids kind (with_limit bounds less) bytes at) (list_end ids kind bounds bytes at)
  unfolding list_end
  list_cut ids kind bytes at =
      let small : Bounds = with_limit bounds less in
      let count : ℕ = number 2 (drop at bytes) in
      then_cut (reached small at (2 ∷ [])) (reached bounds at (2 ∷ [])) (λ (begin : ℕ). entries_end ids kind small bytes count begin)
      (λ (begin : ℕ). entries_end ids kind bounds bytes count begin)
      (reached_cut at (2 ∷ [])) (λ begin. entries_cut ids kind bytes count begin)

  class_cut : (ids : IdSize) (bytes : List ℕ) → IsCut (class_at ids (with_limit bounds less) bytes) (class_at ids bounds bytes)
  unfolding class_at
  class_cut ids bytes =
      let small : Bounds = with_limit bounds less in
      let numbers : List ℕ = fields_in (class_widths ids) (drop 1 bytes) in
      let made : ℕ → ℕ → ℕ → FactValue =
      λ at s f. class_of numbers (list_in ids kinds.Constant bytes at) (list_in ids kinds.Static bytes s)
      (list_in ids kinds.Field bytes f) in
      let last : Bounds → ℕ → ℕ → ℕ → Result (FactValue × ℕ) ParseStop =
      λ limits at s f. list_end ids kinds.Field limits bytes f >>= λ (end : ℕ). Ok (made at s f, end) in
      let third : Bounds → ℕ → ℕ → Result (FactValue × ℕ) ParseStop =
      λ limits at s. list_end ids kinds.Static limits bytes s >>= λ (f : ℕ). last limits at s f in
      let second : Bounds → ℕ → Result (FactValue × ℕ) ParseStop =
      λ limits at. list_end ids kinds.Constant limits bytes at >>= λ (s : ℕ). third limits at s in
      then_cut (reached small 1 (class_widths ids)) (reached bounds 1 (class_widths ids)) (second small) (second bounds)
      (reached_cut 1 (class_widths ids))
      (λ at. then_cut (list_end ids kinds.Constant small bytes at) (list_end ids kinds.Constant bounds bytes at)
      (λ (s : ℕ). third small at s) (λ (s : ℕ). third bounds at s)
      (list_cut ids kinds.Constant bytes at)
      (λ s. then_cut (list_end ids kinds.Static small bytes s) (list_end ids kinds.Static bounds bytes s) (λ (f : ℕ). last small at s f)
      (λ (f : ℕ). last bounds at s f)
      (list_cut ids kinds.Static bytes s)
      (λ f. then_cut (list_end ids kinds.Field small bytes f) (list_end ids kinds.Field bounds bytes f) (λ (end : ℕ). Ok (made at s f, end))
      (λ (end : ℕ). Ok (made at s f, end))
      (list_cut ids kinds.Field bytes f) (λ end. inr refl))))

  -- ---- the others

  -- a group of fields, and then one more, whose length the group says
  raw_cut : (widths : List ℕ) (len : ℕ) (made : ℕ → FactValue)
      → IsCut {A = FactValue × ℕ} (reached (with_limit bounds less) 1 widths
      >>= λ (front : ℕ). reached (with_limit bounds less) front (len ∷ []) >>= λ (end : ℕ). Ok (made front, end))
      (reached bounds 1 widths >>= λ (front : ℕ). reached bounds front (len ∷ []) >>= λ (end : ℕ). Ok (made front, end))
  raw_cut widths len made =
      let small : Bounds = with_limit bounds less in
      let answer : ℕ → ℕ → Result (FactValue × ℕ) ParseStop = λ front end. Ok (made front, end) in
      then_cut (reached small 1 widths) (reached bounds 1 widths) (λ (front : ℕ). reached small front (len ∷ []) >>= answer front)
      (λ (front : ℕ). reached bounds front (len ∷ []) >>= answer front)
      (reached_cut 1 widths)
      (λ front. then_cut (reached small front (len ∷ [])) (reached bounds front (len ∷ [])) (answer front) (answer front)
      (reached_cut front (len ∷ [])) (λ end. inr refl))

  root_cut : (ids : IdSize) (tag : SubTag) (bytes : List ℕ)
      → IsCut (root_at ids tag (with_limit bounds less) bytes) (root_at ids tag bounds bytes)
  unfolding root_at
  root_cut ids tag bytes =
      let widths : List ℕ = root_fields ids tag in
      let answer : ℕ → Result (FactValue × ℕ) ParseStop = λ end. Ok (Rooted (root_of tag (fields_in widths (drop 1 bytes))), end) in
      then_cut (reached (with_limit bounds less) 1 widths) (reached bounds 1 widths) answer answer (reached_cut 1 widths) (λ end. inr refl)

  instance_cut : (ids : IdSize) (bytes : List ℕ) → IsCut (instance_at ids (with_limit bounds less) bytes) (instance_at ids bounds bytes)
  unfolding instance_at
  instance_cut ids bytes =
      let numbers : List ℕ = fields_in (instance_widths ids) (drop 1 bytes) in
      let len : ℕ = slice_index numbers 3 in
      raw_cut (instance_widths ids) len (λ front. Instance (slice_index numbers 0) (slice_index numbers 1) (slice_index numbers 2)
      (cut len front bytes))

  obj_array_cut : (ids : IdSize) (bytes : List ℕ) → IsCut (obj_array_at ids (with_limit bounds less) bytes) (obj_array_at ids bounds bytes)
  unfolding obj_array_at
  obj_array_cut ids bytes =
      let numbers : List ℕ = fields_in (obj_array_widths ids) (drop 1 bytes) in
      let len : ℕ = slice_index numbers 2 * width_of ids in
      raw_cut (obj_array_widths ids) len (λ front. ObjArray (slice_index numbers 0) (slice_index numbers 1) (slice_index numbers 3)
      (ids_in ids (cut len front bytes)))

  prim_array_cut : (ids : IdSize) (bytes : List ℕ)
      → IsCut (prim_array_at ids (with_limit bounds less) bytes) (prim_array_at ids bounds bytes)
  unfolding prim_array_at
  prim_array_cut ids bytes =
      let small : Bounds = with_limit bounds less in
      let widths : List ℕ = prim_array_widths ids in
      let numbers : List ℕ = fields_in widths (drop 1 bytes) in
      let len : Basic → ℕ = λ elem. slice_index numbers 2 * width_of_basic ids elem in
      let typed : Result Basic ParseStop = element_type (basic_of_code (slice_index numbers 3)) in
      let answer : ℕ → Basic → ℕ → Result (FactValue × ℕ) ParseStop =
      λ front elem end. Ok (PrimArray (slice_index numbers 0) (slice_index numbers 1) elem (cut (len elem) front bytes), end) in
      let valued : Bounds → ℕ → Basic → Result (FactValue × ℕ) ParseStop =
      λ limits front elem. reached limits front (len elem ∷ []) >>= answer front elem in
      then_cut (reached small 1 widths) (reached bounds 1 widths) (λ (front : ℕ). typed >>= valued small front)
      (λ (front : ℕ). typed >>= valued bounds front) (reached_cut 1 widths)
      (λ front. then_cut typed typed (valued small front) (valued bounds front) (inr refl)
      (λ elem. then_cut (reached small front (len elem ∷ [])) (reached bounds front (len elem ∷ [])) (answer front elem) (answer front elem)
      (reached_cut front (len elem ∷ [])) (λ end. inr refl)))

  dump_cut : (ids : IdSize) (tag : SubTag) (bytes : List ℕ)
      → IsCut (dump_at ids tag (with_limit bounds less) bytes) (dump_at ids tag bounds bytes)
  dump_cut ids tags.ClassDump bytes = class_cut ids bytes
  dump_cut ids tags.InstanceDump bytes = instance_cut ids bytes
  dump_cut ids tags.ObjArrayDump bytes = obj_array_cut ids bytes
  dump_cut ids tags.PrimArrayDump bytes = prim_array_cut ids bytes
  dump_cut ids tag bytes = root_cut ids tag bytes

  -- the test whether there is a byte
  first_cut : (none : Bool) → IsCut (cond none (Err Short) (reached (with_limit bounds less) 0 (1 ∷ [])))
      (cond none (Err Short) (reached bounds 0 (1 ∷ [])))
  first_cut true = inr refl
  first_cut false = reached_cut 0 (1 ∷ [])

  pub sub_cut : (ids : IdSize) (bytes : List ℕ) → (sub_at ids (with_limit bounds less) bytes ≡ Err TooLong) ⊎
      (sub_at ids (with_limit bounds less) bytes ≡ sub_at ids bounds bytes)
  unfolding sub_at
  sub_cut ids bytes =
      let small : Bounds = with_limit bounds less in
      let tag : Result SubTag ParseStop = judged_tag (tag_of_code (slice_index bytes 0)) in
      let behind : Bounds → Result (FactValue × ℕ) ParseStop = λ limits. tag >>= λ (t : SubTag). dump_at ids t limits bytes in
      then_cut (cond (bounds.there == 0) (Err Short) (reached small 0 (1 ∷ [])))
      (cond (bounds.there == 0) (Err Short) (reached bounds 0 (1 ∷ [])))
      (λ (front : ℕ). behind small) (λ (front : ℕ). behind bounds) (first_cut (bounds.there == 0))
      (λ front. then_cut tag tag (λ (t : SubTag). dump_at ids t small bytes) (λ (t : SubTag). dump_at ids t bounds bytes) (inr refl)
      (λ t. dump_cut ids t bytes))
