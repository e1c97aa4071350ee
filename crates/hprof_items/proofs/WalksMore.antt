-- More bytes behind those that are there: what was read stays, and a test that did not want for bytes answers the same.
use Rattle.std.proofs.Common.{◌≡◌, ℕ, zero, suc, ◌+◌, ◌≤◌, ◌⊎◌, inl, inr, List, [], ◌∷◌, ◌++◌, length, take, drop, Option, Some, None}
use Rattle.std.proofs.Common.{Result, Ok, Err, refl, sym, ap, ◌∙◌, arith}
use Rattle.std.proofs.lemmas.List.{drop-append-le, get_or-drop, length-drop, take-append-le}
use Rattle.std.proofs.Math.ListN.{get_or-append}
use Rattle.std.proofs.Math.Seq.{drop-drop}
use Rattle.std.specs.Prelude.{sum, slice_index, unwrap_or}
use Rattle.byteorder.specs.Endian.{big_number}
use Rattle.byteorder.specs.Numbers.{big_from-append}
use Rattle.hprof_values.specs.declared.ids.IdSize.{IdSize}
use Rattle.hprof_values.specs.declared.basic.Basic.{Basic}
use Rattle.hprof_values.specs.declared.basic.Basic.TheVariants as basics
use Rattle.hprof_values.specs.declared.entry.Entry.{Entry}
use Rattle.hprof_values.specs.declared.entry.EntryKind.{EntryKind}
use Rattle.hprof_values.specs.declared.parse_stop.ParseStop.{ParseStop}
use Rattle.hprof_values.specs.declared.parse_stop.ParseStop.TheVariants.{Short}
use Rattle.hprof_values.specs.Basic.{basic_of_code}
use Rattle.hprof_values.specs.FieldGroups.{fields_in, Bounds, ◌>>=◌, reached, IsWithin, with_more}
use Rattle.hprof_values.specs.Entries.{lead_width, bits_width, entry_len, type_in, typed_entry, entry_in, entries_in, judged_type}
use Rattle.hprof_values.specs.Entries.{entry_end, entries_end, list_in, list_end}
use Rattle.hprof_values.proofs.FieldGroups.{sum_widths, then_ok, then_stop, then_more, reached_passed, reached_more}

-- ---- what was read

-- a byte that is there
pub byte_more : (bytes more : List ℕ) (at : ℕ) → at + 1 ≤ length bytes → slice_index (bytes ++ more) at ≡ slice_index bytes at
byte_more bytes more at there = get_or-append bytes more 0 at (omega arith)

-- the numbers in a group of fields
pub fields_more : (widths bytes more : List ℕ) → sum widths ≤ length bytes → fields_in widths (bytes ++ more) ≡ fields_in widths bytes
fields_more [] bytes more there = refl
fields_more (w ∷ ws) bytes more there =
    let all = sum_widths w ws in
    let first : big_number w (bytes ++ more) ≡ big_number w bytes = big_from-append w bytes more (omega arith) in
    let others : fields_in ws (drop w (bytes ++ more)) ≡ fields_in ws (drop w bytes) =
    ap (fields_in ws) (drop-append-le w bytes more (omega arith))
    ∙ fields_more ws (drop w bytes) more (omega (arith, length-drop w bytes)) in
    rw (first, others) refl

-- the numbers in fields at a place
pub fields_more_at : (widths bytes more : List ℕ) (at : ℕ) → at + sum widths ≤ length bytes
    → fields_in widths (drop at (bytes ++ more)) ≡ fields_in widths (drop at bytes)
fields_more_at widths bytes more at there =
    ap (fields_in widths) (drop-append-le at bytes more (omega arith))
    ∙ fields_more widths (drop at bytes) more (omega (arith, length-drop at bytes))

-- a number at a place
pub number_more : (width at : ℕ) (bytes more : List ℕ) → at + width ≤ length bytes
    → big_number width (drop at (bytes ++ more)) ≡ big_number width (drop at bytes)
number_more width at bytes more there =
    ap (big_number width) (drop-append-le at bytes more (omega arith))
    ∙ big_from-append width (drop at bytes) more (omega (arith, length-drop at bytes))

-- a field of bytes
pub cut_more : (len at : ℕ) (bytes more : List ℕ) → at + len ≤ length bytes → take len (drop at (bytes ++ more)) ≡ take len (drop at bytes)
cut_more len at bytes more there =
    ap (take len) (drop-append-le at bytes more (omega arith))
    ∙ take-append-le len (drop at bytes) more (omega (arith, length-drop at bytes))

-- ---- tests, one after the other

-- the answer is the one that more bytes give, or more bytes are wanted
abbrev pub IsSettled : {A : Type 0} → Result A ParseStop → Result A ParseStop → Type 0
IsSettled r s = (r ≡ Err Short) ⊎ (s ≡ r)

-- two steps, the second of which may rest on what the first one answered
pub then_more_at : {A B : Type 0} (r s : Result A ParseStop) (next later : A → Result B ParseStop) → IsSettled r s
    → ((x : A) → r ≡ Ok x → IsSettled (next x) (later x))
    → IsSettled (r >>= next) (s >>= later)
then_more_at r s next later (inl short) h = inl (then_stop r next Short short)
then_more_at (Ok x) s next later (inr same) h =
    elim (h x refl) [ inl short ↦ inl short | inr more ↦ inr (ap (λ (r : Result _ ParseStop). r >>= later) same ∙ more) ]
then_more_at (Err stop) s next later (inr same) h = inr (ap (λ (r : Result _ ParseStop). r >>= later) same)

-- ---- entries

-- where an entry ends
pub entry_more : (ids : IdSize) (kind : EntryKind) (bounds : Bounds) (bytes more : List ℕ) (at : ℕ) → bounds.there ≤ length bytes
    → IsSettled (entry_end ids kind bounds bytes at) (entry_end ids kind (with_more bounds (length more)) (bytes ++ more) at)
unfolding entry_end
entry_more ids kind bounds bytes more at there =
    let lead = lead_width ids kind in
    let longer = with_more bounds (length more) in
    let valued : Bounds → ℕ → Basic → Result ℕ ParseStop = λ limits front basic. reached limits front (bits_width ids kind basic ∷ []) in
    let typed : List ℕ → Result Basic ParseStop = λ all. judged_type (basic_of_code (slice_index all (at + lead))) in
    then_more_at (reached bounds at (lead ∷ 1 ∷ [])) (reached longer at (lead ∷ 1 ∷ []))
    (λ (front : ℕ). typed bytes >>= valued bounds front) (λ (front : ℕ). typed (bytes ++ more) >>= valued longer front)
    (reached_more bounds at (length more) (lead ∷ 1 ∷ []))
    (λ front passed.
    let lies = reached_passed bounds at lead (1 ∷ []) front passed in
    let code = byte_more bytes more (at + lead) (omega (arith, lies.0, lies.1.there, sum_widths lead (1 ∷ []), sum_widths 1 [])) in
    then_more (typed bytes) (typed (bytes ++ more)) (valued bounds front) (valued longer front)
    (inr (ap (λ (c : ℕ). judged_type (basic_of_code c)) code))
    (λ basic. reached_more bounds front (length more) (bits_width ids kind basic ∷ [])))

-- where so many entries end
pub entries_more : (ids : IdSize) (kind : EntryKind) (bounds : Bounds) (bytes more : List ℕ) (count at : ℕ) → bounds.there ≤ length bytes
    → IsSettled (entries_end ids kind bounds bytes count at)
    (entries_end ids kind (with_more bounds (length more)) (bytes ++ more) count at)
entries_more ids kind bounds bytes more zero at there = inr refl
entries_more ids kind bounds bytes more (suc count) at there =
    let longer = with_more bounds (length more) in
    then_more (entry_end ids kind bounds bytes at) (entry_end ids kind longer (bytes ++ more) at)
    (λ (end : ℕ). entries_end ids kind bounds bytes count end) (λ (end : ℕ). entries_end ids kind longer (bytes ++ more) count end)
    (entry_more ids kind bounds bytes more at there) (λ end. entries_more ids kind bounds bytes more count end there)

-- a count that is there stays
pub count_more : (bounds : Bounds) (bytes more : List ℕ) (at begin : ℕ) → bounds.there ≤ length bytes
    → reached bounds at (2 ∷ []) ≡ Ok begin
    → big_number 2 (drop at (bytes ++ more)) ≡ big_number 2 (drop at bytes)
count_more bounds bytes more at begin there passed =
    let lies = reached_passed bounds at 2 [] begin passed in
    number_more 2 at bytes more (omega (arith, lies.0, lies.1.there, sum_widths 2 []))

-- where a list ends
pub list_more : (ids : IdSize) (kind : EntryKind) (bounds : Bounds) (bytes more : List ℕ) (at : ℕ) → bounds.there ≤ length bytes
    → IsSettled (list_end ids kind bounds bytes at) (list_end ids kind (with_more bounds (length more)) (bytes ++ more) at)
unfolding list_end
list_more ids kind bounds bytes more at there =
    let longer = with_more bounds (length more) in
    let ends : Bounds → List ℕ → ℕ → ℕ → Result ℕ ParseStop = λ limits all count begin. entries_end ids kind limits all count begin in
    let count : List ℕ → ℕ = λ all. big_number 2 (drop at all) in
    then_more_at (reached bounds at (2 ∷ [])) (reached longer at (2 ∷ []))
    (ends bounds bytes (count bytes)) (ends longer (bytes ++ more) (count (bytes ++ more)))
    (reached_more bounds at (length more) (2 ∷ []))
    (λ begin passed.
    elim (entries_more ids kind bounds bytes more (count bytes) begin there) [
      | inl short ↦ inl short
      | inr same ↦ inr (ap (λ (n : ℕ). ends longer (bytes ++ more) n begin) (count_more bounds bytes more at begin there passed) ∙ same)
    ])

-- ---- the entries themselves

-- a code that was right
judged_ok : (o : Option Basic) (basic : Basic) → judged_type o ≡ Ok basic → o ≡ Some basic
judged_ok None basic e = absurd cc
judged_ok (Some other) basic e = ap Some (cc)

-- the type of the entry at a place
type_place : (lead at : ℕ) (bytes : List ℕ) → slice_index (drop lead (drop at bytes)) 0 ≡ slice_index bytes (at + lead)
type_place lead at bytes = get_or-drop lead (drop at bytes) 0 0 ∙ get_or-drop at bytes (lead + 0) 0 ∙ ap (slice_index bytes) (omega arith)

-- an entry that passed its tests ends where its bytes do
pub entry_lies : (ids : IdSize) (kind : EntryKind) (bounds : Bounds) (bytes : List ℕ) (at end : ℕ)
    → entry_end ids kind bounds bytes at ≡ Ok end
    → (end ≡ at + entry_len ids kind (entry_in ids kind (drop at bytes))) × IsWithin bounds end
unfolding entry_end
entry_lies ids kind bounds bytes at end e =
    let lead = lead_width ids kind in
    let found = basic_of_code (slice_index bytes (at + lead)) in
    let first = then_ok (reached bounds at (lead ∷ 1 ∷ []))
    (λ (front : ℕ). judged_type found >>= λ (basic : Basic). reached bounds front (bits_width ids kind basic ∷ [])) end e in
    let second = then_ok (judged_type found) (λ (basic : Basic). reached bounds first.0 (bits_width ids kind basic ∷ [])) end first.2 in
    let basic = second.0 in
    let typed : basic_of_code (slice_index (drop lead (drop at bytes)) 0) ≡ Some basic =
    ap basic_of_code (type_place lead at bytes) ∙ judged_ok found basic second.1 in
    let is : (entry_in ids kind (drop at bytes)).basic ≡ basic = ap (λ (o : Option Basic). unwrap_or o basics.Array) typed in
    let width : bits_width ids kind (entry_in ids kind (drop at bytes)).basic ≡ bits_width ids kind basic = ap (bits_width ids kind) is in
    let front = reached_passed bounds at lead (1 ∷ []) first.0 first.1 in
    let last = reached_passed bounds first.0 (bits_width ids kind basic) [] end second.2 in
    (omega (arith, front.0, last.0, width, sum_widths lead (1 ∷ []), sum_widths 1 [], sum_widths (bits_width ids kind basic) []), last.1)

-- an entry that is there
entry_in_more : (ids : IdSize) (kind : EntryKind) (bytes more : List ℕ) → entry_len ids kind (entry_in ids kind bytes) ≤ length bytes
    → entry_in ids kind (bytes ++ more) ≡ entry_in ids kind bytes
entry_in_more ids kind bytes more there =
    let lead = lead_width ids kind in
    let kept : List ℕ → Basic → Entry = λ all basic. typed_entry ids kind basic all in
    let type_of : List ℕ → Basic = λ all. type_in (drop lead all) in
    let code : slice_index (drop lead (bytes ++ more)) 0 ≡ slice_index (drop lead bytes) 0 =
    ap (λ (r : List ℕ). slice_index r 0) (drop-append-le lead bytes more (omega arith))
    ∙ byte_more (drop lead bytes) more 0 (omega (arith, length-drop lead bytes)) in
    let typed : type_of (bytes ++ more) ≡ type_of bytes = ap (λ (c : ℕ). unwrap_or (basic_of_code c) basics.Array) code in
    let basic = type_of bytes in
    let number : big_number lead (bytes ++ more) ≡ big_number lead bytes = big_from-append lead bytes more (omega arith) in
    let width = bits_width ids kind basic in
    let bits : big_number width (drop (lead + 1) (bytes ++ more)) ≡ big_number width (drop (lead + 1) bytes) =
    number_more width (lead + 1) bytes more there in
    ap (kept (bytes ++ more)) typed
    ∙ ap (λ (n : ℕ). record { number = n; basic = basic; bits = big_number width (drop (lead + 1) (bytes ++ more)) }) number
    ∙ ap (λ (b : ℕ). record { number = big_number lead bytes; basic = basic; bits = b }) bits

-- the bytes behind an entry that is there
rest_more : (ids : IdSize) (kind : EntryKind) (count : ℕ) (bytes more : List ℕ) (at end : ℕ)
    → end ≡ at + entry_len ids kind (entry_in ids kind (drop at bytes)) → end ≤ length bytes
    → entries_in ids kind (suc count) (drop at (bytes ++ more))
    ≡ entry_in ids kind (drop at bytes) ∷ entries_in ids kind count (drop end (bytes ++ more))
rest_more ids kind count bytes more at end ends there =
    let len = entry_len ids kind (entry_in ids kind (drop at bytes)) in
    let moved : drop at (bytes ++ more) ≡ drop at bytes ++ more = drop-append-le at bytes more (omega arith) in
    let same : entry_in ids kind (drop at (bytes ++ more)) ≡ entry_in ids kind (drop at bytes) =
    ap (entry_in ids kind) moved ∙ entry_in_more ids kind (drop at bytes) more (omega (arith, length-drop at bytes)) in
    ap (λ (e : Entry). e ∷ entries_in ids kind count (drop (entry_len ids kind e) (drop at (bytes ++ more)))) same
    ∙ ap (λ (r : List ℕ). entry_in ids kind (drop at bytes) ∷ entries_in ids kind count r)
    (drop-drop len at (bytes ++ more) ∙ ap (λ (n : ℕ). drop n (bytes ++ more)) (sym ends))

-- entries that are there
entries_in_more : (ids : IdSize) (kind : EntryKind) (bounds : Bounds) (bytes more : List ℕ) (count at end : ℕ) → bounds.there ≤ length bytes
    → entries_end ids kind bounds bytes count at ≡ Ok end
    → entries_in ids kind count (drop at (bytes ++ more)) ≡ entries_in ids kind count (drop at bytes)
entries_in_more ids kind bounds bytes more zero at end there e = refl
entries_in_more ids kind bounds bytes more (suc count) at end there e =
    let len = entry_len ids kind (entry_in ids kind (drop at bytes)) in
    let first = then_ok (entry_end ids kind bounds bytes at) (λ (last : ℕ). entries_end ids kind bounds bytes count last) end e in
    let lies = entry_lies ids kind bounds bytes at first.0 first.1 in
    let rest : drop len (drop at bytes) ≡ drop first.0 bytes = drop-drop len at bytes ∙ ap (λ (n : ℕ). drop n bytes) (sym lies.0) in
    rest_more ids kind count bytes more at first.0 lies.0 (omega (arith, lies.1.there))
    ∙ ap (λ (es : List Entry). entry_in ids kind (drop at bytes) ∷ es)
    (entries_in_more ids kind bounds bytes more count first.0 end there first.2 ∙ ap (entries_in ids kind count) (sym rest))

-- a list that is there
pub list_in_more : (ids : IdSize) (kind : EntryKind) (bounds : Bounds) (bytes more : List ℕ) (at end : ℕ) → bounds.there ≤ length bytes
    → list_end ids kind bounds bytes at ≡ Ok end → list_in ids kind (bytes ++ more) at ≡ list_in ids kind bytes at
unfolding list_end
list_in_more ids kind bounds bytes more at end there e =
    let first = then_ok (reached bounds at (2 ∷ []))
    (λ (begin : ℕ). entries_end ids kind bounds bytes (big_number 2 (drop at bytes)) begin) end e in
    let lies = reached_passed bounds at 2 [] first.0 first.1 in
    let begin : first.0 ≡ at + 2 = omega (arith, lies.0, sum_widths 2 []) in
    let ends : entries_end ids kind bounds bytes (big_number 2 (drop at bytes)) (at + 2) ≡ Ok end =
    ap (entries_end ids kind bounds bytes (big_number 2 (drop at bytes))) (sym begin) ∙ first.2 in
    ap (λ (n : ℕ). entries_in ids kind n (drop (at + 2) (bytes ++ more))) (count_more bounds bytes more at first.0 there first.1)
    ∙ entries_in_more ids kind bounds bytes more (big_number 2 (drop at bytes)) (at + 2) end there ends
