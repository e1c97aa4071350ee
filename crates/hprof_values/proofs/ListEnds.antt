-- Lists of entries behind their counts: what passes its tests is spelled there, and what is spelled passes them.
use Rattle.std.proofs.Common.{◌≡◌, ℕ, zero, suc, ◌+◌, ◌-◌, ◌^◌, ◌<◌, ◌≤◌, List, [], ◌∷◌, ◌++◌, length, take, drop, Ok, Err, refl, sym, ap}
use Rattle.std.proofs.Common.{subst, ◌∙◌, append_assoc, append-nil, arith}
use Rattle.std.proofs.lemmas.List.{take_at, drop_at, length-append, length-drop}
use Rattle.std.proofs.Math.Seq.{drop-drop}
use Rattle.std.specs.Prelude.{sum}
use Rattle.byteorder.specs.Endian.{big_bytes, big_number}
use Rattle.byteorder.specs.Numbers.{big_from-lt, big_number-reads_back, length-bytes_high_first}
use Rattle.hprof_values.specs.declared.ids.IdSize.{IdSize}
use Rattle.hprof_values.specs.declared.parse_stop.ParseStop.{ParseStop}
use Rattle.hprof_values.specs.declared.entry.Entry.{Entry}
use Rattle.hprof_values.specs.declared.entry.EntryKind.{EntryKind}
use Rattle.hprof_values.specs.Ids.{IsBytes}
use Rattle.hprof_values.specs.FieldGroups.{Bounds, reached, IsWithin}
use Rattle.hprof_values.specs.Entries.{entry_len, entry_in, entry_bytes, entries_bytes, EntriesFit, entries_in, entry_end, entries_end}
use Rattle.hprof_values.specs.Entries.{list_bytes, ListFits, list_in, list_end}
use Rattle.hprof_values.proofs.Numbers.{IsBytes-drop, number_parts}
use Rattle.hprof_values.proofs.FieldGroups.{sum_widths, then_ok, then_next, then_stop, within-less, reached_within, reached_passed}
use Rattle.hprof_values.proofs.EntryLists.{length-entry, entry_passed, entry_passes, length-entries, entries_again}
use Rattle.hprof_values.proofs.Counting.{entries_fit}

-- ---- entries

-- so many entries are spelled between these places
pub record IsSpelledAt (ids : IdSize) (kind : EntryKind) (bytes : List ℕ) (count at end : ℕ) : Type 0 where
  pub spelled : drop at bytes ≡ entries_bytes ids kind (entries_in ids kind count (drop at bytes)) ++ drop end bytes
  pub ends : end ≡ at + length (entries_bytes ids kind (entries_in ids kind count (drop at bytes)))

-- the entry at a place, and then the others
spelled_more : (ids : IdSize) (kind : EntryKind) (bytes : List ℕ) (count at mid end : ℕ)
    → mid ≡ at + entry_len ids kind (entry_in ids kind (drop at bytes))
    → drop at bytes ≡ entry_bytes ids kind (entry_in ids kind (drop at bytes)) ++ drop mid bytes
    → IsSpelledAt ids kind bytes count mid end → IsSpelledAt ids kind bytes (suc count) at end
spelled_more ids kind bytes count at mid end ends spelled others =
    let entry = entry_in ids kind (drop at bytes) in
    let behind : drop (entry_len ids kind entry) (drop at bytes) ≡ drop mid bytes = drop-drop (entry_len ids kind entry) at bytes
    ∙ ap (λ (n : ℕ). drop n bytes) (sym ends) in
    let rest : List ℕ = entries_bytes ids kind (entries_in ids kind count (drop mid bytes)) in
    let same : entries_bytes ids kind (entries_in ids kind count (drop (entry_len ids kind entry) (drop at bytes))) ≡ rest =
    ap (λ (b : List ℕ). entries_bytes ids kind (entries_in ids kind count b)) behind in
    record {
      spelled = spelled ∙ ap (λ (r : List ℕ). entry_bytes ids kind entry ++ r) others.spelled
          ∙ sym (append_assoc (entry_bytes ids kind entry) rest (drop end bytes))
          ∙ ap (λ (r : List ℕ). (entry_bytes ids kind entry ++ r) ++ drop end bytes) (sym same);
      ends = omega (
        arith,
        ends,
        others.ends,
        length-append (entry_bytes ids kind entry)
            (entries_bytes ids kind (entries_in ids kind count (drop (entry_len ids kind entry) (drop at bytes)))),
        length-entry ids kind entry,
        ap length same,
      );
    }

-- entries that passed their tests are spelled there
pub entries_passed : (ids : IdSize) (kind : EntryKind) (bounds : Bounds) (bytes : List ℕ) (count at end : ℕ) → IsBytes bytes
    → bounds.there ≤ length bytes → IsWithin bounds at
    → entries_end ids kind bounds bytes count at ≡ Ok end → IsSpelledAt ids kind bytes count at end × IsWithin bounds end
entries_passed ids kind bounds bytes zero at end are there within e =
    let same : at ≡ end = cc in
    (record { spelled = ap (λ (n : ℕ). drop n bytes) same; ends = omega (arith, same) }, subst (IsWithin bounds) same within)
entries_passed ids kind bounds bytes (suc count) at end are there within e =
    let first = then_ok (entry_end ids kind bounds bytes at) (λ (mid : ℕ). entries_end ids kind bounds bytes count mid) end e in
    let entry = entry_passed ids kind bounds bytes at first.0 are there first.1 in
    let others = entries_passed ids kind bounds bytes count first.0 end are there entry.1 first.2 in
    (spelled_more ids kind bytes count at first.0 end entry.0.ends entry.0.spelled others.0, others.1)

-- entries that are spelled there pass their tests
pub entries_pass : (ids : IdSize) (kind : EntryKind) (bounds : Bounds) (bytes : List ℕ) (entries : List Entry) (rest : List ℕ) (at : ℕ)
    → EntriesFit ids kind entries
    → drop at bytes ≡ entries_bytes ids kind entries ++ rest → IsWithin bounds (at + length (entries_bytes ids kind entries))
    → entries_end ids kind bounds bytes (length entries) at ≡ Ok (at + length (entries_bytes ids kind entries))
entries_pass ids kind bounds bytes [] rest at fits spelled within = ap Ok (omega arith)
entries_pass ids kind bounds bytes (entry ∷ entries) rest at fits spelled within =
    let others : List ℕ = entries_bytes ids kind entries ++ rest in
    let len = length-entry ids kind entry in
    let all = length-append (entry_bytes ids kind entry) (entries_bytes ids kind entries) in
    let end : ℕ = at + length (entries_bytes ids kind (entry ∷ entries)) in
    let mid : ℕ = at + entry_len ids kind entry in
    let front : drop at bytes ≡ entry_bytes ids kind entry ++ others =
    spelled ∙ append_assoc (entry_bytes ids kind entry) (entries_bytes ids kind entries) rest in
    let back : drop mid bytes ≡ others = ap (λ (n : ℕ). drop n bytes) (omega (arith, len))
    ∙ sym (drop-drop (length (entry_bytes ids kind entry)) at bytes)
    ∙ ap (drop (length (entry_bytes ids kind entry))) front ∙ drop_at (entry_bytes ids kind entry) others
    (length (entry_bytes ids kind entry)) refl in
    let first = entry_passes ids kind bounds bytes at entry others fits.0 front
    (within-less bounds mid end (omega (arith, len, all)) within) in
    let more = entries_pass ids kind bounds bytes entries rest mid fits.1 back
    (within-less bounds (mid + length (entries_bytes ids kind entries)) end (omega (arith, len, all)) within) in
    then_next (entry_end ids kind bounds bytes at) (λ (e : ℕ). entries_end ids kind bounds bytes (length entries) e) mid first ∙ more
    ∙ ap Ok (omega (arith, len, all))

-- an entry that stops stops them all
pub entries_stop : (ids : IdSize) (kind : EntryKind) (bounds : Bounds) (bytes : List ℕ) (left at : ℕ) (stop : ParseStop) → 0 < left
    → entry_end ids kind bounds bytes at ≡ Err stop
    → entries_end ids kind bounds bytes left at ≡ Err stop
entries_stop ids kind bounds bytes zero at stop some e = absurd (omega arith)
entries_stop ids kind bounds bytes (suc left) at stop some e = then_stop (entry_end ids kind bounds bytes at) (λ (end : ℕ).
    entries_end ids kind bounds bytes left end) stop e

-- the bytes between the places, by themselves
pub record IsSpan (ids : IdSize) (kind : EntryKind) (bytes span : List ℕ) (count at : ℕ) : Type 0 where
  pub entries : entries_in ids kind count span ≡ entries_in ids kind count (drop at bytes)
  pub spelled : span ≡ entries_bytes ids kind (entries_in ids kind count span)

pub span_between : (ids : IdSize) (kind : EntryKind) (bytes span : List ℕ) (count at end : ℕ) → IsBytes bytes
    → IsSpelledAt ids kind bytes count at end → span ≡ take (end - at) (drop at bytes)
    → IsSpan ids kind bytes span count at
span_between ids kind bytes span count at end are is cut =
    let entries : List Entry = entries_in ids kind count (drop at bytes) in
    let body : List ℕ = entries_bytes ids kind entries in
    let whole : span ≡ body = cut ∙ ap (take (end - at)) is.spelled ∙ take_at body (drop end bytes) (end - at) (omega (arith, is.ends)) in
    let again : entries_in ids kind (length entries) (body ++ []) ≡ entries =
    entries_again ids kind entries [] (entries_fit ids kind count (drop at bytes) (IsBytes-drop at bytes are)) in
    let same : entries_in ids kind count span ≡ entries =
    ap (entries_in ids kind count) (whole ∙ sym (append-nil body)) ∙ ap (λ (n : ℕ). entries_in ids kind n (body ++ []))
    (sym (length-entries ids kind count (drop at bytes))) ∙ again in
    record { entries = same; spelled = whole ∙ ap (entries_bytes ids kind) (sym same) }

-- ---- a list behind its count

-- a list that passed its tests is spelled there
pub record IsListAt (ids : IdSize) (kind : EntryKind) (bounds : Bounds) (bytes : List ℕ) (at end : ℕ) : Type 0 where
  pub fits : ListFits ids kind (list_in ids kind bytes at)
  pub spelled : drop at bytes ≡ list_bytes ids kind (list_in ids kind bytes at) ++ drop end bytes
  pub ends : end ≡ at + length (list_bytes ids kind (list_in ids kind bytes at))
  pub entries : IsSpelledAt ids kind bytes (big_number 2 (drop at bytes)) (at + 2) end
  pub within : IsWithin bounds end

-- how long a list is
length-list : (ids : IdSize) (kind : EntryKind) (entries : List Entry) → length (list_bytes ids kind entries)
    ≡ 2 + length (entries_bytes ids kind entries)
length-list ids kind entries = omega (
  arith,
  length-append (big_bytes 2 (length entries)) (entries_bytes ids kind entries),
  length-bytes_high_first 2 (length entries),
)

-- where its entries begin, and how many there are
pub list_parts : (ids : IdSize) (kind : EntryKind) (bounds : Bounds) (bytes : List ℕ) (at first end : ℕ) → bounds.there ≤ length bytes
    → reached bounds at (2 ∷ []) ≡ Ok first
    → entries_end ids kind bounds bytes (big_number 2 (drop at bytes)) first ≡ Ok end → IsBytes bytes
    → IsSpelledAt ids kind bytes (big_number 2 (drop at bytes)) (at + 2) end × (first ≡ at + 2)
list_parts ids kind bounds bytes at first end there begin e are =
    let passed = reached_passed bounds at 2 [] first begin in
    let two : first ≡ at + 2 = omega (arith, passed.0, sum_widths 2 []) in
    let behind = entries_passed ids kind bounds bytes (big_number 2 (drop at bytes)) first end are there passed.1 e in
    (subst (λ (n : ℕ). IsSpelledAt ids kind bytes (big_number 2 (drop at bytes)) n end) two behind.0, two)

pub list_passed : (ids : IdSize) (kind : EntryKind) (bounds : Bounds) (bytes : List ℕ) (at end : ℕ) → IsBytes bytes
    → bounds.there ≤ length bytes
    → list_end ids kind bounds bytes at ≡ Ok end → IsListAt ids kind bounds bytes at end
unfolding list_end
list_passed ids kind bounds bytes at end are there e =
    let count : ℕ = big_number 2 (drop at bytes) in
    let entries : List Entry = list_in ids kind bytes at in
    let first = then_ok (reached bounds at (2 ∷ [])) (λ (begin : ℕ). entries_end ids kind bounds bytes count begin) end e in
    let passed = reached_passed bounds at 2 [] first.0 first.1 in
    let lies = list_parts ids kind bounds bytes at first.0 end there first.1 first.2 are in
    let spelled = lies.0 in
    let behind = entries_passed ids kind bounds bytes count first.0 end are there passed.1 first.2 in
    let len : length entries ≡ count = length-entries ids kind count (drop (at + 2) bytes) in
    let few : count < 256 ^ 2 = big_from-lt 0 2 (drop at bytes) (IsBytes-drop at bytes are) in
    let parts = number_parts 2 (drop at bytes) (IsBytes-drop at bytes are) (omega (
      arith,
      length-drop at bytes,
      passed.1.there,
      lies.1,
      there,
    )) in
    let back : drop 2 (drop at bytes) ≡ drop (at + 2) bytes = drop-drop 2 at bytes ∙ ap (λ (n : ℕ). drop n bytes) (omega arith) in
    record {
      fits = (entries_fit ids kind count (drop (at + 2) bytes) (IsBytes-drop (at + 2) bytes are), omega (arith, len, few));
      spelled = parts ∙ ap (λ (r : List ℕ). big_bytes 2 count ++ r) (back ∙ spelled.spelled)
          ∙ sym (append_assoc (big_bytes 2 count) (entries_bytes ids kind entries) (drop end bytes))
          ∙ ap (λ (n : ℕ). (big_bytes 2 n ++ entries_bytes ids kind entries) ++ drop end bytes) (sym len);
      ends = omega (arith, spelled.ends, length-list ids kind entries);
      entries = spelled;
      within = behind.1;
    }

-- what was read of a list whose count is there and whose entries passed their tests
pub record IsListSpan (ids : IdSize) (kind : EntryKind) (bytes span : List ℕ) (count at first end : ℕ) : Type 0 where
  pub ends : first ≤ end
  pub entries : entries_in ids kind count span ≡ list_in ids kind bytes at
  pub spelled : span ≡ entries_bytes ids kind (entries_in ids kind count span)

pub list_span : (ids : IdSize) (kind : EntryKind) (bounds : Bounds) (bytes span : List ℕ) (count at first end : ℕ) → IsBytes bytes
    → bounds.there ≤ length bytes
    → count ≡ big_number 2 (drop at bytes) → reached bounds at (2 ∷ []) ≡ Ok first → entries_end ids kind bounds bytes count first ≡ Ok end
    → span ≡ take (end - first) (drop first bytes) → IsListSpan ids kind bytes span count at first end
list_span ids kind bounds bytes span count at first end are there counted begin e cut =
    let lies = list_parts ids kind bounds bytes at first end there begin (ap (λ (n : ℕ). entries_end ids kind bounds bytes n first)
    (sym counted) ∙ e) are in
    let is = subst (λ (n : ℕ). IsSpelledAt ids kind bytes n (at + 2) end) (sym counted) lies.0 in
    let between = span_between ids kind bytes span count (at + 2) end are is (subst (λ (n : ℕ). span ≡ take (end - n) (drop n bytes))
    lies.1 cut) in
    record {
      ends = omega (arith, is.ends, lies.1);
      entries = between.entries ∙ ap (λ (n : ℕ). entries_in ids kind n (drop (at + 2) bytes)) counted;
      spelled = between.spelled;
    }

-- a list that is spelled there passes its tests, and is read
pub list_passes : (ids : IdSize) (kind : EntryKind) (bounds : Bounds) (bytes : List ℕ) (entries : List Entry) (rest : List ℕ) (at : ℕ)
    → ListFits ids kind entries
    → drop at bytes ≡ list_bytes ids kind entries ++ rest → IsWithin bounds (at + length (list_bytes ids kind entries))
    → (list_end ids kind bounds bytes at ≡ Ok (at + length (list_bytes ids kind entries))) × (list_in ids kind bytes at ≡ entries)
    × (drop (at + length (list_bytes ids kind entries)) bytes ≡ rest)
unfolding list_end
list_passes ids kind bounds bytes entries rest at fits spelled within =
    let body : List ℕ = entries_bytes ids kind entries in
    let end : ℕ = at + length (list_bytes ids kind entries) in
    let len = length-list ids kind entries in
    let front : drop at bytes ≡ big_bytes 2 (length entries) ++ (body ++ rest) =
    spelled ∙ append_assoc (big_bytes 2 (length entries)) body rest in
    let count : big_number 2 (drop at bytes) ≡ length entries =
    ap (big_number 2) front ∙ big_number-reads_back 2 (length entries) (body ++ rest) (omega (arith, fits.1)) in
    let back : drop (at + 2) bytes ≡ body ++ rest =
    ap (λ (n : ℕ). drop n bytes) (omega arith) ∙ sym (drop-drop 2 at bytes) ∙ ap (drop 2) front ∙ drop_at (big_bytes 2 (length entries))
    (body ++ rest) 2 (length-bytes_high_first 2 (length entries)) in
    let first : reached bounds at (2 ∷ []) ≡ Ok (at + 2) =
    reached_within bounds at (2 ∷ []) (within-less bounds (at + sum (2 ∷ [])) end (omega (arith, len, sum_widths 2 [])) within)
    ∙ ap Ok (omega (arith, sum_widths 2 [])) in
    let more = entries_pass ids kind bounds bytes entries rest (at + 2) fits.0 back (within-less bounds (at + 2 + length body) end
    (omega (arith, len)) within) in (
      then_next (reached bounds at (2 ∷ [])) (λ (begin : ℕ). entries_end ids kind bounds bytes (big_number 2 (drop at bytes)) begin)
          (at + 2) first
          ∙ ap (λ (n : ℕ). entries_end ids kind bounds bytes n (at + 2)) count ∙ more ∙ ap Ok (omega (arith, len)),
      ap (λ (n : ℕ). entries_in ids kind n (drop (at + 2) bytes)) count ∙ ap (entries_in ids kind (length entries)) back
          ∙ entries_again ids kind entries rest fits.0,
      sym (drop-drop (length (list_bytes ids kind entries)) at bytes ∙ ap (λ (n : ℕ). drop n bytes) (omega arith))
          ∙ ap (drop (length (list_bytes ids kind entries))) spelled ∙ drop_at (list_bytes ids kind entries) rest
          (length (list_bytes ids kind entries)) refl,
    )
