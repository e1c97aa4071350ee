-- The sub-record of a class: what is read is spelled so, and what is spelled is read.
use Rattle.std.proofs.Common.{◌≡◌, ℕ, ◌+◌, ◌≤◌, List, [], ◌∷◌, ◌++◌, length, drop, Result, Ok, sym, ap, ◌∙◌, append_assoc, arith}
use Rattle.std.proofs.lemmas.List.{length-append, length-drop}
use Rattle.std.proofs.Math.Seq.{drop-drop}
use Rattle.std.specs.Prelude.{sum}
use Rattle.hprof_values.specs.declared.ids.IdSize.{IdSize}
use Rattle.hprof_values.specs.declared.entry.Entry.{Entry}
use Rattle.hprof_values.specs.declared.entry.EntryKind.TheVariants as kinds
use Rattle.hprof_values.specs.declared.parse_stop.ParseStop.{ParseStop}
use Rattle.hprof_values.specs.Ids.{width_of, IsBytes}
use Rattle.hprof_values.specs.FieldGroups.{field_bytes, fields_in, Bounds, ◌>>=◌, reached, IsWithin}
use Rattle.hprof_values.specs.Entries.{list_bytes, ListFits, list_in, list_end}
use Rattle.hprof_items.specs.FactValue.{FactValue, Class}
use Rattle.hprof_items.specs.ClassDump.{class_widths, class_lists, class_of, class_at}
use Rattle.hprof_items.specs.SubRecord.{class_numbers, dump_bytes, DumpFits, IsDumpOf}
use Rattle.hprof_values.proofs.Numbers.{IsBytes-drop}
use Rattle.hprof_values.proofs.FieldGroups.{length-fields, fields_again, fields_rest, fields_fit, fields_found, then_ok, then_next}
use Rattle.hprof_values.proofs.FieldGroups.{within-less, reached_within, reached_passed}
use Rattle.hprof_values.proofs.ListEnds.{IsListAt, list_passed, list_passes}
use Rattle.hprof_items.proofs.SubRecords.{along_answer}

-- ---- three lists, one behind the other

-- what is left to read once the fields were read
abbrev lists_at : IdSize → Bounds → List ℕ → List ℕ → ℕ → Result (FactValue × ℕ) ParseStop
lists_at ids bounds bytes numbers front =
    list_end ids kinds.Constant bounds bytes front >>= λ statics.
    list_end ids kinds.Static bounds bytes statics >>= λ fields.
    list_end ids kinds.Field bounds bytes fields >>= λ end.
    Ok (
      class_of numbers (list_in ids kinds.Constant bytes front) (list_in ids kinds.Static bytes statics)
          (list_in ids kinds.Field bytes fields),
      end,
    )

-- lists that are spelled there are read
lists_again : (ids : IdSize) (bounds : Bounds) (bytes numbers : List ℕ) (constants statics fields : List Entry) (rest : List ℕ) (at : ℕ)
    → ListFits ids kinds.Constant constants → ListFits ids kinds.Static statics → ListFits ids kinds.Field fields
    → drop at bytes ≡ class_lists ids constants statics fields ++ rest
    → IsWithin bounds (at + length (class_lists ids constants statics fields))
    → lists_at ids bounds bytes numbers at ≡ Ok (
      class_of numbers constants statics fields,
      at + length (class_lists ids constants statics fields),
    )
lists_again ids bounds bytes numbers constants statics fields rest at fit_constants fit_statics fit_fields spelled within =
    let a : List ℕ = list_bytes ids kinds.Constant constants in
    let b : List ℕ = list_bytes ids kinds.Static statics in
    let c : List ℕ = list_bytes ids kinds.Field fields in
    let all : ℕ = at + length (class_lists ids constants statics fields) in
    let lens : length (class_lists ids constants statics fields) ≡ length a + (length b + length c) =
    omega (arith, length-append a (b ++ c), length-append b c) in
    let parts : class_lists ids constants statics fields ++ rest ≡ a ++ (b ++ (c ++ rest)) = append_assoc a (b ++ c) rest
    ∙ ap (λ (r : List ℕ). a ++ r) (append_assoc b c rest) in
    let first = list_passes ids kinds.Constant bounds bytes constants (b ++ (c ++ rest)) at fit_constants (spelled ∙ parts)
    (within-less bounds (at + length a) all (omega (arith, lens)) within) in
    let second = list_passes ids kinds.Static bounds bytes statics (c ++ rest) (at + length a) fit_statics first.2
    (within-less bounds (at + length a + length b) all (omega (arith, lens)) within) in
    let third = list_passes ids kinds.Field bounds bytes fields rest (at + length a + length b) fit_fields second.2
    (within-less bounds (at + length a + length b + length c) all (omega (arith, lens)) within) in
    let in_constants : List Entry = list_in ids kinds.Constant bytes at in
    let last : ℕ → ℕ → ℕ → Result (FactValue × ℕ) ParseStop =
    λ s f end. Ok (class_of numbers in_constants (list_in ids kinds.Static bytes s) (list_in ids kinds.Field bytes f), end) in
    then_next (list_end ids kinds.Constant bounds bytes at)
    (λ (s : ℕ). list_end ids kinds.Static bounds bytes s >>= λ (f : ℕ). list_end ids kinds.Field bounds bytes f >>= λ (end : ℕ).
    last s f end) (at + length a) first.0
    ∙ then_next (list_end ids kinds.Static bounds bytes (at + length a)) (λ (f : ℕ). list_end ids kinds.Field bounds bytes f
    >>= λ (end : ℕ). last (at + length a) f end) (at + length a + length b) second.0
    ∙ then_next (list_end ids kinds.Field bounds bytes (at + length a + length b)) (λ (end : ℕ).
    last (at + length a) (at + length a + length b) end) (at + length a + length b + length c) third.0
    ∙ ap (λ (es : List Entry). Ok (
      class_of numbers es (list_in ids kinds.Static bytes (at + length a))
          (list_in ids kinds.Field bytes (at + length a + length b)),
      at + length a + length b + length c,
    )) first.1
    ∙ ap (λ (es : List Entry). Ok (
      class_of numbers constants es (list_in ids kinds.Field bytes (at + length a + length b)),
      at + length a + length b + length c,
    )) second.1
    ∙ ap (λ (es : List Entry). Ok (class_of numbers constants statics es, at + length a + length b + length c)) third.1
    ∙ ap (λ (n : ℕ). Ok (class_of numbers constants statics fields, n)) (omega (arith, lens))

-- three lists that passed their tests are spelled there
record AreListsAt (ids : IdSize) (bounds : Bounds) (bytes : List ℕ) (constants statics fields : List Entry) (at end : ℕ) : Type 0 where
  fit_constants : ListFits ids kinds.Constant constants
  fit_statics : ListFits ids kinds.Static statics
  fit_fields : ListFits ids kinds.Field fields
  spelled : drop at bytes ≡ class_lists ids constants statics fields ++ drop end bytes
  ends : end ≡ at + length (class_lists ids constants statics fields)
  within : IsWithin bounds end

three_lists : (ids : IdSize) (bounds : Bounds) (bytes : List ℕ) (at statics fields end : ℕ)
    → IsListAt ids kinds.Constant bounds bytes at statics → IsListAt ids kinds.Static bounds bytes statics fields
    → IsListAt ids kinds.Field bounds bytes fields end
    → AreListsAt ids bounds bytes (list_in ids kinds.Constant bytes at) (list_in ids kinds.Static bytes statics)
    (list_in ids kinds.Field bytes fields) at end
three_lists ids bounds bytes at statics fields end first second third =
    let a : List ℕ = list_bytes ids kinds.Constant (list_in ids kinds.Constant bytes at) in
    let b : List ℕ = list_bytes ids kinds.Static (list_in ids kinds.Static bytes statics) in
    let c : List ℕ = list_bytes ids kinds.Field (list_in ids kinds.Field bytes fields) in
    record {
      fit_constants = first.fits;
      fit_statics = second.fits;
      fit_fields = third.fits;
      spelled = first.spelled ∙ ap (λ (r : List ℕ). a ++ r) (second.spelled ∙ ap (λ (r : List ℕ). b ++ r) third.spelled)
          ∙ sym (append_assoc a (b ++ c) (drop end bytes) ∙ ap (λ (r : List ℕ). a ++ r) (append_assoc b c (drop end bytes)));
      ends = omega (arith, first.ends, second.ends, third.ends, length-append a (b ++ c), length-append b c);
      within = third.within;
    }

-- ---- a class

-- a class that is spelled is read, whatever follows
pub class_again : (ids : IdSize) (bounds : Bounds) (id trace parent loader signers domain reserved1 reserved2 size : ℕ)
    (constants statics fields : List Entry) (rest bytes : List ℕ)
    → DumpFits ids (Class id trace parent loader signers domain reserved1 reserved2 size constants statics fields)
    → drop 1 bytes ≡ drop 1 (dump_bytes ids (Class id trace parent loader signers domain reserved1 reserved2 size constants statics
    fields)) ++ rest
    → IsWithin bounds (length (dump_bytes ids (Class id trace parent loader signers domain reserved1 reserved2 size constants statics
    fields)))
    → class_at ids bounds bytes ≡ Ok (
      Class id trace parent loader signers domain reserved1 reserved2 size constants statics fields,
      length (dump_bytes ids (Class id trace parent loader signers domain reserved1 reserved2 size constants statics fields)),
    )
unfolding class_at
class_again ids bounds id trace parent loader signers domain reserved1 reserved2 size constants statics fields rest bytes fits spelled
    within =
    let widths : List ℕ = class_widths ids in
    let numbers : List ℕ = class_numbers id trace parent loader signers domain reserved1 reserved2 size in
    let front : List ℕ = field_bytes widths numbers in
    let lists : List ℕ = class_lists ids constants statics fields in
    let at : ℕ = 1 + sum widths in
    let len = length-fields widths numbers fits.0 in
    let all : ℕ = length (dump_bytes ids (Class id trace parent loader signers domain reserved1 reserved2 size constants statics fields)) in
    let ends : at + length lists ≡ all = omega (arith, len, length-append front lists) in
    let parts : drop 1 bytes ≡ front ++ (lists ++ rest) = spelled ∙ append_assoc front lists rest in
    let again : fields_in widths (drop 1 bytes) ≡ numbers = ap (fields_in widths) parts
    ∙ fields_again widths numbers (lists ++ rest) fits.0 in
    let back : drop at bytes ≡ lists ++ rest = sym (drop-drop (sum widths) 1 bytes) ∙ ap (drop (sum widths)) parts
    ∙ fields_rest widths numbers (lists ++ rest) fits.0 in
    let first = reached_within bounds 1 widths (within-less bounds at all (omega (arith, ends)) within) in
    then_next (reached bounds 1 widths) (λ (f : ℕ). lists_at ids bounds bytes (fields_in widths (drop 1 bytes)) f) at first
    ∙ ap (λ (ns : List ℕ). lists_at ids bounds bytes ns at) again
    ∙ lists_again ids bounds bytes numbers constants statics fields rest at fits.1 fits.2 fits.3 back
    (within-less bounds (at + length lists) all (omega (arith, ends)) within)
    ∙ ap (λ (n : ℕ). Ok (Class id trace parent loader signers domain reserved1 reserved2 size constants statics fields, n)) ends

-- a class that is read is spelled there
pub class_found : (ids : IdSize) (bounds : Bounds) (bytes : List ℕ) (fact : FactValue) (n : ℕ) → IsBytes bytes → bounds.there ≤ length bytes
    → class_at ids bounds bytes ≡ Ok (fact, n) → IsDumpOf ids bounds bytes fact n
unfolding class_at
class_found ids bounds bytes fact n are there e =
    let widths : List ℕ = class_widths ids in
    let numbers : List ℕ = fields_in widths (drop 1 bytes) in
    let first = then_ok (reached bounds 1 widths) (λ (f : ℕ). lists_at ids bounds bytes numbers f) (fact, n) e in
    let at = first.0 in
    let second = then_ok (list_end ids kinds.Constant bounds bytes at)
    (λ (s : ℕ). list_end ids kinds.Static bounds bytes s >>= λ (f : ℕ). list_end ids kinds.Field bounds bytes f >>= λ (end : ℕ).
    Ok (
      class_of numbers (list_in ids kinds.Constant bytes at) (list_in ids kinds.Static bytes s) (list_in ids kinds.Field bytes f),
      end,
    )) (fact, n) first.2 in
    let third = then_ok (list_end ids kinds.Static bounds bytes second.0)
    (λ (f : ℕ). list_end ids kinds.Field bounds bytes f >>= λ (end : ℕ).
    Ok (
      class_of numbers (list_in ids kinds.Constant bytes at) (list_in ids kinds.Static bytes second.0)
          (list_in ids kinds.Field bytes f),
      end,
    )) (fact, n) second.2 in
    let last = then_ok (list_end ids kinds.Field bounds bytes third.0)
    (λ (end : ℕ). Ok (
      class_of numbers (list_in ids kinds.Constant bytes at) (list_in ids kinds.Static bytes second.0)
          (list_in ids kinds.Field bytes third.0),
      end,
    )) (fact, n) third.2 in
    let lists = three_lists ids bounds bytes at second.0 third.0 last.0 (list_passed ids kinds.Constant bounds bytes at second.0 are
    there second.1)
    (list_passed ids kinds.Static bounds bytes second.0 third.0 are there third.1)
    (list_passed ids kinds.Field bounds bytes third.0 last.0 are there last.1) in
    let spelled_lists : List ℕ = class_lists ids (list_in ids kinds.Constant bytes at) (list_in ids kinds.Static bytes second.0)
    (list_in ids kinds.Field bytes third.0) in
    let passed = reached_passed bounds 1 (width_of ids) (4 ∷ width_of ids ∷ width_of ids ∷ width_of ids ∷ width_of ids ∷ width_of ids
    ∷ width_of ids ∷ 4 ∷ []) at first.1 in
    let found = fields_found widths (drop 1 bytes) (IsBytes-drop 1 bytes are)
    (omega (arith, length-drop 1 bytes, passed.1.there, passed.0, there)) in
    let fits = fields_fit widths (drop 1 bytes) (IsBytes-drop 1 bytes are) in
    let back : drop (sum widths) (drop 1 bytes) ≡ drop at bytes = drop-drop (sum widths) 1 bytes
    ∙ ap (λ (k : ℕ). drop k bytes) (sym passed.0) in
    let made : FactValue = class_of numbers (list_in ids kinds.Constant bytes at) (list_in ids kinds.Static bytes second.0)
    (list_in ids kinds.Field bytes third.0) in
    let is : IsDumpOf ids bounds bytes made last.0 = record {
      fits = (fits, lists.fit_constants, lists.fit_statics, lists.fit_fields);
      spelled = found ∙ ap (λ (r : List ℕ). field_bytes widths numbers ++ r) (back ∙ lists.spelled)
          ∙ sym (append_assoc (field_bytes widths numbers) spelled_lists (drop last.0 bytes));
      ends = omega (
        arith,
        lists.ends,
        passed.0,
        length-append (field_bytes widths numbers) spelled_lists,
        length-fields widths numbers fits,
      );
      within = lists.within;
    } in
    along_answer ids bounds bytes made fact last.0 n last.2 is
