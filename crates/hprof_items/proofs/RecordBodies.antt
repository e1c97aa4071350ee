-- The body of a record is the spelling of one fact, for any tag: what is read is spelled so, and what is spelled is read.
use Rattle.std.proofs.Common.{◌≡◌, ℕ, ◌*◌, ◌/◌, ◌%◌, ◌^◌, ◌<◌, ◌≤◌, true, cond, eqb, List, [], ◌∷◌, ◌++◌, length, drop, Some, Result, Ok}
use Rattle.std.proofs.Common.{Err, refl, sym, ap, subst, ◌∙◌, arith}
use Rattle.std.proofs.Math.Facts.{sfits_to_z}
use Rattle.std.proofs.lemmas.Bool.{cond-true, eq-eqb, eqb-true, leb-true}
use Rattle.std.proofs.lemmas.Int.{of_z-to_z, to_z-of_z}
use Rattle.std.proofs.lemmas.List.{drop_all}
use Rattle.std.specs.Int.{w32, cast_signed, cast_unsigned}
use Rattle.std.specs.Prelude.{ℤ, FitsSigned, sum, slice_index}
use Rattle.byteorder.specs.Endian.{big_number}
use Rattle.byteorder.specs.Numbers.{big_from-lt, big_number-reads_back}
use Rattle.hprof_values.specs.declared.ids.IdSize.{IdSize}
use Rattle.hprof_values.specs.declared.reason.Reason.{Reason}
use Rattle.hprof_values.specs.declared.reason.Reason.TheVariants.{BadLength}
use Rattle.hprof_values.specs.declared.record_tag.RecordTag.{RecordTag}
use Rattle.hprof_values.specs.declared.record_tag.RecordTag.TheVariants as tags
use Rattle.hprof_values.specs.Ids.{width_of, IsBytes}
use Rattle.hprof_values.specs.FieldGroups.{field_bytes, fields_in, FitFields}
use Rattle.hprof_values.specs.Lists.{id_widths, IsIdList, ids_in}
use Rattle.hprof_values.specs.RecordTag.{code_of_record, record_of_code, record_fields}
use Rattle.hprof_values.proofs.Numbers.{IsBytes-drop, same_parts}
use Rattle.hprof_values.proofs.FieldGroups.{length-fields, fields_again, fields_rest, fields_fit, fields_found}
use Rattle.hprof_values.proofs.IdLists.{sum-id_widths, ids_whole, length-ids, ids_found, ids_again}
use Rattle.hprof_items.specs.Head.{record_bytes}
use Rattle.hprof_items.specs.Spelling.{longest_body}
use Rattle.hprof_items.specs.FactValue.{FactValue, Name, Load, Unload, Frame, Trace, Start, End}
use Rattle.hprof_items.specs.RecordBody.{is_legal_body, record_of, record_numbers, record_rest, record_body, RestFits, BodyFits, stated_by}
use Rattle.hprof_items.specs.RecordBody.{record_at}
use Rattle.hprof_items.proofs.Steps.{held}

-- ---- what is spelled is read

-- what the record of the fact's own tag states, that of an equal tag does
by_tag : (ids : IdSize) (own tag : RecordTag) (numbers rest : List ℕ) (fact : FactValue) → Some own ≡ Some tag
    → stated_by ids own numbers rest ≡ Ok fact
    → stated_by ids tag numbers rest ≡ Ok fact
by_tag ids own tag numbers rest fact is e = let same : own ≡ tag =
    cc in subst (λ (t : RecordTag). stated_by ids t numbers rest ≡ Ok fact) same e

-- a trace has as many frames as it says
trace_again : (ids : IdSize) (serial thread : ℕ) (frames : List ℕ) → RestFits ids (Trace serial thread frames)
    → stated_by ids tags.Trace (record_numbers (Trace serial thread frames)) (record_rest ids (Trace serial thread frames))
    ≡ Ok (Trace serial thread frames)
trace_again ids serial thread frames fits =
    let widths : List ℕ = id_widths ids (length frames) in
    let raw : List ℕ = field_bytes widths frames in
    let size : length raw ≡ length frames * width_of ids = length-fields widths frames fits ∙ sum-id_widths ids (length frames) in
    let list : IsIdList ids frames raw = record { fits = fits; spelled = refl } in
    cond-true (eqb (length raw) (length frames * width_of ids)) (Ok (Trace serial thread (ids_in ids raw))) (Err BadLength)
    (eq-eqb _ _ size)
    ∙ ap (λ (read : List ℕ). Ok (Trace serial thread read)) (ids_again ids frames raw list).1

-- the numbers and the bytes of a fact state it
stated_again : (ids : IdSize) (tag : RecordTag) (fact : FactValue) → record_of fact ≡ Some tag → RestFits ids fact
    → stated_by ids tag (record_numbers fact) (record_rest ids fact) ≡ Ok fact
stated_again ids tag (Name id text) is fits = by_tag ids tags.Utf8 tag (id ∷ []) text (Name id text) is refl
stated_again ids tag (Load serial class trace name) is fits =
    by_tag ids tags.LoadClass tag (serial ∷ class ∷ trace ∷ name ∷ []) [] (Load serial class trace name) is refl
stated_again ids tag (Unload serial) is fits = by_tag ids tags.UnloadClass tag (serial ∷ []) [] (Unload serial) is refl
stated_again ids tag (Frame id method signature source class_serial line) is fits =
    let fact : FactValue = Frame id method signature source class_serial line in
    by_tag ids tags.Frame tag (record_numbers fact) [] fact is (ap (λ (n : ℤ). Ok (Frame id method signature source class_serial n))
    (to_z-of_z w32 line fits))
stated_again ids tag (Trace serial thread frames) is fits =
    let fact : FactValue = Trace serial thread frames in
    by_tag ids tags.Trace tag (record_numbers fact) (record_rest ids fact) fact is (trace_again ids serial thread frames fits)
stated_again ids tag (Start thread object trace name group parent_group) is fits =
    let fact : FactValue = Start thread object trace name group parent_group in
    by_tag ids tags.StartThread tag (record_numbers fact) [] fact is refl
stated_again ids tag (End thread) is fits = by_tag ids tags.EndThread tag (thread ∷ []) [] (End thread) is refl
stated_again ids tag _ is fits = absurd cc

-- the body of a fact is read as that fact
pub record_again : (ids : IdSize) (tag : RecordTag) (fact : FactValue) → BodyFits ids tag fact
    → record_at ids tag (record_body ids tag fact) ≡ Ok fact
unfolding record_at
record_again ids tag fact fits =
    let widths : List ℕ = record_fields ids tag in
    let numbers : List ℕ = record_numbers fact in
    let rest : List ℕ = record_rest ids fact in
    let body : List ℕ = record_body ids tag fact in
    ap (λ (ns : List ℕ). stated_by ids tag ns (drop (sum widths) body)) (fields_again widths numbers rest fits.numbers)
    ∙ ap (stated_by ids tag numbers) (fields_rest widths numbers rest fits.numbers)
    ∙ stated_again ids tag fact fits.is fits.rest

-- ---- what is read is spelled so

-- the fact is that of the fields at the front of the body and of the bytes behind them
record IsStated (ids : IdSize) (tag : RecordTag) (body : List ℕ) (fact : FactValue) : Type 0 where
  is : record_of fact ≡ Some tag
  numbers : record_numbers fact ≡ fields_in (record_fields ids tag) body
  rest : record_rest ids fact ≡ drop (sum (record_fields ids tag)) body
  fits : RestFits ids fact

-- a reading gives one fact
pub given : (x y : FactValue) (r : Result FactValue Reason) → r ≡ Ok x → r ≡ Ok y → x ≡ y
given x y r p q = cc

-- and no fault beside it
pub never_faulty : (fact : FactValue) (reason : Reason) (r : Result FactValue Reason) → r ≡ Ok fact → r ≡ Err reason → ⊥
never_faulty fact reason r p q = cc

-- so what holds of the one that was read holds of the one that was given
along : (ids : IdSize) (tag : RecordTag) (body : List ℕ) (x fact : FactValue) (r : Result FactValue Reason) → r ≡ Ok x → r ≡ Ok fact
    → IsStated ids tag body x → IsStated ids tag body fact
along ids tag body x fact r p q is = subst (IsStated ids tag body) (given x fact r p q) is

-- a trace that passed its test
counted : (a b : ℕ) (x fact : FactValue) → cond (eqb a b) (Ok x) (Err BadLength) ≡ Ok fact → (a ≡ b) × (x ≡ fact)
counted a b x fact e =
    let never : Err BadLength ≡ Ok fact → ⊥ = λ h. cc in
    let test = held (eqb a b) (Ok x) (Err BadLength) (Ok fact) never e in
    (eqb-true a b test.0, (let h = test.1 in cc))

-- a line, whatever its bits are
line_bits : (body : List ℕ) → IsBytes body
    → (FitsSigned w32 (cast_signed w32 (big_number 4 body))) × (cast_unsigned w32 (cast_signed w32 (big_number 4 body)) ≡ big_number 4 body)
line_bits body are =
    let below : big_number 4 body < 256 ^ 4 = big_from-lt 0 4 body are in
    let fits : big_number 4 body < 2 ^ 32 = omega (arith, below) in
    (sfits_to_z {w = w32} (record { fits = fits }), of_z-to_z w32 (big_number 4 body) fits)

-- nothing stands behind the fields of a record that is no longer than they are
nothing_more : (widths body : List ℕ) → eqb (length body) (sum widths) ≡ true → [] ≡ drop (sum widths) body
nothing_more widths body legal = let same = eqb-true _ _ legal in sym (drop_all (sum widths) body (omega arith))

-- a frame that is read
frame_stated : (ids : IdSize) (body : List ℕ) (fact : FactValue) → IsBytes body → is_legal_body ids tags.Frame (length body) ≡ true
    → record_at ids tags.Frame body ≡ Ok fact → IsStated ids tags.Frame body fact
unfolding record_at
frame_stated ids body fact are legal e =
    let widths : List ℕ = record_fields ids tags.Frame in
    let numbers : List ℕ = fields_in widths body in
    let front : ℕ → List ℕ =
    λ line. slice_index numbers 0 ∷ slice_index numbers 1 ∷ slice_index numbers 2 ∷ slice_index numbers 3 ∷ slice_index numbers 4 ∷ line
    ∷ [] in
    let made : FactValue =
    Frame (slice_index numbers 0) (slice_index numbers 1) (slice_index numbers 2) (slice_index numbers 3) (slice_index numbers 4)
    (cast_signed w32 (slice_index numbers 5)) in
    let before : List ℕ = drop 4 (drop (width_of ids) (drop (width_of ids) (drop (width_of ids) (drop (width_of ids) body)))) in
    let are_before : IsBytes before =
    IsBytes-drop 4 _ (IsBytes-drop (width_of ids) _
    (IsBytes-drop (width_of ids) _ (IsBytes-drop (width_of ids) _ (IsBytes-drop (width_of ids) body are)))) in
    let line = line_bits before are_before in
    along ids tags.Frame body made fact (record_at ids tags.Frame body) refl e (record {
      is = refl;
      numbers = ap front line.1;
      rest = nothing_more widths body legal;
      fits = line.0;
    })

-- a trace that is read
trace_stated : (ids : IdSize) (body : List ℕ) (fact : FactValue) → IsBytes body → record_at ids tags.Trace body ≡ Ok fact
    → IsStated ids tags.Trace body fact
unfolding record_at
trace_stated ids body fact are e =
    let widths : List ℕ = record_fields ids tags.Trace in
    let numbers : List ℕ = fields_in widths body in
    let serial : ℕ = slice_index numbers 0 in
    let thread : ℕ = slice_index numbers 1 in
    let count : ℕ = slice_index numbers 2 in
    let rest : List ℕ = drop (sum widths) body in
    let frames : List ℕ = ids_in ids rest in
    let test = counted (length rest) (count * width_of ids) (Trace serial thread frames) fact e in
    let whole : length rest % width_of ids ≡ 0 = ap (λ (n : ℕ). n % width_of ids) test.0 ∙ (ids_whole ids count).0 in
    let many : length frames ≡ count = length-ids ids rest ∙ ap (λ (n : ℕ). n / width_of ids) test.0 ∙ (ids_whole ids count).1 in
    let list : IsIdList ids frames rest = ids_found ids rest (IsBytes-drop (sum widths) body are) whole in
    subst (IsStated ids tags.Trace body) test.1 (record {
      is = refl;
      numbers = ap (λ (n : ℕ). serial ∷ thread ∷ n ∷ []) many;
      rest = sym list.spelled;
      fits = list.fits;
    })

-- any record that is read
stated_found : (ids : IdSize) (tag : RecordTag) (body : List ℕ) (fact : FactValue) → IsBytes body → is_legal_body ids tag (length body)
    ≡ true
    → record_at ids tag body ≡ Ok fact → IsStated ids tag body fact
unfolding record_at
stated_found ids tags.Utf8 body fact are legal e =
    let widths : List ℕ = record_fields ids tags.Utf8 in
    let made : FactValue = Name (big_number (width_of ids) body) (drop (sum widths) body) in
    along ids tags.Utf8 body made fact (record_at ids tags.Utf8 body) refl e
    (record { is = refl; numbers = refl; rest = refl; fits = IsBytes-drop (sum widths) body are })
stated_found ids tags.LoadClass body fact are legal e =
    let numbers : List ℕ = fields_in (record_fields ids tags.LoadClass) body in
    let made : FactValue = Load (slice_index numbers 0) (slice_index numbers 1) (slice_index numbers 2) (slice_index numbers 3) in
    along ids tags.LoadClass body made fact (record_at ids tags.LoadClass body) refl e
    (record { is = refl; numbers = refl; rest = nothing_more (record_fields ids tags.LoadClass) body legal; fits = tt })
stated_found ids tags.UnloadClass body fact are legal e =
    along ids tags.UnloadClass body (Unload (big_number 4 body)) fact (record_at ids tags.UnloadClass body) refl e
    (record { is = refl; numbers = refl; rest = nothing_more (record_fields ids tags.UnloadClass) body legal; fits = tt })
stated_found ids tags.Frame body fact are legal e = frame_stated ids body fact are legal e
stated_found ids tags.Trace body fact are legal e = trace_stated ids body fact are e
stated_found ids tags.StartThread body fact are legal e =
    let numbers : List ℕ = fields_in (record_fields ids tags.StartThread) body in
    let made : FactValue =
    Start (slice_index numbers 0) (slice_index numbers 1) (slice_index numbers 2) (slice_index numbers 3) (slice_index numbers 4)
    (slice_index numbers 5) in
    along ids tags.StartThread body made fact (record_at ids tags.StartThread body) refl e
    (record { is = refl; numbers = refl; rest = nothing_more (record_fields ids tags.StartThread) body legal; fits = tt })
stated_found ids tags.EndThread body fact are legal e =
    along ids tags.EndThread body (End (big_number 4 body)) fact (record_at ids tags.EndThread body) refl e
    (record { is = refl; numbers = refl; rest = nothing_more (record_fields ids tags.EndThread) body legal; fits = tt })

-- a record of a length that it may have has all of its fields
has_fields : (ids : IdSize) (tag : RecordTag) (len : ℕ) → is_legal_body ids tag len ≡ true → sum (record_fields ids tag) ≤ len
has_fields ids tags.Utf8 len legal = leb-true _ _ legal
has_fields ids tags.Trace len legal = leb-true _ _ legal
has_fields ids _ len legal = let same = eqb-true _ _ legal in omega arith

-- a fact that is read has its body there
pub record_found : (ids : IdSize) (tag : RecordTag) (body : List ℕ) (fact : FactValue) → IsBytes body
    → is_legal_body ids tag (length body) ≡ true
    → record_at ids tag body ≡ Ok fact → BodyFits ids tag fact × (body ≡ record_body ids tag fact)
record_found ids tag body fact are legal e =
    let widths : List ℕ = record_fields ids tag in
    let is = stated_found ids tag body fact are legal e in
    let found = fields_found widths body are (has_fields ids tag (length body) legal) in (
      record { is = is.is; numbers = subst (FitFields widths) (sym is.numbers) (fields_fit widths body are); rest = is.fits },
      found ∙ ap (λ (ns : List ℕ). field_bytes widths ns ++ drop (sum widths) body) (sym is.numbers)
          ∙ ap (λ (r : List ℕ). field_bytes widths (record_numbers fact) ++ r) (sym is.rest),
    )

-- ---- no spelling begins another

-- the tag of a byte is the tag that the byte stands for
pub record_code_again : (tag : RecordTag) → record_of_code (code_of_record tag) ≡ Some tag
record_code_again tags.Utf8 = refl
record_code_again tags.LoadClass = refl
record_code_again tags.UnloadClass = refl
record_code_again tags.Frame = refl
record_code_again tags.Trace = refl
record_code_again tags.StartThread = refl
record_code_again tags.EndThread = refl

-- one byte stands for one tag
same_tag : (tag other : RecordTag) → code_of_record tag ≡ code_of_record other → tag ≡ other
same_tag tag other e =
    let same : Some tag ≡ Some other = sym (record_code_again tag) ∙ ap record_of_code e ∙ record_code_again other in
    cc

pub record_once : (ids : IdSize) (fact other : FactValue) (tag tag_too : RecordTag) (rest more : List ℕ) → BodyFits ids tag fact
    → BodyFits ids tag_too other
    → length (record_body ids tag fact) ≤ longest_body → length (record_body ids tag_too other) ≤ longest_body
    → record_bytes (code_of_record tag) 0 (record_body ids tag fact) ++ rest ≡ record_bytes (code_of_record tag_too) 0
    (record_body ids tag_too other) ++ more
    → (fact ≡ other) × (rest ≡ more)
record_once ids fact other tag tag_too rest more fits fits_too short short_too e =
    let body : List ℕ = record_body ids tag fact in
    let body_too : List ℕ = record_body ids tag_too other in
    let below : length body < 256 ^ 4 = omega (arith, short) in
    let below_too : length body_too < 256 ^ 4 = omega (arith, short_too) in
    let len : length body ≡ length body_too =
    sym (big_number-reads_back 4 (length body) (body ++ rest) below)
    ∙ ap (λ (x : List ℕ). big_number 4 (drop 5 x)) e
    ∙ big_number-reads_back 4 (length body_too) (body_too ++ more) below_too in
    let tags_same : tag ≡ tag_too = same_tag tag tag_too (ap (λ (x : List ℕ). slice_index x 0) e) in
    let parts = same_parts body rest body_too more len (ap (drop 9) e) in
    let read : record_at ids tag body ≡ Ok other =
    ap (λ (t : RecordTag). record_at ids t body) tags_same ∙ ap (record_at ids tag_too) parts.0 ∙ record_again ids tag_too other fits_too in
    (given fact other (record_at ids tag body) (record_again ids tag fact fits) read, parts.1)
