-- Sub-records of a group of fields and at most one further field: what is read is spelled so, and what is spelled is read.
use Rattle.std.proofs.Common.{◌≡◌, ℕ, ◌+◌, ◌≤◌, true, List, [], ◌∷◌, ◌++◌, length, take, drop, Result, Ok, refl, sym, ap, subst, ◌∙◌}
use Rattle.std.proofs.Common.{append_assoc, arith}
use Rattle.std.proofs.lemmas.List.{take_at, length-append, length-drop, length-take-le, take-append-drop}
use Rattle.std.proofs.Math.Seq.{drop-drop}
use Rattle.std.specs.Prelude.{sum, slice_index}
use Rattle.hprof_values.specs.declared.ids.IdSize.{IdSize}
use Rattle.hprof_values.specs.declared.parse_stop.ParseStop.{ParseStop}
use Rattle.hprof_values.specs.declared.root.Root.{Root}
use Rattle.hprof_values.specs.declared.root.Root.TheVariants as roots
use Rattle.hprof_values.specs.declared.sub_tag.SubTag.{SubTag}
use Rattle.hprof_values.specs.declared.sub_tag.SubTag.TheVariants as tags
use Rattle.hprof_values.specs.Ids.{width_of, IsBytes}
use Rattle.hprof_values.specs.FieldGroups.{field_bytes, fields_in, FitFields, Bounds, ◌>>=◌, reached, IsWithin}
use Rattle.hprof_values.specs.Root.{tag_of_root, root_fields, root_numbers, root_bytes, RootFits}
use Rattle.hprof_items.specs.FactValue.{FactValue, Rooted, Instance}
use Rattle.hprof_items.specs.SubRecord.{cut, instance_widths, instance_numbers, instance_at, root_of, root_at, dump_bytes, DumpFits}
use Rattle.hprof_items.specs.SubRecord.{is_root_tag, IsDumpOf}
use Rattle.hprof_values.proofs.Numbers.{IsBytes-drop, IsBytes-take}
use Rattle.hprof_values.proofs.FieldGroups.{sum_widths, length-fields, fields_again, fields_rest, fields_fit, fields_found, then_ok}
use Rattle.hprof_values.proofs.FieldGroups.{then_next, within-less, reached_within, reached_passed}

-- ---- a group of fields behind the tag, and then so many bytes

-- where both passed their tests
pub record IsDumpAt (bounds : Bounds) (widths : List ℕ) (len : ℕ) (bytes : List ℕ) (front end : ℕ) : Type 0 where
  pub ends_front : front ≡ 1 + sum widths
  pub ends : end ≡ front + len
  pub within : IsWithin bounds end
  pub parts : drop 1 bytes ≡ field_bytes widths (fields_in widths (drop 1 bytes)) ++ (cut len front bytes ++ drop end bytes)
  pub raw : length (cut len front bytes) ≡ len
  pub fits : FitFields widths (fields_in widths (drop 1 bytes))
  pub are : IsBytes (cut len front bytes)

pub dump_found : (bounds : Bounds) (w : ℕ) (ws : List ℕ) (len : ℕ) (bytes : List ℕ) (front end : ℕ) → IsBytes bytes
    → bounds.there ≤ length bytes
    → reached bounds 1 (w ∷ ws) ≡ Ok front → reached bounds front (len ∷ []) ≡ Ok end → IsDumpAt bounds (w ∷ ws) len bytes front end
dump_found bounds w ws len bytes front end are there first second =
    let widths : List ℕ = w ∷ ws in
    let a = reached_passed bounds 1 w ws front first in
    let b = reached_passed bounds front len [] end second in
    let one : sum (len ∷ []) ≡ len = omega (arith, sum_widths len []) in
    let ends : end ≡ front + len = omega (arith, b.0, one) in
    let long : sum widths ≤ length (drop 1 bytes) = omega (arith, length-drop 1 bytes, a.1.there, a.0, there) in
    let found = fields_found widths (drop 1 bytes) (IsBytes-drop 1 bytes are) long in
    let back : drop (sum widths) (drop 1 bytes) ≡ drop front bytes = drop-drop (sum widths) 1 bytes
    ∙ ap (λ (n : ℕ). drop n bytes) (sym a.0) in
    let rest : drop len (drop front bytes) ≡ drop end bytes = drop-drop len front bytes ∙ ap (λ (n : ℕ). drop n bytes) (sym ends) in
    record {
      ends_front = a.0;
      ends = ends;
      within = b.1;
      parts = found ∙ ap (λ (r : List ℕ). field_bytes widths (fields_in widths (drop 1 bytes)) ++ r) (back
          ∙ sym (take-append-drop len (drop front bytes)) ∙ ap (λ (r : List ℕ). cut len front bytes ++ r) rest);
      raw = length-take-le len (drop front bytes) (omega (arith, length-drop front bytes, b.1.there, there));
      fits = fields_fit widths (drop 1 bytes) (IsBytes-drop 1 bytes are);
      are = IsBytes-take len (drop front bytes) (IsBytes-drop front bytes are);
    }

-- where both are spelled
pub dump_again : (bounds : Bounds) (widths numbers raw rest bytes : List ℕ) → FitFields widths numbers
    → drop 1 bytes ≡ field_bytes widths numbers ++ (raw ++ rest)
    → IsWithin bounds (1 + sum widths + length raw)
    → (fields_in widths (drop 1 bytes) ≡ numbers) × (reached bounds 1 widths ≡ Ok (1 + sum widths))
    × (reached bounds (1 + sum widths) (length raw ∷ []) ≡ Ok (1 + sum widths + length raw))
    × (cut (length raw) (1 + sum widths) bytes ≡ raw)
dump_again bounds widths numbers raw rest bytes fits spelled within =
    let one : sum (length raw ∷ []) ≡ length raw = omega (arith, sum_widths (length raw) []) in
    let back : drop (1 + sum widths) bytes ≡ raw ++ rest = sym (drop-drop (sum widths) 1 bytes) ∙ ap (drop (sum widths)) spelled
    ∙ fields_rest widths numbers (raw ++ rest) fits in (
      ap (fields_in widths) spelled ∙ fields_again widths numbers (raw ++ rest) fits,
      reached_within bounds 1 widths (within-less bounds (1 + sum widths) (1 + sum widths + length raw) (omega arith) within),
      reached_within bounds (1 + sum widths) (length raw ∷ []) (within-less bounds (1 + sum widths + sum (length raw ∷ []))
          (1 + sum widths + length raw) (omega arith) within) ∙ ap Ok (omega arith),
      ap (take (length raw)) back ∙ take_at raw rest (length raw) refl,
    )

-- ---- roots

-- the root with the numbers of a root
root_same : (root : Root) → root_of (tag_of_root root) (root_numbers root) ≡ root
root_same (roots.JniGlobal id reference) = refl
root_same (roots.JniLocal id thread frame) = refl
root_same (roots.JavaFrame id thread frame) = refl
root_same (roots.NativeStack id thread) = refl
root_same (roots.Sticky id) = refl
root_same (roots.Block id thread) = refl
root_same (roots.Monitor id) = refl
root_same (roots.ThreadObject id thread trace) = refl
root_same (roots.Unknown id) = refl

-- a root that is spelled is read, whatever follows
pub root_again : (ids : IdSize) (bounds : Bounds) (root : Root) (rest bytes : List ℕ) → RootFits ids root
    → drop 1 bytes ≡ drop 1 (root_bytes ids root) ++ rest
    → IsWithin bounds (length (root_bytes ids root)) → root_at ids (tag_of_root root) bounds bytes
    ≡ Ok (Rooted root, length (root_bytes ids root))
unfolding root_at
root_again ids bounds root rest bytes fits spelled within =
    let widths : List ℕ = root_fields ids (tag_of_root root) in
    let len : 1 + sum widths ≡ length (root_bytes ids root) = omega (arith, length-fields widths (root_numbers root) fits) in
    let numbers : fields_in widths (drop 1 bytes) ≡ root_numbers root = ap (fields_in widths) spelled
    ∙ fields_again widths (root_numbers root) rest fits in
    let ends : reached bounds 1 widths ≡ Ok (1 + sum widths) =
    reached_within bounds 1 widths (within-less bounds (1 + sum widths) (length (root_bytes ids root)) (omega arith) within) in
    then_next (reached bounds 1 widths) (λ (end : ℕ). Ok (Rooted (root_of (tag_of_root root) (fields_in widths (drop 1 bytes))), end))
    (1 + sum widths) ends
    ∙ ap (λ (ns : List ℕ). Ok (Rooted (root_of (tag_of_root root) ns), 1 + sum widths)) numbers
    ∙ ap (λ (r : Root). Ok (Rooted r, 1 + sum widths)) (root_same root)
    ∙ ap (λ (n : ℕ). Ok (Rooted root, n)) len

-- ---- instances

-- an instance that is spelled is read, whatever follows
pub instance_again : (ids : IdSize) (bounds : Bounds) (id trace class : ℕ) (raw rest bytes : List ℕ)
    → DumpFits ids (Instance id trace class raw)
    → drop 1 bytes ≡ drop 1 (dump_bytes ids (Instance id trace class raw)) ++ rest
    → IsWithin bounds (length (dump_bytes ids (Instance id trace class raw)))
    → instance_at ids bounds bytes ≡ Ok (Instance id trace class raw, length (dump_bytes ids (Instance id trace class raw)))
unfolding instance_at
instance_again ids bounds id trace class raw rest bytes fits spelled within =
    let widths : List ℕ = instance_widths ids in
    let numbers : List ℕ = instance_numbers id trace class raw in
    let all : ℕ = length (dump_bytes ids (Instance id trace class raw)) in
    let len : 1 + sum widths + length raw ≡ all =
    omega (arith, length-fields widths numbers fits.0, length-append (field_bytes widths numbers) raw) in
    let again = dump_again bounds widths numbers raw rest bytes fits.0 (spelled ∙ append_assoc (field_bytes widths numbers) raw rest)
    (within-less bounds (1 + sum widths + length raw) all (omega arith) within) in
    let step : List ℕ → ℕ → Result (FactValue × ℕ) ParseStop =
    λ ns front. reached bounds front (slice_index ns 3 ∷ []) >>= λ (end : ℕ).
    Ok (Instance (slice_index ns 0) (slice_index ns 1) (slice_index ns 2) (cut (slice_index ns 3) front bytes), end) in
    ap (λ (ns : List ℕ). reached bounds 1 widths >>= step ns) again.0
    ∙ then_next (reached bounds 1 widths) (step numbers) (1 + sum widths) again.1
    ∙ then_next (reached bounds (1 + sum widths) (length raw ∷ [])) (λ (end : ℕ).
    Ok (Instance id trace class (cut (length raw) (1 + sum widths) bytes), end)) (1 + sum widths + length raw) again.2
    ∙ ap (λ (r : List ℕ). Ok (Instance id trace class r, 1 + sum widths + length raw)) again.3
    ∙ ap (λ (n : ℕ). Ok (Instance id trace class raw, n)) len

-- ---- what is read is spelled so

-- a reading gives one answer
pub answer_parts : (x y : FactValue) (m n : ℕ) (r : Result (FactValue × ℕ) ParseStop) → r ≡ Ok (x, m) → r ≡ Ok (y, n) → (x ≡ y) × (m ≡ n)
answer_parts x y m n r p q = let same : (x, m) ≡ (y, n) = cc in (ap (λ (z : FactValue × ℕ). z.0) same, ap (λ (z : FactValue × ℕ). z.1) same)

-- an answer
abbrev pub answered : FactValue → ℕ → Result (FactValue × ℕ) ParseStop
answered fact end = Ok (fact, end)

-- so what holds of an answer holds of the answer that was given
pub along_answer : (ids : IdSize) (bounds : Bounds) (bytes : List ℕ) (x fact : FactValue) (m n : ℕ) → answered x m ≡ answered fact n
    → IsDumpOf ids bounds bytes x m → IsDumpOf ids bounds bytes fact n
along_answer ids bounds bytes x fact m n e is =
    let same = answer_parts x fact m n (answered x m) refl e in
    subst (λ (k : ℕ). IsDumpOf ids bounds bytes fact k) same.1 (subst (λ (f : FactValue). IsDumpOf ids bounds bytes f m) same.0 is)

-- the numbers of a root's tag are those of the root
pub numbers_same : (ids : IdSize) (tag : SubTag) (bytes : List ℕ) → is_root_tag tag ≡ true
    → (root_numbers (root_of tag (fields_in (root_fields ids tag) bytes)) ≡ fields_in (root_fields ids tag) bytes)
    × (tag_of_root (root_of tag (fields_in (root_fields ids tag) bytes)) ≡ tag)
numbers_same ids tags.ClassDump bytes e = absurd cc
numbers_same ids tags.InstanceDump bytes e = absurd cc
numbers_same ids tags.ObjArrayDump bytes e = absurd cc
numbers_same ids tags.PrimArrayDump bytes e = absurd cc
numbers_same ids _ bytes e = (refl, refl)

-- the first field of a root is its identifier
root_first : (ids : IdSize) (tag : SubTag) → root_fields ids tag ≡ width_of ids ∷ drop 1 (root_fields ids tag)
root_first ids tags.RootJniGlobal = refl
root_first ids tags.RootJniLocal = refl
root_first ids tags.RootJavaFrame = refl
root_first ids tags.RootNativeStack = refl
root_first ids tags.RootSticky = refl
root_first ids tags.RootBlock = refl
root_first ids tags.RootMonitor = refl
root_first ids tags.RootThreadObject = refl
root_first ids tags.ClassDump = refl
root_first ids tags.InstanceDump = refl
root_first ids tags.ObjArrayDump = refl
root_first ids tags.PrimArrayDump = refl
root_first ids tags.RootUnknown = refl

-- what a root's fields say
root_there : (ids : IdSize) (bounds : Bounds) (root : Root) (bytes : List ℕ) (end : ℕ) → IsBytes bytes → bounds.there ≤ length bytes
    → root_numbers root ≡ fields_in (root_fields ids (tag_of_root root)) (drop 1 bytes)
    → reached bounds 1 (root_fields ids (tag_of_root root)) ≡ Ok end
    → IsDumpOf ids bounds bytes (Rooted root) end
root_there ids bounds root bytes end are there numbers ends =
    let widths : List ℕ = root_fields ids (tag_of_root root) in
    let passed = reached_passed bounds 1 (width_of ids) (drop 1 widths) end
    (ap (reached bounds 1) (sym (root_first ids (tag_of_root root))) ∙ ends) in
    let all : end ≡ 1 + sum widths = passed.0 ∙ ap (λ (ws : List ℕ). 1 + sum ws) (sym (root_first ids (tag_of_root root))) in
    let fits : RootFits ids root = subst (FitFields widths) (sym numbers) (fields_fit widths (drop 1 bytes) (IsBytes-drop 1 bytes are)) in
    let found = fields_found widths (drop 1 bytes) (IsBytes-drop 1 bytes are) (omega (arith, length-drop 1 bytes, passed.1.there)) in
    let rest : drop (sum widths) (drop 1 bytes) ≡ drop end bytes = drop-drop (sum widths) 1 bytes
    ∙ ap (λ (n : ℕ). drop n bytes) (sym all) in
    record {
      fits = fits;
      spelled = found ∙ ap (λ (ns : List ℕ). field_bytes widths ns ++ drop (sum widths) (drop 1 bytes)) (sym numbers)
          ∙ ap (λ (r : List ℕ). field_bytes widths (root_numbers root) ++ r) rest;
      ends = omega (arith, length-fields widths (root_numbers root) fits);
      within = passed.1;
    }

-- a root that is read is spelled there
pub root_found : (ids : IdSize) (tag : SubTag) (bounds : Bounds) (bytes : List ℕ) (fact : FactValue) (n : ℕ) → IsBytes bytes
    → bounds.there ≤ length bytes → is_root_tag tag ≡ true
    → root_at ids tag bounds bytes ≡ Ok (fact, n) → IsDumpOf ids bounds bytes fact n
unfolding root_at
root_found ids tag bounds bytes fact n are there root e =
    let widths : List ℕ = root_fields ids tag in
    let numbers : List ℕ = fields_in widths (drop 1 bytes) in
    let first = then_ok (reached bounds 1 widths) (λ (end : ℕ). Ok (Rooted (root_of tag numbers), end)) (fact, n) e in
    let same = numbers_same ids tag (drop 1 bytes) root in
    let is = root_there ids bounds (root_of tag numbers) bytes first.0 are there
    (same.0 ∙ ap (λ (t : SubTag). fields_in (root_fields ids t) (drop 1 bytes)) (sym same.1))
    (ap (λ (t : SubTag). reached bounds 1 (root_fields ids t)) same.1 ∙ first.1) in
    along_answer ids bounds bytes (Rooted (root_of tag numbers)) fact first.0 n first.2 is

-- an instance that is read is spelled there
pub instance_found : (ids : IdSize) (bounds : Bounds) (bytes : List ℕ) (fact : FactValue) (n : ℕ) → IsBytes bytes
    → bounds.there ≤ length bytes
    → instance_at ids bounds bytes ≡ Ok (fact, n) → IsDumpOf ids bounds bytes fact n
unfolding instance_at
instance_found ids bounds bytes fact n are there e =
    let widths : List ℕ = instance_widths ids in
    let numbers : List ℕ = fields_in widths (drop 1 bytes) in
    let len : ℕ = slice_index numbers 3 in
    let read : ℕ → FactValue = λ front. Instance (slice_index numbers 0) (slice_index numbers 1) (slice_index numbers 2)
    (cut len front bytes) in
    let first = then_ok (reached bounds 1 widths) (λ (front : ℕ). reached bounds front (len ∷ []) >>= λ (end : ℕ). Ok (read front, end))
    (fact, n) e in
    let second = then_ok (reached bounds first.0 (len ∷ [])) (λ (end : ℕ). Ok (read first.0, end)) (fact, n) first.2 in
    let dump = dump_found bounds (width_of ids) (4 ∷ width_of ids ∷ 4 ∷ []) len bytes first.0 second.0 are there first.1 second.1 in
    let raw : List ℕ = cut len first.0 bytes in
    let same : numbers ≡ instance_numbers (slice_index numbers 0) (slice_index numbers 1) (slice_index numbers 2) raw =
    ap (λ (k : ℕ). slice_index numbers 0 ∷ slice_index numbers 1 ∷ slice_index numbers 2 ∷ k ∷ []) (sym dump.raw) in
    let fits = subst (FitFields widths) same dump.fits in
    let is : IsDumpOf ids bounds bytes (read first.0) second.0 = record {
      fits = (fits, dump.are);
      spelled = dump.parts ∙ ap (λ (ns : List ℕ). field_bytes widths ns ++ (raw ++ drop second.0 bytes)) same
          ∙ sym (append_assoc (field_bytes widths (instance_numbers (slice_index numbers 0) (slice_index numbers 1)
          (slice_index numbers 2) raw)) raw (drop second.0 bytes));
      ends = omega (
        arith,
        dump.ends,
        dump.ends_front,
        dump.raw,
        length-append (field_bytes widths (instance_numbers (slice_index numbers 0) (slice_index numbers 1) (slice_index numbers 2)
            raw)) raw,
        length-fields widths (instance_numbers (slice_index numbers 0) (slice_index numbers 1) (slice_index numbers 2) raw) fits,
      );
      within = dump.within;
    } in
    along_answer ids bounds bytes (read first.0) fact second.0 n second.2 is
