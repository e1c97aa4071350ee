-- Sub-records of every form, from the tag on: what is read is spelled so, and what is spelled is read.
use Rattle.std.proofs.Common.{◌≡◌, ℕ, ◌+◌, ◌*◌, ◌^◌, ◌<◌, ◌≤◌, true, false, zero, suc, List, [], ◌∷◌, ◌++◌, length, drop, Option}
use Rattle.std.proofs.Common.{Some, None, Result, Ok, Err, refl, sym, ap, ◌∙◌, arith}
use Rattle.std.proofs.lemmas.Bool.{eqb-true}
use Rattle.std.proofs.Math.Dec.{eqb-suc-zero}
use Rattle.std.proofs.lemmas.List.{drop_at, length-append}
use Rattle.std.specs.Prelude.{◌==◌, sum, slice_index, if◌then◌else◌}
use Rattle.hprof_values.specs.declared.ids.IdSize.{IdSize}
use Rattle.hprof_values.specs.declared.basic.Basic.{Basic}
use Rattle.hprof_values.specs.declared.root.Root.{Root}
use Rattle.hprof_values.specs.declared.root.Root.TheVariants as roots
use Rattle.hprof_values.specs.declared.sub_tag.SubTag.{SubTag}
use Rattle.hprof_values.specs.declared.sub_tag.SubTag.TheVariants as tags
use Rattle.hprof_values.specs.declared.parse_stop.ParseStop.{ParseStop}
use Rattle.hprof_values.specs.declared.parse_stop.ParseStop.TheVariants.{Short}
use Rattle.hprof_values.specs.declared.entry.EntryKind.TheVariants as kinds
use Rattle.hprof_values.specs.Ids.{width_of, IsBytes}
use Rattle.hprof_values.specs.Basic.{basic_of_code, width_of_basic}
use Rattle.hprof_values.specs.FieldGroups.{fields_in, Bounds, ◌>>=◌, reached, IsWithin, exactly}
use Rattle.hprof_values.specs.SubTag.{code_of_tag, all_tags, tag_of_code}
use Rattle.hprof_values.specs.Root.{tag_of_root, root_fields}
use Rattle.hprof_values.specs.Entries.{list_in, list_end}
use Rattle.hprof_values.specs.Lists.{ids_in}
use Rattle.hprof_items.specs.FactValue.{FactValue, Name, Load, Unload, Frame, Trace, Start, End, Rooted, Class, Instance, ObjArray}
use Rattle.hprof_items.specs.FactValue.{PrimArray, value_of, ListsHave}
use Rattle.hprof_items.specs.declared.fact.Fact.{Fact}
use Rattle.hprof_items.specs.Spelling.{longest_body, Fits}
use Rattle.hprof_items.specs.SubReading.{bounds_within, IsSubRead}
use Rattle.hprof_items.specs.ClassDump.{class_widths, class_of, class_at}
use Rattle.hprof_items.specs.SubRecord.{cut, instance_widths, instance_at, obj_array_widths, obj_array_at, prim_array_widths, prim_array_at}
use Rattle.hprof_items.specs.SubRecord.{element_type, root_of, root_at, dump_at, judged_tag, tag_at, sub_at, dump_bytes, DumpFits}
use Rattle.hprof_items.specs.SubRecord.{is_root_tag, tag_of_dump, IsDumpOf, IsSubOf}
use Rattle.hprof_values.proofs.EntryLists.{find_passes}
use Rattle.hprof_values.proofs.FieldGroups.{sum_widths, then_ok, then_next, then_stop, within-less, reached_within}
use Rattle.hprof_items.proofs.SubRecords.{answer_parts, answered, numbers_same, root_again, root_found, instance_again, instance_found}
use Rattle.hprof_items.proofs.ArrayRecords.{obj_array_again, obj_array_found, prim_array_again, prim_array_found}
use Rattle.hprof_items.proofs.ClassDumps.{class_again, class_found}

-- ---- tags

-- a tag's byte stands for it
tag_again : (tag : SubTag) → tag_of_code (code_of_tag tag) ≡ Some tag
tag_again tags.RootJniGlobal = refl
tag_again tags.RootJniLocal = refl
tag_again tags.RootJavaFrame = refl
tag_again tags.RootNativeStack = refl
tag_again tags.RootSticky = refl
tag_again tags.RootBlock = refl
tag_again tags.RootMonitor = refl
tag_again tags.RootThreadObject = refl
tag_again tags.ClassDump = refl
tag_again tags.InstanceDump = refl
tag_again tags.ObjArrayDump = refl
tag_again tags.PrimArrayDump = refl
tag_again tags.RootUnknown = refl

-- a byte that stands for a tag is that of the tag
tag_found : (code : ℕ) (tag : SubTag) → tag_of_code code ≡ Some tag → code_of_tag tag ≡ code
tag_found code tag e = eqb-true _ _ (find_passes (λ (t : SubTag). code_of_tag t == code) all_tags tag e)

-- a tag that was right
right_tag : (o : Option SubTag) (tag : SubTag) → judged_tag o ≡ Ok tag → o ≡ Some tag
right_tag None tag e = absurd cc
right_tag (Some other) tag e = ap Some cc

-- the reader of a root's tag is that of roots
root_reader : (ids : IdSize) (root : Root) (bounds : Bounds) (bytes : List ℕ) → dump_at ids (tag_of_root root) bounds bytes
    ≡ root_at ids (tag_of_root root) bounds bytes
root_reader ids (roots.JniGlobal id reference) bounds bytes = refl
root_reader ids (roots.JniLocal id thread frame) bounds bytes = refl
root_reader ids (roots.JavaFrame id thread frame) bounds bytes = refl
root_reader ids (roots.NativeStack id thread) bounds bytes = refl
root_reader ids (roots.Sticky id) bounds bytes = refl
root_reader ids (roots.Block id thread) bounds bytes = refl
root_reader ids (roots.Monitor id) bounds bytes = refl
root_reader ids (roots.ThreadObject id thread trace) bounds bytes = refl
root_reader ids (roots.Unknown id) bounds bytes = refl

-- ---- behind the tag

-- what is spelled is read, whatever follows
dump_again : (ids : IdSize) (bounds : Bounds) (fact : FactValue) (rest bytes : List ℕ) → DumpFits ids fact
    → drop 1 bytes ≡ drop 1 (dump_bytes ids fact) ++ rest
    → IsWithin bounds (length (dump_bytes ids fact)) → dump_at ids (tag_of_dump fact) bounds bytes ≡ Ok (fact, length (dump_bytes ids fact))
dump_again ids bounds (Rooted root) rest bytes fits spelled within = root_reader ids root bounds bytes
    ∙ root_again ids bounds root rest bytes fits spelled within
dump_again ids bounds (Class id trace parent loader signers domain reserved1 reserved2 size constants statics fields) rest bytes fits
    spelled within =
    class_again ids bounds id trace parent loader signers domain reserved1 reserved2 size constants statics fields rest bytes fits
    spelled within
dump_again ids bounds (Instance id trace class raw) rest bytes fits spelled within =
    instance_again ids bounds id trace class raw rest bytes fits spelled within
dump_again ids bounds (ObjArray id trace class elements) rest bytes fits spelled within =
    obj_array_again ids bounds id trace class elements rest bytes fits spelled within
dump_again ids bounds (PrimArray id trace elem raw) rest bytes fits spelled within =
    prim_array_again ids bounds id trace elem raw rest bytes fits spelled within
dump_again ids bounds (Name id text) rest bytes fits spelled within = absurd fits
dump_again ids bounds (Load serial class trace name) rest bytes fits spelled within = absurd fits
dump_again ids bounds (Unload serial) rest bytes fits spelled within = absurd fits
dump_again ids bounds (Frame id method signature source class_serial line) rest bytes fits spelled within = absurd fits
dump_again ids bounds (Trace serial thread frames) rest bytes fits spelled within = absurd fits
dump_again ids bounds (Start thread object trace name group parent_group) rest bytes fits spelled within = absurd fits
dump_again ids bounds (End thread) rest bytes fits spelled within = absurd fits

-- what is read, with its tag
record IsRead (ids : IdSize) (tag : SubTag) (bounds : Bounds) (bytes : List ℕ) (fact : FactValue) (end : ℕ) : Type 0 where
  is : IsDumpOf ids bounds bytes fact end
  tagged : tag_of_dump fact ≡ tag

-- the answer that was made has the tag
made_tag : (made fact : FactValue) (m n : ℕ) (tag : SubTag) (r : Result (FactValue × ℕ) ParseStop) → r ≡ Ok (made, m) → r ≡ Ok (fact, n)
    → tag_of_dump made ≡ tag → tag_of_dump fact ≡ tag
made_tag made fact m n tag r made_it e is = ap tag_of_dump (sym (answer_parts made fact m n r made_it e).0) ∙ is

-- so has what comes of a reading in steps
then_tag : {A : Type 0} (r : Result A ParseStop) (next : A → Result (FactValue × ℕ) ParseStop) (fact : FactValue) (n : ℕ) (tag : SubTag)
    → ((x : A) → next x ≡ Ok (fact, n) → tag_of_dump fact ≡ tag) → (r >>= next) ≡ Ok (fact, n) → tag_of_dump fact ≡ tag
then_tag r next fact n tag each e = let step = then_ok r next (fact, n) e in each step.0 step.2

-- what a last step made
last_tag : (made : FactValue) (m : ℕ) (fact : FactValue) (n : ℕ) (tag : SubTag) → tag_of_dump made ≡ tag
    → answered made m ≡ Ok (fact, n) → tag_of_dump fact ≡ tag
last_tag made m fact n tag is e = made_tag made fact m n tag (answered made m) refl e is

root_tag : (ids : IdSize) (tag : SubTag) (bounds : Bounds) (bytes : List ℕ) (fact : FactValue) (n : ℕ) → is_root_tag tag ≡ true
    → root_at ids tag bounds bytes ≡ Ok (fact, n) → tag_of_dump fact ≡ tag
unfolding root_at
root_tag ids tag bounds bytes fact n root e =
    let made : FactValue = Rooted (root_of tag (fields_in (root_fields ids tag) (drop 1 bytes))) in
    then_tag (reached bounds 1 (root_fields ids tag)) (λ (end : ℕ). Ok (made, end)) fact n tag (λ end.
    last_tag made end fact n tag (numbers_same ids tag (drop 1 bytes) root).1) e

instance_tag : (ids : IdSize) (bounds : Bounds) (bytes : List ℕ) (fact : FactValue) (n : ℕ) → instance_at ids bounds bytes
    ≡ Ok (fact, n) → tag_of_dump fact ≡ tags.InstanceDump
unfolding instance_at
instance_tag ids bounds bytes fact n e =
    let numbers : List ℕ = fields_in (instance_widths ids) (drop 1 bytes) in
    let len : ℕ = slice_index numbers 3 in
    let made : ℕ → FactValue = λ front. Instance (slice_index numbers 0) (slice_index numbers 1) (slice_index numbers 2)
    (cut len front bytes) in
    then_tag (reached bounds 1 (instance_widths ids)) (λ (front : ℕ). reached bounds front (len ∷ []) >>= λ (end : ℕ).
    Ok (made front, end)) fact n tags.InstanceDump
    (λ front. then_tag (reached bounds front (len ∷ [])) (λ (end : ℕ). Ok (made front, end)) fact n tags.InstanceDump (λ end.
    last_tag (made front) end fact n tags.InstanceDump refl)) e

obj_array_tag : (ids : IdSize) (bounds : Bounds) (bytes : List ℕ) (fact : FactValue) (n : ℕ) → obj_array_at ids bounds bytes
    ≡ Ok (fact, n) → tag_of_dump fact ≡ tags.ObjArrayDump
unfolding obj_array_at
obj_array_tag ids bounds bytes fact n e =
    let numbers : List ℕ = fields_in (obj_array_widths ids) (drop 1 bytes) in
    let len : ℕ = slice_index numbers 2 * width_of ids in
    let made : ℕ → FactValue = λ front. ObjArray (slice_index numbers 0) (slice_index numbers 1) (slice_index numbers 3)
    (ids_in ids (cut len front bytes)) in
    then_tag (reached bounds 1 (obj_array_widths ids)) (λ (front : ℕ). reached bounds front (len ∷ []) >>= λ (end : ℕ).
    Ok (made front, end)) fact n tags.ObjArrayDump
    (λ front. then_tag (reached bounds front (len ∷ [])) (λ (end : ℕ). Ok (made front, end)) fact n tags.ObjArrayDump (λ end.
    last_tag (made front) end fact n tags.ObjArrayDump refl)) e

prim_array_tag : (ids : IdSize) (bounds : Bounds) (bytes : List ℕ) (fact : FactValue) (n : ℕ) → prim_array_at ids bounds bytes
    ≡ Ok (fact, n) → tag_of_dump fact ≡ tags.PrimArrayDump
unfolding prim_array_at
prim_array_tag ids bounds bytes fact n e =
    let numbers : List ℕ = fields_in (prim_array_widths ids) (drop 1 bytes) in
    let len : Basic → ℕ = λ elem. slice_index numbers 2 * width_of_basic ids elem in
    let made : ℕ → Basic → FactValue = λ front elem. PrimArray (slice_index numbers 0) (slice_index numbers 1) elem
    (cut (len elem) front bytes) in
    let last : ℕ → Basic → Result (FactValue × ℕ) ParseStop = λ front elem. reached bounds front (len elem ∷ []) >>= λ (end : ℕ).
    Ok (made front elem, end) in
    then_tag (reached bounds 1 (prim_array_widths ids)) (λ (front : ℕ). element_type (basic_of_code (slice_index numbers 3))
    >>= λ (elem : Basic). last front elem) fact n tags.PrimArrayDump
    (λ front. then_tag (element_type (basic_of_code (slice_index numbers 3))) (λ (elem : Basic). last front elem) fact n tags.PrimArrayDump
    (λ elem. then_tag (reached bounds front (len elem ∷ [])) (λ (end : ℕ). Ok (made front elem, end)) fact n tags.PrimArrayDump
    (λ end. last_tag (made front elem) end fact n tags.PrimArrayDump refl))) e

class_tag : (ids : IdSize) (bounds : Bounds) (bytes : List ℕ) (fact : FactValue) (n : ℕ) → class_at ids bounds bytes ≡ Ok (fact, n)
    → tag_of_dump fact ≡ tags.ClassDump
unfolding class_at
class_tag ids bounds bytes fact n e =
    let numbers : List ℕ = fields_in (class_widths ids) (drop 1 bytes) in
    let made : ℕ → ℕ → ℕ → FactValue = λ at s f. class_of numbers (list_in ids kinds.Constant bytes at)
    (list_in ids kinds.Static bytes s) (list_in ids kinds.Field bytes f) in
    let last : ℕ → ℕ → ℕ → Result (FactValue × ℕ) ParseStop = λ at s f. list_end ids kinds.Field bounds bytes f >>= λ (end : ℕ).
    Ok (made at s f, end) in
    then_tag (reached bounds 1 (class_widths ids))
    (λ (at : ℕ). list_end ids kinds.Constant bounds bytes at >>= λ (s : ℕ). list_end ids kinds.Static bounds bytes s >>= λ (f : ℕ).
    last at s f) fact n tags.ClassDump
    (λ at. then_tag (list_end ids kinds.Constant bounds bytes at) (λ (s : ℕ). list_end ids kinds.Static bounds bytes s >>= λ (f : ℕ).
    last at s f) fact n tags.ClassDump
    (λ s. then_tag (list_end ids kinds.Static bounds bytes s) (λ (f : ℕ). last at s f) fact n tags.ClassDump
    (λ f. then_tag (list_end ids kinds.Field bounds bytes f) (λ (end : ℕ). Ok (made at s f, end)) fact n tags.ClassDump (λ end.
    last_tag (made at s f) end fact n tags.ClassDump refl)))) e

-- what is read is spelled so
read_found : (ids : IdSize) (tag : SubTag) (bounds : Bounds) (bytes : List ℕ) (fact : FactValue) (n : ℕ) → IsBytes bytes
    → bounds.there ≤ length bytes
    → dump_at ids tag bounds bytes ≡ Ok (fact, n) → IsRead ids tag bounds bytes fact n
read_found ids tags.ClassDump bounds bytes fact n are there e = record {
  is = class_found ids bounds bytes fact n are there e;
  tagged =
      class_tag ids bounds bytes fact n e;
}
read_found ids tags.InstanceDump bounds bytes fact n are there e =
    record { is = instance_found ids bounds bytes fact n are there e; tagged = instance_tag ids bounds bytes fact n e }
read_found ids tags.ObjArrayDump bounds bytes fact n are there e =
    record { is = obj_array_found ids bounds bytes fact n are there e; tagged = obj_array_tag ids bounds bytes fact n e }
read_found ids tags.PrimArrayDump bounds bytes fact n are there e =
    record { is = prim_array_found ids bounds bytes fact n are there e; tagged = prim_array_tag ids bounds bytes fact n e }
read_found ids tag bounds bytes fact n are there e =
    record { is = root_found ids tag bounds bytes fact n are there refl e; tagged = root_tag ids tag bounds bytes fact n refl e }

-- ---- from the tag on

-- a spelling begins with its tag
pub tag_first : (ids : IdSize) (fact : FactValue) → DumpFits ids fact → dump_bytes ids fact ≡ code_of_tag (tag_of_dump fact) ∷ drop 1
    (dump_bytes ids fact)
tag_first ids (Rooted root) fits = refl
tag_first ids (Class id trace parent loader signers domain reserved1 reserved2 size constants statics fields) fits = refl
tag_first ids (Instance id trace class raw) fits = refl
tag_first ids (ObjArray id trace class elements) fits = refl
tag_first ids (PrimArray id trace elem raw) fits = refl
tag_first ids (Name id text) fits = absurd fits
tag_first ids (Load serial class trace name) fits = absurd fits
tag_first ids (Unload serial) fits = absurd fits
tag_first ids (Frame id method signature source class_serial line) fits = absurd fits
tag_first ids (Trace serial thread frames) fits = absurd fits
tag_first ids (Start thread object trace name group parent_group) fits = absurd fits
tag_first ids (End thread) fits = absurd fits

-- the test of the first byte
abbrev first_test : Bounds → Result ℕ ParseStop
first_test bounds = if bounds.there == 0 then Err Short else reached bounds 0 (1 ∷ [])

some_there : (n : ℕ) → 1 ≤ n → (n == 0) ≡ false
some_there zero some = absurd (omega arith)
some_there (suc n) some = eqb-suc-zero n

first_passes : (bounds : Bounds) → IsWithin bounds 1 → first_test bounds ≡ Ok 1
first_passes bounds within =
    let some : (bounds.there == 0) ≡ false = some_there bounds.there within.there in
    let one : sum (1 ∷ []) ≡ 1 = omega (arith, sum_widths 1 []) in
    let ends = reached_within bounds 0 (1 ∷ []) (within-less bounds (0 + sum (1 ∷ [])) 1 (omega (arith, one)) within) in
    rw some (ends ∙ ap Ok (omega (arith, one)))

-- a sub-record that is spelled is read, whatever follows
pub sub_again : (ids : IdSize) (bounds : Bounds) (fact : FactValue) (rest bytes : List ℕ) → DumpFits ids fact
    → bytes ≡ dump_bytes ids fact ++ rest
    → IsWithin bounds (length (dump_bytes ids fact)) → sub_at ids bounds bytes ≡ Ok (fact, length (dump_bytes ids fact))
unfolding sub_at
sub_again ids bounds fact rest bytes fits spelled within =
    let tag = tag_of_dump fact in
    let body : List ℕ = drop 1 (dump_bytes ids fact) in
    let parts : bytes ≡ code_of_tag tag ∷ (body ++ rest) = spelled ∙ ap (λ (b : List ℕ). b ++ rest) (tag_first ids fact fits) in
    let long : 1 ≤ length (dump_bytes ids fact) = omega (arith, ap length (tag_first ids fact fits)) in
    let first = first_passes bounds (within-less bounds 1 (length (dump_bytes ids fact)) long within) in
    let code : slice_index bytes 0 ≡ code_of_tag tag = ap (λ (b : List ℕ). slice_index b 0) parts in
    then_next (first_test bounds) (λ (front : ℕ). judged_tag (tag_of_code (slice_index bytes 0)) >>= λ (t : SubTag).
    dump_at ids t bounds bytes) 1 first
    ∙ ap (λ (o : Option SubTag). judged_tag o >>= λ (t : SubTag). dump_at ids t bounds bytes) (ap tag_of_code code ∙ tag_again tag)
    ∙ dump_again ids bounds fact rest bytes fits (ap (drop 1) parts) within

there_by : (n : ℕ) (r : Result ℕ ParseStop) (front : ℕ) → (if n == 0 then Err Short else r) ≡ Ok front → 1 ≤ n
there_by zero r front e = absurd cc
there_by (suc n) r front e = omega arith

-- the first byte, and the others
first_byte : (bytes : List ℕ) → 1 ≤ length bytes → bytes ≡ slice_index bytes 0 ∷ drop 1 bytes
first_byte [] some = absurd (omega arith)
first_byte (b ∷ bytes) some = refl

first_passed : (bounds : Bounds) (front : ℕ) → first_test bounds ≡ Ok front → 1 ≤ bounds.there
first_passed bounds front e = there_by bounds.there (reached bounds 0 (1 ∷ [])) front e

-- a sub-record that is read is spelled there
pub sub_found : (ids : IdSize) (bounds : Bounds) (bytes : List ℕ) (fact : FactValue) (n : ℕ) → IsBytes bytes → bounds.there ≤ length bytes
    → sub_at ids bounds bytes ≡ Ok (fact, n) → IsSubOf ids bounds bytes fact n
unfolding sub_at
sub_found ids bounds bytes fact n are there e =
    let first = then_ok (first_test bounds) (λ (front : ℕ). judged_tag (tag_of_code (slice_index bytes 0)) >>= λ (t : SubTag).
    dump_at ids t bounds bytes) (fact, n) e in
    let second = then_ok (judged_tag (tag_of_code (slice_index bytes 0))) (λ (t : SubTag). dump_at ids t bounds bytes) (fact, n) first.2 in
    let tag = second.0 in
    let code = tag_found (slice_index bytes 0) tag (right_tag (tag_of_code (slice_index bytes 0)) tag second.1) in
    let read = read_found ids tag bounds bytes fact n are there second.2 in
    let byte : code_of_tag (tag_of_dump fact) ≡ slice_index bytes 0 = ap code_of_tag read.tagged ∙ code in
    let some = first_passed bounds first.0 first.1 in
    let front : bytes ≡ code_of_tag (tag_of_dump fact) ∷ drop 1 bytes =
    first_byte bytes (omega (arith, some, there)) ∙ ap (λ (b : ℕ). b ∷ drop 1 bytes) (sym byte) in
    record {
      fits = read.is.fits;
      spelled = front ∙ ap (λ (r : List ℕ). code_of_tag (tag_of_dump fact) ∷ r) read.is.spelled ∙ ap (λ (b : List ℕ). b ++ drop n bytes)
          (sym (tag_first ids fact read.is.fits));
      ends = read.is.ends;
      within = read.is.within;
    }

-- no spelling begins another
pub dump_once : (ids : IdSize) (fact other : FactValue) (rest more : List ℕ) → DumpFits ids fact → DumpFits ids other
    → dump_bytes ids fact ++ rest ≡ dump_bytes ids other ++ more
    → (fact ≡ other) × (rest ≡ more)
dump_once ids fact other rest more fits fits_too e =
    let a : List ℕ = dump_bytes ids fact in
    let b : List ℕ = dump_bytes ids other in
    let bytes : List ℕ = a ++ rest in
    let bounds : Bounds = exactly bytes in
    let lies : (xs ys : List ℕ) → bytes ≡ xs ++ ys → IsWithin bounds (length xs) =
    λ xs ys split. let len : length xs ≤ length bytes = omega (arith, ap length split, length-append xs ys) in record {
      room =
          len;
      longest = len;
      there = len;
    } in
    let first = sub_again ids bounds fact rest bytes fits refl (lies a rest refl) in
    let second = sub_again ids bounds other more bytes fits_too e (lies b more e) in
    let same = answer_parts fact other (length a) (length b) (sub_at ids bounds bytes) first second in (
      same.0,
      sym (drop_at a rest (length a) refl) ∙ ap (λ (n : ℕ). drop n bytes) same.1 ∙ ap (drop (length b)) e ∙ drop_at b more (length b) refl,
    )

-- ---- by the tag

-- two steps and then a third
then_both : {A B C : Type 0} (r : Result A ParseStop) (middle : Result B ParseStop) (next : B → Result C ParseStop)
    → (r >>= λ (x : A). middle >>= next) ≡ ((r >>= λ (x : A). middle) >>= next)
then_both (Ok x) middle next = refl
then_both (Err stop) middle next = refl

sub_steps : (ids : IdSize) (bounds : Bounds) (bytes : List ℕ) → sub_at ids bounds bytes ≡ (tag_at bounds bytes >>= λ (tag : SubTag).
    dump_at ids tag bounds bytes)
unfolding sub_at
sub_steps ids bounds bytes = then_both (first_test bounds) (judged_tag (tag_of_code (slice_index bytes 0))) (λ (tag : SubTag).
    dump_at ids tag bounds bytes)

-- where the tag is right, the sub-record is what is read behind it
pub sub_tagged : (ids : IdSize) (bounds : Bounds) (bytes : List ℕ) (tag : SubTag) → tag_at bounds bytes ≡ Ok tag
    → sub_at ids bounds bytes ≡ dump_at ids tag bounds bytes
sub_tagged ids bounds bytes tag e = sub_steps ids bounds bytes ∙ then_next (tag_at bounds bytes) (λ (t : SubTag).
    dump_at ids t bounds bytes) tag e

-- and where not, no more is read
pub sub_stops : (ids : IdSize) (bounds : Bounds) (bytes : List ℕ) (stop : ParseStop) → tag_at bounds bytes ≡ Err stop
    → sub_at ids bounds bytes ≡ Err stop
sub_stops ids bounds bytes stop e = sub_steps ids bounds bytes ∙ then_stop (tag_at bounds bytes) (λ (t : SubTag).
    dump_at ids t bounds bytes) stop e

-- ---- what a caller sees

-- a sub-record that fits is a fact that has a spelling
dump_fits_any : (ids : IdSize) (fact : FactValue) → DumpFits ids fact → length (dump_bytes ids fact) ≤ longest_body → Fits ids fact
dump_fits_any ids (Rooted root) fits short = (fits, short)
dump_fits_any ids (Class id trace parent loader signers domain reserved1 reserved2 size constants statics fields) fits short = (fits, short)
dump_fits_any ids (Instance id trace class raw) fits short = (fits, short)
dump_fits_any ids (ObjArray id trace class elements) fits short = (fits, short)
dump_fits_any ids (PrimArray id trace elem raw) fits short = (fits, short)
dump_fits_any ids (Name id text) fits short = absurd fits
dump_fits_any ids (Load serial class trace name) fits short = absurd fits
dump_fits_any ids (Unload serial) fits short = absurd fits
dump_fits_any ids (Frame id method signature source class_serial line) fits short = absurd fits
dump_fits_any ids (Trace serial thread frames) fits short = absurd fits
dump_fits_any ids (Start thread object trace name group parent_group) fits short = absurd fits
dump_fits_any ids (End thread) fits short = absurd fits

pub sub_read : (ids : IdSize) (room longest : ℕ) (bytes : List ℕ) (fact : Fact) (n : ℕ) → IsBytes bytes → room < 2 ^ 32 → ListsHave ids fact
    → sub_at ids (bounds_within room longest bytes) bytes ≡ Ok (value_of fact, n) → IsSubRead ids room longest bytes fact n
sub_read ids room longest bytes fact n are small lists e =
    let found = sub_found ids (bounds_within room longest bytes) bytes (value_of fact) n are (omega arith) e in
    record {
      fits = dump_fits_any ids (value_of fact) found.fits (omega (arith, found.ends, found.within.room, small));
      lists = lists;
      spelled = found.spelled;
      ends = found.ends;
      within_room = found.within.room;
      within_longest = found.within.longest;
    }

-- what is spelled there is what a reading gives
pub sub_is : (ids : IdSize) (room longest : ℕ) (bytes : List ℕ) (r : Result (FactValue × ℕ) ParseStop) (fact : FactValue) (rest : List ℕ)
    → r ≡ sub_at ids (bounds_within room longest bytes) bytes
    → DumpFits ids fact → bytes ≡ dump_bytes ids fact ++ rest → length (dump_bytes ids fact) ≤ room
    → length (dump_bytes ids fact) ≤ longest → r ≡ Ok (fact, length (dump_bytes ids fact))
sub_is ids room longest bytes r fact rest read fits spelled in_room in_longest =
    let there : length (dump_bytes ids fact) ≤ length bytes = omega (arith, ap length spelled, length-append (dump_bytes ids fact) rest) in
    read ∙ sub_again ids (bounds_within room longest bytes) fact rest bytes fits spelled (record {
      room = in_room;
      longest =
          in_longest;
      there = there;
    })

-- so no other answer is given
pub sub_never : (ids : IdSize) (room longest : ℕ) (bytes : List ℕ) (stop : ParseStop) → sub_at ids (bounds_within room longest bytes) bytes
    ≡ Err stop
    → (fact : FactValue) (rest : List ℕ) → DumpFits ids fact → bytes ≡ dump_bytes ids fact ++ rest → length (dump_bytes ids fact) ≤ room
    → length (dump_bytes ids fact) ≤ longest → ⊥
sub_never ids room longest bytes stop e fact rest fits spelled in_room in_longest =
    let read = sub_is ids room longest bytes (Err stop) fact rest (sym e) fits spelled in_room in_longest in absurd cc
