-- Counting the bytes of sub-records.
use Rattle.std.proofs.Common.{◌≡◌, ℕ, ◌+◌, ◌<◌, true, List, [], ◌∷◌, ◌++◌, length, refl, sym, ap, subst, ◌∙◌, arith}
use Rattle.std.specs.Prelude.{sum_by, ⊤}
use Rattle.std.specs.List.{AllByRecursion, flat_map}
use Rattle.std.proofs.lemmas.List.Concat.{length-flat_map}
use Rattle.std.proofs.lemmas.List.Sums.{sum_by-cons}
use Rattle.hprof_values.specs.declared.ids.IdSize.{IdSize}
use Rattle.hprof_items.specs.FactValue.{FactValue, Name, Load, Unload, Frame, Trace, Start, End, Rooted, Class, Instance, ObjArray}
use Rattle.hprof_items.specs.FactValue.{PrimArray}
use Rattle.hprof_items.specs.Head.{head_bytes}
use Rattle.hprof_items.specs.SubRecord.{dump_bytes}
use Rattle.hprof_rows.specs.SubFacts.{is_sub_fact, sub_facts}
use Rattle.hprof_dump.specs.Dump101.{sub_len, heap_dump}
use Rattle.hprof_dump.proofs.Lists.{all_filter}

-- how long a sub-record is
abbrev pub size_of : IdSize → FactValue → ℕ
size_of ids fact = length (dump_bytes ids fact)

-- so many bytes were counted of all, and these are left
abbrev pub Counts : IdSize → List FactValue → ℕ → List FactValue → Type 0
Counts ids subs len left = sum_by (size_of ids) subs ≡ len + sum_by (size_of ids) left

-- nothing was counted so far
pub Counts-none : (ids : IdSize) (subs left : List FactValue) → left ≡ subs → Counts ids subs 0 left
Counts-none ids subs left all = omega (arith, ap (sum_by (size_of ids)) all)

-- the next was counted
pub Counts-more : (ids : IdSize) (subs : List FactValue) (len size : ℕ) (next : FactValue) (left : List FactValue)
    → Counts ids subs len (next ∷ left) → size ≡ length (dump_bytes ids next) → Counts ids subs (len + size) left
Counts-more ids subs len size next left c e = omega (arith, c, e, sum_by-cons (size_of ids) next left)

-- with the next there are too many
pub Counts-over : (ids : IdSize) (subs : List FactValue) (len size most : ℕ) (next : FactValue) (left : List FactValue)
    → Counts ids subs len (next ∷ left) → size ≡ length (dump_bytes ids next) → most < len + size → most < sum_by (size_of ids) subs
Counts-over ids subs len size most next left c e over = omega (arith, c, e, over, sum_by-cons (size_of ids) next left)

-- all were counted
pub Counts-all : (ids : IdSize) (subs : List FactValue) (len : ℕ) (left : List FactValue) → Counts ids subs len left → left ≡ []
    → len ≡ sum_by (size_of ids) subs
Counts-all ids subs len left c none = let all = subst (Counts ids subs len) none c in omega (arith, all)

-- ---- where there is none

-- a sub-record has a byte or more
sub_some : (ids : IdSize) (fact : FactValue) → is_sub_fact fact ≡ true → 0 < length (dump_bytes ids fact)
sub_some ids (Rooted root) is = omega arith
sub_some ids (Class id trace parent loader signers domain reserved1 reserved2 size constants statics fields) is = omega arith
sub_some ids (Instance id trace class raw) is = omega arith
sub_some ids (ObjArray id trace class elements) is = omega arith
sub_some ids (PrimArray id trace elem raw) is = omega arith
sub_some ids (Name id text) is = absurd cc
sub_some ids (Load serial class trace name) is = absurd cc
sub_some ids (Unload serial) is = absurd cc
sub_some ids (Frame id method signature source class_serial line) is = absurd cc
sub_some ids (Trace serial thread frames) is = absurd cc
sub_some ids (Start thread object trace name group parent_group) is = absurd cc
sub_some ids (End thread) is = absurd cc

none_of : (ids : IdSize) (subs : List FactValue) → AllByRecursion (λ fact. is_sub_fact fact ≡ true) subs
    → sum_by (size_of ids) subs ≡ 0 → heap_dump ids subs ≡ []
none_of ids [] each none = refl
none_of ids (fact ∷ others) each none = absurd (omega (arith, sub_some ids fact each.0, sum_by-cons (size_of ids) fact others, none))

anything : (rows : List FactValue) → AllByRecursion (λ fact. ⊤) rows
anything [] = tt
anything (fact ∷ rows) = (tt, anything rows)

-- where sub-records have no bytes, there is no heap dump
pub no_heap_dump : (ids : IdSize) (rows : List FactValue) → sub_len ids rows ≡ 0 → heap_dump ids (sub_facts rows) ≡ []
no_heap_dump ids rows none =
    none_of ids (sub_facts rows)
    (all_filter (λ fact. ⊤) (λ fact. is_sub_fact fact ≡ true) is_sub_fact rows (λ fact any is. is) (anything rows)) none

-- where they have so many, there is one of that length
pub heap_dump_by : (ids : IdSize) (subs : List FactValue) (len : ℕ) → len ≡ sum_by (size_of ids) subs → 0 < len
    → head_bytes 0x0c 0 len ++ flat_map (dump_bytes ids) subs ≡ heap_dump ids subs
heap_dump_by ids [] len is some = absurd (omega (arith, is, some))
heap_dump_by ids (first ∷ others) len is some =
    ap (λ (n : ℕ). head_bytes 0x0c 0 n ++ flat_map (dump_bytes ids) (first ∷ others))
    (is ∙ sym (length-flat_map (dump_bytes ids) (first ∷ others)))
