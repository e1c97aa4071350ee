-- A walk over the lists of a class: each step finds the same end, also when more bytes have come.
use Rattle.std.proofs.Common.{◌≡◌, ℕ, zero, suc, ◌+◌, ◌-◌, ◌<◌, ◌≤◌, List, [], ◌∷◌, ◌++◌, length, drop, Some, None, Result, Ok, Err, refl}
use Rattle.std.proofs.Common.{sym, ap, ◌∙◌, inl, inr, arith, append-nil}
use Rattle.byteorder.specs.Endian.{big_number}
use Rattle.hprof_values.specs.declared.ids.IdSize.{IdSize}
use Rattle.hprof_values.specs.declared.entry.EntryKind.{EntryKind}
use Rattle.hprof_values.specs.declared.entry.EntryKind.TheVariants as kinds
use Rattle.hprof_values.specs.declared.bounded_bytes.BoundedBytes.{BoundedBytes}
use Rattle.hprof_values.specs.declared.parse_stop.ParseStop.{ParseStop}
use Rattle.hprof_values.specs.FieldGroups.{Bounds, ◌>>=◌, reached, with_more}
use Rattle.hprof_values.specs.Entries.{entry_end, entries_end, list_end}
use Rattle.hprof_values.specs.BoundedBytes.{bounds_of}
use Rattle.hprof_values.proofs.FieldGroups.{then_ok, then_next, then_stop, reached_passed, reached_more}
use Rattle.hprof_items.specs.declared.walk.Walk.{Walk}
use Rattle.hprof_items.specs.declared.walk.Walk.TheVariants.{Entries}
use Rattle.hprof_items.specs.Walk.{behind, walked, FindsSame, next_kind, count_at}
use Rattle.hprof_items.proofs.WalksMore.{IsSettled, then_more_at, entry_more, entry_lies, count_more}

-- the bounds of the item when so many more bytes have come
abbrev pub later : BoundedBytes → List ℕ → Bounds
later item more = with_more (bounds_of item) (length more)

-- an answer that went well stays when more bytes have come
pub settled_ok : {A : Type 0} (r s : Result A ParseStop) (x : A) → IsSettled r s → r ≡ Ok x → s ≡ Ok x
settled_ok r s x (inl short) e = absurd cc
settled_ok r s x (inr same) e = same ∙ e

-- an answer that went well is one value
same_ok : {A : Type 0} (r : Result A ParseStop) (x y : A) → r ≡ Ok x → r ≡ Ok y → x ≡ y
same_ok r x y e f = cc

-- what is found when no more bytes have come
nothing_more : (ids : IdSize) (item : BoundedBytes) (walk : Walk)
    → walked ids (later item []) (item.bytes.now ++ []) walk ≡ walked ids (bounds_of item) item.bytes.now walk
nothing_more ids item walk =
    let there : length item.bytes.now + 0 ≡ length item.bytes.now = omega arith in
    ap (λ (bytes : List ℕ). walked ids (later item []) bytes walk) (append-nil item.bytes.now)
    ∙ ap (λ (n : ℕ). walked ids (record { room = item.room; longest = item.longest; there = n }) item.bytes.now walk) there

pub found_now : (ids : IdSize) (item : BoundedBytes) (walk other : Walk) → FindsSame ids item walk other
    → walked ids (bounds_of item) item.bytes.now walk ≡ walked ids (bounds_of item) item.bytes.now other
found_now ids item walk other same = sym (nothing_more ids item walk) ∙ same [] ∙ nothing_more ids item other

-- ---- entries

-- what is found behind some entries, in terms of the first of them
first_entry : (ids : IdSize) (kind : EntryKind) (bounds : Bounds) (bytes : List ℕ) (left at : ℕ) → 0 < left
    → let others : ℕ → Result ℕ ParseStop = λ end. entries_end ids kind bounds bytes (left - 1) end in
    walked ids bounds bytes (Entries kind left at) ≡ ((entry_end ids kind bounds bytes at >>= others) >>= behind ids kind bounds bytes)
unfolding walked
first_entry ids kind bounds bytes zero at some = absurd (omega arith)
first_entry ids kind bounds bytes (suc left) at some =
    let same : left ≡ suc left - 1 = omega arith in
    let others : ℕ → ℕ → Result ℕ ParseStop = λ n end. entries_end ids kind bounds bytes n end in
    ap (λ (n : ℕ). (entry_end ids kind bounds bytes at >>= others n) >>= behind ids kind bounds bytes) same

-- an entry that was passed
pub entry_passed : (ids : IdSize) (kind : EntryKind) (item : BoundedBytes) (left at end : ℕ) → 0 < left
    → entry_end ids kind (bounds_of item) item.bytes.now at ≡ Ok end
    → FindsSame ids item (Entries kind (left - 1) end) (Entries kind left at)
unfolding walked
entry_passed ids kind item left at end some passed = λ more.
    let bytes = item.bytes.now ++ more in
    let kept = settled_ok _ _ end (entry_more ids kind (bounds_of item) item.bytes.now more at (omega arith)) passed in
    sym (first_entry ids kind (later item more) bytes left at some
    ∙ ap (λ (r : Result ℕ ParseStop). r >>= behind ids kind (later item more) bytes)
    (then_next (entry_end ids kind (later item more) bytes at)
    (λ (last : ℕ). entries_end ids kind (later item more) bytes (left - 1) last) end kept))

-- an entry that was passed ends within the bytes
pub entry_there : (ids : IdSize) (kind : EntryKind) (item : BoundedBytes) (at end : ℕ)
    → entry_end ids kind (bounds_of item) item.bytes.now at ≡ Ok end → end ≤ length item.bytes.now
entry_there ids kind item at end passed = (entry_lies ids kind (bounds_of item) item.bytes.now at end passed).1.there

-- an entry that stopped the walk
pub entry_stopped : (ids : IdSize) (kind : EntryKind) (item : BoundedBytes) (left at : ℕ) (stop : ParseStop) → 0 < left
    → entry_end ids kind (bounds_of item) item.bytes.now at ≡ Err stop
    → walked ids (bounds_of item) item.bytes.now (Entries kind left at) ≡ Err stop
entry_stopped ids kind item left at stop some stopped =
    let bounds = bounds_of item in
    let bytes = item.bytes.now in
    let next : ℕ → Result ℕ ParseStop = λ last. entries_end ids kind bounds bytes (left - 1) last in
    first_entry ids kind bounds bytes left at some
    ∙ then_stop (entry_end ids kind bounds bytes at >>= next) (behind ids kind bounds bytes) stop
    (then_stop (entry_end ids kind bounds bytes at) next stop stopped)

-- ---- the lists of a class

-- a step that only passes on what came before it
then_ok_again : (r : Result ℕ ParseStop) → (r >>= λ (end : ℕ). Ok end) ≡ r
then_ok_again (Ok end) = refl
then_ok_again (Err stop) = refl

-- the first of the lists behind one
behind_next : (ids : IdSize) (kind next : EntryKind) (bounds : Bounds) (bytes : List ℕ) (at : ℕ) → next_kind kind ≡ Some next
    → behind ids kind bounds bytes at ≡ (list_end ids next bounds bytes at >>= behind ids next bounds bytes)
behind_next ids kinds.Constant next bounds bytes at e =
    let same : kinds.Static ≡ next = cc in
    ap (λ (kind : EntryKind). list_end ids kind bounds bytes at >>= behind ids kind bounds bytes) same
behind_next ids kinds.Static next bounds bytes at e =
    let same : kinds.Field ≡ next = cc in
    sym (then_ok_again (list_end ids kinds.Field bounds bytes at))
    ∙ ap (λ (kind : EntryKind). list_end ids kind bounds bytes at >>= behind ids kind bounds bytes) same
behind_next ids kinds.Field next bounds bytes at e = absurd cc

-- no list is left
behind_none : (ids : IdSize) (kind : EntryKind) (bounds : Bounds) (bytes : List ℕ) (at : ℕ) → next_kind kind ≡ None
    → behind ids kind bounds bytes at ≡ Ok at
behind_none ids kinds.Constant bounds bytes at e = absurd cc
behind_none ids kinds.Static bounds bytes at e = absurd cc
behind_none ids kinds.Field bounds bytes at e = refl

-- what is found from the first entry of a list
abbrev pub listed : IdSize → EntryKind → Bounds → List ℕ → (ℕ × ℕ) → Result ℕ ParseStop
listed ids kind bounds bytes list = entries_end ids kind bounds bytes list.0 list.1 >>= behind ids kind bounds bytes

-- a list ends behind its count where its entries do
counted : (ids : IdSize) (kind : EntryKind) (bounds : Bounds) (bytes : List ℕ) (count : ℕ) (r : Result ℕ ParseStop)
    → ((r >>= λ (begin : ℕ). entries_end ids kind bounds bytes count begin) >>= behind ids kind bounds bytes)
    ≡ ((r >>= λ (begin : ℕ). Ok (count, begin)) >>= listed ids kind bounds bytes)
counted ids kind bounds bytes count (Ok begin) = refl
counted ids kind bounds bytes count (Err stop) = refl

pub list_counted : (ids : IdSize) (kind : EntryKind) (bounds : Bounds) (bytes : List ℕ) (at : ℕ)
    → (list_end ids kind bounds bytes at >>= behind ids kind bounds bytes) ≡ (count_at bounds bytes at >>= listed ids kind bounds bytes)
unfolding list_end
list_counted ids kind bounds bytes at = counted ids kind bounds bytes (big_number 2 (drop at bytes)) (reached bounds at (2 ∷ []))

-- the count of a list when more bytes have come
pub count_settled : (bounds : Bounds) (bytes more : List ℕ) (at : ℕ) → bounds.there ≤ length bytes
    → IsSettled (count_at bounds bytes at) (count_at (with_more bounds (length more)) (bytes ++ more) at)
count_settled bounds bytes more at there =
    let answer : ℕ → ℕ → Result (ℕ × ℕ) ParseStop = λ count begin. Ok (count, begin) in
    let count : List ℕ → ℕ = λ all. big_number 2 (drop at all) in
    then_more_at (reached bounds at (2 ∷ [])) (reached (with_more bounds (length more)) at (2 ∷ []))
    (answer (count bytes)) (answer (count (bytes ++ more)))
    (reached_more bounds at (length more) (2 ∷ []))
    (λ begin passed. inr (ap (λ (n : ℕ). answer n begin) (count_more bounds bytes more at begin there passed)))

-- a list whose count is there
list_begun : (ids : IdSize) (kind next : EntryKind) (item : BoundedBytes) (at left begin : ℕ) → next_kind kind ≡ Some next
    → count_at (bounds_of item) item.bytes.now at ≡ Ok (left, begin)
    → FindsSame ids item (Entries next left begin) (Entries kind 0 at)
unfolding walked
list_begun ids kind next item at left begin behind_it e = λ more.
    let bytes = item.bytes.now ++ more in
    let count = settled_ok _ _ (left, begin) (count_settled (bounds_of item) item.bytes.now more at (omega arith)) e in
    sym (behind_next ids kind next (later item more) bytes at behind_it ∙ list_counted ids next (later item more) bytes at
    ∙ then_next (count_at (later item more) bytes at) (listed ids next (later item more) bytes) (left, begin) count)

-- and its first entry begins within the bytes
pub list_there : (item : BoundedBytes) (at left begin : ℕ) → count_at (bounds_of item) item.bytes.now at ≡ Ok (left, begin)
    → begin ≤ length item.bytes.now
list_there item at left begin e =
    let count = big_number 2 (drop at item.bytes.now) in
    let first = then_ok (reached (bounds_of item) at (2 ∷ [])) (λ (front : ℕ). Ok (count, front)) (left, begin) e in
    let is : first.0 ≡ begin = ap (λ (list : ℕ × ℕ). list.1) (same_ok (Ok (count, first.0)) (count, first.0) (left, begin) refl first.2) in
    omega (arith, is, (reached_passed (bounds_of item) at 2 [] first.0 first.1).1.there)

-- a count that is not there stops the walk
pub list_stopped : (ids : IdSize) (kind next : EntryKind) (bounds : Bounds) (bytes : List ℕ) (at : ℕ) (stop : ParseStop)
    → next_kind kind ≡ Some next
    → count_at bounds bytes at ≡ Err stop → walked ids bounds bytes (Entries kind 0 at) ≡ Err stop
unfolding walked
list_stopped ids kind next bounds bytes at stop behind_it e =
    behind_next ids kind next bounds bytes at behind_it ∙ list_counted ids next bounds bytes at
    ∙ then_stop (count_at bounds bytes at) (listed ids next bounds bytes) stop e

-- behind the last entry of the last list the sub-record ends
pub lists_done : (ids : IdSize) (kind : EntryKind) (bounds : Bounds) (bytes : List ℕ) (at : ℕ) → next_kind kind ≡ None
    → walked ids bounds bytes (Entries kind 0 at) ≡ Ok at
unfolding walked
lists_done ids kind bounds bytes at none = behind_none ids kind bounds bytes at none

-- how many lists are behind one
abbrev pub lists_behind : EntryKind → ℕ
lists_behind kinds.Constant = 2
lists_behind kinds.Static = 1
lists_behind kinds.Field = 0

-- ---- one walk after another

-- an answer from as far as was walked, by what was told of that walk
pub answer_by : (ids : IdSize) (item : BoundedBytes) (walk told between other : Walk) (answer : Result ℕ ParseStop) → walk ≡ told
    → walked ids (bounds_of item) item.bytes.now told ≡ answer
    → FindsSame ids item walk between → FindsSame ids item between other → answer ≡ walked ids (bounds_of item) item.bytes.now other
answer_by ids item walk told between other answer is found first second =
    sym found ∙ ap (walked ids (bounds_of item) item.bytes.now) (sym is) ∙ found_now ids item walk between first
    ∙ found_now ids item between other second

-- a list that was begun behind the entries that were passed
pub list_after : (ids : IdSize) (kind next : EntryKind) (item : BoundedBytes) (at left begin : ℕ) (walk between other : Walk)
    → next_kind kind ≡ Some next → count_at (bounds_of item) item.bytes.now at ≡ Ok (left, begin) → walk ≡ Entries kind 0 at
    → FindsSame ids item walk between → FindsSame ids item between other
    → FindsSame ids item (Entries next left begin) other
list_after ids kind next item at left begin walk between other behind_it e is first second = λ more.
    list_begun ids kind next item at left begin behind_it e more ∙ ap (walked ids (later item more) (item.bytes.now ++ more)) (sym is)
    ∙ first more ∙ second more
