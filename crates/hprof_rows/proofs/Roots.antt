-- Roots: their order is that of their places, and stating one among roots states it among their facts.
use Rattle.std.proofs.Common.{◌≡◌, ℕ, Bool, true, false, cond, List, [], ◌∷◌, find, Some, None, Result, Ok, Err, refl, sym, ap, ◌∙◌, inl}
use Rattle.std.proofs.Common.{inr}
use Rattle.std.specs.Prelude.{IfOk, OnErr}
use Rattle.std.specs.List.{list_any}
use Rattle.std.specs.BTreeMap.{is_at}
use Rattle.std.specs.BTreeSet.{insert_key}
use Rattle.std.specs.Cmp.Lexicographic.{slice_cmp}
use Rattle.std.specs.Ordering.{nat_cmp, ordering_then, is_lt, is_eq, match_ordering}
use Rattle.std.specs.declared.cmp.Ordering.{Ordering}
use Rattle.std.specs.declared.cmp.Ordering.TheVariants.{Less, Equal, Greater}
use Rattle.std.proofs.lemmas.Bool.{or_parts, or_cases}
use Rattle.std.proofs.lemmas.Map.Text.{is_eq-slice_cmp}
use Rattle.hprof_values.specs.declared.root.Root.{Root}
use Rattle.hprof_values.specs.declared.root.Root.TheVariants as roots
use Rattle.hprof_values.proofs.Orders.{then-Equal}
use Rattle.hprof_items.specs.FactValue.{FactValue, Rooted}
use Rattle.hprof_tables.specs.declared.relation.Stated.{Stated}
use Rattle.hprof_tables.specs.declared.relation.Stated.TheVariants.{New, Same, Differs}
use Rattle.hprof_rows.specs.Facts.{Has}
use Rattle.hprof_rows.specs.HeapRows.{root_facts}
use Rattle.hprof_rows.specs.Order.{order_of, root_cmp}
use Rattle.hprof_rows.specs.RootSet.{StatesRoot}
use Rattle.hprof_rows.proofs.Keys.{same_place, same_place-true}
use Rattle.hprof_rows.proofs.Inserting.{inserted}
use Rattle.hprof_rows.proofs.Stating.{StatesAmong}

one : (a x : ℕ) → nat_cmp a x ≡ slice_cmp nat_cmp (a ∷ []) (x ∷ [])
one a x = sym (then-Equal (nat_cmp a x))

two : (a b x y : ℕ) → ordering_then (nat_cmp a x) (nat_cmp b y) ≡ slice_cmp nat_cmp (a ∷ b ∷ []) (x ∷ y ∷ [])
two a b x y = ap (ordering_then (nat_cmp a x)) (one b y)

three : (a b c x y z : ℕ) → ordering_then (nat_cmp a x) (ordering_then (nat_cmp b y) (nat_cmp c z)) ≡ slice_cmp nat_cmp (a ∷ b ∷ c ∷ [])
    (x ∷ y ∷ z ∷ [])
three a b c x y z = ap (ordering_then (nat_cmp a x)) (two b c y z)

-- roots of one tag are compared by their numbers, others by their tags
pub root_place : (root other : Root) → root_cmp root other ≡ slice_cmp nat_cmp (order_of (Rooted root)) (order_of (Rooted other))
root_place (roots.JniGlobal a b) (roots.JniGlobal x y) = two a b x y
root_place (roots.JniLocal a b c) (roots.JniLocal x y z) = three a b c x y z
root_place (roots.JavaFrame a b c) (roots.JavaFrame x y z) = three a b c x y z
root_place (roots.NativeStack a b) (roots.NativeStack x y) = two a b x y
root_place (roots.Sticky a) (roots.Sticky x) = one a x
root_place (roots.Block a b) (roots.Block x y) = two a b x y
root_place (roots.Monitor a) (roots.Monitor x) = one a x
root_place (roots.ThreadObject a b c) (roots.ThreadObject x y z) = three a b c x y z
root_place (roots.Unknown a) (roots.Unknown x) = one a x
root_place root other = refl

-- two roots stand at one place where they compare as equal
pub root_same : (root other : Root) → same_place (Rooted root) (Rooted other) ≡ is_eq (root_cmp root other)
root_same root other = sym (is_eq-slice_cmp (order_of (Rooted root)) (order_of (Rooted other))) ∙ ap is_eq (sym (root_place root other))

insert_step : (o : Ordering) (a b c : List Root) → is_eq o ≡ false → root_facts (match_ordering o a b c) ≡ cond (is_lt o) (root_facts a)
    (root_facts c)
insert_step Less a b c e = refl
insert_step Equal a b c e = absurd cc
insert_step Greater a b c e = refl

-- a root that is put in is its fact, put in its place
insert_roots : (set : List Root) (root : Root) → list_any (is_at (root_cmp root)) set ≡ false
    → root_facts (insert_key root_cmp set root) ≡ inserted (root_facts set) (Rooted root)
insert_roots [] root none = refl
insert_roots (first ∷ set) root none =
    let parts = or_parts (is_at (root_cmp root) first) (list_any (is_at (root_cmp root)) set) none in
    insert_step (root_cmp root first) (root ∷ first ∷ set) (first ∷ set) (first ∷ insert_key root_cmp set root) parts.0
    ∙ ap (λ (l : List FactValue). cond (is_lt (root_cmp root first)) (Rooted root ∷ Rooted first ∷ root_facts set) (Rooted first ∷ l))
    (insert_roots set root parts.1)
    ∙ ap (λ (o : Ordering). cond (is_lt o) (Rooted root ∷ Rooted first ∷ root_facts set) (Rooted first ∷ inserted (root_facts set)
    (Rooted root))) (root_place root first)

pub find_root : (set : List Root) (root : Root) → list_any (is_at (root_cmp root)) set ≡ false
    → find (same_place (Rooted root)) (root_facts set) ≡ None
find_root [] root none = refl
find_root (first ∷ set) root none =
    let parts = or_parts (is_at (root_cmp root) first) (list_any (is_at (root_cmp root)) set) none in
    ap (λ (t : Bool). cond t (Some (Rooted first)) (find (same_place (Rooted root)) (root_facts set))) (root_same root first ∙ parts.0)
    ∙ find_root set root parts.1

-- a root at the place of another one is that one
pub same_root : (root first : Root) → is_eq (root_cmp root first) ≡ true → Rooted root ≡ Rooted first
same_root root first e = elim (same_place-true (Rooted root) (Rooted first) (root_same root first ∙ e)) [
  | inl have ↦ let none : None ≡ Some have.key = have.key_of_one in absurd cc
  | inr same ↦ same
]

pub has_root : (set : List Root) (root : Root) → list_any (is_at (root_cmp root)) set ≡ true → Has (root_facts set) (Rooted root)
has_root [] root e = absurd cc
has_root (first ∷ set) root e = elim (or_cases (is_at (root_cmp root) first) (list_any (is_at (root_cmp root)) set) e) [
  | inl here ↦ inl (same_root root first here)
  | inr there ↦ inr (has_root set root there)
]

-- what stating a root does to the set, stating its fact does to their facts
pub roots_state : (old new : List Root) (root : Root) (answer : Stated) → StatesRoot old root answer new
    → StatesAmong (root_facts old) (Rooted root) answer (root_facts new)
roots_state old new root New s = (find_root old root s.0, ap root_facts s.1 ∙ insert_roots old root s.0)
roots_state old new root Same s = (has_root old root s.0, ap root_facts s.1)
roots_state old new root Differs s = absurd s

-- the same where memory may have been refused
pub roots_tried : {E : Type 0} (r : Result Stated E) (old new : List Root) (root : Root) → IfOk r (λ answer. StatesRoot old root answer new)
    → IfOk r (λ answer. StatesAmong (root_facts old) (Rooted root) answer (root_facts new))
roots_tried (Ok answer) old new root ok = roots_state old new root answer ok
roots_tried (Err e) old new root ok = tt

pub roots_kept : {A E : Type 0} (r : Result A E) (old new : List Root) → OnErr r (new ≡ old) → OnErr r (root_facts new ≡ root_facts old)
roots_kept (Ok answer) old new kept = tt
roots_kept (Err e) old new kept = ap root_facts kept

-- where memory was refused for a root that is not in the set, none of their facts is at its place
pub roots_unseen : {E : Type 0} (r : Result Stated E) (set : List Root) (root : Root)
    → OnErr r (list_any (is_at (root_cmp root)) set ≡ false)
    → OnErr r (find (same_place (Rooted root)) (root_facts set) ≡ None)
roots_unseen (Ok answer) set root none = tt
roots_unseen (Err e) set root none = find_root set root none
