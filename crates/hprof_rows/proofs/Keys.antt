-- The order of keys.
use Rattle.std.specs.Prelude.{◌==◌, unwrap_or, if◌then◌else◌, bytes_eq}
use Rattle.std.proofs.Common.{◌≡◌, ℕ, zero, suc, ◌<◌, ◌≤◌, Bool, true, false, cond, List, [], ◌∷◌, Option, Some, None, refl, sym, ap, ◌∙◌}
use Rattle.std.proofs.Common.{◌⊎◌, inl, inr, arith}
use Rattle.std.proofs.lemmas.Bool.{ltb-true, lt-ltb, eqb-true, eq-eqb, leb-true, le-leb, or_cases, and_parts, and_from, or_left, or_right}
use Rattle.std.proofs.lemmas.Bool.{cases_order, cases_lt, both_ways}
use Rattle.std.proofs.lemmas.Bool.Decides.{not_from_Decides}
use Rattle.std.proofs.lemmas.Slice.Eq.{bytes_eq-Decides}
use Rattle.hprof_values.specs.declared.root.Root.{Root}
use Rattle.hprof_values.specs.declared.root.Root.TheVariants as roots
use Rattle.hprof_values.specs.declared.sub_tag.SubTag.TheVariants as tags
use Rattle.hprof_values.specs.Root.{tag_of_root, root_numbers}
use Rattle.hprof_values.specs.SubTag.{code_of_tag, tag_of_code}
use Rattle.hprof_items.specs.FactValue.{FactValue, Name, Load, Unload, Frame, Trace, Start, End, Rooted, Class, Instance, ObjArray}
use Rattle.hprof_items.specs.FactValue.{PrimArray}
use Rattle.hprof_items.specs.SubRecord.{root_of}
use Rattle.hprof_rows.specs.declared.key.Key.{Key}
use Rattle.hprof_rows.specs.declared.key.Key.TheVariants as keys
use Rattle.hprof_rows.specs.Order.{order_of}
use Rattle.hprof_rows.specs.Key.{HaveOneKey, key_of, rank_of, number_of, key_le, lesser_key, is_key, has_key}

-- the first number is less, or it is the same and the second is no greater
abbrev pub IsUpTo : (r n s m : ℕ) → Type 0
IsUpTo r n s m = (r < s) ⊎ ((r ≡ s) × (n ≤ m))

-- what the test of two keys tells
pub key_le-true : (key other : Key) → key_le key other ≡ true → IsUpTo (rank_of key) (number_of key) (rank_of other) (number_of other)
key_le-true key other e = elim (or_cases _ _ e) [
  | inl lt ↦ inl (ltb-true _ _ lt)
  | inr both ↦ let p = and_parts _ _ both in inr (eqb-true _ _ p.0, leb-true _ _ p.1)
]

-- what the test of two keys needs
pub true-key_le : (key other : Key) → IsUpTo (rank_of key) (number_of key) (rank_of other) (number_of other) → key_le key other ≡ true
true-key_le key other (inl lt) = or_left _ _ (lt-ltb _ _ lt)
true-key_le key other (inr both) = or_right _ _ (and_from _ _ (eq-eqb _ _ both.0) (le-leb _ _ both.1))

-- pairs of numbers are in one order
IsUpTo-trans : (r n s m t k : ℕ) → IsUpTo r n s m → IsUpTo s m t k → IsUpTo r n t k
IsUpTo-trans r n s m t k (inl a) (inl b) = inl (omega arith)
IsUpTo-trans r n s m t k (inl a) (inr b) = inl (omega arith)
IsUpTo-trans r n s m t k (inr a) (inl b) = inl (omega arith)
IsUpTo-trans r n s m t k (inr a) (inr b) = inr (omega arith, omega arith)

-- each key is no greater than itself
pub key_le-refl : (key : Key) → key_le key key ≡ true
key_le-refl key = true-key_le key key (inr (refl, omega arith))

-- keys are in one order
pub key_le-trans : (key other more : Key) → key_le key other ≡ true → key_le other more ≡ true → key_le key more ≡ true
key_le-trans key other more a b =
    true-key_le key more (IsUpTo-trans (rank_of key) (number_of key) (rank_of other) (number_of other) (rank_of more) (number_of more)
    (key_le-true key other a) (key_le-true other more b))

-- of two keys one is no greater
pub key_le-total : (key other : Key) → (key_le key other ≡ true) ⊎ (key_le other key ≡ true)
key_le-total key other = elim (cases_order (rank_of key) (rank_of other)) [
  | inr lt ↦ elim lt [ inl a ↦ inl (true-key_le key other (inl a)) | inr b ↦ inr (true-key_le other key (inl b)) ]
  | inl e ↦ elim (cases_lt (number_of key) (number_of other)) [
    | inl a ↦ inl (true-key_le key other (inr (e, omega arith)))
    | inr b ↦ inr (true-key_le other key (inr (sym e, b)))
  ]
]

-- the key of that rank and number
key_at : ℕ → ℕ → Key
key_at zero number = keys.Name number
key_at (suc zero) number = keys.Load number
key_at (suc (suc zero)) number = keys.Frame number
key_at (suc (suc (suc zero))) number = keys.Trace number
key_at (suc (suc (suc (suc zero)))) number = keys.Thread number
key_at (suc (suc (suc (suc (suc zero))))) number = keys.Class number
key_at (suc (suc (suc (suc (suc (suc rank)))))) number = keys.Object number

-- each key is that of its rank and number
key_is : (key : Key) → key_at (rank_of key) (number_of key) ≡ key
unfolding key_at
key_is (keys.Name id) = refl
key_is (keys.Load serial) = refl
key_is (keys.Frame id) = refl
key_is (keys.Trace serial) = refl
key_is (keys.Thread serial) = refl
key_is (keys.Class id) = refl
key_is (keys.Object id) = refl

-- two pairs, each no greater than the other, are one
IsUpTo-both : (r n s m : ℕ) → IsUpTo r n s m → IsUpTo s m r n → (r ≡ s) × (n ≡ m)
IsUpTo-both r n s m (inl a) (inl b) = absurd (omega arith)
IsUpTo-both r n s m (inl a) (inr b) = absurd (omega arith)
IsUpTo-both r n s m (inr a) (inl b) = absurd (omega arith)
IsUpTo-both r n s m (inr a) (inr b) = (a.0, omega arith)

-- two keys, each no greater than the other, are one
pub key_le-antisym : (key other : Key) → key_le key other ≡ true → key_le other key ≡ true → key ≡ other
key_le-antisym key other a b =
    let same = IsUpTo-both (rank_of key) (number_of key) (rank_of other) (number_of other) (key_le-true key other a)
    (key_le-true other key b) in
    sym (key_is key) ∙ ap (λ (r : ℕ). key_at r (number_of key)) same.0 ∙ ap (λ (n : ℕ). key_at (rank_of other) n) same.1 ∙ key_is other

-- the lesser of two keys is one of them, and no greater than either
pub record IsLesser (key other least : Key) : Type 0 where
  pub one : (least ≡ key) ⊎ (least ≡ other)
  pub le_first : key_le least key ≡ true
  pub le_second : key_le least other ≡ true

-- the lesser key, by what the test answered
lesser_by : (t : Bool) (key other : Key) → key_le key other ≡ t → IsLesser key other (cond t key other)
lesser_by true key other e = record { one = inl refl; le_first = key_le-refl key; le_second = e }
lesser_by false key other e = record {
  one = inr refl;
  le_first = elim (key_le-total key other) [ inl a ↦ absurd (both_ways _ e a) | inr b ↦ b ];
  le_second = key_le-refl other;
}

-- what `lesser_key` answers
pub lesser_is : (key other : Key) → IsLesser key other (lesser_key key other)
lesser_is key other = lesser_by (key_le key other) key other refl

-- ---- the keys of facts

-- the place of the facts that have a key
abbrev pub place_of_key : Key → List ℕ
place_of_key (keys.Name id) = 0 ∷ id ∷ []
place_of_key (keys.Load serial) = 1 ∷ serial ∷ []
place_of_key (keys.Frame id) = 3 ∷ id ∷ []
place_of_key (keys.Trace serial) = 4 ∷ serial ∷ []
place_of_key (keys.Thread serial) = 5 ∷ serial ∷ []
place_of_key (keys.Class id) = 8 ∷ id ∷ []
place_of_key (keys.Object id) = 9 ∷ id ∷ []

-- of a fact whose key is told
keyed_place : (place : List ℕ) (known key : Key) → place ≡ place_of_key known → Some known ≡ Some key → place ≡ place_of_key key
keyed_place place known key at e = let same : known ≡ key = cc in at ∙ ap place_of_key same

key_place : (fact : FactValue) (key : Key) → key_of fact ≡ Some key → order_of fact ≡ place_of_key key
key_place (Name id text) key e = keyed_place _ (keys.Name id) key refl e
key_place (Load serial class trace name) key e = keyed_place _ (keys.Load serial) key refl e
key_place (Unload serial) key e = absurd cc
key_place (Frame id method signature source class_serial line) key e = keyed_place _ (keys.Frame id) key refl e
key_place (Trace serial thread frames) key e = keyed_place _ (keys.Trace serial) key refl e
key_place (Start thread object trace name group parent_group) key e = keyed_place _ (keys.Thread thread) key refl e
key_place (End thread) key e = absurd cc
key_place (Rooted root) key e = absurd cc
key_place (Class id trace parent loader signers domain reserved1 reserved2 size constants statics fields) key e =
    keyed_place _ (keys.Class id) key refl e
key_place (Instance id trace class bytes) key e = keyed_place _ (keys.Object id) key refl e
key_place (ObjArray id trace class elements) key e = keyed_place _ (keys.Object id) key refl e
key_place (PrimArray id trace elem bytes) key e = keyed_place _ (keys.Object id) key refl e

-- the key of the facts of that table with that number
abbrev key_in : (table number : ℕ) → Option Key
key_in table number =
    if table == 0 then Some (keys.Name number) else (if table == 1 then Some (keys.Load number) else
    (if table == 3 then Some (keys.Frame number)
    else (if table == 4 then Some (keys.Trace number) else (if table == 5 then Some (keys.Thread number) else
    (if table == 8 then Some (keys.Class number)
    else (if table == 9 then Some (keys.Object number) else None))))))

-- the key of the facts that stand at a place
key_of_place : List ℕ → Option Key
key_of_place [] = None
key_of_place (table ∷ []) = None
key_of_place (table ∷ number ∷ more) = key_in table number

place_key : (fact : FactValue) → key_of fact ≡ key_of_place (order_of fact)
unfolding key_of_place
place_key (Name id text) = refl
place_key (Load serial class trace name) = refl
place_key (Unload serial) = refl
place_key (Frame id method signature source class_serial line) = refl
place_key (Trace serial thread frames) = refl
place_key (Start thread object trace name group parent_group) = refl
place_key (End thread) = refl
place_key (Rooted root) = refl
place_key (Class id trace parent loader signers domain reserved1 reserved2 size constants statics fields) = refl
place_key (Instance id trace class bytes) = refl
place_key (ObjArray id trace class elements) = refl
place_key (PrimArray id trace elem bytes) = refl

-- the root whose tag has that code, with those numbers
root_with : ℕ → List ℕ → Root
root_with code numbers = root_of (unwrap_or (tag_of_code code) tags.RootUnknown) numbers

root_is : (root : Root) → root ≡ root_with (code_of_tag (tag_of_root root)) (root_numbers root)
unfolding root_with
root_is (roots.JniGlobal id reference) = refl
root_is (roots.JniLocal id thread frame) = refl
root_is (roots.JavaFrame id thread frame) = refl
root_is (roots.NativeStack id thread) = refl
root_is (roots.Sticky id) = refl
root_is (roots.Block id thread) = refl
root_is (roots.Monitor id) = refl
root_is (roots.ThreadObject id thread trace) = refl
root_is (roots.Unknown id) = refl

-- the fact without a key that stands at a place
unkeyed_at : List ℕ → FactValue
unkeyed_at [] = Unload 0
unkeyed_at (table ∷ []) = Unload 0
unkeyed_at (table ∷ number ∷ more) =
    if table == 2 then Unload number else (if table == 6 then End number else Rooted (root_with number more))

unkeyed_is : (fact : FactValue) → key_of fact ≡ None → fact ≡ unkeyed_at (order_of fact)
unfolding unkeyed_at
unkeyed_is (Unload serial) e = refl
unkeyed_is (End thread) e = refl
unkeyed_is (Rooted root) e = ap Rooted (root_is root)
unkeyed_is (Name id text) e = absurd cc
unkeyed_is (Load serial class trace name) e = absurd cc
unkeyed_is (Frame id method signature source class_serial line) e = absurd cc
unkeyed_is (Trace serial thread frames) e = absurd cc
unkeyed_is (Start thread object trace name group parent_group) e = absurd cc
unkeyed_is (Class id trace parent loader signers domain reserved1 reserved2 size constants statics fields) e = absurd cc
unkeyed_is (Instance id trace class bytes) e = absurd cc
unkeyed_is (ObjArray id trace class elements) e = absurd cc
unkeyed_is (PrimArray id trace elem bytes) e = absurd cc

-- whether two facts stand at one place
abbrev pub same_place : FactValue → FactValue → Bool
same_place fact other = bytes_eq (order_of fact) (order_of other)

-- two facts at one place have one key, or are one
one_place : (one other : FactValue) (key : Option Key) → key_of one ≡ key → order_of one ≡ order_of other → HaveOneKey one other
    ⊎ (one ≡ other)
one_place one other None e same =
    let none : key_of other ≡ None = place_key other ∙ ap key_of_place (sym same) ∙ sym (place_key one) ∙ e in
    inr (unkeyed_is one e ∙ ap unkeyed_at same ∙ sym (unkeyed_is other none))
one_place one other (Some key) e same = inl (record {
  key = key;
  key_of_one = e;
  key_of_other = place_key other ∙ ap key_of_place (sym same) ∙ sym (place_key one) ∙ e;
})

pub same_place-true : (one other : FactValue) → same_place one other ≡ true → HaveOneKey one other ⊎ (one ≡ other)
same_place-true one other e = one_place one other (key_of one) refl ((bytes_eq-Decides (order_of one) (order_of other)).0 e)

-- facts with one key stand at one place
pub one_key_place : (one other : FactValue) → HaveOneKey one other → order_of one ≡ order_of other
one_key_place one other have = key_place one have.key have.key_of_one ∙ sym (key_place other have.key have.key_of_other)

pub same_place-false : (one other : FactValue) → same_place one other ≡ false → HaveOneKey one other → ⊥
same_place-false one other e have =
    not_from_Decides (same_place one other) (bytes_eq-Decides (order_of one) (order_of other)) e (one_key_place one other have)

-- a fact stands in its own place
pub same_place-same : (fact : FactValue) → same_place fact fact ≡ false → ⊥
same_place-same fact e = not_from_Decides (same_place fact fact) (bytes_eq-Decides (order_of fact) (order_of fact)) e refl

-- the facts have one key either way round
pub HaveOneKey-sym : (one other : FactValue) → HaveOneKey one other → HaveOneKey other one
HaveOneKey-sym one other have = record { key = have.key; key_of_one = have.key_of_other; key_of_other = have.key_of_one }

pub HaveOneKey-trans : (one middle other : FactValue) → HaveOneKey one middle → HaveOneKey middle other → HaveOneKey one other
HaveOneKey-trans one middle other first second = record {
  key = second.key;
  key_of_one = first.key_of_one ∙ sym first.key_of_other ∙ second.key_of_one;
  key_of_other = second.key_of_other;
}

-- ---- the facts of a key

key_of_its_place : (key : Key) → key_of_place (place_of_key key) ≡ Some key
unfolding key_of_place
key_of_its_place (keys.Name id) = refl
key_of_its_place (keys.Load serial) = refl
key_of_its_place (keys.Frame id) = refl
key_of_its_place (keys.Trace serial) = refl
key_of_its_place (keys.Thread serial) = refl
key_of_its_place (keys.Class id) = refl
key_of_its_place (keys.Object id) = refl

pub is_key-true : (key : Key) (found : Option Key) → is_key key found ≡ true → found ≡ Some key
is_key-true key None e = absurd cc
is_key-true key (Some other) e =
    let p = and_parts _ _ e in
    ap (λ (k : Key). Some k) (sym (key_is other) ∙ ap (λ (r : ℕ). key_at r (number_of other)) (sym (eqb-true _ _ p.0))
    ∙ ap (λ (n : ℕ). key_at (rank_of key) n) (sym (eqb-true _ _ p.1)) ∙ key_is key)

pub true-is_key : (key : Key) (found : Option Key) → found ≡ Some key → is_key key found ≡ true
true-is_key key found e = rw e (and_from _ _ (eq-eqb (rank_of key) (rank_of key) refl) (eq-eqb (number_of key) (number_of key) refl))

same_tests : (a b : Bool) → (a ≡ true → b ≡ true) → (b ≡ true → a ≡ true) → a ≡ b
same_tests true true f g = refl
same_tests true false f g = let e : false ≡ true = f refl in absurd cc
same_tests false true f g = let e : false ≡ true = g refl in absurd cc
same_tests false false f g = refl

-- whether a fact stands at that place
abbrev pub stands_at : List ℕ → FactValue → Bool
stands_at place fact = bytes_eq place (order_of fact)

-- a fact has a key where it stands at the key's place
pub has_key_at : (key : Key) (place : List ℕ) (fact : FactValue) → place_of_key key ≡ place → has_key key fact ≡ stands_at place fact
has_key_at key place fact at = same_tests (has_key key fact) (stands_at place fact)
    (λ yes. (bytes_eq-Decides place (order_of fact)).1 (sym at ∙ sym (key_place fact key (is_key-true key (key_of fact) yes))))
    (λ yes. true-is_key key (key_of fact)
    (place_key fact ∙ ap key_of_place (sym ((bytes_eq-Decides place (order_of fact)).0 yes) ∙ sym at) ∙ key_of_its_place key))
