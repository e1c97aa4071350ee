-- Lists of what waits, as functions of the class that it waits for.
use Rattle.std.specs.BTreeMap.{BTreeMap, get, is_at}
use Rattle.std.specs.Cmp.{unsigned_tied}
use Rattle.std.specs.Map.{lookup, remove_entry, values_of}
use Rattle.std.specs.Option.{option_map_or, option_map, unwrap_or}
use Rattle.std.specs.Ordering.{nat_cmp}
use Rattle.std.proofs.Math.Path.{fun_ext}
use Rattle.std.proofs.lemmas.Map.Entries.{sum_by-remove_entry}
use Rattle.std.proofs.Common.{◌≡◌, ℕ, ◌==◌, ◌+◌, Bool, true, false, cond, List, [], length, sum_by, Option, Some, None, Vec, Global, refl}
use Rattle.std.proofs.Common.{sym, ap, ◌∙◌}
use Rattle.hprof_layouts.specs.declared.waiting_lists.WaitingLists.{WaitingLists}
use Rattle.hprof_layouts.specs.WaitingLists.{number_in, put, waiting_for}

-- ---- maps

-- a map without entries
pub get-empty : {X : Type 0} (map : BTreeMap ℕ X) (key : ℕ) → map.entries ≡ [] → get nat_cmp map key ≡ None
get-empty map key e = ap (lookup (is_at (nat_cmp key))) e

-- a map that was updated
pub get-updated : {X : Type 0} (map other : BTreeMap ℕ X) (key : ℕ) (value : Option X)
    → ((at : ℕ) → get nat_cmp other at ≡ cond (is_at (nat_cmp key) at) value (get nat_cmp map at))
    → get nat_cmp other ≡ put (get nat_cmp map) key value
get-updated map other key value updates =
    fun_ext (λ at. updates at ∙ ap (λ (b : Bool). cond b value (get nat_cmp map at)) (unsigned_tied key at))

-- what is put is put behind a function
pub put-through : {X Y : Type 0} (f : X → Y) (g : ℕ → X) (key : ℕ) (value : X)
    → (λ (at : ℕ). f (put g key value at)) ≡ put (λ (at : ℕ). f (g at)) key (f value)
put-through f g key value =
    fun_ext (λ at. elim (key == at) as (λ b. f (cond b value (g at)) ≡ cond b (f value) (f (g at))) [ true ↦ refl | false ↦ refl ])

-- ---- lists

module _ {T : Type 0} where
  -- the list that is found, or none
  abbrev pub list_in : Option (Vec T Global) → List T
  list_in found = option_map_or (λ list. list.items) found []

  pub waiting-empty : (waiting : WaitingLists T) (class : ℕ) → waiting.lists.entries ≡ [] → waiting_for waiting class ≡ []
  waiting-empty waiting class e = ap list_in (get-empty waiting.lists class e)

  -- a map in which a list was put, or from which one was taken out
  pub waiting-updated : (waiting other : WaitingLists T) (class : ℕ) (value : Option (Vec T Global))
      → ((at : ℕ) → get nat_cmp other.lists at ≡ cond (is_at (nat_cmp class) at) value (get nat_cmp waiting.lists at))
      → waiting_for other ≡ put (waiting_for waiting) class (list_in value)
  waiting-updated waiting other class value updates =
      let updated = get-updated waiting.lists other.lists class value updates in
      ap (λ (g : ℕ → Option (Vec T Global)). λ (at : ℕ). list_in (g at)) updated
      ∙ put-through list_in (get nat_cmp waiting.lists) class value

  -- ---- the number of items

  length-list_in : (found : Option (Vec T Global)) → unwrap_or (option_map (λ (list : Vec T Global). length list.items) found) 0
      ≡ length (list_in found)
  length-list_in None = refl
  length-list_in (Some list) = refl

  pub counted-taken : (waiting other : WaitingLists T) (class : ℕ)
      → other.lists.entries ≡ remove_entry (is_at (nat_cmp class)) waiting.lists.entries
      → number_in other + length (waiting_for waiting class) ≡ number_in waiting
  counted-taken waiting other class e =
      let test = is_at (nat_cmp class) in
      let entries = waiting.lists.entries in
      let rest = sum_by-remove_entry (λ (list : Vec T Global). length list.items) test entries in
      ap (λ (es : List (ℕ × Vec T Global)). sum_by (λ (list : Vec T Global). length list.items) (values_of es)
      + length (list_in (lookup test entries))) e
      ∙ ap (λ (n : ℕ). sum_by (λ (list : Vec T Global). length list.items) (values_of (remove_entry test entries)) + n)
      (sym (length-list_in (lookup test entries)))
      ∙ rest
