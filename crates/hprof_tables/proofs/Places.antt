-- Rows whose keys are found with their places: what is found among them, and what keeps the places right.
use Rattle.std.proofs.Common.{◌≡◌, ◌++◌, ◌⊎◌, ◌↔◌, ℕ, zero, suc, Bool, false, cond, ◌==◌, List, [], ◌∷◌, length, get_or, Option}
use Rattle.std.proofs.Common.{take, drop, Some, None, refl, sym, ap, subst, ◌∙◌, inl, inr, arith, nat_eq}
use Rattle.std.specs.Prelude.{Contains, slice_get, slice_set}
use Rattle.std.specs.BTreeMap.{is_at}
use Rattle.std.specs.Cmp.{unsigned_tied}
use Rattle.std.specs.List.{IsDistinct}
use Rattle.std.specs.Map.{keys_of, lookup}
use Rattle.std.specs.Option.{option_map}
use Rattle.std.specs.Ordering.{nat_cmp}
use Rattle.std.proofs.lemmas.Bool.{cases_eq, eq-eqb, eqb-true, ne_eqb}
use Rattle.std.proofs.lemmas.Cmp.{nat_eq_equiv}
use Rattle.std.proofs.lemmas.List.{drop_all, map-append}
use Rattle.std.proofs.lemmas.Map.{lookup-insert, none_passes_from_lookup}
use Rattle.std.proofs.Math.Seq.{take-length}
use Rattle.std.proofs.lemmas.Map.Entries.{length-keys_of, lookup_from_place, place_from_lookup}
use Rattle.std.proofs.lemmas.Map.Keys.{IsDistinct-from_apart}
use Rattle.std.proofs.lemmas.Option.{get_or_from_slice_get, slice_get-get_or, slice_get-map, slice_get_within}
use Rattle.hprof_tables.specs.SortedRows.{row_at}
use Rattle.hprof_tables.specs.Places.{ArePlaces}

-- no key stands at two places
pub placed_once : (keys : List ℕ) (places : List (ℕ × ℕ)) → ArePlaces keys places → IsDistinct nat_eq keys
placed_once keys places sound =
    IsDistinct-from_apart nat_eq keys (λ i j d lt within.
    let one = sound i (get_or keys i d) (slice_get-get_or keys i d (omega arith)) in
    let other = sound j (get_or keys j d) (slice_get-get_or keys j d within) in
    ne_eqb (get_or keys i d) (get_or keys j d) (λ same.
    let places_same : Some i ≡ Some j = sym one ∙ ap (λ (key : ℕ). row_at key places) same ∙ other in
    let same_place : i ≡ j = cc in
    absurd (omega arith)))

-- a key among more is one of them, or the last
pub one_of_more : (keys : List ℕ) (last place key : ℕ) → slice_get (keys ++ last ∷ []) place ≡ Some key
    → (slice_get keys place ≡ Some key) ⊎ ((place ≡ length keys) × (last ≡ key))
one_of_more [] last zero key e = inr (refl, cc)
one_of_more [] last (suc place) key e = absurd cc
one_of_more (first ∷ keys) last zero key e = inl e
one_of_more (first ∷ keys) last (suc place) key e = elim (one_of_more keys last place key e) [
  | inl here ↦ inl here
  | inr there ↦ let count = there.0 in inr (omega arith, there.1)
]

module _ {V : Type 0} where
  -- ---- what is found

  row_there : (rows : List (ℕ × V)) (place key : ℕ) → slice_get (keys_of rows) place ≡ Some key
      → (value : V) × (slice_get rows place ≡ Some (key, value))
  row_there [] place key e = absurd cc
  row_there (row ∷ rows) zero key e = let same : row.0 ≡ key = cc in (row.1, ap (λ (k : ℕ). Some (k, row.1)) same)
  row_there (row ∷ rows) (suc place) key e = row_there rows place key e

  key_there : (rows : List (ℕ × V)) (place key : ℕ) (value : V) → slice_get rows place ≡ Some (key, value)
      → slice_get (keys_of rows) place ≡ Some key
  key_there rows place key value e = slice_get-map (λ (row : ℕ × V). row.0) rows place ∙ ap (option_map (λ (row : ℕ × V). row.0)) e

  found_there : (rows : List (ℕ × V)) (places : List (ℕ × ℕ)) → ArePlaces (keys_of rows) places → (place key : ℕ) (value : V)
      → slice_get rows place ≡ Some (key, value) → lookup (nat_eq key) rows ≡ Some value
  found_there rows places sound place key value e =
      lookup_from_place nat_eq_equiv rows place key value (placed_once (keys_of rows) places sound) e

  -- what stands where a key is, is found
  pub found_at : (rows : List (ℕ × V)) (places : List (ℕ × ℕ)) → ArePlaces (keys_of rows) places → (place key : ℕ) (row : ℕ × V)
      → slice_get (keys_of rows) place ≡ Some key → row ≡ get_or rows place row → Some row.1 ≡ lookup (nat_eq key) rows
  found_at rows places sound place key row here is =
      let there = row_there rows place key here in
      let same : row ≡ (key, there.0) = is ∙ get_or_from_slice_get rows place (key, there.0) row there.1 in
      ap (λ (r : ℕ × V). Some r.1) same ∙ sym (found_there rows places sound place key there.0 there.1)

  found_none : (found : Option V) → ((value : V) → found ≡ Some value → ⊥) → found ≡ None
  found_none None not = refl
  found_none (Some value) not = absurd (not value refl)

  -- a key that does not stand where it is searched for is not there
  pub found_nowhere : (rows : List (ℕ × V)) (places : List (ℕ × ℕ)) → ArePlaces (keys_of rows) places → (key : ℕ)
      → ((place : ℕ) → row_at key places ≡ Some place → slice_get (keys_of rows) place ≡ Some key → ⊥)
      → lookup (nat_eq key) rows ≡ None
  found_nowhere rows places sound key not =
      found_none (lookup (nat_eq key) rows) (λ value e.
      let there = place_from_lookup (nat_eq key) rows value e in
      let same : key ≡ there.1 = eqb-true key there.1 there.3 in
      let here : slice_get (keys_of rows) there.0 ≡ Some key = key_there rows there.0 there.1 value there.2 ∙ ap Some (sym same) in
      not there.0 (sound there.0 key here) here)

  -- a look-up finds exactly the rows
  pub found_contained : (rows : List (ℕ × V)) (places : List (ℕ × ℕ)) → ArePlaces (keys_of rows) places → (key : ℕ) (value : V)
      → (lookup (nat_eq key) rows ≡ Some value) ↔ Contains rows (key, value)
  found_contained rows places sound key value = (
    λ e.
        let there = place_from_lookup (nat_eq key) rows value e in
        let same : there.1 ≡ key = sym (eqb-true key there.1 there.3) in
        let here : slice_get rows there.0 ≡ Some (key, value) = there.2 ∙ ap (λ (k : ℕ). Some (k, value)) same in
        (there.0, slice_get_within rows there.0 (key, value) here, get_or_from_slice_get rows there.0 (key, value) (key, value) here),
    λ (place, within, is). found_there rows places sound place key value (slice_get-get_or rows place (key, value) within ∙ ap Some is),
  )

  -- ---- a key that is new

  -- places to which one was added, of a key that is not there
  pub places_added : (rows : List (ℕ × V)) (places more : List (ℕ × ℕ)) (key : ℕ) → ArePlaces (keys_of rows) places
      → lookup (nat_eq key) rows ≡ None
      → ((at : ℕ) → is_at (nat_cmp key) at ≡ false → row_at at more ≡ row_at at places) → ArePlaces (keys_of rows) more
  places_added rows places more key sound none others = λ place at here.
      let apart : key ≡ at → ⊥ = λ same.
      let there = row_there rows place key (here ∙ ap Some (sym same)) in
      let e : None ≡ Some there.0 = sym none ∙ found_there rows places sound place key there.0 there.1 in
      cc in
      others at (unsigned_tied key at ∙ ne_eqb key at apart) ∙ sound place at here

  -- a row at the last of the places
  pub rows_added : (rows : List (ℕ × V)) (places : List (ℕ × ℕ)) (key : ℕ) (value : V) → ArePlaces (keys_of rows) places
      → row_at key places ≡ Some (length rows) → ArePlaces (keys_of (rows ++ (key, value) ∷ [])) places
  rows_added rows places key value sound last = λ place at here.
      let keys = map-append (λ (row : ℕ × V). row.0) rows ((key, value) ∷ []) in
      let more : slice_get (keys_of rows ++ key ∷ []) place ≡ Some at = ap (λ (ks : List ℕ). slice_get ks place) (sym keys) ∙ here in
      elim (one_of_more (keys_of rows) key place at more) [
        | inl old ↦ sound place at old
        | inr new ↦
            let count : length rows ≡ place = sym (new.0 ∙ length-keys_of rows) in
            ap (λ (k : ℕ). row_at k places) (sym new.1) ∙ last ∙ ap Some count
      ]

  -- what is found where a key was added
  pub found_added : (rows : List (ℕ × V)) (key : ℕ) (value : V) → lookup (nat_eq key) rows ≡ None → (at : ℕ)
      → lookup (nat_eq at) (rows ++ (key, value) ∷ []) ≡ cond (key == at) (Some value) (lookup (nat_eq at) rows)
  found_added rows key value none at =
      let all = take-length rows in
      let past : drop (length rows) rows ≡ [] = drop_all (length rows) rows (omega arith) in
      ap (λ (first : List (ℕ × V)). lookup (nat_eq at) (first ++ (key, value) ∷ [])) (sym all)
      ∙ ap (λ (rest : List (ℕ × V)). lookup (nat_eq at) (take (length rows) rows ++ (key, value) ∷ rest)) (sym past)
      ∙ lookup-insert nat_eq_equiv key value at rows (length rows) (none_passes_from_lookup (nat_eq key) rows none)

  -- ---- a key that is there

  keys_replaced : (rows : List (ℕ × V)) (place key : ℕ) (value : V) → slice_get (keys_of rows) place ≡ Some key
      → keys_of (slice_set rows place (key, value)) ≡ keys_of rows
  keys_replaced [] place key value here = refl
  keys_replaced (row ∷ rows) zero key value here = let same : key ≡ row.0 = cc in ap (λ (k : ℕ). k ∷ keys_of rows) same
  keys_replaced (row ∷ rows) (suc place) key value here = ap (λ (ks : List ℕ). row.0 ∷ ks) (keys_replaced rows place key value here)

  replaced_there : (rows : List (ℕ × V)) (place key : ℕ) (value : V) → slice_get (keys_of rows) place ≡ Some key
      → slice_get (slice_set rows place (key, value)) place ≡ Some (key, value)
  replaced_there [] place key value here = absurd cc
  replaced_there (row ∷ rows) zero key value here = refl
  replaced_there (row ∷ rows) (suc place) key value here = replaced_there rows place key value here

  others_replaced : (rows : List (ℕ × V)) (place key : ℕ) (value : V) (at : ℕ) → slice_get (keys_of rows) place ≡ Some key
      → (at ≡ key → ⊥) → lookup (nat_eq at) (slice_set rows place (key, value)) ≡ lookup (nat_eq at) rows
  others_replaced [] place key value at here apart = refl
  others_replaced (row ∷ rows) zero key value at here apart =
      let same : key ≡ row.0 = cc in
      let new = ap (λ (b : Bool). cond b (Some value) (lookup (nat_eq at) rows)) (ne_eqb at key apart) in
      let old = ap (λ (b : Bool). cond b (Some row.1) (lookup (nat_eq at) rows)) (ne_eqb at row.0 (λ e. apart (e ∙ sym same))) in
      new ∙ sym old
  others_replaced (row ∷ rows) (suc place) key value at here apart =
      ap (λ (found : Option V). cond (at == row.0) (Some row.1) found) (others_replaced rows place key value at here apart)

  -- the key of a row
  key_of_row : (rows : List (ℕ × V)) (place key : ℕ) (row : ℕ × V) → slice_get (keys_of rows) place ≡ Some key
      → row ≡ get_or rows place row → row.0 ≡ key
  key_of_row rows place key row here is =
      let there = row_there rows place key here in
      ap (λ (r : ℕ × V). r.0) (is ∙ get_or_from_slice_get rows place (key, there.0) row there.1)

  -- places, and what is found, where the value of a row was replaced
  pub places_replaced : (rows : List (ℕ × V)) (places : List (ℕ × ℕ)) → ArePlaces (keys_of rows) places
      → (place key : ℕ) (row : ℕ × V) (value : V) → slice_get (keys_of rows) place ≡ Some key → row ≡ get_or rows place row
      → ArePlaces (keys_of (slice_set rows place (row.0, value))) places
  places_replaced rows places sound place key row value here is =
      let same = key_of_row rows place key row here is in
      subst (λ (k : ℕ). ArePlaces (keys_of (slice_set rows place (k, value))) places) (sym same)
      (subst (λ (ks : List ℕ). ArePlaces ks places) (sym (keys_replaced rows place key value here)) sound)

  pub found_replaced : (rows : List (ℕ × V)) (places : List (ℕ × ℕ)) → ArePlaces (keys_of rows) places
      → (place key : ℕ) (row : ℕ × V) (value : V) → slice_get (keys_of rows) place ≡ Some key → row ≡ get_or rows place row
      → (at : ℕ)
      → lookup (nat_eq at) (slice_set rows place (row.0, value)) ≡ cond (key == at) (Some value) (lookup (nat_eq at) rows)
  found_replaced rows places sound place key row value here is at =
      let same = key_of_row rows place key row here is in
      let kept = subst (λ (ks : List ℕ). ArePlaces ks places) (sym (keys_replaced rows place key value here)) sound in
      let new = slice_set rows place (key, value) in
      let replaced : lookup (nat_eq at) new ≡ cond (key == at) (Some value) (lookup (nat_eq at) rows) = elim (cases_eq key at) [
        | inl e ↦
            ap (λ (k : ℕ). lookup (nat_eq k) new) (sym e)
            ∙ found_there new places kept place key value (replaced_there rows place key value here)
            ∙ sym (ap (λ (b : Bool). cond b (Some value) (lookup (nat_eq at) rows)) (eq-eqb key at e))
        | inr apart ↦
            others_replaced rows place key value at here (λ e. apart (sym e))
            ∙ sym (ap (λ (b : Bool). cond b (Some value) (lookup (nat_eq at) rows)) (ne_eqb key at apart))
      ] in
      ap (λ (k : ℕ). lookup (nat_eq at) (slice_set rows place (k, value))) same ∙ replaced
