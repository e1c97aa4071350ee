-- What threads hold, gathered and sorted.
use Rattle.std.proofs.Common.{◌≡◌, ◌≢◌, ◌⊎◌, ◌↔◌, ◌==◌, inl, inr, true, false, Bool, cond, ℕ, List, [], ◌∷◌, ◌++◌, Option, Some, None}
use Rattle.std.proofs.Common.{◌<◌, zero, suc, length, get_or, refl, sym, ap, subst, ◌∙◌, arith}
use Rattle.std.specs.Prelude.{Contains}
use Rattle.std.specs.List.{flat_map}
use Rattle.std.specs.List.Sorted.{IsStrictlySortedBy}
use Rattle.std.proofs.lemmas.Bool.{both_ways, cases_eq, eq-eqb, eqb-true, and_parts}
use Rattle.hprof_values.specs.declared.root.Root.{Root}
use Rattle.hprof_items.specs.FactValue.{FactValue, Rooted}
use Rattle.hprof_rows.specs.declared.table.Table.TheVariants as tables
use Rattle.hprof_rows.specs.Facts.{Has}
use Rattle.hprof_rows.specs.Tables.{facts_of_table, number_of_table, stands_in}
use Rattle.hprof_threads.specs.declared.held.Held.{Held}
use Rattle.hprof_threads.specs.declared.held.Place.{Place}
use Rattle.hprof_threads.specs.contracts.held.HeldOrd.TheImpl as held_ord
use Rattle.hprof_threads.specs.Held.{AreHeld, IsHeld, held_by, held_in, some_held}
use Rattle.hprof_threads.proofs.Gathered.{IsOf, none_there, of_table}

-- it is the one element
one_there : (x y : Held) → Contains (x ∷ []) y → y ≡ x
one_there x y has = at_place has.0 has.1 has.2 where
  at_place : (place : ℕ) → place < length (x ∷ []) → get_or (x ∷ []) place y ≡ y → y ≡ x
  at_place zero lt e = sym e
  at_place (suc place) lt e = absurd (omega (arith, lt))

-- what is held by a root
held_of : (found : Option Held) (held : Held) → Contains (some_held found) held → (found ≡ Some held) × (held.object ≢ 0)
held_of None held has = absurd (none_there held has)
held_of (Some own) held has = by_test (own.object == 0) refl has where
  by_test : (b : Bool) → (own.object == 0) ≡ b → Contains (cond b [] (own ∷ [])) held → (Some own ≡ Some held) × (held.object ≢ 0)
  by_test true e has = absurd (none_there held has)
  by_test false e has =
      let is = one_there own held has in
      (ap Some (sym is), λ zero. both_ways (own.object == 0) e (eq-eqb own.object 0 (ap (λ (h : Held). h.object) (sym is) ∙ zero)))

held_there : (held : Held) → held.object ≢ 0 → Contains (some_held (Some held)) held
held_there held some = by_test (held.object == 0) refl where
  by_test : (b : Bool) → (held.object == 0) ≡ b → Contains (cond b [] (held ∷ [])) held
  by_test true e = absurd (some (eqb-true held.object 0 e))
  by_test false e = (0, omega arith, refl)

-- a fact that holds something is a root
in_roots : (fact : FactValue) (held : Held) → Contains (held_in fact) held → stands_in (number_of_table tables.Roots) fact ≡ true
in_roots (Rooted root) held has = refl
in_roots _ held has = absurd (none_there held has)

from_fact : (facts : List FactValue) (held : Held) (fact : FactValue) → Has facts fact → Contains (held_in fact) held → IsHeld facts held
from_fact facts held (Rooted root) has gives =
    let is = held_of (held_by root) held gives in record { root = root; has = has; is = is.0; some = is.1 }
from_fact facts held _ has gives = absurd (none_there held gives)

-- what was gathered of the table of roots is what threads hold
pub gathered_held : (facts : List FactValue) (rows : List Held) → rows ≡ flat_map held_in (facts_of_table tables.Roots facts)
    → (held : Held)
    → Contains rows held ↔ IsHeld facts held
gathered_held facts rows is held =
    let exact = of_table held_in tables.Roots in_roots facts [] rows is held in (
      λ has. elim (exact.0 has) [
        | inl none ↦ absurd (none_there held none)
        | inr one ↦ from_fact facts held one.fact one.has one.gives
      ],
      λ is_held. exact.1 (inr (record {
        fact = Rooted is_held.root;
        has = is_held.has;
        gives = subst (λ (found : Option Held). Contains (some_held found) held) (sym is_held.is) (held_there held is_held.some);
      })),
    )

-- sorted rows with the same members
pub sorted_held : (facts : List FactValue) (rows sorted : List Held) → ((held : Held) → Contains rows held ↔ IsHeld facts held)
    → IsStrictlySortedBy ((held_ord.ghosts).cmp) sorted → ((held : Held) → Contains sorted held ↔ Contains rows held) → AreHeld facts sorted
sorted_held facts rows sorted exact ascend same = record {
  ascend = ascend;
  exact = λ held. (λ has. (exact held).0 ((same held).0 has), λ is. (same held).1 ((exact held).1 is));
}
