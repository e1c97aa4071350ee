-- Of whichever facts there is a list of what threads hold, and one alone.
use Rattle.std.proofs.Common.{◌≡◌, ◌==◌, ◌<◌, ℕ, Bool, true, false, List, [], ◌∷◌, Option, Some, None, refl, sym, ap, subst, ◌∙◌, inl, inr}
use Rattle.std.specs.Prelude.{Contains, if◌then◌else◌}
use Rattle.std.specs.List.{filter, flat_map}
use Rattle.std.specs.declared.cmp.Ordering.{Ordering}
use Rattle.std.specs.declared.cmp.Ordering.TheVariants.{Less, Equal, Greater}
use Rattle.std.specs.Ordering.{MatchOrdering, nat_cmp, ordering_then}
use Rattle.std.proofs.lemmas.Bool.{eq-eqb, eqb-true, ne_eqb}
use Rattle.std.proofs.lemmas.Cmp.{nat_cmp_total, ranked, tied_itself}
use Rattle.std.proofs.lemmas.List.Elements.{All-contains, All-contains_itself, All-filter, filter_passes}
use Rattle.std.proofs.lemmas.List.Kept.{IsStrictlySortedBy-filter}
use Rattle.hprof_values.specs.declared.root.Root.{Root}
use Rattle.hprof_items.specs.FactValue.{FactValue, Rooted}
use Rattle.hprof_rows.specs.Facts.{Has}
use Rattle.hprof_threads.specs.declared.held.Held.{Held}
use Rattle.hprof_threads.specs.declared.held.Place.{Place}
use Rattle.hprof_threads.specs.declared.held.Place.TheVariants as places
use Rattle.hprof_threads.specs.contracts.held.HeldOrd.TheImpl as held_ord
use Rattle.hprof_threads.specs.contracts.held.PlaceOrd.TheImpl as place_ord
use Rattle.hprof_threads.specs.contracts.held.HeldOrd.TheImpl.Laws.{total-law}
use Rattle.hprof_threads.specs.Held.{AreHeld, AreHeldBy, held_by, held_in, some_held}
use Rattle.hprof_histogram.proofs.Members.{IsIn, Contains-from_in, in_filter, in_from_Contains, one_sorted}
use Rattle.hprof_holders.proofs.Gathered.{in_order, of_each, of_one}

-- a fact among these
pub in_facts : (facts : List FactValue) (fact : FactValue) → Has facts fact → IsIn fact facts
in_facts [] fact has = absurd has
in_facts (first ∷ facts) fact has = elim has [ inl is ↦ inl is | inr later ↦ inr (in_facts facts fact later) ]

pub has_fact : (facts : List FactValue) (fact : FactValue) → IsIn fact facts → Has facts fact
has_fact [] fact has = absurd has
has_fact (first ∷ facts) fact has = elim has [ inl is ↦ inl is | inr later ↦ inr (has_fact facts fact later) ]

-- ---- what a fact holds

-- it is a root that holds this
record IsHeldIn (fact : FactValue) (held : Held) : Type 0 where
  pub root : Root
  pub is_root : fact ≡ Rooted root
  pub is : held_by root ≡ Some held
  pub some : held.object ≡ 0 → ⊥

some_there : (found : Option Held) (held : Held) → IsIn held (some_held found) → (found ≡ Some held) × (held.object ≡ 0 → ⊥)
some_there None held has = absurd has
some_there (Some one) held has = by (one.object == 0) refl has where
  by : (b : Bool) → (one.object == 0) ≡ b → IsIn held (if b then [] else one ∷ []) → (Some one ≡ Some held) × (held.object ≡ 0 → ⊥)
  by true e has = absurd has
  by false e has = elim has [
    | inl is ↦ (
      ap Some (sym is),
      λ zero. let same : one.object ≡ 0 = ap (λ (h : Held). h.object) (sym is) ∙ zero in
          let clash : true ≡ false = sym (eq-eqb one.object 0 same) ∙ e in absurd cc,
    )
    | inr later ↦ absurd later
  ]

there_some : (held : Held) → (held.object ≡ 0 → ⊥) → IsIn held (some_held (Some held))
there_some held some =
    subst (λ (b : Bool). IsIn held (if b then [] else held ∷ [])) (sym (ne_eqb held.object 0 some)) (inl refl)

held_there : (fact : FactValue) (held : Held) → IsIn held (held_in fact) → IsHeldIn fact held
held_there (Rooted root) held has =
    let it = some_there (held_by root) held has in record { root = root; is_root = refl; is = it.0; some = it.1 }
held_there fact held has = absurd has

-- ---- objects that compare as equal are one

both_tied : (first second : Ordering) → ordering_then first second ≡ Equal → (first ≡ Equal) × (second ≡ Equal)
both_tied Less second e = absurd cc
both_tied Equal second e = (refl, e)
both_tied Greater second e = absurd cc

same_number : (one other : ℕ) → nat_cmp one other ≡ Equal → one ≡ other
same_number one other e = ranked one other Equal (sym e)

same_place_and_object : (thread first second : ℕ) (one other : Place)
    → (held_ord.ghosts).cmp (record { thread = thread; place = one; object = first })
    (record { thread = thread; place = other; object = second }) ≡ Equal
    → (one ≡ other) × (first ≡ second)
same_place_and_object thread first second (places.Frame one) (places.Frame other) e =
    let both = both_tied (nat_cmp one other) (nat_cmp first second) (rw (tied_itself nat_cmp_total thread) at e) in
    (ap places.Frame (same_number one other both.0), same_number first second both.1)
same_place_and_object thread first second (places.Frame one) places.NativeStack e =
    let clash : Less ≡ Equal = rw (tied_itself nat_cmp_total thread) at e in absurd cc
same_place_and_object thread first second (places.Frame one) places.ThreadBlock e =
    let clash : Less ≡ Equal = rw (tied_itself nat_cmp_total thread) at e in absurd cc
same_place_and_object thread first second places.NativeStack (places.Frame other) e =
    let clash : Greater ≡ Equal = rw (tied_itself nat_cmp_total thread) at e in absurd cc
same_place_and_object thread first second places.NativeStack places.NativeStack e =
    (refl, same_number first second (rw (tied_itself nat_cmp_total thread) at e))
same_place_and_object thread first second places.NativeStack places.ThreadBlock e =
    let clash : Less ≡ Equal = rw (tied_itself nat_cmp_total thread) at e in absurd cc
same_place_and_object thread first second places.ThreadBlock (places.Frame other) e =
    let clash : Greater ≡ Equal = rw (tied_itself nat_cmp_total thread) at e in absurd cc
same_place_and_object thread first second places.ThreadBlock places.NativeStack e =
    let clash : Greater ≡ Equal = rw (tied_itself nat_cmp_total thread) at e in absurd cc
same_place_and_object thread first second places.ThreadBlock places.ThreadBlock e =
    (refl, same_number first second (rw (tied_itself nat_cmp_total thread) at e))

same_thread : (one other : Held) (order : Ordering) → MatchOrdering order (one.thread < other.thread) (one.thread ≡ other.thread)
    (other.thread < one.thread)
    → ordering_then order (ordering_then ((place_ord.ghosts).cmp one.place other.place) (nat_cmp one.object other.object)) ≡ Equal
    → one.thread ≡ other.thread
same_thread one other Less at e = absurd cc
same_thread one other Equal at e = at
same_thread one other Greater at e = absurd cc

held_tied : (one other : Held) → (held_ord.ghosts).cmp one other ≡ Equal → one ≡ other
held_tied one other e =
    let threads = same_thread one other (nat_cmp one.thread other.thread) (ranked one.thread other.thread _ refl) e in
    let rest = same_place_and_object one.thread one.object other.object one.place other.place
    (subst (λ (thread : ℕ). (held_ord.ghosts).cmp one (record { thread = thread; place = other.place; object = other.object }) ≡ Equal)
    (sym threads) e) in
    λ i. record { thread = threads i; place = rest.0 i; object = rest.1 i }

-- ---- there is one

pub all_held : (facts : List FactValue) → (rows : List Held) × AreHeld facts rows
all_held facts =
    let sorted = in_order (held_ord.ghosts).cmp total-law held_tied (flat_map held_in facts) in (
      sorted.all,
      record {
        ascend = sorted.sorted;
        exact = λ held. (
          λ has.
              let it = of_one held_in facts held (sorted.only held (in_from_Contains sorted.all held has)) in
              let root = held_there it.from held it.has in
              record {
                root = root.root;
                has = has_fact facts (Rooted root.root) (subst (λ (fact : FactValue). IsIn fact facts) root.is_root it.there);
                is = root.is;
                some = root.some;
              },
          λ is. Contains-from_in sorted.all held (sorted.keeps held (of_each held_in facts (Rooted is.root) held
              (in_facts facts (Rooted is.root) is.has)
              (subst (λ (found : Option Held). IsIn held (some_held found)) (sym is.is) (there_some held is.some)))),
        );
      },
    )

-- those of a thread
pub rows_of : List Held → ℕ → List Held
rows_of rows serial = filter (λ (held : Held). held.thread == serial) rows

pub are_rows_of : (facts : List FactValue) (rows : List Held) → AreHeld facts rows → (serial : ℕ)
    → AreHeldBy facts serial (rows_of rows serial)
unfolding rows_of
are_rows_of facts rows are serial =
    let test = λ (held : Held). held.thread == serial in
    record {
      ascend = IsStrictlySortedBy-filter (held_ord.ghosts).cmp test rows are.ascend;
      exact = λ held. (
        λ has. (
          (are.exact held).0
              (All-contains (Contains rows) (filter test rows) held (All-filter test (Contains rows) rows (All-contains_itself rows)) has),
          eqb-true held.thread serial (All-contains (λ row. test row ≡ true) (filter test rows) held (filter_passes test rows) has),
        ),
        λ both. Contains-from_in (filter test rows) held
            (in_filter test rows held (eq-eqb held.thread serial both.1) (in_from_Contains rows held ((are.exact held).1 both.0))),
      );
    }

-- ---- and one alone

pub one_rows : (facts : List FactValue) (serial : ℕ) (one other : List Held) → AreHeldBy facts serial one → AreHeldBy facts serial other
    → one ≡ other
one_rows facts serial one other are too =
    one_sorted total-law one other are.ascend too.ascend
    (λ held has. in_from_Contains other held ((too.exact held).1 ((are.exact held).0 (Contains-from_in one held has))))
    (λ held has. in_from_Contains one held ((are.exact held).1 ((too.exact held).0 (Contains-from_in other held has))))
