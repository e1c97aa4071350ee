-- The threads of a heap, gathered.
use Rattle.std.proofs.Common.{◌≡◌, ◌⊎◌, ◌↔◌, ◌<◌, inl, inr, true, false, Bool, cond, ℕ, zero, suc, List, [], ◌∷◌, ◌++◌}
use Rattle.std.proofs.Common.{Option, Some, None}
use Rattle.std.proofs.Common.{length, get_or, refl, sym, ap, subst, ◌∙◌, arith}
use Rattle.std.specs.Prelude.{Contains}
use Rattle.std.specs.BTreeMap.{is_at}
use Rattle.std.specs.BTreeSet.{BTreeSet, Updates, contains, keys}
use Rattle.std.specs.List.{flat_map, list_any}
use Rattle.std.specs.List.Sorted.{IsStrictlyIncreasing}
use Rattle.std.specs.Ordering.{MatchOrdering, is_eq, nat_cmp}
use Rattle.std.specs.declared.cmp.Ordering.{Ordering}
use Rattle.std.specs.declared.cmp.Ordering.TheVariants.{Less, Equal, Greater}
use Rattle.std.proofs.lemmas.Cmp.{ranked}
use Rattle.hprof_values.specs.declared.root.Root.{Root}
use Rattle.hprof_items.specs.FactValue.{End, FactValue, Rooted, Start}
use Rattle.hprof_rows.specs.declared.table.Table.TheVariants as tables
use Rattle.hprof_rows.specs.Facts.{Has}
use Rattle.hprof_rows.specs.Tables.{facts_of_table, number_of_table, stands_in}
use Rattle.hprof_threads.specs.Serials.{AreEnded, AreSerials, IsOfRoot, IsRunning, NotesEnded, as_list, serials_of_root}
use Rattle.hprof_threads.specs.Serials.{serials_of_start, thread_of_root}
use Rattle.hprof_rows.proofs.Picking.{picked, picked_is}
use Rattle.hprof_threads.proofs.Gathered.{IsOf, none_there, of_table}

-- ---- lists of one

one_there : (x y : ℕ) → Contains (x ∷ []) y → y ≡ x
one_there x y has = at_place has.0 has.1 has.2 where
  at_place : (place : ℕ) → place < length (x ∷ []) → get_or (x ∷ []) place y ≡ y → y ≡ x
  at_place zero lt e = sym e
  at_place (suc place) lt e = absurd (omega (arith, lt))

in_list : (found : Option ℕ) (serial : ℕ) → Contains (as_list found) serial → found ≡ Some serial
in_list None serial has = absurd (none_there serial has)
in_list (Some own) serial has = ap Some (sym (one_there own serial has))

list_has : (found : Option ℕ) (serial : ℕ) → found ≡ Some serial → Contains (as_list found) serial
list_has found serial is = subst (λ (f : Option ℕ). Contains (as_list f) serial) (sym is) (0, omega arith, refl)

-- ---- roots

in_roots : (fact : FactValue) (serial : ℕ) → Contains (serials_of_root fact) serial → stands_in (number_of_table tables.Roots) fact ≡ true
in_roots (Rooted root) serial has = refl
in_roots _ serial has = absurd (none_there serial has)

from_root : (facts : List FactValue) (serial : ℕ) (fact : FactValue) → Has facts fact → Contains (serials_of_root fact) serial
    → IsOfRoot facts serial
from_root facts serial (Rooted root) has gives = record { root = root; has = has; is = in_list (thread_of_root root) serial gives }
from_root facts serial _ has gives = absurd (none_there serial gives)

pub root_serials : (facts : List FactValue) (before so_far : List ℕ)
    → so_far ≡ before ++ flat_map serials_of_root (facts_of_table tables.Roots facts) → (serial : ℕ)
    → Contains so_far serial ↔ (Contains before serial ⊎ IsOfRoot facts serial)
root_serials facts before so_far is serial =
    let exact = of_table serials_of_root tables.Roots in_roots facts before so_far is serial in (
      λ has. elim (exact.0 has) [
        | inl there ↦ inl there
        | inr one ↦ inr (from_root facts serial one.fact one.has one.gives)
      ],
      λ one. exact.1 (elim one [
        | inl there ↦ inl there
        | inr of_root ↦ inr (record {
          fact = Rooted of_root.root;
          has = of_root.has;
          gives = list_has (thread_of_root of_root.root) serial of_root.is;
        })
      ]),
    )

-- ---- threads that were started

module _ (facts : List FactValue) (ended : BTreeSet ℕ) (are_ended : AreEnded facts ended) where
  in_starts : (fact : FactValue) (serial : ℕ) → Contains (serials_of_start ended fact) serial
      → stands_in (number_of_table tables.Starts) fact ≡ true
  in_starts (Start own object trace name group parent_group) serial has = refl
  in_starts _ serial has = absurd (none_there serial has)

  from_start : (serial : ℕ) (fact : FactValue) → Has facts fact → Contains (serials_of_start ended fact) serial → IsRunning facts serial
  from_start serial (Start own object trace name group parent_group) has gives =
      by_test (contains nat_cmp ended own) refl gives where
        by_test : (b : Bool) → contains nat_cmp ended own ≡ b → Contains (cond b [] (own ∷ [])) serial → IsRunning facts serial
        by_test true e gives = absurd (none_there serial gives)
        by_test false e gives =
            let is = one_there own serial gives in
            subst (IsRunning facts) (sym is) (record {
              object = object;
              started = record { trace = trace; name = name; group = group; parent_group = parent_group; has = has };
              not_ended = λ has_end. let yes = (are_ended own).1 has_end in absurd cc;
            })
  from_start serial _ has gives = absurd (none_there serial gives)

  start_there : (serial : ℕ) → ¬ Has facts (End serial) → (b : Bool) → contains nat_cmp ended serial ≡ b
      → Contains (cond b [] (serial ∷ [])) serial
  start_there serial not_ended true e = absurd (not_ended ((are_ended serial).0 e))
  start_there serial not_ended false e = (0, omega arith, refl)

  pub start_serials : (before so_far : List ℕ) → so_far ≡ before ++ flat_map (serials_of_start ended) (facts_of_table tables.Starts facts)
      → (serial : ℕ) → Contains so_far serial ↔ (Contains before serial ⊎ IsRunning facts serial)
  start_serials before so_far is serial =
      let exact = of_table (serials_of_start ended) tables.Starts in_starts facts before so_far is serial in (
        λ has. elim (exact.0 has) [
          | inl there ↦ inl there
          | inr one ↦ inr (from_start serial one.fact one.has one.gives)
        ],
        λ one. exact.1 (elim one [
          | inl there ↦ inl there
          | inr running ↦ inr (record {
            fact = Start serial running.object running.started.trace running.started.name running.started.group
                running.started.parent_group;
            has = running.started.has;
            gives = start_there serial running.not_ended (contains nat_cmp ended serial) refl;
          })
        ]),
      )

-- ---- threads that have ended

at_is : (own serial : ℕ) → is_at (nat_cmp own) serial ≡ true → own ≡ serial
at_is own serial e = by_order (nat_cmp own serial) (ranked own serial _ refl) e where
  by_order : (o : Ordering) → MatchOrdering o (own < serial) (own ≡ serial) (serial < own) → is_eq o ≡ true → own ≡ serial
  by_order Less at e = absurd cc
  by_order Equal at e = at
  by_order Greater at e = absurd cc

at_itself : (own serial : ℕ) → own ≡ serial → is_at (nat_cmp own) serial ≡ true
at_itself own serial is = by_order (nat_cmp own serial) (ranked own serial _ refl) where
  by_order : (o : Ordering) → MatchOrdering o (own < serial) (own ≡ serial) (serial < own) → is_eq o ≡ true
  by_order Less at = absurd (omega (arith, at, is))
  by_order Equal at = refl
  by_order Greater at = absurd (omega (arith, at, is))

abbrev serial_of_end : FactValue → ℕ
serial_of_end (End serial) = serial
serial_of_end fact = 0

-- what was put, and then what is left, is what all facts say
abbrev pub AreEndedTo : (all : List FactValue) → BTreeSet ℕ → (left : List FactValue) → Type 0
AreEndedTo all ended left =
    (serial : ℕ) → ((contains nat_cmp ended serial ≡ true) ⊎ Has left (End serial)) ↔ Has all (End serial)

pub ended_none : (all left : List FactValue) (ended : BTreeSet ℕ) → keys ended ≡ [] → left ≡ all → AreEndedTo all ended left
ended_none all left ended none same serial = (
  λ one. elim one [
    | inl has ↦ (let no : contains nat_cmp ended serial ≡ false = ap (list_any (is_at (nat_cmp serial))) none in absurd cc)
    | inr there ↦ subst (λ (l : List FactValue). Has l (End serial)) same there
  ],
  λ there. inr (subst (λ (l : List FactValue). Has l (End serial)) (sym same) there),
)

-- the number is put exactly if it is the one, or was there
put_or_there : (old new : BTreeSet ℕ) (own serial : ℕ) → Updates nat_cmp old new own true
    → (contains nat_cmp new serial ≡ true) ↔ ((serial ≡ own) ⊎ (contains nat_cmp old serial ≡ true))
put_or_there old new own serial put = by_test (is_at (nat_cmp own) serial) refl where
  by_test : (b : Bool) → is_at (nat_cmp own) serial ≡ b
      → (contains nat_cmp new serial ≡ true) ↔ ((serial ≡ own) ⊎ (contains nat_cmp old serial ≡ true))
  by_test true e =
      let is : own ≡ serial = at_is own serial e in
      (λ has. inl (sym is), λ one. put.0 serial ∙ ap (λ (b : Bool). cond b true (contains nat_cmp old serial)) e)
  by_test false e =
      let same : contains nat_cmp new serial ≡ contains nat_cmp old serial =
      put.0 serial ∙ ap (λ (b : Bool). cond b true (contains nat_cmp old serial)) e in (
        λ has. inr (sym same ∙ has),
        λ one. elim one [
          | inl is ↦ (let yes = at_itself own serial (sym is) in absurd cc)
          | inr there ↦ same ∙ there
        ],
      )

pub ended_more : (all left rest : List FactValue) (old new : BTreeSet ℕ) (fact : FactValue) → left ≡ fact ∷ rest
    → NotesEnded fact old new → AreEndedTo all old left → AreEndedTo all new rest
ended_more all left rest old new (End own) e notes are serial = (
  λ one. (are serial).0 (elim one [
    | inl has ↦ elim ((put_or_there old new own serial notes).0 has) [
      | inl is ↦ inr (subst (λ (l : List FactValue). Has l (End serial)) (sym e) (inl (ap End is)))
      | inr there ↦ inl there
    ]
    | inr later ↦ inr (subst (λ (l : List FactValue). Has l (End serial)) (sym e) (inr later))
  ]),
  λ there. elim ((are serial).1 there) [
    | inl has ↦ inl ((put_or_there old new own serial notes).1 (inr has))
    | inr left_has ↦ elim (subst (λ (l : List FactValue). Has l (End serial)) e left_has) [
      | inl is ↦ inl ((put_or_there old new own serial notes).1 (inl (ap serial_of_end is)))
      | inr later ↦ inr later
    ]
  ],
)
ended_more all left rest old new fact e notes are serial = (
  λ one. (are serial).0 (elim one [
    | inl has ↦ inl (subst (λ (s : BTreeSet ℕ). contains nat_cmp s serial ≡ true) notes has)
    | inr later ↦ inr (subst (λ (l : List FactValue). Has l (End serial)) (sym e) (inr later))
  ]),
  λ there. elim ((are serial).1 there) [
    | inl has ↦ inl (subst (λ (s : BTreeSet ℕ). contains nat_cmp s serial ≡ true) (sym notes) has)
    | inr left_has ↦ elim (subst (λ (l : List FactValue). Has l (End serial)) e left_has) [
      | inl is ↦ absurd cc
      | inr later ↦ inr later
    ]
  ],
)

pub ended_all : (facts left : List FactValue) (ended : BTreeSet ℕ) → left ≡ [] → AreEndedTo (facts_of_table tables.Ends facts) ended left
    → AreEnded facts ended
ended_all facts left ended none are serial = (
  λ has. (picked_is (stands_in (number_of_table tables.Ends)) facts (End serial) ((are serial).0 (inl has))).has,
  λ there. elim ((are serial).1 (picked (stands_in (number_of_table tables.Ends)) facts (End serial)
      (record { has = there; passes = refl }))) [
        | inl has ↦ has
        | inr left_has ↦ absurd (subst (λ (l : List FactValue). Has l (End serial)) none left_has)
      ],
)

-- ---- all threads

pub all_serials : (facts : List FactValue) (running all sorted : List ℕ)
    → ((serial : ℕ) → Contains running serial ↔ (Contains [] serial ⊎ IsRunning facts serial))
    → ((serial : ℕ) → Contains all serial ↔ (Contains running serial ⊎ IsOfRoot facts serial))
    → IsStrictlyIncreasing sorted → ((serial : ℕ) → Contains sorted serial ↔ Contains all serial) → AreSerials facts sorted
all_serials facts running all sorted are_running are_all ascend same = record {
  ascend = ascend;
  exact = λ serial. (
    λ has. elim ((are_all serial).0 ((same serial).0 has)) [
      | inl there ↦ elim ((are_running serial).0 there) [ inl none ↦ absurd (none_there serial none) | inr is ↦ inr is ]
      | inr of_root ↦ inl of_root
    ],
    λ is. (same serial).1 ((are_all serial).1 (elim is [
      | inl of_root ↦ inr of_root
      | inr running ↦ inl ((are_running serial).1 (inr running))
    ])),
  );
}
