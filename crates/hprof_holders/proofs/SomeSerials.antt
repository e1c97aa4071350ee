-- Of whichever facts there is a list of the threads, and one alone.
use Rattle.std.proofs.Common.{◌≡◌, ◌==◌, ◌⊎◌, ℕ, Bool, true, false, List, [], ◌∷◌, ◌++◌, Option, Some, None}
use Rattle.std.proofs.Common.{refl, sym, ap, subst, ◌∙◌, inl, inr}
use Rattle.std.specs.List.{flat_map}
use Rattle.std.specs.Ordering.{nat_cmp}
use Rattle.std.specs.declared.cmp.Ordering.TheVariants.{Equal}
use Rattle.std.proofs.lemmas.Bool.{eq-eqb, eqb-true}
use Rattle.std.proofs.lemmas.Cmp.{nat_cmp_total, ranked}
use Rattle.std.proofs.lemmas.Map.Keys.{IsStrictlyIncreasing-from_sorted, sorted_from_strictly_increasing}
use Rattle.hprof_values.specs.declared.root.Root.{Root}
use Rattle.hprof_items.specs.FactValue.{End, FactValue, Rooted, Start}
use Rattle.hprof_rows.specs.Facts.{Has}
use Rattle.hprof_threads.specs.Serials.{AreSerials, IsOfRoot, IsRunning, as_list, serials_of_root, thread_of_root}
use Rattle.hprof_histogram.proofs.Members.{IsIn, Contains-from_in, in_back, in_from_Contains, in_front, one_sorted}
use Rattle.hprof_holders.proofs.Gathered.{in_order, in_parts, of_each, of_one}
use Rattle.hprof_holders.proofs.SomeHeld.{has_fact, in_facts}

-- ---- the threads of roots

-- it is a root that names this thread
record IsOfRootIn (fact : FactValue) (serial : ℕ) : Type 0 where
  pub root : Root
  pub is_root : fact ≡ Rooted root
  pub is : thread_of_root root ≡ Some serial

one_there : (found : Option ℕ) (serial : ℕ) → IsIn serial (as_list found) → found ≡ Some serial
one_there None serial has = absurd has
one_there (Some own) serial has = elim has [ inl is ↦ ap Some (sym is) | inr later ↦ absurd later ]

root_there : (fact : FactValue) (serial : ℕ) → IsIn serial (serials_of_root fact) → IsOfRootIn fact serial
root_there (Rooted root) serial has = record { root = root; is_root = refl; is = one_there (thread_of_root root) serial has }
root_there fact serial has = absurd has

of_root : (facts : List FactValue) (serial : ℕ) → IsIn serial (flat_map serials_of_root facts) → IsOfRoot facts serial
of_root facts serial has =
    let it = of_one serials_of_root facts serial has in
    let root = root_there it.from serial it.has in
    record {
      root = root.root;
      has = has_fact facts (Rooted root.root) (subst (λ (fact : FactValue). IsIn fact facts) root.is_root it.there);
      is = root.is;
    }

with_root : (facts : List FactValue) (serial : ℕ) → IsOfRoot facts serial → IsIn serial (flat_map serials_of_root facts)
with_root facts serial is =
    of_each serials_of_root facts (Rooted is.root) serial (in_facts facts (Rooted is.root) is.has)
    (subst (λ (found : Option ℕ). IsIn serial (as_list found)) (sym is.is) (inl refl))

-- ---- the threads that run

-- whether one of the facts ends the thread
data Ending (facts : List FactValue) (serial : ℕ) : Type 0 where
  Ended : Has facts (End serial) → Ending facts serial
  Goes_on : (Has facts (End serial) → ⊥) → Ending facts serial

same_or_not : (one other : ℕ) → (one ≡ other) ⊎ (one ≡ other → ⊥)
same_or_not one other = by (one == other) refl where
  by : (b : Bool) → (one == other) ≡ b → (one ≡ other) ⊎ (one ≡ other → ⊥)
  by true e = inl (eqb-true one other e)
  by false e = inr (λ same. let clash : true ≡ false = sym (eq-eqb one other same) ∙ e in absurd cc)

is_end : (fact : FactValue) (serial : ℕ) → (End serial ≡ fact) ⊎ (End serial ≡ fact → ⊥)
is_end (End own) serial = elim (same_or_not serial own) [
  | inl e ↦ inl (ap End e)
  | inr other ↦ inr (λ e. let same : serial ≡ own = cc in other same)
]
is_end fact serial = inr (λ e. absurd cc)

ending : (facts : List FactValue) (serial : ℕ) → Ending facts serial
ending [] serial = Goes_on (λ has. has)
ending (fact ∷ facts) serial = elim (is_end fact serial) [
  | inl e ↦ Ended (inl e)
  | inr other ↦ elim (ending facts serial) [
    | Ended has ↦ Ended (inr has)
    | Goes_on none ↦ Goes_on (λ has. elim has [ inl e ↦ other e | inr later ↦ none later ])
  ]
]

if_goes_on : {facts : List FactValue} {serial : ℕ} → Ending facts serial → List ℕ
if_goes_on (Ended has) = []
if_goes_on {serial = serial} (Goes_on none) = serial ∷ []

running_in : List FactValue → FactValue → List ℕ
running_in facts (Start serial object trace name group parent_group) = if_goes_on (ending facts serial)
running_in facts fact = []

-- it starts this thread, which does not end
record IsRunningIn (facts : List FactValue) (fact : FactValue) (serial : ℕ) : Type 0 where
  pub object : ℕ
  pub trace : ℕ
  pub name : ℕ
  pub group : ℕ
  pub parent_group : ℕ
  pub is : fact ≡ Start serial object trace name group parent_group
  pub not_ended : Has facts (End serial) → ⊥

goes_on : (facts : List FactValue) (own serial : ℕ) (is : Ending facts own) → IsIn serial (if_goes_on is)
    → (own ≡ serial) × (Has facts (End own) → ⊥)
unfolding if_goes_on
goes_on facts own serial (Ended ended) has = absurd has
goes_on facts own serial (Goes_on none) has = elim has [ inl is ↦ (sym is, none) | inr later ↦ absurd later ]

still_goes_on : (facts : List FactValue) (serial : ℕ) (is : Ending facts serial) → (Has facts (End serial) → ⊥)
    → IsIn serial (if_goes_on is)
unfolding if_goes_on
still_goes_on facts serial (Ended has) none = absurd (none has)
still_goes_on facts serial (Goes_on also) none = inl refl

run_there : (facts : List FactValue) (fact : FactValue) (serial : ℕ) → IsIn serial (running_in facts fact) → IsRunningIn facts fact serial
unfolding running_in
run_there facts (Start own object trace name group parent_group) serial has =
    let it = goes_on facts own serial (ending facts own) has in
    record {
      object = object;
      trace = trace;
      name = name;
      group = group;
      parent_group = parent_group;
      is = ap (λ (n : ℕ). Start n object trace name group parent_group) it.0;
      not_ended = subst (λ (n : ℕ). Has facts (End n) → ⊥) it.0 it.1;
    }
run_there facts fact serial has = absurd has

runs : (facts : List FactValue) (serial : ℕ) → IsIn serial (flat_map (running_in facts) facts) → IsRunning facts serial
runs facts serial has =
    let it = of_one (running_in facts) facts serial has in
    let run = run_there facts it.from serial it.has in
    record {
      object = run.object;
      started = record {
        trace = run.trace;
        name = run.name;
        group = run.group;
        parent_group = run.parent_group;
        has = has_fact facts (Start serial run.object run.trace run.name run.group run.parent_group)
            (subst (λ (fact : FactValue). IsIn fact facts) run.is it.there);
      };
      not_ended = run.not_ended;
    }

with_run : (facts : List FactValue) (serial : ℕ) → IsRunning facts serial → IsIn serial (flat_map (running_in facts) facts)
unfolding running_in
with_run facts serial is =
    let start = Start serial is.object is.started.trace is.started.name is.started.group is.started.parent_group in
    of_each (running_in facts) facts start serial (in_facts facts start is.started.has)
    (still_goes_on facts serial (ending facts serial) is.not_ended)

-- ---- there is one

same_number : (one other : ℕ) → nat_cmp one other ≡ Equal → one ≡ other
same_number one other e = ranked one other Equal (sym e)

pub all_serials : (facts : List FactValue) → (serials : List ℕ) × AreSerials facts serials
all_serials facts =
    let by_root = flat_map serials_of_root facts in
    let by_start = flat_map (running_in facts) facts in
    let sorted = in_order nat_cmp nat_cmp_total same_number (by_root ++ by_start) in (
      sorted.all,
      record {
        ascend = IsStrictlyIncreasing-from_sorted sorted.all sorted.sorted;
        exact = λ serial. (
          λ has. elim (in_parts by_root by_start serial (sorted.only serial (in_from_Contains sorted.all serial has))) [
            | inl front ↦ inl (of_root facts serial front)
            | inr back ↦ inr (runs facts serial back)
          ],
          λ is. Contains-from_in sorted.all serial (sorted.keeps serial (elim is [
            | inl root ↦ in_front by_root by_start serial (with_root facts serial root)
            | inr run ↦ in_back by_root by_start serial (with_run facts serial run)
          ])),
        );
      },
    )

-- ---- and one alone

pub one_serials : (facts : List FactValue) (one other : List ℕ) → AreSerials facts one → AreSerials facts other → one ≡ other
one_serials facts one other are too =
    one_sorted nat_cmp_total one other (sorted_from_strictly_increasing one are.ascend) (sorted_from_strictly_increasing other too.ascend)
    (λ serial has. in_from_Contains other serial ((too.exact serial).1 ((are.exact serial).0 (Contains-from_in one serial has))))
    (λ serial has. in_from_Contains one serial ((are.exact serial).1 ((too.exact serial).0 (Contains-from_in other serial has))))
