-- A word means some list of classes.
use Rattle.std.proofs.Common.{◌≡◌, ◌↔◌, ℕ, List, [], ◌∷◌, Option, Some, None, refl, sym, ap, subst, inl, inr}
use Rattle.std.specs.Prelude.{Contains}
use Rattle.std.specs.List.{flat_map}
use Rattle.std.specs.List.Sorted.{IsStrictlySortedBy}
use Rattle.std.specs.Ordering.{nat_cmp}
use Rattle.std.proofs.lemmas.Cmp.{nat_cmp_total}
use Rattle.std.proofs.lemmas.Map.Keys.{IsStrictlyIncreasing-from_sorted}
use Rattle.std.proofs.lemmas.Map.Lookups.{exact_unsigned}
use Rattle.hprof_items.specs.FactValue.{FactValue}
use Rattle.hprof_rows.specs.Conflict.{IsConsistent}
use Rattle.hprof_histogram.proofs.Joining.{join_one}
use Rattle.hprof_histogram.proofs.Members.{IsIn, Contains-from_in, in_from_Contains}
use Rattle.hprof_threads.specs.Serials.{as_list}
use Rattle.hprof_threads.proofs.Gathered.{gathered, given, none_there}
use Rattle.hprof_meaning.specs.Judgements.{meant_of}
use Rattle.hprof_meaning.specs.MeantClasses.{AreAll, AreMeantClasses, AreMeantDumps, IsClass, IsDumped, class_named}
use Rattle.hprof_meaning.specs.Stated.{class_dumped}
use Rattle.hprof_meaning.proofs.ClassLists.{dump_gives, from_dump, is_there, one_there}
use Rattle.hprof_meaning.proofs.LabelTexts.{labels_exist}
use Rattle.hprof_meaning.proofs.MeantLists.{meant_classes, meant_dumps}

-- ---- numbers in order

-- the same numbers, in order
record Ascending (xs : List ℕ) : Type 0 where
  all : List ℕ
  sorted : IsStrictlySortedBy nat_cmp all
  only : (x : ℕ) → IsIn x all → IsIn x xs
  keeps : (x : ℕ) → IsIn x xs → IsIn x all

none_sorted : IsStrictlySortedBy nat_cmp []
unfolding IsStrictlySortedBy
none_sorted = tt

ascending : (xs : List ℕ) → Ascending xs
ascending [] = record { all = []; sorted = none_sorted; only = λ x has. has; keeps = λ x has. has }
ascending (one ∷ xs) =
    let before = ascending xs in
    let more = join_one nat_cmp nat_cmp_total exact_unsigned one before.all before.sorted in
    record {
      all = more.all;
      sorted = more.sorted;
      only = λ x has. elim (more.only x has) [ inl is ↦ inl is | inr later ↦ inr (before.only x later) ];
      keeps = λ x has. elim has [
        | inl is ↦ subst (λ (y : ℕ). IsIn y more.all) (sym is) more.has
        | inr later ↦ more.keeps x (before.keeps x later)
      ];
    }

all_of_these : (xs : List ℕ) (Holds : ℕ → Type 0) → ((id : ℕ) → Contains xs id ↔ Holds id) → (classes : List ℕ) × AreAll Holds classes
all_of_these xs Holds exact =
    let up = ascending xs in (
      up.all,
      record {
        ascend = IsStrictlyIncreasing-from_sorted up.all up.sorted;
        exact = λ id. (
          λ has. (exact id).0 (Contains-from_in xs id (up.only id (in_from_Contains up.all id has))),
          λ holds. Contains-from_in up.all id (up.keeps id (in_from_Contains xs id ((exact id).1 holds))),
        );
      },
    )

-- ---- classes

abbrev class_listed : FactValue → List ℕ
class_listed fact = as_list (class_named fact)

in_list : (found : Option ℕ) (id : ℕ) → Contains (as_list found) id → found ≡ Some id
in_list None id has = absurd (none_there id has)
in_list (Some own) id has = ap Some (sym (one_there own id has))

list_has : (found : Option ℕ) (id : ℕ) → found ≡ Some id → Contains (as_list found) id
list_has found id is = subst (λ (f : Option ℕ). Contains (as_list f) id) (sym is) (is_there id id refl)

listed_classes : (facts : List FactValue) (id : ℕ) → Contains (flat_map class_listed facts) id ↔ IsClass facts id
listed_classes facts id = (
  λ has.
      let of_fact = given class_listed facts id has in
      record { fact = of_fact.fact; has = of_fact.has; names = in_list (class_named of_fact.fact) id of_fact.gives },
  λ is. gathered class_listed facts id is.fact is.has (list_has (class_named is.fact) id is.names),
)

listed_dumps : (facts : List FactValue) (id : ℕ) → Contains (flat_map class_dumped facts) id ↔ IsDumped facts id
listed_dumps facts id = (
  λ has. let of_fact = given class_dumped facts id has in from_dump facts id of_fact.fact of_fact.has of_fact.gives,
  λ is. let gives = dump_gives facts id is in gathered class_dumped facts id gives.fact gives.has gives.gives,
)

-- ---- those that are meant

pub some_classes : (facts : List FactValue) (word : List ℕ) → IsConsistent facts → (classes : List ℕ) × AreMeantClasses facts word classes
some_classes facts word agree =
    let all = all_of_these (flat_map class_listed facts) (IsClass facts) (listed_classes facts) in
    let label = labels_exist facts in (
      meant_of word label.0 all.0,
      meant_classes facts agree word label.0 label.1 all.0 (meant_of word label.0 all.0) all.1 refl,
    )

pub some_dumps : (facts : List FactValue) (word : List ℕ) → IsConsistent facts → (classes : List ℕ) × AreMeantDumps facts word classes
some_dumps facts word agree =
    let all = all_of_these (flat_map class_dumped facts) (IsDumped facts) (listed_dumps facts) in
    let label = labels_exist facts in (
      meant_of word label.0 all.0,
      meant_dumps facts agree word label.0 label.1 all.0 (meant_of word label.0 all.0) all.1 refl,
    )
