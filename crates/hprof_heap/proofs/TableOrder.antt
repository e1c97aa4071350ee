-- Tables with other facts in one of them.
use Rattle.std.proofs.Common.{◌≡◌, ℕ, zero, suc, ◌+◌, ◌<◌, List, [], ◌∷◌, ◌++◌, length, refl, sym, subst}
use Rattle.std.proofs.Common.{append_assoc, inl, inr, arith}
use Rattle.std.specs.List.{AllByRecursion}
use Rattle.hprof_items.specs.FactValue.{FactValue}
use Rattle.hprof_rows.specs.Facts.{Has, SameFacts}
use Rattle.hprof_rows.specs.Tables.{joined}
use Rattle.hprof_rows.specs.Order.{IsBefore, IsCanonicalOrder}
use Rattle.hprof_rows.proofs.FactSets.{Has-front, All-has, All-from_has, SameFacts-refl, SameFacts-trans}
use Rattle.hprof_rows.proofs.FactSets.{SameFacts-append, SameFacts-turned}
use Rattle.hprof_rows.proofs.Order.{is_before-true}
use Rattle.hprof_rows.proofs.Tables.{IsOf, AllOf, AreTables, IsPast, table_at, with_table, all_append, all_past, earlier}

-- ---- order of lists, one behind the other

ordered_append : (facts others : List FactValue) → ((fact other : FactValue) → Has facts fact → Has others other → IsBefore fact other)
    → IsCanonicalOrder facts → IsCanonicalOrder others → IsCanonicalOrder (facts ++ others)
ordered_append [] others before ordered too = too
ordered_append (first ∷ facts) others before ordered too = (
  all_append (IsBefore first) facts others ordered.0
      (All-from_has (IsBefore first) others (λ other has. before first other (inl refl) has)),
  ordered_append facts others (λ fact other has has_other. before fact other (inr has) has_other) ordered.1 too,
)

ordered_front : (facts others : List FactValue) → IsCanonicalOrder (facts ++ others) → IsCanonicalOrder facts
ordered_front [] others ordered = tt
ordered_front (first ∷ facts) others ordered = (
  All-from_has (IsBefore first) facts
      (λ fact has. All-has (IsBefore first) (facts ++ others) fact ordered.0 (Has-front facts others fact has)),
  ordered_front facts others ordered.1,
)

ordered_back : (facts others : List FactValue) → IsCanonicalOrder (facts ++ others) → IsCanonicalOrder others
ordered_back [] others ordered = ordered
ordered_back (first ∷ facts) others ordered = ordered_back facts others ordered.1

-- ---- tables with other facts in one of them

-- a fact of a table stands before those of later tables
before_later : (table : ℕ) (facts others : List FactValue) → AllOf table facts → AllByRecursion (IsPast table) others
    → (fact other : FactValue) → Has facts fact → Has others other → IsBefore fact other
before_later table facts others of past fact other has has_other =
    let is = All-has (IsPast table) others other past has_other in
    is_before-true fact other (earlier table is.number fact other (All-has (IsOf table) facts fact of has) is.of is.above)

-- they are tables still
are_with : (tables : List (List FactValue)) (table number place : ℕ) (new : List FactValue) → table ≡ number + place
    → AreTables number tables → AllOf table new → AreTables number (with_table tables place new)
are_with [] table number place new e are of = tt
are_with (facts ∷ tables) table number zero new e are of =
    let here : table ≡ number = omega arith in (subst (λ (n : ℕ). AllOf n new) here of, are.1)
are_with (facts ∷ tables) table number (suc place) new e are of =
    (are.0, are_with tables table (suc number) place new (omega arith) are.1 of)

-- their facts are in order
pub ordered_with : (tables : List (List FactValue)) (table number place : ℕ) (new : List FactValue) → table ≡ number + place
    → AreTables number tables → AllOf table new → IsCanonicalOrder new → IsCanonicalOrder (joined tables)
    → IsCanonicalOrder (joined (with_table tables place new))
ordered_with [] table number place new e are of ordered all = tt
ordered_with (facts ∷ tables) table number zero new e are of ordered all =
    ordered_append new (joined tables)
    (before_later table new (joined tables) of (all_past tables table (suc number) (omega arith) are.1)) ordered
    (ordered_back facts (joined tables) all)
ordered_with (facts ∷ tables) table number (suc place) new e are of ordered all =
    let with : List (List FactValue) = with_table tables place new in
    let past = all_past with number (suc number) (omega arith) (are_with tables table (suc number) place new (omega arith) are.1 of) in
    ordered_append facts (joined with) (before_later number facts (joined with) are.0 past) (ordered_front facts (joined tables) all)
    (ordered_with tables table (suc number) place new (omega arith) are.1 of ordered (ordered_back facts (joined tables) all))

-- of three lists the last two may change places
swapped : (facts more rest : List FactValue) → SameFacts ((facts ++ more) ++ rest) ((facts ++ rest) ++ more)
swapped facts more rest =
    rw (append_assoc facts more rest, append_assoc facts rest more)
    (SameFacts-append facts (more ++ rest) facts (rest ++ more) (SameFacts-refl facts) (SameFacts-turned more rest))

-- what is taken into one of the tables is taken into all of their facts
pub same_with : (tables : List (List FactValue)) (place : ℕ) (more new : List FactValue) → place < length tables
    → SameFacts new (table_at tables place ++ more) → SameFacts (joined (with_table tables place new)) (joined tables ++ more)
same_with [] place more new lt same = absurd (omega arith)
same_with (facts ∷ tables) zero more new lt same =
    let rest : List FactValue = joined tables in
    SameFacts-trans (new ++ rest) ((facts ++ more) ++ rest) ((facts ++ rest) ++ more)
    (SameFacts-append new rest (facts ++ more) rest same (SameFacts-refl rest)) (swapped facts more rest)
same_with (facts ∷ tables) (suc place) more new lt same =
    let with : List FactValue = joined (with_table tables place new) in
    subst (SameFacts (facts ++ with)) (sym (append_assoc facts (joined tables) more))
    (SameFacts-append facts with facts (joined tables ++ more) (SameFacts-refl facts) (same_with tables place more new (omega arith) same))

-- each of the tables has facts of its own
pub of_table : (tables : List (List FactValue)) (table number place : ℕ) → table ≡ number + place → AreTables number tables
    → AllOf table (table_at tables place)
of_table [] table number place e are = tt
of_table (facts ∷ tables) table number zero e are = let here : number ≡ table = omega arith in subst (λ (n : ℕ). AllOf n facts) here are.0
of_table (facts ∷ tables) table number (suc place) e are = of_table tables table (suc number) place (omega arith) are.1
