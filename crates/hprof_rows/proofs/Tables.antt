-- Facts of tables, one behind the other: what is stated into one of the tables is stated into all of the facts.
use Rattle.std.proofs.Common.{◌≡◌, ℕ, zero, suc, ◌+◌, ◌<◌, Bool, true, false, cond, List, [], ◌∷◌, ◌++◌, length, find, Option, Some, None}
use Rattle.std.proofs.Common.{Result, Ok, Err, get_or, drop, drop-cons, add-one, refl, sym, ap, subst, ◌∙◌, arith}
use Rattle.std.specs.Prelude.{IfOk, slice_index, ⊤}
use Rattle.std.specs.List.{AllByRecursion, filter}
use Rattle.std.specs.Option.{option_or}
use Rattle.std.specs.Cmp.{nat_cmp_is}
use Rattle.std.specs.declared.cmp.Ordering.TheVariants.{Less, Greater}
use Rattle.std.proofs.lemmas.Bool.{eq-eqb, eqb-true, false_from_ne_true}
use Rattle.std.proofs.lemmas.List.{append-nil}
use Rattle.std.proofs.lemmas.List.Elements.{filter-append}
use Rattle.std.proofs.lemmas.List.Folds.{find-append}
use Rattle.std.proofs.lemmas.Slice.Eq.{bytes_eq-Decides}
use Rattle.hprof_items.specs.FactValue.{FactValue}
use Rattle.hprof_tables.specs.declared.relation.Stated.{Stated}
use Rattle.hprof_tables.specs.declared.relation.Stated.TheVariants.{New, Same, Differs}
use Rattle.hprof_rows.specs.Tables.{stands_in, joined}
use Rattle.hprof_rows.specs.Order.{order_of}
use Rattle.hprof_rows.proofs.FactSets.{Has-front, Has-back}
use Rattle.hprof_rows.proofs.Keys.{same_place}
use Rattle.hprof_rows.proofs.Order.{is_before}
use Rattle.hprof_rows.proofs.Inserting.{inserted}
use Rattle.hprof_rows.proofs.Stating.{StatesAmong}

-- the fact stands in the table of that number: its place begins with it
pub record IsOf (table : ℕ) (fact : FactValue) : Type 0 where
  pub more : List ℕ
  pub stands : order_of fact ≡ table ∷ more

abbrev pub AllOf : ℕ → List FactValue → Type 0
AllOf table facts = AllByRecursion (IsOf table) facts

-- the facts of each list stand in a table, the first in that of this number, and so on
abbrev pub AreTables : ℕ → List (List FactValue) → Type 0
AreTables number [] = ⊤
AreTables number (facts ∷ tables) = AllOf number facts × AreTables (suc number) tables

-- the facts of one of the tables
abbrev pub table_at : List (List FactValue) → ℕ → List FactValue
table_at [] place = []
table_at (facts ∷ tables) zero = facts
table_at (facts ∷ tables) (suc place) = table_at tables place

-- the tables with other facts in one of them
abbrev pub with_table : List (List FactValue) → ℕ → List FactValue → List (List FactValue)
with_table [] place new = []
with_table (facts ∷ tables) zero new = new ∷ tables
with_table (facts ∷ tables) (suc place) new = facts ∷ with_table tables place new

-- ---- two facts of two tables

-- they stand at two places
apart : (m n : ℕ) (fact other : FactValue) → IsOf m fact → IsOf n other → (m ≡ n → ⊥) → same_place fact other ≡ false
apart m n fact other of of_other differ = false_from_ne_true (same_place fact other) (λ yes.
    let same : m ∷ of.more ≡ n ∷ of_other.more = sym of.stands ∙ (bytes_eq-Decides (order_of fact) (order_of other)).0 yes
    ∙ of_other.stands in
    differ (ap (λ (ns : List ℕ). slice_index ns 0) same))

-- that of the lesser table stands first
pub earlier : (m n : ℕ) (fact other : FactValue) → IsOf m fact → IsOf n other → m < n → is_before fact other ≡ true
earlier m n fact other of of_other lt = rw (of.stands, of_other.stands, ← nat_cmp_is m n Less lt) refl

pub later : (m n : ℕ) (fact other : FactValue) → IsOf m fact → IsOf n other → n < m → is_before fact other ≡ false
later m n fact other of of_other lt = rw (of.stands, of_other.stands, ← nat_cmp_is m n Greater lt) refl

-- ---- facts that all fail a test

abbrev AllFail : (FactValue → Bool) → List FactValue → Type 0
AllFail p facts = AllByRecursion (λ fact. p fact ≡ false) facts

find_none : (p : FactValue → Bool) (facts : List FactValue) → AllFail p facts → find p facts ≡ None
find_none p [] fail = refl
find_none p (first ∷ facts) fail = ap (λ (t : Bool). cond t (Some first) (find p facts)) fail.0 ∙ find_none p facts fail.1

find_past : (p : FactValue → Bool) (facts others : List FactValue) → AllFail p facts → find p (facts ++ others) ≡ find p others
find_past p facts others fail = find-append p facts others ∙ ap (λ (found : Option FactValue). option_or found (find p others))
    (find_none p facts fail)

or_none : (found : Option FactValue) → option_or found None ≡ found
or_none None = refl
or_none (Some fact) = refl

find_front : (p : FactValue → Bool) (facts others : List FactValue) → AllFail p others → find p (facts ++ others) ≡ find p facts
find_front p facts others fail =
    find-append p facts others ∙ ap (option_or (find p facts)) (find_none p others fail) ∙ or_none (find p facts)

pub filter_none : (p : FactValue → Bool) (facts : List FactValue) → AllFail p facts → filter p facts ≡ []
filter_none p [] fail = refl
filter_none p (first ∷ facts) fail = ap (λ (t : Bool). cond t (first ∷ filter p facts) (filter p facts)) fail.0 ∙ filter_none p facts fail.1

pub filter_all : (p : FactValue → Bool) (facts : List FactValue) → AllByRecursion (λ fact. p fact ≡ true) facts → filter p facts ≡ facts
filter_all p [] pass = refl
filter_all p (first ∷ facts) pass =
    ap (λ (t : Bool). cond t (first ∷ filter p facts) (filter p facts)) pass.0 ∙ ap (λ (l : List FactValue). first ∷ l)
    (filter_all p facts pass.1)

-- what follows for each fact
pub all_weaker : (P Q : FactValue → Type 0) (facts : List FactValue) → ((fact : FactValue) → P fact → Q fact) → AllByRecursion P facts
    → AllByRecursion Q facts
all_weaker P Q [] more all = tt
all_weaker P Q (first ∷ facts) more all = (more first all.0, all_weaker P Q facts more all.1)

pub all_append : (P : FactValue → Type 0) (facts others : List FactValue) → AllByRecursion P facts → AllByRecursion P others
    → AllByRecursion P (facts ++ others)
all_append P [] others all too = too
all_append P (first ∷ facts) others all too = (all.0, all_append P facts others all.1 too)

-- a fact of a later table than this one
pub record IsPast (table : ℕ) (fact : FactValue) : Type 0 where
  pub number : ℕ
  pub above : table < number
  pub of : IsOf number fact

-- the facts of all tables from one on
pub all_past : (tables : List (List FactValue)) (table number : ℕ) → table < number → AreTables number tables
    → AllByRecursion (IsPast table) (joined tables)
all_past [] table number lt are = tt
all_past (facts ∷ tables) table number lt are =
    all_append (IsPast table) facts (joined tables)
    (all_weaker (IsOf number) (IsPast table) facts (λ fact of. record { number = number; above = lt; of = of }) are.0)
    (all_past tables table (suc number) (omega arith) are.1)

-- ---- stating

inserted_past : (facts others : List FactValue) (fact : FactValue) → AllFail (is_before fact) facts → inserted (facts ++ others) fact
    ≡ facts ++ inserted others fact
inserted_past [] others fact fail = refl
inserted_past (first ∷ facts) others fact fail =
    ap (λ (t : Bool). cond t (fact ∷ first ∷ (facts ++ others)) (first ∷ inserted (facts ++ others) fact)) fail.0
    ∙ ap (λ (l : List FactValue). first ∷ l) (inserted_past facts others fact fail.1)

-- a fact that stands before all of these goes to their front
inserted_first : (others : List FactValue) (fact : FactValue) → AllByRecursion (λ other. is_before fact other ≡ true) others
    → inserted others fact ≡ fact ∷ others
inserted_first [] fact all = refl
inserted_first (first ∷ others) fact all = ap (λ (t : Bool). cond t (fact ∷ first ∷ others) (first ∷ inserted others fact)) all.0

push_cond : (t : Bool) (facts others rest : List FactValue) → cond t (facts ++ rest) (others ++ rest) ≡ cond t facts others ++ rest
push_cond true facts others rest = refl
push_cond false facts others rest = refl

inserted_front : (facts others : List FactValue) (fact : FactValue) → AllByRecursion (λ other. is_before fact other ≡ true) others
    → inserted (facts ++ others) fact ≡ inserted facts fact ++ others
inserted_front [] others fact all = inserted_first others fact all
inserted_front (first ∷ facts) others fact all =
    ap (λ (l : List FactValue). cond (is_before fact first) (fact ∷ first ∷ (facts ++ others)) (first ∷ l))
    (inserted_front facts others fact all)
    ∙ push_cond (is_before fact first) (fact ∷ first ∷ facts) (first ∷ inserted facts fact) others

-- what is stated among the facts behind others of lesser tables
states_behind : (m n : ℕ) (facts old new : List FactValue) (fact : FactValue) (stated : Stated) → n < m → AllOf n facts → IsOf m fact
    → StatesAmong old fact stated new → StatesAmong (facts ++ old) fact stated (facts ++ new)
states_behind m n facts old new fact New lt all of s = (
  find_past (same_place fact) facts old
      (all_weaker (IsOf n) (λ other. same_place fact other ≡ false) facts (λ other of_other.
      apart m n fact other of of_other (λ e. omega arith)) all) ∙ s.0,
  ap (λ (l : List FactValue). facts ++ l) s.1 ∙ sym (inserted_past facts old fact
      (all_weaker (IsOf n) (λ other. is_before fact other ≡ false) facts (λ other of_other. later m n fact other of of_other lt) all)),
)
states_behind m n facts old new fact Same lt all of s = (Has-back facts old fact s.0, ap (λ (l : List FactValue). facts ++ l) s.1)
states_behind m n facts old new fact Differs lt all of s = (
  record { other = s.0.other; has_other = Has-back facts old s.0.other s.0.has_other; one_key = s.0.one_key; differ = s.0.differ },
  ap (λ (l : List FactValue). facts ++ l) s.1,
)

-- what is stated among the facts before others of later tables
states_before : (m : ℕ) (old new others : List FactValue) (fact : FactValue) (stated : Stated) → AllByRecursion (IsPast m) others
    → IsOf m fact
    → StatesAmong old fact stated new → StatesAmong (old ++ others) fact stated (new ++ others)
states_before m old new others fact New past of s = (
  find_front (same_place fact) old others
      (all_weaker (IsPast m) (λ other. same_place fact other ≡ false) others
      (λ other is. let lt = is.above in apart m is.number fact other of is.of (λ e. omega arith)) past) ∙ s.0,
  ap (λ (l : List FactValue). l ++ others) s.1 ∙ sym (inserted_front old others fact
      (all_weaker (IsPast m) (λ other. is_before fact other ≡ true) others (λ other is.
      earlier m is.number fact other of is.of is.above) past)),
)
states_before m old new others fact Same past of s = (Has-front old others fact s.0, ap (λ (l : List FactValue). l ++ others) s.1)
states_before m old new others fact Differs past of s = (
  record { other = s.0.other; has_other = Has-front old others s.0.other s.0.has_other; one_key = s.0.one_key; differ = s.0.differ },
  ap (λ (l : List FactValue). l ++ others) s.1,
)

-- what is stated into one table is stated into all of the facts
states_from : (tables : List (List FactValue)) (table number place : ℕ) (new : List FactValue) (fact : FactValue) (stated : Stated)
    → table ≡ number + place
    → AreTables number tables → IsOf table fact → StatesAmong (table_at tables place) fact stated new → place < length tables
    → StatesAmong (joined tables) fact stated (joined (with_table tables place new))
states_from [] table number place new fact stated e are of s lt = absurd (omega arith)
states_from (facts ∷ tables) table number zero new fact stated e are of s lt =
    let here : table ≡ number = omega arith in
    states_before table facts new (joined tables) fact stated (all_past tables table (suc number) (omega arith) are.1) of s
states_from (facts ∷ tables) table number (suc place) new fact stated e are of s lt =
    states_behind table number facts (joined tables) (joined (with_table tables place new)) fact stated (omega arith) are.0 of
    (states_from tables table (suc number) place new fact stated (omega arith) are.1 of s (omega arith))

-- the same of the tables of a heap, where memory may have been refused
pub states_tables : {E : Type 0} (r : Result Stated E) (tables : List (List FactValue)) (place : ℕ) (new : List FactValue)
    (fact : FactValue) → AreTables 0 tables
    → IsOf place fact → place < length tables → IfOk r (λ stated. StatesAmong (table_at tables place) fact stated new)
    → IfOk r (λ stated. StatesAmong (joined tables) fact stated (joined (with_table tables place new)))
states_tables (Ok stated) tables place new fact are of lt ok = states_from tables place 0 place new fact stated (omega arith) are of ok lt
states_tables (Err e) tables place new fact are of lt ok = tt

-- ---- one table among all

fails_past : (p : FactValue → Bool) (table : ℕ) (facts : List FactValue) → ((number : ℕ) (fact : FactValue) → IsOf number fact
    → (number ≡ table → ⊥) → p fact ≡ false)
    → AllByRecursion (IsPast table) facts → AllFail p facts
fails_past p table facts fails past =
    all_weaker (IsPast table) (λ fact. p fact ≡ false) facts (λ fact is. let lt =
    is.above in fails is.number fact is.of (λ e. omega arith)) past

fails_of : (p : FactValue → Bool) (table number : ℕ) (facts : List FactValue) → ((number : ℕ) (fact : FactValue) → IsOf number fact
    → (number ≡ table → ⊥) → p fact ≡ false)
    → (number ≡ table → ⊥) → AllOf number facts → AllFail p facts
fails_of p table number facts fails differ all = all_weaker (IsOf number) (λ fact. p fact ≡ false) facts (λ fact of.
    fails number fact of differ) all

-- what only facts of one table pass is found there
pub find_from : (p : FactValue → Bool) (tables : List (List FactValue)) (table number place : ℕ)
    → ((number : ℕ) (fact : FactValue) → IsOf number fact → (number ≡ table → ⊥) → p fact ≡ false) → table ≡ number + place
    → AreTables number tables → find p (joined tables) ≡ find p (table_at tables place)
find_from p [] table number place fails e are = refl
find_from p (facts ∷ tables) table number zero fails e are =
    find_front p facts (joined tables) (fails_past p table (joined tables) fails (all_past tables table (suc number) (omega arith) are.1))
find_from p (facts ∷ tables) table number (suc place) fails e are =
    find_past p facts (joined tables) (fails_of p table number facts fails (λ same. omega arith) are.0)
    ∙ find_from p tables table (suc number) place fails (omega arith) are.1

filter_from : (p : FactValue → Bool) (tables : List (List FactValue)) (table number place : ℕ)
    → ((number : ℕ) (fact : FactValue) → IsOf number fact → (number ≡ table → ⊥) → p fact ≡ false)
    → ((fact : FactValue) → IsOf table fact → p fact ≡ true) → table ≡ number + place
    → AreTables number tables → filter p (joined tables) ≡ table_at tables place
filter_from p [] table number place fails passes e are = refl
filter_from p (facts ∷ tables) table number zero fails passes e are =
    let here : number ≡ table = omega arith in
    filter-append p facts (joined tables)
    ∙ ap (λ (l : List FactValue). l ++ filter p (joined tables))
    (filter_all p facts (all_weaker (IsOf number) (λ fact. p fact ≡ true) facts (λ fact of.
    passes fact (subst (λ (n : ℕ). IsOf n fact) here of)) are.0))
    ∙ ap (λ (l : List FactValue). facts ++ l)
    (filter_none p (joined tables) (fails_past p table (joined tables) fails (all_past tables table (suc number) (omega arith) are.1)))
    ∙ append-nil facts
filter_from p (facts ∷ tables) table number (suc place) fails passes e are =
    filter-append p facts (joined tables)
    ∙ ap (λ (l : List FactValue). l ++ filter p (joined tables))
    (filter_none p facts (fails_of p table number facts fails (λ same. omega arith) are.0))
    ∙ filter_from p tables table (suc number) place fails passes (omega arith) are.1

-- the first number of a place
first_of : (number : ℕ) (fact : FactValue) → IsOf number fact → slice_index (order_of fact) 0 ≡ number
first_of number fact of = ap (λ (ns : List ℕ). slice_index ns 0) of.stands

-- the facts of a table are those whose places begin with its number
pub facts_in : (tables : List (List FactValue)) (table : ℕ) → AreTables 0 tables → filter (stands_in table) (joined tables)
    ≡ table_at tables table
facts_in tables table are = filter_from (stands_in table) tables table 0 table
    (λ number fact of differ. false_from_ne_true (stands_in table fact) (λ yes.
    differ (sym (first_of number fact of) ∙ eqb-true (slice_index (order_of fact) 0) table yes)))
    (λ fact of. eq-eqb (slice_index (order_of fact) 0) table (first_of table fact of)) (omega arith) are

-- ---- from a place on

pub drop_from : {A : Type 0} (all : List A) (place : ℕ) (one : A) → place < length all
    → drop place all ≡ get_or all place one ∷ drop (place + 1) all
drop_from all place one within = rw (add-one, drop-cons all place one) refl
