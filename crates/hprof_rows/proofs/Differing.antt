-- Where the facts of two heaps differ: at the keys at which their tables differ.
use Rattle.std.proofs.Common.{◌≡◌, ◌≢◌, ℕ, zero, suc, ◌<◌, ◌≤◌, true, false, List, ◌++◌, find, Option, Some, None, refl, sym, ap, subst}
use Rattle.std.proofs.Common.{◌∙◌, inl, inr, arith}
use Rattle.std.specs.Prelude.{⊤}
use Rattle.std.specs.Option.{option_map}
use Rattle.std.proofs.lemmas.Bool.{cases_lt}
use Rattle.hprof_values.specs.declared.ids.IdSize.{IdSize}
use Rattle.hprof_items.specs.FactValue.{FactValue}
use Rattle.hprof_items.specs.Spelling.{Fits}
use Rattle.hprof_tables.specs.SideBySide.{DifferAt, IsFirstDifference}
use Rattle.hprof_tables.specs.SortedRows.{row_at}
use Rattle.hprof_rows.specs.declared.key.Key.{Key}
use Rattle.hprof_rows.specs.declared.key.Key.TheVariants as keys
use Rattle.hprof_rows.specs.Conflict.{IsConsistent, HasConflict, IsLeastConflict}
use Rattle.hprof_rows.specs.Content.{content_of}
use Rattle.hprof_rows.specs.EachTable.{DiffersFirst, contents_at, key_in, IsNumberIn}
use Rattle.hprof_rows.specs.Facts.{Has, AllFit}
use Rattle.hprof_rows.specs.HeapRows.{HeapRows, AreHeap, tables_of}
use Rattle.hprof_rows.specs.Key.{key_of, rank_of, number_of, key_le, has_key}
use Rattle.hprof_rows.specs.Tables.{joined}
use Rattle.hprof_rows.proofs.FactEquality.{one_or_two}
use Rattle.hprof_rows.proofs.FactSets.{Has-parts, Has-front, Has-back}
use Rattle.hprof_rows.proofs.EachTable.{table_of_rank, table_of_key, fact_of_key, look_up_key, right_key, key_fits}
use Rattle.hprof_rows.proofs.Inserting.{find-Some, find-None}
use Rattle.hprof_rows.proofs.Keys.{key_le-true, true-key_le, key_le-total, is_key-true, true-is_key, IsUpTo}
use Rattle.hprof_rows.proofs.Order.{order_agrees}

-- ---- facts of one key in two lists

-- what is found there, by the fact that is there
found_by : (facts : List FactValue) (key : Key) (fact : FactValue) (found : Option FactValue) → IsConsistent facts → Has facts fact
    → key_of fact ≡ Some key → find (has_key key) facts ≡ found → found ≡ Some fact
found_by facts key fact None agree has is e =
    let fails : false ≡ true = sym (find-None (has_key key) facts fact e has) ∙ true-is_key key (key_of fact) is in absurd cc
found_by facts key fact (Some other) agree has is e =
    let there = find-Some (has_key key) facts other e in
    ap (λ (f : FactValue). Some f) (agree key other fact there.0 has (is_key-true key (key_of other) there.1) is)

-- of facts that agree the one with a key is found by it
pub found_by_key : (facts : List FactValue) (key : Key) (fact : FactValue) → IsConsistent facts → Has facts fact → key_of fact ≡ Some key
    → find (has_key key) facts ≡ Some fact
found_by_key facts key fact agree has is = found_by facts key fact (find (has_key key) facts) agree has is refl

-- each of two lists has a fact of the key, and they are two
pub record FindTwo (facts others : List FactValue) (key : Key) : Type 0 where
  pub one : FactValue
  pub other : FactValue
  pub finds_one : find (has_key key) facts ≡ Some one
  pub finds_other : find (has_key key) others ≡ Some other
  pub differ : one ≢ other

-- lists that agree, each in itself, have a conflict only so
pub conflict_found : (facts others : List FactValue) (key : Key) → IsConsistent facts → IsConsistent others
    → HasConflict (facts ++ others) key → FindTwo facts others key
conflict_found facts others key agree agree_too c = elim (Has-parts facts others c.one c.has_one) [
  | inl first ↦ elim (Has-parts facts others c.other c.has_other) [
    | inl second ↦ absurd (c.differ (agree key c.one c.other first second c.key_of_one c.key_of_other))
    | inr second ↦ record {
      one = c.one;
      other = c.other;
      finds_one = found_by_key facts key c.one agree first c.key_of_one;
      finds_other = found_by_key others key c.other agree_too second c.key_of_other;
      differ = c.differ;
    }
  ]
  | inr first ↦ elim (Has-parts facts others c.other c.has_other) [
    | inl second ↦ record {
      one = c.other;
      other = c.one;
      finds_one = found_by_key facts key c.other agree second c.key_of_other;
      finds_other = found_by_key others key c.one agree_too first c.key_of_one;
      differ = λ e. c.differ (sym e);
    }
    | inr second ↦ absurd (c.differ (agree_too key c.one c.other first second c.key_of_one c.key_of_other))
  ]
]

-- and have one where they do
pub found_conflict : (facts others : List FactValue) (key : Key) → FindTwo facts others key → HasConflict (facts ++ others) key
found_conflict facts others key two =
    let first = find-Some (has_key key) facts two.one two.finds_one in
    let second = find-Some (has_key key) others two.other two.finds_other in
    record {
      one = two.one;
      other = two.other;
      has_one = Has-front facts others two.one first.0;
      has_other = Has-back facts others two.other second.0;
      key_of_one = is_key-true key (key_of two.one) first.1;
      key_of_other = is_key-true key (key_of two.other) second.1;
      differ = two.differ;
    }

-- facts that fit and have no conflict agree
pub no_conflict_agrees : (ids : IdSize) (facts : List FactValue) → AllFit ids facts → ((key : Key) → HasConflict facts key → ⊥)
    → IsConsistent facts
no_conflict_agrees ids facts fit none key one other has_one has_other is is_too =
    elim (one_or_two ids one other (fit one has_one) (fit other has_other)) [
      | inl same ↦ same
      | inr differ ↦ absurd (none key (record {
        one = one;
        other = other;
        has_one = has_one;
        has_other = has_other;
        key_of_one = is;
        key_of_other = is_too;
        differ = differ;
      }))
    ]

-- the facts of two lists that fit fit
pub AllFit-append : (ids : IdSize) (facts others : List FactValue) → AllFit ids facts → AllFit ids others → AllFit ids (facts ++ others)
AllFit-append ids facts others fit fit_too fact has =
    elim (Has-parts facts others fact has) [ inl first ↦ fit fact first | inr second ↦ fit_too fact second ]

-- ---- what is found under a key

-- what is made of something that was found
pub record IsMade {A B : Type 0} (make : A → B) (found : Option A) (made : B) : Type 0 where
  pub of : A
  pub is_found : found ≡ Some of
  pub is_made : make of ≡ made

made_of : {A B : Type 0} (make : A → B) (found : Option A) (made : B) → option_map make found ≡ Some made → IsMade make found made
made_of make None made e = absurd cc
made_of make (Some of) made e = record { of = of; is_found = refl; is_made = cc }

-- the fact of a key among facts is that of the content that was found, from which it can be read back
pub record IsKept (ids : IdSize) (facts : List FactValue) (key : Key) (fact : List ℕ → FactValue) (found : Option (List ℕ)) : Type 0 where
  pub finds : find (has_key key) facts ≡ option_map fact found
  pub again : (content : List ℕ) → found ≡ Some content → content_of ids (fact content) ≡ content

module _ (ids : IdSize) (facts others : List FactValue) (key : Key) (fact : List ℕ → FactValue)
    (rows other_rows : List (ℕ × List ℕ)) (number : ℕ)
    (kept : IsKept ids facts key fact (row_at number rows)) (other_kept : IsKept ids others key fact (row_at number other_rows)) where
  -- two facts of the key have two contents
  found_differ : FindTwo facts others key → DifferAt rows other_rows number
  found_differ two =
      let first = made_of fact (row_at number rows) two.one (sym kept.finds ∙ two.finds_one) in
      let second = made_of fact (row_at number other_rows) two.other (sym other_kept.finds ∙ two.finds_other) in
      record {
        content = first.of;
        other = second.of;
        has_content = first.is_found;
        has_other = second.is_found;
        differ = λ e. two.differ (sym first.is_made ∙ ap fact e ∙ second.is_made);
      }

  -- and two contents are of two facts
  differ_found : DifferAt rows other_rows number → FindTwo facts others key
  differ_found d = record {
    one = fact d.content;
    other = fact d.other;
    finds_one = kept.finds ∙ ap (option_map fact) d.has_content;
    finds_other = other_kept.finds ∙ ap (option_map fact) d.has_other;
    differ = λ e. d.differ (sym (kept.again d.content d.has_content) ∙ ap (content_of ids) e ∙ other_kept.again d.other d.has_other);
  }

-- what is found under a key is kept among the facts of a heap
pub key_kept : (rows : HeapRows) → AreHeap rows → (key : Key)
    → IsKept rows.ids (joined (tables_of rows)) key (fact_of_key rows.ids key)
    (row_at (number_of key) (contents_at (table_of_key key) rows))
key_kept rows are key =
    record { finds = look_up_key rows are key; again = λ content is. (right_key rows are key content is).1 }

-- ---- two heaps of one size

-- there is no rank behind that of objects
rank_lt : (key : Key) → rank_of key < 7
rank_lt (keys.Name id) = omega arith
rank_lt (keys.Load serial) = omega arith
rank_lt (keys.Frame id) = omega arith
rank_lt (keys.Trace serial) = omega arith
rank_lt (keys.Thread serial) = omega arith
rank_lt (keys.Class id) = omega arith
rank_lt (keys.Object id) = omega arith

-- their tables of the keys of a rank differ at a number
abbrev pub DifferUnder : HeapRows → HeapRows → ℕ → ℕ → Type 0
DifferUnder one other rank number = DifferAt (contents_at (table_of_rank rank) one) (contents_at (table_of_rank rank) other) number

-- no table of the keys of a lesser rank differs
abbrev pub NoneBelow : HeapRows → HeapRows → ℕ → Type 0
NoneBelow one other zero = ⊤
NoneBelow one other (suc rank) = NoneBelow one other rank × ((number : ℕ) → DifferUnder one other rank number → ⊥)

pub none_fewer : (one other : HeapRows) (rank more : ℕ) → rank ≤ more → NoneBelow one other more → NoneBelow one other rank
none_fewer one other rank zero le none =
    let same : zero ≡ rank = omega arith in subst (NoneBelow one other) same none
none_fewer one other rank (suc more) le none = elim (cases_lt more rank) [
  | inl lt ↦
      let same : suc more ≡ rank = omega arith in
      subst (NoneBelow one other) same none
  | inr ge ↦ none_fewer one other rank more ge none.0
]

module _ (one other : HeapRows) (are : AreHeap one) (others_are : AreHeap other) (same : one.ids ≡ other.ids) where
  -- the facts of both
  abbrev both : List FactValue
  both = joined (tables_of one) ++ joined (tables_of other)

  other_kept : (key : Key) → IsKept one.ids (joined (tables_of other)) key (fact_of_key one.ids key)
      (row_at (number_of key) (contents_at (table_of_key key) other))
  other_kept key =
      subst (λ (i : IdSize). IsKept i (joined (tables_of other)) key (fact_of_key i key)
      (row_at (number_of key) (contents_at (table_of_key key) other))) (sym same) (key_kept other others_are key)

  -- they have a conflict where their tables differ
  conflict_differs : (key : Key) → HasConflict both key → DifferUnder one other (rank_of key) (number_of key)
  conflict_differs key c =
      found_differ one.ids (joined (tables_of one)) (joined (tables_of other)) key (fact_of_key one.ids key)
      (contents_at (table_of_key key) one) (contents_at (table_of_key key) other) (number_of key) (key_kept one are key) (other_kept key)
      (conflict_found (joined (tables_of one)) (joined (tables_of other)) key (order_agrees (joined (tables_of one)) are.heap.ordered)
      (order_agrees (joined (tables_of other)) others_are.heap.ordered) c)

  differs_conflict : (key : Key) → DifferUnder one other (rank_of key) (number_of key) → HasConflict both key
  differs_conflict key d =
      found_conflict (joined (tables_of one)) (joined (tables_of other)) key
      (differ_found one.ids (joined (tables_of one)) (joined (tables_of other)) key (fact_of_key one.ids key)
      (contents_at (table_of_key key) one) (contents_at (table_of_key key) other) (number_of key) (key_kept one are key) (other_kept key) d)

  -- no key of a lesser rank has a conflict
  none_below : (rank : ℕ) → NoneBelow one other rank → (key : Key) → rank_of key < rank → HasConflict both key → ⊥
  none_below zero none key lt c = absurd (omega arith)
  none_below (suc rank) none key lt c = elim (cases_lt (rank_of key) rank) [
    | inl less ↦ none_below rank none.0 key less c
    | inr more ↦
        let e : rank_of key ≡ rank = omega arith in
        none.1 (number_of key) (subst (λ (r : ℕ). DifferUnder one other r (number_of key)) e (conflict_differs key c))
  ]

  -- where no table differs, the facts of both agree
  pub none_agree : NoneBelow one other 7 → IsConsistent both
  none_agree none =
      no_conflict_agrees one.ids both
      (AllFit-append one.ids (joined (tables_of one)) (joined (tables_of other)) are.heap.fit
      (subst (λ (i : IdSize). AllFit i (joined (tables_of other))) (sym same) others_are.heap.fit))
      (λ key c. none_below 7 none key (rank_lt key) c)

  module _ (key : Key) (none : NoneBelow one other (rank_of key))
      (first : IsFirstDifference (contents_at (table_of_key key) one) (contents_at (table_of_key key) other) (Some (number_of key))) where
    -- a conflict at a key that comes no later is at that key
    up_to : (more : Key) → IsUpTo (rank_of more) (number_of more) (rank_of key) (number_of key) → HasConflict both more
        → key_le key more ≡ true
    up_to more (inl lt) c = absurd (none_below (rank_of key) none more lt c)
    up_to more (inr le) c = elim (cases_lt (number_of more) (number_of key)) [
      | inl lt ↦ absurd
          (first.1 (number_of more) lt (subst (λ (r : ℕ). DifferUnder one other r (number_of more)) le.0 (conflict_differs more c)))
      | inr ge ↦ true-key_le key more (inr (sym le.0, ge))
    ]

    -- where the first table that differs does so first, there is the least conflict
    least_is : (answer : Key) → Some key ≡ Some answer → IsLeastConflict both answer
    least_is answer e =
        let it : key ≡ answer = cc in
        subst (IsLeastConflict both) it (record {
          conflict = differs_conflict key first.0;
          least = λ more c. elim (key_le-total key more) [
            | inl le ↦ le
            | inr ge ↦ up_to more (key_le-true more key ge) c
          ];
        })

  module _ (number : ℕ) where
    -- where the table of a rank differs at the number first
    pub first_least : (rank : ℕ) → rank < 7 → NoneBelow one other rank → DiffersFirst (table_of_rank rank) one other (Some number)
        → (key : Key)
        → key_in (table_of_rank rank) number ≡ Some key → IsLeastConflict both key
    first_least zero lt none first key e = least_is (keys.Name number) none first.first key e
    first_least (suc zero) lt none first key e = least_is (keys.Load number) none first.first key e
    first_least (suc (suc zero)) lt none first key e = least_is (keys.Frame number) none first.first key e
    first_least (suc (suc (suc zero))) lt none first key e = least_is (keys.Trace number) none first.first key e
    first_least (suc (suc (suc (suc zero)))) lt none first key e = least_is (keys.Thread number) none first.first key e
    first_least (suc (suc (suc (suc (suc zero))))) lt none first key e = least_is (keys.Class number) none first.first key e
    first_least (suc (suc (suc (suc (suc (suc zero)))))) lt none first key e = least_is (keys.Object number) none first.first key e
    first_least (suc (suc (suc (suc (suc (suc (suc rank))))))) lt none first key e = absurd (omega arith)

    -- the fact of a key at which they differ fits
    differ_fits : (key : Key) (d : DifferUnder one other (rank_of key) (number_of key)) → Fits one.ids (fact_of_key one.ids key d.content)
    differ_fits key d = key_fits one are key d.content d.has_content

    -- so the number is one of the table's keys
    pub first_fits : (rank : ℕ) → rank < 7 → DiffersFirst (table_of_rank rank) one other (Some number)
        → IsNumberIn (table_of_rank rank) number
    first_fits zero lt first = tt
    first_fits (suc zero) lt first = (differ_fits (keys.Load number) first.first.0).0.numbers.0
    first_fits (suc (suc zero)) lt first = tt
    first_fits (suc (suc (suc zero))) lt first = (differ_fits (keys.Trace number) first.first.0).0.numbers.0
    first_fits (suc (suc (suc (suc zero)))) lt first = (differ_fits (keys.Thread number) first.first.0).0.numbers.0
    first_fits (suc (suc (suc (suc (suc zero))))) lt first = tt
    first_fits (suc (suc (suc (suc (suc (suc zero)))))) lt first = tt
    first_fits (suc (suc (suc (suc (suc (suc (suc rank))))))) lt first = absurd (omega arith)
