-- Conflicts, which are those of the set.
use Rattle.std.proofs.Common.{◌≡◌, List, true, inl, inr}
use Rattle.hprof_items.specs.FactValue.{FactValue}
use Rattle.hprof_rows.specs.declared.key.Key.{Key}
use Rattle.hprof_rows.specs.Facts.{Has, SameFacts}
use Rattle.hprof_rows.specs.Conflict.{IsConsistent, HasConflict, IsLeastConflict}
use Rattle.hprof_rows.proofs.Keys.{key_le-antisym, same_place, same_place-true}

-- some of facts that agree agree
pub IsConsistent-some : (facts others : List FactValue) → ((fact : FactValue) → Has others fact → Has facts fact) → IsConsistent facts
    → IsConsistent others
IsConsistent-some facts others some agree key one other has_one has_other = agree key one other (some one has_one) (some other has_other)

-- whether facts agree is that of the set
pub IsConsistent-same : (facts others : List FactValue) → SameFacts facts others → IsConsistent facts → IsConsistent others
IsConsistent-same facts others same = IsConsistent-some facts others (λ fact. (same fact).1)

-- of facts that agree two at one place are the same
pub IsConsistent-key : (facts : List FactValue) (one other : FactValue) → IsConsistent facts → Has facts one → Has facts other
    → same_place one other ≡ true → one ≡ other
IsConsistent-key facts one other agree has_one has_other e =
    elim (same_place-true one other e) [
      | inl have ↦ agree have.key one other has_one has_other have.key_of_one have.key_of_other
      | inr same ↦ same
    ]

-- a conflict of some facts is one of more
pub HasConflict-more : (facts others : List FactValue) (key : Key) → ((fact : FactValue) → Has facts fact → Has others fact)
    → HasConflict facts key → HasConflict others key
HasConflict-more facts others key more c = record {
  one = c.one;
  other = c.other;
  has_one = more c.one c.has_one;
  has_other = more c.other c.has_other;
  key_of_one = c.key_of_one;
  key_of_other = c.key_of_other;
  differ = c.differ;
}

-- the least conflict is that of the set
pub IsLeastConflict-same : (facts others : List FactValue) (key : Key) → SameFacts facts others → IsLeastConflict facts key
    → IsLeastConflict others key
IsLeastConflict-same facts others key same least = record {
  conflict = HasConflict-more facts others key (λ fact. (same fact).0) least.conflict;
  least = λ other c. least.least other (HasConflict-more others facts other (λ fact. (same fact).1) c);
}

-- there is one least conflict
pub one_least : (facts : List FactValue) (key other : Key) → IsLeastConflict facts key → IsLeastConflict facts other → key ≡ other
one_least facts key other a b = key_le-antisym key other (a.least other b.conflict) (b.least key a.conflict)

-- facts that agree have no conflict
pub no_conflict : (facts : List FactValue) (key : Key) → IsConsistent facts → HasConflict facts key → ⊥
no_conflict facts key agree c = c.differ (agree key c.one c.other c.has_one c.has_other c.key_of_one c.key_of_other)
