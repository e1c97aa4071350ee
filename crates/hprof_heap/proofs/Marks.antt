-- The facts of a heap that gathers, and the mark of its least conflict.
use Rattle.std.proofs.Common.{◌≡◌, true, List, [], ◌∷◌, ◌++◌, Option, Some, None, refl, sym, ap}
use Rattle.std.proofs.Common.{subst, ◌∙◌, ◌⊎◌, inl, inr}
use Rattle.hprof_items.specs.FactValue.{FactValue}
use Rattle.hprof_rows.specs.declared.key.Key.{Key}
use Rattle.hprof_rows.specs.Key.{key_of, key_le, lesser_key}
use Rattle.hprof_rows.specs.Facts.{Has}
use Rattle.hprof_rows.specs.Conflict.{HasConflict}
use Rattle.hprof_rows.specs.Order.{IsCanonicalOrder}
use Rattle.hprof_rows.specs.HeapValue.{HeapValue}
use Rattle.hprof_rows.specs.Stating.{Adds, HasOther}
use Rattle.hprof_heap.specs.Gathering.{marked}
use Rattle.hprof_rows.proofs.FactSets.{Has-parts, Has-front, Has-back}
use Rattle.hprof_rows.proofs.Keys.{key_le-refl, key_le-trans, lesser_is}
use Rattle.hprof_rows.proofs.Conflicts.{HasConflict-more}

-- ---- the facts of a heap, and its mark

-- the mark is the fact's key or one before it
abbrev pub IsMarked : Option Key → FactValue → Type 0
IsMarked None fact = ⊥
IsMarked (Some least) fact = (key : Key) × (key_of fact ≡ Some key) × (key_le least key ≡ true)

-- the marked key has two contents
abbrev pub HasMark : List FactValue → Option Key → Type 0
HasMark given None = Unit {0}
HasMark given (Some key) = HasConflict given key

-- what the facts of a heap and the mark say of the facts that were given
pub record Holds (given facts : List FactValue) (mark : Option Key) : Type 0 where
  pub ordered : IsCanonicalOrder facts
  pub was_given : (fact : FactValue) → Has facts fact → Has given fact
  pub each : (fact : FactValue) → Has given fact → Has facts fact ⊎ (IsMarked mark fact × HasOther facts fact)
  pub has_mark : HasMark given mark

-- a mark stays one as facts are added
HasMark-more : (given : List FactValue) (fact : FactValue) (mark : Option Key) → HasMark given mark → HasMark (given ++ fact ∷ []) mark
HasMark-more given fact None has = tt
HasMark-more given fact (Some key) has = HasConflict-more given (given ++ fact ∷ []) key (λ other. Has-front given (fact ∷ []) other) has

-- one more fact is the last one
last_given : (given : List FactValue) (fact other : FactValue) → Has (given ++ fact ∷ []) other → Has given other ⊎ (other ≡ fact)
last_given given fact other has =
    elim (Has-parts given (fact ∷ []) other has) [ inl h ↦ inl h | inr h ↦ elim h [ inl e ↦ inr e | inr none ↦ absurd none ] ]

-- another fact with its key stays there as facts are added
HasOther-more : (facts others : List FactValue) (fact : FactValue) → ((one : FactValue) → Has facts one → Has others one)
    → HasOther facts fact → HasOther others fact
HasOther-more facts others fact within has = record {
  other = has.other;
  has_other = within has.other has.has_other;
  one_key =
      has.one_key;
  differ = has.differ;
}

-- a fact at a new key
pub holds_new : (given : List FactValue) (heap : HeapValue) (mark : Option Key) (fact : FactValue) (new : HeapValue)
    → Holds given heap.facts mark → Adds heap fact new → Holds (given ++ fact ∷ []) new.facts mark
holds_new given heap mark fact new holds added = record {
  ordered = added.is_heap.ordered;
  was_given = λ other has. elim ((added.facts other).0 has) [
    | inl e ↦ Has-back given (fact ∷ []) other (inl e)
    | inr h ↦ Has-front given
        (fact ∷ []) other (holds.was_given other h)
  ];
  each = λ other has. elim (last_given given fact other has) [
    | inl h ↦ elim (holds.each other h) [
      | inl there ↦ inl ((added.facts other).1 (inr there))
      | inr marked ↦ inr (marked.0, HasOther-more heap.facts new.facts other (λ one there. (added.facts one).1 (inr there)) marked.1)
    ]
    | inr e ↦ inl ((added.facts other).1 (inl e))
  ];
  has_mark = HasMark-more given fact mark holds.has_mark;
}

-- a fact that is there
pub holds_same : (given facts : List FactValue) (mark : Option Key) (fact : FactValue) → Holds given facts mark → Has facts fact
    → Holds (given ++ fact ∷ []) facts mark
holds_same given facts mark fact holds there = record {
  ordered = holds.ordered;
  was_given = λ other has. Has-front given (fact ∷ []) other (holds.was_given other has);
  each = λ other has. elim (last_given given fact other has) [
    | inl h ↦ holds.each other h
    | inr e ↦ inl (subst (Has facts) (sym e) there)
  ];
  has_mark = HasMark-more given fact mark holds.has_mark;
}

-- what is marked after one more key: what was marked before, and the facts of that key
marked_more : (mark : Option Key) (key : Key) (fact : FactValue) → IsMarked mark fact ⊎ (key_of fact ≡ Some key)
    → IsMarked (marked mark (Some key)) fact
marked_more None key fact (inl none) = absurd none
marked_more None key fact (inr e) = (key, e, key_le-refl key)
marked_more (Some least) key fact (inl m) = (m.0, m.1, key_le-trans (lesser_key least key) least m.0 (lesser_is least key).le_first m.2)
marked_more (Some least) key fact (inr e) = (key, e, (lesser_is least key).le_second)

-- the mark after one more conflict
HasMark-conflict : (given : List FactValue) (mark : Option Key) (key : Key) → HasMark given mark → HasConflict given key
    → HasMark given (marked mark (Some key))
HasMark-conflict given None key has conflict = conflict
HasMark-conflict given (Some least) key has conflict = elim (lesser_is least key).one [
  | inl e ↦ subst (HasConflict given) (sym e) has
  | inr e ↦ subst (HasConflict given) (sym e) conflict
]

-- a fact that differs from the one that is there
pub holds_differs : (given facts : List FactValue) (mark : Option Key) (fact : FactValue) → Holds given facts mark → HasOther facts fact
    → Holds (given ++ fact ∷ []) facts (marked mark (key_of fact))
holds_differs given facts mark fact holds has_other =
    let have = has_other.one_key in
    subst (λ (key : Option Key). Holds (given ++ fact ∷ []) facts (marked mark key)) (sym have.key_of_other) (record {
      ordered = holds.ordered;
      was_given = λ one has. Has-front given (fact ∷ []) one (holds.was_given one has);
      each = λ one has. elim (last_given given fact one has) [
        | inl h ↦ elim (holds.each one h) [ inl there ↦ inl there | inr m ↦ inr (marked_more mark have.key one (inl m.0), m.1) ]
        | inr e ↦ inr (marked_more mark have.key one (inr (ap key_of e ∙ have.key_of_other)), subst (HasOther facts) (sym e) has_other)
      ];
      has_mark = HasMark-conflict (given ++ fact ∷ []) mark have.key (HasMark-more given fact mark holds.has_mark) (record {
        one = has_other.other;
        other = fact;
        has_one = Has-front given (fact ∷ []) has_other.other (holds.was_given has_other.other has_other.has_other);
        has_other = Has-back given (fact ∷ []) fact (inl refl);
        key_of_one = have.key_of_one;
        key_of_other = have.key_of_other;
        differ = has_other.differ;
      });
    })
