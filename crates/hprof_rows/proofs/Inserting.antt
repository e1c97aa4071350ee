-- Looking a fact up by its key, and putting one in its place.
use Rattle.std.proofs.Common.{◌≡◌, Bool, true, false, cond, List, [], ◌∷◌, find, Option, Some, None, refl, sym, subst, ◌⊎◌, inl, inr}
use Rattle.std.proofs.lemmas.Bool.{cond_both}
use Rattle.hprof_values.specs.declared.ids.IdSize.{IdSize}
use Rattle.hprof_items.specs.FactValue.{FactValue}
use Rattle.hprof_items.specs.Spelling.{Fits}
use Rattle.hprof_rows.specs.Facts.{Has, SameFacts, AllFit}
use Rattle.hprof_rows.specs.Conflict.{IsConsistent}
use Rattle.hprof_rows.specs.Order.{IsBefore, IsCanonicalOrder}
use Rattle.hprof_rows.specs.Stating.{Adds, IsNewAmong, StatesInto}
use Rattle.hprof_rows.specs.HeapValue.{HeapValue, IsHeap}
use Rattle.hprof_tables.specs.declared.relation.Stated.{Stated}
use Rattle.hprof_tables.specs.declared.relation.Stated.TheVariants.{New, Same, Differs}
use Rattle.hprof_rows.proofs.Keys.{same_place, same_place-false, same_place-same, HaveOneKey-sym}
use Rattle.hprof_rows.proofs.FactSets.{All-has, All-from_has, SameFacts-again}
use Rattle.hprof_rows.proofs.Order.{IsBefore-trans, is_before, is_before-true, is_before-false}
use Rattle.hprof_rows.proofs.Conflicts.{IsConsistent-some, IsConsistent-key}

-- ---- looking up

-- nothing was found, so that the first did not pass
missed : (t : Bool) (fact : FactValue) (rest : Option FactValue) → cond t (Some fact) rest ≡ None → (t ≡ false) × (rest ≡ None)
missed true fact rest e = absurd cc
missed false fact rest e = (refl, e)

-- the first passed, or something else was found
hit : (t : Bool) (fact other : FactValue) (rest : Option FactValue) → cond t (Some fact) rest ≡ Some other
    → ((t ≡ true) × (other ≡ fact)) ⊎ (rest ≡ Some other)
hit true fact other rest e = inl (refl, cc)
hit false fact other rest e = inr e

-- where none is found, none passes
pub find-None : (p : FactValue → Bool) (facts : List FactValue) (fact : FactValue) → find p facts ≡ None → Has facts fact → p fact ≡ false
find-None p [] fact e has = absurd has
find-None p (first ∷ facts) fact e (inl same) =
    subst (λ (x : FactValue). p x ≡ false) (sym same) (missed (p first) first (find p facts) e).0
find-None p (first ∷ facts) fact e (inr has) = find-None p facts fact (missed (p first) first (find p facts) e).1 has

-- what is found is there, and passes
pub find-Some : (p : FactValue → Bool) (facts : List FactValue) (fact : FactValue) → find p facts ≡ Some fact → Has facts fact
    × (p fact ≡ true)
find-Some p [] fact e = absurd cc
find-Some p (first ∷ facts) fact e = elim (hit (p first) first fact (find p facts) e) [
  | inl h ↦ (inl h.1, subst (λ (x : FactValue). p x ≡ true) (sym h.1) h.0)
  | inr rest ↦ let h = find-Some p facts fact rest in (inr h.0, h.1)
]

-- ---- putting in

-- the facts with one more, in its place
abbrev pub inserted : List FactValue → FactValue → List FactValue
inserted [] fact = fact ∷ []
inserted (first ∷ facts) fact = cond (is_before fact first) (fact ∷ first ∷ facts) (first ∷ inserted facts fact)

-- what is there afterwards is the new fact or was there
pub inserted-has : (facts : List FactValue) (fact other : FactValue) → Has (inserted facts fact) other → (other ≡ fact) ⊎ Has facts other
inserted-has [] fact other = λ has. has
inserted-has (first ∷ facts) fact other =
    cond_both (is_before fact first) (fact ∷ first ∷ facts) (first ∷ inserted facts fact) (λ (l : List FactValue). Has l other
    → (other ≡ fact) ⊎ Has (first ∷ facts) other)
    (λ _ has. has)
    (λ _ has. elim has [ inl e ↦ inr (inl e) | inr h ↦ elim (inserted-has facts fact other h) [ inl e ↦ inl e | inr g ↦ inr (inr g) ] ])

-- the new fact and what was there are there afterwards
pub has-inserted : (facts : List FactValue) (fact other : FactValue) → (other ≡ fact) ⊎ Has facts other → Has (inserted facts fact) other
has-inserted [] fact other has = has
has-inserted (first ∷ facts) fact other has =
    cond_both (is_before fact first) (fact ∷ first ∷ facts) (first ∷ inserted facts fact) (λ (l : List FactValue). Has l other)
    (λ _. has)
    (λ _. elim has [
      | inl e ↦ inr (has-inserted facts fact other (inl e))
      | inr h ↦ elim h [
        | inl e ↦ inl e
        | inr g ↦ inr
            (has-inserted facts fact other (inr g))
      ]
    ])

-- what holds of the new fact and of each that was there holds of each afterwards
pub All-inserted : (P : FactValue → Type 0) (facts : List FactValue) (fact : FactValue) → P fact
    → ((other : FactValue) → Has facts other → P other)
    → (other : FactValue) → Has (inserted facts fact) other → P other
All-inserted P facts fact new old other has = elim (inserted-has facts fact other has) [ inl e ↦ subst P (sym e) new | inr h ↦ old other h ]

-- a new fact that fits leaves facts that fit
pub inserted-fit : (ids : IdSize) (facts : List FactValue) (fact : FactValue) → Fits ids fact → AllFit ids facts
    → AllFit ids (inserted facts fact)
inserted-fit ids facts fact fits all = All-inserted (Fits ids) facts fact fits all

-- the same, where no fact that is there passes
inserted-ordered_by : (facts : List FactValue) (fact : FactValue) → IsCanonicalOrder facts → ((other : FactValue) → Has facts other
    → same_place fact other ≡ false) → IsCanonicalOrder (inserted facts fact)
inserted-ordered_by [] fact ordered new = (tt, tt)
inserted-ordered_by (first ∷ facts) fact ordered new =
    cond_both (is_before fact first) (fact ∷ first ∷ facts) (first ∷ inserted facts fact) IsCanonicalOrder
    (λ e. let before = is_before-true fact first e in (
      (
        before,
        All-from_has (IsBefore fact) facts (λ other has.
            IsBefore-trans fact first other before (All-has (IsBefore first) facts other ordered.0 has)),
      ),
      ordered,
    ))
    (λ e. (
      All-from_has (IsBefore first) (inserted facts fact)
          (All-inserted (IsBefore first) facts fact (is_before-false fact first e (new first (inl refl))) (λ other has.
          All-has (IsBefore first) facts other ordered.0 has)),
      inserted-ordered_by facts fact ordered.1 (λ other has. new other (inr has)),
    ))

-- a fact of a new key, put in its place, leaves facts in order
pub inserted-ordered : (facts : List FactValue) (fact : FactValue) → IsCanonicalOrder facts → find (same_place fact) facts ≡ None
    → IsCanonicalOrder (inserted facts fact)
inserted-ordered facts fact ordered none =
    inserted-ordered_by facts fact ordered (λ other has. find-None (same_place fact) facts other none has)

-- they are the new fact and those that were there
pub inserted-same : (facts : List FactValue) (fact : FactValue) → SameFacts (inserted facts fact) (fact ∷ facts)
inserted-same facts fact other = (inserted-has facts fact other, has-inserted facts fact other)

-- a fact at whose place none is found is new
pub unseen : (heap : HeapValue) (fact : FactValue) → find (same_place fact) heap.facts ≡ None → IsNewAmong heap.facts fact
unseen heap fact none = record {
  is_new = λ other has have. same_place-false fact other (find-None (same_place fact) heap.facts other none has)
      (HaveOneKey-sym other fact have);
  absent = λ has. same_place-same fact (find-None (same_place fact) heap.facts fact none has);
}

-- a fact that fits, put in its place at a new key, is added
pub inserted-adds : (heap : HeapValue) (fact : FactValue) → find (same_place fact) heap.facts ≡ None → Fits heap.ids fact → IsHeap heap
    → Adds heap fact (record heap { facts = inserted heap.facts fact })
inserted-adds heap fact none fits sound = record {
  is_new = (unseen heap fact none).is_new;
  absent = (unseen heap fact none).absent;
  ids = refl;
  millis = refl;
  facts = inserted-same heap.facts fact;
  is_heap = record {
    is_millis = sound.is_millis;
    fit = inserted-fit heap.ids heap.facts fact fits sound.fit;
    ordered = inserted-ordered heap.facts fact sound.ordered none;
  };
}

-- stating a fact keeps what every heap keeps
pub states-sound : (heap new : HeapValue) (fact : FactValue) (stated : Stated) → StatesInto heap fact stated new → IsHeap heap → IsHeap new
states-sound heap new fact New s sound = s.is_heap
states-sound heap new fact Same s sound = rw s.1 sound
states-sound heap new fact Differs s sound = rw s.1 sound

-- ---- facts that agree, in order

-- a list in order that has the same facts
abbrev pub HasOrder : List FactValue → Type 0
HasOrder facts = (rows : List FactValue) × IsCanonicalOrder rows × SameFacts rows facts

-- a list in order for one more fact, by whether its key is there
one_more : (fact : FactValue) (facts rows : List FactValue) (found : Option FactValue) → find (same_place fact) rows ≡ found
    → IsConsistent (fact ∷ facts)
    → IsCanonicalOrder rows → SameFacts rows facts → HasOrder (fact ∷ facts)
one_more fact facts rows None e agree ordered same = (
  inserted rows fact,
  inserted-ordered rows fact ordered e,
  λ other. (
    λ has. elim (inserted-has rows fact other has) [ inl h ↦ inl h | inr h ↦ inr ((same other).0 h) ],
    λ has. has-inserted rows fact other (elim has [ inl h ↦ inl h | inr h ↦ inr ((same other).1 h) ]),
  ),
)
one_more fact facts rows (Some other) e agree ordered same =
    let found = find-Some (same_place fact) rows other e in
    let there : Has facts other = (same other).0 found.0 in
    let one : fact ≡ other = IsConsistent-key (fact ∷ facts) fact other agree (inl refl) (inr there) found.1 in
    (rows, ordered, SameFacts-again rows facts fact same (subst (Has facts) (sym one) there))

-- facts that agree have a list in order
pub agreeing-order : (facts : List FactValue) → IsConsistent facts → HasOrder facts
agreeing-order [] agree = ([], tt, λ fact. (λ has. has, λ has. has))
agreeing-order (fact ∷ facts) agree =
    let rest = agreeing-order facts (IsConsistent-some (fact ∷ facts) facts (λ other has. inr has) agree) in
    one_more fact facts rest.0 (find (same_place fact) rest.0) refl agree rest.1 rest.2
