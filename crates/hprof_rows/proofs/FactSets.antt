-- Lists of facts as sets.
use Rattle.std.proofs.Common.{List, [], ◌∷◌, ◌++◌, refl, sym, subst, ◌⊎◌, inl, inr}
use Rattle.std.specs.List.{AllByRecursion}
use Rattle.hprof_items.specs.FactValue.{FactValue}
use Rattle.hprof_rows.specs.Facts.{Has, SameFacts}

-- ---- parts of a list

-- a fact of two lists is one of the first or of the second
pub Has-parts : (xs ys : List FactValue) (fact : FactValue) → Has (xs ++ ys) fact → Has xs fact ⊎ Has ys fact
Has-parts [] ys fact has = inr has
Has-parts (x ∷ xs) ys fact (inl e) = inl (inl e)
Has-parts (x ∷ xs) ys fact (inr has) = elim (Has-parts xs ys fact has) [ inl p ↦ inl (inr p) | inr q ↦ inr q ]

-- a fact of the first list is one of both
pub Has-front : (xs ys : List FactValue) (fact : FactValue) → Has xs fact → Has (xs ++ ys) fact
Has-front [] ys fact has = absurd has
Has-front (x ∷ xs) ys fact (inl e) = inl e
Has-front (x ∷ xs) ys fact (inr has) = inr (Has-front xs ys fact has)

-- a fact of the second list is one of both
pub Has-back : (xs ys : List FactValue) (fact : FactValue) → Has ys fact → Has (xs ++ ys) fact
Has-back [] ys fact has = has
Has-back (x ∷ xs) ys fact has = inr (Has-back xs ys fact has)

-- ---- what holds of each

-- what holds of each fact holds of one that is there
pub All-has : (P : FactValue → Type 0) (facts : List FactValue) (fact : FactValue) → AllByRecursion P facts → Has facts fact → P fact
All-has P [] fact all has = absurd has
All-has P (first ∷ facts) fact all (inl e) = subst P (sym e) all.0
All-has P (first ∷ facts) fact all (inr has) = All-has P facts fact all.1 has

-- what holds of whichever fact is there holds of each
pub All-from_has : (P : FactValue → Type 0) (facts : List FactValue) → ((fact : FactValue) → Has facts fact → P fact)
    → AllByRecursion P facts
All-from_has P [] each = tt
All-from_has P (first ∷ facts) each = (each first (inl refl), All-from_has P facts (λ fact has. each fact (inr has)))

-- ---- the same facts

-- two lists have the same facts either way round
pub SameFacts-sym : (facts others : List FactValue) → SameFacts facts others → SameFacts others facts
SameFacts-sym facts others same fact = ((same fact).1, (same fact).0)

-- the same facts as those that are the same
pub SameFacts-trans : (facts others more : List FactValue) → SameFacts facts others → SameFacts others more → SameFacts facts more
SameFacts-trans facts others more same too fact = (λ has. (too fact).0 ((same fact).0 has), λ has. (same fact).1 ((too fact).1 has))

-- one more fact, which was there
pub SameFacts-again : (facts others : List FactValue) (fact : FactValue) → SameFacts facts others → Has others fact
    → SameFacts facts (fact ∷ others)
SameFacts-again facts others fact same there other = (
  λ has. inr ((same other).0 has),
  λ has. (same other).1 (elim has [ inl e ↦ subst (Has others) (sym e) there | inr h ↦ h ]),
)

-- ---- the facts of two lists

-- a list has its own facts
pub SameFacts-refl : (facts : List FactValue) → SameFacts facts facts
SameFacts-refl facts fact = (λ has. has, λ has. has)

-- a list that has the facts of each of two has those of both
pub Has-both : (one other more : List FactValue) → ((fact : FactValue) → Has one fact → Has more fact)
    → ((fact : FactValue) → Has other fact → Has more fact) → (fact : FactValue) → Has (one ++ other) fact → Has more fact
Has-both one other more first second fact has = elim (Has-parts one other fact has) [ inl h ↦ first fact h | inr h ↦ second fact h ]

-- two lists have the facts that lists with the same facts have
pub SameFacts-append : (one other first second : List FactValue) → SameFacts one first → SameFacts other second
    → SameFacts (one ++ other) (first ++ second)
SameFacts-append one other first second same too fact = (
  Has-both one other (first ++ second) (λ f has. Has-front first second f ((same f).0 has))
      (λ f has. Has-back first second f ((too f).0 has)) fact,
  Has-both first second (one ++ other) (λ f has. Has-front one other f ((same f).1 has))
      (λ f has. Has-back one other f ((too f).1 has)) fact,
)

-- in whichever order the lists come
pub SameFacts-turned : (one other : List FactValue) → SameFacts (one ++ other) (other ++ one)
SameFacts-turned one other fact = (
  Has-both one other (other ++ one) (Has-back other one) (Has-front other one) fact,
  Has-both other one (one ++ other) (Has-back one other) (Has-front one other) fact,
)

-- a list twice has the facts that it has once
pub SameFacts-twice : (facts : List FactValue) → SameFacts facts (facts ++ facts)
SameFacts-twice facts fact = (Has-front facts facts fact, Has-both facts facts facts (λ f has. has) (λ f has. has) fact)
