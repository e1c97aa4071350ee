-- Identifiers in lists.
use Rattle.std.specs.Prelude.{Contains, IsTrue}
use Rattle.std.proofs.Common.{◌≡◌, ◌==◌, ℕ, List, [], ◌∷◌, ◌++◌, get_or, inl, inr, refl, sym, subst, arith}
use Rattle.std.specs.List.{AllByRecursion}
use Rattle.std.proofs.lemmas.Bool.{eq-eqb, eqb-true}
use Rattle.std.proofs.lemmas.List.Folds.{Any-from_list_any, list_any_at}
use Rattle.hprof_histogram.specs.Chosen.{is_among}
use Rattle.hprof_histogram.proofs.Members.{IsIn, Contains-from_in}

-- the test tells whether the list has the identifier
pub contains_of_among : (wanted : List ℕ) (id : ℕ) → IsTrue (is_among wanted id) → Contains wanted id
contains_of_among wanted id among =
    let any = Any-from_list_any (λ other. other == id) wanted among in
    let same : any.1 ≡ id = eqb-true any.1 id any.4 in
    subst (Contains wanted) same (any.0, any.2, any.3)

pub among_of_contains : (wanted : List ℕ) (id : ℕ) → Contains wanted id → IsTrue (is_among wanted id)
among_of_contains wanted id has =
    list_any_at (λ other. other == id) wanted has.0 id has.1 (eq-eqb (get_or wanted has.0 id) id has.2)

-- what holds of each identifier of a list holds of all
module _ (P : ℕ → Type 0) where
  all_in : (list : List ℕ) → ((id : ℕ) → IsIn id list → P id) → AllByRecursion P list
  all_in [] each = tt
  all_in (id ∷ list) each = (each id (inl refl), all_in list (λ other has. each other (inr has)))

  pub all_of : (list : List ℕ) → ((id : ℕ) → Contains list id → P id) → AllByRecursion P list
  all_of list each = all_in list (λ id has. each id (Contains-from_in list id has))

  pub all_front : (front back : List ℕ) → AllByRecursion P (front ++ back) → AllByRecursion P front
  all_front [] back all = tt
  all_front (id ∷ front) back all = (all.0, all_front front back all.1)

  pub all_back : (front back : List ℕ) → AllByRecursion P (front ++ back) → AllByRecursion P back
  all_back [] back all = all
  all_back (id ∷ front) back all = all_back front back all.1

-- an identifier alone is in the list
pub alone : (list : List ℕ) (id : ℕ) → list ≡ id ∷ [] → IsTrue (is_among list id)
alone list id is = among_of_contains list id (subst (λ (l : List ℕ). Contains l id) (sym is) (0, omega arith, refl))
