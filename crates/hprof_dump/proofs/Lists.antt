-- What holds of all elements of a list.
use Rattle.std.proofs.Common.{◌≡◌, Bool, true, false, List, [], ◌∷◌, ◌++◌, map, refl}
use Rattle.std.specs.List.{AllByRecursion, filter}

pub all_joined : {A : Type 0} (P : A → Type 0) (xs ys : List A) → AllByRecursion P xs → AllByRecursion P ys → AllByRecursion P (xs ++ ys)
all_joined P [] ys all too = too
all_joined P (x ∷ xs) ys all too = (all.0, all_joined P xs ys all.1 too)

pub all_map : {A B : Type 0} (P : B → Type 0) (Q : A → Type 0) (f : A → B) (xs : List A) → ((x : A) → Q x → P (f x)) → AllByRecursion Q xs
    → AllByRecursion P (map f xs)
all_map P Q f [] each all = tt
all_map P Q f (x ∷ xs) each all = (each x all.0, all_map P Q f xs each all.1)

-- of those that pass a test
passes : {A : Type 0} (P Q : A → Type 0) (test : A → Bool) (x : A) (xs : List A) (yes : Bool) → test x ≡ yes → P x
    → ((y : A) → P y → test y ≡ true → Q y) → AllByRecursion Q (filter test xs)
    → AllByRecursion Q (filter test (x ∷ xs))
passes P Q test x xs true is has each rest = rw is (each x has is, rest)
passes P Q test x xs false is has each rest = rw is rest

pub all_filter : {A : Type 0} (P Q : A → Type 0) (test : A → Bool) (xs : List A) → ((y : A) → P y → test y ≡ true → Q y)
    → AllByRecursion P xs → AllByRecursion Q (filter test xs)
all_filter P Q test [] each all = tt
all_filter P Q test (x ∷ xs) each all = passes P Q test x xs (test x) refl all.0 each (all_filter P Q test xs each all.1)
