-- Whether two facts that fit are one.
use Rattle.std.proofs.Common.{◌≡◌, ◌≢◌, ℕ, Bool, true, false, List, [], ◌++◌, refl, ap, ◌⊎◌, inl, inr}
use Rattle.std.specs.Prelude.{bytes_eq, is_some}
use Rattle.std.proofs.lemmas.Bool.{cases_Bool}
use Rattle.std.proofs.lemmas.Bool.Decides.{not_from_Decides}
use Rattle.std.proofs.lemmas.Slice.Eq.{bytes_eq-Decides}
use Rattle.hprof_values.specs.declared.ids.IdSize.{IdSize}
use Rattle.hprof_items.specs.FactValue.{FactValue}
use Rattle.hprof_items.specs.RecordBody.{record_of}
use Rattle.hprof_items.specs.Spelling.{Fits, spelling}
use Rattle.hprof_items.proofs.Families.{spelling_once}

-- whether a fact is stated by a record
abbrev is_record : FactValue → Bool
is_record fact = is_some (record_of fact)

-- truth values are one, or two
cases_same : (t u : Bool) → (t ≡ u) ⊎ (t ≢ u)
cases_same true true = inl refl
cases_same true false = inr (λ e. cc)
cases_same false true = inr (λ e. cc)
cases_same false false = inl refl

module _ (ids : IdSize) (one other : FactValue) (fits : Fits ids one) (fits_too : Fits ids other) where
  -- facts of one family that have one spelling are one
  one_spelling : is_record one ≡ is_record other → spelling ids one ≡ spelling ids other → one ≡ other
  one_spelling family same = (spelling_once ids one other [] [] fits fits_too family (ap (λ (bytes : List ℕ). bytes ++ []) same)).0

  -- of one family they are decided by their spellings
  by_spelling : is_record one ≡ is_record other → (one ≡ other) ⊎ (one ≢ other)
  by_spelling family = elim (cases_Bool (bytes_eq (spelling ids one) (spelling ids other))) [
    | inl same ↦ inl (one_spelling family ((bytes_eq-Decides (spelling ids one) (spelling ids other)).0 same))
    | inr apart ↦ inr (λ same. not_from_Decides (bytes_eq (spelling ids one) (spelling ids other))
        (bytes_eq-Decides (spelling ids one) (spelling ids other)) apart (ap (spelling ids) same))
  ]

  -- two facts that fit one size are one, or two
  pub one_or_two : (one ≡ other) ⊎ (one ≢ other)
  one_or_two = elim (cases_same (is_record one) (is_record other)) [
    | inl family ↦ by_spelling family
    | inr apart ↦ inr (λ same. apart (ap is_record same))
  ]
