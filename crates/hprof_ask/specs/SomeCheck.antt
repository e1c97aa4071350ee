-- The report `check` of any parts and facts is there: names are counted whose bytes are not modified UTF-8.
use Rattle.std.specs.Prelude.{if◌then◌else◌}
use Rattle.std.proofs.Common.{◌≡◌, ◌⊎◌, ℕ, ◌+◌, Bool, true, false, List, [], ◌∷◌, ◌++◌, get_or, refl, sym, ap, ◌∙◌, inl, inr, arith}
use Rattle.std.specs.List.{flat_map}
use Rattle.std.proofs.lemmas.Bool.Decides.{eqb_tells}
use Rattle.hprof_text.specs.ModifiedUtf8.{HasUnits}
use Rattle.hprof_text.specs.Printed.{is_plain, escaped_unit, printed_unit}
use Rattle.hprof_text.proofs.Decided.{printed_exists}
use Rattle.hprof_items.specs.FactValue.{FactValue, Name}
use Rattle.hprof_stream.specs.declared.summary.PartSummary.{PartSummary}
use Rattle.hprof_rows.specs.declared.table.Table.TheVariants as tables
use Rattle.hprof_rows.specs.Tables.{facts_of_table}
use Rattle.hprof_reports.specs.Check.{IsBadName, IsCheck, check_text}
use Rattle.hprof_reports.specs.Counts.{IsCountOf}

-- ---- whether a name is bad is told by its printed form: `\x` begins no other

-- a unit in print does not begin with `\x`
unit_begins : (unit : ℕ) (rest : List ℕ) (plain : Bool) → is_plain unit ≡ plain
    → get_or ((if plain then unit ∷ [] else escaped_unit unit) ++ rest) 0 0 ≡ 92
    → get_or ((if plain then unit ∷ [] else escaped_unit unit) ++ rest) 1 0 ≡ 120 → ⊥
unit_begins unit rest true e first second = let no : is_plain unit ≡ false = ap is_plain first in cc
unit_begins unit rest false e first second = let no : 117 ≡ 120 = second in omega (arith, no)

-- nor do units
units_begin : (units : List ℕ) → get_or (flat_map printed_unit units) 0 0 ≡ 92 → get_or (flat_map printed_unit units) 1 0 ≡ 120 → ⊥
unfolding printed_unit
units_begin [] first second = cc
units_begin (unit ∷ units) first second = unit_begins unit (flat_map printed_unit units) (is_plain unit) refl first second

units_or_not : (bytes : List ℕ) → ¬ (HasUnits bytes) ⊎ (¬ (HasUnits bytes) → ⊥)
units_or_not bytes =
    let form = printed_exists bytes in
    elim (eqb_tells (get_or form.0 0 0) 92) [
      | inl first ↦ elim (eqb_tells (get_or form.0 1 0) 120) [
        | inl second ↦ inl (λ has.
            let is = form.1.of_units has.0 has.1 in
            units_begin has.0 (ap (λ (l : List ℕ). get_or l 0 0) (sym is) ∙ first.1)
            (ap (λ (l : List ℕ). get_or l 1 0) (sym is) ∙ second.1))
        | inr other ↦ inr (λ none. other.1 (ap (λ (l : List ℕ). get_or l 1 0) (form.1.of_bytes none)))
      ]
      | inr other ↦ inr (λ none. other.1 (ap (λ (l : List ℕ). get_or l 0 0) (form.1.of_bytes none)))
    ]

bad_or_not : (fact : FactValue) → IsBadName fact ⊎ ¬ (IsBadName fact)
bad_or_not (Name id text) = units_or_not text
bad_or_not fact = inr (λ bad. absurd bad)

-- ---- so they can be counted

some_count : {A : Type 0} (P : A → Type 0) → ((x : A) → P x ⊎ ¬ (P x)) → (xs : List A) → (count : ℕ) × IsCountOf P xs count
some_count P either [] = (0, refl)
some_count P either (x ∷ xs) =
    let others = some_count P either xs in
    elim (either x) [
      | inl has ↦ (others.0 + 1, inl (has, others.0, refl, others.1))
      | inr fails ↦ (others.0, inr (fails, others.1))
    ]

pub some_check : (summaries : List PartSummary) (facts : List FactValue) → (text : List ℕ) × IsCheck summaries facts text
some_check summaries facts =
    let bad = some_count IsBadName bad_or_not (facts_of_table tables.Names facts) in
    (check_text summaries facts bad.0, (bad.0, bad.1, refl))
