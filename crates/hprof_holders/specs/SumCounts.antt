-- Counts of texts.
use Rattle.std.specs.Prelude.{◌≡◌, ◌==◌, ℕ, ◌+◌, List, Option, Some, None, bytes_eq, cond, if◌then◌else◌, string_bytes, unwrap_or, String}
use Rattle.std.specs.BTreeMap.{get_by_text}
use Rattle.hprof_holders.specs.declared.sums.Sum.{Sum}
use Rattle.hprof_holders.specs.declared.sums.Sums.{Sums}
use Rattle.hprof_holders.specs.Sums.{SumValue, times_in}

abbrev pub sum_value : Sum → SumValue
sum_value sum = record { text = string_bytes sum.text; count = sum.count }

-- an entry of the counts
abbrev pub entry_value : {A : Type 0} → String A × ℕ → SumValue
entry_value entry = record { text = string_bytes entry.0; count = entry.1 }

-- the number of a text, 0 if it is not counted
abbrev pub count_in : Sums → List ℕ → ℕ
count_in sums text = unwrap_or (get_by_text sums.counts text) 0

-- no number for no times
abbrev pub some_times : ℕ → Option ℕ
some_times times = if times == 0 then None else Some times

-- each text is counted as often as it stands among these, and no other text is
abbrev pub AreCounted : List (List ℕ) → Sums → Type 0
AreCounted texts sums = (text : List ℕ) → get_by_text sums.counts text ≡ some_times (times_in text texts)

-- that text is counted once more, and every other text as often as before
abbrev pub CountsOneMore : Sums → Sums → List ℕ → Type 0
CountsOneMore old new text = (other : List ℕ) → get_by_text new.counts other
    ≡ cond (bytes_eq text other) (Some (count_in old text + 1)) (get_by_text old.counts other)
