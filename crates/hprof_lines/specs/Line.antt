-- Lines of reports.
use Rattle.std.specs.Prelude.{ℕ, ◌+◌, List, [], ◌∷◌, ◌++◌, codes}
use Rattle.std.specs.Fmt.{decimal}
use Rattle.std.specs.List.{flat_map}
use Rattle.hprof_text.specs.Identifier.{id_digits}

-- a word, a space, and a number in decimal
abbrev pub count_line : List ℕ → ℕ → List ℕ
count_line word number = word ++ codes " " ++ decimal number ++ codes "\n"

-- fields, separated by one space, and one line feed behind them
abbrev pub line_of : List (List ℕ) → List ℕ
line_of [] = codes "\n"
line_of (field ∷ []) = field ++ codes "\n"
line_of (field ∷ next ∷ fields) = field ++ (codes " " ++ line_of (next ∷ fields))

-- a line for each, the first of which stands at that place
abbrev pub each_line : {A : Type 0} → (ℕ → A → List ℕ) → ℕ → List A → List (List ℕ)
each_line line place [] = []
each_line line place (x ∷ xs) = line place x ∷ each_line line (place + 1) xs

-- lines, one behind the other
abbrev pub text_of_lines : List (List ℕ) → List ℕ
text_of_lines lines = flat_map (λ line. line) lines

-- what is said of an identifier that no dump has
abbrev pub nothing_line : ℕ → List ℕ
nothing_line id = line_of (codes "nothing at" ∷ id_digits id ∷ [])
