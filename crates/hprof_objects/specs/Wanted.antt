-- Identifiers that are wanted, and the rows of their objects.
use Rattle.std.specs.Prelude.{◌≤◌, ◌+◌, ◌==◌, ℕ, Bool, List, [], ◌∷◌, ⊤}
use Rattle.std.specs.List.{filter, list_any}
use Rattle.hprof_merge.specs.Rows.{ByteRow}

-- whether the identifier is one of these
abbrev pub is_among : List ℕ → ℕ → Bool
is_among wanted id = list_any (λ other. other == id) wanted

-- those of the rows whose identifiers are wanted, in their order
abbrev pub wanted_rows : List ℕ → List ByteRow → List ByteRow
wanted_rows wanted rows = filter (λ row. is_among wanted row.0) rows

-- no identifier is below the key
abbrev pub AreFrom : ℕ → List ℕ → Type 0
AreFrom key [] = ⊤
AreFrom key (id ∷ ids) = (key ≤ id) × AreFrom key ids

-- each identifier is below all behind it
abbrev pub Rises : List ℕ → Type 0
Rises [] = ⊤
Rises (id ∷ ids) = AreFrom (id + 1) ids × Rises ids
