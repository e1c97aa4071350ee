-- A run of a sink over rows.
use Rattle.std.specs.Prelude.{◌≡◌, ℕ, List, [], ◌∷◌}
use Rattle.hprof_merge.specs.Rows.{ByteRow}

-- it took these rows, one after another
abbrev pub Runs : {T : Type 0} → (T → ℕ → List ℕ → T → Type 0) → T → List ByteRow → T → Type 0
Runs steps old [] new = old ≡ new
Runs {T} steps old (row ∷ rows) new = (mid : T) × steps old row.0 row.1 mid × Runs steps mid rows new
