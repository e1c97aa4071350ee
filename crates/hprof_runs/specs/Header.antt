-- The row whose header was read.
use Rattle.std.specs.Prelude.{◌≡◌, ◌++◌, ◌<◌, ℕ, List, [], ◌∷◌, length, take, Option, Some, None, ⊤}
use Rattle.hprof_merge.specs.Rows.{ByteRow}
use Rattle.hprof_runs.specs.declared.header.Header.{Header}
use Rattle.hprof_runs.specs.declared.run_bytes.RunBytes.{RunBytes}
use Rattle.hprof_runs.specs.RunBytes.{Brings, held_bytes}
use Rattle.hprof_runs.specs.Spelling.{AllFit, run_bytes}

-- its bytes come next
abbrev pub row_read : {S : Type 0} → Header → RunBytes S → ByteRow
row_read header it = (header.key, take header.len (held_bytes it))

-- the row, and those behind it
pub record IsRowRead {S : Type 0} (written : S → Option (List ℕ)) (header : Header) (it : RunBytes S) (row : ByteRow) (rest : List ByteRow)
    : Type 0 where
  pub is : row_read header it ≡ row
  pub len : header.len ≡ length row.1
  pub brings : Brings written it (row.1 ++ run_bytes rest)

-- these rows are still to come, the first of which has the header that was read; if none was read, there are none
abbrev pub RowsToCome : {S : Type 0} → (S → Option (List ℕ)) → Option Header → RunBytes S → List ByteRow → Type 0
RowsToCome written None it [] = Brings written it []
RowsToCome written None it (row ∷ rows) = ⊥
RowsToCome written (Some header) it [] = ⊥
RowsToCome written (Some header) it (row ∷ rows) = IsRowRead written header it row rows

-- where the bytes to come are those of rows, these rows are still to come
abbrev pub ReadsRows : {S : Type 0} → (S → Option (List ℕ)) → RunBytes S → Option Header → RunBytes S → Type 0
ReadsRows written old header new = (rows : List ByteRow) → AllFit rows → Brings written old (run_bytes rows)
    → RowsToCome written header new rows

-- the bytes to come are not those of rows
abbrev pub HasNoRows : {S : Type 0} → (S → Option (List ℕ)) → RunBytes S → Type 0
HasNoRows written it = (rows : List ByteRow) → AllFit rows → Brings written it (run_bytes rows) → ⊥

-- the next key, if there is one, is above this one
abbrev pub IsKeyAbove : ℕ → Option Header → Type 0
IsKeyAbove key None = ⊤
IsKeyAbove key (Some next) = key < next.key
