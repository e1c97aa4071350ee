-- Rows whose bytes lie among others.
use Rattle.std.specs.Prelude.{◌≡◌, ◌≤◌, ◌+◌, ◌++◌, ◌/◌, ℕ, List, [], ◌∷◌, nat_lt, if◌then◌else◌, length, map, drop, take}
use Rattle.std.specs.Int.{w64, from_be_bytes, to_be_bytes}
use Rattle.std.specs.Coded.{le_prop}
use Rattle.std.specs.List.{AllByRecursion, flat_map}
use Rattle.std.proofs.Props.{props}
use Rattle.hprof_byte_tables.specs.declared.framed_rows.Span.{Span}

-- what a row of bytes says is the bytes, as they are
abbrev pub the_bytes : List ℕ → List ℕ
the_bytes bytes = bytes

-- how a length is spelled: in one byte where it is below 255, else as the byte 255 and eight bytes more, the highest of them first
unfoldable pub length_bytes : ℕ → List ℕ
length_bytes count = if nat_lt count 255 then count ∷ [] else 255 ∷ to_be_bytes w64 count

-- bytes with their length in front
abbrev pub framed : List ℕ → List ℕ
framed bytes = length_bytes (length bytes) ++ bytes

-- the length that is spelled in eight bytes
unfoldable pub long_length : List ℕ → ℕ
long_length bytes = from_be_bytes w64 (take 8 bytes)

-- the length that stands in front
unfoldable pub front_length : List ℕ → ℕ
front_length [] = 0
front_length (first ∷ bytes) = if nat_lt first 255 then first else long_length bytes

-- how many bytes spell it
unfoldable pub front_width : List ℕ → ℕ
front_width [] = 1
front_width (first ∷ bytes) = if nat_lt first 255 then 1 else 9

-- so many bytes are there
abbrev pub HasFrontRow : List ℕ → Type 0
HasFrontRow bytes = front_width bytes + front_length bytes ≤ length bytes

-- the bytes whose length stands in front of them
abbrev pub front_row : List ℕ → List ℕ
front_row bytes = take (front_length bytes) (drop (front_width bytes) bytes)

-- the bytes of the row that lies at a span
abbrev pub lying : List ℕ → Span → List ℕ
lying bytes span = front_row (drop span.start bytes)

-- rows with the bytes that lie at their spans
abbrev pub rows_lying : List ℕ → List (ℕ × Span) → List (ℕ × List ℕ)
rows_lying bytes rows = map (λ row. (row.0, lying bytes row.1)) rows

-- the bytes of rows with their lengths in front, one row after the other
abbrev pub row_bytes : List (ℕ × List ℕ) → List ℕ
row_bytes rows = flat_map (λ row. framed row.1) rows

-- a row lies there
abbrev pub IsSpanOf : List ℕ → Span → Type 0
IsSpanOf bytes span = HasFrontRow (drop span.start bytes)

abbrev pub AreSpansOf : List ℕ → List (ℕ × Span) → Type 0
AreSpansOf bytes rows = AllByRecursion (λ row. IsSpanOf bytes row.1) rows

-- the bytes are others with more behind them
abbrev pub IsBehind : List ℕ → List ℕ → Type 0
IsBehind old new = (more : List ℕ) × (new ≡ old ++ more)

-- how many bytes there is more room for than is needed, behind so many: as many again, or an eighth of many
abbrev pub spare_behind : ℕ → ℕ
spare_behind count = if nat_lt count 268435456 then count else count / 8

-- it has at most one proof
pub AreSpansOf-prop : (bytes : List ℕ) (rows : List (ℕ × Span)) → IsProp (AreSpansOf bytes rows)
AreSpansOf-prop bytes rows = hlevel (props, le_prop)
