-- The room for a piece.
use Rattle.std.proofs.Common.{◌≡◌, ℕ, ◌+◌, ◌-◌, ◌<◌, ◌≤◌, min, List, [], ◌++◌, length, take, drop}
use Rattle.std.proofs.Common.{sym, ap, ◌∙◌, arith}
use Rattle.std.proofs.Math.Seq.{take-append-add}
use Rattle.std.proofs.lemmas.List.{length-append, length-take, length-drop, take_min, take_all}
use Rattle.hprof_items.specs.FactValue.{FactValue}
use Rattle.hprof_stream.specs.declared.limits.Limits.{Limits}
use Rattle.hprof_stream.specs.declared.part_reader.PartReader.{PartReader}
use Rattle.hprof_stream.specs.Part.{all_bytes}
use Rattle.hprof_stream.specs.Progress.{place_of}
use Rattle.hprof_stream.specs.Rest.{rest_len}
use Rattle.hprof_stream.specs.Reader.{HasRead}
use Rattle.hprof_stream.proofs.Feeding.{rest_len_is}

-- ---- the room for a piece

-- as many bytes as there were are those of the items and those of the item that is not whole
pub read_length : (limits : Limits) (bytes : List ℕ) (facts : List FactValue) (reader : PartReader) → HasRead limits bytes facts reader
    → length bytes ≡ reader.progress.at + rest_len reader.rest
read_length limits bytes facts reader read =
    omega (
      arith,
      read.offset,
      ap length read.splits.parts,
      length-append (all_bytes read.items) read.unfinished,
      rest_len_is limits.max_item (place_of reader.progress) read.unfinished reader.rest read.keeps,
    )

-- as many bytes of a piece as there is room for
pub taken_is : (limit : ℕ) (bytes piece : List ℕ) → length bytes ≤ limit
    → take limit (bytes ++ piece) ≡ bytes ++ take (limit - length bytes) piece
taken_is limit bytes piece within =
    let split : limit ≡ length bytes + (limit - length bytes) = omega arith in
    ap (λ (n : ℕ). take n (bytes ++ piece)) split ∙ take-append-add bytes piece (limit - length bytes)

-- what is taken of a piece is within the limit, and nothing of a piece that has nothing
pub taken_within : (limit : ℕ) (bytes piece taken : List ℕ) → bytes ++ taken ≡ take limit (bytes ++ piece)
    → length bytes + length taken ≤ limit
taken_within limit bytes piece taken e = omega (arith, ap length e, length-append bytes taken, length-take limit (bytes ++ piece))

pub some_of_taken : (limit : ℕ) (bytes piece taken : List ℕ) → bytes ++ taken ≡ take limit (bytes ++ piece) → 0 < length taken
    → 0 < length piece
some_of_taken limit bytes piece taken e some =
    omega (arith, some, ap length e, length-append bytes taken, length-append bytes piece, length-take limit (bytes ++ piece))

-- how many bytes more there may be
abbrev pub room_of : PartReader → ℕ
room_of reader = reader.progress.limits.max_bytes - reader.progress.at - rest_len reader.rest

max_bytes_of : (limits : Limits) (bytes : List ℕ) (facts : List FactValue) (reader : PartReader) → HasRead limits bytes facts reader
    → reader.progress.limits.max_bytes ≡ limits.max_bytes
max_bytes_of limits bytes facts reader read = ap (λ (l : Limits). l.max_bytes) read.has_limits

-- a reader takes as many bytes as there is room for
pub taken_whole : (limits : Limits) (bytes piece taken : List ℕ) (facts : List FactValue) (reader : PartReader) (count : ℕ)
    → HasRead limits bytes facts reader → count ≡ min (room_of reader) (length piece) → taken ≡ take count piece
    → bytes ++ taken ≡ take limits.max_bytes (bytes ++ piece)
taken_whole limits bytes piece taken facts reader count read is e =
    let room : ℕ = limits.max_bytes - length bytes in
    let same : count ≡ min room (length piece) =
    omega (arith, is, read_length limits bytes facts reader read, max_bytes_of limits bytes facts reader read) in
    ap (λ (t : List ℕ). bytes ++ t) (e ∙ ap (λ (n : ℕ). take n piece) same ∙ take_min room piece)
    ∙ sym (taken_is limits.max_bytes bytes piece read.within)

-- where it leaves some, there are more than the limit
pub taken_some : (limits : Limits) (bytes piece : List ℕ) (facts : List FactValue) (reader : PartReader) (count : ℕ)
    → HasRead limits bytes facts reader → count ≡ min (room_of reader) (length piece) → count < length piece
    → limits.max_bytes < length (bytes ++ piece)
taken_some limits bytes piece facts reader count read is lt =
    omega (
      arith,
      is,
      lt,
      read_length limits bytes facts reader read,
      max_bytes_of limits bytes facts reader read,
      read.within,
      length-append bytes piece,
    )

-- where it leaves none, there are no more than the limit
pub taken_all : (limits : Limits) (bytes piece : List ℕ) (facts : List FactValue) (reader : PartReader) (count : ℕ)
    → HasRead limits bytes facts reader → count ≡ min (room_of reader) (length piece) → length piece ≤ count
    → length (bytes ++ piece) ≤ limits.max_bytes
taken_all limits bytes piece facts reader count read is le =
    omega (
      arith,
      is,
      le,
      read_length limits bytes facts reader read,
      max_bytes_of limits bytes facts reader read,
      read.within,
      length-append bytes piece,
    )

-- and then it takes the whole piece
pub takes_all : (piece taken excess : List ℕ) (count : ℕ) → taken ≡ take count piece → excess ≡ drop count piece → excess ≡ []
    → (length piece ≤ count) × (taken ≡ piece)
takes_all piece taken excess count front back nothing =
    let le : length piece ≤ count = omega (arith, ap length nothing, ap length back, length-drop count piece) in
    (le, front ∙ take_all count piece le)
