-- What a read leaves of the bytes from an offset on.
use Rattle.std.proofs.Common.{◌≡◌, ◌+◌, ◌<◌, ◌≤◌, ℕ, List, [], ◌++◌, length, take, drop, Option, Some, None, sym, ap, ◌∙◌, arith}
use Rattle.std.specs.Io.KnownBytes.{Consumes, IsAtEnd}
use Rattle.std.proofs.lemmas.List.{take-append-drop, drop-drop}
use Rattle.std.proofs.Math.ListN.{drop_of_length-le}
use Rattle.hprof_runs.specs.ReadBack.{ReadsBack}
use Rattle.hprof_handles.specs.HandleAt.{rest_at}

-- so many bytes fewer
pub rest_consumed : (bytes : Option (List ℕ)) (at count : ℕ) (piece : List ℕ) → ReadsBack bytes at count piece
    → Consumes (rest_at bytes at) (rest_at bytes (at + count)) (take count piece)
rest_consumed None at count piece reads = tt
rest_consumed (Some bytes) at count piece reads =
    sym (take-append-drop count (drop at bytes)) ∙ ap (λ (l : List ℕ). l ++ drop count (drop at bytes)) (sym reads.same)
    ∙ ap (λ (l : List ℕ). take count piece ++ l) (drop-drop count at bytes)

-- none only at the end
pub rest_ended : (bytes : Option (List ℕ)) (at count : ℕ) (piece : List ℕ) → ReadsBack bytes at count piece → count ≡ 0 → 0 < length piece
    → IsAtEnd (rest_at bytes (at + count))
rest_ended None at count piece reads none some = tt
rest_ended (Some bytes) at count piece reads none some = drop_of_length-le bytes (omega (arith, reads.end none some))
