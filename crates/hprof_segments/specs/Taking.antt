-- What was written of the sub-records that a writer took, and what it holds.
use Rattle.std.specs.Prelude.{◌≡◌, ℕ, List, [], ◌∷◌, ◌++◌, Option, Result, Ok, Err}
use Rattle.std.specs.List.{flat_map}
use Rattle.std.specs.Io.KnownBytes.{Appends}
use Rattle.hprof_devices.specs.declared.health.WriteFault.{WriteFault}
use Rattle.hprof_devices.specs.Device.{Writes}
use Rattle.hprof_items.specs.Head.{record_bytes}
use Rattle.hprof_segments.specs.ByteSegments.{joined, byte_segments, segments_behind, segment_record, segment_records}

-- a writer took these sub-records: it wrote all of their segments but the last, into which more may go, and holds that one
--   start: what the target held before the first of them;  now: what it holds now;  held: the bytes that the writer holds
pub record HasTaken (start now : Option (List ℕ)) (held : List ℕ) (subs : List (List ℕ)) : Type 0 where
  -- the segments that were written, and the sub-records of the one that is held
  pub sent : List (List (List ℕ))
  pub begun : List (List ℕ)
  -- whatever follows, the segments of all are those that were written, and then the one that is held goes on
  pub segments : (more : List (List ℕ)) → byte_segments (subs ++ more) ≡ sent ++ segments_behind begun more
  pub appended : Appends start now (flat_map segment_record sent)
  pub holds : held ≡ joined begun
  pub none : held ≡ [] → begun ≡ []

-- how taking one more ends: it was taken behind the others; or, whatever would have followed, a prefix of the records of all was written
abbrev pub EndsTaking : (start now : Option (List ℕ)) (held : List ℕ) (subs : List (List ℕ)) (sub : List ℕ) → Result (Unit {0}) WriteFault
    → Type 0
EndsTaking start now held subs sub (Ok done) = HasTaken start now held (subs ++ sub ∷ [])
EndsTaking start now held subs sub (Err fault) =
    (more : List (List ℕ)) → Writes {A = Unit {0}} start now (Err fault) (segment_records (subs ++ sub ∷ more))

-- the record of the segment that is held, if one is
abbrev pub held_record : List ℕ → List ℕ
held_record [] = []
held_record (first ∷ others) = record_bytes 0x1c 0 (first ∷ others)
