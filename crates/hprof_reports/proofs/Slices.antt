-- Loops over a slice that write each of its elements.
use Rattle.std.proofs.Common.{◌≡◌, ℕ, ◌+◌, ◌<◌, ◌≤◌, List, Option, Result, Err, length, get_or, drop, subst}
use Rattle.std.specs.Io.KnownBytes.{Appends}
use Rattle.std.specs.List.{flat_map}
use Rattle.std.proofs.lemmas.List.{drop_all}
use Rattle.hprof_devices.specs.declared.health.WriteFault.{WriteFault}
use Rattle.hprof_devices.specs.Device.{Writes}
use Rattle.hprof_devices.proofs.Writes.{WritesFront}
use Rattle.hprof_rows.proofs.Tables.{drop_from}
use Rattle.hprof_devices.proofs.OneByOne.{Wrote, Wrote-more, Wrote-stops, Wrote-all}

module _ {A : Type 0} (bytes_of : A → List ℕ) (old mid new : Option (List ℕ)) (all : List A) (place : ℕ) where
  -- the element at the place was written
  pub slice_more : (one : A) → place < length all → Wrote bytes_of old mid all (drop place all)
      → Appends mid new (bytes_of (get_or all place one))
      → Wrote bytes_of old new all (drop (place + 1) all)
  slice_more one within w appends =
      Wrote-more bytes_of old mid new all (get_or all place one) (drop (place + 1) all)
      (subst (Wrote bytes_of old mid all) (drop_from all place one within) w) appends

  -- it stopped the writing
  pub slice_stops : {B : Type 0} (r : Result B WriteFault) (f : WriteFault) (one : A) → place < length all → r ≡ Err f
      → Wrote bytes_of old mid all (drop place all) → WritesFront mid new (bytes_of (get_or all place one))
      → Writes old new r (flat_map bytes_of all)
  slice_stops r f one within stop w writes =
      Wrote-stops bytes_of old mid new r f all (get_or all place one) (drop (place + 1) all) stop
      (subst (Wrote bytes_of old mid all) (drop_from all place one within) w) writes

-- all were written
pub slice_all : {A : Type 0} (bytes_of : A → List ℕ) (old new : Option (List ℕ)) (all : List A) (place : ℕ) → length all ≤ place
    → Wrote bytes_of old new all (drop place all)
    → Appends old new (flat_map bytes_of all)
slice_all bytes_of old new all place end w = Wrote-all bytes_of old new all (subst (Wrote bytes_of old new all) (drop_all place all end) w)
