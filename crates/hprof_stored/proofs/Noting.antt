-- A sink that is told a place.
use Rattle.std.proofs.Common.{◌≡◌, ℕ, true, false, List, ◌++◌, Option, Some, None, sym, append-nil}
use Rattle.hprof_items.specs.declared.header.Header.{Header}
use Rattle.hprof_items.specs.FactValue.{FactValue}
use Rattle.hprof_devices.specs.declared.health.Health.{Health}
use Rattle.hprof_stream.specs.declared.limits.Limits.{Limits}
use Rattle.hprof_stream.specs.declared.part_place.PartPlace.{PartPlace}
use Rattle.hprof_stream.specs.PartPlaces.{IsPlaceBehind}
use Rattle.hprof_objects.specs.declared.object_log.ObjectLog.{ObjectLog}
use Rattle.hprof_objects.specs.Log.{HasLogged, IsPlaceNow}
use Rattle.hprof_objects.specs.PartsRead.{PartRead, with_bytes}
use Rattle.hprof_values.specs.declared.ids.IdSize.{IdSize}
use Rattle.hprof_stored.specs.Holding.{Earlier, HoldsStored}
use Rattle.hprof_stored.specs.Storing.{Storing}

-- a place behind all facts that were taken
place_now : (limits : Limits) (ids : IdSize) (bytes more front rest : List ℕ) (facts : List FactValue) (place : PartPlace)
    → bytes ++ more ≡ front ++ rest → IsPlaceBehind limits front facts place
    → IsPlaceNow limits (record { ids = ids; bytes = bytes ++ more; facts = facts }) (Some place)
place_now limits ids bytes more front rest facts place parts behind = record {
  front = front;
  back = rest;
  told = facts;
  cuts_bytes = parts;
  cuts_facts = sym (append-nil facts);
  behind = behind;
}

module _ {S : Type 0} (written : S → Option (List ℕ)) (health : S → Health) (limits : Limits) (earlier : Earlier)
    (bytes more front rest : List ℕ) (facts : List FactValue) (place : PartPlace) (parts : bytes ++ more ≡ front ++ rest)
    (behind : IsPlaceBehind limits front facts place) (it : Storing S) where
  -- within the part the log is told
  pub noted_within : (header : Option Header) (log : ObjectLog S) → it.within ≡ true
      → HoldsStored written health limits earlier header bytes facts it
      → ((limits : Limits) (parts : List PartRead) (part : PartRead) (more : List ℕ) → HasLogged written health limits parts part it.log
      → IsPlaceNow limits (with_bytes part more) (Some place) → HasLogged written health limits parts (with_bytes part more) log)
      → HoldsStored written health limits earlier header (bytes ++ more) facts (record it { log = log })
  noted_within None log within held notes = absurd (let without = held.without in cc)
  noted_within (Some header) log within held notes = record {
    mid = held.mid;
    gathers = held.gathers;
    ran = held.ran;
    begun = held.begun;
    logs = λ told. notes limits earlier.reads (record { ids = header.ids; bytes = bytes; facts = facts }) more (held.logs told)
        (place_now limits header.ids bytes more front rest facts place parts behind);
    number = held.number;
    within = held.within;
    sound = held.sound;
  }

  -- before the header the place is kept
  pub noted_before : (header : Option Header) → it.within ≡ false → HoldsStored written health limits earlier header bytes facts it
      → HoldsStored written health limits earlier header (bytes ++ more) facts (record it { place = Some place })
  noted_before (Some header) without held = absurd (let within = held.within in cc)
  noted_before None without held = record {
    gathers = held.gathers;
    logs = held.logs;
    number = held.number;
    place = λ ids. place_now limits ids bytes more front rest facts place parts behind;
    without = held.without;
    sound = held.sound;
  }
