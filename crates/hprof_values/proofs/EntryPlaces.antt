-- Where so many entries end, or which of them stops them: both are what their tests answer.
use Rattle.std.proofs.Common.{◌≡◌, ℕ, zero, suc, ◌<◌, ◌≤◌, inl, inr, List, length, drop, Ok, Err, refl, sym, ap, subst, ◌∙◌, arith}
use Rattle.hprof_values.specs.declared.ids.IdSize.{IdSize}
use Rattle.hprof_values.specs.declared.parse_stop.ParseStop.{ParseStop}
use Rattle.hprof_values.specs.declared.entry.EntryKind.{EntryKind}
use Rattle.hprof_values.specs.Ids.{IsBytes}
use Rattle.hprof_values.specs.FieldGroups.{Bounds, IsWithin}
use Rattle.hprof_values.specs.Entries.{entries_in, entry_end, entries_end}
use Rattle.hprof_values.specs.EntryPlaces.{EntriesLie, StopsBehind}
use Rattle.hprof_values.proofs.Numbers.{IsBytes-drop}
use Rattle.hprof_values.proofs.FieldGroups.{then_ok, then_next}
use Rattle.hprof_values.proofs.FieldStops.{then_err}
use Rattle.hprof_values.proofs.EntryLists.{length-entries}
use Rattle.hprof_values.proofs.Counting.{entries_fit}
use Rattle.hprof_values.proofs.ListEnds.{entries_passed, entries_pass, entries_stop}

-- ---- where they end

pub end_lies : (ids : IdSize) (kind : EntryKind) (bounds : Bounds) (bytes : List ℕ) (count at end : ℕ) → IsBytes bytes
    → bounds.there ≤ length bytes → IsWithin bounds at → entries_end ids kind bounds bytes count at ≡ Ok end
    → EntriesLie ids kind count bytes at end × IsWithin bounds end
end_lies ids kind bounds bytes count at end are there within e =
    let passed = entries_passed ids kind bounds bytes count at end are there within e in (
      record {
        entries = entries_in ids kind count (drop at bytes);
        fits = entries_fit ids kind count (drop at bytes) (IsBytes-drop at bytes are);
        has_count = length-entries ids kind count (drop at bytes);
        rest = drop end bytes;
        spelled = passed.0.spelled;
        ends = passed.0.ends;
      },
      passed.1,
    )

pub lies_to_end : (ids : IdSize) (kind : EntryKind) (bounds : Bounds) (bytes : List ℕ) (count at end : ℕ)
    → EntriesLie ids kind count bytes at end × IsWithin bounds end → entries_end ids kind bounds bytes count at ≡ Ok end
lies_to_end ids kind bounds bytes count at end lie =
    let lies = lie.0 in
    ap (λ (n : ℕ). entries_end ids kind bounds bytes n at) (sym lies.has_count)
    ∙ entries_pass ids kind bounds bytes lies.entries lies.rest at lies.fits lies.spelled (subst (IsWithin bounds) lies.ends lie.1)
    ∙ ap Ok (sym lies.ends)

-- ---- which of them stops them

pub stop_found : (ids : IdSize) (kind : EntryKind) (bounds : Bounds) (bytes : List ℕ) (count at : ℕ) (stop : ParseStop)
    → entries_end ids kind bounds bytes count at ≡ Err stop → StopsBehind ids kind bounds bytes count at stop
stop_found ids kind bounds bytes zero at stop e = absurd cc
stop_found ids kind bounds bytes (suc count) at stop e =
    elim (then_err (entry_end ids kind bounds bytes at) (λ (end : ℕ). entries_end ids kind bounds bytes count end) stop e) [
      | inl here ↦ record { before = 0; mid = at; less = omega arith; passed = refl; stops = here }
      | inr later ↦
          let found = stop_found ids kind bounds bytes count later.0 stop later.2 in
          record {
            before = suc found.before;
            mid = found.mid;
            less = omega (arith, found.less);
            passed = then_next (entry_end ids kind bounds bytes at) (λ (end : ℕ). entries_end ids kind bounds bytes found.before end)
                later.0 later.1 ∙ found.passed;
            stops = found.stops;
          }
    ]

stop_behind : (ids : IdSize) (kind : EntryKind) (bounds : Bounds) (bytes : List ℕ) (before count at mid : ℕ) (stop : ParseStop)
    → before < count
    → entries_end ids kind bounds bytes before at ≡ Ok mid → entry_end ids kind bounds bytes mid ≡ Err stop
    → entries_end ids kind bounds bytes count at ≡ Err stop
stop_behind ids kind bounds bytes zero count at mid stop less passed stops =
    let same : mid ≡ at = cc in
    entries_stop ids kind bounds bytes count at stop less (ap (entry_end ids kind bounds bytes) (sym same) ∙ stops)
stop_behind ids kind bounds bytes (suc before) zero at mid stop less passed stops = absurd (omega arith)
stop_behind ids kind bounds bytes (suc before) (suc count) at mid stop less passed stops =
    let first = then_ok (entry_end ids kind bounds bytes at) (λ (end : ℕ). entries_end ids kind bounds bytes before end) mid passed in
    then_next (entry_end ids kind bounds bytes at) (λ (end : ℕ). entries_end ids kind bounds bytes count end) first.0 first.1
    ∙ stop_behind ids kind bounds bytes before count first.0 mid stop (omega arith) first.2 stops

pub stops_behind : (ids : IdSize) (kind : EntryKind) (bounds : Bounds) (bytes : List ℕ) (count at : ℕ) (stop : ParseStop)
    → StopsBehind ids kind bounds bytes count at stop → entries_end ids kind bounds bytes count at ≡ Err stop
stops_behind ids kind bounds bytes count at stop behind =
    stop_behind ids kind bounds bytes behind.before count at behind.mid stop behind.less behind.passed behind.stops
