-- A settled fault stays, whatever follows.
use Rattle.std.proofs.Common.{◌≡◌, ℕ, true, List, ◌++◌, length, Some, refl, sym, ap, ◌∙◌, append_assoc, Result, Ok, Err}
use Rattle.hprof_values.specs.declared.reason.Reason.TheVariants.{Truncated}
use Rattle.hprof_values.specs.declared.parse_stop.ParseStop.{ParseStop}
use Rattle.hprof_values.specs.declared.parse_stop.ParseStop.TheVariants.{Short, TooLong, Fault}
use Rattle.hprof_stream.specs.declared.part_fault.PartFault.{PartFault}
use Rattle.hprof_stream.specs.declared.part_fault.PartFault.TheVariants.{Malformed}
use Rattle.hprof_stream.specs.Part.{Stated, all_bytes}
use Rattle.hprof_stream.specs.Item.{Place, Found, item_at}
use Rattle.hprof_stream.specs.Fault.{Splits, fault_at, is_settled, IsFirstFault}
use Rattle.hprof_stream.proofs.Faults.{refused_undone}
use Rattle.hprof_stream.proofs.Refusals.{item_stays, item_stays_long}

-- the same items, with more behind the rest
pub Splits-more : (longest : ℕ) (bytes extra : List ℕ) (items : List Stated) (place : Place) (rest : List ℕ)
    → Splits longest bytes items place rest → Splits longest (bytes ++ extra) items place (rest ++ extra)
Splits-more longest bytes extra items place rest is =
    record { each = is.each; parts = ap (λ (b : List ℕ). b ++ extra) is.parts ∙ append_assoc (all_bytes items) rest extra }

-- a fault whose test failed for good fails again
stays : (longest : ℕ) (place : Place) (rest extra : List ℕ) (offset : ℕ) (fault : PartFault) (step : Result (Found × ℕ) ParseStop)
    → item_at longest place rest ≡ step → fault_at offset step ≡ Some fault → is_settled fault ≡ true
    → (item_at longest place (rest ++ extra) ≡ step) × (item_at longest place (rest ++ extra) ≡ Err Short → ⊥)
stays longest place rest extra offset fault (Ok (found, n)) is fails settled = absurd cc
stays longest place rest extra offset fault (Err Short) is fails settled =
    absurd (let e : Malformed offset Truncated ≡ fault = cc in let no : is_settled (Malformed offset Truncated) ≡ true = ap is_settled e
    ∙ settled in cc)
stays longest place rest extra offset fault (Err TooLong) is fails settled =
    let again = item_stays_long longest place rest extra is in (again, λ short. cc (sym again ∙ short))
stays longest place rest extra offset fault (Err (Fault reason)) is fails settled =
    let again = item_stays longest place rest extra reason is in (again, λ short. cc (sym again ∙ short))

pub longer_input : (longest : ℕ) (bytes extra : List ℕ) (fault : PartFault) → IsFirstFault longest bytes fault → is_settled fault ≡ true
    → IsFirstFault longest (bytes ++ extra) fault
longer_input longest bytes extra fault first settled =
    let again = stays longest first.place first.rest extra (length (all_bytes first.items)) fault
    (item_at longest first.place first.rest) refl first.fails settled in
    record {
      items = first.items;
      place = first.place;
      rest = first.rest ++ extra;
      splits = Splits-more longest bytes extra first.items first.place first.rest first.splits;
      undone = refused_undone longest first.place (first.rest ++ extra) again.1;
      fails = ap (fault_at (length (all_bytes first.items))) again.0 ∙ first.fails;
    }
