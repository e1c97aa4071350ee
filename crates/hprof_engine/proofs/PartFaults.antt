-- With which fault a part is refused, by the bytes that its reader had to tell.
use Rattle.std.proofs.Common.{◌≡◌, inr, ℕ, ◌≤◌, Bool, true, false, List, [], ◌++◌, length, take, drop, Option, Some, None, Err, refl}
use Rattle.std.proofs.Common.{sym, ap, subst, ◌∙◌, append_assoc, append-nil, arith}
use Rattle.std.proofs.lemmas.List.{take-append-drop, length-append}
use Rattle.std.specs.Io.KnownBytes.{Consumes, IsAtEnd}
use Rattle.hprof_items.specs.declared.header.Header.{Header}
use Rattle.hprof_devices.specs.declared.health.Health.{Health}
use Rattle.hprof_values.specs.declared.reason.Reason.TheVariants.{Truncated}
use Rattle.hprof_items.specs.FactValue.{FactValue}
use Rattle.hprof_stream.specs.declared.limits.Limits.{Limits}
use Rattle.hprof_stream.specs.declared.part_fault.PartFault.{PartFault}
use Rattle.hprof_stream.specs.declared.part_fault.PartFault.TheVariants as faults
use Rattle.hprof_stream.specs.declared.sink.SinkFault.{SinkFault}
use Rattle.hprof_stream.specs.declared.sink.SinkFault.TheVariants as sinks
use Rattle.hprof_stream.specs.Part.{all_facts}
use Rattle.hprof_stream.specs.Item.{header_before}
use Rattle.hprof_stream.specs.Run.{Run}
use Rattle.hprof_stream.specs.Fault.{IsFirstFault, is_settled}
use Rattle.hprof_stream.specs.Reader.{Pulled, none, once_more, BeginsWhole, RanUpTo, ReadsPart}
use Rattle.hprof_heap.specs.Gathering.{Gathered, Given, nothing_gathered, Begins, Takes, Gathers, LacksRow, IsNewBehind}
use Rattle.hprof_heap.proofs.Told.{new_behind}
use Rattle.hprof_engine.specs.Joining.{IsPartFault, IsOfPart, none_known}
use Rattle.hprof_engine.proofs.Gathered.{Run-shown, Run-sound}
use Rattle.hprof_stream.proofs.Longer.{longer_input}

-- a settled fault of a front is one of the whole
settled_of_whole : (longest most : ℕ) (came rest : List ℕ) (fault : PartFault) → IsFirstFault longest (take most came) fault
    → is_settled fault ≡ true → IsFirstFault longest (came ++ rest) fault
settled_of_whole longest most came rest fault first settled =
    let more = longer_input longest (take most came) (drop most came ++ rest) fault first settled in
    let whole : take most came ++ (drop most came ++ rest) ≡ came ++ rest = sym (append_assoc (take most came) (drop most came) rest)
    ∙ ap (λ (b : List ℕ). b ++ rest) (take-append-drop most came) in
    subst (λ (b : List ℕ). IsFirstFault longest b fault) whole more

-- so many pulls gave a byte each
each_gave : {R : Type 0} (left : R → Option (List ℕ)) (pulls : R → ℕ) (was : R) (came : List ℕ) (count : ℕ) (is : R)
    → Pulled left pulls was came count is → count ≤ length came
each_gave left pulls was came count is none = omega arith
each_gave left pulls was came count is (once_more {came = front} {piece = piece} {count = before} {mid = mid} first pull some) =
    omega (arith, each_gave left pulls was front before mid first, some, length-append front piece)

-- what gathers parts, by what it has gathered
module _ {G : Type 0} (gathered : G → Gathered) (begins : G → Header → G → Type 0) (steps : G → FactValue → G → Type 0)
    (refuses : G → List FactValue → SinkFault → G → Type 0) (failed : G → Bool)
    (begins_parts : (old : G) (header : Header) (new : G) → begins old header new → Begins (gathered old) header (gathered new))
    (takes_facts : (old : G) (fact : FactValue) (new : G) → steps old fact new → Takes (gathered old) fact (gathered new))
    (refuses_facts : (old : G) (given : List FactValue) (fault : SinkFault) (new : G) → refuses old given fault new
    → (gathered old).failed ≡ false → (fault ≡ sinks.OutOfMemory) × LacksRow (gathered old) given) where
  -- up to an item, it ran over what was handed on, and stands as it stood
  module _ (longest : ℕ) (bytes : List ℕ) (told : Option Header) (whole : BeginsWhole longest bytes told) (old mid : G)
      (sound : (gathered old).failed ≡ false) (ran : RanUpTo begins steps whole [] None old mid) where
    shown : Run Begins Takes (gathered old) (header_before whole.before) ran.handed (gathered mid)
    shown = Run-shown gathered begins steps begins_parts takes_facts old mid (header_before whole.before) ran.handed ran.ran

    still : (gathered mid).failed ≡ false
    still = Run-sound (gathered old) (gathered mid) (header_before whole.before) ran.handed shown sound

    -- it refuses nothing but for want of memory
    no_failure : (given : List FactValue) (new : G) → refuses mid given sinks.Failed new → ⊥
    no_failure given new refused = let other : sinks.Failed ≡ sinks.OutOfMemory =
        (refuses_facts mid given sinks.Failed new refused still).0 in cc

    -- and that for a fact that is new behind those before it
    new_then : (earlier : List Given) (new : G) → Gathers nothing_gathered earlier (gathered old)
        → refuses mid whole.last.facts sinks.OutOfMemory new
        → IsNewBehind earlier (header_before whole.before) (all_facts whole.items) whole.last.facts
    new_then earlier new gathers refused =
        let fresh = new_behind earlier (header_before whole.before) ran.handed whole.last.facts (gathered old) (gathered mid)
        gathers shown (refuses_facts mid whole.last.facts sinks.OutOfMemory new refused still).1 in
        subst (λ (facts : List FactValue). IsNewBehind earlier (header_before whole.before) facts whole.last.facts)
        (sym ran.has_facts) fresh

  module _ {R : Type 0} (left : R → Option (List ℕ)) (health : R → Health) (pulls : R → ℕ) where
    -- with which fault a part is refused of which these bytes came
    pub fault_of_came : (limits : Limits) (earlier : List Given) (was : R) (came : List ℕ) (is : R) (old new : G)
        (fault : PartFault) → (gathered old).failed ≡ false → Gathers nothing_gathered earlier (gathered old)
        → ReadsPart left health pulls begins steps refuses failed limits was came is old (Err fault) new
        → IsPartFault left health pulls none_known limits earlier was came is fault
    fault_of_came limits earlier was came is old new (faults.Sink sinks.OutOfMemory) sound gathers reads =
        let item = reads.0.1 in (
          reads.0,
          inr (new_then limits.max_item (take limits.max_bytes came) item.told item.whole old reads.1.mid sound reads.1.ran earlier
              new gathers
              reads.1.refused.0),
        )
    fault_of_came limits earlier was came is old new (faults.Sink sinks.Failed) sound gathers reads =
        let item = reads.0.1 in
        absurd (no_failure limits.max_item (take limits.max_bytes came) item.told item.whole old reads.1.mid sound reads.1.ran
        item.whole.last.facts new reads.1.refused.0)
    fault_of_came limits earlier was came is old new fault sound gathers reads = reads.0

module _ {R : Type 0} (left : R → Option (List ℕ)) (health : R → Health) (pulls : R → ℕ) (TakesKnown : List FactValue → Type 0) where
  -- a fault of an item that came is the first of the whole part
  of_rest : (limits : Limits) (earlier : List Given) (was : R) (came rest : List ℕ) (is : R) (fault : PartFault) → left is ≡ Some rest
      → IsPartFault left health pulls TakesKnown limits earlier was came is fault → IsOfPart limits (came ++ rest) fault
  of_rest limits earlier was came rest is (faults.Malformed at Truncated) told why =
      let ends : rest ≡ [] = subst IsAtEnd told why.1 in
      subst (λ (b : List ℕ). IsFirstFault limits.max_item b (faults.Malformed at Truncated))
      (sym (append-nil came) ∙ ap (λ (b : List ℕ). came ++ b) (sym ends)) why.4
  of_rest limits earlier was came rest is (faults.Malformed at reason) told why =
      settled_of_whole limits.max_item limits.max_bytes came rest (faults.Malformed at reason) why.2.0 why.2.1
  of_rest limits earlier was came rest is (faults.ItemTooLong at) told why =
      settled_of_whole limits.max_item limits.max_bytes came rest (faults.ItemTooLong at) why.2.0 refl
  of_rest limits earlier was came rest is faults.ReadsExceeded told why =
      omega (arith, each_gave left pulls was came limits.max_reads is why.0, length-append came rest)
  of_rest limits earlier was came rest is faults.BytesExceeded told why = omega (arith, why.2.0, length-append came rest)
  of_rest limits earlier was came rest is fault told why = tt

  pub of_part : (limits : Limits) (earlier : List Given) (was : R) (bytes came : List ℕ) (is : R) (fault : PartFault)
      → left was ≡ Some bytes → Consumes (left was) (left is) came
      → IsPartFault left health pulls TakesKnown limits earlier was came is fault
      → IsOfPart limits bytes fault
  of_part limits earlier was bytes came is fault told consumed why = by (left is) refl
    where
      by : (rest : Option (List ℕ)) → left is ≡ rest → IsOfPart limits bytes fault
      by None e = absurd (subst (λ (l : Option (List ℕ)). Consumes l None came) told
          (subst (λ (l : Option (List ℕ)). Consumes (left was) l came) e consumed))
      by (Some rest) e =
          let whole : bytes ≡ came ++ rest = subst (λ (l : Option (List ℕ)). Consumes l (Some rest) came) told
          (subst (λ (l : Option (List ℕ)). Consumes (left was) l came) e consumed) in
          subst (λ (b : List ℕ). IsOfPart limits b fault) (sym whole) (of_rest limits earlier was came rest is fault e why)
