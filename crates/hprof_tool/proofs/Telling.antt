-- What is told of a refusal, and of the faults of parts.
use Rattle.std.proofs.Common.{◌≡◌, ℕ, zero, suc, List, [], ◌∷◌, ◌++◌, take, Option, Some, Result, Ok, Err, refl, sym, ap, subst}
use Rattle.std.proofs.Common.{append_assoc, ◌∙◌, ◌+◌, ◌<◌}
use Rattle.std.proofs.Common.{length, get_or, add-one, arith}
use Rattle.std.specs.Prelude.{slice_get, codes, decimal}
use Rattle.std.specs.Io.KnownBytes.{Appends, Keeps}
use Rattle.std.proofs.KnownBytes.{Appends-kept}
use Rattle.std.proofs.Math.Seq.{take-length}
use Rattle.std.proofs.lemmas.Option.{slice_get-get_or}
use Rattle.hprof_devices.specs.declared.health.WriteFault.{WriteFault}
use Rattle.hprof_devices.specs.Device.{Writes}
use Rattle.hprof_devices.proofs.Writes.{WritesFront-more, WritesFront-then}
use Rattle.hprof_engine.specs.declared.tool_fault.ToolFault.TheVariants as tool
use Rattle.hprof_engine.specs.FaultText.{IsFaultText}
use Rattle.hprof_engine.specs.declared.salvaged.FaultedPart.{FaultedPart}
use Rattle.hprof_tool.specs.Telling.{TellsFaults, TellsFront, TellsSomeFaults, line_end}

-- one fault more is told
pub told_more : (faults : List FaultedPart) (index : ℕ) (fault : FaultedPart) (text line : List ℕ) → slice_get faults index ≡ Some fault
    → TellsFaults (take index faults) text → IsFaultText (tool.Part fault.index fault.fault) line
    → TellsFaults (take (suc index) faults) (text ++ (line ++ line_end ∷ []))
told_more [] index fault text line at told is = absurd cc
told_more (first ∷ faults) zero fault text line at told is =
    let same : first ≡ fault = cc in rw (same, told) (line, [], is, refl, refl)
told_more (first ∷ faults) (suc index) fault text line at told is = (
  told.0,
  told.1 ++ (line ++ line_end ∷ []),
  told.2,
  ap (λ (t : List ℕ). t ++ (line ++ line_end ∷ [])) told.3 ∙ append_assoc told.0 (line_end ∷ told.1) (line ++ line_end ∷ []),
  told_more faults index fault told.1 line at told.4 is,
)

-- the same, of the fault that stands at that place
pub told_at : (faults : List FaultedPart) (index : ℕ) (default : FaultedPart) (text line : List ℕ) → index < length faults
    → TellsFaults (take index faults) text
    → IsFaultText (tool.Part (get_or faults index default).index (get_or faults index default).fault) line
    → TellsFaults (take (index + 1) faults) (text ++ (line ++ line_end ∷ []))
told_at faults index default text line within told is =
    subst (λ (n : ℕ). TellsFaults (take n faults) (text ++ (line ++ line_end ∷ []))) (sym (add-one index))
    (told_more faults index (get_or faults index default) text line (slice_get-get_or faults index default within) told is)

-- ---- fronts

-- what was written of the bytes is a front of them
pub front_of : {A : Type 0} (old new : Option (List ℕ)) (written : Result A WriteFault) (bytes : List ℕ) → Writes old new written bytes
    → TellsFront bytes old new
front_of old new (Ok x) bytes writes = (length bytes, omega arith, subst (Appends old new) (sym (take-length bytes)) writes)
front_of old new (Err fault) bytes writes = writes

-- some text tells the faults
pub some_told : (faults : List FaultedPart) → (text : List ℕ) × TellsFaults faults text
some_told [] = ([], refl)
some_told (fault ∷ faults) =
    let rest = some_told faults in
    let line : List ℕ = codes "part " ++ (decimal fault.index ++ (codes ": " ++ [])) in
    (line ++ line_end ∷ rest.0, (line, rest.0, ([], refl), refl, rest.1))

-- a text tells them that goes on behind the faults so far, and the line of the next one
record GoesOn (faults : List FaultedPart) (front : List ℕ) : Type 0 where
  pub rest : List ℕ
  pub tells : TellsFaults faults (front ++ rest)

goes_on : (faults : List FaultedPart) (index : ℕ) (fault : FaultedPart) (text line : List ℕ) → slice_get faults index ≡ Some fault
    → TellsFaults (take index faults) text → IsFaultText (tool.Part fault.index fault.fault) line
    → GoesOn faults (text ++ (line ++ line_end ∷ []))
goes_on [] index fault text line at told is = absurd cc
goes_on (first ∷ faults) zero fault text line at told is =
    let same : first ≡ fault = cc in
    let rest = some_told faults in
    record { rest = rest.0; tells = rw (same, told) (line, rest.0, is, append_assoc line (line_end ∷ []) rest.0, rest.1) }
goes_on (first ∷ faults) (suc index) fault text line at told is =
    let on = goes_on faults index fault told.1 line at told.4 is in
    let next = line ++ line_end ∷ [] in
    record {
      rest = on.rest;
      tells = (
        told.0,
        (told.1 ++ next) ++ on.rest,
        told.2,
        ap (λ (t : List ℕ). (t ++ next) ++ on.rest) told.3
            ∙ ap (λ (t : List ℕ). t ++ on.rest) (append_assoc told.0 (line_end ∷ told.1) next)
            ∙ append_assoc told.0 (line_end ∷ (told.1 ++ next)) on.rest,
        on.tells,
      );
    }

-- the faults so far were told, and of the line of the next one a front
pub stopped_at : (faults : List FaultedPart) (index : ℕ) (default : FaultedPart) (text line : List ℕ) (old mid new : Option (List ℕ))
    → index < length faults → TellsFaults (take index faults) text → Appends old mid text
    → IsFaultText (tool.Part (get_or faults index default).index (get_or faults index default).fault) line
    → TellsFront (line ++ line_end ∷ []) mid new → TellsSomeFaults faults old new
stopped_at faults index default text line old mid new within told written is front =
    let on = goes_on faults index (get_or faults index default) text line (slice_get-get_or faults index default within) told is in
    let next = line ++ line_end ∷ [] in (
      (text ++ next) ++ on.rest,
      on.tells,
      WritesFront-more old new (text ++ next) on.rest (WritesFront-then old mid new text next written
          front),
    )

-- all faults were told, and then the stream kept what it held
pub told_and_kept : (faults : List FaultedPart) (text : List ℕ) (old mid new : Option (List ℕ)) → TellsFaults faults text
    → Appends old mid text → Keeps mid new → TellsSomeFaults faults old new
told_and_kept faults text old mid new told written kept = (
  text,
  told,
  (length text, omega arith, subst (Appends old new) (sym (take-length text)) (Appends-kept old mid new text written kept)),
)
