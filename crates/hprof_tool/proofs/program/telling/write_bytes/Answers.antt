use Rattle.std.proofs.Common.{◌≡◌, ◌++◌, List, ℕ, Option, Some, None, take, drop, refl, sym, ap, ◌∙◌, take-append-drop}
use Rattle.std.specs.Io.KnownBytes.{Appends, Keeps}
use Rattle.hprof_devices.proofs.Writes.{Pushed, Pushed-more, Pushed-stopped, WritesFront}
use Rattle.hprof_tool.proofs.program.telling.write_bytes.Goals as goal

pub loop-rest-preserved : goal.loop-rest-preserved
loop-rest-preserved g c =
    let rest = c.loop-rest.rest.now in
    let count = c.in-Ok.count in
    let split : rest ≡ take count rest ++ c.split_at.result.1.now =
    sym (take-append-drop count rest) ∙ ap (λ (r : List ℕ). take count rest ++ r) (sym c.split_at.ensures.back) in
    Pushed-more _ _ _ _ rest (take count rest) c.split_at.result.1.now c.loop-rest.invariant split c.in-Ok.ensures.bytes

pub returns-in_default : goal.returns-in_default
returns-in_default g c = Pushed-stopped _ _ _ _ _ c.loop-rest.invariant c.in_default.ensures.bytes

-- what is known stays
kept : (known : Option (List ℕ)) → Keeps known known
kept None = tt
kept (Some bytes) = refl

-- nothing was taken of the piece that comes next
none_taken : (old mid new : Option (List ℕ)) (all rest : List ℕ) (count : ℕ) → Pushed old mid all rest → Appends mid new (take count rest)
    → WritesFront old new all
none_taken old mid new all rest count pushed appends = Pushed-stopped old new new all (drop count rest)
    (Pushed-more old mid new all rest (take count rest) (drop count rest) pushed (sym (take-append-drop count rest)) appends) (kept new)

pub returns-then-count-eq0 : goal.returns-then-count-eq0
returns-then-count-eq0 g c = none_taken _ _ _ _ c.loop-rest.rest.now c.in-Ok.count c.loop-rest.invariant c.in-Ok.ensures.bytes
