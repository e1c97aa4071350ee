-- What is saved of parts comes to one thing.
use Rattle.std.proofs.Common.{◌≡◌, ℕ, ◌≤◌, List, [], ◌∷◌, map, Option, Result, Ok, Err, refl, sym, ap, subst, ◌∙◌, arith}
use Rattle.std.specs.List.{AllByRecursion}
use Rattle.hprof_values.specs.declared.ids.IdSize.{IdSize}
use Rattle.hprof_values.specs.declared.ids.IdSize.TheVariants.{Four}
use Rattle.hprof_items.specs.declared.header.Header.{Header}
use Rattle.hprof_items.specs.FactValue.{FactValue}
use Rattle.hprof_stream.specs.Fault.{StatesSoFar}
use Rattle.hprof_stream.proofs.Faults.{states_once}
use Rattle.hprof_rows.specs.declared.key.Key.{Key}
use Rattle.hprof_rows.specs.HeapValue.{HeapValue}
use Rattle.hprof_rows.proofs.Conflicts.{one_least, no_conflict}
use Rattle.hprof_rows.proofs.FactSets.{SameFacts-sym, SameFacts-trans}
use Rattle.hprof_rows.proofs.Order.{one_order}
use Rattle.hprof_heap.specs.declared.standing.Refusal.{Refusal}
use Rattle.hprof_heap.specs.declared.standing.Refusal.TheVariants as refusals
use Rattle.hprof_heap.specs.Gathering.{Given, all_given, Tells}
use Rattle.hprof_heap.specs.State.{IsLeastOf}
use Rattle.hprof_heap.proofs.Least.{no_least}
use Rattle.hprof_engine.proofs.PartByPart.{holds_of}
use Rattle.hprof_engine.specs.Saved.{Saved, IsSaved, given_with, given_of, SavesTo}

-- ---- what is given

-- the same bytes give the same
given_once : (longest : ℕ) (saved others : List Saved) → map (λ one. one.bytes) saved ≡ map (λ one. one.bytes) others
    → AllByRecursion (IsSaved longest) saved → AllByRecursion (IsSaved longest) others → given_of saved ≡ given_of others
given_once longest [] [] e each each_too = refl
given_once longest [] (other ∷ others) e each each_too = absurd cc
given_once longest (one ∷ saved) [] e each each_too = absurd cc
given_once longest (one ∷ saved) (other ∷ others) e each each_too =
    let bytes : one.bytes ≡ other.bytes = cc in
    let behind : map (λ (s : Saved). s.bytes) saved ≡ map (λ (s : Saved). s.bytes) others = cc in
    let same = states_once longest other.bytes one.header other.header one.facts other.facts
    (subst (λ (b : List ℕ). StatesSoFar longest b one.header one.facts) bytes each.0) each_too.0 in
    ap (λ (h : Option Header). given_with h one.facts (given_of saved)) same.0
    ∙ ap (λ (fs : List FactValue). given_with other.header fs (given_of saved)) same.1
    ∙ ap (given_with other.header other.facts) (given_once longest saved others behind each.1 each_too.1)

-- ---- what it comes to

least_once : (numbers : List ℕ) (least other : ℕ) → IsLeastOf numbers least → IsLeastOf numbers other → least ≡ other
least_once numbers least other is is_too =
    let up : least ≤ other = holds_of (λ (n : ℕ). least ≤ n) numbers other is.is_least is_too.is_one in
    let down : other ≤ least = holds_of (λ (n : ℕ). other ≤ n) numbers least is_too.is_least is.is_one in
    omega (arith, up, down)

-- some parts have one size
size_once : (given : List Given) (ids other : IdSize) (least : ℕ) → AllByRecursion (λ part. part.header.ids ≡ ids) given
    → AllByRecursion (λ part. part.header.ids ≡ other) given → IsLeastOf (map (λ part. part.header.millis) given) least → ids ≡ other
size_once [] ids other least sizes sizes_too is = absurd (no_least least is)
size_once (part ∷ given) ids other least sizes sizes_too is = sym sizes.0 ∙ sizes_too.0

heap_once : (given : List Given) (one other : HeapValue) → Tells given (Ok one) → Tells given (Ok other) → one ≡ other
heap_once given one other tells tells_too =
    let ids = size_once given one.ids other.ids one.millis tells.0 tells_too.0 tells.1 in
    let millis = least_once (map (λ part. part.header.millis) given) one.millis other.millis tells.1 tells_too.1 in
    let facts = one_order one.facts other.facts tells.4.ordered tells_too.4.ordered (SameFacts-trans one.facts (all_given given) other.facts
    tells.3 (SameFacts-sym other.facts (all_given given) tells_too.3)) in
    ap (λ (i : IdSize). record { ids = i; millis = one.millis; facts = one.facts }) ids
    ∙ ap (λ (m : ℕ). record { ids = other.ids; millis = m; facts = one.facts }) millis
    ∙ ap (λ (fs : List FactValue). record { ids = other.ids; millis = other.millis; facts = fs }) facts

some_given : (given : List Given) (heap : HeapValue) → Tells given (Ok heap) → given ≡ [] → ⊥
some_given [] heap tells none = no_least heap.millis tells.1
some_given (part ∷ given) heap tells none = cc

-- of no parts none has another size
sizes_of_none : (given : List Given) → given ≡ [] → AllByRecursion (λ part. part.header.ids ≡ Four) given
sizes_of_none [] none = tt
sizes_of_none (part ∷ given) none = absurd cc

heap_or_conflict : (given : List Given) (heap : HeapValue) (key : Key) → Tells given (Ok heap)
    → Tells given (Err (refusals.Conflict key)) → ⊥
heap_or_conflict given heap key tells conflict = no_conflict (all_given given) key tells.2 conflict.2.conflict

tells_once : (given : List Given) (one other : Result HeapValue Refusal) → Tells given one → Tells given other → one ≡ other
tells_once given (Ok one) (Ok other) tells tells_too = ap (λ (h : HeapValue). Ok h) (heap_once given one other tells tells_too)
tells_once given (Ok heap) (Err refusals.NoParts) tells none = absurd (some_given given heap tells none)
tells_once given (Ok heap) (Err refusals.IdSizes) tells two = absurd (two heap.ids tells.0)
tells_once given (Ok heap) (Err (refusals.Conflict key)) tells conflict = absurd (heap_or_conflict given heap key tells conflict)
tells_once given (Err refusals.NoParts) (Ok heap) none tells = absurd (some_given given heap tells none)
tells_once given (Err refusals.NoParts) (Err refusals.NoParts) none none_too = refl
tells_once given (Err refusals.NoParts) (Err refusals.IdSizes) none two = absurd (two Four (sizes_of_none given none))
tells_once given (Err refusals.NoParts) (Err (refusals.Conflict key)) none conflict = absurd (conflict.1 none)
tells_once given (Err refusals.IdSizes) (Ok heap) two tells = absurd (two heap.ids tells.0)
tells_once given (Err refusals.IdSizes) (Err refusals.NoParts) two none = absurd (two Four (sizes_of_none given none))
tells_once given (Err refusals.IdSizes) (Err refusals.IdSizes) two two_too = refl
tells_once given (Err refusals.IdSizes) (Err (refusals.Conflict key)) two conflict = absurd (two conflict.0.0 conflict.0.1)
tells_once given (Err (refusals.Conflict key)) (Ok heap) conflict tells = absurd (heap_or_conflict given heap key tells conflict)
tells_once given (Err (refusals.Conflict key)) (Err refusals.NoParts) conflict none = absurd (conflict.1 none)
tells_once given (Err (refusals.Conflict key)) (Err refusals.IdSizes) conflict two = absurd (two conflict.0.0 conflict.0.1)
tells_once given (Err (refusals.Conflict key)) (Err (refusals.Conflict other)) conflict conflict_too =
    ap (λ (k : Key). Err (refusals.Conflict k)) (one_least (all_given given) key other conflict.2 conflict_too.2)
tells_once given (Err refusals.Failed) other failed tells = absurd failed
tells_once given one (Err refusals.Failed) tells failed = absurd failed

-- what is saved of parts comes to one thing
pub saves_once : (longest : ℕ) (parts : List (List ℕ)) (one other : Result HeapValue Refusal) → SavesTo longest parts one
    → SavesTo longest parts other → one ≡ other
saves_once longest parts one other saves saves_too =
    let are = saves.saved in
    let are_too = saves_too.saved in
    let same = given_once longest are.saved are_too.saved (are.of_parts ∙ sym are_too.of_parts) are.each are_too.each in
    let given : saves.given ≡ saves_too.given = sym are.has_given ∙ same ∙ are_too.has_given in
    tells_once saves_too.given one other (subst (λ (gs : List Given). Tells gs one) given saves.tells) saves_too.tells
