-- What == says of held objects: whether they are one.
use Rattle.std.proofs.Common.{◌≡◌, ◌==◌, true, false, refl, ap}
use Rattle.std.proofs.lemmas.Bool.{eqb-true, and_parts}
use Rattle.hprof_threads.specs.declared.held.Held.{Held}
use Rattle.hprof_threads.specs.declared.held.Place.{Place}
use Rattle.hprof_threads.specs.declared.held.Place.TheVariants as places
use Rattle.hprof_threads.specs.contracts.held.HeldPartialEq.TheImpl as held_eq
use Rattle.hprof_threads.specs.contracts.held.PlacePartialEq.TheImpl as place_eq

pub place_same : (one other : Place) → (place_eq.ghosts).eq one other ≡ true → one ≡ other
place_same (places.Frame one) (places.Frame other) e = ap places.Frame (eqb-true one other e)
place_same places.NativeStack places.NativeStack e = refl
place_same places.ThreadBlock places.ThreadBlock e = refl
place_same (places.Frame one) places.NativeStack e = absurd cc
place_same (places.Frame one) places.ThreadBlock e = absurd cc
place_same places.NativeStack (places.Frame other) e = absurd cc
place_same places.NativeStack places.ThreadBlock e = absurd cc
place_same places.ThreadBlock (places.Frame other) e = absurd cc
place_same places.ThreadBlock places.NativeStack e = absurd cc

pub held_same : (one other : Held) → (held_eq.ghosts).eq one other ≡ true → one ≡ other
held_same one other e =
    let a = and_parts (one.thread == other.thread) _ e in
    let b = and_parts ((place_eq.ghosts).eq one.place other.place) _ a.1 in
    let thread : one.thread ≡ other.thread = eqb-true one.thread other.thread a.0 in
    let place : one.place ≡ other.place = place_same one.place other.place b.0 in
    let object : one.object ≡ other.object = eqb-true one.object other.object b.1 in
    λ i. record { thread = thread i; place = place i; object = object i }
