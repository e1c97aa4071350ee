use Rattle.std.proofs.Common.{◌≡◌, ℕ, refl, sym, ap, ◌∙◌}
use Rattle.std.specs.Cmp.Lexicographic.{slice_cmp}
use Rattle.std.specs.Ordering.{nat_cmp, ordering_then}
use Rattle.std.specs.declared.cmp.Ordering.{Ordering}
use Rattle.std.specs.declared.cmp.Ordering.TheVariants.{Less, Equal, Greater}
use Rattle.hprof_threads.specs.declared.held.Held.{Held}
use Rattle.hprof_threads.specs.declared.held.Place.{Place}
use Rattle.hprof_threads.specs.declared.held.Place.TheVariants as places
use Rattle.hprof_threads.specs.contracts.held.HeldOrd.TheImpl as held_ord
use Rattle.hprof_threads.specs.contracts.held.PlaceOrd.TheImpl as place_ord
use Rattle.hprof_threads.specs.HeldOrder.{frame_of_place, number_of_place, numbers_of_held}
use Rattle.hprof_threads.proofs.laws.held_in_order.Goals as goal

-- nothing behind an order
then-Equal : (a : Ordering) → ordering_then a Equal ≡ a
then-Equal Less = refl
then-Equal Equal = refl
then-Equal Greater = refl

-- the order of places, and then another
places_in_order : (place other : Place) (behind : Ordering) → ordering_then ((place_ord.ghosts).cmp place other) behind
    ≡ ordering_then (nat_cmp (number_of_place place) (number_of_place other))
    (ordering_then (nat_cmp (frame_of_place place) (frame_of_place other)) behind)
places_in_order (places.Frame frame) (places.Frame other) behind = refl
places_in_order (places.Frame frame) places.NativeStack behind = refl
places_in_order (places.Frame frame) places.ThreadBlock behind = refl
places_in_order places.NativeStack (places.Frame other) behind = refl
places_in_order places.NativeStack places.NativeStack behind = refl
places_in_order places.NativeStack places.ThreadBlock behind = refl
places_in_order places.ThreadBlock (places.Frame other) behind = refl
places_in_order places.ThreadBlock places.NativeStack behind = refl
places_in_order places.ThreadBlock places.ThreadBlock behind = refl

in_order : (held other : Held) → (held_ord.ghosts).cmp held other ≡ slice_cmp nat_cmp (numbers_of_held held) (numbers_of_held other)
in_order held other =
    ap (ordering_then (nat_cmp held.thread other.thread)) (places_in_order held.place other.place (nat_cmp held.object other.object)
    ∙ sym (ap (λ (o : Ordering). ordering_then (nat_cmp (number_of_place held.place) (number_of_place other.place))
    (ordering_then (nat_cmp (frame_of_place held.place) (frame_of_place other.place)) o)) (then-Equal (nat_cmp held.object other.object))))

pub returns : goal.returns
returns c = in_order
