use Rattle.std.proofs.Common.{ℕ, List, subst, sym}
use Rattle.std.specs.Prelude.{Contains}
use Rattle.hprof_heap.specs.Classes.{ClassValue, HasDump}
use Rattle.hprof_heap.specs.HeapFacts.{facts_of, size_of}
use Rattle.hprof_keeps.proofs.PlacesTaken.{alone_same, with_alone}
use Rattle.hprof_keeps.proofs.chosen_over.with_classes.Goals as goal

pub returns-in-Ok-push_classes : goal.returns-in-Ok-push_classes
returns-in-Ok-push_classes g c = λ choice are. (
  c.in_ok-small.ensures.0,
  λ all make.
      let ids = size_of c.args.heap.now in
      let facts = facts_of c.args.heap.now in
      let whole = g.met.O.Objects.whole c.args.objects.now ids facts all make in
      let small = c.in_ok-small.small in
      let is = (c.in_ok-small.ensures.1 all make).facts in
      let wanted = c.deref.result.now in
      let has = subst (λ (l : List ℕ). (dump : ClassValue) → HasDump facts dump → Contains l dump.id) (sym c.deref.ensures.value)
      c.in-Ok.ensures.has in
      with_alone ids wanted facts all (facts_of small) whole is has c.args.retained.now choice c.push_classes.new.places.items
      (c.in-Ok-push_classes.ensures all choice
      (λ node alone. ((alone_same ids wanted facts all (facts_of small) whole is has node).0 alone).3) (are all make)),
)
