use Rattle.std.proofs.Common.{◌<◌, ℕ, List, Contains, length, slice_index, subst, refl}
use Rattle.std.specs.Prelude.{◌↔◌}
use Rattle.hprof_search.specs.Finds.{Follows, LeadsFrom, finds_of}
use Rattle.hprof_search.proofs.Targets.{led_more}
use Rattle.hprof_search.proofs.leading.lead_on.Goals as goal

pub loop-number-preserved : goal.loop-number-preserved
loop-number-preserved g c =
    let nodes = c.args.numbered.now.nodes.items in
    let Leads = g.S.Steps.leads c.args.steps.now nodes in
    let level = c.args.level.now in
    let index = c.loop-number.number-index in
    let number = slice_index level index in
    let was = c.loop-number.invariant in
    let stays = c.in_ok-steps_from.ensures.stays in
    let given = c.in_ok-steps_from.ensures.ok in
    let numbers = c.steps_from.new.numbers.items in
    let leads : (to : ℕ) → to < length nodes → Contains numbers to ↔ Leads (slice_index nodes number) (slice_index nodes to) = λ to below. (
      λ has. (was.stays (slice_index nodes number) (slice_index nodes to)).0 ((given to below).0 has),
      λ leads. (given to below).1 ((was.stays (slice_index nodes number) (slice_index nodes to)).1 leads),
    ) in
    let more = subst (λ (ns : List ℕ). Follows (LeadsFrom number ns) (finds_of c.loop-number.trail) (finds_of c.follow.new.trail))
    c.deref.ensures.value c.in_ok-follow.ensures in record {
      follows = led_more Leads nodes level numbers index number (finds_of c.args.trail.now) (finds_of c.loop-number.trail)
          (finds_of c.follow.new.trail) c.requires.as_many c.loop-number-test.true refl c.requires.ascend leads was.follows more;
      stays = λ node to. (
        λ leads. (was.stays node to).0 ((stays node to).0 leads),
        λ leads. (stays node to).1
            ((was.stays node to).1 leads),
      );
      stands = c.in_ok-steps_from.ensures.stands;
    }
