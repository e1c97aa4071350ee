use Rattle.std.proofs.Common.{◌≡◌, ◌+◌, min, true, List, [], ◌∷◌, length, ap, subst, sym, ◌∙◌, arith}
use Rattle.std.proofs.lemmas.List.{length-append}
use Rattle.hprof_layouts.specs.Plan.{most}
use Rattle.hprof_edges.specs.declared.field_place.FieldPlace.{FieldPlace}
use Rattle.hprof_weak.specs.Links.{PushesReferents, nexts_in}
use Rattle.hprof_weak.proofs.Pushing.{Pushing, no_next, pushing_ends, pushing_on}
use Rattle.hprof_weak.proofs.links.Links.push_referents.Goals as goal

pub returns-in_default-clause-pushes : goal.returns-in_default-clause-pushes
returns-in_default-clause-pushes c = λ facts slots leads.
    let nexts = nexts_in c.args.self.now in
    let old = c.args.fields.now.items in
    let pushing = c.loop-place.invariant.pushing facts slots leads in
    let last = no_next c.next.result pushing.next (c.next.ensures pushing.next pushing.there) c.in_default.not-Some in
    let small = c.ranges.room in
    subst (λ (l : List FieldPlace). PushesReferents facts c.args.class slots c.args.room true old l) (sym c.in_ok-push.ensures.items)
    (pushing_ends facts nexts c.args.class slots old c.loop-place.fields.items c.loop-place.place c.loop-place.number c.args.room pushing
    c.loop-place-test.true (omega (arith, small)) last)

pub loop-place-preserved : goal.loop-place-preserved
loop-place-preserved c =
    let nexts = nexts_in c.args.self.now in
    let old = c.args.fields.now.items in
    let small = c.ranges.room in
    let one = c.saturating_add.ensures in
    let sum = c.saturating_add-place.ensures in
    let place : min (min (c.loop-place.place + 1) most + c.in-Some.next.before) most ≡ c.saturating_add-place.result =
    omega (arith, one, sum) in
    let fields = c.loop-place.fields.items in
    let field : FieldPlace = record { class = c.args.class; place = c.loop-place.place } in
    let grown : length c.push.new.self.items ≡ length fields + 1 =
    ap (λ (l : List FieldPlace). length l) c.in_ok-push.ensures.items ∙ length-append fields (field ∷ []) in
    let fewer = c.loop-place.invariant.fewer in
    let below = c.loop-place-test.true in
    record {
      pushing = λ facts slots leads.
          let pushing = c.loop-place.invariant.pushing facts slots leads in
          let next = sym (c.next.ensures pushing.next pushing.there) ∙ c.in-Some.is in
          subst (λ n. Pushing facts nexts c.args.class slots old c.push.new.self.items n c.in-Some.next.number) place
          (subst (λ (l : List FieldPlace). Pushing facts nexts c.args.class slots old l
          (min (min (c.loop-place.place + 1) most + c.in-Some.next.before) most) c.in-Some.next.number) (sym c.in_ok-push.ensures.items)
          (pushing_on facts nexts c.args.class slots old fields c.loop-place.place c.loop-place.number c.args.room pushing below
          (omega (arith, small)) c.in-Some.next next));
      few = omega (arith, grown, fewer, below);
      fewer = omega (arith, grown, fewer, below, small, place);
    }
