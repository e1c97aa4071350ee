use Rattle.std.specs.Prelude.{Contains, slice_index}
use Rattle.std.proofs.Common.{[], List, ℕ, ap, arith, inl, inr, refl, sym, subst, ◌∙◌}
use Rattle.hprof_numbers.specs.Numbers.{items_in}
use Rattle.hprof_numbers.proofs.Ascending.{has_number, number_of}
use Rattle.hprof_reach.specs.NumberedGraph.{node_at}
use Rattle.hprof_reach.proofs.NumberedTargets.{PutsPassed, puts_more, puts_none}
use Rattle.hprof_reach.proofs.by_passes.start_nodes.Goals as goal

nothing : (id : ℕ) → Contains [] id → ⊥
nothing id has = omega (arith, has.1)

pub loop-place-init : goal.loop-place-init
loop-place-init c =
    let graph = c.args.graph.now in
    subst (λ (list : List ℕ). PutsPassed (node_at graph) (items_in graph.starts) 0 [] 0 list) (sym c.in_ok-starts.ensures.items)
    (puts_none (node_at graph) (items_in graph.starts) 0 [] 0 (omega arith))

pub node-requires : goal.node-requires
node-requires c =
    let graph = c.args.graph.now in
    let items = items_in graph.starts in
    let place = c.loop-place.place in
    let is = c.get-number.ensures in
    let small = c.requires.starts (slice_index items place)
    (has_number items (slice_index items place) place (omega (arith, c.loop-place-test.true, c.len-place-end.ensures)) refl) in
    omega arith

pub loop-place-preserved : goal.loop-place-preserved
loop-place-preserved c =
    let graph = c.args.graph.now in
    puts_more (node_at graph) (items_in graph.starts) 0 [] c.loop-place.starts.items c.push.new.self.items c.loop-place.place c.node.result
    (omega arith) (c.node.ensures ∙ ap (node_at graph) c.get-number.ensures) c.in_ok-push.ensures.items c.loop-place.invariant

pub returns : goal.returns
returns c = λ id.
    let graph = c.args.graph.now in
    let items = items_in graph.starts in
    let is = c.loop-place.invariant id in
    let end = c.len-place-end.ensures in (
      λ has. elim (is.0 has) [
        | inl was ↦ absurd (nothing id was)
        | inr passed ↦ (
          slice_index items passed.at,
          has_number items (slice_index items passed.at) passed.at
              (omega (arith, passed.before, c.loop-place.auto.place-end, end)) refl,
          passed.is,
        )
      ],
      λ start.
          let has = number_of items start.0 start.1 in
          is.1 (inr (record {
            at = has.0;
            from = omega arith;
            before = omega (arith, has.1, c.loop-place-test.false, end);
            is = ap (node_at graph) has.2 ∙ start.2;
          })),
    )
