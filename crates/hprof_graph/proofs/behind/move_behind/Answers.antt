use Rattle.std.proofs.Common.{◌≡◌, ◌-◌, get_or, sym, ap, ◌∙◌, arith, inl, inr}
use Rattle.std.proofs.lemmas.Bool.{cases_eq}
use Rattle.std.proofs.lemmas.List.{get_or_default}
use Rattle.std.proofs.lemmas.List.Sorted.{IsPermutation-swap, IsPermutation-trans}
use Rattle.hprof_edges.specs.declared.edge.Edge.{Edge}
use Rattle.hprof_graph.proofs.behind.move_behind.Goals as goal

pub loop-others-preserved-then-index-id : goal.loop-others-preserved-then-index-id
loop-others-preserved-then-index-id c =
    let was = c.loop-others.invariant in
    let old = c.loop-others.edges.items in
    let new = c.swap.new.self.items in
    let first = c.loop-others.others in
    let last = c.loop-others.end - 1 in
    let swapped = c.swap.ensures.by_index in
    let test = c.loop-others-test.true in
    let len = c.loop-others.edges.ok.0 in
    let new_len = c.swap.ensures.len in
    let up_to = was.up_to in
    let within = was.within in
    record {
      up_to = omega arith;
      within = omega arith;
      moved = IsPermutation-trans c.args.edges.now.items old new was.moved
          (IsPermutation-swap old new first last (omega arith) (omega arith) c.swap.ensures.items);
      others = λ place d below same.
          was.others place d below (ap (λ (edge : Edge). edge.to)
          (sym (swapped.2 place d (λ e. omega (arith, e, below)) (λ e. omega (arith, e, below, test)))) ∙ same);
      behind = λ place d on below. elim (cases_eq place last) [
        | inl here ↦
            let here_is : get_or new place d ≡ c.index.result.now =
            ap (λ n. get_or new n d) here ∙ swapped.1 d ∙ get_or_default old first d c.index.result.now (omega (arith, len, test, within))
            ∙ sym c.index.ensures in
            ap (λ (edge : Edge). edge.to) here_is ∙ c.if-index-id.true
        | inr apart ↦
            let same = swapped.2 place d (λ e. omega (arith, e, on, test)) apart in
            ap (λ (edge : Edge). edge.to) same ∙ was.behind place d (omega (arith, on, apart)) (omega (arith, below, new_len))
      ];
    }
