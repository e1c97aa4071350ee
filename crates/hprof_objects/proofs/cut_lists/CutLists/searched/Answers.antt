use Rattle.std.proofs.Common.{ℕ, List, [], refl, subst, sym}
use Rattle.hprof_objects.specs.declared.any_cut.AnyCut.{AnyCut}
use Rattle.hprof_objects.specs.declared.searched.Searched.{Searched}
use Rattle.hprof_objects.specs.DividedCuts.{AreDivided}
use Rattle.hprof_objects.proofs.Apart.{DividedSoFar, divided_more, divided_none}
use Rattle.hprof_objects.proofs.cut_lists.CutLists.searched.Goals as goal

pub loop-count-init : goal.loop-count-init
loop-count-init g c =
    let it = c.args.self.now in
    let rest = c.as_slice-rest.result.now in
    record {
      so_far = subst (λ (l : List (Searched g.row.S.Denot g.row.R.Denot)). DividedSoFar it.cuts.items l rest)
          (sym c.in_ok-lists.ensures.items)
          (subst (DividedSoFar it.cuts.items []) (sym c.as_slice-rest.ensures.value) (divided_none it.cuts.items));
      left = subst (AreDivided rest) (sym c.as_slice-counts.ensures.value)
          (subst (λ (l : List AnyCut). AreDivided l it.counts.items) (sym c.as_slice-rest.ensures.value) it.divided);
    }

pub loop-count-preserved : goal.loop-count-preserved
loop-count-preserved g c =
    let cuts = c.args.self.now.cuts.items in
    let now = c.loop-count in
    let count = c.in-Some.count.now in
    let left = subst (λ (l : List ℕ). AreDivided now.rest.now l) c.in-Some.ensures.cases.0 now.invariant.left in
    record {
      so_far = subst (DividedSoFar cuts c.push.new.self.items) (sym c.split_at.ensures.back)
          (divided_more cuts now.lists.items c.push.new.self.items now.rest.now count _ now.invariant.so_far c.split_at.ensures.front refl
          left.1 c.in_ok-push.ensures.items);
      left = subst (λ (l : List AnyCut). AreDivided l c.in-Some.after.now) (sym c.split_at.ensures.back) left.2;
    }
