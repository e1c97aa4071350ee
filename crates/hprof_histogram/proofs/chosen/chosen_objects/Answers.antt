use Rattle.std.proofs.Common.{List, subst}
use Rattle.std.specs.List.Sorted.{IsPermutation}
use Rattle.hprof_heap.specs.HeapFacts.{size_of}
use Rattle.hprof_histogram.specs.declared.objects.SizedObject.{SizedObject}
use Rattle.hprof_histogram.proofs.ChosenObjects.{collected_all}
use Rattle.hprof_histogram.proofs.chosen.chosen_objects.Goals as goal

pub returns : goal.returns
returns g c = (
  c.in_ok-pass.ensures.agree,
  λ all make. record {
    sorted = c.sort_objects.ensures.sorted;
    same = subst (λ (l : List SizedObject). IsPermutation l c.sort_objects.new.objects.items)
        (collected_all (size_of c.args.heap.now) all _ c.pass.new.sink c.new.ensures.items (c.in_ok-pass.ensures.given all make))
        c.sort_objects.ensures.same;
  },
)
