-- The 1.0.1 dump of parts that agree.
use Rattle.std.proofs.Common.{◌≤◌, ◌<◌, ℕ, List, length, subst}
use Rattle.hprof_items.specs.Spelling.{longest_body}
use Rattle.hprof_rows.specs.HeapValue.{HeapValue}
use Rattle.hprof_merge.specs.Rows.{ByteRow}
use Rattle.hprof_objects.specs.Whole.{with_objects}
use Rattle.hprof_engine.specs.declared.heap_fault.HeapFault.TheVariants as products
use Rattle.hprof_engine.specs.Joining.{Agree}
use Rattle.hprof_engine.specs.Joining101.{IsDump101Text, Refuses101}
use Rattle.hprof_engine.specs.Makes.{IsMadeOf}
use Rattle.hprof_stored.proofs.Joined.{AgreeWith}
use Rattle.hprof_stored.proofs.MadeWith.{made_with}
use Rattle.hprof_stored101.specs.Dumping101.{body_with, dump101_with}
use Rattle.hprof_stored101.proofs.Dumped101.{dump101_of_all, length_of_all}

module _ (parts : List (List ℕ)) (heap : HeapValue) (rows : List ByteRow) (it : AgreeWith parts heap rows) where
  pub is_dump101 : length (body_with heap rows) ≤ longest_body → IsMadeOf IsDump101Text parts (dump101_with heap rows)
  is_dump101 short =
      made_with parts heap rows it IsDump101Text (dump101_with heap rows) (λ summaries. (
        subst (λ (n : ℕ). n ≤ longest_body) (length_of_all heap rows it.objects it.are) short,
        dump101_of_all heap rows it.objects it.are,
      ))

  pub is_too_long : longest_body < length (body_with heap rows)
      → (all : HeapValue) × Refuses101 products.DumpTooLong all × Agree parts all.ids all.millis all.facts
  is_too_long long = (
    with_objects heap it.objects,
    subst (λ (n : ℕ). longest_body < n) (length_of_all heap rows it.objects it.are) long,
    it.agree,
  )
