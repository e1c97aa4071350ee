-- What is counted.
use Rattle.std.proofs.Common.{◌≡◌, ◌+◌, true, refl, eq-eqb, arith}
use Rattle.hprof_values.specs.Basic.{code_of_basic}
use Rattle.hprof_histogram.specs.declared.row.Kind.{Kind}
use Rattle.hprof_histogram.specs.declared.row.Kind.TheVariants.{Class, Prim}
use Rattle.hprof_histogram.specs.declared.counted.Counted.{Counted}
use Rattle.hprof_histogram.specs.CountedKinds.{both, nothing}
use Rattle.hprof_histogram.specs.Histogram.{same_kind}

pub both_nothing : (counted : Counted) → both counted nothing ≡ counted
both_nothing counted =
    let count : counted.count + 0 ≡ counted.count = omega arith in
    let bytes : counted.bytes + 0 ≡ counted.bytes = omega arith in
    λ i. record { count = count i; bytes = bytes i }

pub same_itself : (kind : Kind) → same_kind kind kind ≡ true
same_itself (Class class) = eq-eqb class class refl
same_itself (Prim elem) = eq-eqb (code_of_basic elem) (code_of_basic elem) refl
