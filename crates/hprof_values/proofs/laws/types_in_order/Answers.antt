use Rattle.std.proofs.Common.{◌≡◌, refl}
use Rattle.std.specs.Ordering.{nat_cmp}
use Rattle.std.specs.declared.cmp.Ordering.{Ordering}
use Rattle.hprof_values.specs.declared.basic.Basic.{Basic}
use Rattle.hprof_values.specs.declared.basic.Basic.TheVariants as basics
use Rattle.hprof_values.specs.contracts.basic.BasicOrd.TheImpl as basic_ord
use Rattle.hprof_values.specs.Basic.{code_of_basic}
use Rattle.hprof_values.proofs.laws.types_in_order.Goals as goal

-- what the derived order answers
abbrev basic_cmp : Basic → Basic → Ordering
basic_cmp = (basic_ord.ghosts).cmp

in_order : (basic other : Basic) → basic_cmp basic other ≡ nat_cmp (code_of_basic basic) (code_of_basic other)
in_order basics.Array basics.Array = refl
in_order basics.Object basics.Object = refl
in_order basics.Boolean basics.Boolean = refl
in_order basics.Char basics.Char = refl
in_order basics.Float basics.Float = refl
in_order basics.Double basics.Double = refl
in_order basics.Byte basics.Byte = refl
in_order basics.Short basics.Short = refl
in_order basics.Int basics.Int = refl
in_order basics.Long basics.Long = refl
in_order basic other = refl

pub returns : goal.returns
returns c = in_order
