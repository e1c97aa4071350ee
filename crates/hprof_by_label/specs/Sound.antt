-- Labels of kinds whose numbers can be used; no public contract speaks of them.
use Rattle.std.specs.Prelude.{◌<◌, ℕ, length}
use Rattle.std.specs.Coded.{le_prop}
use Rattle.std.proofs.Props.{props}
use Rattle.hprof_by_label.specs.Kinds.{IsKept}
use Rattle.hprof_by_label.specs.Texts.{AreNumbered}
use Rattle.hprof_by_label.specs.declared.kinds.Kind.{Kind}
use Rattle.hprof_by_label.specs.declared.labelling.Labelling.{Labelling}

-- each label has its number, and each kind that came up the number of a label
pub record IsSound (labelling : Labelling) : Type 0 where
  pub numbered : AreNumbered labelling.texts
  pub within : (kind : Kind) (number : ℕ) → IsKept labelling.kinds kind number → number < length labelling.texts.texts.items

-- each of these has at most one proof
pub IsSound-prop : (labelling : Labelling) → IsProp (IsSound labelling)
IsSound-prop labelling = hlevel (props, le_prop)
