-- The classes that rows of a histogram and facts of a table state, one by one.
use Rattle.std.specs.Prelude.{ℕ, List, [], ◌∷◌}
use Rattle.hprof_items.specs.FactValue.{FactValue, Class, Load}
use Rattle.hprof_histogram.specs.declared.row.Kind.{Kind}
use Rattle.hprof_histogram.specs.declared.row.Kind.TheVariants as kinds
use Rattle.hprof_histogram.specs.declared.row.Row.{Row}

-- the class whose objects a row counts
abbrev pub class_of_kind : Kind → List ℕ
class_of_kind (kinds.Class class) = class ∷ []
class_of_kind (kinds.Prim elem) = []

abbrev pub class_of_row : Row → List ℕ
class_of_row row = class_of_kind row.kind

-- the class of a class dump
abbrev pub class_dumped : FactValue → List ℕ
class_dumped (Class id trace parent loader signers domain reserved1 reserved2 size constants statics fields) = id ∷ []
class_dumped fact = []

-- the class of a load
abbrev pub class_loaded : FactValue → List ℕ
class_loaded (Load serial class trace name) = class ∷ []
class_loaded fact = []
