-- What is known of a node's kind, in words; no public contract speaks of it.
use Rattle.std.specs.Prelude.{ℕ, List, ◌++◌, codes}
use Rattle.hprof_naming.specs.Naming.{Naming}
use Rattle.hprof_naming.specs.TypeWord.{type_word}
use Rattle.hprof_why.specs.declared.alike.NodeKind.{NodeKind}
use Rattle.hprof_why.specs.declared.alike.NodeKind.TheVariants as kinds

abbrev pub words_of : Naming → NodeKind → List ℕ
words_of naming (kinds.Class class) = codes "class " ++ naming.label class
words_of naming (kinds.OfClass class) = naming.label class
words_of naming (kinds.Numbers elem) = type_word elem ++ codes "[]"
words_of naming kinds.Missing = codes "not in the dump"
