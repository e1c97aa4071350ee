-- The text of a key: an identifier in hexadecimal, a serial number in decimal.
use Rattle.std.specs.Prelude.{ℕ, List, ◌++◌, codes, decimal}
use Rattle.hprof_text.specs.Identifier.{id_digits}
use Rattle.hprof_rows.specs.declared.key.Key.{Key}
use Rattle.hprof_rows.specs.declared.key.Key.TheVariants as keys

abbrev pub key_text : Key → List ℕ
key_text (keys.Name id) = codes "name " ++ id_digits id
key_text (keys.Load serial) = codes "load " ++ decimal serial
key_text (keys.Frame id) = codes "frame " ++ id_digits id
key_text (keys.Trace serial) = codes "trace " ++ decimal serial
key_text (keys.Thread serial) = codes "thread " ++ decimal serial
key_text (keys.Class id) = codes "class " ++ id_digits id
key_text (keys.Object id) = codes "object " ++ id_digits id
