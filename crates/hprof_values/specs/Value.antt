-- What entries of a class dump are as constants, static fields and fields of the instances.
use Rattle.hprof_values.specs.declared.entry.Entry.{Entry}
use Rattle.hprof_values.specs.declared.value.Constant.{Constant}
use Rattle.hprof_values.specs.declared.value.Static.{Static}
use Rattle.hprof_values.specs.declared.value.Field.{Field}

abbrev pub constant_of : Entry → Constant
constant_of entry = record { index = entry.number; value = record { basic = entry.basic; bits = entry.bits } }

abbrev pub static_of : Entry → Static
static_of entry = record { name = entry.number; value = record { basic = entry.basic; bits = entry.bits } }

abbrev pub field_of : Entry → Field
field_of entry = record { name = entry.number; basic = entry.basic }
