-- Facts of sub-records.
use Rattle.std.proofs.Common.{◌≡◌, true, arith}
use Rattle.hprof_values.specs.declared.ids.IdSize.{IdSize}
use Rattle.hprof_items.specs.FactValue.{FactValue, Name, Load, Unload, Frame, Trace, Start, End, Rooted, Class, Instance, ObjArray}
use Rattle.hprof_items.specs.FactValue.{PrimArray}
use Rattle.hprof_items.specs.Spelling.{Fits}
use Rattle.hprof_items.specs.SubRecord.{dump_bytes}
use Rattle.hprof_rows.specs.SubFacts.{is_sub_fact}
use Rattle.hprof_segments.specs.ByteSegments.{IsSub}

-- one that can be encoded has a byte or more, and is no longer than the body of a record
pub fact_is_sub : (ids : IdSize) (fact : FactValue) → Fits ids fact → is_sub_fact fact ≡ true → IsSub (dump_bytes ids fact)
fact_is_sub ids (Rooted root) fits is = (omega arith, fits.1)
fact_is_sub ids (Class id trace parent loader signers domain reserved1 reserved2 size constants statics fields) fits is =
    (omega arith, fits.1)
fact_is_sub ids (Instance id trace class raw) fits is = (omega arith, fits.1)
fact_is_sub ids (ObjArray id trace class elements) fits is = (omega arith, fits.1)
fact_is_sub ids (PrimArray id trace elem raw) fits is = (omega arith, fits.1)
fact_is_sub ids (Name id text) fits is = absurd cc
fact_is_sub ids (Load serial class trace name) fits is = absurd cc
fact_is_sub ids (Unload serial) fits is = absurd cc
fact_is_sub ids (Frame id method signature source class_serial line) fits is = absurd cc
fact_is_sub ids (Trace serial thread frames) fits is = absurd cc
fact_is_sub ids (Start thread object trace name group parent_group) fits is = absurd cc
fact_is_sub ids (End thread) fits is = absurd cc
