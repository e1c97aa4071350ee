-- Facts that have a spelling: those of records and those of sub-records.
use Rattle.std.proofs.Common.{◌≡◌, ◌<◌, ◌≤◌, false, length, Option, Some, None, refl, sym, subst, arith}
use Rattle.std.specs.Prelude.{◌==◌, slice_index}
use Rattle.hprof_values.specs.declared.ids.IdSize.{IdSize}
use Rattle.hprof_values.specs.declared.root.Root.{Root}
use Rattle.hprof_values.specs.declared.root.Root.TheVariants as roots
use Rattle.hprof_values.specs.Root.{root_bytes}
use Rattle.hprof_values.specs.declared.record_tag.RecordTag.{RecordTag}
use Rattle.hprof_items.specs.FactValue.{FactValue, Name, Load, Unload, Frame, Trace, Start, End, Rooted, Class, Instance, ObjArray}
use Rattle.hprof_items.specs.FactValue.{PrimArray}
use Rattle.hprof_items.specs.RecordBody.{record_of, record_body, BodyFits}
use Rattle.hprof_items.specs.Spelling.{Fits, FitsAs, longest_body}
use Rattle.hprof_items.specs.SubRecord.{dump_bytes, DumpFits}
use Rattle.hprof_stream.specs.Record.{IsSubFact}

-- what fits the fields of a sub-record is no record's, and takes a byte or more
sub_spelled : (ids : IdSize) (fact : FactValue) → DumpFits ids fact → (record_of fact ≡ None) × (0 < length (dump_bytes ids fact))
sub_spelled ids (Rooted root) fits = (refl, omega arith)
sub_spelled ids (Class id trace parent loader signers domain reserved1 reserved2 size constants statics fields) fits = (refl, omega arith)
sub_spelled ids (Instance id trace class raw) fits = (refl, omega arith)
sub_spelled ids (ObjArray id trace class elements) fits = (refl, omega arith)
sub_spelled ids (PrimArray id trace elem raw) fits = (refl, omega arith)
sub_spelled ids (Name id text) fits = absurd fits
sub_spelled ids (Load serial class trace name) fits = absurd fits
sub_spelled ids (Unload serial) fits = absurd fits
sub_spelled ids (Frame id method signature source class_serial line) fits = absurd fits
sub_spelled ids (Trace serial thread frames) fits = absurd fits
sub_spelled ids (Start thread object trace name group parent_group) fits = absurd fits
sub_spelled ids (End thread) fits = absurd fits

-- a sub-record has a first byte
pub sub_some : (ids : IdSize) (fact : FactValue) → DumpFits ids fact → 0 < length (dump_bytes ids fact)
sub_some ids fact fits = (sub_spelled ids fact fits).1

-- what fits its fields is a fact of a sub-record, where it is short enough
pub sub_fact : (ids : IdSize) (fact : FactValue) → DumpFits ids fact → length (dump_bytes ids fact) ≤ longest_body → IsSubFact ids fact
sub_fact ids fact fits short =
    let is : record_of fact ≡ None = (sub_spelled ids fact fits).0 in
    record { is = is; fits = subst (λ (o : Option RecordTag). FitsAs ids o fact) (sym is) (fits, short) }

-- and such a fact fits its fields
pub sub_fits : (ids : IdSize) (fact : FactValue) → IsSubFact ids fact → DumpFits ids fact × (length (dump_bytes ids fact) ≤ longest_body)
sub_fits ids fact sub = subst (λ (o : Option RecordTag). FitsAs ids o fact) sub.is sub.fits

-- what fits the body of a record has a spelling, where it is short enough
pub record_fact : (ids : IdSize) (tag : RecordTag) (fact : FactValue) → BodyFits ids tag fact
    → length (record_body ids tag fact) ≤ longest_body → Fits ids fact
record_fact ids tag fact fits short = subst (λ (o : Option RecordTag). FitsAs ids o fact) (sym fits.is) (fits, short)

-- and a fact of a record that has a spelling fits its body
pub record_fits : (ids : IdSize) (tag : RecordTag) (fact : FactValue) → record_of fact ≡ Some tag → Fits ids fact
    → BodyFits ids tag fact × (length (record_body ids tag fact) ≤ longest_body)
record_fits ids tag fact is fits = subst (λ (o : Option RecordTag). FitsAs ids o fact) is fits

-- ---- first bytes

-- no root begins as a HEAP_DUMP_END
root_no_end : (ids : IdSize) (root : Root) → (slice_index (root_bytes ids root) 0 == 0x2c) ≡ false
root_no_end ids (roots.Unknown id) = refl
root_no_end ids (roots.JniGlobal id reference) = refl
root_no_end ids (roots.JniLocal id thread frame) = refl
root_no_end ids (roots.JavaFrame id thread frame) = refl
root_no_end ids (roots.NativeStack id thread) = refl
root_no_end ids (roots.Sticky id) = refl
root_no_end ids (roots.Block id thread) = refl
root_no_end ids (roots.Monitor id) = refl
root_no_end ids (roots.ThreadObject id thread trace) = refl

-- nor does any sub-record
pub sub_no_end : (ids : IdSize) (fact : FactValue) → DumpFits ids fact → (slice_index (dump_bytes ids fact) 0 == 0x2c) ≡ false
sub_no_end ids (Rooted root) fits = root_no_end ids root
sub_no_end ids (Class id trace parent loader signers domain reserved1 reserved2 size constants statics fields) fits = refl
sub_no_end ids (Instance id trace class raw) fits = refl
sub_no_end ids (ObjArray id trace class elements) fits = refl
sub_no_end ids (PrimArray id trace elem raw) fits = refl
sub_no_end ids (Name id text) fits = absurd fits
sub_no_end ids (Load serial class trace name) fits = absurd fits
sub_no_end ids (Unload serial) fits = absurd fits
sub_no_end ids (Frame id method signature source class_serial line) fits = absurd fits
sub_no_end ids (Trace serial thread frames) fits = absurd fits
sub_no_end ids (Start thread object trace name group parent_group) fits = absurd fits
sub_no_end ids (End thread) fits = absurd fits
