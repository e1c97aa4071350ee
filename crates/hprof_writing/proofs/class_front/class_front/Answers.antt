use Rattle.std.proofs.Common.{refl}
use Rattle.hprof_values.specs.Lists.{entries_of, entries_size}
use Rattle.hprof_items.specs.SubRecord.{class_numbers}
use Rattle.hprof_writing.proofs.ClassFitting.{class_fitting, class_spelled, front_form}
use Rattle.hprof_writing.proofs.class_front.class_front.Goals as goal

pub returns-clause-some : goal.returns-clause-some
returns-clause-some c =
    let ids = c.args.ids in
    let class = c.in-Class in
    let listed = class_numbers class.id class.trace class.parent class.loader class.signers class.domain class.reserved1 class.reserved2
    class.size in
    let sizes = c.if-not-lists_fit.ensures.sizes.0 refl in
    front_form ids c.args.fact.now _ _ _ _ _ class.is (record {
      is = refl;
      widths = refl;
      spelled = class_spelled ids c.code.result listed (entries_of class.constants) (entries_of class.statics)
          (entries_of class.fields) c.len.result c.len-2.result c.len-3.result c.bytes.result.now c.bytes-2.result.now
          c.bytes-3.result.now c.code.ensures
          (record { size = entries_size class.constants; same = sizes.0; counts = c.len.ensures; spells = c.bytes.ensures.spelled })
          (record { size = entries_size class.statics; same = sizes.1; counts = c.len-2.ensures; spells = c.bytes-2.ensures.spelled })
          (record { size = entries_size class.fields; same = sizes.2; counts = c.len-3.ensures; spells = c.bytes-3.ensures.spelled });
      fits = class_fitting ids c.code.result listed (entries_of class.constants) (entries_of class.statics) (entries_of class.fields)
          c.code.ensures (c.if-not-lists_fit.ensures.fit refl);
      lists = sizes;
    })
