-- The fields of an object in a small heap are its fields in the whole.
use Rattle.std.proofs.Common.{ℕ, List}
use Rattle.std.specs.Prelude.{IsTrue}
use Rattle.hprof_values.specs.declared.ids.IdSize.{IdSize}
use Rattle.hprof_items.specs.FactValue.{FactValue, Instance, ObjArray, PrimArray}
use Rattle.hprof_histogram.specs.Chosen.{is_among}
use Rattle.hprof_layouts.specs.Fields.{AreFields, AreInstanceFields, HasArray, OfInstance, OfNumbers, OfObjects}
use Rattle.hprof_layouts.specs.Fields.{FieldsValue, Values, Missing, Cyclic, WidthDiffers, NotAnInstance, NoObject}
use Rattle.hprof_layouts.proofs.MoreFacts.{chain_stays, cyclic_stays, known_stays}
use Rattle.hprof_small.specs.Small.{IsSmall}
use Rattle.hprof_small.proofs.SmallHas.{no_dump_in_all, no_object_in_all, small_has}

module _ (ids : IdSize) (wanted : List ℕ) (all small : List FactValue) (is : IsSmall ids wanted all small) where
  instance_fields_in_all : (class : ℕ) (bytes : List ℕ) (fields : FieldsValue) → AreInstanceFields ids small class bytes fields
      → AreInstanceFields ids all class bytes fields
  instance_fields_in_all class bytes (Values values) are = record {
    slots = are.slots;
    known = known_stays small all (small_has ids wanted all small is) class are.slots are.known;
    fills = are.fills;
    values_are = are.values_are;
  }
  instance_fields_in_all class bytes (Missing missing) are = record {
    dumps = are.dumps;
    chain = chain_stays small all (small_has ids wanted all small is) class missing are.dumps are.chain;
    not_zero = are.not_zero;
    no_dump = no_dump_in_all ids wanted all small is missing are.no_dump;
  }
  instance_fields_in_all class bytes Cyclic are = cyclic_stays small all (small_has ids wanted all small is) class are
  instance_fields_in_all class bytes (WidthDiffers width) are = record {
    slots = are.slots;
    known = known_stays small all (small_has ids wanted all small is) class are.slots are.known;
    width_is = are.width_is;
    differs = are.differs;
  }
  instance_fields_in_all class bytes NotAnInstance are = are
  instance_fields_in_all class bytes NoObject are = are

  of_instance_in_all : (id : ℕ) (fields : FieldsValue) → OfInstance ids small id fields → OfInstance ids all id fields
  of_instance_in_all id fields of = record {
    class = of.class;
    bytes = of.bytes;
    instance = record {
      trace = of.instance.trace;
      has = small_has ids wanted all small is (Instance id of.instance.trace of.class of.bytes) of.instance.has;
    };
    fields_are = instance_fields_in_all of.class of.bytes fields of.fields_are;
  }

  array_in_all : (id : ℕ) → HasArray small id → HasArray all id
  array_in_all id (OfObjects class elements array) =
      OfObjects class elements (record {
        trace = array.trace;
        has = small_has ids wanted all small is (ObjArray id array.trace class elements) array.has;
      })
  array_in_all id (OfNumbers elem bytes array) =
      OfNumbers elem bytes (record {
        trace = array.trace;
        has = small_has ids wanted all small is (PrimArray id array.trace elem bytes) array.has;
      })

  pub fields_in_all : (id : ℕ) → IsTrue (is_among wanted id) → (fields : FieldsValue) → AreFields ids small id fields
      → AreFields ids all id fields
  fields_in_all id among NoObject none = no_object_in_all ids wanted all small is id among none
  fields_in_all id among NotAnInstance array = array_in_all id array
  fields_in_all id among (Values values) of = of_instance_in_all id (Values values) of
  fields_in_all id among (Missing class) of = of_instance_in_all id (Missing class) of
  fields_in_all id among Cyclic of = of_instance_in_all id Cyclic of
  fields_in_all id among (WidthDiffers width) of = of_instance_in_all id (WidthDiffers width) of
