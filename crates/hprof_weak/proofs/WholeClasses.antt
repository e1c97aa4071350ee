-- The weak fields of a whole are those of the facts without objects.
use Rattle.std.specs.Prelude.{◌↔◌, codes}
use Rattle.std.proofs.Common.{ℕ, List, [], ◌∷◌, Option, Some, inl, inr, refl}
use Rattle.hprof_values.specs.declared.ids.IdSize.{IdSize}
use Rattle.hprof_items.specs.FactValue.{FactValue, Load, Name}
use Rattle.hprof_rows.specs.declared.table.Table.TheVariants as tables
use Rattle.hprof_rows.specs.Facts.{Has}
use Rattle.hprof_heap.specs.Classes.{ClassValue, HasDump, fact_of_class}
use Rattle.hprof_heap.specs.Names.{HasName}
use Rattle.hprof_layouts.specs.declared.slot.Slot.{Slot}
use Rattle.hprof_layouts.proofs.MoreDumps.{chain_stays, known_stays}
use Rattle.hprof_naming.specs.Called.{IsCalled}
use Rattle.hprof_edges.specs.declared.field_place.FieldPlace.{FieldPlace}
use Rattle.hprof_passes.specs.Passing.{IsWhole}
use Rattle.hprof_passes.proofs.Tables.{has_same}
use Rattle.hprof_weak.specs.declared.links.Link.{Link}
use Rattle.hprof_weak.specs.declared.weak_classes.WeakClasses.{WeakClasses}
use Rattle.hprof_weak.specs.Links.{Leads, NoMore, NoReferent, OneMore, nexts_in}
use Rattle.hprof_weak.specs.Weak.{IsCleared, IsClearing, IsReferent, IsWeakField}
use Rattle.hprof_weak.specs.WeakClasses.{AreWeakClasses, IsFirstWeak}

-- the one facts have the class dumps, the names and the called classes of the other
module _ (facts more : List FactValue) (dumps : (dump : ClassValue) → HasDump facts dump → HasDump more dump)
    (names : (name : ℕ) (word : List ℕ) → HasName facts name word → HasName more name word)
    (called : (class : ℕ) (word : List ℕ) → IsCalled facts class word → IsCalled more class word) where
  referent_stays : (slot : Slot) → IsReferent facts slot → IsReferent more slot
  referent_stays slot is = record {
    declared = called slot.class (codes "java/lang/ref/Reference") is.declared;
    named = names slot.name (codes "referent") is.named;
  }

  clearing_stays : (class : ℕ) → IsClearing facts class → IsClearing more class
  clearing_stays class (inl soft) = inl (called class (codes "java/lang/ref/SoftReference") soft)
  clearing_stays class (inr (inl weak)) = inr (inl (called class (codes "java/lang/ref/WeakReference") weak))
  clearing_stays class (inr (inr phantom)) = inr (inr (called class (codes "java/lang/ref/PhantomReference") phantom))

  cleared_stays : (class : ℕ) → IsCleared facts class → IsCleared more class
  cleared_stays class is = record {
    dumps = is.dumps;
    superclass = is.superclass;
    chain = chain_stays facts more dumps class is.superclass is.dumps is.chain;
    not_zero = is.not_zero;
    clearing = clearing_stays is.superclass is.clearing;
  }

  field_stays : (field : FieldPlace) → IsWeakField facts field → IsWeakField more field
  field_stays field is = record {
    slots = is.slots;
    known = known_stays facts more dumps field.class is.slots is.known;
    slot = is.slot;
    there = is.there;
    referent = referent_stays is.slot is.referent;
    cleared = cleared_stays field.class is.cleared;
  }

  -- where the other has no more referents
  module _ (back : (slot : Slot) → IsReferent more slot → IsReferent facts slot) where
    none_still : (slots : List Slot) → NoReferent facts slots → NoReferent more slots
    none_still [] none = tt
    none_still (slot ∷ slots) none = (λ is. none.0 (back slot is), none_still slots none.1)

    leads_still : (nexts : List (Option Link)) (first : Option Link) (slots : List Slot) → Leads facts nexts first slots
        → Leads more nexts first slots
    leads_still nexts _ _ (NoMore slots none) = NoMore slots (none_still slots none)
    leads_still nexts _ _ (OneMore link slots front slot rest next parts before none is there leads) =
        OneMore link slots front slot rest next parts before (none_still front none) (referent_stays slot is) there
        (leads_still nexts next rest leads)

    first_still : (nexts : List (Option Link)) (class : ℕ) (first : Link) → IsFirstWeak facts nexts class first
        → IsFirstWeak more nexts class first
    first_still nexts class first is = record {
      cleared = cleared_stays class is.cleared;
      slots = is.slots;
      known = known_stays facts more dumps class is.slots is.known;
      leads = leads_still nexts (Some first) is.slots is.leads;
    }

module _ (ids : IdSize) (facts all : List FactValue) (whole : IsWhole ids facts all) where
  dumps_same : (dump : ClassValue) → HasDump all dump ↔ HasDump facts dump
  dumps_same dump = has_same ids facts all whole tables.Classes (λ e. cc) (fact_of_class dump) refl

  names_same : (name : ℕ) (word : List ℕ) → HasName all name word ↔ HasName facts name word
  names_same name word = has_same ids facts all whole tables.Names (λ e. cc) (Name name word) refl

  called_same : (class : ℕ) (word : List ℕ) → IsCalled all class word ↔ IsCalled facts class word
  called_same class word = (
    λ is. record {
      name = is.name;
      names = record {
        serial = is.names.serial;
        trace = is.names.trace;
        loaded = (load is.names.serial is.names.trace is.name).0 is.names.loaded;
        least = λ other trace name has. is.names.least other trace name ((load other trace name).1 has);
      };
      has = (names_same is.name word).0 is.has;
    },
    λ is. record {
      name = is.name;
      names = record {
        serial = is.names.serial;
        trace = is.names.trace;
        loaded = (load is.names.serial is.names.trace is.name).1 is.names.loaded;
        least = λ other trace name has. is.names.least other trace name ((load other trace name).0 has);
      };
      has = (names_same is.name word).1 is.has;
    },
  ) where
    load : (serial trace name : ℕ) → Has all (Load serial class trace name) ↔ Has facts (Load serial class trace name)
    load serial trace name = has_same ids facts all whole tables.Loads (λ e. cc) (Load serial class trace name) refl

  -- the weak fields are the same
  pub weak_field_same : (field : FieldPlace) → IsWeakField all field ↔ IsWeakField facts field
  weak_field_same field = (
    field_stays all facts (λ dump. (dumps_same dump).0) (λ name word. (names_same name word).0)
        (λ class word. (called_same class word).0) field,
    field_stays facts all (λ dump. (dumps_same dump).1) (λ name word. (names_same name word).1)
        (λ class word. (called_same class word).1) field,
  )

  -- and so are the classes that have some
  pub classes_of_whole : (classes : WeakClasses) → AreWeakClasses facts classes → AreWeakClasses all classes
  classes_of_whole classes are = record {
    right = λ class first e.
        first_still facts all (λ dump. (dumps_same dump).1) (λ name word. (names_same name word).1)
        (λ class word. (called_same class word).1)
        (referent_stays all facts (λ dump. (dumps_same dump).0) (λ name word. (names_same name word).0)
        (λ class word. (called_same class word).0)) (nexts_in classes.links) class first (are.right class first e);
    all = λ field weak. are.all field ((weak_field_same field).0 weak);
  }
