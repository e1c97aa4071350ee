-- Flags of fields.
use Rattle.std.specs.Prelude.{◌↔◌, IsTrue}
use Rattle.std.proofs.Common.{◌≡◌, Bool, List, [], ◌∷◌, ◌++◌, refl, sym, ap, ◌∙◌, append_assoc}
use Rattle.hprof_items.specs.FactValue.{FactValue}
use Rattle.hprof_layouts.specs.declared.slot.Slot.{Slot}
use Rattle.hprof_weak.specs.Links.{AreFlags}
use Rattle.hprof_weak.specs.Weak.{IsReferent}

module _ (facts : List FactValue) where
  -- one field more at the end
  pub flags_more : (flags : List Bool) (flag : Bool) (slots : List Slot) (slot : Slot) → AreFlags facts flags slots
      → IsTrue flag ↔ IsReferent facts slot → AreFlags facts (flags ++ flag ∷ []) (slots ++ slot ∷ [])
  flags_more [] flag [] slot are is = (is, tt)
  flags_more [] flag (first ∷ slots) slot are is = absurd are
  flags_more (first ∷ flags) flag [] slot are is = absurd are
  flags_more (first ∷ flags) flag (other ∷ slots) slot are is = (are.0, flags_more flags flag slots slot are.1 is)

  -- the fields of flags of which that is the last
  pub record FlagsEnd (flags : List Bool) (flag : Bool) (slots : List Slot) : Type 0 where
    pub front : List Slot
    pub slot : Slot
    pub slots_are : slots ≡ front ++ slot ∷ []
    pub flags_are : AreFlags facts flags front
    pub is : IsTrue flag ↔ IsReferent facts slot

  pub flags_end : (flags : List Bool) (flag : Bool) (slots : List Slot) → AreFlags facts (flags ++ flag ∷ []) slots
      → FlagsEnd flags flag slots
  flags_end [] flag [] are = absurd are
  flags_end [] flag (slot ∷ []) are = record { front = []; slot = slot; slots_are = refl; flags_are = tt; is = are.0 }
  flags_end [] flag (slot ∷ (other ∷ slots)) are = absurd are.1
  flags_end (first ∷ flags) flag [] are = absurd are
  flags_end (first ∷ flags) flag (slot ∷ slots) are =
      let rest = flags_end flags flag slots are.1 in
      record {
        front = slot ∷ rest.front;
        slot = rest.slot;
        slots_are = ap (λ (l : List Slot). slot ∷ l) rest.slots_are;
        flags_are = (are.0, rest.flags_are);
        is = rest.is;
      }

  -- ---- fields that are gone over

  -- the flags so far are those of the fields so far
  pub record FlagsSoFar (flags : List Bool) (all left : List Slot) : Type 0 where
    pub front : List Slot
    pub all_are : all ≡ front ++ left
    pub flags_are : AreFlags facts flags front

  pub flags_on : (flags : List Bool) (flag : Bool) (all left rest : List Slot) (slot : Slot) → left ≡ slot ∷ rest
      → FlagsSoFar flags all left → IsTrue flag ↔ IsReferent facts slot → FlagsSoFar (flags ++ flag ∷ []) all rest
  flags_on flags flag all left rest slot next so_far is = record {
    front = so_far.front ++ slot ∷ [];
    all_are = so_far.all_are ∙ ap (λ (l : List Slot). so_far.front ++ l) next ∙ sym (append_assoc so_far.front (slot ∷ []) rest);
    flags_are = flags_more flags flag so_far.front slot so_far.flags_are is;
  }
