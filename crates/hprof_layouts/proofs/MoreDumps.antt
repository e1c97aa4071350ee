-- What stays with more class dumps.
use Rattle.std.proofs.Common.{ℕ, List, [], ◌∷◌, Option, Some, None}
use Rattle.hprof_values.specs.declared.ids.IdSize.{IdSize}
use Rattle.hprof_items.specs.FactValue.{FactValue}
use Rattle.hprof_heap.specs.Classes.{ClassValue, HasDump}
use Rattle.hprof_layouts.specs.declared.slot.Slot.{Slot}
use Rattle.hprof_layouts.specs.Chain.{IsChain}
use Rattle.hprof_layouts.specs.Layout.{IsKnown}
use Rattle.hprof_layouts.specs.declared.known.Waiting.{Waiting}
use Rattle.hprof_layouts.specs.declared.plan.Jump.{Jump}
use Rattle.hprof_layouts.specs.declared.plan.Plan.{Plan}
use Rattle.hprof_layouts.specs.Known.{IsWaiting}
use Rattle.hprof_layouts.specs.Plan.{IsFirstJump, IsJump, IsPlan}

module _ (facts more : List FactValue) (all : (dump : ClassValue) → HasDump facts dump → HasDump more dump) where
  pub chain_stays : (class end : ℕ) (dumps : List ClassValue) → IsChain facts class dumps end → IsChain more class dumps end
  chain_stays class end [] chain = chain
  chain_stays class end (dump ∷ dumps) chain = (chain.0, chain.1, all dump chain.2, chain_stays dump.parent end dumps chain.3)

  pub known_stays : (class : ℕ) (slots : List Slot) → IsKnown facts class slots → IsKnown more class slots
  known_stays class slots is = record { dumps = is.dumps; chain = chain_stays class 0 is.dumps is.chain; slots_are = is.slots_are }

  module _ (ids : IdSize) where
    pub jump_stays : (slots : List Slot) (jump : Jump) → IsJump ids facts slots jump → IsJump ids more slots jump
    jump_stays slots jump is = record {
      before = is.before;
      rest = is.rest;
      slots_are = is.slots_are;
      none_refers = is.none_refers;
      offset_is = is.offset_is;
      place_is = is.place_is;
      not_zero = is.not_zero;
      known = known_stays jump.class is.rest is.known;
      dump = is.dump;
      has = all is.dump is.has;
      id = is.id;
      some = is.some;
    }

    pub first_stays : (slots : List Slot) (first : Option Jump) → IsFirstJump ids facts slots first → IsFirstJump ids more slots first
    first_stays slots None is = is
    first_stays slots (Some jump) is = jump_stays slots jump is

    pub plan_stays : (class : ℕ) (slots : List Slot) (plan : Plan) → IsPlan ids facts class slots plan → IsPlan ids more class slots plan
    plan_stays class slots plan is = record {
      not_zero = is.not_zero;
      dump = is.dump;
      has = all is.dump is.has;
      id = is.id;
      known = known_stays class slots is.known;
      more = is.more;
      left = is.left;
      slots_are = is.slots_are;
      width_is = is.width_is;
      own_are = is.own_are;
      above_is = first_stays is.left plan.above is.above_is;
      begins = is.begins;
    }

    pub waiting_stays : (superclass : ℕ) (waiting : Waiting) → IsWaiting ids facts superclass waiting
        → IsWaiting ids more superclass waiting
    waiting_stays superclass waiting is = record {
      dump = is.dump;
      has = all is.dump is.has;
      id = is.id;
      parent = is.parent;
      own_are = is.own_are;
    }
