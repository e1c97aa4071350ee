-- A queue of facts.
use Rattle.std.specs.Prelude.{◌≡◌, ◌==◌, ℕ, ◌+◌, ◌-◌, ◌<◌, ◌≤◌, nat_le, Bool, false, List, [], ◌∷◌, ◌++◌, drop, take, length, slice_get}
use Rattle.std.specs.Prelude.{if◌then◌else◌, Option, Some, None, unwrap_or}
use Rattle.hprof_values.specs.declared.ids.IdSize.{IdSize}
use Rattle.hprof_items.specs.declared.header.Header.{Header}
use Rattle.hprof_items.specs.FactValue.{FactValue}
use Rattle.hprof_stream.specs.declared.sink.SinkFault.{SinkFault}
use Rattle.hprof_stream.specs.declared.sink.SinkFault.TheVariants.{OutOfMemory}
use Rattle.hprof_facts.specs.declared.queue.Queue.{Queue}
use Rattle.hprof_facts.specs.declared.kept.Form.{Form}
use Rattle.hprof_facts.specs.declared.kept.Form.TheVariants.{Object, Spelled}
use Rattle.hprof_facts.specs.declared.kept.Slot.{Slot}
use Rattle.hprof_facts.specs.Kept.{AreKeptUnder, KeepsAt}

-- the size that was begun last
abbrev pub begun_with : Queue → Option IdSize
begun_with queue = queue.begun

-- it refused a fact
abbrev pub has_refused : Queue → Bool
has_refused queue = queue.failed

-- how many facts were given since it was emptied
abbrev pub given_of : Queue → ℕ
given_of queue = queue.given

-- these facts are still to be given
abbrev pub Holds : Queue → List FactValue → Type 0
Holds queue facts = (queue.given ≤ length queue.slots.items)
    × AreKeptUnder queue.begun queue.bytes.items (drop queue.given queue.slots.items) facts

-- this fact was given last
pub record HasCurrent (queue : Queue) (fact : FactValue) : Type 0 where
  pub ids : IdSize
  pub slot : Slot
  pub begun : queue.begun ≡ Some ids
  pub some : 0 < queue.given
  pub stands : slice_get queue.slots.items (queue.given - 1) ≡ Some slot
  pub keeps : KeepsAt ids queue.bytes.items slot fact

-- its slot
abbrev pub last_slot : Queue → Option Slot
last_slot queue = if queue.given == 0 then None else slice_get queue.slots.items (queue.given - 1)

-- the bytes of a slot
abbrev pub held_at : List ℕ → Slot → Option (List ℕ)
held_at bytes slot = if nat_le (slot.at + slot.len) (length bytes) then Some (take slot.len (drop slot.at bytes)) else None

-- the bytes that are kept with a form, where they are those of a sub-record
abbrev pub spelled_in : Form → List ℕ → List ℕ
spelled_in (Object id) bytes = bytes
spelled_in Spelled bytes = bytes
spelled_in form bytes = []

abbrev pub spelled_at : List ℕ → Option Slot → List ℕ
spelled_at bytes None = []
spelled_at bytes (Some slot) = spelled_in slot.form (unwrap_or (held_at bytes slot) [])

-- those of the fact that was given last
abbrev pub spelled_last : Queue → List ℕ
spelled_last queue = spelled_at queue.bytes.items (last_slot queue)

-- ---- the queue as a sink

-- a header empties it
abbrev pub queue_begins : Queue → Header → Queue → Type 0
queue_begins old header new = (has_refused new ≡ false) × Holds new [] × (given_of new ≡ 0) × (begun_with new ≡ Some header.ids)

-- a fact is held behind the others
abbrev pub queue_steps : Queue → FactValue → Queue → Type 0
queue_steps old fact new =
    (has_refused new ≡ false) × ((facts : List FactValue) → Holds old facts → Holds new (facts ++ fact ∷ []))
    × (given_of new ≡ given_of old) × (begun_with new ≡ begun_with old)

-- only memory can be wanting, and nothing that it holds is lost
abbrev pub queue_refuses : Queue → List FactValue → SinkFault → Queue → Type 0
queue_refuses old given fault new =
    (has_refused old ≡ false → fault ≡ OutOfMemory) × ((facts : List FactValue) → Holds old facts → Holds new facts)
    × (given_of new ≡ given_of old) × (begun_with new ≡ begun_with old)
