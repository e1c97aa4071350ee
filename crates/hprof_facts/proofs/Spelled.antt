-- The bytes that a queue keeps of the fact that was given last are those of its sub-record.
use Rattle.std.proofs.Common.{◌≡◌, ◌<◌, ◌≤◌, ◌+◌, ◌-◌, ℕ, List, [], length, take, drop, Option, Some, None, unwrap_or, nat_eq, nat_le}
use Rattle.std.proofs.Common.{sym, ap, subst, ◌∙◌, arith}
use Rattle.std.proofs.lemmas.Bool.{cond-false, cond-true, le-leb, ne_eqb}
use Rattle.std.specs.Prelude.{slice_get}
use Rattle.hprof_values.specs.declared.ids.IdSize.{IdSize}
use Rattle.hprof_items.specs.FactValue.{FactValue}
use Rattle.hprof_items.specs.SubRecord.{dump_bytes}
use Rattle.hprof_stream.specs.Run.{SpellsBegun}
use Rattle.hprof_facts.specs.Kept.{Keeps}
use Rattle.hprof_facts.specs.Queues.{HasCurrent, begun_with, held_at, last_slot, spelled_at, spelled_in, spelled_last}
use Rattle.hprof_facts.specs.declared.kept.Form.{Form}
use Rattle.hprof_facts.specs.declared.kept.Form.TheVariants as forms
use Rattle.hprof_facts.specs.declared.kept.Slot.{Slot}
use Rattle.hprof_facts.specs.declared.queue.Queue.{Queue}

kept_spelled : (ids : IdSize) (form : Form) (bytes : List ℕ) (fact : FactValue) → Keeps ids form bytes fact
    → spelled_in form bytes ≡ dump_bytes ids fact
kept_spelled ids (forms.Name id) bytes fact keeps = sym (ap (dump_bytes ids) keeps)
kept_spelled ids (forms.Load serial class trace name) bytes fact keeps = sym (ap (dump_bytes ids) keeps)
kept_spelled ids (forms.Unload serial) bytes fact keeps = sym (ap (dump_bytes ids) keeps)
kept_spelled ids (forms.Frame id method signature source class_serial line) bytes fact keeps = sym (ap (dump_bytes ids) keeps)
kept_spelled ids (forms.Trace serial thread) bytes fact keeps = sym (ap (dump_bytes ids) keeps.1)
kept_spelled ids (forms.Start thread object trace name group parent_group) bytes fact keeps = sym (ap (dump_bytes ids) keeps)
kept_spelled ids (forms.End thread) bytes fact keeps = sym (ap (dump_bytes ids) keeps)
kept_spelled ids (forms.Object id) bytes fact keeps = keeps.0.spelled
kept_spelled ids forms.Spelled bytes fact keeps = keeps.0.spelled

-- a slot that lies within the bytes
pub held_within : (bytes : List ℕ) (slot : Slot) → slot.at + slot.len ≤ length bytes
    → held_at bytes slot ≡ Some (take slot.len (drop slot.at bytes))
held_within bytes slot within =
    cond-true (nat_le (slot.at + slot.len) (length bytes)) (Some (take slot.len (drop slot.at bytes))) None
    (le-leb (slot.at + slot.len) (length bytes) within)

-- the slot of a fact that was given
pub slot_given : (queue : Queue) → 0 < queue.given → last_slot queue ≡ slice_get queue.slots.items (queue.given - 1)
slot_given queue some =
    cond-false (nat_eq queue.given 0) None (slice_get queue.slots.items (queue.given - 1))
    (ne_eqb queue.given 0 (λ none. omega (arith, some, none)))

pub current_spelled : (queue : Queue) (fact : FactValue) → HasCurrent queue fact → SpellsBegun (begun_with queue) fact (spelled_last queue)
current_spelled queue fact current =
    let slot = current.slot in
    let bytes = queue.bytes.items in
    subst (λ (b : Option IdSize). SpellsBegun b fact (spelled_last queue)) (sym current.begun)
    (ap (spelled_at bytes) (slot_given queue current.some ∙ current.stands)
    ∙ ap (λ (o : Option (List ℕ)). spelled_in slot.form (unwrap_or o [])) (held_within bytes slot current.keeps.within)
    ∙ kept_spelled current.ids slot.form _ fact current.keeps.keeps)
