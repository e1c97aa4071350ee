-- Facts in a queue: one more, and the first taken.
use Rattle.std.proofs.Common.{◌≡◌, ℕ, ◌+◌, ◌-◌, ◌≤◌, zero, suc, List, [], ◌∷◌, ◌++◌, length, take, drop, Option, Some, None, refl, sym, ap}
use Rattle.std.proofs.Common.{subst, ◌∙◌, arith}
use Rattle.std.specs.List.{slice_get}
use Rattle.std.proofs.lemmas.List.{take-append-le, drop-append-le, length-append, length-drop}
use Rattle.hprof_values.specs.declared.ids.IdSize.{IdSize}
use Rattle.hprof_items.specs.FactValue.{FactValue, ListsHave, value_of}
use Rattle.hprof_items.specs.declared.fact.Fact.{Fact}
use Rattle.hprof_items.specs.Spelling.{Fits}
use Rattle.hprof_items.specs.SubRecord.{dump_bytes}
use Rattle.hprof_stream.specs.Run.{FitsBegun, ListsHaveBegun, SpellsBegun}
use Rattle.hprof_rows.proofs.HeapRows.{spelled_read}
use Rattle.hprof_facts.specs.declared.queue.Queue.{Queue}
use Rattle.hprof_facts.specs.declared.kept.Form.{Form}
use Rattle.hprof_facts.specs.declared.kept.Form.TheVariants as forms
use Rattle.hprof_facts.specs.Queues.{Holds}
use Rattle.hprof_facts.specs.declared.kept.Slot.{Slot}
use Rattle.hprof_facts.specs.Kept.{Keeps, KeepsAt, AreKept, AreKeptUnder}

-- more bytes came behind
kept_more : (ids : IdSize) (bytes more : List ℕ) (slot : Slot) (fact : FactValue) → KeepsAt ids bytes slot fact
    → KeepsAt ids (bytes ++ more) slot fact
kept_more ids bytes more slot fact kept =
    let within = kept.within in
    let first : slot.at ≤ length bytes = omega (arith, within) in
    let behind : length (drop slot.at bytes) ≡ length bytes - slot.at = length-drop slot.at bytes in
    let same : take slot.len (drop slot.at (bytes ++ more)) ≡ take slot.len (drop slot.at bytes) =
    ap (take slot.len) (drop-append-le slot.at bytes more first)
    ∙ take-append-le slot.len (drop slot.at bytes) more (omega (arith, within, behind)) in
    record {
      within = omega (arith, within, length-append bytes more);
      keeps = subst (λ (l : List ℕ). Keeps ids slot.form l fact) (sym same) kept.keeps;
    }

-- one more fact
are_more : (ids : IdSize) (bytes more : List ℕ) (slots : List Slot) (facts : List FactValue) (slot : Slot) (fact : FactValue)
    → AreKept ids bytes slots facts → KeepsAt ids (bytes ++ more) slot fact
    → AreKept ids (bytes ++ more) (slots ++ slot ∷ []) (facts ++ fact ∷ [])
are_more ids bytes more [] [] slot fact are one = (one, tt)
are_more ids bytes more (s ∷ slots) (f ∷ facts) slot fact are one =
    (kept_more ids bytes more s f are.0, are_more ids bytes more slots facts slot fact are.1 one)
are_more ids bytes more [] (f ∷ facts) slot fact are one = absurd are
are_more ids bytes more (s ∷ slots) [] slot fact are one = absurd are

-- the bytes at the end of a buffer
at_end : (bytes more : List ℕ) → take (length more) (drop (length bytes) (bytes ++ more)) ≡ more
at_end [] more = take_all more
  where
    take_all : (l : List ℕ) → take (length l) l ≡ l
    take_all [] = refl
    take_all (x ∷ l) = ap (λ (r : List ℕ). x ∷ r) (take_all l)
at_end (x ∷ bytes) more = at_end bytes more

-- a fact is kept behind the others
pub held_more : (ids : IdSize) (bytes more : List ℕ) (slots : List Slot) (at : ℕ) (facts : List FactValue) (slot : Slot) (fact : FactValue)
    → at ≤ length slots → AreKept ids bytes (drop at slots) facts → slot.at ≡ length bytes → slot.len ≡ length more
    → Keeps ids slot.form more fact
    → (at ≤ length (slots ++ slot ∷ [])) × AreKept ids (bytes ++ more) (drop at (slots ++ slot ∷ [])) (facts ++ fact ∷ [])
held_more ids bytes more slots at facts slot fact within are begins long keeps = (
  omega (arith, within, length-append slots (slot ∷ [])),
  subst (λ (l : List Slot). AreKept ids (bytes ++ more) l (facts ++ fact ∷ [])) (sym (drop-append-le at slots (slot ∷ []) within))
      (are_more ids bytes more (drop at slots) facts slot fact are (record {
        within = omega (arith, begins, long, length-append bytes more);
        keeps = subst (λ (l : List ℕ). Keeps ids slot.form l fact) (sym same) keeps;
      })),
)
  where
    same : take slot.len (drop slot.at (bytes ++ more)) ≡ more
    same = ap (λ (n : ℕ). take n (drop slot.at (bytes ++ more))) long
        ∙ ap (λ (n : ℕ). take (length more) (drop n (bytes ++ more))) begins ∙ at_end bytes more

-- the first of those that are left
pub record IsFirst (ids : IdSize) (bytes : List ℕ) (slots : List Slot) (at : ℕ) (fact : FactValue) (facts : List FactValue) : Type 0 where
  pub slot : Slot
  pub stands : slice_get slots at ≡ Some slot
  pub keeps : KeepsAt ids bytes slot fact
  pub others : AreKept ids bytes (drop (suc at) slots) facts

pub first_of : (ids : IdSize) (bytes : List ℕ) (slots : List Slot) (at : ℕ) (fact : FactValue) (facts : List FactValue)
    → AreKept ids bytes (drop at slots) (fact ∷ facts) → IsFirst ids bytes slots at fact facts
first_of ids bytes [] zero fact facts are = absurd are
first_of ids bytes [] (suc at) fact facts are = absurd are
first_of ids bytes (s ∷ slots) zero fact facts are = record { slot = s; stands = refl; keeps = are.0; others = are.1 }
first_of ids bytes (s ∷ slots) (suc at) fact facts are =
    let it = first_of ids bytes slots at fact facts are in
    record { slot = it.slot; stands = it.stands; keeps = it.keeps; others = it.others }

-- no fact is left only where no slot is
pub none_left : (begun : Option IdSize) (bytes : List ℕ) (slots : List Slot) → AreKeptUnder begun bytes slots [] → slots ≡ []
none_left None bytes slots are = are.0
none_left (Some ids) bytes [] are = refl
none_left (Some ids) bytes (s ∷ slots) are = absurd are

-- the same as the queue has them
pub held_under : (begun : Option IdSize) (ids : IdSize) (bytes more after : List ℕ) (slots slots_after : List Slot) (at : ℕ)
    (facts : List FactValue) (slot : Slot) (fact : FactValue) → begun ≡ Some ids → after ≡ bytes ++ more → slots_after ≡ slots ++ slot ∷ []
    → at ≤ length slots → AreKeptUnder begun bytes (drop at slots) facts → slot.at ≡ length bytes → slot.len ≡ length more
    → Keeps ids slot.form more fact
    → (at ≤ length slots_after) × AreKeptUnder begun after (drop at slots_after) (facts ++ fact ∷ [])
held_under begun ids bytes more after slots slots_after at facts slot fact is same longer within are begins long keeps =
    let under : AreKeptUnder (Some ids) bytes (drop at slots) facts =
    subst (λ (b : Option IdSize). AreKeptUnder b bytes (drop at slots) facts) is are in
    subst (λ (l : List Slot). (at ≤ length l) × AreKeptUnder begun after (drop at l) (facts ++ fact ∷ [])) (sym longer)
    (subst (λ (b : List ℕ). (at ≤ length (slots ++ slot ∷ [])) × AreKeptUnder begun b (drop at (slots ++ slot ∷ [])) (facts ++ fact ∷ []))
    (sym same)
    (subst (λ (b : Option IdSize). (at ≤ length (slots ++ slot ∷ [])) × AreKeptUnder b (bytes ++ more) (drop at (slots ++ slot ∷ []))
    (facts ++ fact ∷ [])) (sym is)
    (held_more ids bytes more slots at facts slot fact within under begins long keeps)))

-- going on to the first that is left
pub record IsGoneTo (begun : Option IdSize) (bytes : List ℕ) (slots : List Slot) (at : ℕ) (fact : FactValue) (facts : List FactValue) :
    Type 0 where
  pub ids : IdSize
  pub is : begun ≡ Some ids
  pub first : IsFirst ids bytes slots at fact facts

pub gone_to : (begun : Option IdSize) (bytes : List ℕ) (slots : List Slot) (at : ℕ) (fact : FactValue) (facts : List FactValue)
    → AreKeptUnder begun bytes (drop at slots) (fact ∷ facts) → IsGoneTo begun bytes slots at fact facts
gone_to None bytes slots at fact facts are = let never = are.1 in absurd cc
gone_to (Some ids) bytes slots at fact facts are = record { ids = ids; is = refl; first = first_of ids bytes slots at fact facts are }

-- and the others are left
pub goes_under : (begun : Option IdSize) (bytes : List ℕ) (slots : List Slot) (at : ℕ) (fact : FactValue) (facts : List FactValue)
    → IsGoneTo begun bytes slots at fact facts → AreKeptUnder begun bytes (drop (at + 1) slots) facts
goes_under begun bytes slots at fact facts gone =
    let next : suc at ≡ at + 1 = omega arith in
    subst (λ (b : Option IdSize). AreKeptUnder b bytes (drop (at + 1) slots) facts) (sym gone.is)
    (subst (λ (n : ℕ). AreKept gone.ids bytes (drop n slots) facts) next gone.first.others)

-- no facts are so many under each size
pub none_under : (begun : Option IdSize) (ids : IdSize) (bytes : List ℕ) (slots : List Slot) → AreKeptUnder begun bytes slots []
    → AreKept ids bytes slots []
none_under begun ids bytes slots are = subst (λ (l : List Slot). AreKept ids bytes l []) (sym (none_left begun bytes slots are)) tt

-- what a sink may rest on, once a size was begun
pub record IsGiven (begun : Option IdSize) (fact : Fact) (spelled : List ℕ) : Type 0 where
  pub ids : IdSize
  pub is : begun ≡ Some ids
  pub fits : Fits ids (value_of fact)
  pub lists : ListsHave ids fact
  pub spells : spelled ≡ dump_bytes ids (value_of fact)

pub given : (begun : Option IdSize) (fact : Fact) (spelled : List ℕ) → FitsBegun begun (value_of fact) → ListsHaveBegun begun fact
    → SpellsBegun begun (value_of fact) spelled → IsGiven begun fact spelled
given None fact spelled fits lists spells = absurd fits
given (Some ids) fact spelled fits lists spells = record { ids = ids; is = refl; fits = fits; lists = lists; spells = spells }

-- all are kept where more bytes came behind
are_kept_more : (ids : IdSize) (bytes more : List ℕ) (slots : List Slot) (facts : List FactValue) → AreKept ids bytes slots facts
    → AreKept ids (bytes ++ more) slots facts
are_kept_more ids bytes more [] [] are = tt
are_kept_more ids bytes more (s ∷ slots) (f ∷ facts) are =
    (kept_more ids bytes more s f are.0, are_kept_more ids bytes more slots facts are.1)
are_kept_more ids bytes more [] (f ∷ facts) are = absurd are
are_kept_more ids bytes more (s ∷ slots) [] are = absurd are

pub are_kept_under_more : (begun : Option IdSize) (bytes more : List ℕ) (slots : List Slot) (facts : List FactValue)
    → AreKeptUnder begun bytes slots facts → AreKeptUnder begun (bytes ++ more) slots facts
are_kept_under_more None bytes more slots facts are = are
are_kept_under_more (Some ids) bytes more slots facts are = are_kept_more ids bytes more slots facts are

-- ---- a queue holds one list of facts

keeps_once : (ids : IdSize) (form : Form) (bytes : List ℕ) (fact other : FactValue) → Keeps ids form bytes fact → Keeps ids form bytes other
    → fact ≡ other
keeps_once ids (forms.Name id) bytes fact other keeps too = keeps ∙ sym too
keeps_once ids (forms.Load serial class trace name) bytes fact other keeps too = keeps ∙ sym too
keeps_once ids (forms.Unload serial) bytes fact other keeps too = keeps ∙ sym too
keeps_once ids (forms.Frame id method signature source class_serial line) bytes fact other keeps too = keeps ∙ sym too
keeps_once ids (forms.Trace serial thread) bytes fact other keeps too = keeps.1 ∙ sym too.1
keeps_once ids (forms.Start thread object trace name group parent_group) bytes fact other keeps too = keeps ∙ sym too
keeps_once ids (forms.End thread) bytes fact other keeps too = keeps ∙ sym too
keeps_once ids (forms.Object id) bytes fact other keeps too =
    sym (spelled_read ids 0 fact bytes keeps.0) ∙ spelled_read ids 0 other bytes too.0
keeps_once ids forms.Spelled bytes fact other keeps too =
    sym (spelled_read ids 0 fact bytes keeps.0) ∙ spelled_read ids 0 other bytes too.0

are_kept_once : (ids : IdSize) (bytes : List ℕ) (slots : List Slot) (facts others : List FactValue) → AreKept ids bytes slots facts
    → AreKept ids bytes slots others → facts ≡ others
are_kept_once ids bytes [] [] [] are too = refl
are_kept_once ids bytes (s ∷ slots) (f ∷ facts) (o ∷ others) are too =
    let one = keeps_once ids s.form (take s.len (drop s.at bytes)) f o are.0.keeps too.0.keeps in
    let rest = are_kept_once ids bytes slots facts others are.1 too.1 in
    ap (λ (x : FactValue). x ∷ facts) one ∙ ap (λ (l : List FactValue). o ∷ l) rest
are_kept_once ids bytes [] [] (o ∷ others) are too = absurd too
are_kept_once ids bytes [] (f ∷ facts) others are too = absurd are
are_kept_once ids bytes (s ∷ slots) [] others are too = absurd are
are_kept_once ids bytes (s ∷ slots) (f ∷ facts) [] are too = absurd too

under_once : (begun : Option IdSize) (bytes : List ℕ) (slots : List Slot) (facts others : List FactValue)
    → AreKeptUnder begun bytes slots facts → AreKeptUnder begun bytes slots others → facts ≡ others
under_once None bytes slots facts others are too = are.1 ∙ sym too.1
under_once (Some ids) bytes slots facts others are too = are_kept_once ids bytes slots facts others are too

pub holds_once : (queue : Queue) (facts others : List FactValue) → Holds queue facts → Holds queue others → facts ≡ others
holds_once queue facts others holds too =
    under_once queue.begun queue.bytes.items (drop queue.given queue.slots.items) facts others holds.1 too.1
