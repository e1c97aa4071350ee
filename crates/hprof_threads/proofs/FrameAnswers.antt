-- A stack frame has one line.
use Rattle.std.specs.Prelude.{ℤ, pos, IfOk, string_bytes}
use Rattle.std.specs.List.{find}
use Rattle.std.proofs.Common.{◌≡◌, ℕ, List, ◌++◌, Option, Some, None, Result, String, Global, codes}
use Rattle.std.proofs.Common.{refl, ap, subst, ◌∙◌, sym, append_assoc}
use Rattle.hprof_items.specs.declared.fact.Fact.{Fact}
use Rattle.hprof_items.specs.declared.fact.Fact.TheVariants as handed
use Rattle.hprof_items.specs.FactValue.{FactValue, value_of, Frame, Load}
use Rattle.hprof_rows.specs.declared.key.Key.TheVariants as keys
use Rattle.hprof_rows.specs.Conflict.{IsConsistent}
use Rattle.hprof_rows.specs.Facts.{Has}
use Rattle.hprof_rows.specs.Key.{has_key}
use Rattle.hprof_naming.specs.Naming.{IsNaming, Naming}
use Rattle.hprof_naming.proofs.Namings.{of_text}
use Rattle.hprof_threads.specs.declared.stack_frame.StackFrame.{StackFrame}
use Rattle.hprof_threads.specs.Frames.{HasFrame, IsClassOfFrame, IsFrameFound, IsFrameLine, IsLoadFound, IsLoaded, frame_line}
use Rattle.hprof_threads.specs.Frames.{class_text, place_text}
use Rattle.hprof_threads.proofs.KeyedFacts.{Found, NotFound, is_of_key, keyed, look_up}

-- ---- what is found

pub frame_there : (facts : List FactValue) (id own method signature source class : ℕ) (line : ℤ) (fact : Fact)
    → Some (value_of fact) ≡ find (has_key (keys.Frame id)) facts → fact ≡ handed.Frame own method signature source class line
    → HasFrame facts id (record { method = method; source = source; class_serial = class; line = line })
frame_there facts id own method signature source class line fact e is =
    let it = keyed facts (keys.Frame id) (Frame own method signature source class line)
    (subst (λ (f : Fact). Some (value_of f) ≡ find (has_key (keys.Frame id)) facts) is e) in
    let same : Some (keys.Frame own) ≡ Some (keys.Frame id) = it.key_is in
    let one : own ≡ id = cc in
    record { signature = signature; has = subst (λ (n : ℕ). Has facts (Frame n method signature source class line)) one it.has }

pub load_there : (facts : List FactValue) (serial own class trace name : ℕ) (fact : Fact)
    → Some (value_of fact) ≡ find (has_key (keys.Load serial)) facts → fact ≡ handed.Load own class trace name
    → IsLoaded facts serial name
load_there facts serial own class trace name fact e is =
    let it = keyed facts (keys.Load serial) (Load own class trace name)
    (subst (λ (f : Fact). Some (value_of f) ≡ find (has_key (keys.Load serial)) facts) is e) in
    let same : Some (keys.Load own) ≡ Some (keys.Load serial) = it.key_is in
    let one : own ≡ serial = cc in
    record { class = class; trace = trace; has = subst (λ (n : ℕ). Has facts (Load n class trace name)) one it.has }

-- ---- there is one

frame_exists : (facts : List FactValue) (id : ℕ) → (frame : Option StackFrame) × IsFrameFound facts id frame
frame_exists facts id = elim (look_up facts (keys.Frame id)) [
  | Found fact is ↦
      let of = is_of_key (keys.Frame id) fact is.key_is in
      let frame : StackFrame = record { method = of.0; source = of.2; class_serial = of.3; line = of.4 } in
      (Some frame, record { signature = of.1; has = subst (Has facts) of.5 is.has })
  | NotFound none ↦ (
    None,
    λ frame is. none (Frame id frame.method is.signature frame.source frame.class_serial frame.line) is.has refl,
  )
]

load_exists : (facts : List FactValue) (serial : ℕ) → (name : Option ℕ) × IsLoadFound facts serial name
load_exists facts serial = elim (look_up facts (keys.Load serial)) [
  | Found fact is ↦
      let of = is_of_key (keys.Load serial) fact is.key_is in
      (Some of.2, record { class = of.0; trace = of.1; has = subst (Has facts) of.3 is.has })
  | NotFound none ↦ (None, λ name is. none (Load serial is.class is.trace name) is.has refl)
]

class_exists : (facts : List FactValue) (frame : Option StackFrame) → (class : Option ℕ) × IsClassOfFrame facts frame class
class_exists facts (Some frame) = load_exists facts frame.class_serial
class_exists facts None = (None, refl)

pub line_exists : (facts : List FactValue) (naming : Naming) (id : ℕ) → (line : List ℕ) × IsFrameLine facts naming id line
line_exists facts naming id =
    let frame = frame_exists facts id in
    let class = class_exists facts frame.0 in (
      frame_line naming id frame.0 class.0,
      record { frame = frame.0; frame_found = frame.1; class = class.0; class_found = class.1; is = refl },
    )

-- ---- and one at most

frame_in : FactValue → StackFrame
frame_in (Frame id method signature source class line) = record { method = method; source = source; class_serial = class; line = line }
frame_in fact = record { method = 0; source = 0; class_serial = 0; line = pos 0 }

name_in : FactValue → ℕ
name_in (Load serial class trace name) = name
name_in fact = 0

module _ (facts : List FactValue) (agree : IsConsistent facts) where
  frame_once : (id : ℕ) (one other : Option StackFrame) → IsFrameFound facts id one → IsFrameFound facts id other → one ≡ other
  unfolding frame_in
  frame_once id None None is too = refl
  frame_once id None (Some other) is too = absurd (is other too)
  frame_once id (Some one) None is too = absurd (too one is)
  frame_once id (Some one) (Some other) is too =
      ap Some (ap frame_in (agree (keys.Frame id) (Frame id one.method is.signature one.source one.class_serial one.line)
      (Frame id other.method too.signature other.source other.class_serial other.line) is.has too.has refl refl))

  load_once : (serial : ℕ) (one other : Option ℕ) → IsLoadFound facts serial one → IsLoadFound facts serial other → one ≡ other
  unfolding name_in
  load_once serial None None is too = refl
  load_once serial None (Some other) is too = absurd (is other too)
  load_once serial (Some one) None is too = absurd (too one is)
  load_once serial (Some one) (Some other) is too =
      ap Some (ap name_in (agree (keys.Load serial) (Load serial is.class is.trace one) (Load serial too.class too.trace other)
      is.has too.has refl refl))

  class_once : (frame : Option StackFrame) (one other : Option ℕ) → IsClassOfFrame facts frame one → IsClassOfFrame facts frame other
      → one ≡ other
  class_once None one other is too = is ∙ sym too
  class_once (Some frame) one other is too = load_once frame.class_serial one other is too

  pub line_once : (naming : Naming) (id : ℕ) (one other : List ℕ) → IsFrameLine facts naming id one → IsFrameLine facts naming id other
      → one ≡ other
  line_once naming id one other is too =
      let frame = frame_once id is.frame too.frame is.frame_found too.frame_found in
      let class = class_once too.frame is.class too.class
      (subst (λ (f : Option StackFrame). IsClassOfFrame facts f is.class) frame is.class_found) too.class_found in
      is.is ∙ ap (λ (f : Option StackFrame). frame_line naming id f is.class) frame
      ∙ ap (λ (c : Option ℕ). frame_line naming id too.frame c) class ∙ sym too.is

-- ---- the line of its parts

grouped : (a b c d e f : List ℕ) → a ++ (b ++ (c ++ (d ++ (e ++ f)))) ≡ a ++ b ++ c ++ d ++ e ++ f
grouped a b c d e f =
    sym (append_assoc (a ++ b ++ c ++ d) e f ∙ append_assoc (a ++ b ++ c) d (e ++ f) ∙ append_assoc (a ++ b) c (d ++ (e ++ f))
    ∙ append_assoc a b (c ++ (d ++ (e ++ f))))

pub line_of_parts : (naming : Naming) (id : ℕ) (frame : StackFrame) (name : Option ℕ) (class method place : List ℕ)
    → class ≡ class_text naming name → method ≡ naming.name_text frame.method → place ≡ place_text naming frame.source frame.line
    → class ++ (codes "." ++ (method ++ (codes "(" ++ (place ++ codes ")")))) ≡ frame_line naming id (Some frame) name
line_of_parts naming id frame name class method place classes methods places =
    grouped class (codes ".") method (codes "(") place (codes ")")
    ∙ ap (λ (c : List ℕ). c ++ codes "." ++ method ++ codes "(" ++ place ++ codes ")") classes
    ∙ ap (λ (m : List ℕ). class_text naming name ++ codes "." ++ m ++ codes "(" ++ place ++ codes ")") methods
    ∙ ap (λ (p : List ℕ). class_text naming name ++ codes "." ++ naming.name_text frame.method ++ codes "(" ++ p ++ codes ")") places

-- ---- a text that is the line

module _ {E : Type 0} (facts : List FactValue) (agree : IsConsistent facts) (id : ℕ) (frame : StackFrame) (class : Option ℕ)
    (frame_found : IsFrameFound facts id (Some frame)) (class_found : IsLoadFound facts frame.class_serial class)
    (r : Result (String Global) E)
    (are : (naming : Naming) → IsNaming facts naming → IfOk r (λ text. string_bytes text ≡ frame_line naming id (Some frame) class)) where
  pub line_is : (naming : Naming) → IsNaming facts naming → IfOk r (λ text. IsFrameLine facts naming id (string_bytes text))
  line_is naming is =
      of_text (λ text. string_bytes text ≡ frame_line naming id (Some frame) class)
      (λ text. IsFrameLine facts naming id (string_bytes text)) r
      (λ text e. record { frame = Some frame; frame_found = frame_found; class = class; class_found = class_found; is = e }) (are naming is)

  pub only_line : (naming : Naming) (line : List ℕ) → IsNaming facts naming → IsFrameLine facts naming id line
      → IfOk r (λ text. string_bytes text ≡ line)
  only_line naming line is is_line =
      of_text (λ text. IsFrameLine facts naming id (string_bytes text)) (λ text. string_bytes text ≡ line) r
      (λ text form. line_once facts agree naming id (string_bytes text) line form is_line) (line_is naming is)
