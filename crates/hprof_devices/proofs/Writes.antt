-- What several writes, one after the other, do together.
use Rattle.std.proofs.Common.{◌≡◌, ℕ, ◌+◌, ◌≤◌, List, [], ◌++◌, length, take, Option, Result, Ok, Err, refl, sym, ap, subst, ◌∙◌}
use Rattle.std.proofs.Common.{append_assoc, append-nil, arith}
use Rattle.std.proofs.lemmas.List.{take-append-le, length-append, nil_from_length}
use Rattle.std.proofs.Math.Seq.{take-append_seam, take-append-add}
use Rattle.std.proofs.KnownBytes.{Appends-nil, Appends-trans, Appends-kept}
use Rattle.std.specs.Io.KnownBytes.{Keeps, Appends}
use Rattle.hprof_devices.specs.declared.health.WriteFault.{WriteFault}
use Rattle.hprof_devices.specs.Device.{Writes}

-- ---- one piece after another

-- what a write that went well answers
abbrev pub done : {A : Type 0} → A → Result A WriteFault
done x = Ok x

-- some of the bytes went out, from the front
abbrev pub WritesFront : Option (List ℕ) → Option (List ℕ) → List ℕ → Type 0
WritesFront old new bytes = (n : ℕ) × (n ≤ length bytes) × Appends old new (take n bytes)

-- a part of the front is a part of the whole
pub WritesFront-more : (old new : Option (List ℕ)) (a b : List ℕ) → WritesFront old new a → WritesFront old new (a ++ b)
WritesFront-more old new a b w =
    (w.0, omega (arith, w.1, length-append a b), subst (Appends old new) (sym (take-append-le w.0 a b w.1)) w.2)

-- all of the front, and then a part of what follows
pub WritesFront-then : (old mid new : Option (List ℕ)) (a b : List ℕ) → Appends old mid a → WritesFront mid new b
    → WritesFront old new (a ++ b)
WritesFront-then old mid new a b first w = (
  length a + w.0,
  omega (arith, w.1, length-append a b),
  subst (Appends old new) (sym (take-append-add a b w.0)) (Appends-trans old mid new a (take w.0 b) first w.2),
)

-- a write that went well, and then another
pub Writes-then : {A B : Type 0} (old mid new : Option (List ℕ)) (x : A) (r : Result B WriteFault) (a b : List ℕ)
    → Writes old mid (done x) a → Writes mid new r b → Writes old new r (a ++ b)
Writes-then old mid new x (Ok y) a b first second = Appends-trans old mid new a b first second
Writes-then old mid new x (Err f) a b first second = WritesFront-then old mid new a b first second

-- a write of a front that stopped, which is what `Writes` says at `Err`
pub Writes-stops : {B : Type 0} (old new : Option (List ℕ)) (r : Result B WriteFault) (f : WriteFault) (a b : List ℕ) → r ≡ Err f
    → WritesFront old new a → Writes old new r (a ++ b)
Writes-stops old new (Ok y) f a b stop first = absurd cc
Writes-stops old new (Err e) f a b stop first = WritesFront-more old new a b first

-- ---- a loop that pushes

-- what was pushed of all the bytes, and what is left of them
pub record Pushed (old new : Option (List ℕ)) (all rest : List ℕ) : Type 0 where
  pub front : List ℕ
  pub parts : all ≡ front ++ rest
  pub appended : Appends old new front

-- before the first push
pub Pushed-none : (old : Option (List ℕ)) (all : List ℕ) → Pushed old old all all
Pushed-none old all = record { front = []; parts = refl; appended = Appends-nil old }

-- a push of the piece that comes next
pub Pushed-more : (old mid new : Option (List ℕ)) (all rest piece others : List ℕ) → Pushed old mid all rest → rest ≡ piece ++ others
    → Appends mid new piece → Pushed old new all others
Pushed-more old mid new all rest piece others p split appends = record {
  front = p.front ++ piece;
  parts = p.parts ∙ ap (λ (r : List ℕ). p.front ++ r) split ∙ sym (append_assoc p.front piece others);
  appended = Appends-trans old mid new p.front piece p.appended appends;
}

-- nothing is left to push
pub Pushed-all : (old new : Option (List ℕ)) (all rest : List ℕ) → Pushed old new all rest → length rest ≡ 0 → Appends old new all
Pushed-all old new all rest p none =
    subst (Appends old new) (sym (p.parts ∙ ap (λ (r : List ℕ). p.front ++ r) (nil_from_length rest none) ∙ append-nil p.front)) p.appended

-- a push that came to nothing
pub Pushed-stopped : (old mid new : Option (List ℕ)) (all rest : List ℕ) → Pushed old mid all rest → Keeps mid new → WritesFront old new all
Pushed-stopped old mid new all rest p kept = (
  length p.front,
  omega (arith, ap length p.parts, length-append p.front rest),
  subst (Appends old new) (sym (ap (take (length p.front)) p.parts ∙ take-append_seam p.front rest))
      (Appends-kept old mid new p.front p.appended kept),
)
