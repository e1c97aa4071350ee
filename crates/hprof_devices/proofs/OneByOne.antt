-- Writing what has bytes, one after the other.
use Rattle.std.proofs.Common.{◌≡◌, ℕ, zero, suc, ◌-◌, ◌<◌, List, [], ◌∷◌, ◌++◌, Option, Result, Err, refl, sym, ap, subst, ◌∙◌}
use Rattle.std.proofs.Common.{append_assoc, append-nil, take, drop, arith}
use Rattle.std.specs.List.{flat_map}
use Rattle.std.specs.Io.KnownBytes.{Appends}
use Rattle.std.proofs.KnownBytes.{Appends-nil, Appends-trans}
use Rattle.std.proofs.lemmas.Grind.{flat_map-append}
use Rattle.hprof_devices.specs.declared.health.WriteFault.{WriteFault}
use Rattle.hprof_devices.specs.Device.{Writes}
use Rattle.hprof_devices.proofs.Writes.{WritesFront, Writes-then, Writes-stops}

-- ---- the next of those that are left

take_next : {A : Type 0} (left : ℕ) (one : A) (rest : List A) → 0 < left → take left (one ∷ rest) ≡ one ∷ take (left - 1) rest
take_next zero one rest some = absurd (omega arith)
take_next (suc left) one rest some = let less : suc left - 1 ≡ left = omega arith in rw less refl

drop_next : {A : Type 0} (left : ℕ) (one : A) (rest : List A) → 0 < left → drop left (one ∷ rest) ≡ drop (left - 1) rest
drop_next zero one rest some = absurd (omega arith)
drop_next (suc left) one rest some = let less : suc left - 1 ≡ left = omega arith in rw less refl

pub drop_first : {A : Type 0} (left : ℕ) (one : A) (others rest : List A) → 0 < left → others ≡ one ∷ rest
    → drop left others ≡ drop (left - 1) rest
drop_first left one others rest some e = ap (drop left) e ∙ drop_next left one rest some

-- ---- what was written

module _ {A : Type 0} (bytes_of : A → List ℕ) where
  -- what was written of all, and those still to come
  pub record Wrote (old new : Option (List ℕ)) (all rest : List A) : Type 0 where
    pub front : List A
    pub parts : all ≡ front ++ rest
    pub appended : Appends old new (flat_map bytes_of front)

  -- nothing was written so far
  pub Wrote-none : (old : Option (List ℕ)) (all : List A) → Wrote old old all all
  Wrote-none old all = record { front = []; parts = refl; appended = Appends-nil old }

  -- one more was written
  pub Wrote-more : (old mid new : Option (List ℕ)) (all : List A) (one : A) (rest : List A) → Wrote old mid all (one ∷ rest)
      → Appends mid new (bytes_of one)
      → Wrote old new all rest
  Wrote-more old mid new all one rest w appends = record {
    front = w.front ++ one ∷ [];
    parts = w.parts ∙ sym (append_assoc w.front (one ∷ []) rest);
    appended = subst (Appends old new)
        (sym (flat_map-append bytes_of w.front (one ∷ []) ∙ ap (λ (l : List ℕ). flat_map bytes_of w.front ++ l)
        (append-nil (bytes_of one))))
        (Appends-trans old mid new (flat_map bytes_of w.front) (bytes_of one) w.appended appends);
  }

  -- all were written
  pub Wrote-all : (old new : Option (List ℕ)) (all : List A) → Wrote old new all [] → Appends old new (flat_map bytes_of all)
  Wrote-all old new all w = subst (λ (l : List A). Appends old new (flat_map bytes_of l)) (sym (w.parts ∙ append-nil w.front)) w.appended

  -- one stopped the writing
  pub Wrote-stops : {B : Type 0} (old mid new : Option (List ℕ)) (r : Result B WriteFault) (f : WriteFault) (all : List A) (one : A)
      (rest : List A)
      → r ≡ Err f → Wrote old mid all (one ∷ rest) → WritesFront mid new (bytes_of one) → Writes old new r (flat_map bytes_of all)
  Wrote-stops {B} old mid new r f all one rest stop w writes =
      subst (λ (l : List A). Writes old new r (flat_map bytes_of l)) (sym w.parts)
      (subst (Writes old new r) (sym (flat_map-append bytes_of w.front (one ∷ rest)))
      (Writes-then old mid new zero r (flat_map bytes_of w.front) (flat_map bytes_of (one ∷ rest)) w.appended
      (Writes-stops mid new r f (bytes_of one) (flat_map bytes_of rest) stop writes)))

  -- one more of the next was written
  pub Wrote-next : (old mid new : Option (List ℕ)) (all : List A) (left : ℕ) (one : A) (others rest : List A) → 0 < left
      → others ≡ one ∷ rest
      → Wrote old mid all (take left others) → Appends mid new (bytes_of one) → Wrote old new all (take (left - 1) rest)
  Wrote-next old mid new all left one others rest some e w appends =
      Wrote-more old mid new all one (take (left - 1) rest)
      (subst (Wrote old mid all) (ap (take left) e ∙ take_next left one rest some) w) appends

  -- one of them stopped the writing
  pub Wrote-next_stops : {B : Type 0} (old mid new : Option (List ℕ)) (r : Result B WriteFault) (f : WriteFault) (all : List A) (left : ℕ)
      (one : A) (others rest : List A) → 0 < left → others ≡ one ∷ rest → r ≡ Err f → Wrote old mid all (take left others)
      → WritesFront mid new (bytes_of one) → Writes old new r (flat_map bytes_of all)
  Wrote-next_stops old mid new r f all left one others rest some e stop w writes =
      Wrote-stops old mid new r f all one (take (left - 1) rest) stop
      (subst (Wrote old mid all) (ap (take left) e ∙ take_next left one rest some) w) writes
