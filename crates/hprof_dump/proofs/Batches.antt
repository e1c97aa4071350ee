-- Taking sub-records into a batch, one after the other.
use Rattle.std.proofs.Common.{◌≡◌, ℕ, zero, suc, ◌-◌, ◌<◌, List, [], ◌∷◌, ◌++◌, Option, Result, Ok, Err, refl, sym, ap, subst, ◌∙◌}
use Rattle.std.proofs.Common.{append_assoc, append-nil, length, take, arith, ◌+◌, ◌≤◌}
use borrow.Rule.Slice.PartMut.{put_mid, post_of}
use Rattle.std.proofs.lemmas.List.{length-append, length-take-le}
use Rattle.std.proofs.Math.Seq.{take-append_seam}
use Rattle.std.specs.List.{flat_map}
use Rattle.std.specs.Io.KnownBytes.{Appends}
use Rattle.std.proofs.KnownBytes.{Appends-nil, Appends-trans}
use Rattle.std.proofs.lemmas.Grind.{flat_map-append}
use Rattle.hprof_devices.specs.declared.health.WriteFault.{WriteFault}
use Rattle.hprof_devices.specs.Device.{Writes}
use Rattle.hprof_devices.proofs.Writes.{WritesFront, WritesFront-then, Writes-then, Writes-stops}
use Rattle.hprof_dump.specs.Batch.{WritesSome}

-- the first of those that are to be taken
pub take_first : {A : Type 0} (left : ℕ) (one : A) (others rest : List A) → 0 < left → others ≡ one ∷ rest
    → take left others ≡ one ∷ take (left - 1) rest
take_first zero one others rest some e = absurd (omega arith)
take_first (suc left) one others rest some e =
    let less : suc left - 1 ≡ left = omega arith in rw less (ap (take (suc left)) e)

module _ {A : Type 0} (bytes_of : A → List ℕ) where
  -- of all of them some were taken behind what waited first: a front of the bytes went out, and the others wait
  pub record Taken (old new : Option (List ℕ)) (first waiting : List ℕ) (all rest : List A) : Type 0 where
    pub front : List A
    pub parts : all ≡ front ++ rest
    pub sent : List ℕ
    pub appended : Appends old new sent
    pub bytes : first ++ flat_map bytes_of front ≡ sent ++ waiting

  -- none was taken so far
  pub Taken-none : (old : Option (List ℕ)) (first : List ℕ) (all : List A) → Taken old old first first all all
  Taken-none old first all =
      record { front = []; parts = refl; sent = []; appended = Appends-nil old; bytes = append-nil first }

  -- one more was taken
  pub Taken-more : (old mid new : Option (List ℕ)) (first waiting then : List ℕ) (all : List A) (one : A) (rest : List A)
      → Taken old mid first waiting all (one ∷ rest) → (front : List ℕ) → Appends mid new front → waiting ++ bytes_of one ≡ front ++ then
      → Taken old new first then all rest
  Taken-more old mid new first waiting then all one rest t front appends split = record {
    front = t.front ++ one ∷ [];
    parts = t.parts ∙ sym (append_assoc t.front (one ∷ []) rest);
    sent = t.sent ++ front;
    appended = Appends-trans old mid new t.sent front t.appended appends;
    bytes =
        ap (λ (l : List ℕ). first ++ l) (flat_map-append bytes_of t.front (one ∷ [])
        ∙ ap (λ (l : List ℕ). flat_map bytes_of t.front ++ l) (append-nil (bytes_of one)))
        ∙ sym (append_assoc first (flat_map bytes_of t.front) (bytes_of one))
        ∙ ap (λ (l : List ℕ). l ++ bytes_of one) t.bytes
        ∙ append_assoc t.sent waiting (bytes_of one)
        ∙ ap (λ (l : List ℕ). t.sent ++ l) split
        ∙ sym (append_assoc t.sent front then);
  }

  -- one stopped the writing
  pub Taken-stops : {B : Type 0} (old mid new : Option (List ℕ)) (r : Result B WriteFault) (f : WriteFault) (first waiting : List ℕ)
      (all : List A) (one : A) (rest : List A) → r ≡ Err f → Taken old mid first waiting all (one ∷ rest)
      → WritesFront mid new (waiting ++ bytes_of one) → Writes old new r (first ++ flat_map bytes_of all)
  Taken-stops {B} old mid new r f first waiting all one rest stop t writes =
      let behind : List ℕ = flat_map bytes_of rest in
      let split : first ++ flat_map bytes_of all ≡ t.sent ++ ((waiting ++ bytes_of one) ++ behind) =
      ap (λ (l : List A). first ++ flat_map bytes_of l) t.parts
      ∙ ap (λ (l : List ℕ). first ++ l) (flat_map-append bytes_of t.front (one ∷ rest))
      ∙ sym (append_assoc first (flat_map bytes_of t.front) (bytes_of one ++ behind))
      ∙ ap (λ (l : List ℕ). l ++ (bytes_of one ++ behind)) t.bytes
      ∙ append_assoc t.sent waiting (bytes_of one ++ behind)
      ∙ ap (λ (l : List ℕ). t.sent ++ l) (sym (append_assoc waiting (bytes_of one) behind)) in
      subst (Writes old new r) (sym split)
      (Writes-then old mid new zero r t.sent ((waiting ++ bytes_of one) ++ behind) t.appended
      (Writes-stops mid new r f (waiting ++ bytes_of one) behind stop writes))

  -- none is left to be taken
  pub Taken-all : (old new : Option (List ℕ)) (first waiting : List ℕ) (all rest : List A) → Taken old new first waiting all rest
      → rest ≡ []
      → (front : List ℕ) × Appends old new front × (first ++ flat_map bytes_of all ≡ front ++ waiting)
  Taken-all old new first waiting all rest t none = (
    t.sent,
    t.appended,
    ap (λ (l : List A). first ++ flat_map bytes_of l) (t.parts ∙ ap (λ (l : List A). t.front ++ l) none ∙ append-nil t.front) ∙ t.bytes,
  )

-- what stopped with some of all the bytes out did write some
pub stops : {B : Type 0} (old new : Option (List ℕ)) (r : Result B WriteFault) (f : WriteFault) (bytes waiting : List ℕ) → r ≡ Err f
    → Writes old new r bytes → WritesSome old new r bytes waiting
stops old new (Ok y) f bytes waiting stop writes = absurd cc
stops old new (Err e) f bytes waiting stop writes = writes

-- and then those that wait are written
pub then_writes : {A B : Type 0} (old mid new : Option (List ℕ)) (x : A) (r : Result B WriteFault) (bytes waiting : List ℕ)
    → WritesSome {A = A} old mid (Ok x) bytes waiting → Writes mid new r waiting → Writes old new r bytes
then_writes old mid new x r bytes waiting some writes =
    subst (Writes old new r) (sym some.2) (Writes-then old mid new x r some.0 waiting some.1 writes)

-- a write that stopped with some of the bytes out
pub stopped : {B : Type 0} (old new : Option (List ℕ)) (r : Result B WriteFault) (f : WriteFault) (bytes : List ℕ) → r ≡ Err f
    → WritesFront old new bytes → Writes old new r bytes
stopped old new (Ok y) f bytes stop writes = absurd cc
stopped old new (Err e) f bytes stop writes = writes

-- those that waited were written, and what came behind them was too, so that none waits
pub writes_behind : {B : Type 0} (old mid new : Option (List ℕ)) (r : Result B WriteFault) (waited bytes waiting : List ℕ)
    → Appends old mid waited → Writes mid new r bytes → waiting ≡ [] → WritesSome old new r (waited ++ bytes) waiting
writes_behind old mid new (Ok y) waited bytes waiting first writes none = (
  waited ++ bytes,
  Appends-trans old mid new waited bytes first writes,
  sym (append-nil (waited ++ bytes)) ∙ ap (λ (l : List ℕ). (waited ++ bytes) ++ l) (sym none),
)
writes_behind old mid new (Err f) waited bytes waiting first writes none = WritesFront-then old mid new waited bytes first writes

-- what was put behind those that wait waits with them
pub waits_behind : (end count many : ℕ) (room bytes others put : List ℕ) → end ≤ length room → put ≡ bytes ++ others → count ≡ length bytes
    → take (end + count) (put_mid end many room put) ≡ take end room ++ bytes
waits_behind end count many room bytes others put within is long =
    let post : List ℕ = post_of end many room in
    let front : length (take end room) ≡ end = length-take-le end room within in
    let split : put_mid end many room put ≡ (take end room ++ bytes) ++ (others ++ post) =
    ap (λ (l : List ℕ). take end room ++ (l ++ post)) is ∙ ap (λ (l : List ℕ). take end room ++ l) (append_assoc bytes others (post))
    ∙ sym (append_assoc (take end room) bytes (others ++ post)) in
    ap (take (end + count)) split
    ∙ ap (λ (n : ℕ). take n ((take end room ++ bytes) ++ (others ++ post)))
    (omega (arith, front, long, length-append (take end room) bytes))
    ∙ take-append_seam (take end room ++ bytes) (others ++ post)
