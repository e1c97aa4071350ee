-- Facts, whose bytes are counted or written one after another.
use Rattle.std.proofs.Common.{◌≡◌, ◌+◌, ℕ, List, [], ◌∷◌, ◌++◌, length, Option, sym, ap, subst, ◌∙◌, append-nil, arith}
use Rattle.std.specs.List.{flat_map}
use Rattle.std.specs.Io.KnownBytes.{Appends}
use Rattle.std.proofs.KnownBytes.{Appends-trans}
use Rattle.std.proofs.lemmas.Grind.{flat_map-append}
use Rattle.std.proofs.lemmas.List.{length-append}
use Rattle.hprof_devices.proofs.Writes.{WritesFront, WritesFront-more, WritesFront-then}
use Rattle.hprof_stored101.specs.ByteCounter.{capped}

-- a number that is capped before more is added, and after
pub capped_more : (from more : ℕ) → capped (capped from + more) ≡ capped (from + more)
capped_more from more = omega arith

module _ {A : Type 0} (f : A → List ℕ) where
  -- the bytes of one more
  behind : (done : List A) (next : A) → flat_map f (done ++ next ∷ []) ≡ flat_map f done ++ f next
  behind done next =
      flat_map-append f done (next ∷ []) ∙ ap (λ (l : List ℕ). flat_map f done ++ l) (append-nil (f next))

  -- the bytes of all, where these come first
  before : (done : List A) (next : A) (rest all : List A) → all ≡ done ++ next ∷ rest
      → flat_map f all ≡ flat_map f done ++ (f next ++ flat_map f rest)
  before done next rest all is = ap (flat_map f) is ∙ flat_map-append f done (next ∷ rest)

  pub none_left : (done rest all : List A) → all ≡ done ++ rest → rest ≡ [] → flat_map f done ≡ flat_map f all
  none_left done rest all is none =
      ap (flat_map f) (sym (is ∙ ap (λ (l : List A). done ++ l) none ∙ append-nil done))

  pub one_counted : (done : List A) (next : A) (len size sum : ℕ) → len ≡ capped (length (flat_map f done)) → size ≡ length (f next)
      → sum ≡ capped (len + size) → sum ≡ capped (length (flat_map f (done ++ next ∷ [])))
  one_counted done next len size sum counted is added =
      let all : length (flat_map f (done ++ next ∷ [])) ≡ length (flat_map f done) + length (f next) =
      ap length (behind done next) ∙ length-append (flat_map f done) (f next) in
      omega (arith, all, counted, is, added)

  pub one_written : (old mid new : Option (List ℕ)) (done : List A) (next : A) → Appends old mid (flat_map f done)
      → Appends mid new (f next) → Appends old new (flat_map f (done ++ next ∷ []))
  one_written old mid new done next first then =
      subst (Appends old new) (sym (behind done next)) (Appends-trans old mid new (flat_map f done) (f next) first then)

  pub stops_at_one : (old mid new : Option (List ℕ)) (done : List A) (next : A) (rest all : List A) → all ≡ done ++ next ∷ rest
      → Appends old mid (flat_map f done) → WritesFront mid new (f next) → WritesFront old new (flat_map f all)
  stops_at_one old mid new done next rest all is first then =
      subst (WritesFront old new) (sym (before done next rest all is))
      (WritesFront-then old mid new (flat_map f done) (f next ++ flat_map f rest) first
      (WritesFront-more mid new (f next) (flat_map f rest) then))
