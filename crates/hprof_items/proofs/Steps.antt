-- Tests on the way to a value.
use Rattle.std.proofs.Common.{◌≡◌, ℕ, ◌≤◌, Bool, true, false, cond, ltb, refl, ap, Result, Ok, Err}
use Rattle.std.proofs.lemmas.Bool.{ltb-false}
use Rattle.hprof_values.specs.declared.parse_stop.ParseStop.{ParseStop}
use Rattle.hprof_values.specs.declared.parse_stop.ParseStop.TheVariants.{Short}

-- a test that had to fail, since its answer is none that is wanted
pub went_on : {A : Type 0} (t : Bool) (x y z : A) → (x ≡ z → ⊥) → cond t x y ≡ z → (t ≡ false) × (y ≡ z)
went_on true x y z never e = absurd (never e)
went_on false x y z never e = (refl, e)

-- a test that had to hold, since the other answer is none that is wanted
pub held : {A : Type 0} (t : Bool) (x y z : A) → (y ≡ z → ⊥) → cond t x y ≡ z → (t ≡ true) × (x ≡ z)
held true x y z never e = (refl, e)
held false x y z never e = absurd (never e)

module _ {A : Type 0} where
  -- what is read is one value, spelled by one number of bytes
  pub whole_parts : (v w : A) (m n : ℕ) → ◌≡◌ {A = Result (A × ℕ) ParseStop} (Ok (v, m)) (Ok (w, n)) → (v ≡ w) × (m ≡ n)
  whole_parts v w m n e =
      let both : ◌≡◌ {A = A × ℕ} (v, m) (w, n) = cc in (ap (λ (read : A × ℕ). read.0) both, ap (λ (read : A × ℕ). read.1) both)

  -- there were enough bytes
  pub long_enough : (a b : ℕ) (s : Result (A × ℕ) ParseStop) (v : A) (n : ℕ) → cond (ltb a b) (Err Short) s ≡ Ok (v, n) → (b ≤ a)
      × (s ≡ Ok (v, n))
  long_enough a b s v n e =
      let g = went_on (ltb a b) (Err Short) s (Ok (v, n)) (λ h. cc) e in
      (ltb-false a b g.0, g.1)
