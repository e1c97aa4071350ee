-- How reading all parts ended, one after the other.
use Rattle.std.proofs.Common.{◌≡◌, ℕ, zero, suc, ◌+◌, ◌<◌, List, [], ◌∷◌, ◌++◌, length, set, Option, Some, None, inl, inr, refl, sym}
use Rattle.std.proofs.Common.{ap, subst, ◌∙◌, arith}
use Rattle.std.specs.Prelude.{slice_get}
use Rattle.std.proofs.lemmas.Bool.{cases_lt}
use Rattle.std.proofs.lemmas.List.{length-append}
use Rattle.hprof_devices.specs.declared.health.Health.{Health}
use Rattle.hprof_stream.specs.declared.limits.Limits.{Limits}
use Rattle.hprof_stream.specs.declared.part_fault.PartFault.{PartFault}
use Rattle.hprof_engine.proofs.Reading.{element_set}
use Rattle.hprof_engine.specs.declared.salvaged.FaultedPart.{FaultedPart}
use Rattle.hprof_engine.specs.Salvaging.{PartRead, fault_with, faults_from, faults_of, IsReadSo, AreReadSo}

-- ---- places

-- what was written behind a place changes nothing there
get_set_before : {R : Type 0} (xs : List R) (i k : ℕ) (x : R) → k < i → slice_get (set xs i x) k ≡ slice_get xs k
get_set_before [] i k x before = refl
get_set_before (y ∷ xs) zero k x before = absurd (omega arith)
get_set_before (y ∷ xs) (suc i) zero x before = refl
get_set_before (y ∷ xs) (suc i) (suc k) x before = get_set_before xs i k x (omega arith)

-- with one more behind, what was there still is
get_front : {R : Type 0} (xs : List R) (x : R) (k : ℕ) → k < length xs → slice_get (xs ++ x ∷ []) k ≡ slice_get xs k
get_front [] x k lt = absurd (omega arith)
get_front (y ∷ xs) x zero lt = refl
get_front (y ∷ xs) x (suc k) lt = get_front xs x k (omega arith)

-- and the one stands at the end
get_last : {R : Type 0} (xs : List R) (x : R) → slice_get (xs ++ x ∷ []) (length xs) ≡ Some x
get_last [] x = refl
get_last (y ∷ xs) x = get_last xs x

-- ---- faults

fault_with-append : (index : ℕ) (fault : Option PartFault) (others more : List FaultedPart)
    → fault_with index fault (others ++ more) ≡ fault_with index fault others ++ more
fault_with-append index None others more = refl
fault_with-append index (Some fault) others more = refl

faults_from-more : (index : ℕ) (reads : List PartRead) (read : PartRead)
    → faults_from index (reads ++ read ∷ []) ≡ faults_from index reads ++ fault_with (index + length reads) read.fault []
faults_from-more index [] read = ap (λ (n : ℕ). fault_with n read.fault []) (let e : index ≡ index + 0 = omega arith in e)
faults_from-more index (first ∷ reads) read =
    let e : suc index + length reads ≡ index + suc (length reads) = omega arith in
    ap (fault_with index first.fault) (faults_from-more (suc index) reads read)
    ∙ fault_with-append index first.fault (faults_from (suc index) reads) (fault_with (suc index + length reads) read.fault [])
    ∙ ap (λ (n : ℕ). fault_with index first.fault (faults_from (suc index) reads) ++ fault_with n read.fault []) e

pub faults_of-more : (reads : List PartRead) (read : PartRead)
    → faults_of (reads ++ read ∷ []) ≡ faults_of reads ++ fault_with (length reads) read.fault []
faults_of-more reads read =
    let e : 0 + length reads ≡ length reads = omega arith in
    faults_from-more 0 reads read ∙ ap (λ (n : ℕ). faults_of reads ++ fault_with n read.fault []) e

-- ---- readers

module _ {R : Type 0} (left : R → Option (List ℕ)) (health : R → Health) (pulls : R → ℕ) (limits : Limits) where
  -- no reader was read
  pub AreReadSo-none : (old new : List R) → AreReadSo left health pulls limits old new []
  AreReadSo-none old new k below = absurd (omega (arith, below))

  -- what was written to the place behind them changes nothing for readers that were read
  pub AreReadSo-kept : (old cur : List R) (reads : List PartRead) (is : R) (i : ℕ) → length reads ≡ i
      → AreReadSo left health pulls limits old cur reads → AreReadSo left health pulls limits old (set cur i is) reads
  AreReadSo-kept old cur reads is i size are k below =
      let one = are k below in
      (one.0, one.1, one.2, one.3, get_set_before cur i k is (omega arith) ∙ one.4, one.5, one.6)

  -- one more was
  pub AreReadSo-more : (old cur : List R) (reads : List PartRead) (read : PartRead) (was is : R) (i : ℕ) → length reads ≡ i
      → slice_get old i ≡ Some was → i < length cur → AreReadSo left health pulls limits old cur reads
      → IsReadSo left health pulls limits was is read
      → AreReadSo left health pulls limits old (set cur i is) (reads ++ read ∷ [])
  AreReadSo-more old cur reads read was is i size there within are one k below =
      elim (cases_lt k i) [
        | inl before ↦ let front = are k (omega (arith, before)) in (
          front.0,
          front.1,
          front.2,
          front.3,
          get_set_before cur i k is before ∙ front.4,
          get_front reads read k (omega (arith, before)) ∙ front.5,
          front.6,
        )
        | inr here ↦ let same : i ≡ k = omega (arith, here, below, length-append reads (read ∷ [])) in
            subst (λ (n : ℕ). (from : R) × (to : R) × (so : PartRead) × (slice_get old n ≡ Some from)
            × (slice_get (set cur i is) n ≡ Some to) × (slice_get (reads ++ read ∷ []) n ≡ Some so)
            × IsReadSo left health pulls limits from to so) same (
              was,
              is,
              read,
              there,
              element_set cur i is within,
              ap (slice_get (reads ++ read ∷ [])) (sym size) ∙ get_last reads read,
              one,
            )
      ]
