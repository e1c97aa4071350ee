-- Objects of a thread that ascend do so by place.
use Rattle.std.proofs.Common.{◌≡◌, ℕ, ◌<◌, ◌≤◌, true, false, refl, sym, ap, subst, arith}
use Rattle.std.specs.declared.cmp.Ordering.{Ordering}
use Rattle.std.specs.declared.cmp.Ordering.TheVariants.{Less, Equal, Greater}
use Rattle.std.specs.Ordering.{MatchOrdering, nat_cmp, ordering_then}
use Rattle.std.proofs.lemmas.Bool.{leb-true, leb-false, le-leb, lt-leb, eq-eqb, eqb-true}
use Rattle.std.proofs.lemmas.Cmp.{nat_cmp_total, ranked, tied_itself}
use Rattle.hprof_threads.specs.declared.held.Held.{Held}
use Rattle.hprof_threads.specs.declared.held.Place.{Place}
use Rattle.hprof_threads.specs.declared.held.Place.TheVariants as places
use Rattle.hprof_threads.specs.contracts.held.HeldOrd.TheImpl as held_ord
use Rattle.hprof_holders.specs.ThreadsText.{is_elsewhere, is_in_frame}

-- a frame with at most that number
abbrev pub IsFrameUpTo : ℕ → Place → Type 0
IsFrameUpTo number (places.Frame frame) = frame ≤ number
IsFrameUpTo number place = ⊥

-- ---- what comes before a frame is a frame with at most its number

module _ (thread first second number : ℕ) where
  by_rank : (one other : ℕ) (o : Ordering) → MatchOrdering o (one < other) (one ≡ other) (other < one)
      → ordering_then o (nat_cmp first second) ≡ Less → other ≡ number → one ≤ number
  by_rank one other Less at less is = omega (arith, at, is)
  by_rank one other Equal at less is = omega (arith, at, is)
  by_rank one other Greater at less is = absurd cc

  by_place : (one other : Place)
      → (held_ord.ghosts).cmp (record { thread = thread; place = one; object = first })
      (record { thread = thread; place = other; object = second }) ≡ Less
      → other ≡ places.Frame number → IsFrameUpTo number one
  by_place (places.Frame one) (places.Frame other) less is =
      let same : other ≡ number = cc in
      by_rank one other (nat_cmp one other) (ranked one other _ refl) (rw (tied_itself nat_cmp_total thread) at less) same
  by_place places.NativeStack (places.Frame other) less is =
      let clash : Greater ≡ Less = rw (tied_itself nat_cmp_total thread) at less in absurd cc
  by_place places.ThreadBlock (places.Frame other) less is =
      let clash : Greater ≡ Less = rw (tied_itself nat_cmp_total thread) at less in absurd cc
  by_place one places.NativeStack less is = absurd cc
  by_place one places.ThreadBlock less is = absurd cc

pub place_before : (one other : Held) → one.thread ≡ other.thread → (held_ord.ghosts).cmp one other ≡ Less → (number : ℕ)
    → other.place ≡ places.Frame number → IsFrameUpTo number one.place
place_before one other same less number is =
    by_place one.thread one.object other.object number one.place other.place
    (subst (λ (thread : ℕ). (held_ord.ghosts).cmp one (record { thread = thread; place = other.place; object = other.object }) ≡ Less)
    (sym same) less) is

-- ---- where a row is held

-- in one of the first frames
pub record IsInFirst (count : ℕ) (place : Place) : Type 0 where
  pub frame : ℕ
  pub is : place ≡ places.Frame frame
  pub below : frame < count

pub in_first : (count : ℕ) (held : Held) → is_elsewhere count held ≡ false → IsInFirst count held.place
in_first count held first = by held.thread held.object held.place first where
  by : (thread object : ℕ) (place : Place) → is_elsewhere count (record { thread = thread; place = place; object = object }) ≡ false
      → IsInFirst count place
  by thread object (places.Frame frame) e = record { frame = frame; is = refl; below = leb-false count frame e }
  by thread object places.NativeStack e = absurd cc
  by thread object places.ThreadBlock e = absurd cc

pub not_elsewhere : (count number : ℕ) (held : Held) → IsFrameUpTo number held.place → number < count → is_elsewhere count held ≡ false
not_elsewhere count number held upto below = by held.thread held.object held.place upto where
  by : (thread object : ℕ) (place : Place) → IsFrameUpTo number place
      → is_elsewhere count (record { thread = thread; place = place; object = object }) ≡ false
  by thread object (places.Frame frame) le = lt-leb count frame (omega (arith, le, below))
  by thread object places.NativeStack le = absurd le
  by thread object places.ThreadBlock le = absurd le

pub in_that_frame : (number : ℕ) (held : Held) → is_in_frame number held ≡ true → held.place ≡ places.Frame number
in_that_frame number held here = by held.thread held.object held.place here where
  by : (thread object : ℕ) (place : Place) → is_in_frame number (record { thread = thread; place = place; object = object }) ≡ true
      → place ≡ places.Frame number
  by thread object (places.Frame frame) e = ap places.Frame (eqb-true frame number e)
  by thread object places.NativeStack e = absurd cc
  by thread object places.ThreadBlock e = absurd cc

-- a frame with at most that number that is none of those before it
pub at_that_frame : (number : ℕ) (held : Held) → IsFrameUpTo number held.place → is_elsewhere number held ≡ true
    → is_in_frame number held ≡ true
at_that_frame number held upto past = by held.thread held.object held.place upto past where
  by : (thread object : ℕ) (place : Place) → IsFrameUpTo number place
      → is_elsewhere number (record { thread = thread; place = place; object = object }) ≡ true
      → is_in_frame number (record { thread = thread; place = place; object = object }) ≡ true
  by thread object (places.Frame frame) le e = let up = leb-true number frame e in eq-eqb frame number (omega (arith, le, up))
  by thread object places.NativeStack le e = absurd le
  by thread object places.ThreadBlock le e = absurd le

-- what is in a frame is in none before it
pub past_earlier : (number : ℕ) (held : Held) → is_in_frame number held ≡ true → is_elsewhere number held ≡ true
past_earlier number held here = by held.thread held.object held.place here where
  by : (thread object : ℕ) (place : Place) → is_in_frame number (record { thread = thread; place = place; object = object }) ≡ true
      → is_elsewhere number (record { thread = thread; place = place; object = object }) ≡ true
  by thread object (places.Frame frame) e = let same = eqb-true frame number e in le-leb number frame (omega (arith, same))
  by thread object places.NativeStack e = refl
  by thread object places.ThreadBlock e = refl
