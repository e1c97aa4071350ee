-- Where fields end, or the first of them that does not lie within bounds: both are what their tests answer.
use Rattle.std.proofs.Common.{◌≡◌, ℕ, ◌+◌, ◌<◌, ◌⊎◌, inl, inr, List, [], ◌∷◌, ◌++◌, length, Result, Ok, Err, refl, sym, ap, subst, ◌∙◌}
use Rattle.std.proofs.Common.{arith}
use Rattle.std.specs.Prelude.{sum}
use Rattle.hprof_values.specs.declared.parse_stop.ParseStop.{ParseStop}
use Rattle.hprof_values.specs.FieldGroups.{Bounds, ◌>>=◌, field_end, reached, IsWithin}
use Rattle.hprof_values.specs.FieldStops.{IsFirstStop}
use Rattle.hprof_values.proofs.FieldGroups.{sum_widths, field_within, field_passed, then_next, then_stop, within-less, reached_within}
use Rattle.hprof_values.proofs.FieldGroups.{reached_passed}

-- ---- where they end

pub ends_within : (bounds : Bounds) (at end : ℕ) (widths : List ℕ) → 0 < length widths → reached bounds at widths ≡ Ok end
    → (end ≡ at + sum widths) × IsWithin bounds end
ends_within bounds at end [] some e = absurd (omega arith)
ends_within bounds at end (w ∷ ws) some e = reached_passed bounds at w ws end e

pub within_ends : (bounds : Bounds) (at end : ℕ) (widths : List ℕ) → (end ≡ at + sum widths) × IsWithin bounds end
    → reached bounds at widths ≡ Ok end
within_ends bounds at end widths is = reached_within bounds at widths (subst (IsWithin bounds) is.0 is.1) ∙ ap Ok (sym is.0)

-- ---- the first that stops them

-- a step that stopped, or what came next
pub then_err : {A B : Type 0} (r : Result A ParseStop) (next : A → Result B ParseStop) (stop : ParseStop) → (r >>= next) ≡ Err stop
    → (r ≡ Err stop) ⊎ ((x : A) × (r ≡ Ok x) × (next x ≡ Err stop))
then_err (Ok x) next stop e = inr (x, refl, e)
then_err (Err other) next stop e = let same : other ≡ stop = cc in inl (ap Err same)

-- fields behind one that ends within all bounds
within_behind : (bounds : Bounds) (mid : ℕ) (before : List ℕ) → IsWithin bounds mid
    → (0 < length before → IsWithin bounds (mid + sum before)) → IsWithin bounds (mid + sum before)
within_behind bounds mid [] within others = let same : mid ≡ mid + sum [] = omega arith in subst (IsWithin bounds) same within
within_behind bounds mid (w ∷ ws) within others = others (omega arith)

-- the first that stops those behind a field stops them all
stop_behind : (bounds : Bounds) (at w mid : ℕ) (ws : List ℕ) (stop : ParseStop) → mid ≡ at + w → IsWithin bounds mid
    → IsFirstStop bounds mid ws stop → IsFirstStop bounds at (w ∷ ws) stop
stop_behind bounds at w mid ws stop same within first =
    let all = sum_widths w first.before in
    let front : mid + sum first.before ≡ at + sum (w ∷ first.before) = omega (arith, same, all) in
    let last : mid + sum first.before + first.width ≡ at + sum (w ∷ first.before) + first.width = omega (arith, same, all) in
    record {
      before = w ∷ first.before;
      width = first.width;
      behind = first.behind;
      parts = ap (λ (r : List ℕ). w ∷ r) first.parts;
      within = λ some. subst (IsWithin bounds) front (within_behind bounds mid first.before within first.within);
      stops = subst (λ (end : ℕ). field_end bounds end ≡ Err stop) last first.stops;
    }

pub first_stop : (bounds : Bounds) (at : ℕ) (widths : List ℕ) (stop : ParseStop) → reached bounds at widths ≡ Err stop
    → IsFirstStop bounds at widths stop
first_stop bounds at [] stop e = absurd cc
first_stop bounds at (w ∷ ws) stop e = elim (then_err (field_end bounds (at + w)) (λ (end : ℕ). reached bounds end ws) stop e) [
  | inl here ↦
      let same : at + w ≡ at + sum [] + w = omega arith in
      record {
        before = [];
        width = w;
        behind = ws;
        parts = refl;
        within = λ some. absurd (omega arith);
        stops = subst (λ (end : ℕ). field_end bounds end ≡ Err stop) same here;
      }
  | inr later ↦
      let passed = field_passed bounds (at + w) later.0 later.1 in
      stop_behind bounds at w later.0 ws stop passed.0 (subst (IsWithin bounds) (sym passed.0) passed.1)
      (first_stop bounds later.0 ws stop later.2)
]

stop_there : (bounds : Bounds) (at : ℕ) (before : List ℕ) (width : ℕ) (behind : List ℕ) (stop : ParseStop)
    → (0 < length before → IsWithin bounds (at + sum before)) → field_end bounds (at + sum before + width) ≡ Err stop
    → reached bounds at (before ++ (width ∷ behind)) ≡ Err stop
stop_there bounds at [] width behind stop within stops =
    let same : at + sum [] + width ≡ at + width = omega arith in
    then_stop (field_end bounds (at + width)) (λ (end : ℕ). reached bounds end behind) stop
    (subst (λ (end : ℕ). field_end bounds end ≡ Err stop) same stops)
stop_there bounds at (w ∷ ws) width behind stop within stops =
    let all = sum_widths w ws in
    let front : at + sum (w ∷ ws) ≡ at + w + sum ws = omega (arith, all) in
    let last : at + sum (w ∷ ws) + width ≡ at + w + sum ws + width = omega (arith, all) in
    let inside : IsWithin bounds (at + w + sum ws) = subst (IsWithin bounds) front (within (omega arith)) in
    let first = field_within bounds (at + w) (within-less bounds (at + w) (at + w + sum ws) (omega arith) inside) in
    then_next (field_end bounds (at + w)) (λ (end : ℕ). reached bounds end (ws ++ (width ∷ behind))) (at + w) first
    ∙ stop_there bounds (at + w) ws width behind stop (λ some. inside) (subst (λ (end : ℕ). field_end bounds end ≡ Err stop) last stops)

pub stops_first : (bounds : Bounds) (at : ℕ) (widths : List ℕ) (stop : ParseStop) → IsFirstStop bounds at widths stop
    → reached bounds at widths ≡ Err stop
stops_first bounds at widths stop first =
    ap (reached bounds at) first.parts
    ∙ stop_there bounds at first.before first.width first.behind stop first.within first.stops
