-- Frames are compared by their numbers.
use Rattle.std.proofs.Common.{◌≡◌, ℕ, eqb, ◌&&◌, List, ◌∷◌, drop, ap, ◌∙◌}
use Rattle.std.specs.Prelude.{ℤ, pos, negsuc, slice_index}
use Rattle.std.specs.Cmp.{signed_Decides}
use Rattle.std.specs.Ordering.{int_eq}
use Rattle.std.specs.Bool.{Decides}
use Rattle.std.proofs.lemmas.Bool.{eqb-true, eq-eqb, and_parts, and_from}
use Rattle.hprof_rows.specs.declared.number_rows.FrameRow.{FrameRow}
use Rattle.hprof_rows.specs.NumberRows.{line_numbers, frame_numbers}

-- a line is known by its numbers
line_same : (line other : ℤ) → line_numbers line ≡ line_numbers other → line ≡ other
line_same (pos n) (pos m) e = ap pos (ap (λ (ns : List ℕ). slice_index ns 1) e)
line_same (pos n) (negsuc m) e = let clash : 0 ≡ 1 = ap (λ (ns : List ℕ). slice_index ns 0) e in absurd cc
line_same (negsuc n) (pos m) e = let clash : 1 ≡ 0 = ap (λ (ns : List ℕ). slice_index ns 0) e in absurd cc
line_same (negsuc n) (negsuc m) e = ap negsuc (ap (λ (ns : List ℕ). slice_index ns 1) e)

-- two frames have one content where their fields are equal
pub frames_agree : (row other : FrameRow) → Decides
    (eqb row.method other.method && (eqb row.signature other.signature
    && (eqb row.source other.source && (eqb row.class_serial other.class_serial && int_eq row.line other.line))))
    (frame_numbers row ≡ frame_numbers other)
frames_agree row other = (
  λ e.
      let method = and_parts _ _ e in
      let signature = and_parts _ _ method.1 in
      let source = and_parts _ _ signature.1 in
      let rest = and_parts _ _ source.1 in
      let line : row.line ≡ other.line = (signed_Decides row.line other.line).0 rest.1 in
      ap (λ (n : ℕ). n ∷ row.signature ∷ row.source ∷ row.class_serial ∷ line_numbers row.line) (eqb-true row.method other.method method.0)
      ∙ ap (λ (n : ℕ). other.method ∷ n ∷ row.source ∷ row.class_serial ∷ line_numbers row.line)
      (eqb-true row.signature other.signature signature.0)
      ∙ ap (λ (n : ℕ). other.method ∷ other.signature ∷ n ∷ row.class_serial ∷ line_numbers row.line)
      (eqb-true row.source other.source source.0)
      ∙ ap (λ (n : ℕ). other.method ∷ other.signature ∷ other.source ∷ n ∷ line_numbers row.line)
      (eqb-true row.class_serial other.class_serial rest.0)
      ∙ ap (λ (l : ℤ). other.method ∷ other.signature ∷ other.source ∷ other.class_serial ∷ line_numbers l) line,
  λ e.
      let at : (place : ℕ) → slice_index (frame_numbers row) place ≡ slice_index (frame_numbers other) place =
      λ place. ap (λ (ns : List ℕ). slice_index ns place) e in
      and_from _ _ (eq-eqb row.method other.method (at 0)) (and_from _ _ (eq-eqb row.signature other.signature (at 1))
      (and_from _ _ (eq-eqb row.source other.source (at 2))
      (and_from _ _ (eq-eqb row.class_serial other.class_serial (at 3))
      ((signed_Decides row.line other.line).1 (line_same row.line other.line (ap (drop 4) e)))))),
)
