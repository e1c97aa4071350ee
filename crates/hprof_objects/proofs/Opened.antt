-- Cursors over stretches, opened one after the other.
use Rattle.std.proofs.Common.{◌≡◌, ◌<◌, ◌+◌, ℕ, List, [], ◌∷◌, ◌++◌, length, map, take, Option, slice_index_or, sym, ap, subst}
use Rattle.std.proofs.Common.{◌∙◌, append_assoc, append-nil}
use Rattle.std.specs.Prelude.{All}
use Rattle.std.proofs.lemmas.List.{map-append, take_more}
use Rattle.std.proofs.lemmas.List.Elements.{All-push}
use Rattle.std.proofs.Math.Seq.{take-length}
use Rattle.hprof_devices.specs.declared.health.Health.{Health}
use Rattle.hprof_stream.specs.declared.limits.Limits.{Limits}
use Rattle.hprof_merge.specs.declared.one_of.OneOf.{OneOf}
use Rattle.hprof_merge.specs.declared.one_of.OneOf.TheVariants.{Second}
use Rattle.hprof_objects.specs.declared.stretch.Stretch.{Stretch}
use Rattle.hprof_objects.specs.declared.stretch_cursor.StretchCursor.{StretchCursor}
use Rattle.hprof_objects.specs.ObjectCursors.{AddsStretches, AllOpen}
use Rattle.hprof_objects.specs.StretchCursor.{OpensStretch}

-- one cursor more may be called
pub well_more : {C : Type 0} (well : C → Type 0) (cursors new : List C) (it : C) → new ≡ cursors ++ it ∷ [] → All well cursors → well it
    → All well new
well_more {C} well cursors new it is all one = subst (λ (l : List C). All well l) (sym is) (All-push well cursors it all one)

module _ {R : Type 0} (left : R → Option (List ℕ)) (health : R → Health) (pulls : R → ℕ) (limits : Limits)
    (told : List (Option (List ℕ))) where
  open_last : (list : List Stretch) (cursors : List (StretchCursor R)) (stretch : Stretch) (it : StretchCursor R)
      → AllOpen left health pulls limits told list cursors → OpensStretch left health pulls limits told stretch it
      → AllOpen left health pulls limits told (list ++ stretch ∷ []) (cursors ++ it ∷ [])
  open_last [] [] stretch it each one = (one, tt)
  open_last [] (first ∷ cursors) stretch it each one = absurd each
  open_last (first ∷ list) [] stretch it each one = absurd each
  open_last (first ∷ list) (cursor ∷ cursors) stretch it each one = (each.0, open_last list cursors stretch it each.1 one)

  pub added_none : {A : Type 0} (cursors : List (OneOf A (StretchCursor R))) → AddsStretches left health pulls limits told [] cursors
      cursors
  added_none cursors = record { opened = []; are = sym (append-nil cursors); each = tt }

  pub added_more : {A : Type 0} (list : List Stretch) (index : ℕ) (stretch : Stretch) (it : StretchCursor R)
      (old cursors new : List (OneOf A (StretchCursor R))) → AddsStretches left health pulls limits told (take index list) old cursors
      → index < length list → stretch ≡ slice_index_or list index stretch → OpensStretch left health pulls limits told stretch it
      → new ≡ cursors ++ Second it ∷ [] → AddsStretches left health pulls limits told (take (index + 1) list) old new
  added_more {A} list index stretch it old cursors new adds lt is one pushed = record {
    opened = adds.opened ++ it ∷ [];
    are = pushed ∙ (ap (λ (l : List (OneOf A (StretchCursor R))). l ++ Second it ∷ []) adds.are
        ∙ (append_assoc old (map Second adds.opened) (Second it ∷ [])
        ∙ ap (λ (l : List (OneOf A (StretchCursor R))). old ++ l) (sym (map-append Second adds.opened (it ∷ [])))));
    each = subst (λ (l : List Stretch). AllOpen left health pulls limits told l (adds.opened ++ it ∷ [])) (sym taken)
        (open_last (take index list) adds.opened stretch it adds.each one);
  }
    where
      taken : take (index + 1) list ≡ take index list ++ stretch ∷ []
      taken = take_more list index stretch lt ∙ ap (λ (s : Stretch). take index list ++ s ∷ []) (sym is)

  pub added_all : {A : Type 0} (list : List Stretch) (index : ℕ) (old new : List (OneOf A (StretchCursor R)))
      → AddsStretches left health pulls limits told (take index list) old new → length list ≡ index
      → AddsStretches left health pulls limits told list old new
  added_all list index old new adds len =
      subst (λ (l : List Stretch). AddsStretches left health pulls limits told l old new)
      (ap (λ (n : ℕ). take n list) (sym len) ∙ take-length list) adds
