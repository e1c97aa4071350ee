use Rattle.std.proofs.Common.{◌≡◌, ℕ, [], ◌∷◌, refl, sym, ap, ◌∙◌}
use Rattle.std.specs.Cmp.Lexicographic.{slice_cmp}
use Rattle.std.specs.Ordering.{nat_cmp, ordering_then}
use Rattle.std.specs.declared.cmp.Ordering.{Ordering}
use Rattle.hprof_values.specs.declared.ids.IdSize.{IdSize}
use Rattle.hprof_values.specs.declared.root.Root.{Root}
use Rattle.hprof_values.specs.declared.root.Root.TheVariants as roots
use Rattle.hprof_values.specs.contracts.root.RootOrd.TheImpl as root_ord
use Rattle.hprof_values.specs.FieldGroups.{field_bytes, FitFields}
use Rattle.hprof_values.specs.Ids.{width_of}
use Rattle.hprof_values.specs.Root.{root_bytes, RootFits}
use Rattle.hprof_values.proofs.Orders.{fields_in_order, then-Equal}
use Rattle.hprof_values.proofs.laws.roots_in_order.Goals as goal

-- what the derived order answers
abbrev root_cmp : Root → Root → Ordering
root_cmp = (root_ord.ghosts).cmp

-- groups of one, of two and of three fields
one : (v a x : ℕ) → FitFields (v ∷ []) (a ∷ []) → FitFields (v ∷ []) (x ∷ [])
    → nat_cmp a x ≡ slice_cmp nat_cmp (field_bytes (v ∷ []) (a ∷ [])) (field_bytes (v ∷ []) (x ∷ []))
one v a x fits fits_too = sym (fields_in_order (v ∷ []) (a ∷ []) (x ∷ []) fits fits_too ∙ then-Equal (nat_cmp a x))

two : (v w a b x y : ℕ) → FitFields (v ∷ w ∷ []) (a ∷ b ∷ []) → FitFields (v ∷ w ∷ []) (x ∷ y ∷ [])
    → ordering_then (nat_cmp a x) (nat_cmp b y) ≡ slice_cmp nat_cmp (field_bytes (v ∷ w ∷ []) (a ∷ b ∷ []))
    (field_bytes (v ∷ w ∷ []) (x ∷ y ∷ []))
two v w a b x y fits fits_too =
    sym (fields_in_order (v ∷ w ∷ []) (a ∷ b ∷ []) (x ∷ y ∷ []) fits fits_too ∙ ap (ordering_then (nat_cmp a x)) (then-Equal (nat_cmp b y)))

three : (v a b c x y z : ℕ) → FitFields (v ∷ 4 ∷ 4 ∷ []) (a ∷ b ∷ c ∷ []) → FitFields (v ∷ 4 ∷ 4 ∷ []) (x ∷ y ∷ z ∷ [])
    → ordering_then (nat_cmp a x) (ordering_then (nat_cmp b y) (nat_cmp c z))
    ≡ slice_cmp nat_cmp (field_bytes (v ∷ 4 ∷ 4 ∷ []) (a ∷ b ∷ c ∷ [])) (field_bytes (v ∷ 4 ∷ 4 ∷ []) (x ∷ y ∷ z ∷ []))
three v a b c x y z fits fits_too =
    sym (fields_in_order (v ∷ 4 ∷ 4 ∷ []) (a ∷ b ∷ c ∷ []) (x ∷ y ∷ z ∷ []) fits fits_too
    ∙ ap (λ (o : Ordering). ordering_then (nat_cmp a x) (ordering_then (nat_cmp b y) o)) (then-Equal (nat_cmp c z)))

-- roots of one tag are compared by their numbers, others by their tags
in_order : (ids : IdSize) (root other : Root) → RootFits ids root → RootFits ids other
    → root_cmp root other ≡ slice_cmp nat_cmp (root_bytes ids root) (root_bytes ids other)
in_order ids (roots.JniGlobal a b) (roots.JniGlobal x y) fits fits_too = two (width_of ids) (width_of ids) a b x y fits fits_too
in_order ids (roots.JniLocal a b c) (roots.JniLocal x y z) fits fits_too = three (width_of ids) a b c x y z fits fits_too
in_order ids (roots.JavaFrame a b c) (roots.JavaFrame x y z) fits fits_too = three (width_of ids) a b c x y z fits fits_too
in_order ids (roots.NativeStack a b) (roots.NativeStack x y) fits fits_too = two (width_of ids) 4 a b x y fits fits_too
in_order ids (roots.Sticky a) (roots.Sticky x) fits fits_too = one (width_of ids) a x fits fits_too
in_order ids (roots.Block a b) (roots.Block x y) fits fits_too = two (width_of ids) 4 a b x y fits fits_too
in_order ids (roots.Monitor a) (roots.Monitor x) fits fits_too = one (width_of ids) a x fits fits_too
in_order ids (roots.ThreadObject a b c) (roots.ThreadObject x y z) fits fits_too = three (width_of ids) a b c x y z fits fits_too
in_order ids (roots.Unknown a) (roots.Unknown x) fits fits_too = one (width_of ids) a x fits fits_too
in_order ids root other fits fits_too = refl

pub returns : goal.returns
returns c = in_order
