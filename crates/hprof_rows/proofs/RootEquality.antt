-- What `==` says of roots: whether they are one.
use Rattle.std.proofs.Common.{◌≡◌, ◌&&◌, ◌==◌, ℕ, Bool, true, false, refl, ap}
use Rattle.std.specs.Bool.{Decides}
use Rattle.std.proofs.lemmas.Bool.Decides.{Decides-eqb}
use Rattle.hprof_values.specs.declared.root.Root.{Root}
use Rattle.hprof_values.specs.declared.root.Root.TheVariants as roots
use Rattle.hprof_values.specs.contracts.root.RootPartialEq.TheImpl as root_eq

-- two tests decide where each does
both : (s t : Bool) (P Q : Type 0) → Decides s P → Decides t Q → Decides (s && t) (P × Q)
both true true P Q p q = (λ e. (p.0 refl, q.0 refl), λ h. refl)
both true false P Q p q = (λ e. absurd cc, λ h. q.1 h.1)
both false t P Q p q = (λ e. absurd cc, λ h. p.1 h.0)

-- what holds exactly where another does is decided by its test
exactly : (t : Bool) (P Q : Type 0) → (P → Q) → (Q → P) → Decides t P → Decides t Q
exactly t P Q to from p = (λ e. to (p.0 e), λ h. p.1 (from h))

one : (make : ℕ → Root) (a x : ℕ) → (make a ≡ make x → a ≡ x) → Decides (a == x) (make a ≡ make x)
one make a x known = exactly (a == x) (a ≡ x) (make a ≡ make x) (ap make) known (Decides-eqb a x)

two : (make : ℕ → ℕ → Root) (a b x y : ℕ) → (make a b ≡ make x y → (a ≡ x) × (b ≡ y)) → Decides ((a == x) && (b == y)) (make a b ≡ make x y)
two make a b x y known =
    exactly ((a == x) && (b == y)) ((a ≡ x) × (b ≡ y)) (make a b ≡ make x y) (λ h. rw (h.0, h.1) refl) known
    (both (a == x) (b == y) (a ≡ x) (b ≡ y) (Decides-eqb a x) (Decides-eqb b y))

three : (make : ℕ → ℕ → ℕ → Root) (a b c x y z : ℕ) → (make a b c ≡ make x y z → (a ≡ x) × ((b ≡ y) × (c ≡ z)))
    → Decides ((a == x) && ((b == y) && (c == z))) (make a b c ≡ make x y z)
three make a b c x y z known =
    exactly ((a == x) && ((b == y) && (c == z))) ((a ≡ x) × ((b ≡ y) × (c ≡ z))) (make a b c ≡ make x y z) (λ h.
    rw (h.0, h.1.0, h.1.1) refl) known
    (both (a == x) ((b == y) && (c == z)) (a ≡ x) ((b ≡ y) × (c ≡ z)) (Decides-eqb a x)
    (both (b == y) (c == z) (b ≡ y) (c ≡ z) (Decides-eqb b y) (Decides-eqb c z)))

-- the form of a root, as a number
abbrev form : Root → ℕ
form (roots.JniGlobal a b) = 0
form (roots.JniLocal a b c) = 1
form (roots.JavaFrame a b c) = 2
form (roots.NativeStack a b) = 3
form (roots.Sticky a) = 4
form (roots.Block a b) = 5
form (roots.Monitor a) = 6
form (roots.ThreadObject a b c) = 7
form (roots.Unknown a) = 8

-- roots of two forms are two
apart : (root other : Root) → (form root == form other) ≡ false → Decides false (root ≡ other)
apart root other differ =
    let same_form : root ≡ other → (form root == form other) ≡ true = λ same. (Decides-eqb (form root) (form other)).1 (ap form same)
    in (λ e. absurd cc, λ same. let t = same_form same in cc)

pub root_eq-Decides : (root other : Root) → Decides ((root_eq.eq-value).it root other) (root ≡ other)
root_eq-Decides (roots.JniGlobal a b) (roots.JniGlobal x y) = two roots.JniGlobal a b x y (λ same. (cc, cc))
root_eq-Decides (roots.JniLocal a b c) (roots.JniLocal x y z) = three roots.JniLocal a b c x y z (λ same. (cc, (cc, cc)))
root_eq-Decides (roots.JavaFrame a b c) (roots.JavaFrame x y z) = three roots.JavaFrame a b c x y z (λ same. (cc, (cc, cc)))
root_eq-Decides (roots.NativeStack a b) (roots.NativeStack x y) = two roots.NativeStack a b x y (λ same. (cc, cc))
root_eq-Decides (roots.Sticky a) (roots.Sticky x) = one roots.Sticky a x (λ same. cc)
root_eq-Decides (roots.Block a b) (roots.Block x y) = two roots.Block a b x y (λ same. (cc, cc))
root_eq-Decides (roots.Monitor a) (roots.Monitor x) = one roots.Monitor a x (λ same. cc)
root_eq-Decides (roots.ThreadObject a b c) (roots.ThreadObject x y z) = three roots.ThreadObject a b c x y z (λ same. (cc, (cc, cc)))
root_eq-Decides (roots.Unknown a) (roots.Unknown x) = one roots.Unknown a x (λ same. cc)
root_eq-Decides root other = apart root other refl
