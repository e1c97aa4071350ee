-- Cuts that are divided into lists.
use Rattle.std.proofs.Common.{◌≡◌, ◌<◌, ◌≤◌, ◌++◌, ℕ, List, [], ◌∷◌, None, length, take, drop, refl, sym, ap, subst, ◌∙◌}
use Rattle.std.proofs.Common.{append_assoc, append-nil, arith}
use Rattle.std.specs.Prelude.{All}
use Rattle.std.proofs.lemmas.List.{take-append-drop}
use Rattle.std.proofs.lemmas.List.Elements.{All-push}
use Rattle.hprof_objects.specs.declared.any_cut.AnyCut.{AnyCut}
use Rattle.hprof_objects.specs.declared.searched.Searched.{Searched}
use Rattle.hprof_objects.specs.AnyCuts.{AreAbove, AreApart, first_in, last_in}
use Rattle.hprof_objects.specs.DividedCuts.{AreDivided}
use Rattle.hprof_objects.specs.SearchedLists.{Divides, IsFresh, cuts_in}

-- ---- the first cuts

-- each of the cuts lies above the one before, and the last one ends there
abbrev AboveTo : ℕ → List AnyCut → ℕ → Type 0
AboveTo last [] end = last ≡ end
AboveTo last (cut ∷ cuts) end = (last < first_in cut) × (first_in cut ≤ last_in cut) × AboveTo (last_in cut) cuts end

abbrev pub ApartTo : List AnyCut → ℕ → Type 0
ApartTo [] end = ⊥
ApartTo (cut ∷ cuts) end = AboveTo (last_in cut) cuts end

above_more : (last : ℕ) (cuts : List AnyCut) (end : ℕ) (cut : AnyCut) → AboveTo last cuts end → end < first_in cut
    → first_in cut ≤ last_in cut → AboveTo last (cuts ++ cut ∷ []) (last_in cut)
above_more last [] end cut above lt le = (omega (arith, lt, above), le, refl)
above_more last (first ∷ cuts) end cut above lt le = (above.0, above.1, above_more (last_in first) cuts end cut above.2 lt le)

pub apart_more : (cuts : List AnyCut) (end : ℕ) (cut : AnyCut) → ApartTo cuts end → end < first_in cut → first_in cut ≤ last_in cut
    → ApartTo (cuts ++ cut ∷ []) (last_in cut)
apart_more [] end cut apart lt le = absurd apart
apart_more (first ∷ cuts) end cut apart lt le = above_more (last_in first) cuts end cut apart lt le

above_all : (last : ℕ) (cuts : List AnyCut) (end : ℕ) → AboveTo last cuts end → AreAbove last cuts
above_all last [] end above = tt
above_all last (cut ∷ cuts) end above = (above.0, above.1, above_all (last_in cut) cuts end above.2)

pub apart_all : (cuts : List AnyCut) (end : ℕ) → ApartTo cuts end → AreApart cuts
apart_all [] end apart = absurd apart
apart_all (cut ∷ cuts) end apart = above_all (last_in cut) cuts end apart

pub apart_first : (cuts : List AnyCut) (first : AnyCut) (rest : List AnyCut) → cuts ≡ first ∷ rest → ApartTo (take 1 cuts) (last_in first)
apart_first cuts first rest is = subst (λ (l : List AnyCut). ApartTo (take 1 l) (last_in first)) (sym is) refl

-- ---- the numbers of cuts of the lists

-- lists of the rest go on behind those before them
pub counted_more : (cuts rest : List AnyCut) (counts new : List ℕ) (count : ℕ)
    → ((more : List ℕ) → AreDivided rest more → AreDivided cuts (counts ++ more)) → count ≤ length rest → AreApart (take count rest)
    → new ≡ counts ++ count ∷ [] → (more : List ℕ) → AreDivided (drop count rest) more → AreDivided cuts (new ++ more)
counted_more cuts rest counts new count so_far within apart pushed more divided =
    subst (λ (l : List ℕ). AreDivided cuts l)
    (sym (ap (λ (l : List ℕ). l ++ more) pushed ∙ append_assoc counts (count ∷ []) more))
    (so_far (count ∷ more) (within, apart, divided))

pub counted_all : (cuts rest : List AnyCut) (counts : List ℕ)
    → ((more : List ℕ) → AreDivided rest more → AreDivided cuts (counts ++ more)) → rest ≡ [] → AreDivided cuts counts
counted_all cuts rest counts so_far none = subst (λ (l : List ℕ). AreDivided cuts l) (append-nil counts) (so_far [] none)

-- ---- the lists

-- the first cuts are in lists, and the rest is not
pub record DividedSoFar {S R : Type 0} (cuts : List AnyCut) (lists : List (Searched S R)) (rest : List AnyCut) : Type 0 where
  pub same : cuts ≡ cuts_in lists ++ rest
  pub fresh : All IsFresh lists

module _ {S R : Type 0} where
  pub cuts_in-append : (lists others : List (Searched S R)) → cuts_in (lists ++ others) ≡ cuts_in lists ++ cuts_in others
  cuts_in-append [] others = refl
  cuts_in-append (it ∷ lists) others =
      ap (λ (l : List AnyCut). it.cuts.now ++ l) (cuts_in-append lists others)
      ∙ sym (append_assoc it.cuts.now (cuts_in lists) (cuts_in others))

  pub divided_none : (cuts : List AnyCut) → DividedSoFar {S = S} {R = R} cuts [] cuts
  divided_none cuts = record { same = refl; fresh = λ k x lt. absurd (omega (arith, lt)) }

  pub divided_more : (cuts : List AnyCut) (lists new : List (Searched S R)) (rest : List AnyCut) (count : ℕ) (it : Searched S R)
      → DividedSoFar cuts lists rest → it.cuts.now ≡ take count rest → it.cursor ≡ None → AreApart (take count rest)
      → new ≡ lists ++ it ∷ [] → DividedSoFar cuts new (drop count rest)
  divided_more cuts lists new rest count it so_far front closed apart pushed = record {
    same = so_far.same ∙ ap (λ (l : List AnyCut). cuts_in lists ++ l) (sym (take-append-drop count rest))
        ∙ sym (append_assoc (cuts_in lists) (take count rest) (drop count rest))
        ∙ ap (λ (l : List AnyCut). l ++ drop count rest) (sym all);
    fresh = subst (All IsFresh) (sym pushed) (All-push IsFresh lists it so_far.fresh (record {
      apart = subst (λ (l : List AnyCut). AreApart l) (sym front) apart;
      closed = closed;
    }));
  }
    where
      all : cuts_in new ≡ cuts_in lists ++ take count rest
      all = ap (λ (l : List (Searched S R)). cuts_in l) pushed ∙ cuts_in-append lists (it ∷ [])
          ∙ ap (λ (l : List AnyCut). cuts_in lists ++ l) (append-nil it.cuts.now ∙ front)

  pub divided_all : (cuts : List AnyCut) (lists : List (Searched S R)) (rest : List AnyCut) → DividedSoFar cuts lists rest → rest ≡ []
      → Divides cuts lists
  divided_all cuts lists rest so_far none = record {
    same = sym (so_far.same ∙ ap (λ (l : List AnyCut). cuts_in lists ++ l) none ∙ append-nil (cuts_in lists));
    fresh = so_far.fresh;
  }
