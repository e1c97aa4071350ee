-- Suspects, place by place.
use Rattle.std.proofs.Common.{◌≡◌, ◌≢◌, ◌<◌, ◌≤◌, ◌+◌, ◌*◌, ◌++◌, ◌∙◌, ℕ, Bool, List, [], ◌∷◌, get_or, sym, ap, subst, inl, inr, arith}
use Rattle.std.proofs.Common.{slice_index}
use Rattle.std.proofs.lemmas.Bool.{cases_eq}
use Rattle.std.proofs.lemmas.List.{get_or_default}
use Rattle.std.proofs.lemmas.List.Elements.{Contains-append_cases, Contains-append_left, Contains-append_right}
use Rattle.std.proofs.lemmas.List.Quantifiers.{all_pairs_push}
use Rattle.hprof_keeps.specs.Order.{node_of}
use Rattle.hprof_retained.specs.Tree.{sum_at}
use Rattle.hprof_retained.specs.declared.retained.Retained.{Retained}
use Rattle.hprof_histogram.proofs.Members.{Contains-from_in, in_from_Contains}
use Rattle.hprof_suspects.specs.PartPlaces.{IsMarked}
use Rattle.hprof_suspects.specs.SuspectPlaces.{AreSuspectsTo, IsSuspectAt}
use Rattle.hprof_suspects.specs.SuspectsText.{id_of}
use Rattle.hprof_suspects.specs.declared.suspects.SuspectPlace.{SuspectPlace}

module _ (retained : Retained) (parts : List Bool) (sums : List ℕ) where
  pub suspects_begin : AreSuspectsTo retained parts sums 0 []
  suspects_begin = record {
    ascend = λ i j d less low. absurd (omega arith);
    exact = λ suspect. (
      λ has. absurd (in_from_Contains [] suspect has),
      λ is. let before = is.before in absurd (omega arith),
    );
  }

  module _ (done : ℕ) (suspects : List SuspectPlace) (so : AreSuspectsTo retained parts sums done suspects) where
    later : (suspect : SuspectPlace) → IsSuspectAt retained parts sums done suspect → IsSuspectAt retained parts sums (done + 1) suspect
    later suspect is = record {
      before = let before = is.before in omega arith;
      part = is.part;
      pieces = is.pieces;
      enough = is.enough;
      node = is.node;
    }

    earlier : (suspect : SuspectPlace) → IsSuspectAt retained parts sums (done + 1) suspect → suspect.place ≢ done
        → IsSuspectAt retained parts sums done suspect
    earlier suspect is apart = record {
      before = let before = is.before in omega arith;
      part = is.part;
      pieces = is.pieces;
      enough = is.enough;
      node = is.node;
    }

    -- the place is none of a suspect
    pub suspects_same : ((suspect : SuspectPlace) → IsSuspectAt retained parts sums (done + 1) suspect → suspect.place ≢ done)
        → AreSuspectsTo retained parts sums (done + 1) suspects
    suspects_same none = record {
      ascend = so.ascend;
      exact = λ suspect. (
        λ has. later suspect ((so.exact suspect).0 has),
        λ is. (so.exact suspect).1 (earlier suspect is (none suspect is)),
      );
    }

    pub no_part : ¬ (IsMarked parts done) → AreSuspectsTo retained parts sums (done + 1) suspects
    no_part none = suspects_same (λ suspect is same. none (subst (IsMarked parts) same is.part))

    pub too_few : (pieces : ℕ) → pieces + slice_index sums done ≡ (sum_at retained done).bytes
        → ¬ ((sum_at retained 0).bytes ≤ 10 * pieces) → AreSuspectsTo retained parts sums (done + 1) suspects
    too_few pieces are few = suspects_same (λ suspect is same.
        let own : suspect.pieces + slice_index sums done ≡ (sum_at retained done).bytes =
        subst (λ (p : ℕ). suspect.pieces + slice_index sums p ≡ (sum_at retained p).bytes) same is.pieces in
        let equal : suspect.pieces ≡ pieces = omega arith in
        few (subst (λ (n : ℕ). (sum_at retained 0).bytes ≤ 10 * n) equal is.enough))

    pub one_more : (new : SuspectPlace) → new.place ≡ done → IsSuspectAt retained parts sums (done + 1) new
        → AreSuspectsTo retained parts sums (done + 1) (suspects ++ new ∷ [])
    one_more new at is = record {
      ascend = all_pairs_push (λ one other. one.place < other.place) suspects new so.ascend (λ k d low.
          let one = get_or suspects k d in
          let before = ((so.exact one).0 (k, low, get_or_default suspects k one d low)).before in
          omega arith);
      exact = λ suspect. (
        λ has. elim (Contains-append_cases suspects (new ∷ []) suspect has) [
          | inl old ↦ later suspect ((so.exact suspect).0 old)
          | inr last ↦ elim (in_from_Contains (new ∷ []) suspect last) [
            | inl same ↦ subst (IsSuspectAt retained parts sums (done + 1)) (sym same) is
            | inr never ↦ absurd never
          ]
        ],
        λ other. elim (cases_eq suspect.place done) [
          | inl same ↦
              let equal = same_suspect suspect new (same ∙ sym at) other is in
              Contains-append_right suspects (new ∷ []) suspect (Contains-from_in (new ∷ []) suspect (inl equal))
          | inr apart ↦ Contains-append_left suspects (new ∷ []) suspect ((so.exact suspect).1 (earlier suspect other apart))
        ],
      );
    } where
      same_suspect : (one other : SuspectPlace) → one.place ≡ other.place → IsSuspectAt retained parts sums (done + 1) one
          → IsSuspectAt retained parts sums (done + 1) other → one ≡ other
      same_suspect one other place is too =
          let own : one.pieces + slice_index sums other.place ≡ (sum_at retained other.place).bytes =
          subst (λ (p : ℕ). one.pieces + slice_index sums p ≡ (sum_at retained p).bytes) place is.pieces in
          let theirs = too.pieces in
          let pieces : one.pieces ≡ other.pieces = omega arith in
          let node : one.node ≡ other.node = is.node ∙ ap (λ p. id_of (node_of retained p)) place ∙ sym too.node in
          λ i. record { place = place i; node = node i; pieces = pieces i }
