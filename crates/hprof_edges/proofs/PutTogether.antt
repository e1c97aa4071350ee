-- What was put, one behind the other.
use Rattle.std.specs.Prelude.{◌≢◌, ◌↔◌}
use Rattle.std.proofs.Common.{◌≡◌, ◌==◌, ◌⊎◌, Bool, cond, List, [], ◌∷◌, ◌++◌, Contains, refl, sym, ap, subst, ◌∙◌, inl, inr, arith}
use Rattle.std.proofs.Common.{append_assoc}
use Rattle.std.proofs.lemmas.Bool.{eq-eqb, eqb-true, false_from_ne_true}
use Rattle.std.proofs.lemmas.List.{append-nil}
use Rattle.std.proofs.lemmas.List.Elements.{Contains-append_cases, Contains-append_left, Contains-append_right}
use Rattle.hprof_edges.specs.declared.edge.Edge.{Edge}
use Rattle.hprof_edges.specs.Collecting.{PutBehind}
use Rattle.hprof_edges.specs.EdgeLists.{unless_zero}

-- an empty list has nothing
pub nothing_there : {X : Type 0} (x : X) → Contains [] x → ⊥
nothing_there x there = let lt = there.1 in omega arith

-- ---- as a set

-- of which nothing holds, nothing is put
pub put_nothing : (edges : List Edge) (holds : List Edge → Type 0) (P : Edge → Type 0) → holds edges → ((edge : Edge) → P edge → ⊥)
    → PutBehind holds edges P
put_nothing edges holds P held none = record {
  more = [];
  holds_more = subst holds (sym (append-nil edges)) held;
  exact = λ edge. (λ there. absurd (nothing_there edge there), λ is. absurd (none edge is));
}

-- some, and then others
pub put_both : (edges : List Edge) (before after : List Edge → Type 0) (P Q R : Edge → Type 0) → PutBehind before edges P
    → ((longer : List Edge) → before longer → PutBehind after longer Q) → ((edge : Edge) → R edge ↔ (P edge ⊎ Q edge))
    → PutBehind after edges R
put_both edges before after P Q R first second both =
    let next = second (edges ++ first.more) first.holds_more in
    record {
      more = first.more ++ next.more;
      holds_more = subst after (append_assoc edges first.more next.more) next.holds_more;
      exact = λ edge. (
        λ there. (both edge).1 (elim (Contains-append_cases first.more next.more edge there) [
          | inl front ↦ inl ((first.exact edge).0 front)
          | inr back ↦ inr ((next.exact edge).0 back)
        ]),
        λ is. elim ((both edge).0 is) [
          | inl p ↦ Contains-append_left first.more next.more edge ((first.exact edge).1 p)
          | inr q ↦ Contains-append_right first.more next.more edge ((next.exact edge).1 q)
        ],
      );
    }

-- of the same edges something else holds
pub put_same : (edges : List Edge) (holds : List Edge → Type 0) (P Q : Edge → Type 0) → PutBehind holds edges P
    → ((edge : Edge) → Q edge ↔ P edge) → PutBehind holds edges Q
put_same edges holds P Q put same = record {
  more = put.more;
  holds_more = put.holds_more;
  exact = λ edge. (λ there. (same edge).1 ((put.exact edge).0 there), λ is. (put.exact edge).1 ((same edge).0 is));
}

-- ---- an edge

pub put_zero : (holds : List Edge → Type 0) (edges : List Edge) (edge : Edge) → edge.to ≡ 0 → holds edges
    → holds (edges ++ unless_zero edge)
put_zero holds edges edge is_zero held =
    subst (λ (t : Bool). holds (edges ++ cond t [] (edge ∷ []))) (sym (eq-eqb edge.to 0 is_zero))
    (subst holds (sym (append-nil edges)) held)

pub put_some : (holds : List Edge → Type 0) (edges : List Edge) (edge : Edge) → edge.to ≢ 0 → holds (edges ++ edge ∷ [])
    → holds (edges ++ unless_zero edge)
put_some holds edges edge not_zero held =
    subst (λ (t : Bool). holds (edges ++ cond t [] (edge ∷ [])))
    (sym (false_from_ne_true (edge.to == 0) (λ yes. not_zero (eqb-true edge.to 0 yes)))) held

-- ---- as a list

-- these were put; with what is left they are all
pub record Putting (holds : List Edge → Type 0) (edges all left : List Edge) : Type 0 where
  pub done : List Edge
  pub holds_done : holds (edges ++ done)
  pub all_are : all ≡ done ++ left

pub putting_none : (holds : List Edge → Type 0) (edges all : List Edge) → holds edges → Putting holds edges all all
putting_none holds edges all held = record {
  done = [];
  holds_done = subst holds (sym (append-nil edges)) held;
  all_are = refl;
}

pub putting_more : (before after : List Edge → Type 0) (edges all left some rest : List Edge) → Putting before edges all left
    → left ≡ some ++ rest → ((longer : List Edge) → before longer → after (longer ++ some)) → Putting after edges all rest
putting_more before after edges all left some rest was next put = record {
  done = was.done ++ some;
  holds_done = subst after (append_assoc edges was.done some) (put (edges ++ was.done) was.holds_done);
  all_are = was.all_are ∙ ap (λ (l : List Edge). was.done ++ l) next ∙ sym (append_assoc was.done some rest);
}

pub putting_all : (holds : List Edge → Type 0) (edges all left : List Edge) → Putting holds edges all left → left ≡ []
    → holds (edges ++ all)
putting_all holds edges all left was none =
    subst (λ (l : List Edge). holds (edges ++ l))
    (sym (was.all_are ∙ ap (λ (l : List Edge). was.done ++ l) none ∙ append-nil was.done)) was.holds_done
