-- The objects of threads and those that threads hold, as they are appended to a list.
use Rattle.std.specs.Prelude.{Contains}
use Rattle.std.proofs.Common.{◌≡◌, ℕ, List, [], ◌∷◌, ◌++◌, map, inl, inr, sym, ap, subst, ◌∙◌, append_assoc}
use Rattle.std.proofs.lemmas.List.Elements.{Contains-append_left, Contains-append_right, Contains-push}
use Rattle.hprof_items.specs.FactValue.{FactValue}
use Rattle.hprof_rows.specs.Conflict.{IsConsistent}
use Rattle.hprof_histogram.proofs.Members.{Contains-from_in, IsIn, in_from_Contains}
use Rattle.hprof_threads.specs.declared.held.Held.{Held}
use Rattle.hprof_threads.specs.Held.{AreHeldBy}
use Rattle.hprof_threads.specs.Threads.{IsThreadObject}
use Rattle.hprof_threads.proofs.ThreadAnswers.{object_once}
use Rattle.hprof_holders.specs.ThreadObjects.{HasThreadObjects}

-- the objects of rows
abbrev pub objects_in : List Held → List ℕ
objects_in rows = map (λ (held : Held). held.object) rows

-- ---- appended one by one

module _ {X : Type 0} (of : X → ℕ) where
  pub one_appended : (list new : List ℕ) (first : X) (rest after : List X) (whole : List ℕ) → new ≡ list ++ of first ∷ []
      → rest ≡ first ∷ after → list ++ map of rest ≡ whole → new ++ map of after ≡ whole
  one_appended list new first rest after whole pushed is was =
      ap (λ (l : List ℕ). l ++ map of after) pushed ∙ append_assoc list (of first ∷ []) (map of after)
      ∙ ap (λ (l : List X). list ++ map of l) (sym is) ∙ was

  -- what a member gives is in the list
  pub given_in : (xs : List X) (x : X) → IsIn x xs → IsIn (of x) (map of xs)
  given_in [] x has = absurd has
  given_in (first ∷ xs) x has = elim has [
    | inl is ↦ inl (ap of is)
    | inr later ↦ inr (given_in xs x later)
  ]

-- ---- a thread

-- its object, and behind that those of its rows
module _ (old mid new : List ℕ) (object : ℕ) (rows : List Held) (first : mid ≡ old ++ object ∷ []) (second : new ≡ mid ++ objects_in rows)
  where
    pub thread_more : (more : List ℕ) × (new ≡ old ++ more)
    thread_more = (
      object ∷ objects_in rows,
      second ∙ ap (λ (l : List ℕ). l ++ objects_in rows) first ∙ append_assoc old (object ∷ []) (objects_in rows),
    )

    pub has_thread : (facts : List FactValue) → IsConsistent facts → (serial : ℕ) → IsThreadObject facts serial object
        → AreHeldBy facts serial rows → HasThreadObjects facts new serial
    has_thread facts agree serial is are = record {
      own = λ other of. subst (λ (l : List ℕ). Contains l other) (sym second)
          (Contains-append_left mid (objects_in rows) other
          (subst (Contains mid) (object_once facts agree serial object other is of)
          (subst (λ (l : List ℕ). Contains l object) (sym first) (Contains-push old object))));
      held = λ held of by. subst (λ (l : List ℕ). Contains l held.object) (sym second)
          (Contains-append_right mid (objects_in rows) held.object
          (Contains-from_in (objects_in rows) held.object
          (given_in (λ (held : Held). held.object) rows held (in_from_Contains rows held ((are.exact held).1 (of, by))))));
    }

-- a longer list has it too
pub thread_of_more : (facts : List FactValue) (list more : List ℕ) → ((node : ℕ) → Contains list node → Contains more node)
    → (serial : ℕ) → HasThreadObjects facts list serial → HasThreadObjects facts more serial
thread_of_more facts list more into serial has = record {
  own = λ object is. into object (has.own object is);
  held = λ held is by. into held.object (has.held held is by);
}
