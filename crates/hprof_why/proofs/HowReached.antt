-- How an identifier is reached, from what searches tell.
use Rattle.std.specs.Prelude.{Contains}
use Rattle.std.proofs.Common.{◌≡◌, ℕ, Bool, true, List, [], ◌∷◌, ◌++◌, Option, Some, None, Result, Ok, Err, inl, sym, subst, ◌∙◌}
use Rattle.std.proofs.lemmas.List.Elements.{Contains-append_right, Contains-push}
use Rattle.std.specs.Prelude.{◌↔◌, OnOk, is_some}
use Rattle.hprof_values.specs.declared.ids.IdSize.{IdSize}
use Rattle.hprof_items.specs.FactValue.{FactValue}
use Rattle.hprof_heap.specs.declared.class_dump.ClassDump.{ClassDump}
use Rattle.hprof_heap.specs.ClassDump.{AnswersClass, class_value}
use Rattle.hprof_reach.specs.Reaching.{IsDistanceBy, IsDumped}
use Rattle.hprof_weak.specs.Weak.{IsStrong}
use Rattle.hprof_holders.specs.WhoObjects.{HasRootObjects}
use Rattle.hprof_holders.proofs.RootObjects.{still_in}
use Rattle.hprof_why.specs.declared.reached.Reached.{Reached}
use Rattle.hprof_why.specs.declared.reached.Reached.TheVariants as reached
use Rattle.hprof_why.specs.Paths.{IsReached, IsWithoutStrong}
use Rattle.hprof_why.specs.WhyObjects.{HasPathObjects}

-- no strong edges lead to it
pub reached_otherwise : (ids : IdSize) (facts : List FactValue) (id : ℕ) (how : Reached) → IsDistanceBy (IsStrong facts) ids facts id None
    → IsWithoutStrong ids facts id how → IsReached ids facts id how
reached_otherwise ids facts id (reached.Strongly path) none is = absurd is
reached_otherwise ids facts id (reached.Weakly path) none is = (none, is)
reached_otherwise ids facts id reached.Nowise none is = (none, is)

-- an identifier whose class dump was found has a dump
pub class_dumped : (ids : IdSize) (facts : List FactValue) (id : ℕ) (class : Option ClassDump) → AnswersClass ids facts id class
    → (result : Bool) → result ≡ is_some class → result ≡ true → IsDumped facts id
class_dumped ids facts id (Some dump) found result is told = inl (class_value dump, found.found, found.id)
class_dumped ids facts id None found result is told = let clash = sym is ∙ told in absurd cc

-- ---- the objects on a path

both_ok : {A E P Q R : Type 0} (r : Result A E) → (P → Q → R) → OnOk r P → OnOk r Q → OnOk r R
both_ok (Ok answer) so p q = so p q
both_ok (Err fault) so p q = tt

-- a path was appended, and behind it the objects of the threads of the first node's roots
module _ (facts : List FactValue) (old mid new path rest : List ℕ) (first : ℕ) (appended : mid ≡ old ++ path)
    (split : path ≡ first ∷ rest) where
  path_pushed : (more : List ℕ) × (new ≡ mid ++ more) → HasRootObjects facts new first → HasPathObjects facts new path
  path_pushed grows has = record {
    each = λ node there. still_in mid grows.0 new grows.1 node
        (subst (λ (l : List ℕ). Contains l node) (sym appended) (Contains-append_right old path node there));
    threads = λ other others split_too.
        let both : first ∷ rest ≡ other ∷ others = sym split ∙ split_too in
        let same : first ≡ other = cc in
        subst (HasRootObjects facts new) same has;
  }

  pub path_there : {A E : Type 0} (r : Result A E) → OnOk r ((more : List ℕ) × (new ≡ mid ++ more))
      → OnOk r (HasRootObjects facts new first)
      → OnOk r (HasPathObjects facts new path)
  path_there r = both_ok r path_pushed

-- an identifier and a path; and these sorted
module _ (start own all sorted more : List ℕ) (id : ℕ) (one : own ≡ start ++ id ∷ []) (two : all ≡ own ++ more)
    (same : (node : ℕ) → Contains sorted node ↔ Contains all node) where
  pub own_sorted : Contains sorted id
  own_sorted = (same id).1 (still_in own more all two id (subst (λ (l : List ℕ). Contains l id) (sym one) (Contains-push start id)))

  pub path_sorted : (facts : List FactValue) (path : List ℕ) → HasPathObjects facts all path → HasPathObjects facts sorted path
  path_sorted facts path has = record {
    each = λ node there. (same node).1 (has.each node there);
    threads = λ first rest split serial object of is. (same object).1 (has.threads first rest split serial object of is);
  }
