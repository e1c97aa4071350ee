-- A sink that is given facts one after the other.
use Rattle.std.proofs.Common.{◌≡◌, List, [], ◌∷◌, ◌++◌, inl, inr, refl, sym, ap, subst, ◌∙◌, append-nil, append_assoc}
use Rattle.hprof_values.specs.declared.ids.IdSize.{IdSize}
use Rattle.hprof_items.specs.FactValue.{FactValue}
use Rattle.hprof_items.specs.Spelling.{Fits}
use Rattle.hprof_rows.specs.Facts.{AllFit, Has}
use Rattle.hprof_rows.specs.declared.table.Table.TheVariants as tables
use Rattle.hprof_rows.specs.Tables.{number_of_table, stands_in}
use Rattle.hprof_passes.specs.Passing.{RefusesObject, TakesObjects, objects_among}
use Rattle.hprof_passes.proofs.Tables.{has_of_filter}

module _ {T : Type 0} (takes : T → IdSize → FactValue → T → Type 0) (ids : IdSize) where
  -- one object more
  pub takes_more : (old mid new : T) (objects : List FactValue) (object : FactValue) → TakesObjects takes ids old objects mid
      → takes mid ids object new → TakesObjects takes ids old (objects ++ object ∷ []) new
  takes_more old mid new [] object same took = (new, subst (λ (t : T). takes t ids object new) (sym same) took, refl)
  takes_more old mid new (first ∷ objects) object took more = (took.0, took.1, takes_more took.0 mid new objects object took.2 more)

  -- some objects, and then others
  pub takes_both : (old mid new : T) (objects others : List FactValue) → TakesObjects takes ids old objects mid
      → TakesObjects takes ids mid others new → TakesObjects takes ids old (objects ++ others) new
  takes_both old mid new [] others same second = subst (λ (t : T). TakesObjects takes ids t others new) (sym same) second
  takes_both old mid new (first ∷ objects) others took second = (
    took.0,
    took.1,
    takes_both took.0 mid new objects others took.2 second,
  )

  -- the objects before those that are left were taken
  pub record GoesOver (all : List FactValue) (old now : T) (left : List FactValue) : Type 0 where
    pub front : List FactValue
    pub are : all ≡ front ++ left
    pub took : TakesObjects takes ids old front now
    pub fit : AllFit ids left

  pub begins : (facts left : List FactValue) (old : T) → AllFit ids facts → left ≡ objects_among facts
      → GoesOver (objects_among facts) old old left
  begins facts left old fit all = record {
    front = [];
    are = sym all;
    took = refl;
    fit = λ fact has. fit fact (has_of_filter (stands_in (number_of_table tables.Objects)) facts fact
        (subst (λ (l : List FactValue). Has l fact) all has));
  }

  pub goes_on : (all : List FactValue) (old now new : T) (left rest : List FactValue) (object : FactValue) → left ≡ object ∷ rest
      → takes now ids object new → GoesOver all old now left → GoesOver all old new rest
  goes_on all old now new left rest object next took over = record {
    front = over.front ++ object ∷ [];
    are =
        over.are ∙ ap (λ (l : List FactValue). over.front ++ l) next ∙ sym (append_assoc over.front (object ∷ []) rest);
    took = takes_more old now new over.front object over.took took;
    fit = λ fact has. over.fit fact (subst (λ (l : List FactValue). Has l fact) (sym next) (inr has));
  }

  pub ends : (all : List FactValue) (old now : T) (left : List FactValue) → left ≡ [] → GoesOver all old now left
      → TakesObjects takes ids old all now
  ends all old now left none over =
      subst (λ (l : List FactValue). TakesObjects takes ids old l now)
      (sym (over.are ∙ ap (λ (l : List FactValue). over.front ++ l) none ∙ append-nil over.front)) over.took

  -- the next one fits
  pub next_fits : (all : List FactValue) (old now : T) (left rest : List FactValue) (object : FactValue) → left ≡ object ∷ rest
      → GoesOver all old now left → Fits ids object
  next_fits all old now left rest object next over = over.fit object (subst (λ (l : List FactValue). Has l object) (sym next) (inl refl))

  module _ {E : Type 0} (refuses : T → IdSize → FactValue → E → T → Type 0) where
    -- one of these objects was refused, behind others that were taken
    pub refused_behind : (old mid new : T) (objects others rest : List FactValue) (fault : E) → TakesObjects takes ids old objects mid
        → RefusesObject takes refuses ids others fault mid new → RefusesObject takes refuses ids (objects ++ (others ++ rest)) fault old new
    refused_behind old mid new objects others rest fault took within = record {
      front = objects ++ within.front;
      object = within.object;
      behind = within.behind ++ rest;
      are =
          ap (λ (l : List FactValue). objects ++ (l ++ rest)) within.are
          ∙ ap (λ (l : List FactValue). objects ++ l) (append_assoc within.front (within.object ∷ within.behind) rest)
          ∙ sym (append_assoc objects within.front (within.object ∷ (within.behind ++ rest)));
      mid = within.mid;
      took = takes_both old mid within.mid objects within.front took within.took;
      refused = within.refused;
    }

    pub refused : (all : List FactValue) (old now new : T) (left rest : List FactValue) (object : FactValue) (fault : E)
        → left ≡ object ∷ rest → refuses now ids object fault new → GoesOver all old now left
        → RefusesObject takes refuses ids all fault old new
    refused all old now new left rest object fault next says over = record {
      front = over.front;
      object = object;
      behind = rest;
      are = over.are ∙ ap (λ (l : List FactValue). over.front ++ l) next;
      mid = now;
      took = over.took;
      refused = says;
    }
