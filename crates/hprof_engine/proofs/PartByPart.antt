-- What parts state together, part by part.
use Rattle.std.proofs.Common.{◌≡◌, ℕ, zero, suc, ◌<◌, ◌≤◌, List, [], ◌∷◌, length, map, refl, sym, ap, subst, ◌∙◌, ◌⊎◌, inl, inr, arith}
use Rattle.std.specs.Prelude.{slice_index_or}
use Rattle.std.specs.List.{AllByRecursion, Contains, flat_map}
use Rattle.hprof_values.specs.declared.ids.IdSize.{IdSize}
use Rattle.hprof_items.specs.FactValue.{FactValue}
use Rattle.hprof_stream.specs.Part.{IsPart}
use Rattle.hprof_rows.specs.Facts.{Has, SameFacts}
use Rattle.hprof_heap.specs.State.{PartState, StatesIt, IsLeastOf, IsState}
use Rattle.hprof_rows.proofs.FactSets.{Has-parts, Has-front, Has-back}
use Rattle.hprof_stream.proofs.Parts.{states_one}

-- ---- the elements of a list

module _ {X : Type 0} where
  -- the first is one of them
  pub contains_first : (x : X) (xs : List X) → Contains (x ∷ xs) x
  contains_first x xs = (0, omega arith, refl)

  -- and so is each of the others
  pub contains_later : (x : X) (xs : List X) (y : X) → Contains xs y → Contains (x ∷ xs) y
  contains_later x xs y there = let within = there.1 in (suc there.0, omega arith, there.2)

  by_place : (x : X) (xs : List X) (y : X) (k : ℕ) → k < length (x ∷ xs) → slice_index_or (x ∷ xs) k y ≡ y → (x ≡ y) ⊎ Contains xs y
  by_place x xs y zero within at = inl at
  by_place x xs y (suc k) within at = inr (k, omega arith, at)

  -- no other is
  pub contains_cases : (x : X) (xs : List X) (y : X) → Contains (x ∷ xs) y → (x ≡ y) ⊎ Contains xs y
  contains_cases x xs y there = by_place x xs y there.0 there.1 there.2

  -- none is in no list
  pub contains_none : (y : X) → Contains [] y → ⊥
  contains_none y there = let within = there.1 in omega arith

  -- what holds of all holds of each
  pub holds_of : (P : X → Type 0) (xs : List X) (y : X) → AllByRecursion P xs → Contains xs y → P y
  holds_of P [] y all there = absurd (contains_none y there)
  holds_of P (x ∷ xs) y all there =
      elim (contains_cases x xs y there) [ inl same ↦ subst P same all.0 | inr later ↦ holds_of P xs y all.1 later ]

  -- and what holds of each holds of all
  pub holds_of_all : (P : X → Type 0) (xs : List X) → ((y : X) → Contains xs y → P y) → AllByRecursion P xs
  holds_of_all P [] each = tt
  holds_of_all P (x ∷ xs) each = (each x (contains_first x xs), holds_of_all P xs (λ y there. each y (contains_later x xs y there)))

module _ {X Y : Type 0} (f : X → Y) where
  -- what a function gives of an element is one of what it gives
  pub contains_image : (xs : List X) (x : X) → Contains xs x → Contains (map f xs) (f x)
  contains_image [] x there = absurd (contains_none x there)
  contains_image (first ∷ xs) x there = elim (contains_cases first xs x there) [
    | inl same ↦ subst (λ (z : X). Contains (f first ∷ map f xs) (f z)) same (contains_first (f first) (map f xs))
    | inr later ↦ contains_later (f first) (map f xs) (f x) (contains_image xs x later)
  ]

  -- of which element it is
  pub image_of : (xs : List X) (y : Y) → Contains (map f xs) y → (x : X) × Contains xs x × (f x ≡ y)
  image_of [] y there = absurd (contains_none y there)
  image_of (x ∷ xs) y there = elim (contains_cases (f x) (map f xs) y there) [
    | inl same ↦ (x, contains_first x xs, same)
    | inr later ↦ let of = image_of xs y later in (of.0, contains_later x xs of.0 of.1, of.2)
  ]

module _ {X : Type 0} (f : X → List FactValue) where
  -- a fact of an element is one of all facts
  pub has_all : (xs : List X) (x : X) (fact : FactValue) → Contains xs x → Has (f x) fact → Has (flat_map f xs) fact
  has_all [] x fact there has = absurd (contains_none x there)
  has_all (first ∷ xs) x fact there has = elim (contains_cases first xs x there) [
    | inl same ↦ Has-front (f first) (flat_map f xs) fact (subst (λ (z : X). Has (f z) fact) (sym same) has)
    | inr later ↦ Has-back (f first) (flat_map f xs) fact (has_all xs x fact later has)
  ]

  -- of which element it is
  pub has_of : (xs : List X) (fact : FactValue) → Has (flat_map f xs) fact → (x : X) × Contains xs x × Has (f x) fact
  has_of [] fact has = absurd has
  has_of (x ∷ xs) fact has = elim (Has-parts (f x) (flat_map f xs) fact has) [
    | inl here ↦ (x, contains_first x xs, here)
    | inr later ↦ let of = has_of xs fact later in (of.0, contains_later x xs of.0 of.1, of.2)
  ]

-- ---- one part among others

-- what bytes state, as a part with that size of identifiers
pub record Says (ids : IdSize) (bytes : List ℕ) : Type 0 where
  pub millis : ℕ
  pub facts : List FactValue
  pub part : IsPart bytes ids millis facts

-- one of the parts, and what it states
pub record OneOf (parts : List (List ℕ)) (ids : IdSize) : Type 0 where
  pub bytes : List ℕ
  pub there : Contains parts bytes
  pub says : Says ids bytes

-- bytes say one thing
pub says_once : (ids other : IdSize) (bytes again : List ℕ) (one : Says ids bytes) (more : Says other again) → bytes ≡ again
    → (one.millis ≡ more.millis) × (one.facts ≡ more.facts)
says_once ids other bytes again one more e =
    let part : IsPart again ids one.millis one.facts = subst (λ (b : List ℕ). IsPart b ids one.millis one.facts) e one.part in
    let same = states_one again ids other one.millis more.millis one.facts more.facts part more.part in
    (same.1, same.2)

-- each of the parts has that size, the time is the least of theirs, and the facts are theirs
pub record SayTogether (parts : List (List ℕ)) (ids : IdSize) (millis : ℕ) (facts : List FactValue) : Type 0 where
  pub each : (bytes : List ℕ) → Contains parts bytes → Says ids bytes
  pub earliest : (one : OneOf parts ids) × (one.says.millis ≡ millis)
  pub least : (one : OneOf parts ids) → millis ≤ one.says.millis
  pub stated : (fact : FactValue) → Has facts fact → (one : OneOf parts ids) × Has one.says.facts fact
  pub states : (fact : FactValue) (one : OneOf parts ids) → Has one.says.facts fact → Has facts fact

-- ---- from a list of what the parts state, and to one

module _ (parts : List (List ℕ)) (ids : IdSize) (states : List PartState) (of_parts : map (λ part. part.bytes) states ≡ parts)
    (each : AllByRecursion StatesIt states) (sizes : AllByRecursion (λ part. part.ids ≡ ids) states) where
  -- what a part that is listed says
  abbrev said : (state : PartState) → Contains states state → Says ids state.bytes
  said state there = record {
    millis = state.millis;
    facts = state.facts;
    part = subst (λ (i : IdSize). IsPart state.bytes i state.millis state.facts)
        (holds_of (λ part. part.ids ≡ ids) states state sizes there)
        (holds_of StatesIt states state each there);
  }

  -- it is one of the parts
  abbrev listed : (state : PartState) → Contains states state → OneOf parts ids
  listed state there = record {
    bytes = state.bytes;
    there = subst (λ (l : List (List ℕ)). Contains l state.bytes) of_parts (contains_image (λ part. part.bytes) states state there);
    says = said state there;
  }

  -- the part that is listed with these bytes
  list_of : (bytes : List ℕ) → Contains parts bytes → (state : PartState) × Contains states state × (state.bytes ≡ bytes)
  list_of bytes there = image_of (λ part. part.bytes) states bytes (subst (λ (l : List (List ℕ)). Contains l bytes) (sym of_parts) there)

  -- each part is listed with what it says
  pub each_listed : (bytes : List ℕ) → Contains parts bytes → Says ids bytes
  each_listed bytes there = let of = list_of bytes there in subst (Says ids) of.2 (said of.0 of.1)

  -- a part that is one of them, and what is listed of it
  record IsListed (one : OneOf parts ids) : Type 0 where
    pub state : PartState
    pub there : Contains states state
    pub millis : state.millis ≡ one.says.millis
    pub facts : state.facts ≡ one.says.facts

  is_listed : (one : OneOf parts ids) → IsListed one
  is_listed one =
      let of = list_of one.bytes one.there in
      let same = says_once ids ids of.0.bytes one.bytes (said of.0 of.1) one.says of.2 in
      record { state = of.0; there = of.1; millis = same.0; facts = same.1 }

  -- the least time and the facts of the list are those of the parts
  pub from_list : (millis : ℕ) (facts : List FactValue) → IsLeastOf (map (λ part. part.millis) states) millis
      → SameFacts facts (flat_map (λ part. part.facts) states)
      → SayTogether parts ids millis facts
  from_list millis facts is same = record {
    each = each_listed;
    earliest = let of = image_of (λ part. part.millis) states millis is.is_one in (listed of.0 of.1, of.2);
    least = λ one.
        let it = is_listed one in
        subst (λ (n : ℕ). millis ≤ n) it.millis (holds_of (λ n. millis ≤ n) (map (λ part. part.millis) states) it.state.millis
        is.is_least (contains_image (λ part. part.millis) states it.state it.there));
    stated = λ fact has. let of = has_of (λ part. part.facts) states fact ((same fact).0 has) in (listed of.0 of.1, of.2);
    states = λ fact one has.
        let it = is_listed one in
        (same fact).1 (has_all (λ part. part.facts) states it.state fact it.there (subst (λ (l : List FactValue). Has l fact)
        (sym it.facts) has));
  }

  -- and the other way round
  pub to_list : (millis : ℕ) (facts : List FactValue) → SayTogether parts ids millis facts → IsState parts ids millis facts
  to_list millis facts say = record {
    states = states;
    of_parts = of_parts;
    each = each;
    one_size = sizes;
    earliest = record {
      is_one = let it = is_listed say.earliest.0 in subst (Contains (map (λ part. part.millis) states)) (it.millis ∙ say.earliest.1)
          (contains_image (λ part. part.millis) states it.state it.there);
      is_least = holds_of_all (λ n. millis ≤ n) (map (λ part. part.millis) states) (λ n there.
          let of = image_of (λ part. part.millis) states n there in subst (λ (m : ℕ). millis ≤ m) of.2 (say.least (listed of.0 of.1)));
    };
    same = λ fact. (
      λ has.
          let one = say.stated fact has in
          let it = is_listed one.0 in
          has_all (λ part. part.facts) states it.state fact it.there (subst (λ (l : List FactValue). Has l fact) (sym it.facts) one.1),
      λ has. let of = has_of (λ part. part.facts) states fact has in say.states fact (listed of.0 of.1) of.2,
    );
  }

-- what parts state, part by part
pub say_together : (parts : List (List ℕ)) (ids : IdSize) (millis : ℕ) (facts : List FactValue) → IsState parts ids millis facts
    → SayTogether parts ids millis facts
say_together parts ids millis facts state =
    from_list parts ids state.states state.of_parts state.each state.one_size millis facts state.earliest state.same

-- a list of what each part says
abbrev list_of_each : (ids : IdSize) (parts : List (List ℕ)) → ((bytes : List ℕ) → Contains parts bytes → Says ids bytes) → List PartState
list_of_each ids [] each = []
list_of_each ids (bytes ∷ parts) each =
    let says = each bytes (contains_first bytes parts) in
    record { bytes = bytes; ids = ids; millis = says.millis; facts = says.facts }
    ∷ list_of_each ids parts (λ other there. each other (contains_later bytes parts other there))

-- it lists the parts
module _ (ids : IdSize) where
  list-bytes : (parts : List (List ℕ)) (each : (bytes : List ℕ) → Contains parts bytes → Says ids bytes)
      → map (λ part. part.bytes) (list_of_each ids parts each) ≡ parts
  list-bytes [] each = refl
  list-bytes (bytes ∷ parts) each =
      ap (λ (l : List (List ℕ)). bytes ∷ l) (list-bytes parts (λ other there. each other (contains_later bytes parts other there)))

  list-each : (parts : List (List ℕ)) (each : (bytes : List ℕ) → Contains parts bytes → Says ids bytes)
      → AllByRecursion StatesIt (list_of_each ids parts each)
  list-each [] each = tt
  list-each (bytes ∷ parts) each =
      ((each bytes (contains_first bytes parts)).part, list-each parts (λ other there. each other (contains_later bytes parts other there)))

  list-sizes : (parts : List (List ℕ)) (each : (bytes : List ℕ) → Contains parts bytes → Says ids bytes)
      → AllByRecursion (λ part. part.ids ≡ ids) (list_of_each ids parts each)
  list-sizes [] each = tt
  list-sizes (bytes ∷ parts) each = (refl, list-sizes parts (λ other there. each other (contains_later bytes parts other there)))

-- what is said part by part is what the parts state
pub said_together : (parts : List (List ℕ)) (ids : IdSize) (millis : ℕ) (facts : List FactValue) → SayTogether parts ids millis facts
    → IsState parts ids millis facts
said_together parts ids millis facts say =
    to_list parts ids (list_of_each ids parts say.each) (list-bytes ids parts say.each) (list-each ids parts say.each)
    (list-sizes ids parts say.each) millis facts say
