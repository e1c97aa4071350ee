-- The places of chosen objects that a sink was given, and of classes without an object dump in a heap of few objects.
use Rattle.std.specs.Prelude.{◌↔◌, Contains}
use Rattle.std.proofs.Common.{◌≡◌, ◌⊎◌, ◌∙◌, ◌++◌, ℕ, List, [], ◌∷◌, refl, sym, ap, subst, inl, inr}
use Rattle.hprof_values.specs.declared.ids.IdSize.{IdSize}
use Rattle.hprof_items.specs.FactValue.{FactValue}
use Rattle.hprof_rows.specs.declared.key.Key.TheVariants as keys
use Rattle.hprof_rows.specs.declared.table.Table.TheVariants as tables
use Rattle.hprof_rows.specs.Order.{IsCanonicalOrder}
use Rattle.hprof_rows.specs.Tables.{number_of_table, stands_in}
use Rattle.hprof_rows.proofs.ReadBack.{passed_ordered}
use Rattle.hprof_heap.specs.Classes.{ClassValue, HasDump, fact_of_class}
use Rattle.hprof_passes.specs.Passing.{IsWhole, TakesObjects, objects_among}
use Rattle.hprof_passes.proofs.Tables.{has_same}
use Rattle.hprof_small.specs.Small.{IsSmall}
use Rattle.hprof_small.proofs.SmallHas.{dump_kept, no_object_in_all, small_has}
use Rattle.hprof_retained.specs.declared.retained.Retained.{Retained}
use Rattle.hprof_words.proofs.Among.{among_of_contains}
use Rattle.hprof_keeps.specs.Chosen.{IsClassAlone}
use Rattle.hprof_keeps.specs.Gathered.{ArePlacesOf, IsChosenObject, IsGiven, places_of_node}
use Rattle.hprof_keeps.specs.PlaceTaken.{PutsNone, PutsPlace, TakesPlace}
use Rattle.hprof_keeps.specs.declared.choice.Choice.{Choice}
use Rattle.hprof_keeps.specs.declared.place_sink.PlaceSink.{PlaceSink}
use Rattle.hprof_keeps.proofs.ChosenNodes.{object_key, objects_of_table, one_object_key}
use Rattle.hprof_keeps.proofs.GivenPlaces.{Among, Gathering, all_came, came_given, came_other, no_places, none_came, same_places}

-- ---- object by object

module _ (choice : Choice) (retained : Retained) (all : List FactValue) where
  abbrev None : ℕ → Type 0
  None node = ⊥

  abbrev Gathered : List FactValue → List ℕ → Type 0
  Gathered left places = Gathering (IsChosenObject choice) retained None all left places

  one_placed : (object : FactValue) (objects : List FactValue) (old new : PlaceSink) → old.retained.now ≡ retained → old.choice ≡ choice
      → PutsPlace object old new ⊎ PutsNone object old new → Gathered (object ∷ objects) old.places.items
      → Gathered objects new.places.items
  one_placed object objects old new is chosen (inl puts) gathering =
      let same = puts.places ∙ ap (λ (t : Retained). old.places.items ++ places_of_node t puts.node) is in
      subst (Gathered objects) (sym same)
      (came_given (IsChosenObject choice) retained None all (object ∷ objects) objects object old.places.items refl gathering keys.Object
      (object_key choice) one_object_key puts.node (subst (λ (c : Choice). IsChosenObject c object puts.node) chosen puts.chosen)
      (λ none. none))
  one_placed object objects old new is chosen (inr other) gathering =
      subst (Gathered objects) (sym other.places)
      (came_other (IsChosenObject choice) retained None all (object ∷ objects) objects object old.places.items refl gathering
      (λ node gives. other.none node (subst (λ (c : Choice). IsChosenObject c object node) (sym chosen) gives)))

  all_placed : (ids : IdSize) (objects : List FactValue) (old new : PlaceSink) → old.retained.now ≡ retained → old.choice ≡ choice
      → TakesObjects (λ one size object other. TakesPlace size object one other) ids old objects new
      → Gathered objects old.places.items → ArePlacesOf retained (Among (IsChosenObject choice) retained None all) new.places.items
  all_placed ids [] old new is chosen same gathering =
      subst (λ (s : PlaceSink). ArePlacesOf retained (Among (IsChosenObject choice) retained None all) s.places.items) same
      (all_came (IsChosenObject choice) retained None all [] old.places.items refl gathering)
  all_placed ids (object ∷ objects) old new is chosen took gathering =
      all_placed ids objects took.0 new (took.1.retained ∙ is) (took.1.choice ∙ chosen) took.2
      (one_placed object objects old took.0 is chosen took.1.more gathering)

-- of all objects among facts
pub placed_objects : (choice : Choice) (retained : Retained) (ids : IdSize) (all : List FactValue) → IsCanonicalOrder all
    → (old new : PlaceSink) → old.retained.now ≡ retained → old.choice ≡ choice → old.places.items ≡ []
    → TakesObjects (λ one size object other. TakesPlace size object one other) ids old (objects_among all) new
    → ArePlacesOf retained (IsGiven (IsChosenObject choice) all) new.places.items
placed_objects choice retained ids all ordered old new is chosen empty took =
    let Nothing : ℕ → Type 0 = λ node. ⊥ in
    let Gives = IsChosenObject choice in
    let table = objects_among all in
    same_places retained (Among Gives retained Nothing table) (IsGiven Gives all) new.places.items
    (λ node.
    let same = objects_of_table all choice node in
    (λ among. elim among [ inl none ↦ absurd none | inr given ↦ same.0 given ], λ given. inr (same.1 given)))
    (all_placed choice retained table ids table old new is chosen took
    (none_came Gives retained Nothing table table old.places.items refl
    (passed_ordered (stands_in (number_of_table tables.Objects)) all ordered)
    (subst (ArePlacesOf retained Nothing) (sym empty) (no_places retained Nothing (λ node none. none)))))

-- ---- classes without an object dump

module _ (ids : IdSize) (wanted : List ℕ) (facts all small : List FactValue) (whole : IsWhole ids facts all)
    (is : IsSmall ids wanted all small) (has : (dump : ClassValue) → HasDump facts dump → Contains wanted dump.id) where
  -- the objects of all classes are wanted
  class_among : (dump : ClassValue) → HasDump all dump → Contains wanted dump.id
  class_among dump there = has dump ((has_same ids facts all whole tables.Classes (λ e. cc) (fact_of_class dump) refl).0 there)

  pub alone_same : (node : ℕ) → IsClassAlone small node ↔ IsClassAlone all node
  alone_same node = (
    λ alone.
        let there = small_has ids wanted all small is (fact_of_class alone.0) alone.1 in
        let among = among_of_contains wanted node (subst (Contains wanted) alone.2 (class_among alone.0 there)) in
        (alone.0, there, alone.2, no_object_in_all ids wanted all small is node among alone.3),
    λ alone. (
      alone.0,
      dump_kept ids wanted all small is alone.0 alone.1,
      alone.2,
      λ fact there is_object. alone.3 fact (small_has ids wanted all small is fact there) is_object,
    ),
  )

  pub with_alone : (retained : Retained) (choice : Choice) (places : List ℕ)
      → ArePlacesOf retained (λ node. IsGiven (IsChosenObject choice) all node ⊎ IsClassAlone small node) places
      → ArePlacesOf retained (λ node. IsGiven (IsChosenObject choice) all node ⊎ IsClassAlone all node) places
  with_alone retained choice places are =
      same_places retained (λ node. IsGiven (IsChosenObject choice) all node ⊎ IsClassAlone small node)
      (λ node. IsGiven (IsChosenObject choice) all node ⊎ IsClassAlone all node) places (λ node. (
        λ either. elim either [ inl object ↦ inl object | inr alone ↦ inr ((alone_same node).0 alone) ],
        λ either. elim either [ inl object ↦ inl object | inr alone ↦ inr ((alone_same node).1 alone) ],
      )) are
