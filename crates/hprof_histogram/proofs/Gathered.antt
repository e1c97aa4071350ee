-- Rows that are put one behind the other.
use Rattle.std.proofs.Common.{◌≡◌, ℕ, ◌+◌, ◌<◌, Bool, true, false, cond, List, [], ◌∷◌, ◌++◌, length, get_or, drop, ap, sym, ◌∙◌}
use Rattle.std.proofs.Common.{append_assoc, add-one, drop-cons}
use Rattle.std.specs.List.{filter}
use Rattle.std.proofs.lemmas.List.{append-nil}
use Rattle.hprof_values.specs.declared.basic.Basic.{Basic}
use Rattle.hprof_histogram.specs.declared.row.Kind.TheVariants.{Prim}
use Rattle.hprof_histogram.specs.declared.row.Row.{Row}
use Rattle.hprof_histogram.specs.declared.counted.Counted.{Counted}
use Rattle.hprof_histogram.specs.CountedKinds.{has_objects, row_of, type_of, type_rows}

-- a row that may be left out, and then the others
row_pushed : (b : Bool) (done : List Row) (row : Row) (rest : List Row) → (done ++ cond b (row ∷ []) []) ++ rest
    ≡ done ++ cond b (row ∷ rest) rest
row_pushed true done row rest = rw append_assoc
row_pushed false done row rest = ap (λ (l : List Row). l ++ rest) (append-nil done)

-- the row of one type more
pub types_more : (types : List Counted) (elems : List Basic) (place : ℕ) (d : Basic) (done after all : List Row) (counted : Counted)
    → place < length elems
    → counted ≡ type_of types (get_or elems place d)
    → after ≡ done ++ filter has_objects (row_of (Prim (get_or elems place d)) counted ∷ [])
    → done ++ filter has_objects (type_rows types (drop place elems)) ≡ all
    → after ++ filter has_objects (type_rows types (drop (place + 1) elems)) ≡ all
types_more types elems place d done after all counted lt is pushed before =
    let elem = get_or elems place d in
    let row : Counted → Row = row_of (Prim elem) in
    let rest = filter has_objects (type_rows types (drop (place + 1) elems)) in
    let step : drop place elems ≡ elem ∷ drop (place + 1) elems = rw (add-one, drop-cons elems place d) in
    ap (λ (l : List Row). l ++ rest) pushed
    ∙ row_pushed (has_objects (row counted)) done (row counted) rest
    ∙ ap (λ (c : Counted). done ++ cond (has_objects (row c)) (row c ∷ rest) rest) is
    ∙ sym (ap (λ (l : List Basic). done ++ filter has_objects (type_rows types l)) step)
    ∙ before
