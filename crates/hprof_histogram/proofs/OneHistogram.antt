-- Facts have one histogram.
use Rattle.std.proofs.Common.{◌≡◌, ◌<◌, Bool, true, false, cond, List, [], ◌∷◌, Option, Some, None, length, refl, sym, ap, subst, ◌∙◌, inl}
use Rattle.std.proofs.Common.{inr, arith}
use Rattle.std.specs.List.{Contains, sum_by}
use Rattle.std.proofs.lemmas.Bool.{eqb-true}
use Rattle.hprof_values.specs.declared.ids.IdSize.{IdSize}
use Rattle.hprof_values.specs.declared.basic.Basic.{Basic}
use Rattle.hprof_values.specs.Basic.{code_of_basic, basic_of_code}
use Rattle.hprof_values.proofs.EntryLists.{code_again}
use Rattle.hprof_items.specs.FactValue.{FactValue}
use Rattle.hprof_rows.specs.Facts.{Has}
use Rattle.hprof_histogram.specs.declared.row.Kind.{Kind}
use Rattle.hprof_histogram.specs.declared.row.Kind.TheVariants.{Class, Prim}
use Rattle.hprof_histogram.specs.declared.row.Row.{Row}
use Rattle.hprof_histogram.specs.Histogram.{object_kind, size_of_object, is_kind, same_kind, of_kind, CountsKind, IsHistogram}
use Rattle.hprof_histogram.proofs.Members.{IsIn, in_from_Contains, Contains-from_in, one_sorted}
use Rattle.hprof_histogram.proofs.RowOrder.{row_cmp_total}

-- types with one code are one
pub one_code : (elem other : Basic) → code_of_basic elem ≡ code_of_basic other → elem ≡ other
one_code elem other e = let same : Some elem ≡ Some other = sym (code_again elem) ∙ ap basic_of_code e ∙ code_again other in cc

pub one_kind : (kind other : Kind) → same_kind kind other ≡ true → kind ≡ other
one_kind (Class class) (Class other) e = ap Class (eqb-true class other e)
one_kind (Class class) (Prim elem) e = cc
one_kind (Prim elem) (Class class) e = cc
one_kind (Prim elem) (Prim other) e = ap Prim (one_code elem other (eqb-true (code_of_basic elem) (code_of_basic other) e))

pub is_of_kind : (kind : Kind) (found : Option Kind) → is_kind kind found ≡ true → found ≡ Some kind
is_of_kind kind None e = cc
is_of_kind kind (Some other) e = ap Some (sym (one_kind kind other e))

-- an object of a kind
pub record HasOf (facts : List FactValue) (kind : Kind) : Type 0 where
  pub fact : FactValue
  pub has : Has facts fact
  pub is : object_kind fact ≡ Some kind

-- there is one where some are counted
pub some_of_kind : (facts : List FactValue) (kind : Kind) → 0 < length (of_kind kind facts) → HasOf facts kind
some_of_kind [] kind some = absurd (omega arith)
some_of_kind (fact ∷ facts) kind some = at_first (some_of_kind facts kind) (is_kind kind (object_kind fact)) refl where
  at_first : (0 < length (of_kind kind facts) → HasOf facts kind) → (b : Bool) → is_kind kind (object_kind fact) ≡ b
      → HasOf (fact ∷ facts) kind
  at_first later true e = record { fact = fact; has = inl refl; is = is_of_kind kind (object_kind fact) e }
  at_first later false e =
      let others : of_kind kind (fact ∷ facts) ≡ of_kind kind facts =
      ap (λ (b : Bool). cond b (fact ∷ of_kind kind facts) (of_kind kind facts)) e in
      let found = later (omega (arith, ap length others)) in
      record { fact = found.fact; has = inr found.has; is = found.is }

-- two rows that count the objects of one kind are one
one_row : (ids : IdSize) (facts : List FactValue) (row other : Row) → CountsKind ids facts row → CountsKind ids facts other → row.kind
    ≡ other.kind
    → row ≡ other
one_row ids facts row other counts counts_too kind =
    let count : row.count ≡ other.count =
    counts.count ∙ ap (λ (k : Kind). length (of_kind k facts)) kind ∙ sym counts_too.count in
    let bytes : row.bytes ≡ other.bytes = counts.bytes ∙ ap (λ (k : Kind). sum_by (size_of_object ids) (of_kind k facts)) kind
    ∙ sym counts_too.bytes in
    λ i. record { kind = kind i; count = count i; bytes = bytes i }

-- each row of the one is a row of the other
row_of_other : (ids : IdSize) (facts : List FactValue) (rows others : List Row) → IsHistogram ids facts rows → IsHistogram ids facts others
    → (row : Row) → IsIn row rows → IsIn row others
row_of_other ids facts rows others is is_too row has =
    let counts = is.counts row (Contains-from_in rows row has) in
    let found = some_of_kind facts row.kind (omega (arith, counts.some, counts.count)) in
    let other = is_too.all found.fact row.kind found.has found.is in
    let same = one_row ids facts other.0 row (is_too.counts other.0 other.1) counts other.2 in
    in_from_Contains others row (subst (Contains others) same other.1)

pub at_most_one : (ids : IdSize) (facts : List FactValue) (one other : List Row) → IsHistogram ids facts one → IsHistogram ids facts other
    → one ≡ other
at_most_one ids facts one other is is_too =
    one_sorted row_cmp_total one other is.ascend is_too.ascend (row_of_other ids facts one other is is_too)
    (row_of_other ids facts other one is_too is)
