-- Lists of which no key has two contents have a union.
use Rattle.std.proofs.Common.{◌≡◌, ◌<◌, ◌⊎◌, ℕ, suc, true, false, List, [], ◌∷◌, Option, Result, Ok, Err}
use Rattle.std.proofs.Common.{inl, inr, refl, sym, ap, subst, ◌∙◌, arith}
use Rattle.std.specs.Prelude.{◌↔◌, OnOk}
use Rattle.std.specs.Str.{bytes_eq}
use Rattle.std.proofs.lemmas.Bool.{cases_Bool, cases_order}
use Rattle.std.proofs.lemmas.Slice.Eq.{bytes_eq-Decides}
use Rattle.hprof_devices.specs.declared.health.Health.{Health}
use Rattle.hprof_merge.specs.Rows.{ByteRow, Has, IsAscending}
use Rattle.hprof_merge.specs.TwoContents.{HasTwoContents}
use Rattle.hprof_merge.specs.Union.{AnyHas, IsUnion}
use Rattle.hprof_merge.proofs.Unions.{first_has, union_apart}
use Rattle.hprof_objects.specs.StoredObjects.{objects_of}
use Rattle.hprof_stored.specs.declared.in_parts.InParts.{InParts}
use Rattle.hprof_stored.specs.Agreed.{HaveOneContent}
use Rattle.hprof_stored.specs.InParts.{HaveUnion}

-- ascending rows that are these, or those of a list
record IsJoined (These : ByteRow → Type 0) (all : List ByteRow) : Type 0 where
  new : List ByteRow
  ascends : IsAscending new
  same : (row : ByteRow) → Has new row ↔ (These row ⊎ Has all row)

-- a row more
insert : (one : ByteRow) (all : List ByteRow) → IsAscending all → ((bytes : List ℕ) → Has all (one.0, bytes) → one.1 ≡ bytes)
    → IsJoined (λ row. row ≡ one) all
insert one [] up alike =
    record { new = one ∷ []; ascends = ((λ row never. absurd never), tt); same = λ row. ((λ has. has), (λ has. has)) }
insert one (first ∷ all) up alike = elim (cases_order one.0 first.0) [
  | inl key ↦ here key
  | inr (inl lt) ↦ record {
    new = one ∷ first ∷ all;
    ascends = (
      (λ row has. elim has [
        | inl e ↦ subst (λ (r : ByteRow). one.0 < r.0) (sym e) lt
        | inr there ↦ let more = up.0 row there in omega (arith, lt, more)
      ]),
      up,
    );
    same = λ row. ((λ has. has), (λ has. has));
  }
  | inr (inr gt) ↦ behind gt (insert one all up.1 (λ bytes has. alike bytes (inr has)))
]
  where
    here : one.0 ≡ first.0 → IsJoined (λ row. row ≡ one) (first ∷ all)
    here key =
        let at : first ≡ (one.0, first.1) = ap (λ (k : ℕ). let r : ByteRow = (k, first.1) in r) (sym key) in
        let is : one ≡ first =
        ap (λ (b : List ℕ). let r : ByteRow = (one.0, b) in r) (alike first.1 (inl (sym at))) ∙ sym at in
        record {
          new = first ∷ all;
          ascends = up;
          same = λ row. ((λ has. inr has), (λ has. elim has [ inl e ↦ inl (e ∙ is) | inr there ↦ there ]));
        }

    behind : first.0 < one.0 → IsJoined (λ row. row ≡ one) all → IsJoined (λ row. row ≡ one) (first ∷ all)
    behind gt joined = record {
      new = first ∷ joined.new;
      ascends = (
        (λ row has. elim ((joined.same row).0 has) [
          | inl e ↦ subst (λ (r : ByteRow). first.0 < r.0) (sym e) gt
          | inr there ↦ up.0 row there
        ]),
        joined.ascends,
      );
      same = λ row. (
        (λ has. elim has [
          | inl e ↦ inr (inl e)
          | inr there ↦ elim ((joined.same row).0 there) [ inl e ↦ inl e | inr more ↦ inr (inr more) ]
        ]),
        (λ has. elim has [
          | inl e ↦ inr ((joined.same row).1 (inl e))
          | inr there ↦ elim there [ inl e ↦ inl e | inr more ↦ inr ((joined.same row).1 (inr more)) ]
        ]),
      );
    }

-- rows more
insert_all : (rows all : List ByteRow) → IsAscending all
    → ((key : ℕ) (one other : List ℕ) → Has rows (key, one) → Has rows (key, other) ⊎ Has all (key, other) → one ≡ other)
    → IsJoined (Has rows) all
insert_all [] all up alike =
    record { new = all; ascends = up; same = λ row. ((λ has. inr has), (λ has. elim has [ inl never ↦ absurd never | inr it ↦ it ])) }
insert_all (one ∷ rows) all up alike =
    let rest = insert_all rows all up (λ key first other has more. alike key first other (inr has) (either more)) in
    let joined = insert one rest.new rest.ascends (λ bytes has. alike one.0 one.1 bytes (inl refl) (either ((rest.same (one.0, bytes)).0
    has))) in
    record {
      new = joined.new;
      ascends = joined.ascends;
      same = λ row. (
        (λ has. elim ((joined.same row).0 has) [
          | inl e ↦ inl (inl e)
          | inr there ↦ elim ((rest.same row).0 there) [ inl more ↦ inl (inr more) | inr more ↦ inr more ]
        ]),
        (λ has. (joined.same row).1 (elim has [
          | inl these ↦ elim these [ inl e ↦ inl e | inr more ↦ inr ((rest.same row).1 (inl more)) ]
          | inr more ↦ inr ((rest.same row).1 (inr more))
        ])),
      );
    }
  where
    either : {row : ByteRow} → Has rows row ⊎ Has all row → Has (one ∷ rows) row ⊎ Has all row
    either (inl has) = inl (inr has)
    either (inr has) = inr has

-- two contents that are not different are one
one_content : (lists : List (List ByteRow)) → ((key : ℕ) → HasTwoContents lists key → ⊥) → (key : ℕ) (one other : List ℕ)
    → AnyHas lists (key, one) → AnyHas lists (key, other) → one ≡ other
one_content lists none key one other has has_other = elim (cases_Bool (bytes_eq one other)) [
  | inl same ↦ (bytes_eq-Decides one other).0 same
  | inr differ ↦ absurd (none key (record {
    one = one;
    other = other;
    has_one = has;
    has_other = has_other;
    differ = λ e. let same = (bytes_eq-Decides one other).1 e in let never : true ≡ false = sym same ∙ differ in cc;
  }))
]

unite : (lists : List (List ByteRow))
    → ((key : ℕ) (one other : List ℕ) → AnyHas lists (key, one) → AnyHas lists (key, other) → one ≡ other)
    → (all : List ByteRow) × IsUnion lists all
unite [] alike =
    ([], record { ascends = tt; same = λ row. ((λ never. absurd never), (λ has. absurd (no_list row has.0 has.1))) })
  where
    no_list : (row : ByteRow) (place : ℕ) → Has [] row → ⊥
    no_list row place has = has
unite (rows ∷ lists) alike =
    let rest = unite lists (λ key one other has more. alike key one other (suc has.0, has.1) (suc more.0, more.1)) in
    let joined = insert_all rows rest.0 rest.1.ascends (λ key one other has more. alike key one other (0, has) (place key other rest.1
    more)) in (
      joined.new,
      record {
        ascends = joined.ascends;
        same = λ row. (
          (λ has. elim ((joined.same row).0 has) [
            | inl here ↦ (0, here)
            | inr more ↦ let there = (rest.1.same row).0 more in (suc there.0, there.1)
          ]),
          (λ has. (joined.same row).1 (elim (first_has rows lists row has.0 has.1) [
            | inl here ↦ inl here
            | inr more ↦ inr ((rest.1.same row).1 more)
          ])),
        );
      },
    )
  where
    place : (key : ℕ) (other : List ℕ) {all : List ByteRow} → IsUnion lists all → Has rows (key, other) ⊎ Has all (key, other)
        → AnyHas (rows ∷ lists) (key, other)
    place key other union (inl has) = (0, has)
    place key other union (inr has) = let there = (union.same (key, other)).0 has in (suc there.0, there.1)

module _ {S P : Type 0} (written : S → Option (List ℕ)) (health : S → Health) (bytes : P → List (Option (List ℕ))) (it : InParts S P)
  where
    pub united : HaveOneContent written health bytes it → HaveUnion written health bytes it
    united one reads as_read = unite (objects_of reads) (one_content (objects_of reads) (one reads as_read))

    pub united_ok : HaveOneContent written health bytes it → {A E : Type 0} (result : Result A E)
        → OnOk result (HaveUnion written health bytes it)
    united_ok one (Ok done) = united one
    united_ok one (Err stop) = tt

    pub apart : HaveUnion written health bytes it → HaveOneContent written health bytes it
    apart union reads as_read key two =
        let its = union reads as_read in union_apart (objects_of reads) its.0 key its.1 two
