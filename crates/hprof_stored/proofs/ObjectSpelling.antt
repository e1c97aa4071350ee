-- Objects, their rows, and the bytes that spell them.
use Rattle.std.proofs.Common.{◌≡◌, ℕ, suc, List, [], ◌∷◌, ◌++◌, length, drop, Some, refl, sym, ap, ◌∙◌, arith}
use Rattle.std.proofs.lemmas.List.{append-nil, drop_all}
use Rattle.hprof_values.specs.declared.ids.IdSize.{IdSize}
use Rattle.hprof_items.specs.FactValue.{FactValue}
use Rattle.hprof_items.specs.Spelling.{Fits}
use Rattle.hprof_items.specs.SubRecord.{DumpFits, dump_bytes}
use Rattle.hprof_items.proofs.Dumps.{dump_once}
use Rattle.hprof_merge.specs.Rows.{ByteRow}
use Rattle.hprof_objects.specs.ObjectRows.{object_row}
use Rattle.hprof_objects.specs.Whole.{AreObjects}
use Rattle.hprof_objects.proofs.Whole.{has_row, row_again, row_of}
use Rattle.hprof_stored.specs.RowDecoder.{SpellsObject}

-- ---- bytes that spell an object

module _ (ids : IdSize) (bytes : List ℕ) (object : FactValue) (spells : SpellsObject ids bytes object) where
  pub sub_fits : DumpFits ids object
  sub_fits = let row = has_row ids object spells.is in (row_of ids object row.0 row.1).fits spells.fits

  pub as_long : length (dump_bytes ids object) ≡ length bytes
  as_long = ap length (sym spells.spelled)

  pub all_bytes : bytes ≡ dump_bytes ids object ++ []
  all_bytes = spells.spelled ∙ sym (append-nil (dump_bytes ids object))

-- the bytes spell one object
pub one_spelled : (ids : IdSize) (bytes : List ℕ) (one other : FactValue) → SpellsObject ids bytes one → SpellsObject ids bytes other
    → one ≡ other
one_spelled ids bytes one other spells more =
    (dump_once ids one other [] [] (sub_fits ids bytes one spells) (sub_fits ids bytes other more)
    (ap (λ (l : List ℕ). l ++ []) (sym spells.spelled ∙ more.spelled))).0

-- the bytes of an object's row spell it
pub row_spells : (ids : IdSize) (object : FactValue) (row : ByteRow) → Fits ids object → object_row ids object ≡ Some row
    → SpellsObject ids row.1 object
row_spells ids object row fits is =
    record { fits = fits; is = (row_of ids object row is).object; spelled = row_again ids object row is }

-- ---- what was read of some bytes

-- all of the bytes
pub all_spelled : (bytes spelled : List ℕ) (end : ℕ) → bytes ≡ spelled ++ drop end bytes → end ≡ length bytes → bytes ≡ spelled
all_spelled bytes spelled end is all =
    is ∙ ap (λ (l : List ℕ). spelled ++ l) (drop_all end bytes (omega (arith, all))) ∙ append-nil spelled

-- ---- rows of objects

-- the objects of the first rows, and those of the others
pub record AreSplit (ids : IdSize) (front rest : List ByteRow) (objects : List FactValue) : Type 0 where
  pub mine : List FactValue
  pub behind : List FactValue
  pub are : AreObjects ids front mine
  pub others : AreObjects ids rest behind
  pub all : objects ≡ mine ++ behind

pub split_objects : (ids : IdSize) (front rest : List ByteRow) (objects : List FactValue) → AreObjects ids (front ++ rest) objects
    → AreSplit ids front rest objects
split_objects ids [] rest objects are = record { mine = []; behind = objects; are = tt; others = are; all = refl }
split_objects ids (row ∷ front) rest [] are = absurd are
split_objects ids (row ∷ front) rest (object ∷ objects) are =
    let it = split_objects ids front rest objects are.2 in
    record {
      mine = object ∷ it.mine;
      behind = it.behind;
      are = (are.0, are.1, it.are);
      others = it.others;
      all = ap (λ (l : List FactValue). object ∷ l) it.all;
    }

-- as many objects as rows
pub as_many : (ids : IdSize) (rows : List ByteRow) (objects : List FactValue) → AreObjects ids rows objects → length rows ≡ length objects
as_many ids [] [] are = refl
as_many ids [] (object ∷ objects) are = absurd are
as_many ids (row ∷ rows) [] are = absurd are
as_many ids (row ∷ rows) (object ∷ objects) are = ap suc (as_many ids rows objects are.2)

-- the object of a row among rows, with the objects before it
pub record IsObjectAt (ids : IdSize) (front : List ByteRow) (row : ByteRow) (objects : List FactValue) : Type 0 where
  pub before : List FactValue
  pub object : FactValue
  pub behind : List FactValue
  pub all : objects ≡ before ++ object ∷ behind
  pub are : AreObjects ids front before
  pub spells : SpellsObject ids row.1 object

pub object_at : (ids : IdSize) (front : List ByteRow) (row : ByteRow) (rest : List ByteRow) (objects : List FactValue)
    → AreObjects ids (front ++ row ∷ rest) objects → IsObjectAt ids front row objects
object_at ids [] row rest [] are = absurd are
object_at ids [] row rest (object ∷ objects) are = record {
  before = [];
  object = object;
  behind = objects;
  all = refl;
  are = tt;
  spells = row_spells ids object row are.0 are.1;
}
object_at ids (first ∷ front) row rest [] are = absurd are
object_at ids (first ∷ front) row rest (object ∷ objects) are =
    let it = object_at ids front row rest objects are.2 in
    record {
      before = object ∷ it.before;
      object = it.object;
      behind = it.behind;
      all = ap (λ (l : List FactValue). object ∷ l) it.all;
      are = (are.0, are.1, it.are);
      spells = it.spells;
    }
