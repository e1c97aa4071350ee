-- Instances and arrays are known by what is kept of them and by their identifiers.
use Rattle.std.proofs.Common.{◌≡◌, ◌≤◌, ℕ, ◌+◌, ◌%◌, List, [], ◌∷◌, ◌++◌, length, drop, append_assoc, refl, sym, ap, subst, ◌∙◌}
use Rattle.std.proofs.Common.{Option, Some, Result, ◌/◌, arith}
use Rattle.std.specs.Prelude.{IfOk, slice_index, sum}
use Rattle.std.proofs.Math.Seq.{drop-append_seam}
use Rattle.std.proofs.lemmas.List.{length-append}
use Rattle.byteorder.specs.Endian.{big_bytes, big_number}
use Rattle.byteorder.specs.Numbers.{length-bytes_high_first}
use Rattle.hprof_values.specs.declared.basic.Basic.{Basic}
use Rattle.hprof_values.specs.declared.ids.IdSize.{IdSize}
use Rattle.hprof_values.specs.declared.ids.IdSize.TheVariants as sizes
use Rattle.hprof_values.specs.declared.sub_tag.SubTag.{SubTag}
use Rattle.hprof_values.specs.declared.sub_tag.SubTag.TheVariants as tags
use Rattle.hprof_values.specs.Basic.{basic_of_code, code_of_basic, width_of_basic}
use Rattle.hprof_values.specs.FieldGroups.{field_bytes, fields_in, FitFields}
use Rattle.hprof_values.specs.Ids.{width_of}
use Rattle.hprof_values.specs.SubTag.{code_of_tag, tag_of_code}
use Rattle.hprof_values.proofs.FieldGroups.{length-fields, fields_again, fields_rest}
use Rattle.hprof_values.specs.Lists.{id_widths}
use Rattle.hprof_values.proofs.IdLists.{ids_again}
use Rattle.hprof_items.specs.FactValue.{FactValue, Name, Load, Unload, Frame, Trace, Start, End, Rooted, Class, Instance, ObjArray}
use Rattle.hprof_items.specs.FactValue.{PrimArray}
use Rattle.hprof_items.specs.Spelling.{Fits}
use Rattle.hprof_items.specs.SubRecord.{DumpFits, dump_bytes, tagged_bytes}
use Rattle.hprof_values.proofs.EntryLists.{code_again}
use Rattle.hprof_tables.specs.Relation.{States}
use Rattle.hprof_byte_tables.specs.Spans.{the_bytes}
use Rattle.hprof_tables.specs.declared.relation.Stated.{Stated}
use Rattle.hprof_rows.specs.Content.{content_of, object_fact, decode_class, IsRight}
use Rattle.hprof_rows.specs.Kept.{without_id, with_id, KeepsObject, instance_kept, obj_array_kept, prim_array_kept}
use Rattle.hprof_rows.specs.Order.{order_of}
use Rattle.hprof_rows.specs.Spelled.{Spells}
use Rattle.hprof_rows.proofs.HeapRows.{sub_at_place, sub_spells, spelled_read}

-- ---- which facts are objects

-- what holds of instances and of arrays that have an identifier holds of each fact that stands under it among the objects
pub each_object : (P : ℕ → FactValue → Type 0)
    → ((id trace class : ℕ) (bytes : List ℕ) → P id (Instance id trace class bytes))
    → ((id trace class : ℕ) (elements : List ℕ) → P id (ObjArray id trace class elements))
    → ((id trace : ℕ) (elem : Basic) (bytes : List ℕ) → P id (PrimArray id trace elem bytes))
    → (id : ℕ) (fact : FactValue) → order_of fact ≡ 9 ∷ id ∷ [] → P id fact
each_object P instance array prim id (Name other text) at = absurd cc
each_object P instance array prim id (Load serial class trace name) at = absurd cc
each_object P instance array prim id (Unload serial) at = absurd cc
each_object P instance array prim id (Frame other method signature source class_serial line) at = absurd cc
each_object P instance array prim id (Trace serial thread frames) at = absurd cc
each_object P instance array prim id (Start thread object trace name group parent_group) at = absurd cc
each_object P instance array prim id (End thread) at = absurd cc
each_object P instance array prim id (Rooted root) at = absurd cc
each_object P instance array prim id (Class other trace parent loader signers domain reserved1 reserved2 size constants statics fields) at =
    absurd cc
each_object P instance array prim id (Instance other trace class bytes) at =
    let same : other ≡ id = cc in subst (λ (i : ℕ). P i (Instance other trace class bytes)) same (instance other trace class bytes)
each_object P instance array prim id (ObjArray other trace class elements) at =
    let same : other ≡ id = cc in subst (λ (i : ℕ). P i (ObjArray other trace class elements)) same (array other trace class elements)
each_object P instance array prim id (PrimArray other trace elem bytes) at =
    let same : other ≡ id = cc in subst (λ (i : ℕ). P i (PrimArray other trace elem bytes)) same (prim other trace elem bytes)

-- ---- without the identifier, and with it again

drop_front : (width : ℕ) (front rest : List ℕ) → length front ≡ width → drop width (front ++ rest) ≡ rest
drop_front width front rest e = ap (λ (n : ℕ). drop n (front ++ rest)) (sym e) ∙ drop-append_seam front rest

-- without the identifier there is the tag, and what stands behind the identifier
pub behind_tag : (ids : IdSize) (tag : ℕ) (bytes : List ℕ) → without_id ids (tag ∷ bytes) ≡ tag ∷ drop (width_of ids) bytes
behind_tag sizes.Four tag bytes = refl
behind_tag sizes.Eight tag bytes = refl

module _ (ids : IdSize) (tag : SubTag) (id : ℕ) (widths numbers raw : List ℕ) where
  pub tagged_without : without_id ids (tagged_bytes tag (width_of ids ∷ widths) (id ∷ numbers) raw)
      ≡ code_of_tag tag ∷ (field_bytes widths numbers ++ raw)
  tagged_without =
      behind_tag ids (code_of_tag tag) ((big_bytes (width_of ids) id ++ field_bytes widths numbers) ++ raw)
      ∙ ap (λ (l : List ℕ). code_of_tag tag ∷ l)
      (ap (drop (width_of ids)) (append_assoc (big_bytes (width_of ids) id) (field_bytes widths numbers) raw)
      ∙ drop_front (width_of ids) (big_bytes (width_of ids) id) (field_bytes widths numbers ++ raw)
      (length-bytes_high_first (width_of ids) id))

  tagged_again : with_id ids id (without_id ids (tagged_bytes tag (width_of ids ∷ widths) (id ∷ numbers) raw))
      ≡ tagged_bytes tag (width_of ids ∷ widths) (id ∷ numbers) raw
  tagged_again =
      ap (with_id ids id) tagged_without
      ∙ ap (λ (l : List ℕ). code_of_tag tag ∷ l) (sym (append_assoc (big_bytes (width_of ids) id) (field_bytes widths numbers) raw))

-- the fields behind the identifiers
abbrev instance_rest : IdSize → List ℕ
instance_rest ids = 4 ∷ width_of ids ∷ 4 ∷ []

abbrev array_rest : IdSize → List ℕ
array_rest ids = 4 ∷ 4 ∷ width_of ids ∷ []

abbrev prim_rest : List ℕ
prim_rest = 4 ∷ 4 ∷ 1 ∷ []

abbrev prim_numbers : IdSize → ℕ → Basic → List ℕ → List ℕ
prim_numbers ids trace elem bytes = trace ∷ length bytes / width_of_basic ids elem ∷ code_of_basic elem ∷ []

abbrev elements_bytes : IdSize → List ℕ → List ℕ
elements_bytes ids elements = field_bytes (id_widths ids (length elements)) elements

module _ (ids : IdSize) where
  instance_without : (id trace class : ℕ) (bytes : List ℕ) → without_id ids (dump_bytes ids (Instance id trace class bytes))
      ≡ 0x21 ∷ (field_bytes (instance_rest ids) (trace ∷ class ∷ length bytes ∷ []) ++ bytes)
  instance_without id trace class bytes =
      tagged_without ids tags.InstanceDump id (instance_rest ids) (trace ∷ class ∷ length bytes ∷ []) bytes

  array_without : (id trace class : ℕ) (elements : List ℕ) → without_id ids (dump_bytes ids (ObjArray id trace class elements))
      ≡ 0x22 ∷ (field_bytes (array_rest ids) (trace ∷ length elements ∷ class ∷ []) ++ elements_bytes ids elements)
  array_without id trace class elements =
      tagged_without ids tags.ObjArrayDump id (array_rest ids) (trace ∷ length elements ∷ class ∷ []) (elements_bytes ids elements)

  prim_without : (id trace : ℕ) (elem : Basic) (bytes : List ℕ) → without_id ids (dump_bytes ids (PrimArray id trace elem bytes))
      ≡ 0x23 ∷ (field_bytes prim_rest (prim_numbers ids trace elem bytes) ++ bytes)
  prim_without id trace elem bytes = tagged_without ids tags.PrimArrayDump id prim_rest (prim_numbers ids trace elem bytes) bytes

  pub with_again : (id : ℕ) (fact : FactValue) → order_of fact ≡ 9 ∷ id ∷ []
      → with_id ids id (without_id ids (dump_bytes ids fact)) ≡ dump_bytes ids fact
  with_again = each_object (λ id fact. with_id ids id (without_id ids (dump_bytes ids fact)) ≡ dump_bytes ids fact)
      (λ id trace class bytes. tagged_again ids tags.InstanceDump id (instance_rest ids) (trace ∷ class ∷ length bytes ∷ []) bytes)
      (λ id trace class elements.
      tagged_again ids tags.ObjArrayDump id (array_rest ids) (trace ∷ length elements ∷ class ∷ []) (elements_bytes ids elements))
      (λ id trace elem bytes. tagged_again ids tags.PrimArrayDump id prim_rest (prim_numbers ids trace elem bytes) bytes)

  pub object_content : (id : ℕ) (fact : FactValue) → order_of fact ≡ 9 ∷ id ∷ []
      → content_of ids fact ≡ without_id ids (dump_bytes ids fact)
  object_content = each_object (λ id fact. content_of ids fact ≡ without_id ids (dump_bytes ids fact))
      (λ id trace class bytes. refl) (λ id trace class elements. refl) (λ id trace elem bytes. refl)

  -- a fact is read in its content
  pub object_again : (id : ℕ) (fact : FactValue) → order_of fact ≡ 9 ∷ id ∷ [] → Fits ids fact
      → object_fact ids id (content_of ids fact) ≡ fact
  object_again id fact at fits =
      ap (object_fact ids id) (object_content id fact at) ∙ ap (decode_class ids id) (with_again id fact at)
      ∙ spelled_read ids id fact (dump_bytes ids fact) (sub_spells ids fact (sub_at_place fact 9 id at (omega arith)) fits)

  -- the bytes of an object's row are what is kept of its fact
  pub row_keeps : (id : ℕ) (kept : List ℕ) → IsRight ids 9 (object_fact ids) id kept → Fits ids (object_fact ids id kept)
      → KeepsObject ids id (object_fact ids id kept) kept
  row_keeps id kept right fits =
      let fact : FactValue = object_fact ids id kept in
      let spells : Spells ids fact (dump_bytes ids fact) = sub_spells ids fact (sub_at_place fact 9 id right.0 (omega arith)) fits in
      record {
        stands = right.0;
        fits = spells.fits;
        kept_is = sym right.1 ∙ object_content id fact right.0;
        short = spells.short;
      }

  -- what is kept is spelled with the identifier again
  pub kept_spelled : (id : ℕ) (fact : FactValue) (kept : List ℕ) → KeepsObject ids id fact kept → dump_bytes ids fact ≡ with_id ids id kept
  kept_spelled id fact kept keeps = sym (with_again id fact keeps.stands) ∙ ap (with_id ids id) (sym keeps.kept_is)

  -- what was stated of the bytes without the identifier was stated of the content
  pub object_stated : {E : Type 0} (r : Result Stated E) (id : ℕ) (fact : FactValue) (kept : List ℕ) (old new : List (ℕ × List ℕ))
      → order_of fact ≡ 9 ∷ id ∷ [] → kept ≡ without_id ids (dump_bytes ids fact)
      → IfOk r (λ answer. States the_bytes old id kept answer new)
      → IfOk r (λ answer. States the_bytes old id (content_of ids fact) answer new)
  object_stated r id fact kept old new at is ok =
      subst (λ (content : List ℕ). IfOk r (λ answer. States the_bytes old id content answer new))
      (is ∙ sym (object_content id fact at)) ok

-- ---- reading what is kept

-- what the bytes behind a tag are read as
abbrev pub IsReadAs : IdSize → ℕ → FactValue → Option SubTag → List ℕ → Type 0
IsReadAs ids id fact (Some tags.InstanceDump) bytes = (8 + width_of ids ≤ length bytes) × (instance_kept ids id bytes ≡ fact)
IsReadAs ids id fact (Some tags.ObjArrayDump) bytes =
    (8 + width_of ids ≤ length bytes) × (length (drop (8 + width_of ids) bytes) % width_of ids ≡ 0) × (obj_array_kept ids id bytes ≡ fact)
IsReadAs ids id fact (Some tags.PrimArrayDump) bytes =
    (9 ≤ length bytes)
    × ((elem : Basic) × (basic_of_code (big_number 1 (drop 4 (drop 4 bytes))) ≡ Some elem) × (prim_array_kept id elem bytes ≡ fact))
IsReadAs ids id fact _ bytes = ⊥

-- fields and the bytes behind them
record IsParted (widths numbers raw bytes : List ℕ) (count : ℕ) : Type 0 where
  numbers_are : fields_in widths bytes ≡ numbers
  raw_is : drop count bytes ≡ raw
  room : count ≤ length bytes

parted : (widths numbers raw bytes : List ℕ) (count : ℕ) → FitFields widths numbers → bytes ≡ field_bytes widths numbers ++ raw
    → count ≡ sum widths → IsParted widths numbers raw bytes count
parted widths numbers raw bytes count fits e is = record {
  numbers_are = ap (fields_in widths) e ∙ fields_again widths numbers raw fits;
  raw_is = ap (λ (n : ℕ). drop n bytes) is ∙ ap (drop (sum widths)) e ∙ fields_rest widths numbers raw fits;
  room = omega (arith, ap length e, length-append (field_bytes widths numbers) raw, length-fields widths numbers fits, is);
}

module _ (ids : IdSize) (id trace : ℕ) (behind : List ℕ) where
  instance_read : (class : ℕ) (bytes : List ℕ) → DumpFits ids (Instance id trace class bytes)
      → behind ≡ field_bytes (instance_rest ids) (trace ∷ class ∷ length bytes ∷ []) ++ bytes
      → IsReadAs ids id (Instance id trace class bytes) (Some tags.InstanceDump) behind
  instance_read class bytes fits e =
      let p = parted (instance_rest ids) (trace ∷ class ∷ length bytes ∷ []) bytes behind (8 + width_of ids) fits.0.1 e
      (omega arith) in
      let first : big_number 4 behind ≡ trace = ap (λ (ns : List ℕ). slice_index ns 0) p.numbers_are in
      let second : big_number (width_of ids) (drop 4 behind) ≡ class = ap (λ (ns : List ℕ). slice_index ns 1) p.numbers_are in (
        p.room,
        rw (first, second, p.raw_is) refl,
      )

  array_read : (class : ℕ) (elements : List ℕ) → DumpFits ids (ObjArray id trace class elements)
      → behind ≡ field_bytes (array_rest ids) (trace ∷ length elements ∷ class ∷ []) ++ elements_bytes ids elements
      → IsReadAs ids id (ObjArray id trace class elements) (Some tags.ObjArrayDump) behind
  array_read class elements fits e =
      let raw : List ℕ = elements_bytes ids elements in
      let p = parted (array_rest ids) (trace ∷ length elements ∷ class ∷ []) raw behind (8 + width_of ids) fits.0.1 e
      (omega arith) in
      let first : big_number 4 behind ≡ trace = ap (λ (ns : List ℕ). slice_index ns 0) p.numbers_are in
      let third : big_number (width_of ids) (drop 4 (drop 4 behind)) ≡ class = ap (λ (ns : List ℕ). slice_index ns 2) p.numbers_are in
      let list = ids_again ids elements raw (record { fits = fits.1; spelled = refl }) in (
        p.room,
        rw p.raw_is list.0,
        rw (first, third, p.raw_is, list.1) refl,
      )

  prim_read : (elem : Basic) (bytes : List ℕ) → DumpFits ids (PrimArray id trace elem bytes)
      → behind ≡ field_bytes prim_rest (prim_numbers ids trace elem bytes) ++ bytes
      → IsReadAs ids id (PrimArray id trace elem bytes) (Some tags.PrimArrayDump) behind
  prim_read elem bytes fits e =
      let p = parted prim_rest (prim_numbers ids trace elem bytes) bytes behind 9 fits.0.1 e (omega arith) in
      let first : big_number 4 behind ≡ trace = ap (λ (ns : List ℕ). slice_index ns 0) p.numbers_are in
      let third : big_number 1 (drop 4 (drop 4 behind)) ≡ code_of_basic elem =
      ap (λ (ns : List ℕ). slice_index ns 2) p.numbers_are in (
        p.room,
        (
          elem,
          ap basic_of_code third ∙ code_again elem,
          rw (first, p.raw_is) refl,
        ),
      )

-- what is kept of a fact is read as it
abbrev IsReadBack : IdSize → ℕ → FactValue → Type 0
IsReadBack ids id fact =
    (tag : ℕ) (behind : List ℕ) → DumpFits ids fact → tag ∷ behind ≡ without_id ids (dump_bytes ids fact)
    → IsReadAs ids id fact (tag_of_code tag) behind

first_tag : (ids : IdSize) (id : ℕ) (fact : FactValue) (tag code : ℕ) (behind rest : List ℕ) → tag ∷ behind ≡ code ∷ rest
    → ((behind ≡ rest) → IsReadAs ids id fact (tag_of_code code) behind) → IsReadAs ids id fact (tag_of_code tag) behind
first_tag ids id fact tag code behind rest e read =
    let same : code ≡ tag = cc in
    let rests : behind ≡ rest = cc in
    subst (λ (t : ℕ). IsReadAs ids id fact (tag_of_code t) behind) same (read rests)

pub object_read : (ids : IdSize) (id : ℕ) (fact : FactValue) (tag : ℕ) (behind : List ℕ) → KeepsObject ids id fact (tag ∷ behind)
    → IsReadAs ids id fact (tag_of_code tag) behind
object_read ids id fact tag behind keeps =
    each_object (IsReadBack ids)
    (λ id trace class bytes tag behind fits e.
    first_tag ids id (Instance id trace class bytes) tag 0x21 behind
    (field_bytes (instance_rest ids) (trace ∷ class ∷ length bytes ∷ []) ++ bytes) (e ∙ instance_without ids id trace class bytes)
    (λ same. instance_read ids id trace behind class bytes fits same))
    (λ id trace class elements tag behind fits e.
    first_tag ids id (ObjArray id trace class elements) tag 0x22 behind
    (field_bytes (array_rest ids) (trace ∷ length elements ∷ class ∷ []) ++ elements_bytes ids elements)
    (e ∙ array_without ids id trace class elements)
    (λ same. array_read ids id trace behind class elements fits same))
    (λ id trace elem bytes tag behind fits e.
    first_tag ids id (PrimArray id trace elem bytes) tag 0x23 behind
    (field_bytes prim_rest (prim_numbers ids trace elem bytes) ++ bytes) (e ∙ prim_without ids id trace elem bytes)
    (λ same. prim_read ids id trace behind elem bytes fits same))
    id fact keeps.stands tag behind keeps.fits keeps.kept_is
