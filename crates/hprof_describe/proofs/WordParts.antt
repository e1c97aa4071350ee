-- The words for nodes, objects and references, from their parts.
use Rattle.std.specs.Prelude.{bytes_eq, if◌then◌else◌}
use Rattle.std.proofs.Common.{◌≡◌, ◌==◌, ℕ, Bool, true, false, List, [], ◌++◌, Option, Some, None, refl, sym, ap, codes, append_assoc, ◌∙◌}
use Rattle.std.proofs.lemmas.Bool.{eqb-true}
use Rattle.hprof_text.specs.Identifier.{id_digits}
use Rattle.hprof_heap.specs.Classes.{ClassValue}
use Rattle.hprof_naming.specs.declared.text.Text.{Text}
use Rattle.hprof_naming.specs.declared.text.Text.TheVariants as handed
use Rattle.hprof_naming.specs.declared.text.Units.{Units}
use Rattle.hprof_naming.specs.Texts.{text_value}
use Rattle.hprof_threads.specs.ThreadNames.{units_in}
use Rattle.hprof_describe.specs.Findings.{Findings}
use Rattle.hprof_describe.specs.Nodes.{kind_text, name_of_node, node_text}
use Rattle.hprof_describe.specs.Quoted.{behind_label}
use Rattle.hprof_describe.specs.References.{reference_text, reference_words, text_of_instance}

-- a class has no name behind it
pub no_name_behind : (dump : ClassValue) (class : Option ClassValue) (name : Option (List ℕ)) → Some dump ≡ class
    → [] ≡ behind_label (name_of_node class name)
no_name_behind dump class name e = ap (λ (found : Option ClassValue). behind_label (name_of_node found name)) e

-- what is no class has the name of the thread
pub name_behind_object : (class : Option ClassValue) (name : Option (List ℕ)) → None ≡ class
    → behind_label name ≡ behind_label (name_of_node class name)
name_behind_object class name none = ap (λ (found : Option ClassValue). behind_label (name_of_node found name)) none

-- a text that is none has no units
pub no_units : (text : Text) → ((units : Units) → text ≡ handed.Units units → ⊥) → units_in (text_value text) ≡ None
no_units (handed.Units units) other = absurd (other units refl)
no_units handed.NoText other = refl
no_units handed.Nothing other = refl

-- an identifier that is not 0
pub not_null : (id : ℕ) → (id ≡ 0 → ⊥) → (id == 0) ≡ false
not_null id some = by (id == 0) refl where
  by : (b : Bool) → (id == 0) ≡ b → b ≡ false
  by true e = absurd (some (eqb-true id 0 e))
  by false e = refl

module _ (found : Findings) (id : ℕ) where
  pub node_of_parts : (kind name : List ℕ) → kind ≡ kind_text found id
      → name ≡ behind_label (name_of_node (found.class id) (found.thread_name id))
      → id_digits id ++ (codes " " ++ (kind ++ name)) ≡ node_text found id
  unfolding node_text
  node_of_parts kind name is is_name =
      let behind = behind_label (name_of_node (found.class id) (found.thread_name id)) in
      ap (λ (l : List ℕ). id_digits id ++ (codes " " ++ (l ++ name))) is
      ∙ ap (λ (l : List ℕ). id_digits id ++ (codes " " ++ (kind_text found id ++ l))) is_name
      ∙ sym (append_assoc (id_digits id) (codes " ") (kind_text found id ++ behind))
      ∙ sym (append_assoc (id_digits id ++ codes " ") (kind_text found id) behind)

  -- ---- the text of an instance

  pub text_of_string : (class : ℕ) → bytes_eq (found.naming.label class) (codes "java/lang/String") ≡ true
      → units_in (found.text id) ≡ text_of_instance found id class
  text_of_string class is_string = ap (λ (b : Bool). if b then units_in (found.text id) else found.thread_name id) (sym is_string)

  pub name_of_other : (class : ℕ) → bytes_eq (found.naming.label class) (codes "java/lang/String") ≡ false
      → found.thread_name id ≡ text_of_instance found id class
  name_of_other class is_other = ap (λ (b : Bool). if b then units_in (found.text id) else found.thread_name id) (sym is_other)

  pub instance_of_parts : (class : ℕ) (label behind : List ℕ) (units : Option (List ℕ)) → label ≡ found.naming.label class
      → units ≡ text_of_instance found id class → behind ≡ behind_label units
      → label ++ behind ≡ found.naming.label class ++ behind_label (text_of_instance found id class)
  instance_of_parts class label behind units is is_text is_behind =
      ap (λ (l : List ℕ). l ++ behind) is
      ∙ ap (λ (l : List ℕ). found.naming.label class ++ l) (is_behind ∙ ap behind_label is_text)

  -- ---- a reference

  pub null_reference : id ≡ 0 → codes "null" ≡ reference_text found id
  unfolding reference_text
  null_reference zero = rw zero refl

  pub reference_of_parts : (words : List ℕ) → (id == 0) ≡ false
      → words ≡ reference_words found id (found.class id) (found.object id)
      → id_digits id ++ (codes " " ++ words) ≡ reference_text found id
  unfolding reference_text
  reference_of_parts words some is =
      ap (λ (l : List ℕ). id_digits id ++ (codes " " ++ l)) is
      ∙ sym (append_assoc (id_digits id) (codes " ") (reference_words found id (found.class id) (found.object id)))
      ∙ ap (λ (b : Bool). if b then codes "null"
      else id_digits id ++ codes " " ++ reference_words found id (found.class id) (found.object id)) (sym some)
