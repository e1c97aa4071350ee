-- A front of a path, as a part of it.
use Rattle.std.specs.Prelude.{if◌then◌else◌}
use Rattle.std.specs.Fmt.{decimal}
use Rattle.std.specs.List.{flat_map}
use Rattle.std.proofs.Common.{◌≡◌, ◌≤◌, ◌-◌, ℕ, ◌+◌, Bool, List, [], ◌∷◌, ◌++◌, length, codes, refl, sym, ap, subst, ◌∙◌, append_assoc}
use Rattle.std.proofs.Common.{arith}
use Rattle.std.proofs.lemmas.Bool.{ne_eqb}
use Rattle.std.proofs.lemmas.List.{length-append}
use Rattle.hprof_values.specs.declared.ids.IdSize.{IdSize}
use Rattle.hprof_items.specs.FactValue.{FactValue}
use Rattle.hprof_edges.specs.declared.edge.Edge.{Edge}
use Rattle.hprof_describe.specs.Nodes.{kind_text, node_text}
use Rattle.hprof_why.specs.Folding.{AreParts, IsFront, Link, NoPart, One, OnePart, Part, Stretch, kind_behind, links_of, part_text}
use Rattle.hprof_why.specs.Folding.{run_at_front}
use Rattle.hprof_why.specs.WhyText.{PathFindings, link_by}
use Rattle.hprof_why.specs.Walks.{IsGone, IsPartsText, IsStepTo, alike_links, front_text, more_line, node_behind}
use Rattle.hprof_why.proofs.Going.{no_links, node_at_end}

-- ---- lists

-- two lists that are cut at one place are cut in one way
pub same_split : {A : Type 0} (xs ys zs ws : List A) → length xs ≡ length ys → xs ++ zs ≡ ys ++ ws → (xs ≡ ys) × (zs ≡ ws)
same_split [] [] zs ws long same = (refl, same)
same_split [] (y ∷ ys) zs ws long same = absurd (omega (arith, long))
same_split (x ∷ xs) [] zs ws long same = absurd (omega (arith, long))
same_split {A} (x ∷ xs) (y ∷ ys) zs ws long same =
    let head : x ≡ y = cc in
    let tail : xs ++ zs ≡ ys ++ ws = cc in
    let rest = same_split xs ys zs ws (omega (arith, long)) tail in
    ((λ i. head i ∷ rest.0 i), rest.1)

-- ---- the first part

pub record FirstPart (kind : List ℕ) (links : List Link) (parts : List Part) : Type 0 where
  pub part : Part
  pub rest : List Link
  pub others : List Part
  pub parts_are : parts ≡ part ∷ others
  pub links_are : links ≡ links_of part ++ rest
  pub is_front : IsFront kind links part
  pub are_others : AreParts (kind_behind kind (links_of part)) rest others

pub first_part : (kind : List ℕ) (links : List Link) (parts : List Part) → AreParts kind links parts → (link : Link) (left : List Link)
    → links ≡ link ∷ left → FirstPart kind links parts
first_part _ _ _ (NoPart kind) link left e = absurd cc
first_part _ _ _ (OnePart kind part rest parts is more) link left e = record {
  part = part;
  rest = rest;
  others = parts;
  parts_are = refl;
  links_are = refl;
  is_front = is;
  are_others = more;
}

-- without links there are no parts
pub no_parts : (kind : List ℕ) (links : List Link) (parts : List Part) → AreParts kind links parts → links ≡ [] → parts ≡ []
no_parts _ _ _ (NoPart kind) none = refl
no_parts _ _ _ (OnePart kind (One link) rest parts is more) none = absurd cc
no_parts _ _ _ (OnePart kind (Stretch first between last) rest parts is more) none = absurd cc

-- ---- in print

more_some : (n : ℕ) → more_line (n + 1) ≡ codes ".. " ++ decimal (n + 1) ++ codes " more\n"
more_some n =
    ap (λ (none : Bool). if none then [] else codes ".. " ++ decimal (n + 1) ++ codes " more\n")
    (ne_eqb (n + 1) 0 (λ same. absurd (omega (arith, same))))

stretch_text : (step a count b node : List ℕ) → step ++ a ++ count ++ b ++ node ≡ step ++ ((a ++ count ++ b) ++ node)
stretch_text step a count b node =
    append_assoc (step ++ a ++ count) b node ∙ append_assoc (step ++ a) count (b ++ node) ∙ append_assoc step a (count ++ (b ++ node))
    ∙ ap (λ (l : List ℕ). step ++ l)
    (sym (append_assoc (a ++ count) b node ∙ append_assoc a count (b ++ node)))

-- ---- what is left behind a front

module _ (P : Edge → Type 0) (ids : IdSize) (facts : List FactValue) (found : PathFindings) where
  -- the text begins with a front, and what is left is told of the place behind it
  abbrev pub Begins : Edge → (more node : ℕ) → (rest text : List ℕ) → Type 0
  Begins edge more node rest text =
      (left : List ℕ) × (text ≡ front_text found edge more node ++ left) × IsPartsText P ids facts found node rest left

  pub nothing_left : (node : ℕ) (text : List ℕ) → IsPartsText P ids facts found node [] text → length text ≡ 0
  nothing_left node text told =
      ap (length {A = ℕ}) (told.is
      ∙ ap (flat_map part_text) (no_parts (kind_text found.nodes node) told.links told.parts told.are_parts
      (no_links P ids facts found node told.links told.are_links)))

  module _ (from to : ℕ) (after text : List ℕ) (told : IsPartsText P ids facts found from (to ∷ after) text) (edge : Edge)
      (step : IsStepTo P ids facts found from edge told.links to after) where
    abbrev kind : List ℕ
    kind = kind_text found.nodes from

    abbrev link : Link
    link = link_by found edge to

    run_is : run_at_front kind told.links ≡ alike_links found from edge told.links
    run_is = ap (run_at_front kind) step.links_are ∙ sym (ap (alike_links found from edge) step.links_are)

    first : FirstPart kind told.links told.parts
    first = first_part kind told.links told.parts told.are_parts link step.left step.links_are

    -- one link
    one_by : (part : Part) (rest : List Link) (others : List Part) → told.parts ≡ part ∷ others → told.links ≡ links_of part ++ rest
        → IsFront kind told.links part → AreParts (kind_behind kind (links_of part)) rest others
        → alike_links found from edge told.links ≤ 3 → Begins edge 0 to after text
    one_by (One one) rest others parts_are links_are is_front more few =
        let both : link ∷ step.left ≡ one ∷ rest = sym step.links_are ∙ links_are in
        let head : link ≡ one = cc in
        let tail : step.left ≡ rest = cc in (
          flat_map part_text others,
          told.is ∙ ap (flat_map part_text) parts_are ∙ ap (λ (l : Link). part_text (One l) ++ flat_map part_text others) (sym head),
          record {
            links = step.left;
            are_links = step.are_left;
            parts = others;
            are_parts = subst (λ (k : List ℕ). AreParts k step.left others) (ap (λ (l : Link). l.node_kind) (sym head))
                (subst (λ (ls : List Link). AreParts one.node_kind ls others) (sym tail) more);
            is = refl;
          },
        )
    one_by (Stretch one between last) rest others parts_are links_are is_front more few =
        absurd (let many = is_front.0 in let same = run_is in omega arith)

    pub begins_one : alike_links found from edge told.links ≤ 3 → Begins edge 0 to after text
    begins_one = one_by first.part first.rest first.others first.parts_are first.links_are first.is_front first.are_others

    -- a stretch
    module _ (count node : ℕ) (rest : List ℕ) (gone : IsGone P ids facts found from edge told.links count node rest)
        (all : alike_links found from edge told.links ≡ count) (many : 4 ≤ count) where
      stretch_by : (part : Part) (rest_links : List Link) (others : List Part) → told.parts ≡ part ∷ others
          → told.links ≡ links_of part ++ rest_links → IsFront kind told.links part
          → AreParts (kind_behind kind (links_of part)) rest_links others → Begins edge (count - 1) node rest text
      stretch_by (One one) rest_links others parts_are links_are is_front more =
          absurd (let same = run_is in omega arith)
      stretch_by (Stretch one between last) rest_links others parts_are links_are is_front more =
          let same = run_is in
          let counted = gone.counted in
          let run = is_front.1 in
          let appended = length-append between (last ∷ []) in
          let split = same_split gone.front (one ∷ between ++ last ∷ []) gone.left rest_links (omega arith)
          (sym gone.links_are ∙ links_are) in
          let both : link ∷ step.left ≡ one ∷ ((between ++ last ∷ []) ++ rest_links) = sym step.links_are ∙ links_are in
          let head : link ≡ one = cc in
          let node_is : last.node ≡ node_text found.nodes node =
          sym (node_at_end (node_text found.nodes from) (one ∷ between) last)
          ∙ ap (node_behind (node_text found.nodes from)) (sym split.0) ∙ gone.node_is in
          let kind_is : kind_behind kind (one ∷ between ++ last ∷ []) ≡ kind_text found.nodes node =
          ap (kind_behind kind) (sym split.0) ∙ gone.kind_is in
          let number : length between + 1 ≡ count - 1 = omega arith in
          let step_line = codes "  " ++ one.step ++ codes "\n" in
          let node_line = last.node ++ codes "\n" in
          let left = flat_map part_text others in (
            left,
            told.is ∙ ap (flat_map part_text) parts_are
                ∙ ap (λ (l : List ℕ). l ++ left) (
                stretch_text step_line (codes ".. ") (decimal (length between + 1)) (codes " more\n") node_line
                ∙ ap (λ (l : List ℕ). step_line ++ (l ++ node_line)) (sym (more_some (length between)))
                ∙ (λ i. (codes "  " ++ (sym head i).step ++ codes "\n") ++ (more_line (number i) ++ (node_is i ++ codes "\n")))),
            record {
              links = gone.left;
              are_links = gone.are_left;
              parts = others;
              are_parts = subst (λ (k : List ℕ). AreParts k gone.left others) kind_is
                  (subst (λ (ls : List Link). AreParts (kind_behind kind (one ∷ between ++ last ∷ [])) ls others) (sym split.1) more);
              is = refl;
            },
          )

      pub begins_stretch : Begins edge (count - 1) node rest text
      begins_stretch = stretch_by first.part first.rest first.others first.parts_are first.links_are first.is_front first.are_others
