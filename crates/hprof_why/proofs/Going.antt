-- Like links, gone along one by one.
use Rattle.std.specs.Prelude.{bytes_eq, ◌&&◌, if◌then◌else◌}
use Rattle.std.proofs.Common.{◌≡◌, ℕ, ◌+◌, Bool, true, false, List, [], ◌∷◌, ◌++◌, Some, refl, sym, ap, subst, ◌∙◌, append_assoc, arith}
use Rattle.std.proofs.lemmas.List.{length-append}
use Rattle.std.proofs.lemmas.Slice.Eq.{bytes_eq-Decides}
use Rattle.hprof_values.specs.declared.ids.IdSize.{IdSize}
use Rattle.hprof_items.specs.FactValue.{FactValue}
use Rattle.hprof_edges.specs.declared.edge.Edge.{Edge}
use Rattle.hprof_edges.specs.LeastEdge.{IsLeastEdgeBy}
use Rattle.hprof_describe.specs.Nodes.{kind_text, node_text}
use Rattle.hprof_why.specs.Folding.{Link, alike_at_front, is_alike, kind_behind}
use Rattle.hprof_why.specs.WhyText.{AreLinks, NoLink, OneLink, PathFindings, link_by}
use Rattle.hprof_why.specs.Walks.{IsGone, IsStepTo, alike_links, is_alike_link, kind_of_step, node_behind}

-- ---- links behind others

pub node_at_end : (node : List ℕ) (front : List Link) (link : Link) → node_behind node (front ++ link ∷ []) ≡ link.node
node_at_end node [] link = refl
node_at_end node (first ∷ front) link = node_at_end first.node front link

pub kind_at_end : (kind : List ℕ) (front : List Link) (link : Link) → kind_behind kind (front ++ link ∷ []) ≡ link.node_kind
kind_at_end kind [] link = refl
kind_at_end kind (first ∷ front) link = kind_at_end first.node_kind front link

-- ---- like links at the front

module _ (step_kind node_kind : List ℕ) where
  pub alike_none : alike_at_front step_kind node_kind [] ≡ 0
  unfolding alike_at_front
  alike_none = refl

  pub alike_first : (link : Link) (links : List Link) → is_alike step_kind node_kind link ≡ true
      → alike_at_front step_kind node_kind (link ∷ links) ≡ alike_at_front step_kind node_kind links + 1
  unfolding alike_at_front
  alike_first link links e = ap (λ (b : Bool). if b then alike_at_front step_kind node_kind links + 1 else 0) e

  pub not_alike : (link : Link) (links : List Link) → is_alike step_kind node_kind link ≡ false
      → alike_at_front step_kind node_kind (link ∷ links) ≡ 0
  unfolding alike_at_front
  not_alike link links e = ap (λ (b : Bool). if b then alike_at_front step_kind node_kind links + 1 else 0) e

  -- of one kind and of the same kind of node
  pub alike_both : (link : Link) → step_kind ≡ link.step_kind → bytes_eq node_kind link.node_kind ≡ true
      → is_alike step_kind node_kind link ≡ true
  alike_both link same e =
      (λ i. (bytes_eq-Decides step_kind link.step_kind).1 same i && bytes_eq node_kind link.node_kind) ∙ e

  pub apart_by_node : (link : Link) → bytes_eq node_kind link.node_kind ≡ false → is_alike step_kind node_kind link ≡ false
  apart_by_node link e = ap (λ (b : Bool). bytes_eq step_kind link.step_kind && b) e ∙ no_more (bytes_eq step_kind link.step_kind) where
    no_more : (b : Bool) → (b && false) ≡ false
    no_more true = refl
    no_more false = refl

-- ---- along a path

module _ (P : Edge → Type 0) (ids : IdSize) (facts : List FactValue) (found : PathFindings) where
  -- the first link of a path that has one
  pub first_step : (from to : ℕ) (after : List ℕ) (links : List Link) → AreLinks P ids facts found from (to ∷ after) links
      → (edge : Edge) × IsStepTo P ids facts found from edge links to after
  first_step _ _ _ _ (OneLink from to nodes edge links least rest) =
      (edge, record { least = least; left = links; links_are = refl; are_left = rest })

  pub no_links : (from : ℕ) (links : List Link) → AreLinks P ids facts found from [] links → links ≡ []
  no_links _ _ (NoLink from) = refl

  module _ (before : ℕ) (edge : Edge) (links : List Link) where
    -- the first link
    pub gone_one : (node : ℕ) (rest : List ℕ) → IsStepTo P ids facts found before edge links node rest
        → bytes_eq (kind_text found.nodes before) (kind_text found.nodes node) ≡ true
        → IsGone P ids facts found before edge links 1 node rest
    gone_one node rest is same = record {
      front = link_by found edge node ∷ [];
      left = is.left;
      links_are = is.links_are;
      counted = refl;
      are_left = is.are_left;
      node_is = refl;
      kind_is = refl;
      alike = ap (alike_links found before edge) is.links_are
          ∙ alike_first (kind_of_step found edge) (kind_text found.nodes before) (link_by found edge node) is.left
          (alike_both (kind_of_step found edge) (kind_text found.nodes before) (link_by found edge node) refl same)
          ∙ omega arith;
    }

    pub gone_none : (node : ℕ) (rest : List ℕ) → IsStepTo P ids facts found before edge links node rest
        → bytes_eq (kind_text found.nodes before) (kind_text found.nodes node) ≡ false → alike_links found before edge links ≡ 0
    gone_none node rest is apart =
        ap (alike_links found before edge) is.links_are
        ∙ not_alike (kind_of_step found edge) (kind_text found.nodes before) (link_by found edge node) is.left
        (apart_by_node (kind_of_step found edge) (kind_text found.nodes before) (link_by found edge node) apart)

    -- one link more
    pub gone_more : (count from to : ℕ) (after : List ℕ) → IsGone P ids facts found before edge links count from (to ∷ after)
        → ((next : Edge) → IsLeastEdgeBy P ids facts from to (Some next)
        → true ≡ is_alike_link found before edge (link_by found next to))
        → IsGone P ids facts found before edge links (count + 1) to after
    gone_more count from to after gone is =
        let first = first_step from to after gone.left gone.are_left in
        let link = link_by found first.0 to in
        let more = length-append gone.front (link ∷ []) in
        let had = gone.counted in
        let step : alike_links found before edge gone.left ≡ alike_links found before edge first.1.left + 1 =
        ap (alike_links found before edge) first.1.links_are
        ∙ alike_first (kind_of_step found edge) (kind_text found.nodes before) link first.1.left (sym (is first.0 first.1.least)) in
        let so_far = gone.alike in
        record {
          front = gone.front ++ link ∷ [];
          left = first.1.left;
          links_are = gone.links_are ∙ ap (λ (l : List Link). gone.front ++ l) first.1.links_are
              ∙ sym (append_assoc gone.front (link ∷ []) first.1.left);
          counted = omega (arith, more, had);
          are_left = first.1.are_left;
          node_is = node_at_end (node_text found.nodes before) gone.front link;
          kind_is = kind_at_end (kind_text found.nodes before) gone.front link;
          alike = omega (arith, step, so_far);
        }

    -- all of them
    pub gone_all : (count from : ℕ) (rest : List ℕ) → IsGone P ids facts found before edge links count from rest → rest ≡ []
        → alike_links found before edge links ≡ count
    gone_all count from rest gone none =
        let left = no_links from gone.left (subst (λ (l : List ℕ). AreLinks P ids facts found from l gone.left) none gone.are_left) in
        let end : alike_links found before edge gone.left ≡ 0 =
        ap (alike_links found before edge) left ∙ alike_none (kind_of_step found edge) (kind_text found.nodes before) in
        let so_far = gone.alike in
        omega (arith, end, so_far)

    -- the next one is not alike
    pub gone_apart : (count from to : ℕ) (after : List ℕ) → IsGone P ids facts found before edge links count from (to ∷ after)
        → ((next : Edge) → IsLeastEdgeBy P ids facts from to (Some next)
        → false ≡ is_alike_link found before edge (link_by found next to))
        → alike_links found before edge links ≡ count
    gone_apart count from to after gone is =
        let first = first_step from to after gone.left gone.are_left in
        let end : alike_links found before edge gone.left ≡ 0 =
        ap (alike_links found before edge) first.1.links_are
        ∙ not_alike (kind_of_step found edge) (kind_text found.nodes before) (link_by found first.0 to) first.1.left
        (sym (is first.0 first.1.least)) in
        let so_far = gone.alike in
        omega (arith, end, so_far)
