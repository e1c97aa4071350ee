-- The lines of a chain, from the texts that stand in them.
use Rattle.std.specs.Prelude.{map, take, drop, if◌then◌else◌}
use Rattle.std.proofs.Common.{◌≡◌, ◌<◌, ◌≤◌, ◌-◌, ◌+◌, ◌++◌, ◌∙◌, ◌∷◌, [], ℕ, Bool, List, append_assoc, append-nil, ap, get_or, codes}
use Rattle.std.proofs.Common.{length, sym, arith}
use Rattle.std.specs.Fmt.{decimal}
use Rattle.std.proofs.lemmas.Bool.{le-ltb, lt-ltb}
use Rattle.std.proofs.lemmas.List.{length-drop, length-map}
use Rattle.std.proofs.Math.Seq.{take-length}
use Rattle.std.proofs.lemmas.Grind.{flat_map-append}
use Rattle.std.proofs.lemmas.List.{map-append, take_more}
use Rattle.std.proofs.lemmas.List.Concat.{flat_map-cons}
use Rattle.std.specs.List.{drop-map, take-map}
use Rattle.hprof_describe.specs.Findings.{Findings}
use Rattle.hprof_retained.specs.Retained.{Sum}
use Rattle.hprof_keeps.specs.KeepsText.{above_lines, retained_line}
use Rattle.hprof_suspects.specs.SuspectsText.{chain_lines}

module _ (found : Findings) (retained : ℕ → Sum) (node : ℕ → ℕ) (places : List ℕ) where
  abbrev nodes : List ℕ
  nodes = map node places

  abbrev folded : Bool → List ℕ
  folded many = if many
      then above_lines found retained (take 10 nodes) ++ (codes ".. " ++ decimal (length nodes - 20) ++ codes " more\n"
      ++ above_lines found retained (drop (length nodes - 10) nodes))
      else above_lines found retained nodes

  pub short_chain : length places ≤ 20 → above_lines found retained (map node places) ≡ chain_lines found retained (map node places)
  short_chain few =
      let many = length-map places node in
      sym (ap folded (le-ltb 20 (length nodes) (omega arith)))

  pub long_chain : (old one two new more : List ℕ) → 20 < length places
      → one ≡ old ++ above_lines found retained (map node (take 10 places))
      → more ≡ codes ".. " ++ decimal (length places - 20) ++ codes " more\n" → two ≡ one ++ more
      → new ≡ two ++ above_lines found retained (map node (take (length places - (length places - 10)) (drop (length places - 10) places)))
      → new ≡ old ++ chain_lines found retained (map node places)
  long_chain old one two new more long first line second last =
      let many : length nodes ≡ length places = length-map places node in
      let front = ap (above_lines found retained) (sym (take-map node 10 places)) in
      let all_left = length-drop (length places - 10) places in
      let left : take (length places - (length places - 10)) (drop (length places - 10) places) ≡ drop (length places - 10) places =
      ap (λ n. take n (drop (length places - 10) places)) (sym all_left) ∙ take-length (drop (length places - 10) places) in
      let back = ap (λ p. above_lines found retained (map node p)) left
      ∙ ap (above_lines found retained) (sym (drop-map node (length places - 10) places)) in
      let all : new ≡ ((old ++ above_lines found retained (take 10 nodes))
      ++ (codes ".. " ++ decimal (length places - 20) ++ codes " more\n")) ++ above_lines found retained (drop (length places - 10) nodes) =
      last ∙ (λ i. (second ∙ (λ j. (first ∙ ap (λ t. old ++ t) front) j ++ line j)) i ++ back i) in
      all ∙ regrouped old (above_lines found retained (take 10 nodes)) (codes ".. " ++ decimal (length places - 20) ++ codes " more\n")
      (above_lines found retained (drop (length places - 10) nodes))
      ∙ sym (ap (λ n. old ++ (above_lines found retained (take 10 nodes) ++ (codes ".. " ++ decimal (n - 20) ++ codes " more\n"
      ++ above_lines found retained (drop (n - 10) nodes)))) many)
      ∙ sym (ap (λ m. old ++ folded m) (lt-ltb 20 (length nodes) (omega arith))) where
        regrouped : (old front more back : List ℕ) → ((old ++ front) ++ more) ++ back ≡ old ++ (front ++ (more ++ back))
        regrouped old front more back = simp append_assoc

  -- one line more
  pub nodes_more : (index : ℕ) (old text line new : List ℕ) → index < length places
      → text ≡ old ++ above_lines found retained (map node (take index places)) → new ≡ text ++ line
      → line ≡ retained_line found retained (node (get_or places index 0))
      → new ≡ old ++ above_lines found retained (map node (take (index + 1) places))
  nodes_more index old text line new low before pushed is =
      let place : ℕ = get_or places index 0 in
      let front : map node (take (index + 1) places) ≡ map node (take index places) ++ node place ∷ [] =
      ap (map node) (take_more places index 0 low) ∙ map-append node (take index places) (place ∷ []) in
      let last : above_lines found retained (node place ∷ []) ≡ retained_line found retained (node place) =
      flat_map-cons (retained_line found retained) (node place) [] ∙ append-nil (retained_line found retained (node place)) in
      let all : above_lines found retained (map node (take (index + 1) places))
      ≡ above_lines found retained (map node (take index places)) ++ retained_line found retained (node place) =
      ap (above_lines found retained) front ∙ flat_map-append (retained_line found retained) (map node (take index places))
      (node place ∷ [])
      ∙ ap (λ t. above_lines found retained (map node (take index places)) ++ t) last in
      pushed ∙ (λ i. before i ++ is i)
      ∙ append_assoc old (above_lines found retained (map node (take index places))) (retained_line found retained (node place))
      ∙ ap (λ t. old ++ t) (sym all)

  pub nodes_all : (index : ℕ) (old text : List ℕ) → index ≡ length places
      → text ≡ old ++ above_lines found retained (map node (take index places)) → text ≡ old ++ above_lines found retained (map node places)
  nodes_all index old text all is =
      is ∙ ap (λ p. old ++ above_lines found retained (map node p)) (ap (λ n. take n places) all ∙ take-length places)
