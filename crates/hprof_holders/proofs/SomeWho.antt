-- Of whichever facts that agree the report `who` has one text.
use Rattle.std.proofs.Common.{◌≡◌, ℕ, List, map, refl, sym, ap, subst, ◌∙◌}
use Rattle.hprof_values.specs.declared.ids.IdSize.{IdSize}
use Rattle.hprof_values.specs.declared.root.Root.{Root}
use Rattle.hprof_items.specs.FactValue.{FactValue}
use Rattle.hprof_rows.specs.Conflict.{IsConsistent}
use Rattle.hprof_edges.specs.declared.edge.Edge.{Edge}
use Rattle.hprof_edges.proofs.SortedEdges as edge_lists
use Rattle.hprof_reach.proofs.RootLists as root_lists
use Rattle.hprof_reports.proofs.SomeRoots.{roots_exist}
use Rattle.hprof_describe.specs.Findings.{Findings}
use Rattle.hprof_describe.proofs.OneFinding.{findings_exist, one_findings}
use Rattle.hprof_holders.specs.SomeReferrers.{some_referrers}
use Rattle.hprof_holders.specs.Sums.{AreSums, SumValue}
use Rattle.hprof_holders.specs.ThreadFindings.{AreThreadFindings, ThreadFindings}
use Rattle.hprof_holders.specs.WhoText.{IsWhoText, edge_kind, roots_of_some, who_text}
use Rattle.hprof_holders.proofs.SomeSteps.{names_exist}
use Rattle.hprof_holders.proofs.SomeSums.{all_sums, one_sums}
use Rattle.hprof_holders.proofs.SomeThreads.{one_threads, threads_exist}
use Rattle.hprof_holders.proofs.WhoParts.{are_edges, same_kinds, same_who}

module _ (ids : IdSize) (facts : List FactValue) (agree : IsConsistent facts) (id : ℕ) where
  pub who_exists : (text : List ℕ) × IsWhoText ids facts id text
  who_exists =
      let found = findings_exist ids facts agree in
      let threads = threads_exist facts agree found.0.naming in
      let names = names_exist ids facts agree in
      let roots = roots_exist facts id in
      let edges = some_referrers ids facts agree id in
      let sums = all_sums (map (edge_kind found.0 names.0) edges.0) in (
        who_text found.0 threads.0 names.0 id (roots_of_some id roots.0) edges.0 sums.0,
        record {
          agree = agree;
          found = found.0;
          are_found = found.1;
          threads = threads.0;
          are_threads = threads.1;
          names = names.0;
          are_names = names.1;
          roots = roots.0;
          are_roots = roots.1;
          edges = edges.0;
          are_edges = edges.1;
          sums = sums.0;
          are_sums = sums.1;
          is = refl;
        },
      )

  pub who_once : (one other : List ℕ) → IsWhoText ids facts id one → IsWhoText ids facts id other → one ≡ other
  who_once one other are too =
      let found = one_findings ids facts agree are.found too.found are.are_found too.are_found in
      let threads = one_threads facts agree too.found.naming are.threads too.threads
      (subst (λ (f : Findings). AreThreadFindings facts f.naming are.threads) found are.are_threads) too.are_threads in
      let roots = root_lists.one_list facts id are.roots too.roots are.are_roots too.are_roots in
      let edges = edge_lists.one_list ids facts (λ edge. edge.to ≡ id) are.edges too.edges are.are_edges too.are_edges in
      let all = are_edges ids facts id are.edges are.are_edges in
      let kinds : map (edge_kind are.found are.names) are.edges ≡ map (edge_kind too.found too.names) too.edges =
      same_kinds ids facts agree are.names too.names are.are_names too.are_names are.found are.edges all
      ∙ ap (λ (f : Findings). map (edge_kind f too.names) are.edges) found ∙ ap (map (edge_kind too.found too.names)) edges in
      let sums = one_sums (map (edge_kind too.found too.names) too.edges) are.sums too.sums
      (subst (λ (texts : List (List ℕ)). AreSums texts are.sums) kinds are.are_sums) too.are_sums in
      are.is
      ∙ same_who ids facts agree are.names too.names are.are_names too.are_names are.found are.threads id (roots_of_some id are.roots)
      are.edges are.sums all
      ∙ ap (λ (f : Findings). who_text f are.threads too.names id (roots_of_some id are.roots) are.edges are.sums) found
      ∙ ap (λ (t : ThreadFindings). who_text too.found t too.names id (roots_of_some id are.roots) are.edges are.sums) threads
      ∙ ap (λ (l : List Root). who_text too.found too.threads too.names id (roots_of_some id l) are.edges are.sums) roots
      ∙ ap (λ (l : List Edge). who_text too.found too.threads too.names id (roots_of_some id too.roots) l are.sums) edges
      ∙ ap (λ (l : List SumValue). who_text too.found too.threads too.names id (roots_of_some id too.roots) too.edges l) sums
      ∙ sym too.is
