-- The edges that are put of a class dump are those that it gives.
use Rattle.std.specs.Prelude.{◌≢◌, ◌↔◌, map, slice_get}
use Rattle.std.proofs.Common.{◌≡◌, ℕ, List, ◌++◌, Contains, Some, refl, sym, subst, inl, inr}
use Rattle.std.proofs.lemmas.List.Elements.{Contains-append_cases, Contains-append_left, Contains-append_right}
use Rattle.hprof_values.specs.declared.entry.Entry.{Entry}
use Rattle.hprof_heap.specs.Classes.{ClassValue}
use Rattle.hprof_edges.specs.declared.edge.Via.{Via}
use Rattle.hprof_edges.specs.declared.edge.Via.TheVariants as vias
use Rattle.hprof_edges.specs.declared.edge.Edge.{Edge}
use Rattle.hprof_edges.specs.DumpEdges.{ClassRefers, IsClassEdge}
use Rattle.hprof_edges.specs.EdgeLists.{named_edge, named_edges, numbered, target_of, targets_of_constants, targets_of_statics}
use Rattle.hprof_edges.specs.Edges.{EntryRefers}
use Rattle.hprof_edges.proofs.EdgeMembers.{only_there, there_once, numbered_is, is_numbered, at_position}
use Rattle.hprof_edges.proofs.Targets.{constants_same, statics_same, entry_refers, entry_target}

module _ (dump : ClassValue) where
  -- ---- what is put is given

  named_is : (via : Via) (to : ℕ) (edge : Edge) → ClassRefers dump via 0 to → Contains (named_edge dump via to) edge → IsClassEdge dump edge
  named_is via to edge refers there =
      let is = only_there (record { from = dump.id; via = via; position = 0; to = to }) edge there in
      subst (IsClassEdge dump) is.same (record { not_zero = is.not_zero; from_is = refl; refers_is = refers })

  all_named : (edge : Edge) → Contains (named_edges dump) edge → IsClassEdge dump edge
  all_named edge there =
      let parent = named_edge dump vias.Parent dump.parent in
      let loader = named_edge dump vias.Loader dump.loader in
      let signers = named_edge dump vias.Signers dump.signers in
      let domain = named_edge dump vias.Domain dump.domain in
      elim (Contains-append_cases parent (loader ++ (signers ++ domain)) edge there) [
        | inl here ↦ named_is vias.Parent dump.parent edge (refl, refl) here
        | inr behind ↦ elim (Contains-append_cases loader (signers ++ domain) edge behind) [
          | inl here ↦ named_is vias.Loader dump.loader edge (refl, refl) here
          | inr later ↦ elim (Contains-append_cases signers domain edge later) [
            | inl here ↦ named_is vias.Signers dump.signers edge (refl, refl) here
            | inr last ↦ named_is vias.Domain dump.domain edge (refl, refl) last
          ]
        ]
      ]

  by_entries : (via : Via) (entries : List Entry) (targets : List ℕ) (edge : Edge)
      → ((position to : ℕ) → EntryRefers entries position to → ClassRefers dump via position to)
      → targets ≡ map (λ entry. target_of entry.basic entry.bits) entries → Contains (numbered dump.id via 0 targets) edge
      → IsClassEdge dump edge
  by_entries via entries targets edge refers same there =
      let is = numbered_is dump.id via 0 targets edge there in
      let at = subst (λ (l : List ℕ). slice_get l edge.position ≡ Some edge.to) same (at_position dump.id via targets edge is) in
      record {
        not_zero = is.not_zero;
        from_is = is.from_is;
        refers_is = subst (λ (by : Via). ClassRefers dump by edge.position edge.to) (sym is.via_is)
            (refers edge.position edge.to (entry_refers entries edge.position edge.to is.not_zero at));
      }

  -- ---- what is given is put

  abbrev constants : List Edge
  constants = numbered dump.id vias.Constant 0 (targets_of_constants dump.constants)

  abbrev statics : List Edge
  statics = numbered dump.id vias.Static 0 (targets_of_statics dump.statics)

  named_there : (via : Via) (position to given : ℕ) → position ≡ 0 → given ≡ to → to ≢ 0
      → Contains (named_edge dump via given) (record { from = dump.id; via = via; position = position; to = to })
  named_there via position to given first same not_zero =
      subst (λ (p : ℕ). Contains (named_edge dump via given) (record { from = dump.id; via = via; position = p; to = to })) (sym first)
      (subst (λ (n : ℕ). Contains (named_edge dump via n) (record { from = dump.id; via = via; position = 0; to = to })) (sym same)
      (there_once (record { from = dump.id; via = via; position = 0; to = to }) not_zero))

  entry_there : (via : Via) (entries : List Entry) (targets : List ℕ) (position to : ℕ) → to ≢ 0
      → targets ≡ map (λ entry. target_of entry.basic entry.bits) entries → EntryRefers entries position to
      → Contains (numbered dump.id via 0 targets) (record { from = dump.id; via = via; position = position; to = to })
  entry_there via entries targets position to not_zero same refers =
      is_numbered dump.id via targets (record { from = dump.id; via = via; position = position; to = to }) not_zero refl refl
      (subst (λ (l : List ℕ). slice_get l position ≡ Some to) (sym same) (entry_target entries position to refers))

  put : (via : Via) (position to : ℕ) → to ≢ 0 → ClassRefers dump via position to
      → Contains (named_edges dump ++ (constants ++ statics)) (record { from = dump.id; via = via; position = position; to = to })
  put vias.Class position to not_zero is = absurd is
  put vias.Parent position to not_zero is =
      let parent = named_edge dump vias.Parent dump.parent in
      let loader = named_edge dump vias.Loader dump.loader in
      let signers = named_edge dump vias.Signers dump.signers in
      let domain = named_edge dump vias.Domain dump.domain in
      Contains-append_left (named_edges dump) (constants ++ statics) _
      (Contains-append_left parent (loader ++ (signers ++ domain)) _
      (named_there vias.Parent position to dump.parent is.0 is.1 not_zero))
  put vias.Loader position to not_zero is =
      let parent = named_edge dump vias.Parent dump.parent in
      let loader = named_edge dump vias.Loader dump.loader in
      let signers = named_edge dump vias.Signers dump.signers in
      let domain = named_edge dump vias.Domain dump.domain in
      Contains-append_left (named_edges dump) (constants ++ statics) _
      (Contains-append_right parent (loader ++ (signers ++ domain)) _
      (Contains-append_left loader (signers ++ domain) _
      (named_there vias.Loader position to dump.loader is.0 is.1 not_zero)))
  put vias.Signers position to not_zero is =
      let parent = named_edge dump vias.Parent dump.parent in
      let loader = named_edge dump vias.Loader dump.loader in
      let signers = named_edge dump vias.Signers dump.signers in
      let domain = named_edge dump vias.Domain dump.domain in
      Contains-append_left (named_edges dump) (constants ++ statics) _
      (Contains-append_right parent (loader ++ (signers ++ domain)) _
      (Contains-append_right loader (signers ++ domain) _
      (Contains-append_left signers domain _
      (named_there vias.Signers position to dump.signers is.0 is.1 not_zero))))
  put vias.Domain position to not_zero is =
      let parent = named_edge dump vias.Parent dump.parent in
      let loader = named_edge dump vias.Loader dump.loader in
      let signers = named_edge dump vias.Signers dump.signers in
      let domain = named_edge dump vias.Domain dump.domain in
      Contains-append_left (named_edges dump) (constants ++ statics) _
      (Contains-append_right parent (loader ++ (signers ++ domain)) _
      (Contains-append_right loader (signers ++ domain) _
      (Contains-append_right signers domain _
      (named_there vias.Domain position to dump.domain is.0 is.1 not_zero))))
  put vias.Constant position to not_zero is =
      Contains-append_right (named_edges dump) (constants ++ statics) _
      (Contains-append_left constants statics _
      (entry_there vias.Constant dump.constants (targets_of_constants dump.constants) position to not_zero
      (constants_same dump.constants) is))
  put vias.Static position to not_zero is =
      Contains-append_right (named_edges dump) (constants ++ statics) _
      (Contains-append_right constants statics _
      (entry_there vias.Static dump.statics (targets_of_statics dump.statics) position to not_zero (statics_same dump.statics) is))
  put vias.Field position to not_zero is = absurd is
  put vias.Element position to not_zero is = absurd is

  -- ---- both

  pub class_dump_edges : (edge : Edge) → Contains (named_edges dump ++ (constants ++ statics)) edge ↔ IsClassEdge dump edge
  class_dump_edges edge = (there, back) where
    there : Contains (named_edges dump ++ (constants ++ statics)) edge → IsClassEdge dump edge
    there has = elim (Contains-append_cases (named_edges dump) (constants ++ statics) edge has) [
      | inl named ↦ all_named edge named
      | inr behind ↦ elim (Contains-append_cases constants statics edge behind) [
        | inl here ↦ by_entries vias.Constant dump.constants (targets_of_constants dump.constants) edge (λ position to is. is)
            (constants_same dump.constants) here
        | inr later ↦ by_entries vias.Static dump.statics (targets_of_statics dump.statics) edge (λ position to is. is)
            (statics_same dump.statics) later
      ]
    ]

    back : IsClassEdge dump edge → Contains (named_edges dump ++ (constants ++ statics)) edge
    back is =
        subst (λ (from : ℕ). Contains (named_edges dump ++ (constants ++ statics))
        (record { from = from; via = edge.via; position = edge.position; to = edge.to })) (sym is.from_is)
        (put edge.via edge.position edge.to is.not_zero is.refers_is)
