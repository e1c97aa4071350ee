use Rattle.std.proofs.Common.{◌≡◌, ◌+◌, ◌++◌, ℕ, Bool, false, List, length, sym, ap, subst, ◌∙◌, arith}
use Rattle.hprof_layouts.specs.References.{is_wanted}
use Rattle.hprof_values.specs.Lists.{identifiers_left, identifiers_of}
use Rattle.hprof_edges.specs.declared.edge.Edge.{Edge}
use Rattle.hprof_edges.specs.declared.edge.Via.TheVariants as vias
use Rattle.hprof_edges.specs.EdgeLists.{numbered, unless_zero}
use Rattle.hprof_edges.proofs.PutTogether.{putting_more}
use Rattle.hprof_edges.proofs.WantedEdges.{kept_without}
use Rattle.hprof_edges.proofs.putting.put_wanted.Goals as goal
use Rattle.hprof_edges.proofs.putting.put_wanted.Goals.{then-wants+in_ok-put_edge, else-wants}

pub loop-to-preserved : goal.loop-to-preserved
loop-to-preserved g c =
    let array = c.args.array in
    let was = c.loop-to.invariant in
    let steps = c.in-Some.ensures.steps in
    let position = c.loop-to.position in
    let all = numbered array vias.Element 0 (identifiers_of c.args.elements) in
    let left = identifiers_left c.loop-to.to-iterator in
    let rest = identifiers_left c.next.new.self in
    let edge : Edge = record { from = array; via = vias.Element; position = position; to = c.in-Some.to } in
    let lengths = ap (λ (l : List ℕ). length l) steps in
    let count = was.count in
    let before = g.C.Collect.holds c.loop-to.into in
    let after = g.C.Collect.holds c.if-wants.into in
    elim c.if-wants.branch [
      | then-wants+in_ok-put_edge w ↦ record {
        put = λ edges held. putting_more before after edges all (numbered array vias.Element position left) (unless_zero edge)
            (numbered array vias.Element (position + 1) rest) (was.put edges held) (ap (numbered array vias.Element position) steps)
            (λ longer held_more. subst (λ (into : _). g.C.Collect.holds into (longer ++ unless_zero edge)) (sym w.into-is)
            (w.in_ok-put_edge.ensures.holds longer held_more));
        keeps = ap (λ (into : _). g.C.Collect.keeps into) w.into-is ∙ w.in_ok-put_edge.ensures.keeps ∙ was.keeps;
        count = omega arith;
      }
      | else-wants w ↦
          let wants : c.wants.result ≡ is_wanted c.wanted-wanted.result c.in-Some.to = c.wants.ensures in
          let unkept : g.C.Collect.keeps c.loop-to.into edge ≡ false =
          ap (λ (keeps : Edge → Bool). keeps edge) was.keeps ∙ c.wanted-wanted.ensures edge (sym wants ∙ w.if-wants.false) in
          record {
            put = λ edges held. putting_more before after edges all (numbered array vias.Element position left) (unless_zero edge)
                (numbered array vias.Element (position + 1) rest) (was.put edges held) (ap (numbered array vias.Element position) steps)
                (λ longer held_more. subst (λ (into : _). g.C.Collect.holds into (longer ++ unless_zero edge)) (sym w.into-is)
                (g.C.Collect.same_kept c.loop-to.into longer (longer ++ unless_zero edge)
                (kept_without (g.C.Collect.keeps c.loop-to.into) longer edge unkept) held_more));
            keeps = ap (λ (into : _). g.C.Collect.keeps into) w.into-is ∙ was.keeps;
            count = omega arith;
          }
    ]
