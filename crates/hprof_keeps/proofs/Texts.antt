-- What is told of an identifier is the report on it.
use Rattle.std.specs.Prelude.{is_some}
use Rattle.std.proofs.Common.{◌≡◌, ◌∙◌, Bool, true, ℕ, List, [], ◌∷◌, Option, Some, None, append_assoc, refl, sym, inl, inr}
use Rattle.hprof_values.specs.declared.ids.IdSize.{IdSize}
use Rattle.hprof_items.specs.FactValue.{FactValue}
use Rattle.hprof_rows.specs.Conflict.{IsConsistent}
use Rattle.hprof_heap.specs.declared.class_dump.ClassDump.{ClassDump}
use Rattle.hprof_heap.specs.ClassDump.{AnswersClass, class_value}
use Rattle.hprof_dominators.specs.Walks as listed
use Rattle.hprof_dominators.proofs.Listed.{same_reached}
use Rattle.hprof_reach.specs.Reaching.{IsDumped, IsNode, IsStart, IsStepBy}
use Rattle.hprof_weak.specs.Weak.{IsStrong}
use Rattle.hprof_describe.specs.Findings.{AreFindings, Findings}
use Rattle.hprof_retained.specs.Retained.{IsHeld}
use Rattle.hprof_retained.specs.Tree.{IsTreeOf, total_of}
use Rattle.hprof_retained.specs.declared.retained.Retained.{Retained}
use Rattle.hprof_keeps.specs.Kept.{IsKept, kept_text, nodes_at}
use Rattle.hprof_keeps.specs.KeepsText.{IsKeepsText, IsNodeText, above_lines, child_lines, total_line, weakly_line}
use Rattle.hprof_keeps.specs.Order.{retained_in}
use Rattle.hprof_keeps.specs.WeakSum.{sum_of}
use Rattle.hprof_keeps.specs.declared.kept.Kept.{Kept}
use Rattle.hprof_keeps.specs.declared.kept.Kept.TheVariants as kept
use Rattle.hprof_keeps.proofs.Held.{are_retained}

-- ---- whether it is a node

-- an identifier whose class dump was found has a dump
pub class_dumped : (ids : IdSize) (facts : List FactValue) (id : ℕ) (class : Option ClassDump) → AnswersClass ids facts id class
    → (told : Bool) → told ≡ is_some class → told ≡ true → IsDumped facts id
class_dumped ids facts id (Some dump) found told is same = inl (class_value dump, found.found, found.id)
class_dumped ids facts id None found told is same = let clash = sym is ∙ same in absurd cc

module _ (ids : IdSize) (facts : List FactValue) where
  -- what is held is a node
  pub held_node : (node : ℕ) → IsHeld ids facts node → IsNode facts node
  held_node node held = go walk.0 walk.1 where
    walk : listed.Reached (IsStart facts) (IsStepBy (IsStrong facts) ids facts) node
    walk = (same_reached (IsStart facts) (IsStepBy (IsStrong facts) ids facts) node).1 held

    go : (nodes : List ℕ) → listed.IsWalk (IsStart facts) (IsStepBy (IsStrong facts) ids facts) nodes node → IsNode facts node
    go [] start = start.0
    go (before ∷ nodes) step = step.0.1

  -- ---- the report

  module _ (agree : IsConsistent facts) (found : Findings) (are : AreFindings ids facts found) (retained : Retained)
      (tree : IsTreeOf ids facts retained) (id : ℕ) where
    node_report : (text : List ℕ) → (id ≡ 0 → ⊥) → IsNodeText ids facts found (retained_in retained) id text
        → IsKeepsText ids facts id text
    node_report text some is = record {
      agree = agree;
      found = found;
      are_found = are;
      retained = retained_in retained;
      are_retained = are_retained ids facts retained tree;
      is = inr (some, is);
    }

    pub keeps_told : (told : Kept) → IsKept ids facts retained id told → IsKeepsText ids facts id (kept_text found retained id told)
    keeps_told (kept.Roots weakly below) is = record {
      agree = agree;
      found = found;
      are_found = are;
      retained = retained_in retained;
      are_retained = are_retained ids facts retained tree;
      is = inl (
        is.0,
        record {
          total = total_of retained;
          is_total = tree.total;
          weakly = sum_of weakly;
          are_weakly = is.1;
          children = nodes_at retained below.items;
          are_children = is.2;
          is = sym (append_assoc (total_line (total_of retained)) (weakly_line (sum_of weakly))
              (child_lines found (retained_in retained) (nodes_at retained below.items)));
        },
      );
    }
    keeps_told (kept.Held above below) is =
        let node = held_node id is.0 in
        node_report (kept_text found retained id (kept.Held above below)) node.0 (inr (inl (
          node,
          record {
            held = is.0;
            total = total_of retained;
            is_total = tree.total;
            dominators = nodes_at retained above.items;
            are_dominators = is.1;
            children = nodes_at retained below.items;
            are_children = is.2;
            is = sym (append_assoc (total_line (total_of retained))
                (above_lines found (retained_in retained) (nodes_at retained above.items))
                (child_lines found (retained_in retained) (nodes_at retained below.items)));
          },
        )))
    keeps_told kept.Weakly is = node_report (kept_text found retained id kept.Weakly) is.0.0 (inr (inr (inl (is.0, is.1, refl))))
    keeps_told kept.Nowise is = node_report (kept_text found retained id kept.Nowise) is.0.0 (inr (inr (inr (is.0, is.1, refl))))
    keeps_told kept.Nothing is = node_report (kept_text found retained id kept.Nothing) is.0 (inl (is.1, refl))
