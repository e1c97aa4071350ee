use Rattle.std.proofs.Common.{◌≤◌, arith, subst}
use Rattle.hprof_tables.specs.SortedRows.{AreKeys}
use Rattle.hprof_tables.proofs.SortedRows.{AreKeys-weaker}
use Rattle.hprof_tables.proofs.page.Page.of.Goals as goal

pub invariant_of-result : goal.invariant_of-result
invariant_of-result g c =
    let last = c.last_key-last.result in
    let small = c.last_key-last.type_inv in
    record {
      sound = record {
        ascends = c.requires;
        within =
            AreKeys-weaker (λ key. key ≤ last) (λ key. (0 ≤ key) × (key ≤ 18446744073709551615)) c.args.rows.items
            (λ key le. (omega arith, omega arith))
            (subst (AreKeys (λ key. key ≤ last)) c.deref.ensures.value c.last_key-last.ensures);
      };
    }
