-- The identifiers of class dumps, as they are collected.
use Rattle.std.specs.Prelude.{◌↔◌, Contains}
use Rattle.std.proofs.Common.{◌≡◌, ◌⊎◌, ◌∙◌, ℕ, List, [], ◌∷◌, ◌++◌, refl, sym, ap, subst, inr}
use Rattle.hprof_items.specs.FactValue.{FactValue}
use Rattle.hprof_rows.specs.declared.table.Table.TheVariants as tables
use Rattle.hprof_rows.specs.Tables.{facts_of_table}
use Rattle.hprof_heap.specs.Classes.{ClassValue, HasDump, fact_of_class}
use Rattle.hprof_heap.proofs.ClassFacts.{dump_in}
use Rattle.hprof_layouts.proofs.Walks.{dump_in_table}
use Rattle.hprof_reach.proofs.TableNodes.{GoneOver, gone_over_all, one_more}

-- the fact is a dump of the class
pub record GivesDump (fact : FactValue) (id : ℕ) : Type 0 where
  pub dump : ClassValue
  pub is : fact_of_class dump ≡ fact
  pub id_is : dump.id ≡ id

pub dump_pushed : (dump : ClassValue) (fact : FactValue) → fact_of_class dump ≡ fact → (before after : List ℕ)
    → after ≡ before ++ dump.id ∷ [] → (id : ℕ) → Contains after id ↔ (Contains before id ⊎ GivesDump fact id)
dump_pushed dump fact is before after pushed = one_more before after dump.id (GivesDump fact) pushed (λ id. (
  λ gives. subst (λ (d : ClassValue). d.id ≡ id) (ap dump_in (gives.is ∙ sym is)) gives.id_is,
  λ same. record { dump = dump; is = is; id_is = same },
))

-- all of them are there, also in a sorted list
pub dumps_there : (facts left : List FactValue) (first list sorted : List ℕ)
    → GoneOver GivesDump first list (facts_of_table tables.Classes facts) left → left ≡ []
    → ((id : ℕ) → Contains sorted id ↔ Contains list id) → (dump : ClassValue) → HasDump facts dump → Contains sorted dump.id
dumps_there facts left first list sorted over none same dump has =
    (same dump.id).1 ((gone_over_all GivesDump first list (facts_of_table tables.Classes facts) left over none dump.id).1 (inr (record {
      fact = fact_of_class dump;
      has = dump_in_table facts dump has;
      gives = record { dump = dump; is = refl; id_is = refl };
    })))
