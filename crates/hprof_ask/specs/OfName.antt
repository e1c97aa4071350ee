-- The report `biggest` on the classes of a name.
use Rattle.std.proofs.Common.{ℕ, Bool, List, ◌⊎◌, ◌↔◌, IsTrue, inl, inr}
use Rattle.hprof_values.specs.declared.ids.IdSize.{IdSize}
use Rattle.hprof_items.specs.FactValue.{FactValue}
use Rattle.hprof_keeps.specs.BiggestText.{IsBiggestText}
use Rattle.hprof_keeps.specs.Chosen.{HasObjectOfClasses, IsClassAlone}
use Rattle.hprof_keeps.proofs.SameChoice.{biggest_alike}
use Rattle.hprof_ask.specs.Report.{IsOfClasses, NamesClasses}

-- class dumps are chosen exactly if the name is that of the class of all classes
pub biggest_of_name : (ids : IdSize) (facts : List FactValue) (name classes : List ℕ) (dumps : Bool) → (IsTrue dumps ↔ NamesClasses name)
    → (text : List ℕ)
    → IsBiggestText ids facts (λ node. HasObjectOfClasses facts classes node ⊎ (IsTrue dumps × IsClassAlone facts node)) text
    → IsBiggestText ids facts (IsOfClasses facts name classes) text
biggest_of_name ids facts name classes dumps same text is =
    biggest_alike ids facts (λ node. HasObjectOfClasses facts classes node ⊎ (IsTrue dumps × IsClassAlone facts node))
    (IsOfClasses facts name classes) (λ node. (to node, back node)) text is where
      to : (node : ℕ) → HasObjectOfClasses facts classes node ⊎ (IsTrue dumps × IsClassAlone facts node)
          → IsOfClasses facts name classes node
      to node (inl object) = inl object
      to node (inr alone) = inr (same.0 alone.0, alone.1)

      back : (node : ℕ) → IsOfClasses facts name classes node → HasObjectOfClasses facts classes node
          ⊎ (IsTrue dumps × IsClassAlone facts node)
      back node (inl object) = inl object
      back node (inr alone) = inr (same.1 alone.0, alone.1)
