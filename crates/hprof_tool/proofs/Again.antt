-- What reads parts again.
use Rattle.std.proofs.Common.{◌≡◌, ◌+◌, ◌<◌, ℕ, List, [], ◌∷◌, ◌++◌, length, get_or, map, take, Option, Some, None, refl, sym, ap, subst}
use Rattle.std.proofs.Common.{◌∙◌}
use Rattle.std.proofs.lemmas.List.{take_more}
use Rattle.std.specs.Prelude.{IfSome, IsSome}
use Rattle.hprof_devices.specs.declared.health.Health.{Health}
use Rattle.hprof_devices.specs.declared.health.Health.TheVariants.{Well}
use Rattle.hprof_runs.specs.ReadBack.{HoldsNothing}
use Rattle.hprof_engine.specs.Joining.{Tell}
use Rattle.hprof_stored.specs.StoredMaking.{CanBeReadAgain}
use Rattle.hprof_tool.specs.Again.{AreHandles, IsReadyFor}
use Rattle.hprof_tool.specs.declared.program.again.Again.{Again}

module _ {P H : Type 0} (left : P → Option (List ℕ)) (bytes : H → Option (List ℕ)) where
  -- one more
  pub handles_more : (parts : List P) (handles : List H) (part : P) (handle : H) → AreHandles left bytes parts handles
      → ((told : List ℕ) → left part ≡ Some told → bytes handle ≡ Some told)
      → AreHandles left bytes (parts ++ part ∷ []) (handles ++ handle ∷ [])
  handles_more [] [] part handle are same = (same, tt)
  handles_more [] (other ∷ handles) part handle are same = absurd are
  handles_more (first ∷ parts) [] part handle are same = absurd are
  handles_more (first ∷ parts) (other ∷ handles) part handle are same = (are.0, handles_more parts handles part handle are.1 same)

  -- the same, of the part that stands at that place
  pub handles_at : (parts : List P) (index : ℕ) (default : P) (handles : List H) (handle : H) → index < length parts
      → ((told : List ℕ) → left (get_or parts index default) ≡ Some told → bytes handle ≡ Some told)
      → AreHandles left bytes (take index parts) handles → AreHandles left bytes (take (index + 1) parts) (handles ++ handle ∷ [])
  handles_at parts index default handles handle within same are =
      subst (λ (ps : List P). AreHandles left bytes ps (handles ++ handle ∷ [])) (sym (take_more parts index default within))
      (handles_more (take index parts) handles (get_or parts index default) handle are same)

  -- they tell what the parts tell
  handles_tell : (parts : List P) (handles : List H) → AreHandles left bytes parts handles → (told : List (List ℕ)) → Tell left parts told
      → map bytes handles ≡ map Some told
  handles_tell [] [] are [] tell = refl
  handles_tell [] [] are (one ∷ told) tell = absurd cc
  handles_tell [] (handle ∷ handles) are told tell = absurd are
  handles_tell (part ∷ parts) [] are told tell = absurd are
  handles_tell (part ∷ parts) (handle ∷ handles) are [] tell = absurd cc
  handles_tell (part ∷ parts) (handle ∷ handles) are (one ∷ told) tell =
      let first : left part ≡ Some one = cc in
      let behind : map left parts ≡ map Some told = cc in
      ap (λ (b : Option (List ℕ)). b ∷ map bytes handles) (are.0 one first)
      ∙ ap (λ (bs : List (Option (List ℕ))). Some one ∷ bs) (handles_tell parts handles are.1 told behind)

  -- and scratch tells what it holds, if one of them tells
  scratch_tells : (parts : List P) (handles : List H) (scratch : Option (List ℕ)) → AreHandles left bytes parts handles
      → ((handle : H) → IsSome (bytes handle) → IsSome scratch) → (parts ≡ [] → ⊥) → (told : List (List ℕ)) → Tell left parts told
      → IsSome scratch
  scratch_tells [] handles scratch are tells some told tell = absurd (some refl)
  scratch_tells (part ∷ parts) [] scratch are tells some told tell = absurd are
  scratch_tells (part ∷ parts) (handle ∷ handles) scratch are tells some [] tell = absurd cc
  scratch_tells (part ∷ parts) (handle ∷ handles) scratch are tells some (one ∷ told) tell =
      let first : left part ≡ Some one = cc in
      tells handle (subst IsSome (sym (are.0 one first)) refl)

  pub can_be_read_again : (parts : List P) (handles : List H) (scratch : Option (List ℕ)) → AreHandles left bytes parts handles
      → ((handle : H) → IsSome (bytes handle) → IsSome scratch) → CanBeReadAgain left parts (map bytes handles) scratch
  can_be_read_again parts handles scratch are tells some told tell =
      (handles_tell parts handles are told tell, scratch_tells parts handles scratch are tells some told tell)

-- a part that tells nothing
untold_again : {P : Type 0} (left : P → Option (List ℕ)) (part : P) (again : List (Option (List ℕ))) (scratch : Option (List ℕ))
    → left part ≡ None → CanBeReadAgain left (part ∷ []) again scratch
untold_again left part again scratch none some [] tell = absurd cc
untold_again left part again scratch none some (one ∷ told) tell = absurd cc

-- so with what is needed to go through its objects again, if that is there
pub once_ready : {P H S : Type 0} (left : P → Option (List ℕ)) (bytes : H → Option (List ℕ)) (written : S → Option (List ℕ))
    (health : S → Health) (part : P) → left part ≡ None → (again : Option (Again H S))
    → IfSome again (λ it. HoldsNothing (written it.scratch)) → IfSome again (λ it. health it.scratch ≡ Well)
    → IfSome again (IsReadyFor left bytes written health (part ∷ []))
once_ready left bytes written health part none None nothing well = tt
once_ready left bytes written health part none (Some again) nothing well =
    (untold_again left part (map bytes again.handles.items) (written again.scratch) none, nothing, well)
