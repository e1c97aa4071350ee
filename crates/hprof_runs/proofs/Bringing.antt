-- The bytes of a run that are still to come, as they are read and passed.
use Rattle.std.proofs.Common.{◌≡◌, ◌+◌, ◌-◌, ◌≤◌, ◌++◌, ℕ, List, length, take, drop, Option}
use Rattle.std.proofs.Common.{sym, ap, subst, ◌∙◌, append_assoc, arith}
use Rattle.std.proofs.lemmas.List.{drop-append-le, drop-drop, drop-take, length-drop, length-take-le, take-append-le, take-take}
use Rattle.std.proofs.Math.Seq.{take-add, take-append-add}
use Rattle.std.specs.Borrow.{Bor}
use Rattle.hprof_runs.specs.declared.run_bytes.RunBytes.{RunBytes}
use Rattle.hprof_runs.specs.ReadBack.{IsReadFrom, ReadsBack}
use Rattle.hprof_runs.specs.RunBytes.{KeepsBytes, PassesBytes, held_bytes}

-- ---- a part of a block

-- behind the part, a piece was put
pub part_filled : (block piece behind : List ℕ) (start end count : ℕ) → start ≤ end → end ≤ length block → count ≤ length piece
    → take ((end + count) - start) (drop start (take end block ++ (piece ++ behind)))
    ≡ take (end - start) (drop start block) ++ take count piece
part_filled block piece behind start end count order within room =
    let size : length (take end block) ≡ end = length-take-le end block within in
    let whole : start + (end - start) ≡ end = omega arith in
    let front : drop start (take end block) ≡ take (end - start) (drop start block) =
    ap (λ (n : ℕ). drop start (take n block)) (sym whole) ∙ drop-take start (end - start) block in
    let part = take (end - start) (drop start block) in
    let len : length part ≡ end - start =
    length-take-le (end - start) (drop start block) (omega (arith, length-drop start block)) in
    let sum : (end + count) - start ≡ length part + count = omega (arith, len) in
    ap (take ((end + count) - start)) (drop-append-le start (take end block) (piece ++ behind) (omega (arith, size)))
    ∙ ap (λ (l : List ℕ). take ((end + count) - start) (l ++ (piece ++ behind))) front
    ∙ ap (λ (n : ℕ). take n (part ++ (piece ++ behind))) sum
    ∙ take-append-add part (piece ++ behind) count
    ∙ ap (λ (l : List ℕ). part ++ l) (take-append-le count piece behind room)

-- the same in a block that is cut, or filled up, behind the piece
pub part_filled_in : (block piece behind more : List ℕ) (start end count size : ℕ) → start ≤ end → end ≤ length block
    → count ≤ length piece → end + count ≤ size
    → take ((end + count) - start) (drop start (take size ((take end block ++ (piece ++ behind)) ++ more)))
    ≡ take (end - start) (drop start block) ++ take count piece
part_filled_in block piece behind more start end count size order within room fits =
    let whole = (take end block ++ (piece ++ behind)) ++ more in
    let sum : start + (size - start) ≡ size = omega arith in
    let same : whole ≡ take end block ++ (piece ++ (behind ++ more)) =
    append_assoc (take end block) (piece ++ behind) more ∙ ap (λ (l : List ℕ). take end block ++ l) (append_assoc piece behind more) in
    ap (λ (n : ℕ). take ((end + count) - start) (drop start (take n whole))) (sym sum)
    ∙ ap (take ((end + count) - start)) (drop-take start (size - start) whole)
    ∙ take-take ((end + count) - start) (size - start) (drop start whole) (omega arith)
    ∙ ap (λ (l : List ℕ). take ((end + count) - start) (drop start l)) same
    ∙ part_filled block piece (behind ++ more) start end count order within room

-- the first of it were passed
pub part_passed : (block : List ℕ) (start end count : ℕ) → start ≤ end → end ≤ length block
    → count ≤ length (take (end - start) (drop start block))
    → take (end - (start + count)) (drop (start + count) block) ≡ drop count (take (end - start) (drop start block))
part_passed block start end count order within room =
    let len : length (take (end - start) (drop start block)) ≡ end - start =
    length-take-le (end - start) (drop start block) (omega (arith, length-drop start block)) in
    let rest = end - (start + count) in
    let sum : count + rest ≡ end - start = omega (arith, len, room) in
    ap (take rest) (sym (drop-drop count start block)) ∙ sym (drop-take count rest (drop start block))
    ∙ ap (λ (n : ℕ). drop count (take n (drop start block))) sum

-- ---- what is still to come

module _ {S : Type 0} (written : S → Option (List ℕ)) where
  -- a piece was read
  pub fill_brings : (old new : RunBytes S) (count : ℕ) (piece : List ℕ) → new.scratch ≡ old.scratch → new.at ≡ old.at + count
      → new.left ≡ old.left - count → count ≤ old.left → ReadsBack (written old.scratch.now) old.at count piece
      → held_bytes new ≡ held_bytes old ++ take count piece → KeepsBytes written old new
  fill_brings old new count piece same at left le read held bytes brings =
      let all = brings.all in
      let is : IsReadFrom all old.at count piece = subst (λ (o : Option (List ℕ)). ReadsBack o old.at count piece) brings.told read in
      let rest = old.left - count in
      let within = brings.within in
      let unread : take old.left (drop old.at all) ≡ take count piece ++ take new.left (drop new.at all) =
      ap (λ (n : ℕ). take n (drop old.at all)) (sum old.left count le) ∙ take-add count rest (drop old.at all)
      ∙ ap (λ (l : List ℕ). l ++ take rest (drop count (drop old.at all))) (sym is.same)
      ∙ ap (λ (l : List ℕ). take count piece ++ take rest l) (drop-drop count old.at all)
      ∙ ap (λ (n : ℕ). take count piece ++ take n (drop (old.at + count) all)) (sym left)
      ∙ ap (λ (n : ℕ). take count piece ++ take new.left (drop n all)) (sym at) in
      record {
        all = all;
        told = ap (λ (s : Bor S). written s.now) same ∙ brings.told;
        within = omega (arith, at, left);
        same = ap (λ (l : List ℕ). l ++ take new.left (drop new.at all)) held
            ∙ append_assoc (held_bytes old) (take count piece) (take new.left (drop new.at all))
            ∙ ap (λ (l : List ℕ). held_bytes old ++ l) (sym unread) ∙ brings.same;
      }
    where
      sum : (left count : ℕ) → count ≤ left → left ≡ count + (left - count)
      sum left count le = omega arith

  -- the first bytes were passed
  pub pass_brings : (old new : RunBytes S) (count : ℕ) → new.scratch ≡ old.scratch → new.at ≡ old.at → new.left ≡ old.left
      → count ≤ length (held_bytes old) → held_bytes new ≡ drop count (held_bytes old) → PassesBytes written count old new
  pass_brings old new count same at left le held bytes brings =
      let all = brings.all in
      let within = brings.within in
      let unread : take new.left (drop new.at all) ≡ take old.left (drop old.at all) =
      ap (λ (n : ℕ). take n (drop new.at all)) left ∙ ap (λ (n : ℕ). take old.left (drop n all)) at in
      record {
        all = all;
        told = ap (λ (s : Bor S). written s.now) same ∙ brings.told;
        within = omega (arith, at, left);
        same = ap (λ (l : List ℕ). l ++ take new.left (drop new.at all)) held
            ∙ ap (λ (l : List ℕ). drop count (held_bytes old) ++ l) unread
            ∙ sym (drop-append-le count (held_bytes old) (take old.left (drop old.at all)) le) ∙ ap (drop count) brings.same;
      }
