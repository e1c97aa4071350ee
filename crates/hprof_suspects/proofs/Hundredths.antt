-- How many hundredths of a number another one is, added up.
use Rattle.std.proofs.Common.{◌≡◌, ◌<◌, ◌≤◌, ◌+◌, ◌-◌, ◌*◌, ◌/◌, ◌∙◌, ℕ, sym, ap, arith}
use Rattle.std.proofs.Math.Nat.{add-mul}
use Rattle.std.proofs.lemmas.Nat.{div-mul-add}

module _ (all part count rest turn : ℕ) (within : part ≤ all) (divided : count * all + rest ≡ turn * part) (less : rest < all) where
  pub one_whole : all - part ≤ rest → (count + 1) * all + (rest - (all - part)) ≡ (turn + 1) * part
  one_whole enough =
      let counted : (count + 1) * all ≡ count * all + 1 * all = add-mul count 1 all in
      let turned : (turn + 1) * part ≡ turn * part + 1 * part = add-mul turn 1 part in
      omega arith

  pub no_whole : count * all + (rest + part) ≡ (turn + 1) * part
  no_whole = let turned : (turn + 1) * part ≡ turn * part + 1 * part = add-mul turn 1 part in omega arith

  pub all_hundred : turn ≡ 100 → count ≡ 100 * part / all
  all_hundred hundred = sym (div-mul-add count all rest less) ∙ ap (λ n. n / all) (divided ∙ ap (λ t. t * part) hundred)
