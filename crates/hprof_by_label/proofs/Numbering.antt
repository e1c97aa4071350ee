-- One label more among labels with numbers.
use Rattle.std.specs.Prelude.{bytes_eq}
use Rattle.std.proofs.Common.{◌≡◌, ◌<◌, ◌+◌, ◌++◌, ◌∙◌, ℕ, Bool, true, false, cond, List, [], ◌∷◌, Some, None, String, length, string_bytes}
use Rattle.std.proofs.Common.{refl, sym, ap, subst, inl, inr, arith, length-append}
use Rattle.std.specs.BTreeMap.{get_by_text}
use Rattle.std.specs.Map.{update}
use Rattle.std.proofs.lemmas.Bool.{cases_eq}
use Rattle.std.proofs.lemmas.List.{get_or-map}
use Rattle.std.proofs.Math.ListN.{get_or-append}
use Rattle.std.proofs.Math.Seq.{get_or-append_seam}
use Rattle.std.proofs.lemmas.Slice.Eq.{bytes_eq-Decides}
use Rattle.hprof_by_label.specs.Texts.{AreNumbered, IsTextIn, text_in}
use Rattle.hprof_by_label.specs.declared.texts.Texts.{Texts}

module _ {A : Type 0} (texts : List (String A)) (one : String A) where
  -- the labels so far keep their numbers
  pub text_before : (number : ℕ) → number < length texts → text_in (texts ++ one ∷ []) number ≡ text_in texts number
  text_before number low =
      let long = length-append texts (one ∷ []) in
      get_or-map string_bytes (texts ++ one ∷ []) number one [] (omega arith)
      ∙ ap string_bytes (get_or-append texts (one ∷ []) one number low) ∙ sym (get_or-map string_bytes texts number one [] low)

  -- and the new one has the next
  pub text_last : text_in (texts ++ one ∷ []) (length texts) ≡ string_bytes one
  text_last =
      let long = length-append texts (one ∷ []) in
      get_or-map string_bytes (texts ++ one ∷ []) (length texts) one [] (omega arith)
      ∙ ap string_bytes (get_or-append_seam texts one [] one)

module _ (old new : Texts) (are : AreNumbered old) (bytes : List ℕ) (none : get_by_text old.numbers bytes ≡ None)
    (next : ℕ) (next_is : next ≡ length old.texts.items)
    (updates : (cs : List ℕ) → get_by_text new.numbers cs ≡ update bytes_eq (get_by_text old.numbers) bytes (Some next) cs)
    (before : (number : ℕ) → number < length old.texts.items → text_in new.texts.items number ≡ text_in old.texts.items number)
    (last : text_in new.texts.items (length old.texts.items) ≡ bytes) (long : length new.texts.items ≡ length old.texts.items + 1) where
  found_here : get_by_text new.numbers bytes ≡ Some (length old.texts.items)
  found_here =
      updates bytes ∙ ap (λ b. cond b (Some next) (get_by_text old.numbers bytes)) ((bytes_eq-Decides bytes bytes).1 refl) ∙ ap Some next_is

  found_before : (text : List ℕ) (number : ℕ) → get_by_text old.numbers text ≡ Some number → get_by_text new.numbers text ≡ Some number
  found_before text number is = by_test (bytes_eq bytes text) refl where
    by_test : (b : Bool) → bytes_eq bytes text ≡ b → get_by_text new.numbers text ≡ Some number
    by_test true same =
        let wrong : None ≡ Some number = sym none ∙ ap (get_by_text old.numbers) ((bytes_eq-Decides bytes text).0 same) ∙ is in absurd cc
    by_test false other =
        updates text ∙ ap (λ b. cond b (Some next) (get_by_text old.numbers text)) other ∙ is

  only_these : (text : List ℕ) (number : ℕ) → get_by_text new.numbers text ≡ Some number → IsTextIn new.texts.items number text
  only_these text number is = by_test (bytes_eq bytes text) refl where
    by_test : (b : Bool) → bytes_eq bytes text ≡ b → IsTextIn new.texts.items number text
    by_test true same =
        let at : Some next ≡ Some number =
        sym (updates text ∙ ap (λ b. cond b (Some next) (get_by_text old.numbers text)) same) ∙ is in
        let same_number : next ≡ number = cc in
        let number_is : length old.texts.items ≡ number = sym next_is ∙ same_number in
        subst (λ n. IsTextIn new.texts.items n text) number_is (omega arith, last ∙ (bytes_eq-Decides bytes text).0 same)
    by_test false other =
        let was = are.only text number
        (sym (updates text ∙ ap (λ b. cond b (Some next) (get_by_text old.numbers text)) other) ∙ is) in
        let low = was.0 in
        (omega arith, before number low ∙ was.1)

  pub numbered_more : AreNumbered new
  numbered_more = record {
    found = λ number low. elim (cases_eq number (length old.texts.items)) [
      | inl same ↦
          subst (λ n. get_by_text new.numbers (text_in new.texts.items n) ≡ Some n) (sym same)
          (ap (get_by_text new.numbers) last ∙ found_here)
      | inr other ↦
          let less : number < length old.texts.items = omega arith in
          ap (get_by_text new.numbers) (before number less) ∙ found_before (text_in old.texts.items number) number (are.found number less)
    ];
    only = only_these;
  }
