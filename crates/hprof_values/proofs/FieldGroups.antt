-- Groups of fields: what is read is what is spelled, and where they end.
use Rattle.std.proofs.Common.{◌≡◌, ℕ, ◌+◌, ◌<◌, ◌≤◌, ◌⊎◌, inl, inr, Bool, true, false, cond, ltb, List, [], ◌∷◌, ◌++◌, length, drop, Result}
use Rattle.std.proofs.Common.{Ok, Err, refl, sym, ap, subst, ◌∙◌, append_assoc, arith}
use Rattle.std.proofs.lemmas.Bool.{cond-false, cond-true, le-ltb, lt-ltb, ltb-false, cases_lt}
use Rattle.std.proofs.lemmas.List.{drop_at, length-append, length-drop}
use Rattle.std.proofs.lemmas.List.Sums.{sum_by-cons}
use Rattle.std.proofs.Math.Seq.{drop-drop}
use Rattle.std.specs.Prelude.{sum}
use Rattle.byteorder.specs.Endian.{big_bytes, big_number}
use Rattle.byteorder.specs.Numbers.{big_from-lt, big_number-reads_back, length-bytes_high_first}
use Rattle.hprof_values.specs.declared.reason.Reason.TheVariants.{PastEnd}
use Rattle.hprof_values.specs.declared.parse_stop.ParseStop.{ParseStop}
use Rattle.hprof_values.specs.declared.parse_stop.ParseStop.TheVariants.{Short, TooLong, Fault}
use Rattle.hprof_values.specs.Ids.{IsBytes}
use Rattle.hprof_values.specs.FieldGroups.{field_bytes, fields_in, FitFields, Bounds, ◌>>=◌, field_end, reached, IsWithin, with_more}
use Rattle.hprof_values.proofs.Numbers.{IsBytes-drop, number_parts}

-- the widths of a field and of the others
pub sum_widths : (w : ℕ) (ws : List ℕ) → sum (w ∷ ws) ≡ w + sum ws
sum_widths w ws = sum_by-cons (λ (x : ℕ). x) w ws

-- ---- the numbers and their bytes

-- how many bytes a group has
pub length-fields : (widths numbers : List ℕ) → FitFields widths numbers → length (field_bytes widths numbers) ≡ sum widths
length-fields [] [] fits = refl
length-fields [] (n ∷ ns) fits = absurd fits
length-fields (w ∷ ws) [] fits = absurd fits
length-fields (w ∷ ws) (n ∷ ns) fits = omega (
  arith,
  length-append (big_bytes w n) (field_bytes ws ns),
  length-bytes_high_first w n,
  length-fields ws ns fits.1,
  sum_widths w ws,
)

-- what is spelled is read, whatever follows
pub fields_again : (widths numbers rest : List ℕ) → FitFields widths numbers → fields_in widths (field_bytes widths numbers ++ rest)
    ≡ numbers
fields_again [] [] rest fits = refl
fields_again [] (n ∷ ns) rest fits = absurd fits
fields_again (w ∷ ws) [] rest fits = absurd fits
fields_again (w ∷ ws) (n ∷ ns) rest fits =
    let back : List ℕ = field_bytes ws ns ++ rest in
    rw (
      append_assoc (big_bytes w n) (field_bytes ws ns) rest,
      big_number-reads_back w n back fits.0,
      drop_at (big_bytes w n) back w
          (length-bytes_high_first w n),
      fields_again ws ns rest fits.1,
    ) refl

-- the bytes behind a group
pub fields_rest : (widths numbers rest : List ℕ) → FitFields widths numbers → drop (sum widths) (field_bytes widths numbers ++ rest) ≡ rest
fields_rest widths numbers rest fits = drop_at (field_bytes widths numbers) rest (sum widths) (length-fields widths numbers fits)

-- what is read is in range
pub fields_fit : (widths bytes : List ℕ) → IsBytes bytes → FitFields widths (fields_in widths bytes)
fields_fit [] bytes are = tt
fields_fit (w ∷ ws) bytes are = (big_from-lt 0 w bytes are, fields_fit ws (drop w bytes) (IsBytes-drop w bytes are))

-- what is read is spelled so
pub fields_found : (widths bytes : List ℕ) → IsBytes bytes → sum widths ≤ length bytes
    → bytes ≡ field_bytes widths (fields_in widths bytes) ++ drop (sum widths) bytes
fields_found [] bytes are long = refl
fields_found (w ∷ ws) bytes are long =
    let all = sum_widths w ws in
    let more = fields_found ws (drop w bytes) (IsBytes-drop w bytes are) (omega (arith, length-drop w bytes)) in
    let rest : drop (sum ws) (drop w bytes) ≡ drop (sum (w ∷ ws)) bytes = drop-drop (sum ws) w bytes
    ∙ ap (λ (n : ℕ). drop n bytes) (sym all) in
    number_parts w bytes are (omega arith)
    ∙ ap (λ (r : List ℕ). big_bytes w (big_number w bytes) ++ r) (more
    ∙ ap (λ (r : List ℕ). field_bytes ws (fields_in ws (drop w bytes)) ++ r) rest)
    ∙ sym (append_assoc (big_bytes w (big_number w bytes)) (field_bytes ws (fields_in ws (drop w bytes))) (drop (sum (w ∷ ws)) bytes))

-- ---- where they end

-- a field that ends within all bounds
pub field_within : (bounds : Bounds) (end : ℕ) → IsWithin bounds end → field_end bounds end ≡ Ok end
field_within bounds end within =
    cond-false (ltb bounds.room end) _ _ (le-ltb _ _ within.room)
    ∙ cond-false (ltb bounds.longest end) _ _ (le-ltb _ _ within.longest)
    ∙ cond-false (ltb bounds.there end) _ _ (le-ltb _ _ within.there)

-- a test that did not fail
passed : {A : Type 0} (t : Bool) (stop : ParseStop) (r : Result A ParseStop) (x : A) → cond t (Err stop) r ≡ Ok x → (t ≡ false) × (r ≡ Ok x)
passed true stop r x e = absurd cc
passed false stop r x e = (refl, e)

-- a field that passed its tests
pub field_passed : (bounds : Bounds) (end last : ℕ) → field_end bounds end ≡ Ok last → (last ≡ end) × IsWithin bounds end
field_passed bounds end last e =
    let room = passed (ltb bounds.room end) (Fault PastEnd) (cond (ltb bounds.longest end) (Err TooLong)
    (cond (ltb bounds.there end) (Err Short) (Ok end))) last e in
    let longest = passed (ltb bounds.longest end) TooLong (cond (ltb bounds.there end) (Err Short) (Ok end)) last room.1 in
    let there = passed (ltb bounds.there end) Short (Ok end) last longest.1 in
    (cc, record { room = ltb-false _ _ room.0; longest = ltb-false _ _ longest.0; there = ltb-false _ _ there.0 })

-- a step that went well, and what came next
pub then_ok : {A B : Type 0} (r : Result A ParseStop) (next : A → Result B ParseStop) (y : B) → (r >>= next) ≡ Ok y → (x : A) × (r ≡ Ok x)
    × (next x ≡ Ok y)
then_ok (Ok x) next y e = (x, refl, e)
then_ok (Err stop) next y e = absurd cc

-- what comes after a step that went well
pub then_next : {A B : Type 0} (r : Result A ParseStop) (next : A → Result B ParseStop) (x : A) → r ≡ Ok x → (r >>= next) ≡ next x
then_next (Ok y) next x e = let same : y ≡ x = cc in ap next same
then_next (Err stop) next x e = absurd cc

-- within all bounds, so is what ends before it
pub within-less : (bounds : Bounds) (less end : ℕ) → less ≤ end → IsWithin bounds end → IsWithin bounds less
within-less bounds less end le within = record {
  room = omega (arith, within.room);
  longest = omega (arith, within.longest);
  there =
      omega (arith, within.there);
}

-- a group that ends within all bounds
pub reached_within : (bounds : Bounds) (at : ℕ) (widths : List ℕ) → IsWithin bounds (at + sum widths)
    → reached bounds at widths ≡ Ok (at + sum widths)
reached_within bounds at [] within = ap Ok (omega arith)
reached_within bounds at (w ∷ ws) within =
    let all = sum_widths w ws in
    let first = field_within bounds (at + w) (within-less bounds (at + w) (at + sum (w ∷ ws)) (omega arith) within) in
    let others = reached_within bounds (at + w) ws (within-less bounds (at + w + sum ws) (at + sum (w ∷ ws)) (omega arith) within) in
    then_next (field_end bounds (at + w)) (λ (end : ℕ). reached bounds end ws) (at + w) first ∙ others ∙ ap Ok (omega arith)

-- a group that passed its tests
pub reached_passed : (bounds : Bounds) (at w : ℕ) (ws : List ℕ) (end : ℕ) → reached bounds at (w ∷ ws) ≡ Ok end
    → (end ≡ at + sum (w ∷ ws)) × IsWithin bounds end
reached_passed bounds at w [] end e =
    let all = sum_widths w [] in
    let first = then_ok (field_end bounds (at + w)) (λ (last : ℕ). Ok last) end e in
    let passed = field_passed bounds (at + w) first.0 first.1 in
    let same : first.0 ≡ end = (let h = first.2 in cc) in
    (omega (arith, same, passed.0), subst (IsWithin bounds) (sym passed.0 ∙ same) passed.1)
reached_passed bounds at w (v ∷ ws) end e =
    let all = sum_widths w (v ∷ ws) in
    let first = then_ok (field_end bounds (at + w)) (λ (last : ℕ). reached bounds last (v ∷ ws)) end e in
    let passed = field_passed bounds (at + w) first.0 first.1 in
    let others = reached_passed bounds first.0 v ws end first.2 in
    (omega (arith, others.0, passed.0), others.1)

-- a field that lies within the record and the longest item and is not there
field_short : (bounds : Bounds) (end : ℕ) → end ≤ bounds.room → end ≤ bounds.longest → bounds.there < end → field_end bounds end ≡ Err Short
field_short bounds end room longest there =
    cond-false (ltb bounds.room end) _ _ (le-ltb _ _ room) ∙ cond-false (ltb bounds.longest end) _ _ (le-ltb _ _ longest)
    ∙ cond-true (ltb bounds.there end) _ _ (lt-ltb _ _ there)

-- what comes after a step that stopped
pub then_stop : {A B : Type 0} (r : Result A ParseStop) (next : A → Result B ParseStop) (stop : ParseStop) → r ≡ Err stop
    → (r >>= next) ≡ Err stop
then_stop (Ok y) next stop e = absurd cc
then_stop (Err other) next stop e = ap Err (cc)

-- a group of which a front is there, within the record and the longest item
pub reached_short : (bounds : Bounds) (at : ℕ) (widths : List ℕ) → at ≤ bounds.there → bounds.there < at + sum widths
    → at + sum widths ≤ bounds.room → at + sum widths ≤ bounds.longest
    → reached bounds at widths ≡ Err Short
reached_short bounds at [] begun there room longest = absurd (omega arith)
reached_short bounds at (w ∷ ws) begun there room longest =
    let all = sum_widths w ws in
    let next : ℕ → Result ℕ ParseStop = λ end. reached bounds end ws in
    elim (cases_lt bounds.there (at + w)) [
      | inl cut ↦ then_stop (field_end bounds (at + w)) next Short (field_short bounds (at + w) (omega arith) (omega arith) cut)
      | inr more ↦
          then_next (field_end bounds (at + w)) next (at + w) (field_within bounds (at + w) (record {
            room = omega arith;
            longest =
                omega arith;
            there = more;
          }))
          ∙ reached_short bounds (at + w) ws more (omega arith) (omega arith) (omega arith)
    ]

-- answers behind one test
guarded : (t : Bool) (stop : ParseStop) (r s : Result ℕ ParseStop) → (r ≡ Err Short) ⊎ (s ≡ r) → (cond t (Err stop) r ≡ Err Short)
    ⊎ (cond t (Err stop) s ≡ cond t (Err stop) r)
guarded true stop r s h = inr refl
guarded false stop r s h = h

-- a test that is not for want of bytes answers the same when there are more
field_more : (bounds : Bounds) (end more : ℕ) → (field_end bounds end ≡ Err Short)
    ⊎ (field_end (with_more bounds more) end ≡ field_end bounds end)
field_more bounds end more = elim (cases_lt bounds.there end) [
  | inr there ↦
      let last : ltb bounds.there end ≡ ltb (bounds.there + more) end = le-ltb _ _ there ∙ sym (le-ltb _ _ (omega arith)) in
      inr (ap (λ (t : Bool). cond (ltb bounds.room end) (Err (Fault PastEnd)) (cond (ltb bounds.longest end) (Err TooLong)
      (cond t (Err Short) (Ok end)))) (sym last))
  | inl cut ↦ guarded (ltb bounds.room end) (Fault PastEnd) _ _ (guarded (ltb bounds.longest end) TooLong _ _
      (inl (cond-true (ltb bounds.there end) _ _ (lt-ltb _ _ cut))))
]

-- two steps, each of which answers the same unless for want of bytes
pub then_more : {A B : Type 0} (r s : Result A ParseStop) (next later : A → Result B ParseStop) → (r ≡ Err Short) ⊎ (s ≡ r)
    → ((x : A) → (next x ≡ Err Short) ⊎ (later x ≡ next x))
    → ((r >>= next) ≡ Err Short) ⊎ ((s >>= later) ≡ (r >>= next))
then_more r s next later (inl short) h = inl (then_stop r next Short short)
then_more (Ok x) s next later (inr same) h =
    elim (h x) [ inl short ↦ inl short | inr more ↦ inr (ap (λ (r : Result _ ParseStop). r >>= later) same ∙ more) ]
then_more (Err stop) s next later (inr same) h = inr (ap (λ (r : Result _ ParseStop). r >>= later) same)

-- a group that does not want for bytes ends the same when there are more
pub reached_more : (bounds : Bounds) (at more : ℕ) (widths : List ℕ) → (reached bounds at widths ≡ Err Short)
    ⊎ (reached (with_more bounds more) at widths ≡ reached bounds at widths)
reached_more bounds at more [] = inr refl
reached_more bounds at more (w ∷ ws) = then_more (field_end bounds (at + w)) (field_end (with_more bounds more) (at + w))
    (λ (end : ℕ). reached bounds end ws) (λ (end : ℕ). reached (with_more bounds more) end ws) (field_more bounds (at + w) more) (λ end.
    reached_more bounds end more ws)
