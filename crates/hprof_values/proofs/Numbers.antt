-- Numbers and the bytes that spell them, the highest first.
use Rattle.std.proofs.Common.{◌≡◌, ℕ, zero, suc, ◌+◌, ◌-◌, ◌*◌, ◌/◌, ◌%◌, ◌^◌, ◌<◌, ◌≤◌, List, [], ◌∷◌, ◌++◌, length, take, drop, refl, sym}
use Rattle.std.proofs.Common.{ap, ◌∙◌, arith}
use Rattle.std.proofs.Math.Nat.{add-mul-div_right, add-mul-mod_self_right, div-one, mod-eq_of_lt, mul_assoc, one-le-pow, add_comm}
use Rattle.std.proofs.lemmas.Nat.{pow-add, div-mul-add}
use Rattle.std.proofs.lemmas.List.{take-append-drop, get_or-drop, length-drop, take_all}
use Rattle.std.proofs.Math.Seq.{drop-drop}
use Rattle.std.specs.Int.{byte_at, bytes_high_first}
use Rattle.byteorder.specs.Endian.{big_bytes, big_number, big_from}
use Rattle.byteorder.specs.Numbers.{big_from-cons, big_from-lt}
use Rattle.hprof_values.specs.Ids.{IsBytes}

-- the bytes after the first
pub IsBytes-tail : (b : ℕ) (bytes : List ℕ) → IsBytes (b ∷ bytes) → IsBytes bytes
IsBytes-tail b bytes are i = are (suc i)

-- a power of 256 is above zero
pub pow256_pos : (n : ℕ) → zero < 256 ^ n
pow256_pos n = let h = one-le-pow n 256 (omega arith) in omega arith

-- a byte of a number, by its place
pub byte_at-pow : (k x : ℕ) → byte_at k x ≡ x / 256 ^ k % 256
byte_at-pow zero x = ap (λ (y : ℕ). y % 256) (sym (div-one x))
byte_at-pow (suc k) x = refl

-- a byte below a place does not see what stands above that place
byte_at-above : (k more a r : ℕ) → byte_at k (a * 256 ^ (more + 1 + k) + r) ≡ byte_at k r
byte_at-above k more a r =
    let split : 256 ^ (more + 1 + k) ≡ 256 ^ more * 256 * 256 ^ k = pow-add 256 (more + 1) k
    ∙ ap (λ (x : ℕ). x * 256 ^ k) (pow-add 256 more 1) in
    let moved : a * 256 ^ (more + 1 + k) + r ≡ r + (a * 256 ^ more * 256) * 256 ^ k =
    ap (λ (x : ℕ). a * x + r) split
    ∙ ap (λ (x : ℕ). x + r) (sym (mul_assoc a (256 ^ more * 256) (256 ^ k))
    ∙ ap (λ (x : ℕ). x * 256 ^ k) (sym (mul_assoc a (256 ^ more) 256)))
    ∙ add_comm ((a * 256 ^ more * 256) * 256 ^ k) r in
    byte_at-pow k (a * 256 ^ (more + 1 + k) + r)
    ∙ ap (λ (x : ℕ). x / 256 ^ k % 256) moved
    ∙ ap (λ (x : ℕ). x % 256) (add-mul-div_right r (a * 256 ^ more * 256) (pow256_pos k))
    ∙ add-mul-mod_self_right (r / 256 ^ k) (a * 256 ^ more) 256
    ∙ sym (byte_at-pow k r)

-- the low bytes do not see what stands above them
pub bytes_high_first-above : (k n a r : ℕ) → k ≤ n → bytes_high_first k (a * 256 ^ n + r) ≡ bytes_high_first k r
bytes_high_first-above zero n a r le = refl
bytes_high_first-above (suc k) n a r le =
    let place : n ≡ (n - suc k) + 1 + k = omega arith in
    let byte : byte_at k (a * 256 ^ n + r) ≡ byte_at k r = ap (λ (m : ℕ). byte_at k (a * 256 ^ m + r)) place
    ∙ byte_at-above k (n - suc k) a r in
    rw (byte, bytes_high_first-above k n a r (omega arith)) refl

-- the bytes of the number in the first n bytes are those bytes
pub big_bytes-number : (n : ℕ) (bytes : List ℕ) → IsBytes bytes → n ≤ length bytes → big_bytes n (big_number n bytes) ≡ take n bytes
big_bytes-number zero bytes are le = refl
big_bytes-number (suc n) [] are le = absurd (omega arith)
big_bytes-number (suc n) (b ∷ bytes) are le =
    let moved : big_from 1 n (b ∷ bytes) ≡ big_from 0 n bytes = big_from-cons 0 n b bytes in
    let below : big_from 0 n bytes < 256 ^ n = big_from-lt 0 n bytes (IsBytes-tail b bytes are) in
    let byte_fits : b < 256 = are 0 in
    let first : byte_at n (b * 256 ^ n + big_from 0 n bytes) ≡ b =
    byte_at-pow n (b * 256 ^ n + big_from 0 n bytes) ∙ ap (λ (x : ℕ). x % 256) (div-mul-add b (256 ^ n) (big_from 0 n bytes) below)
    ∙ mod-eq_of_lt byte_fits in
    let others : bytes_high_first n (b * 256 ^ n + big_from 0 n bytes) ≡ take n bytes =
    bytes_high_first-above n n b (big_from 0 n bytes) (omega arith) ∙ big_bytes-number n bytes (IsBytes-tail b bytes are) (omega arith) in
    rw (moved, first, others) refl

-- a number at the front, and what follows it
pub number_parts : (n : ℕ) (bytes : List ℕ) → IsBytes bytes → n ≤ length bytes → bytes ≡ big_bytes n (big_number n bytes) ++ drop n bytes
number_parts n bytes are le = rw (big_bytes-number n bytes are le) (sym (take-append-drop n bytes))

-- the bytes from a place on
pub IsBytes-drop : (k : ℕ) (bytes : List ℕ) → IsBytes bytes → IsBytes (drop k bytes)
IsBytes-drop k bytes are i = rw (get_or-drop k bytes i 0) (are (k + i))

-- a number at a place, and what follows it
pub number_parts_at : (k n : ℕ) (bytes : List ℕ) → IsBytes bytes → k + n ≤ length bytes
    → drop k bytes ≡ big_bytes n (big_number n (drop k bytes)) ++ drop (k + n) bytes
number_parts_at k n bytes are le =
    let long : n ≤ length (drop k bytes) = omega (arith, length-drop k bytes) in
    number_parts n (drop k bytes) (IsBytes-drop k bytes are) long ∙ ap (λ (r : List ℕ). big_bytes n (big_number n (drop k bytes)) ++ r)
    (drop-drop n k bytes)

-- a slice from a place to the end
pub to_the_end : (k : ℕ) (bytes : List ℕ) → take (length bytes - k) (drop k bytes) ≡ drop k bytes
to_the_end k bytes = take_all (length bytes - k) (drop k bytes) (omega (arith, length-drop k bytes))

-- lists that begin with as many numbers are the same part by part
pub same_parts : (front back others more : List ℕ) → length front ≡ length others → front ++ back ≡ others ++ more → (front ≡ others)
    × (back ≡ more)
same_parts [] back [] more len e = (refl, e)
same_parts [] back (y ∷ others) more len e = absurd (omega arith)
same_parts (x ∷ front) back [] more len e = absurd (omega arith)
same_parts (x ∷ front) back (y ∷ others) more len e =
    let head : x ≡ y = cc in
    let tail : front ++ back ≡ others ++ more = cc in
    let rest = same_parts front back others more (omega arith) tail in
    (rw (head, rest.0) refl, rest.1)

-- the bytes in front
pub IsBytes-take : (k : ℕ) (bytes : List ℕ) → IsBytes bytes → IsBytes (take k bytes)
IsBytes-take zero bytes are i = omega arith
IsBytes-take (suc k) [] are i = omega arith
IsBytes-take (suc k) (b ∷ bytes) are zero = are 0
IsBytes-take (suc k) (b ∷ bytes) are (suc i) = IsBytes-take k bytes (IsBytes-tail b bytes are) i
