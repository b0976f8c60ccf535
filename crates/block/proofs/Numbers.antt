-- Laws of numbers as bytes, the first the most significant. Assumes nothing.
use Rattle.std.proofs.Common.{◌≡◌, ℕ, zero, suc, ◌+◌, ◌-◌, ◌*◌, ◌/◌, ◌%◌, ◌^◌, ◌<◌, ◌≤◌, ◌⊎◌, List, [], ◌∷◌, ◌++◌, length, get_or, take, drop, replicate, sym, refl, ap, ◌∙◌, subst, ap₂, inl, inr, append_assoc, append-nil, lt_of_lt_of_le, le_of_suc-le-suc, not-suc-le-zero, add-zero, add_assoc, mod-lt, mod-eq_of_lt, mul_assoc, suc-mul, mul_comm, div-lt_iff_lt-mul, add-mul, suc-add, eq-or-lt_of_le, pow-suc, div-add-mod', zero-add, mul-one, div-one, add-one, arith, lit<, length-append, length-drop, length-take-le, drop-drop, take_at, take-add, drop_at, shr-shr}
use native.Mathlib.Nat.{div-div-eq-div-mul, mul-add-div_right, mul-add-mod_self_right, one-le-pow, pow-le-pow_right}
use lib.ListN.{get_or-append}
use lib.Pow.{high}
use lib.Arith.{digits_lt, digits_div}
use lib.Seq.{get_or_at}
use lib.Bits.{bit_xor, xor_shr, xor_mod}
use Rattle.block.specs.Bytes.{Bytes, xor_bytes, number, from_bytes, to_bytes}
use Rattle.block.proofs.Lists.{bytes_append, xor_append}

pub number_append : (s : ℕ) (xs ys : List ℕ) → number s (xs ++ ys) ≡ number (number s xs) ys
unfolding number
number_append s [] ys = refl
number_append s (x ∷ xs) ys = number_append (s * 256 + x) xs ys

pub number_scale : (s : ℕ) (xs : List ℕ) → number s xs ≡ s * 256 ^ length xs + number 0 xs
unfolding number
number_scale s [] = sym (add-zero (s * 1) ∙ mul-one s)
number_scale s (x ∷ xs) =
    number_scale (s * 256 + x) xs
    ∙ ap (λ (k : ℕ). k + number 0 xs) (add-mul (s * 256) x (256 ^ length xs) ∙ ap (λ (k : ℕ). k + x * 256 ^ length xs) shift)
    ∙ add_assoc (s * 256 ^ suc (length xs)) (x * 256 ^ length xs) (number 0 xs)
    ∙ ap (λ (k : ℕ). s * 256 ^ suc (length xs) + k) (sym (number_scale x xs))
    ∙ ap (λ (k : ℕ). s * 256 ^ suc (length xs) + number k xs) (sym (zero-add x))
  where
    shift : s * 256 * 256 ^ length xs ≡ s * 256 ^ suc (length xs)
    shift = mul_assoc s 256 (256 ^ length xs) ∙ ap (λ (k : ℕ). s * k) (mul_comm 256 (256 ^ length xs) ∙ sym (pow-suc 256 (length xs)))

pub number_snoc : (s : ℕ) (xs : List ℕ) (x : ℕ) → number s (xs ++ (x ∷ [])) ≡ number s xs * 256 + x
unfolding number
number_snoc s xs x = number_append s xs (x ∷ [])

-- two runs of bytes one after the other
pub bytes_two : (b : List ℕ) (at m n : ℕ) → at + (m + n) ≤ length b
    → from_bytes (take (m + n) (drop at b)) ≡ from_bytes (take m (drop at b)) * 256 ^ n + from_bytes (take n (drop (at + m) b))
unfolding from_bytes
bytes_two b at m n h =
    ap (number 0) (take-add m n (drop at b) ∙ ap (λ (l : List ℕ). take m (drop at b) ++ take n l) (drop-drop m at b))
    ∙ number_append 0 (take m (drop at b)) (take n (drop (at + m) b))
    ∙ number_scale (number 0 (take m (drop at b))) (take n (drop (at + m) b))
    ∙ ap (λ (k : ℕ). number 0 (take m (drop at b)) * 256 ^ k + number 0 (take n (drop (at + m) b)))
    (length-take-le n (drop (at + m) b) (simp length-drop (omega arith)))

-- ---- the bytes of a number

pub length-to_bytes : (k n : ℕ) → length (to_bytes k n) ≡ k
unfolding to_bytes
length-to_bytes zero n = refl
length-to_bytes (suc k) n =
    length-append (to_bytes k (n / 256)) (n % 256 ∷ []) ∙ add-one (length (to_bytes k (n / 256))) ∙ ap suc (length-to_bytes k (n / 256))

pub to_bytes_at : (k n i : ℕ) → i < k → get_or (to_bytes k n) i 0 ≡ n / 2 ^ (8 * (k - 1 - i)) % 256
unfolding to_bytes
to_bytes_at zero n i h = absurd (not-suc-le-zero h)
to_bytes_at (suc k) n i h = pick (to_bytes_at k (n / 256) i) (eq-or-lt_of_le (le_of_suc-le-suc h))
  where
    pick : (i < k → get_or (to_bytes k (n / 256)) i 0 ≡ n / 256 / 2 ^ (8 * (k - 1 - i)) % 256)
        → (i ≡ k) ⊎ (i < k) → get_or (to_bytes k (n / 256) ++ (n % 256 ∷ [])) i 0 ≡ n / 2 ^ (8 * (suc k - 1 - i)) % 256
    pick ih (inl e) =
        let same : 0 ≡ 8 * (suc k - 1 - i) = omega arith in
        get_or_at (to_bytes k (n / 256)) (n % 256) [] 0 i (length-to_bytes k (n / 256) ∙ sym e)
        ∙ ap (λ (x : ℕ). x % 256) (sym (div-one n))
        ∙ ap (λ (j : ℕ). n / 2 ^ j % 256) same
    pick ih (inr l) =
        let same : 8 + 8 * (k - 1 - i) ≡ 8 * (suc k - 1 - i) = omega arith in
        get_or-append (to_bytes k (n / 256)) (n % 256 ∷ []) 0 i (subst (λ (m : ℕ). i < m) (sym (length-to_bytes k (n / 256))) l)
        ∙ ih l
        ∙ ap (λ (x : ℕ). x % 256) (shr-shr n 8 (8 * (k - 1 - i)))
        ∙ ap (λ (j : ℕ). n / 2 ^ j % 256) same

-- the high bytes first, then the n low ones
pub to_bytes-append : (m n x : ℕ) → to_bytes (n + m) x ≡ to_bytes m (x / 256 ^ n) ++ to_bytes n x
unfolding to_bytes
to_bytes-append m zero x = ap₂ to_bytes (zero-add m) (sym (div-one x)) ∙ sym (append-nil (to_bytes m (x / 1)))
to_bytes-append m (suc n) x =
    ap (λ (k : ℕ). to_bytes k x) (suc-add n m)
    ∙ ap (λ (l : List ℕ). l ++ (x % 256 ∷ []))
    (to_bytes-append m n (x / 256)
    ∙ ap (λ (y : ℕ). to_bytes m y ++ to_bytes n (x / 256))
    (div-div-eq-div-mul x 256 (256 ^ n) ∙ ap (λ (e : ℕ). x / e) (mul_comm 256 (256 ^ n) ∙ sym (pow-suc 256 n))))
    ∙ append_assoc (to_bytes m (x / 256 ^ suc n)) (to_bytes n (x / 256)) (x % 256 ∷ [])

-- only the n low digits count
pub to_bytes_low : (q n r : ℕ) → to_bytes n (q * 256 ^ n + r) ≡ to_bytes n r
unfolding to_bytes
to_bytes_low q zero r = refl
to_bytes_low q (suc n) r =
    ap₂ (λ (x y : ℕ). to_bytes n x ++ (y ∷ []))
    (ap (λ (x : ℕ). (x + r) / 256) shift ∙ mul-add-div_right (lit< {m = 0} {n = 256} tt) (q * 256 ^ n) r)
    (ap (λ (x : ℕ). (x + r) % 256) shift ∙ mul-add-mod_self_right (q * 256 ^ n) 256 r)
    ∙ ap (λ (l : List ℕ). l ++ (r % 256 ∷ [])) (to_bytes_low q n (r / 256))
  where
    shift : q * 256 ^ suc n ≡ q * 256 ^ n * 256
    shift = ap (λ (k : ℕ). q * k) (pow-suc 256 n) ∙ sym (mul_assoc q (256 ^ n) 256)

-- two words one after the other
pub to_bytes_two : (h l : ℕ) → l < 2 ^ 64 → to_bytes 16 (h * 2 ^ 64 + l) ≡ to_bytes 8 h ++ to_bytes 8 l
to_bytes_two h l hl =
    to_bytes-append 8 8 (h * 2 ^ 64 + l) ∙ ap₂ (λ (x y : List ℕ). x ++ y) (ap (to_bytes 8) (high h 64 hl)) (to_bytes_low h 8 l)

-- a store of s at `at`, and of t behind it, is a store of both
pub store_two : (d s t : List ℕ) (at m n : ℕ) → length s ≡ m → length t ≡ n → at + m ≤ length d →
    let e = take at d ++ s ++ drop (at + m) d in
    take (at + m) e ++ t ++ drop (at + m + n) e ≡ take at d ++ (s ++ t) ++ drop (at + m + n) d
store_two d s t at m n p q h =
    let len : length (take at d ++ s) ≡ at + m = length-append (take at d) s ∙ ap₂ (λ (k j : ℕ). k + j) (length-take-le at d (omega arith)) p in
    ap₂ (λ (x y : List ℕ). x ++ t ++ y)
    (take_at (take at d ++ s) (drop (at + m) d) (at + m) len)
    (sym (drop-drop n (at + m) (take at d ++ s ++ drop (at + m) d)) ∙ ap (drop n) (drop_at (take at d ++ s) (drop (at + m) d) (at + m) len) ∙ drop-drop n (at + m) d)
    ∙ ap (λ (x : List ℕ). x ++ drop (at + m + n) d) (append_assoc (take at d) s t)

-- ---- only zeros have the number zero

pub zeros_number : (n : ℕ) → from_bytes (replicate n 0) ≡ 0
unfolding from_bytes number
zeros_number zero = refl
zeros_number (suc n) = zeros_number n

zero-digit : (x q m : ℕ) → 0 < q → x * q + m ≡ 0 → x ≡ 0
zero-digit zero q m p e = refl
zero-digit (suc x) q m p e = absurd (omega (arith, suc-mul x q))

pub number_zeros : (xs : List ℕ) → from_bytes xs ≡ 0 → xs ≡ replicate (length xs) 0
unfolding from_bytes number
number_zeros [] e = refl
number_zeros (x ∷ xs) e =
    let s : x * 256 ^ length xs + number 0 xs ≡ 0 = sym (number_scale x xs) ∙ ap (λ (d : ℕ). number d xs) (sym (zero-add x)) ∙ e in
    ap₂ (λ (y : ℕ) (ys : List ℕ). y ∷ ys) (zero-digit x (256 ^ length xs) (number 0 xs) (one-le-pow (length xs) 256 (lit< tt)) s) (number_zeros xs (omega arith))

-- ---- there and back

pub from_to : (k n : ℕ) → n < 256 ^ k → from_bytes (to_bytes k n) ≡ n
unfolding from_bytes to_bytes number
from_to zero n h = omega arith
from_to (suc k) n h =
    number_snoc 0 (to_bytes k (n / 256)) (n % 256)
    ∙ ap (λ (x : ℕ). x * 256 + n % 256) (from_to k (n / 256) ((div-lt_iff_lt-mul (lit< {m = 0} {n = 256} tt)).1 (subst (λ (x : ℕ). n < x) (pow-suc 256 k) h)))
    ∙ div-add-mod' n 256

number_lt : (xs : List ℕ) → Bytes xs → number 0 xs < 256 ^ length xs
unfolding number
number_lt [] f = lit< tt
number_lt (x ∷ xs) f =
    subst (λ (n : ℕ). n < 256 ^ suc (length xs)) (sym (ap (λ (y : ℕ). number y xs) (zero-add x) ∙ number_scale x xs))
    (subst (λ (n : ℕ). x * 256 ^ length xs + number 0 xs < n) (mul_comm 256 (256 ^ length xs) ∙ sym (pow-suc 256 (length xs)))
    (digits_lt f.0 (number_lt xs f.1)))

pub from_bytes_lt : (xs : List ℕ) → Bytes xs → from_bytes xs < 256 ^ length xs
unfolding from_bytes
from_bytes_lt = number_lt

pub to_from : (xs : List ℕ) → Bytes xs → to_bytes (length xs) (from_bytes xs) ≡ xs
unfolding from_bytes number to_bytes
to_from [] f = refl
to_from (x ∷ xs) f =
    let small : number 0 xs < 256 ^ length xs = number_lt xs f.1 in
    ap (to_bytes (suc (length xs))) (ap (λ (y : ℕ). number y xs) (zero-add x) ∙ number_scale x xs)
    ∙ ap (λ (k : ℕ). to_bytes k (x * 256 ^ length xs + number 0 xs)) (sym (add-one (length xs)))
    ∙ to_bytes-append 1 (length xs) (x * 256 ^ length xs + number 0 xs)
    ∙ ap₂ (λ (l m : List ℕ). l ++ m)
    (ap (to_bytes 1) (digits_div x small) ∙ ap (λ (y : ℕ). y ∷ []) (mod-eq_of_lt f.0))
    (to_bytes_low x (length xs) (number 0 xs) ∙ to_from xs f.1)

-- a block is below 2^128
pub block_lt : (xs : List ℕ) → Bytes xs → length xs ≤ 16 → from_bytes xs < 2 ^ 128
block_lt xs f h = lt_of_lt_of_le (from_bytes_lt xs f) (pow-le-pow_right {n = 256} (lit< tt) {i = length xs} {j = 16} h)

pub bytes_to_bytes : (k n : ℕ) → Bytes (to_bytes k n)
unfolding to_bytes
bytes_to_bytes zero n = tt
bytes_to_bytes (suc k) n = bytes_append (to_bytes k (n / 256)) (n % 256 ∷ []) (bytes_to_bytes k (n / 256)) (mod-lt n (lit< tt), tt)

-- the bytes of a sum
pub to_bytes_xor : (k a b : ℕ) → to_bytes k (bit_xor a b) ≡ xor_bytes (to_bytes k a) (to_bytes k b)
unfolding to_bytes
to_bytes_xor zero a b = refl
to_bytes_xor (suc k) a b =
    ap₂ (λ (x y : ℕ). to_bytes k x ++ (y ∷ [])) (xor_shr a b 8) (xor_mod a b 8)
    ∙ ap (λ (l : List ℕ). l ++ (bit_xor (a % 256) (b % 256) ∷ [])) (to_bytes_xor k (a / 256) (b / 256))
    ∙ sym (xor_append (to_bytes k (a / 256)) (a % 256 ∷ []) (to_bytes k (b / 256)) (b % 256 ∷ []) (length-to_bytes k (a / 256) ∙ sym (length-to_bytes k (b / 256))))
