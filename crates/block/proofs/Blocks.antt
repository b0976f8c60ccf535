-- Laws of bytes as blocks of sixteen. Assumes nothing.
use Rattle.std.proofs.Common.{◌≡◌, ℕ, zero, suc, ◌+◌, ◌-◌, ◌*◌, ◌/◌, ◌^◌, ◌<◌, ◌≤◌, List, [], ◌∷◌, ◌++◌, length, get_or, take, drop, sym, refl, ap, ◌∙◌, ap₂, le_of_suc-le-suc, not-suc-le-zero, suc-add, zero-add, arith, length-append, take-take, drop-drop, take_at, drop_at}
use native.Mathlib.Nat.{suc-sub-suc, sub-zero}
use lib.Seq.{take-nil}
use Rattle.block.specs.Bytes.{from_bytes, to_bytes, blocks, blocks_of}
use Rattle.block.proofs.Numbers.{length-to_bytes, from_to}

pub length-blocks : (n : ℕ) (xs : List ℕ) → length (blocks n xs) ≡ n
unfolding blocks
length-blocks zero xs = refl
length-blocks (suc n) xs = ap suc (length-blocks n (drop 16 xs))

pub drop-blocks : (j n : ℕ) (xs : List ℕ) → j ≤ n → drop j (blocks n xs) ≡ blocks (n - j) (drop (16 * j) xs)
unfolding blocks
drop-blocks zero n xs h = ap (λ (k : ℕ). blocks k xs) (sym (sub-zero n))
drop-blocks (suc j) zero xs h = absurd (not-suc-le-zero h)
drop-blocks (suc j) (suc n) xs h =
    let e : 16 + 16 * j ≡ 16 * suc j = omega arith in
    drop-blocks j n (drop 16 xs) (le_of_suc-le-suc h)
    ∙ ap₂ (λ (k : ℕ) (l : List ℕ). blocks k l) (sym (suc-sub-suc n j)) (drop-drop (16 * j) 16 xs ∙ ap (λ (k : ℕ). drop k xs) e)

pub get_or-blocks : (j n : ℕ) (xs : List ℕ) → j < n → get_or (blocks n xs) j 0 ≡ from_bytes (take 16 (drop (16 * j) xs))
unfolding blocks
get_or-blocks j zero xs h = absurd (not-suc-le-zero h)
get_or-blocks zero (suc n) xs h = refl
get_or-blocks (suc j) (suc n) xs h =
    let e : 16 + 16 * j ≡ 16 * suc j = omega arith in
    get_or-blocks j n (drop 16 xs) (le_of_suc-le-suc h)
    ∙ ap (λ (l : List ℕ). from_bytes (take 16 l)) (drop-drop (16 * j) 16 xs ∙ ap (λ (k : ℕ). drop k xs) e)

drop-take : (m n : ℕ) (l : List ℕ) → drop m (take (m + n) l) ≡ take n (drop m l)
drop-take zero n l = ap (λ (k : ℕ). take k l) (zero-add n)
drop-take (suc m) n [] = ap (λ (l : List ℕ). drop (suc m) l) (take-nil (suc m + n)) ∙ sym (take-nil n)
drop-take (suc m) n (x ∷ l) = ap (λ (k : ℕ). drop (suc m) (take k (x ∷ l))) (suc-add m n) ∙ drop-take m n l

pub take-blocks : (j n : ℕ) (xs : List ℕ) → j ≤ n → take j (blocks n xs) ≡ blocks j (take (16 * j) xs)
unfolding blocks
take-blocks zero n xs h = refl
take-blocks (suc j) zero xs h = absurd (not-suc-le-zero h)
take-blocks (suc j) (suc n) xs h =
    let e : 16 + 16 * j ≡ 16 * suc j = omega arith in
    ap₂ (λ (x : ℕ) (l : List ℕ). x ∷ l)
    (ap from_bytes (sym (take-take 16 (16 * suc j) xs (omega arith))))
    (take-blocks j n (drop 16 xs) (le_of_suc-le-suc h) ∙ ap (blocks j) (sym (drop-take 16 (16 * j) xs) ∙ ap (λ (k : ℕ). drop 16 (take k xs)) e))

-- a block in front
pub blocks_of-cons : (x : ℕ) (l : List ℕ) → x < 2 ^ 128 → blocks_of (to_bytes 16 x ++ l) ≡ x ∷ blocks_of l
unfolding blocks_of blocks
blocks_of-cons x l h =
    let e : length (to_bytes 16 x ++ l) / 16 ≡ suc (length l / 16) = omega (arith, length-append (to_bytes 16 x) l, length-to_bytes 16 x) in
    ap (λ (n : ℕ). blocks n (to_bytes 16 x ++ l)) e
    ∙ ap₂ (λ (y : List ℕ) (r : List ℕ). from_bytes y ∷ blocks (length l / 16) r)
    (take_at (to_bytes 16 x) l 16 (length-to_bytes 16 x)) (drop_at (to_bytes 16 x) l 16 (length-to_bytes 16 x))
    ∙ ap (λ (y : ℕ). y ∷ blocks (length l / 16) l) (from_to 16 x h)
