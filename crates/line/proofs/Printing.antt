-- What is written for a number and a plaintext. Assumes nothing.
use mathlib.Core.Path.{◌≡◌, refl, sym, ap, ap₂, ◌∙◌}
use mathlib.Core.List.{List, [], ◌∷◌, ◌++◌}
use Prim.Native.Nat.{ℕ, suc, ◌+◌, ◌*◌, ◌-◌, ◌/◌, ◌%◌, ◌≤◌}
use native.Mathlib.Omega.{arith}
use lib.ListN.{length, drop, get_or, set, length-set, length-append}
use lib.Seq.{drop-cons, set_at, append_snoc}
use borrow.Rule.Slice.PartMut.{put_mid, same_len_mid, mid_len}
use Rattle.line.specs.Line.{digit, encode, printed}
use Rattle.line.proofs.Digits.{length-encode}

pub length-printed : (n : ℕ) (P : List ℕ) → length (printed n P) ≡ 2 * length P + 3
unfolding printed
length-printed n P = omega (arith, length-append (encode (n ∷ P)) (10 ∷ []), length-encode (n ∷ P))

-- the first two digits x and y, the plaintext's digits lent into the middle, and the line feed
module _ (n : ℕ) (P e : List ℕ) (x y : ℕ) (long : e ≡ encode P) where
  abbrev body : List ℕ → List ℕ
  body o = put_mid 2 (2 * length P + 2 - 2) (set (set o 0 x) 1 y) e

  pub body_length : (o : List ℕ) → 2 * length P + 3 ≤ length o → length (body o) ≡ length o
  body_length o h =
      let l : length (set (set o 0 x) 1 y) ≡ length o = simp length-set refl in
      same_len_mid 2 (2 * length P + 2 - 2) (set (set o 0 x) 1 y) e
      (omega (arith, ap length long, length-encode P, mid_len 2 (2 * length P + 2) (set (set o 0 x) 1 y) (omega arith)))
      ∙ l

  pub body_printed : (o : List ℕ) → 2 * length P + 3 ≤ length o → x ≡ digit (n / 16) → y ≡ digit (n % 16)
      → set (body o) (2 * length P + 2) 10 ≡ printed n P ++ drop (2 * length P + 2 + 1) o
  unfolding printed encode
  body_printed [] h ex ey = absurd (omega arith)
  body_printed (a ∷ []) h ex ey = absurd (omega arith)
  body_printed (a ∷ b ∷ r) h ex ey =
      let k : ℕ = 2 * length P in
      let p : k + 2 - 2 ≡ k = omega arith in
      let q : k + 2 ≡ suc (suc k) = omega arith in
      let t : suc (suc (suc k)) ≡ k + 2 + 1 = omega arith in
      ap₂ (λ (i j : ℕ). set (x ∷ y ∷ (e ++ drop i r)) j 10) p q
      ∙ ap (λ (l : List ℕ). x ∷ y ∷ set (e ++ l) k 10) (drop-cons r k 0 (omega arith))
      ∙ ap (λ (l : List ℕ). x ∷ y ∷ l) (set_at e (get_or r k 0) (drop (suc k) r) 10 k (ap length long ∙ length-encode P))
      ∙ (λ i. ex i ∷ ey i ∷ (long i ++ 10 ∷ drop (suc k) r))
      ∙ ap (λ (l : List ℕ). digit (n / 16) ∷ digit (n % 16) ∷ l) (sym (append_snoc (encode P) 10 (drop (suc k) r)))
      ∙ ap (λ (i : ℕ). printed n P ++ drop i (a ∷ b ∷ r)) t
