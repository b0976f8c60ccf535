-- Laws of the digits of bytes. Assumes nothing.
use mathlib.Core.Path.{◌≡◌, refl, sym, ap, ◌∙◌}
use mathlib.Core.List.{List, [], ◌∷◌, ◌++◌}
use Prim.Native.Nat.{ℕ, zero, suc, ◌+◌, ◌*◌, ◌/◌, ◌%◌, ◌≤◌, ◌<◌}
use native.Mathlib.Omega.{arith}
use lib.ListN.{length, take, drop, get_or, set, length-set}
use Rattle.block.proofs.Lists.{fill_turn, fill_end}
use Rattle.line.specs.Line.{digit, encode}

pub length-encode : (l : List ℕ) → length (encode l) ≡ 2 * length l
unfolding encode
length-encode [] = refl
length-encode (b ∷ bs) = let ih = length-encode bs in omega arith

encode_high : (l : List ℕ) (i : ℕ) → i < length l → get_or (encode l) (2 * i) 0 ≡ digit (get_or l i 0 / 16)
unfolding encode
encode_high [] i h = absurd (omega arith)
encode_high (b ∷ bs) zero h = refl
encode_high (b ∷ bs) (suc i) h =
    let p : 2 * suc i ≡ suc (suc (2 * i)) = omega arith in
    ap (λ (k : ℕ). get_or (encode (b ∷ bs)) k 0) p ∙ encode_high bs i (omega arith)

encode_low : (l : List ℕ) (i : ℕ) → i < length l → get_or (encode l) (2 * i + 1) 0 ≡ digit (get_or l i 0 % 16)
unfolding encode
encode_low [] i h = absurd (omega arith)
encode_low (b ∷ bs) zero h = refl
encode_low (b ∷ bs) (suc i) h =
    let p : 2 * suc i + 1 ≡ suc (suc (2 * i + 1)) = omega arith in
    ap (λ (k : ℕ). get_or (encode (b ∷ bs)) k 0) p ∙ encode_low bs i (omega arith)

-- the loop: in o stand the digits of the first i bytes, and the rest of d behind
pub record Encoding (bytes d o : List ℕ) (i : ℕ) : Type 0 where
  pub within : i ≤ length bytes
  pub long : length o ≡ length d
  pub digits : o ≡ take (2 * i) (encode bytes) ++ drop (2 * i) d

pub encoding_start : (bytes d : List ℕ) → Encoding bytes d d 0
encoding_start bytes d = record { within = omega arith; long = refl; digits = refl }

module _ (bytes d o : List ℕ) (i : ℕ) (long : length d ≡ 2 * length bytes) (I : Encoding bytes d o i) where
  pub encoding_turn : (x y : ℕ) → i < length bytes → x ≡ digit (get_or bytes i 0 / 16) → y ≡ digit (get_or bytes i 0 % 16)
      → Encoding bytes d (set (set o (2 * i) x) (2 * i + 1) y) (i + 1)
  encoding_turn x y lt ex ey =
      let p : 2 * i + 1 + 1 ≡ 2 * (i + 1) = omega arith in
      record {
        within = omega arith;
        long = simp length-set I.long;
        digits = ap (λ (l : List ℕ). set (set l (2 * i) x) (2 * i + 1) y) I.digits
            ∙ ap (λ (l : List ℕ). set l (2 * i + 1) y)
            (fill_turn (encode bytes) d (2 * i) x (omega (arith, length-encode bytes)) (omega arith) (ex ∙ sym (encode_high bytes i lt)))
            ∙ fill_turn (encode bytes) d (2 * i + 1) y (omega (arith, length-encode bytes)) (omega arith) (ey ∙ sym (encode_low bytes i lt))
            ∙ ap (λ (k : ℕ). take k (encode bytes) ++ drop k d) p;
      }

  pub encoding_end : length bytes ≤ i → o ≡ encode bytes
  encoding_end h = I.digits ∙ fill_end (encode bytes) d (2 * i) (omega (arith, length-encode bytes)) (omega arith)

-- the loop but for its turn
pub ruleset encodings = (encoding_start, encoding_end)
