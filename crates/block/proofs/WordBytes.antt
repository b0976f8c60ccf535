-- Eight bytes as a word, the first the most significant. Assumes nothing.
use Rattle.std.proofs.Common.{◌≡◌, ℕ, zero, suc, ◌/◌, ◌%◌, ◌^◌, List, [], ◌∷◌, length, refl, sym, ap, ◌∙◌, ap₂, add-one, div-one, arith}
use Rattle.std.specs.Int.{w64, byte_at, bytes_high_first, from_be_bytes, to_be_bytes}
use Rattle.block.specs.Bytes.{from_bytes, number, to_bytes}
use Rattle.block.proofs.Numbers.{to_bytes-append}

pub word_of : (l : List ℕ) → length l ≡ 8 → from_be_bytes w64 l ≡ from_bytes l
unfolding from_bytes number
word_of [] e = absurd (omega arith)
word_of (a ∷ []) e = absurd (omega arith)
word_of (a ∷ b ∷ []) e = absurd (omega arith)
word_of (a ∷ b ∷ c ∷ []) e = absurd (omega arith)
word_of (a ∷ b ∷ c ∷ d ∷ []) e = absurd (omega arith)
word_of (a ∷ b ∷ c ∷ d ∷ f ∷ []) e = absurd (omega arith)
word_of (a ∷ b ∷ c ∷ d ∷ f ∷ g ∷ []) e = absurd (omega arith)
word_of (a ∷ b ∷ c ∷ d ∷ f ∷ g ∷ h ∷ []) e = absurd (omega arith)
word_of (a ∷ b ∷ c ∷ d ∷ f ∷ g ∷ h ∷ i ∷ []) e = omega arith
word_of (a ∷ b ∷ c ∷ d ∷ f ∷ g ∷ h ∷ i ∷ j ∷ l) e = absurd (omega arith)

first_byte : (k n : ℕ) → byte_at k n ≡ n / 256 ^ k % 256
first_byte zero n = ap (λ (x : ℕ). x % 256) (sym (div-one n))
first_byte (suc k) n = refl

high_first : (k n : ℕ) → bytes_high_first k n ≡ to_bytes k n
unfolding to_bytes
high_first zero n = refl
high_first (suc k) n =
    ap₂ {C = List ℕ} (λ b l. b ∷ l) (first_byte k n) (high_first k n)
    ∙ sym (to_bytes-append 1 k n)
    ∙ ap (λ (j : ℕ). to_bytes j n) (add-one k)

pub bytes_of_word : (n : ℕ) → to_be_bytes w64 n ≡ to_bytes 8 n
bytes_of_word n = high_first 8 n
