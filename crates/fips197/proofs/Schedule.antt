-- The key's expansion, which is filled in from the front, a word at a time. Assumes nothing.
use mathlib.Core.Path.{◌≡◌, sym, ap, ap₂, ◌∙◌}
use mathlib.Core.List.{List, [], ◌∷◌, ◌++◌}
use Prim.Native.Nat.{ℕ, zero, suc, ◌+◌, ◌-◌, ◌*◌, ◌≤◌, ◌<◌}
use native.Mathlib.Nat.{add-zero}
use native.Mathlib.Numerals.{add-one}
use native.Mathlib.Omega.{arith}
use lib.ListN.{length, get_or, take, drop, set, length-append}
use lib.Seq.{take-suc-set, take_all, take_at, get_or-take}
use Rattle.block.specs.Bytes.{from_bytes, part}
use Rattle.fips197.specs.Aes.{◌⊕◌, rounds_of, transform, next_word, key_words, extend_by, expand}
use Rattle.fips197.proofs.Bytes.{length-tabulate, tabulate_at}

-- ---- the key's own words

pub length_key : (nk : ℕ) (key : List ℕ) → length (key_words nk key) ≡ nk
unfolding key_words
length_key nk key = length-tabulate nk (λ i. from_bytes (part 4 i key))

pub key_at : (nk : ℕ) (key : List ℕ) (i : ℕ) → i < nk → from_bytes (part 4 i key) ≡ get_or (key_words nk key) i 0
unfolding key_words
key_at nk key i h = sym (tabulate_at nk (λ j. from_bytes (part 4 j key)) i h)

pub key_loaded : (nk i : ℕ) (key d w : List ℕ) → i ≡ nk → w ≡ take i (key_words nk key) ++ drop i d → take nk w ≡ key_words nk key
key_loaded nk i key d w e t =
    let ks = key_words nk key in
    let long : length ks ≡ nk = length_key nk key in
    ap (take nk) (t ∙ ap (λ (l : List ℕ). l ++ drop i d) (take_all i ks (omega arith))) ∙ take_at ks (drop i d) nk long

-- ---- the words behind them

pub extend_start : (nk : ℕ) (ws : List ℕ) → ws ≡ extend_by nk ws (nk - nk)
unfolding extend_by
extend_start nk ws = let e : nk - nk ≡ 0 = omega arith in sym (ap (extend_by nk ws) e)

length_extend : (nk : ℕ) (ws : List ℕ) (n : ℕ) → length (extend_by nk ws n) ≡ length ws + n
unfolding extend_by
length_extend nk ws zero = sym (add-zero (length ws))
length_extend nk ws (suc n) = simp (length-append, length_extend nk ws n) (omega arith)

pub length-expand : (nk nr : ℕ) (key : List ℕ) → nk ≤ 4 * (nr + 1) → length (expand nk nr key) ≡ (nr + 1) * 4
unfolding expand
length-expand nk nr key h =
    let more : ℕ = 4 * (nr + 1) - nk in
    omega (arith, length_extend nk (key_words nk key) more, length_key nk key)

pub rounds-expand : (nk nr : ℕ) (key : List ℕ) → nk ≤ 4 * (nr + 1) → rounds_of (expand nk nr key) ≡ nr
rounds-expand nk nr key h = omega (arith, length-expand nk nr key h)

-- one word more
pub extend_turn : (nk i : ℕ) (ws w : List ℕ) (x : ℕ) → 0 < nk → nk ≤ i → i < length w → take i w ≡ extend_by nk ws (i - nk)
    → x ≡ transform nk i (get_or w (i - 1) 0)
    → take (i + 1) (set w i (get_or w (i - nk) 0 ⊕ x)) ≡ extend_by nk ws (i + 1 - nk)
unfolding next_word extend_by
extend_turn nk i ws w x pos le lt e t =
    let n : i + 1 - nk ≡ suc (i - nk) = omega arith in
    let k : i ≡ nk + (i - nk) = omega arith in
    let v = get_or w (i - nk) 0 ⊕ x in
    ap (λ (j : ℕ). take j (set w i v)) (add-one i)
    ∙ take-suc-set w i v lt
    ∙ ap (λ (y : ℕ). take i w ++ (y ∷ []))
    (ap₂ ◌⊕◌ (sym (get_or-take i w (i - nk) 0 (omega arith))) (t ∙ ap (transform nk i) (sym (get_or-take i w (i - 1) 0 (omega arith)))))
    ∙ ap₂ (λ (u : List ℕ) (j : ℕ). u ++ (next_word nk u j ∷ [])) e k
    ∙ ap (extend_by nk ws) (sym n)

pub extend_end : (nk i n : ℕ) (ws w : List ℕ) → i ≡ n → length w ≡ n → take i w ≡ extend_by nk ws (i - nk) → w ≡ extend_by nk ws (n - nk)
extend_end nk i n ws w e l t = sym (take_all i w (omega arith)) ∙ t ∙ ap (λ (j : ℕ). extend_by nk ws (j - nk)) e
