-- What is sealed with a key prepared once is what the calls' definitions have under that key. Assumes nothing.
use mathlib.Core.Path.{◌≡◌, sym, ap, ap₂, ◌∙◌}
use mathlib.Core.List.{List, [], ◌++◌, append-nil}
use Prim.Native.Nat.{ℕ, ◌+◌}
use native.Mathlib.Nat.{le_of_eq}
use lib.ListN.{length, take, drop, drop_of_length-le}
use Rattle.block.specs.Bytes.{to_bytes}
use Rattle.fips197.specs.Aes.{cipher_number}
use Rattle.hash.specs.Powers.{key_of}
use Rattle.mode.specs.Prepared.{scheme_of}
use Rattle.mode.specs.Scheme.{Scheme, dcm, scheme}
use Rattle.mode.specs.Sealing.{Key, Triple, tweak, tag_block, sides, sealed_by, sealed, triple}
use Rattle.verdict.specs.Judging.{verdict_outcome, judged_by}
use Rattle.verdict.specs.Verdict.{judge}

-- the mode that is lent is the one prepared, and that is the key's
pub sealed_under : (k : Key) {lent prepared : Scheme} {T : ℕ} (volume address : ℕ) (P : List ℕ) {v : Triple} → lent ≡ prepared → prepared ≡ scheme k → T ≡ tweak volume address
    → v ≡ lent.sealed T P → v ≡ sealed k volume address P
unfolding sealed scheme dcm
sealed_under k volume address P el ek et ev = ev ∙ ap₂ (λ (S : Scheme) (T : ℕ). S.sealed T P) (el ∙ ek) et

pub judged_is : (k : Key) {lent prepared : Scheme} {T : ℕ} (volume address : ℕ) (t : Triple) (out : List ℕ) {a : ℕ × List ℕ} → lent ≡ prepared → prepared ≡ scheme k → T ≡ tweak volume address
    → judged_by lent T t out ≡ a → verdict_outcome (judge (scheme k) (tweak volume address) t) out ≡ a
judged_is k volume address t out el ek et ea = sym (ap₂ (λ (S : Scheme) (T : ℕ). verdict_outcome (judge S T t) out) (el ∙ ek) et) ∙ ea

-- three places that are written make the sealed sector
pub sealed_is : (w p : List ℕ) (T : ℕ) (P old : List ℕ) → length old ≡ 16 → (g : ℕ) → g ≡ tag_block (cipher_number w) (key_of p) T P
    → {l x y : List ℕ} → l ≡ (sides (cipher_number w) g P).local → y ≡ take 0 old ++ to_bytes 16 g ++ drop (0 + 16) old → x ≡ (sides (cipher_number w) g P).remote
    → triple l y x ≡ (scheme_of w p).sealed T P
unfolding dcm sealed_by sides
sealed_is w p T P old size g eg el ey ex =
    let none : drop (0 + 16) old ≡ [] = drop_of_length-le old (le_of_eq size) in
    let e : take 0 old ++ to_bytes 16 g ++ drop (0 + 16) old ≡ to_bytes 16 g = ap (λ (r : List ℕ). to_bytes 16 g ++ r) none ∙ append-nil (to_bytes 16 g) in
    (λ i. triple (el i) ((ey ∙ e) i) (ex i)) ∙ ap (λ (n : ℕ). sides (cipher_number w) n P) eg
