-- The images after the code's writes are those of the specification. Assumes nothing.
use mathlib.Core.Path.{◌≡◌, ap, sym, ◌∙◌}
use mathlib.Core.List.{List}
use Prim.Native.Nat.{ℕ}
use Rattle.block.specs.Bytes.{patch}
use Rattle.fips197.specs.Aes.{cipher_number}
use Rattle.hash.specs.Powers.{key_of}
use Rattle.mode.specs.Scheme.{Place, local, tag, remote, on, wide}
use Rattle.mode.specs.Sealing.{tag_block, triple}
use Rattle.answers.specs.declared.Place as D
use Rattle.answers.specs.declared.Place.TheVariants as N
use Rattle.answers.specs.Answers.{place_named}
use Rattle.mode.specs.Prepared.{scheme_of}
use Rattle.history.specs.Volume.{store}
use Rattle.images.proofs.Sealed.{coded, coded_sealed}
use Rattle.stages.specs.Inner.{one, all_places, seal_into}

-- k is the tag of P
module _ (w p : List ℕ) (T s i : ℕ) (P l g r : List ℕ) {k : ℕ} (ek : k ≡ tag_block (cipher_number w) (key_of p) T P) where
  -- x is the image of a place after the code's write there
  abbrev Written : Place → List ℕ → Type 0
  Written q x = x ≡ patch (wide s q) i (coded w P k q) (on (triple l g r) q)

  as_sealed : (q : Place) {x : List ℕ} → Written q x → x ≡ patch (wide s q) i (on ((scheme_of w p).sealed T P) q) (on (triple l g r) q)
  as_sealed q e = e ∙ ap (λ (b : List ℕ). patch (wide s q) i b (on (triple l g r) q)) (coded_sealed w p T P ek q)

  pub one_written : (q : Place) {x : List ℕ} → Written q x → store q x (triple l g r) ≡ seal_into (scheme_of w p) T s i P (one q) (triple l g r)
  unfolding seal_into
  one_written q e = ap (λ (x : List ℕ). store q x (triple l g r)) (as_sealed q e)

  pub all_written : {x y z : List ℕ} → Written local x → Written tag y → Written remote z
      → triple x y z ≡ seal_into (scheme_of w p) T s i P all_places (triple l g r)
  unfolding seal_into
  all_written el eg er = λ j. triple (as_sealed local el j) (as_sealed tag eg j) (as_sealed remote er j)

  -- the code's enum d names the place
  named : {d q : D.Place} → d ≡ q → {x : List ℕ} → Written (place_named q) x
      → store (place_named q) x (triple l g r) ≡ seal_into (scheme_of w p) T s i P (one (place_named d)) (triple l g r)
  named {q = q} d e = one_written (place_named q) e ∙ ap (λ (y : D.Place). seal_into (scheme_of w p) T s i P (one (place_named y)) (triple l g r)) (sym d)

  pub local_written : {d : D.Place} → d ≡ N.Local → {x : List ℕ} → Written local x → triple x g r ≡ seal_into (scheme_of w p) T s i P (one (place_named d)) (triple l g r)
  local_written d e = named d e

  pub tag_written : {d : D.Place} → d ≡ N.Tag → {x : List ℕ} → Written tag x → triple l x r ≡ seal_into (scheme_of w p) T s i P (one (place_named d)) (triple l g r)
  tag_written d e = named d e

  pub remote_written : {d : D.Place} → d ≡ N.Remote → {x : List ℕ} → Written remote x → triple l g x ≡ seal_into (scheme_of w p) T s i P (one (place_named d)) (triple l g r)
  remote_written d e = named d e
