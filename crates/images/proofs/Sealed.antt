-- What the code tests and writes with a prepared key, in the terms of the specification. Assumes nothing.
use mathlib.Core.Path.{◌≡◌, ap, ◌∙◌}
use mathlib.Core.Bool.{Bool}
use mathlib.Core.List.{List}
use Prim.Native.Nat.{ℕ}
use Rattle.block.specs.Bytes.{to_bytes, same}
use Rattle.fips197.specs.Aes.{cipher_number}
use Rattle.hash.specs.Powers.{key_of}
use Rattle.mode.specs.declared.Direction.TheVariants.{SealLocal, SealRemote}
use Rattle.mode.specs.Scheme.{Place, local, tag, remote, on, dcm}
use Rattle.mode.specs.Sealing.{Triple, tag_block, local_block, remote_block, sides, sealed_by}
use Rattle.mode.specs.Transforms.{transformed_by}
use Rattle.mode.specs.Prepared.{scheme_of}
use Rattle.verdict.specs.Verdict.{fits}

-- what the code works out for a place, where k is the tag of P
abbrev pub coded : List ℕ → List ℕ → ℕ → Place → List ℕ
coded w P k local = transformed_by SealLocal w k P
coded w P k tag = to_bytes 16 k
coded w P k remote = transformed_by SealRemote w k P

module _ (w p : List ℕ) (T : ℕ) (P : List ℕ) {k : ℕ} (ek : k ≡ tag_block (cipher_number w) (key_of p) T P) where
  pub coded_sealed : (q : Place) → coded w P k q ≡ on ((scheme_of w p).sealed T P) q
  unfolding dcm sealed_by sides local_block remote_block
  coded_sealed local = ap (λ (n : ℕ). transformed_by SealLocal w n P) ek
  coded_sealed tag = ap (to_bytes 16) ek
  coded_sealed remote = ap (λ (n : ℕ). transformed_by SealRemote w n P) ek

  -- comparing with it is testing whether P fits
  pub coded_fits : (t : Triple) (q : Place) {x : Bool} → x ≡ same (on t q) (coded w P k q) → x ≡ fits (scheme_of w p) T t q P
  unfolding fits
  coded_fits t q e = e ∙ ap (same (on t q)) (coded_sealed q)
