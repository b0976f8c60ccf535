-- What is written over does not show: parts of an image, places of a sector, and bits of a map. Assumes nothing.
use mathlib.Core.Path.{◌≡◌, sym, ap, subst, ◌∙◌}
use mathlib.Core.Bool.{Bool}
use mathlib.Core.List.{List, [], ◌∷◌}
use Prim.Native.Nat.{ℕ, ◌*◌, ◌/◌, ◌<◌}
use native.Mathlib.Decide.{ℕ_discrete}
use lib.ListN.{length}
use Rattle.bits.specs.Bits.{Words, bit, mark}
use Rattle.bits.proofs.Bits.{bits_facts}
use Rattle.block.specs.Bytes.{part, patch}
use Rattle.block.proofs.Parts.{length-patch, part-patch, part_other, parts_all}
use Rattle.mode.specs.Sealing.{Triple}
use Rattle.mode.specs.Scheme.{Place, local, tag, remote, wide}
use Rattle.history.specs.Power.{Images}
use Rattle.history.specs.Volume.{write, write_all}

-- a part of an image
module _ (w n i : ℕ) (lt : i < n) (image : List ℕ) (long : length image ≡ n * w) (b x : List ℕ) (lb : length b ≡ w) (lx : length x ≡ w) where
  abbrev under : List ℕ
  under = patch w i x image

  long_under : length under ≡ n * w
  long_under = length-patch w n i lt image long x lx

  patch-patch : patch w i b under ≡ patch w i b image
  patch-patch =
      parts_all w n (patch w i b under) (patch w i b image)
      (length-patch w n i lt under long_under b lb) (length-patch w n i lt image long b lb) (λ j below. go j (ℕ_discrete j i))
    where
      go : (j : ℕ) → Dec (j ≡ i) → part w j (patch w i b under) ≡ part w j (patch w i b image)
      go j (yes e) =
          ap (λ (k : ℕ). part w k (patch w i b under)) e ∙ part-patch w n i lt under long_under b lb
          ∙ sym (ap (λ (k : ℕ). part w k (patch w i b image)) e ∙ part-patch w n i lt image long b lb)
      go j (no e) =
          part_other w n i lt under long_under b lb j e ∙ part_other w n i lt image long x lx j e
          ∙ sym (part_other w n i lt image long b lb j e)

-- a place of sector i, before all three are written
pub all_written : (s n i : ℕ) → i < n → (v : Triple) → Images s n v → (b : Place → List ℕ) → ((p : Place) → length (b p) ≡ wide s p) → (d : Place) (x : List ℕ) → length x ≡ wide s d
    → write_all s i b (local ∷ tag ∷ remote ∷ []) (write s i d x v) ≡ write_all s i b (local ∷ tag ∷ remote ∷ []) v
all_written s n i lt v I b lb local x lx =
    ap {B = Triple} (λ (l : List ℕ). record { local = l; tag = patch 16 i (b tag) v.tag; remote = patch s i (b remote) v.remote })
    (patch-patch s n i lt v.local (I.images local).long (b local) x (lb local) lx)
all_written s n i lt v I b lb tag x lx =
    ap {B = Triple} (λ (l : List ℕ). record { local = patch s i (b local) v.local; tag = l; remote = patch s i (b remote) v.remote })
    (patch-patch 16 n i lt v.tag (I.images tag).long (b tag) x (lb tag) lx)
all_written s n i lt v I b lb remote x lx =
    ap {B = Triple} (λ (l : List ℕ). record { local = patch s i (b local) v.local; tag = patch 16 i (b tag) v.tag; remote = l })
    (patch-patch s n i lt v.remote (I.images remote).long (b remote) x (lb remote) lx)

-- a bit
pub mark-mark : (i : ℕ) (b c : Bool) (m : List ℕ) → Words m → i / 64 < length m → mark i b (mark i c m) ≡ mark i b m
mark-mark i b c m w lt =
    bits_facts.by_bits (mark i b (mark i c m)) (mark i b m) (bits_facts.words_stay i b (mark i c m) (bits_facts.words_stay i c m w)) (bits_facts.words_stay i b m w)
    (bits_facts.length_stays i b (mark i c m) ∙ bits_facts.length_stays i c m ∙ sym (bits_facts.length_stays i b m)) (λ j. go j (ℕ_discrete j i))
  where
    go : (j : ℕ) → Dec (j ≡ i) → bit j (mark i b (mark i c m)) ≡ bit j (mark i b m)
    go j (yes e) =
        ap (λ (k : ℕ). bit k (mark i b (mark i c m))) e ∙ bits_facts.marked i b (mark i c m) (subst (λ (k : ℕ). i / 64 < k) (sym (bits_facts.length_stays i c m)) lt)
        ∙ sym (ap (λ (k : ℕ). bit k (mark i b m)) e ∙ bits_facts.marked i b m lt)
    go j (no e) = bits_facts.others_stay j i b (mark i c m) e ∙ bits_facts.others_stay j i c m e ∙ sym (bits_facts.others_stay j i b m e)
