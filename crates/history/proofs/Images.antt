-- Three images and their sectors, and what a call that is not refused leaves of them. Assumes nothing but the laws of the sealing.
use mathlib.Core.Path.{◌≡◌, refl, sym, ◌∙◌, ap, subst}
use mathlib.Core.Logic.{◌⊎◌, inl, inr}
use mathlib.Core.List.{List, [], ◌∷◌}
use mathlib.Core.Option.{Option, none, some}
use Prim.Native.Nat.{ℕ, ◌<◌, ◌*◌}
use lib.ListN.{length}
use Rattle.block.specs.Bytes.{Bytes, Plain, part, patch}
use Rattle.mode.specs.Sealing.{Triple}
use Rattle.mode.specs.Scheme.{Place, local, tag, remote, on, wide, Sector, Lawful, Sound}
use Rattle.verdict.specs.Verdict.{Fits}
use Rattle.answers.specs.Rules.{Args}
use Rattle.history.specs.Volume.{sector_of, store, write, write_all, Call, first, writes, unless, sector, sealing, refusal, landed, after, Schemes}
use Rattle.history.specs.Machine.{Held, step}
use Rattle.history.specs.Power.{Fate, finished, cut, told, Images, LentBytes, CutOf, leaves_call}
use Rattle.history.specs.HistoryFrom.{Agree, AnyBytes}
use Rattle.block.proofs.Parts.{bytes_part, bytes_patch, length_part, length-patch, part-patch, part_other}
use Rattle.verdict.proofs.JudgeExact.{same_place}
use Rattle.answers.proofs.Passing.{Common}
use Rattle.history.proofs.Refusals.{Passed, refusal_none, accepted_passed, accepted_images, sized}
use Rattle.history.proofs.Sector.{on_store, on_store_other, lands, store_all, sector_after, AllPlain, writes_plain, keeps}

-- ---- writing to a sector

pub any_bytes : (s n : ℕ) (v : Triple) → Images s n v → AnyBytes v
any_bytes s n v I p = (I.images p).bytes

-- a write puts bytes into an image of bytes
pub bytes_write : (s i : ℕ) (p : Place) (b : List ℕ) (v : Triple) → AnyBytes v → Bytes b → AnyBytes (write s i p b v)
bytes_write s i p b v h g q = go (same_place q p)
  where
    go : (q ≡ p) ⊎ (q ≡ p → ⊥) → Bytes (on (write s i p b v) q)
    go (inl e) =
        subst (λ (r : Place). Bytes (on (write s i p b v) r)) (sym e)
        (subst Bytes (sym (on_store p (patch (wide s p) i b (on v p)) v)) (bytes_patch (wide s p) i (on v p) b (h p) g))
    go (inr n) = subst Bytes (sym (on_store_other p q (patch (wide s p) i b (on v p)) v n)) (h q)

module _ (s n i : ℕ) (lt : i < n) where
  pub sector_images : (v : Triple) → Images s n v → Sector s (sector_of s i v)
  sector_images v I = record { places = go }
    where
      go : (p : Place) → Plain (wide s p) (on (sector_of s i v) p)
      go local = record { long = length_part s n i lt v.local (I.images local).long; bytes = bytes_part s i v.local (I.images local).bytes }
      go tag = record { long = length_part 16 n i lt v.tag (I.images tag).long; bytes = bytes_part 16 i v.tag (I.images tag).bytes }
      go remote = record { long = length_part s n i lt v.remote (I.images remote).long; bytes = bytes_part s i v.remote (I.images remote).bytes }

  module _ (p : Place) (b : List ℕ) (h : Plain (wide s p) b) (v : Triple) (I : Images s n v) where
    pub images_write : Images s n (write s i p b v)
    images_write = record { images = λ q. record { long = go q (same_place q p); bytes = bytes_write s i p b v (any_bytes s n v I) h.bytes q } }
      where
        go : (q : Place) → (q ≡ p) ⊎ (q ≡ p → ⊥) → length (on (write s i p b v) q) ≡ n * wide s q
        go q (inl e) =
            subst (λ (r : Place). length (on (write s i p b v) r) ≡ n * wide s r) (sym e)
            (ap length (on_store p (patch (wide s p) i b (on v p)) v) ∙ length-patch (wide s p) n i lt (on v p) (I.images p).long b h.long)
        go q (inr e) = ap length (on_store_other p q (patch (wide s p) i b (on v p)) v e) ∙ (I.images q).long

  pub sector-write : (p : Place) (b : List ℕ) → Plain (wide s p) b → (v : Triple) → Images s n v → sector_of s i (write s i p b v) ≡ store p b (sector_of s i v)
  sector-write local b h v I = ap {B = Triple} (λ (l : List ℕ). record { local = l; tag = part 16 i v.tag; remote = part s i v.remote }) (part-patch s n i lt v.local (I.images local).long b h.long)
  sector-write tag b h v I = ap {B = Triple} (λ (l : List ℕ). record { local = part s i v.local; tag = l; remote = part s i v.remote }) (part-patch 16 n i lt v.tag (I.images tag).long b h.long)
  sector-write remote b h v I = ap {B = Triple} (λ (l : List ℕ). record { local = part s i v.local; tag = part 16 i v.tag; remote = l }) (part-patch s n i lt v.remote (I.images remote).long b h.long)

  pub sector_other : (p : Place) (b : List ℕ) → Plain (wide s p) b → (v : Triple) → Images s n v → (j : ℕ) → (j ≡ i → ⊥) → sector_of s j (write s i p b v) ≡ sector_of s j v
  sector_other local b h v I j e = ap {B = Triple} (λ (l : List ℕ). record { local = l; tag = part 16 j v.tag; remote = part s j v.remote }) (part_other s n i lt v.local (I.images local).long b h.long j e)
  sector_other tag b h v I j e = ap {B = Triple} (λ (l : List ℕ). record { local = part s j v.local; tag = l; remote = part s j v.remote }) (part_other 16 n i lt v.tag (I.images tag).long b h.long j e)
  sector_other remote b h v I j e = ap {B = Triple} (λ (l : List ℕ). record { local = part s j v.local; tag = part 16 j v.tag; remote = l }) (part_other s n i lt v.remote (I.images remote).long b h.long j e)

  module _ (b : Place → List ℕ) where
    pub images_all : (ps : List Place) → AllPlain s b ps → (v : Triple) → Images s n v → Images s n (write_all s i b ps v)
    images_all [] h v I = I
    images_all (p ∷ ps) h v I = images_all ps h.1 (write s i p (b p) v) (images_write p (b p) h.0 v I)

    pub sector_all : (ps : List Place) → AllPlain s b ps → (v : Triple) → Images s n v → sector_of s i (write_all s i b ps v) ≡ store_all b ps (sector_of s i v)
    sector_all [] h v I = refl
    sector_all (p ∷ ps) h v I =
        sector_all ps h.1 (write s i p (b p) v) (images_write p (b p) h.0 v I) ∙ ap (store_all b ps) (sector-write p (b p) h.0 v I)

    pub others_all : (ps : List Place) → AllPlain s b ps → (v : Triple) → Images s n v → (j : ℕ) → (j ≡ i → ⊥) → sector_of s j (write_all s i b ps v) ≡ sector_of s j v
    others_all [] h v I j e = refl
    others_all (p ∷ ps) h v I j e =
        others_all ps h.1 (write s i p (b p) v) (images_write p (b p) h.0 v I) j e ∙ sector_other p (b p) h.0 v I j e

-- ---- a call, finished or cut

module _ (seals : Schemes) (v : Triple) (a : Args) (c : Call) where
  -- the images that it leaves if it is not refused
  abbrev pub accepted : Fate → Triple
  accepted f = landed seals (lands f) v a c

  pub after_accepted : refusal seals v a c ≡ none → after seals v a c ≡ accepted finished
  unfolding after
  after_accepted e = ap (λ (r : Option ℕ). unless r v (accepted finished)) e

  pub after_refused : (k : ℕ) → refusal seals v a c ≡ some k → after seals v a c ≡ v
  unfolding after
  after_refused k e = ap (λ (r : Option ℕ). unless r v (accepted finished)) e

  pub leaves_accepted : (f : Fate) → refusal seals v a c ≡ none → leaves_call seals v a c f ≡ accepted f
  unfolding leaves_call
  leaves_accepted finished e = after_accepted e
  leaves_accepted (cut k) e = ap (λ (r : Option ℕ). unless r v (accepted (cut k))) e

  pub leaves_refused : (f : Fate) (k : ℕ) → refusal seals v a c ≡ some k → leaves_call seals v a c f ≡ v
  unfolding leaves_call
  leaves_refused finished k e = after_refused k e
  leaves_refused (cut t) k e = ap (λ (r : Option ℕ). unless r v (accepted (cut t))) e

module _ (seals : Schemes) (v : Triple) (a : Args) (c : Call) (f : Fate) (w : Triple) where
  -- what the call, with its own key, number, s and n, leaves: the other sectors as they were, its own, and images w of the same lengths
  pub record Left : Type 0 where
    pub others : (j : ℕ) → (j ≡ a.number → ⊥) → sector_of a.volume.size j w ≡ sector_of a.volume.size j v
    pub mine : sector w a ≡ sector_after a.volume.size (sealing seals a) a.number (sector v a) c f
    pub images : Images a.volume.size a.volume.count w

-- lawful for every number of a volume
abbrev pub AllSound : Schemes → Type 0
AllSound seals = (volume : ℕ) → Sound (λ k. seals k volume)

module _ (seals : Schemes) (sound : AllSound seals) where
  -- a call that passes the early checks has a lawful sealing
  pub passed_lawful : (v : Triple) (a : Args) → Common v a.volume → Lawful a.volume.size (sealing seals a)
  passed_lawful v a p = (sound a.volume.number).lawful a.volume.key a.volume.size p.key p.size

  module _ (v : Triple) (b : AnyBytes v) (a : Args) (c : Call) (f : Fate) (lent : LentBytes c) (cuts : CutOf a.volume.size f) (e : refusal seals v a c ≡ none) where
    passed : Passed v a c
    passed = accepted_passed seals v a c e

    before : Images a.volume.size a.volume.count v
    before = accepted_images seals v a c b e

    here : Sector a.volume.size (sector v a)
    here = sector_images a.volume.size a.volume.count a.number passed.number v before

    pub left : Left seals v a c f (leaves_call seals v a c f)
    left =
        let b : Place → List ℕ = lands f ((sealing seals a).sealed a.number (writes a.volume.size (sealing seals a) a.number (sector v a) c).plain) (sector v a) in
        let ps : List Place = (writes a.volume.size (sealing seals a) a.number (sector v a) c).places in
        let pl : AllPlain a.volume.size b ps = writes_plain a.volume.size (sealing seals a) (passed_lawful v a passed.common) a.number (sector v a) here c f cuts (sized a c passed.lengths lent) in
        let q : leaves_call seals v a c f ≡ accepted seals v a c f = leaves_accepted seals v a c f e in
        record {
          others = λ j n. ap (sector_of a.volume.size j) q ∙ others_all a.volume.size a.volume.count a.number passed.number b ps pl v before j n;
          mine = ap (λ (u : Triple). sector u a) q ∙ sector_all a.volume.size a.volume.count a.number passed.number b ps pl v before;
          images = subst (λ (u : Triple). Images a.volume.size a.volume.count u) (sym q) (images_all a.volume.size a.volume.count a.number passed.number b ps pl v before);
        }

    -- what was held of the sector, and agreed with its places, agrees with them after the machine's step
    pub held_after_lem : (x : Held) → Agree a.volume.size (sealing seals a) a.number (sector v a) x
        → Agree a.volume.size (sealing seals a) a.number (sector (leaves_call seals v a c f) a) (step a.volume.size c (told (sealing seals a) a.number (sector (leaves_call seals v a c f) a) c f) x)
    held_after_lem x g =
        subst (λ (u : Triple). Agree a.volume.size (sealing seals a) a.number u (step a.volume.size c (told (sealing seals a) a.number u c f) x)) (sym left.mine)
        (keeps a.volume.size (sealing seals a) (passed_lawful v a passed.common) a.number (sector v a) here c f x
        (sized a c passed.lengths lent) (refusal_none seals v a c e).1 g)

  -- an accepted first stage leaves a local place that its plaintext fits
  pub first_landed : (v : Triple) → AnyBytes v → (a : Args) (P : List ℕ) → Bytes P → refusal seals v a (first P) ≡ none → Fits (sealing seals a) a.number (sector (after seals v a (first P)) a) local P
  unfolding leaves_call
  first_landed v b a P l e = ap (λ (t : Triple). t.local) (left v b a (first P) finished l tt e).mine
