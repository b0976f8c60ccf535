-- What a volume's calls answer and leave, by which plaintexts fit which places of the sector (document 01, "The verdict", "A volume"). One
-- statement for every key, volume's number, s, n, sector's number and images of any bytes; proved as `calls_mean`. `outcome` and
-- `read_outcome` are the definitions that the calls' contracts cite.
use Rattle.std.specs.Prelude.{◌≡◌, ◌↔◌, List, [], ◌∷◌, ℕ, length, replicate}
use Rattle.std.proofs.Math.Option.{none, some}
use Rattle.mode.specs.Sealing.{Triple}
use Rattle.mode.specs.Scheme.{Place, local, tag, remote, on}
use Rattle.verdict.specs.Verdict.{Fits, Verdict, whole, doubtful, lost, clashing, Means}
use Rattle.answers.specs.Answers.{doubt_number}
use Rattle.answers.specs.Rules.{first_of, Args}
use Rattle.history.specs.Volume.{Call, blank, first, second, third, mend, read, write, write_all, early, sector, mirror, outcome, read_outcome, sealing}
use Rattle.history.specs.HistoryFrom.{AnyBytes}

module _ (v : Triple) (a : Args) where
  -- no refusal before 6 or 10 turns the call away
  abbrev pub Passes : Call → Type 0
  Passes c = first_of (early v a c) ≡ none

  -- the sector has this verdict, by fitting
  abbrev pub Is : Verdict → Type 0
  Is w = Means a.volume.size (sealing mirror a) a.number (sector v a) w

  -- P fits a place of it
  abbrev pub FitsAt : Place → List ℕ → Type 0
  FitsAt p P = Fits (sealing mirror a) a.number (sector v a) p P

  -- the images with a place of it as P seals
  abbrev pub sealed_in : Place → List ℕ → Triple
  sealed_in p P = write a.volume.size a.number p (on ((sealing mirror a).sealed a.number P) p) v

  -- and with all three
  abbrev pub sealed_all : List ℕ → Triple
  sealed_all P = write_all a.volume.size a.number (on ((sealing mirror a).sealed a.number P)) (local ∷ tag ∷ remote ∷ []) v

  pub record CallMeans : Type 0 where
    -- the refusals before 6 and 10: the number, and every lent byte as it was
    pub refuses : (c : Call) (k : ℕ) → first_of (early v a c) ≡ some k → outcome mirror v a c ≡ (k, v)
    pub read_refuses : (out : List ℕ) (k : ℕ) → first_of (early v a (read (length out))) ≡ some k → read_outcome mirror v a out ≡ (k, out)
    -- the sector has exactly one verdict
    pub one_verdict : (c : Call) → Passes c → (w : Verdict) × Is w × ((u : Verdict) → Is u → u ≡ w)
    -- a read leaves the images; it refuses 6 exactly if the sector is lost, 7 exactly if it is clashing, and else gives the verdict and its
    -- plaintext
    pub read_leaves : (out : List ℕ) → outcome mirror v a (read (length out)) ≡ ((read_outcome mirror v a out).0, v)
    pub read_lost : (out : List ℕ) → Passes (read (length out)) → (read_outcome mirror v a out ≡ (6, out)) ↔ Is lost
    pub read_clashing : (out : List ℕ) → Passes (read (length out)) → (read_outcome mirror v a out ≡ (7, out)) ↔ Is clashing
    pub read_whole : (out : List ℕ) → Passes (read (length out)) → (P : List ℕ) → (read_outcome mirror v a out ≡ (0, P)) ↔ Is (whole P)
    pub read_doubtful : (out : List ℕ) → Passes (read (length out)) → (d : Place) (P : List ℕ)
        → (read_outcome mirror v a out ≡ (doubt_number d, P)) ↔ Is (doubtful d P)
    -- and so does a mend, which writes the doubtful place as the one plaintext seals, and nothing if the sector is whole
    pub mend_lost : Passes mend → (outcome mirror v a mend ≡ (6, v)) ↔ Is lost
    pub mend_clashing : Passes mend → (outcome mirror v a mend ≡ (7, v)) ↔ Is clashing
    pub mend_whole : Passes mend → (outcome mirror v a mend ≡ (0, v)) ↔ ((P : List ℕ) × Is (whole P))
    pub mend_doubtful : Passes mend → (d : Place) → ((outcome mirror v a mend).0 ≡ doubt_number d) ↔ ((P : List ℕ) × Is (doubtful d P))
    pub mend_writes : Passes mend → (d : Place) (P : List ℕ) → Is (doubtful d P) → outcome mirror v a mend ≡ (doubt_number d, sealed_in d P)
    -- a first stage refuses 10 exactly if the sector is not whole, and else writes P's local sector
    pub first_refuses : (P : List ℕ) → Passes (first P) → (outcome mirror v a (first P) ≡ (10, v)) ↔ ((Q : List ℕ) → Is (whole Q) → ⊥)
    pub first_writes : (P : List ℕ) → Passes (first P) → (Q : List ℕ) → Is (whole Q) → outcome mirror v a (first P) ≡ (0, sealed_in local P)
    -- a second stage refuses 10 exactly if P does not fit the local place, and else writes P's tag
    pub second_refuses : (P : List ℕ) → Passes (second P) → (outcome mirror v a (second P) ≡ (10, v)) ↔ (FitsAt local P → ⊥)
    pub second_writes : (P : List ℕ) → Passes (second P) → FitsAt local P → outcome mirror v a (second P) ≡ (0, sealed_in tag P)
    -- a third stage refuses 10 exactly if P does not fit both local and tag, and else writes P's remote sector
    pub third_refuses : (P : List ℕ) → Passes (third P) → (outcome mirror v a (third P) ≡ (10, v)) ↔ (FitsAt local P × FitsAt tag P → ⊥)
    pub third_writes : (P : List ℕ) → Passes (third P) → FitsAt local P × FitsAt tag P → outcome mirror v a (third P) ≡ (0, sealed_in remote P)
    -- a blank refuses nothing more, and seals zeros into all three places
    pub blank_writes : Passes blank → outcome mirror v a blank ≡ (0, sealed_all (replicate a.volume.size 0))

abbrev pub CallsMean : Type 0
CallsMean = (v : Triple) → AnyBytes v → (a : Args) → CallMeans v a
