-- The verdict on a sector's three places (document 01, "The verdict"): what it means, and how it is worked out. Assumes nothing: these
-- are definitions. That the two agree is proved as `judge_exact` and `open_exact`.
use Rattle.std.specs.Prelude.{◌≡◌, ◌↔◌, Bool, true, ◌&&◌, ◌||◌, cond, List, [], ◌∷◌, ℕ, zero, suc}
use Rattle.std.proofs.Math.Option.{Option, none, some}
use Rattle.block.specs.Bytes.{Plain, xor_bytes, same}
use Rattle.mode.specs.Sealing.{Triple}
use Rattle.mode.specs.Scheme.{Place, local, tag, remote, on, Sector, Scheme}

-- ---- what it means

module _ (S : Scheme) (T : ℕ) (t : Triple) where
  -- a plaintext fits a place if its sealing equals the bytes there
  abbrev pub Fits : Place → List ℕ → Type 0
  Fits p P = on t p ≡ on (S.sealed T P) p

  -- it fits two or more places
  pub record FitsTwo (P : List ℕ) : Type 0 where
    pub one : Place
    pub other : Place
    pub apart : one ≡ other → ⊥
    pub fits_one : Fits one P
    pub fits_other : Fits other P

pub data Verdict : Type 0 where
  whole : List ℕ → Verdict
  doubtful : Place → List ℕ → Verdict
  lost : Verdict
  clashing : Verdict

-- for sectors of s bytes
abbrev pub Means : ℕ → Scheme → ℕ → Triple → Verdict → Type 0
-- one plaintext fits all three places
Means s S T t (whole P) = Plain s P × ((p : Place) → Fits S T t p P)
-- exactly one fits two or more, and the place d is not among them
Means s S T t (doubtful d P) =
    Plain s P × FitsTwo S T t P × ((Q : List ℕ) → Plain s Q → FitsTwo S T t Q → Q ≡ P) × (Fits S T t d P → ⊥)
-- none fits two
Means s S T t lost = (P : List ℕ) → Plain s P → FitsTwo S T t P → ⊥
-- more than one fits two
Means s S T t clashing =
    (P : List ℕ) × (Q : List ℕ) × Plain s P × Plain s Q × FitsTwo S T t P × FitsTwo S T t Q × (P ≡ Q → ⊥)

-- ---- how it is worked out

-- at least two of three
abbrev pub two : Bool → Bool → Bool → Bool
two x y z = (x && y) || ((x && z) || (y && z))

module _ (S : Scheme) (T : ℕ) (t : Triple) where
  unfoldable pub fits : Place → List ℕ → Bool
  fits p P = same (on t p) (on (S.sealed T P) p)

  unfoldable pub fits_two : List ℕ → Bool
  fits_two P = two (fits local P) (fits tag P) (fits remote P)

  -- the only plaintext that can fit all places but this one
  unfoldable pub candidate : Place → List ℕ
  candidate local = S.open_remote t.tag t.remote
  candidate tag = xor_bytes t.local t.remote
  candidate remote = S.open_local t.tag t.local

  -- of a plaintext that fits two or more places: whole, or doubtful at the place that it does not fit
  unfoldable pub grade : List ℕ → Verdict
  grade P = cond (fits local P)
      (cond (fits tag P) (cond (fits remote P) (whole P) (doubtful remote P)) (doubtful tag P))
      (doubtful local P)

abbrev pub keep : (List ℕ → Bool) → List (List ℕ) → List (List ℕ)
keep f [] = []
keep f (P ∷ Ps) = cond (f P) (P ∷ keep f Ps) (keep f Ps)

abbrev pub all : (List ℕ → Bool) → List (List ℕ) → Bool
all f [] = true
all f (P ∷ Ps) = f P && all f Ps

-- the verdict from the candidates that fit two places: none, one (perhaps several times), or more than one
abbrev pub weigh : (List ℕ → Verdict) → List (List ℕ) → Verdict
weigh g [] = lost
weigh g (P ∷ Ps) = cond (all (same P) Ps) (g P) clashing

unfoldable pub judge : Scheme → ℕ → Triple → Verdict
judge S T t =
    weigh (grade S T t) (keep (fits_two S T t) (candidate S T t remote ∷ candidate S T t local ∷ candidate S T t tag ∷ []))

-- ---- opening one side with the tag (document 01, "Without the volume")

pub data Side : Type 0 where
  local_side remote_side : Side

-- the side with the number d: 0 is local, 1 remote
abbrev pub side_of : ℕ → Side
side_of zero = local_side
side_of (suc d) = remote_side

abbrev pub place_of : Side → Place
place_of local_side = local
place_of remote_side = remote

abbrev pub other_side : Side → Side
other_side local_side = remote_side
other_side remote_side = local_side

-- the only plaintext that can fit the tag g and the sector x of a side
abbrev pub open_side : Scheme → Side → List ℕ → List ℕ → List ℕ
open_side S local_side g x = S.open_local g x
open_side S remote_side g x = S.open_remote g x

-- the plaintext that fits both, if there is one
unfoldable pub opened : Scheme → ℕ → Side → List ℕ → List ℕ → Option (List ℕ)
opened S T d g x =
    let P : List ℕ = open_side S d g x in cond (same g (S.sealed T P).tag && same x (on (S.sealed T P) (place_of d))) (some P) none

-- P fits the tag g and the sector x
pub record FitsBoth (S : Scheme) (T : ℕ) (d : Side) (g x P : List ℕ) : Type 0 where
  pub fits_tag : g ≡ (S.sealed T P).tag
  pub fits_side : x ≡ on (S.sealed T P) (place_of d)

-- ---- the two theorems

-- what is worked out is what is meant, and nothing else is
abbrev pub JudgeExact : ℕ → Scheme → Type 0
JudgeExact s S = (T : ℕ) (t : Triple) → Sector s t → (w : Verdict) → (judge S T t ≡ w) ↔ Means s S T t w

-- opening accepts exactly the sealed sectors and tags, and gives the plaintext
abbrev pub OpenExact : ℕ → Scheme → Type 0
OpenExact s S =
    (T : ℕ) (d : Side) (g x : List ℕ) → Plain 16 g → Plain s x → (P : List ℕ) → (opened S T d g x ≡ some P) ↔ (Plain s P × FitsBoth S T d g x P)
