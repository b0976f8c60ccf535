-- The numbers of answers: 0, the refusals below 128, the doubtful places above. Assumes nothing.
use mathlib.Core.Path.{◌≡◌, refl, sym, ap, subst, ◌∙◌}
use mathlib.Core.Bool.{cond, not}
use mathlib.Core.List.{List, [], ◌∷◌}
use Prim.Native.Nat.{ℕ, ◌<◌}
use denote.Enum.Declared.{tag_of}
use mir.Val.{has_key}
use types.Run.{OneOf, miss}
use lib.Dec.{T, eqb, lit<}
use Rattle.mode.specs.Scheme.{Place, local, tag, remote}
use Rattle.answers.specs.declared.Refusal.{Refusal}
use Rattle.answers.specs.declared.Refusal.TheVariants.{KeyLength, SectorSize, OtherLength, UnknownSide, NoneFits, Lost, Clashing, VolumeShape, SectorNumber, StageOrder, ListLength, NoFrame, MapLength, ZeroHashKey}
use Rattle.answers.specs.Answers.{doubt_number, refusal_number}
use Rattle.answers.specs.contracts.Refusal.{the_type}

pub refusal_range : (f : Refusal) → (0 < refusal_number f) × (refusal_number f < 128)
refusal_range KeyLength = (lit< tt, lit< tt)
refusal_range SectorSize = (lit< tt, lit< tt)
refusal_range OtherLength = (lit< tt, lit< tt)
refusal_range UnknownSide = (lit< tt, lit< tt)
refusal_range NoneFits = (lit< tt, lit< tt)
refusal_range Lost = (lit< tt, lit< tt)
refusal_range Clashing = (lit< tt, lit< tt)
refusal_range VolumeShape = (lit< tt, lit< tt)
refusal_range SectorNumber = (lit< tt, lit< tt)
refusal_range StageOrder = (lit< tt, lit< tt)
refusal_range ListLength = (lit< tt, lit< tt)
refusal_range NoFrame = (lit< tt, lit< tt)
refusal_range MapLength = (lit< tt, lit< tt)
refusal_range ZeroHashKey = (lit< tt, lit< tt)

-- the refusal with a number
abbrev numbered : ℕ → Refusal
numbered n =
    cond (eqb n 1) KeyLength
    (cond (eqb n 2) SectorSize
    (cond (eqb n 3) OtherLength
    (cond (eqb n 4) UnknownSide
    (cond (eqb n 5) NoneFits
    (cond (eqb n 6) Lost
    (cond (eqb n 7) Clashing
    (cond (eqb n 8) VolumeShape
    (cond (eqb n 9) SectorNumber
    (cond (eqb n 10) StageOrder
    (cond (eqb n 11) ListLength
    (cond (eqb n 12) NoFrame
    (cond (eqb n 13) MapLength
    ZeroHashKey))))))))))))

numbered_back : (f : Refusal) → numbered (refusal_number f) ≡ f
numbered_back KeyLength = refl
numbered_back SectorSize = refl
numbered_back OtherLength = refl
numbered_back UnknownSide = refl
numbered_back NoneFits = refl
numbered_back Lost = refl
numbered_back Clashing = refl
numbered_back VolumeShape = refl
numbered_back SectorNumber = refl
numbered_back StageOrder = refl
numbered_back ListLength = refl
numbered_back NoFrame = refl
numbered_back MapLength = refl
numbered_back ZeroHashKey = refl

-- so a number names one refusal
pub refusal_one : (f g : Refusal) → refusal_number f ≡ refusal_number g → f ≡ g
refusal_one f g e = sym (numbered_back f) ∙ ap numbered e ∙ numbered_back g

pub doubt_least : (p : Place) → 128 < doubt_number p
doubt_least local = lit< tt
doubt_least tag = lit< tt
doubt_least remote = lit< tt

-- ---- a `match` with an arm for the others

-- the enum's tags, and those but one
abbrev pub tags : List ℕ
tags = 0 ∷ 1 ∷ 2 ∷ 3 ∷ 4 ∷ 5 ∷ 6 ∷ 7 ∷ 8 ∷ 9 ∷ 10 ∷ 11 ∷ 12 ∷ 13 ∷ []

abbrev pub without : Refusal → List ℕ → List ℕ
without g [] = []
without g (x ∷ xs) = cond (eqb x (tag_of the_type g)) xs (x ∷ without g xs)

-- a refusal whose tag is one of those is none whose tag is not
pub other_tag : (g : Refusal) (those : List ℕ) {f : Refusal} → OneOf those (tag_of the_type f) → T (not (has_key those (tag_of the_type g))) → f ≡ g → ⊥
other_tag g those {f} k h e = miss those (tag_of the_type g) h (subst (λ (x : Refusal). OneOf those (tag_of the_type x)) e k)
