-- What passing the checks shows. Assumes nothing.
use mathlib.Core.Path.{◌≡◌, refl, ◌∙◌}
use mathlib.Core.Bool.{true, false, not, ◌||◌}
use mathlib.Core.List.{List, [], ◌∷◌}
use mathlib.Core.Option.{none}
use Prim.Native.Nat.{ℕ, ◌<◌, ◌≤◌}
use lib.Dec.{eqb}
use borrow.Author.Tests.{not-false, eqb-true, eq-eqb, lt-leb, ltb-false, le-ltb}
use Rattle.mode.specs.Sealing.{Key, Triple}
use Rattle.mode.specs.Scheme.{is_key, is_size}
use Rattle.mode.proofs.Sizes.{size_whole, size_le}
use Rattle.answers.specs.Rules.{Rule, first_of, Volume, Args, is_shape, is_zero_hash, length_rules, number_rules, list_rules, pair_rules, parts_rules, open_rules, volume_rules, sector_rules, survey_rules}
use Rattle.answers.specs.Passing.{Sizes}
use Rattle.answers.proofs.Rules.{cond_none, only_rule, first_none, none_left, none_right}

-- ---- lists of rules

-- no rule holds
abbrev NoneHolds : List Rule → Type 0
NoneHolds [] = Unit {0}
NoneHolds (r ∷ rs) = (r.condition ≡ false) × NoneHolds rs

none_holds : (rs : List Rule) → first_of rs ≡ none → NoneHolds rs
none_holds [] e = tt
none_holds (r ∷ rs) e = let u = cond_none r.condition r.number (first_of rs) e in (u.0, none_holds rs u.1)

-- ---- lengths

due : (l d : ℕ) → not (eqb l d) ≡ false → l ≡ d
due l d e = eqb-true l d (not-false (eqb l d) e)

pub length_due : (l d : ℕ) → first_of (length_rules l d) ≡ none → l ≡ d
length_due l d e = due l d (only_rule (not (eqb l d)) 3 e)

-- ---- the calls on a sector

sizes : (s x y g : ℕ) → not (is_size s) ≡ false → x ≡ s → y ≡ s → g ≡ 16 → Sizes s x y g
sizes s x y g e ex ey eg =
    let size = not-false (is_size s) e in
    record { blocks = size_whole s size; most = size_le s size; first = ex; second = ey; tag_size = eg }

pub pair_passed : (s x y : ℕ) → first_of (pair_rules s x y) ≡ none → Sizes s x y 16
pair_passed s x y e =
    let (a, (b, (c, z))) = none_holds (pair_rules s x y) e in
    sizes s x y 16 a (due x s b) (due y s c) refl

pub parts_passed : (k : Key) (s x y g : ℕ) → first_of (parts_rules k s x y g) ≡ none → (is_key k ≡ true) × Sizes s x y g
parts_passed k s x y g e =
    let (a, (h, (b, (c, (d, (t, z)))))) = none_holds (parts_rules k s x y g) e in
    (not-false (is_key k) a, sizes s x y g b (due x s c) (due y s d) (due g 16 t))

pub open_passed : (k : Key) (s out g side : ℕ) → first_of (open_rules k s out g side) ≡ none → (is_key k ≡ true) × Sizes s out out g
open_passed k s out g side e =
    let (a, (h, (b, (c, (t, z))))) = none_holds (open_rules k s out g side) e in
    (not-false (is_key k) a, sizes s out out g b (due out s c) (due out s c) (due g 16 t))

-- and what passes them

pub pair_pass : (s x y : ℕ) → is_size s ≡ true → x ≡ s → y ≡ s → first_of (pair_rules s x y) ≡ none
pair_pass s x y es ex ey = simp (es, eq-eqb x s ex, eq-eqb y s ey)

pub parts_pass : (k : Key) (s x y g : ℕ) → is_key k ≡ true → is_zero_hash k ≡ false → is_size s ≡ true → x ≡ s → y ≡ s → g ≡ 16 → first_of (parts_rules k s x y g) ≡ none
parts_pass k s x y g ek eh es ex ey eg = simp (ek, eh, es, eq-eqb x s ex, eq-eqb y s ey, eq-eqb g 16 eg)

pub open_pass : (k : Key) (s out g side : ℕ) → is_key k ≡ true → is_zero_hash k ≡ false → is_size s ≡ true → out ≡ s → g ≡ 16 → (eqb side 0 || eqb side 1) ≡ true
    → first_of (open_rules k s out g side) ≡ none
open_pass k s out g side ek eh es eo eg ed = simp (ek, eh, es, eq-eqb out s eo, eq-eqb g 16 eg, ed)

-- ---- the calls on a volume

-- what every one checks
pub record Common (v : Triple) (vol : Volume) : Type 0 where
  pub key : is_key vol.key ≡ true
  pub hash : is_zero_hash vol.key ≡ false
  pub size : is_size vol.size ≡ true
  pub shape : is_shape vol.size vol.count v ≡ true

pub common : (v : Triple) (vol : Volume) → first_of (volume_rules vol.key vol.size (is_shape vol.size vol.count v)) ≡ none → Common v vol
common v vol e =
    let (a, (h, (b, (c, z)))) = none_holds (volume_rules vol.key vol.size (is_shape vol.size vol.count v)) e in
    record { key = not-false (is_key vol.key) a; hash = h; size = not-false (is_size vol.size) b; shape = not-false (is_shape vol.size vol.count v) c }

pub volume_pass : (v : Triple) (vol : Volume) → Common v vol → first_of (volume_rules vol.key vol.size (is_shape vol.size vol.count v)) ≡ none
volume_pass v vol c = simp (c.key, c.hash, c.size, c.shape)

-- a call on one sector
pub sector_pass : (v : Triple) (a : Args) → Common v a.volume → a.number < a.volume.count → first_of (sector_rules a.volume.key a.volume.size a.volume.count (is_shape a.volume.size a.volume.count v) a.number) ≡ none
sector_pass v a c h =
    first_none (number_rules a.volume.count a.number) (volume_rules a.volume.key a.volume.size (is_shape a.volume.size a.volume.count v)) (volume_pass v a.volume c)
    ∙ simp (lt-leb a.volume.count a.number h)

-- a survey
pub survey_passed : (v : Triple) (vol : Volume) (room : ℕ) → first_of (survey_rules vol.key vol.size vol.count (is_shape vol.size vol.count v) room) ≡ none
    → Common v vol × (vol.count ≤ room)
survey_passed v vol room e =
    let every : List Rule = volume_rules vol.key vol.size (is_shape vol.size vol.count v) in
    let eleven : List Rule = list_rules vol.count room in
    (common v vol (none_left eleven every e), ltb-false room vol.count (none_holds eleven (none_right eleven every e)).0)

pub survey_pass : (v : Triple) (vol : Volume) (room : ℕ) → Common v vol → vol.count ≤ room → first_of (survey_rules vol.key vol.size vol.count (is_shape vol.size vol.count v) room) ≡ none
survey_pass v vol room c h =
    first_none (list_rules vol.count room) (volume_rules vol.key vol.size (is_shape vol.size vol.count v)) (volume_pass v vol c)
    ∙ simp (le-ltb room vol.count h)
