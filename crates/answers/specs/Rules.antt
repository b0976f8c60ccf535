-- Refusals on arguments (document 01, 13 of change request S-4 and 14 of S-7): each rule once, and the rules of each call in its order.
-- Assumes nothing: these are definitions.
use Rattle.std.specs.Prelude.{Bool, true, not, ◌&&◌, ◌||◌, cond, List, [], ◌∷◌, ◌++◌, ℕ, ◌+◌, ◌*◌, ◌/◌, eqb, leb, ltb, length}
use Rattle.std.proofs.Math.Option.{Option, none, some}
use Rattle.mode.specs.Sealing.{Key, Triple, hash_key}
use Rattle.mode.specs.Scheme.{is_key, is_size}

-- ---- rules in order

-- a refusal: its number and its condition
pub record Rule : Type 0 where
  pub number : ℕ
  pub condition : Bool

abbrev pub rule : ℕ → Bool → Rule
rule k b = record { number = k; condition = b }

-- the number of the first refusal whose condition holds
abbrev pub first_of : List Rule → Option ℕ
first_of [] = none
first_of (r ∷ rs) = cond r.condition (some r.number) (first_of rs)

-- of two refusals in order, the first that there is
abbrev pub first_some : Option ℕ → Option ℕ → Option ℕ
first_some none o = o
first_some (some n) o = some n

-- the list with one refusal that is already decided, or none
abbrev pub rules_of : Option ℕ → List Rule
rules_of none = []
rules_of (some n) = rule n true ∷ []

-- a call's answer and lent bytes: a refusal leaves the bytes as they were; `refuse` makes an answer of its number
abbrev pub settle_by : {R A : Type 0} → (ℕ → R) → Option ℕ → R × A → A → R × A
settle_by refuse none after before = after
settle_by refuse (some n) after before = (refuse n, before)

-- where the answer is a number
abbrev pub settle : {A : Type 0} → Option ℕ → ℕ × A → A → ℕ × A
settle o after before = settle_by (λ n. n) o after before

-- ---- what a call on a volume takes

-- a volume's key and number, the size s and the count n
pub record Volume : Type 0 where
  pub key : Key
  pub number : ℕ
  pub size : ℕ
  pub count : ℕ

abbrev pub volume_of : Key → ℕ → ℕ → ℕ → Volume
volume_of k volume s n = record { key = k; number = volume; size = s; count = n }

-- these, and a sector's number
pub record Args : Type 0 where
  pub volume : Volume
  pub number : ℕ

abbrev pub args : Key → ℕ → ℕ → ℕ → ℕ → Args
args k volume s n i = record { volume = volume_of k volume s n; number = i }

-- n from 1 to 65,536, two images of n times s bytes, and tags of n times 16
unfoldable pub shape : ℕ → ℕ → ℕ → ℕ → ℕ → Bool
shape s n l g r = leb 1 n && (leb n 65536 && (eqb l (n * s) && (eqb r (n * s) && eqb g (n * 16))))

unfoldable pub is_shape : ℕ → ℕ → Triple → Bool
unfolding shape
is_shape s n v = shape s n (length v.local) (length v.tag) (length v.remote)

-- n from 1 to 65,536
unfoldable pub is_count : ℕ → Bool
is_count n = leb 1 n && leb n 65536

-- the 64-bit words that n bits need
unfoldable pub map_words : ℕ → ℕ
map_words n = (n + 63) / 64

-- ---- each rule

-- whether the hash key h is all zero
unfoldable pub is_zero_hash : Key → Bool
is_zero_hash k = eqb (hash_key k) 0

-- the key: 1, its length, and directly after it 14, a hash key of zero
abbrev pub key_rules : Key → List Rule
key_rules k = rule 1 (not (is_key k)) ∷ rule 14 (is_zero_hash k) ∷ []

-- 2: the size of a sector
abbrev pub size_rules : ℕ → List Rule
size_rules s = rule 2 (not (is_size s)) ∷ []

-- 3: a length that is not the one due, the size of the sector or 16 for a tag
abbrev pub length_rules : ℕ → ℕ → List Rule
length_rules l due = rule 3 (not (eqb l due)) ∷ []

-- 4: the number of a side, 0 for local and 1 for remote
abbrev pub side_rules : ℕ → List Rule
side_rules d = rule 4 (not (eqb d 0 || eqb d 1)) ∷ []

-- 8: `right` says whether n and the images have the right shape
abbrev pub shape_rules : Bool → List Rule
shape_rules right = rule 8 (not right) ∷ []

-- 9: a sector's number i among n
abbrev pub number_rules : ℕ → ℕ → List Rule
number_rules n i = rule 9 (leb n i) ∷ []

-- 11: a list of `room` numbers for n sectors
abbrev pub list_rules : ℕ → ℕ → List Rule
list_rules n room = rule 11 (ltb room n) ∷ []

-- 8: the count alone, of a call that takes no images
abbrev pub count_rules : ℕ → List Rule
count_rules n = rule 8 (not (is_count n)) ∷ []

-- 13: a map of w words for n sectors
abbrev pub map_rules : ℕ → ℕ → List Rule
map_rules n w = rule 13 (not (eqb w (map_words n))) ∷ []

-- ---- the calls on a sector

-- combine: the size s, and two lengths that must equal it
abbrev pub pair_rules : ℕ → ℕ → ℕ → List Rule
pair_rules s x y = size_rules s ++ (length_rules x s ++ length_rules y s)

-- seal and judge: these, and a tag's length
abbrev pub parts_rules : Key → ℕ → ℕ → ℕ → ℕ → List Rule
parts_rules k s x y g = key_rules k ++ (pair_rules s x y ++ length_rules g 16)

-- open and rebuild: the sector's size s, an output, a tag and the number of a side
abbrev pub open_rules : Key → ℕ → ℕ → ℕ → ℕ → List Rule
open_rules k s out g d = key_rules k ++ (size_rules s ++ (length_rules out s ++ (length_rules g 16 ++ side_rules d)))

-- ---- the calls on a volume

-- of every call
abbrev pub volume_rules : Key → ℕ → Bool → List Rule
volume_rules k s right = key_rules k ++ (size_rules s ++ shape_rules right)

-- of a call on sector i of n
abbrev pub sector_rules : Key → ℕ → ℕ → Bool → ℕ → List Rule
sector_rules k s n right i = volume_rules k s right ++ number_rules n i

-- of a survey of n sectors with a list of `room` numbers
abbrev pub survey_rules : Key → ℕ → ℕ → Bool → ℕ → List Rule
survey_rules k s n right room = volume_rules k s right ++ list_rules n room

-- the same with a map of w words: 13 directly after 8
abbrev pub sector_and_map_rules : Key → ℕ → ℕ → Bool → ℕ → ℕ → List Rule
sector_and_map_rules k s n right w i = volume_rules k s right ++ (map_rules n w ++ number_rules n i)

abbrev pub survey_and_map_rules : Key → ℕ → ℕ → Bool → ℕ → ℕ → List Rule
survey_and_map_rules k s n right w room = volume_rules k s right ++ (map_rules n w ++ list_rules n room)

-- of a call on a map of w words alone, for n sectors
abbrev pub count_and_map_rules : ℕ → ℕ → List Rule
count_and_map_rules n w = count_rules n ++ map_rules n w
