-- A hash key of zero is no key (change request S-7), on the definitions that the contracts cite: proved as `zero_hash`.
use Rattle.std.specs.Prelude.{◌≡◌, true, false, List, ℕ}
use Rattle.mode.specs.Sealing.{Key, Triple, sealed}
use Rattle.mode.specs.Scheme.{is_key}
use Rattle.answers.specs.Rules.{Volume, volume_of, args, is_zero_hash}
use Rattle.sector.specs.Calls.{seal_call, judge_call, open_call, rebuild_call}
use Rattle.history.specs.Machine.{gone, start}
use Rattle.history.specs.Volume.{Call, mirror}
use Rattle.suspects.specs.Marks.{map_outcome, map_read_outcome, map_survey_outcome}
use Rattle.writes.specs.Write.{write_outcome}
use Rattle.writes.specs.History.{LaptopEvent, AllLaptopAllowed, hold_laptop}
use Rattle.mirror.specs.Survey.{survey_result}

-- every call that takes a key refuses k with the number r, whatever else it is given, and leaves every lent byte and the map
pub record RefusesKey (k : Key) (r : ℕ) : Type 0 where
  pub seals : (volume address : ℕ) (P : List ℕ) (out : Triple) → seal_call k volume address P out ≡ (r, out)
  pub judges : (volume address : ℕ) (t : Triple) (out : List ℕ) → judge_call k volume address t out ≡ (r, out)
  pub opens : (volume address d : ℕ) (x g out : List ℕ) → open_call k volume address d x g out ≡ (r, out)
  pub rebuilds : (volume address d : ℕ) (x g out : List ℕ) → rebuild_call k volume address d x g out ≡ (r, out)
  -- a blank, the stages and a mend
  pub calls : (v : Triple) (volume s n i : ℕ) (c : Call) (m : List ℕ) → map_outcome mirror v (args k volume s n i) c m ≡ (r, (v, m))
  pub reads : (v : Triple) (volume s n i : ℕ) (out m : List ℕ) → map_read_outcome mirror v (args k volume s n i) out m ≡ (r, (out, m))
  pub writes : (v : Triple) (volume s n i : ℕ) (P m : List ℕ) → write_outcome mirror v (args k volume s n i) P m ≡ (r, (v, m))
  pub surveys : (v : Triple) (volume s n : ℕ) (m list counts : List ℕ) → survey_result (map_survey_outcome v (volume_of k volume s n) m list) counts ≡ (r, (counts, list))

-- no call that takes the key k answers r, whatever else it is given
pub record NeverAnswers (k : Key) (r : ℕ) : Type 0 where
  pub seals : (volume address : ℕ) (P : List ℕ) (out : Triple) → (seal_call k volume address P out).0 ≡ r → ⊥
  pub judges : (volume address : ℕ) (t : Triple) (out : List ℕ) → (judge_call k volume address t out).0 ≡ r → ⊥
  pub opens : (volume address d : ℕ) (x g out : List ℕ) → (open_call k volume address d x g out).0 ≡ r → ⊥
  pub rebuilds : (volume address d : ℕ) (x g out : List ℕ) → (rebuild_call k volume address d x g out).0 ≡ r → ⊥
  pub calls : (v : Triple) (volume s n i : ℕ) (c : Call) (m : List ℕ) → (map_outcome mirror v (args k volume s n i) c m).0 ≡ r → ⊥
  pub reads : (v : Triple) (volume s n i : ℕ) (out m : List ℕ) → (map_read_outcome mirror v (args k volume s n i) out m).0 ≡ r → ⊥
  pub writes : (v : Triple) (volume s n i : ℕ) (P m : List ℕ) → (write_outcome mirror v (args k volume s n i) P m).0 ≡ r → ⊥
  pub surveys : (v : Triple) (volume s n : ℕ) (m list counts : List ℕ) → (survey_result (map_survey_outcome v (volume_of k volume s n) m list) counts).0 ≡ r → ⊥

pub record ZeroHash : Type 0 where
  -- a key of another length is refused 1, whatever its bytes are, and then one whose hash key is zero 14
  pub another_length : (k : Key) → is_key k ≡ false → RefusesKey k 1
  pub refused : (k : Key) → is_key k ≡ true → is_zero_hash k ≡ true → RefusesKey k 14
  -- and 14 is the answer for no other key
  pub no_other : (k : Key) → is_zero_hash k ≡ false → NeverAnswers k 14
  -- why: every plaintext under such a key has one tag, in every volume and at every address
  pub one_tag : (k : Key) → is_zero_hash k ≡ true → (volume address volume' address' : ℕ) (P Q : List ℕ)
      → (sealed k volume address P).tag ≡ (sealed k volume' address' Q).tag
  -- and in the history of a volume under such a key, where every call is refused, no sector is ever kept
  pub nothing_kept : (vol : Volume) → is_key vol.key ≡ true → is_zero_hash vol.key ≡ true
      → (v : Triple) (es : List LaptopEvent) → AllLaptopAllowed vol v es → (i : ℕ) → hold_laptop vol v start es i ≡ gone
