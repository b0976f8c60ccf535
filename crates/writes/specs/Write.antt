-- The write in one call, for the laptop product (change request S-6): what it answers, and what it leaves of the images and the map.
-- Assumes nothing: these are definitions, over those of the calls with a map.
use Rattle.std.specs.Prelude.{cond, List, [], ◌∷◌, ℕ, eqb, length}
use Rattle.mode.specs.Sealing.{Triple}
use Rattle.answers.specs.Rules.{Args}
use Rattle.history.specs.Volume.{Call, first, second, third, mend, read, Schemes}
use Rattle.suspects.specs.Marks.{is_finished, map_outcome}

-- the three stages
abbrev pub stages : List ℕ → List Call
stages P = first P ∷ second P ∷ third P ∷ []

-- what is done after the sector was judged, by the number of the read's answer: it is mended if doubtful, then come the stages; nothing is
-- done if the read is refused
abbrev pub following : List ℕ → ℕ → List Call
following P k = cond (eqb k 0) (stages P) (cond (is_finished k) (mend ∷ stages P) [])

module _ (seals : Schemes) where
  -- the images and the map after calls on one sector, each of which gets them as the one before left them
  abbrev pub calls_leave : Args → List Call → Triple × List ℕ → Triple × List ℕ
  calls_leave a [] d = d
  calls_leave a (c ∷ cs) d = calls_leave a cs (map_outcome seals d.0 a c d.1).1

  -- The number of the answer, the images and the map afterwards. It judges the sector by a read, with the plaintext's length for that of
  -- the output, refuses as that read does, and returns the verdict that it found.
  unfoldable pub write_outcome : Triple → Args → List ℕ → List ℕ → ℕ × (Triple × List ℕ)
  write_outcome v a P m =
      let r = map_outcome seals v a (read (length P)) m in
      (r.0, calls_leave a (following P r.0) r.1)
