-- What a call is lent, as the rules and the calls' meanings have it. Assumes nothing: these are definitions.
use Rattle.std.specs.Prelude.{Bool, ℕ}
use Rattle.mode.specs.Sealing.{Triple, triple, key_from}
use Rattle.answers.specs.Rules.{Volume, volume_of, Args, args, shape}
use Rattle.answers.specs.declared.places.Places.{Places}
use Rattle.answers.specs.declared.volume.Lengths.{Lengths}
use Rattle.answers.specs.declared.volume.Volume as D

-- three places or images
abbrev pub triple_of : Places → Triple
triple_of p = triple p.local.now p.tag.now p.remote.now

-- a volume
abbrev pub volume_lent : D.Volume → Volume
volume_lent v = volume_of (key_from v.key.now) v.number v.size v.count

-- and the number of one of its sectors
abbrev pub args_of : D.Volume → ℕ → Args
args_of v i = args (key_from v.key.now) v.number v.size v.count i

-- whether images of these lengths have the volume's shape
abbrev pub lengths_fit : D.Volume → Lengths → Bool
lengths_fit v l = shape v.size v.count l.local l.tags l.remote
