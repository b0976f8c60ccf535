-- The calls on a sector under the volume's number 0. Assumes nothing.
use mathlib.Core.Path.{refl}
use Rattle.block.specs.Bytes.{to_bytes}
use Rattle.mode.specs.Sealing.{tweak, sealed}
use Rattle.sector.specs.Calls.{seal_call, judge_call, open_call, rebuild_call}
use Rattle.sector.specs.Before.{AsBefore}

pub as_before : AsBefore
unfolding seal_call judge_call open_call rebuild_call sealed tweak to_bytes
as_before = record {
  seals = λ k address P out. refl;
  judges = λ k address t out. refl;
  opens = λ k address d x g out. refl;
  rebuilds = λ k address d x g out. refl;
}
