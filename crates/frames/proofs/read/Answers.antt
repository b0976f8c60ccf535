use Rattle.std.proofs.Common.{◌<◌, ◌^◌, sym, subst, arith}
use lib.IntN.{ℤ}
use mir.Syntax.{w64}
use Rattle.std.proofs.Math.Facts.{to_z_pos}
use Rattle.input.specs.Turn.{read_of}
use Rattle.frames.specs.Answered.{Gives}
use Rattle.frames.proofs.Turning.{gives_bytes, gives_none}
use Rattle.frames.proofs.read.Goals as goal

pub returns-in-Ok : goal.returns-in-Ok
returns-in-Ok g c =
    let p = c.in-Ok.ensures in
    let few : c.in-Ok.n < 2 ^ 63 = omega (arith, p.bound.0) in
    subst (λ (z : ℤ). Gives (g.R.Read.remaining c.args.reader.now) (g.R.Read.remaining c.read.new.self) (read_of z c.read.new.buf)) (sym (to_z_pos w64 few))
    (gives_bytes _ _ c.in-Ok.n c.read.new.buf p.bytes.0 (λ none. p.bytes.1 none (omega arith)))

pub returns-in-Err : goal.returns-in-Err
returns-in-Err g c = gives_none _ _ c.read.new.buf c.in-Err.ensures.bytes
