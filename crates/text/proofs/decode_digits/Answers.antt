use native.Mathlib.Omega.{arith}
use Rattle.text.proofs.Digits.{decoding_turn}
use Rattle.text.proofs.decode_digits.Goals as goal

-- The loop's invariant is `Decoding`. Assumes nothing.

pub loop-i-preserved : goal.loop-i-preserved
loop-i-preserved c =
    let a = c.args in
    let l = c.loop-i in
    let x = c.known_value-high in
    let y = c.known_value-low in
    decoding_turn a.line.now a.bytes.now l.bytes l.i c.requires.0 l.invariant x.result y.result (omega arith) x.ensures.value y.ensures.value
