use mathlib.Core.Path.{ap, ◌∙◌}
use mathlib.Core.List.{List}
use Prim.Native.Nat.{ℕ}
use native.Mathlib.Omega.{arith}
use Rattle.fips197.specs.Aes.{mix_columns, shift_rows, sub_bytes, add_round_key}
use Rattle.aes.proofs.Rounds.{round_state, rounds_next}
use Rattle.aes.proofs.cipher.Goals as goal

-- written out, so that a wrong round shows at once
pub loop-n-preserved : goal.loop-n-preserved
loop-n-preserved c =
    let l = c.loop-n in
    let w = c.args.w.now in
    round_state l.u _ w l.n c.round-u.ensures
    ∙ ap (λ (s : List ℕ). add_round_key w l.n (mix_columns (shift_rows (sub_bytes s)))) l.invariant
    ∙ rounds_next w _ l.n (omega arith)
