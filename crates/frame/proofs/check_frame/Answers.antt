use mathlib.Core.Path.{ap, ◌∙◌}
use native.Mathlib.Omega.{arith}
use Prim.Native.Nat.{ℕ}
use Rattle.answers.specs.Rules.{first_of}
use Rattle.answers.proofs.Rules.{check_passed}
use Rattle.frame.specs.Frame.{together, kind_rules, halves_rules}
use Rattle.frame.proofs.Refusals.{beside-fits, together_is}
use Rattle.frame.proofs.check_frame.Goals as goal

pub overflow_sub-frame : goal.overflow_sub-frame
overflow_sub-frame c = omega (arith, beside-fits c.args.frame.now c.requires c.in_ok-check_kind.ensures, c.beside.ensures)

pub returns : goal.returns
returns c =
    let f = c.args.frame.now in
    check_passed (halves_rules (together f)) (kind_rules f) c.check_kind.ensures c.in_ok-check_kind.was
    ∙ ap (λ (n : ℕ). first_of (halves_rules n)) (together_is f c.beside.result c.beside.ensures)
    ∙ c.check_sectors.ensures
