-- A line with a frame 01 under a hash key of zero. Assumes nothing.
use mathlib.Core.Path.{ap, ◌∙◌}
use mathlib.Core.Option.{Option}
use Prim.Native.Nat.{ℕ}
use Rattle.text.specs.Digits.{decode}
use Rattle.frame.specs.Frame.{unless_refused, frame_answer}
use Rattle.frame.proofs.ZeroHash.{zero_hash_frame}
use Rattle.line.specs.Line.{digit, encode, line_answer, printed, shown, print_line}
use Rattle.line.specs.ZeroHash.{Prints0e}

pub prints_0e : Prints0e
unfolding digit encode line_answer printed shown print_line
prints_0e line e one passes zeros =
    ap (λ (o : Option ℕ). shown (unless_refused o (frame_answer (decode line)))) e ∙ ap shown (zero_hash_frame (decode line) one passes zeros)
