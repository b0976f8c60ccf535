use Rattle.std.proofs.Common.{◌≡◌, ℕ, ◌<◌, length, get_or}
use lib.Bits.{bit_xor}
use Rattle.block.proofs.xor_bytes.Given as goal

abbrev pub invariant-loop-i : goal.invariant-loop-i
invariant-loop-i l = (length l.out ≡ length l.a) × ((k : ℕ) → k < l.i → get_or l.out k 0 ≡ bit_xor (get_or l.a k 0) (get_or l.b k 0))
