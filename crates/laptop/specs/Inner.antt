-- The calls that the code's enum names. Assumes nothing: this is a definition.
use Rattle.std.specs.Prelude.{List, ℕ}
use Rattle.history.specs.Volume.{Call, first, second, third, mend}
use Rattle.laptop.specs.declared.Step.{Step}
use Rattle.laptop.specs.declared.Step.TheVariants.{Mend, First, Second, Third}

abbrev pub call_of : Step → List ℕ → Call
call_of Mend P = mend
call_of First P = first P
call_of Second P = second P
call_of Third P = third P
