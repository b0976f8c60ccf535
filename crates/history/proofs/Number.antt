-- The volume's number in the calls on a volume. Assumes nothing.
use mathlib.Core.Path.{◌≡◌, refl, ap, ◌∙◌}
use mathlib.Core.List.{List}
use Prim.Native.Nat.{ℕ}
use Rattle.mode.specs.Sealing.{Triple, Key, sealed}
use Rattle.mode.specs.Scheme.{Scheme}
use Rattle.mode.proofs.TweakFacts.{tweak_facts}
use Rattle.answers.specs.Rules.{Args, volume_of, args}
use Rattle.history.specs.Volume.{Call, refusal, answer, after, sealing, mirror, outcome, read_outcome}
use Rattle.history.specs.Power.{Fate, finished, cut, leaves_call}
use Rattle.history.specs.History.{own}
use Rattle.history.specs.Number.{mirror_before, unnumbered, NumberFacts}

calls_seal : (k : Key) (volume s n i : ℕ) (P : List ℕ) → (sealing mirror (args k volume s n i)).sealed i P ≡ sealed k volume i P
unfolding mirror
calls_seal k volume s n i P = refl

promises_seal : (k : Key) (volume s n i : ℕ) (P : List ℕ) → (own mirror (volume_of k volume s n)).sealed i P ≡ sealed k volume i P
unfolding mirror
promises_seal k volume s n i P = refl

seals_as_before : (k : Key) → mirror k 0 ≡ mirror_before k
unfolding mirror
seals_as_before k = λ i. record {
  sealed = λ address P. tweak_facts.seals_as_before k address P i;
  open_local = (mirror_before k).open_local;
  open_remote = (mirror_before k).open_remote;
}

module _ (v : Triple) (a : Args) (zero : a.volume.number ≡ 0) where
  same : mirror a.volume.key a.volume.number ≡ mirror_before a.volume.key
  same = ap (mirror a.volume.key) zero ∙ seals_as_before a.volume.key

  calls : (c : Call) → outcome mirror v a c ≡ outcome unnumbered v a c
  unfolding outcome answer refusal after
  calls c = ap (λ (S : Scheme). outcome (λ k m. S) v a c) same

  reads : (out : List ℕ) → read_outcome mirror v a out ≡ read_outcome unnumbered v a out
  unfolding read_outcome answer refusal
  reads out = ap (λ (S : Scheme). read_outcome (λ k m. S) v a out) same

  leaves : (c : Call) (f : Fate) → leaves_call mirror v a c f ≡ leaves_call unnumbered v a c f
  unfolding leaves_call refusal after
  leaves c finished = ap (λ (S : Scheme). leaves_call (λ k m. S) v a c finished) same
  leaves c (cut t) = ap (λ (S : Scheme). leaves_call (λ k m. S) v a c (cut t)) same

pub number_facts : NumberFacts
number_facts = record {
  calls_seal = calls_seal;
  promises_seal = promises_seal;
  seals_as_before = seals_as_before;
  calls_as_before = λ v a c e. calls v a e c;
  reads_as_before = λ v a out e. reads v a e out;
  leaves_as_before = λ v a c f e. leaves v a e c f;
}
