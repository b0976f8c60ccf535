-- Demand 3 for the mode. Assumes nothing.
use Rattle.mode.specs.Scheme.{Lawful, dcm, scheme}
use Rattle.mode.specs.Sealing.{sealed}
use Rattle.mode.proofs.Laws.{sound}
use Rattle.history.specs.History.{Demand3}
use Rattle.history.specs.HistoryFrom.{General}
use Rattle.history.specs.Machine.{start}
use Rattle.history.specs.Volume.{mirror}
use Rattle.history.proofs.History.{history_from, start_agrees, history_any}
use Rattle.history.proofs.Images.{AllSound}

-- a number and an address are one tweak among others
pub mirror_sound : AllSound mirror
unfolding mirror sealed scheme dcm
mirror_sound volume = record {
  lawful = λ k s ek es.
      let L : Lawful s (scheme k) = sound.lawful k s ek es in
      record {
        shape = λ a P p. L.shape _ P p;
        left = λ a P p. L.left _ P p;
        right = λ a P p. L.right _ P p;
        onto_left = λ a g x p q e. L.onto_left _ g x p q e;
        onto_right = λ a g x p q e. L.onto_right _ g x p q e;
        sum = λ a P p. L.sum _ P p;
        plain_local = L.plain_local;
        plain_remote = L.plain_remote;
      };
}

pub general : General
general = record { from_agreeing = history_from mirror mirror_sound; from_any_lengths = history_any mirror mirror_sound }

pub demand_3 : Demand3
demand_3 = record {
  from_gone = λ vol v I es m.
      let from = general.from_agreeing vol v start (start_agrees mirror vol v I) in
      (from.0 es m, (from.1 es m).images);
}
