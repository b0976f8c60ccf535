use mathlib.Core.Path.{sym, ◌∙◌}
use Rattle.mode.specs.Sealing.{triple}
use Rattle.answers.specs.Lent.{args_of}
use Rattle.history.specs.Volume.{mirror}
use Rattle.writes.specs.Write.{stages, calls_leave}
use Rattle.laptop.proofs.Steps.{wrote_whole, wrote_doubtful, wrote_refused}
use borrow.Author.Rules.{rules}
use Rattle.laptop.proofs.write.Goals as goal
use Rattle.laptop.proofs.write.Goals.{in-Doubtful, in_default}

pub returns-in_err-found : goal.returns-in_err-found
returns-in_err-found c = wrote_refused _ _ _ _ _ c.in_err-found.ensures (search rules)

pub returns : goal.returns
returns c =
    elim c.match-found.branch [
      | in-Doubtful w ↦
          wrote_doubtful _ _ _ _ c.in_ok-found.ensures w.in-Doubtful.is
          (w.make_call.ensures ∙ (λ i. (triple (sym w.local-is i) (sym w.tags-is i) (sym w.remote-is i), sym w.map-is i))) c.run_stages.ensures
      | in_default w ↦
          wrote_whole _ _ _ _ c.in_ok-found.ensures w.in_default.not-Doubtful
          ((λ i. calls_leave mirror (args_of c.args.volume.now c.args.i) (stages c.args.p.now) (triple (sym w.local-is i) (sym w.tags-is i) (sym w.remote-is i), sym w.map-is i)) ∙ c.run_stages.ensures)
    ]
