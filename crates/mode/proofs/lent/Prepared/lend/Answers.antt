use borrow.Author.Rules.{rules}
use Rattle.mode.proofs.lent.Prepared.lend.Goals as goal

pub invariant_of-pads : goal.invariant_of-pads
invariant_of-pads c =
    let p = c.args.self.now in
    record { ready = record { table = c.args.table.now.made; rounds = p.ready.pads.rounds; beta = p.ready.pads.beta } }

pub invariant_of-result : goal.invariant_of-result
invariant_of-result c =
    let p = c.args.self.now in
    record { ready = record { pads = search rules; are_powers = p.powers.made; alpha = p.ready.alpha } }
