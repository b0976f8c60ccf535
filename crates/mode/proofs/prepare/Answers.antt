use mathlib.Core.Path.{refl}
use Rattle.block.specs.Value.{value}
use Rattle.mode.specs.Prepared.{PreparedFor}
use Rattle.mode.specs.Sealing.{Key, key_from}
use Rattle.mode.proofs.Laws.{round_keys_are, hash_key_is}
use Rattle.mode.proofs.Preparing.{scheme_is}
use Rattle.mode.proofs.Sizes.{key_size}
use borrow.Author.Rules.{rules}
use Rattle.mode.proofs.prepare.Goals as goal

pub returns : goal.returns
unfolding value
returns c =
    let k : Key = key_from c.args.key.now in
    let size = key_size k c.requires in
    let whose : PreparedFor k c.args.table.now.words c.expand.new.w c.powers-powers.result.words c.encrypt-alpha.result c.encrypt-beta.result = record {
      round_keys_same = round_keys_are k.bytes size _ refl c.expand.ensures;
      hash_key_same = hash_key_is k.bytes size c.powers-powers.ensures c.load.ensures;
      ready = record {
        pads = record { table = c.args.table.now.made; rounds = search rules; beta = c.encrypt-beta.ensures };
        are_powers = c.powers-powers.result.made;
        alpha = c.encrypt-alpha.ensures;
      };
    } in
    record { prepared = whose; of_key = scheme_is whose }
