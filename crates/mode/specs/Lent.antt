-- The mode that is worked out of a key, and the one that is lent. Assumes nothing: these are definitions.
use Rattle.mode.specs.declared.lent.Keyed.{Keyed}
use Rattle.mode.specs.declared.lent.Prepared.{Prepared}
use Rattle.mode.specs.Prepared.{scheme_of}
use Rattle.mode.specs.Scheme.{Scheme}

abbrev pub scheme_prepared : Prepared → Scheme
scheme_prepared p = scheme_of p.words p.powers.words

abbrev pub scheme_lent : Keyed → Scheme
scheme_lent k = scheme_of k.pads.words.now k.powers.now.words
