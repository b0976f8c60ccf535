-- The lemmas of a loop, a name for each, as the attributes of src/ cite them. Assumes nothing.
use Rattle.block.proofs.Lists.{fill_turn, fill_end}
use Rattle.fips197.proofs.Schedule.{length_key, key_at, key_loaded, extend_start, extend_turn, extend_end}
use Rattle.aes.proofs.Rounds.{entry_of, length_table}

pub ruleset of_table = (fill_turn, fill_end, entry_of, length_table)

pub ruleset of_key = (fill_turn, length_key, key_at, key_loaded)

pub ruleset of_extension = (extend_start, extend_turn, extend_end)
