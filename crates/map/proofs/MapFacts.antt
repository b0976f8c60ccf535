-- What is proved of maps. Assumes nothing.
use Rattle.map.specs.Map.{MapFacts}
use Rattle.map.proofs.Starting.{words_room, words_least, length-started, words_started, bit-started, started_only}
use Rattle.map.proofs.Counting.{suspects-started, suspects_same}
use Rattle.map.proofs.Checks.{start_refuses, starts, count_refuses, counts}

pub map_facts : MapFacts
map_facts = record {
  room = words_room;
  no_more = words_least;
  started_length = length-started;
  started_words = words_started;
  started_bit = bit-started;
  started_only = started_only;
  all_suspect = suspects-started;
  by_bits_below = suspects_same;
  start_refuses = start_refuses;
  starts = starts;
  count_refuses = count_refuses;
  counts = counts;
}
