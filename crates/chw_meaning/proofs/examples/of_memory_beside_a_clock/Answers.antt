use Rattle.chw_meaning.proofs.TopsShown.{other_tick_shown, both_tick_shown}
use Rattle.chw_meaning.proofs.examples.of_memory_beside_a_clock.Goals as goal

pub returns : goal.returns
returns c =
    let so = c.computed_meaning_is_so.ensures in
    record {
      other = other_tick_shown so.given so.ports so.fit so.meaning;
      both = both_tick_shown so.given so.ports so.fit so.meaning;
    }
