use Rattle.net_means.proofs.Built.{built_means}
use Rattle.net_means.proofs.laws.built_nets_mean.Goals as goal

pub returns : goal.returns
returns c rules p n steps state net flat places tidy typed run normal acyclic built formed is_flat sound order =
    built_means c.facts.ensures c.bits_through_uses.ensures c.encoding_width.ensures c.same_values.ensures c.fields_keep_same.ensures c.what_is_shown_is_yielded.ensures.shown
    c.at_most_one_meaning.ensures.ports c.one_whole.ensures.one c.steps_keep.ensures.origins c.run_gives.ensures.bodies c.run_gives.ensures.top c.runs_begin_with_top.ensures c.all_have_bits.ensures
    rules p n steps state net flat places tidy typed run normal acyclic built formed is_flat sound order
