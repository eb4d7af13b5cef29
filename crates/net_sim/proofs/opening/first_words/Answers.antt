use Rattle.std.proofs.Common.{length, map, ap, ◌∙◌}
use Rattle.std.proofs.lemmas.List.{with_items_is}
use Rattle.chw_bits.specs.Bits.{bits_of}
use Rattle.net_sim.proofs.First.{zero_widths}
use Rattle.net_sim.proofs.opening.first_words.Goals as goal

pub start_all-requires-clause-table : goal.start_all-requires-clause-table
start_all-requires-clause-table c =
    ap (map length) (c.deref_mut.ensures.value ∙ c.in_ok-words.ensures ∙ ap (map (λ n. bits_of n 0)) c.as_slice.ensures)
    ∙ zero_widths c.args.flat.now.widths

pub returns-clause-widths : goal.returns-clause-widths
returns-clause-widths c =
    ap (map length) (with_items_is c.in_ok-words.words c.start_all.new.words (c.start_all.auto.words ∙ c.deref_mut.ensures.len))
    ∙ c.start_all.ensures.widths
    ∙ ap (map length) (c.deref_mut.ensures.value ∙ c.in_ok-words.ensures ∙ ap (map (λ n. bits_of n 0)) c.as_slice.ensures)
    ∙ zero_widths c.args.flat.now.widths
