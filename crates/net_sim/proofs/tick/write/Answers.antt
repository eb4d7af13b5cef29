use Rattle.std.proofs.Common.{◌≡◌, ◌<◌, [], length, sym, ap, subst, ◌∙◌, arith}
use Rattle.std.proofs.lemmas.List.{get_or_default}
use Rattle.net_sim.specs.Tables.{value_in}
use Rattle.net_sim.proofs.Moving.{memories_written, written_has_words}
use Rattle.net_sim.proofs.Wiring.{is_wire, wire_within, wire_width}
use Rattle.net_sim.proofs.tick.write.Goals as goal

pub write_ram-requires-clause-words : goal.write_ram-requires-clause-words
write_ram-requires-clause-words c =
    let words = c.args.words.now in
    let memories = c.args.memories.now in
    let w = c.in-Ram.w in
    let fits = rw c.in-Ram.is at c.requires.fits.1 in
    let ram = fits.1.5 in
    let there : w.number < length memories = omega (arith, wire_within words w (is_wire _ w _ ram.1), c.requires.memories.count) in
    let memory = get_or_default memories w.number c.index-memories-w.result [] there in
    let value = c.word_at-in-Ram-2.ensures in
    λ address lt.
    ap (λ l. length (value_in l address)) memory
    ∙ c.requires.memories.widths w.number address (subst (λ l. address < length l) memory lt)
    ∙ wire_width words w ram.0 ram.1 ∙ sym (wire_width words c.in-Ram.inputs.value ram.0 ram.2) ∙ ap length (sym value)

pub returns-in-Ram-clause-memories : goal.returns-in-Ram-clause-memories
returns-in-Ram-clause-memories c =
    let words = c.args.words.now in
    let memories = c.args.memories.now in
    let w = c.in-Ram.w in
    let fits = rw c.in-Ram.is at c.requires.fits.1 in
    let ram = fits.1.5 in
    let there : w.number < length memories = omega (arith, wire_within words w (is_wire _ w _ ram.1), c.requires.memories.count) in
    let memory = get_or_default memories w.number c.index-memories-w.result [] there in
    let value = c.word_at-in-Ram-2.result.now in
    let wide : length value ≡ length (value_in words w.number) =
    ap length c.word_at-in-Ram-2.ensures ∙ wire_width words c.in-Ram.inputs.value ram.0 ram.2 ∙ sym (wire_width words w ram.0 ram.1) in
    memories_written words memories w.number c.write_ram.new.memory there c.requires.memories
    (λ address lt.
    let made = c.write_ram.ensures in
    ap (λ l. length (value_in l address)) made
    ∙ written_has_words (length (value_in words w.number)) c.word_at.result.now c.word_at-in-Ram.result.now value _ wide
    (λ place within.
    ap (λ l. length (value_in l place)) memory ∙ c.requires.memories.widths w.number place (subst (λ l. place < length l) memory within))
    address (subst (λ l. address < length l) made lt))
