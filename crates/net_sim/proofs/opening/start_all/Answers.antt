use Rattle.std.proofs.Common.{List, [], Bool, length, map, ◌∙◌}
use Rattle.std.proofs.lemmas.List.{length-map}
use Rattle.net_sim.specs.Opening.{IsStarted, initial_bits}
use Rattle.net_sim.proofs.First.{started_cases, started_there}
use Rattle.net_sim.proofs.Writing.{fits_table, written_more}
use Rattle.net_sim.proofs.opening.start_all.Goals as goal

pub start-requires : goal.start-requires
start-requires c =
    fits_table c.args.flat.now c.loop-place.words c.cell_at.result.now c.requires.sound (c.loop-place.invariant.widths ∙ c.requires.table)
    (_, c.cell_at.ensures)

pub loop-place-preserved : goal.loop-place-preserved
loop-place-preserved c =
    let flat = c.args.flat.now in
    let l = c.loop-place in
    let cell = c.cell_at.result.now in
    let fits = fits_table flat l.words cell c.requires.sound (l.invariant.widths ∙ c.requires.table) (_, c.cell_at.ensures) in
    record {
      written =
          written_more (List Bool) [] IsStarted (λ w cell old. initial_bits cell) flat c.args.words.now l.words c.start.new.words l.place cell
          c.requires.sound (started_cases cell)
          (started_there fits.0 (length l.words) (map length l.words) cell fits.1 (length-map l.words length)) c.cell_at.ensures
          l.invariant.written c.start.ensures.started;
      widths = c.start.ensures.widths ∙ l.invariant.widths;
    }
