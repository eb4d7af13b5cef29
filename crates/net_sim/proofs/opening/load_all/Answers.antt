use Rattle.std.proofs.Common.{◌≡◌, List, [], Bool, length, sym, ◌∙◌}
use Rattle.net_sim.specs.Opening.{IsRam, initial_words}
use Rattle.net_sim.proofs.Cells.{cell_fits}
use Rattle.net_sim.proofs.First.{ram_cases, ram_there}
use Rattle.net_sim.proofs.Writing.{written_more}
use Rattle.net_sim.proofs.opening.load_all.Goals as goal

pub load-requires : goal.load-requires
load-requires c =
    let flat = c.args.flat.now in
    (length flat.ports.domains, flat.widths, sym c.requires.count ∙ sym c.loop-place.invariant.count, cell_fits flat c.cell_at.result.now c.requires.sound (_, c.cell_at.ensures))

pub loop-place-preserved : goal.loop-place-preserved
loop-place-preserved c =
    let flat = c.args.flat.now in
    let l = c.loop-place in
    let cell = c.cell_at.result.now in
    let fits = cell_fits flat cell c.requires.sound (_, c.cell_at.ensures) in
    let size : length flat.widths ≡ length l.memories = sym c.requires.count ∙ sym l.invariant.count in
    record {
      written =
          written_more (List (List Bool)) [] IsRam (λ w cell old. initial_words cell) flat c.args.memories.now l.memories c.load.new.memories
          l.place cell c.requires.sound (ram_cases cell)
          (ram_there (length flat.ports.domains) (length l.memories) flat.widths cell fits size) c.cell_at.ensures
          l.invariant.written c.in_ok-load.ensures;
      count = c.load.auto.memories ∙ l.invariant.count;
    }
