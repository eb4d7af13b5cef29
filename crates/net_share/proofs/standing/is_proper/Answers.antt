use Rattle.std.proofs.Common.{ℕ, List, length, ap, sym, subst, ◌∙◌}
use Rattle.std.specs.List.{AllByRecursion}
use Rattle.netlist.proofs.Lengths.{fits_cell}
use Rattle.netlist.specs.Sound.{IsWire}
use Rattle.netlist.specs.Wires.{read_by}
use Rattle.share_laws.specs.Shares.IsProper.{of_input}
use Rattle.net_share.specs.Copying.{IsCutWithin}
use Rattle.net_share.proofs.Copies.{cut_within}
use Rattle.net_share.proofs.Looking.{reads_exist}
use Rattle.net_share.proofs.Proper.{tells_proper}
use Rattle.net_share.proofs.standing.is_proper.Goals as goal

pub copies-requires-clause-reads : goal.copies-requires-clause-reads
copies-requires-clause-reads c =
    let flat = c.args.flat.now in
    let cell = c.in-Some.cell.now in
    subst (λ (ws : List ℕ). AllByRecursion (IsWire ws) (read_by cell)) (sym c.as_slice.ensures)
    (reads_exist flat c.args.w cell c.requires.sound c.in-Some.ensures.driven)

pub copies-requires-clause-cut : goal.copies-requires-clause-cut
copies-requires-clause-cut c =
    let flat = c.args.flat.now in
    let cell = c.in-Some.cell.now in
    subst (λ (ws : List ℕ). IsCutWithin ws cell) (sym c.as_slice.ensures)
    (cut_within (length flat.ports.domains) flat.widths cell (fits_cell flat cell c.requires.sound c.in-Some.ensures.driven.has))

pub copies-requires-clause-classes : goal.copies-requires-clause-classes
copies-requires-clause-classes c = c.requires.classes.of_each ∙ sym (ap length c.as_slice.ensures)

pub copies-requires-clause-known : goal.copies-requires-clause-known
copies-requires-clause-known c = c.requires.classes.known_of_each ∙ sym (ap length c.as_slice.ensures)

pub returns-in-None : goal.returns-in-None
returns-in-None c = of_input c.in-None.ensures.input

pub returns-in-Some : goal.returns-in-Some
returns-in-Some c =
    let flat = c.args.flat.now in
    tells_proper flat c.requires.sound c.args.classes.now c.requires.classes c.as_slice.result.now c.args.w c.in-Some.cell.now c.copies.result
    c.as_slice.ensures c.in-Some.ensures.driven c.copies.ensures
