use Rattle.std.proofs.Common.{◌<◌, [], ◌∷◌, ◌++◌, length, set, ap, ◌∙◌, arith}
use Rattle.std.proofs.lemmas.List.{get_or_default}
use Rattle.std.proofs.lemmas.Result.{on_ok_weaker}
use Rattle.net_sim.proofs.Cells.{cell_fits}
use Rattle.net_sim.proofs.Listing.{have_pushed, its_domain}
use Rattle.net_sim.proofs.opening.add_keeper.Goals as goal

pub returns-in-Reg : goal.returns-in-Reg
returns-in-Reg c =
    let flat = c.args.flat.now in
    let keepers = c.args.keepers.now in
    let number = c.in-Reg.domain.number in
    let cell = c.cell_at.result.now in
    let its = its_domain (length flat.ports.domains) flat.widths cell c.in-Reg.domain (cell_fits flat cell c.requires.sound (_, c.cell_at.ensures)) c.in-Reg.is in
    let within : number < length keepers = omega (arith, its.2, c.requires.lists.count) in
    on_ok_weaker c.push.result
    (λ is. have_pushed flat keepers _ number c.args.place cell c.requires.lists c.cell_at.ensures its.1 its.0 within
    (ap (set keepers number) (is ∙ ap (λ l. l ++ c.args.place ∷ []) (get_or_default keepers number _ [] within)))) c.push.ensures
