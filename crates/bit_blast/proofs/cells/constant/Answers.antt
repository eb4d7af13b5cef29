use Rattle.std.proofs.Common.{ℕ, List, ap, ◌∙◌}
use Rattle.netlist.specs.declared.net.Flat.{Flat}
use Rattle.std.proofs.Common.{Bool, length}
use Rattle.bit_laws.specs.Blast.{constants, word}
use Rattle.bit_blast.specs.Names.{lowest}
use Rattle.bit_blast.proofs.Places.{lowest_all}
use Rattle.bit_blast.proofs.Widths.{every_then}
use Rattle.bit_blast.proofs.cells.constant.Goals as goal

pub returns : goal.returns
returns c =
    let flat = c.args.flat.now in
    let w = c.args.w in
    let bits = c.as_slice.result.now in
    let same = c.as_slice.ensures.value in
    every_then c.constants.result flat c.args.nodes.now.items c.constants.new.nodes.items
    (λ (flat : Flat). constants (lowest flat w.number (length bits)) bits) (constants (word flat w.number) c.args.bits.now)
    (ap (λ (own : List Bool). constants (lowest flat w.number (length own)) own) same
    ∙ ap (λ (ws : List (List ℕ)). constants ws c.args.bits.now) (lowest_all flat w.number (length c.args.bits.now) c.requires))
    c.constants.ensures
