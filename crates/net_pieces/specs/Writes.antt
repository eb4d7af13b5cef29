-- What a memory cuts from its write.
use Rattle.std.specs.Prelude.{ℕ, ◌+◌, ◌-◌, List}
use Rattle.chw_base.specs.declared.index.WireId.{WireId}
use Rattle.netlist.specs.declared.net.Cell.TheVariants.{Cut}
use Rattle.net_built.specs.Wires.{wire, Piece, one, ◌▸◌, after}
use Rattle.net_built.specs.Words.{only}

-- whether to write, where and what, from a write of words of so many bits at addresses of k bits
abbrev pub write_cuts : (width k at : ℕ) → List WireId → Piece
write_cuts width k at write =
    let p : Piece =
    one 1 (Cut (wire at) (only write) (k + width) (k + width))
    ▸ one k (Cut (wire (at + 1)) (only write) (k + width - 1) width) in
    p ▸ one width (Cut (wire (after at p)) (only write) (width - 1) 0)
