use Rattle.std.proofs.Common.{List, ◌++◌, ap, sym}
use Rattle.bit_laws.specs.BitNames.{further, wire_name}
use Rattle.bit_laws.specs.Bitnet.{Node}
use Rattle.bit_laws.specs.Blast.{on_each, shift_nodes, shifted_names}
use Rattle.bit_laws.specs.Gates.Gate.{buffer}
use Rattle.bit_blast.specs.Names.{lowest}
use Rattle.bit_blast.specs.Shifts.{mover}
use Rattle.bit_blast.specs.declared.shifts.Way.TheVariants.{Down}
use Rattle.bit_blast.proofs.Adding.{added_as, added_behind}
use Rattle.bit_blast.proofs.ShiftStages.{sign_is}
use Rattle.bit_blast.proofs.shifts.signed_shift_right.Goals as goal

pub returns : goal.returns
returns c = λ flat.
    let k = c.args.w.number in
    let n = c.args.width in
    let xs = lowest flat c.args.a.number n in
    let ss = lowest flat c.args.b.number c.args.amount in
    let rest = shift_nodes (mover Down (further k 0)) k xs ss ++ on_each buffer (lowest flat k n) (shifted_names k xs ss) in
    added_as flat c.args.nodes.now.items c.shift.new.nodes.items _ _
    (ap (λ (ns : List Node). ns ++ rest) (sym (sign_is k (wire_name flat.ports c.args.a.number) n c.requires.some)))
    (added_behind flat c.args.nodes.now.items c.fill.new.nodes.items c.shift.new.nodes.items _ rest c.in_ok-fill.ensures
    (c.in_ok-shift.ensures flat))
