use Rattle.std.proofs.Common.{List, ℕ, ◌++◌, ◌∙◌, ap}
use Rattle.bit_laws.specs.BitNames.{further}
use Rattle.bit_laws.specs.Blast.{on_each, shift_nodes}
use Rattle.bit_laws.specs.Gates.Gate.{buffer}
use Rattle.bit_blast.specs.Names.{lowest, names_of}
use Rattle.bit_blast.specs.Shifts.{mover}
use Rattle.bit_blast.proofs.Adding.{added_as, both_added}
use Rattle.bit_blast.proofs.Places.{lowest_names}
use Rattle.bit_blast.proofs.shifts.shift.Goals as goal

pub returns : goal.returns
returns c = λ flat.
    let k = c.args.w.number in
    let n = c.args.width in
    let before =
    shift_nodes (mover c.args.way (further k 0)) k (lowest flat c.args.a.number n) (lowest flat c.args.b.number c.args.amount) in
    added_as flat c.args.nodes.now.items c.on_each.new.nodes.items _ _
    (ap (λ (q : List (List ℕ)). before ++ on_each buffer q (names_of flat c.in_ok-bits.bits n)) (lowest_names flat c.args.w n)
    ∙ ap (λ (q : List (List ℕ)). before ++ on_each buffer (lowest flat k n) q) (c.in_ok-bits.ensures.named flat))
    (both_added flat c.args.nodes.now.items _ c.on_each.new.nodes.items _ _ (c.in_ok-bits.ensures.made flat) (c.in_ok-on_each.ensures flat))
