use Rattle.std.proofs.Common.{◌≤◌, length, ap, ◌∙◌, arith}
use Rattle.chw_bits.specs.Bits.{number_of}
use Rattle.netlist.specs.Operators.{operator2}
use Rattle.net_sim.specs.Tables.{value_in}
use Rattle.net_sim.proofs.Made.{operator2_narrow}
use Rattle.net_sim.proofs.narrow_step.made_of_wires.Goals as goal

pub returns-clause-number : goal.returns-clause-number
returns-clause-number c =
    let op = c.args.op in
    let x = value_in c.args.words.now c.args.left.number in
    let y = value_in c.args.words.now c.args.right.number in
    let first = c.word_at-first.ensures in
    let second = c.word_at-second.ensures in
    let narrow : length x ≤ 128 = let same = ap length first in omega arith in
    record {
      number =
          c.made_of_two.ensures ∙ ap (λ u. number_of (operator2 op u c.word_at-second.result.now)) first
          ∙ ap (λ u. number_of (operator2 op x u)) second;
      narrow = operator2_narrow op x y c.requires.suit narrow;
    }
