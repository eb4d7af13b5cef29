use Rattle.std.proofs.Common.{◌≡◌, List, [], Bool, length, refl, rules, ◌∙◌, arith}
use Rattle.net_sim.specs.Tables.{value_in}
use Rattle.net_sim.specs.Ticking.{IsKeeperOf, Moves}
use Rattle.net_sim.proofs.Domains.{Below, below_moves, domain_moved, domain_none, domain_still, moves_below, written_as}
use Rattle.net_sim.proofs.tick.put_all.Goals as goal

pub loop-number-init : goal.loop-number-init
loop-number-init c = record {
  written = domain_none (List Bool) [] IsKeeperOf (λ n cell is. is) (λ w cell old. value_in c.args.next.now w) c.args.flat.now c.args.event.now c.requires.sound c.args.words.now;
  widths = refl;
}

pub loop-number-preserved : goal.loop-number-preserved
loop-number-preserved c =
    let l = c.loop-number in
    record {
      written =
          domain_moved (List Bool) [] IsKeeperOf (λ n cell is. is) (λ w cell old. value_in c.args.next.now w) c.args.flat.now c.args.event.now c.requires.sound l.number c.args.words.now l.words c.put_domain.new.words
          (let t = c.ticks.ensures in search rules) l.invariant.written c.put_domain.ensures.put;
      widths = c.put_domain.ensures.widths ∙ l.invariant.widths;
    }

pub loop-number-preserved-then-not-ticks : goal.loop-number-preserved-then-not-ticks
loop-number-preserved-then-not-ticks c =
    let l = c.loop-number in
    record {
      written =
          domain_still (List Bool) [] IsKeeperOf (λ n cell is. is) (λ w cell old. value_in c.args.next.now w) c.args.flat.now c.args.event.now c.requires.sound l.number c.args.words.now l.words
          (let t = c.ticks.ensures in search rules) l.invariant.written;
      widths = l.invariant.widths;
    }

pub returns-clause-put : goal.returns-clause-put
returns-clause-put c =
    let flat = c.args.flat.now in
    let event = c.args.event.now in
    let l = c.loop-number in
    let all : l.number ≡ length flat.ports.domains = omega (arith, c.requires.keepers.count) in
    written_as (List Bool) [] (Below IsKeeperOf event l.number) (Moves event) (λ w cell old. value_in c.args.next.now w) flat c.args.words.now l.words (length flat.cells)
    (moves_below flat event l.number c.requires.sound all) (below_moves event l.number) l.invariant.written
