use Rattle.std.proofs.Common.{◌≡◌, List, [], Bool, length, rules, arith}
use Rattle.net_sim.specs.Ticking.{IsKeeperOf, Moves, moved_bits}
use Rattle.net_sim.proofs.Domains.{Below, below_moves, domain_moved, domain_none, domain_still, moves_below, written_as}
use Rattle.net_sim.proofs.tick.take_all.Goals as goal

pub loop-number-init : goal.loop-number-init
loop-number-init c = record {
  written = domain_none (List Bool) [] IsKeeperOf (λ n cell is. is) (λ w cell old. moved_bits c.args.event.now c.args.words.now c.args.memories.now cell) c.args.flat.now c.args.event.now c.requires.sound c.args.next.now;
  widths = c.requires.widths;
}

pub loop-number-preserved : goal.loop-number-preserved
loop-number-preserved c =
    let l = c.loop-number in
    record {
      written =
          domain_moved (List Bool) [] IsKeeperOf (λ n cell is. is) (λ w cell old. moved_bits c.args.event.now c.args.words.now c.args.memories.now cell) c.args.flat.now c.args.event.now c.requires.sound l.number c.args.next.now l.next c.take_domain.new.next
          (let t = c.ticks.ensures in search rules) l.invariant.written c.take_domain.ensures.taken;
      widths = c.take_domain.ensures.widths;
    }

pub loop-number-preserved-then-not-ticks : goal.loop-number-preserved-then-not-ticks
loop-number-preserved-then-not-ticks c =
    let l = c.loop-number in
    record {
      written =
          domain_still (List Bool) [] IsKeeperOf (λ n cell is. is) (λ w cell old. moved_bits c.args.event.now c.args.words.now c.args.memories.now cell) c.args.flat.now c.args.event.now c.requires.sound l.number c.args.next.now l.next
          (let t = c.ticks.ensures in search rules) l.invariant.written;
      widths = l.invariant.widths;
    }

pub returns-clause-taken : goal.returns-clause-taken
returns-clause-taken c =
    let flat = c.args.flat.now in
    let event = c.args.event.now in
    let l = c.loop-number in
    let all : l.number ≡ length flat.ports.domains = omega (arith, c.requires.keepers.count) in
    written_as (List Bool) [] (Below IsKeeperOf event l.number) (Moves event) (λ w cell old. moved_bits c.args.event.now c.args.words.now c.args.memories.now cell) flat c.args.next.now l.next (length flat.cells)
    (moves_below flat event l.number c.requires.sound all) (below_moves event l.number) l.invariant.written
