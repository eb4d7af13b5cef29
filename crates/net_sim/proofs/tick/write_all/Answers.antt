use Rattle.std.proofs.Common.{◌≡◌, List, [], Bool, length, rules, arith}
use Rattle.net_sim.specs.Ticking.{IsRamOf, MovesWords, moved_words}
use Rattle.net_sim.proofs.Domains.{Below, below_words, domain_moved, domain_none, domain_still, ram_keeper, words_below, written_as}
use Rattle.net_sim.proofs.tick.write_all.Goals as goal

pub loop-number-init : goal.loop-number-init
loop-number-init c = record {
  written = domain_none (List (List Bool)) [] IsRamOf ram_keeper (λ w cell old. moved_words c.args.words.now cell old) c.args.flat.now c.args.event.now c.requires.sound c.args.memories.now;
  memories = c.requires.memories;
}

pub loop-number-preserved : goal.loop-number-preserved
loop-number-preserved c =
    let l = c.loop-number in
    record {
      written =
          domain_moved (List (List Bool)) [] IsRamOf ram_keeper (λ w cell old. moved_words c.args.words.now cell old) c.args.flat.now c.args.event.now c.requires.sound l.number c.args.memories.now l.memories c.write_domain.new.memories
          (let t = c.ticks.ensures in search rules) l.invariant.written c.write_domain.ensures.written;
      memories = c.write_domain.ensures.memories;
    }

pub loop-number-preserved-then-not-ticks : goal.loop-number-preserved-then-not-ticks
loop-number-preserved-then-not-ticks c =
    let l = c.loop-number in
    record {
      written =
          domain_still (List (List Bool)) [] IsRamOf ram_keeper (λ w cell old. moved_words c.args.words.now cell old) c.args.flat.now c.args.event.now c.requires.sound l.number c.args.memories.now l.memories
          (let t = c.ticks.ensures in search rules) l.invariant.written;
      memories = l.invariant.memories;
    }

pub returns-clause-written : goal.returns-clause-written
returns-clause-written c =
    let flat = c.args.flat.now in
    let event = c.args.event.now in
    let l = c.loop-number in
    let all : l.number ≡ length flat.ports.domains = omega (arith, c.requires.keepers.count) in
    written_as (List (List Bool)) [] (Below IsRamOf event l.number) (MovesWords event) (λ w cell old. moved_words c.args.words.now cell old) flat c.args.memories.now l.memories (length flat.cells)
    (words_below flat event l.number c.requires.sound all) (below_words event l.number) l.invariant.written
