use Rattle.std.proofs.Common.{sym}
use Rattle.net_sim.proofs.Moving.{fit_along}
use Rattle.net_sim.proofs.Stepped.{stepped}
use Rattle.net_sim.proofs.tick.advance.Goals as goal

pub returns-clause-stepped : goal.returns-clause-stepped
returns-clause-stepped c =
    stepped c.args.flat.now c.args.event.now c.args.words.now c.args.next.now c.take_all.new.next c.put_all.new.words c.args.memories.now
    c.write_all.new.memories c.requires.sound c.take_all.ensures.taken c.write_all.ensures.written c.put_all.ensures.put

pub returns-clause-memories : goal.returns-clause-memories
returns-clause-memories c =
    fit_along c.args.words.now c.put_all.new.words c.write_all.new.memories (sym c.put_all.ensures.widths) c.write_all.ensures.memories
