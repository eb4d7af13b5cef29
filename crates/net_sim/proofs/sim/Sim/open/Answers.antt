use Rattle.std.proofs.Common.{length, map, sym, ap, ◌∙◌}
use Rattle.chw_bits.specs.Bits.{bits_of}
use Rattle.net_sim.proofs.First.{constants_first, fit_first, sizes_first, stands_first, zero_widths}
use Rattle.net_sim.proofs.sim.Sim.open.Goals as goal

pub returns-clause-table : goal.returns-clause-table
returns-clause-table c =
    let flat = c.args.flat.now in
    let sound = c.requires.sound in
    record {
      sound = sound;
      order = c.requires.order;
      steps = c.in_ok-steps.ensures;
      keepers = c.in_ok-keepers.ensures;
      widths = c.in_ok-words.ensures.widths;
      constants = constants_first flat c.in_ok-words.words.items c.in_ok-words.ensures.started;
      next =
          ap (map length) (c.in_ok-next.ensures ∙ ap (map (λ n. bits_of n 0)) c.as_slice.ensures) ∙ zero_widths flat.widths
          ∙ sym c.in_ok-words.ensures.widths;
      memories = fit_first flat c.in_ok-words.words.items c.in_ok-memories.memories.items sound c.in_ok-words.ensures.widths
          c.in_ok-memories.ensures.count c.in_ok-memories.ensures.loaded;
      sizes = sizes_first flat c.in_ok-memories.memories.items sound c.in_ok-memories.ensures.loaded;
      room = sym c.in_ok-room.room.ok.0 ∙ c.in_ok-room.ensures.len;
      outputs = c.in_ok-outputs.ensures;
    }

pub returns-clause-past : goal.returns-clause-past
returns-clause-past c =
    stands_first c.args.flat.now c.in_ok-words.words.items c.in_ok-memories.memories.items c.requires.sound c.in_ok-words.ensures.started
    c.in_ok-memories.ensures.loaded
