use Rattle.std.proofs.Common.{◌∷◌, length, map, sym, ap, subst, ◌∙◌}
use Rattle.std.proofs.lemmas.List.{with_items_is}
use Rattle.net_sim.specs.Steps.{HaveConstants}
use Rattle.net_sim.specs.Ticking.{HaveSizes}
use Rattle.net_sim.proofs.Constants.{constants_after}
use Rattle.net_sim.proofs.Kept.{fit_both, stands_both, step_along}
use Rattle.net_sim.proofs.Stepped.{sizes_after, stands_after}
use Rattle.net_sim.proofs.Values.{every_value}
use Rattle.net_sim.proofs.sim.Sim.tick.Goals as goal

pub returns-clause-table : goal.returns-clause-table
returns-clause-table c =
    let old = c.args.self.now in
    let table = c.requires.table in
    let is = with_items_is old.words c.advance.new.words (c.advance.auto.words ∙ c.deref_mut.ensures.len) in
    let next = with_items_is old.next c.advance.new.next (c.advance.auto.next ∙ c.deref_mut-2.ensures.len) in
    let all = with_items_is old.memories c.advance.new.memories (c.advance.auto.memories ∙ c.deref_mut-3.ensures.len) in
    let step = step_along old.flat.now c.args.event.now _ old.words.items _ old.memories.items c.advance.new.words c.advance.new.memories
    c.deref_mut.ensures.value c.deref_mut-3.ensures.value c.advance.ensures.stepped in
    record {
      sound = table.sound;
      order = table.order;
      steps = table.steps;
      keepers = table.keepers;
      widths = ap (map length) is ∙ c.advance.ensures.widths ∙ ap (map length) c.deref_mut.ensures.value ∙ table.widths;
      constants = subst (HaveConstants old.flat.now) (sym is)
          (constants_after old.flat.now c.args.event.now old.words.items c.advance.new.words old.memories.items c.advance.new.memories table.constants step);
      next = ap (map length) next ∙ c.advance.ensures.next ∙ sym c.advance.ensures.widths ∙ sym (ap (map length) is);
      memories =
          fit_both c.advance.new.words _ c.advance.new.memories _ is all c.advance.ensures.memories;
      sizes = subst (HaveSizes old.flat.now) (sym all)
          (sizes_after old.flat.now c.args.event.now old.words.items c.advance.new.words old.memories.items c.advance.new.memories table.sizes step);
      room = table.room;
      outputs = table.outputs;
    }

pub returns-clause-stands : goal.returns-clause-stands
returns-clause-stands c = λ past stands.
    let old = c.args.self.now in
    let table = c.requires.table in
    let event = c.args.event.now in
    let is = with_items_is old.words c.advance.new.words (c.advance.auto.words ∙ c.deref_mut.ensures.len) in
    let all = with_items_is old.memories c.advance.new.memories (c.advance.auto.memories ∙ c.deref_mut-3.ensures.len) in
    let step = step_along old.flat.now event _ old.words.items _ old.memories.items c.advance.new.words c.advance.new.memories
    c.deref_mut.ensures.value c.deref_mut-3.ensures.value c.advance.ensures.stepped in
    let shows = every_value old.flat.now old.order.now.cells old.words.items old.memories.items event past table.sound table.order
    c.requires.settled stands in
    let after = stands_after old.flat.now old.words.items c.advance.new.words old.memories.items c.advance.new.memories event past table.sound
    table.widths table.sizes shows stands step in
    stands_both old.flat.now c.advance.new.words _ c.advance.new.memories _ (event ∷ past) is all after
