use Rattle.std.proofs.Common.{◌≡◌, ◌∷◌, length, map, sym, ap, subst, ◌∙◌}
use Rattle.std.proofs.lemmas.List.{with_items_is}
use Rattle.net_sim.specs.Stepping.{ShowsValues, StandsFor}
use Rattle.net_sim.specs.Steps.{HaveConstants, HaveSteps}
use Rattle.net_sim.specs.Tables.{values_in}
use Rattle.net_sim.specs.Ticking.{MemoriesFit}
use Rattle.netlist.specs.NetValue.{ReadValues}
use Rattle.net_sim.proofs.Constants.{constants_settled}
use Rattle.net_sim.proofs.Kept.{stands_kept}
use Rattle.net_sim.proofs.Moving.{fit_along}
use Rattle.net_sim.proofs.OutputBits.{gives, output_widths}
use Rattle.net_sim.proofs.Values.{every_value}
use Rattle.net_sim.proofs.sim.Sim.inputs.Goals as goal

pub returns-clause-table : goal.returns-clause-table
returns-clause-table c =
    let old = c.args.self.now in
    let table = c.requires.table in
    let count = c.enter.auto.words ∙ c.deref_mut.ensures.len in
    let room_count = c.enter.auto.room ∙ c.deref_mut-2.ensures.len in
    let is = with_items_is old.words c.enter.new.words count in
    let room = with_items_is old.room c.enter.new.room room_count in
    let outs = with_items_is old.outputs c.put_outputs.new.outputs (c.put_outputs.auto.outputs ∙ c.deref_mut-3.ensures.len) in
    let widths : map length c.enter.new.words ≡ map length old.words.items = c.enter.ensures.widths ∙ ap (map length) c.deref_mut.ensures.value in
    record {
      sound = table.sound;
      order = table.order;
      steps = table.steps;
      keepers = table.keepers;
      widths = ap (map length) is ∙ widths ∙ table.widths;
      constants = subst (HaveConstants old.flat.now) (sym is)
          (constants_settled old.flat.now c.args.event.now c.enter.new.words c.enter.ensures.settled);
      next = table.next ∙ sym widths ∙ sym (ap (map length) is);
      memories = subst (λ l. MemoriesFit l old.memories.items) (sym is) (fit_along old.words.items c.enter.new.words old.memories.items (sym widths) table.memories);
      sizes = table.sizes;
      room = ap length room ∙ c.enter.auto.room ∙ ap length c.deref_mut-2.ensures.value ∙ table.room;
      outputs = ap (map length) (outs ∙ c.put_outputs.ensures ∙ ap (λ l. values_in l old.flat.now.outputs) (c.deref.ensures.value ∙ is))
          ∙ output_widths old.flat.now c.enter.new.words table.sound (widths ∙ table.widths);
    }

pub returns-clause-stands : goal.returns-clause-stands
returns-clause-stands c = λ past stands.
    let old = c.args.self.now in
    let is = with_items_is old.words c.enter.new.words (c.enter.auto.words ∙ c.deref_mut.ensures.len) in
    let before = subst (λ l. StandsFor old.flat.now l old.memories.items past) (sym c.deref_mut.ensures.value) stands in
    subst (λ l. StandsFor old.flat.now l old.memories.items past) (sym is)
    (stands_kept old.flat.now c.deref_mut.result.now c.enter.new.words old.memories.items past before c.enter.ensures.keepers)

pub returns-clause-values : goal.returns-clause-values
returns-clause-values c = λ past stands.
    let old = c.args.self.now in
    let is = with_items_is old.words c.enter.new.words (c.enter.auto.words ∙ c.deref_mut.ensures.len) in
    let before = subst (λ l. StandsFor old.flat.now l old.memories.items past) (sym c.deref_mut.ensures.value) stands in
    let after = stands_kept old.flat.now c.deref_mut.result.now c.enter.new.words old.memories.items past before c.enter.ensures.keepers in
    subst (λ l. ShowsValues old.flat.now l (c.args.event.now ∷ past)) (sym is)
    (every_value old.flat.now old.order.now.cells c.enter.new.words old.memories.items c.args.event.now past c.requires.table.sound
    c.requires.table.order c.enter.ensures.settled after)

pub returns-clause-outputs : goal.returns-clause-outputs
returns-clause-outputs c = λ past stands.
    let old = c.args.self.now in
    let flat = old.flat.now in
    let is = with_items_is old.words c.enter.new.words (c.enter.auto.words ∙ c.deref_mut.ensures.len) in
    let outs = with_items_is old.outputs c.put_outputs.new.outputs (c.put_outputs.auto.outputs ∙ c.deref_mut-3.ensures.len) in
    let before = subst (λ l. StandsFor flat l old.memories.items past) (sym c.deref_mut.ensures.value) stands in
    let after = stands_kept flat c.deref_mut.result.now c.enter.new.words old.memories.items past before c.enter.ensures.keepers in
    let shows = every_value flat old.order.now.cells c.enter.new.words old.memories.items c.args.event.now past c.requires.table.sound
    c.requires.table.order c.enter.ensures.settled after in
    subst (ReadValues flat (c.args.event.now ∷ past) flat.outputs)
    (sym (outs ∙ c.put_outputs.ensures ∙ ap (λ l. values_in l flat.outputs) (c.deref.ensures.value ∙ is)))
    (gives flat c.enter.new.words (c.args.event.now ∷ past) c.requires.table.sound shows)

pub enter-requires-clause-steps : goal.enter-requires-clause-steps
enter-requires-clause-steps c =
    let old = c.args.self.now in
    subst (HaveSteps old.flat.now old.order.now.cells) (sym c.as_slice.ensures.value) c.requires.table.steps

pub enter-requires-clause-constants : goal.enter-requires-clause-constants
enter-requires-clause-constants c =
    subst (HaveConstants c.args.self.now.flat.now) (sym c.deref_mut.ensures.value) c.requires.table.constants
