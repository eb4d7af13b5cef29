use Rattle.std.proofs.Common.{Bool, true, length, map, ap, ◌∙◌, arith}
use Rattle.std.proofs.lemmas.List.{with_items_is}
use Rattle.waves.proofs.Tables.{level_count}
use Rattle.waves.proofs.event.put_event.Goals as goal

pub returns-clause-table : goal.returns-clause-table
returns-clause-table c = record {
  levels = λ some. ap length c.in_ok-made.ensures.levels ∙ level_count c.args.ports.now true c.args.event.now 0 c.args.ports.now.domains;
  inputs =
      ap (map (length {A = Bool})) (with_items_is c.args.last.now.inputs c.renew.new.values (omega arith) ∙ c.renew.ensures ∙ c.as_slice.ensures) ∙ c.requires.inputs;
  outputs = ap (map (length {A = Bool})) (with_items_is c.args.last.now.outputs c.renew-2.new.values (omega arith) ∙ c.renew-2.ensures) ∙ c.requires.outputs;
}
