use Rattle.std.proofs.Common.{ap, ◌∙◌}
use Rattle.name_tables.specs.Names.{is_among}
use Rattle.verilog_names.proofs.WiresFound.{memories_found}
use Rattle.verilog_rules.specs.NameRules.{is_memory}
use Rattle.verilog_names.proofs.wires.Wires.has_memory.Goals as goal

pub returns : goal.returns
returns c =
    c.has.ensures ∙ ap (λ names. is_among names c.args.name.now) c.self.invariant.memories_are ∙ memories_found c.self.inside.wires.items c.args.name.now
    ∙ ap (λ wires. is_memory wires c.args.name.now) c.self.view_is
