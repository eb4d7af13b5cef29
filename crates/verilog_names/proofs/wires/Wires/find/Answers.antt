use Rattle.std.proofs.Common.{◌≡◌, map, sym, ap, ◌∙◌}
use Rattle.name_tables.specs.Names.{place_of}
use Rattle.verilog_names.proofs.WiresFound.{kind_by_place, operand_found}
use Rattle.verilog_names.specs.Found.{kind_at}
use Rattle.verilog_rules.specs.Declarations.{wire_name}
use Rattle.verilog_names.proofs.wires.Wires.find.Goals as goal

pub returns : goal.returns
returns c =
    let name = c.args.name.now.bytes.now in
    let wires = c.args.self.now in
    let place : place_of (map wire_name wires) name ≡ c.find-number.result =
    sym (c.find-number.ensures ∙ ap (λ ns. place_of ns name) c.self.invariant.names_are ∙ ap (λ ws. place_of (map wire_name ws) name) c.self.view_is) in
    record {
      operand_is = operand_found wires c.args.name.now c.find-number.result c.unwrap_or.result place c.unwrap_or.ensures;
      kind_is = c.kind_at.ensures ∙ ap (λ ws. kind_at ws c.find-number.result) (c.deref.ensures.value ∙ c.self.view_is) ∙ kind_by_place wires name c.find-number.result place;
    }
