use Rattle.std.proofs.Common.{codes}
use Rattle.verilog_text.specs.Names.{domain_name}
use Rattle.verilog_text.specs.Text.{initial_line, ram_text}
use Rattle.verilog_print.specs.Parts.{edge}
use Rattle.verilog_print.specs.Scopes.{scope_of}
use Rattle.verilog_print.proofs.Joined.{four_pieces}
use Rattle.verilog_print.proofs.memories.put_ram.Goals as goal

pub returns : goal.returns
returns c =
    let scope = c.args.scope.now in
    let words = c.args.words.now in
    four_pieces c.args.out.now.items (initial_line c.args.wire.number words) (edge (domain_name scope.ports.now.domains c.args.domain))
    (ram_text (scope_of scope) c.args.wire words c.args.inputs.now) (codes "\n") _ _ _ _
    c.in_ok-put_initial_line.ensures c.in_ok-put_edge.ensures c.in_ok-put_action.ensures c.in_ok-put.ensures
