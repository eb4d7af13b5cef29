use Rattle.std.proofs.Common.{ℕ, List, map, not, sym}
use Rattle.chw_base.specs.declared.index.WireId.{WireId}
use Rattle.verilog_text.specs.Names.{input_text, output_text}
use Rattle.verilog_text.specs.Text.{clock_names, name_in, numbered, port_text}
use Rattle.verilog_print.specs.Scopes.{scope_of}
use Rattle.verilog_print.proofs.Items.{stands_clocks, stands_numbered, three_runs}
use Rattle.verilog_print.proofs.uses.put_use_ports.Goals as goal

pub returns : goal.returns
returns c =
    let ports = c.args.scope.now.ports.now in
    let scope = scope_of c.args.scope.now in
    let clock = λ (name : List ℕ). port_text name name in
    let input = λ (k : ℕ) (w : WireId). port_text (input_text k) (name_in scope w) in
    let output = λ (k : ℕ) (w : WireId). port_text (output_text k) (name_in scope w) in
    three_runs (map clock (clock_names ports.resets 0 ports.domains)) (numbered input 0 c.args.reads.now)
    (numbered output 0 c.args.drives.now) _ _ c.args.out.now.items _ _ _
    c.in_ok-put_clocks.ensures c.in_ok-put_ports.ensures c.in_ok-put_ports-2.ensures
    (sym (stands_clocks clock ports.resets 0 ports.domains c.is_empty-clocks.result c.is_empty-clocks.ensures))
    (sym (stands_numbered input 0 c.args.reads.now (not c.is_empty-clocks.result) c.is_empty.result c.is_empty.ensures))
