use Rattle.std.proofs.Common.{ℕ, ◌++◌, map, not, sym, ap, ◌∙◌}
use Rattle.verilog_text.specs.Text.{clock_item, clock_names, commas, input_item, numbered, output_item, width_in}
use Rattle.verilog_print.specs.Scopes.{input_in, output_in}
use Rattle.verilog_print.proofs.Items.{stands_clocks, stands_numbered, three_runs}
use Rattle.verilog_print.proofs.header.put_header.Goals as goal

pub returns : goal.returns
returns c =
    let ports = c.args.scope.now.ports.now in
    let body = c.args.body.now in
    let widths = c.input_widths-inputs.result.now in
    let input = λ (k : ℕ) (width : ℕ). input_item width (input_in c.args.scope.now k) in
    let clocks = map clock_item (clock_names ports.resets 0 ports.domains) in
    let outputs = numbered (λ k w. output_item (width_in body w) (output_in c.args.scope.now k)) 0 body.outputs in
    three_runs clocks (numbered input 0 widths) outputs _ _ c.args.out.now.items _ _ _
    c.in_ok-put_clocks.ensures c.in_ok-put_inputs.ensures c.in_ok-put_outputs.ensures
    (sym (stands_clocks clock_item ports.resets 0 ports.domains c.is_empty-clocks.result c.is_empty-clocks.ensures))
    (sym (stands_numbered input 0 widths (not c.is_empty-clocks.result) c.is_empty.result c.is_empty.ensures))
    ∙ ap (λ ws. c.args.out.now.items ++ commas (clocks ++ (numbered input 0 ws ++ outputs))) c.input_widths-inputs.ensures
