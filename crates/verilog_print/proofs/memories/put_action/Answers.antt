use Rattle.std.proofs.Common.{codes, length}
use Rattle.verilog_text.specs.Text.{name_in, shown_text, taking_text, write_text}
use Rattle.verilog_print.specs.Scopes.{scope_of}
use Rattle.verilog_print.proofs.Joined.{five_pieces}
use Rattle.verilog_print.proofs.memories.put_action.Goals as goal

pub returns : goal.returns
returns c =
    let scope = scope_of c.args.scope.now in
    let w = c.args.wire in
    let words = c.args.words.now in
    five_pieces c.args.out.now.items (codes "begin ") (write_text scope w.number (length words) c.args.inputs.now) (codes " ")
    (taking_text (name_in scope w) (shown_text scope w.number words c.args.inputs.now.read)) (codes " end") _ _ _ _ _
    c.in_ok-put.ensures c.in_ok-put_write.ensures c.in_ok-put-2.ensures c.in_ok-put_showing.ensures c.in_ok-put-3.ensures
