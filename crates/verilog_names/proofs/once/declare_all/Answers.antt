use Rattle.std.proofs.Common.{[], ◌∷◌, ◌++◌, map, subst}
use Rattle.std.specs.List.{flat_map}
use Rattle.verilog_names.proofs.OnceNames.{declares_then}
use Rattle.verilog_names.specs.Declares.{Declares}
use Rattle.verilog_rules.specs.Declarations.{port_word, words_by}
use Rattle.verilog_names.proofs.once.declare_all.Goals as goal

pub returns : goal.returns
returns c =
    let first = port_word c.args.m.now.first in
    let others = c.as_slice.result.now in
    let items = c.as_slice-2.result.now in
    let ports = declares_then (first ∷ []) (map port_word others) c.in_ok-declare_port.ensures c.in_ok-declare_ports.ensures in
    let all = declares_then (first ∷ map port_word others) (flat_map words_by items) ports c.in_ok-declare_items.ensures in
    subst (λ is. Declares c.args.known.now c.declare_items.new.known c.args.least.now c.declare_items.new.least (first ∷ (map port_word c.args.m.now.others ++ flat_map words_by is))) c.as_slice-2.ensures
    (subst (λ ps. Declares c.args.known.now c.declare_items.new.known c.args.least.now c.declare_items.new.least (first ∷ (map port_word ps ++ flat_map words_by items))) c.as_slice.ensures all)
