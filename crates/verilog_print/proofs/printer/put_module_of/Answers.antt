use Rattle.std.proofs.Common.{◌≡◌, ℕ, ◌+◌, ◌==◌, Bool, true, false, ◌++◌, if◌then◌else◌, refl, ap, ◌∙◌, Bor}
use Rattle.chw_clock.specs.declared.event.Ports.{Ports}
use Rattle.netlist.specs.declared.net.Module.{Module}
use Rattle.verilog_text.specs.Names.{module_name, top_name}
use Rattle.verilog_text.specs.Text.{inner_scope, module_text, top_scope}
use Rattle.verilog_print.specs.Scopes.{scope_of, title}
use Rattle.verilog_print.proofs.printer.put_module_of.Goals as goal

-- the text by what the printer holds is that of the top, or that of another module
by_place : (ports : Bor Ports) (is_top : Bool) (k : ℕ) (m : Module)
    → module_text (scope_of (record { ports = ports; is_top = is_top; inputs = m.inputs })) (title is_top k) m
    ≡ (if is_top then module_text (top_scope ports.now m) top_name m else module_text (inner_scope ports.now m) (module_name k) m)
by_place ports true k m = refl
by_place ports false k m = refl

pub returns : goal.returns
returns c =
    c.in_ok-put_module.ensures
    ∙ ap (λ t. c.args.out.now.items ++ t) (by_place c.args.ports (c.args.number + 1 == c.args.count) c.args.number c.args.body.now)
