-- The nets of which `emit` writes the text: the ports of flat nets hold, and there is one net and one text in each form.
use Rattle.std.proofs.Common.{◌≡◌, ◌∙◌, sym, ap, ℕ, List, subst}
use Rattle.bit_laws.specs.Blast.{blast}
use Rattle.blif_text.specs.Printed.{blif_text}
use Rattle.chw_clock.specs.declared.event.Ports.{Ports}
use Rattle.chw_cli.specs.Answer.{IsNetIn, IsSharedFor, IsTextIn}
use Rattle.chw_cli.specs.Exact.{OneNetIn, OneTextIn}
use Rattle.chw_terms.specs.declared.program.Program.{Program}
use Rattle.chw_words.specs.declared.command.EmitForm.{EmitForm}
use Rattle.chw_words.specs.declared.command.EmitForm.TheVariants.{Verilog, Shared, Blif}
use Rattle.net_flat.specs.Flattened.{IsFlatOf}
use Rattle.net_rules.specs.PortsHold.{PortsHold}
use Rattle.net_rules.specs.WellFormed.{NamesHold, WellFormed}
use Rattle.net_rules.specs.declared.well_formed.NetCode.TheVariants.{Name}
use Rattle.netlist.specs.Orders.{HasNoLoop}
use Rattle.netlist.specs.Sound.{Sound}
use Rattle.netlist.specs.declared.net.Flat.{Flat}
use Rattle.netlist.specs.declared.net.Net.{Net}
use Rattle.share_laws.specs.Shares.{Shares, as_net}
use Rattle.verilog_text.specs.Text.{net_text}
use Rattle.answers.specs.Compilation.Laws.{OneCompiled}

-- the ports of the flat net of a well formed net hold
pub ports_hold : (net : Net) (flat : Flat) → WellFormed net → IsFlatOf net flat → PortsHold flat.ports
ports_hold net flat well f =
    let hold : NamesHold net f.place f.m = well.rules f.place f.m f.top.stands Name in
    subst PortsHold (sym f.ports) (hold.top f.top.last).rules

-- a sound flat net without a loop, whose ports hold, has at most one shared net
abbrev pub OneShared : Type 0
OneShared = (flat a b : Flat) → Sound flat → HasNoLoop flat → PortsHold flat.ports → Shares flat a → Shares flat b → a ≡ b

shared_once : OneCompiled → OneShared → (p : Program) (budget other : ℕ) (a b : Net) → IsSharedFor p budget a → IsSharedFor p other b → a ≡ b
shared_once once one p budget other a b x y =
    let same : x.flat ≡ y.flat = (once p budget other x.from y.from x.flat y.flat x.compiles y.compiles).1 in
    let hold : PortsHold x.flat.ports = subst (λ (ports : Ports). PortsHold ports) x.shares.ports (ports_hold a x.shared x.well_formed x.flattens) in
    let shares : Shares x.flat y.shared = subst (λ (flat : Flat). Shares flat y.shared) (sym same) y.shares in
    x.same ∙ ap as_net (one x.flat x.shared y.shared x.from_sound x.compiles.circuit.no_loop hold x.shares shares) ∙ sym y.same

pub one_net_in : OneCompiled → OneShared → OneNetIn
one_net_in once one Verilog p budget other a b x y = (once p budget other a b x.flat y.flat x.compiles y.compiles).0
one_net_in once one Shared p budget other a b x y = shared_once once one p budget other a b x y
one_net_in once one Blif p budget other a b x y = (once p budget other a b x.0 y.0 x.1 y.1).0

pub one_text_in : OneCompiled → OneShared → OneTextIn
one_text_in once one Verilog p budget other a b x y = x.2 ∙ ap net_text (one_net_in once one Verilog p budget other x.0 y.0 x.1 y.1) ∙ sym y.2
one_text_in once one Shared p budget other a b x y = x.2 ∙ ap net_text (one_net_in once one Shared p budget other x.0 y.0 x.1 y.1) ∙ sym y.2
one_text_in once one Blif p budget other a b x y =
    x.same ∙ ap (λ (flat : Flat). blif_text (blast flat)) (once p budget other x.net y.net x.flat y.flat x.compiles y.compiles).1 ∙ sym y.same
