use Rattle.std.proofs.Common.{ap, sym, ◌∙◌}
use Rattle.chw_clock.specs.declared.event.Ports.{Ports}
use Rattle.name_tables.specs.Names.{place_of}
use Rattle.verilog_names.proofs.Domains.{clock_found, clock_missed}
use Rattle.verilog_rules.specs.Declarations.{signal_domain}
use Rattle.verilog_names.proofs.clocks.Clocks.find.Goals as goal

pub returns-then-not-is_clock : goal.returns-then-not-is_clock
returns-then-not-is_clock c =
    sym (clock_missed c.args.self.now.domains c.args.clock.now.bytes.now (sym c.is_clock.ensures ∙ c.if-not-is_clock.true))

pub returns : goal.returns
returns c =
    let name = c.args.clock.now.bytes.now in
    c.find.ensures ∙ ap (λ n. place_of c.self.inside.domains n) c.without.ensures
    ∙ ap (λ ds. place_of ds (signal_domain name)) (c.self.invariant.domains_are ∙ ap (λ (p : Ports). p.domains) c.self.view_is)
    ∙ sym (clock_found c.args.self.now.domains name (sym c.is_clock.ensures ∙ c.if-not-is_clock.false))
