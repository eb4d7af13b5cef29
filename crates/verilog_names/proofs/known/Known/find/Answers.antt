use Rattle.std.proofs.Common.{ap, ◌∙◌, sym}
use Rattle.std.proofs.lemmas.Option.{slice_get-get_or}
use Rattle.verilog_names.proofs.Used.{named_at, named_within}
use Rattle.verilog_rules.specs.NameRules.{Place, module_named}
use Rattle.verilog_names.proofs.known.Known.find.Goals as goal

pub returns-clause-module : goal.returns-clause-module
returns-clause-module c =
    let ms = c.self.inside.earlier.now in
    let name = c.args.name.now in
    let k = c.in_ok-number.number in
    ap (λ (p : Place). module_named p.earlier name) (sym c.self.view_is)
    ∙ named_at ms _ name c.find.result k c.self.invariant c.find.ensures c.in_ok-number.was
    ∙ slice_get-get_or ms k c.index-self-number.result (named_within ms _ name c.find.result k c.self.invariant c.find.ensures c.in_ok-number.was)
