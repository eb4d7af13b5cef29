use Rattle.std.proofs.Common.{◌∙◌, ap}
use Rattle.name_tables.specs.Names.{place_of}
use Rattle.verilog_names.proofs.places.Places.find.Goals as goal

pub returns : goal.returns
returns c = c.copied.ensures ∙ c.get.ensures.value ∙ c.self.invariant.firsts c.args.name.now ∙ ap (λ names. place_of names c.args.name.now) c.self.view_is
