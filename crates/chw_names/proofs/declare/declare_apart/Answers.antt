use Rattle.std.proofs.Common.{◌∙◌, ap}
use Rattle.std.proofs.lemmas.Result.{on_ok_weaker}
use Rattle.chw_names.specs.Words.{seconds, least_of}
use Rattle.chw_names.proofs.declare.declare_apart.Goals as goal

pub returns : goal.returns
returns c =
    on_ok_weaker c.declare_all-outcome.result (λ all. record { least = all.least ∙ ap (λ ks. least_of c.args.least.now (seconds ks c.args.words.now)) c.new-names.ensures })
    c.declare_all-outcome.ensures
