use Rattle.std.proofs.Common.{[], ◌∙◌, ap}
use Rattle.chw_names.specs.Words.{seconds, least_of}
use Rattle.chw_names.proofs.Steps.{meets_then}
use Rattle.chw_names.proofs.twices.top.Goals as goal

pub returns : goal.returns
returns c =
    let ins = c.in_ok-declare_apart.ensures in
    let outs = c.in_ok-declare_apart-2.ensures in
    meets_then (seconds [] c.args.top.now.inputs) (seconds [] c.args.top.now.outputs)
    (record { least = ins.least ∙ ap (λ ws. least_of c.args.least.now (seconds [] ws)) c.as_slice.ensures })
    (record { least = outs.least ∙ ap (λ ws. least_of c.declare_apart.new.least (seconds [] ws)) c.as_slice-2.ensures })
