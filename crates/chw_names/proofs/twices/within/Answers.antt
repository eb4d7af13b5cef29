use Rattle.std.proofs.Common.{◌++◌, ◌∙◌, ap}
use Rattle.std.specs.List.{flat_map}
use Rattle.chw_names.specs.Twices.{global_twices, declaration_twices, top_twices}
use Rattle.chw_names.specs.Words.{least_of}
use Rattle.chw_names.proofs.Steps.{meets_then}
use Rattle.chw_names.proofs.twices.within.Goals as goal

pub returns : goal.returns
returns c =
    let ds = c.as_slice-declarations.result.now in
    let top = top_twices c.args.tree.now.top in
    let all = meets_then (global_twices ds ++ flat_map declaration_twices ds) top
    (meets_then (global_twices ds) (flat_map declaration_twices ds) c.in_ok-globals.ensures c.in_ok-within_declarations.ensures) c.in_ok-top.ensures in
    record { least = all.least ∙ ap (λ xs. least_of c.args.least.now (global_twices xs ++ flat_map declaration_twices xs ++ top)) c.as_slice-declarations.ensures }
