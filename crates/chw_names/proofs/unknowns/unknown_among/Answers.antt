use Rattle.std.proofs.Common.{◌++◌, ap, ◌∙◌}
use Rattle.std.specs.List.{flat_map}
use Rattle.chw_names.specs.Unknowns.{declaration_unknowns, top_unknowns}
use Rattle.chw_names.specs.Words.{least_of}
use Rattle.chw_names.proofs.Steps.{meets_then}
use Rattle.chw_names.proofs.unknowns.unknown_among.Goals as goal

pub returns : goal.returns
returns c =
    let each = flat_map (declaration_unknowns c.args.globals.now) in
    let top = top_unknowns c.args.globals.now c.args.tree.now.top in
    c.word.ensures ∙ (meets_then (each c.as_slice.result.now) top c.in_ok-within_declarations.ensures c.top.ensures).least
    ∙ ap (λ met. least_of met (each c.as_slice.result.now ++ top)) c.new-least.ensures ∙ ap (λ ds. least_of _ (each ds ++ top)) c.as_slice.ensures
