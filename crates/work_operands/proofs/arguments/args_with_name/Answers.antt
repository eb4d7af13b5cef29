use Rattle.std.proofs.Common.{◌∙◌, ◌++◌, ◌∷◌, [], List, drop, ap}
use Rattle.chw_terms.specs.declared.term.Arg.{Arg}
use Rattle.chw_terms.specs.declared.term.Arg.TheVariants.{OfTerm}
use Rattle.rewriting.specs.Shapes.{shift_args}
use Rattle.work_operands.proofs.Named.{one_named}
use Rattle.work_operands.proofs.arguments.args_with_name.Goals as goal

pub returns : goal.returns
returns c =
    let args = c.args.args.now in
    let n = c.args.number in
    let before = c.in_ok-under.ensures ∙ ap (λ (xs : List Arg). shift_args xs 0 1) c.split_at.ensures.front in
    let named = c.in_ok-push.ensures.items
    ∙ (λ i. before i ++ OfTerm (c.new_name.ensures i) ∷ []) in
    let behind = c.in_ok-others.ensures
    ∙ ap (λ (xs : List Arg). shift_args xs 0 1)
    (c.split_at-2.ensures.back ∙ ap (λ (xs : List Arg). drop 1 xs) c.split_at.ensures.back) in
    c.in_ok-append.ensures.items
    ∙ (λ i. named i ++ behind i)
    ∙ one_named args n _ c.requires
