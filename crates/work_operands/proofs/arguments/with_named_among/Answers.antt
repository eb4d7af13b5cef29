use Rattle.std.proofs.Common.{◌∙◌, ◌<◌, sym, subst, Some}
use Rattle.std.proofs.lemmas.Result.{IfOk-weaker}
use Rattle.chw_terms.specs.TermView.{applied}
use Rattle.work_operands.specs.Named.{with_arg_named}
use Rattle.work_operands.proofs.arguments.with_named_among.Goals as goal

pub with_named-requires : goal.with_named-requires
with_named-requires c =
    subst (λ n. c.args.named.number < n) (sym c.split_at.ensures.front_len) c.requires.within

pub returns : goal.returns
returns c =
    let it = c.args.named in
    let whole =
    c.in_ok-made.ensures
    ∙ (λ i. with_arg_named c.args.of (c.split_at.ensures.front i) it.number it.ty it.part.now) in
    IfOk-weaker c.with_rest.result _ _
    (λ r is. is ∙ (λ i. Some (applied (whole i) (c.split_at.ensures.back i)))) c.with_rest.ensures
