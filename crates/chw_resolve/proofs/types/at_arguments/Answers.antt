use Rattle.std.proofs.Common.{sym, ap, ◌∙◌, arith}
use Rattle.std.proofs.lemmas.Bool.Decides.{nat_tests}
use Rattle.chw_types.specs.TypeView.{trees_of}
use Rattle.chw_resolve.specs.Types.{at_arguments}
use Rattle.chw_resolve.specs.declared.types.TypeName.{TypeName}
use Rattle.chw_resolve.proofs.Arguments.{not_one, no_vector, no_signal, no_domain}
use Rattle.chw_resolve.proofs.types.at_arguments.Goals as goal

pub returns-then-len-ne1 : goal.returns-then-len-ne1
returns-then-len-ne1 c =
    let none = c.args.none.number in
    let ts = c.args.arguments.items in
    c.data_of.ensures ∙ not_one none c.in-Scalar.sort ts (λ n. absurd (omega (arith, n, c.if-len-ne1.true, c.len.ensures, c.args.arguments.ok.0)))
    ∙ ap (λ (name : TypeName). at_arguments none name (trees_of ts)) (sym c.in-Scalar.is)

pub returns-then-len-ne2 : goal.returns-then-len-ne2
returns-then-len-ne2 c =
    let none = c.args.none.number in
    let ts = c.args.arguments.items in
    c.data_of-then-len-ne2.ensures ∙ no_vector none ts (λ n. absurd (omega (arith, n, c.if-len-ne2.true, c.len-in-Vector.ensures, c.args.arguments.ok.0)))
    ∙ ap (λ (name : TypeName). at_arguments none name (trees_of ts)) (sym c.in-Vector.is)

pub returns-then-len-ne2-2 : goal.returns-then-len-ne2-2
returns-then-len-ne2-2 c =
    let none = c.args.none.number in
    let ts = c.args.arguments.items in
    c.data_of-then-len-ne2-2.ensures ∙ no_signal none ts (λ n. absurd (omega (arith, n, c.if-len-ne2-2.true, c.len-in-Signal.ensures, c.args.arguments.ok.0)))
    ∙ ap (λ (name : TypeName). at_arguments none name (trees_of ts)) (sym c.in-Signal.is)

pub returns-else-is_empty : goal.returns-else-is_empty
returns-else-is_empty c =
    let none = c.args.none.number in
    let ts = c.args.arguments.items in
    c.data_of-else-is_empty.ensures ∙ no_domain none c.in-Domain.at ts (λ n. absurd (grind (arith, nat_tests)))
    ∙ ap (λ (name : TypeName). at_arguments none name (trees_of ts)) (sym c.in-Domain.is)
