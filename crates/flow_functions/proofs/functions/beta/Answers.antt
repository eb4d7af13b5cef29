use Rattle.std.proofs.Common.{◌∙◌}
use Rattle.chw_terms.specs.declared.term.Arg.TheVariants.{OfTerm}
use Rattle.chw_terms.specs.declared.term.Head.TheVariants.{Lam}
use Rattle.chw_terms.specs.TermMoves.{shift}
use Rattle.chw_terms.specs.TermTree.{letrec, bind, no_bindings}
use Rattle.rewriting.specs.Functions.{beta}
use Rattle.flow_functions.proofs.Firsts.{at_first_same}
use Rattle.flow_functions.proofs.functions.beta.Goals as goal

pub returns : goal.returns
returns c o at =
    at_first_same {k = Lam c.in-Lam.ty c.in-Lam.body} {b = OfTerm c.in-OfTerm.of} beta c.in-Lam.is c.in-OfTerm.is
    (c.in_ok-let_one.ensures ∙ (λ i. letrec (bind (c.in_ok-ty.ensures i) (shift c.in-OfTerm.of 0 1) no_bindings) ((c.in_ok-body.ensures ∙ c.deref.ensures) i)))
