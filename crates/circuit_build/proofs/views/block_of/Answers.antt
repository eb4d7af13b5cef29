use Rattle.std.proofs.Common.{◌∙◌, ap, sym}
use Rattle.chw_terms.specs.TermTree.{letrec}
use Rattle.chw_terms.specs.TermView.{group_of, tree_of}
use Rattle.circuit_build.proofs.Readiness.{no_other_block}
use Rattle.circuit_build.proofs.views.block_of.Goals as goal

pub unreachable-requires : goal.unreachable-requires
unreachable-requires c = no_other_block c.args.head.now c.in_default.not-Var c.in_default.not-LetRec c.requires

pub returns-in-LetRec : goal.returns-in-LetRec
returns-in-LetRec c =
    ap tree_of c.in-LetRec.is ∙ (λ i. letrec (group_of (sym c.deref.ensures.value i)) (sym c.deref-in-LetRec.ensures i))
