use Rattle.chw_prims.specs.declared.prim.Primitive.TheVariants.{Ap}
use Rattle.chw_terms.specs.TermTree.{prim}
use Rattle.chw_terms.specs.TermView.{tree_of}
use Rattle.chw_typing.specs.Given.{types_then}
use Rattle.std.proofs.Common.{◌≡◌, ◌∙◌, ap, sym, true, false, [], ◌∷◌}
use Rattle.work_signals.proofs.Seen.{no_prim, one_prim, lifted_seen}
use Rattle.work_signals.proofs.views.as_ap.Goals as goal

pub returns-in_default : goal.returns-in_default
returns-in_default c = λ d a b f s.
    no_prim Ap c.args.head.now c.args.args.now (types_then (d ∷ a ∷ b ∷ []) (f ∷ s ∷ []))
    (c.in_default.ensures Ap)

pub returns-then-is_ap : goal.returns-then-is_ap
returns-then-is_ap c =
    let same = c.is_ap.ensures.0 c.if-is_ap.true in
    lifted_seen Ap c.args.head.now c.args.args.now c.as_lifted.result
    (c.in-Some.ensures ∙ ap (λ p. prim p) same) c.as_lifted.ensures

pub returns-else-is_ap : goal.returns-else-is_ap
returns-else-is_ap c = λ d a b f s.
    no_prim Ap c.args.head.now c.args.args.now (types_then (d ∷ a ∷ b ∷ []) (f ∷ s ∷ []))
    (λ is.
    let same = one_prim c.in-Some.which Ap (tree_of c.args.head.now) c.in-Some.ensures is in
    let no : false ≡ true = sym c.if-is_ap.false ∙ c.is_ap.ensures.1 same in
    absurd cc)
