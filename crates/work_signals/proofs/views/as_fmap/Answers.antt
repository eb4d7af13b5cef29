use Rattle.chw_prims.specs.declared.prim.Primitive.TheVariants.{Fmap}
use Rattle.chw_terms.specs.TermTree.{prim}
use Rattle.chw_terms.specs.TermView.{tree_of}
use Rattle.chw_typing.specs.Given.{types_then}
use Rattle.std.proofs.Common.{◌≡◌, ◌∙◌, ap, sym, true, false, [], ◌∷◌}
use Rattle.work_signals.proofs.Seen.{no_prim, one_prim, lifted_seen}
use Rattle.work_signals.proofs.views.as_fmap.Goals as goal

pub returns-in_default : goal.returns-in_default
returns-in_default c = λ d a b f s.
    no_prim Fmap c.args.head.now c.args.args.now (types_then (d ∷ a ∷ b ∷ []) (f ∷ s ∷ []))
    (c.in_default.ensures Fmap)

pub returns-then-is_fmap : goal.returns-then-is_fmap
returns-then-is_fmap c =
    let same = c.is_fmap.ensures.0 c.if-is_fmap.true in
    lifted_seen Fmap c.args.head.now c.args.args.now c.as_lifted.result
    (c.in-Some.ensures ∙ ap (λ p. prim p) same) c.as_lifted.ensures

pub returns-else-is_fmap : goal.returns-else-is_fmap
returns-else-is_fmap c = λ d a b f s.
    no_prim Fmap c.args.head.now c.args.args.now (types_then (d ∷ a ∷ b ∷ []) (f ∷ s ∷ []))
    (λ is.
    let same = one_prim c.in-Some.which Fmap (tree_of c.args.head.now) c.in-Some.ensures is in
    let no : false ≡ true = sym c.if-is_fmap.false ∙ c.is_fmap.ensures.1 same in
    absurd cc)
