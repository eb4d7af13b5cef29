-- Alternatives of which there are two or more.
use Rattle.std.proofs.Common.{◌≤◌, List, [], ◌∷◌, length, arith}
use Rattle.chw_terms.specs.declared.term.Alt.{Alt}
use Rattle.chw_terms.specs.declared.term.Pattern.{Pattern}
use Rattle.chw_terms.specs.declared.term.Pattern.TheVariants.{OfCon, Default}
use Rattle.chw_terms.specs.TermTree.{TermTree, var, Alts, alt}
use Rattle.chw_terms.specs.TermView.{alts_of}
use Rattle.rewriting.specs.Shapes.{IsDefaultOrNone}
use Rattle.quiet_sides.specs.Quiet.{IsProjection}

two_project : (q : Pattern) (e : TermTree) (p : Pattern) (f : TermTree) (more : Alts) → IsProjection (alt q e (alt p f more)) → ⊥
two_project (OfCon c n) (var z) p f more h = h
two_project (OfCon c n) _ p f more h = h
two_project _ e p f more h = h

pub many_project : (rows : List Alt) → 2 ≤ length rows → IsProjection (alts_of rows) → ⊥
many_project [] l h = absurd (omega (arith, l))
many_project (a ∷ []) l h = absurd (omega (arith, l))
many_project (a ∷ b ∷ more) l h = two_project a.pattern a.body b.pattern b.body (alts_of more) h

two_default : (q : Pattern) (e : TermTree) (p : Pattern) (f : TermTree) (more : Alts) → IsDefaultOrNone (alt q e (alt p f more)) → ⊥
two_default Default e p f more h = h
two_default _ e p f more h = h

pub many_default : (rows : List Alt) → 2 ≤ length rows → IsDefaultOrNone (alts_of rows) → ⊥
many_default [] l h = absurd (omega (arith, l))
many_default (a ∷ []) l h = absurd (omega (arith, l))
many_default (a ∷ b ∷ more) l h = two_default a.pattern a.body b.pattern b.body (alts_of more) h
