-- The signs of terms with closed naturals as numbers.
use Rattle.std.specs.Prelude.{List, ◌∷◌, ◌++◌}
use Rattle.chw_terms.specs.declared.term.Alt.{Alt}
use Rattle.chw_terms.specs.declared.term.Arg.{Arg}
use Rattle.chw_terms.specs.declared.term.Arg.TheVariants.{OfTerm, OfType}
use Rattle.chw_terms.specs.declared.term.Binding.{Binding}
use Rattle.chw_terms.specs.Evaluated.{evaluated, evaluated_in, evaluated_in_all}
use Rattle.chw_terms.specs.Evaluated.{evaluated_in_group, evaluated_in_alts}
use Rattle.chw_terms.specs.TermTree.{TermTree, Terms, Group, Alts}
use Rattle.term_signs.specs.declared.alphabet.Form.TheVariants.{App, TyApp, LetRec, OneTerm}
use Rattle.term_signs.specs.declared.alphabet.Form.TheVariants.{OneBinding, OneAlt}
use Rattle.term_signs.specs.declared.alphabet.Sign.{Sign}
use Rattle.term_signs.specs.declared.alphabet.Sign.TheVariants.{Of}
use Rattle.term_signs.specs.TypeSigns.{type_signs}
use Rattle.term_signs.specs.TermSigns.{signs, terms_signs, group_signs, alts_signs}
use Rattle.term_signs.specs.TermSigns.{pattern_signs}

-- the signs of a term, closed naturals as numbers
abbrev pub written : TermTree → List Sign
written e = signs (evaluated_in e)

-- and of its parts
abbrev pub written_all : Terms → List Sign
written_all es = terms_signs (evaluated_in_all es)

abbrev pub written_alts : Alts → List Sign
written_alts alts = alts_signs (evaluated_in_alts alts)

abbrev pub in_arg : Arg → List Sign
in_arg (OfTerm e) = written e
in_arg (OfType t) = type_signs (evaluated t)

abbrev pub in_element : TermTree → List Sign
in_element e = Of OneTerm ∷ written e

abbrev pub in_binding : Binding → List Sign
in_binding b = Of OneBinding ∷ type_signs (evaluated b.ty) ++ written b.body

abbrev pub in_alt : Alt → List Sign
in_alt a = Of OneAlt ∷ pattern_signs a.pattern ++ written a.body

-- the form of a letrec and its group
abbrev pub written_group : Group → List Sign
written_group g = Of LetRec ∷ group_signs (evaluated_in_group g)

-- the sign of an application
abbrev pub mark : Arg → Sign
mark (OfTerm e) = Of App
mark (OfType t) = Of TyApp
