-- Terms as lists of signs: a form before its parts, and behind a list its end.
use Rattle.std.specs.Prelude.{Bool, List, [], ◌∷◌, ◌++◌, map}
use Rattle.chw_terms.specs.declared.term.Pattern.{Pattern}
use Rattle.chw_terms.specs.declared.term.Pattern.TheVariants.{OfCon, OfLit, Default}
use Rattle.chw_terms.specs.TermTree.{TermTree, var, global, made, lam, app, ty_lam, ty_app}
use Rattle.chw_terms.specs.TermTree.{letrec, con, prim, lit, vec_lit, case_of, Terms, no_terms}
use Rattle.chw_terms.specs.TermTree.{term_and, Group, no_bindings, bind, Alts, no_alts, alt}
use Rattle.term_signs.specs.declared.alphabet.Form.TheVariants.{Var, Global, Made, Lam, App}
use Rattle.term_signs.specs.declared.alphabet.Form.TheVariants.{TyLam, TyApp, LetRec, Con}
use Rattle.term_signs.specs.declared.alphabet.Form.TheVariants.{Primitive, Literal, Elements}
use Rattle.term_signs.specs.declared.alphabet.Form.TheVariants.{Case, OneTerm, NoTerms}
use Rattle.term_signs.specs.declared.alphabet.Form.TheVariants.{OneBinding, NoBindings}
use Rattle.term_signs.specs.declared.alphabet.Form.TheVariants.{OneAlt, NoAlts, ConPattern}
use Rattle.term_signs.specs.declared.alphabet.Form.TheVariants.{LitPattern, DefaultPattern}
use Rattle.term_signs.specs.declared.alphabet.Form.TheVariants.{NoBits}
use Rattle.term_signs.specs.declared.alphabet.Sign.{Sign}
use Rattle.term_signs.specs.declared.alphabet.Sign.TheVariants.{Of, Number, OfKind, OfSort}
use Rattle.term_signs.specs.declared.alphabet.Sign.TheVariants.{OfPrim, Bit}
use Rattle.term_signs.specs.TypeSigns.{type_signs}

abbrev pub bit_signs : List Bool → List Sign
bit_signs bits = map (λ b. Bit b) bits ++ Of NoBits ∷ []

abbrev pub pattern_signs : Pattern → List Sign
pattern_signs (OfCon c n) = Of ConPattern ∷ Number c.number ∷ Number n ∷ []
pattern_signs (OfLit s bits) = Of LitPattern ∷ OfSort s ∷ bit_signs bits
pattern_signs Default = Of DefaultPattern ∷ []

unfoldable mutual
  pub signs : TermTree → List Sign
  signs (var x) = Of Var ∷ Number x ∷ []
  signs (global d) = Of Global ∷ Number d ∷ []
  signs (made m) = Of Made ∷ Number m ∷ []
  signs (lam t e) = Of Lam ∷ type_signs t ++ signs e
  signs (app f a) = Of App ∷ signs f ++ signs a
  signs (ty_lam k e) = Of TyLam ∷ OfKind k ∷ signs e
  signs (ty_app f t) = Of TyApp ∷ signs f ++ type_signs t
  signs (letrec g e) = Of LetRec ∷ group_signs g ++ signs e
  signs (con c) = Of Con ∷ Number c ∷ []
  signs (prim p) = Of Primitive ∷ OfPrim p ∷ []
  signs (lit s bits) = Of Literal ∷ OfSort s ∷ bit_signs bits
  signs (vec_lit t es) = Of Elements ∷ type_signs t ++ terms_signs es
  signs (case_of e alts) = Of Case ∷ signs e ++ alts_signs alts

  pub terms_signs : Terms → List Sign
  terms_signs no_terms = Of NoTerms ∷ []
  terms_signs (term_and e es) = Of OneTerm ∷ signs e ++ terms_signs es

  pub group_signs : Group → List Sign
  group_signs no_bindings = Of NoBindings ∷ []
  group_signs (bind t e g) = Of OneBinding ∷ type_signs t ++ signs e ++ group_signs g

  pub alts_signs : Alts → List Sign
  alts_signs no_alts = Of NoAlts ∷ []
  alts_signs (alt q e more) = Of OneAlt ∷ pattern_signs q ++ signs e ++ alts_signs more
