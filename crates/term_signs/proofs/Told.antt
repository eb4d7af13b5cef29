-- Signs tell the terms that they are of.
use Rattle.std.proofs.Common.{◌≡◌, ◌∙◌, ap, sym, refl, Bool, List, [], ◌∷◌, ◌++◌, map, append-nil}
use Rattle.chw_types.specs.TypeTree.{TypeTree, ty_var, nat_lit, nat_sum, nat_product, domain, scalar, vector, data_of, fun, signal, for_all, TypeTrees, no_types, type_and}
use Rattle.chw_terms.specs.declared.term.Pattern.{Pattern}
use Rattle.chw_terms.specs.declared.term.Pattern.TheVariants.{OfCon, OfLit, Default as AnyPattern}
use Rattle.chw_terms.specs.TermTree.{TermTree, var, global, made, lam, app, ty_lam, ty_app, letrec, con, prim, lit, vec_lit, case_of, Terms, no_terms, term_and, Group, no_bindings, bind, Alts, no_alts, alt}
use Rattle.term_signs.specs.declared.alphabet.Form.TheVariants.{TyVar, Numeral, Sum, Product, Domain, Word, Vector, Data, Fun, Signal, ForAll, OneType, NoTypes, Var, Global, Made, Lam, App, TyLam, TyApp, LetRec, Con, Primitive, Literal, Elements, Case, OneTerm, NoTerms, OneBinding, NoBindings, OneAlt, NoAlts, ConPattern, LitPattern, DefaultPattern, NoBits}
use Rattle.term_signs.specs.declared.alphabet.Sign.TheVariants.{Of, Number, OfKind, OfSort, OfPrim, Bit}
use Rattle.term_signs.specs.TypeSigns.{type_signs, types_signs}
use Rattle.term_signs.specs.TermSigns.{bit_signs, pattern_signs, signs, terms_signs, group_signs, alts_signs}
use Rattle.term_signs.specs.Laws.{SignsTell}
use Rattle.term_signs.proofs.Reading.{Stacks, Reads, reads_none, reads_sign, reads_both, read, empty, first, with_bits, with_type, with_types, with_term, with_terms, with_group, with_alts, with_pattern}

mutual
  unfolding type_signs

  type_read : (t : TypeTree) → Reads (type_signs t) (with_type t)
  type_read (ty_var x) = reads_sign (Of TyVar) (reads_sign (Number x) reads_none)
  type_read (nat_lit n) = reads_sign (Of Numeral) (reads_sign (Number n) reads_none)
  type_read (nat_sum a b) = reads_sign (Of Sum) (reads_both (type_read a) (type_read b))
  type_read (nat_product a b) = reads_sign (Of Product) (reads_both (type_read a) (type_read b))
  type_read (domain d) = reads_sign (Of Domain) (reads_sign (Number d) reads_none)
  type_read (scalar s w) = reads_sign (Of Word) (reads_sign (OfSort s) (type_read w))
  type_read (vector n t) = reads_sign (Of Vector) (reads_both (type_read n) (type_read t))
  type_read (data_of d ts) = reads_sign (Of Data) (reads_sign (Number d) (types_read ts))
  type_read (fun a b) = reads_sign (Of Fun) (reads_both (type_read a) (type_read b))
  type_read (signal d t) = reads_sign (Of Signal) (reads_both (type_read d) (type_read t))
  type_read (for_all k t) = reads_sign (Of ForAll) (reads_sign (OfKind k) (type_read t))

  types_read : (ts : TypeTrees) → Reads (types_signs ts) (with_types ts)
  types_read no_types = reads_sign (Of NoTypes) reads_none
  types_read (type_and t ts) = reads_sign (Of OneType) (reads_both (type_read t) (types_read ts))

bits_read : (bs : List Bool) → Reads (bit_signs bs) (with_bits bs)
bits_read [] = reads_sign (Of NoBits) reads_none
bits_read (b ∷ bs) = reads_sign (Bit b) (bits_read bs)

pattern_read : (q : Pattern) → Reads (pattern_signs q) (with_pattern q)
pattern_read (OfCon c n) = reads_sign (Of ConPattern) (reads_sign (Number c.number) (reads_sign (Number n) reads_none))
pattern_read (OfLit s bs) = reads_sign (Of LitPattern) (reads_sign (OfSort s) (bits_read bs))
pattern_read AnyPattern = reads_sign (Of DefaultPattern) reads_none

mutual
  unfolding signs

  term_read : (e : TermTree) → Reads (signs e) (with_term e)
  term_read (var x) = reads_sign (Of Var) (reads_sign (Number x) reads_none)
  term_read (global d) = reads_sign (Of Global) (reads_sign (Number d) reads_none)
  term_read (made m) = reads_sign (Of Made) (reads_sign (Number m) reads_none)
  term_read (lam t e) = reads_sign (Of Lam) (reads_both (type_read t) (term_read e))
  term_read (app f a) = reads_sign (Of App) (reads_both (term_read f) (term_read a))
  term_read (ty_lam k e) = reads_sign (Of TyLam) (reads_sign (OfKind k) (term_read e))
  term_read (ty_app f t) = reads_sign (Of TyApp) (reads_both (term_read f) (type_read t))
  term_read (letrec g e) = reads_sign (Of LetRec) (reads_both (group_read g) (term_read e))
  term_read (con c) = reads_sign (Of Con) (reads_sign (Number c) reads_none)
  term_read (prim p) = reads_sign (Of Primitive) (reads_sign (OfPrim p) reads_none)
  term_read (lit s bs) = reads_sign (Of Literal) (reads_sign (OfSort s) (bits_read bs))
  term_read (vec_lit t es) = reads_sign (Of Elements) (reads_both (type_read t) (terms_read es))
  term_read (case_of e alts) = reads_sign (Of Case) (reads_both (term_read e) (alts_read alts))

  terms_read : (es : Terms) → Reads (terms_signs es) (with_terms es)
  terms_read no_terms = reads_sign (Of NoTerms) reads_none
  terms_read (term_and e es) = reads_sign (Of OneTerm) (reads_both (term_read e) (terms_read es))

  group_read : (g : Group) → Reads (group_signs g) (with_group g)
  group_read no_bindings = reads_sign (Of NoBindings) reads_none
  group_read (bind t e g) = reads_sign (Of OneBinding) (reads_both (reads_both (type_read t) (term_read e)) (group_read g))

  alts_read : (alts : Alts) → Reads (alts_signs alts) (with_alts alts)
  alts_read no_alts = reads_sign (Of NoAlts) reads_none
  alts_read (alt q e more) = reads_sign (Of OneAlt) (reads_both (reads_both (pattern_read q) (term_read e)) (alts_read more))

-- what is read of a term's signs alone is the term
term_back : (e : TermTree) → first (var 0) (read (signs e)).terms ≡ e
term_back e = ap (λ ss. first (var 0) (read ss).terms) (sym (append-nil (signs e))) ∙ ap (λ (m : Stacks). first (var 0) m.terms) ((term_read e).behind [])

pub signs_told : SignsTell
signs_told a b e = sym (term_back a) ∙ ap (λ ss. first (var 0) (read ss).terms) e ∙ term_back b
