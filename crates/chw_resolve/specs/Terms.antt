-- The terms that the terms of a tree become, by the names in scope.
use Rattle.std.specs.Prelude.{ℕ, ◌-◌, List, [], ◌∷◌, length, Option, Some, None, slice_get}
use Rattle.chw_grammar.specs.declared.term_tree.Pattern.{Pattern as WrittenPattern}
use Rattle.chw_grammar.specs.declared.term_tree.Pattern.TheVariants as pattern
use Rattle.chw_grammar.specs.TermTree.{Tm, term_lambda, term_type_lambda, term_letrec, term_case, term_apply, term_name, term_constructor, term_literal, term_vec, Tms, Bindings, binding_and, Alternatives, no_alternatives, alternative_and, Arguments, no_arguments, argument_and, type_argument_and}
use Rattle.chw_grammar.specs.TermTree as written
use Rattle.chw_grammar.specs.Literals.{literal_of}
use Rattle.chw_names.specs.declared.globals.Globals.{Globals}
use Rattle.chw_names.specs.Twices.{binding_words, pattern_words}
use Rattle.chw_names.specs.Unknowns.{within}
use Rattle.chw_prims.specs.declared.prim.Primitive.{Primitive}
use Rattle.chw_terms.specs.declared.term.Arg.{Arg}
use Rattle.chw_terms.specs.declared.term.Arg.TheVariants.{OfTerm, OfType}
use Rattle.chw_terms.specs.declared.term.Pattern.{Pattern}
use Rattle.chw_terms.specs.declared.term.Pattern.TheVariants.{OfCon, OfLit, Default}
use Rattle.chw_terms.specs.TermTree.{TermTree, var, global, lam, ty_lam, letrec, con, prim, lit, vec_lit, case_of, Terms, no_terms, term_and, Group, no_bindings, bind, Alts, no_alts, alt}
use Rattle.chw_terms.specs.TermView.{applied}
use Rattle.name_tables.specs.Names.{place_of}
use Rattle.chw_prims.specs.declared.names.TheConstants.{ALL}
use Rattle.chw_resolve.specs.Literals.{sort_of, bits_in}
use Rattle.chw_resolve.specs.Types.{kind_in, place_in, type_in}

-- how many primitives' names stand before those of the definitions
unfoldable pub primitives : ℕ
primitives = length ALL

-- a primitive, or else the definition at this place behind all primitives
abbrev pub primitive_or : Option Primitive → ℕ → TermTree
primitive_or (Some p) place = prim p
primitive_or None place = global (place - primitives)

-- what stands at this place among the names of definitions
unfoldable pub definition_at : ℕ → TermTree
definition_at place = primitive_or (slice_get ALL place) place

-- a variable of this index, or else what stands at this place among the names of definitions
abbrev pub variable_or : Option ℕ → ℕ → TermTree
variable_or (Some x) place = var x
variable_or None place = definition_at place

-- what a lower name stands for: a variable in scope hides a definition of its name
abbrev pub named_term : Globals → List (List ℕ) → List ℕ → TermTree
named_term g values name = variable_or (place_of values name) (place_in g.definitions name)

abbrev pub pattern_in : Globals → WrittenPattern → Pattern
pattern_in g (pattern.Constructor w ws) = OfCon (record { number = place_in g.constructors w.bytes }) (length ws)
pattern_in g (pattern.Literal w) = let l = literal_of w.bytes in OfLit (sort_of l.letter) (bits_in l)
pattern_in g pattern.Default = Default

abbrev mutual
  -- the term of a tree, by the names of the type variables and of the variables in scope, the innermost first
  pub term_in : Globals → (types values : List (List ℕ)) → Tm → TermTree
  term_in g types values (term_lambda w t e) = lam (type_in g types t) (term_in g types (w.bytes ∷ values) e)
  term_in g types values (term_type_lambda w k e) = ty_lam (kind_in k) (term_in g (w.bytes ∷ types) values e)
  term_in g types values (term_letrec bs e) = let inside = within (binding_words bs) values in letrec (group_in g types inside bs) (term_in g types inside e)
  term_in g types values (term_case e alts) = case_of (term_in g types values e) (alternatives_in g types values alts)
  term_in g types values (term_apply e args) = applied (term_in g types values e) (arguments_in g types values args)
  term_in g types values (term_name w) = named_term g values w.bytes
  term_in g types values (term_constructor w) = con (place_in g.constructors w.bytes)
  term_in g types values (term_literal w) = let l = literal_of w.bytes in lit (sort_of l.letter) (bits_in l)
  term_in g types values (term_vec t es) = vec_lit (type_in g types t) (terms_in g types values es)

  pub terms_in : Globals → (types values : List (List ℕ)) → Tms → Terms
  terms_in g types values written.no_terms = no_terms
  terms_in g types values (written.term_and e es) = term_and (term_in g types values e) (terms_in g types values es)

  pub group_in : Globals → (types values : List (List ℕ)) → Bindings → Group
  group_in g types values written.no_bindings = no_bindings
  group_in g types values (binding_and w t e bs) = bind (type_in g types t) (term_in g types values e) (group_in g types values bs)

  pub alternatives_in : Globals → (types values : List (List ℕ)) → Alternatives → Alts
  alternatives_in g types values no_alternatives = no_alts
  alternatives_in g types values (alternative_and q e more) =
      alt (pattern_in g q) (term_in g types (within (pattern_words q) values) e) (alternatives_in g types values more)

  pub arguments_in : Globals → (types values : List (List ℕ)) → Arguments → List Arg
  arguments_in g types values no_arguments = []
  arguments_in g types values (argument_and e more) = OfTerm (term_in g types values e) ∷ arguments_in g types values more
  arguments_in g types values (type_argument_and t more) = OfType (type_in g types t) ∷ arguments_in g types values more
