-- Each child of a node is smaller than what the node stands for.
use Rattle.std.specs.Prelude.{◌+◌, ◌≤◌, List, [], ◌∷◌, max}
use Rattle.std.proofs.Common.{arith}
use denote.Param.Weighed.{most}
use Rattle.chw_grammar.specs.TermTree.{Tm}
use Rattle.chw_grammar.specs.declared.term_tree.TermNode.{TermNode}
use Rattle.chw_grammar.specs.declared.term_tree.TermNode.TheVariants.{Lambda, TypeLambda, LetRec, Case, Apply, Name, Constructor, Literal, VecLit}
use Rattle.chw_grammar.specs.declared.term_tree.Binding.{Binding}
use Rattle.chw_grammar.specs.declared.term_tree.Alternative.{Alternative}
use Rattle.chw_grammar.specs.declared.term_tree.Argument.{Argument}
use Rattle.chw_grammar.specs.declared.term_tree.Argument.TheVariants.{OfTerm, OfType}
use Rattle.chw_grammar.specs.declared.term_tree.TermTree.TheDeep.{deep-TermNode, deep-Binding, deep-Alternative, deep-Argument}
use Rattle.chw_grammar.specs.TermView.{terms_of, bindings_of, alternatives_of, arguments_of, term_of}
use Rattle.chw_grammar.specs.TermSize.{term_size, terms_size, bindings_size, alternatives_size, arguments_size}

pub most_terms : (es : List Tm) → most (λ e. term_size e + 1) es ≤ terms_size (terms_of es) + 1
most_terms [] = omega arith
most_terms (e ∷ es) = omega (arith, most_terms es)

pub most_bindings : (bs : List Binding) → most deep-Binding bs ≤ bindings_size (bindings_of bs) + 1
most_bindings [] = omega arith
most_bindings (b ∷ bs) = omega (arith, most_bindings bs)

pub most_alternatives : (alts : List Alternative) → most deep-Alternative alts ≤ alternatives_size (alternatives_of alts) + 1
most_alternatives [] = omega arith
most_alternatives (a ∷ more) = omega (arith, most_alternatives more)

pub most_arguments : (args : List Argument) → most deep-Argument args ≤ arguments_size (arguments_of args) + 1
most_arguments [] = omega arith
most_arguments (OfTerm e ∷ more) = omega (arith, most_arguments more)
most_arguments (OfType t ∷ more) = omega (arith, most_arguments more)

pub term_falls : (n : TermNode) → max (deep-TermNode n) 0 ≤ term_size (term_of n)
term_falls (Lambda w t e) = omega arith
term_falls (TypeLambda w k e) = omega arith
term_falls (LetRec bs e) = omega (arith, most_bindings bs.items)
term_falls (Case e alts) = omega (arith, most_alternatives alts.items)
term_falls (Apply e args) = omega (arith, most_arguments args.items)
term_falls (Name w) = omega arith
term_falls (Constructor w) = omega arith
term_falls (Literal w) = omega arith
term_falls (VecLit t es) = omega (arith, most_terms es.items)
