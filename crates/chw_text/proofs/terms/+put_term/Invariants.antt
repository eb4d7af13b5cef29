-- what is written, with the items that are left, is all of them
use Rattle.std.proofs.Common.{drop}
use Rattle.chw_grammar.specs.TermView.{terms_of, bindings_of, alternatives_of, arguments_of}
use Rattle.chw_grammar.specs.Text.{bindings_lexemes, alternatives_lexemes, arguments_lexemes, elements_lexemes}
use Rattle.chw_text.specs.Spaced.{Leaves, elements_from}
use Rattle.chw_text.proofs.terms.+put_term.Given as goal

abbrev pub invariant-put_bare-loop-binding : goal.invariant-put_bare-loop-binding
invariant-put_bare-loop-binding l =
    Leaves l.initial.out.items (bindings_lexemes (bindings_of l.binding-items)) l.out.items (bindings_lexemes (bindings_of (drop l.binding-index l.binding-items)))

abbrev pub invariant-put_bare-loop-alternative : goal.invariant-put_bare-loop-alternative
invariant-put_bare-loop-alternative l =
    Leaves l.initial.out.items (alternatives_lexemes (alternatives_of l.alternative-items)) l.out.items (alternatives_lexemes (alternatives_of (drop l.alternative-index l.alternative-items)))

abbrev pub invariant-put_bare-loop-argument : goal.invariant-put_bare-loop-argument
invariant-put_bare-loop-argument l =
    Leaves l.initial.out.items (arguments_lexemes (arguments_of l.argument-items)) l.out.items (arguments_lexemes (arguments_of (drop l.argument-index l.argument-items)))

abbrev pub invariant-put_bare-loop-i : goal.invariant-put_bare-loop-i
invariant-put_bare-loop-i l =
    Leaves l.initial.out.items (elements_lexemes (terms_of l.element-items)) l.out.items (elements_from l.i (terms_of (drop l.i l.element-items)))
