-- what was met in the items so far, and what falls from call to call
use Rattle.std.proofs.Common.{take, ◌+◌, ◌*◌}
use Rattle.std.specs.List.{flat_map}
use Rattle.chw_grammar.specs.TermSize.{term_size, terms_size, bindings_size, alternatives_size, arguments_size}
use Rattle.chw_grammar.specs.TermView.{terms_of, bindings_of, alternatives_of, arguments_of}
use Rattle.chw_names.specs.Twices.{term_twices}
use Rattle.chw_names.specs.Words.{Meets}
use Rattle.chw_names.proofs.TwiceTerms.{binding_twices, alternative_twices, argument_twices}
use Rattle.chw_names.proofs.twice_terms.+term.Given as goal

abbrev pub invariant-each_binding-loop-binding : goal.invariant-each_binding-loop-binding
invariant-each_binding-loop-binding l = Meets l.initial.least l.least (flat_map binding_twices (take l.binding-index l.fn.bindings))

abbrev pub invariant-each_alternative-loop-alternative : goal.invariant-each_alternative-loop-alternative
invariant-each_alternative-loop-alternative l = Meets l.initial.least l.least (flat_map alternative_twices (take l.alternative-index l.fn.alternatives))

abbrev pub invariant-each_argument-loop-argument : goal.invariant-each_argument-loop-argument
invariant-each_argument-loop-argument l = Meets l.initial.least l.least (flat_map argument_twices (take l.argument-index l.fn.arguments))

abbrev pub invariant-each_element-loop-element : goal.invariant-each_element-loop-element
invariant-each_element-loop-element l = Meets l.initial.least l.least (flat_map term_twices (take l.element-index l.fn.elements))

abbrev pub decreases-term : goal.decreases-term
decreases-term l = 2 * term_size l.tree.now

abbrev pub decreases-each_binding : goal.decreases-each_binding
decreases-each_binding l = 2 * bindings_size (bindings_of l.bindings.now) + 1

abbrev pub decreases-each_alternative : goal.decreases-each_alternative
decreases-each_alternative l = 2 * alternatives_size (alternatives_of l.alternatives.now) + 1

abbrev pub decreases-each_argument : goal.decreases-each_argument
decreases-each_argument l = 2 * arguments_size (arguments_of l.arguments.now) + 1

abbrev pub decreases-each_element : goal.decreases-each_element
decreases-each_element l = 2 * terms_size (terms_of l.elements.now) + 1
