use Rattle.std.proofs.Common.{◌≡◌, ◌+◌, ◌*◌, ◌∷◌, [], map, take}
use Rattle.chw_grammar.specs.TermSize.{term_size, terms_size, bindings_size, alternatives_size, arguments_size}
use Rattle.chw_grammar.specs.TermView.{terms_of, bindings_of, alternatives_of, arguments_of}
use Rattle.chw_resolve.specs.Terms.{term_in}
use Rattle.chw_resolve.specs.Walks.{argument_in, binding_in, alternative_in}
use Rattle.chw_resolve.proofs.terms.+term_in.Given as goal

abbrev pub invariant-letrec_in-loop-binding : goal.invariant-letrec_in-loop-binding
invariant-letrec_in-loop-binding l = record {
  types : l.types ≡ l.initial.types;
  values : l.values ≡ l.initial.values;
  made : l.group.items ≡ map (binding_in l.globals l.initial.types l.initial.values) (take l.binding-index l.bindings);
}

abbrev pub invariant-case_in-loop-alternative : goal.invariant-case_in-loop-alternative
invariant-case_in-loop-alternative l = record {
  types : l.types ≡ l.initial.types;
  values : l.values ≡ l.initial.values;
  made : l.alts.items ≡ map (alternative_in l.globals l.initial.types l.initial.values) (take l.alternative-index l.alternatives);
}

abbrev pub invariant-apply_in-loop-argument : goal.invariant-apply_in-loop-argument
invariant-apply_in-loop-argument l = record {
  types : l.types ≡ l.initial.types;
  values : l.values ≡ l.initial.values;
  made : l.args.items ≡ map (argument_in l.globals l.initial.types l.initial.values) (take l.argument-index l.arguments);
}

abbrev pub invariant-vec_in-loop-element : goal.invariant-vec_in-loop-element
invariant-vec_in-loop-element l = record {
  types : l.types ≡ l.initial.types;
  values : l.values ≡ l.initial.values;
  made : l.done.items ≡ map (term_in l.globals l.initial.types l.initial.values) (take l.element-index l.elements);
}

-- the calls go into parts of the term
abbrev pub decreases-term_in : goal.decreases-term_in
decreases-term_in l = 4 * term_size l.tree.now

abbrev pub decreases-lambda_in : goal.decreases-lambda_in
decreases-lambda_in l = 4 * term_size l.body.now + 1

abbrev pub decreases-type_lambda_in : goal.decreases-type_lambda_in
decreases-type_lambda_in l = 4 * term_size l.body.now + 1

abbrev pub decreases-letrec_in : goal.decreases-letrec_in
decreases-letrec_in l = 4 * (bindings_size (bindings_of l.bindings.now) + term_size l.body.now) + 2

abbrev pub decreases-binding_in : goal.decreases-binding_in
decreases-binding_in l = 4 * term_size l.binding.now.term + 1

abbrev pub decreases-case_in : goal.decreases-case_in
decreases-case_in l = 4 * (alternatives_size (alternatives_of l.alternatives.now) + term_size l.on.now) + 2

abbrev pub decreases-alternative_in : goal.decreases-alternative_in
decreases-alternative_in l = 4 * term_size l.alternative.now.term + 1

abbrev pub decreases-apply_in : goal.decreases-apply_in
decreases-apply_in l = 4 * (arguments_size (arguments_of l.arguments.now) + term_size l.head.now) + 2

abbrev pub decreases-argument_in : goal.decreases-argument_in
decreases-argument_in l = 4 * arguments_size (arguments_of (l.argument.now ∷ [])) + 1

abbrev pub decreases-vec_in : goal.decreases-vec_in
decreases-vec_in l = 4 * terms_size (terms_of l.elements.now) + 2
