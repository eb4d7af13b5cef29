-- Lists turned round are as high and as long.
use Rattle.std.specs.Prelude.{◌≡◌, ◌+◌, max, List, [], ◌∷◌, length}
use Rattle.std.proofs.Common.{arith}
use Rattle.chw_grammar.specs.TypeTree.{Ty}
use Rattle.chw_grammar.specs.TypeView.{types_of}
use Rattle.chw_grammar.specs.TermTree.{Tm}
use Rattle.chw_grammar.specs.TermView.{terms_of, bindings_of, alternatives_of, arguments_of}
use Rattle.chw_grammar.specs.declared.term_tree.Binding.{Binding}
use Rattle.chw_grammar.specs.declared.term_tree.Alternative.{Alternative}
use Rattle.chw_grammar.specs.declared.term_tree.Argument.{Argument}
use Rattle.chw_grammar.specs.declared.term_tree.Argument.TheVariants.{OfTerm, OfType}
use Rattle.chw_grammar.specs.declared.program.Parameter.{Parameter}
use Rattle.chw_grammar.specs.declared.program.Constructor.{Constructor}
use Rattle.chw_grammar.specs.declared.program.Declaration.{Declaration}
use Rattle.chw_grammar.specs.Height.{types_count, arguments_count, types_height, terms_height, bindings_height, alternatives_height, arguments_height, parameters_height, constructors_height, declarations_height}
use Rattle.parser_parts.specs.Stacks.{onto}

pub types_high : (ts us : List Ty) → types_height (types_of (onto ts us)) ≡ max (types_height (types_of ts)) (types_height (types_of us))
types_high [] us = omega arith
types_high (t ∷ ts) us = omega (arith, types_high ts (t ∷ us))

pub types_long : (ts us : List Ty) → types_count (types_of (onto ts us)) ≡ length ts + types_count (types_of us)
types_long [] us = omega arith
types_long (t ∷ ts) us = omega (arith, types_long ts (t ∷ us))

pub terms_high : (es us : List Tm) → terms_height (terms_of (onto es us)) ≡ max (terms_height (terms_of es)) (terms_height (terms_of us))
terms_high [] us = omega arith
terms_high (e ∷ es) us = omega (arith, terms_high es (e ∷ us))

pub bindings_high : (bs us : List Binding) → bindings_height (bindings_of (onto bs us)) ≡ max (bindings_height (bindings_of bs)) (bindings_height (bindings_of us))
bindings_high [] us = omega arith
bindings_high (b ∷ bs) us = omega (arith, bindings_high bs (b ∷ us))

pub alternatives_high : (alts us : List Alternative)
    → alternatives_height (alternatives_of (onto alts us)) ≡ max (alternatives_height (alternatives_of alts)) (alternatives_height (alternatives_of us))
alternatives_high [] us = omega arith
alternatives_high (a ∷ alts) us = omega (arith, alternatives_high alts (a ∷ us))

pub arguments_high : (xs us : List Argument) → arguments_height (arguments_of (onto xs us)) ≡ max (arguments_height (arguments_of xs)) (arguments_height (arguments_of us))
arguments_high [] us = omega arith
arguments_high (OfTerm e ∷ xs) us = omega (arith, arguments_high xs (OfTerm e ∷ us))
arguments_high (OfType t ∷ xs) us = omega (arith, arguments_high xs (OfType t ∷ us))

pub arguments_long : (xs us : List Argument) → arguments_count (arguments_of (onto xs us)) ≡ length xs + arguments_count (arguments_of us)
arguments_long [] us = omega arith
arguments_long (OfTerm e ∷ xs) us = omega (arith, arguments_long xs (OfTerm e ∷ us))
arguments_long (OfType t ∷ xs) us = omega (arith, arguments_long xs (OfType t ∷ us))

pub parameters_high : (ps us : List Parameter) → parameters_height (onto ps us) ≡ max (parameters_height ps) (parameters_height us)
parameters_high [] us = omega arith
parameters_high (p ∷ ps) us = omega (arith, parameters_high ps (p ∷ us))

pub constructors_high : (xs us : List Constructor) → constructors_height (onto xs us) ≡ max (constructors_height xs) (constructors_height us)
constructors_high [] us = omega arith
constructors_high (x ∷ xs) us = omega (arith, constructors_high xs (x ∷ us))

pub declarations_high : (ds us : List Declaration) → declarations_height (onto ds us) ≡ max (declarations_height ds) (declarations_height us)
declarations_high [] us = omega arith
declarations_high (d ∷ ds) us = omega (arith, declarations_high ds (d ∷ us))
