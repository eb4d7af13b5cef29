-- With which terminals a part begins, and with which it would go on.
use Rattle.std.specs.Prelude.{Bool, true, false}
use Rattle.chw_grammar.specs.declared.terminal.Terminal.{Terminal}
use Rattle.chw_grammar.specs.declared.terminal.Terminal.TheVariants as the

-- a simple type begins
abbrev pub begins_atom : Terminal → Bool
begins_atom the.Lower = true
begins_atom the.Upper = true
begins_atom the.Nat = true
begins_atom the.Dom = true
begins_atom the.Val = true
begins_atom the.Cir = true
begins_atom the.Numeral = true
begins_atom the.Open = true
begins_atom _ = false

-- a factor, a summand, and a type would go on
abbrev pub after_product : Terminal → Bool
after_product the.Star = true
after_product x = begins_atom x

abbrev pub after_sum : Terminal → Bool
after_sum the.Plus = true
after_sum x = after_product x

abbrev pub after_type : Terminal → Bool
after_type the.Arrow = true
after_type x = after_sum x

-- a simple term begins
abbrev pub begins_simple : Terminal → Bool
begins_simple the.Lower = true
begins_simple the.Upper = true
begins_simple the.Nat = true
begins_simple the.Dom = true
begins_simple the.Val = true
begins_simple the.Cir = true
begins_simple the.Literal = true
begins_simple the.Vec = true
begins_simple the.Open = true
begins_simple _ = false

-- an argument begins, and so a term would go on
abbrev pub after_term : Terminal → Bool
after_term the.At = true
after_term x = begins_simple x

-- a term begins
abbrev pub begins_term : Terminal → Bool
begins_term the.Lambda = true
begins_term the.TypeLambda = true
begins_term the.Letrec = true
begins_term the.Case = true
begins_term x = begins_simple x
