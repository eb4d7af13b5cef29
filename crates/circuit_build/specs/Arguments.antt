-- The arguments of primitives on signals, as lists.
use Rattle.std.specs.Prelude.{List, [], ◌∷◌}
use Rattle.chw_terms.specs.declared.term.Arg.{Arg}
use Rattle.chw_terms.specs.declared.term.Arg.TheVariants.{OfTerm, OfType}
use Rattle.circuit_build.specs.declared.arguments.Crossing.{Crossing}
use Rattle.circuit_build.specs.declared.arguments.Delay.{Delay}
use Rattle.circuit_build.specs.declared.arguments.Lifting.{Lifting}
use Rattle.circuit_build.specs.declared.arguments.Memory.{Memory}
use Rattle.circuit_build.specs.declared.arguments.Steady.{Steady}

-- `@d @a c`
abbrev pub steady_args : Steady → List Arg
steady_args p = OfType p.domain.now ∷ OfType p.payload.now ∷ OfTerm p.constant.now ∷ []

-- `@d @a c x`
abbrev pub delay_args : Delay → List Arg
delay_args p =
    OfType p.domain.now ∷ OfType p.payload.now ∷ OfTerm p.first.now ∷ OfTerm p.signal.now ∷ []

-- `@d @n @k @a c x y`
abbrev pub memory_args : Memory → List Arg
memory_args p =
    OfType p.domain.now ∷ OfType p.last.now ∷ OfType p.bits.now ∷ OfType p.payload.now
    ∷ OfTerm p.words.now ∷ OfTerm p.read.now ∷ OfTerm p.write.now ∷ []

-- `@d @e @a x`
abbrev pub crossing_args : Crossing → List Arg
crossing_args p =
    OfType p.from.now ∷ OfType p.to.now ∷ OfType p.payload.now ∷ OfTerm p.signal.now ∷ []

-- `@d @a @b f x`
abbrev pub lifting_args : Lifting → List Arg
lifting_args p =
    OfType p.domain.now ∷ OfType p.from.now ∷ OfType p.to.now ∷ OfTerm p.function.now
    ∷ OfTerm p.signal.now ∷ []
