-- Made definitions that are typed, and what isn't so.
use Rattle.std.specs.Prelude.{[], ◌∷◌, codes}
use Rattle.chw_types.specs.BuiltIn.{built_in}
use Rattle.chw_types.specs.TypeTree.{TypeTree, domain, fun, signal}
use Rattle.chw_prims.specs.Schemas.{bool}
use Rattle.chw_terms.specs.declared.scene.Mode.TheVariants.{V, C}
use Rattle.chw_terms.specs.declared.scene.Sort.TheVariants.{Value, Circuit}
use Rattle.chw_terms.specs.TermTree.{TermTree, var, made, lam, letrec, con, no_bindings, bind}
use Rattle.rewriting.specs.Named.{IsNamed, LeadsToNamed, HasLeadingLambdas}
use Rattle.rewriting.specs.Origins.{MadeOf, Origins, HoldsNoMade}
use Rattle.rewriting.specs.Typed.{IsTypedMade}

-- one domain, the built-in data types, and nothing else
abbrev pub bare : Origins
bare =
    record {
      program =
          record {
            domains = codes "A" ∷ [];
            resets = [];
            datas = built_in;
            defs = [];
            top = record { «def» = record { number = 0 }; inputs = []; outputs = [] };
          };
      made = [];
    }

-- `Signal A Bool`
abbrev pub bits : TypeTree
bits = signal (domain 0) bool

-- `True`, as a value
abbrev pub truth : MadeOf
truth = record { origin = con 1; ty = bool; sort = Value }

abbrev pub TypedValue : Type 0
TypedValue = IsTypedMade bare truth (con 1)

-- `\(s : Signal A Bool) . s`, as a circuit, that has become
-- `\(s : Signal A Bool) . letrec { t : Signal A Bool = s; } in t`
abbrev pub same_bits : MadeOf
same_bits = record { origin = lam bits (var 0); ty = fun bits bits; sort = Circuit }

abbrev pub named_bits : TermTree
named_bits = lam bits (letrec (bind bits (var 1) no_bindings) (var 0))

abbrev pub TypedCircuit : Type 0
TypedCircuit = IsTypedMade bare same_bits named_bits

-- a made definition has no leading lambda
abbrev pub NoLeadingLambda : Type 0
NoLeadingLambda = HasLeadingLambdas (made 0) (fun bits bits) → ⊥

-- a function from functions doesn't lead to named types
abbrev pub UnnamedParameter : Type 0
UnnamedParameter = LeadsToNamed built_in V (fun (fun bool bool) bool) → ⊥

-- a `Bool` is named where values are built, and not where circuits are, and a signal the other way
abbrev pub BoolInValues : Type 0
BoolInValues = IsNamed built_in V bool

abbrev pub NoBoolInCircuits : Type 0
NoBoolInCircuits = IsNamed built_in C bool → ⊥

abbrev pub SignalInCircuits : Type 0
SignalInCircuits = IsNamed built_in C bits

abbrev pub NoSignalInValues : Type 0
NoSignalInValues = IsNamed built_in V bits → ⊥

-- a made definition isn't without one
abbrev pub HoldsOne : Type 0
HoldsOne = HoldsNoMade (made 0) → ⊥
