-- Programs that are not typed.
use Rattle.std.specs.Prelude.{ℕ, List, [], ◌∷◌, codes}
use Rattle.chw_types.specs.declared.kind.Scalar.TheVariants.{U}
use Rattle.chw_types.specs.TypeTree.{TypeTree, fun}
use Rattle.chw_types.specs.BuiltIn.{built_in}
use Rattle.chw_prims.specs.Schemas.{bool}
use Rattle.chw_terms.specs.declared.program.Program.{Program}
use Rattle.chw_terms.specs.declared.term.Pattern.TheVariants.{OfLit}
use Rattle.chw_terms.specs.TermTree.{TermTree, var, lam, lit, case_of, no_alts, alt}
use Rattle.chw_typing.specs.Programs.{IsTyped}
use Rattle.chw_typing.specs.Examples.{yes, no, five, con_pattern, bits_of_a}

-- one domain, the built-in data types, and one definition, which is the top, with so many names
abbrev pub alone : TypeTree → TermTree → List (List ℕ) → List (List ℕ) → Program
alone t e inputs outputs =
    record {
      domains = codes "A" ∷ [];
      resets = [];
      datas = built_in;
      defs = record { name = codes "f"; ty = t; body = e } ∷ [];
      top = record { «def» = record { number = 0 }; inputs = inputs; outputs = outputs };
    }

-- `def f : Bool = True; top f () (o);`: a `Bool` is no port
abbrev pub NoPort : Type 0
NoPort = IsTyped (alone bool yes [] (codes "o" ∷ [])) → ⊥

-- `def f : Signal A Bool -> Signal A Bool = \(s : Signal A Bool) . s; top f () (o);`: a name is missing
abbrev pub NameMissing : Type 0
NameMissing = IsTyped (alone (fun bits_of_a bits_of_a) (lam bits_of_a (var 0)) [] (codes "o" ∷ [])) → ⊥

-- `def f : Bool = 5u8;` with a top that can't matter: the body has another type
abbrev pub OtherType : Type 0
OtherType = IsTyped (alone bool (lit U five) [] []) → ⊥

-- `case True of { True -> False; }` leaves out `False`
abbrev pub Incomplete : Type 0
Incomplete = IsTyped (alone bool (case_of yes (alt (con_pattern 1 0) no no_alts)) [] []) → ⊥

-- `case 5u8 of { 5u8 -> True; }` has no default
abbrev pub NoDefault : Type 0
NoDefault = IsTyped (alone bool (case_of (lit U five) (alt (OfLit U five) yes no_alts)) [] []) → ⊥
