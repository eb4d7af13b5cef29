-- Terms that have types, and terms that have none.
use Rattle.std.specs.Prelude.{ℕ, Bool, true, false, List, [], ◌∷◌, ◌++◌, codes}
use Rattle.chw_types.specs.declared.kind.Kind.{Kind}
use Rattle.chw_types.specs.declared.kind.Kind.TheVariants.{Nat, Val, Cir}
use Rattle.chw_types.specs.declared.kind.Scalar.TheVariants.{U}
use Rattle.chw_types.specs.declared.declarations.Data.{Data}
use Rattle.chw_types.specs.TypeTree.{TypeTree, ty_var, nat_lit, nat_sum, nat_product, domain, scalar, vector, data_of, fun, signal, for_all, no_types}
use Rattle.chw_types.specs.TypeMoves.{put as put_type}
use Rattle.chw_types.specs.Kinds.{HasNoKind}
use Rattle.chw_types.specs.BuiltIn.{built_in, constructor_of}
use Rattle.chw_types.specs.SameTypes.{SameTypes}
use Rattle.chw_prims.specs.declared.prim.Primitive.TheVariants.{Pure}
use Rattle.chw_prims.specs.Schemas.{bool}
use Rattle.chw_terms.specs.declared.term.Pattern.{Pattern}
use Rattle.chw_terms.specs.declared.term.Pattern.TheVariants.{OfCon, OfLit, Default}
use Rattle.chw_terms.specs.TermTree.{TermTree, var, lam, app, ty_lam, ty_app, letrec, con, prim, lit, vec_lit, case_of, no_terms, term_and, no_bindings, bind, no_alts, alt}
use Rattle.chw_terms.specs.TermMoves.{put}
use Rattle.chw_typing.specs.Scopes.{Setting}
use Rattle.chw_typing.specs.Typing.{HasType}

-- one domain, the built-in data types, and `data Wire = Wire (Signal A Bool);`
abbrev pub bits_of_a : TypeTree
bits_of_a = signal (domain 0) bool

abbrev pub wire_type : Data
wire_type = record { name = codes "Wire"; params = []; kind = Cir; cons = constructor_of (codes "Wire") (bits_of_a ∷ []) ∷ [] }

abbrev pub small : Setting
small = record { datas = built_in ++ wire_type ∷ []; domains = 1; defs = []; made = [] }

-- the term has no type
abbrev pub HasNoType : List Kind → List TypeTree → TermTree → Type 0
HasNoType kinds vars e = (t : TypeTree) → HasType small kinds vars e t → ⊥

abbrev pub no : TermTree
no = con 0

abbrev pub yes : TermTree
yes = con 1

abbrev pub con_pattern : ℕ → ℕ → Pattern
con_pattern c n = OfCon (record { number = c }) n

abbrev pub wire : TypeTree
wire = data_of 3 no_types

-- `5u8`
abbrev pub five : List Bool
five = false ∷ false ∷ false ∷ false ∷ false ∷ true ∷ false ∷ true ∷ []

abbrev pub word : ℕ → TypeTree
word n = scalar U (nat_lit n)

-- `\(x : Bool) . x` has the type `Bool -> Bool`
abbrev pub Identity : Type 0
Identity = HasType small [] [] (lam bool (var 0)) (fun bool bool)

-- `\(s : Signal A Bool) . True` has none: no function goes from a circuit to a value
abbrev pub forgets : TermTree
forgets = lam bits_of_a yes

abbrev pub LambdaOverASignal : Type 0
LambdaOverASignal = HasNoType [] [] forgets

-- so it has none where it is applied either: `(\(s : Signal A Bool) . True) (pure @A @Bool True)`
abbrev pub steady : TermTree
steady = app (ty_app (ty_app (prim Pure) (domain 0)) bool) yes

abbrev pub AppliedToASignal : Type 0
AppliedToASignal = HasType small [] [] steady bits_of_a × HasNoType [] [] (app forgets steady)

-- `letrec { s : Signal A Bool = pure @A @Bool True; } in s` has the type of s, and with `True` as its body it has none
abbrev pub LetOfASignal : Type 0
LetOfASignal =
    HasType small [] [] (letrec (bind bits_of_a steady no_bindings) (var 0)) bits_of_a × HasNoType [] [] (letrec (bind bits_of_a steady no_bindings) yes)

-- `case True of { True -> False; False -> True; }` is a `Bool`, and with a second alternative for `True` it has no type
abbrev pub TwoForOneConstructor : Type 0
TwoForOneConstructor =
    HasType small [] [] (case_of yes (alt (con_pattern 1 0) no (alt (con_pattern 0 0) yes no_alts))) bool
    × HasNoType [] [] (case_of yes (alt (con_pattern 1 0) no (alt (con_pattern 1 0) yes no_alts)))

-- nothing stands after a default: `case True of { _ -> True; False -> True; }`
abbrev pub AfterADefault : Type 0
AfterADefault = HasNoType [] [] (case_of yes (alt Default yes (alt (con_pattern 0 0) yes no_alts)))

-- `case 5u8 of { 5u8 -> True; _ -> False; }` is a `Bool`
abbrev pub LiteralPattern : Type 0
LiteralPattern = HasType small [] [] (case_of (lit U five) (alt (OfLit U five) yes (alt Default no no_alts))) bool

-- not even a default looks at a function: `case f of { _ -> True; }`
abbrev pub LookingAtAFunction : Type 0
LookingAtAFunction = HasNoType [] (fun bool bool ∷ []) (case_of (var 0) (alt Default yes no_alts))

-- `case w of { Wire s -> s; }` is a signal; with `True` for `s` it has no type, since no value is made of a circuit
abbrev pub LookingAtACircuit : Type 0
LookingAtACircuit =
    HasType small [] (wire ∷ []) (case_of (var 0) (alt (con_pattern 5 1) (var 0) no_alts)) bits_of_a
    × HasNoType [] (wire ∷ []) (case_of (var 0) (alt (con_pattern 5 1) yes no_alts))

-- as many names as fields: `case w of { Wire -> w; }`
abbrev pub TooFewNames : Type 0
TooFewNames = HasNoType [] (wire ∷ []) (case_of (var 0) (alt (con_pattern 5 0) (var 0) no_alts))

-- `(\(x : Unsigned (4 + 4)) . x) 5u8` has a type, since 4 + 4 and 8 are the same natural
abbrev pub SumOfNaturals : Type 0
SumOfNaturals =
    HasType small [] [] (app (lam (scalar U (nat_sum (nat_lit 4) (nat_lit 4))) (var 0)) (lit U five)) (scalar U (nat_sum (nat_lit 4) (nat_lit 4)))

-- `vec @Bool [True, False]` has the type `Vec 2 Bool`
abbrev pub VectorOfTwo : Type 0
VectorOfTwo = HasType small [] [] (vec_lit bool (term_and yes (term_and no no_terms))) (vector (nat_lit 2) bool)

-- `(/\(a : Val) . \(x : a) . x)` at `Bool` has the type `Bool -> Bool`, and at 8 it has none: a type argument has the kind that is asked for
abbrev pub identities : TermTree
identities = ty_lam Val (lam (ty_var 0) (var 0))

abbrev pub ArgumentOfTheKind : Type 0
ArgumentOfTheKind = HasType small [] [] (ty_app identities bool) (fun bool bool) × HasNoType [] [] (ty_app identities (nat_lit 8))

-- `/\(n : Nat) . \(x : Unsigned (n * n * n)) . x` has a type, and at `m * m` it has none, for a natural m in scope: no natural of a degree up
-- to 4 is the same as m to the power 6
abbrev pub cube : TypeTree
cube = nat_product (nat_product (ty_var 0) (ty_var 0)) (ty_var 0)

abbrev pub cubes : TermTree
cubes = ty_lam Nat (lam (scalar U cube) (var 0))

abbrev pub square : TypeTree
square = nat_product (ty_var 0) (ty_var 0)

abbrev pub DegreeTooGreat : Type 0
DegreeTooGreat =
    HasType small (Nat ∷ []) [] cubes (for_all Nat (fun (scalar U cube) (scalar U cube)))
    × HasNoType (Nat ∷ []) [] (ty_app cubes square)

-- Types that are the same up to naturals may differ in degree, so that one has a kind and the other none. A term keeps a type all the same
-- where what is put for a variable has the variable's type only up to naturals: with f of the type `forall (n : Nat) . Unsigned n -> Unsigned n`,
-- `f @(m * m * m)` has a type; with `/\(n : Nat) . \(x : Unsigned (n + 0 * (n * n))) . x` for f it has it too, though `m * m * m` put into the
-- type of that leaves no kind.
abbrev pub plain : TypeTree
plain = for_all Nat (fun (scalar U (ty_var 0)) (scalar U (ty_var 0)))

abbrev pub padded_width : TypeTree
padded_width = nat_sum (ty_var 0) (nat_product (nat_lit 0) (nat_product (ty_var 0) (ty_var 0)))

abbrev pub padded : TypeTree
padded = for_all Nat (fun (scalar U padded_width) (scalar U padded_width))

abbrev pub padded_identity : TermTree
padded_identity = ty_lam Nat (lam (scalar U padded_width) (var 0))

pub record OnlyUpToNaturals : Type 0 where
  pub same : SameTypes plain padded
  pub used : HasType small (Nat ∷ []) (plain ∷ []) (ty_app (var 0) cube) (fun (scalar U cube) (scalar U cube))
  pub has : HasType small (Nat ∷ []) [] padded_identity padded
  pub too_great : HasNoKind small.datas small.domains (Nat ∷ []) (put_type (fun (scalar U padded_width) (scalar U padded_width)) 0 cube)
  pub kept : HasType small (Nat ∷ []) [] (put (ty_app (var 0) cube) 0 padded_identity) (fun (scalar U cube) (scalar U cube))
