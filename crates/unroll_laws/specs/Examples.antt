-- Worked examples of unrolling and types.
use Rattle.std.specs.Prelude.{◌≡◌, List, [], ◌∷◌, Some}
use Rattle.chw_types.specs.BuiltIn.{built_in}
use Rattle.chw_types.specs.TypeTree.{TypeTree, nat_lit, nat_sum, vector}
use Rattle.chw_prims.specs.declared.prim.Primitive.TheVariants.{VReplicate}
use Rattle.chw_prims.specs.Schemas.{bool}
use Rattle.chw_terms.specs.TermTree.{TermTree, var, letrec, vec_lit, no_terms, term_and, no_bindings, bind}
use Rattle.chw_terms.specs.Unrolled.{CanUnroll, unrolled}
use Rattle.chw_typing.specs.Examples.{yes}
use Rattle.chw_typing.specs.Programs.{IsSound}
use Rattle.chw_typing.specs.Scopes.{Setting}
use Rattle.chw_typing.specs.Typing.{HasType}
use Rattle.unroll_laws.specs.Laws.{called}

-- the built-in data types alone
abbrev pub bare : Setting
bare = record { datas = built_in; domains = 0; defs = []; made = [] }

-- `vreplicate @(1 + 1) @Bool True`
abbrev pub one_and_one : TypeTree
one_and_one = nat_sum (nat_lit 1) (nat_lit 1)

abbrev pub types : List TypeTree
types = one_and_one ∷ bool ∷ []

-- `letrec { x : Bool = True; } in [x, x]`
abbrev pub twice : TermTree
twice = letrec (bind bool yes no_bindings) (vec_lit bool (term_and (var 0) (term_and (var 0) no_terms)))

-- the call has the type `Vec (1 + 1) Bool`, and what it is unrolled to `Vec 2 Bool`: the same, but up to naturals alone
pub record TwoFromOne : Type 0 where
  pub sound : IsSound bare
  pub call : HasType bare [] [] (called VReplicate types (yes ∷ [])) (vector one_and_one bool)
  pub can : CanUnroll VReplicate types (yes ∷ [])
  pub is : unrolled VReplicate types (yes ∷ []) ≡ Some twice
  pub has : HasType bare [] [] twice (vector (nat_lit 2) bool)
  pub not_itself : HasType bare [] [] twice (vector one_and_one bool) → ⊥
