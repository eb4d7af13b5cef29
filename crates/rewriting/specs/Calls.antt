-- What rules make of a whole term at a place: of a call, and of what a result place gives.
use Rattle.std.specs.Prelude.{◌≡◌, ℕ, ◌==◌, true, if◌then◌else◌}
use Rattle.std.specs.Prelude.{List, [], ◌∷◌, map, length, Some, Contains}
use Rattle.std.specs.List.{slice_get, AllByRecursion}
use Rattle.chw_types.specs.TypeMoves.{Renaming}
use Rattle.chw_types.specs.TypeTree.{TypeTree}
use Rattle.chw_terms.specs.declared.rule.Rule.{Rule}
use Rattle.chw_terms.specs.declared.rule.Rule.TheVariants.{Spec, Anf}
use Rattle.chw_terms.specs.declared.term.Arg.{Arg}
use Rattle.chw_terms.specs.declared.term.Arg.TheVariants.{OfTerm}
use Rattle.chw_terms.specs.FreeVariables.{free_in}
use Rattle.chw_terms.specs.TermMoves.{rename, shift}
use Rattle.chw_terms.specs.TermTree.{TermTree, var, global, made, letrec, no_bindings, bind}
use Rattle.chw_terms.specs.TermView.{applied}
use Rattle.chw_typing.specs.Typing.{HasType}
use Rattle.chw_typing.specs.Finding.{Finds}
use Rattle.rewriting.specs.Named.{IsNamed}
use Rattle.rewriting.specs.Origins.{Origins, setting_at, origin_of, under_each}
use Rattle.rewriting.specs.Spots.{Spot, HasLets}
use Rattle.rewriting.specs.Numbers.{IsNumberOf}
use Rattle.rewriting.specs.Operands.{IsFirstOfCall, NoneNeedsName, with_name}
use Rattle.rewriting.specs.Shapes.{IsVariable, IsLet}

-- where each of these variables comes under a lambda for each of them, the first one outermost
abbrev pub to_lambdas : List ℕ → Renaming
to_lambdas [] x = x
to_lambdas (y ∷ ys) x = if x == y then length ys else to_lambdas ys x

-- a call as a closed term: under a lambda for each free variable, in the order in which they occur,
-- with the origins of made definitions
abbrev pub call_origin : Origins → List TypeTree → TermTree → TermTree
call_origin o ts e = origin_of o (under_each ts (rename e (to_lambdas (free_in e))))

-- the call of a definition, for which the type t is found; this and the types `ts` of its free
-- variables are named, and each argument of a named type is a variable
pub record IsCall
    (o : Origins) (at : Spot) (e : TermTree) (ts : List TypeTree) (t : TypeTree) : Type 0
  where
    pub of : ℕ
    pub args : List Arg
    pub is : e ≡ applied (global of) args
    pub has : Finds (setting_at o) [] at.vars e t
    pub named : IsNamed o.program.datas at.mode t
    pub on_variables : (a : TermTree) (u : TypeTree) → Contains args (OfTerm a)
        → HasType (setting_at o) [] at.vars a u → IsNamed o.program.datas at.mode u → IsVariable a
    pub free : map (slice_get at.vars) (free_in e) ≡ map (λ u. Some u) ts
    pub free_named : AllByRecursion (IsNamed o.program.datas at.mode) ts

pub data OfWhole (o : Origins) (at : Spot) : Rule → TermTree → TermTree → Type 0 where
  -- a call becomes a made definition on its free variables
  spec_call : {e : TermTree} {ts : List TypeTree} {t : TypeTree} {m : ℕ}
      → HasLets at.mode → IsCall o at e ts t → IsNumberOf o (call_origin o ts e) m
      → OfWhole o at Spec e (applied (made m) (map (λ x. OfTerm (var x)) (free_in e)))
  -- the first argument of a call that needs a name gets it
  anf_call : {e x : TermTree} {path : List ℕ} {t : TypeTree}
      → IsFirstOfCall o at e path x → Finds (setting_at o) [] at.vars x t
      → OfWhole o at Anf e (with_name e path t x)
  -- where none needs one, what a result place gives gets it
  anf_result : {e : TermTree} {t : TypeTree}
      → HasLets at.mode → at.result ≡ true → (IsVariable e → ⊥) → (IsLet e → ⊥)
      → NoneNeedsName o at e → Finds (setting_at o) [] at.vars e t
      → OfWhole o at Anf e (letrec (bind t (shift e 0 1) no_bindings) (var 0))
