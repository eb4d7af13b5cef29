-- What is found for a term, by its head.
use Rattle.std.proofs.Common.{◌≡◌, ◌∙◌, List, [], ◌∷◌, Option, Some, None, refl, sym, ap}
use Rattle.std.proofs.Common.{Box, Global as TheGlobal}
use Rattle.chw_base.specs.declared.index.DefId.{DefId}
use Rattle.chw_base.specs.declared.index.MadeId.{MadeId}
use Rattle.chw_base.specs.declared.index.VarIx.{VarIx}
use Rattle.chw_types.specs.declared.ty.Ty.{Ty}
use Rattle.chw_types.specs.declared.ty.TyNode.{TyNode}
use Rattle.chw_types.specs.declared.ty.TyNode.TheVariants.{Fun}
use Rattle.chw_types.specs.TypeTree.{TypeTree, fun}
use Rattle.chw_types.specs.TypeView.{tree_of as type_of}
use Rattle.chw_terms.specs.declared.term.Head.{Head}
use Rattle.chw_terms.specs.declared.term.Head.TheVariants.{Var, Global, Made}
use Rattle.chw_terms.specs.declared.term.Arg.{Arg}
use Rattle.chw_terms.specs.declared.term.Arg.TheVariants.{OfTerm, OfType}
use Rattle.chw_terms.specs.TermTree.{TermTree, var, global, made, app, ty_app}
use Rattle.chw_terms.specs.TermView.{applied, tree_of}
use Rattle.chw_typing.specs.Finding.{Finds, f_var, f_global, f_made, f_app}
use Rattle.chw_typing.specs.Scopes.{Setting}
use Rattle.call_types.specs.CallTypes.{given, given_by_each, call_type}

-- what gives something is a function's type
function_given : (o : Option TypeTree) (t : TypeTree) → given o ≡ Some t → (a : TypeTree) × (o ≡ Some (fun a t))
function_given (Some (fun a b)) t e = (a, let is : b ≡ t = cc in ap (λ b. Some (fun a b)) is)
function_given _ t e = absurd cc

pub found_by_head : (s : Setting) (vars : List TypeTree) (e : TermTree) (t u : TypeTree) → call_type s vars e ≡ Some t → Finds s [] vars e u → u ≡ t
found_by_head s vars (var x) t u is (f_var at) = cc
found_by_head s vars (global d) t u is (f_global at) = cc
found_by_head s vars (made m) t u is (f_made at) = cc
found_by_head s vars (app f x) t u is (f_app found given same) =
    let function = function_given (call_type s vars f) t is in
    let one = found_by_head s vars f (fun function.0 t) _ function.1 found in
    cc
found_by_head s vars _ t u is found = absurd cc

-- where the head's type isn't known, nor is the call's
pub nothing_given : (args : List Arg) → given_by_each None args ≡ None
nothing_given [] = refl
nothing_given (OfTerm x ∷ args) = nothing_given args
nothing_given (OfType a ∷ args) = refl

-- a call's type is what its head's type gives on each argument
pub call_of_head : (s : Setting) (vars : List TypeTree) (e : TermTree) (args : List Arg) → given_by_each (call_type s vars e) args ≡ call_type s vars (applied e args)
call_of_head s vars e [] = refl
call_of_head s vars e (OfTerm x ∷ args) = call_of_head s vars (app e x) args
call_of_head s vars e (OfType a ∷ args) = sym (nothing_given args) ∙ call_of_head s vars (ty_app e a) args

-- another head has no such type
pub no_call : (s : Setting) (vars : List TypeTree) (h : Head) → ((x : VarIx) → h ≡ Var x → ⊥) → ((x : DefId) → h ≡ Global x → ⊥) → ((x : MadeId) → h ≡ Made x → ⊥) → None ≡ call_type s vars (tree_of h)
no_call s vars (Var x) v g m = absurd (v x refl)
no_call s vars (Global x) v g m = absurd (g x refl)
no_call s vars (Made x) v g m = absurd (m x refl)
no_call s vars _ v g m = refl

-- what is no function gives nothing
pub no_function : (n : TyNode) → ((x y : Box Ty TheGlobal) → n ≡ Fun x y → ⊥) → given (Some (type_of n)) ≡ None
no_function (Fun x y) h = absurd (h x y refl)
no_function _ h = refl
