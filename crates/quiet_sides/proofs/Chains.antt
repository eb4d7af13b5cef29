-- The function to which `ap` applies is a signal of functions, and so of a type that isn't named.
use Rattle.std.proofs.Common.{refl, subst, List, [], ◌∷◌}
use Rattle.chw_types.specs.declared.declarations.Data.{Data}
use Rattle.chw_types.specs.declared.kind.Kind.TheVariants.{Dom, Val}
use Rattle.type_ports.specs.declared.ports.Leaf.{Leaf}
use Rattle.type_ports.specs.Ports.{Leaves, one_leaf}
use Rattle.type_ports.specs.Representable.{Representable}
use Rattle.chw_types.specs.TypeMoves.{sub}
use Rattle.chw_types.specs.TypeTree.{TypeTree, ty_var, fun, signal}
use Rattle.chw_types.proofs.SameLaws.{same_through}
use Rattle.type_laws.proofs.SameForms.{as_signal, as_function}
use Rattle.chw_prims.specs.declared.prim.Primitive.TheVariants.{Ap}
use Rattle.chw_terms.specs.declared.scene.Mode.{Mode}
use Rattle.chw_terms.specs.declared.scene.Mode.TheVariants.{V, C, HV, HC, K}
use Rattle.chw_terms.specs.TermTree.{TermTree}
use Rattle.chw_typing.specs.Programs.{IsSound}
use Rattle.chw_typing.specs.Scopes.{Setting, AreTermTypes}
use Rattle.chw_typing.specs.Typing.{HasType, HasTypeUpTo}
use Rattle.chw_typing.proofs.OneType.{one_type}
use Rattle.chw_typing.proofs.SameScopes.{are_same_self}
use Rattle.chw_typing.proofs.Saturated.{prim_at_arguments}
use Rattle.rewriting.specs.Named.{IsNamed}
use Rattle.rewriting.specs.Shapes.{ap_of}

no_function : {datas : List Data} {a b : TypeTree} → Representable datas (fun a b) → ⊥
no_function r = elim r [ ]

no_signal : {datas : List Data} {d t : TypeTree} → Representable datas (signal d t) → ⊥
no_signal r = elim r [ ]

payload_of : {datas : List Data} {d t : TypeTree} {ls : List Leaf} → Leaves datas (signal d t) ls → Representable datas t
payload_of (one_leaf r) = r

-- a signal of functions is named in no mode
pub functions_unnamed : (datas : List Data) (mode : Mode) (d a b : TypeTree) → IsNamed datas mode (signal d (fun a b)) → ⊥
functions_unnamed datas V d a b n = no_signal n
functions_unnamed datas HV d a b n = no_signal n
functions_unnamed datas C d a b n = no_function (payload_of n.1)
functions_unnamed datas HC d a b n = no_function (payload_of n.1)
functions_unnamed datas K d a b n = n

-- the type of what stands there
function_type : (s : Setting) (vars : List TypeTree) (d a b : TypeTree) (u x : TermTree) (t : TypeTree) → IsSound s → AreTermTypes s [] vars → HasType s [] vars (ap_of d a b u x) t → (i : TypeTree) × (p : TypeTree) × (r : TypeTree) × HasTypeUpTo s [] vars u (signal i (fun p r))
unfolding sub
function_type s vars d a b u x t h g has =
    let all = prim_at_arguments s [] vars Ap (Dom ∷ Val ∷ Val ∷ []) (signal (ty_var 2) (fun (ty_var 1) (ty_var 0)) ∷ signal (ty_var 2) (ty_var 1) ∷ []) (signal (ty_var 2) (ty_var 0)) (d ∷ a ∷ b ∷ []) (u ∷ x ∷ []) t h g refl refl refl has in
    let first : HasTypeUpTo s [] vars u (signal d (fun a b)) = all.args_given.0 in
    (d, a, b, first)

pub function_unnamed : (s : Setting) (datas : List Data) (mode : Mode) (vars : List TypeTree) (d a b : TypeTree) (u x : TermTree) (t v : TypeTree) → IsSound s → AreTermTypes s [] vars → HasType s [] vars (ap_of d a b u x) t → HasType s [] vars u v → IsNamed datas mode v → ⊥
function_unnamed s datas mode vars d a b u x t v h g has on n =
    let found = function_type s vars d a b u x t h g has in
    let same = same_through found.3.same (one_type found.3.has on h g g (are_same_self vars)) in
    let outer = as_signal same in
    let inner = as_function outer.4 in
    let first : IsNamed datas mode (signal outer.0 outer.1) = subst (IsNamed datas mode) outer.2 n in
    functions_unnamed datas mode outer.0 inner.0 inner.1 (subst (λ w. IsNamed datas mode (signal outer.0 w)) inner.2 first)
