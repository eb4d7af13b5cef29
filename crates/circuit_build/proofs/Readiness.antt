-- What is ready, by heads and their arguments.
use Rattle.std.proofs.Common.{◌≡◌, ◌∙◌, sym, ap, refl, subst, ℕ, List, [], ◌∷◌, ◌++◌, map, reverse}
use Rattle.chw_base.specs.declared.index.WireId.{WireId}
use Rattle.chw_types.specs.declared.declarations.Data.{Data}
use Rattle.chw_types.specs.TypeTree.{TypeTree, domain}
use Rattle.chw_prims.specs.declared.prim.Primitive.{Primitive as Prim}
use Rattle.chw_prims.specs.declared.prim.Primitive.TheVariants.{Fmap, Ap, Pure, Register, BlockRam, UnsafeSynchronizer}
use Rattle.chw_terms.specs.declared.scene.Sort.TheVariants.{Circuit}
use Rattle.chw_terms.specs.declared.scene.Made.{Made as Definition}
use Rattle.chw_terms.specs.declared.term.Arg.{Arg}
use Rattle.chw_terms.specs.declared.term.Arg.TheVariants.{OfTerm, OfType}
use Rattle.chw_terms.specs.declared.term.Binding.{Binding}
use Rattle.chw_terms.specs.declared.term.Head.{Head}
use Rattle.chw_terms.specs.declared.term.Head.TheVariants.{Var, Made, Lam, LetRec, Con, PrimOf, Case}
use Rattle.chw_terms.specs.TermTree.{TermTree, var, made, lam, case_of, prim, Alts}
use Rattle.chw_terms.specs.TermView.{tree_of, applied, group_of}
use Rattle.chw_typing.specs.Scopes.{with_more, declared}
use Rattle.net_built.specs.Circuits.{IsLifted, lifted_on_one, lifted_on_more}
use Rattle.net_built.specs.Data.{HasParts}
use Rattle.net_built.specs.Terms.{head_of, Variable}
use Rattle.net_ready.specs.Ready.{args_of, types_on, IsOne, HasSomeBits, HasSomeWords, RegisterReady, BlockRamReady, FmapReady, ApReady, SignalReady, CircuitReady, ProjectionReady, BlockReady, ready_variable, ready_letrec, SideReady, ready_circuit, BodyReady, ready_lambda, ready_block, ModuleReady}
use Rattle.value_build.specs.Groups.{bound_of}
use Rattle.value_build.proofs.Ready.{bound_types, types_entered}
use Rattle.circuit_build.specs.Arguments.{lifting_args}
use Rattle.circuit_build.specs.Lifting.{lifting, on_signal}
use Rattle.circuit_build.specs.Shapes.{IsDomain, IsMade, IsBlockForm, IsPrimitive, IsLifting, IsSomeLifted, IsLiftedBy}
use Rattle.circuit_build.specs.declared.arguments.Lifting.{Lifting}
use Rattle.circuit_build.proofs.Spines.{bare_head, spine_holds}

made_bare : (e : TermTree) → IsMade e → args_of e ≡ []
made_bare (made m) n = refl
made_bare _ n = absurd n

pub made_head : (h : Head) (args : List Arg) (e : TermTree) → applied (tree_of h) args ≡ e → IsMade e → tree_of h ≡ e
made_head h args e is n = bare_head h args e is (made_bare e n)

-- a lifted term by its parts
lifted_parts : {m : ℕ} {es : List TermTree} {u : TermTree} → IsLifted m u es
    → (p : Prim) × (d : TypeTree) × (a : TypeTree) × (b : TypeTree) × (f : TermTree) × (x : TermTree) × (on_signal p d a b f x ≡ u) × IsLiftedBy p f
lifted_parts {m} (lifted_on_one {d = d} {a = a} {b = b} {x = x}) = (Fmap, d, a, b, made m, x, refl, tt)
lifted_parts {m} (lifted_on_more {d = d} {a = a} {b = b} {u = v} {x = x} {xs = xs} more) = (Ap, d, a, b, v, x, refl, (m, xs, more))

lifted_shape : (u : TermTree) → IsSomeLifted u → IsPrimitive (head_of u) × IsLifting (args_of u)
lifted_shape u lifted =
    let q = lifted_parts lifted.2 in
    (subst IsPrimitive (ap head_of q.6) tt, subst IsLifting (ap args_of q.6) tt)

pub lifted_spine : (h : Head) (args : List Arg) (u : TermTree) → applied (tree_of h) args ≡ u → IsSomeLifted u → IsPrimitive (tree_of h) × IsLifting args
lifted_spine h args u is lifted = spine_holds (λ k xs. IsPrimitive k × IsLifting xs) h args u is (lifted_shape u lifted)

-- the function among arguments of this shape, and the primitive that a term is
abbrev function_in : List Arg → TermTree → TermTree
function_in (OfType d ∷ OfType a ∷ OfType b ∷ OfTerm f ∷ OfTerm x ∷ []) e = f
function_in _ e = e

abbrev primitive_in : TermTree → Prim → Prim
primitive_in (prim p) q = p
primitive_in _ q = q

-- the primitive on these arguments, as a whole term
pub lifted_whole : (h : Head) (args : List Arg) (u : TermTree) (p : Prim) (l : Lifting) → applied (tree_of h) args ≡ u
    → tree_of h ≡ prim p → args ≡ lifting_args l → lifting p l ≡ u
lifted_whole h args u p l is head are = (λ i. applied (sym head i) (sym are i)) ∙ is

pub lifted_by : (h : Head) (args : List Arg) (u : TermTree) (p : Prim) (l : Lifting) → applied (tree_of h) args ≡ u → IsSomeLifted u
    → tree_of h ≡ prim p → args ≡ lifting_args l → IsLiftedBy p l.function.now
lifted_by h args u p l is lifted head are =
    let q = lifted_parts lifted.2 in
    let whole = q.6 ∙ sym (lifted_whole h args u p l is head are) in
    let same : q.0 ≡ p = ap (λ e. primitive_in (head_of e) p) whole in
    let function : q.4 ≡ l.function.now = ap (λ e. function_in (args_of e) l.function.now) whole in
    subst (λ k. IsLiftedBy k l.function.now) same (subst (IsLiftedBy q.0) function q.7)

pub no_other_lifting : (p : Prim) (f : TermTree) → (p ≡ Fmap → ⊥) → (p ≡ Ap → ⊥) → IsLiftedBy p f → ⊥
no_other_lifting Fmap f a b l = a refl
no_other_lifting Ap f a b l = b refl
no_other_lifting _ f a b l = l

-- a variable or a case that is a right side is on no arguments
pub variable_ready : (datas : List Data) (vars : List TypeTree) (widths : List ℕ) (x : ℕ) (args : List Arg) → CircuitReady datas vars widths (var x) args → args ≡ []
variable_ready datas vars widths x [] h = refl
variable_ready datas vars widths x (a ∷ args) h = absurd h

pub case_bare : (datas : List Data) (vars : List TypeTree) (widths : List ℕ) (e : TermTree) (alts : Alts) (args : List Arg) → CircuitReady datas vars widths (case_of e alts) args → args ≡ []
case_bare datas vars widths (var x) alts [] h = refl
case_bare datas vars widths _ alts _ h = absurd h

pub case_ready : (datas : List Data) (vars : List TypeTree) (widths : List ℕ) (e : TermTree) (alts : Alts) (args : List Arg) → CircuitReady datas vars widths (case_of e alts) args
    → (x : ℕ) × (e ≡ var x) × ProjectionReady datas vars x alts
case_ready datas vars widths (var x) alts [] h = (x, refl, h)
case_ready datas vars widths _ alts _ h = absurd h

pub no_other_side : (datas : List Data) (vars : List TypeTree) (widths : List ℕ) (h : Head) (args : List Arg)
    → ((x : _) → h ≡ Var x → ⊥) → ((x : _) → h ≡ PrimOf x → ⊥) → ((x : _) → h ≡ Made x → ⊥) → ((x : _) → h ≡ Con x → ⊥)
    → ((x : _) (y : _) → h ≡ Case x y → ⊥) → CircuitReady datas vars widths (tree_of h) args → ⊥
no_other_side datas vars widths (Var x) args a b c d e r = a x refl
no_other_side datas vars widths (PrimOf x) args a b c d e r = b x refl
no_other_side datas vars widths (Made x) args a b c d e r = c x refl
no_other_side datas vars widths (Con x) args a b c d e r = d x refl
no_other_side datas vars widths (Case x y) args a b c d e r = e x y refl
no_other_side datas vars widths _ args a b c d e r = absurd r

pub no_other_signal : (datas : List Data) (widths : List ℕ) (p : Prim) (args : List Arg)
    → (p ≡ Pure → ⊥) → (p ≡ Register → ⊥) → (p ≡ BlockRam → ⊥) → (p ≡ UnsafeSynchronizer → ⊥) → (p ≡ Fmap → ⊥) → (p ≡ Ap → ⊥)
    → SignalReady datas widths p args → ⊥
no_other_signal datas widths Pure args a b c d e f r = a refl
no_other_signal datas widths Register args a b c d e f r = b refl
no_other_signal datas widths BlockRam args a b c d e f r = c refl
no_other_signal datas widths UnsafeSynchronizer args a b c d e f r = d refl
no_other_signal datas widths Fmap args a b c d e f r = e refl
no_other_signal datas widths Ap args a b c d e f r = f refl
no_other_signal datas widths _ args a b c d e f r = absurd r

-- blocks
block_bare : {datas : List Data} {vars : List TypeTree} {e : TermTree} → BlockReady datas Circuit vars e → args_of e ≡ []
block_bare ready_variable = refl
block_bare (ready_letrec group) = refl

pub block_head : {datas : List Data} {vars : List TypeTree} (h : Head) (args : List Arg) (e : TermTree) → applied (tree_of h) args ≡ e → BlockReady datas Circuit vars e → tree_of h ≡ e
block_head h args e is ready = bare_head h args e is (block_bare ready)

pub block_form : {datas : List Data} {vars : List TypeTree} {e : TermTree} → BlockReady datas Circuit vars e → IsBlockForm e
block_form ready_variable = tt
block_form (ready_letrec {x = x} group) = (x, refl)

-- it is a variable or a letrec
pub no_other_block : (h : Head) → ((x : _) → h ≡ Var x → ⊥) → ((x : _) (y : _) → h ≡ LetRec x y → ⊥) → IsBlockForm (tree_of h) → ⊥
no_other_block (Var x) a b r = a x refl
no_other_block (LetRec x y) a b r = b x y refl
no_other_block _ a b r = absurd r

pub side_parts : {datas : List Data} {vars : List TypeTree} {t : TypeTree} {e : TermTree} → SideReady datas Circuit vars t e
    → (ws : List ℕ) × HasParts datas Circuit t ws × CircuitReady datas vars ws (head_of e) (args_of e)
side_parts (ready_circuit {widths = ws} parts ready) = (ws, parts, ready)

-- the types in scope, where the variables of bindings were put there, and where one was
pub types_bound : (bs : List Binding) (wires : List (List WireId)) (outer inner : List Variable) → inner ≡ outer ++ bound_of bs wires
    → types_on (reverse inner) ≡ with_more (declared (group_of bs)) (types_on (reverse outer))
types_bound bs wires outer inner entered = types_entered outer inner (bound_of bs wires) (declared (group_of bs)) entered (bound_types bs wires)

pub types_one_more : (v : Variable) (outer inner : List Variable) → inner ≡ outer ++ v ∷ [] → types_on (reverse inner) ≡ v.ty ∷ types_on (reverse outer)
types_one_more v outer inner entered = types_entered outer inner (v ∷ []) (v.ty ∷ []) entered refl

-- lambdas
pub lambda_ready : {datas : List Data} {vars : List TypeTree} (t : TypeTree) (e : TermTree) → BodyReady datas Circuit vars (lam t e)
    → ((ws : List ℕ) × HasParts datas Circuit t ws) × BodyReady datas Circuit (t ∷ vars) e
lambda_ready t e (ready_lambda {widths = ws} parts more) = ((ws, parts), more)
lambda_ready t e (ready_block block) = elim block [ ]

body_bare : {datas : List Data} {vars : List TypeTree} {e : TermTree} → BodyReady datas Circuit vars e → args_of e ≡ []
body_bare (ready_lambda parts more) = refl
body_bare (ready_block block) = block_bare block

pub body_head : {datas : List Data} {vars : List TypeTree} (h : Head) (args : List Arg) (e : TermTree) → applied (tree_of h) args ≡ e → BodyReady datas Circuit vars e → tree_of h ≡ e
body_head h args e is ready = bare_head h args e is (body_bare ready)

-- what isn't a lambda is a block
abbrev pub IsLambda : TermTree → Type 0
IsLambda (lam t e) = Unit {0}
IsLambda _ = ⊥

pub body_is_block : {datas : List Data} {vars : List TypeTree} {e : TermTree} → BodyReady datas Circuit vars e → (IsLambda e → ⊥) → BlockReady datas Circuit vars e
body_is_block (ready_lambda parts more) other = absurd (other tt)
body_is_block (ready_block block) other = block

pub not_lambda : (h : Head) → ((t e : _) → h ≡ Lam t e → ⊥) → IsLambda (tree_of h) → ⊥
not_lambda (Lam t e) other l = other t e refl
not_lambda _ other l = l

-- what is known of the arguments of a primitive that is ready
pub register_known : (datas : List Data) (widths : List ℕ) (u a : TypeTree) (e x : TermTree) → RegisterReady datas widths (OfType u ∷ OfType a ∷ OfTerm e ∷ OfTerm x ∷ [])
    → IsDomain u × IsOne widths × HasSomeBits datas a e
register_known datas widths (domain d) a e (var x) h = (tt, h.0, h.1)
register_known datas widths _ a e _ h = absurd h

pub block_ram_known : (datas : List Data) (widths : List ℕ) (u m k a : TypeTree) (e x y : TermTree)
    → BlockRamReady datas widths (OfType u ∷ OfType m ∷ OfType k ∷ OfType a ∷ OfTerm e ∷ OfTerm x ∷ OfTerm y ∷ [])
    → IsDomain u × IsOne widths × HasSomeWords datas a e
block_ram_known datas widths (domain d) m k a e (var x) (var y) h = (tt, h.0, h.1)
block_ram_known datas widths _ m k a e _ _ h = absurd h

pub mapped_lifts : (args : List Arg) → FmapReady args → IsLifting args
mapped_lifts (OfType d ∷ OfType a ∷ OfType b ∷ OfTerm (made m) ∷ OfTerm (var x) ∷ []) h = tt
mapped_lifts _ h = absurd h

pub mapped_known : (d a b : TypeTree) (f x : TermTree) → FmapReady (OfType d ∷ OfType a ∷ OfType b ∷ OfTerm f ∷ OfTerm x ∷ []) → IsMade f
mapped_known d a b (made m) (var x) h = tt
mapped_known d a b _ _ h = absurd h

pub ap_lifts : (args : List Arg) → ApReady args → IsLifting args
ap_lifts (OfType d ∷ OfType a ∷ OfType b ∷ OfTerm u ∷ OfTerm (var x) ∷ []) h = tt
ap_lifts _ h = absurd h

pub ap_known : (d a b : TypeTree) (u x : TermTree) → ApReady (OfType d ∷ OfType a ∷ OfType b ∷ OfTerm u ∷ OfTerm x ∷ []) → IsSomeLifted u
ap_known d a b u (var x) h = (h.0, map (λ (y : ℕ). var y) h.1, h.2)
ap_known d a b u _ h = absurd h

-- a made definition that gives a circuit
pub circuit_body : (datas : List Data) (it : Definition) → it.sort ≡ Circuit → ModuleReady datas it → BodyReady datas Circuit [] it.body
circuit_body datas it is ready = subst (λ s. BodyReady datas s [] it.body) is ready.body
