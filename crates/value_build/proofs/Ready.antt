-- What is ready, taken apart.
use Rattle.std.proofs.Common.{◌≡◌, ◌∙◌, sym, ap, refl, subst, ℕ, zero, suc, ◌<◌, arith, List, [], ◌∷◌, ◌++◌, reverse, length, get_or, Some}
use Rattle.std.specs.List.{slice_get}
use Rattle.std.proofs.lemmas.List.{reverse-append, length-map, length-reverse}
use Rattle.std.proofs.lemmas.Option.{slice_get_within}
use Rattle.chw_base.specs.declared.index.WireId.{WireId}
use Rattle.chw_types.specs.declared.declarations.Data.{Data}
use Rattle.chw_types.specs.TypeMoves.{Substitution, sub}
use Rattle.chw_types.specs.TypeTree.{TypeTree}
use Rattle.chw_terms.specs.declared.scene.Sort.{Sort}
use Rattle.chw_terms.specs.declared.scene.Sort.TheVariants.{Value}
use Rattle.chw_terms.specs.declared.term.Alt.{Alt}
use Rattle.chw_terms.specs.declared.term.Arg.{Arg}
use Rattle.chw_terms.specs.declared.term.Binding.{Binding}
use Rattle.chw_terms.specs.declared.term.Head.{Head}
use Rattle.chw_terms.specs.declared.term.Head.TheVariants.{Var, Lam, LetRec, Case}
use Rattle.chw_terms.specs.declared.term.Pattern.{Pattern}
use Rattle.chw_terms.specs.TermTree.{TermTree, var, lam, letrec, lit, vec_lit, case_of, Terms, Group}
use Rattle.chw_terms.specs.TermView.{tree_of, applied, group_of, alts_of}
use Rattle.chw_typing.specs.HeadTypes.{PatternOf}
use Rattle.chw_typing.specs.Scopes.{with_more, declared}
use Rattle.chw_layout.specs.Measured.{Measure, fits, too_wide, then_measure, HasWidth, Measured, MeasuredFields, field_measured}
use Rattle.net_built.specs.Data.{HaveWidths, HasParts, value_part, variables_from}
use Rattle.net_built.specs.Terms.{head_of, Variable, variable}
use Rattle.net_built.proofs.Parts.{pattern_once}
use Rattle.net_ready.specs.Ready.{types_on, args_of, ValueReady, BlockReady, ready_variable, ready_letrec, GroupReady, ready_and, SideReady, ready_value, ready_case, AltsReady, ready_alt, BodyReady, ready_lambda, ready_block}
use Rattle.net_ready.proofs.Scopes.{field_types, types_with_more, variable_there}
use Rattle.net_built.specs.Circuits.{Ground}
use Rattle.net_built.specs.Wires.{new_wires}
use Rattle.value_build.specs.Bodies.{IsInput}
use Rattle.value_build.specs.Groups.{bound_of}
use Rattle.value_build.specs.InScope.{as_variable, as_variables, in_scope}
use Rattle.value_build.specs.declared.scope.Variable.{Variable as Held}
use Rattle.value_build.specs.ReadyParts.{IsMeasured, FieldsMeasured, IsName, AltReady, CaseReady}
use Rattle.value_build.proofs.Spines.{args_are, head_is}

-- a right side by its head
pub head_ready : (datas : List Data) (h : Head) (args : List Arg) (e : TermTree) → applied (tree_of h) args ≡ e
    → ValueReady datas (head_of e) (args_of e) → ValueReady datas (tree_of h) args
head_ready datas h args e is r =
    subst (λ k. ValueReady datas k args) (sym (head_is h args e is))
    (subst (λ xs. ValueReady datas (head_of e) xs) (sym (args_are h args e is)) r)

-- these heads have no arguments
pub var_alone : (datas : List Data) (x : ℕ) (args : List Arg) → ValueReady datas (var x) args → args ≡ []
var_alone datas x [] r = refl
var_alone datas x (a ∷ args) r = absurd r

pub lit_alone : (datas : List Data) (s : _) (bits : _) (args : List Arg) → ValueReady datas (lit s bits) args → args ≡ []
lit_alone datas s bits [] r = refl
lit_alone datas s bits (a ∷ args) r = absurd r

pub vec_alone : (datas : List Data) (t : TypeTree) (es : Terms) (args : List Arg) → ValueReady datas (vec_lit t es) args → args ≡ []
vec_alone datas t es [] r = refl
vec_alone datas t es (a ∷ args) r = absurd r

-- a block has no arguments
pub block_alone : {datas : List Data} {sort : Sort} {vars : List TypeTree} {e : TermTree} → BlockReady datas sort vars e → args_of e ≡ []
block_alone ready_variable = refl
block_alone (ready_letrec g) = refl

abbrev IsBlockHead : TermTree → Type 0
IsBlockHead (var x) = Unit {0}
IsBlockHead (letrec g e) = Unit {0}
IsBlockHead _ = ⊥

block_head : {datas : List Data} {sort : Sort} {vars : List TypeTree} {e : TermTree} → BlockReady datas sort vars e → IsBlockHead (head_of e)
block_head ready_variable = tt
block_head (ready_letrec g) = tt

other_head : (h : Head) → ((x : _) → h ≡ Var x → ⊥) → ((x : _) (y : _) → h ≡ LetRec x y → ⊥) → IsBlockHead (tree_of h) → ⊥
other_head (Var x) n m r = n x refl
other_head (LetRec x y) n m r = m x y refl
other_head _ n m r = r

-- it is a variable or a letrec
pub no_other_block : {datas : List Data} {sort : Sort} {vars : List TypeTree} (h : Head) (args : List Arg) (e : TermTree)
    → applied (tree_of h) args ≡ e → BlockReady datas sort vars e
    → ((x : _) → h ≡ Var x → ⊥) → ((x : _) (y : _) → h ≡ LetRec x y → ⊥) → ⊥
no_other_block h args e is r n m = other_head h n m (subst IsBlockHead (sym (head_is h args e is)) (block_head r))

-- the arguments of the head of a block
pub block_args : {datas : List Data} {sort : Sort} {vars : List TypeTree} (h : Head) (args : List Arg) (e : TermTree)
    → applied (tree_of h) args ≡ e → BlockReady datas sort vars e → args ≡ []
block_args h args e is r = args_are h args e is ∙ block_alone r

-- a letrec gives a variable, and its bindings are ready
pub letrec_name : {datas : List Data} {sort : Sort} {vars : List TypeTree} {g : Group} {e : TermTree} → BlockReady datas sort vars (letrec g e) → IsName e
letrec_name (ready_letrec {x = x} h) = (x, refl)

pub letrec_group : {datas : List Data} {sort : Sort} {vars : List TypeTree} {g : Group} {e : TermTree}
    → BlockReady datas sort vars (letrec g e) → GroupReady datas sort (with_more (declared g) vars) g
letrec_group (ready_letrec h) = h

-- the types of the variables of bindings
pub bound_types : (bs : List Binding) (wires : List (List WireId)) → types_on (bound_of bs wires) ≡ declared (group_of bs)
bound_types [] wires = refl
bound_types (b ∷ bs) [] = ap (λ ts. b.ty ∷ ts) (bound_types bs [])
bound_types (b ∷ bs) (w ∷ wires) = ap (λ ts. b.ty ∷ ts) (bound_types bs wires)

-- the types in scope, where these variables were put there
pub types_entered : (outer inner bound : List Variable) (new : List TypeTree) → inner ≡ outer ++ bound → types_on bound ≡ new
    → types_on (reverse inner) ≡ with_more new (types_on (reverse outer))
types_entered outer inner bound new is are =
    ap (λ vs. types_on (reverse vs)) is ∙ ap types_on (reverse-append outer bound)
    ∙ types_with_more bound (reverse outer) new (types_on (reverse outer)) are refl

-- the right side of one binding
pub side_at : {datas : List Data} {sort : Sort} {vars : List TypeTree} (bs : List Binding) (i : ℕ) (b : Binding)
    → GroupReady datas sort vars (group_of bs) → i < length bs → b ≡ get_or bs i b → SideReady datas sort vars b.ty b.body
side_at [] i b h l is = absurd (omega (arith, l))
side_at {datas} {sort} {vars} (d ∷ bs) zero b (ready_and side more) l is = subst (λ (k : Binding). SideReady datas sort vars k.ty k.body) (sym is) side
side_at (d ∷ bs) (suc i) b (ready_and side more) l is = side_at bs i b more (omega (arith, l)) is

pub side_measured : {datas : List Data} {vars : List TypeTree} {t : TypeTree} {e : TermTree} → SideReady datas Value vars t e → IsMeasured datas t
side_measured (ready_value {w = w} width r) = (w, width)
side_measured (ready_case {w = w} held measured width alts) = (w, width)

-- a right side is a case on a variable, or none
abbrev SideShape : List Data → List TypeTree → TermTree → List Arg → Type 0
SideShape datas vars (case_of on alts) args = (args ≡ []) × CaseReady datas vars on alts
SideShape datas vars h args = ValueReady datas h args

flat_shape : (datas : List Data) (vars : List TypeTree) (h : TermTree) (args : List Arg) → ValueReady datas h args → SideShape datas vars h args
flat_shape datas vars (case_of on alts) args r = absurd r
flat_shape datas vars _ args r = r

side_shape : {datas : List Data} {vars : List TypeTree} {t : TypeTree} {e : TermTree} → SideReady datas Value vars t e → SideShape datas vars (head_of e) (args_of e)
side_shape {datas} {vars} (ready_value {e = e} width r) = flat_shape datas vars (head_of e) (args_of e) r
side_shape (ready_case {x = x} {whole = whole} {u = u} held measured width alts) =
    (refl, record { x = x; is = refl; ty = u; held = held; measured = (whole, measured); alternatives = alts })

shape_at : (datas : List Data) (vars : List TypeTree) (h : Head) (args : List Arg) (t : TypeTree) (e : TermTree) → applied (tree_of h) args ≡ e
    → SideReady datas Value vars t e → SideShape datas vars (tree_of h) args
shape_at datas vars h args t e is r =
    subst (λ k. SideShape datas vars k args) (sym (head_is h args e is))
    (subst (λ xs. SideShape datas vars (head_of e) xs) (sym (args_are h args e is)) (side_shape r))

pub case_shape : (datas : List Data) (vars : List TypeTree) (h : Head) (args : List Arg) (t : TypeTree) (e : TermTree) (x : _) (y : _) → applied (tree_of h) args ≡ e
    → SideReady datas Value vars t e → h ≡ Case x y → SideShape datas vars (tree_of (Case x y)) args
case_shape datas vars h args t e x y is r at = subst (λ k. SideShape datas vars (tree_of k) args) at (shape_at datas vars h args t e is r)

no_case : (datas : List Data) (vars : List TypeTree) (h : Head) (args : List Arg) → ((x : _) (y : _) → h ≡ Case x y → ⊥)
    → SideShape datas vars (tree_of h) args → ValueReady datas (tree_of h) args
no_case datas vars (Case x y) args n r = absurd (n x y refl)
no_case datas vars _ args n r = r

pub flat_ready : (datas : List Data) (vars : List TypeTree) (h : Head) (args : List Arg) (t : TypeTree) (e : TermTree) → applied (tree_of h) args ≡ e
    → SideReady datas Value vars t e → ((x : _) (y : _) → h ≡ Case x y → ⊥) → ValueReady datas (head_of e) (args_of e)
flat_ready datas vars h args t e is r n =
    subst (λ k. ValueReady datas k (args_of e)) (head_is h args e is)
    (subst (λ xs. ValueReady datas (tree_of h) xs) (args_are h args e is)
    (no_case datas vars h args n (shape_at datas vars h args t e is r)))

-- one alternative
pub alt_at : {datas : List Data} {vars : List TypeTree} {t : TypeTree} (alts : List Alt) (i : ℕ) (a : Alt)
    → AltsReady datas vars t (alts_of alts) → i < length alts → a ≡ get_or alts i a → AltReady datas vars t a.pattern a.body
alt_at [] i a h l is = absurd (omega (arith, l))
alt_at {datas} {vars} {t} (d ∷ alts) zero a (ready_alt {fields = fields} widths binds have block more) l is =
    subst (λ (k : Alt). AltReady datas vars t k.pattern k.body) (sym is)
    (record { pattern = record { fields = fields; binds = binds; are = (widths, have) }; block = block })
alt_at (d ∷ alts) (suc i) a (ready_alt widths binds have block more) l is = alt_at alts i a more (omega (arith, l)) is

-- the block of an alternative, with the fields in scope as they were put there
pub alt_block : (datas : List Data) (outer inner : List Variable) (t : TypeTree) (q : Pattern) (e : TermTree) (fields : List TypeTree) (widths : List ℕ) (n : ℕ)
    → AltReady datas (types_on (reverse outer)) t q e → PatternOf datas t q fields → HaveWidths datas fields widths
    → inner ≡ outer ++ variables_from n fields widths
    → BlockReady datas Value (types_on (reverse inner)) e
alt_block datas outer inner t q e fields widths n ready binds have is =
    let same : ready.pattern.fields ≡ fields = pattern_once ready.pattern.binds binds in
    subst (λ ts. BlockReady datas Value ts e)
    (sym (types_entered outer inner (variables_from n fields widths) fields is (field_types datas fields widths n have)))
    (subst (λ fs. BlockReady datas Value (with_more fs (types_on (reverse outer))) e) same ready.block)

-- one of several widths
pub width_at : {datas : List Data} (ts : List TypeTree) (i : ℕ) (t : TypeTree) (widths : List ℕ)
    → HaveWidths datas ts widths → i < length ts → t ≡ get_or ts i t → IsMeasured datas t
width_at [] i t widths h l is = absurd (omega (arith, l))
width_at (u ∷ ts) i t [] h l is = absurd h
width_at {datas} (u ∷ ts) zero t (w ∷ widths) h l is = (w, subst (λ k. HasWidth datas k w) (sym is) h.0)
width_at (u ∷ ts) (suc i) t (w ∷ widths) h l is = width_at ts i t widths h.1 (omega (arith, l)) is

-- one of several fields
first_fits : (m n : Measure) (w : ℕ) → then_measure m n ≡ fits w → (a : ℕ) × (m ≡ fits a)
first_fits (fits a) n w is = (a, refl)
first_fits (too_wide e) n w is = absurd cc

rest_fits : (m n : Measure) (w : ℕ) → then_measure m n ≡ fits w → (b : ℕ) × (n ≡ fits b)
rest_fits (fits a) (fits b) w is = (b, refl)
rest_fits (fits a) (too_wide e) w is = absurd cc
rest_fits (too_wide e) n w is = absurd cc

field_fits : {datas : List Data} {σ : Substitution} (fs : List TypeTree) {m : Measure} (i : ℕ) (f : TypeTree) (w : ℕ)
    → MeasuredFields datas fs σ m → m ≡ fits w → i < length fs → f ≡ get_or fs i f → IsMeasured datas (sub f σ)
field_fits [] i f w h fit l is = absurd (omega (arith, l))
field_fits {datas} {σ} (g ∷ fs) zero f w (field_measured {m = m} {n = n} first rest) fit l is =
    let a = first_fits m n w fit in
    (a.0, subst (λ k. HasWidth datas (sub k σ) a.0) (sym is) (subst (λ k. Measured datas (sub g σ) k) a.1 first))
field_fits (g ∷ fs) (suc i) f w (field_measured {m = m} {n = n} first rest) fit l is =
    let b = rest_fits m n w fit in
    field_fits fs i f b.0 rest b.1 (omega (arith, l)) is

pub field_at : {datas : List Data} {σ : Substitution} (fs : List TypeTree) (i : ℕ) (f : TypeTree)
    → FieldsMeasured datas fs σ → i < length fs → f ≡ get_or fs i f → IsMeasured datas (sub f σ)
field_at fs i f h l is = field_fits fs i f h.0 h.1 refl l is

-- a body without arguments
pub body_alone : {datas : List Data} {sort : Sort} {vars : List TypeTree} {e : TermTree} → BodyReady datas sort vars e → args_of e ≡ []
body_alone (ready_lambda parts below) = refl
body_alone (ready_block block) = block_alone block

pub body_args : {datas : List Data} {sort : Sort} {vars : List TypeTree} (h : Head) (args : List Arg) (e : TermTree)
    → applied (tree_of h) args ≡ e → BodyReady datas sort vars e → args ≡ []
body_args h args e is r = args_are h args e is ∙ body_alone r

part_measured : {datas : List Data} {t : TypeTree} {widths : List ℕ} → HasParts datas Value t widths → IsMeasured datas t
part_measured (value_part {w = w} h) = (w, h)

-- a lambda
pub lambda_measured : {datas : List Data} {vars : List TypeTree} {t : TypeTree} {e : TermTree} → BodyReady datas Value vars (lam t e) → IsMeasured datas t
lambda_measured (ready_lambda parts below) = part_measured parts
lambda_measured (ready_block block) = absurd (block_head block)

pub lambda_body : {datas : List Data} {vars : List TypeTree} {t : TypeTree} {e : TermTree} → BodyReady datas Value vars (lam t e) → BodyReady datas Value (t ∷ vars) e
lambda_body (ready_lambda parts below) = below
lambda_body (ready_block block) = absurd (block_head block)

-- below the lambdas is a block
abbrev IsLambda : TermTree → Type 0
IsLambda (lam t e) = Unit {0}
IsLambda _ = ⊥

no_lambda : (h : Head) → ((x : _) (y : _) → h ≡ Lam x y → ⊥) → IsLambda (tree_of h) → ⊥
no_lambda (Lam x y) n r = n x y refl
no_lambda _ n r = r

block_or_lambda : {datas : List Data} {sort : Sort} {vars : List TypeTree} {e : TermTree} → BodyReady datas sort vars e → (IsLambda (head_of e) → ⊥) → BlockReady datas sort vars e
block_or_lambda (ready_lambda parts below) n = absurd (n tt)
block_or_lambda (ready_block block) n = block

pub body_block : {datas : List Data} {sort : Sort} {vars : List TypeTree} (h : Head) (args : List Arg) (e : TermTree)
    → applied (tree_of h) args ≡ e → BodyReady datas sort vars e → ((x : _) (y : _) → h ≡ Lam x y → ⊥) → BlockReady datas sort vars e
body_block h args e is r n = block_or_lambda r (λ k. no_lambda h n (subst IsLambda (sym (head_is h args e is)) k))

-- the variable on which a case is
pub on_there : (scope : List Variable) (x : ℕ) (t : TypeTree) (it : Variable) → slice_get (types_on scope) x ≡ Some t → slice_get scope x ≡ Some it → it.ty ≡ t
on_there scope x t it held is =
    let there = variable_there scope (types_on scope) x t refl held in
    let same : Some there.0 ≡ Some it = sym there.1 ∙ is in
    let one : there.0 ≡ it = cc in
    ap (λ (v : Variable). v.ty) (sym one) ∙ there.2

-- a term that is a variable
abbrev IsVariable : TermTree → Type 0
IsVariable (var x) = Unit {0}
IsVariable _ = ⊥

no_variable : (h : Head) → ((x : _) → h ≡ Var x → ⊥) → IsVariable (tree_of h) → ⊥
no_variable (Var x) n r = n x refl
no_variable _ n r = r

pub name_head : (h : Head) (args : List Arg) (e : TermTree) → applied (tree_of h) args ≡ e → (name : IsName e) → tree_of h ≡ var name.0
name_head h args e is name = head_is h args e is ∙ ap head_of name.1

pub no_other_name : (h : Head) (args : List Arg) (e : TermTree) → applied (tree_of h) args ≡ e → IsName e → ((x : _) → h ≡ Var x → ⊥) → ⊥
no_other_name h args e is name n = no_variable h n (subst IsVariable (sym (name_head h args e is name)) tt)

pub name_is : (h : Head) (args : List Arg) (e : TermTree) (x : ℕ) → applied (tree_of h) args ≡ e → IsName e → tree_of h ≡ var x → e ≡ var x
name_is h args e x is name here = name.1 ∙ sym (name_head h args e is name) ∙ here

pub name_number : (x y : ℕ) → var x ≡ var y → x ≡ y
name_number x y e = cc

-- a variable of a type in scope is held
pub in_scope_held : (vs : List Held) (x : ℕ) (t : TypeTree) → slice_get (types_on (in_scope vs)) x ≡ Some t → x < length vs
in_scope_held vs x t held =
    let l : x < length (types_on (in_scope vs)) = slice_get_within (types_on (in_scope vs)) x t held in
    omega (arith, l, length-map (in_scope vs) (λ (v : Variable). v.ty), length-reverse (as_variables vs), length-map vs as_variable)

-- the types in scope, with that of an input
pub input_types : (ground : Ground) (t : TypeTree) (before later : List ℕ) (outer scope : List Held) → IsInput ground Value t before later outer scope
    → types_on (in_scope scope) ≡ t ∷ types_on (in_scope outer)
input_types ground t before later outer scope it =
    let here : Variable = variable t (new_wires (length before) it.widths) in
    types_entered (as_variables outer) (as_variables scope) (here ∷ []) (t ∷ []) it.bound refl
