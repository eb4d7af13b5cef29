-- What is carried down the active places of a body in normal form: the widths of the variables in scope, that what a primitive
-- looks at is no port, and the widths of constants.
use Rattle.std.proofs.Common.{◌≡◌, ◌⊎◌, inl, inr, ℕ, ◌≤◌, Bool, true, false, List, [], ◌∷◌, ◌++◌, map, reverse, refl, sym, ap, ◌∙◌, subst, append_assoc, arith, if◌then◌else◌}
use Rattle.std.specs.List.{AllByRecursion}
use Rattle.std.proofs.lemmas.List.{append-nil, reverse-append}
use Rattle.chw_types.specs.declared.declarations.Data.{Data}
use Rattle.chw_types.specs.Arguments.{arguments}
use Rattle.type_ports.specs.Ports.{IsPort}
use Rattle.type_ports.specs.Representable.{Representable}
use Rattle.chw_types.specs.TypeMoves.{Substitution, sub}
use Rattle.chw_types.specs.TypeTree.{TypeTree, data_of}
use Rattle.chw_prims.specs.declared.prim.Primitive.{Primitive as Prim}
use Rattle.chw_base.specs.declared.limits.TheConstants.{DATA_BITS}
use Rattle.chw_terms.specs.declared.scene.Mode.{Mode}
use Rattle.chw_terms.specs.declared.scene.Mode.TheVariants.{V, C, HV, HC, K}
use Rattle.chw_terms.specs.declared.scene.Sort.{Sort}
use Rattle.chw_terms.specs.declared.scene.Sort.TheVariants.{Value, Circuit}
use Rattle.chw_terms.specs.declared.term.Arg.{Arg}
use Rattle.chw_terms.specs.declared.term.Pattern.{Pattern}
use Rattle.chw_terms.specs.TermTree.{TermTree, var, lam, letrec, con, prim, vec_lit, Terms, Group, no_bindings, bind, Alts}
use Rattle.chw_terms.specs.TermView.{applied}
use Rattle.chw_typing.specs.HeadTypes.{PatternOf, of_con, of_lit, of_any}
use Rattle.chw_typing.specs.Scopes.{AreTermTypes, with_more, declared}
use Rattle.chw_typing.specs.Typing.{HasType}
use Rattle.chw_typing.proofs.Heads.{is_constructor}
use Rattle.chw_typing.proofs.Kinded.{type_kinded}
use Rattle.chw_typing.proofs.OneType.{one_type}
use Rattle.chw_typing.proofs.SameScopes.{are_same_self}
use Rattle.chw_layout.specs.Measured.{fits, HasWidth, MeasuredFields}
use Rattle.chw_layout.proofs.Fitting.{cons_width, con_width, field_width}
use Rattle.chw_typing.specs.SpineLaws.{PrimAtArguments}
use Rattle.rewriting.specs.Active.{Below, right_side, let_body, constant_body, scrutinee, branch, of_constructor, of_words, of_element, of_vector, demanded, begins, IsActive, at_it, below, IsPlaceOf}
use Rattle.rewriting.specs.Named.{IsNamed, mode_of, UnderLambdas, under_none, under_one}
use Rattle.rewriting.specs.Origins.{MadeOf, Origins, setting_at}
use Rattle.rewriting.specs.SceneLaws.{SameKeepsNamed}
use Rattle.rewriting.specs.Spots.{Spot, spot, HasLets, head_mode, scrutinee_mode, is_of_values}
use Rattle.normal_forms.specs.Normal.{HoldsWidths, IsNormalBody}
use Rattle.normal_forms.specs.Parts.{EachDeclared}
use Rattle.normal_forms.specs.Values.{AreSides, side_and}
use Rattle.normal_laws.proofs.Begins.{begun_fits}
use Rattle.normal_laws.proofs.Built.{Held}
use Rattle.normal_laws.proofs.Fits.{Fitting, HasSomeWidth, Fits, width_holds, argument_fits, element_fits}
use Rattle.normal_laws.proofs.Forms.{CircuitPrim, con_headed}
use Rattle.normal_laws.proofs.Payloads.{Ported}
use Rattle.normal_laws.proofs.Places.{Stands, LetStands, of_values, of_circuits, let_stands, PrimStands, in_values, in_circuits, in_lifted, prim_stands, CaseStands, of_blocks, of_projection, case_stands, no_prim_in_constants}
use Rattle.normal_laws.proofs.Sizes.{all_at}

-- the term is a variable
abbrev IsName : TermTree → Type 0
IsName e = (x : ℕ) × (e ≡ var x)

pub record Carried (o : Origins) (at : Spot) (e : TermTree) : Type 0 where
  pub scope : AllByRecursion (HoldsWidths o.program.datas) at.vars
  pub values : at.mode ≡ V → AllByRecursion (HasSomeWidth o.program.datas) at.vars
  pub unnamed : at.mode ≡ HC → IsName e ⊎ ((t : TypeTree) → HasType (setting_at o) [] at.vars e t → IsPort o.program.datas t → ⊥)
  pub constant : at.mode ≡ K → IsName e ⊎ Fits o at.vars e

-- what is known of a place
pub record Known (o : Origins) (at : Spot) (e : TermTree) : Type 0 where
  pub stands : Stands o at e
  pub typed : AreTermTypes (setting_at o) [] at.vars
  pub all : EachDeclared (HoldsWidths o.program.datas) e
  pub held : HasLets at.mode → Held o at e
  pub ported : at.mode ≡ C → Ported o at e

all_append : {X : Type 0} (P : X → Type 0) (xs ys : List X) → AllByRecursion P xs → AllByRecursion P ys → AllByRecursion P (xs ++ ys)
all_append P [] ys h k = k
all_append P (x ∷ xs) ys h k = (h.0, all_append P xs ys h.1 k)

all_reversed : {X : Type 0} (P : X → Type 0) (xs : List X) → AllByRecursion P xs → AllByRecursion P (reverse xs)
all_reversed P [] h = tt
all_reversed P (x ∷ xs) h =
    subst (λ ys. AllByRecursion P ys) (sym (reverse-append (x ∷ []) xs)) (all_append P (reverse xs) (x ∷ []) (all_reversed P xs h.1) (h.0, tt))

all_with_more : (P : TypeTree → Type 0) (new vars : List TypeTree) → AllByRecursion P new → AllByRecursion P vars → AllByRecursion P (with_more new vars)
all_with_more P new vars h k = all_append P (reverse new) vars (all_reversed P new h) k

all_more : {X : Type 0} (P Q : X → Type 0) (xs : List X) → ((x : X) → P x → Q x) → AllByRecursion P xs → AllByRecursion Q xs
all_more P Q [] f h = tt
all_more P Q (x ∷ xs) f h = (f x h.0, all_more P Q xs f h.1)

-- modes
lets_no_head : (m : Mode) → HasLets m → m ≡ HC → ⊥
lets_no_head V l q = cc
lets_no_head C l q = cc
lets_no_head HV l q = l
lets_no_head HC l q = l
lets_no_head K l q = l

lets_no_constant : (m : Mode) → HasLets m → m ≡ K → ⊥
lets_no_constant V l q = cc
lets_no_constant C l q = cc
lets_no_constant HV l q = l
lets_no_constant HC l q = l
lets_no_constant K l q = l

head_no_value : (m : Mode) → head_mode m ≡ V → ⊥
head_no_value V q = cc
head_no_value C q = cc
head_no_value HV q = cc
head_no_value HC q = cc
head_no_value K q = cc

constant_head : (m : Mode) → head_mode m ≡ K → m ≡ K
constant_head V q = absurd cc
constant_head C q = absurd cc
constant_head HV q = absurd cc
constant_head HC q = absurd cc
constant_head K q = refl

port_is_named : (datas : List Data) (m : Mode) (t : TypeTree) → head_mode m ≡ HC → IsPort datas t → IsNamed datas m t
port_is_named datas V t q port = absurd cc
port_is_named datas C t q port = port
port_is_named datas HV t q port = absurd cc
port_is_named datas HC t q port = port
port_is_named datas K t q port = absurd cc

constant_or_head : (b : Bool) → (if b then K else HC) ≡ V → ⊥
constant_or_head true q = cc
constant_or_head false q = cc

scrutinee_no_value : (datas : List Data) (m : Mode) (alts : Alts) → scrutinee_mode datas m alts ≡ V → ⊥
scrutinee_no_value datas V alts q = cc
scrutinee_no_value datas C alts q = constant_or_head (is_of_values datas alts) q
scrutinee_no_value datas HV alts q = cc
scrutinee_no_value datas HC alts q = constant_or_head (is_of_values datas alts) q
scrutinee_no_value datas K alts q = cc

-- bindings of values have widths
sides_wide : {o : Origins} {vars : List TypeTree} (g : Group) → AreSides o vars g → AllByRecursion (HoldsWidths o.program.datas) (declared g) → AllByRecursion (HasSomeWidth o.program.datas) (declared g)
sides_wide no_bindings sides h = tt
sides_wide (bind t e g) (side_and r s more) h = (h.0.value r, sides_wide g more h.1)

let_wide : {o : Origins} {at : Spot} (g : Group) (e : TermTree) → LetStands o at g e → at.mode ≡ V → AllByRecursion (HoldsWidths o.program.datas) (declared g) → AllByRecursion (HasSomeWidth o.program.datas) (declared g)
let_wide g e (of_values v sides none is) q h = sides_wide g sides h
let_wide g e (of_circuits c sides is) q h = absurd cc

no_let_in_constants : {o : Origins} {at : Spot} (g : Group) (e : TermTree) → at.mode ≡ K → LetStands o at g e → ⊥
no_let_in_constants g e k (of_values v sides none is) = cc
no_let_in_constants g e k (of_circuits c sides is) = cc

case_on_name : {o : Origins} {at : Spot} {s : TermTree} {alts : Alts} → CaseStands o at s alts → IsName s
case_on_name (of_blocks v c) = (c.x, c.is)
case_on_name (of_projection {x = x} v is) = (x, is)

circuit_at : {o : Origins} {at : Spot} {p : Prim} {args : List Arg} → at.mode ≡ C → PrimStands o at p args → CircuitPrim o.program.datas p args
circuit_at m (in_values v s) = absurd cc
circuit_at m (in_circuits v c) = c
circuit_at m (in_lifted v l) = absurd cc

-- the fields of a type with a width have widths
fields_wide : (datas : List Data) (σ : Substitution) (fs : List TypeTree) (s : ℕ) → s ≤ DATA_BITS → MeasuredFields datas fs σ (fits s) → AllByRecursion (HasSomeWidth datas) (map (λ f. sub f σ) fs)
fields_wide datas σ [] s l m = tt
fields_wide datas σ (f ∷ fs) s l m =
    let first = field_width l m in
    ((first.a, first.first), fields_wide datas σ fs first.b (omega (arith, first.is, l)) first.rest)

pattern_wide : (datas : List Data) {u : TypeTree} {q : Pattern} {fields : List TypeTree} → PatternOf datas u q fields → HasSomeWidth datas u → AllByRecursion (HasSomeWidth datas) fields
pattern_wide datas (of_con {c = c} {ts = ts} it known is n) w =
    let of = is_constructor datas c.number it known in
    let whole = cons_width it.it of.data_type (subst (λ d. HasWidth datas (data_of d ts) w.0) (sym is) w.1) in
    let fields = con_width it.it.cons of.place it.decl of.decl whole.cons in
    fields_wide datas (arguments ts) it.decl.fields fields.s (omega (arith, fields.within, whole.within, whole.is)) fields.fields
pattern_wide datas (of_lit l e) w = tt
pattern_wide datas of_any w = tt

module _ (o : Origins) (fitting : Fitting o) (named : SameKeepsNamed) (prims : PrimAtArguments) where
  all_hold : (ts : List TypeTree) → AllByRecursion (HasSomeWidth o.program.datas) ts → AllByRecursion (HoldsWidths o.program.datas) ts
  all_hold ts h = all_more (HasSomeWidth o.program.datas) (HoldsWidths o.program.datas) ts (width_holds o fitting) h

  -- below a letrec
  let_below : (at : Spot) (g : Group) (e x : TermTree) (result : Bool) → HasLets at.mode → Known o at (letrec g e) → Carried o at (letrec g e) → Carried o (spot at.mode result (with_more (declared g) at.vars)) x
  let_below at g e x result l k c =
      let own = k.all [] (letrec g e) refl in
      record {
        scope = all_with_more (HoldsWidths o.program.datas) (declared g) at.vars own c.scope;
        values = λ v. all_with_more (HasSomeWidth o.program.datas) (declared g) at.vars (let_wide g e (let_stands g e k.stands refl) v own) (c.values v);
        unnamed = λ q. absurd (lets_no_head at.mode l q);
        constant = λ q. absurd (lets_no_constant at.mode l q);
      }

  -- below what stands in constants
  in_constants : (at : Spot) (e x : TermTree) → Carried o at e → Fits o at.vars x → Carried o (spot K false at.vars) x
  in_constants at e x c f = record { scope = c.scope; values = λ q. absurd cc; unnamed = λ q. absurd cc; constant = λ q. inr f }

  -- a name is no constructor and no vector
  con_fits : (at : Spot) (c : ℕ) (args : List Arg) → IsName (applied (con c) args) ⊎ Fits o at.vars (applied (con c) args) → Fits o at.vars (applied (con c) args)
  con_fits at c args (inl name) = let head = con_headed c args (sym name.1) in absurd cc
  con_fits at c args (inr f) = f

  vector_fits : (at : Spot) (t : TypeTree) (es : Terms) → IsName (vec_lit t es) ⊎ Fits o at.vars (vec_lit t es) → Fits o at.vars (vec_lit t es)
  vector_fits at t es (inl name) = let wrong = name.1 in absurd cc
  vector_fits at t es (inr f) = f

  pub carried_below : {at at' : Spot} {e x : TermTree} {p : List ℕ} → Below o at e p at' x → Known o at e → Carried o at e → Carried o at' x
  carried_below {at} (right_side {g = g} {e = e} {b = b} l h n) k c = let_below at g e b.1 false l k c
  carried_below {at} (let_body {g = g} {e = e} l) k c = let_below at g e e true l k c
  carried_below {at} (constant_body {g = g} {e = e} m) k c = absurd (no_let_in_constants g e m (let_stands g e k.stands refl))
  carried_below {at} (scrutinee {s = s} {alts = alts} d n) k c =
      let name = case_on_name (case_stands s alts k.stands refl) in
      record { scope = c.scope; values = λ q. absurd (scrutinee_no_value o.program.datas at.mode alts q); unnamed = λ q. inl name; constant = λ q. inl name }
  carried_below {at} (branch {x = x} {u = u} {fields = fields} v known n b p) k c =
      let wide = pattern_wide o.program.datas p (all_at (HasSomeWidth o.program.datas) at.vars x u (c.values v) known) in
      record {
        scope = all_with_more (HoldsWidths o.program.datas) fields at.vars (all_hold fields wide) c.scope;
        values = λ q. all_with_more (HasSomeWidth o.program.datas) fields at.vars wide (c.values v);
        unnamed = λ q. absurd cc;
        constant = λ q. absurd cc;
      }
  carried_below {at} {e = e} (of_constructor d i args {it = it} {a = a} m is n h) k c =
      in_constants at (applied (con d) args) a c (argument_fits o fitting at.vars d i args it a k.typed is (con_fits at d args (c.constant m)) h)
  carried_below {at} (of_words p i args m w l n h) k c = absurd (no_prim_in_constants o at p args m (prim_stands p args k.stands refl))
  carried_below {at} (of_element p i args m w n h) k c = absurd (no_prim_in_constants o at p args m (prim_stands p args k.stands refl))
  carried_below {at} (of_vector {t = t} {es = es} {i = i} {a = a} m h) k c =
      in_constants at (vec_lit t es) a c (element_fits o fitting at.vars t es i a (vector_fits at t es (c.constant m)) h)
  carried_below {at} (demanded d) k c =
      record {
        scope = c.scope;
        values = λ q. absurd (head_no_value at.mode q);
        unnamed = λ q. inr
            (λ t has port.
            let kind = type_kinded has fitting.sound k.typed in
            let same = one_type has d.has fitting.sound k.typed k.typed (are_same_self at.vars) in
            d.unnamed (port_is_named o.program.datas at.mode d.type q (named (setting_at o) C t d.type kind.kind fitting.sound kind.has same port)));
        constant = λ q. absurd (d.no_constant (constant_head at.mode q));
      }
  carried_below {at} (begins p i j args {t = t} {a = a} m b type r h) k c =
      in_constants at (applied (prim p) args) a c
      (begun_fits o fitting prims at p args i j t a (circuit_at m (prim_stands p args k.stands refl)) k.typed (k.held (subst HasLets (sym m) tt)) (k.ported m) b type r h)

-- the types of leading lambdas
pub under_all : (P : TypeTree → Type 0) {vars vs : List TypeTree} {e x : TermTree} {t : TypeTree} {p : List ℕ} → UnderLambdas vars e t p vs x → EachDeclared P e → AllByRecursion P vars → AllByRecursion P vs
under_all P (under_none a) all h = h
under_all P (under_one {a = a} {e = e} s w) all h = under_all P w (λ path y is. all (0 ∷ path) y is) ((all [] (lam a e) refl).0, h)

named_wide : (datas : List Data) (m : Mode) (ts : List TypeTree) → m ≡ V → AllByRecursion (IsNamed datas m) ts → AllByRecursion (HoldsWidths datas) ts → AllByRecursion (HasSomeWidth datas) ts
named_wide datas m [] v n h = tt
named_wide datas m (t ∷ ts) v n h =
    let r : Representable datas t = subst (λ k. IsNamed datas k t) v n.0 in (h.0.value r, named_wide datas m ts v n.1 h.1)

sort_no_head : (sort : Sort) → mode_of sort ≡ HC → ⊥
sort_no_head Value q = cc
sort_no_head Circuit q = cc

sort_no_constant : (sort : Sort) → mode_of sort ≡ K → ⊥
sort_no_constant Value q = cc
sort_no_constant Circuit q = cc

-- at the root
pub carried_root : (o : Origins) (it : MadeOf) (body : TermTree) (h : IsNormalBody o it body) (x : TermTree) → Carried o (spot (mode_of it.sort) true h.vars) x
carried_root o it body h x =
    let scope = under_all (HoldsWidths o.program.datas) h.under h.widths tt in
    record {
      scope = scope;
      values = λ v. named_wide o.program.datas (mode_of it.sort) h.vars v h.named scope;
      unnamed = λ q. absurd (sort_no_head it.sort q);
      constant = λ q. absurd (sort_no_constant it.sort q);
    }

-- one step more
active_then : {o : Origins} {at mid to : Spot} {e x y : TermTree} {q p : List ℕ} → IsActive o at e q mid x → Below o mid x p to y → IsActive o at e (q ++ p) to y
active_then {o} {at} {to = to} {e = e} {y = y} {p = p} at_it b = subst (λ w. IsActive o at e w to y) (append-nil p) (below b at_it)
active_then {o} {at} {to = to} {e = e} {y = y} {p = p} (below {p = first} {q = rest} c r) b =
    subst (λ w. IsActive o at e w to y) (sym (append_assoc first rest p)) (below c (active_then r b))

pub place_below : {o : Origins} {it : MadeOf} {body x y : TermTree} {path p : List ℕ} {at to : Spot} → IsPlaceOf o it body path at x → Below o at x p to y → IsPlaceOf o it body (path ++ p) to y
place_below {p = p} r b =
    record { root = r.root; vars = r.vars; term = r.term; under = r.under; rest = r.rest ++ p; active = active_then r.active b; is = ap (λ w. w ++ p) r.is ∙ append_assoc r.root r.rest p }
