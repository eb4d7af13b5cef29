-- The parameters of made definitions: their lambdas have the types that calls and lifts give them.
use Rattle.std.proofs.Common.{List, Some, [], ap, arith, length, map, refl, subst, suc, sym, zero, ℕ, ◌∙◌, ◌∷◌, ◌≡◌}
use Rattle.std.proofs.lemmas.List.{length-map}
use Rattle.std.specs.Prelude.{slice_get}
use Rattle.normal_forms.specs.Circuits.{IsCircuitSide, of_variable, of_register, of_block_ram, of_synchronizer, of_pure, of_lifted, of_call, of_constructor, of_projection}
use Rattle.chw_typing.specs.Given.{AreGiven, types_then}
use Rattle.chw_typing.specs.Scopes.{AreSame, Setting, declared}
use Rattle.chw_terms.specs.declared.scene.Sort.TheVariants.{Circuit, Value}
use Rattle.chw_types.specs.declared.declarations.Data.{Data}
use Rattle.net_grounds.specs.Facts.{Facts}
use Rattle.net_means.proofs.Lists.{found_in_map, same_some}
use Rattle.net_means.specs.CircuitBits.Instances.{Design, NoLambda, Parameters}
use Rattle.chw_terms.specs.TermTree.{Group, TermTree, app, con, made, prim, var}
use Rattle.net_means.proofs.NetBits.Forms.{GroupFormed, SideForm, origins, setting, side_formed}
use Rattle.normal_forms.specs.Normal.{HasForm}
use Rattle.chw_typing.specs.Typing.{HasType, HasTypeUpTo, h_app, h_made}
use Rattle.rewriting.specs.Named.{IsNamed, UnderLambdas, mode_of, under_none, under_one}
use Rattle.normal_forms.specs.Values.{IsSide, on_names, side_call, side_case, side_constructor, side_literal, side_primitive, side_variable, side_vector}
use Rattle.type_ports.specs.declared.ports.Leaf.{Leaf}
use Rattle.type_ports.specs.Ports.{Leaves, leaves_of_fields, one_leaf}
use Rattle.chw_terms.specs.declared.scene.Made.{Made}
use Rattle.rewriting.specs.Origins.{MadeOf, Origins, made_of}
use Rattle.type_ports.specs.Representable.{Representable, representable_data, representable_scalar, representable_vector}
use Rattle.layout_laws.specs.SameLayout.{SameKeepsMeasure}
use Rattle.chw_types.specs.SameTypes.{SameTypes}
use Rattle.chw_terms.specs.declared.scene.Sort.{Sort}
use Rattle.chw_types.specs.TypeTree.{TypeTree, fun}
use Rattle.net_built.specs.Terms.{Variable, head_of, operands_of}
use Rattle.chw_terms.specs.TermView.{applied}
use Rattle.rewriting.specs.Spots.{asked_for}
use Rattle.chw_meaning.specs.Values.{body_at}
use Rattle.net_means.proofs.NetBits.Standing.{formed, no_form, typed_below}
use Rattle.chw_typing.specs.HeadTypes.{from_each}
use Rattle.net_means.proofs.NetFits.Shapes.{head_then}
use Rattle.net_means.proofs.NetBits.Sorts.{lifted_no_call}
use Rattle.net_means.proofs.SideBits.Heads.{names}
use Rattle.net_means.proofs.NetFits.CircuitDrivers.{operands_then}
use Rattle.net_means.proofs.NetFits.Outputs.{results_same}
use Rattle.net_means.specs.SideBits.Sides.{types_in}
use Rattle.carrying.specs.TermLaws.{under_lambdas}

-- no function
abbrev pub NoFunction : TypeTree → Type 0
NoFunction (fun a b) = ⊥
NoFunction _ = Unit {0}

named_plain : (datas : List Data) (sort : Sort) (t : TypeTree) → IsNamed datas (mode_of sort) t → NoFunction t × (asked_for t ≡ 0)
named_plain datas Value t named = by named
  where
    by : {t : TypeTree} → Representable datas t → NoFunction t × (asked_for t ≡ 0)
    by representable_scalar = (tt, refl)
    by (representable_vector r) = (tt, refl)
    by (representable_data known many all) = (tt, refl)
named_plain datas Circuit t named = by named.1
  where
    by : {t : TypeTree} {ls : List Leaf} → Leaves datas t ls → NoFunction t × (asked_for t ≡ 0)
    by (one_leaf r) = (tt, refl)
    by (leaves_of_fields known many one fields all) = (tt, refl)

under_params : Facts → (law : SameKeepsMeasure) (d : Design) (sort : Sort) (params ps : List TypeTree) (e : TermTree) (r : TypeTree) {inner : TermTree} {path : List ℕ} {vs vars : List TypeTree} → NoLambda e → NoFunction r → UnderLambdas vs (under_lambdas params e) (from_each ps r) path vars inner → HasForm (origins d) sort vars inner → AreSame params ps
under_params facts law d sort [] [] e r plain free under form = tt
under_params facts law d sort [] (p ∷ ps) e r plain free (under_none asks) form = absurd asks
under_params facts law d sort [] (p ∷ ps) _ r plain free (under_one same more) form = absurd plain
under_params facts law d sort (t ∷ params) [] e r plain free (under_none {vars = vars} asks) form = absurd (no_form facts law d sort t (under_lambdas params e) vars form)
under_params facts law d sort (t ∷ params) [] e _ plain free (under_one same more) form = absurd free
under_params facts law d sort (t ∷ params) (p ∷ ps) e r plain free (under_none asks) form = absurd asks
under_params facts law d sort (t ∷ params) (p ∷ ps) e r plain free (under_one same more) form = (same, under_params facts law d sort params ps e r plain free more form)

asked_count : (ps : List TypeTree) (r : TypeTree) → asked_for r ≡ 0 → asked_for (from_each ps r) ≡ length ps
asked_count [] r e = e
asked_count (p ∷ ps) r e = ap suc (asked_count ps r e)

results_along : Facts → (params ps : List TypeTree) (r t : TypeTree) → AreSame params ps → SameTypes (from_each ps r) (from_each params t) → SameTypes r t
results_along facts [] [] r t are same = same
results_along facts [] (p ∷ ps) r t are same = absurd are
results_along facts (q ∷ params) [] r t are same = absurd are
results_along facts (q ∷ params) (p ∷ ps) r t are same = results_along facts params ps r t are.1 (results_same facts same)

-- what the type of a made definition asks for and gives, and that its lambdas are of the types asked for
pub record Function (d : Design) (it : Made) (params : List TypeTree) : Type 0 where
  pub ps : List TypeTree
  pub result : TypeTree
  pub is : it.ty ≡ from_each ps result
  pub same : AreSame params ps
  pub count : asked_for it.ty ≡ length params
  pub plain : NoFunction result

pub function_of : Facts → (law : SameKeepsMeasure) (d : Design) (m : ℕ) (it : Made) (params : List TypeTree) (e : TermTree) → slice_get d.state m ≡ Some it → it.body ≡ under_lambdas params e → NoLambda e → Function d it params
function_of facts law d m it params e known is plain =
    let normal = d.normal.bodies m it known in
    let named = named_plain d.program.datas it.sort normal.result normal.result_named in
    let under = subst (λ t. UnderLambdas [] (under_lambdas params e) t normal.path normal.vars normal.inner) normal.gives (subst (λ b. UnderLambdas [] b it.ty normal.path normal.vars normal.inner) is normal.under) in
    let same = under_params facts law d it.sort params normal.params e normal.result plain named.0 under normal.form in
    record {
      ps = normal.params;
      result = normal.result;
      is = normal.gives;
      same = same;
      count = ap (λ t. asked_for t) normal.gives ∙ asked_count normal.params normal.result named.1 ∙ facts.scopes.are_same_length params normal.params same;
      plain = named.0;
    }

-- the result of a body has the type that the made definition gives
pub body_result : Facts → (law : SameKeepsMeasure) (d : Design) (m : ℕ) (it : Made) (params : List TypeTree) (e : TermTree) (scope : List Variable) (v : TypeTree) (f : Function d it params) → slice_get d.state m ≡ Some it → it.body ≡ under_lambdas params e → Parameters d.program.datas it.sort zero params [] scope
    → HasType (setting d) [] (types_in scope) e v → SameTypes f.result v
body_result facts law d m it params e scope v f known is parameters typed =
    let whole = (d.normal.bodies m it known).typed in
    let below = typed_below facts law d e whole.type parameters (subst (λ b. HasType (setting d) [] [] b whole.type) is whole.has) tt in
    let along = results_along facts params f.ps f.result below.type f.same (subst (λ u. SameTypes (from_each f.ps f.result) u) below.is (subst (λ t. SameTypes t whole.type) f.is whole.same)) in
    facts.same.same_through along (facts.terms.one_type below.typed typed d.sound below.scoped below.scoped (facts.scopes.are_same_self (types_in scope)))

-- operands on a function
pub params_same : Facts → {a b c d : TypeTree} → SameTypes (fun a b) (fun c d) → SameTypes a c
params_same facts {a = a} {c = c} h = let at = facts.same.as_function h in let is : at.0 ≡ c = cc in subst (SameTypes a) is at.3

spine_given : Facts → (s : Setting) (vars : List TypeTree) (xs : List ℕ) (f : TermTree) (ps : List TypeTree) (r u : TypeTree) → length xs ≡ length ps → ((v : TypeTree) → HasType s [] vars f v → SameTypes (from_each ps r) v) → HasType s [] vars (applied f (types_then [] (names xs))) u
    → AreGiven s [] vars ps (names xs) × SameTypes r u
spine_given facts s vars [] f [] r u many is typed = (tt, is u typed)
spine_given facts s vars [] f (p ∷ ps) r u many is typed = absurd (omega (arith, many))
spine_given facts s vars (x ∷ xs) f [] r u many is typed = absurd (omega (arith, many))
spine_given facts s vars (x ∷ xs) f (p ∷ ps) r u many is typed =
    let head = facts.terms.head_typed s [] vars (app f (var x)) (types_then [] (names xs)) u typed in
    let rest = spine_given facts s vars xs (app f (var x)) ps r u (omega (arith, many)) next typed in
    ((given head.1, rest.0), rest.1)
  where
    next : (v : TypeTree) → HasType s [] vars (app f (var x)) v → SameTypes (from_each ps r) v
    next v (h_app typed given same) = results_same facts (is _ typed)

    given : {v : TypeTree} → HasType s [] vars (app f (var x)) v → HasTypeUpTo s [] vars (var x) p
    given (h_app {c = c} typed operand same) = record { type = c; has = operand; same = facts.same.same_through (params_same facts (is _ typed)) same }

-- how many operands a call has
record Counted (o : Origins) (e : TermTree) (m : ℕ) : Type 0 where
  it : MadeOf
  known : slice_get o.made m ≡ Some it
  count : length (operands_of e) ≡ asked_for it.ty

counted : {o : Origins} (k m : ℕ) (xs : List ℕ) (it : MadeOf) → slice_get o.made k ≡ Some it → length xs ≡ asked_for it.ty → head_of (on_names (made k) [] xs) ≡ made m → Counted o (on_names (made k) [] xs) m
counted {o} k m xs it known many h =
    let both : made k ≡ made m = sym (head_then (made k) [] (names xs)) ∙ h in
    let is : k ≡ m = cc in
    record {
      it = it;
      known = subst (λ k. slice_get o.made k ≡ Some it) is known;
      count = ap (λ (es : List TermTree). length es) (operands_then (made k) [] (names xs)) ∙ length-map xs (λ x. var x) ∙ many;
    }

value_counted : {o : Origins} {vars : List TypeTree} {e : TermTree} → IsSide o vars e → (m : ℕ) → head_of e ≡ made m → Counted o e m
value_counted side_variable m h = absurd cc
value_counted side_literal m h = absurd cc
value_counted (side_constructor c types xs known n) m h = let k : con c ≡ made m = sym (head_then (con c) types (names xs)) ∙ h in absurd cc
value_counted (side_vector t xs) m h = absurd cc
value_counted (side_primitive p types xs is n) m h = let k : prim p ≡ made m = sym (head_then (prim p) types (names xs)) ∙ h in absurd cc
value_counted (side_call j xs {it = it} known value n) m h = counted j m xs it known n h
value_counted (side_case i others) m h = absurd cc

circuit_counted : {o : Origins} {e : TermTree} → IsCircuitSide o e → (m : ℕ) → head_of e ≡ made m → Counted o e m
circuit_counted of_variable m h = absurd cc
circuit_counted (of_register k) m h = absurd cc
circuit_counted (of_block_ram k w) m h = absurd cc
circuit_counted of_synchronizer m h = absurd cc
circuit_counted (of_pure k) m h = absurd cc
circuit_counted (of_lifted j known value lifted) m h = absurd (lifted_no_call lifted h)
circuit_counted (of_call j xs {it = it} known circuit n) m h = counted j m xs it known n h
circuit_counted (of_constructor c types xs known n) m h = let k : con c ≡ made m = sym (head_then (con c) types (names xs)) ∙ h in absurd cc
circuit_counted (of_projection l) m h = absurd cc

-- a call gives each parameter a variable of its type
pub record CallGiven (d : Design) (scope : List Variable) (xs : List ℕ) (params : List TypeTree) (it : Made) (f : Function d it params) (t : TypeTree) : Type 0 where
  pub count : length params ≡ length xs
  pub given : AreGiven (setting d) [] (types_in scope) f.ps (names xs)
  pub result : SameTypes f.result t

pub call_given : Facts → (d : Design) (sort : Sort) (g : Group) (scope : List Variable) (i m : ℕ) (xs : List ℕ) (it : Made) (params : List TypeTree) (t : TypeTree) (f : Function d it params) → GroupFormed d sort g scope → body_at g i ≡ Some (on_names (made m) [] xs) → slice_get (declared g) i ≡ Some t → slice_get d.state m ≡ Some it
    → CallGiven d scope xs params it f t
call_given facts d sort g scope i m xs it params t f formed at declares known =
    let side = side_formed d formed i t (on_names (made m) [] xs) declares at in
    let c = counted_in sort side.form in
    let there = found_in_map made_of d.state m it known in
    let same_ty : it.ty ≡ c.it.ty = ap (λ (m : MadeOf). m.ty) (same_some there c.known) in
    let operands : length (operands_of (on_names (made m) [] xs)) ≡ length xs = ap (λ (es : List TermTree). length es) (operands_then (made m) [] (names xs)) ∙ length-map xs (λ x. var x) in
    let many : length params ≡ length xs = sym f.count ∙ ap (λ t. asked_for t) same_ty ∙ sym c.count ∙ operands in
    let long = facts.scopes.are_same_length params f.ps f.same in
    let typed_there : slice_get (setting d).made m ≡ Some it.ty = found_in_map (λ (m : MadeOf). m.ty) (map made_of d.state) m (made_of it) there in
    let all = spine_given facts (setting d) (types_in scope) xs (made m) f.ps f.result side.typed.type (omega (arith, many, long))
    (λ v h. subst (λ t. SameTypes t v) f.is (subst (SameTypes it.ty) (same_some typed_there (made_at h)) (facts.same.same_self it.ty))) side.typed.has in
    record { count = many; given = all.0; result = facts.same.same_through all.1 (facts.same.same_turned side.typed.same) }
  where
    head : head_of (on_names (made m) [] xs) ≡ made m
    head = head_then (made m) [] (names xs)

    counted_in : (sort : Sort) → SideForm d sort (on_names (made m) [] xs) → Counted (origins d) (on_names (made m) [] xs) m
    counted_in Value form = value_counted form.side m head
    counted_in Circuit form = circuit_counted form m head

    made_at : {v : TypeTree} → HasType (setting d) [] (types_in scope) (made m) v → slice_get (setting d).made m ≡ Some v
    made_at (h_made is) = is

-- the operand of one parameter
pub given_at : Facts → (s : Setting) (vars : List TypeTree) (params ps : List TypeTree) (xs : List ℕ) (j x : ℕ) (t : TypeTree) → AreSame params ps → AreGiven s [] vars ps (names xs) → slice_get xs j ≡ Some x → slice_get params j ≡ Some t → HasTypeUpTo s [] vars (var x) t
given_at facts s vars [] ps xs j x t are given at is = absurd cc
given_at facts s vars (q ∷ params) [] xs j x t are given at is = absurd are
given_at facts s vars (q ∷ params) (p ∷ ps) [] j x t are given at is = absurd cc
given_at facts s vars (q ∷ params) (p ∷ ps) (y ∷ xs) zero x t are given at is =
    let operand : y ≡ x = cc in
    let type : q ≡ t = cc in
    let one : HasTypeUpTo s [] vars (var y) q = record { type = given.0.type; has = given.0.has; same = facts.same.same_through are.0 given.0.same } in
    subst (λ x. HasTypeUpTo s [] vars (var x) t) operand (subst (λ t. HasTypeUpTo s [] vars (var y) t) type one)
given_at facts s vars (q ∷ params) (p ∷ ps) (y ∷ xs) (suc j) x t are given at is = given_at facts s vars params ps xs j x t are.1 given.1 at is
