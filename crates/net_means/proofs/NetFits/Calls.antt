-- Calls of made definitions: the operands have as many wires as the made definition has inputs.
use Rattle.std.proofs.Common.{◌≡◌, ℕ, ◌+◌, arith, true, List, [], ◌∷◌, ◌++◌, length, Some, refl, sym, ap, ◌∙◌, subst, length-append}
use Rattle.std.specs.List.{slice_get, AllByRecursion}
use Rattle.std.proofs.lemmas.Grind.{flat_map-append}
use Rattle.chw_base.specs.declared.index.WireId.{WireId}
use Rattle.chw_types.specs.declared.declarations.Data.{Data}
use Rattle.chw_types.specs.declared.kind.Kind.{Kind}
use Rattle.chw_types.specs.declared.kind.Kind.TheVariants.{Dom, Val}
use Rattle.chw_types.specs.Kinds.{kind_signal}
use Rattle.chw_types.specs.Polynomials.{is_natural}
use Rattle.chw_types.specs.SameTypes.{SameTypes, same_naturals, same_sum, same_product, same_domain, same_scalar, same_vector, same_data, same_fun, same_signal, same_for_all}
use Rattle.chw_types.specs.TypeMoves.{sub}
use Rattle.chw_types.specs.TypeTree.{TypeTree, ty_var, fun, for_all, signal}
use Rattle.chw_prims.specs.declared.prim.Primitive.TheVariants.{Fmap, Ap}
use Rattle.type_laws.specs.SameKept.{FieldsKeepSame}
use Rattle.chw_terms.specs.declared.scene.Sort.{Sort}
use Rattle.chw_terms.specs.declared.scene.Sort.TheVariants.{Value, Circuit}
use Rattle.chw_terms.specs.TermTree.{TermTree, var, made, app, ty_app}
use Rattle.chw_typing.specs.Programs.{IsSound}
use Rattle.chw_typing.specs.Scopes.{Setting, HasKind, AreTermTypes}
use Rattle.chw_typing.specs.Typing.{HasType, HasTypeUpTo, h_made, h_app, h_lam}
use Rattle.chw_layout.specs.Measured.{fits, Measure, Measured, measured_scalar, measured_vector, measured_data, HasWidth}
use Rattle.layout_laws.specs.SameLayout.{SameKeepsMeasure}
use Rattle.rewriting.specs.Named.{UnderLambdas, under_none, under_one}
use Rattle.rewriting.specs.Shapes.{IsVariable}
use Rattle.chw_typing.specs.Alike.{AreLike}
use Rattle.chw_typing.specs.Given.{AsksForNone}
use Rattle.chw_typing.specs.SpineLaws.{PrimAtArguments}
use Rattle.normal_forms.specs.Circuits.{IsLiftedCall, lifted_on_one, lifted_on_more}
use Rattle.net_built.specs.Bodies.{BodyBuilt, body_lambda, body_block}
use Rattle.net_built.specs.Circuits.{IsLifted, lifted_on_one as of_one, lifted_on_more as of_more}
use Rattle.net_built.specs.Data.{HasParts, value_part, port_parts}
use Rattle.net_built.specs.Terms.{head_of, types_of, operands_of, result_of, Variable, wires_at, wires_of, wires_of_all}
use Rattle.net_built.specs.Wires.{wire_count, present, Piece}
use Rattle.net_grounds.specs.Facts.{Facts}
use Rattle.net_means.proofs.Lists.{same_some}
use Rattle.net_means.specs.NetFits.Laws.{ground_over}
use Rattle.net_means.proofs.NetFits.CallShapes.{all_first, all_rest}
use Rattle.net_means.proofs.NetFits.CircuitDrivers.{PortsHeld}
use Rattle.net_means.proofs.NetFits.Outputs.{result_alone, results_same, no_function, value_width}
use Rattle.net_means.proofs.NetFits.Ports.{parts_kept, port_asks, signal_part}
use Rattle.net_means.proofs.NetFits.Scopes.{Fits, found, var_at, wires_there}

-- the parameters of the type have parts with these widths that have wires, and the result this type
pub data ParamParts (datas : List Data) (sort : Sort) : TypeTree → List ℕ → TypeTree → Type 0 where
  no_params : {t : TypeTree} → AsksForNone t → ParamParts datas sort t [] t
  param_and : {a b r : TypeTree} {ws ins : List ℕ} → HasParts datas sort a ws → ParamParts datas sort b ins r → ParamParts datas sort (fun a b) (present ws ++ ins) r

pub any_kept : Facts → FieldsKeepSame → SameKeepsMeasure → {sort : Sort} (s : Setting) → IsSound s → (a b : TypeTree) (ws : List ℕ) → AreLike s a b → HasParts s.datas sort a ws → HasParts s.datas sort b ws
any_kept facts keep law s sound a b ws like (value_part {w = w} h) = value_part (law (fits w) s a b sound like h)
any_kept facts keep law s sound a b ws like (port_parts l h) = parts_kept facts keep law s sound a b ws like (port_parts l h)

pub measured_asks : {datas : List Data} {t : TypeTree} {m : Measure} → Measured datas t m → AsksForNone t
measured_asks measured_scalar = tt
measured_asks (measured_vector h) = tt
measured_asks (measured_data known many h) = tt

pub parts_ask : Facts → {datas : List Data} {sort : Sort} {t : TypeTree} {ws : List ℕ} → HasParts datas sort t ws → AsksForNone t
parts_ask facts (value_part h) = measured_asks h
parts_ask facts {t = t} (port_parts l h) = port_asks facts (port_parts l h) t (facts.same.same_self t)

-- the first parameter's parts, and the others'
pub record ParamOf (datas : List Data) (sort : Sort) (a b : TypeTree) (ins : List ℕ) (r : TypeTree) : Type 0 where
  pub widths : List ℕ
  pub left : List ℕ
  pub parts : HasParts datas sort a widths
  pub more : ParamParts datas sort b left r
  pub are : ins ≡ present widths ++ left

pub param_of : {datas : List Data} {sort : Sort} {a b r : TypeTree} {ins : List ℕ} → ParamParts datas sort (fun a b) ins r → ParamOf datas sort a b ins r
param_of (no_params asks) = absurd asks
param_of (param_and {ws = ws} {ins = ins} parts more) = record { widths = ws; left = ins; parts = parts; more = more; are = refl }

param_none : {datas : List Data} {sort : Sort} {t r : TypeTree} {ins : List ℕ} → AsksForNone t → ParamParts datas sort t ins r → (ins ≡ []) × (t ≡ r)
param_none asks (no_params h) = (refl, refl)
param_none asks (param_and parts more) = absurd asks

module _ (facts : Facts) (keep : FieldsKeepSame) (law : SameKeepsMeasure) (s : Setting) (sound : IsSound s) where
  -- the inputs of a body are the parts of its type's parameters
  pub body_params : {order : List ℕ} {sort : Sort} {scope : List Variable} {vars names : List TypeTree} {n : ℕ} {e inner : TermTree} {t u : TypeTree} {path inputs : List ℕ} {p : Piece} {outputs : List WireId} → BodyBuilt (ground_over s order) sort scope n e inputs p outputs → UnderLambdas vars e t path names inner → HasType s [] vars e u → SameTypes t u → ParamParts s.datas sort t inputs (result_of t)
  body_params (body_lambda {t = a} {widths = ws} parts more) (under_one {b = b} same under) (h_lam typed kind) along =
      let at = facts.kinds.function_parts kind in
      param_and (any_kept facts keep law s sound a b ws (record { kind = at.0; has = at.1; same = same }) parts) (body_params more under typed (results_same facts along))
  body_params (body_lambda parts more) (under_none asks) (h_lam typed kind) along = absurd (no_function facts along asks)
  body_params (body_block block) (under_one same under) typed along = elim block [ ]
  body_params {sort = sort} {t = t} (body_block block) (under_none asks) typed along =
      subst (λ r. ParamParts s.datas sort t [] r) (sym (result_alone t asks)) (no_params asks)

-- a variable has the wires of a type that is the same up to naturals
abbrev pub VarCount : Setting → Sort → List TypeTree → List Variable → Type 0
VarCount s sort vars scope =
    (x : ℕ) (t u : TypeTree) (k : Kind) (ws : List ℕ) → HasType s [] vars (var x) u → HasKind s [] t k → SameTypes t u → HasParts s.datas sort t ws → length (wires_at scope x) ≡ wire_count ws

-- what a call gives that was given some of its operands
pub record Called (s : Setting) (sort : Sort) (u : TypeTree) (reads : List WireId) (ins : List ℕ) (r : TypeTree) : Type 0 where
  pub rest : TypeTree
  pub left : List ℕ
  pub kind : Kind
  pub has : HasKind s [] rest kind
  pub params : ParamParts s.datas sort rest left r
  pub same : SameTypes rest u
  pub count : length reads + length left ≡ length ins

no_end : {A : Type 0} (xs : List A) (x : A) → xs ++ x ∷ [] ≡ [] → ⊥
no_end [] x e = absurd cc
no_end (y ∷ xs) x e = absurd cc

-- one more operand
wires_with : (scope : List Variable) (es : List TermTree) (a : TermTree) → length (wires_of_all scope (es ++ a ∷ [])) ≡ length (wires_of_all scope es) + length (wires_of scope a)
wires_with scope es a =
    let whole : length (wires_of_all scope (es ++ a ∷ [])) ≡ length (wires_of_all scope es ++ (wires_of scope a ++ [])) = ap (λ (ws : List WireId). length ws) (flat_map-append (wires_of scope) es (a ∷ [])) in
    let parts = length-append (wires_of_all scope es) (wires_of scope a ++ []) in
    let last : length (wires_of scope a ++ []) ≡ length (wires_of scope a) + 0 = length-append (wires_of scope a) [] in
    omega (arith, whole, parts, last)

of_variable : (s : Setting) (sort : Sort) (vars : List TypeTree) (scope : List Variable) (a : TermTree) (t u : TypeTree) (k : Kind) (ws : List ℕ) → VarCount s sort vars scope → IsVariable a → HasType s [] vars a u → HasKind s [] t k → SameTypes t u → HasParts s.datas sort t ws → length (wires_of scope a) ≡ wire_count ws
of_variable s sort vars scope (var x) t u k ws counts is typed kind same has = counts x t u k ws typed kind same has
of_variable s sort vars scope _ t u k ws counts is typed kind same has = absurd is

module _ (facts : Facts) (s : Setting) (sort : Sort) (vars : List TypeTree) (scope : List Variable) (m : ℕ) (whole : TypeTree) (k : Kind) (ins : List ℕ) (r : TypeTree) (counts : VarCount s sort vars scope)
    (known : slice_get s.made m ≡ Some whole) (of_kind : HasKind s [] whole k) (params : ParamParts s.datas sort whole ins r) where
  -- a spine on a made definition
  pub spine_called : (e : TermTree) (u : TypeTree) → head_of e ≡ made m → types_of e ≡ [] → AllByRecursion IsVariable (operands_of e) → HasType s [] vars e u → Called s sort u (wires_of_all scope (operands_of e)) ins r
  spine_called (made j) u h ts names (h_made is) =
      let same : j ≡ m = cc in
      let type : whole ≡ u = same_some known (subst (λ j. slice_get s.made j ≡ Some u) same is) in
      record {
        rest = whole;
        left = ins;
        kind = k;
        has = of_kind;
        params = params;
        same = subst (SameTypes whole) type (facts.same.same_self whole);
        count = omega arith;
      }
  spine_called (app f a) u h ts names (h_app {a = c} {c = d} typed given same) =
      let before = spine_called f (fun c u) h ts (all_first IsVariable (operands_of f) (a ∷ []) names) typed in
      let last = (all_rest IsVariable (operands_of f) (a ∷ []) names).0 in
      let form = facts.same.as_function (facts.same.same_turned before.same) in
      let parts = param_of (subst (λ t. ParamParts s.datas sort t before.left r) form.2 before.params) in
      let kinds = facts.kinds.function_parts (subst (λ t. HasKind s [] t before.kind) form.2 before.has) in
      let one = of_variable s sort vars scope a form.0 d kinds.0 parts.widths counts last given kinds.1 (facts.same.same_through (facts.same.same_turned form.3) same) parts.parts in
      let more = wires_with scope (operands_of f) a in
      let was = before.count in
      let are : length before.left ≡ wire_count parts.widths + length parts.left = ap (λ (l : List ℕ). length l) parts.are ∙ length-append (present parts.widths) parts.left in
      record {
        rest = form.1;
        left = parts.left;
        kind = _;
        has = kinds.2;
        params = parts.more;
        same = facts.same.same_turned form.4;
        count = omega (arith, one, more, was, are);
      }
  spine_called (ty_app f t) u h ts names typed = absurd (no_end (types_of f) t ts)
  spine_called _ u h ts names typed = absurd cc

-- all operands are given where what is left has the parts of a wire or of a port
pub called_whole : Facts → FieldsKeepSame → SameKeepsMeasure → {sort : Sort} (s : Setting) → IsSound s → (t u : TypeTree) (k : Kind) (ws : List ℕ) (reads : List WireId) (ins : List ℕ) (r : TypeTree) → Called s sort u reads ins r → HasKind s [] t k → SameTypes t u → HasParts s.datas sort t ws → length reads ≡ length ins
called_whole facts keep law s sound t u k ws reads ins r called kind same has =
    let like = any_kept facts keep law s sound t called.rest ws (record { kind = k; has = kind; same = facts.same.same_through same (facts.same.same_turned called.same) }) has in
    let none = param_none (parts_ask facts like) called.params in
    let left : length called.left ≡ 0 = ap (λ (l : List ℕ). length l) none.0 in
    let count = called.count in
    omega (arith, left, count)

-- what a spine on a made definition gives in the end, its type does
result_called : (s : Setting) (vars : List TypeTree) (m : ℕ) (whole : TypeTree) → slice_get s.made m ≡ Some whole → (e : TermTree) (u : TypeTree) → head_of e ≡ made m → types_of e ≡ [] → HasType s [] vars e u → result_of whole ≡ result_of u
result_called s vars m whole known (made j) u h ts (h_made is) =
    let same : j ≡ m = cc in
    ap (λ t. result_of t) (same_some known (subst (λ j. slice_get s.made j ≡ Some u) same is))
result_called s vars m whole known (app f a) u h ts (h_app {a = c} typed given same) = result_called s vars m whole known f (fun c u) h ts typed
result_called s vars m whole known (ty_app f t) u h ts typed = absurd (no_end (types_of f) t ts)
result_called s vars m whole known _ u h ts typed = absurd cc

-- so the result has the parts of the whole call
pub result_parts : Facts → FieldsKeepSame → SameKeepsMeasure → {sort : Sort} (s : Setting) → IsSound s → (vars : List TypeTree) (m : ℕ) (whole : TypeTree) → slice_get s.made m ≡ Some whole → (e : TermTree) (t u : TypeTree) (k : Kind) (ws : List ℕ) → head_of e ≡ made m → types_of e ≡ [] → HasType s [] vars e u → HasKind s [] t k → SameTypes t u → HasParts s.datas sort t ws → HasParts s.datas sort (result_of whole) ws
result_parts facts keep law {sort} s sound vars m whole known e t u k ws h ts typed kind same has =
    let there = any_kept facts keep law s sound t u ws (record { kind = k; has = kind; same = same }) has in
    subst (λ r. HasParts s.datas sort r ws) (sym (result_called s vars m whole known e u h ts typed ∙ result_alone u (parts_ask facts there))) there

-- the operands of a lifted call
abbrev pub lifted_on : {m n : ℕ} {e : TermTree} → IsLiftedCall m e n → List TermTree
lifted_on (lifted_on_one {x = x}) = var x ∷ []
lifted_on (lifted_on_more {x = x} before) = lifted_on before ++ var x ∷ []

pub is_lifted : {m n : ℕ} {e : TermTree} (lifted : IsLiftedCall m e n) → IsLifted m e (lifted_on lifted)
is_lifted lifted_on_one = of_one
is_lifted (lifted_on_more before) = of_more (is_lifted before)

-- a function that was given one more operand
record OneMore (s : Setting) (b : TypeTree) (given : ℕ) (left : List ℕ) (r : TypeTree) : Type 0 where
  pub rest : TypeTree
  pub more : List ℕ
  pub kind : Kind
  pub has : HasKind s [] rest kind
  pub params : ParamParts s.datas Value rest more r
  pub same : SameTypes rest b
  pub count : given + length more ≡ length left

-- what a lifted call gives that was given some of its operands: a signal
pub record LiftedSoFar (s : Setting) (u : TypeTree) (reads : List WireId) (ins : List ℕ) (r : TypeTree) : Type 0 where
  pub dom : TypeTree
  pub rest : TypeTree
  pub left : List ℕ
  pub kind : Kind
  pub has : HasKind s [] rest kind
  pub params : ParamParts s.datas Value rest left r
  pub same : SameTypes (signal dom rest) u
  pub count : length reads + length left ≡ length ins

signal_of : {a b c d : TypeTree} → signal a b ≡ signal c d → b ≡ d
signal_of e = cc

payload_kind : (s : Setting) (d t : TypeTree) (k : Kind) → HasKind s [] (signal d t) k → HasKind s [] t Val
payload_kind s d t k (kind_signal e f) = f

natural_asks : (t : TypeTree) → is_natural t ≡ true → AsksForNone t
unfolding is_natural
natural_asks (fun a b) h = absurd cc
natural_asks (for_all k t) h = absurd cc
natural_asks _ h = tt

-- types that are the same give the same in the end
results_kept : {t u : TypeTree} → SameTypes t u → SameTypes (result_of t) (result_of u)
results_kept (same_naturals {a = a} {b = b} p q n) =
    subst (λ r. SameTypes r (result_of b)) (sym (result_alone a (natural_asks a p))) (subst (λ r. SameTypes a r) (sym (result_alone b (natural_asks b q))) (same_naturals p q n))
results_kept (same_sum p q) = same_sum p q
results_kept (same_product p q) = same_product p q
results_kept same_domain = same_domain
results_kept (same_scalar p) = same_scalar p
results_kept (same_vector p q) = same_vector p q
results_kept (same_data p) = same_data p
results_kept (same_fun p q) = results_kept q
results_kept (same_signal p q) = same_signal p q
results_kept (same_for_all p) = same_for_all p

made_type : {s : Setting} {vars : List TypeTree} {m : ℕ} {whole t : TypeTree} → slice_get s.made m ≡ Some whole → HasType s [] vars (made m) t → t ≡ whole
made_type known (h_made is) = same_some is known

module _ (facts : Facts) (keep : FieldsKeepSame) (law : SameKeepsMeasure) (prims : PrimAtArguments) (s : Setting) (sound : IsSound s) (vars : List TypeTree) (scope : List Variable) (fit : Fits vars scope) (held : PortsHeld s scope) (scoped : AreTermTypes s [] vars) where
  signal_count : (x : ℕ) (d a c : TypeTree) (k : Kind) (ws : List ℕ) → HasTypeUpTo s [] vars (var x) (signal d a) → HasKind s [] c k → SameTypes c a → HasParts s.datas Value c ws → length (wires_at scope x) ≡ wire_count ws
  signal_count x d a c k ws given kind same parts =
      let at = found facts vars scope x given.type fit (var_at given.has) in
      let form = facts.same.as_signal (facts.same.same_through given.same at.same) in
      let it = held x at.it at.is in
      let narrow = signal_part (subst (λ t. HasParts s.datas Circuit t it.parts) form.2 it.have) in
      let value = value_width parts in
      let carried = law (fits value.0) s c form.1 sound (record { kind = k; has = kind; same = facts.same.same_through same form.4 }) value.1 in
      let width : narrow.0 ≡ value.0 = facts.widths.width_once narrow.1 carried in
      ap (λ (wires : List WireId). length wires) (wires_there scope x at.it at.is) ∙ it.count ∙ ap (λ ws. wire_count ws) (narrow.2 ∙ ap (λ w. w ∷ []) width ∙ sym value.2)

  one_more : (x : ℕ) (d a b rest : TypeTree) (k : Kind) (left : List ℕ) (r : TypeTree) → HasKind s [] rest k → ParamParts s.datas Value rest left r → SameTypes rest (fun a b) → HasTypeUpTo s [] vars (var x) (signal d a) → OneMore s b (length (wires_at scope x)) left r
  one_more x d a b rest k left r kind params same given =
      let form = facts.same.as_function (facts.same.same_turned same) in
      let parts = param_of (subst (λ t. ParamParts s.datas Value t left r) form.2 params) in
      let kinds = facts.kinds.function_parts (subst (λ t. HasKind s [] t k) form.2 kind) in
      let one = signal_count x d a form.0 kinds.0 parts.widths given kinds.1 (facts.same.same_turned form.3) parts.parts in
      let are : length left ≡ wire_count parts.widths + length parts.left = ap (λ (l : List ℕ). length l) parts.are ∙ length-append (present parts.widths) parts.left in
      record {
        rest = form.1;
        more = parts.left;
        kind = k;
        has = kinds.2;
        params = parts.more;
        same = facts.same.same_turned form.4;
        count = omega (arith, one, are);
      }

  -- with the type of the made definition
  module _ (m : ℕ) (whole : TypeTree) (k : Kind) (ins : List ℕ) (r : TypeTree) (known : slice_get s.made m ≡ Some whole) (of_kind : HasKind s [] whole k) (params : ParamParts s.datas Value whole ins r) where
    pub lifted_called : {e : TermTree} {n : ℕ} (lifted : IsLiftedCall m e n) (u : TypeTree) → HasType s [] vars e u → LiftedSoFar s u (wires_of_all scope (lifted_on lifted)) ins r
    unfolding sub
    lifted_called (lifted_on_one {d = d} {a = a} {b = b} {x = x}) u typed =
        let all = prims s [] vars Fmap (Dom ∷ Val ∷ Val ∷ []) (fun (ty_var 1) (ty_var 0) ∷ signal (ty_var 2) (ty_var 1) ∷ []) (signal (ty_var 2) (ty_var 0)) (d ∷ a ∷ b ∷ []) (made m ∷ var x ∷ []) u sound scoped refl refl refl typed in
        let gives : SameTypes (signal d b) u = all.gives in
        let function : HasTypeUpTo s [] vars (made m) (fun a b) = all.args_given.0 in
        let given : HasTypeUpTo s [] vars (var x) (signal d a) = all.args_given.1.0 in
        let same : SameTypes (fun a b) whole = subst (SameTypes (fun a b)) (made_type known function.has) function.same in
        let more = one_more x d a b whole k ins r of_kind params (facts.same.same_turned same) given in
        let all_wires = wires_with scope [] (var x) in
        let was = more.count in
        record {
          dom = d;
          rest = more.rest;
          left = more.more;
          kind = more.kind;
          has = more.has;
          params = more.params;
          same = facts.same.same_through (same_signal (facts.same.same_self d) more.same) gives;
          count = omega (arith, all_wires, was);
        }
    lifted_called (lifted_on_more {d = d} {a = a} {b = b} {u = f} {x = x} before) u typed =
        let all = prims s [] vars Ap (Dom ∷ Val ∷ Val ∷ []) (signal (ty_var 2) (fun (ty_var 1) (ty_var 0)) ∷ signal (ty_var 2) (ty_var 1) ∷ []) (signal (ty_var 2) (ty_var 0)) (d ∷ a ∷ b ∷ []) (f ∷ var x ∷ []) u sound scoped refl refl refl typed in
        let gives : SameTypes (signal d b) u = all.gives in
        let function : HasTypeUpTo s [] vars f (signal d (fun a b)) = all.args_given.0 in
        let given : HasTypeUpTo s [] vars (var x) (signal d a) = all.args_given.1.0 in
        let so_far = lifted_called before function.type function.has in
        let form = facts.same.as_signal (facts.same.same_through so_far.same (facts.same.same_turned function.same)) in
        let is : form.1 ≡ fun a b = signal_of (sym form.2) in
        let same : SameTypes so_far.rest (fun a b) = subst (SameTypes so_far.rest) is form.4 in
        let more = one_more x d a b so_far.rest so_far.kind so_far.left r so_far.has so_far.params same given in
        let all_wires = wires_with scope (lifted_on before) (var x) in
        let was = more.count in
        let earlier = so_far.count in
        record {
          dom = d;
          rest = more.rest;
          left = more.more;
          kind = more.kind;
          has = more.has;
          params = more.params;
          same = facts.same.same_through (same_signal (facts.same.same_self d) more.same) gives;
          count = omega (arith, all_wires, was, earlier);
        }

  -- all operands of a lifted call are given where it is a port
  pub lifted_whole : (t u : TypeTree) (k : Kind) (ws : List ℕ) (reads : List WireId) (ins : List ℕ) (r : TypeTree) → LiftedSoFar s u reads ins r → HasKind s [] t k → SameTypes t u → HasParts s.datas Circuit t ws → length reads ≡ length ins
  lifted_whole t u k ws reads ins r called kind same has =
      let like = parts_kept facts keep law s sound t (signal called.dom called.rest) ws (record { kind = k; has = kind; same = facts.same.same_through same (facts.same.same_turned called.same) }) has in
      let none = param_none (measured_asks (signal_part like).1) called.params in
      let left : length called.left ≡ 0 = ap (λ (l : List ℕ). length l) none.0 in
      let count = called.count in
      omega (arith, left, count)

  -- what a lifted call gives: a signal of what the made definition gives
  result_lifted : {m : ℕ} (whole : TypeTree) → slice_get s.made m ≡ Some whole → {e : TermTree} {n : ℕ} → IsLiftedCall m e n → (u : TypeTree) → HasType s [] vars e u → (d : TypeTree) × (v : TypeTree) × SameTypes (signal d v) u × SameTypes (result_of v) (result_of whole)
  unfolding sub
  result_lifted {m} whole known (lifted_on_one {d = d} {a = a} {b = b} {x = x}) u typed =
      let all = prims s [] vars Fmap (Dom ∷ Val ∷ Val ∷ []) (fun (ty_var 1) (ty_var 0) ∷ signal (ty_var 2) (ty_var 1) ∷ []) (signal (ty_var 2) (ty_var 0)) (d ∷ a ∷ b ∷ []) (made m ∷ var x ∷ []) u sound scoped refl refl refl typed in
      let gives : SameTypes (signal d b) u = all.gives in
      let function : HasTypeUpTo s [] vars (made m) (fun a b) = all.args_given.0 in
      (d, b, gives, results_kept (subst (SameTypes (fun a b)) (made_type known function.has) function.same))
  result_lifted {m} whole known (lifted_on_more {d = d} {a = a} {b = b} {u = f} {x = x} before) u typed =
      let all = prims s [] vars Ap (Dom ∷ Val ∷ Val ∷ []) (signal (ty_var 2) (fun (ty_var 1) (ty_var 0)) ∷ signal (ty_var 2) (ty_var 1) ∷ []) (signal (ty_var 2) (ty_var 0)) (d ∷ a ∷ b ∷ []) (f ∷ var x ∷ []) u sound scoped refl refl refl typed in
      let gives : SameTypes (signal d b) u = all.gives in
      let function : HasTypeUpTo s [] vars f (signal d (fun a b)) = all.args_given.0 in
      let so_far = result_lifted whole known before function.type function.has in
      let form = facts.same.as_signal (facts.same.same_through function.same (facts.same.same_turned so_far.2)) in
      let is : form.1 ≡ so_far.1 = signal_of (sym form.2) in
      let same : SameTypes (fun a b) so_far.1 = subst (SameTypes (fun a b)) is form.4 in
      (d, b, gives, facts.same.same_through (results_kept same) so_far.3)

  -- so the result has the parts of the whole lifted call
  pub lifted_parts : {m : ℕ} (whole : TypeTree) → slice_get s.made m ≡ Some whole → {e : TermTree} {n : ℕ} → IsLiftedCall m e n → (t u : TypeTree) (k : Kind) (ws : List ℕ) → HasType s [] vars e u → HasKind s [] t k → SameTypes t u → HasParts s.datas Circuit t ws → HasParts s.datas Value (result_of whole) ws
  lifted_parts whole known lifted t u k ws typed kind same has =
      let at = result_lifted whole known lifted u typed in
      let form = facts.same.as_signal (facts.same.same_through at.2 (facts.same.same_turned same)) in
      let kinded = payload_kind s form.0 form.1 k (subst (λ t. HasKind s [] t k) form.2 kind) in
      let part = signal_part (subst (λ t. HasParts s.datas Circuit t ws) form.2 has) in
      let back : HasWidth s.datas at.1 part.0 = law (fits part.0) s form.1 at.1 sound (record { kind = Val; has = kinded; same = facts.same.same_turned form.4 }) part.1 in
      let alone : result_of at.1 ≡ at.1 = result_alone at.1 (measured_asks back) in
      let same_result : SameTypes form.1 (result_of whole) = facts.same.same_through (facts.same.same_turned form.4) (subst (λ v. SameTypes v (result_of whole)) alone at.3) in
      let wide : HasParts s.datas Value (result_of whole) (part.0 ∷ []) =
      value_part (law (fits part.0) s form.1 (result_of whole) sound (record { kind = Val; has = kinded; same = same_result }) part.1) in
      subst (λ ws. HasParts s.datas Value (result_of whole) ws) (sym part.2) wide
