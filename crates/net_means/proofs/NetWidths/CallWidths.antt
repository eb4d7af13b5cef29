-- Calls of made definitions: the operands are as wide as the made definition's inputs.
use Rattle.std.proofs.Common.{◌≡◌, ℕ, List, [], ◌∷◌, ◌++◌, Some, refl, sym, ap, ◌∙◌, subst}
use Rattle.std.specs.List.{slice_get, AllByRecursion}
use Rattle.std.proofs.lemmas.Grind.{flat_map-append}
use Rattle.std.proofs.lemmas.List.{append-nil, append_assoc}
use Rattle.chw_base.specs.declared.index.WireId.{WireId}
use Rattle.chw_types.specs.declared.declarations.Data.{Data}
use Rattle.chw_types.specs.declared.kind.Kind.{Kind}
use Rattle.chw_types.specs.declared.kind.Kind.TheVariants.{Dom, Val}
use Rattle.chw_types.specs.SameTypes.{SameTypes, same_signal}
use Rattle.chw_types.specs.TypeMoves.{sub}
use Rattle.chw_types.specs.TypeTree.{TypeTree, ty_var, fun, signal}
use Rattle.chw_prims.specs.declared.prim.Primitive.TheVariants.{Fmap, Ap}
use Rattle.type_laws.specs.SameKept.{FieldsKeepSame}
use Rattle.chw_terms.specs.declared.scene.Sort.{Sort}
use Rattle.chw_terms.specs.declared.scene.Sort.TheVariants.{Value, Circuit}
use Rattle.chw_terms.specs.TermTree.{TermTree, var, made, app, ty_app}
use Rattle.chw_typing.specs.Programs.{IsSound}
use Rattle.chw_typing.specs.Scopes.{Setting, HasKind, AreTermTypes}
use Rattle.chw_typing.specs.Typing.{HasType, HasTypeUpTo, h_made, h_app}
use Rattle.chw_layout.specs.Measured.{fits}
use Rattle.layout_laws.specs.SameLayout.{SameKeepsMeasure}
use Rattle.rewriting.specs.Shapes.{IsVariable}
use Rattle.chw_typing.specs.Given.{AsksForNone}
use Rattle.chw_typing.specs.SpineLaws.{PrimAtArguments}
use Rattle.normal_forms.specs.Circuits.{IsLiftedCall, lifted_on_one, lifted_on_more}
use Rattle.net_built.specs.Data.{HasParts}
use Rattle.net_built.specs.Terms.{head_of, types_of, operands_of, Variable, wires_at, wires_of, wires_of_all}
use Rattle.net_built.specs.Wires.{present}
use Rattle.net_grounds.specs.Facts.{Facts}
use Rattle.net_means.proofs.Lists.{same_some}
use Rattle.net_means.specs.NetFits.Widths.{AreWide}
use Rattle.net_means.proofs.NetFits.CallShapes.{all_first, all_rest}
use Rattle.net_means.proofs.NetFits.Calls.{ParamParts, no_params, param_and, any_kept, lifted_on}
use Rattle.net_means.proofs.NetFits.Outputs.{value_width}
use Rattle.net_means.proofs.NetFits.Ports.{parts_kept, signal_part}
use Rattle.net_means.proofs.NetFits.Scopes.{Fits, found, var_at, wires_there}
use Rattle.net_means.proofs.NetFits.WordWidths.{wide_append}
use Rattle.net_means.proofs.NetWidths.PortsWide.{PortsWide}
use Rattle.net_means.proofs.NetFits.Calls.{measured_asks, parts_ask, param_of}

param_none : {datas : List Data} {sort : Sort} {t r : TypeTree} {ins : List ℕ} → AsksForNone t → ParamParts datas sort t ins r → ins ≡ []
param_none asks (no_params h) = refl
param_none asks (param_and parts more) = absurd asks

-- a variable has wires as wide as the parts of a type that is the same up to naturals
abbrev pub VarWide : Setting → List ℕ → Sort → List TypeTree → List Variable → Type 0
VarWide s all sort vars scope =
    (x : ℕ) (t u : TypeTree) (k : Kind) (ws : List ℕ) → HasType s [] vars (var x) u → HasKind s [] t k → SameTypes t u → HasParts s.datas sort t ws → AreWide all (wires_at scope x) (present ws)

-- what a call gives that was given some of its operands
pub record Called (s : Setting) (all : List ℕ) (sort : Sort) (u : TypeTree) (reads : List WireId) (ins : List ℕ) (r : TypeTree) : Type 0 where
  pub rest : TypeTree
  pub taken : List ℕ
  pub left : List ℕ
  pub kind : Kind
  pub has : HasKind s [] rest kind
  pub params : ParamParts s.datas sort rest left r
  pub same : SameTypes rest u
  pub wide : AreWide all reads taken
  pub are : ins ≡ taken ++ left

no_end : {A : Type 0} (xs : List A) (x : A) → xs ++ x ∷ [] ≡ [] → ⊥
no_end [] x e = absurd cc
no_end (y ∷ xs) x e = absurd cc

-- one more operand
wires_with : (scope : List Variable) (es : List TermTree) (a : TermTree) → wires_of_all scope (es ++ a ∷ []) ≡ wires_of_all scope es ++ wires_of scope a
wires_with scope es a = flat_map-append (wires_of scope) es (a ∷ []) ∙ ap (λ ws. wires_of_all scope es ++ ws) (append-nil (wires_of scope a))

one_more_wide : (all : List ℕ) (scope : List Variable) (es : List TermTree) (a : TermTree) (vs ws : List ℕ) → AreWide all (wires_of_all scope es) vs → AreWide all (wires_of scope a) ws → AreWide all (wires_of_all scope (es ++ a ∷ [])) (vs ++ ws)
one_more_wide all scope es a vs ws h k = subst (λ (wires : List WireId). AreWide all wires (vs ++ ws)) (sym (wires_with scope es a)) (wide_append all (wires_of_all scope es) (wires_of scope a) vs ws h k)

-- what was left begins with what is taken next
taken_next : (ins taken left given more : List ℕ) → ins ≡ taken ++ left → left ≡ given ++ more → ins ≡ (taken ++ given) ++ more
taken_next ins taken left given more e h = e ∙ ap (λ ws. taken ++ ws) h ∙ sym (append_assoc taken given more)

of_variable : (s : Setting) (all : List ℕ) (sort : Sort) (vars : List TypeTree) (scope : List Variable) (a : TermTree) (t u : TypeTree) (k : Kind) (ws : List ℕ) → VarWide s all sort vars scope → IsVariable a → HasType s [] vars a u → HasKind s [] t k → SameTypes t u → HasParts s.datas sort t ws → AreWide all (wires_of scope a) (present ws)
of_variable s all sort vars scope (var x) t u k ws wide is typed kind same has = wide x t u k ws typed kind same has
of_variable s all sort vars scope _ t u k ws wide is typed kind same has = absurd is

module _ (facts : Facts) (s : Setting) (all : List ℕ) (sort : Sort) (vars : List TypeTree) (scope : List Variable) (m : ℕ) (whole : TypeTree) (k : Kind) (ins : List ℕ) (r : TypeTree) (wide : VarWide s all sort vars scope)
    (known : slice_get s.made m ≡ Some whole) (of_kind : HasKind s [] whole k) (params : ParamParts s.datas sort whole ins r) where
  -- a spine on a made definition
  pub spine_called : (e : TermTree) (u : TypeTree) → head_of e ≡ made m → types_of e ≡ [] → AllByRecursion IsVariable (operands_of e) → HasType s [] vars e u → Called s all sort u (wires_of_all scope (operands_of e)) ins r
  spine_called (made j) u h ts names (h_made is) =
      let same : j ≡ m = cc in
      let type : whole ≡ u = same_some known (subst (λ j. slice_get s.made j ≡ Some u) same is) in
      record {
        rest = whole;
        taken = [];
        left = ins;
        kind = k;
        has = of_kind;
        params = params;
        same = subst (SameTypes whole) type (facts.same.same_self whole);
        wide = tt;
        are = refl;
      }
  spine_called (app f a) u h ts names (h_app {a = c} {c = d} typed given same) =
      let before = spine_called f (fun c u) h ts (all_first IsVariable (operands_of f) (a ∷ []) names) typed in
      let last = (all_rest IsVariable (operands_of f) (a ∷ []) names).0 in
      let form = facts.same.as_function (facts.same.same_turned before.same) in
      let parts = param_of (subst (λ t. ParamParts s.datas sort t before.left r) form.2 before.params) in
      let kinds = facts.kinds.function_parts (subst (λ t. HasKind s [] t before.kind) form.2 before.has) in
      let one = of_variable s all sort vars scope a form.0 d kinds.0 parts.widths wide last given kinds.1 (facts.same.same_through (facts.same.same_turned form.3) same) parts.parts in
      record {
        rest = form.1;
        taken = before.taken ++ present parts.widths;
        left = parts.left;
        kind = _;
        has = kinds.2;
        params = parts.more;
        same = facts.same.same_turned form.4;
        wide = one_more_wide all scope (operands_of f) a before.taken (present parts.widths) before.wide one;
        are = taken_next ins before.taken before.left (present parts.widths) parts.left before.are parts.are;
      }
  spine_called (ty_app f t) u h ts names typed = absurd (no_end (types_of f) t ts)
  spine_called _ u h ts names typed = absurd cc

-- as nothing is left, the wires are as wide as all inputs
all_taken : (all : List ℕ) (reads : List WireId) (ins taken left : List ℕ) → AreWide all reads taken → ins ≡ taken ++ left → left ≡ [] → AreWide all reads ins
all_taken all reads ins taken left h are none = subst (AreWide all reads) (sym (are ∙ ap (λ l. taken ++ l) none ∙ append-nil taken)) h

-- all operands are given where what is left has the parts of a wire or of a port
pub called_whole : Facts → FieldsKeepSame → SameKeepsMeasure → {sort : Sort} (s : Setting) → IsSound s → (all : List ℕ) (t u : TypeTree) (k : Kind) (ws : List ℕ) (reads : List WireId) (ins : List ℕ) (r : TypeTree) → Called s all sort u reads ins r → HasKind s [] t k → SameTypes t u → HasParts s.datas sort t ws → AreWide all reads ins
called_whole facts keep law s sound all t u k ws reads ins r called kind same has =
    let like = any_kept facts keep law s sound t called.rest ws (record { kind = k; has = kind; same = facts.same.same_through same (facts.same.same_turned called.same) }) has in
    all_taken all reads ins called.taken called.left called.wide called.are (param_none (parts_ask facts like) called.params)

-- a function that was given one more operand
record OneMore (s : Setting) (b : TypeTree) (given left : List ℕ) (r : TypeTree) : Type 0 where
  pub rest : TypeTree
  pub more : List ℕ
  pub kind : Kind
  pub has : HasKind s [] rest kind
  pub params : ParamParts s.datas Value rest more r
  pub same : SameTypes rest b
  pub are : left ≡ given ++ more

-- what a lifted call gives that was given some of its operands: a signal
pub record LiftedSoFar (s : Setting) (all : List ℕ) (u : TypeTree) (reads : List WireId) (ins : List ℕ) (r : TypeTree) : Type 0 where
  pub dom : TypeTree
  pub rest : TypeTree
  pub taken : List ℕ
  pub left : List ℕ
  pub kind : Kind
  pub has : HasKind s [] rest kind
  pub params : ParamParts s.datas Value rest left r
  pub same : SameTypes (signal dom rest) u
  pub wide : AreWide all reads taken
  pub are : ins ≡ taken ++ left

signal_of : {a b c d : TypeTree} → signal a b ≡ signal c d → b ≡ d
signal_of e = cc

made_type : {s : Setting} {vars : List TypeTree} {m : ℕ} {whole t : TypeTree} → slice_get s.made m ≡ Some whole → HasType s [] vars (made m) t → t ≡ whole
made_type known (h_made is) = same_some is known

module _ (facts : Facts) (keep : FieldsKeepSame) (law : SameKeepsMeasure) (prims : PrimAtArguments) (s : Setting) (sound : IsSound s) (all : List ℕ) (vars : List TypeTree) (scope : List Variable) (fit : Fits vars scope) (wide : PortsWide s.datas all scope) (scoped : AreTermTypes s [] vars) where
  -- a variable that is a signal of values of a type that is the same up to naturals
  pub signal_wide : (x : ℕ) (d a c : TypeTree) (k : Kind) (ws : List ℕ) → HasTypeUpTo s [] vars (var x) (signal d a) → HasKind s [] c k → SameTypes c a → HasParts s.datas Value c ws → AreWide all (wires_at scope x) (present ws)
  signal_wide x d a c k ws given kind same parts =
      let at = found facts vars scope x given.type fit (var_at given.has) in
      let form = facts.same.as_signal (facts.same.same_through given.same at.same) in
      let it = wide x at.it at.is in
      let narrow = signal_part (subst (λ t. HasParts s.datas Circuit t it.parts) form.2 it.have) in
      let value = value_width parts in
      let carried = law (fits value.0) s c form.1 sound (record { kind = k; has = kind; same = facts.same.same_through same form.4 }) value.1 in
      let width : narrow.0 ≡ value.0 = facts.widths.width_once narrow.1 carried in
      let are : it.parts ≡ ws = narrow.2 ∙ ap (λ w. w ∷ []) width ∙ sym value.2 in
      subst (λ ws. AreWide all (wires_at scope x) (present ws)) are (subst (λ (wires : List WireId). AreWide all wires (present it.parts)) (sym (wires_there scope x at.it at.is)) it.wide)

  one_more : (x : ℕ) (d a b rest : TypeTree) (k : Kind) (left : List ℕ) (r : TypeTree) → HasKind s [] rest k → ParamParts s.datas Value rest left r → SameTypes rest (fun a b) → HasTypeUpTo s [] vars (var x) (signal d a)
      → (given : List ℕ) × AreWide all (wires_at scope x) given × OneMore s b given left r
  one_more x d a b rest k left r kind params same given =
      let form = facts.same.as_function (facts.same.same_turned same) in
      let parts = param_of (subst (λ t. ParamParts s.datas Value t left r) form.2 params) in
      let kinds = facts.kinds.function_parts (subst (λ t. HasKind s [] t k) form.2 kind) in (
        present parts.widths,
        signal_wide x d a form.0 kinds.0 parts.widths given kinds.1 (facts.same.same_turned form.3) parts.parts,
        record {
          rest = form.1;
          more = parts.left;
          kind = k;
          has = kinds.2;
          params = parts.more;
          same = facts.same.same_turned form.4;
          are = parts.are;
        },
      )

  -- with the type of the made definition
  module _ (m : ℕ) (whole : TypeTree) (k : Kind) (ins : List ℕ) (r : TypeTree) (known : slice_get s.made m ≡ Some whole) (of_kind : HasKind s [] whole k) (params : ParamParts s.datas Value whole ins r) where
    pub lifted_called : {e : TermTree} {n : ℕ} (lifted : IsLiftedCall m e n) (u : TypeTree) → HasType s [] vars e u → LiftedSoFar s all u (wires_of_all scope (lifted_on lifted)) ins r
    unfolding sub
    lifted_called (lifted_on_one {d = d} {a = a} {b = b} {x = x}) u typed =
        let given_all = prims s [] vars Fmap (Dom ∷ Val ∷ Val ∷ []) (fun (ty_var 1) (ty_var 0) ∷ signal (ty_var 2) (ty_var 1) ∷ []) (signal (ty_var 2) (ty_var 0)) (d ∷ a ∷ b ∷ []) (made m ∷ var x ∷ []) u sound scoped refl refl refl typed in
        let gives : SameTypes (signal d b) u = given_all.gives in
        let function : HasTypeUpTo s [] vars (made m) (fun a b) = given_all.args_given.0 in
        let given : HasTypeUpTo s [] vars (var x) (signal d a) = given_all.args_given.1.0 in
        let same : SameTypes (fun a b) whole = subst (SameTypes (fun a b)) (made_type known function.has) function.same in
        let one = one_more x d a b whole k ins r of_kind params (facts.same.same_turned same) given in
        let more = one.2 in
        record {
          dom = d;
          rest = more.rest;
          taken = one.0;
          left = more.more;
          kind = more.kind;
          has = more.has;
          params = more.params;
          same = facts.same.same_through (same_signal (facts.same.same_self d) more.same) gives;
          wide = one_more_wide all scope [] (var x) [] one.0 tt one.1;
          are = more.are;
        }
    lifted_called (lifted_on_more {d = d} {a = a} {b = b} {u = f} {x = x} before) u typed =
        let given_all = prims s [] vars Ap (Dom ∷ Val ∷ Val ∷ []) (signal (ty_var 2) (fun (ty_var 1) (ty_var 0)) ∷ signal (ty_var 2) (ty_var 1) ∷ []) (signal (ty_var 2) (ty_var 0)) (d ∷ a ∷ b ∷ []) (f ∷ var x ∷ []) u sound scoped refl refl refl typed in
        let gives : SameTypes (signal d b) u = given_all.gives in
        let function : HasTypeUpTo s [] vars f (signal d (fun a b)) = given_all.args_given.0 in
        let given : HasTypeUpTo s [] vars (var x) (signal d a) = given_all.args_given.1.0 in
        let so_far = lifted_called before function.type function.has in
        let form = facts.same.as_signal (facts.same.same_through so_far.same (facts.same.same_turned function.same)) in
        let is : form.1 ≡ fun a b = signal_of (sym form.2) in
        let same : SameTypes so_far.rest (fun a b) = subst (SameTypes so_far.rest) is form.4 in
        let one = one_more x d a b so_far.rest so_far.kind so_far.left r so_far.has so_far.params same given in
        let more = one.2 in
        record {
          dom = d;
          rest = more.rest;
          taken = so_far.taken ++ one.0;
          left = more.more;
          kind = more.kind;
          has = more.has;
          params = more.params;
          same = facts.same.same_through (same_signal (facts.same.same_self d) more.same) gives;
          wide = one_more_wide all scope (lifted_on before) (var x) so_far.taken one.0 so_far.wide one.1;
          are = taken_next ins so_far.taken so_far.left one.0 more.more so_far.are more.are;
        }

  -- all operands of a lifted call are given where it is a port
  pub lifted_whole : (t u : TypeTree) (k : Kind) (ws : List ℕ) (reads : List WireId) (ins : List ℕ) (r : TypeTree) → LiftedSoFar s all u reads ins r → HasKind s [] t k → SameTypes t u → HasParts s.datas Circuit t ws → AreWide all reads ins
  lifted_whole t u k ws reads ins r called kind same has =
      let like = parts_kept facts keep law s sound t (signal called.dom called.rest) ws (record { kind = k; has = kind; same = facts.same.same_through same (facts.same.same_turned called.same) }) has in
      all_taken all reads ins called.taken called.left called.wide called.are (param_none (measured_asks (signal_part like).1) called.params)
