-- Each made definition of a typed normal state is ready.
use Rattle.std.proofs.Common.{◌≡◌, ℕ, List, [], ◌∷◌, Some, refl, sym, ap, ◌∙◌, subst}
use Rattle.std.specs.List.{slice_get}
use Rattle.chw_types.specs.declared.declarations.Data.{Data}
use Rattle.chw_types.specs.SamePromises.{SameValues}
use Rattle.chw_types.specs.TypeTree.{TypeTree}
use Rattle.type_ports.specs.declared.ports.Leaf.{Leaf}
use Rattle.type_ports.specs.Ports.{Leaves, one_leaf, leaves_of_fields}
use Rattle.type_ports.specs.Representable.{Representable, representable_scalar, representable_vector, representable_data}
use Rattle.type_laws.specs.SameKept.{FieldsKeepSame}
use Rattle.chw_terms.specs.declared.program.Program.{Program}
use Rattle.chw_terms.specs.declared.scene.Made.{Made}
use Rattle.chw_terms.specs.declared.scene.Sort.{Sort}
use Rattle.chw_terms.specs.declared.scene.Sort.TheVariants.{Value, Circuit}
use Rattle.chw_terms.specs.TermTree.{TermTree}
use Rattle.chw_typing.specs.HeadTypes.{from_each}
use Rattle.chw_typing.specs.NamedLaws.{RepresentableIsVal}
use Rattle.chw_typing.specs.Programs.{IsSound}
use Rattle.chw_typing.specs.Scopes.{Setting, AreTermTypes}
use Rattle.chw_typing.specs.Typing.{HasType, h_lam}
use Rattle.chw_layout.specs.EncodingPromises.{ValueIsEncoded}
use Rattle.layout_laws.specs.SameLayout.{SameKeepsMeasure}
use Rattle.rewriting.specs.Named.{IsNamed, mode_of, UnderLambdas, under_none, under_one}
use Rattle.rewriting.specs.Origins.{MadeOf, Origins, setting_at}
use Rattle.rewriting.specs.Steps.{origins_in}
use Rattle.rule_types.specs.States.{IsTypedState, StatesHaveTypedOrigins}
use Rattle.normal_forms.specs.Normal.{HasForm, HoldsWidths, IsNormalBody, IsNormal}
use Rattle.normal_forms.specs.Parts.{EachDeclared}
use Rattle.net_built.specs.Terms.{result_of}
use Rattle.net_ready.specs.Ready.{BlockReady, BodyReady, ready_lambda, ready_block, ModuleReady}
use Rattle.net_grounds.specs.Facts.{Facts}
use Rattle.net_there.proofs.Circuits.{block_ready as circuit_ready}
use Rattle.net_there.proofs.Declared.{under_declares, under_keeps}
use Rattle.net_there.proofs.Measured.{HasSomeParts, AllHaveParts, holds_parts, all_hold_parts}
use Rattle.net_there.proofs.Values.{block_ready as value_ready}

-- a named type is no function
named_result : (datas : List Data) (sort : Sort) (t : TypeTree) → IsNamed datas (mode_of sort) t → result_of t ≡ t
named_result datas Value t named = of_values named
  where
    of_values : {t : TypeTree} → Representable datas t → result_of t ≡ t
    of_values representable_scalar = refl
    of_values (representable_vector r) = refl
    of_values (representable_data known as_many all) = refl
named_result datas Circuit t named = of_ports named.1
  where
    of_ports : {t : TypeTree} {ls : List Leaf} → Leaves datas t ls → result_of t ≡ t
    of_ports (one_leaf r) = refl
    of_ports (leaves_of_fields known as_many one fields a) = refl

-- what functions of several parameters give
result_from : (params : List TypeTree) (t : TypeTree) → result_of (from_each params t) ≡ result_of t
result_from [] t = refl
result_from (a ∷ params) t = result_from params t

-- what is below lambdas is typed in the scope of their variables
pub typed_under : Facts → {s : Setting} {vars vs : List TypeTree} {e x : TermTree} {t u : TypeTree} {path : List ℕ} → UnderLambdas vars e t path vs x → HasType s [] vars e u → AreTermTypes s [] vars → ((r : TypeTree) × HasType s [] vs x r) × AreTermTypes s [] vs
typed_under facts (under_none asks) typed scoped = ((_, typed), scoped)
typed_under facts {s} (under_one {a = a} same under) (h_lam {b = b} {k = k} typed kind) scoped = typed_under facts under typed (facts.kinds.function_takes s [] a b k kind, scoped)

lambdas_ready : (datas : List Data) (sort : Sort) {vars vs : List TypeTree} {e x : TermTree} {t : TypeTree} {path : List ℕ} → UnderLambdas vars e t path vs x → AllHaveParts datas sort vs → BlockReady datas sort vs x → BodyReady datas sort vars e
lambdas_ready datas sort (under_none asks) parts block = ready_block block
lambdas_ready datas sort (under_one same under) parts block =
    ready_lambda (under_keeps (HasSomeParts datas sort) under parts).0.1 (lambdas_ready datas sort under parts block)

-- the lambdas' variables, and what a body gives, have parts
pub params_parts : {o : Origins} {it : MadeOf} {body : TermTree} (b : IsNormalBody o it body) → AllHaveParts o.program.datas it.sort b.vars
params_parts {o} {it} b = all_hold_parts o.program.datas it.sort b.vars b.named (under_declares (HoldsWidths o.program.datas) b.under b.widths tt).0

pub result_parts : {o : Origins} {it : MadeOf} {body : TermTree} (b : IsNormalBody o it body) → HasSomeParts o.program.datas it.sort (result_of it.ty)
result_parts {o} {it} b =
    let is : result_of it.ty ≡ b.result = ap result_of b.gives ∙ result_from b.params b.result ∙ named_result o.program.datas it.sort b.result b.result_named in
    subst (HasSomeParts o.program.datas it.sort) (sym is) (holds_parts o.program.datas it.sort b.result b.result_named b.result_width)

module _ (facts : Facts) (values : SameValues) (keep : FieldsKeepSame) (law : SameKeepsMeasure) (encoded : ValueIsEncoded) (is_val : RepresentableIsVal) (o : Origins) (sound : IsSound (setting_at o)) where
  form_ready : (sort : Sort) {vars : List TypeTree} {e : TermTree} {u : TypeTree} → HasForm o sort vars e → EachDeclared (HoldsWidths o.program.datas) e → AllHaveParts o.program.datas sort vars → HasType (setting_at o) [] vars e u → AreTermTypes (setting_at o) [] vars → BlockReady o.program.datas sort vars e
  form_ready Value form all parts typed scoped = value_ready facts values keep is_val o sound form all parts typed scoped
  form_ready Circuit form all parts typed scoped = circuit_ready facts values keep law encoded o sound form all parts typed scoped

  body_ready : {it : MadeOf} {body : TermTree} → IsNormalBody o it body → BodyReady o.program.datas it.sort [] body
  body_ready {it} b =
      let parts = params_parts b in
      let inner = typed_under facts b.under b.typed.has tt in
      let declares = (under_declares (HoldsWidths o.program.datas) b.under b.widths tt).1 in
      lambdas_ready o.program.datas it.sort b.under parts (form_ready it.sort b.form declares parts inner.0.1 inner.1)

pub module_ready : Facts → SameValues → FieldsKeepSame → SameKeepsMeasure → ValueIsEncoded → RepresentableIsVal → StatesHaveTypedOrigins → (p : Program) (state : List Made) (m : ℕ) (it : Made) → IsTypedState p state → IsNormal p state → slice_get state m ≡ Some it → ModuleReady p.datas it
module_ready facts values keep law encoded is_val typed_origins p state m it typed normal is =
    let o : Origins = origins_in p state in
    let sound = (typed_origins p state typed).sound in
    let b = normal.bodies m it is in
    let result = result_parts b in
    record {
      body = body_ready facts values keep law encoded is_val o sound b;
      outputs = _;
      result = record { widths = result.0; parts = result.1; are = refl };
      free = λ value. facts.built.normal_free p state normal m it is value;
    }
