-- The parameters of the top have bits, on the thunks of what a program's streams are.
use Rattle.std.specs.Prelude.{slice_get}
use Rattle.std.proofs.Common.{◌≡◌, ◌<◌, ℕ, zero, suc, ◌+◌, List, [], ◌∷◌, ◌++◌, length, Some, refl, sym, ap, ◌∙◌, subst}
use Rattle.chw_types.specs.declared.declarations.Data.{Data}
use Rattle.chw_types.specs.declared.kind.Kind.{Kind}
use Rattle.type_ports.specs.declared.ports.Leaf.{Leaf}
use Rattle.type_ports.specs.Ports.{Leaves}
use Rattle.chw_types.specs.SamePromises.{SameValues}
use Rattle.chw_types.specs.SameTypes.{SameTypes}
use Rattle.chw_types.specs.TypeTree.{TypeTree, fun}
use Rattle.type_laws.specs.SameKept.{FieldsKeepSame}
use Rattle.chw_terms.specs.declared.program.Program.{Program}
use Rattle.chw_terms.specs.declared.scene.Sort.TheVariants.{Circuit}
use Rattle.chw_terms.specs.TermTree.{TermTree, lam}
use Rattle.chw_typing.specs.Programs.{IsSound, setting_of}
use Rattle.chw_typing.specs.Scopes.{Setting, HasKind, IsTermType, AreTermTypes}
use Rattle.chw_typing.specs.Typing.{HasType, h_lam}
use Rattle.chw_typing.specs.Alike.{AreLike}
use Rattle.rewriting.specs.Named.{UnderLambdas, under_none, under_one}
use Rattle.rewriting.specs.Origins.{Origins, setting_at}
use Rattle.chw_meaning.specs.Gives.{Input, PortGiven, given_port, OnInputs, on_all, on_next}
use Rattle.chw_meaning.specs.Values.{History, Thunk, applied, Thunks, thunk_and}
use Rattle.carrying.specs.TermLaws.{onto, on_thunks, under_lambdas}
use Rattle.netlist.specs.declared.net.Net.{Net}
use Rattle.net_built.specs.Data.{HasParts}
use Rattle.net_built.specs.Terms.{Variable, variable}
use Rattle.net_built.specs.Wires.{new_wires, wire_count}
use Rattle.net_grounds.specs.Facts.{Facts}
use Rattle.net_means.specs.SideBits.Sides.{types_in}
use Rattle.net_means.proofs.SideBits.Operands.{sound_alone}
use Rattle.net_means.specs.CircuitBits.Instances.{NoLambda, Parameters, no_parameter, parameter_and}
use Rattle.net_means.specs.CircuitBits.Leaves.{LeafHas, VariableLeaf}
use Rattle.net_means.proofs.CircuitBits.Ports.{parts_along}
use Rattle.net_means.proofs.CircuitBits.Uses.{follower_has}
use Rattle.net_means.proofs.Given.{PortShown, port_shown}
use Rattle.net_means.proofs.LeafBits.{last_counted, parts_shown, port_leaf}
use Rattle.net_means.proofs.Streams.{Shown}

-- thunks for the parameters of a type, made of these inputs, of which none is left; the type leads to a result with these leaves
pub data InputsGiven (datas : List Data) : TypeTree → List Leaf → List Input → List Thunk → TypeTree → List Leaf → Type 0 where
  no_inputs : {t : TypeTree} {outs : List Leaf} → Leaves datas t outs → InputsGiven datas t [] [] [] t outs
  input_and : {a b r : TypeTree} {ls leaves outs : List Leaf} {ins more : List Input} {x : Thunk} {xs : List Thunk} → Leaves datas a ls → PortGiven datas a ins x more → InputsGiven datas b leaves more xs r outs → InputsGiven datas (fun a b) (ls ++ leaves) ins (x ∷ xs) r outs

pub on_inputs : {datas : List Data} {t r : TypeTree} {ls outs : List Leaf} {ins : List Input} {xs : List Thunk} → InputsGiven datas t ls ins xs r outs → (f : Thunk) → OnInputs datas t f ins r (on_thunks f xs)
on_inputs (no_inputs l) f = on_all
on_inputs (input_and {x = x} l g more) f = on_next (given_port g) (on_inputs more (applied f x))

pub result_leaves : {datas : List Data} {t r : TypeTree} {ls outs : List Leaf} {ins : List Input} {xs : List Thunk} → InputsGiven datas t ls ins xs r outs → Leaves datas r outs
result_leaves (no_inputs l) = l
result_leaves (input_and l g more) = result_leaves more

-- a typed lambda
lam_typed : {s : Setting} {kinds : List Kind} {vars : List TypeTree} {a : TypeTree} {e : TermTree} {u : TypeTree} → HasType s kinds vars (lam a e) u → (b : TypeTree) × HasType s kinds (a ∷ vars) e b × (u ≡ fun a b)
lam_typed (h_lam {b = b} d k) = (b, d, refl)

lam_kinded : Facts → {s : Setting} {kinds : List Kind} {vars : List TypeTree} {a : TypeTree} {e : TermTree} {u : TypeTree} → HasType s kinds vars (lam a e) u → IsTermType s kinds a
lam_kinded facts {s} {kinds} {a = a} (h_lam {b = b} {k = k} d has) = facts.kinds.function_takes s kinds a b k has

function_same : Facts → {a b c d : TypeTree} → SameTypes (fun a b) (fun c d) → SameTypes a c × SameTypes b d
function_same facts {a} {b} {c} {d} same =
    let f = facts.same.as_function same in
    let first : f.0 ≡ c = cc in
    let second : f.1 ≡ d = cc in
    (subst (SameTypes a) first f.3, subst (SameTypes b) second f.4)

no_leaves : {A : Type 0} {datas : List Data} {a b : TypeTree} {ls : List Leaf} → Leaves datas (fun a b) ls → A
no_leaves l = elim l [ ]

leads_nowhere : Facts → {A : Type 0} {datas : List Data} {t a b : TypeTree} {ls : List Leaf} → SameTypes t (fun a b) → Leaves datas t ls → A
leads_nowhere facts {datas = datas} {ls = ls} same l = let f = facts.same.as_function (facts.same.same_turned same) in no_leaves (subst (λ t. Leaves datas t ls) f.2 l)

no_function : {A : Type 0} {vars vs : List TypeTree} {e inner : TermTree} {a b : TypeTree} {path : List ℕ} → NoLambda e → UnderLambdas vars e (fun a b) path vs inner → A
no_function plain (under_none asks) = absurd asks
no_function plain (under_one same more) = absurd plain

inner_lambdas : {vars vs : List TypeTree} {u a b : TypeTree} {e inner : TermTree} {path : List ℕ} → UnderLambdas vars (lam u e) (fun a b) path vs inner → (more : List ℕ) × UnderLambdas (u ∷ vars) e b more vs inner
inner_lambdas (under_none asks) = absurd asks
inner_lambdas (under_one {p = p} same more) = (p, more)

-- the body of the top below its parameters
pub record BodyTyped (o : Origins) (all : List Variable) (e : TermTree) (params : List TypeTree) (xs : List Thunk) (r : TypeTree) : Type 0 where
  pub type : TypeTree
  pub has : HasType (setting_at o) [] (types_in all) e type
  pub same : SameTypes r type
  pub scoped : AreTermTypes (setting_at o) [] (types_in all)
  pub many : length params ≡ length xs

module _ (facts : Facts) (o : Origins) (values : SameValues) (keep : FieldsKeepSame) (sound : IsSound (setting_at o)) where
  pub body_typed : {n : ℕ} {params : List TypeTree} {scope all : List Variable} (e : TermTree) {vars vs : List TypeTree} {path : List ℕ} {inner : TermTree} {t r u : TypeTree} {ls outs : List Leaf} {ins : List Input} {xs : List Thunk}
      → Parameters o.program.datas Circuit n params scope all → NoLambda e → UnderLambdas vars (under_lambdas params e) t path vs inner → HasType (setting_at o) [] (types_in scope) (under_lambdas params e) u → SameTypes t u → AreTermTypes (setting_at o) [] (types_in scope) → InputsGiven o.program.datas t ls ins xs r outs
      → BodyTyped o all e params xs r
  body_typed e {u = u} no_parameter plain under typed same scoped (no_inputs l) = record { type = u; has = typed; same = same; scoped = scoped; many = refl }
  body_typed e no_parameter plain under typed same scoped (input_and l g more) = no_function plain under
  body_typed e (parameter_and parts others) plain under typed same scoped (no_inputs l) = let f = lam_typed typed in leads_nowhere facts (subst (SameTypes _) f.2 same) l
  body_typed e (parameter_and {t = v} parts others) plain under typed same scoped (input_and {a = a} {b = b} l g more) =
      let f = lam_typed typed in
      let sames = function_same facts (subst (SameTypes (fun a b)) f.2 same) in
      let below = inner_lambdas under in
      let taken = lam_kinded facts typed in
      let rest = body_typed e others plain below.1 f.1 sames.1 (taken, scoped) more in
      record { type = rest.type; has = rest.has; same = rest.same; scoped = rest.scoped; many = ap suc rest.many }

-- each variable in scope has bits at each of its leaves
abbrev pub ScopeHas : Program → Net → History → List Variable → Thunks → Type 0
ScopeHas p net h scope γ =
    (x k : ℕ) (it : Variable) (widths : List ℕ) → slice_get scope x ≡ Some it → HasParts p.datas Circuit it.ty widths → k < length widths → VariableLeaf p net [] scope γ h x k

module _ (facts : Facts) (o : Origins) (net : Net) (h : History) (values : SameValues) (keep : FieldsKeepSame) (sound : IsSound (setting_at o)) where
  -- the widths of a parameter's leaves, and the number of the wire behind them
  same_widths : {n : ℕ} {a u : TypeTree} {ls rest : List Leaf} {x : Thunk} {more : List Input} {widths : List ℕ} → Leaves o.program.datas a ls → AreLike (setting_of o.program) a u → HasParts o.program.datas Circuit u widths → (s : PortShown facts o.program net h n a x rest more) → s.widths ≡ widths
  same_widths {x = x} l like parts s = facts.built.parts_once (parts_along facts o.program h (sound_alone o sound) values keep x (parts_shown facts l s) like) parts

  with_variable : {n : ℕ} {a u : TypeTree} {ls rest : List Leaf} {x : Thunk} {more : List Input} {widths : List ℕ} {scope : List Variable} {γ : Thunks} → Leaves o.program.datas a ls → AreLike (setting_of o.program) a u → HasParts o.program.datas Circuit u widths → PortShown facts o.program net h n a x rest more → ScopeHas o.program net h scope γ
      → ScopeHas o.program net h (variable u (new_wires n widths) ∷ scope) (thunk_and x γ)
  with_variable {n = n} {a = a} {u = u} {x = x} {widths = widths} l like parts s has zero k it ws known its below =
      let is : variable u (new_wires n widths) ≡ it = cc in
      let same : s.widths ≡ widths = same_widths l like parts s in
      let own : widths ≡ ws = facts.built.parts_once parts (subst (λ (it : Variable). HasParts o.program.datas Circuit it.ty ws) (sym is) its) in
      let within : k < length s.widths = subst (λ ws. k < length ws) (sym (same ∙ own)) below in
      let leaf : LeafHas o.program net [] h a x (new_wires n widths) k = subst (λ ws. LeafHas o.program net [] h a x (new_wires n ws) k) same (port_leaf facts l s k within) in
      record {
        it = variable u (new_wires n widths);
        known = refl;
        thunk = x;
        there = refl;
        has = follower_has facts o.program net h values keep (sound_alone o sound) [] a u x x (new_wires n widths) k like (λ m v f. (m, f)) leaf;
      }
  with_variable l like parts s has (suc y) k it ws known its below =
      let v = has y k it ws known its below in record { it = v.it; known = v.known; thunk = v.thunk; there = v.there; has = v.has }

  pub parameters_have : {n : ℕ} {params : List TypeTree} {scope all : List Variable} (e : TermTree) {vars vs : List TypeTree} {path : List ℕ} {inner : TermTree} {t r u : TypeTree} {j : Kind} {ls outs : List Leaf} {ins : List Input} {xs : List Thunk} (γ : Thunks)
      → Parameters o.program.datas Circuit n params scope all → NoLambda e → UnderLambdas vars (under_lambdas params e) t path vs inner → HasType (setting_at o) [] (types_in scope) (under_lambdas params e) u → SameTypes t u → HasKind (setting_at o) [] t j
      → InputsGiven o.program.datas t ls ins xs r outs → Shown o.program net h n ls ins → ScopeHas o.program net h scope γ → ScopeHas o.program net h all (onto xs γ)
  parameters_have e γ no_parameter plain under typed same kinded (no_inputs l) shown has = has
  parameters_have e γ no_parameter plain under typed same kinded (input_and l g more) shown has = no_function plain under
  parameters_have e γ (parameter_and parts others) plain under typed same kinded (no_inputs l) shown has = let f = lam_typed typed in leads_nowhere facts (subst (SameTypes _) f.2 same) l
  parameters_have {n = n} e {j = j} γ (parameter_and {t = v} {widths = widths} {scope = scope} parts others) plain under typed same kinded (input_and {a = a} {b = b} {leaves = rest} {more = left} {x = x} l g more) shown has =
      let f = lam_typed typed in
      let sames = function_same facts (subst (SameTypes (fun a b)) f.2 same) in
      let takes = facts.kinds.function_takes (setting_at o) [] a b j kinded in
      let gives = facts.kinds.function_gives (setting_at o) [] a b j kinded in
      let like : AreLike (setting_of o.program) a v = record { kind = takes.kind; has = takes.has; same = sames.0 } in
      let s : PortShown facts o.program net h n a x rest left = port_shown facts o.program net h l g n rest x shown (λ m v f. (m, f)) in
      let counted = last_counted facts s.show in
      let place : s.last ≡ n + wire_count widths = counted ∙ ap (λ ws. n + wire_count ws) (same_widths l like parts s) in
      parameters_have e (thunk_and x γ) others plain (inner_lambdas under).1 f.1 sames.1 gives.has more (subst (λ n. Shown o.program net h n rest left) place s.left) (with_variable l like parts s has)
