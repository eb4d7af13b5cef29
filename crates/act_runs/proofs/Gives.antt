-- What runs give.
use Rattle.std.specs.Prelude.{slice_get}
use Rattle.std.proofs.Common.{◌≡◌, ℕ, zero, suc, List, [], ◌∷◌, map, Some, refl, sym, ap, ◌∙◌, subst}
use Rattle.chw_types.specs.TypeTree.{TypeTree, fun}
use Rattle.type_ports.specs.Ports.{leaves_of_fields, one_leaf}
use Rattle.chw_types.specs.declared.declarations.Data.{Data}
use Rattle.chw_terms.specs.declared.program.Def.{Def}
use Rattle.chw_terms.specs.declared.program.Program.{Program}
use Rattle.chw_terms.specs.declared.rule.Rule.{Rule}
use Rattle.chw_terms.specs.declared.scene.Made.{Made}
use Rattle.chw_terms.specs.TermTree.{global}
use Rattle.chw_terms.specs.Unrolled.{parameters}
use Rattle.chw_typing.specs.HeadTypes.{from_each}
use Rattle.chw_typing.specs.Laws.{TypedIsSound}
use Rattle.chw_typing.specs.Programs.{LeadsToPort, from_port, to_port}
use Rattle.chw_typing.proofs.Lists.{found_in_map, found_before_map}
use Rattle.chw_meaning.specs.Gives.{Better}
use Rattle.chw_typing.specs.Paths.{with_part}
use Rattle.rewriting.specs.SceneLaws.{NoMadeKeepsType}
use Rattle.rewriting.specs.Origins.{MadeOf, made_of, eta_expanded, origin_of}
use Rattle.rewriting.specs.Runs.{first_body, RunsTo, no_more, none_left, step_and, Step, StepsTo, top_of, opened}
use Rattle.rewriting.specs.Steps.{origins_in}
use Rattle.opening.specs.Laws.{OpeningIsTyped}
use Rattle.made_states.specs.Laws.{AnyStepKeepsState}
use Rattle.acts.specs.Laws.{ChainGives}
use Rattle.act_rules.specs.ContextLaws.{OpeningGives, PlugActs}
use Rattle.act_rules.specs.NameLaws.{UnfoldGlobalActs}
use Rattle.act_runs.proofs.Chains.{chain_plain}
use Rattle.act_runs.proofs.SpecialSteps.{after_stays}
use Rattle.act_runs.proofs.States.{declared_type}
use Rattle.act_runs.specs.Laws.{BodiesGive, OpeningActs, RunsKeepActs, RunActs, RunGives, StepsKeepActs, WholesAct}
use Rattle.act_runs.proofs.First.{first_chain}
use Rattle.act_runs.proofs.Lists.{same_made}

-- the state with which a program opens has one made definition, with its first body
opened_body : (p : Program) (it : MadeOf) (m : ℕ) (jt : Made) → slice_get (opened p it ∷ []) m ≡ Some jt → jt.body ≡ first_body p jt.origin
opened_body p it zero jt is = let same : opened p it ≡ jt = cc in subst (λ (x : Made). x.body ≡ first_body p x.origin) same refl
opened_body p it (suc m) jt is = absurd cc

pub opening_acts : TypedIsSound → NoMadeKeepsType → PlugActs → UnfoldGlobalActs → OpeningActs
opening_acts law alone plug unfolds p state h opening m it is =
    first_chain law alone plug unfolds p state h m it is
    (opened_body p (top_of p.top.«def».number opening.0) m it (sym (ap (λ ms. slice_get ms m) opening.2) ∙ is))

pub bodies_give : TypedIsSound → NoMadeKeepsType → ChainGives → BodiesGive
bodies_give law alone gives p state m it h bodies is =
    let type = declared_type law alone p state h m it is in
    gives p it.ty type.kind (origin_of (origins_in p state) it.body) it.origin h.tidy h.typed type.has (chain_plain (bodies m it is))

pub runs_keep : AnyStepKeepsState → StepsKeepActs → RunsKeepActs
runs_keep stay keep rules p n made steps made' h bodies no_more = (h, bodies)
runs_keep stay keep rules p n made steps made' h bodies (none_left none) = (h, bodies)
runs_keep stay keep rules p n made steps made' h bodies (step_and {n = k} {made' = between} {s = s} {steps = more} one rest) =
    runs_keep stay keep rules p k between more made' (stay rules p made between s h one) (keep rules p made between s h one bodies) rest

-- made definitions keep their origins, their types and their sorts
step_keeps_origin : {rules : List Rule} {p : Program} {made made' : List Made} {s : Step} → StepsTo rules p made s made' → (m : ℕ) (it : MadeOf) → slice_get (map made_of made) m ≡ Some it → slice_get (map made_of made') m ≡ Some it
step_keeps_origin {made = state} {made' = state'} {s = s} steps m it is =
    let old = found_before_map made_of state m it is in
    let new = found_in_map made_of steps.with_new m old.0 (after_stays steps.after m old.0 old.1) in
    let step = steps.is_first.step.1 in
    let same = same_made steps.with_new s.place.number step.it (record step.it { body = with_part step.it.body s.place.path s.new }) (after_stays steps.after s.place.number step.it step.is) refl in
    ap (λ ms. slice_get (map made_of ms) m) steps.is ∙ ap (λ (ms : List MadeOf). slice_get ms m) same ∙ new ∙ ap (λ (x : MadeOf). Some x) old.2

runs_keep_origin : {rules : List Rule} {p : Program} {n : ℕ} {made : List Made} {steps : List Step} {made' : List Made} → RunsTo rules p n made steps made' → (m : ℕ) (it : MadeOf) → slice_get (map made_of made) m ≡ Some it → slice_get (map made_of made') m ≡ Some it
runs_keep_origin no_more m it is = is
runs_keep_origin (none_left none) m it is = is
runs_keep_origin (step_and one rest) m it is = runs_keep_origin rest m it (step_keeps_origin one m it is)

-- a type that leads from ports to a port is one of functions of its parameters
ports_of_functions : {datas : List Data} {t : TypeTree} {m n : ℕ} → LeadsToPort datas t m n → (r : TypeTree) × (t ≡ from_each (parameters t) r)
ports_of_functions (to_port (one_leaf r)) = (_, refl)
ports_of_functions (to_port (leaves_of_fields d l c f all)) = (_, refl)
ports_of_functions (from_port {a = a} leaves more) = let rest = ports_of_functions more in (rest.0, ap (fun a) rest.1)

pub run_acts : OpeningIsTyped → OpeningActs → RunsKeepActs → RunActs
run_acts typed_opening opens runs rules p n steps state tidy typed run =
    let h = typed_opening p run.opening tidy typed run.opens in
    runs rules p n run.opening steps state h (opens p run.opening h run.opens) run.runs

pub run_gives : TypedIsSound → NoMadeKeepsType → RunActs → WholesAct → ChainGives → OpeningGives → RunGives
run_gives law alone acts wholes chain_gives opening_gives rules p n steps state it e tidy typed run top whole ins hist k d given =
    let end = acts rules p n steps state tidy typed run in
    let number = p.top.«def».number in
    let first : slice_get (map made_of run.opening) 0 ≡ Some (top_of number run.opens.0) = ap (λ ms. slice_get (map made_of ms) 0) run.opens.2 in
    let last = runs_keep_origin run.runs 0 (top_of number run.opens.0) first in
    let held = found_before_map made_of state 0 (top_of number run.opens.0) last in
    let same : Some run.opens.0 ≡ Some it = sym run.opens.1 ∙ top in
    let one : run.opens.0 ≡ it = cc in
    let type : held.0.ty ≡ it.ty = ap (λ (m : MadeOf). m.ty) held.2 ∙ ap (λ (it : Def). it.ty) one in
    let origin : held.0.origin ≡ eta_expanded (parameters it.ty) (global number) = ap (λ (m : MadeOf). m.origin) held.2 ∙ ap (λ (it : Def). eta_expanded (parameters it.ty) (global number)) one in
    let chain = wholes p state 0 held.0 e end.0 end.1 held.1 whole in
    let of = declared_type law alone p state end.0 0 held.0 held.1 in
    let better : Better p held.0.ty e held.0.origin = chain_gives p held.0.ty of.kind e held.0.origin end.0.tidy end.0.typed of.has (chain_plain chain) in
    let here : Better p it.ty e (eta_expanded (parameters it.ty) (global number)) = subst (Better p it.ty e) origin (subst (λ t. Better p t e held.0.origin) type better) in
    let ports = typed.top in
    let one_top : Some ports.0 ≡ Some it = sym ports.1 ∙ top in
    let own : ports.0 ≡ it = cc in
    let functions = ports_of_functions ports.2 in
    let shape = subst (λ (it : Def). it.ty ≡ from_each (parameters it.ty) functions.0) own functions.1 in
    opening_gives p number it (parameters it.ty) functions.0 tidy typed top shape ins hist k d (here ins hist k d given)
