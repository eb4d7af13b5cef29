-- Each state of a run begins with the top, since runs keep origins, types and sorts; and then the first made definition is a circuit of the
-- top's type.
use Rattle.std.proofs.Common.{◌≡◌, ℕ, List, ◌∷◌, ◌++◌, map, Some, ap, ◌∙◌}
use Rattle.std.specs.List.{slice_get}
use Rattle.chw_terms.specs.declared.program.Def.{Def}
use Rattle.chw_terms.specs.declared.program.Program.{Program}
use Rattle.chw_terms.specs.declared.rule.Rule.{Rule}
use Rattle.chw_terms.specs.declared.scene.Made.{Made}
use Rattle.chw_terms.specs.declared.scene.Sort.TheVariants.{Circuit}
use Rattle.rewriting.specs.Origins.{MadeOf, made_of}
use Rattle.rewriting.specs.Runs.{Run, Step, top_of}
use Rattle.made_states.specs.Laws.{RunsKeepOrigins}
use Rattle.normal_form.specs.Entries.{BeginsWithTop}
use Rattle.net_means.proofs.Lists.{found_before_map, same_some}

-- the first made definition is a circuit
pub begins_with_circuit : {p : Program} {state : List Made} → BeginsWithTop p state → (it : Made) → slice_get state 0 ≡ Some it → it.sort ≡ Circuit
begins_with_circuit b it is = ap (λ (m : Made). m.sort) (same_some is b.is_first) ∙ ap (λ (m : MadeOf). m.sort) b.same

-- and has the type of the top
pub begins_with_type : {p : Program} {state : List Made} → BeginsWithTop p state → (it : Made) (top : Def) → slice_get state 0 ≡ Some it → slice_get p.defs p.top.«def».number ≡ Some top → it.ty ≡ top.ty
begins_with_type b it top is held =
    ap (λ (m : Made). m.ty) (same_some is b.is_first) ∙ ap (λ (m : MadeOf). m.ty) b.same ∙ ap (λ (d : Def). d.ty) (same_some b.held held)

pub runs_begin : RunsKeepOrigins → (rules : List Rule) (p : Program) (n : ℕ) (steps : List Step) (made : List Made) → Run rules p n steps made → BeginsWithTop p made
runs_begin keep rules p n steps made run =
    let stay = keep rules p n run.opening made steps run.runs in
    let same : map made_of made ≡ top_of p.top.«def».number run.opens.0 ∷ stay.0 = stay.1 ∙ ap (λ ms. map made_of ms ++ stay.0) run.opens.2 in
    let first = found_before_map made_of made 0 (top_of p.top.«def».number run.opens.0) (ap (λ ms. slice_get ms 0) same) in
    record { top = run.opens.0; held = run.opens.1; it = first.0; is_first = first.1; same = first.2 }
