-- The cells of typed circuits in normal form, and the widths of their outputs.
use Rattle.std.proofs.Common.{ℕ, ◌+◌, List, [], ◌∷◌, ◌++◌, reverse, sym, subst, append_assoc}
use Rattle.std.specs.List.{AllByRecursion}
use Rattle.chw_base.specs.declared.index.WireId.{WireId}
use Rattle.chw_types.specs.declared.declarations.Data.{Data}
use Rattle.chw_types.specs.declared.kind.Kind.{Kind}
use Rattle.chw_types.specs.SamePromises.{SameValues}
use Rattle.chw_types.specs.SameTypes.{SameTypes}
use Rattle.chw_types.specs.TypeTree.{TypeTree}
use Rattle.type_laws.specs.SameKept.{FieldsKeepSame}
use Rattle.chw_terms.specs.declared.scene.Sort.{Sort}
use Rattle.chw_terms.specs.declared.scene.Sort.TheVariants.{Circuit}
use Rattle.chw_terms.specs.TermTree.{TermTree, Group}
use Rattle.chw_typing.specs.Programs.{IsSound}
use Rattle.chw_typing.specs.Scopes.{HasKind, AreTermTypes, AreSame, with_more, declared}
use Rattle.chw_typing.specs.Typing.{HasType, h_lam, h_letrec, AreBound, none_bound, bound_and}
use Rattle.layout_laws.specs.SameLayout.{SameKeepsMeasure}
use Rattle.chw_typing.specs.SpineLaws.{ConAtArguments, ConIsSaturated}
use Rattle.rewriting.specs.Named.{UnderLambdas, under_none, under_one}
use Rattle.rewriting.specs.Origins.{Origins, setting_at}
use Rattle.normal_forms.specs.Circuits.{AreCircuitSides, no_circuit_sides, circuit_side_and, IsCircuitBody, circuit_letrec}
use Rattle.netlist.specs.declared.net.Module.{Module}
use Rattle.net_built.specs.Bodies.{BlockBuilt, block_variable, block_letrec, GroupBuilt, group_none, group_and, side_of_circuit, BodyBuilt, body_lambda, body_block}
use Rattle.net_built.specs.Data.{HasParts, value_part, port_parts}
use Rattle.net_built.specs.Modules.{made_in, made_in_group}
use Rattle.net_built.specs.Terms.{result_of, Variable, variable}
use Rattle.net_built.specs.Wires.{wire_count, new_wires, present, Piece, nothing, ◌▸◌, after}
use Rattle.net_grounds.specs.Facts.{Facts}
use Rattle.net_means.specs.NetFits.Laws.{ground_over}
use Rattle.net_means.specs.NetFits.Widths.{AreWide, StandFrom}
use Rattle.net_means.proofs.NetFits.CallShapes.{all_first, all_rest}
use Rattle.net_means.proofs.NetFits.Outputs.{result_alone, results_same, no_function}
use Rattle.net_means.proofs.NetFits.Scopes.{Fits, fits_more}
use Rattle.net_means.proofs.NetFits.Wide.{stand_parts, wide_from}
use Rattle.net_means.proofs.NetWidths.CaseCells.{part_of, each_part}
use Rattle.net_means.proofs.NetWidths.CircuitForms.{LiftedFit, CircuitsFit, side_fits}
use Rattle.net_means.proofs.NetWidths.CircuitSides.{SideKept, circuit_kept}
use Rattle.net_means.proofs.NetWidths.Kept.{none_kept, then_kept}
use Rattle.net_means.proofs.NetWidths.MemoryCells.{then_few}
use Rattle.net_means.proofs.NetWidths.PortsWide.{PortsWide, wide_and, wide_onto, bound_wide, port_wide}
use Rattle.net_means.proofs.NetWidths.Small.{IsPart, Small, none_small, then_small, parts_small}

pub each_of : Facts → {datas : List Data} {sort : Sort} {t : TypeTree} {ws : List ℕ} → HasParts datas sort t ws → AllByRecursion IsPart ws
each_of facts (value_part h) = (part_of facts h, tt)
each_of facts {datas} {ws = ws} (port_parts l h) = each_part facts datas _ ws h

then_side : (earlier : List Module) (all : List ℕ) (at : ℕ) (p q : Piece) → StandFrom all at (p ▸ q).widths → (StandFrom all at p.widths → SideKept earlier all p) → (StandFrom all (after at p) q.widths → SideKept earlier all q) → SideKept earlier all (p ▸ q)
then_side earlier all at p q stand h k =
    let parts = stand_parts all at p.widths q.widths stand in
    let a = h parts.0 in
    let b = k parts.1 in
    record { kept = then_kept earlier all at p q stand (λ s. a.kept) (λ s. b.kept); few = then_few p q a.few b.few }

none_side : (earlier : List Module) (all : List ℕ) → SideKept earlier all nothing
none_side earlier all = record { kept = none_kept earlier all; few = record { cells = tt } }

-- the scope inside a lambda
lambda_wide : (datas : List Data) (all : List ℕ) (t : TypeTree) (n : ℕ) (widths : List ℕ) (scope : List Variable) → HasParts datas Circuit t widths → StandFrom all n (present widths) → PortsWide datas all scope → PortsWide datas all (variable t (new_wires n widths) ∷ scope)
lambda_wide datas all t n widths scope parts stand wide = wide_and datas all (variable t (new_wires n widths)) scope (record { parts = widths; have = parts; wide = wide_from all n (present widths) stand }) wide

-- where the inputs of a lambda stand, and what comes behind them
lambda_stands : (all : List ℕ) (n : ℕ) (widths ins more : List ℕ) → StandFrom all n ((present widths ++ ins) ++ more) → StandFrom all n (present widths) × StandFrom all (n + wire_count widths) (ins ++ more)
lambda_stands all n widths ins more stand = stand_parts all n (present widths) (ins ++ more) (subst (StandFrom all n) (append_assoc (present widths) ins more) stand)

module _ (facts : Facts) (keep : FieldsKeepSame) (law : SameKeepsMeasure) (values : SameValues) (con_args : ConAtArguments) (saturated : ConIsSaturated) (o : Origins) (order : List ℕ) (sound : IsSound (setting_at o)) (earlier : List Module) (all : List ℕ) (P : ℕ → Type 0) (lifted_calls : LiftedFit o order earlier all P) (circuit_calls : CircuitsFit o order earlier all P) where
  group_kept : {scope : List Variable} {vars : List TypeTree} {n : ℕ} {g : Group} {p : Piece} {b : List Variable} {k : Kind} → GroupBuilt (ground_over (setting_at o) order) Circuit scope n g p b → AreCircuitSides o g → AllByRecursion P (made_in_group g) → AreBound (setting_at o) [] vars k g → Fits vars scope → PortsWide o.program.datas all scope → AreTermTypes (setting_at o) [] vars
      → StandFrom all n p.widths → SideKept earlier all p
  group_kept group_none no_circuit_sides inside none_bound fit wide scoped stand = none_side earlier all
  group_kept {scope} {vars} {n} (group_and {t = t} {e = e} {g = g} {p = p} {q = q} (side_of_circuit {widths = widths} parts cells) more) (circuit_side_and port form forms) inside (bound_and {j = j} {u = u} kind functions typed same rest) fit wide scoped stand =
      then_side earlier all n p q stand
      (λ s. circuit_kept earlier all cells (side_fits facts keep law values con_args saturated o order sound earlier all P lifted_calls circuit_calls vars scope n widths t u j kind same parts fit wide scoped form (each_of facts parts) (all_first P (made_in e) (made_in_group g) inside) typed) s)
      (λ s. group_kept more forms (all_rest P (made_in e) (made_in_group g) inside) rest fit wide scoped s)

  -- the cells of a body, and its inputs
  pub circuit_body_kept : {scope : List Variable} {vars names : List TypeTree} {n : ℕ} {e inner : TermTree} {ty u : TypeTree} {path inputs : List ℕ} {p : Piece} {outputs : List WireId} → BodyBuilt (ground_over (setting_at o) order) Circuit scope n e inputs p outputs → UnderLambdas vars e ty path names inner → IsCircuitBody o inner → AllByRecursion P (made_in e)
      → HasType (setting_at o) [] vars e u → Fits vars scope → PortsWide o.program.datas all scope → AreTermTypes (setting_at o) [] vars
      → StandFrom all n (inputs ++ p.widths) → SideKept earlier all p × Small inputs
  circuit_body_kept {scope} {n = n} {p = p} (body_lambda {t = t} {widths = widths} {inputs = ins} parts more) (under_one along under) form inside (h_lam {k = k} typed kind) fit wide scoped stand =
      let at = facts.kinds.function_parts kind in
      let input = facts.kinds.term_type (setting_at o) [] t at.0 at.1 (facts.kinds.functions_of_terms at.0 k at.3).0 in
      let stands = lambda_stands all n widths ins p.widths stand in
      let rest = circuit_body_kept more under form inside typed (record { same = (facts.same.same_self t, fit.same) }) (lambda_wide o.program.datas all t n widths scope parts stands.0 wide) (input, scoped) stands.1 in
      (rest.0, then_small (present widths) ins (parts_small widths (each_of facts parts)) rest.1)
  circuit_body_kept (body_lambda parts more) (under_none asks) form inside typed fit wide scoped stand = elim form [ ]
  circuit_body_kept (body_block block) (under_one along under) form inside typed fit wide scoped stand = elim block [ ]
  circuit_body_kept (body_block block_variable) (under_none asks) form inside typed fit wide scoped stand = (none_side earlier all, none_small)
  circuit_body_kept {scope} {vars} {n = n} {p = p} (body_block (block_letrec {x = x} {g = g} b more)) (under_none asks) (circuit_letrec forms) inside (h_letrec typed of_kind bound) fit wide scoped stand =
      let fitting : Fits (with_more (declared g) vars) (reverse b ++ scope) = fits_more facts (declared g) vars b scope (subst (AreSame (declared g)) (sym (facts.built.bound_types more)) (facts.scopes.are_same_self (declared g))) fit in
      (group_kept more forms (all_first P (made_in_group g) [] inside) bound fitting (wide_onto o.program.datas all b scope (bound_wide all more stand) wide) (facts.scopes.typed_more (setting_at o) [] (declared g) vars (facts.scopes.bound_typed bound) scoped) stand, none_small)

module _ (facts : Facts) (keep : FieldsKeepSame) (law : SameKeepsMeasure) (o : Origins) (order : List ℕ) (sound : IsSound (setting_at o)) (all : List ℕ) where
  -- the wires of a circuit's block are as wide as the parts of its type
  circuit_block : {scope : List Variable} {vars : List TypeTree} {n : ℕ} {e : TermTree} {p : Piece} {r : List WireId} {u : TypeTree} → BlockBuilt (ground_over (setting_at o) order) Circuit scope n e p r → HasType (setting_at o) [] vars e u → Fits vars scope → PortsWide o.program.datas all scope → StandFrom all n p.widths
      → (t : TypeTree) (k : Kind) (ws : List ℕ) → HasKind (setting_at o) [] t k → SameTypes t u → HasParts o.program.datas Circuit t ws → AreWide all r (present ws)
  circuit_block {scope = scope} {vars = vars} {u = u} (block_variable {x = x}) typed fit wide stand t k ws kind same has =
      port_wide facts keep law (setting_at o) sound all vars scope x t u k ws fit wide typed kind same has
  circuit_block {scope = scope} {vars = vars} {u = u} (block_letrec {x = x} {g = g} b more) (h_letrec typed of_kind bound) fit wide stand t k ws kind same has =
      let inside : Fits (with_more (declared g) vars) (reverse b ++ scope) = fits_more facts (declared g) vars b scope (subst (AreSame (declared g)) (sym (facts.built.bound_types more)) (facts.scopes.are_same_self (declared g))) fit in
      port_wide facts keep law (setting_at o) sound all (with_more (declared g) vars) (reverse b ++ scope) x t u k ws inside (wide_onto o.program.datas all b scope (bound_wide all more stand) wide) typed kind same has

  -- the outputs of a circuit are as wide as the parts of what it gives
  pub circuit_outputs_wide : {scope : List Variable} {vars names : List TypeTree} {n : ℕ} {e inner : TermTree} {t u : TypeTree} {path inputs : List ℕ} {p : Piece} {outputs : List WireId} {k : Kind} → BodyBuilt (ground_over (setting_at o) order) Circuit scope n e inputs p outputs → UnderLambdas vars e t path names inner → HasType (setting_at o) [] vars e u → HasKind (setting_at o) [] t k → SameTypes t u → Fits vars scope → PortsWide o.program.datas all scope
      → StandFrom all n (inputs ++ p.widths) → (ws : List ℕ) → HasParts o.program.datas Circuit (result_of t) ws → AreWide all outputs (present ws)
  circuit_outputs_wide {scope = scope} {n = n} {p = p} (body_lambda {t = a} {widths = widths} {inputs = ins} parts more) (under_one along under) (h_lam typed kind') kind same fit wide stand ws result =
      let at = facts.kinds.function_parts kind in
      let stands = lambda_stands all n widths ins p.widths stand in
      circuit_outputs_wide more under typed at.2 (results_same facts same) (record { same = (facts.same.same_self a, fit.same) }) (lambda_wide o.program.datas all a n widths scope parts stands.0 wide) stands.1 ws result
  circuit_outputs_wide (body_lambda parts more) (under_none asks) (h_lam typed kind') kind same fit wide stand ws result = absurd (no_function facts same asks)
  circuit_outputs_wide (body_block block) (under_one along under) typed kind same fit wide stand ws result = elim block [ ]
  circuit_outputs_wide {t = t} {k = k} (body_block block) (under_none asks) typed kind same fit wide stand ws result =
      circuit_block block typed fit wide stand t k ws kind same (subst (λ t. HasParts o.program.datas Circuit t ws) (result_alone t asks) result)
