-- The outputs of bodies are as many as the wires of the parts of the result.
use Rattle.std.proofs.Common.{◌≡◌, ℕ, List, [], ◌∷◌, ◌++◌, length, reverse, refl, sym, ap, ◌∙◌, subst}
use Rattle.chw_base.specs.declared.index.WireId.{WireId}
use Rattle.chw_types.specs.declared.declarations.Data.{Data}
use Rattle.chw_types.specs.declared.kind.Kind.{Kind}
use Rattle.chw_types.specs.SameTypes.{SameTypes}
use Rattle.chw_types.specs.TypeTree.{TypeTree, fun, for_all}
use Rattle.type_laws.specs.SameKept.{FieldsKeepSame}
use Rattle.chw_terms.specs.declared.scene.Sort.{Sort}
use Rattle.chw_terms.specs.declared.scene.Sort.TheVariants.{Value, Circuit}
use Rattle.chw_terms.specs.TermTree.{TermTree}
use Rattle.chw_typing.specs.Programs.{IsSound}
use Rattle.chw_typing.specs.Scopes.{Setting, HasKind, AreSame, with_more, declared}
use Rattle.chw_typing.specs.Typing.{HasType, h_lam, h_letrec}
use Rattle.chw_layout.specs.Measured.{HasWidth}
use Rattle.layout_laws.specs.SameLayout.{SameKeepsMeasure}
use Rattle.rewriting.specs.Named.{UnderLambdas, under_none, under_one}
use Rattle.chw_typing.specs.Given.{AsksForNone}
use Rattle.net_built.specs.Bodies.{BlockBuilt, block_variable, block_letrec, BodyBuilt, body_lambda, body_block}
use Rattle.net_built.specs.Data.{HasParts, value_part}
use Rattle.net_built.specs.Loops.{HasNoLoops}
use Rattle.net_built.specs.Terms.{result_of, Variable}
use Rattle.net_built.specs.Wires.{wire_count, Piece}
use Rattle.net_grounds.specs.Facts.{Facts}
use Rattle.net_means.specs.NetFits.Laws.{ground_over}
use Rattle.net_means.proofs.NetFits.CircuitBodies.{held_and, held_onto, none_held, bound_held}
use Rattle.net_means.proofs.NetFits.CircuitDrivers.{PortsHeld, port_count}
use Rattle.net_means.proofs.NetFits.Pieces.{count_from}
use Rattle.net_means.proofs.NetFits.Scopes.{SizedAt, Fits, none_sized, one_sized, fits_more}
use Rattle.net_means.proofs.NetFits.ValueDrivers.{block_sized}

pub result_alone : (t : TypeTree) → AsksForNone t → result_of t ≡ t
result_alone (fun a b) h = absurd h
result_alone (for_all k t) h = absurd h
result_alone _ h = refl

pub results_same : Facts → {a b c d : TypeTree} → SameTypes (fun a b) (fun c d) → SameTypes b d
results_same facts {b = b} {d = d} h = let at = facts.same.as_function h in let is : at.1 ≡ d = cc in subst (SameTypes b) is at.4

pub no_function : Facts → {t a b : TypeTree} → SameTypes t (fun a b) → AsksForNone t → ⊥
no_function facts same asks = let at = facts.same.as_function (facts.same.same_turned same) in subst AsksForNone at.2 asks

-- the wires of a circuit's block are those of the parts of its type
circuit_block : Facts → FieldsKeepSame → SameKeepsMeasure → {s : Setting} {order : List ℕ} {scope : List Variable} {vars : List TypeTree} {n : ℕ} {e : TermTree} {p : Piece} {r : List WireId} {u : TypeTree} → IsSound s → BlockBuilt (ground_over s order) Circuit scope n e p r → HasType s [] vars e u → Fits vars scope → PortsHeld s scope → (t : TypeTree) (k : Kind) (ws : List ℕ) → HasKind s [] t k → SameTypes t u → HasParts s.datas Circuit t ws
    → length r ≡ wire_count ws
circuit_block facts keep law {s} {scope = scope} {vars = vars} {u = u} sound (block_variable {x = x}) typed fit held t k ws kind same has =
    port_count facts keep law s sound vars scope x t u k ws fit held typed kind same has
circuit_block facts keep law {s} {scope = scope} {vars = vars} {u = u} sound (block_letrec {x = x} {g = g} b more) (h_letrec typed of_kind bound) fit held t k ws kind same has =
    let inside : Fits (with_more (declared g) vars) (reverse b ++ scope) = fits_more facts (declared g) vars b scope (subst (AreSame (declared g)) (sym (facts.built.bound_types more)) (facts.scopes.are_same_self (declared g))) fit in
    port_count facts keep law s sound (with_more (declared g) vars) (reverse b ++ scope) x t u k ws inside (held_onto s b scope (bound_held more) held) typed kind same has

value_outputs : Facts → SameKeepsMeasure → {s : Setting} {order : List ℕ} {scope : List Variable} {vars names : List TypeTree} {n : ℕ} {e inner : TermTree} {t u : TypeTree} {path inputs : List ℕ} {p : Piece} {outputs : List WireId} {k : Kind} → IsSound s → BodyBuilt (ground_over s order) Value scope n e inputs p outputs → UnderLambdas vars e t path names inner → HasType s [] vars e u → HasKind s [] t k → SameTypes t u → Fits vars scope → ((x : ℕ) → SizedAt s scope x) → HasNoLoops e
    → (w : ℕ) → HasWidth s.datas (result_of t) w → length outputs ≡ wire_count (w ∷ [])
value_outputs facts law {s} {scope = scope} {n = n} sound (body_lambda {t = a} (value_part {w = w} has) more) (under_one along under) (h_lam typed kind') kind same fit sized free v result =
    let at = facts.kinds.function_parts kind in
    value_outputs facts law sound more under typed at.2 (results_same facts same) (record { same = (facts.same.same_self a, fit.same) }) (one_sized facts s a n w scope has sized) free v result
value_outputs facts law sound (body_lambda parts more) (under_none asks) (h_lam typed kind') kind same fit sized free v result = absurd (no_function facts same asks)
value_outputs facts law sound (body_block block) (under_one along under) typed kind same fit sized free v result = elim block [ ]
value_outputs facts law {s} {order} {t = t} {k = k} sound (body_block block) (under_none asks) typed kind same fit sized free v result =
    block_sized facts law s order sound block typed fit (λ y o. sized y) free t k v kind same (subst (λ t. HasWidth s.datas t v) (result_alone t asks) result)

circuit_outputs : Facts → FieldsKeepSame → SameKeepsMeasure → {s : Setting} {order : List ℕ} {scope : List Variable} {vars names : List TypeTree} {n : ℕ} {e inner : TermTree} {t u : TypeTree} {path inputs : List ℕ} {p : Piece} {outputs : List WireId} {k : Kind} → IsSound s → BodyBuilt (ground_over s order) Circuit scope n e inputs p outputs → UnderLambdas vars e t path names inner → HasType s [] vars e u → HasKind s [] t k → SameTypes t u → Fits vars scope → PortsHeld s scope
    → (ws : List ℕ) → HasParts s.datas Circuit (result_of t) ws → length outputs ≡ wire_count ws
circuit_outputs facts keep law {s} {scope = scope} {n = n} sound (body_lambda {t = a} {widths = widths} parts more) (under_one along under) (h_lam typed kind') kind same fit held ws result =
    let at = facts.kinds.function_parts kind in
    circuit_outputs facts keep law sound more under typed at.2 (results_same facts same) (record { same = (facts.same.same_self a, fit.same) }) (held_and s _ scope (record { parts = widths; have = parts; count = count_from n (wire_count widths) }) held) ws result
circuit_outputs facts keep law sound (body_lambda parts more) (under_none asks) (h_lam typed kind') kind same fit held ws result = absurd (no_function facts same asks)
circuit_outputs facts keep law sound (body_block block) (under_one along under) typed kind same fit held ws result = elim block [ ]
circuit_outputs facts keep law {s} {t = t} {k = k} sound (body_block block) (under_none asks) typed kind same fit held ws result =
    circuit_block facts keep law sound block typed fit held t k ws kind same (subst (λ t. HasParts s.datas Circuit t ws) (result_alone t asks) result)

pub value_width : {datas : List Data} {t : TypeTree} {ws : List ℕ} → HasParts datas Value t ws → (w : ℕ) × HasWidth datas t w × (ws ≡ w ∷ [])
value_width (value_part {w = w} has) = (w, has, refl)

-- the outputs of a typed body, of either sort, are as many as the wires of the parts of its result
pub outputs_counted : Facts → FieldsKeepSame → SameKeepsMeasure → (s : Setting) (order : List ℕ) (sort : Sort) (e inner : TermTree) (t u : TypeTree) (k : Kind) (path : List ℕ) (names : List TypeTree) (inputs : List ℕ) (p : Piece) (outputs : List WireId) (ws : List ℕ) → IsSound s → BodyBuilt (ground_over s order) sort [] 0 e inputs p outputs → UnderLambdas [] e t path names inner → HasType s [] [] e u → HasKind s [] t k → SameTypes t u → (sort ≡ Value → HasNoLoops e)
    → HasParts s.datas sort (result_of t) ws → length outputs ≡ wire_count ws
outputs_counted facts keep law s order Value e inner t u k path names inputs p outputs ws sound built under typed kind same free result =
    let w = value_width result in
    value_outputs facts law sound built under typed kind same (record { same = tt }) (none_sized s) (free refl) w.0 w.1 ∙ ap (λ ws. wire_count ws) (sym w.2)
outputs_counted facts keep law s order Circuit e inner t u k path names inputs p outputs ws sound built under typed kind same free result =
    circuit_outputs facts keep law sound built under typed kind same (record { same = tt }) (none_held s) ws result
