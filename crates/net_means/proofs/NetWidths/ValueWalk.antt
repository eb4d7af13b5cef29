-- The cells of typed values in normal form.
use Rattle.std.proofs.Common.{◌≡◌, ℕ, ◌-◌, ◌≤◌, true, arith, List, [], ◌∷◌, ◌++◌, length, reverse, refl, sym, subst, append_assoc}
use Rattle.std.specs.List.{AllByRecursion}
use Rattle.chw_base.specs.declared.index.WireId.{WireId}
use Rattle.chw_types.specs.declared.kind.Kind.{Kind}
use Rattle.chw_types.specs.SamePromises.{SameValues}
use Rattle.chw_types.specs.SameTypes.{SameTypes}
use Rattle.chw_types.specs.TypeTree.{TypeTree}
use Rattle.chw_terms.specs.declared.scene.Sort.TheVariants.{Value}
use Rattle.chw_terms.specs.declared.term.Pattern.{Pattern}
use Rattle.chw_terms.specs.TermTree.{TermTree, Group, Alts, size_of}
use Rattle.chw_typing.specs.HeadTypes.{PatternOf}
use Rattle.chw_typing.specs.Programs.{IsSound}
use Rattle.chw_typing.specs.Scopes.{Setting, HasKind, AreTermTypes, with_more, declared}
use Rattle.chw_typing.specs.Typing.{HasType, h_lam, h_letrec, AreBound, none_bound, bound_and, AllGive, none_give, give_and}
use Rattle.graph_order.specs.References.{HasNoCycle}
use Rattle.layout_laws.specs.SameLayout.{SameKeepsMeasure}
use Rattle.chw_layout.specs.Measured.{HasWidth}
use Rattle.chw_typing.specs.SpineLaws.{ConAtArguments, ConIsSaturated}
use Rattle.rewriting.specs.Named.{UnderLambdas, under_none, under_one}
use Rattle.rewriting.specs.Origins.{Origins, setting_at}
use Rattle.normal_forms.specs.Values.{IsBlock, block_letrec as is_letrec, AreSides, no_sides, side_and, IsSide, AreBlocks, no_blocks, block_and}
use Rattle.netlist.specs.declared.net.Module.{Module}
use Rattle.net_built.specs.Bodies.{BlockBuilt, block_variable, block_letrec, GroupBuilt, group_none, group_and, SideBuilt, side_of_value, side_of_case, AltsBuilt, alts_none, alts_and, BodyBuilt, body_lambda, body_block}
use Rattle.net_built.specs.Data.{HaveWidths, value_part, Tested, variables_from, chosen, tests, test_wires, words_of}
use Rattle.net_built.specs.Loops.{refers, HasNoLoops, HaveNoLoops, HasNoLoopsIn}
use Rattle.net_built.specs.Modules.{made_in, made_in_group, made_in_alts}
use Rattle.net_built.specs.Terms.{Variable}
use Rattle.net_built.specs.Wires.{new_wires, present, Piece, ◌▸◌, after}
use Rattle.net_grounds.specs.Facts.{Facts}
use Rattle.net_means.specs.NetFits.Laws.{ground_over}
use Rattle.net_means.specs.NetFits.Widths.{AreWide, StandFrom, WideAt}
use Rattle.net_means.proofs.NetFits.CallShapes.{case_side, all_first, all_rest}
use Rattle.net_means.proofs.NetFits.Choosing.{EachLong}
use Rattle.net_means.proofs.NetFits.Scopes.{Fits, found, var_at}
use Rattle.net_means.proofs.NetFits.ValueDrivers.{bound_count, case_typed, same_found, alternative, inside_group}
use Rattle.net_means.proofs.NetFits.ValueWidths.{EachWide, one_wide, onto_wide, fields_wide, bindings_wide, block_wide, group_wide}
use Rattle.net_means.proofs.NetFits.Wide.{stand_parts, wide_from}
use Rattle.net_means.proofs.NetFits.WordWidths.{total_of}
use Rattle.net_means.proofs.NetWidths.CaseCells.{part_of, each_part, case_hidden, TestedFits, tested_fits, case_agrees, case_small, words_long, fields_room, cuts_agree}
use Rattle.net_means.proofs.NetWidths.Kept.{Kept, none_kept, then_kept}
use Rattle.net_means.proofs.NetWidths.Small.{Small, none_small, then_small, one_small, cuts_small}
use Rattle.net_means.proofs.NetWidths.ValueSides.{ValuesFit, side_kept}

-- the alternatives of a case: their cells, and the widths of their results
record AltsKept (earlier : List Module) (all : List ℕ) (w : ℕ) (p : Piece) (results : List (List WireId)) : Type 0 where
  pub kept : Kept earlier all p
  pub each : EachWide all w results

module _ (facts : Facts) (law : SameKeepsMeasure) (values : SameValues) (con_args : ConAtArguments) (saturated : ConIsSaturated) (o : Origins) (order : List ℕ) (sound : IsSound (setting_at o)) (earlier : List Module) (all : List ℕ) (P : ℕ → Type 0) (calls : ValuesFit o order earlier all P) where
  -- the variables in a letrec's scope have wires as wide as their types
  letrec_wide : (scope : List Variable) (vars : List TypeTree) {shown : List TypeTree} {n : ℕ} {g : Group} {p : Piece} {k : Kind} (b : List Variable) → GroupBuilt (ground_over (setting_at o) order) Value (reverse b ++ scope) n g p b → AreSides o shown g → AreBound (setting_at o) [] (with_more (declared g) vars) k g → Fits (with_more (declared g) vars) (reverse b ++ scope) → AreTermTypes (setting_at o) [] (with_more (declared g) vars)
      → StandFrom all n p.widths → ((y : ℕ) → WideAt o.program.datas all scope y) → HasNoCycle (λ i j. refers g i j ≡ true) → HaveNoLoops g → (y : ℕ) → WideAt o.program.datas all (reverse b ++ scope) y
  letrec_wide scope vars {g = g} b more forms bound inside within stand wide none free y =
      let size : length b ≡ size_of g = bound_count more in
      let each = bindings_wide facts o.program.datas all g b scope size none (λ z h. wide z) (λ i l inner. group_wide facts law o (setting_at o) order all sound more forms bound inside within stand i l inner free) in
      onto_wide facts o.program.datas all b scope y (λ k h. each k (omega (arith, h, size))) (λ z h. wide z)

  mutual
    value_side : {scope : List Variable} {vars shown : List TypeTree} {n : ℕ} {t u : TypeTree} {e : TermTree} {p : Piece} {r : List WireId} {j : Kind} → SideBuilt (ground_over (setting_at o) order) Value scope n t e p r → IsSide o shown e → AllByRecursion P (made_in e)
        → HasKind (setting_at o) [] t j → HasType (setting_at o) [] vars e u → SameTypes t u → Fits vars scope → AreTermTypes (setting_at o) [] vars → StandFrom all n p.widths → ((y : ℕ) → WideAt o.program.datas all scope y) → HasNoLoops e → Kept earlier all p
    value_side {scope} {vars} {n = n} {t = t} {u = u} {j = j} (side_of_value {w = w} a cells) form inside kind typed same fit scoped stand wide free =
        side_kept facts law values con_args saturated o order sound earlier all P calls vars scope fit wide scoped n w t u j kind same a form cells inside typed stand
    value_side {scope} {vars} {n = n} {t} {j = j} (side_of_case {x = x} {whole = whole} {w = v} {alts = alts} {it = it} {p = p} {results = rs} on i h a is built) form inside kind typed same fit scoped stand wide free =
        let c = case_typed facts typed in
        let of = same_found (found facts vars scope x c.of fit (var_at c.typed)) i in
        let words = words_of on.bits on.first alts in
        let m : ℕ = after (after n on.cells) p in
        let q : Piece = tests on.bits on.wires words m in
        let d : Piece = chosen v (test_wires on.bits on.wires words m) rs (after m q) in
        let first = stand_parts all n on.cells.widths (p ▸ q ▸ d).widths stand in
        let second = stand_parts all (after n on.cells) p.widths (q ▸ d).widths first.1 in
        let held = wide x it i in
        let wires : AreWide all it.wires (present (whole ∷ [])) = subst (λ w. AreWide all it.wires (present (w ∷ []))) (facts.widths.width_once held.has h) held.wide in
        let looked : TestedFits facts earlier all on whole =
        subst (λ (on : Tested). StandFrom all n on.cells.widths → TestedFits facts earlier all on whole) (sym is) (λ s. tested_fits facts earlier all o.program.datas it.ty whole n it.wires h wires s) first.0 in
        let long : EachLong on.bits (words_of on.bits on.first alts) =
        subst (λ (on : Tested). EachLong on.bits (words_of on.bits on.first alts)) (sym is) (words_long facts values whole n it.wires built (case_hidden typed) h) in
        let fields : (q : Pattern) (fs : List TypeTree) (ws : List ℕ) → PatternOf o.program.datas it.ty q fs → HaveWidths o.program.datas fs ws → total_of ws ≤ whole - on.bits =
        λ q fs ws formed have. subst (λ (on : Tested). total_of ws ≤ whole - on.bits) (sym is) (fields_room facts whole n it.wires ws formed h have) in
        let room = looked.less in
        let most = part_of facts h in
        let below : whole - on.bits ≤ whole = omega arith in
        let blocks = alts_kept whole built wires below fields (case_side form x alts refl).blocks inside c.give c.has of fit scoped second.0 wide free t j v kind same a in
        record {
          agree = case_agrees facts earlier all on v n built c.some long looked.wires looked.agree blocks.kept.agree blocks.each stand;
          small = case_small on alts v n p rs (omega (arith, room, most)) (part_of facts a) looked.small blocks.kept.small;
        }

    alts_kept : (whole : ℕ) {scope : List Variable} {vars shown : List TypeTree} {it : Variable} {below n : ℕ} {alts : Alts} {p : Piece} {results : List (List WireId)} {u v uu : TypeTree} {j : Kind} → AltsBuilt (ground_over (setting_at o) order) scope it below n alts p results → AreWide all it.wires (present (whole ∷ [])) → below ≤ whole
        → ((q : Pattern) (fs : List TypeTree) (ws : List ℕ) → PatternOf o.program.datas it.ty q fs → HaveWidths o.program.datas fs ws → total_of ws ≤ below)
        → AreBlocks o shown uu alts → AllByRecursion P (made_in_alts alts) → AllGive (setting_at o) [] vars u v alts → HasKind (setting_at o) [] u j → SameTypes u it.ty → Fits vars scope → AreTermTypes (setting_at o) [] vars → StandFrom all n p.widths
        → ((y : ℕ) → WideAt o.program.datas all scope y) → HasNoLoopsIn alts → (t : TypeTree) (k : Kind) (w : ℕ) → HasKind (setting_at o) [] t k → SameTypes t v → HasWidth o.program.datas t w → AltsKept earlier all w p results
    alts_kept whole alts_none wires less room no_blocks inside none_give of_kind of fit scoped stand wide free t k w kind same has = record { kept = none_kept earlier all; each = tt }
    alts_kept whole {scope} {vars} {it = it} {below} {n} {u = u} {j = j} (alts_and {q = q} {e = e} {more = rest_of} {fields = fs} {p = p} {r = r} {s = z} ws formed have is block more) wires less room (block_and formed' form forms) inside (give_and {bound = bnd} b typed along others) of_kind of fit scoped stand wide free t k w kind same has =
        let s : Setting = setting_at o in
        let front : List Variable = variables_from n fs ws in
        let a = alternative facts s vars bnd fs scope q u it.ty j n ws sound fit of_kind of b formed have in
        let first = stand_parts all n p.widths (r ▸ z).widths stand in
        let second = stand_parts all (after n p) r.widths z.widths first.1 in
        let fields : (x : ℕ) → WideAt o.program.datas all front x = fields_wide facts o.program.datas all fs ws below n it.wires have (subst (λ (p : Piece). StandFrom all n p.widths) is first.0) in
        let within : (y : ℕ) → WideAt o.program.datas all (reverse front ++ scope) y = λ y. onto_wide facts o.program.datas all front scope y (λ k h. fields k) (λ z h. wide z) in
        let cuts : Kept earlier all p =
        subst (λ (p : Piece). StandFrom all n p.widths → Kept earlier all p) (sym is)
        (λ s. record { agree = cuts_agree facts earlier all ws below whole n it.wires wires (room q fs ws formed have) less s; small = cuts_small ws below n it.wires (each_part facts o.program.datas fs ws have) }) first.0 in
        let typing = facts.scopes.typed_more s [] bnd vars b.typed scoped in
        let inner = block_kept block form (all_first P (made_in e) (made_in_alts rest_of) inside) typed a.fit typing second.0 within free.0 in
        let outer = alts_kept whole more wires less room forms (all_rest P (made_in e) (made_in_alts rest_of) inside) others of_kind of fit scoped second.1 wide free.1 t k w kind same has in
        record {
          kept = then_kept earlier all n p (r ▸ z) stand (λ s. cuts) (λ s. then_kept earlier all (after n p) r z s (λ s. inner) (λ s. outer.kept));
          each = (block_wide facts law o s order all sound block form typed a.fit typing second.0 (λ y o. within y) free.0 t k w kind (facts.same.same_through same along) has, outer.each);
        }

    block_kept : {scope : List Variable} {vars shown : List TypeTree} {n : ℕ} {e : TermTree} {p : Piece} {r : List WireId} {u : TypeTree} → BlockBuilt (ground_over (setting_at o) order) Value scope n e p r → IsBlock o shown e → AllByRecursion P (made_in e) → HasType (setting_at o) [] vars e u → Fits vars scope → AreTermTypes (setting_at o) [] vars → StandFrom all n p.widths
        → ((y : ℕ) → WideAt o.program.datas all scope y) → HasNoLoops e → Kept earlier all p
    block_kept block_variable form inside typed fit scoped stand wide free = none_kept earlier all
    block_kept {scope} {vars} (block_letrec {x = x} {g = g} b more) (is_letrec forms none) inside (h_letrec typed of_kind bound) fit scoped stand wide free =
        let fitting = inside_group facts (setting_at o) order vars b scope more fit in
        let within : AreTermTypes (setting_at o) [] (with_more (declared g) vars) = facts.scopes.typed_more (setting_at o) [] (declared g) vars (facts.scopes.bound_typed bound) scoped in
        group_kept more forms (all_first P (made_in_group g) [] inside) bound fitting within stand (letrec_wide scope vars b more forms bound fitting within stand wide free.0 free.1) free.1

    group_kept : {scope : List Variable} {vars shown : List TypeTree} {n : ℕ} {g : Group} {p : Piece} {b : List Variable} {k : Kind} → GroupBuilt (ground_over (setting_at o) order) Value scope n g p b → AreSides o shown g → AllByRecursion P (made_in_group g) → AreBound (setting_at o) [] vars k g → Fits vars scope → AreTermTypes (setting_at o) [] vars → StandFrom all n p.widths
        → ((y : ℕ) → WideAt o.program.datas all scope y) → HaveNoLoops g → Kept earlier all p
    group_kept group_none no_sides inside none_bound fit scoped stand wide free = none_kept earlier all
    group_kept {n = n} (group_and {e = e} {g = g} {p = p} {q = q} side more) (side_and wire form forms) inside (bound_and kind functions typed same rest) fit scoped stand wide free =
        then_kept earlier all n p q stand (λ s. value_side side form (all_first P (made_in e) (made_in_group g) inside) kind typed same fit scoped s wide free.0)
        (λ s. group_kept more forms (all_rest P (made_in e) (made_in_group g) inside) rest fit scoped s wide free.1)

  -- the cells of a body, and its inputs
  pub value_body_kept : {scope : List Variable} {vars names : List TypeTree} {n : ℕ} {e inner : TermTree} {ty u : TypeTree} {path inputs : List ℕ} {p : Piece} {outputs : List WireId} → BodyBuilt (ground_over (setting_at o) order) Value scope n e inputs p outputs → UnderLambdas vars e ty path names inner → IsBlock o names inner → AllByRecursion P (made_in e)
      → HasType (setting_at o) [] vars e u → Fits vars scope → AreTermTypes (setting_at o) [] vars → StandFrom all n (inputs ++ p.widths) → ((y : ℕ) → WideAt o.program.datas all scope y) → HasNoLoops e → Kept earlier all p × Small inputs
  value_body_kept {scope} {n = n} {p = p} (body_lambda {t = t} {inputs = ins} (value_part {w = w} has) more) (under_one along under) form inside (h_lam {b = b} {k = k} typed kind) fit scoped stand wide free =
      let is : StandFrom all n (present (w ∷ []) ++ (ins ++ p.widths)) = subst (StandFrom all n) (append_assoc (present (w ∷ [])) ins p.widths) stand in
      let parts = stand_parts all n (present (w ∷ [])) (ins ++ p.widths) is in
      let rest = value_body_kept more under form inside typed (record { same = (facts.same.same_self t, fit.same) }) (facts.kinds.function_takes (setting_at o) [] t b k kind, scoped) parts.1
      (one_wide facts o.program.datas all t (new_wires n (w ∷ [])) scope (record { width = w; has = has; wide = wide_from all n (present (w ∷ [])) parts.0 }) wide) free in
      (rest.0, then_small (present (w ∷ [])) ins (one_small w (part_of facts has)) rest.1)
  value_body_kept (body_lambda parts more) (under_none asks) form inside typed fit scoped stand wide free = elim form [ ]
  value_body_kept (body_block block) (under_one along under) form inside typed fit scoped stand wide free = elim block [ ]
  value_body_kept (body_block block) (under_none asks) form inside typed fit scoped stand wide free = (block_kept block form inside typed fit scoped stand wide free, none_small)
