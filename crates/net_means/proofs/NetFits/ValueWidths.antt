-- The wires of typed values are as wide as their types. Which wires a binding has is told by
-- induction along the references of bindings, which lead back to none.
use Rattle.std.proofs.Common.{◌≡◌, ℕ, zero, suc, ◌+◌, ◌-◌, ◌<◌, ◌==◌, true, arith, List, [], ◌∷◌, ◌++◌, length, reverse, refl, sym, ap, ◌∙◌, subst, eq-eqb, append_assoc}
use Rattle.std.specs.List.{AllByRecursion}
use Rattle.std.proofs.lemmas.Bool.{or_left, or_right}
use Rattle.chw_base.specs.declared.index.WireId.{WireId}
use Rattle.chw_types.specs.declared.declarations.Data.{Data}
use Rattle.chw_types.specs.declared.kind.Kind.{Kind}
use Rattle.chw_types.specs.SameTypes.{SameTypes}
use Rattle.chw_types.specs.TypeTree.{TypeTree}
use Rattle.chw_terms.specs.declared.scene.Sort.TheVariants.{Value}
use Rattle.chw_terms.specs.Occurs.{occurs, occurs_group, occurs_alts}
use Rattle.chw_terms.specs.TermTree.{TermTree, var, Group, Alts, binders, size_of}
use Rattle.chw_typing.specs.Programs.{IsSound}
use Rattle.chw_typing.specs.Scopes.{Setting, HasKind, AreTermTypes, with_more, declared}
use Rattle.chw_typing.specs.Typing.{HasType, h_lam, h_letrec, AreBound, none_bound, bound_and, AllGive, none_give, give_and}
use Rattle.graph_order.specs.References.{HasNoCycle}
use Rattle.chw_layout.specs.Measured.{HasWidth}
use Rattle.layout_laws.specs.SameLayout.{SameKeepsMeasure}
use Rattle.rewriting.specs.Named.{UnderLambdas, under_none, under_one}
use Rattle.rewriting.specs.Origins.{Origins}
use Rattle.normal_forms.specs.Values.{IsBlock, block_letrec as is_letrec, AreSides, no_sides, side_and, IsSide, AreBlocks, no_blocks, block_and}
use Rattle.net_built.specs.Bodies.{BlockBuilt, block_variable, block_letrec, GroupBuilt, group_none, group_and, SideBuilt, side_of_value, side_of_case, AltsBuilt, alts_none, alts_and, BodyBuilt, body_lambda, body_block}
use Rattle.net_built.specs.Circuits.{Ground}
use Rattle.net_built.specs.Data.{HaveWidths, value_part, variables_from, field_cuts, chosen, chosen_wires, tests, test_wires, words_of}
use Rattle.net_built.specs.Loops.{side_at, refers, HasNoLoops, HaveNoLoops, HasNoLoopsIn}
use Rattle.net_built.specs.Terms.{result_of, Variable, variable, wires_at}
use Rattle.net_built.specs.Wires.{wire_count, new_wires, present, Piece, ◌▸◌, after}
use Rattle.net_grounds.specs.Facts.{Facts}
use Rattle.net_means.proofs.References.{along_references}
use Rattle.net_means.proofs.Lists.{turned_onto}
use Rattle.net_means.specs.NetFits.Laws.{ground_over}
use Rattle.net_means.specs.NetFits.Widths.{AreWide, StandFrom, IsWide, WideAt}
use Rattle.net_means.proofs.NetFits.CallShapes.{case_side}
use Rattle.net_means.proofs.NetFits.Outputs.{result_alone, results_same}
use Rattle.net_means.proofs.NetFits.Scopes.{Fits, found, var_at, width_kept, wires_there}
use Rattle.net_means.proofs.NetFits.ValueDrivers.{HasOne, bound_count, side_in_group, same_place, case_typed, same_found, alternative, inside_group}
use Rattle.net_means.proofs.NetFits.ValueEnds.{prim_gives, value_ends}
use Rattle.net_means.proofs.NetFits.Wide.{choice_wide, ends_wide, stand_parts, wide_from}

module _ (facts : Facts) (datas : List Data) (all : List ℕ) where
  pub none_wide : (x : ℕ) → WideAt datas all [] x
  none_wide x v e = absurd cc

  pub one_wide : (t : TypeTree) (wires : List WireId) (scope : List Variable) → IsWide datas all t wires → ((x : ℕ) → WideAt datas all scope x) → (x : ℕ) → WideAt datas all (variable t wires ∷ scope) x
  one_wide t wires scope h rest zero v e =
      let is : variable t wires ≡ v = cc in subst (λ (v : Variable). IsWide datas all v.ty v.wires) is h
  one_wide t wires scope h rest (suc x) v e = rest x v e

  -- several that come in turn before others
  next_wide : (v : Variable) (b scope : List Variable) (y : ℕ)
      → ((k : ℕ) → length (v ∷ b) ≡ suc k + y → WideAt datas all (v ∷ b) k)
      → ((z : ℕ) → y ≡ z + length (v ∷ b) → WideAt datas all scope z)
      → (z : ℕ) → y ≡ z + length b → WideAt datas all (v ∷ scope) z
  next_wide v b scope y inner outer zero h u e = inner 0 (omega (arith, h)) u e
  next_wide v b scope y inner outer (suc z) h u e = outer z (omega (arith, h)) u e

  pub onto_wide : (b scope : List Variable) (y : ℕ)
      → ((k : ℕ) → length b ≡ suc k + y → WideAt datas all b k)
      → ((z : ℕ) → y ≡ z + length b → WideAt datas all scope z)
      → WideAt datas all (reverse b ++ scope) y
  onto_wide [] scope y inner outer = outer y (omega arith)
  onto_wide (v ∷ b) scope y inner outer =
      subst (λ (l : List Variable). WideAt datas all l y) (sym (turned_onto v b scope))
      (onto_wide b (v ∷ scope) y (λ k h. inner (suc k) (omega (arith, h))) (next_wide v b scope y inner outer))

  -- the variables of fields
  pub fields_wide : (ts : List TypeTree) (ws : List ℕ) (below n : ℕ) (a : List WireId) → HaveWidths datas ts ws → StandFrom all n (field_cuts below a ws n).widths → (x : ℕ) → WideAt datas all (variables_from n ts ws) x
  fields_wide [] [] below n a h stand x = none_wide x
  fields_wide [] (w ∷ ws) below n a h stand x = absurd h
  fields_wide (t ∷ ts) [] below n a h stand x = absurd h
  fields_wide (t ∷ ts) (w ∷ ws) below n a h stand x =
      let parts = stand_parts all n (present (w ∷ [])) (field_cuts (below - w) a ws (n + wire_count (w ∷ []))).widths stand in
      one_wide t (new_wires n (w ∷ [])) (variables_from (n + wire_count (w ∷ [])) ts ws)
      (record { width = w; has = h.0; wide = wide_from all n (present (w ∷ [])) parts.0 })
      (fields_wide ts ws (below - w) (n + wire_count (w ∷ [])) a h.1 parts.1) x

  -- each binding, if those that occur in it are such
  pub bindings_wide : (g : Group) (b scope : List Variable) → length b ≡ size_of g → HasNoCycle (λ i j. refers g i j ≡ true)
      → ((z : ℕ) → occurs_group g (z + size_of g) ≡ true → WideAt datas all scope z)
      → ((i : ℕ) → i < size_of g → ((y : ℕ) → occurs (side_at g i) y ≡ true → WideAt datas all (reverse b ++ scope) y) → WideAt datas all b i)
      → (i : ℕ) → i < size_of g → WideAt datas all b i
  bindings_wide g b scope size none outer side =
      along_references facts (refers g) none (size_of g) (λ i. WideAt datas all b i)
      (λ i l before.
      side i l
      (λ y o. onto_wide b scope y (λ k h. before k (omega (arith, h, size)) (same_place g i k y (sym size ∙ h) o))
      (λ z h.
      let place : y ≡ z + size_of g = h ∙ ap (λ k. z + k) size in
      outer z (ap (λ y. occurs_group g y) (sym place) ∙ side_in_group g i y l o))))

-- a typed variable has wires as wide as a type that is the same up to naturals
pub variable_wide : Facts → SameKeepsMeasure → (s : Setting) (all : List ℕ) → IsSound s → (vars : List TypeTree) (scope : List Variable) (x : ℕ) (t u : TypeTree) (k : Kind) (w : ℕ) → Fits vars scope → WideAt s.datas all scope x → HasType s [] vars (var x) u → HasKind s [] t k → SameTypes t u → HasWidth s.datas t w
    → AreWide all (wires_at scope x) (present (w ∷ []))
variable_wide facts law s all sound vars scope x t u k w fit wide typed kind same has =
    let at = found facts vars scope x u fit (var_at typed) in
    let there = width_kept law s sound t at.it.ty k w kind (facts.same.same_through same at.same) has in
    let it = wide at.it at.is in
    let width : it.width ≡ w = facts.widths.width_once it.has there in
    subst (λ w. AreWide all (wires_at scope x) (present (w ∷ []))) width (subst (λ ws. AreWide all ws (present (it.width ∷ []))) (sym (wires_there scope x at.it at.is)) it.wide)

-- the results of alternatives have this width
abbrev pub EachWide : List ℕ → ℕ → List (List WireId) → Type 0
EachWide all w results = AllByRecursion (λ (r : List WireId). AreWide all r (present (w ∷ []))) results

alts_choice : {ground : Ground} {scope : List Variable} {it : Variable} {below n : ℕ} {alts : Alts} {p : Piece} {results : List (List WireId)} (all : List ℕ) (w : ℕ) (ts : List WireId) (at : ℕ) → AltsBuilt ground scope it below n alts p results → HasOne alts → EachWide all w results
    → StandFrom all at (chosen w ts results at).widths → AreWide all (chosen_wires w ts results at) (present (w ∷ []))
alts_choice all w ts at alts_none some each stand = absurd some
alts_choice all w ts at (alts_and {wires = r} {results = rs} ws formed have is block more) some each stand = choice_wide all w ts r rs at each stand

module _ (facts : Facts) (law : SameKeepsMeasure) (o : Origins) (s : Setting) (order all : List ℕ) (sound : IsSound s) where
  mutual
    unfolding occurs occurs_group occurs_alts

    side_wide : {scope : List Variable} {vars shown : List TypeTree} {n : ℕ} {t u : TypeTree} {e : TermTree} {p : Piece} {r : List WireId} {j : Kind} → SideBuilt (ground_over s order) Value scope n t e p r → IsSide o shown e → HasKind s [] t j → HasType s [] vars e u → SameTypes t u → Fits vars scope → AreTermTypes s [] vars → StandFrom all n p.widths
        → ((y : ℕ) → occurs e y ≡ true → WideAt s.datas all scope y) → HasNoLoops e → IsWide s.datas all t r
    side_wide {n = n} {p = p} (side_of_value {w = w} a cells) form kind typed same fit scoped stand wide free =
        record { width = w; has = a; wide = ends_wide all n w p stand (value_ends cells (prim_gives facts law s sound form scoped typed kind same a)) }
    side_wide {scope} {vars} {n = n} {t} {j = j} (side_of_case {x = x} {whole = whole} {w = v} {alts = alts} {it = it} {p = p} {results = rs} on i h a is built) form kind typed same fit scoped stand wide free =
        let c = case_typed facts typed in
        let of = same_found (found facts vars scope x c.of fit (var_at c.typed)) i in
        let words = words_of on.bits on.first alts in
        let m : ℕ = after (after n on.cells) p in
        let q : Piece = tests on.bits on.wires words m in
        let d : Piece = chosen v (test_wires on.bits on.wires words m) rs (after m q) in
        let first = stand_parts all n on.cells.widths (p ▸ q ▸ d).widths stand in
        let second = stand_parts all (after n on.cells) p.widths (q ▸ d).widths first.1 in
        let third = stand_parts all m q.widths d.widths second.1 in
        let each = alts_wide built (case_side form x alts refl).blocks c.give c.has of fit scoped second.0 (λ y o. wide y (or_right (x == y) (occurs_alts alts y) o)) free t j v kind same a in
        record { width = v; has = a; wide = alts_choice all v (test_wires on.bits on.wires words m) (after m q) built c.some each third.1 }

    alts_wide : {scope : List Variable} {vars shown : List TypeTree} {it : Variable} {below n : ℕ} {alts : Alts} {p : Piece} {results : List (List WireId)} {u v uu : TypeTree} {j : Kind} → AltsBuilt (ground_over s order) scope it below n alts p results → AreBlocks o shown uu alts → AllGive s [] vars u v alts → HasKind s [] u j → SameTypes u it.ty → Fits vars scope → AreTermTypes s [] vars → StandFrom all n p.widths
        → ((y : ℕ) → occurs_alts alts y ≡ true → WideAt s.datas all scope y) → HasNoLoopsIn alts → (t : TypeTree) (k : Kind) (w : ℕ) → HasKind s [] t k → SameTypes t v → HasWidth s.datas t w → EachWide all w results
    alts_wide alts_none no_blocks none_give of_kind of fit scoped stand wide free t k w kind same has = tt
    alts_wide {scope} {vars} {it = it} {below} {n} {u = u} {j = j} (alts_and {q = q} {e = e} {more = rest_of} {fields = fs} {p = p} {r = r} {s = z} ws formed have is block more) (block_and formed' form forms) (give_and {bound = bnd} b typed along others) of_kind of fit scoped stand wide free t k w kind same has =
        let front : List Variable = variables_from n fs ws in
        let a = alternative facts s vars bnd fs scope q u it.ty j n ws sound fit of_kind of b formed have in
        let first = stand_parts all n p.widths (r ▸ z).widths stand in
        let second = stand_parts all (after n p) r.widths z.widths first.1 in
        let fields : (x : ℕ) → WideAt s.datas all front x = fields_wide facts s.datas all fs ws below n it.wires have (subst (λ (p : Piece). StandFrom all n p.widths) is first.0) in
        let within : (y : ℕ) → occurs e y ≡ true → WideAt s.datas all (reverse front ++ scope) y =
        λ y o. onto_wide facts s.datas all front scope y (λ k h. fields k) (λ z h.
        let place : y ≡ z + binders q = h ∙ ap (λ k. z + k) a.count in
        wide z (or_left (occurs e (z + binders q)) (occurs_alts rest_of z) (ap (λ y. occurs e y) (sym place) ∙ o))) in
        let behind : (y : ℕ) → occurs_alts rest_of y ≡ true → WideAt s.datas all scope y = λ y o. wide y (or_right (occurs e (y + binders q)) (occurs_alts rest_of y) o) in
        (block_wide block form typed a.fit (facts.scopes.typed_more s [] bnd vars b.typed scoped) second.0 within free.0 t k w kind (facts.same.same_through same along) has, alts_wide more forms others of_kind of fit scoped second.1 behind free.1 t k w kind same has)

    pub block_wide : {scope : List Variable} {vars shown : List TypeTree} {n : ℕ} {e : TermTree} {p : Piece} {r : List WireId} {u : TypeTree} → BlockBuilt (ground_over s order) Value scope n e p r → IsBlock o shown e → HasType s [] vars e u → Fits vars scope → AreTermTypes s [] vars → StandFrom all n p.widths
        → ((y : ℕ) → occurs e y ≡ true → WideAt s.datas all scope y) → HasNoLoops e → (t : TypeTree) (k : Kind) (w : ℕ) → HasKind s [] t k → SameTypes t u → HasWidth s.datas t w → AreWide all r (present (w ∷ []))
    block_wide {scope} {vars} {u = u} (block_variable {x = x}) form typed fit scoped stand wide free t k w kind same has =
        variable_wide facts law s all sound vars scope x t u k w fit (wide x (eq-eqb x x refl)) typed kind same has
    block_wide {scope} {vars} {u = u} (block_letrec {x = x} {g = g} b more) (is_letrec forms none) (h_letrec typed of_kind bound) fit scoped stand wide free t k w kind same has =
        let size : length b ≡ size_of g = bound_count more in
        let inside = inside_group facts s order vars b scope more fit in
        let outer : (z : ℕ) → occurs_group g (z + size_of g) ≡ true → WideAt s.datas all scope z = λ z o. wide z (or_left (occurs_group g (z + size_of g)) (occurs (var x) (z + size_of g)) o) in
        let within : AreTermTypes s [] (with_more (declared g) vars) = facts.scopes.typed_more s [] (declared g) vars (facts.scopes.bound_typed bound) scoped in
        let each = bindings_wide facts s.datas all g b scope size free.0 outer (λ i l inner. group_wide more forms bound inside within stand i l inner free.1) in
        variable_wide facts law s all sound (with_more (declared g) vars) (reverse b ++ scope) x t u k w inside
        (onto_wide facts s.datas all b scope x (λ k h. each k (omega (arith, h, size)))
        (λ z h.
        let place : x ≡ z + size_of g = h ∙ ap (λ k. z + k) size in
        wide z (or_right (occurs_group g (z + size_of g)) (occurs (var x) (z + size_of g)) (eq-eqb x (z + size_of g) place))))
        typed kind same has

    pub group_wide : {scope : List Variable} {vars shown : List TypeTree} {n : ℕ} {g : Group} {p : Piece} {b : List Variable} {k : Kind} → GroupBuilt (ground_over s order) Value scope n g p b → AreSides o shown g → AreBound s [] vars k g → Fits vars scope → AreTermTypes s [] vars → StandFrom all n p.widths
        → (i : ℕ) → i < size_of g → ((y : ℕ) → occurs (side_at g i) y ≡ true → WideAt s.datas all scope y) → HaveNoLoops g → WideAt s.datas all b i
    group_wide group_none no_sides none_bound fit scoped stand i l wide free = none_wide facts s.datas all i
    group_wide {n = n} (group_and {t = t} {p = p} {q = q} {wires = wires} side more) (side_and wire form forms) (bound_and kind functions typed same rest) fit scoped stand zero l wide free =
        λ v e.
        let is : variable t wires ≡ v = cc in
        subst (λ (v : Variable). IsWide s.datas all v.ty v.wires) is (side_wide side form kind typed same fit scoped (stand_parts all n p.widths q.widths stand).0 wide free.0)
    group_wide {n = n} (group_and {p = p} {q = q} side more) (side_and wire form forms) (bound_and kind functions typed same rest) fit scoped stand (suc i) l wide free =
        λ v e. group_wide more forms rest fit scoped (stand_parts all n p.widths q.widths stand).1 i (omega (arith, l)) wide free.1 v e

  -- the outputs of a body
  pub body_wide : {scope : List Variable} {vars names : List TypeTree} {n : ℕ} {e inner : TermTree} {t u : TypeTree} {path inputs : List ℕ} {p : Piece} {outputs : List WireId} {k : Kind} → BodyBuilt (ground_over s order) Value scope n e inputs p outputs → UnderLambdas vars e t path names inner → IsBlock o names inner → HasType s [] vars e u → HasKind s [] t k → SameTypes t u → Fits vars scope → AreTermTypes s [] vars → StandFrom all n (inputs ++ p.widths)
      → ((y : ℕ) → WideAt s.datas all scope y) → HasNoLoops e → (w : ℕ) → HasWidth s.datas (result_of t) w → AreWide all outputs (present (w ∷ []))
  body_wide {scope} {n = n} {p = p} (body_lambda {t = a} {e = e} {inputs = ins} (value_part {w = w} has) more) (under_one along under) form (h_lam {b = b} {k = j} typed kind') kind same fit scoped stand wide free v result =
      let at = facts.kinds.function_parts kind in
      let is : StandFrom all n (present (w ∷ []) ++ (ins ++ p.widths)) = subst (StandFrom all n) (append_assoc (present (w ∷ [])) ins p.widths) stand in
      let parts = stand_parts all n (present (w ∷ [])) (ins ++ p.widths) is in
      body_wide more under form typed at.2 (results_same facts same) (record { same = (facts.same.same_self a, fit.same) }) (facts.kinds.function_takes s [] a b j kind', scoped) parts.1
      (one_wide facts s.datas all a (new_wires n (w ∷ [])) scope (record { width = w; has = has; wide = wide_from all n (present (w ∷ [])) parts.0 }) wide) free v result
  body_wide (body_lambda parts more) (under_none asks) form typed kind same fit scoped stand wide free v result = elim form [ ]
  body_wide (body_block block) (under_one along under) form typed kind same fit scoped stand wide free v result = elim block [ ]
  body_wide {t = t} {k = k} (body_block block) (under_none asks) form typed kind same fit scoped stand wide free v result =
      block_wide block form typed fit scoped stand (λ y o. wide y) free t k v kind same (subst (λ t. HasWidth s.datas t v) (result_alone t asks) result)
