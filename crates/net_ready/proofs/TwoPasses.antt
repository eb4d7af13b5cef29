-- Two passes over one block: where what they know agrees, so does what they find, at one stage more.
use Rattle.std.proofs.Common.{◌≡◌, ℕ, zero, suc, ◌+◌, ◌-◌, ◌<◌, ◌≤◌, ◌||◌, ◌==◌, true, arith, List, [], ◌∷◌, ◌++◌, length, reverse, refl, sym, ap, ◌∙◌, subst, eq-eqb}
use Rattle.std.proofs.lemmas.Bool.{or_left, or_right}
use Rattle.std.proofs.lemmas.List.{length-reverse}
use Rattle.chw_base.specs.declared.index.WireId.{WireId}
use Rattle.chw_types.specs.TypeTree.{TypeTree}
use Rattle.chw_terms.specs.Occurs.{occurs, occurs_group, occurs_alts}
use Rattle.chw_terms.specs.TermTree.{TermTree, var, Group, Alts, binders, bind, size_of}
use Rattle.chw_typing.specs.HeadTypes.{PatternOf}
use Rattle.chw_typing.specs.Scopes.{declared}
use Rattle.chw_layout.specs.Measured.{HasWidth}
use Rattle.net_built.specs.Bodies.{ValueCells}
use Rattle.net_built.specs.Circuits.{Ground}
use Rattle.net_built.specs.Data.{HaveWidths, field_cuts, variables_from, case_cells, case_wires}
use Rattle.net_built.specs.Loops.{side_at, HasNoLoops, HaveNoLoops, HasNoLoopsIn}
use Rattle.net_built.specs.Terms.{head_of, types_of, operands_of, Variable, wires_at}
use Rattle.net_built.specs.Wires.{Piece, after}
use Rattle.net_built.proofs.Parts.{width_once, widths_once, pattern_once}
use Rattle.net_built.proofs.ValueSizes.{types_in, value_sizes, tested_same, type_at, front_types, onto_types}
use Rattle.net_built.proofs.ValueWires.{Agree}
use Rattle.net_ready.specs.Drafts.{Known, known_at, on_wires, BlockDrafted, drafted_variable, drafted_letrec, GroupDrafted, drafted_none, drafted_and, SideDrafted, drafted_side, drafted_case, AltsDrafted, drafted_no_alts, drafted_alt, bindings_in, bindings_in_group, bindings_in_alts}
use Rattle.net_ready.proofs.Agreed.{wires_in, KnownAgree, FoundAgree, front_agrees, back_agrees, found_append, found_counts}
use Rattle.net_ready.proofs.CasesAlike.{cuts_widths, TestAlike, last_by, case_widths, case_results}
use Rattle.net_ready.proofs.Scopes.{types_on_wires}
use Rattle.net_ready.proofs.Stages.{Stages, base_of, base_rises, base_ends, stages, group_stages, alts_stages, plain_stages}
use Rattle.net_ready.proofs.WiresBehind.{onto_wires, front_wires, variables_count, pattern_count, side_in_group, same_place, bound_count, bound_wires}

-- the first of several right sides, or one behind it
on_each : (j : ℕ) (base : ℕ → ℕ) (t : TypeTree) (e : TermTree) (g : Group) (w v : List WireId) (f h : List (List WireId)) → (base 0 + bindings_in e ≤ j → w ≡ v)
    → ((i : ℕ) → i < size_of g → base (suc i) + bindings_in (side_at g i) ≤ j → wires_in f i ≡ wires_in h i)
    → (i : ℕ) → i < suc (size_of g) → base i + bindings_in (side_at (bind t e g) i) ≤ j → wires_in (w ∷ f) i ≡ wires_in (v ∷ h) i
on_each j base t e g w v f h first rest zero l m = first m
on_each j base t e g w v f h first rest (suc i) l m = rest i (omega (arith, l)) m

-- what is known behind some letrecs, where that many were found
behind_found : (j : ℕ) (ss ts : Stages) (at : ℕ) (a c f : Known) → length f ≡ length ss → KnownAgree j (ss ++ ts) at a c → KnownAgree j ts (at + length f) a c
behind_found j ss ts at a c f e h = subst (λ k. KnownAgree j ts (at + k) a c) (sym e) (back_agrees j ss ts at a c h)

mutual
  unfolding occurs occurs_group occurs_alts

  -- a block in scopes that agree from pass b on, in pass j
  pub blocks_agree : {ground : Ground} {a c : Known} {at : ℕ} {s u : List Variable} {n : ℕ} {e : TermTree} {p q : Piece} {r v : List WireId} {f h : Known}
      → BlockDrafted ground a at s n e p r f → BlockDrafted ground c at u n e q v h
      → (j b : ℕ) (free : HasNoLoops e) → types_in s ≡ types_in u → (b ≤ j → Agree (occurs e) s u) → KnownAgree j (stages b e free) at a c
      → (p.widths ≡ q.widths) × (b + bindings_in e ≤ j → r ≡ v) × FoundAgree (suc j) (stages b e free) f h
  blocks_agree (drafted_variable {x = x}) drafted_variable j b free types agree known = (refl, λ l. agree (omega (arith, l)) x (eq-eqb x x refl), tt)
  blocks_agree {a = a} {c = c} {at = at} {s = s} {u = u} (drafted_letrec {x = x} {g = g} more) (drafted_letrec others) j b free types agree known =
      let va : List Variable = on_wires (declared g) (known_at a at) in
      let vc : List Variable = on_wires (declared g) (known_at c at) in
      let size : length va ≡ size_of g = bound_count g (known_at a at) in
      let as_many : length va ≡ length vc = size ∙ sym (bound_count g (known_at c at)) in
      let inside = onto_types va vc s u (types_on_wires (declared g) (known_at a at) ∙ sym (types_on_wires (declared g) (known_at c at))) types in
      let base : ℕ → ℕ = λ i. b + base_of g free.0 i in
      let bound : (k : ℕ) → k < size_of g → base k + bindings_in (side_at g k) < j → wires_at va k ≡ wires_at vc k =
      λ k l m. bound_wires g (known_at a at) k l ∙ known.0 k l m ∙ sym (bound_wires g (known_at c at) k l) in
      let outer : (y z : ℕ) → b ≤ j → y ≡ z + length va → (occurs_group g (z + size_of g) || occurs (var x) (z + size_of g)) ≡ true → wires_at s z ≡ wires_at u z = λ y z l h o. agree l z o in
      let within : (i : ℕ) → i < size_of g → base i ≤ j → Agree (occurs (side_at g i)) (reverse va ++ s) (reverse vc ++ u) =
      λ i l m y o. onto_wires va vc s u y as_many
      (λ k h.
      let rises : base_of g free.0 k + suc (bindings_in (side_at g k)) ≤ base_of g free.0 i = base_rises g free.0 i k (omega (arith, h, size)) (same_place g i k y (sym size ∙ h) o) in
      bound k (omega (arith, h, size)) (omega (arith, m, rises)))
      (λ z h.
      let place : y ≡ z + size_of g = h ∙ ap (λ k. z + k) size in
      outer y z (omega (arith, m)) h (or_left (occurs_group g (z + size_of g)) (occurs (var x) (z + size_of g)) (ap (λ y. occurs_group g y) (sym place) ∙ side_in_group g i y l o))) in
      let all = groups_agree more others j base free.1 inside within known.1 in (
        all.0,
        λ m. onto_wires va vc s u x as_many
            (λ k h.
            let ends : base_of g free.0 k + suc (bindings_in (side_at g k)) ≤ bindings_in_group g = base_ends g free.0 k (omega (arith, h, size)) in
            bound k (omega (arith, h, size)) (omega (arith, m, ends)))
            (λ z h.
            let place : x ≡ z + size_of g = h ∙ ap (λ k. z + k) size in
            outer x z (omega (arith, m)) h (or_right (occurs_group g (z + size_of g)) (occurs (var x) (z + size_of g)) (eq-eqb x (z + size_of g) place))),
        ((all.1, all.2, λ i l m. all.3 i l (omega (arith, m))), all.4),
      )

  groups_agree : {ground : Ground} {a c : Known} {at : ℕ} {s u : List Variable} {n : ℕ} {g : Group} {p q : Piece} {f h : List (List WireId)} {inner below : Known}
      → GroupDrafted ground a at s n g p f inner → GroupDrafted ground c at u n g q h below
      → (j : ℕ) (base : ℕ → ℕ) (free : HaveNoLoops g) → types_in s ≡ types_in u → ((i : ℕ) → i < size_of g → base i ≤ j → Agree (occurs (side_at g i)) s u) → KnownAgree j (group_stages base g free) at a c
      → (p.widths ≡ q.widths) × (length f ≡ size_of g) × (length h ≡ size_of g)
      × ((i : ℕ) → i < size_of g → base i + bindings_in (side_at g i) ≤ j → wires_in f i ≡ wires_in h i) × FoundAgree (suc j) (group_stages base g free) inner below
  groups_agree drafted_none drafted_none j base free types agree known = (refl, refl, refl, λ i l m. refl, tt)
  groups_agree {ground} {a} {c} {at} {s} {u} {n} (drafted_and {t = t} {e = e} {g = g} {p = p} {wires = w} {found = f} {inner = ia} {rest = ra} side more) (drafted_and {p = q} {q = qs} {wires = v} {found = h} {inner = ic} {rest = rc} other others) j base free types agree known =
      let ss : Stages = stages (base 0) e free.0 in
      let ts : Stages = group_stages (λ i. base (suc i)) g free.1 in
      let first = sides_agree side other j (base 0) free.0 types (agree 0 (omega arith)) (front_agrees j ss ts at a c known) in
      let counts = found_counts (suc j) ss ia ic first.2 in
      let here : after n p ≡ after n q = ap (λ (ws : List ℕ). n + length ws) first.0 in
      let at_place = subst (λ k. GroupDrafted ground c (at + k) u (after n q) g qs h rc) (counts.1 ∙ sym counts.0) others in
      let along = subst (λ k. GroupDrafted ground c (at + length ia) u k g qs h rc) (sym here) at_place in
      let rest = groups_agree more along j (λ i. base (suc i)) free.1 types (λ i l. agree (suc i) (omega (arith, l))) (behind_found j ss ts at a c ia counts.0 known) in (
        λ i. first.0 i ++ rest.0 i,
        ap suc rest.1,
        ap suc rest.2,
        on_each j base t e g w v f h first.1 rest.3,
        found_append (suc j) ss ts ia ic ra rc first.2 rest.4,
      )

  sides_agree : {ground : Ground} {a c : Known} {at : ℕ} {s u : List Variable} {n : ℕ} {t : TypeTree} {e : TermTree} {p q : Piece} {r v : List WireId} {f h : Known}
      → SideDrafted ground a at s n t e p r f → SideDrafted ground c at u n t e q v h
      → (j b : ℕ) (free : HasNoLoops e) → types_in s ≡ types_in u → (b ≤ j → Agree (occurs e) s u) → KnownAgree j (stages b e free) at a c
      → (p.widths ≡ q.widths) × (b + bindings_in e ≤ j → r ≡ v) × FoundAgree (suc j) (stages b e free) f h
  sides_agree {ground} {u = u} {n = n} {e = e} {q = q} (drafted_side width cells) (drafted_side wide further) j b free types agree known =
      let widths = width_once width wide in
      let sizes = value_sizes cells (subst (λ w. ValueCells ground u n w (head_of e) (types_of e) (operands_of e) q) (sym widths) further) in
      (sizes, λ l i. last_by n (sizes i) (widths i ∷ []), subst (λ ss. FoundAgree (suc j) ss [] []) (plain_stages e free b cells) tt)
  sides_agree (drafted_side width cells) (drafted_case on i h w is alts) j b free types agree known = elim cells [ ]
  sides_agree (drafted_case on i h w is alts) (drafted_side width cells) j b free types agree known = elim cells [ ]
  sides_agree {ground} {c = c} {at = at} {s = s} {u = u} {n = n} {h = below} (drafted_case {x = x} {whole = whole} {w = w} {alts = alts} {it = it} {p = p} {results = rs} on held measured width is built)
      (drafted_case {whole = other} {w = v} {it = jt} {p = q} {results = vs} om holds k wide iz others) j b free types agree known =
      let ty = type_at s u x it jt held holds types in
      let same : whole ≡ other = width_once measured (subst (λ t. HasWidth ground.datas t other) (sym ty) k) in
      let tested = tested_same ground.datas on om it jt whole other n is iz ty same in
      let start : after n on.cells ≡ after n om.cells = ap (λ (ws : List ℕ). n + length ws) tested.1 in
      let on_wide = subst (λ k. AltsDrafted ground c at u jt k (after n om.cells) alts q vs below) (λ i. sym same i - sym tested.0 i) others in
      let along = subst (λ k. AltsDrafted ground c at u jt (whole - on.bits) k alts q vs below) (sym start) on_wide in
      let rest = alts_agree built along j b free ty types (λ l y o. agree l y (or_right (x == y) (occurs_alts alts y) o)) known in
      let alike : TestAlike on om = record { bits = tested.0; cells = tested.1; first = tested.2 } in
      let widths = width_once width wide in (
        case_widths on om alts n p q alike rest.0 w rs vs rest.1 ∙ ap (λ w. (case_cells om alts w n q vs).widths) widths,
        λ l. case_results on om alts n p q alike rest.0 w rs vs (rest.2 l) ∙ ap (λ w. case_wires om alts w n q vs) widths,
        rest.3,
      )

  alts_agree : {ground : Ground} {a c : Known} {at : ℕ} {s u : List Variable} {it jt : Variable} {below n : ℕ} {alts : Alts} {p q : Piece} {rs vs : List (List WireId)} {f h : Known}
      → AltsDrafted ground a at s it below n alts p rs f → AltsDrafted ground c at u jt below n alts q vs h
      → (j b : ℕ) (free : HasNoLoopsIn alts) → it.ty ≡ jt.ty → types_in s ≡ types_in u → (b ≤ j → Agree (occurs_alts alts) s u) → KnownAgree j (alts_stages b alts free) at a c
      → (p.widths ≡ q.widths) × (length rs ≡ length vs) × (b + bindings_in_alts alts ≤ j → rs ≡ vs) × FoundAgree (suc j) (alts_stages b alts free) f h
  alts_agree drafted_no_alts drafted_no_alts j b free ty types agree known = (refl, refl, λ l. refl, tt)
  alts_agree {ground} {a} {c} {at} {s} {u} {it} {jt} {below} {n} (drafted_alt {q = pattern} {e = e} {more = further} {fields = fs} {p = p} {r = r} {inner = ia} {rest = ra} ws formed have is block more)
      (drafted_alt {fields = gs} {p = o} {r = q} {s = rest_cells} {wires = v} {results = vs} {inner = ic} {rest = rc} us formed' have' is' block' others) j b free ty types agree known =
      let ss : Stages = stages b e free.0 in
      let ts : Stages = alts_stages b further free.1 in
      let fields : fs ≡ gs = pattern_once formed (subst (λ t. PatternOf ground.datas t pattern gs) (sym ty) formed') in
      let widths : ws ≡ us = widths_once ground.datas fs ws us have (subst (λ fs. HaveWidths ground.datas fs us) (sym fields) have') in
      let cells : p.widths ≡ o.widths =
      ap (λ (p : Piece). p.widths) is ∙ (λ i. (field_cuts below it.wires (widths i) n).widths) ∙ cuts_widths us below n n it.wires jt.wires ∙ sym (ap (λ (p : Piece). p.widths) is') in
      let start : after n p ≡ after n o = ap (λ (ws : List ℕ). n + length ws) cells in
      let front : List Variable = reverse (variables_from n fs ws) in
      let fronts : front ≡ reverse (variables_from n gs us) = λ i. reverse (variables_from n (fields i) (widths i)) in
      let inside = subst (λ (f : List Variable). BlockDrafted ground c at (f ++ u) (after n o) e q v ic) (sym fronts) block' in
      let along = subst (λ k. BlockDrafted ground c at (front ++ u) k e q v ic) (sym start) inside in
      let count : length front ≡ binders pattern = length-reverse (variables_from n fs ws) ∙ variables_count ground.datas fs ws n have ∙ pattern_count formed in
      let within : b ≤ j → Agree (occurs e) (front ++ s) (front ++ u) =
      λ l y oc. front_wires front s u y (λ z h.
      let place : y ≡ z + binders pattern = h ∙ ap (λ k. z + k) count in
      agree l z (or_left (occurs e (z + binders pattern)) (occurs_alts further z) (ap (λ y. occurs e y) (sym place) ∙ oc))) in
      let first = blocks_agree block along j b free.0 (front_types front s u types) within (front_agrees j ss ts at a c known) in
      let counts = found_counts (suc j) ss ia ic first.2 in
      let at_place = subst (λ k. AltsDrafted ground c (at + k) u jt below (after (after n o) q) further rest_cells vs rc) (counts.1 ∙ sym counts.0) others in
      let onward = subst (λ k. AltsDrafted ground c (at + length ia) u jt below k further rest_cells vs rc) (λ i. sym start i + length (sym first.0 i)) at_place in
      let rest = alts_agree more onward j b free.1 ty types (λ l y oc. agree l y (or_right (occurs e (y + binders pattern)) (occurs_alts further y) oc)) (behind_found j ss ts at a c ia counts.0 known) in (
        λ i. cells i ++ (first.0 i ++ rest.0 i),
        ap suc rest.1,
        λ l i. first.1 (omega (arith, l)) i ∷ rest.2 (omega (arith, l)) i,
        found_append (suc j) ss ts ia ic ra rc first.2 rest.3,
      )
