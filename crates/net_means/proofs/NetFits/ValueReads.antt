-- The cells of values read wires of their module alone. Which wires a binding has is told by
-- induction along the references of bindings, which lead back to none.
use Rattle.std.proofs.Common.{◌≡◌, ℕ, zero, suc, ◌+◌, ◌-◌, ◌<◌, ◌≤◌, ◌==◌, true, arith, List, [], ◌∷◌, ◌++◌, length, reverse, Some, refl, sym, ap, ◌∙◌, subst, eq-eqb, length-append}
use Rattle.std.specs.List.{slice_get, AllByRecursion}
use Rattle.std.proofs.lemmas.Bool.{or_left, or_right}
use Rattle.std.proofs.lemmas.List.{length-map}
use Rattle.chw_base.specs.declared.index.WireId.{WireId}
use Rattle.chw_types.specs.declared.declarations.Data.{Data}
use Rattle.chw_types.specs.Arguments.{arguments}
use Rattle.chw_types.specs.TypeMoves.{sub}
use Rattle.chw_types.specs.declared.kind.Kind.{Kind}
use Rattle.chw_types.specs.SameTypes.{SameTypes}
use Rattle.chw_types.specs.TypeTree.{TypeTree}
use Rattle.chw_terms.specs.declared.scene.Sort.TheVariants.{Value}
use Rattle.chw_terms.specs.declared.term.Pattern.{Pattern}
use Rattle.chw_terms.specs.Occurs.{occurs, occurs_group, occurs_alts}
use Rattle.chw_terms.specs.TermTree.{TermTree, var, made, Group, Alts, binders, size_of}
use Rattle.chw_typing.specs.HeadTypes.{PatternOf, of_con, of_lit, of_any}
use Rattle.chw_typing.specs.Programs.{IsSound}
use Rattle.chw_typing.specs.Scopes.{HasKind}
use Rattle.chw_typing.specs.Typing.{HasType, h_lam, h_letrec, AreBound, none_bound, bound_and, AllGive, none_give, give_and}
use Rattle.graph_order.specs.References.{HasNoCycle}
use Rattle.chw_layout.specs.Measured.{closed_value, HasWidth}
use Rattle.layout_laws.specs.SameLayout.{SameKeepsMeasure}
use Rattle.netlist.specs.declared.net.Cell.{Cell}
use Rattle.netlist.specs.declared.net.Cell.TheVariants.{Use}
use Rattle.rewriting.specs.Named.{UnderLambdas, under_none, under_one}
use Rattle.rewriting.specs.Origins.{MadeOf, Origins, setting_at}
use Rattle.rewriting.specs.Shapes.{IsVariable}
use Rattle.normal_forms.specs.Values.{IsBlock, block_letrec as is_letrec, AreSides, no_sides, side_and, IsSide, AreBlocks, no_blocks, block_and}
use Rattle.net_built.specs.Bodies.{ValueCells, value_variable, value_literal, value_constructor, value_vector, value_primitive, value_element, value_element_at, value_call, BlockBuilt, block_variable, block_letrec, GroupBuilt, group_none, group_and, SideBuilt, side_of_value, side_of_case, AltsBuilt, alts_none, alts_and, BodyBuilt, body_lambda, body_block}
use Rattle.net_built.specs.Circuits.{Ground, module_of}
use Rattle.net_built.specs.Data.{HaveWidths, value_part, Tested, variables_from, field_cuts, chosen, chosen_wires, tests, test_wires, words_of}
use Rattle.net_built.specs.Modules.{made_in, made_in_group, made_in_alts}
use Rattle.net_built.specs.Loops.{side_at, refers, HasNoLoops, HaveNoLoops, HasNoLoopsIn}
use Rattle.net_built.specs.Terms.{head_of, types_of, operands_of, Variable, variable, wires_at, wires_of, wires_of_all, list_of}
use Rattle.net_built.specs.Wires.{wire_count, new_wires, present, Piece, ◌▸◌, after, last_wires}
use Rattle.net_grounds.specs.Facts.{Facts}
use Rattle.net_means.proofs.References.{along_references}
use Rattle.net_means.proofs.Lists.{turned_onto}
use Rattle.net_means.proofs.NetFits.Reading.{Under, IsPlain, Reads, EachUnder, under_append, under_from, last_below, last_under, none_reads, then_reads, one_reads, const_reads, words_read, constructed_reads, cuts_read, tested_reads, tested_under, case_reads, element_reads, element_at_reads, copies_read, used_reads}
use Rattle.net_means.specs.NetFits.Laws.{ground_over}
use Rattle.net_means.proofs.NetFits.CallShapes.{call_of, case_side, head_made, all_first, all_rest}
use Rattle.net_means.proofs.NetFits.Scopes.{SizedAt, Fits, one_sized, onto_sized, found, var_at, wires_there}
use Rattle.net_means.proofs.NetFits.ValueDrivers.{bound_count, side_in_group, same_place, case_typed, same_found, alternative, inside_group, letrec_sized}

variables_count : (datas : List Data) (ts : List TypeTree) (ws : List ℕ) (n : ℕ) → HaveWidths datas ts ws → length (variables_from n ts ws) ≡ length ts
variables_count datas [] [] n h = refl
variables_count datas [] (w ∷ ws) n h = absurd h
variables_count datas (t ∷ ts) [] n h = absurd h
variables_count datas (t ∷ ts) (w ∷ ws) n h = ap suc (variables_count datas ts ws (n + wire_count (w ∷ [])) h.1)

pattern_count : {datas : List Data} {u : TypeTree} {q : Pattern} {fs : List TypeTree} → PatternOf datas u q fs → length fs ≡ binders q
pattern_count (of_con {ts = ts} it i j k) = length-map it.decl.fields (λ f. sub f (arguments ts)) ∙ k
pattern_count (of_lit l s) = refl
pattern_count of_any = refl

module _ (total : ℕ) where
  -- the room of a piece is that of its parts
  pub then_room : (at : ℕ) (p q : Piece) → after at (p ▸ q) ≤ total → (after at p ≤ total) × (after (after at p) q ≤ total)
  then_room at p q room =
      let e : length (p.widths ++ q.widths) ≡ length p.widths + length q.widths = length-append p.widths q.widths in
      let r : at + length (p.widths ++ q.widths) ≤ total = room in
      let first : at + length p.widths ≤ total = omega (arith, r, e) in
      let second : at + length p.widths + length q.widths ≤ total = omega (arith, r, e) in
      (first, second)

  -- variables that come in turn before others
  next_under : (v : Variable) (b scope : List Variable) (y : ℕ)
      → ((k : ℕ) → length (v ∷ b) ≡ suc k + y → Under total (wires_at (v ∷ b) k))
      → ((z : ℕ) → y ≡ z + length (v ∷ b) → Under total (wires_at scope z))
      → (z : ℕ) → y ≡ z + length b → Under total (wires_at (v ∷ scope) z)
  next_under v b scope y inner outer zero h = inner 0 (omega (arith, h))
  next_under v b scope y inner outer (suc z) h = outer z (omega (arith, h))

  onto_under : (b scope : List Variable) (y : ℕ)
      → ((k : ℕ) → length b ≡ suc k + y → Under total (wires_at b k))
      → ((z : ℕ) → y ≡ z + length b → Under total (wires_at scope z))
      → Under total (wires_at (reverse b ++ scope) y)
  onto_under [] scope y inner outer = outer y (omega arith)
  onto_under (v ∷ b) scope y inner outer =
      subst (λ (l : List Variable). Under total (wires_at l y)) (sym (turned_onto v b scope))
      (onto_under b (v ∷ scope) y (λ k h. inner (suc k) (omega (arith, h))) (next_under v b scope y inner outer))

  none_under : (x : ℕ) → Under total (wires_at [] x)
  none_under zero = tt
  none_under (suc x) = tt

  -- the variables of fields
  fields_under : (datas : List Data) (ts : List TypeTree) (ws : List ℕ) (below n : ℕ) (a : List WireId) → HaveWidths datas ts ws → after n (field_cuts below a ws n) ≤ total → (x : ℕ) → Under total (wires_at (variables_from n ts ws) x)
  fields_under datas [] [] below n a h room x = none_under x
  fields_under datas [] (w ∷ ws) below n a h room x = absurd h
  fields_under datas (t ∷ ts) [] below n a h room x = absurd h
  fields_under datas (t ∷ ts) (w ∷ ws) below n a h room zero =
      let r : n + length (present (w ∷ []) ++ (field_cuts (below - w) a ws (n + wire_count (w ∷ []))).widths) ≤ total = room in
      let e : length (present (w ∷ []) ++ (field_cuts (below - w) a ws (n + wire_count (w ∷ []))).widths) ≡ wire_count (w ∷ []) + length ((field_cuts (below - w) a ws (n + wire_count (w ∷ []))).widths) = length-append (present (w ∷ [])) _ in
      let fits : n + wire_count (w ∷ []) ≤ total = omega (arith, r, e) in
      under_from total n (wire_count (w ∷ [])) fits
  fields_under datas (t ∷ ts) (w ∷ ws) below n a h room (suc x) =
      let r : n + length (present (w ∷ []) ++ (field_cuts (below - w) a ws (n + wire_count (w ∷ []))).widths) ≤ total = room in
      let e : length (present (w ∷ []) ++ (field_cuts (below - w) a ws (n + wire_count (w ∷ []))).widths) ≡ wire_count (w ∷ []) + length ((field_cuts (below - w) a ws (n + wire_count (w ∷ []))).widths) = length-append (present (w ∷ [])) _ in
      let fits : n + wire_count (w ∷ []) + length ((field_cuts (below - w) a ws (n + wire_count (w ∷ []))).widths) ≤ total = omega (arith, r, e) in
      fields_under datas ts ws (below - w) (n + wire_count (w ∷ [])) a h.1 fits x

  -- the wires of operands
  pub of_under : (scope : List Variable) → ((x : ℕ) → Under total (wires_at scope x)) → (e : TermTree) → Under total (wires_of scope e)
  of_under scope h (var x) = h x
  of_under scope h _ = tt

  pub all_under : (scope : List Variable) → ((x : ℕ) → Under total (wires_at scope x)) → (es : List TermTree) → Under total (wires_of_all scope es)
  all_under scope h [] = tt
  all_under scope h (e ∷ es) = under_append total (wires_of scope e) (wires_of_all scope es) (of_under scope h e) (all_under scope h es)

-- the cells of a right side, which hold all that is asked of them if a use does
module _ (A : Cell → Type 0) (plain : (cell : Cell) → IsPlain cell → A cell) (total : ℕ) where
  value_reads : {ground : Ground} {scope : List Variable} {n w : ℕ} {h : TermTree} {ts : List TypeTree} {es : List TermTree} {p : Piece} → ValueCells ground scope n w h ts es p → (1 ≤ total → (x : ℕ) → Under total (wires_at scope x)) → after n p ≤ total
      → ((m : ℕ) → h ≡ made m → ts ≡ [] → 1 ≤ wire_count (w ∷ []) → A (Use (module_of ground m) (wires_of_all scope es) (new_wires n (w ∷ [])))) → Reads A total p
  value_reads {scope = scope} {n} {w} (value_variable {x = x}) h room uses = copies_read A plain total n _ (w ∷ []) (λ l. h l x)
  value_reads {scope = scope} {n} {w} (value_literal {bits = bits}) h room uses = const_reads A plain total n w bits room
  value_reads {scope = scope} {n} {w} (value_constructor {es = es} i f) h room uses = constructed_reads A plain total _ _ _ w n _ (λ l. all_under total scope (h l) es) room
  value_reads {scope = scope} {n} {w} (value_vector {es = es}) h room uses = one_reads A plain total n w _ tt room (λ l. all_under total scope (h (omega (arith, l))) (list_of es))
  value_reads {scope = scope} {n} {w} (value_primitive {p = p} {es = es} i) h room uses = words_read A plain total p _ _ n _ _ (λ l. of_under total scope (h l) _) (λ l. of_under total scope (h l) _) room
  value_reads {scope = scope} {n} {w} (value_element {m = m} {v = v}) h room uses = element_reads A plain total w (closed_value m) n _ (λ l. of_under total scope (h l) v) room
  value_reads {scope = scope} {n} {w} (value_element_at {m = m} {k = k} {v = v} {i = i}) h room uses = element_at_reads A plain total w (closed_value m) (closed_value k) n _ _ (λ l. of_under total scope (h l) v) (λ l. of_under total scope (h l) i) room
  value_reads {ground} {scope} {n} {w} (value_call {m = m} {es = es}) h room uses = used_reads A plain total ground m n _ (w ∷ []) (λ l. all_under total scope (h l) es) (uses m refl refl)

module _ (facts : Facts) (total : ℕ) (much : 1 ≤ total) where
  last_piece : (at : ℕ) (p : Piece) (w : ℕ) → after at p ≤ total → Under total (last_wires at p (w ∷ []))
  last_piece at p zero room = tt
  last_piece at p (suc w) room = (last_below total at p room much, tt)

  chosen_under : (w : ℕ) (tested : List WireId) (rs : List (List WireId)) (at : ℕ) → EachUnder total rs → after at (chosen w tested rs at) ≤ total → Under total (chosen_wires w tested rs at)
  chosen_under w [] rs at h room = last_under total rs h
  chosen_under w (t ∷ tested) rs at h room = last_piece at (chosen w (t ∷ tested) rs at) w room

  -- the wires of each binding, if those that occur in it are such
  bindings_under : (g : Group) (b scope : List Variable) → length b ≡ size_of g → HasNoCycle (λ i j. refers g i j ≡ true)
      → ((z : ℕ) → occurs_group g (z + size_of g) ≡ true → Under total (wires_at scope z))
      → ((i : ℕ) → i < size_of g → ((y : ℕ) → occurs (side_at g i) y ≡ true → Under total (wires_at (reverse b ++ scope) y)) → Under total (wires_at b i))
      → (i : ℕ) → i < size_of g → Under total (wires_at b i)
  bindings_under g b scope size none outer side =
      along_references facts (refers g) none (size_of g) (λ i. Under total (wires_at b i))
      (λ i l before.
      side i l
      (λ y o. onto_under total b scope y (λ k h. before k (omega (arith, h, size)) (same_place g i k y (sym size ∙ h) o))
      (λ z h.
      let place : y ≡ z + size_of g = h ∙ ap (λ k. z + k) size in
      outer z (ap (λ y. occurs_group g y) (sym place) ∙ side_in_group g i y l o))))

module _ (facts : Facts) (total : ℕ) (much : 1 ≤ total) {ground : Ground} where
  mutual
    unfolding occurs occurs_group occurs_alts

    side_under : {scope : List Variable} {n : ℕ} {t : TypeTree} {e : TermTree} {p : Piece} {r : List WireId} → SideBuilt ground Value scope n t e p r → after n p ≤ total → ((y : ℕ) → occurs e y ≡ true → Under total (wires_at scope y)) → HasNoLoops e → Under total r
    side_under {n = n} {p = p} (side_of_value {w = w} a cells) room within free = last_piece facts total much n p w room
    side_under {n = n} (side_of_case {x = x} {whole = whole} {w = w} {alts = alts} {it = it} {p = p} {results = rs} on i h a is built) room within free =
        let words = words_of on.bits on.first alts in
        let m : ℕ = after (after n on.cells) p in
        let q : Piece = tests on.bits on.wires words m in
        let c : Piece = chosen w (test_wires on.bits on.wires words m) rs (after m q) in
        let first = then_room total n on.cells (p ▸ q ▸ c) room in
        let second = then_room total (after n on.cells) p (q ▸ c) first.1 in
        let third = then_room total m q c second.1 in
        chosen_under facts total much w (test_wires on.bits on.wires words m) rs (after m q)
        (alts_under built second.0 (λ y o. within y (or_right (x == y) (occurs_alts alts y) o)) free) third.1

    pub alts_under : {scope : List Variable} {it : Variable} {below n : ℕ} {alts : Alts} {p : Piece} {results : List (List WireId)} → AltsBuilt ground scope it below n alts p results → after n p ≤ total → ((y : ℕ) → occurs_alts alts y ≡ true → Under total (wires_at scope y)) → HasNoLoopsIn alts → EachUnder total results
    alts_under alts_none room within free = tt
    alts_under {scope} {it} {below} {n} (alts_and {q = q} {e = e} {more = rest_of} {fields = fs} {p = p} {r = r} {s = s} ws formed have is block more) room within free =
        let front : List Variable = variables_from n fs ws in
        let first = then_room total n p (r ▸ s) room in
        let second = then_room total (after n p) r s first.1 in
        let fields : (x : ℕ) → Under total (wires_at front x) = fields_under total ground.datas fs ws below n it.wires have (subst (λ (p : Piece). after n p ≤ total) is first.0) in
        let count : length front ≡ binders q = variables_count ground.datas fs ws n have ∙ pattern_count formed in
        let inside : (y : ℕ) → occurs e y ≡ true → Under total (wires_at (reverse front ++ scope) y) =
        λ y o. onto_under total front scope y (λ k h. fields k) (λ z h.
        let place : y ≡ z + binders q = h ∙ ap (λ k. z + k) count in
        within z (or_left (occurs e (z + binders q)) (occurs_alts rest_of z) (ap (λ y. occurs e y) (sym place) ∙ o))) in
        (block_under block second.0 inside free.0, alts_under more second.1 (λ y o. within y (or_right (occurs e (y + binders q)) (occurs_alts rest_of y) o)) free.1)

    pub block_under : {scope : List Variable} {n : ℕ} {e : TermTree} {p : Piece} {r : List WireId} → BlockBuilt ground Value scope n e p r → after n p ≤ total → ((y : ℕ) → occurs e y ≡ true → Under total (wires_at scope y)) → HasNoLoops e → Under total r
    block_under (block_variable {x = x}) room within free = within x (eq-eqb x x refl)
    block_under {scope} (block_letrec {x = x} {g = g} b more) room within free =
        let size : length b ≡ size_of g = bound_count more in
        let outer : (z : ℕ) → occurs_group g (z + size_of g) ≡ true → Under total (wires_at scope z) = λ z o. within z (or_left (occurs_group g (z + size_of g)) (occurs (var x) (z + size_of g)) o) in
        let all = bindings_under facts total much g b scope size free.0 outer (λ i l inside. group_under more room i l inside free.1) in
        onto_under total b scope x (λ k h. all k (omega (arith, h, size)))
        (λ z h.
        let place : x ≡ z + size_of g = h ∙ ap (λ k. z + k) size in
        within z (or_right (occurs_group g (z + size_of g)) (occurs (var x) (z + size_of g)) (eq-eqb x (z + size_of g) place)))

    pub group_under : {scope : List Variable} {n : ℕ} {g : Group} {p : Piece} {b : List Variable} → GroupBuilt ground Value scope n g p b → after n p ≤ total → (i : ℕ) → i < size_of g → ((y : ℕ) → occurs (side_at g i) y ≡ true → Under total (wires_at scope y)) → HaveNoLoops g → Under total (wires_at b i)
    group_under group_none room i l within free = none_under total i
    group_under {n = n} (group_and {p = p} {q = q} side more) room zero l within free = side_under side (then_room total n p q room).0 within free.0
    group_under {n = n} (group_and {p = p} {q = q} side more) room (suc i) l within free = group_under more (then_room total n p q room).1 i (omega (arith, l)) within free.1

-- the scope of a letrec's bindings has wires, if the one around it does
letrec_under : Facts → (total : ℕ) → 1 ≤ total → {ground : Ground} {n : ℕ} {g : Group} {p : Piece} (b scope : List Variable) → GroupBuilt ground Value (reverse b ++ scope) n g p b → after n p ≤ total → ((y : ℕ) → Under total (wires_at scope y)) → HasNoCycle (λ i j. refers g i j ≡ true) → HaveNoLoops g → (y : ℕ) → Under total (wires_at (reverse b ++ scope) y)
letrec_under facts total much {g = g} b scope more room h none free y =
    let size : length b ≡ size_of g = bound_count more in
    let all = bindings_under facts total much g b scope size none (λ z o. h z) (λ i l inside. group_under facts total much more room i l inside free) in
    onto_under total b scope y (λ k h. all k (omega (arith, h, size))) (λ z l. h z)

-- an input before the variables in scope
input_under : (total : ℕ) (t : TypeTree) (n : ℕ) (widths : List ℕ) (scope : List Variable) → ((y : ℕ) → Under total (wires_at scope y)) → n + wire_count widths ≤ total → (y : ℕ) → Under total (wires_at (variable t (new_wires n widths) ∷ scope) y)
input_under total t n widths scope h fits zero = under_from total n (wire_count widths) fits
input_under total t n widths scope h fits (suc y) = h y

-- calls of made definitions of which one thing holds: of their uses another holds
abbrev pub ValueCalls : Origins → List ℕ → (Cell → Type 0) → (ℕ → Type 0) → Type 0
ValueCalls o order A P =
    (vars : List TypeTree) (scope : List Variable) (e : TermTree) (m n w : ℕ) (t u : TypeTree) (k : Kind) (it : MadeOf) → slice_get o.made m ≡ Some it → it.sort ≡ Value
    → head_of e ≡ made m → types_of e ≡ [] → AllByRecursion IsVariable (operands_of e)
    → HasType (setting_at o) [] vars e u → HasKind (setting_at o) [] t k → SameTypes t u → HasWidth o.program.datas t w → Fits vars scope → ((y : ℕ) → SizedAt (setting_at o) scope y)
    → P m → 1 ≤ wire_count (w ∷ []) → A (Use (module_of (ground_over (setting_at o) order) m) (wires_of_all scope (operands_of e)) (new_wires n (w ∷ [])))

module _ (facts : Facts) (law : SameKeepsMeasure) (o : Origins) (order : List ℕ) (sound : IsSound (setting_at o)) (A : Cell → Type 0) (plain : (cell : Cell) → IsPlain cell → A cell) (P : ℕ → Type 0) (calls : ValueCalls o order A P) (total : ℕ) where
  mutual
    side_reads : {scope : List Variable} {vars names : List TypeTree} {n : ℕ} {t u : TypeTree} {e : TermTree} {p : Piece} {r : List WireId} {j : Kind} → SideBuilt (ground_over (setting_at o) order) Value scope n t e p r → IsSide o names e → AllByRecursion P (made_in e)
        → HasKind (setting_at o) [] t j → HasType (setting_at o) [] vars e u → SameTypes t u → Fits vars scope → ((y : ℕ) → SizedAt (setting_at o) scope y)
        → after n p ≤ total → (1 ≤ total → (y : ℕ) → Under total (wires_at scope y)) → HasNoLoops e → Reads A total p
    side_reads {scope} {vars} {n = n} {t = t} {u = u} {e = e} {j = j} (side_of_value {w = w} a cells) form inside kind typed same fit sized room h free =
        value_reads A plain total cells h room
        (λ m head types l.
        let c = call_of form m head in
        calls vars scope e m n w t u j c.it c.known c.value head types c.variables typed kind same a fit sized (head_made P e m head inside) l)
    side_reads {scope} {vars} {n = n} (side_of_case {x = x} {whole = whole} {w = w} {alts = alts} {it = it} {p = p} {results = rs} on i has a is built) form inside kind typed same fit sized room h free =
        let of : 1 ≤ total → Under total it.wires = λ l. subst (Under total) (wires_there scope x it i) (h l x) in
        let c = case_typed facts typed in
        let at = same_found (found facts vars scope x c.of fit (var_at c.typed)) i in
        let blocks = case_side form x alts refl in
        case_reads A plain total on alts w n p rs
        (λ r. subst (λ (on : Tested). after n on.cells ≤ total → Reads A total on.cells) (sym is) (λ r. tested_reads A plain total o.program.datas it.ty whole n it.wires of r) r)
        (λ r. subst (λ (on : Tested). after n on.cells ≤ total → 1 ≤ total → Under total on.wires) (sym is) (λ r l. tested_under total o.program.datas it.ty whole n it.wires of r l) r)
        (λ r. alts_reads built blocks.blocks inside c.give c.has at fit sized r of h free) (λ r l. alts_under facts total l built r (λ y o. h l y) free) room

    alts_reads : {scope : List Variable} {vars names : List TypeTree} {it : Variable} {below n : ℕ} {alts : Alts} {p : Piece} {results : List (List WireId)} {u v uu : TypeTree} {j : Kind} → AltsBuilt (ground_over (setting_at o) order) scope it below n alts p results → AreBlocks o names uu alts → AllByRecursion P (made_in_alts alts)
        → AllGive (setting_at o) [] vars u v alts → HasKind (setting_at o) [] u j → SameTypes u it.ty → Fits vars scope → ((y : ℕ) → SizedAt (setting_at o) scope y)
        → after n p ≤ total → (1 ≤ total → Under total it.wires) → (1 ≤ total → (y : ℕ) → Under total (wires_at scope y)) → HasNoLoopsIn alts → Reads A total p
    alts_reads alts_none no_blocks inside none_give of_kind at fit sized room of h free = none_reads A plain total
    alts_reads {scope} {vars} {it = it} {below} {n} {u = u} {j = j} (alts_and {q = q} {e = e} {more = rest_of} {fields = fs} {p = p} {r = r} {s = z} ws formed have is block more) (block_and formed' form forms) inside (give_and {bound = bnd} b typed along others) of_kind at fit sized room of h free =
        let front : List Variable = variables_from n fs ws in
        let a = alternative facts (setting_at o) vars bnd fs scope q u it.ty j n ws sound fit of_kind at b formed have in
        let within : (y : ℕ) → SizedAt (setting_at o) (reverse front ++ scope) y = λ y. onto_sized (setting_at o) front scope y (λ k h. a.sized k) (λ z h. sized z) in
        let rooms = then_room total n p (r ▸ z) room in
        let cuts : Reads A total p = subst (λ (p : Piece). after n p ≤ total → Reads A total p) (sym is) (λ k. cuts_read A plain total below it.wires ws n of k) rooms.0 in
        let fields : (x : ℕ) → Under total (wires_at front x) = fields_under total o.program.datas fs ws below n it.wires have (subst (λ (p : Piece). after n p ≤ total) is rooms.0) in
        then_reads A plain total n p (r ▸ z) room (λ k. cuts)
        (λ k. then_reads A plain total (after n p) r z k
        (λ k. block_reads block form (all_first P (made_in e) (made_in_alts rest_of) inside) typed a.fit within k (λ l y. onto_under total front scope y (λ k e. fields k) (λ z e. h l z)) free.0)
        (λ k. alts_reads more forms (all_rest P (made_in e) (made_in_alts rest_of) inside) others of_kind at fit sized k of h free.1))

    block_reads : {scope : List Variable} {vars names : List TypeTree} {n : ℕ} {e : TermTree} {p : Piece} {r : List WireId} {u : TypeTree} → BlockBuilt (ground_over (setting_at o) order) Value scope n e p r → IsBlock o names e → AllByRecursion P (made_in e) → HasType (setting_at o) [] vars e u → Fits vars scope → ((y : ℕ) → SizedAt (setting_at o) scope y)
        → after n p ≤ total → (1 ≤ total → (y : ℕ) → Under total (wires_at scope y)) → HasNoLoops e → Reads A total p
    block_reads block_variable form inside typed fit sized room h free = none_reads A plain total
    block_reads {scope} {vars} (block_letrec {x = x} {g = g} b more) (is_letrec forms none) inside (h_letrec typed of_kind bound) fit sized room h free =
        group_reads more forms (all_first P (made_in_group g) [] inside) bound (inside_group facts (setting_at o) order vars b scope more fit) (letrec_sized facts law (setting_at o) order sound b more bound fit sized free.0 free.1)
        room (λ l. letrec_under facts total l b scope more room (h l) free.0 free.1) free.1

    group_reads : {scope : List Variable} {vars names : List TypeTree} {n : ℕ} {g : Group} {p : Piece} {b : List Variable} {k : Kind} → GroupBuilt (ground_over (setting_at o) order) Value scope n g p b → AreSides o names g → AllByRecursion P (made_in_group g) → AreBound (setting_at o) [] vars k g → Fits vars scope → ((y : ℕ) → SizedAt (setting_at o) scope y)
        → after n p ≤ total → (1 ≤ total → (y : ℕ) → Under total (wires_at scope y)) → HaveNoLoops g → Reads A total p
    group_reads group_none no_sides inside none_bound fit sized room h free = none_reads A plain total
    group_reads {n = n} (group_and {e = e} {g = g} {p = p} {q = q} side more) (side_and wire form forms) inside (bound_and kind functions typed same rest) fit sized room h free =
        then_reads A plain total n p q room (λ k. side_reads side form (all_first P (made_in e) (made_in_group g) inside) kind typed same fit sized k h free.0)
        (λ k. group_reads more forms (all_rest P (made_in e) (made_in_group g) inside) rest fit sized k h free.1)

  -- the cells of a body, and its outputs
  pub body_reads : {scope : List Variable} {vars names : List TypeTree} {n : ℕ} {e inner : TermTree} {ty u : TypeTree} {path inputs : List ℕ} {p : Piece} {outputs : List WireId} → BodyBuilt (ground_over (setting_at o) order) Value scope n e inputs p outputs → UnderLambdas vars e ty path names inner → IsBlock o names inner → AllByRecursion P (made_in e)
      → HasType (setting_at o) [] vars e u → Fits vars scope → ((y : ℕ) → SizedAt (setting_at o) scope y)
      → n + length inputs + length p.widths ≤ total → (1 ≤ total → (y : ℕ) → Under total (wires_at scope y)) → HasNoLoops e → Reads A total p × (1 ≤ total → Under total outputs)
  body_reads {scope} {n = n} {p = p} (body_lambda {t = t} {inputs = ins} (value_part {w = w} has) more) (under_one same under) form inside (h_lam typed kind) fit sized room h free =
      let count : length (present (w ∷ []) ++ ins) ≡ wire_count (w ∷ []) + length ins = length-append (present (w ∷ [])) ins in
      let r : n + length (present (w ∷ []) ++ ins) + length p.widths ≤ total = room in
      let fits : n + wire_count (w ∷ []) ≤ total = omega (arith, r, count) in
      let next : n + wire_count (w ∷ []) + length ins + length p.widths ≤ total = omega (arith, r, count) in
      body_reads more under form inside typed (record { same = (facts.same.same_self t, fit.same) }) (one_sized facts (setting_at o) t n w scope has sized) next (λ l y. input_under total t n (w ∷ []) scope (h l) fits y) free
  body_reads (body_lambda parts more) (under_none asks) form inside typed fit sized room h free = elim form [ ]
  body_reads (body_block block) (under_one same under) form inside typed fit sized room h free = elim block [ ]
  body_reads {n = n} {p = p} (body_block block) (under_none asks) form inside typed fit sized room h free =
      let r : n + 0 + length p.widths ≤ total = room in
      let fits : n + length p.widths ≤ total = omega (arith, r) in
      (block_reads block form inside typed fit sized fits h free, λ l. block_under facts total l block fits (λ y o. h l y) free)
