-- The cells of typed values drive their wires in order. How many wires a binding has is told by
-- induction along the references of bindings, which lead back to none.
use Rattle.std.proofs.Common.{◌≡◌, ℕ, zero, suc, ◌+◌, ◌-◌, ◌<◌, ◌==◌, true, arith, List, [], ◌∷◌, ◌++◌, length, reverse, Some, refl, sym, ap, ◌∙◌, subst, eq-eqb, length-append}
use Rattle.std.specs.List.{slice_get, AllByRecursion}
use Rattle.std.specs.Prelude.{nat_lt}
use Rattle.std.proofs.lemmas.Bool.{or_left, or_right, and_from, lt-ltb}
use Rattle.std.proofs.lemmas.List.{length-map}
use Rattle.chw_base.specs.declared.index.WireId.{WireId}
use Rattle.chw_types.specs.declared.kind.Kind.{Kind}
use Rattle.chw_types.specs.SameTypes.{SameTypes}
use Rattle.chw_types.specs.TypeTree.{TypeTree}
use Rattle.chw_terms.specs.declared.scene.Sort.TheVariants.{Value}
use Rattle.chw_terms.specs.declared.term.Pattern.{Pattern}
use Rattle.chw_terms.specs.Occurs.{occurs, occurs_group, occurs_alts}
use Rattle.chw_terms.specs.TermTree.{TermTree, var, case_of, Group, no_bindings, bind, Alts, no_alts, alt, binders, size_of}
use Rattle.chw_typing.specs.HeadTypes.{PatternOf}
use Rattle.chw_typing.specs.Programs.{IsSound}
use Rattle.chw_typing.specs.Scopes.{Setting, HasKind, AreSame, with_more, declared}
use Rattle.chw_typing.specs.Typing.{HasType, h_lam, h_letrec, h_case, AreBound, none_bound, bound_and, AllGive, none_give, give_and, Binds}
use Rattle.graph_order.specs.References.{HasNoCycle}
use Rattle.chw_layout.specs.Measured.{HasWidth}
use Rattle.layout_laws.specs.SameLayout.{SameKeepsMeasure}
use Rattle.net_built.specs.Bodies.{ValueCells, value_variable, BlockBuilt, block_variable, block_letrec, GroupBuilt, group_none, group_and, SideBuilt, side_of_value, side_of_case, AltsBuilt, alts_none, alts_and, BodyBuilt, body_lambda, body_block}
use Rattle.net_built.specs.Circuits.{Ground}
use Rattle.net_built.specs.Data.{HaveWidths, value_part, Tested, variables_from, chosen_wires, last_of}
use Rattle.net_built.specs.InOrder.{DrivesInOrder}
use Rattle.net_built.specs.Loops.{side_at, refers, HasNoLoops, HaveNoLoops, HasNoLoopsIn}
use Rattle.net_built.specs.Terms.{head_of, Variable, variable, wires_at}
use Rattle.net_built.specs.Wires.{wire_count, present, Piece, after}
use Rattle.net_grounds.specs.Facts.{Facts}
use Rattle.net_means.specs.SideBits.Sides.{types_in}
use Rattle.net_means.proofs.References.{along_references}
use Rattle.net_means.proofs.Lists.{same_some}
use Rattle.net_means.specs.NetFits.Laws.{ground_over}
use Rattle.net_means.proofs.NetFits.Pieces.{Ordered, none_ordered, then_ordered, copies_ordered, cuts_ordered, tested_ordered, case_ordered, count_from}
use Rattle.net_means.proofs.NetFits.Scopes.{SizedAt, Fits, none_sized, one_sized, onto_sized, fields_sized, fields_types, fits_more, Found, found, var_at, variable_sized, bound_fields, variable_alone}

pub bound_count : {ground : Ground} {s : List Variable} {n : ℕ} {g : Group} {p : Piece} {b : List Variable} → GroupBuilt ground Value s n g p b → length b ≡ size_of g
bound_count group_none = refl
bound_count (group_and side more) = ap suc (bound_count more)

-- all of these have as many wires as this width asks for
abbrev AllSized : ℕ → List (List WireId) → Type 0
AllSized w results = AllByRecursion (λ (r : List WireId). length r ≡ wire_count (w ∷ [])) results

last_sized : (w : ℕ) (r : List WireId) (rs : List (List WireId)) → AllSized w (r ∷ rs) → length (last_of (r ∷ rs)) ≡ wire_count (w ∷ [])
last_sized w r [] h = h.0
last_sized w r (x ∷ rs) h = last_sized w x rs h.1

choice_sized : (w : ℕ) (ts : List WireId) (rs : List (List WireId)) (at : ℕ) → length (last_of rs) ≡ wire_count (w ∷ []) → length (chosen_wires w ts rs at) ≡ wire_count (w ∷ [])
choice_sized w [] rs at h = h
choice_sized w (t ∷ ts) rs at h = count_from _ (wire_count (w ∷ []))

-- there is an alternative
abbrev pub HasOne : Alts → Type 0
HasOne no_alts = ⊥
HasOne (alt q e more) = Unit {0}

-- the alternatives of a typed case, with the type of what it looks at
pub record TypedCase (s : Setting) (vars : List TypeTree) (e : TermTree) (alts : Alts) (t : TypeTree) : Type 0 where
  pub of : TypeTree
  pub typed : HasType s [] vars e of
  pub kind : Kind
  pub has : HasKind s [] of kind
  pub give : AllGive s [] vars of t alts
  pub some : HasOne alts

pub case_typed : Facts → {s : Setting} {vars : List TypeTree} {e : TermTree} {alts : Alts} {t : TypeTree} → HasType s [] vars (case_of e alts) t → TypedCase s vars e alts t
case_typed facts (h_case {u = u} {t = t} {j = j} typed looked kind b has of_kind functions more hidden) =
    record { of = u; typed = typed; kind = j; has = kind; give = give_and b has (facts.same.same_self t) more; some = tt }

last_result : {ground : Ground} {scope : List Variable} {it : Variable} {below n : ℕ} {alts : Alts} {p : Piece} {results : List (List WireId)} (w : ℕ) → AltsBuilt ground scope it below n alts p results → HasOne alts → AllSized w results → length (last_of results) ≡ wire_count (w ∷ [])
last_result w alts_none some all = absurd some
last_result w (alts_and {wires = r} {results = rs} ws formed have is block more) some all = last_sized w r rs all

-- what occurs in a right side occurs in the group
pub side_in_group : (g : Group) (i y : ℕ) → i < size_of g → occurs (side_at g i) y ≡ true → occurs_group g y ≡ true
unfolding occurs occurs_group
side_in_group no_bindings i y l h = absurd (omega (arith, l))
side_in_group (bind t e g) zero y l h = or_left (occurs e y) (occurs_group g y) h
side_in_group (bind t e g) (suc i) y l h = or_right (occurs e y) (occurs_group g y) (side_in_group g i y (omega (arith, l)) h)

pub same_place : (g : Group) (i k y : ℕ) → size_of g ≡ suc k + y → occurs (side_at g i) y ≡ true → refers g i k ≡ true
same_place g i k y e h =
    let place : size_of g - 1 - k ≡ y = omega (arith, e) in
    let below : k < size_of g = omega (arith, e) in
    and_from (nat_lt k (size_of g)) (occurs (side_at g i) (size_of g - 1 - k)) (lt-ltb k (size_of g) below) (ap (λ z. occurs (side_at g i) z) place ∙ h)

-- each binding has as many wires as its width asks for, if it has where those that occur in it have
bindings_sized : Facts → (s : Setting) (g : Group) (b scope : List Variable) → length b ≡ size_of g → HasNoCycle (λ i j. refers g i j ≡ true)
    → ((z : ℕ) → occurs_group g (z + size_of g) ≡ true → SizedAt s scope z)
    → ((i : ℕ) → i < size_of g → ((y : ℕ) → occurs (side_at g i) y ≡ true → SizedAt s (reverse b ++ scope) y) → SizedAt s b i)
    → (i : ℕ) → i < size_of g → SizedAt s b i
bindings_sized facts s g b scope size none outer side =
    along_references facts (refers g) none (size_of g) (λ i. SizedAt s b i)
    (λ i l before.
    side i l
    (λ y o. onto_sized s b scope y (λ k h. before k (omega (arith, h, size)) (same_place g i k y (sym size ∙ h) o))
    (λ z h.
    let place : y ≡ z + size_of g = h ∙ ap (λ k. z + k) size in
    outer z (ap (λ y. occurs_group g y) (sym place) ∙ side_in_group g i y l o))))

-- the scope of a letrec's bindings
pub inside_group : Facts → (s : Setting) (order : List ℕ) {n : ℕ} {g : Group} {p : Piece} {outer : List Variable} (vars : List TypeTree) (b scope : List Variable) → GroupBuilt (ground_over s order) Value outer n g p b → Fits vars scope → Fits (with_more (declared g) vars) (reverse b ++ scope)
inside_group facts s order {g = g} vars b scope more fit = fits_more facts (declared g) vars b scope (subst (AreSame (declared g)) (sym (facts.built.bound_types more)) (facts.scopes.are_same_self (declared g))) fit

pub same_found : {scope : List Variable} {x : ℕ} {t : TypeTree} {it : Variable} → Found scope x t → slice_get scope x ≡ Some it → SameTypes t it.ty
same_found {t = t} {it = it} f e = let is : f.it ≡ it = same_some f.is e in subst (λ (v : Variable). SameTypes t v.ty) is f.same

-- what an alternative is built with
pub record Alternative (s : Setting) (vars bnd : List TypeTree) (scope front : List Variable) (q : Pattern) : Type 0 where
  pub fit : Fits (with_more bnd vars) (reverse front ++ scope)
  pub count : length front ≡ binders q
  pub sized : (x : ℕ) → SizedAt s front x

pub alternative : Facts → (s : Setting) (vars bnd fs : List TypeTree) (scope : List Variable) (q : Pattern) (u v : TypeTree) (j : Kind) (n : ℕ) (ws : List ℕ) → IsSound s → Fits vars scope → HasKind s [] u j → SameTypes u v → Binds s [] u q bnd → PatternOf s.datas v q fs → HaveWidths s.datas fs ws
    → Alternative s vars bnd scope (variables_from n fs ws) q
alternative facts s vars bnd fs scope q u v j n ws sound fit kind same b formed have =
    let front : List Variable = variables_from n fs ws in
    let types : types_in front ≡ fs = fields_types s n fs ws have in
    let fields : AreSame bnd fs = bound_fields facts s u v q fs bnd j sound kind same b formed in
    let counted : length (types_in front) ≡ length front = length-map front (λ (v : Variable). v.ty) in
    record {
      fit = fits_more facts bnd vars front scope (subst (AreSame bnd) (sym types) fields) fit;
      count = sym counted ∙ ap (λ (ts : List TypeTree). length ts) types ∙ facts.scopes.are_same_length bnd fs fields ∙ facts.patterns.binds b;
      sized = fields_sized facts s n fs ws have;
    }

module _ (facts : Facts) (law : SameKeepsMeasure) (s : Setting) (order : List ℕ) (sound : IsSound s) where
  mutual
    unfolding occurs occurs_group occurs_alts

    side_sized : {scope : List Variable} {vars : List TypeTree} {n : ℕ} {t u : TypeTree} {e : TermTree} {p : Piece} {r : List WireId} {j : Kind} → SideBuilt (ground_over s order) Value scope n t e p r → HasKind s [] t j → HasType s [] vars e u → SameTypes t u → Fits vars scope
        → ((y : ℕ) → occurs e y ≡ true → SizedAt s scope y) → HasNoLoops e → (w : ℕ) → HasWidth s.datas t w → length r ≡ wire_count (w ∷ [])
    side_sized (side_of_value a cells) kind typed same fit sized free w has = count_from _ _ ∙ ap (λ w. wire_count (w ∷ [])) (facts.widths.width_once a has)
    side_sized {scope} {vars} {n} {t} {j = j} (side_of_case {x = x} {whole = whole} {w = v} {alts = alts} {it = it} {p = p} {results = rs} on i h a is built) kind typed same fit sized free w has =
        let c = case_typed facts typed in
        let of = same_found (found facts vars scope x c.of fit (var_at c.typed)) i in
        let all = alts_sized built c.give c.has of fit (λ y o. sized y (or_right (x == y) (occurs_alts alts y) o)) free t j v kind same a in
        choice_sized v _ rs _ (last_result v built c.some all) ∙ ap (λ w. wire_count (w ∷ [])) (facts.widths.width_once a has)

    alts_sized : {scope : List Variable} {vars : List TypeTree} {it : Variable} {below n : ℕ} {alts : Alts} {p : Piece} {results : List (List WireId)} {u v : TypeTree} {j : Kind} → AltsBuilt (ground_over s order) scope it below n alts p results → AllGive s [] vars u v alts → HasKind s [] u j → SameTypes u it.ty → Fits vars scope
        → ((y : ℕ) → occurs_alts alts y ≡ true → SizedAt s scope y) → HasNoLoopsIn alts → (t : TypeTree) (k : Kind) (w : ℕ) → HasKind s [] t k → SameTypes t v → HasWidth s.datas t w → AllSized w results
    alts_sized alts_none none_give of_kind of fit sized free t k w kind same has = tt
    alts_sized {scope} {vars} {it} {n = n} {u = u} {j = j} (alts_and {q = q} {e = e} {more = rest_of} {fields = fs} ws formed have is block more) (give_and {bound = bnd} b typed along others) of_kind of fit sized free t k w kind same has =
        let front : List Variable = variables_from n fs ws in
        let a = alternative facts s vars bnd fs scope q u it.ty j n ws sound fit of_kind of b formed have in
        let within : (y : ℕ) → occurs e y ≡ true → SizedAt s (reverse front ++ scope) y =
        λ y o. onto_sized s front scope y (λ k h. a.sized k) (λ z h.
        let place : y ≡ z + binders q = h ∙ ap (λ k. z + k) a.count in
        sized z (or_left (occurs e (z + binders q)) (occurs_alts rest_of z) (ap (λ y. occurs e y) (sym place) ∙ o))) in
        let behind : (y : ℕ) → occurs_alts rest_of y ≡ true → SizedAt s scope y = λ y o. sized y (or_right (occurs e (y + binders q)) (occurs_alts rest_of y) o) in
        (block_sized block typed a.fit within free.0 t k w kind (facts.same.same_through same along) has, alts_sized more others of_kind of fit behind free.1 t k w kind same has)

    pub block_sized : {scope : List Variable} {vars : List TypeTree} {n : ℕ} {e : TermTree} {p : Piece} {r : List WireId} {u : TypeTree} → BlockBuilt (ground_over s order) Value scope n e p r → HasType s [] vars e u → Fits vars scope
        → ((y : ℕ) → occurs e y ≡ true → SizedAt s scope y) → HasNoLoops e → (t : TypeTree) (k : Kind) (w : ℕ) → HasKind s [] t k → SameTypes t u → HasWidth s.datas t w → length r ≡ wire_count (w ∷ [])
    block_sized {scope} {vars} {u = u} (block_variable {x = x}) typed fit sized free t k w kind same has =
        variable_sized facts law s sound vars scope x t u k w fit (sized x (eq-eqb x x refl)) typed kind same has
    block_sized {scope} {vars} {u = u} (block_letrec {x = x} {g = g} b more) (h_letrec typed of_kind bound) fit sized free t k w kind same has =
        let size : length b ≡ size_of g = bound_count more in
        let inside = inside_group facts s order vars b scope more fit in
        let outer : (z : ℕ) → occurs_group g (z + size_of g) ≡ true → SizedAt s scope z = λ z o. sized z (or_left (occurs_group g (z + size_of g)) (occurs (var x) (z + size_of g)) o) in
        let all = bindings_sized facts s g b scope size free.0 outer (λ i l within. group_sized more bound inside i l within free.1) in
        variable_sized facts law s sound (with_more (declared g) vars) (reverse b ++ scope) x t u k w inside
        (onto_sized s b scope x (λ k h. all k (omega (arith, h, size)))
        (λ z h.
        let place : x ≡ z + size_of g = h ∙ ap (λ k. z + k) size in
        sized z (or_right (occurs_group g (z + size_of g)) (occurs (var x) (z + size_of g)) (eq-eqb x (z + size_of g) place))))
        typed kind same has

    group_sized : {scope : List Variable} {vars : List TypeTree} {n : ℕ} {g : Group} {p : Piece} {b : List Variable} {k : Kind} → GroupBuilt (ground_over s order) Value scope n g p b → AreBound s [] vars k g → Fits vars scope
        → (i : ℕ) → i < size_of g → ((y : ℕ) → occurs (side_at g i) y ≡ true → SizedAt s scope y) → HaveNoLoops g → SizedAt s b i
    group_sized group_none none_bound fit i l sized free = none_sized s i
    group_sized (group_and {t = t} {wires = wires} side more) (bound_and kind functions typed same rest) fit zero l sized free =
        λ v w e h.
        let is : variable t wires ≡ v = cc in
        let type : t ≡ v.ty = ap (λ (v : Variable). v.ty) is in
        ap (λ (v : Variable). length v.wires) (sym is) ∙ side_sized side kind typed same fit sized free.0 w (subst (λ t. HasWidth s.datas t w) (sym type) h)
    group_sized (group_and side more) (bound_and kind functions typed same rest) fit (suc i) l sized free =
        λ v w e h. group_sized more rest fit i (omega (arith, l)) sized free.1 v w e h

other_ordered : Facts → {ground : Ground} {scope : List Variable} {n w : ℕ} {h : TermTree} {ts : List TypeTree} {es : List TermTree} {p : Piece} → ((x : ℕ) → h ≡ var x → ⊥) → ValueCells ground scope n w h ts es p → Ordered n p
other_ordered facts none cells = record { drives = facts.built.value_ordered (λ x e. absurd (none x e)) cells }

-- the cells of any right side but a case
cells_ordered : Facts → {ground : Ground} {scope : List Variable} {n w : ℕ} {ts : List TypeTree} {es : List TermTree} {p : Piece} (h : TermTree) → ((x : ℕ) → h ≡ var x → ts ≡ [] → es ≡ [] → length (wires_at scope x) ≡ wire_count (w ∷ [])) → ValueCells ground scope n w h ts es p → Ordered n p
cells_ordered facts {scope = scope} {n = n} {w = w} (var x) fits value_variable = copies_ordered n (wires_at scope x) (w ∷ []) (fits x refl refl refl)
cells_ordered facts h fits cells = other_ordered facts (λ x e. cc) cells

module _ (facts : Facts) (law : SameKeepsMeasure) (s : Setting) (order : List ℕ) (sound : IsSound s) where
  -- the scope of a letrec's bindings has as many wires as its widths ask for
  pub letrec_sized : {scope : List Variable} {vars : List TypeTree} {n : ℕ} {g : Group} {p : Piece} {k : Kind} (b : List Variable) → GroupBuilt (ground_over s order) Value (reverse b ++ scope) n g p b → AreBound s [] (with_more (declared g) vars) k g → Fits vars scope
      → ((y : ℕ) → SizedAt s scope y) → HasNoCycle (λ i j. refers g i j ≡ true) → HaveNoLoops g → (y : ℕ) → SizedAt s (reverse b ++ scope) y
  letrec_sized {scope} {vars} {g = g} b more bound fit sized none free y =
      let size : length b ≡ size_of g = bound_count more in
      let inside = inside_group facts s order vars b scope more fit in
      let all = bindings_sized facts s g b scope size none (λ z o. sized z) (λ i l within. group_sized facts law s order sound more bound inside i l within free) in
      onto_sized s b scope y (λ k h. all k (omega (arith, h, size))) (λ z h. sized z)

  mutual
    side_ordered : {scope : List Variable} {vars : List TypeTree} {n : ℕ} {t u : TypeTree} {e : TermTree} {p : Piece} {r : List WireId} {j : Kind} → SideBuilt (ground_over s order) Value scope n t e p r → HasKind s [] t j → HasType s [] vars e u → SameTypes t u → Fits vars scope
        → ((y : ℕ) → SizedAt s scope y) → HasNoLoops e → Ordered n p
    side_ordered {scope} {vars} {t = t} {u = u} {e = e} {j = j} (side_of_value {w = w} a cells) kind typed same fit sized free =
        cells_ordered facts (head_of e)
        (λ x head types operands.
        let is : e ≡ var x = variable_alone e x head types operands in
        variable_sized facts law s sound vars scope x t u j w fit (sized x) (subst (λ e. HasType s [] vars e u) is typed) kind same a)
        cells
    side_ordered {scope} {vars} {n} {t} {j = j} (side_of_case {x = x} {whole = whole} {w = v} {alts = alts} {it = it} {p = p} {results = rs} on i h a is built) kind typed same fit sized free =
        let c = case_typed facts typed in
        let of = same_found (found facts vars scope x c.of fit (var_at c.typed)) i in
        let all = alts_ordered built c.give c.has of fit sized free in
        let tested : Ordered n on.cells = subst (λ (on : Tested). Ordered n on.cells) (sym is) (tested_ordered s.datas it.ty whole n it.wires) in
        case_ordered on alts v n p rs tested all

    alts_ordered : {scope : List Variable} {vars : List TypeTree} {it : Variable} {below n : ℕ} {alts : Alts} {p : Piece} {results : List (List WireId)} {u v : TypeTree} {j : Kind} → AltsBuilt (ground_over s order) scope it below n alts p results → AllGive s [] vars u v alts → HasKind s [] u j → SameTypes u it.ty → Fits vars scope
        → ((y : ℕ) → SizedAt s scope y) → HasNoLoopsIn alts → Ordered n p
    alts_ordered alts_none none_give of_kind of fit sized free = none_ordered
    alts_ordered {scope} {vars} {it} {below} {n} {u = u} {j = j} (alts_and {q = q} {e = e} {more = rest_of} {fields = fs} {p = p} {r = r} {s = z} ws formed have is block more) (give_and {bound = bnd} b typed along others) of_kind of fit sized free =
        let front : List Variable = variables_from n fs ws in
        let a = alternative facts s vars bnd fs scope q u it.ty j n ws sound fit of_kind of b formed have in
        let within : (y : ℕ) → SizedAt s (reverse front ++ scope) y = λ y. onto_sized s front scope y (λ k h. a.sized k) (λ z h. sized z) in
        let cuts : Ordered n p = subst (λ (p : Piece). Ordered n p) (sym is) (cuts_ordered below it.wires ws n) in
        then_ordered n p _ cuts
        (then_ordered (after n p) r z (block_ordered block typed a.fit within free.0) (alts_ordered more others of_kind of fit sized free.1))

    block_ordered : {scope : List Variable} {vars : List TypeTree} {n : ℕ} {e : TermTree} {p : Piece} {r : List WireId} {u : TypeTree} → BlockBuilt (ground_over s order) Value scope n e p r → HasType s [] vars e u → Fits vars scope → ((y : ℕ) → SizedAt s scope y) → HasNoLoops e → Ordered n p
    block_ordered block_variable typed fit sized free = none_ordered
    block_ordered {scope} {vars} (block_letrec {g = g} b more) (h_letrec typed of_kind bound) fit sized free =
        group_ordered more bound (inside_group facts s order vars b scope more fit) (letrec_sized b more bound fit sized free.0 free.1) free.1

    group_ordered : {scope : List Variable} {vars : List TypeTree} {n : ℕ} {g : Group} {p : Piece} {b : List Variable} {k : Kind} → GroupBuilt (ground_over s order) Value scope n g p b → AreBound s [] vars k g → Fits vars scope
        → ((y : ℕ) → SizedAt s scope y) → HaveNoLoops g → Ordered n p
    group_ordered group_none none_bound fit sized free = none_ordered
    group_ordered {n = n} (group_and {p = p} {q = q} side more) (bound_and kind functions typed same rest) fit sized free =
        then_ordered n p q (side_ordered side kind typed same fit sized free.0) (group_ordered more rest fit sized free.1)

  body_ordered : {scope : List Variable} {vars : List TypeTree} {n : ℕ} {e : TermTree} {inputs : List ℕ} {p : Piece} {outputs : List WireId} {u : TypeTree} → BodyBuilt (ground_over s order) Value scope n e inputs p outputs → HasType s [] vars e u → Fits vars scope → ((y : ℕ) → SizedAt s scope y) → HasNoLoops e
      → Ordered (n + length inputs) p
  body_ordered {scope} {vars} {n} {p = p} (body_lambda {t = t} {inputs = ins} (value_part {w = w} has) more) (h_lam typed kind) fit sized free =
      let count : length (present (w ∷ []) ++ ins) ≡ wire_count (w ∷ []) + length ins = length-append (present (w ∷ [])) ins in
      let place : n + wire_count (w ∷ []) + length ins ≡ n + length (present (w ∷ []) ++ ins) = omega (arith, count) in
      subst (λ k. Ordered k p) place
      (body_ordered more typed (record { same = (facts.same.same_self t, fit.same) }) (one_sized facts s t n w scope has sized) free)
  body_ordered {n = n} {p = p} (body_block block) typed fit sized free =
      let place : n ≡ n + 0 = omega arith in subst (λ k. Ordered k p) place (block_ordered block typed fit sized free)

pub value_body_ordered : Facts → SameKeepsMeasure → (s : Setting) (order : List ℕ) (e : TermTree) (t : TypeTree) (inputs : List ℕ) (p : Piece) (outputs : List WireId) → IsSound s → HasType s [] [] e t → HasNoLoops e → BodyBuilt (ground_over s order) Value [] 0 e inputs p outputs → DrivesInOrder (length inputs) p
value_body_ordered facts law s order e t inputs p outputs sound typed free built =
    let all = body_ordered facts law s order sound built typed (record { same = tt }) (none_sized s) free in
    let place : 0 + length inputs ≡ length inputs = omega arith in
    (subst (λ k. Ordered k p) place all).drives
