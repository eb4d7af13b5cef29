-- The cells of right sides of typed values in normal form, but of cases.
use Rattle.std.proofs.Common.{◌≡◌, inl, inr, ℕ, ◌-◌, ◌≤◌, arith, List, [], ◌∷◌, ◌++◌, length, map, Some, refl, sym, ap, ◌∙◌, subst, append-nil}
use Rattle.std.specs.Prelude.{slice_index}
use Rattle.std.specs.List.{slice_get, AllByRecursion}
use Rattle.chw_types.specs.declared.kind.Kind.{Kind}
use Rattle.chw_types.specs.declared.kind.Kind.TheVariants.{Nat, Val}
use Rattle.chw_types.specs.declared.kind.Scalar.TheVariants.{U}
use Rattle.chw_types.specs.SamePromises.{SameValues}
use Rattle.chw_types.specs.SameTypes.{SameTypes}
use Rattle.chw_types.specs.TypeMoves.{sub}
use Rattle.chw_types.specs.TypeTree.{TypeTree, data_of, nat_lit, nat_sum, scalar, ty_var, vector}
use Rattle.chw_types.specs.TypeView.{trees_of}
use Rattle.chw_prims.specs.declared.prim.Primitive.{Primitive as Prim}
use Rattle.chw_prims.specs.declared.prim.Primitive.TheVariants.{VGet, VGetC, VAt}
use Rattle.chw_terms.specs.declared.scene.Sort.TheVariants.{Value}
use Rattle.chw_terms.specs.TermTree.{TermTree, var, made, con, prim, lit, vec_lit}
use Rattle.chw_typing.specs.Programs.{IsSound}
use Rattle.chw_typing.specs.Scopes.{Setting, HasKind, AreTermTypes}
use Rattle.chw_typing.specs.Typing.{HasType}
use Rattle.chw_typing.specs.Given.{types_then}
use Rattle.chw_typing.specs.SpineLaws.{ConAtArguments, ConIsSaturated}
use Rattle.rewriting.specs.Origins.{MadeOf, Origins, setting_at}
use Rattle.rewriting.specs.Shapes.{IsVariable}
use Rattle.rewriting.specs.Spots.{IsOnWords, TakesElement}
use Rattle.normal_forms.specs.Values.{on_names, IsSide, side_variable, side_literal, side_constructor, side_vector, side_primitive, side_call, side_case}
use Rattle.chw_layout.specs.Encodes.{first_constructor}
use Rattle.chw_layout.specs.Measured.{closed_value, fits, tag_width, HasWidth}
use Rattle.layout_laws.specs.SameLayout.{SameKeepsMeasure}
use Rattle.netlist.specs.declared.net.Cell.TheVariants.{Use}
use Rattle.netlist.specs.declared.net.Module.{Module}
use Rattle.net_rules.specs.WellFormed.{WidthsAgree}
use Rattle.net_built.specs.Bodies.{ValueCells, value_variable, value_literal, value_constructor, value_vector, value_primitive, value_element, value_element_at, value_call}
use Rattle.net_built.specs.Circuits.{Ground, module_of}
use Rattle.net_built.specs.Modules.{made_in}
use Rattle.net_built.specs.Terms.{head_of, types_of, operands_of, Variable, wires_of, wires_of_all}
use Rattle.net_built.specs.Vectors.{element, element_at}
use Rattle.net_built.specs.Wires.{present, wire_count, new_wires, Piece}
use Rattle.net_grounds.specs.Facts.{Facts}
use Rattle.net_means.specs.NetFits.Laws.{ground_over}
use Rattle.net_means.specs.NetFits.Widths.{StandFrom, WideAt}
use Rattle.net_means.proofs.NetFits.CallShapes.{call_of, head_made}
use Rattle.net_means.proofs.NetFits.CircuitDrivers.{operands_then, type_count, term_count, types_counted, terms_counted}
use Rattle.net_means.proofs.NetFits.ConstructorSides.{constructor_agrees}
use Rattle.net_means.proofs.NetFits.ElementSides.{get_agrees, at_agrees}
use Rattle.net_means.proofs.NetFits.Scopes.{Fits}
use Rattle.net_means.proofs.NetFits.Shapes.{head_then, names}
use Rattle.net_means.proofs.NetFits.SimpleSides.{name_agrees, literal_agrees, vector_agrees}
use Rattle.net_means.proofs.NetFits.ValueEnds.{GivesWidth, prim_gives, types_after, wide_asks}
use Rattle.net_means.proofs.NetFits.ValueWidths.{variable_wide}
use Rattle.net_means.proofs.NetFits.WordSides.{prim_cells_agree, side_operands, word_wide}
use Rattle.net_means.proofs.NetFits.WordWidths.{Agree}
use Rattle.net_means.proofs.NetWidths.CaseCells.{part_of}
use Rattle.net_means.proofs.NetWidths.Kept.{Kept, used_all}
use Rattle.net_means.proofs.NetWidths.Small.{IsPart, Small, one_small, words_small, constructed_small, element_at_small}

-- the cells of a head on these types and variables
cells_at : (h : TermTree) (types : List TypeTree) (xs : List ℕ) {ground : Ground} {scope : List Variable} {n w : ℕ} {p : Piece} → head_of h ≡ h → types_of h ≡ [] → operands_of h ≡ [] → ValueCells ground scope n w (head_of (on_names h types xs)) (types_of (on_names h types xs)) (operands_of (on_names h types xs)) p → ValueCells ground scope n w h types (names xs) p
cells_at h types xs {ground} {scope} {n} {w} {p} is ts es cells =
    let one = subst (λ e. ValueCells ground scope n w e (types_of (on_names h types xs)) (operands_of (on_names h types xs)) p) (head_then h types (names xs) ∙ is) cells in
    let two = subst (λ ts. ValueCells ground scope n w h ts (operands_of (on_names h types xs)) p) (types_after h types (names xs) ∙ ap (λ ts. ts ++ types) ts) one in
    subst (λ es. ValueCells ground scope n w h types es p) (operands_then h types (names xs) ∙ ap (λ es. es ++ names xs) es) two

-- a head whose cells drive one wire
abbrev IsSimple : TermTree → Type 0
IsSimple (var x) = Unit {0}
IsSimple (lit s bits) = Unit {0}
IsSimple (vec_lit t es) = Unit {0}
IsSimple (made m) = Unit {0}
IsSimple _ = ⊥

simple_small : {ground : Ground} {scope : List Variable} {n w : ℕ} {h : TermTree} {ts : List TypeTree} {es : List TermTree} {p : Piece} → ValueCells ground scope n w h ts es p → IsSimple h → IsPart w → Small p.widths
simple_small {w = w} value_variable is l = one_small w l
simple_small {w = w} value_literal is l = one_small w l
simple_small (value_constructor i f) is l = absurd is
simple_small {w = w} value_vector is l = one_small w l
simple_small (value_primitive on) is l = absurd is
simple_small value_element is l = absurd is
simple_small value_element_at is l = absurd is
simple_small {w = w} value_call is l = one_small w l

no_words : (r q : Prim) → prim r ≡ prim q → IsOnWords q → (IsOnWords r → ⊥) → ⊥
no_words r q e on f = let is : q ≡ r = cc in f (subst IsOnWords is on)

word_small : {ground : Ground} {scope : List Variable} {n w : ℕ} {h : TermTree} {ts : List TypeTree} {es : List TermTree} {p : Piece} → ValueCells ground scope n w h ts es p → (q : Prim) → h ≡ prim q → IsOnWords q → GivesWidth q ts w → IsPart w → Small p.widths
word_small value_variable q h on gives l = absurd cc
word_small value_literal q h on gives l = absurd cc
word_small (value_constructor i f) q h on gives l = absurd cc
word_small value_vector q h on gives l = absurd cc
word_small {n = n} {w = w} {ts = ts} (value_primitive {p = r} k) q h on gives l =
    let is : q ≡ r = cc in
    words_small r k (slice_index (map closed_value ts) 0) (slice_index (map closed_value ts) 1) n _ _ (subst IsPart (sym (subst (λ q. GivesWidth q ts w) is gives)) l)
word_small value_element q h on gives l = absurd (no_words _ q h on (λ k. k))
word_small value_element_at q h on gives l = absurd (no_words _ q h on (λ k. k))
word_small value_call q h on gives l = absurd cc

-- the cells of a call, if its use agrees
calls_agree : (earlier : List Module) (all : List ℕ) {ground : Ground} {scope : List Variable} {n w : ℕ} {h : TermTree} {ts : List TypeTree} {es : List TermTree} {p : Piece} → ValueCells ground scope n w h ts es p → (m : ℕ) → h ≡ made m
    → (ts ≡ [] → StandFrom all n (present (w ∷ [])) → 1 ≤ wire_count (w ∷ []) → WidthsAgree earlier all (Use (module_of ground m) (wires_of_all scope es) (new_wires n (w ∷ [])))) → StandFrom all n p.widths → Agree earlier all p
calls_agree earlier all value_variable m h uses stand = absurd cc
calls_agree earlier all value_literal m h uses stand = absurd cc
calls_agree earlier all (value_constructor i f) m h uses stand = absurd cc
calls_agree earlier all value_vector m h uses stand = absurd cc
calls_agree earlier all (value_primitive k) m h uses stand = absurd cc
calls_agree earlier all value_element m h uses stand = absurd cc
calls_agree earlier all value_element_at m h uses stand = absurd cc
calls_agree earlier all {ground} {scope} {n} {w} (value_call {m = j} {es = es}) m h uses stand =
    let is : m ≡ j = cc in
    let agrees : 1 ≤ wire_count (w ∷ []) → WidthsAgree earlier all (Use (module_of ground j) (wires_of_all scope es) (new_wires n (w ∷ []))) =
    λ l. subst (λ m. WidthsAgree earlier all (Use (module_of ground m) (wires_of_all scope es) (new_wires n (w ∷ [])))) is (uses refl stand l) in
    record { cells = used_all (WidthsAgree earlier all) ground j n (wires_of_all scope es) (w ∷ []) agrees }

fits_is : {a b : ℕ} → fits a ≡ fits b → a ≡ b
fits_is e = cc

one_name : (v : TermTree) (xs : List ℕ) → v ∷ [] ≡ names xs → (x : ℕ) × (v ≡ var x) × (xs ≡ x ∷ [])
one_name v [] e = absurd cc
one_name v (x ∷ []) e = let is : v ≡ var x = cc in (x, is, refl)
one_name v (x ∷ y ∷ xs) e = absurd cc

two_names : (v i : TermTree) (xs : List ℕ) → v ∷ i ∷ [] ≡ names xs → (x y : ℕ) × (v ≡ var x) × (i ≡ var y) × (xs ≡ x ∷ y ∷ [])
two_names v i [] e = absurd cc
two_names v i (x ∷ []) e = absurd cc
two_names v i (x ∷ y ∷ []) e = let first : v ≡ var x = cc in let second : i ≡ var y = cc in (x, y, first, second, refl)
two_names v i (x ∷ y ∷ z ∷ xs) e = absurd cc

takes_other : (q : Prim) → TakesElement q → IsOnWords q → ⊥
takes_other VGet takes on = on
takes_other VGetC takes on = on
takes_other VAt takes on = on
takes_other _ takes on = absurd takes

module _ (facts : Facts) (law : SameKeepsMeasure) (values : SameValues) (con_args : ConAtArguments) (saturated : ConIsSaturated) (s : Setting) (all : List ℕ) (sound : IsSound s) (vars : List TypeTree) (scope : List Variable) (fit : Fits vars scope) (wide : (y : ℕ) → WideAt s.datas all scope y) (scoped : AreTermTypes s [] vars) where
  module _ {n w : ℕ} (t u : TypeTree) (k : Kind) (kind : HasKind s [] t k) (same : SameTypes t u) (has : HasWidth s.datas t w) where
    constructor_small : {order : List ℕ} (c : ℕ) (types : List TypeTree) (xs : List ℕ) {p : Piece} → HasType s [] vars (on_names (con c) types xs) u → ValueCells (ground_over s order) scope n w (con c) types (names xs) p → Small p.widths
    constructor_small c types xs typed (value_constructor {fields = fields} {it = it} known measured) =
        let args = saturated s [] vars c it (types_then types (names xs)) u sound scoped known typed (wide_asks facts has same) in
        let are : types_then types (names xs) ≡ types_then args.0.types args.0.es =
        args.0.are ∙ ap (λ more. types_then args.0.types args.0.es ++ more) args.1 ∙ append-nil (types_then args.0.types args.0.es) in
        let on_types : length types ≡ length it.it.params = sym (types_counted types (names xs)) ∙ ap (λ args. type_count args) are ∙ types_counted args.0.types args.0.es ∙ args.0.on_types in
        let on_terms : length (names xs) ≡ length it.decl.fields = sym (terms_counted types (names xs)) ∙ ap (λ args. term_count args) are ∙ terms_counted args.0.types args.0.es ∙ args.0.on_terms in
        let at = con_args s [] vars c it types (names xs) u sound scoped known on_types on_terms typed in
        let whole : HasWidth s.datas (data_of it.of (trees_of types)) w = law (fits w) s t (data_of it.of (trees_of types)) sound (record { kind = k; has = kind; same = facts.same.same_through same (facts.same.same_turned at.2) }) has in
        let place = facts.constructors.has_place s.datas c it known in
        let x = facts.widths.cons_width it.it place.in_datas whole in
        let y = facts.widths.con_width it.it.cons place.place it.decl place.in_cons x.cons in
        let is : fields ≡ y.s = fits_is (facts.measures.fields_once measured y.fields) in
        let all_is = x.is in
        let less = y.within in
        constructed_small (tag_width (length it.it.cons)) (c - first_constructor s.datas it.of) fields w n (wires_of_all scope (names xs)) (omega (arith, is, all_is, less)) (part_of facts has)

    element_kept : (earlier : List Module) {ground : Ground} {h : TermTree} {ts : List TypeTree} {es : List TermTree} {p : Piece} → ValueCells ground scope n w h ts es p → (q : Prim) (types : List TypeTree) (xs : List ℕ) → TakesElement q → h ≡ prim q → ts ≡ types → es ≡ names xs → HasType s [] vars (on_names (prim q) types xs) u
        → StandFrom all n p.widths → Kept earlier all p
    unfolding sub
    element_kept earlier value_variable q types xs takes h ts es typed stand = absurd cc
    element_kept earlier value_literal q types xs takes h ts es typed stand = absurd cc
    element_kept earlier (value_constructor i f) q types xs takes h ts es typed stand = absurd cc
    element_kept earlier value_vector q types xs takes h ts es typed stand = absurd cc
    element_kept earlier (value_primitive {p = r} on) q types xs takes h ts es typed stand =
        let is : r ≡ q = cc in absurd (takes_other q takes (subst IsOnWords is on))
    element_kept earlier value_call q types xs takes h ts es typed stand = absurd cc
    element_kept earlier {ground} (value_element {i = i} {m = m} {a = a} {v = v}) q types xs takes h ts es typed stand =
        let is : q ≡ VGet = cc in
        let one = one_name v xs es in
        let at_prim : HasType s [] vars (on_names (prim VGet) types xs) u = subst (λ q. HasType s [] vars (on_names (prim q) types xs) u) is typed in
        let at_types : HasType s [] vars (on_names (prim VGet) (i ∷ m ∷ a ∷ []) xs) u = subst (λ ts. HasType s [] vars (on_names (prim VGet) ts xs) u) (sym ts) at_prim in
        let at_terms : HasType s [] vars (on_names (prim VGet) (i ∷ m ∷ a ∷ []) (one.0 ∷ [])) u = subst (λ xs. HasType s [] vars (on_names (prim VGet) (i ∷ m ∷ a ∷ []) xs) u) one.2 at_types in
        let agree : Agree earlier all (element w (closed_value m) n (wires_of scope (var one.0))) = get_agrees facts law values s all sound vars scope fit wide earlier scoped {ground = ground} t u k kind same has stand i m a one.0 at_terms value_element in
        record {
          agree = subst (λ v. Agree earlier all (element w (closed_value m) n (wires_of scope v))) (sym one.1) agree;
          small = one_small w (part_of facts has);
        }
    element_kept earlier {ground} (value_element_at {m = m} {k = j} {a = a} {v = v} {i = i}) q types xs takes h ts es typed stand =
        let is : q ≡ VAt = cc in
        let two = two_names v i xs es in
        let at_prim : HasType s [] vars (on_names (prim VAt) types xs) u = subst (λ q. HasType s [] vars (on_names (prim q) types xs) u) is typed in
        let at_types : HasType s [] vars (on_names (prim VAt) (m ∷ j ∷ a ∷ []) xs) u = subst (λ ts. HasType s [] vars (on_names (prim VAt) ts xs) u) (sym ts) at_prim in
        let at_terms : HasType s [] vars (on_names (prim VAt) (m ∷ j ∷ a ∷ []) (two.0 ∷ two.1 ∷ [])) u = subst (λ xs. HasType s [] vars (on_names (prim VAt) (m ∷ j ∷ a ∷ []) xs) u) two.4 at_types in
        let whole : StandFrom all n (element_at w (closed_value m) (closed_value j) n (wires_of scope (var two.0)) (wires_of scope (var two.1))).widths → Agree earlier all (element_at w (closed_value m) (closed_value j) n (wires_of scope (var two.0)) (wires_of scope (var two.1))) =
        λ s2. at_agrees facts law values s all sound vars scope fit wide earlier scoped {ground = ground} t u k kind same has s2 m j a two.0 two.1 at_terms value_element_at in
        let at_index : StandFrom all n (element_at w (closed_value m) (closed_value j) n (wires_of scope (var two.0)) (wires_of scope i)).widths → Agree earlier all (element_at w (closed_value m) (closed_value j) n (wires_of scope (var two.0)) (wires_of scope i)) =
        subst (λ i. StandFrom all n (element_at w (closed_value m) (closed_value j) n (wires_of scope (var two.0)) (wires_of scope i)).widths → Agree earlier all (element_at w (closed_value m) (closed_value j) n (wires_of scope (var two.0)) (wires_of scope i))) (sym two.3) whole in
        let agree = subst (λ v. StandFrom all n (element_at w (closed_value m) (closed_value j) n (wires_of scope v) (wires_of scope i)).widths → Agree earlier all (element_at w (closed_value m) (closed_value j) n (wires_of scope v) (wires_of scope i))) (sym two.2) at_index in
        let args = facts.terms.prim_at_arguments s [] vars VAt (Nat ∷ Nat ∷ Val ∷ []) (vector (nat_sum (ty_var 2) (nat_lit 1)) (ty_var 0) ∷ scalar U (ty_var 1) ∷ []) (ty_var 0) (m ∷ j ∷ a ∷ []) (names (two.0 ∷ two.1 ∷ [])) u sound scoped refl refl refl at_terms in
        let index = word_wide facts values s all vars scope fit wide two.1 U j args.args_given.1.0 in
        let short = index.small in
        record {
          agree = agree stand;
          small = element_at_small w (closed_value m) (closed_value j) n (wires_of scope v) (wires_of scope i) (part_of facts has) (omega (arith, short));
        }

-- calls of made definitions of which one thing holds: the widths of their uses agree
abbrev pub ValuesFit : Origins → List ℕ → List Module → List ℕ → (ℕ → Type 0) → Type 0
ValuesFit o order earlier all P =
    (vars : List TypeTree) (scope : List Variable) (e : TermTree) (m n w : ℕ) (t u : TypeTree) (k : Kind) (it : MadeOf) → slice_get o.made m ≡ Some it → it.sort ≡ Value
    → head_of e ≡ made m → types_of e ≡ [] → AllByRecursion IsVariable (operands_of e)
    → HasType (setting_at o) [] vars e u → HasKind (setting_at o) [] t k → SameTypes t u → HasWidth o.program.datas t w → Fits vars scope → ((y : ℕ) → WideAt o.program.datas all scope y)
    → P m → StandFrom all n (present (w ∷ [])) → 1 ≤ wire_count (w ∷ []) → WidthsAgree earlier all (Use (module_of (ground_over (setting_at o) order) m) (wires_of_all scope (operands_of e)) (new_wires n (w ∷ [])))

module _ (facts : Facts) (law : SameKeepsMeasure) (values : SameValues) (con_args : ConAtArguments) (saturated : ConIsSaturated) (o : Origins) (order : List ℕ) (sound : IsSound (setting_at o)) (earlier : List Module) (all : List ℕ) (P : ℕ → Type 0) (calls : ValuesFit o order earlier all P) where
  module _ (vars : List TypeTree) (scope : List Variable) (fit : Fits vars scope) (wide : (y : ℕ) → WideAt o.program.datas all scope y) (scoped : AreTermTypes (setting_at o) [] vars) (n w : ℕ) (t u : TypeTree) (k : Kind) (kind : HasKind (setting_at o) [] t k) (same : SameTypes t u) (has : HasWidth o.program.datas t w) where
    pub side_kept : {shown : List TypeTree} {e : TermTree} {p : Piece} → IsSide o shown e → ValueCells (ground_over (setting_at o) order) scope n w (head_of e) (types_of e) (operands_of e) p → AllByRecursion P (made_in e) → HasType (setting_at o) [] vars e u → StandFrom all n p.widths → Kept earlier all p
    side_kept (side_variable {x = x}) cells inside typed stand =
        record { agree = name_agrees earlier all cells (variable_wide facts law (setting_at o) all sound vars scope x t u k w fit (wide x) typed kind same has) stand; small = simple_small cells tt (part_of facts has) }
    side_kept side_literal cells inside typed stand = record { agree = literal_agrees facts earlier all values cells typed same has stand; small = simple_small cells tt (part_of facts has) }
    side_kept (side_constructor c types xs known count) cells inside typed stand =
        let at = cells_at (con c) types xs refl refl refl cells in
        record {
          agree = constructor_agrees facts law con_args saturated (setting_at o) all sound vars scope fit wide earlier scoped t u k c types xs kind same has stand typed at;
          small = constructor_small facts law values con_args saturated (setting_at o) all sound vars scope fit wide scoped t u k kind same has c types xs typed at;
        }
    side_kept (side_vector v xs) cells inside typed stand =
        record { agree = vector_agrees facts law earlier (setting_at o) all sound vars scope fit wide v t u k xs cells typed kind same has stand; small = simple_small cells tt (part_of facts has) }
    side_kept {shown} {e} (side_primitive q types xs (inl on) count) cells inside typed stand =
        let form : IsSide o shown e = side_primitive q types xs (inl on) count in
        let head : head_of e ≡ prim q = head_then (prim q) types (names xs) in
        record {
          agree = prim_cells_agree earlier all cells q head on (side_operands facts values (setting_at o) all vars scope fit wide law sound form scoped typed kind same has q head on) stand;
          small = word_small cells q head on (prim_gives facts law (setting_at o) sound form scoped typed kind same has q head on) (part_of facts has);
        }
    side_kept (side_primitive q types xs (inr takes) count) cells inside typed stand =
        element_kept facts law values con_args saturated (setting_at o) all sound vars scope fit wide scoped t u k kind same has earlier cells q types xs takes (head_then (prim q) types (names xs)) (types_after (prim q) types (names xs)) (operands_then (prim q) types (names xs)) typed stand
    side_kept {shown} {e} (side_call m xs {it = it} known value count) cells inside typed stand =
        let form : IsSide o shown e = side_call m xs known value count in
        let head : head_of e ≡ made m = head_then (made m) [] (names xs) in
        let c = call_of form m head in
        record {
          agree = calls_agree earlier all cells m head (λ types s l. calls vars scope e m n w t u k c.it c.known c.value head types c.variables typed kind same has fit wide (head_made P e m head inside) s l) stand;
          small = simple_small cells (subst IsSimple (sym head) tt) (part_of facts has);
        }
    side_kept (side_case i others) cells inside typed stand = elim cells [ ]
