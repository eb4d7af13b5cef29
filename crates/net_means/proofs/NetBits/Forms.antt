-- What is known of a block, of the bindings inside it, and of one right side: types, wires and form.
use Rattle.std.proofs.Common.{List, Some, [], ap, arith, length, nat_lt, refl, reverse, subst, suc, sym, true, zero, ℕ, ◌++◌, ◌+◌, ◌-◌, ◌<◌, ◌∙◌, ◌∷◌, ◌≡◌}
use Rattle.std.proofs.lemmas.Bool.{and_parts, ltb-true}
use Rattle.std.proofs.lemmas.List.{map-append}
use Rattle.std.specs.Prelude.{slice_get}
use Rattle.normal_forms.specs.Values.{IsBlock, block_letrec as letrec_is, AreSides, no_sides, side_and, IsSide}
use Rattle.chw_typing.specs.Typing.{AreBound, HasType, HasTypeUpTo, bound_and, h_letrec, none_bound}
use Rattle.normal_forms.specs.Circuits.{AreCircuitSides, IsCircuitBody, IsCircuitSide, circuit_letrec, circuit_side_and, no_circuit_sides}
use Rattle.chw_typing.specs.Scopes.{AreTermTypes, HasKind, Setting, declared, with_more}
use Rattle.net_grounds.specs.Facts.{Facts}
use Rattle.net_means.proofs.Lists.{map_reverse}
use Rattle.net_means.specs.CircuitBits.Instances.{Block, Design, Inside, inside_letrec, inside_variable}
use Rattle.chw_terms.specs.declared.scene.Sort.TheVariants.{Circuit, Value}
use Rattle.chw_types.specs.declared.declarations.Data.{Data}
use Rattle.net_built.specs.Circuits.{Ground}
use Rattle.chw_terms.specs.TermTree.{Group, TermTree, bind, letrec, no_bindings, var}
use Rattle.net_built.specs.Bodies.{GroupBuilt, SideBuilt, group_and, group_none, side_of_case, side_of_value}
use Rattle.chw_typing.specs.Programs.{GroupIsComplete, IsComplete}
use Rattle.graph_order.specs.References.{HasNoCycle, Leads, step, step_and}
use Rattle.net_built.specs.Loops.{HasNoLoops, HaveNoLoops, refers, side_at}
use Rattle.net_built.specs.Data.{HasParts, HaveWidths, value_part, variables_from}
use Rattle.chw_layout.specs.Measured.{HasWidth}
use Rattle.chw_types.specs.declared.kind.Kind.{Kind}
use Rattle.rewriting.specs.Origins.{Origins, setting_at}
use Rattle.net_built.specs.Wires.{Piece, new_wires, wire_count}
use Rattle.net_means.proofs.NetBits.Insides.{Place, outer_place, own_place, place_of}
use Rattle.layout_laws.specs.SameLayout.{SameKeepsMeasure}
use Rattle.net_means.proofs.NetFits.Scopes.{SizedAt}
use Rattle.chw_terms.specs.declared.scene.Sort.{Sort}
use Rattle.chw_meaning.specs.Values.{Thunks, body_at}
use Rattle.chw_types.specs.TypeTree.{TypeTree}
use Rattle.chw_types.specs.declared.kind.Kind.TheVariants.{Val}
use Rattle.net_built.specs.Terms.{Variable, variable}
use Rattle.chw_base.specs.declared.index.WireId.{WireId}
use Rattle.net_means.proofs.NetFits.CircuitBodies.{bound_held}
use Rattle.net_means.proofs.NetFits.Pieces.{count_from}
use Rattle.net_built.specs.Built.{ground_of}
use Rattle.net_means.proofs.NetFits.ValueDrivers.{letrec_sized}
use Rattle.chw_terms.specs.Occurs.{occurs}
use Rattle.rewriting.specs.Steps.{origins_in}
use Rattle.net_means.specs.SideBits.Sides.{types_in}

-- over what the terms of a design are typed
abbrev pub origins : Design → Origins
origins d = origins_in d.program d.state

abbrev pub setting : Design → Setting
setting d = setting_at (origins_in d.program d.state)

-- each variable in scope has the wires of its parts
abbrev pub ScopeHeld : List Data → Sort → List Variable → Type 0
ScopeHeld datas sort scope =
    (x : ℕ) (it : Variable) → slice_get scope x ≡ Some it → (widths : List ℕ) × HasParts datas sort it.ty widths × (length it.wires ≡ wire_count widths)

pub record ValueForm (d : Design) (e : TermTree) : Type 0 where
  pub names : List TypeTree
  pub block : IsBlock (origins d) names e
  pub free : HasNoLoops e
  pub complete : IsComplete d.program.datas e

abbrev pub FormOf : Design → Sort → TermTree → Type 0
FormOf d Value e = ValueForm d e
FormOf d Circuit e = IsCircuitBody (origins d) e

pub record Formed (d : Design) (b : Block) : Type 0 where
  pub scoped : AreTermTypes (setting d) [] (types_in b.scope)
  pub held : ScopeHeld d.program.datas b.sort b.scope
  pub type : TypeTree
  pub typed : HasType (setting d) [] (types_in b.scope) b.term type
  pub form : FormOf d b.sort b.term

pub record ValueGroup (d : Design) (g : Group) : Type 0 where
  pub names : List TypeTree
  pub sides : AreSides (origins d) names g
  pub acyclic : HasNoCycle (λ i j. refers g i j ≡ true)
  pub free : HaveNoLoops g
  pub complete : GroupIsComplete d.program.datas g

abbrev pub GroupForm : Design → Sort → Group → Type 0
GroupForm d Value g = ValueGroup d g
GroupForm d Circuit g = AreCircuitSides (origins d) g

pub record GroupFormed (d : Design) (sort : Sort) (g : Group) (scope : List Variable) : Type 0 where
  pub scoped : AreTermTypes (setting d) [] (types_in scope)
  pub held : ScopeHeld d.program.datas sort scope
  pub of : Kind
  pub bound : AreBound (setting d) [] (types_in scope) of g
  pub form : GroupForm d sort g

pub record ValueSide (d : Design) (e : TermTree) : Type 0 where
  pub names : List TypeTree
  pub side : IsSide (origins d) names e
  pub free : HasNoLoops e
  pub complete : IsComplete d.program.datas e

abbrev pub SideForm : Design → Sort → TermTree → Type 0
SideForm d Value e = ValueSide d e
SideForm d Circuit e = IsCircuitSide (origins d) e

-- a right side of this declared type
pub record SideFormed (d : Design) (sort : Sort) (scope : List Variable) (t : TypeTree) (e : TermTree) : Type 0 where
  pub kind : Kind
  pub kinded : HasKind (setting d) [] t kind
  pub typed : HasTypeUpTo (setting d) [] (types_in scope) e t
  pub form : SideForm d sort e

-- a binding among those
record Declared (d : Design) (vars : List TypeTree) (t : TypeTree) (e : TermTree) : Type 0 where
  kind : Kind
  kinded : HasKind (setting d) [] t kind
  typed : HasTypeUpTo (setting d) [] vars e t

declared_at : (d : Design) {vars : List TypeTree} {k : Kind} {g : Group} → AreBound (setting d) [] vars k g → (i : ℕ) (t : TypeTree) (e : TermTree) → slice_get (declared g) i ≡ Some t → body_at g i ≡ Some e → Declared d vars t e
declared_at d none_bound i t e is at = absurd cc
declared_at d {vars} (bound_and {j = j} {t = t} {u = u} {e = e} kind functions typed same more) zero v f is at =
    let type : t ≡ v = cc in
    let term : e ≡ f = cc in
    subst (λ v. Declared d vars v f) type
    (subst (λ f. Declared d vars t f) term (record { kind = j; kinded = kind; typed = record { type = u; has = typed; same = same } }))
declared_at d (bound_and kind functions typed same more) (suc i) v f is at = declared_at d more i v f is at

sides_at : {o : Origins} {names : List TypeTree} {g : Group} → AreSides o names g → (i : ℕ) (e : TermTree) → body_at g i ≡ Some e → IsSide o names e
sides_at no_sides i e at = absurd cc
sides_at {o} {names} (side_and {e = f} r side more) zero e at = let is : f ≡ e = cc in subst (IsSide o names) is side
sides_at (side_and r side more) (suc i) e at = sides_at more i e at

free_at : (g : Group) (i : ℕ) (e : TermTree) → HaveNoLoops g → body_at g i ≡ Some e → HasNoLoops e
free_at no_bindings i e free at = absurd cc
free_at (bind t f g) zero e free at = let is : f ≡ e = cc in subst HasNoLoops is free.0
free_at (bind t f g) (suc i) e free at = free_at g i e free.1 at

complete_at : (datas : List Data) (g : Group) (i : ℕ) (e : TermTree) → GroupIsComplete datas g → body_at g i ≡ Some e → IsComplete datas e
complete_at datas no_bindings i e all at = absurd cc
complete_at datas (bind t f g) zero e all at = let is : f ≡ e = cc in subst (IsComplete datas) is all.0
complete_at datas (bind t f g) (suc i) e all at = complete_at datas g i e all.1 at

circuit_at : {o : Origins} {g : Group} → AreCircuitSides o g → (i : ℕ) (e : TermTree) → body_at g i ≡ Some e → IsCircuitSide o e
circuit_at no_circuit_sides i e at = absurd cc
circuit_at {o} (circuit_side_and {e = f} port side more) zero e at = let is : f ≡ e = cc in subst (IsCircuitSide o) is side
circuit_at (circuit_side_and port side more) (suc i) e at = circuit_at more i e at

pub form_at : (d : Design) (sort : Sort) (g : Group) (i : ℕ) (e : TermTree) → GroupForm d sort g → body_at g i ≡ Some e → SideForm d sort e
form_at d Value g i e form at = record { names = form.names; side = sides_at form.sides i e at; free = free_at g i e form.free at; complete = complete_at d.program.datas g i e form.complete at }
form_at d Circuit g i e form at = circuit_at form i e at

pub side_formed : (d : Design) {sort : Sort} {g : Group} {scope : List Variable} → GroupFormed d sort g scope → (i : ℕ) (t : TypeTree) (e : TermTree) → slice_get (declared g) i ≡ Some t → body_at g i ≡ Some e → SideFormed d sort scope t e
side_formed d {sort} {g} {scope} formed i t e is at =
    let a = declared_at d formed.bound i t e is at in
    record { kind = a.kind; kinded = a.kinded; typed = a.typed; form = form_at d sort g i e formed.form at }

-- the variables of several that come in turn before others
pub held_onto : (datas : List Data) (sort : Sort) (b scope : List Variable) → ScopeHeld datas sort b → ScopeHeld datas sort scope → ScopeHeld datas sort (reverse b ++ scope)
held_onto datas sort b scope first rest x it e = by (place_of b scope x it e)
  where
    by : Place b scope x it → (widths : List ℕ) × HasParts datas sort it.ty widths × (length it.wires ≡ wire_count widths)
    by (own_place i place at) = first i it at
    by (outer_place z place at) = rest z it at

pub types_onto : (b scope : List Variable) → types_in (reverse b ++ scope) ≡ with_more (types_in b) (types_in scope)
types_onto b scope =
    map-append (λ (v : Variable). v.ty) (reverse b) scope ∙ ap (λ ts. ts ++ types_in scope) (map_reverse (λ (v : Variable). v.ty) b)

-- a variable of these parts
pub one_held : (datas : List Data) (sort : Sort) (t : TypeTree) (n : ℕ) (widths : List ℕ) (scope : List Variable) → HasParts datas sort t widths → ScopeHeld datas sort scope → ScopeHeld datas sort (variable t (new_wires n widths) ∷ scope)
one_held datas sort t n widths scope parts rest zero it e =
    let is : variable t (new_wires n widths) ≡ it = cc in
    subst (λ (v : Variable). (ws : List ℕ) × HasParts datas sort v.ty ws × (length v.wires ≡ wire_count ws)) is (widths, parts, count_from n (wire_count widths))
one_held datas sort t n widths scope parts rest (suc x) it e = rest x it e

pub none_held : (datas : List Data) (sort : Sort) → ScopeHeld datas sort []
none_held datas sort x it e = absurd cc

pub fields_held : (datas : List Data) (n : ℕ) (ts : List TypeTree) (ws : List ℕ) → HaveWidths datas ts ws → ScopeHeld datas Value (variables_from n ts ws)
fields_held datas n [] [] h = none_held datas Value
fields_held datas n [] (w ∷ ws) h = absurd h
fields_held datas n (t ∷ ts) [] h = absurd h
fields_held datas n (t ∷ ts) (w ∷ ws) h =
    one_held datas Value t n (w ∷ []) (variables_from (n + wire_count (w ∷ [])) ts ws) (value_part h.0) (fields_held datas (n + wire_count (w ∷ [])) ts ws h.1)

pub value_parts : {datas : List Data} {t : TypeTree} {ws : List ℕ} → HasParts datas Value t ws → (w : ℕ) × HasWidth datas t w × (ws ≡ w ∷ [])
value_parts (value_part {w = w} h) = (w, h, refl)

-- so it is counted as net_fits counts
pub held_sized : Facts → (s : Setting) (scope : List Variable) → ScopeHeld s.datas Value scope → (x : ℕ) → SizedAt s scope x
held_sized facts s scope held x v w e h =
    let all = held x v e in
    let part = value_parts all.1 in
    all.2 ∙ ap (λ ws. wire_count ws) part.2 ∙ ap (λ w. wire_count (w ∷ [])) (facts.widths.width_once part.1 h)

-- the bindings of values have widths
bound_wide : {ground : Ground} {scope : List Variable} {n : ℕ} {g : Group} {p : Piece} {b : List Variable} → GroupBuilt ground Value scope n g p b → (x : ℕ) (it : Variable) → slice_get b x ≡ Some it → (w : ℕ) × HasWidth ground.datas it.ty w
bound_wide group_none x it e = absurd cc
bound_wide {ground} (group_and {t = t} {wires = wires} side more) zero it e =
    let is : variable t wires ≡ it = cc in
    subst (λ (v : Variable). (w : ℕ) × HasWidth ground.datas v.ty w) is (side_wide side)
  where
    side_wide : {scope : List Variable} {n : ℕ} {t : TypeTree} {e : TermTree} {p : Piece} {r : List WireId} → SideBuilt ground Value scope n t e p r → (w : ℕ) × HasWidth ground.datas t w
    side_wide (side_of_value {w = w} has cells) = (w, has)
    side_wide (side_of_case {w = w} on at wide has is alts) = (w, has)
bound_wide (group_and side more) (suc x) it e = bound_wide more x it e

none_refers : HasNoCycle (λ i j. refers no_bindings i j ≡ true)
none_refers a leads = first leads
  where
    never : (i j : ℕ) → refers no_bindings i j ≡ true → ⊥
    never i j e =
        let parts = and_parts (nat_lt j 0) (occurs (side_at no_bindings i) (0 - 1 - j)) e in
        let l : j < 0 = ltb-true j 0 parts.0 in
        omega (arith, l)

    first : {a b : ℕ} → Leads (λ i j. refers no_bindings i j ≡ true) a b → ⊥
    first (step {a = a} {b = b} s) = never a b s
    first (step_and {a = a} {b = b} s more) = never a b s

module _ (facts : Facts) (law : SameKeepsMeasure) (d : Design) where
  sized_inside : (scope : List Variable) {n : ℕ} {g : Group} {p : Piece} {k : Kind} (b : List Variable) → GroupBuilt (ground_of d.program d.built.order) Value (reverse b ++ scope) n g p b → AreBound (setting d) [] (with_more (declared g) (types_in scope)) k g → ScopeHeld d.program.datas Value scope
      → HasNoCycle (λ i j. refers g i j ≡ true) → HaveNoLoops g → ScopeHeld d.program.datas Value (reverse b ++ scope)
  sized_inside scope b more bound held acyclic free x it e = by (place_of b scope x it e)
    where
      sized : SizedAt (setting d) (reverse b ++ scope) x
      sized = letrec_sized facts law (setting d) d.built.order d.sound b more bound (record { same = facts.scopes.are_same_self (types_in scope) }) (held_sized facts (setting d) scope held) acyclic free x

      by : Place b scope x it → (widths : List ℕ) × HasParts d.program.datas Value it.ty widths × (length it.wires ≡ wire_count widths)
      by (outer_place z place at) = held z it at
      by (own_place i place at) = let w = bound_wide more i it at in (w.0 ∷ [], value_part w.1, sized it w.0 e w.1)

  ports_held : (scope : List Variable) {n : ℕ} {g : Group} {p : Piece} (b : List Variable) → GroupBuilt (ground_of d.program d.built.order) Circuit (reverse b ++ scope) n g p b → ScopeHeld d.program.datas Circuit scope → ScopeHeld d.program.datas Circuit (reverse b ++ scope)
  ports_held scope b more held = held_onto d.program.datas Circuit b scope (λ x it e. let h = bound_held {s = setting d} {order = d.built.order} more x it e in (h.parts, h.have, h.count)) held

  group_of : {names : List TypeTree} {g : Group} {x : ℕ} → IsBlock (origins d) names (letrec g (var x)) → HasNoCycle (λ i j. refers g i j ≡ true) → HaveNoLoops g → GroupIsComplete d.program.datas g → ValueGroup d g
  group_of (letrec_is sides cycle) acyclic free complete = record { names = _; sides = sides; acyclic = acyclic; free = free; complete = complete }

  circuit_of : {g : Group} {x : ℕ} → IsCircuitBody (origins d) (letrec g (var x)) → AreCircuitSides (origins d) g
  circuit_of (circuit_letrec sides) = sides

  letrec_formed : (sort : Sort) (scope : List Variable) {n x : ℕ} {g : Group} {p : Piece} {t : TypeTree} (b : List Variable) → GroupBuilt (ground_of d.program d.built.order) sort (reverse b ++ scope) n g p b → AreTermTypes (setting d) [] (types_in scope) → ScopeHeld d.program.datas sort scope
      → HasType (setting d) [] (types_in scope) (letrec g (var x)) t → FormOf d sort (letrec g (var x)) → GroupFormed d sort g (reverse b ++ scope)
  letrec_formed Value scope {g = g} b more scoped held (h_letrec {k = k} typed kind bound) form =
      let types : with_more (declared g) (types_in scope) ≡ types_in (reverse b ++ scope) = ap (λ ts. with_more ts (types_in scope)) (sym (facts.built.bound_types more)) ∙ sym (types_onto b scope) in
      let inner : AreTermTypes (setting d) [] (with_more (declared g) (types_in scope)) = facts.scopes.typed_more (setting d) [] (declared g) (types_in scope) (facts.scopes.bound_typed bound) scoped in
      record {
        scoped = subst (AreTermTypes (setting d) []) types inner;
        held = sized_inside scope b more bound held form.free.0 form.free.1;
        of = k;
        bound = subst (λ vars. AreBound (setting d) [] vars k g) types bound;
        form = group_of form.block form.free.0 form.free.1 form.complete.0;
      }
  letrec_formed Circuit scope {g = g} b more scoped held (h_letrec {k = k} typed kind bound) form =
      let types : with_more (declared g) (types_in scope) ≡ types_in (reverse b ++ scope) = ap (λ ts. with_more ts (types_in scope)) (sym (facts.built.bound_types more)) ∙ sym (types_onto b scope) in
      let inner : AreTermTypes (setting d) [] (with_more (declared g) (types_in scope)) = facts.scopes.typed_more (setting d) [] (declared g) (types_in scope) (facts.scopes.bound_typed bound) scoped in
      record {
        scoped = subst (AreTermTypes (setting d) []) types inner;
        held = ports_held scope b more held;
        of = k;
        bound = subst (λ vars. AreBound (setting d) [] vars k g) types bound;
        form = circuit_of form;
      }

  nothing_formed : (sort : Sort) → GroupForm d sort no_bindings
  nothing_formed Value = record { names = []; sides = no_sides; acyclic = none_refers; free = tt; complete = tt }
  nothing_formed Circuit = no_circuit_sides

  pub inside_formed : {path : List ℕ} {b : Block} {g : Group} {scope : List Variable} {γ : Thunks} → Inside d path b g scope γ → Formed d b → GroupFormed d b.sort g scope
  inside_formed (inside_variable {sort = sort}) formed = record { scoped = formed.scoped; held = formed.held; of = Val; bound = none_bound; form = nothing_formed sort }
  inside_formed (inside_letrec {sort = sort} {scope = scope} {bound = bound} built has wide) formed = letrec_formed sort scope bound built formed.scoped formed.held formed.typed formed.form
