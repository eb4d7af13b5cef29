-- The cells of circuits read wires of their module alone.
use Rattle.std.proofs.Common.{◌≡◌, ℕ, zero, suc, ◌+◌, ◌-◌, ◌<◌, ◌≤◌, arith, Bool, List, [], ◌∷◌, ◌++◌, length, reverse, Some, refl, sym, ap, ◌∙◌, subst, length-append}
use Rattle.std.specs.List.{slice_get, AllByRecursion}
use Rattle.std.proofs.lemmas.List.{append-nil}
use Rattle.chw_base.specs.declared.index.DomId.{DomId}
use Rattle.chw_base.specs.declared.index.WireId.{WireId}
use Rattle.chw_types.specs.declared.kind.Kind.{Kind}
use Rattle.chw_types.specs.Kinds.{kind_domain}
use Rattle.chw_types.specs.SameTypes.{SameTypes}
use Rattle.chw_types.specs.TypeTree.{TypeTree, domain}
use Rattle.chw_prims.specs.declared.prim.Primitive.TheVariants.{Fmap, Ap}
use Rattle.chw_terms.specs.declared.scene.Sort.TheVariants.{Value, Circuit}
use Rattle.chw_terms.specs.TermTree.{TermTree, var, made, prim, Group}
use Rattle.chw_typing.specs.Programs.{IsSound}
use Rattle.chw_typing.specs.Scopes.{Setting, HasKind, AreTermTypes, AreSame, with_more, declared}
use Rattle.chw_typing.specs.Typing.{HasType, h_var, h_global, h_made, h_lam, h_app, h_ty_lam, h_ty_app, h_letrec, h_con, h_prim, h_lit, h_vec, h_case, AreBound, none_bound, bound_and}
use Rattle.chw_layout.specs.Measured.{closed_value}
use Rattle.netlist.specs.declared.net.Cell.{Cell}
use Rattle.netlist.specs.declared.net.Cell.TheVariants.{Reg, Ram, Use}
use Rattle.netlist.specs.declared.net.RamIn.{RamIn}
use Rattle.rewriting.specs.Named.{UnderLambdas, under_none, under_one}
use Rattle.rewriting.specs.Origins.{MadeOf, Origins, setting_at}
use Rattle.rewriting.specs.Shapes.{IsVariable, fmap_of, ap_of}
use Rattle.normal_forms.specs.Circuits.{IsCircuitSide, AreCircuitSides, no_circuit_sides, circuit_side_and, IsCircuitBody, circuit_letrec, IsLiftedCall, lifted_on_one, lifted_on_more}
use Rattle.net_built.specs.Bodies.{block_variable, block_letrec, GroupBuilt, group_none, group_and, side_of_circuit, BodyBuilt, body_lambda, body_block}
use Rattle.net_built.specs.Circuits.{Ground, module_of, IsLifted, CircuitCells, of_variable, of_synchronizer, of_pure, of_register, of_block_ram, of_mapped, of_lifted, of_call, of_product, of_projection}
use Rattle.net_built.specs.Data.{HasParts}
use Rattle.net_built.specs.Memories.{memory}
use Rattle.net_built.specs.Modules.{made_in, made_in_group}
use Rattle.net_built.specs.Terms.{head_of, types_of, operands_of, Variable, wires_at, wires_of, wires_of_all}
use Rattle.net_built.specs.Wires.{wire, wire_count, new_wires, present, Piece, after}
use Rattle.net_built.specs.Words.{only}
use Rattle.net_grounds.specs.Facts.{Facts}
use Rattle.net_means.specs.NetFits.Laws.{ground_over}
use Rattle.net_means.proofs.NetFits.Calls.{lifted_on, is_lifted}
use Rattle.net_means.proofs.NetFits.CallShapes.{IsNoCall, CallShape, a_lifted, a_call, no_call, call_shape, head_made, operands_made, all_first, all_rest}
use Rattle.net_means.proofs.NetFits.CircuitBodies.{held_and, held_onto, bound_held}
use Rattle.net_means.proofs.NetFits.CircuitDrivers.{PortsHeld}
use Rattle.net_means.proofs.NetFits.Pieces.{count_from}
use Rattle.net_means.proofs.NetFits.Reading.{Under, IsPlain, Reads, all_append, all_reverse, under_from, under_field, only_below, none_reads, then_reads, kept_reads, const_reads, memory_reads, copies_read, used_reads}
use Rattle.net_means.proofs.NetFits.Scopes.{Fits, fits_more, wires_there}
use Rattle.net_means.proofs.NetFits.ValueReads.{then_room, of_under, all_under}

-- the variables in scope have wires
abbrev pub ScopeUnder : ℕ → List Variable → Type 0
ScopeUnder total scope = AllByRecursion (λ (v : Variable). Under total v.wires) scope

long_cons : (x : ℕ) (xs : List ℕ) → 1 ≤ length (x ∷ xs)
long_cons x xs = omega arith

memory_long : (w k at : ℕ) (d : DomId) (words : List (List Bool)) (read write : List WireId) → wire_count (w ∷ []) ≤ length (memory w k at d words read write).widths
memory_long zero k at d words read write = omega arith
memory_long (suc w) k at d words read write = long_cons 1 _

-- a right side has at least the wires of its own parts
side_long : {ground : Ground} {scope : List Variable} {n : ℕ} {widths : List ℕ} {h : TermTree} {ts : List TypeTree} {es : List TermTree} {p : Piece} → CircuitCells ground scope n widths h ts es p → wire_count widths ≤ length p.widths
side_long of_variable = omega arith
side_long of_synchronizer = omega arith
side_long (of_pure b) = omega arith
side_long (of_register b) = omega arith
side_long (of_block_ram {w = w} {k = k} b) = memory_long w (closed_value k) _ _ _ _ _
side_long of_mapped = omega arith
side_long (of_lifted a) = omega arith
side_long of_call = omega arith
side_long of_product = omega arith
side_long (of_projection parts i pattern have) = omega arith

module _ (total : ℕ) where
  pub at_under : (scope : List Variable) → ScopeUnder total scope → (x : ℕ) → Under total (wires_at scope x)
  at_under [] h zero = tt
  at_under [] h (suc x) = tt
  at_under (v ∷ scope) h zero = h.0
  at_under (v ∷ scope) h (suc x) = at_under scope h.1 x

  module _ {ground : Ground} where
    pub bound_under : {scope : List Variable} {n : ℕ} {g : Group} {p : Piece} {b : List Variable} → GroupBuilt ground Circuit scope n g p b → after n p ≤ total → ScopeUnder total b
    bound_under group_none room = tt
    bound_under {n = n} (group_and {p = p} {q = q} (side_of_circuit {widths = widths} parts cells) more) room =
        let rooms = then_room total n p q room in
        let long = side_long cells in
        let r : n + length p.widths ≤ total = rooms.0 in
        let fits : n + length p.widths - wire_count widths + wire_count widths ≤ total = omega (arith, r, long) in
        (under_from total (n + length p.widths - wire_count widths) (wire_count widths) fits, bound_under more rooms.1)

-- of the cells of a right side this holds, of those that keep something and of uses
pub record CircuitUses (A : Cell → Type 0) (ground : Ground) (scope : List Variable) (n : ℕ) (widths : List ℕ) (h : TermTree) (ts : List TypeTree) (es : List TermTree) : Type 0 where
  pub reg : (d : ℕ) (more : List TypeTree) → ts ≡ domain d ∷ more → (w : WireId) (bits : List Bool) (a : WireId) → A (Reg w (record { number = d }) bits a)
  pub ram : (d : ℕ) (more : List TypeTree) → ts ≡ domain d ∷ more → (words : List (List Bool)) (w : WireId) (inputs : RamIn) → A (Ram w (record { number = d }) words inputs)
  pub mapped : (m : ℕ) (x : TermTree) → h ≡ prim Fmap → es ≡ made m ∷ x ∷ [] → 1 ≤ wire_count widths → A (Use (module_of ground m) (wires_of scope x) (new_wires n widths))
  pub lifted : (m : ℕ) (u x : TermTree) (xs : List TermTree) → h ≡ prim Ap → es ≡ u ∷ x ∷ [] → IsLifted m u xs → 1 ≤ wire_count widths → A (Use (module_of ground m) (wires_of_all scope (xs ++ x ∷ [])) (new_wires n widths))
  pub called : (m : ℕ) → h ≡ made m → ts ≡ [] → 1 ≤ wire_count widths → A (Use (module_of ground m) (wires_of_all scope es) (new_wires n widths))

module _ (A : Cell → Type 0) (plain : (cell : Cell) → IsPlain cell → A cell) (total : ℕ) where
  circuit_reads : {ground : Ground} {scope : List Variable} {n : ℕ} {widths : List ℕ} {h : TermTree} {ts : List TypeTree} {es : List TermTree} {p : Piece} → CircuitCells ground scope n widths h ts es p → CircuitUses A ground scope n widths h ts es → ((x : ℕ) → Under total (wires_at scope x)) → after n p ≤ total → Reads A total p
  circuit_reads {n = n} {widths} (of_variable {x = x}) uses h room = copies_read A plain total n _ widths (λ l. h x)
  circuit_reads {scope = scope} {n} {widths} (of_synchronizer {x = x}) uses h room = copies_read A plain total n _ widths (λ l. of_under total scope h x)
  circuit_reads {n = n} (of_pure {w = w} {bits = bits} b) uses h room = const_reads A plain total n w bits room
  circuit_reads {scope = scope} {n} (of_register {w = w} {d = d} {a = a} {x = x} {bits = bits} b) uses h room =
      kept_reads A plain total n w _ refl (uses.reg d (a ∷ []) refl (wire n) bits (only (wires_of scope x))) room (λ l.
      let much : 1 ≤ total = omega (arith, l) in
      (only_below total (wires_of scope x) much (of_under total scope h x), tt))
  circuit_reads {scope = scope} {n} (of_block_ram {w = w} {d = d} {m = m} {k = k} {a = a} {x = x} {y = y} {words = words} b) uses h room =
      memory_reads A plain total w (closed_value k) n _ _ _ _ (uses.ram d (m ∷ k ∷ a ∷ []) refl words) (λ l. of_under total scope h x) (λ l. of_under total scope h y) room
  circuit_reads {ground} {scope} {n} {widths} (of_mapped {m = m} {x = x}) uses h room = used_reads A plain total ground m n _ widths (λ l. of_under total scope h x) (uses.mapped m x refl refl)
  circuit_reads {ground} {scope} {n} {widths} (of_lifted {m = m} {u = u} {x = x} {xs = xs} a) uses h room = used_reads A plain total ground m n _ widths (λ l. all_under total scope h (xs ++ x ∷ [])) (uses.lifted m u x xs refl refl a)
  circuit_reads {ground} {scope} {n} {widths} (of_call {m = m} {es = es}) uses h room = used_reads A plain total ground m n _ widths (λ l. all_under total scope h es) (uses.called m refl refl)
  circuit_reads {scope = scope} {n} {widths} (of_product {es = es}) uses h room = copies_read A plain total n _ widths (λ l. all_under total scope h es)
  circuit_reads {scope = scope} {n} {widths} (of_projection {x = x} {it = it} parts i pattern have) uses h room =
      copies_read A plain total n _ widths (λ l. under_field total _ parts it.wires (subst (Under total) (wires_there scope x it i) (h x)))

-- lifted calls of made definitions of which one thing holds: of their uses another holds
abbrev pub LiftedCalls : Origins → List ℕ → (Cell → Type 0) → (ℕ → Type 0) → Type 0
LiftedCalls o order A P =
    (vars : List TypeTree) (scope : List Variable) (e : TermTree) (count m : ℕ) (lifted : IsLiftedCall m e count) (n : ℕ) (ws : List ℕ) (t u : TypeTree) (k : Kind) (it : MadeOf) → slice_get o.made m ≡ Some it → it.sort ≡ Value
    → HasType (setting_at o) [] vars e u → HasKind (setting_at o) [] t k → SameTypes t u → HasParts o.program.datas Circuit t ws → Fits vars scope → PortsHeld (setting_at o) scope → AreTermTypes (setting_at o) [] vars
    → P m → 1 ≤ wire_count ws → A (Use (module_of (ground_over (setting_at o) order) m) (wires_of_all scope (lifted_on lifted)) (new_wires n ws))

-- so calls of circuits
abbrev pub CircuitCalls : Origins → List ℕ → (Cell → Type 0) → (ℕ → Type 0) → Type 0
CircuitCalls o order A P =
    (vars : List TypeTree) (scope : List Variable) (e : TermTree) (m n : ℕ) (ws : List ℕ) (t u : TypeTree) (k : Kind) (it : MadeOf) → slice_get o.made m ≡ Some it → it.sort ≡ Circuit
    → head_of e ≡ made m → types_of e ≡ [] → AllByRecursion IsVariable (operands_of e)
    → HasType (setting_at o) [] vars e u → HasKind (setting_at o) [] t k → SameTypes t u → HasParts o.program.datas Circuit t ws → Fits vars scope → PortsHeld (setting_at o) scope
    → P m → 1 ≤ wire_count ws → A (Use (module_of (ground_over (setting_at o) order) m) (wires_of_all scope (operands_of e)) (new_wires n ws))

-- and registers and memories of domains that exist
pub record DomainCells (domains : ℕ) (A : Cell → Type 0) : Type 0 where
  pub reg : (d : ℕ) → d < domains → (w : WireId) (bits : List Bool) (a : WireId) → A (Reg w (record { number = d }) bits a)
  pub ram : (d : ℕ) → d < domains → (words : List (List Bool)) (w : WireId) (inputs : RamIn) → A (Ram w (record { number = d }) words inputs)

abbrev Kinded : Setting → TypeTree → Type 0
Kinded s t = (k : Kind) × HasKind s [] t k

-- the types to which a typed term applies its head have kinds
types_kinded : (s : Setting) (vars : List TypeTree) {e : TermTree} {u : TypeTree} → HasType s [] vars e u → AllByRecursion (Kinded s) (types_of e)
types_kinded s vars (h_app {f = f} typed given same) = types_kinded s vars typed
types_kinded s vars (h_ty_app {j = j} {a = a} {f = f} typed kind same of) = all_append (Kinded s) (types_of f) (a ∷ []) (types_kinded s vars typed) ((j, kind), tt)
types_kinded s vars (h_var is) = tt
types_kinded s vars (h_global is) = tt
types_kinded s vars (h_made is) = tt
types_kinded s vars (h_lam typed kind) = tt
types_kinded s vars (h_ty_lam typed) = tt
types_kinded s vars (h_letrec typed kind bound) = tt
types_kinded s vars (h_con is) = tt
types_kinded s vars h_prim = tt
types_kinded s vars (h_lit l) = tt
types_kinded s vars (h_vec kind all) = tt
types_kinded s vars (h_case typed looked kind b has of_kind functions more hidden) = tt

domain_there : (s : Setting) (d : ℕ) → Kinded s (domain d) → d < s.domains
domain_there s d (k, kind) = of kind
  where
    of : {k : Kind} → HasKind s [] (domain d) k → d < s.domains
    of (kind_domain l) = l

lifted_made : (P : ℕ → Type 0) {m n : ℕ} {e : TermTree} → IsLiftedCall m e n → AllByRecursion P (made_in e) → P m
lifted_made P {e = e} lifted_on_one all = (operands_made P e all).0.0
lifted_made P {e = e} (lifted_on_more before) all = lifted_made P before (operands_made P e all).0

module _ (facts : Facts) (o : Origins) (order : List ℕ) (sound : IsSound (setting_at o)) (A : Cell → Type 0) (plain : (cell : Cell) → IsPlain cell → A cell) (P : ℕ → Type 0) (cells_of : DomainCells (length o.program.domains) A) (lifted_calls : LiftedCalls o order A P) (circuit_calls : CircuitCalls o order A P) where
  module _ (vars : List TypeTree) (scope : List Variable) (n : ℕ) (ws : List ℕ) (t u : TypeTree) (k : Kind) (kind : HasKind (setting_at o) [] t k) (same : SameTypes t u) (has : HasParts o.program.datas Circuit t ws) (fit : Fits vars scope) (held : PortsHeld (setting_at o) scope) (scoped : AreTermTypes (setting_at o) [] vars) where
    mapped_of : {e : TermTree} → CallShape o e → AllByRecursion P (made_in e) → HasType (setting_at o) [] vars e u → (m : ℕ) (x : TermTree) → head_of e ≡ prim Fmap → operands_of e ≡ made m ∷ x ∷ [] → 1 ≤ wire_count ws → A (Use (module_of (ground_over (setting_at o) order) m) (wires_of scope x) (new_wires n ws))
    mapped_of {e} (a_lifted j it known value (lifted_on_one {d = d} {a = a} {b = b} {x = y})) inside typed m x h es l =
        let is : j ≡ m = cc in
        let operand : var y ≡ x = cc in
        let found_use = lifted_calls vars scope (fmap_of d a b (made j) (var y)) 1 j lifted_on_one n ws t u k it known value typed kind same has fit held scoped (lifted_made P {e = fmap_of d a b (made j) (var y)} lifted_on_one inside) l in
        let wires : wires_at scope y ++ [] ≡ wires_of scope x = append-nil (wires_at scope y) ∙ ap (λ e. wires_of scope e) operand in
        subst (λ m. A (Use (module_of (ground_over (setting_at o) order) m) (wires_of scope x) (new_wires n ws))) is
        (subst (λ (reads : List WireId). A (Use (module_of (ground_over (setting_at o) order) j) reads (new_wires n ws))) wires found_use)
    mapped_of (a_lifted j it known value (lifted_on_more before)) inside typed m x h es l = absurd cc
    mapped_of (a_call j it known circuit head variables) inside typed m x h es l = let e : made j ≡ prim Fmap = sym head ∙ h in absurd cc
    mapped_of (no_call other) inside typed m x h es l = absurd ((subst IsNoCall h other).0 refl)

    lifted_of : {e : TermTree} → CallShape o e → AllByRecursion P (made_in e) → HasType (setting_at o) [] vars e u → (m : ℕ) (f x : TermTree) (xs : List TermTree) → head_of e ≡ prim Ap → operands_of e ≡ f ∷ x ∷ [] → IsLifted m f xs → 1 ≤ wire_count ws → A (Use (module_of (ground_over (setting_at o) order) m) (wires_of_all scope (xs ++ x ∷ [])) (new_wires n ws))
    lifted_of (a_lifted j it known value lifted_on_one) inside typed m f x xs h es is_call l = absurd cc
    lifted_of (a_lifted j it known value (lifted_on_more {d = d} {a = a} {b = b} {u = g} {x = y} {n = count} before)) inside typed m f x xs h es is_call l =
        let function : g ≡ f = cc in
        let operand : var y ≡ x = cc in
        let once = facts.built.lifted_once (is_lifted before) is_call function in
        let operands : lifted_on before ++ var y ∷ [] ≡ xs ++ x ∷ [] = λ i. once.1 i ++ operand i ∷ [] in
        let found_use = lifted_calls vars scope (ap_of d a b g (var y)) (suc count) j (lifted_on_more before) n ws t u k it known value typed kind same has fit held scoped (lifted_made P {e = ap_of d a b g (var y)} (lifted_on_more before) inside) l in
        subst (λ m. A (Use (module_of (ground_over (setting_at o) order) m) (wires_of_all scope (xs ++ x ∷ [])) (new_wires n ws))) once.0
        (subst (λ (es : List TermTree). A (Use (module_of (ground_over (setting_at o) order) j) (wires_of_all scope es) (new_wires n ws))) operands found_use)
    lifted_of (a_call j it known circuit head variables) inside typed m f x xs h es is_call l = let e : made j ≡ prim Ap = sym head ∙ h in absurd cc
    lifted_of (no_call other) inside typed m f x xs h es is_call l = absurd ((subst IsNoCall h other).1 refl)

    called_of : {e : TermTree} → CallShape o e → AllByRecursion P (made_in e) → HasType (setting_at o) [] vars e u → (m : ℕ) → head_of e ≡ made m → types_of e ≡ [] → 1 ≤ wire_count ws → A (Use (module_of (ground_over (setting_at o) order) m) (wires_of_all scope (operands_of e)) (new_wires n ws))
    called_of (a_lifted j it known value lifted_on_one) inside typed m h ts l = absurd cc
    called_of (a_lifted j it known value (lifted_on_more before)) inside typed m h ts l = absurd cc
    called_of {e} (a_call j it known circuit head variables) inside typed m h ts l =
        let number : made j ≡ made m = sym head ∙ h in
        let is : j ≡ m = cc in
        circuit_calls vars scope e m n ws t u k it (subst (λ j. slice_get o.made j ≡ Some it) is known) circuit h ts variables typed kind same has fit held (head_made P e m h inside) l
    called_of (no_call other) inside typed m h ts l = absurd (subst IsNoCall h other)

    side_uses : {e : TermTree} → IsCircuitSide o e → AllByRecursion P (made_in e) → HasType (setting_at o) [] vars e u → CircuitUses A (ground_over (setting_at o) order) scope n ws (head_of e) (types_of e) (operands_of e)
    side_uses form inside typed =
        let kinds = types_kinded (setting_at o) vars typed in
        record {
          reg = λ d more ts. cells_of.reg d (domain_there (setting_at o) d (subst (AllByRecursion (Kinded (setting_at o))) ts kinds).0);
          ram = λ d more ts. cells_of.ram d (domain_there (setting_at o) d (subst (AllByRecursion (Kinded (setting_at o))) ts kinds).0);
          mapped = mapped_of (call_shape form) inside typed;
          lifted = lifted_of (call_shape form) inside typed;
          called = called_of (call_shape form) inside typed;
        }

  module _ (total : ℕ) where
    group_reads : {scope : List Variable} {vars : List TypeTree} {n : ℕ} {g : Group} {p : Piece} {b : List Variable} {k : Kind} → GroupBuilt (ground_over (setting_at o) order) Circuit scope n g p b → AreCircuitSides o g → AllByRecursion P (made_in_group g) → AreBound (setting_at o) [] vars k g → Fits vars scope → PortsHeld (setting_at o) scope → AreTermTypes (setting_at o) [] vars
        → ((x : ℕ) → Under total (wires_at scope x)) → after n p ≤ total → Reads A total p
    group_reads group_none no_circuit_sides inside none_bound fit held scoped h room = none_reads A plain total
    group_reads {scope} {vars} {n} (group_and {t = t} {e = e} {g = g} {p = p} {q = q} (side_of_circuit {widths = widths} parts cells) more) (circuit_side_and port form forms) inside (bound_and {j = j} {u = u} kind functions typed same rest) fit held scoped h room =
        then_reads A plain total n p q room
        (λ k. circuit_reads A plain total cells (side_uses vars scope n widths t u j kind same parts fit held scoped form (all_first P (made_in e) (made_in_group g) inside) typed) h k)
        (λ k. group_reads more forms (all_rest P (made_in e) (made_in_group g) inside) rest fit held scoped h k)

    -- the cells of a body, and its outputs
    pub circuit_body_reads : {scope : List Variable} {vars names : List TypeTree} {n : ℕ} {e inner : TermTree} {ty u : TypeTree} {path inputs : List ℕ} {p : Piece} {outputs : List WireId} → BodyBuilt (ground_over (setting_at o) order) Circuit scope n e inputs p outputs → UnderLambdas vars e ty path names inner → IsCircuitBody o inner → AllByRecursion P (made_in e)
        → HasType (setting_at o) [] vars e u → Fits vars scope → PortsHeld (setting_at o) scope → AreTermTypes (setting_at o) [] vars
        → n + length inputs + length p.widths ≤ total → ScopeUnder total scope → Reads A total p × Under total outputs
    circuit_body_reads {scope} {n = n} {p = p} (body_lambda {t = t} {widths = widths} {inputs = ins} parts more) (under_one along under) form inside (h_lam {k = k} typed kind) fit held scoped room h =
        let count : length (present widths ++ ins) ≡ wire_count widths + length ins = length-append (present widths) ins in
        let r : n + length (present widths ++ ins) + length p.widths ≤ total = room in
        let fits : n + wire_count widths ≤ total = omega (arith, r, count) in
        let next : n + wire_count widths + length ins + length p.widths ≤ total = omega (arith, r, count) in
        let at = facts.kinds.function_parts kind in
        let input = facts.kinds.term_type (setting_at o) [] t at.0 at.1 (facts.kinds.functions_of_terms at.0 k at.3).0 in
        circuit_body_reads more under form inside typed (record { same = (facts.same.same_self t, fit.same) }) (held_and (setting_at o) _ scope (record { parts = widths; have = parts; count = count_from n (wire_count widths) }) held) (input, scoped) next (under_from total n (wire_count widths) fits, h)
    circuit_body_reads (body_lambda parts more) (under_none asks) form inside typed fit held scoped room h = elim form [ ]
    circuit_body_reads (body_block block) (under_one along under) form inside typed fit held scoped room h = elim block [ ]
    circuit_body_reads {scope} (body_block (block_variable {x = x})) (under_none asks) form inside typed fit held scoped room h = (none_reads A plain total, at_under total scope h x)
    circuit_body_reads {scope} {vars} {n = n} {p = p} (body_block (block_letrec {x = x} {g = g} b more)) (under_none asks) (circuit_letrec forms) inside (h_letrec typed of_kind bound) fit held scoped room h =
        let r : n + 0 + length p.widths ≤ total = room in
        let fits : n + length p.widths ≤ total = omega (arith, r) in
        let within : ScopeUnder total (reverse b ++ scope) = all_append (λ (v : Variable). Under total v.wires) (reverse b) scope (all_reverse (λ (v : Variable). Under total v.wires) b (bound_under total more fits)) h in
        let fitting : Fits (with_more (declared g) vars) (reverse b ++ scope) = fits_more facts (declared g) vars b scope (subst (AreSame (declared g)) (sym (facts.built.bound_types more)) (facts.scopes.are_same_self (declared g))) fit in (
          group_reads more forms (all_first P (made_in_group g) [] inside) bound fitting (held_onto (setting_at o) b scope (bound_held more) held) (facts.scopes.typed_more (setting_at o) [] (declared g) vars (facts.scopes.bound_typed bound) scoped) (at_under total (reverse b ++ scope) within) fits,
          at_under total (reverse b ++ scope) within x,
        )
