-- Right sides of typed circuits in normal form: what is known of their operands.
use Rattle.std.proofs.Common.{◌≡◌, ℕ, suc, ◌≤◌, Bool, List, [], ◌∷◌, ◌++◌, length, Some, refl, sym, ap, ◌∙◌, subst}
use Rattle.std.specs.List.{slice_get, AllByRecursion}
use Rattle.std.proofs.lemmas.List.{append-nil}
use Rattle.chw_base.specs.declared.index.WireId.{WireId}
use Rattle.chw_types.specs.declared.declarations.Data.{Data}
use Rattle.chw_types.specs.declared.kind.Kind.{Kind}
use Rattle.chw_types.specs.SamePromises.{SameValues}
use Rattle.chw_types.specs.SameTypes.{SameTypes}
use Rattle.chw_types.specs.TypeTree.{TypeTree}
use Rattle.type_laws.specs.SameKept.{FieldsKeepSame}
use Rattle.chw_prims.specs.declared.prim.Primitive.TheVariants.{Fmap, Ap, Pure, Register, BlockRam}
use Rattle.chw_terms.specs.declared.scene.Sort.TheVariants.{Value, Circuit}
use Rattle.chw_terms.specs.TermTree.{TermTree, var, made, con, prim}
use Rattle.chw_terms.specs.TermView.{applied}
use Rattle.chw_typing.specs.Programs.{IsSound}
use Rattle.chw_typing.specs.Scopes.{Setting, HasKind, AreTermTypes}
use Rattle.chw_typing.specs.Typing.{HasType}
use Rattle.chw_layout.specs.Measured.{HasWidth}
use Rattle.layout_laws.specs.SameLayout.{SameKeepsMeasure}
use Rattle.chw_typing.specs.Given.{types_then}
use Rattle.chw_typing.specs.SpineLaws.{ConAtArguments, ConIsSaturated}
use Rattle.rewriting.specs.Origins.{MadeOf, Origins, setting_at}
use Rattle.rewriting.specs.Shapes.{IsVariable, fmap_of, ap_of}
use Rattle.normal_forms.specs.Circuits.{IsCircuitSide, of_variable, of_register, of_block_ram, of_synchronizer, of_pure, of_lifted, of_call, of_constructor, of_projection, IsLiftedCall, lifted_on_one, lifted_on_more, content_type}
use Rattle.netlist.specs.declared.net.Cell.TheVariants.{Use}
use Rattle.netlist.specs.declared.net.Module.{Module}
use Rattle.net_rules.specs.WellFormed.{WidthsAgree}
use Rattle.net_built.specs.Circuits.{module_of, IsLifted}
use Rattle.net_built.specs.Data.{HasParts}
use Rattle.net_built.specs.Memories.{HasBits, HasWords}
use Rattle.net_built.specs.Modules.{made_in}
use Rattle.net_built.specs.Terms.{head_of, types_of, operands_of, Variable, wires_at, wires_of, wires_of_all}
use Rattle.net_built.specs.Wires.{wire_count, new_wires, present}
use Rattle.net_grounds.specs.Facts.{Facts}
use Rattle.net_means.specs.NetFits.Laws.{ground_over}
use Rattle.net_means.specs.NetFits.Widths.{AreWide, StandFrom}
use Rattle.net_means.proofs.NetFits.CallShapes.{IsNoCall, CallShape, a_lifted, a_call, no_call, call_shape, head_made, operands_made}
use Rattle.net_means.proofs.NetFits.Calls.{lifted_on, is_lifted}
use Rattle.net_means.proofs.NetFits.CircuitDrivers.{operands_then}
use Rattle.net_means.proofs.NetFits.Scopes.{Fits}
use Rattle.net_means.proofs.NetFits.Shapes.{alone, head_then, product_of, crossing_of, projection_of, names}
use Rattle.net_means.proofs.NetWidths.CircuitCopies.{crossing_wide, product_wide, projection_wide}
use Rattle.net_means.proofs.NetWidths.CircuitSides.{SideFits}
use Rattle.net_means.proofs.NetWidths.Keepers.{MemoryFits, pure_long, register_fits, memory_fits}
use Rattle.net_means.proofs.NetWidths.PortsWide.{PortsWide, port_wide}
use Rattle.net_means.proofs.NetWidths.Small.{IsPart}

-- no head of a right side that has a constant
abbrev NoConstant : TermTree → Type 0
NoConstant (prim p) = (p ≡ Pure → ⊥) × (p ≡ Register → ⊥) × (p ≡ BlockRam → ⊥)
NoConstant _ = Unit {0}

-- a right side that has a constant, or another one
data KeeperShape (datas : List Data) : TermTree → Type 0 where
  a_pure : {d a : TypeTree} {c : TermTree} → KeeperShape datas (applied (prim Pure) (types_then (d ∷ a ∷ []) (c ∷ [])))
  a_register : {d a : TypeTree} {c : TermTree} {x : ℕ} → KeeperShape datas (applied (prim Register) (types_then (d ∷ a ∷ []) (c ∷ var x ∷ [])))
  a_ram : {d m k a : TypeTree} {c : TermTree} {x y w : ℕ} → HasWidth datas (content_type m a) w → KeeperShape datas (applied (prim BlockRam) (types_then (d ∷ m ∷ k ∷ a ∷ []) (c ∷ var x ∷ var y ∷ [])))
  no_keeper : {e : TermTree} → NoConstant (head_of e) → KeeperShape datas e

lifted_other : {m n : ℕ} {e : TermTree} → IsLiftedCall m e n → NoConstant (head_of e)
lifted_other lifted_on_one = (λ e. cc, λ e. cc, λ e. cc)
lifted_other (lifted_on_more more) = (λ e. cc, λ e. cc, λ e. cc)

keeper_shape : {o : Origins} {e : TermTree} → IsCircuitSide o e → KeeperShape o.program.datas e
keeper_shape of_variable = no_keeper tt
keeper_shape (of_register k) = a_register
keeper_shape (of_block_ram k has) = a_ram has
keeper_shape of_synchronizer = no_keeper (λ e. cc, λ e. cc, λ e. cc)
keeper_shape (of_pure k) = a_pure
keeper_shape (of_lifted m is v lifted) = no_keeper (lifted_other lifted)
keeper_shape (of_call m xs is v n) = no_keeper (subst NoConstant (sym (head_then (made m) [] (names xs))) tt)
keeper_shape (of_constructor c types xs known n) = no_keeper (subst NoConstant (sym (head_then (con c) types (names xs))) tt)
keeper_shape (of_projection l) = no_keeper tt

-- lifted calls of made definitions of which one thing holds: the widths of their uses agree
abbrev pub LiftedFit : Origins → List ℕ → List Module → List ℕ → (ℕ → Type 0) → Type 0
LiftedFit o order earlier all P =
    (vars : List TypeTree) (scope : List Variable) (e : TermTree) (count m : ℕ) (lifted : IsLiftedCall m e count) (n : ℕ) (ws : List ℕ) (t u : TypeTree) (k : Kind) (it : MadeOf) → slice_get o.made m ≡ Some it → it.sort ≡ Value
    → HasType (setting_at o) [] vars e u → HasKind (setting_at o) [] t k → SameTypes t u → HasParts o.program.datas Circuit t ws → Fits vars scope → PortsWide o.program.datas all scope → AreTermTypes (setting_at o) [] vars
    → P m → StandFrom all n (present ws) → 1 ≤ wire_count ws → WidthsAgree earlier all (Use (module_of (ground_over (setting_at o) order) m) (wires_of_all scope (lifted_on lifted)) (new_wires n ws))

-- so calls of circuits
abbrev pub CircuitsFit : Origins → List ℕ → List Module → List ℕ → (ℕ → Type 0) → Type 0
CircuitsFit o order earlier all P =
    (vars : List TypeTree) (scope : List Variable) (e : TermTree) (m n : ℕ) (ws : List ℕ) (t u : TypeTree) (k : Kind) (it : MadeOf) → slice_get o.made m ≡ Some it → it.sort ≡ Circuit
    → head_of e ≡ made m → types_of e ≡ [] → AllByRecursion IsVariable (operands_of e)
    → HasType (setting_at o) [] vars e u → HasKind (setting_at o) [] t k → SameTypes t u → HasParts o.program.datas Circuit t ws → Fits vars scope → PortsWide o.program.datas all scope
    → P m → StandFrom all n (present ws) → 1 ≤ wire_count ws → WidthsAgree earlier all (Use (module_of (ground_over (setting_at o) order) m) (wires_of_all scope (operands_of e)) (new_wires n ws))

lifted_made : (P : ℕ → Type 0) {m n : ℕ} {e : TermTree} → IsLiftedCall m e n → AllByRecursion P (made_in e) → P m
lifted_made P {e = e} lifted_on_one all = (operands_made P e all).0.0
lifted_made P {e = e} (lifted_on_more before) all = lifted_made P before (operands_made P e all).0

module _ (facts : Facts) (keep : FieldsKeepSame) (law : SameKeepsMeasure) (values : SameValues) (con_args : ConAtArguments) (saturated : ConIsSaturated) (o : Origins) (order : List ℕ) (sound : IsSound (setting_at o)) (earlier : List Module) (all : List ℕ) (P : ℕ → Type 0) (lifted_calls : LiftedFit o order earlier all P) (circuit_calls : CircuitsFit o order earlier all P) where
  module _ (vars : List TypeTree) (scope : List Variable) (n : ℕ) (ws : List ℕ) (t u : TypeTree) (k : Kind) (kind : HasKind (setting_at o) [] t k) (same : SameTypes t u) (has : HasParts o.program.datas Circuit t ws) (fit : Fits vars scope) (wide : PortsWide o.program.datas all scope) (scoped : AreTermTypes (setting_at o) [] vars) where
    mapped_of : {e : TermTree} → CallShape o e → AllByRecursion P (made_in e) → HasType (setting_at o) [] vars e u → (m : ℕ) (x : TermTree) → head_of e ≡ prim Fmap → operands_of e ≡ made m ∷ x ∷ [] → StandFrom all n (present ws) → 1 ≤ wire_count ws → WidthsAgree earlier all (Use (module_of (ground_over (setting_at o) order) m) (wires_of scope x) (new_wires n ws))
    mapped_of {e} (a_lifted j it known value (lifted_on_one {d = d} {a = a} {b = b} {x = y})) inside typed m x h es stand l =
        let is : j ≡ m = cc in
        let operand : var y ≡ x = cc in
        let found_use = lifted_calls vars scope (fmap_of d a b (made j) (var y)) 1 j lifted_on_one n ws t u k it known value typed kind same has fit wide scoped (lifted_made P {e = fmap_of d a b (made j) (var y)} lifted_on_one inside) stand l in
        let wires : wires_at scope y ++ [] ≡ wires_of scope x = append-nil (wires_at scope y) ∙ ap (λ e. wires_of scope e) operand in
        subst (λ m. WidthsAgree earlier all (Use (module_of (ground_over (setting_at o) order) m) (wires_of scope x) (new_wires n ws))) is
        (subst (λ (reads : List WireId). WidthsAgree earlier all (Use (module_of (ground_over (setting_at o) order) j) reads (new_wires n ws))) wires found_use)
    mapped_of (a_lifted j it known value (lifted_on_more before)) inside typed m x h es stand l = absurd cc
    mapped_of (a_call j it known circuit head variables) inside typed m x h es stand l = let e : made j ≡ prim Fmap = sym head ∙ h in absurd cc
    mapped_of (no_call other) inside typed m x h es stand l = absurd ((subst IsNoCall h other).0 refl)

    lifted_of : {e : TermTree} → CallShape o e → AllByRecursion P (made_in e) → HasType (setting_at o) [] vars e u → (m : ℕ) (f x : TermTree) (xs : List TermTree) → head_of e ≡ prim Ap → operands_of e ≡ f ∷ x ∷ [] → IsLifted m f xs → StandFrom all n (present ws) → 1 ≤ wire_count ws → WidthsAgree earlier all (Use (module_of (ground_over (setting_at o) order) m) (wires_of_all scope (xs ++ x ∷ [])) (new_wires n ws))
    lifted_of (a_lifted j it known value lifted_on_one) inside typed m f x xs h es is_call stand l = absurd cc
    lifted_of (a_lifted j it known value (lifted_on_more {d = d} {a = a} {b = b} {u = g} {x = y} {n = count} before)) inside typed m f x xs h es is_call stand l =
        let function : g ≡ f = cc in
        let operand : var y ≡ x = cc in
        let once = facts.built.lifted_once (is_lifted before) is_call function in
        let operands : lifted_on before ++ var y ∷ [] ≡ xs ++ x ∷ [] = λ i. once.1 i ++ operand i ∷ [] in
        let found_use = lifted_calls vars scope (ap_of d a b g (var y)) (suc count) j (lifted_on_more before) n ws t u k it known value typed kind same has fit wide scoped (lifted_made P {e = ap_of d a b g (var y)} (lifted_on_more before) inside) stand l in
        subst (λ m. WidthsAgree earlier all (Use (module_of (ground_over (setting_at o) order) m) (wires_of_all scope (xs ++ x ∷ [])) (new_wires n ws))) once.0
        (subst (λ (es : List TermTree). WidthsAgree earlier all (Use (module_of (ground_over (setting_at o) order) j) (wires_of_all scope es) (new_wires n ws))) operands found_use)
    lifted_of (a_call j it known circuit head variables) inside typed m f x xs h es is_call stand l = let e : made j ≡ prim Ap = sym head ∙ h in absurd cc
    lifted_of (no_call other) inside typed m f x xs h es is_call stand l = absurd ((subst IsNoCall h other).1 refl)

    called_of : {e : TermTree} → CallShape o e → AllByRecursion P (made_in e) → HasType (setting_at o) [] vars e u → (m : ℕ) → head_of e ≡ made m → types_of e ≡ [] → StandFrom all n (present ws) → 1 ≤ wire_count ws → WidthsAgree earlier all (Use (module_of (ground_over (setting_at o) order) m) (wires_of_all scope (operands_of e)) (new_wires n ws))
    called_of (a_lifted j it known value lifted_on_one) inside typed m h ts stand l = absurd cc
    called_of (a_lifted j it known value (lifted_on_more before)) inside typed m h ts stand l = absurd cc
    called_of {e} (a_call j it known circuit head variables) inside typed m h ts stand l =
        let number : made j ≡ made m = sym head ∙ h in
        let is : j ≡ m = cc in
        circuit_calls vars scope e m n ws t u k it (subst (λ j. slice_get o.made j ≡ Some it) is known) circuit h ts variables typed kind same has fit wide (head_made P e m h inside) stand l
    called_of (no_call other) inside typed m h ts stand l = absurd (subst IsNoCall h other)

    abbrev Datas : List Data
    Datas = o.program.datas

    of_part : (w : ℕ) → ws ≡ w ∷ [] → HasParts Datas Circuit t (w ∷ [])
    of_part w is = subst (λ ws. HasParts Datas Circuit t ws) is has

    constant_of : {e : TermTree} → KeeperShape Datas e → HasType (setting_at o) [] vars e u → (d a : TypeTree) (c : TermTree) (w : ℕ) (bits : List Bool) → head_of e ≡ prim Pure → types_of e ≡ d ∷ a ∷ [] → operands_of e ≡ c ∷ [] → ws ≡ w ∷ [] → HasBits Datas a c bits → length bits ≡ w
    constant_of (a_pure {d = f} {a = b} {c = v}) typed d a c w bits h ts es are has_bits =
        let type : a ≡ b = cc in
        let operand : c ≡ v = cc in
        pure_long facts keep law values (setting_at o) sound all vars scope fit wide scoped f b v t u k w bits typed kind same (of_part w are) (subst (λ c. HasBits Datas b c bits) operand (subst (λ a. HasBits Datas a c bits) type has_bits))
    constant_of a_register typed d a c w bits h ts es are has_bits = absurd cc
    constant_of (a_ram content) typed d a c w bits h ts es are has_bits = absurd cc
    constant_of (no_keeper other) typed d a c w bits h ts es are has_bits = absurd ((subst NoConstant h other).0 refl)

    register_of : {e : TermTree} → KeeperShape Datas e → HasType (setting_at o) [] vars e u → (d a : TypeTree) (c x : TermTree) (w : ℕ) (bits : List Bool) → head_of e ≡ prim Register → types_of e ≡ d ∷ a ∷ [] → operands_of e ≡ c ∷ x ∷ [] → ws ≡ w ∷ [] → HasBits Datas a c bits → (length bits ≡ w) × AreWide all (wires_of scope x) (present (w ∷ []))
    register_of a_pure typed d a c x w bits h ts es are has_bits = absurd cc
    register_of (a_register {d = f} {a = b} {c = v} {x = y}) typed d a c x w bits h ts es are has_bits =
        let type : a ≡ b = cc in
        let constant : c ≡ v = cc in
        let operand : var y ≡ x = cc in
        let r = register_fits facts keep law values (setting_at o) sound all vars scope fit wide scoped f b v y t u k w bits typed kind same (of_part w are) (subst (λ c. HasBits Datas b c bits) constant (subst (λ a. HasBits Datas a c bits) type has_bits)) in
        (r.0, subst (λ x. AreWide all (wires_of scope x) (present (w ∷ []))) operand r.1)
    register_of (a_ram content) typed d a c x w bits h ts es are has_bits = absurd cc
    register_of (no_keeper other) typed d a c x w bits h ts es are has_bits = absurd ((subst NoConstant h other).1 refl)

    ram_of : {e : TermTree} → KeeperShape Datas e → HasType (setting_at o) [] vars e u → (d m j a : TypeTree) (c x y : TermTree) (w : ℕ) (words : List (List Bool)) → head_of e ≡ prim BlockRam → types_of e ≡ d ∷ m ∷ j ∷ a ∷ [] → operands_of e ≡ c ∷ x ∷ y ∷ [] → ws ≡ w ∷ [] → HasWords Datas a c words → MemoryFits all (wires_of scope x) (wires_of scope y) j w words
    ram_of a_pure typed d m j a c x y w words h ts es are has_words = absurd cc
    ram_of a_register typed d m j a c x y w words h ts es are has_words = absurd cc
    ram_of (a_ram {d = f} {m = n} {k = i} {a = b} {c = v} {x = r} {y = q} {w = size} content) typed d m j a c x y w words h ts es are has_words =
        let type : a ≡ b = cc in
        let number : i ≡ j = cc in
        let constant : c ≡ v = cc in
        let read : var r ≡ x = cc in
        let write : var q ≡ y = cc in
        let fits_so = memory_fits facts keep law values (setting_at o) sound all vars scope fit wide scoped f n i b v r q t u k w size words typed kind same (of_part w are) content (subst (λ c. HasWords Datas b c words) constant (subst (λ a. HasWords Datas a c words) type has_words)) in
        subst (λ j. MemoryFits all (wires_of scope x) (wires_of scope y) j w words) number
        (subst (λ x. MemoryFits all (wires_of scope x) (wires_of scope y) i w words) read (subst (λ y. MemoryFits all (wires_at scope r) (wires_of scope y) i w words) write fits_so))
    ram_of (no_keeper other) typed d m j a c x y w words h ts es are has_words = absurd ((subst NoConstant h other).2 refl)

    pub side_fits : {e : TermTree} → IsCircuitSide o e → AllByRecursion IsPart ws → AllByRecursion P (made_in e) → HasType (setting_at o) [] vars e u → SideFits earlier all (ground_over (setting_at o) order) scope n ws (head_of e) (types_of e) (operands_of e)
    side_fits {e} form parts inside typed =
        let s : Setting = setting_at o in
        record {
          parts = parts;
          of_name = λ x h ts es. port_wide facts keep law s sound all vars scope x t u k ws fit wide (subst (λ e. HasType s [] vars e u) (alone e ts es ∙ h) typed) kind same has;
          crossing = λ y h es.
              let c = crossing_of form h in
              let is : var c.x ∷ [] ≡ y ∷ [] = sym (ap (λ e. operands_of e) c.is) ∙ es in
              let operand : var c.x ≡ y = cc in
              subst (λ y. AreWide all (wires_of scope y) (present ws)) operand
              (crossing_wide facts keep law s sound all vars scope fit wide facts.terms.prim_at_arguments c.d c.b c.a c.x t u k ws scoped (subst (λ e. HasType s [] vars e u) c.is typed) kind same has);
          product = λ c h.
              let p = product_of form c h in
              let operands : operands_of e ≡ names p.xs = ap (λ e. operands_of e) p.is ∙ operands_then (con p.c) p.types (names p.xs) in
              subst (λ es. AreWide all (wires_of_all scope es) (present ws)) (sym operands)
              (product_wide facts keep law s sound all vars scope fit wide con_args saturated p.c p.it p.types p.xs t u k ws scoped p.known (subst (λ e. HasType s [] vars e u) p.is typed) kind same has);
          projection = λ x count z c it fields of_fields h ts es i pattern have.
              let is = alone e ts es ∙ h in
              projection_wide facts keep law s sound all vars scope fit wide x count z c it fields of_fields t u k ws (projection_of form x count z c is) i pattern have (subst (λ e. HasType s [] vars e u) is typed) kind same has;
          constant = constant_of (keeper_shape form) typed;
          register = register_of (keeper_shape form) typed;
          ram = ram_of (keeper_shape form) typed;
          mapped = mapped_of (call_shape form) inside typed;
          lifted = lifted_of (call_shape form) inside typed;
          called = called_of (call_shape form) inside typed;
        }
