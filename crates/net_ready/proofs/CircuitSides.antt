-- Right sides of circuits that are ready have cells.
use Rattle.std.proofs.Common.{◌≡◌, ℕ, ◌-◌, List, [], ◌∷◌, ◌++◌, map, refl, sym, subst}
use Rattle.chw_types.specs.TypeTree.{TypeTree, domain}
use Rattle.chw_prims.specs.declared.prim.Primitive.{Primitive as Prim}
use Rattle.chw_prims.specs.declared.prim.Primitive.TheVariants.{Fmap, Ap, Pure, Register, BlockRam, UnsafeSynchronizer}
use Rattle.chw_terms.specs.declared.term.Arg.{Arg}
use Rattle.chw_terms.specs.declared.term.Arg.TheVariants.{OfTerm, OfType}
use Rattle.chw_terms.specs.declared.term.Pattern.TheVariants.{OfCon}
use Rattle.chw_terms.specs.TermTree.{TermTree, var, made, con, prim, case_of, Alts, no_alts, alt}
use Rattle.chw_typing.specs.HeadTypes.{PatternOf}
use Rattle.chw_layout.specs.Measured.{closed_value}
use Rattle.netlist.specs.declared.net.Cell.TheVariants.{Const, Reg}
use Rattle.net_built.specs.Circuits.{Ground, CircuitCells, of_variable, of_synchronizer, of_pure, of_register, of_block_ram, of_mapped, of_lifted, of_call, of_product, of_projection, used, field_wires}
use Rattle.net_built.specs.Memories.{memory}
use Rattle.net_built.specs.Terms.{Variable, wires_at, wires_of, wires_of_all}
use Rattle.net_built.specs.Wires.{wire, Piece, one, copies}
use Rattle.net_built.specs.Words.{only}
use Rattle.net_ready.specs.Ready.{types_on, types_among, IsOne, PureReady, RegisterReady, BlockRamReady, SynchronizerReady, FmapReady, ApReady, SignalReady, ProjectionReady, CircuitReady}
use Rattle.net_ready.proofs.Arguments.{terms_among, names_untyped}
use Rattle.net_ready.proofs.Scopes.{variable_there}

abbrev pub SideCells : Ground → List Variable → ℕ → List ℕ → TermTree → List Arg → Type 0
SideCells ground scope n widths h args = (p : Piece) × CircuitCells ground scope n widths h (types_among args) (terms_among args) p

one_width : (widths : List ℕ) → IsOne widths → (w : ℕ) × (w ∷ [] ≡ widths)
one_width [] h = absurd h
one_width (w ∷ []) h = (w, refl)
one_width (w ∷ v ∷ widths) h = absurd h

pure_cells : (ground : Ground) (scope : List Variable) (n : ℕ) (widths : List ℕ) (args : List Arg) → PureReady ground.datas widths args → SideCells ground scope n widths (prim Pure) args
pure_cells ground scope n widths (OfType d ∷ OfType a ∷ OfTerm c ∷ []) h =
    let w = one_width widths h.0 in
    let p : Piece = one w.0 (Const (wire n) h.1.0) in
    (p, subst (λ ws. CircuitCells ground scope n ws (prim Pure) (d ∷ a ∷ []) (c ∷ []) p) w.1 (of_pure h.1.1))
pure_cells ground scope n widths _ h = absurd h

register_cells : (ground : Ground) (scope : List Variable) (n : ℕ) (widths : List ℕ) (args : List Arg) → RegisterReady ground.datas widths args → SideCells ground scope n widths (prim Register) args
register_cells ground scope n widths (OfType (domain d) ∷ OfType a ∷ OfTerm c ∷ OfTerm (var x) ∷ []) h =
    let w = one_width widths h.0 in
    let p : Piece = one w.0 (Reg (wire n) (record { number = d }) h.1.0 (only (wires_of scope (var x)))) in
    (p, subst (λ ws. CircuitCells ground scope n ws (prim Register) (domain d ∷ a ∷ []) (c ∷ var x ∷ []) p) w.1 (of_register h.1.1))
register_cells ground scope n widths _ h = absurd h

block_ram_cells : (ground : Ground) (scope : List Variable) (n : ℕ) (widths : List ℕ) (args : List Arg) → BlockRamReady ground.datas widths args → SideCells ground scope n widths (prim BlockRam) args
block_ram_cells ground scope n widths (OfType (domain d) ∷ OfType m ∷ OfType k ∷ OfType a ∷ OfTerm c ∷ OfTerm (var x) ∷ OfTerm (var y) ∷ []) h =
    let w = one_width widths h.0 in
    let p : Piece = memory w.0 (closed_value k) n (record { number = d }) h.1.0 (wires_of scope (var x)) (wires_of scope (var y)) in
    (p, subst (λ ws. CircuitCells ground scope n ws (prim BlockRam) (domain d ∷ m ∷ k ∷ a ∷ []) (c ∷ var x ∷ var y ∷ []) p) w.1 (of_block_ram h.1.1))
block_ram_cells ground scope n widths _ h = absurd h

synchronizer_cells : (ground : Ground) (scope : List Variable) (n : ℕ) (widths : List ℕ) (args : List Arg) → SynchronizerReady args → SideCells ground scope n widths (prim UnsafeSynchronizer) args
synchronizer_cells ground scope n widths (OfType d ∷ OfType e ∷ OfType a ∷ OfTerm (var x) ∷ []) h = (copies n (wires_of scope (var x)) widths, of_synchronizer)
synchronizer_cells ground scope n widths _ h = absurd h

mapped_cells : (ground : Ground) (scope : List Variable) (n : ℕ) (widths : List ℕ) (args : List Arg) → FmapReady args → SideCells ground scope n widths (prim Fmap) args
mapped_cells ground scope n widths (OfType d ∷ OfType a ∷ OfType b ∷ OfTerm (made m) ∷ OfTerm (var x) ∷ []) h = (used ground m n (wires_of scope (var x)) widths, of_mapped)
mapped_cells ground scope n widths _ h = absurd h

lifted_cells : (ground : Ground) (scope : List Variable) (n : ℕ) (widths : List ℕ) (args : List Arg) → ApReady args → SideCells ground scope n widths (prim Ap) args
lifted_cells ground scope n widths (OfType d ∷ OfType a ∷ OfType b ∷ OfTerm u ∷ OfTerm (var x) ∷ []) h =
    (used ground h.0 n (wires_of_all scope (map (λ y. var y) h.1 ++ var x ∷ [])) widths, of_lifted h.2)
lifted_cells ground scope n widths _ h = absurd h

signal_cells : (ground : Ground) (scope : List Variable) (n : ℕ) (widths : List ℕ) (p : Prim) (args : List Arg) → SignalReady ground.datas widths p args → SideCells ground scope n widths (prim p) args
signal_cells ground scope n widths Pure args h = pure_cells ground scope n widths args h
signal_cells ground scope n widths Register args h = register_cells ground scope n widths args h
signal_cells ground scope n widths BlockRam args h = block_ram_cells ground scope n widths args h
signal_cells ground scope n widths UnsafeSynchronizer args h = synchronizer_cells ground scope n widths args h
signal_cells ground scope n widths Fmap args h = mapped_cells ground scope n widths args h
signal_cells ground scope n widths Ap args h = lifted_cells ground scope n widths args h
signal_cells ground scope n widths _ args h = absurd h

projection_cells : (ground : Ground) (scope : List Variable) (n : ℕ) (widths : List ℕ) (vars : List TypeTree) (x : ℕ) (alts : Alts) → types_on scope ≡ vars → ProjectionReady ground.datas vars x alts → SideCells ground scope n widths (case_of (var x) alts) []
projection_cells ground scope n widths vars x (alt (OfCon c count) (var z) no_alts) types h =
    let apart = h.0 in
    let it = variable_there scope vars x apart.ty types apart.held in
    let fields = apart.fields in
    let pattern = subst (λ t. PatternOf ground.datas t (OfCon c count) fields) (sym it.2) apart.pattern in
    (copies n (field_wires (count - 1 - z) apart.parts it.0.wires) widths, of_projection apart.parts it.1 pattern apart.have)
projection_cells ground scope n widths vars x _ types h = absurd h

pub circuit_cells : (ground : Ground) (scope : List Variable) (n : ℕ) (widths : List ℕ) (vars : List TypeTree) (h : TermTree) (args : List Arg) → types_on scope ≡ vars → CircuitReady ground.datas vars widths h args → SideCells ground scope n widths h args
circuit_cells ground scope n widths vars (var x) [] types h = (copies n (wires_at scope x) widths, of_variable)
circuit_cells ground scope n widths vars (made m) args types h =
    let p : Piece = used ground m n (wires_of_all scope (terms_among args)) widths in
    (p, subst (λ ts. CircuitCells ground scope n widths (made m) ts (terms_among args) p) (sym (names_untyped args h)) of_call)
circuit_cells ground scope n widths vars (con c) args types h = (copies n (wires_of_all scope (terms_among args)) widths, of_product)
circuit_cells ground scope n widths vars (prim p) args types h = signal_cells ground scope n widths p args h
circuit_cells ground scope n widths vars (case_of (var x) alts) [] types h = projection_cells ground scope n widths vars x alts types h
circuit_cells ground scope n widths vars _ _ types h = absurd h
