-- The cells of primitives on signals, and of made definitions.
use Rattle.std.proofs.Common.{◌≡◌, ◌∙◌, sym, ap, subst, ℕ, List, [], ◌∷◌, ◌++◌, append_assoc, Bool}
use Rattle.std.proofs.lemmas.Grind.{flat_map-append}
use Rattle.chw_base.specs.declared.index.DomId.{DomId}
use Rattle.chw_base.specs.declared.index.WireId.{WireId}
use Rattle.chw_prims.specs.declared.prim.Primitive.{Primitive as Prim}
use Rattle.chw_prims.specs.declared.prim.Primitive.TheVariants.{Fmap, Ap, Pure, Register, BlockRam, UnsafeSynchronizer}
use Rattle.chw_types.specs.TypeTree.{TypeTree, domain}
use Rattle.chw_terms.specs.declared.term.Arg.{Arg}
use Rattle.chw_terms.specs.declared.term.Arg.TheVariants.{OfTerm, OfType}
use Rattle.chw_terms.specs.TermTree.{TermTree, made, prim}
use Rattle.chw_layout.specs.Measured.{closed_value}
use Rattle.netlist.specs.declared.net.Cell.TheVariants.{Const, Reg}
use Rattle.net_built.specs.Circuits.{CircuitCells, of_synchronizer, of_pure, of_register, of_block_ram, of_mapped, of_lifted, of_call, Ground, IsLifted, lifted_on_one, lifted_on_more, used}
use Rattle.net_built.specs.Memories.{HasBits, HasWords, memory}
use Rattle.net_built.specs.Terms.{Variable, wires_of, wires_of_all}
use Rattle.net_built.specs.Wires.{Piece, wire, one, copies, ◌▸◌}
use Rattle.net_built.specs.Words.{only}
use Rattle.value_build.specs.Added.{Adds, next}
use Rattle.value_build.specs.Arguments.{terms_in, types_in}
use Rattle.value_build.proofs.Behind.{adds_one}
use Rattle.value_build.proofs.Operands.{one_wires}
use Rattle.circuit_build.specs.Lifting.{on_signal, IsLiftedOn, AreLiftedReads}

-- what holds of a primitive on these arguments
of_args : (ground : Ground) (scope : List Variable) (p : Prim) (args known : List Arg) (widths : List ℕ) (s t : Piece)
    → args ≡ known
    → Adds (CircuitCells ground scope (next s) widths (prim p) (types_in known) (terms_in known)) s t
    → Adds (CircuitCells ground scope (next s) widths (prim p) (types_in args) (terms_in args)) s t
of_args ground scope p args known widths s t is built =
    subst (λ xs. Adds (CircuitCells ground scope (next s) widths (prim p) (types_in xs) (terms_in xs)) s t) (sym is) built

pub pure_made : (ground : Ground) (scope : List Variable) (d a : TypeTree) (e : TermTree) (w : ℕ) (bits : List Bool) (args : List Arg) (widths : List ℕ) (s t : Piece)
    → args ≡ OfType d ∷ OfType a ∷ OfTerm e ∷ [] → widths ≡ w ∷ [] → HasBits ground.datas a e bits
    → t ≡ s ▸ one w (Const (wire (next s)) bits)
    → Adds (CircuitCells ground scope (next s) widths (prim Pure) (types_in args) (terms_in args)) s t
pure_made ground scope d a e w bits args widths s t is single has added =
    of_args ground scope Pure args (OfType d ∷ OfType a ∷ OfTerm e ∷ []) widths s t is
    (subst (λ ws. Adds (CircuitCells ground scope (next s) ws (prim Pure) (d ∷ a ∷ []) (e ∷ [])) s t) (sym single)
    (adds_one (CircuitCells ground scope (next s) (w ∷ []) (prim Pure) (d ∷ a ∷ []) (e ∷ [])) s t (one w (Const (wire (next s)) bits)) added (of_pure has)))

pub register_made : (ground : Ground) (scope : List Variable) (d : DomId) (u a : TypeTree) (c x : TermTree) (w : ℕ) (bits : List Bool) (reads : List WireId)
    (args : List Arg) (widths : List ℕ) (s t : Piece)
    → args ≡ OfType u ∷ OfType a ∷ OfTerm c ∷ OfTerm x ∷ [] → u ≡ domain d.number → widths ≡ w ∷ [] → HasBits ground.datas a c bits
    → reads ≡ wires_of scope x → t ≡ s ▸ one w (Reg (wire (next s)) d bits (only reads))
    → Adds (CircuitCells ground scope (next s) widths (prim Register) (types_in args) (terms_in args)) s t
register_made ground scope d u a c x w bits reads args widths s t is of single has on added =
    of_args ground scope Register args (OfType u ∷ OfType a ∷ OfTerm c ∷ OfTerm x ∷ []) widths s t is
    (subst (λ v. Adds (CircuitCells ground scope (next s) widths (prim Register) (v ∷ a ∷ []) (c ∷ x ∷ [])) s t) (sym of)
    (subst (λ ws. Adds (CircuitCells ground scope (next s) ws (prim Register) (domain d.number ∷ a ∷ []) (c ∷ x ∷ [])) s t) (sym single)
    (adds_one (CircuitCells ground scope (next s) (w ∷ []) (prim Register) (domain d.number ∷ a ∷ []) (c ∷ x ∷ [])) s t
    (one w (Reg (wire (next s)) d bits (only (wires_of scope x))))
    (added ∙ ap (λ ws. s ▸ one w (Reg (wire (next s)) d bits (only ws))) on) (of_register has))))

pub block_ram_made : (ground : Ground) (scope : List Variable) (d : DomId) (u m k a : TypeTree) (c x y : TermTree) (w bits : ℕ) (words : List (List Bool))
    (read write : List WireId) (args : List Arg) (widths : List ℕ) (s t : Piece)
    → args ≡ OfType u ∷ OfType m ∷ OfType k ∷ OfType a ∷ OfTerm c ∷ OfTerm x ∷ OfTerm y ∷ [] → u ≡ domain d.number → widths ≡ w ∷ []
    → HasWords ground.datas a c words → bits ≡ closed_value k → read ≡ wires_of scope x → write ≡ wires_of scope y
    → t ≡ s ▸ memory w bits (next s) d words read write
    → Adds (CircuitCells ground scope (next s) widths (prim BlockRam) (types_in args) (terms_in args)) s t
block_ram_made ground scope d u m k a c x y w bits words read write args widths s t is of single has wide from to added =
    of_args ground scope BlockRam args (OfType u ∷ OfType m ∷ OfType k ∷ OfType a ∷ OfTerm c ∷ OfTerm x ∷ OfTerm y ∷ []) widths s t is
    (subst (λ v. Adds (CircuitCells ground scope (next s) widths (prim BlockRam) (v ∷ m ∷ k ∷ a ∷ []) (c ∷ x ∷ y ∷ [])) s t) (sym of)
    (subst (λ ws. Adds (CircuitCells ground scope (next s) ws (prim BlockRam) (domain d.number ∷ m ∷ k ∷ a ∷ []) (c ∷ x ∷ y ∷ [])) s t) (sym single)
    (adds_one (CircuitCells ground scope (next s) (w ∷ []) (prim BlockRam) (domain d.number ∷ m ∷ k ∷ a ∷ []) (c ∷ x ∷ y ∷ [])) s t
    (memory w (closed_value k) (next s) d words (wires_of scope x) (wires_of scope y))
    (added ∙ (λ i. s ▸ memory w (wide i) (next s) d words (from i) (to i))) (of_block_ram has))))

pub synchronizer_made : (ground : Ground) (scope : List Variable) (d e a : TypeTree) (x : TermTree) (reads : List WireId) (args : List Arg) (widths : List ℕ) (s t : Piece)
    → args ≡ OfType d ∷ OfType e ∷ OfType a ∷ OfTerm x ∷ [] → reads ≡ wires_of scope x → t ≡ s ▸ copies (next s) reads widths
    → Adds (CircuitCells ground scope (next s) widths (prim UnsafeSynchronizer) (types_in args) (terms_in args)) s t
synchronizer_made ground scope d e a x reads args widths s t is on added =
    of_args ground scope UnsafeSynchronizer args (OfType d ∷ OfType e ∷ OfType a ∷ OfTerm x ∷ []) widths s t is
    (adds_one (CircuitCells ground scope (next s) widths (prim UnsafeSynchronizer) (d ∷ e ∷ a ∷ []) (x ∷ [])) s t (copies (next s) (wires_of scope x) widths)
    (added ∙ ap (λ ws. s ▸ copies (next s) ws widths) on) of_synchronizer)

pub mapped_made : (ground : Ground) (scope : List Variable) (d a b : TypeTree) (f x : TermTree) (m : ℕ) (reads : List WireId) (args : List Arg) (widths : List ℕ) (s t : Piece)
    → args ≡ OfType d ∷ OfType a ∷ OfType b ∷ OfTerm f ∷ OfTerm x ∷ [] → f ≡ made m → reads ≡ wires_of scope x
    → t ≡ s ▸ used ground m (next s) reads widths
    → Adds (CircuitCells ground scope (next s) widths (prim Fmap) (types_in args) (terms_in args)) s t
mapped_made ground scope d a b f x m reads args widths s t is of on added =
    of_args ground scope Fmap args (OfType d ∷ OfType a ∷ OfType b ∷ OfTerm f ∷ OfTerm x ∷ []) widths s t is
    (subst (λ g. Adds (CircuitCells ground scope (next s) widths (prim Fmap) (d ∷ a ∷ b ∷ []) (g ∷ x ∷ [])) s t) (sym of)
    (adds_one (CircuitCells ground scope (next s) widths (prim Fmap) (d ∷ a ∷ b ∷ []) (made m ∷ x ∷ [])) s t (used ground m (next s) (wires_of scope x) widths)
    (added ∙ ap (λ ws. s ▸ used ground m (next s) ws widths) on) of_mapped))

-- lifted on one signal
pub one_lifted : (scope : List Variable) (d a b : TypeTree) (f x : TermTree) (m : ℕ) (reads before later : List WireId)
    → f ≡ made m → reads ≡ wires_of scope x → later ≡ before ++ reads
    → IsLiftedOn scope m (on_signal Fmap d a b f x) before later
one_lifted scope d a b f x m reads before later of on added = record {
  operands = x ∷ [];
  lifts = subst (λ g. IsLifted m (on_signal Fmap d a b g x) (x ∷ [])) (sym of) lifted_on_one;
  are = added ∙ ap (λ ws. before ++ ws) (on ∙ sym (one_wires scope x));
}

-- the wires of operands, and of one more
pub reads_lifted : (scope : List Variable) (u x : TermTree) (m : ℕ) (reads before now later : List WireId)
    → IsLiftedOn scope m u before now → reads ≡ wires_of scope x → later ≡ now ++ reads
    → AreLiftedReads scope m u x before later
reads_lifted scope u x m reads before now later lifted on added = record {
  operands = lifted.operands;
  lifts = lifted.lifts;
  are = added
      ∙ (λ i. lifted.are i ++ on i)
      ∙ append_assoc before (wires_of_all scope lifted.operands) (wires_of scope x)
      ∙ ap (λ ws. before ++ (wires_of_all scope lifted.operands ++ ws)) (sym (one_wires scope x))
      ∙ ap (λ ws. before ++ ws) (sym (flat_map-append (wires_of scope) lifted.operands (x ∷ [])));
}

-- lifted on one more signal
pub more_lifted : (scope : List Variable) (d a b : TypeTree) (f x : TermTree) (m : ℕ) (before later : List WireId)
    → AreLiftedReads scope m f x before later
    → IsLiftedOn scope m (on_signal Ap d a b f x) before later
more_lifted scope d a b f x m before later reads = record {
  operands = reads.operands ++ x ∷ [];
  lifts = lifted_on_more reads.lifts;
  are = reads.are;
}

pub lifted_made : (ground : Ground) (scope : List Variable) (d a b : TypeTree) (u x : TermTree) (m : ℕ) (reads before : List WireId) (args : List Arg) (widths : List ℕ) (s t : Piece)
    → args ≡ OfType d ∷ OfType a ∷ OfType b ∷ OfTerm u ∷ OfTerm x ∷ [] → before ≡ [] → AreLiftedReads scope m u x before reads
    → t ≡ s ▸ used ground m (next s) reads widths
    → Adds (CircuitCells ground scope (next s) widths (prim Ap) (types_in args) (terms_in args)) s t
lifted_made ground scope d a b u x m reads before args widths s t is none are added =
    let on : reads ≡ wires_of_all scope (are.operands ++ x ∷ []) =
    are.are ∙ ap (λ ws. ws ++ wires_of_all scope (are.operands ++ x ∷ [])) none in
    of_args ground scope Ap args (OfType d ∷ OfType a ∷ OfType b ∷ OfTerm u ∷ OfTerm x ∷ []) widths s t is
    (adds_one (CircuitCells ground scope (next s) widths (prim Ap) (d ∷ a ∷ b ∷ []) (u ∷ x ∷ [])) s t
    (used ground m (next s) (wires_of_all scope (are.operands ++ x ∷ [])) widths)
    (added ∙ ap (λ ws. s ▸ used ground m (next s) ws widths) on) (of_lifted are.lifts))

pub call_made : (ground : Ground) (scope : List Variable) (m : ℕ) (reads : List WireId) (args : List Arg) (widths : List ℕ) (s t : Piece)
    → types_in args ≡ [] → reads ≡ wires_of_all scope (terms_in args)
    → t ≡ s ▸ used ground m (next s) reads widths
    → Adds (CircuitCells ground scope (next s) widths (made m) (types_in args) (terms_in args)) s t
call_made ground scope m reads args widths s t none on added =
    subst (λ ts. Adds (CircuitCells ground scope (next s) widths (made m) ts (terms_in args)) s t) (sym none)
    (adds_one (CircuitCells ground scope (next s) widths (made m) [] (terms_in args)) s t (used ground m (next s) (wires_of_all scope (terms_in args)) widths)
    (added ∙ ap (λ ws. s ▸ used ground m (next s) ws widths) on) of_call)
