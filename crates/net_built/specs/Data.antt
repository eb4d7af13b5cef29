-- The parts of types, and the cells of constructors, of fields, and of tests and choices.
use Rattle.std.specs.Prelude.{ℕ, zero, suc, ◌+◌, ◌-◌, true, Bool, List, [], ◌∷◌, ◌++◌}
use Rattle.std.specs.Prelude.{map, length, reverse, zip, slice_get, option_map, unwrap_or}
use Rattle.chw_base.specs.declared.index.WireId.{WireId}
use Rattle.chw_bits.specs.Bits.{bits_of}
use Rattle.chw_types.specs.declared.declarations.Data.{Data}
use Rattle.type_ports.specs.declared.ports.Leaf.{Leaf}
use Rattle.type_ports.specs.Ports.{Leaves}
use Rattle.chw_types.specs.TypeTree.{TypeTree, data_of}
use Rattle.chw_terms.specs.declared.scene.Sort.{Sort}
use Rattle.chw_terms.specs.declared.scene.Sort.TheVariants.{Value, Circuit}
use Rattle.chw_terms.specs.declared.term.Pattern.{Pattern}
use Rattle.chw_terms.specs.declared.term.Pattern.TheVariants.{OfCon, OfLit, Default}
use Rattle.chw_terms.specs.TermTree.{Alts, alt}
use Rattle.chw_layout.specs.Encodes.{first_constructor}
use Rattle.chw_layout.specs.Measured.{tag_width, HasWidth}
use Rattle.netlist.specs.declared.net.Cell.TheVariants.{Const, Join, Cut, Bin, Mux}
use Rattle.netlist.specs.declared.net.Op2.TheVariants.{Eq}
use Rattle.net_built.specs.Terms.{Variable, variable}
use Rattle.net_built.specs.Wires.{wire, wire_count, new_wires, Piece, nothing, one, ◌▸◌, after}
use Rattle.net_built.specs.Wires.{last_wire, last_wires}
use Rattle.net_built.specs.Words.{zeros, only}

-- the types have these widths, each at its place
abbrev pub HaveWidths : List Data → List TypeTree → List ℕ → Type 0
HaveWidths datas [] [] = Unit {0}
HaveWidths datas (t ∷ ts) (w ∷ widths) = HasWidth datas t w × HaveWidths datas ts widths
HaveWidths datas _ _ = ⊥

-- a variable of the type has parts of these widths: of a value one, of a port one for each leaf
pub data HasParts (datas : List Data) : Sort → TypeTree → List ℕ → Type 0 where
  value_part : {t : TypeTree} {w : ℕ} → HasWidth datas t w → HasParts datas Value t (w ∷ [])
  port_parts : {t : TypeTree} {leaves : List Leaf} {widths : List ℕ}
      → Leaves datas t leaves → HaveWidths datas (map (λ (l : Leaf). l.payload) leaves) widths
      → HasParts datas Circuit t widths

-- a constructor of this number among those of its data type: a constant for the tag, one for the
-- padding, and a join of the tag, of the fields' wires and of the padding
abbrev pub constructed : (tag number fields width at : ℕ) → List WireId → Piece
constructed tag number fields width at wires =
    let padding : ℕ = width - (tag + fields) in
    let p : Piece = one tag (Const (wire at) (bits_of tag number)) in
    let q : Piece = one padding (Const (wire (after at p)) (zeros padding)) in
    p ▸ q
    ▸ one width
    (Join (wire (after (after at p) q))
    (new_wires at (tag ∷ []) ++ wires ++ new_wires (after at p) (padding ∷ [])))

-- the fields of these widths, cut from the lowest bits of a wire, of which there are so many
abbrev pub field_cuts : (below : ℕ) → List WireId → List ℕ → (at : ℕ) → Piece
field_cuts below a [] at = nothing
field_cuts below a (w ∷ widths) at =
    let p : Piece = one w (Cut (wire at) (only a) (below - 1) (below - w)) in
    p ▸ field_cuts (below - w) a widths (after at p)

-- what a case tests: how many bits, the cells that cut them out, their wire, and the number of the
-- data type's first constructor
pub record Tested : Type 0 where
  pub bits : ℕ
  pub cells : Piece
  pub wires : List WireId
  pub first : ℕ

-- how many constructors the data type of this number has
abbrev pub constructor_count : List Data → ℕ → ℕ
constructor_count datas d =
    unwrap_or (option_map (λ (it : Data). length it.cons) (slice_get datas d)) 0

-- of data of so many bits the tag, which is highest; of a scalar all
abbrev pub tested_of : List Data → TypeTree → (width at : ℕ) → List WireId → Tested
tested_of datas (data_of d ts) width at a =
    let tag : ℕ = tag_width (constructor_count datas d) in
    record {
      bits = tag;
      cells = one tag (Cut (wire at) (only a) (width - 1) (width - tag));
      wires = new_wires at (tag ∷ []);
      first = first_constructor datas d;
    }
tested_of datas t width at a = record { bits = width; cells = nothing; wires = a; first = 0 }

-- the word for which an alternative stands, of so many bits: the number of its constructor among
-- those of the data type, or its literal
abbrev pub word_of : (tag first : ℕ) → Pattern → List Bool
word_of tag first (OfCon c n) = bits_of tag (c.number - first)
word_of tag first (OfLit s bits) = bits
word_of tag first Default = []

-- the words of all alternatives but the last
abbrev pub words_of : (tag first : ℕ) → Alts → List (List Bool)
words_of tag first (alt q e (alt r f more)) =
    word_of tag first q ∷ words_of tag first (alt r f more)
words_of tag first _ = []

-- variables of these types with parts of these widths, on wires from n on
abbrev pub variables_from : (n : ℕ) → List TypeTree → List ℕ → List Variable
variables_from n (t ∷ ts) (w ∷ widths) =
    variable t (new_wires n (w ∷ [])) ∷ variables_from (n + wire_count (w ∷ [])) ts widths
variables_from n _ _ = []

-- whether a wire of k bits has these; without bits it has
abbrev pub test : (k : ℕ) → List WireId → List Bool → (at : ℕ) → Piece
test zero a bits at = one 1 (Const (wire at) (true ∷ []))
test (suc k) a bits at =
    one (suc k) (Const (wire at) bits) ▸ one 1 (Bin (wire (at + 1)) Eq (only a) (wire at))

-- a test for each of these words, in order
abbrev pub tests : (k : ℕ) → List WireId → List (List Bool) → (at : ℕ) → Piece
tests k a [] at = nothing
tests k a (bits ∷ more) at =
    let p : Piece = test k a bits at in p ▸ tests k a more (after at p)

-- the wires of these tests
abbrev pub test_wires : (k : ℕ) → List WireId → List (List Bool) → (at : ℕ) → List WireId
test_wires k a [] at = []
test_wires k a (bits ∷ more) at =
    let p : Piece = test k a bits at in last_wire at p ∷ test_wires k a more (after at p)

-- the last of some lists
abbrev pub last_of : List (List WireId) → List WireId
last_of [] = []
last_of (r ∷ []) = r
last_of (r ∷ s ∷ more) = last_of (s ∷ more)

-- of tests with what each chooses: the first chooses between that and this wire, and each further
-- one between its own and what the one before it has chosen
abbrev pub choices : (width : ℕ) → List (WireId × WireId) → WireId → (at : ℕ) → Piece
choices width [] other at = nothing
choices width (one_of ∷ more) other at =
    one width (Mux (wire at) one_of.0 one_of.1 other) ▸ choices width more (wire at) (at + 1)

-- the choice of results by tests, from the last test to the first; the last result needs no test
abbrev pub chosen : (width : ℕ) → List WireId → List (List WireId) → (at : ℕ) → Piece
chosen width tested results at =
    choices width (reverse (zip tested (map only results))) (only (last_of results)) at

-- the wires of the choice: the last wire, and without a test what there is
abbrev pub chosen_wires : (width : ℕ) → List WireId → List (List WireId) → (at : ℕ) → List WireId
chosen_wires width [] results at = last_of results
chosen_wires width (t ∷ tested) results at =
    last_wires at (chosen width (t ∷ tested) results at) (width ∷ [])

-- the cells of a case on what is tested, from wire n on, where the alternatives have these cells
-- and results: what is tested, the alternatives, the tests and the choice
abbrev pub case_cells : Tested → Alts → (width n : ℕ) → Piece → List (List WireId) → Piece
case_cells on alts width n p results =
    let words : List (List Bool) = words_of on.bits on.first alts in
    let m : ℕ = after (after n on.cells) p in
    let q : Piece = tests on.bits on.wires words m in
    on.cells ▸ p ▸ q
    ▸ chosen width (test_wires on.bits on.wires words m) results (after m q)

-- and the wires of its result
abbrev pub case_wires : Tested → Alts → (width n : ℕ) → Piece → List (List WireId) → List WireId
case_wires on alts width n p results =
    let words : List (List Bool) = words_of on.bits on.first alts in
    let m : ℕ = after (after n on.cells) p in
    let q : Piece = tests on.bits on.wires words m in
    chosen_wires width (test_wires on.bits on.wires words m) results (after m q)
