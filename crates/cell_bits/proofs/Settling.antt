-- What the cells of a piece give, where the wires that they read have their bits.
use Rattle.std.proofs.Common.{◌≡◌, ℕ, zero, suc, ◌+◌, ◌-◌, ◌<◌, arith, Bool, List, [], ◌∷◌, ◌++◌, length, replicate, slice_get, Some, refl, ap, subst, length-append}
use Rattle.std.specs.Prelude.{flat_map}
use Rattle.chw_base.specs.declared.index.WireId.{WireId}
use Rattle.chw_clock.specs.declared.event.Event.{Event}
use Rattle.netlist.specs.Feeds.{target}
use Rattle.netlist.specs.Operators.{KeepsNothing, operator}
use Rattle.netlist.specs.Wires.{read_by}
use Rattle.netlist.specs.declared.net.Cell.{Cell}
use Rattle.netlist.specs.declared.net.Net.{Net}
use Rattle.use_laws.specs.ValueIn.{ValueIn, operated, ReadIn, read_none, read_and}
use Rattle.net_built.specs.Wires.{Piece, one, ◌▸◌, after, last_wires, wires_from, wire_count}
use Rattle.net_built.specs.Words.{only}
use Rattle.cell_bits.specs.Bearing.{HasCells, Bears, bears_nothing, bears_bits}

-- a cell of a piece that keeps nothing gives what its operator makes of the bits that it reads
pub cell_settles : {net : Net} {path : List ℕ} {h : List Event} (cells : List Cell) (i : ℕ) (cell : Cell) (w : ℕ) (values : List (List Bool)) → HasCells net path cells → slice_get cells i ≡ Some cell → KeepsNothing cell → target cell ≡ Some w → ReadIn net path h (read_by cell) values
    → ValueIn net path h w (operator cell values)
cell_settles {net} {path} {h} cells i cell w values has is keeps drives reads = operated path cell w h values (has i cell is) keeps drives reads

-- the cells of the first of two pieces, and those of the second
pub has_first : {net : Net} {path : List ℕ} (xs ys : List Cell) → HasCells net path (xs ++ ys) → HasCells net path xs
has_first [] ys has i cell e = cc
has_first (x ∷ xs) ys has zero cell e = has zero cell e
has_first (x ∷ xs) ys has (suc i) cell e = has_first xs ys (λ j other f. has (suc j) other f) i cell e

pub has_second : {net : Net} {path : List ℕ} (xs ys : List Cell) → HasCells net path (xs ++ ys) → HasCells net path ys
has_second [] ys has = has
has_second (x ∷ xs) ys has = has_second xs ys (λ j other f. has (suc j) other f)

-- the wire of a piece of one cell
pub one_bears : {net : Net} {path : List ℕ} {h : List Event} (w n : ℕ) (cell : Cell) (values : List (List Bool)) (bits : List Bool) → length bits ≡ w → (0 < w → operator cell values ≡ bits) → KeepsNothing cell → target cell ≡ Some n → (0 < w → ReadIn net path h (read_by cell) values) → HasCells net path (one w cell).cells
    → Bears net path h (last_wires n (one w cell) (length bits ∷ [])) bits
one_bears w n cell values [] e is keeps drives reads has = bears_nothing
one_bears zero n cell values (bit ∷ bits) e is keeps drives reads has = absurd (omega (arith, e))
one_bears {net} {path} {h} (suc w) n cell values (bit ∷ bits) e is keeps drives reads has =
    let some : 0 < suc w = omega arith in
    let place : n ≡ n + 1 - 1 = omega arith in
    let value : ValueIn net path h n (operator cell values) = cell_settles (cell ∷ []) 0 cell n values has refl keeps drives (reads some) in
    bears_bits (subst (λ k. ValueIn net path h k (bit ∷ bits)) place (subst (λ given. ValueIn net path h n given) (is some) value))

-- the last wires of two pieces are those of the second
pub then_bears : {net : Net} {path : List ℕ} {h : List Event} (n : ℕ) (p q : Piece) (widths : List ℕ) (bits : List Bool) → Bears net path h (last_wires (after n p) q widths) bits → Bears net path h (last_wires n (p ▸ q) widths) bits
then_bears {net} {path} {h} n p q widths bits bears =
    let e : after (after n p) q ≡ after n (p ▸ q) = omega (arith, length-append p.widths q.widths) in
    subst (λ k. Bears net path h (wires_from (k - wire_count widths) (wire_count widths)) bits) e bears

-- the one wire of a part that has bits
pub only_bears : {net : Net} {path : List ℕ} {h : List Event} {wires : List WireId} {bits : List Bool} → Bears net path h wires bits → 0 < length bits → ValueIn net path h (only wires).number bits
only_bears bears_nothing some = absurd (omega (arith, some))
only_bears (bears_bits value) some = value

pub last_bears : {net : Net} {path : List ℕ} {h : List Event} (n : ℕ) (p : Piece) (bits : List Bool) → Bears net path h (last_wires n p (length bits ∷ [])) bits → 0 < length bits → ValueIn net path h (after n p - 1) bits
last_bears n p [] bears some = absurd (omega (arith, some))
last_bears n p (bit ∷ bits) bears some = only_bears bears some

-- the wire of a part that has bits is read
pub reads_only : {net : Net} {path : List ℕ} {h : List Event} {wires : List WireId} {bits : List Bool} → Bears net path h wires bits → 0 < length bits → ReadIn net path h (only wires ∷ []) (bits ∷ [])
reads_only {net} {path} {h} {wires} {bits} bears some = read_and path h (only wires) [] bits [] (only_bears bears some) (read_none path h)

pub reads_all : {net : Net} {path : List ℕ} {h : List Event} {wires : List WireId} {bits : List Bool} → Bears net path h wires bits → 0 < length bits → ReadIn net path h wires (bits ∷ [])
reads_all bears_nothing some = absurd (omega (arith, some))
reads_all {net} {path} {h} (bears_bits {w} {bit} {bits} value) some = read_and path h w [] (bit ∷ bits) [] value (read_none path h)

-- a part's bits as what is read of its wires
abbrev pub parts_of : List Bool → List (List Bool)
parts_of [] = []
parts_of (bit ∷ bits) = (bit ∷ bits) ∷ []

pub reads_part : {net : Net} {path : List ℕ} {h : List Event} {wires : List WireId} {bits : List Bool} (more : List WireId) (values : List (List Bool)) → Bears net path h wires bits → ReadIn net path h more values → ReadIn net path h (wires ++ more) (parts_of bits ++ values)
reads_part more values bears_nothing reads = reads
reads_part {net} {path} {h} more values (bears_bits {w} {bit} {bits} value) reads = read_and path h w more (bit ∷ bits) values value reads

pub joined_part : (bits : List Bool) (values : List (List Bool)) → flat_map (λ bits. bits) (parts_of bits ++ values) ≡ bits ++ flat_map (λ bits. bits) values
joined_part [] values = refl
joined_part (bit ∷ bits) values = refl

-- one wire is read so many times before others
pub reads_copies : {net : Net} {path : List ℕ} {h : List Event} (k : ℕ) (w : WireId) (bits : List Bool) (wires : List WireId) (values : List (List Bool)) → ValueIn net path h w.number bits → ReadIn net path h wires values → ReadIn net path h (replicate k w ++ wires) (replicate k bits ++ values)
reads_copies zero w bits wires values value reads = reads
reads_copies {net} {path} {h} (suc k) w bits wires values value reads = read_and path h w (replicate k w ++ wires) bits (replicate k bits ++ values) value (reads_copies k w bits wires values value reads)

pub joined_copies : (k : ℕ) (bit : Bool) (values : List (List Bool)) → flat_map (λ bits. bits) (replicate k (bit ∷ []) ++ values) ≡ replicate k bit ++ flat_map (λ bits. bits) values
joined_copies zero bit values = refl
joined_copies (suc k) bit values = ap (λ bits. bit ∷ bits) (joined_copies k bit values)
