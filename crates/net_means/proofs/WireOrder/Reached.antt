-- The last wire of a piece, which settles by a wire that the piece's cells read.
use Rattle.std.proofs.Common.{◌≡◌, ◌<◌, ℕ, zero, suc, ◌+◌, ◌-◌, List, [], ◌∷◌, ◌++◌, length, Some, slice_get, refl, sym, ap, ◌∙◌, subst, arith, length-append}
use Rattle.chw_base.specs.declared.index.WireId.{WireId}
use Rattle.netlist.specs.Feeds.{target}
use Rattle.netlist.specs.Operators.{KeepsNothing}
use Rattle.netlist.specs.Wires.{read_by}
use Rattle.netlist.specs.declared.net.Cell.{Cell}
use Rattle.netlist.specs.declared.net.Net.{Net}
use Rattle.net_built.specs.Wires.{wire, Piece, one, ◌▸◌, after, last_wires, wire_count}
use Rattle.net_built.specs.Words.{only}
use Rattle.cell_bits.specs.Bearing.{HasCells}
use Rattle.net_means.proofs.Pieces.{has_first, has_second}
use Rattle.net_means.specs.WireOrder.Awaits.{AllSettle, Settles, by_cell}

-- there are as many wires as this width asks for
abbrev pub Held : List WireId → ℕ → Type 0
Held wires n = length wires ≡ wire_count (n ∷ [])

-- a wire that is there is the only one, and the width isn't zero
pub only_is : (wires : List WireId) (n i : ℕ) (v : WireId) → Held wires n → slice_get wires i ≡ Some v → (only wires ≡ v) × (0 < n)
only_is [] n i v h e = absurd cc
only_is (a ∷ wires) zero i v h e = absurd (omega (arith, h))
only_is (a ∷ []) (suc n) zero v h e = let is : a ≡ v = cc in (is, omega arith)
only_is (a ∷ []) (suc n) (suc i) v h e = absurd cc
only_is (a ∷ b ∷ wires) (suc n) i v h e = absurd (omega (arith, h))

pub read_only : (wires : List WireId) (n i : ℕ) (v : WireId) → Held wires n → slice_get wires i ≡ Some v → Some (only wires) ≡ Some v
read_only wires n i v h e = ap (λ w. Some w) (only_is wires n i v h e).0

-- what stands behind others
pub behind : {A : Type 0} (front xs : List A) (i m : ℕ) (x : A) → m ≡ length front + i → slice_get xs i ≡ Some x → slice_get (front ++ xs) m ≡ Some x
behind [] xs i m x f e = let same : m ≡ i = omega (arith, f) in ap (λ n. slice_get xs n) same ∙ e
behind (y ∷ front) xs i zero x f e = absurd (omega (arith, f))
behind (y ∷ front) xs i (suc m) x f e = behind front xs i m x (omega (arith, f)) e

-- and in front of others
pub in_front : {A : Type 0} (xs back : List A) (i : ℕ) (x : A) → slice_get xs i ≡ Some x → slice_get (xs ++ back) i ≡ Some x
in_front [] back i x e = absurd cc
in_front (y ∷ xs) back zero x e = e
in_front (y ∷ xs) back (suc i) x e = in_front xs back i x e

module _ (net : Net) (path : List ℕ) where
  -- one wire of the instance settles by another
  abbrev pub Meets : ℕ → ℕ → Type 0
  Meets w v = Settles net path w path v

  -- the last wire of a piece settles by a wire
  abbrev pub Ends : (at : ℕ) → Piece → WireId → Type 0
  Ends at p v = Meets (after at p - 1) v.number

  -- the cells of the first of two pieces, and those of the second
  pub front_cells : (xs ys : List Cell) → HasCells net path (xs ++ ys) → HasCells net path xs
  front_cells xs ys has = has_first xs ys has

  pub back_cells : (xs ys : List Cell) → HasCells net path (xs ++ ys) → HasCells net path ys
  back_cells xs ys has = has_second xs ys has

  -- what a cell drives settles by what it reads
  pub cell_meets : (cells : List Cell) (i k w : ℕ) (cell : Cell) (v : WireId) → HasCells net path cells → slice_get cells i ≡ Some cell → KeepsNothing cell → target cell ≡ Some w → slice_get (read_by cell) k ≡ Some v → Meets w v.number
  cell_meets cells i k w cell v has at keeps t e = by_cell k (has i cell at) keeps t e

  pub one_meets : (n at k : ℕ) (cell : Cell) (v : WireId) → 0 < n → KeepsNothing cell → target cell ≡ Some at → slice_get (read_by cell) k ≡ Some v → HasCells net path (one n cell).cells → Meets at v.number
  one_meets zero at k cell v l keeps t e has = absurd (omega (arith, l))
  one_meets (suc n) at k cell v l keeps t e has = cell_meets (cell ∷ []) 0 k at cell v has refl keeps t e

  one_last : (n at : ℕ) (cell : Cell) → 0 < n → after at (one n cell) - 1 ≡ at
  one_last zero at cell l = absurd (omega (arith, l))
  one_last (suc n) at cell l = omega arith

  -- the last wire of one cell
  pub one_ends : (n at k : ℕ) (cell : Cell) (v : WireId) → 0 < n → KeepsNothing cell → target cell ≡ Some at → slice_get (read_by cell) k ≡ Some v → HasCells net path (one n cell).cells → Ends at (one n cell) v
  one_ends n at k cell v l keeps t e has = subst (λ w. Meets w v.number) (sym (one_last n at cell l)) (one_meets n at k cell v l keeps t e has)

  -- the last wire of two pieces is that of the second
  pub then_last : (at : ℕ) (p q : Piece) → after (after at p) q ≡ after at (p ▸ q)
  then_last at p q = let sum = length-append p.widths q.widths in omega (arith, sum)

  pub then_ends : (at : ℕ) (p q : Piece) (v : WireId) → Ends (after at p) q v → Ends at (p ▸ q) v
  then_ends at p q v e = subst (λ n. Meets (n - 1) v.number) (then_last at p q) e

  -- so it is with the last wires for a part of any width
  pub last_settle : (at w : ℕ) (p : Piece) (wires : List WireId) → (0 < w → (j : ℕ) (v : WireId) → slice_get wires j ≡ Some v → Ends at p v) → AllSettle net path (last_wires at p (w ∷ [])) path wires
  last_settle at zero p wires ends i j x v e f = absurd cc
  last_settle at (suc w) p wires ends zero j x v e f =
      let is : wire (after at p - 1) ≡ x = cc in
      let number : after at p - 1 ≡ x.number = ap (λ (x : WireId). x.number) is in
      subst (λ n. Meets n v.number) number (ends (omega arith) j v f)
  last_settle at (suc w) p wires ends (suc i) j x v e f = absurd cc
