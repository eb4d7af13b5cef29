-- A net has one flat net: lists of the same cells that drive wires in order are equal.
use Rattle.std.proofs.Common.{◌≡◌, ℕ, zero, suc, ◌+◌, List, [], ◌∷◌, Some, None, slice_get, refl, sym, ap, subst, ◌∙◌, arith}
use Rattle.netlist.specs.Feeds.{target}
use Rattle.netlist.specs.Sound.{DrivesFrom}
use Rattle.netlist.specs.declared.net.Cell.{Cell}
use Rattle.netlist.specs.declared.net.Flat.{Flat}
use Rattle.netlist.specs.declared.net.Net.{Net}
use Rattle.net_flat.specs.Flattened.{IsFlatOf, widths_in}

-- the cell is in the list
abbrev pub IsIn : List Cell → Cell → Type 0
IsIn cells cell = (at : ℕ) × (slice_get cells at ≡ Some cell)

-- a cell among those that drive from a wire on drives no lesser one
pub drives_later : (w : ℕ) (cells : List Cell) (cell : Cell) (at : ℕ) → DrivesFrom w cells → slice_get cells at ≡ Some cell
    → target cell ≡ Some (w + at)
drives_later w [] cell at d e = absurd (cc)
drives_later w (c ∷ cells) cell zero d e =
    let same : c ≡ cell = cc in
    let n : w + zero ≡ w = omega arith in
    rw n (subst (λ (x : Cell). target x ≡ Some w) same d.0)
drives_later w (c ∷ cells) cell (suc at) d e =
    let n : w + suc at ≡ (w + 1) + at = omega arith in
    rw n (drives_later (w + 1) cells cell at d.1 e)

-- of two lists of the same cells, the rest is of the same cells
rest_in : (w : ℕ) (x : Cell) (xs ys : List Cell) → DrivesFrom w (x ∷ xs) → DrivesFrom w (x ∷ ys)
    → ((c : Cell) → IsIn (x ∷ xs) c → IsIn (x ∷ ys) c) → (c : Cell) → IsIn xs c → IsIn ys c
rest_in w x xs ys dx dy all c i = found (all c (suc i.0, i.1))
  where
    found : IsIn (x ∷ ys) c → IsIn ys c
    found (zero, e) =
        let t : target c ≡ Some ((w + 1) + i.0) = drives_later (w + 1) xs c i.0 dx.1 i.1 in
        let same : x ≡ c = cc in
        let s : target c ≡ Some w = subst (λ (y : Cell). target y ≡ Some w) same dx.0 in
        let n : (w + 1) + i.0 ≡ w = cc in
        absurd (omega arith)
    found (suc at, e) = (at, e)

-- the first of the cells that drive from a wire on is the only one that drives it
first_in : (w : ℕ) (x : Cell) (ys : List Cell) → target x ≡ Some w → DrivesFrom w ys → IsIn ys x
    → (rest : List Cell) × (ys ≡ x ∷ rest)
first_in w x [] t d i = absurd (let e : None ≡ Some x = i.1 in cc)
first_in w x (y ∷ ys) t d (zero, e) = let same : y ≡ x = cc in (ys, ap (λ (c : Cell). c ∷ ys) same)
first_in w x (y ∷ ys) t d (suc at, e) =
    let s : target x ≡ Some ((w + 1) + at) = drives_later (w + 1) ys x at d.1 e in
    let n : (w + 1) + at ≡ w = cc in
    absurd (omega arith)

pub same_cells : (w : ℕ) (xs ys : List Cell) → DrivesFrom w xs → DrivesFrom w ys
    → ((c : Cell) → IsIn xs c → IsIn ys c) → ((c : Cell) → IsIn ys c → IsIn xs c) → xs ≡ ys
same_cells w [] [] dx dy to from = refl
same_cells w [] (y ∷ ys) dx dy to from =
    let i = from y (zero, refl) in absurd (let e : None ≡ Some y = i.1 in cc)
same_cells w (x ∷ xs) ys dx dy to from =
    let f = first_in w x ys dx.0 dy (to x (zero, refl)) in
    let dy' : DrivesFrom w (x ∷ f.0) = subst (λ (zs : List Cell). DrivesFrom w zs) f.1 dy in
    let to' = subst (λ (zs : List Cell). (c : Cell) → IsIn (x ∷ xs) c → IsIn zs c) f.1 to in
    let from' = subst (λ (zs : List Cell). (c : Cell) → IsIn zs c → IsIn (x ∷ xs) c) f.1 from in
    let tails : xs ≡ f.0 = same_cells (w + 1) xs f.0 dx.1 dy'.1 (rest_in w x xs f.0 dx dy' to') (rest_in w x f.0 xs dy' dx from') in
    ap (λ (zs : List Cell). x ∷ zs) tails ∙ sym f.1

same_flats : (a b : Flat) → a.ports ≡ b.ports → a.widths ≡ b.widths → a.outputs ≡ b.outputs → a.cells ≡ b.cells → a ≡ b
same_flats a b ports widths outputs cells =
    let first : a ≡ record { ports = a.ports; widths = a.widths; outputs = a.outputs; cells = a.cells } = refl in
    let second : b ≡ record { ports = b.ports; widths = b.widths; outputs = b.outputs; cells = b.cells } = refl in
    cc

pub one_flat : (net : Net) (a b : Flat) → IsFlatOf net a → IsFlatOf net b → a ≡ b
one_flat net a b u v =
    let places : u.place ≡ v.place = omega (arith, u.top.last, v.top.last) in
    let tops : Some u.m ≡ Some v.m = sym u.top.stands ∙ ap (λ (i : ℕ). slice_get net.modules i) places ∙ v.top.stands in
    let modules : u.m ≡ v.m = cc in
    let drives : DrivesFrom u.m.inputs b.cells = subst (λ (n : ℕ). DrivesFrom n b.cells) (sym (ap (λ m. m.inputs) modules)) v.in_order in
    let cells : a.cells ≡ b.cells =
    same_cells u.m.inputs a.cells b.cells u.in_order drives
    (λ c i. (v.cells c).1 ((u.cells c).0 i)) (λ c i. (u.cells c).1 ((v.cells c).0 i)) in
    let ports : a.ports ≡ b.ports = u.ports ∙ sym v.ports in
    let widths : a.widths ≡ b.widths = u.widths ∙ ap (λ (i : ℕ). widths_in net i) places ∙ sym v.widths in
    let outputs : a.outputs ≡ b.outputs = u.outputs ∙ ap (λ m. m.outputs) modules ∙ sym v.outputs in
    same_flats a b ports widths outputs cells
