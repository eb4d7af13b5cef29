-- Pieces of which the cells drive the wires in order, each one once.
use Rattle.std.proofs.Common.{◌≡◌, ℕ, zero, suc, ◌+◌, ◌-◌, Bool, arith, List, [], ◌∷◌, ◌++◌, length, refl, sym, ap, ◌∙◌, length-append}
use Rattle.std.specs.Prelude.{flat_map}
use Rattle.std.proofs.lemmas.Grind.{flat_map-append}
use Rattle.chw_base.specs.declared.index.WireId.{WireId}
use Rattle.chw_types.specs.declared.declarations.Data.{Data}
use Rattle.chw_types.specs.TypeTree.{TypeTree, data_of}
use Rattle.chw_terms.specs.TermTree.{Alts}
use Rattle.netlist.specs.Wires.{driven}
use Rattle.netlist.specs.declared.net.Cell.{Cell}
use Rattle.net_built.specs.Data.{field_cuts, Tested, tested_of, test, tests, choices, case_cells}
use Rattle.net_built.specs.InOrder.{DrivesInOrder}
use Rattle.net_built.specs.Wires.{wire, wires_from, wire_count, Piece, nothing, one, ◌▸◌, after, copy_cells, copies}

-- as a record, so that pieces are found from their proofs
pub record Ordered (n : ℕ) (p : Piece) : Type 0 where
  pub drives : DrivesInOrder n p

pub none_ordered : {n : ℕ} → Ordered n nothing
none_ordered = record { drives = refl }

pub wires_more : (n a b : ℕ) → wires_from n (a + b) ≡ wires_from n a ++ wires_from (n + a) b
wires_more n zero b = let e : n ≡ n + 0 = omega arith in let f : 0 + b ≡ b = omega arith in λ i. wires_from (e i) (f i)
wires_more n (suc a) b =
    let e : suc a + b ≡ suc (a + b) = omega arith in
    let f : n + 1 + a ≡ n + suc a = omega arith in
    ap (λ k. wires_from n k) e ∙ ap (λ ws. wire n ∷ ws) (wires_more (n + 1) a b ∙ ap (λ k. wires_from (n + 1) a ++ wires_from k b) f)

pub then_ordered : (n : ℕ) (p q : Piece) → Ordered n p → Ordered (after n p) q → Ordered n (p ▸ q)
then_ordered n p q h k = record {
  drives =
      flat_map-append driven p.cells q.cells ∙ (λ i. h.drives i ++ k.drives i) ∙ sym (wires_more n (length p.widths) (length q.widths)) ∙ ap (λ k. wires_from n k) (sym (length-append p.widths q.widths));
}

pub one_ordered : (n w : ℕ) (cell : Cell) → driven cell ≡ wire n ∷ [] → Ordered n (one w cell)
one_ordered n zero cell h = record { drives = refl }
one_ordered n (suc w) cell h = record { drives = ap (λ ws. ws ++ []) h }

test_ordered : (k : ℕ) (a : List WireId) (bits : List Bool) (at : ℕ) → Ordered at (test k a bits at)
test_ordered zero a bits at = one_ordered at 1 _ refl
test_ordered (suc k) a bits at = then_ordered at _ _ (one_ordered at (suc k) _ refl) (one_ordered (at + 1) 1 _ refl)

tests_ordered : (k : ℕ) (a : List WireId) (words : List (List Bool)) (at : ℕ) → Ordered at (tests k a words at)
tests_ordered k a [] at = none_ordered
tests_ordered k a (bits ∷ more) at = then_ordered at (test k a bits at) _ (test_ordered k a bits at) (tests_ordered k a more (after at (test k a bits at)))

nothing_ordered : (xs : List (WireId × WireId)) (other : WireId) (at n : ℕ) → flat_map driven (choices zero xs other at).cells ≡ wires_from n (length (choices zero xs other at).widths)
nothing_ordered [] other at n = refl
nothing_ordered (x ∷ xs) other at n = nothing_ordered xs (wire at) (at + 1) n

choices_ordered : (w : ℕ) (xs : List (WireId × WireId)) (other : WireId) (at : ℕ) → Ordered at (choices w xs other at)
choices_ordered w [] other at = none_ordered
choices_ordered zero (x ∷ xs) other at = record { drives = nothing_ordered xs (wire at) (at + 1) at }
choices_ordered (suc w) (x ∷ xs) other at = then_ordered at _ _ (one_ordered at (suc w) _ refl) (choices_ordered (suc w) xs (wire at) (at + 1))

copy_cells_drive : (n : ℕ) (wires : List WireId) → flat_map driven (copy_cells n wires) ≡ wires_from n (length wires)
copy_cells_drive n [] = refl
copy_cells_drive n (a ∷ wires) = ap (λ ws. wire n ∷ ws) (copy_cells_drive (n + 1) wires)

-- as many copies as are asked for
pub copies_ordered : (n : ℕ) (wires : List WireId) (widths : List ℕ) → length wires ≡ wire_count widths → Ordered n (copies n wires widths)
copies_ordered n wires widths e = record { drives = copy_cells_drive n wires ∙ ap (λ k. wires_from n k) e }

-- the fields that are cut out
pub cuts_ordered : (below : ℕ) (a : List WireId) (widths : List ℕ) (at : ℕ) → Ordered at (field_cuts below a widths at)
cuts_ordered below a [] at = none_ordered
cuts_ordered below a (w ∷ widths) at = then_ordered at _ _ (one_ordered at w _ refl) (cuts_ordered (below - w) a widths _)

-- what a case tests
pub tested_ordered : (datas : List Data) (t : TypeTree) (width at : ℕ) (a : List WireId) → Ordered at (tested_of datas t width at a).cells
tested_ordered datas (data_of d ts) width at a = one_ordered at _ _ refl
tested_ordered datas _ width at a = none_ordered

-- a case, if its alternatives do
pub case_ordered : (on : Tested) (alts : Alts) (width n : ℕ) (p : Piece) (results : List (List WireId)) → Ordered n on.cells → Ordered (after n on.cells) p → Ordered n (case_cells on alts width n p results)
case_ordered on alts width n p results h k =
    then_ordered n on.cells _ h (then_ordered (after n on.cells) p _ k (then_ordered _ _ _ (tests_ordered on.bits on.wires _ _) (choices_ordered width _ _ _)))

pub count_from : (n c : ℕ) → length (wires_from n c) ≡ c
count_from n zero = refl
count_from n (suc c) = ap suc (count_from (n + 1) c)
