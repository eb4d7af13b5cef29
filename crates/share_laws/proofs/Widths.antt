-- Equal wires are as wide as each other, and known bits have the width of their wire.
use Rattle.std.proofs.Common.{◌≡◌, ℕ, suc, ◌+◌, ◌-◌, ◌==◌, Bool, true, false, List, [], ◌∷◌, length, Option, Some, slice_get, get_or, refl, sym, ap, ◌∙◌, arith, if◌then◌else◌}
use Rattle.std.specs.Prelude.{fold, option_and_then, slice_index, unwrap_or}
use Rattle.std.proofs.lemmas.Option.{slice_get-get_or, unwrap_or-slice_get}
use Rattle.chw_base.specs.declared.index.WireId.{WireId}
use Rattle.chw_bits.specs.Bits.{number_of}
use Rattle.netlist.specs.Feeds.{target}
use Rattle.netlist.specs.Operators.{KeepsNothing}
use Rattle.netlist.specs.Sound.{FitsCell, Fits1, Fits2, Sound, width_of_all}
use Rattle.netlist.specs.Wires.{read_by}
use Rattle.netlist.specs.declared.net.Cell.{Cell}
use Rattle.netlist.specs.declared.net.Cell.TheVariants.{Const, Copy, Mux, Reg, Ram, Use}
use Rattle.netlist.specs.declared.net.Flat.{Flat}
use Rattle.netlist.specs.declared.net.Op1.{Op1}
use Rattle.netlist.specs.declared.net.Op1.TheVariants.{Not, RedAnd, RedOr, RedXor}
use Rattle.netlist.specs.declared.net.Op2.{Op2}
use Rattle.netlist.specs.declared.net.Op2.TheVariants.{Add, Sub, Mul, And, Or, Xor, Eq, LtU, LtS, Shl, Shr, Sar}
use Rattle.netlist.proofs.Lengths.{fits_cell}
use Rattle.netlist.proofs.Widths.{Lengths, operator_width}
use Rattle.share_laws.specs.Same.{AllKnown, AllSame, Copies, IsFolded, IsKnown, Same}
use Rattle.share_laws.specs.Same.AllKnown.{known_and, known_none}
use Rattle.share_laws.specs.Same.AllSame.{same_and, same_none}
use Rattle.share_laws.specs.Same.Copies.{chosen, copy, either, single, whole}
use Rattle.share_laws.specs.Same.IsKnown.{carried, constant, folded}
use Rattle.share_laws.specs.Same.Same.{chained, copied, equal_bits, equal_cells, itself, turned}
use Rattle.share_laws.proofs.Alike.{Alike, alike}
use Rattle.share_laws.proofs.Alike.Alike.{bins, consts, copies, cuts, joins, muxes, rams, regs, uns}

-- wires of one net are as wide as those of another, one by one
abbrev pub AreAsWide : List ℕ → List ℕ → List WireId → List WireId → Type 0
AreAsWide these those [] [] = Unit {0}
AreAsWide these those (v ∷ vs) (w ∷ ws) = (slice_get these v.number ≡ slice_get those w.number) × AreAsWide these those vs ws
AreAsWide these those _ _ = ⊥

-- the width of a wire that a cell drives
abbrev pub width_at : List ℕ → Option ℕ → Option ℕ
width_at widths o = option_and_then (λ w. slice_get widths w) o

index_alike : (these those : List ℕ) (v w : ℕ) → slice_get these v ≡ slice_get those w → slice_index these v ≡ slice_index those w
index_alike these those v w e =
    sym (unwrap_or-slice_get these v 0) ∙ ap (λ o. unwrap_or o 0) e ∙ unwrap_or-slice_get those w 0

pub sums_alike : (these those : List ℕ) (vs ws : List WireId) (k : ℕ) → AreAsWide these those vs ws
    → fold (λ a (w : WireId). a + slice_index these w.number) k vs ≡ fold (λ a (w : WireId). a + slice_index those w.number) k ws
sums_alike these those [] [] k h = refl
sums_alike these those [] (w ∷ ws) k h = absurd h
sums_alike these those (v ∷ vs) [] k h = absurd h
sums_alike these those (v ∷ vs) (w ∷ ws) k h =
    ap (λ n. fold (λ a (w : WireId). a + slice_index these w.number) (k + n) vs) (index_alike these those v.number w.number h.0)
    ∙ sums_alike these those vs ws (k + slice_index those w.number) h.1

operators1_alike : (these those : List ℕ) (op : Op1) (v w a b : WireId) → Fits1 these op v a → Fits1 those op w b
    → slice_get these a.number ≡ slice_get those b.number → slice_get these v.number ≡ slice_get those w.number
operators1_alike these those Not v w a b f g r = f.1 ∙ sym f.2 ∙ r ∙ g.2 ∙ sym g.1
operators1_alike these those RedAnd v w a b f g r = f.0 ∙ sym g.0
operators1_alike these those RedOr v w a b f g r = f.0 ∙ sym g.0
operators1_alike these those RedXor v w a b f g r = f.0 ∙ sym g.0

operators2_alike : (these those : List ℕ) (op : Op2) (v w a b c d : WireId) → Fits2 these op v a b → Fits2 those op w c d
    → slice_get these a.number ≡ slice_get those c.number → slice_get these v.number ≡ slice_get those w.number
operators2_alike these those Add v w a b c d f g r = f.2 ∙ sym f.3 ∙ r ∙ g.3 ∙ sym g.2
operators2_alike these those Sub v w a b c d f g r = f.2 ∙ sym f.3 ∙ r ∙ g.3 ∙ sym g.2
operators2_alike these those Mul v w a b c d f g r = f.2 ∙ sym f.3 ∙ r ∙ g.3 ∙ sym g.2
operators2_alike these those And v w a b c d f g r = f.1 ∙ sym f.2 ∙ r ∙ g.2 ∙ sym g.1
operators2_alike these those Or v w a b c d f g r = f.1 ∙ sym f.2 ∙ r ∙ g.2 ∙ sym g.1
operators2_alike these those Xor v w a b c d f g r = f.1 ∙ sym f.2 ∙ r ∙ g.2 ∙ sym g.1
operators2_alike these those Eq v w a b c d f g r = f.0 ∙ sym g.0
operators2_alike these those LtU v w a b c d f g r = f.0 ∙ sym g.0
operators2_alike these those LtS v w a b c d f g r = f.0 ∙ sym g.0
operators2_alike these those Shl v w a b c d f g r = f.1.1 ∙ sym f.1.2 ∙ r ∙ g.1.2 ∙ sym g.1.1
operators2_alike these those Shr v w a b c d f g r = f.1.1 ∙ sym f.1.2 ∙ r ∙ g.1.2 ∙ sym g.1.1
operators2_alike these those Sar v w a b c d f g r = f.1.1 ∙ sym f.1.2 ∙ r ∙ g.1.2 ∙ sym g.1.1

-- cells that are alike drive wires of one width where they read wires of one width each
pub driven_alike : (n m : ℕ) (these those : List ℕ) (c d : Cell) → Alike c d → FitsCell n these c → FitsCell m those d
    → AreAsWide these those (read_by c) (read_by d) → width_at these (target c) ≡ width_at those (target d)
driven_alike n m these those _ _ (consts v w bits) f g r = f ∙ sym g
driven_alike n m these those _ _ (copies v w a b) f g r = f.1 ∙ sym f.2 ∙ r.0 ∙ g.2 ∙ sym g.1
driven_alike n m these those _ _ (joins v w parts others) f g r = f.1 ∙ ap Some (sums_alike these those parts others 0 r) ∙ sym g.1
driven_alike n m these those _ _ (cuts v w a b high low) f g r = f.1 ∙ sym g.1
driven_alike n m these those _ _ (uns v w a b op) f g r = operators1_alike these those op v w a b f g r.0
driven_alike n m these those _ _ (bins v w a b c d op) f g r = operators2_alike these those op v w a b c d f g r.0
driven_alike n m these those _ _ (muxes v w c a b d x y) f g r = f.1.1 ∙ sym f.1.2 ∙ r.1.0 ∙ g.1.2 ∙ sym g.1.1
driven_alike n m these those _ _ (regs v w a b domain initial) f g r = f.1 ∙ sym g.1
driven_alike n m these those _ _ (rams v w domain words inputs others) f g r = f.1.5.1 ∙ sym f.1.5.2 ∙ r.1.1.1.0 ∙ g.1.5.2 ∙ sym g.1.5.1

pub folded_keeps : (cell : Cell) → IsFolded cell → KeepsNothing cell
folded_keeps (Const w bits) f = absurd f
folded_keeps (Copy w a) f = absurd f
folded_keeps (Mux w c a b) f = absurd f
folded_keeps (Reg w domain initial a) f = absurd f
folded_keeps (Ram w domain words inputs) f = absurd f
folded_keeps (Use m reads drives) f = absurd f
folded_keeps _ f = tt

chosen_width : (widths : List ℕ) (n : ℕ) (b : Bool) (x y : ℕ) → slice_get widths x ≡ Some n → slice_get widths y ≡ Some n
    → slice_get widths (if b then x else y) ≡ Some n
chosen_width widths n true x y e f = e
chosen_width widths n false x y e f = f

-- a wire that a cell copies is as wide as the one that it drives
copied_width : (flat : Flat) (n : ℕ) (cell : Cell) (a : ℕ) → Copies flat cell a → FitsCell n flat.widths cell
    → width_at flat.widths (target cell) ≡ slice_get flat.widths a
copied_width flat n _ _ (copy w a) f = f.1 ∙ sym f.2
copied_width flat n _ _ (whole w a high e) f = let one : high - 0 + 1 ≡ suc high = omega arith in f.1 ∙ ap Some one ∙ sym e
copied_width flat n _ _ (single w a) f =
    let at = slice_get-get_or flat.widths a.number 0 f.0.0 in
    let one : width_of_all flat.widths (a ∷ []) ≡ get_or flat.widths a.number 0 = omega arith in
    f.1 ∙ ap Some one ∙ sym at
copied_width flat n _ _ (either w c a b s) f = f.1.1 ∙ sym f.1.2
copied_width flat n _ _ (chosen w c a b on k) f =
    f.1.1 ∙ sym (chosen_width flat.widths f.1.0 (number_of on == 1) a.number b.number f.1.2 f.1.3)

module _ (flat : Flat) (sound : Sound flat) where
  mutual
    pub same_width : (v w : ℕ) → Same flat v w → slice_get flat.widths v ≡ slice_get flat.widths w
    same_width _ _ (itself w l) = refl
    same_width _ _ (turned v w s) = sym (same_width v w s)
    same_width _ _ (chained u v w s t) = same_width u v s ∙ same_width v w t
    same_width _ _ (copied cell w a has t c) =
        ap (λ o. width_at flat.widths o) (sym t) ∙ copied_width flat (length flat.ports.domains) cell a c (fits_cell flat cell sound has)
    same_width _ _ (equal_cells c d v w has there t u e all) =
        ap (λ o. width_at flat.widths o) (sym t)
        ∙ driven_alike (length flat.ports.domains) (length flat.ports.domains) flat.widths flat.widths c d (alike c d v e t)
        (fits_cell flat c sound has) (fits_cell flat d sound there) (all_widths (read_by c) (read_by d) all)
        ∙ ap (λ o. width_at flat.widths o) u
    same_width _ _ (equal_bits v w bits k l) = known_width v bits k ∙ sym (known_width w bits l)

    all_widths : (vs ws : List WireId) → AllSame flat vs ws → AreAsWide flat.widths flat.widths vs ws
    all_widths _ _ same_none = tt
    all_widths _ _ (same_and v w vs ws s all) = (same_width v.number w.number s, all_widths vs ws all)

    pub known_width : (w : ℕ) (bits : List Bool) → IsKnown flat w bits → slice_get flat.widths w ≡ Some (length bits)
    known_width _ _ (constant w bits has) = fits_cell flat (Const w bits) sound has
    known_width _ _ (folded cell w values has f t all) =
        operator_width (length flat.ports.domains) flat.widths cell w values (fits_cell flat cell sound has) (folded_keeps cell f) t
        (known_widths (read_by cell) values all)
    known_width _ _ (carried v w bits s k) = sym (same_width v w s) ∙ known_width v bits k

    known_widths : (wires : List WireId) (values : List (List Bool)) → AllKnown flat wires values → Lengths flat.widths wires values
    known_widths _ _ known_none = tt
    known_widths _ _ (known_and w wires bits values k all) = (known_width w.number bits k, known_widths wires values all)
