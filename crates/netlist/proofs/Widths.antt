-- What an operator gives has the width of the wire that its cell drives.
use Rattle.std.proofs.Common.{◌≡◌, ℕ, zero, suc, ◌+◌, ◌-◌, ◌<◌, ◌≤◌, ◌==◌, Bool, true, false, not, ◌&&◌, ◌||◌, List, [], ◌∷◌, length, Option, Some, None, slice_get, refl, ap, sym, subst, ◌∙◌, arith, if◌then◌else◌}
use Rattle.std.specs.Prelude.{fold, drop, slice_index}
use Rattle.std.proofs.lemmas.List.{length-map, length-take-le, length-drop}
use Rattle.std.proofs.lemmas.List.Concat.{length-flat_map}
use Rattle.std.proofs.lemmas.Option.{get_or_from_slice_get}
use Rattle.chw_base.specs.declared.index.WireId.{WireId}
use Rattle.chw_bits.specs.Bits.{bits_of, cut_of, number_of}
use Rattle.chw_bits.specs.Bitwise.{bit_by_bit, differ}
use Rattle.netlist.specs.Feeds.{target}
use Rattle.netlist.specs.Operators.{KeepsNothing, operator, operator1, operator2}
use Rattle.netlist.specs.Sound.{FitsCell, Fits1, Fits2}
use Rattle.netlist.specs.Wires.{read_by}
use Rattle.netlist.specs.declared.net.Cell.{Cell}
use Rattle.netlist.specs.declared.net.Cell.TheVariants.{Const, Copy, Join, Cut, Un, Bin, Mux, Reg, Ram, Use}
use Rattle.netlist.specs.declared.net.Op1.{Op1}
use Rattle.netlist.specs.declared.net.Op1.TheVariants.{Not, RedAnd, RedOr, RedXor}
use Rattle.netlist.specs.declared.net.Op2.{Op2}
use Rattle.netlist.specs.declared.net.Op2.TheVariants.{Add, Sub, Mul, And, Or, Xor, Eq, LtU, LtS, Shl, Shr, Sar}

-- the bits have the widths of these wires
abbrev pub Lengths : List ℕ → List WireId → List (List Bool) → Type 0
Lengths widths [] [] = Unit {0}
Lengths widths (w ∷ wires) (bits ∷ values) = (slice_get widths w.number ≡ Some (length bits)) × Lengths widths wires values
Lengths widths _ _ = ⊥

-- the bits have the width of this wire, if there is one
abbrev HasLength : List ℕ → Option ℕ → List Bool → Type 0
HasLength widths None bits = Unit {0}
HasLength widths (Some w) bits = slice_get widths w ≡ Some (length bits)

-- made bits have their width
pub made_length : (n m : ℕ) → length (bits_of n m) ≡ n
made_length zero m = refl
made_length (suc n) m = ap suc (made_length n m)

same_length : {n m : ℕ} → Some n ≡ Some m → n ≡ m
same_length e = cc

bitwise_length : (of : Bool → Bool → Bool) (x y : List Bool) → length x ≡ length y → length (bit_by_bit of x y) ≡ length x
bitwise_length of [] y e = refl
bitwise_length of (a ∷ x) [] e = absurd (omega (arith, e))
bitwise_length of (a ∷ x) (b ∷ y) e = ap suc (bitwise_length of x y (omega (arith, e)))

cut_length : (high low : ℕ) (x : List Bool) → low ≤ high → high < length x → length (cut_of high low x) ≡ high - low + 1
cut_length high low x le lt =
    let rest = length-drop (length x - 1 - high) x in
    length-take-le (high + 1 - low) (drop (length x - 1 - high) x) (omega (arith, rest)) ∙ (omega arith)

-- the widths of wires, added up, are the lengths of their bits
sums : (widths : List ℕ) (wires : List WireId) (values : List (List Bool)) (k : ℕ) → Lengths widths wires values
    → fold (λ a (w : WireId). a + slice_index widths w.number) k wires ≡ fold (λ a (bits : List Bool). a + length bits) k values
sums widths [] [] k l = refl
sums widths [] (bits ∷ values) k l = absurd l
sums widths (w ∷ wires) [] k l = absurd l
sums widths (w ∷ wires) (bits ∷ values) k l =
    let is : slice_index widths w.number ≡ length bits = get_or_from_slice_get widths w.number (length bits) 0 l.0 in
    ap (λ n. fold (λ a (w : WireId). a + slice_index widths w.number) (k + n) wires) is ∙ sums widths wires values (k + length bits) l.1

fits_operator1 : (widths : List ℕ) (op : Op1) (w a : WireId) (x : List Bool) → Fits1 widths op w a → slice_get widths a.number ≡ Some (length x)
    → slice_get widths w.number ≡ Some (length (operator1 op x))
fits_operator1 widths Not w a x fits l = fits.1 ∙ sym fits.2 ∙ l ∙ ap Some (sym (length-map x not))
fits_operator1 widths RedAnd w a x fits l = fits.0
fits_operator1 widths RedOr w a x fits l = fits.0
fits_operator1 widths RedXor w a x fits l = fits.0

-- the result is as wide as the left operand
like_left : (widths : List ℕ) (w a n k : ℕ) (m : ℕ) → slice_get widths w ≡ Some n → slice_get widths a ≡ Some n → slice_get widths a ≡ Some k
    → slice_get widths w ≡ Some (length (bits_of k m))
like_left widths w a n k m own left l = own ∙ sym left ∙ l ∙ ap Some (sym (made_length k m))

bit_for_bit : (widths : List ℕ) (of : Bool → Bool → Bool) (w a b n : ℕ) (x y : List Bool) → slice_get widths w ≡ Some n → slice_get widths a ≡ Some n
    → slice_get widths b ≡ Some n → slice_get widths a ≡ Some (length x) → slice_get widths b ≡ Some (length y) → slice_get widths w ≡ Some (length (bit_by_bit of x y))
bit_for_bit widths of w a b n x y own left right l m =
    own ∙ sym left ∙ l ∙ ap Some (sym (bitwise_length of x y (same_length (sym l ∙ left ∙ sym right ∙ m))))

fits_operator2 : (widths : List ℕ) (op : Op2) (w a b : WireId) (x y : List Bool) → Fits2 widths op w a b → slice_get widths a.number ≡ Some (length x)
    → slice_get widths b.number ≡ Some (length y) → slice_get widths w.number ≡ Some (length (operator2 op x y))
fits_operator2 widths Add w a b x y fits l m = like_left widths w.number a.number fits.0 (length x) _ fits.2 fits.3 l
fits_operator2 widths Sub w a b x y fits l m = like_left widths w.number a.number fits.0 (length x) _ fits.2 fits.3 l
fits_operator2 widths Mul w a b x y fits l m = like_left widths w.number a.number fits.0 (length x) _ fits.2 fits.3 l
fits_operator2 widths And w a b x y fits l m = bit_for_bit widths (λ a b. a && b) w.number a.number b.number fits.0 x y fits.1 fits.2 fits.3 l m
fits_operator2 widths Or w a b x y fits l m = bit_for_bit widths (λ a b. a || b) w.number a.number b.number fits.0 x y fits.1 fits.2 fits.3 l m
fits_operator2 widths Xor w a b x y fits l m = bit_for_bit widths differ w.number a.number b.number fits.0 x y fits.1 fits.2 fits.3 l m
fits_operator2 widths Eq w a b x y fits l m = fits.0
fits_operator2 widths LtU w a b x y fits l m = fits.0
fits_operator2 widths LtS w a b x y fits l m = fits.0
fits_operator2 widths Shl w a b x y fits l m = like_left widths w.number a.number fits.1.0 (length x) _ fits.1.1 fits.1.2 l
fits_operator2 widths Shr w a b x y fits l m = like_left widths w.number a.number fits.1.0 (length x) _ fits.1.1 fits.1.2 l
fits_operator2 widths Sar w a b x y fits l m = like_left widths w.number a.number fits.1.0 (length x) _ fits.1.1 fits.1.2 l

chosen_length : (on : Bool) (x y : List Bool) (n : ℕ) → length x ≡ n → length y ≡ n → length (if on then x else y) ≡ n
chosen_length true x y n e f = e
chosen_length false x y n e f = f

fits_operator : (domains : ℕ) (widths : List ℕ) (cell : Cell) (values : List (List Bool)) → FitsCell domains widths cell → KeepsNothing cell
    → Lengths widths (read_by cell) values → HasLength widths (target cell) (operator cell values)
fits_operator domains widths (Const w bits) values fits keeps l = fits
fits_operator domains widths (Copy w a) [] fits keeps l = absurd l
fits_operator domains widths (Copy w a) (x ∷ []) fits keeps l = fits.1 ∙ sym fits.2 ∙ l.0
fits_operator domains widths (Copy w a) (x ∷ y ∷ more) fits keeps l = absurd l.1
fits_operator domains widths (Join w parts) values fits keeps l =
    fits.1 ∙ ap Some (sums widths parts values 0 l ∙ sym (length-flat_map (λ bits. bits) values))
fits_operator domains widths (Cut w a high low) [] fits keeps l = absurd l
fits_operator domains widths (Cut w a high low) (x ∷ []) fits keeps l =
    let is : fits.2.0 ≡ length x = same_length (sym fits.2.2 ∙ l.0) in
    fits.1 ∙ ap Some (sym (cut_length high low x fits.0 (omega (arith, fits.2.1))))
fits_operator domains widths (Cut w a high low) (x ∷ y ∷ more) fits keeps l = absurd l.1
fits_operator domains widths (Un w op a) [] fits keeps l = absurd l
fits_operator domains widths (Un w op a) (x ∷ []) fits keeps l = fits_operator1 widths op w a x fits l.0
fits_operator domains widths (Un w op a) (x ∷ y ∷ more) fits keeps l = absurd l.1
fits_operator domains widths (Bin w op a b) [] fits keeps l = absurd l
fits_operator domains widths (Bin w op a b) (x ∷ []) fits keeps l = absurd l.1
fits_operator domains widths (Bin w op a b) (x ∷ y ∷ []) fits keeps l = fits_operator2 widths op w a b x y fits l.0 l.1.0
fits_operator domains widths (Bin w op a b) (x ∷ y ∷ z ∷ more) fits keeps l = absurd l.1.1
fits_operator domains widths (Mux w c a b) [] fits keeps l = absurd l
fits_operator domains widths (Mux w c a b) (on ∷ []) fits keeps l = absurd l.1
fits_operator domains widths (Mux w c a b) (on ∷ x ∷ []) fits keeps l = absurd l.1.1
fits_operator domains widths (Mux w c a b) (on ∷ x ∷ y ∷ []) fits keeps l =
    let wide = fits.1 in
    let left : length x ≡ wide.0 = same_length (sym l.1.0 ∙ wide.2) in
    let right : length y ≡ wide.0 = same_length (sym l.1.1.0 ∙ wide.3) in
    wide.1 ∙ ap Some (sym (chosen_length (number_of on == 1) x y wide.0 left right))
fits_operator domains widths (Mux w c a b) (on ∷ x ∷ y ∷ z ∷ more) fits keeps l = absurd l.1.1.1
fits_operator domains widths (Reg w domain initial a) values fits keeps l = absurd keeps
fits_operator domains widths (Ram w domain words inputs) values fits keeps l = absurd keeps
fits_operator domains widths (Use m reads drives) values fits keeps l = absurd keeps

-- what an operator makes of bits of the widths of the wires has the width of the wire that the cell drives
pub operator_width : (domains : ℕ) (widths : List ℕ) (cell : Cell) (w : ℕ) (values : List (List Bool)) → FitsCell domains widths cell → KeepsNothing cell
    → target cell ≡ Some w → Lengths widths (read_by cell) values → slice_get widths w ≡ Some (length (operator cell values))
operator_width domains widths cell w values fits keeps t l =
    subst (λ o. HasLength widths o (operator cell values)) t (fits_operator domains widths cell values fits keeps l)
