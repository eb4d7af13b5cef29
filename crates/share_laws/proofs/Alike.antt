-- Cells of one kind with the same fields.
use Rattle.std.proofs.Common.{◌≡◌, ℕ, Bool, List, Some, refl, ap, subst, ◌∙◌}
use Rattle.chw_base.specs.declared.index.DomId.{DomId}
use Rattle.chw_base.specs.declared.index.WireId.{WireId}
use Rattle.netlist.specs.Feeds.{target}
use Rattle.netlist.specs.Wires.{read_by}
use Rattle.netlist.specs.declared.net.Cell.{Cell}
use Rattle.netlist.specs.declared.net.Cell.TheVariants.{Const, Copy, Join, Cut, Un, Bin, Mux, Reg, Ram, Use}
use Rattle.netlist.specs.declared.net.Op1.{Op1}
use Rattle.netlist.specs.declared.net.Op2.{Op2}
use Rattle.netlist.specs.declared.net.RamIn.{RamIn}
use Rattle.share_laws.specs.Same.{bare}

-- the cells differ in their wires alone, and are no uses
pub data Alike : Cell → Cell → Type 0 where
  consts : (v w : WireId) (bits : List Bool) → Alike (Const v bits) (Const w bits)
  copies : (v w a b : WireId) → Alike (Copy v a) (Copy w b)
  joins : (v w : WireId) (parts others : List WireId) → Alike (Join v parts) (Join w others)
  cuts : (v w a b : WireId) (high low : ℕ) → Alike (Cut v a high low) (Cut w b high low)
  uns : (v w a b : WireId) (op : Op1) → Alike (Un v op a) (Un w op b)
  bins : (v w a b c d : WireId) (op : Op2) → Alike (Bin v op a b) (Bin w op c d)
  muxes : (v w c a b d x y : WireId) → Alike (Mux v c a b) (Mux w d x y)
  regs : (v w a b : WireId) (domain : DomId) (initial : List Bool) → Alike (Reg v domain initial a) (Reg w domain initial b)
  rams : (v w : WireId) (domain : DomId) (words : List (List Bool)) (inputs others : RamIn) → Alike (Ram v domain words inputs) (Ram w domain words others)

-- cells that are bare equal are alike, where the first drives a wire, so that it is no use
pub alike : (c d : Cell) (w : ℕ) → bare c ≡ bare d → target c ≡ Some w → Alike c d
alike (Const v bits) (Const w others) n e t =
    let is : bits ≡ others = cc in subst (λ x. Alike (Const v bits) (Const w x)) is (consts v w bits)
alike (Const v bits) _ n e t = absurd (cc)
alike (Copy v a) (Copy w b) n e t = copies v w a b
alike (Copy v a) _ n e t = absurd (cc)
alike (Join v parts) (Join w others) n e t = joins v w parts others
alike (Join v parts) _ n e t = absurd (cc)
alike (Cut v a high low) (Cut w b top bottom) n e t =
    let first : high ≡ top = cc in
    let second : low ≡ bottom = cc in
    subst (λ x. Alike (Cut v a high low) (Cut w b x bottom)) first
    (subst (λ x. Alike (Cut v a high low) (Cut w b high x)) second (cuts v w a b high low))
alike (Cut v a high low) _ n e t = absurd (cc)
alike (Un v op a) (Un w of b) n e t =
    let is : op ≡ of = cc in subst (λ x. Alike (Un v op a) (Un w x b)) is (uns v w a b op)
alike (Un v op a) _ n e t = absurd (cc)
alike (Bin v op a b) (Bin w of c d) n e t =
    let is : op ≡ of = cc in subst (λ x. Alike (Bin v op a b) (Bin w x c d)) is (bins v w a b c d op)
alike (Bin v op a b) _ n e t = absurd (cc)
alike (Mux v c a b) (Mux w d x y) n e t = muxes v w c a b d x y
alike (Mux v c a b) _ n e t = absurd (cc)
alike (Reg v domain initial a) (Reg w other bits b) n e t =
    let first : domain ≡ other = cc in
    let second : initial ≡ bits = cc in
    subst (λ x. Alike (Reg v domain initial a) (Reg w x bits b)) first
    (subst (λ x. Alike (Reg v domain initial a) (Reg w domain x b)) second (regs v w a b domain initial))
alike (Reg v domain initial a) _ n e t = absurd (cc)
alike (Ram v domain words inputs) (Ram w other values others) n e t =
    let first : domain ≡ other = cc in
    let second : words ≡ values = cc in
    subst (λ x. Alike (Ram v domain words inputs) (Ram w x values others)) first
    (subst (λ x. Alike (Ram v domain words inputs) (Ram w domain x others)) second (rams v w domain words inputs others))
alike (Ram v domain words inputs) _ n e t = absurd (cc)
alike (Use m reads drives) d n e t = absurd (cc)

abbrev wire_of : ℕ → WireId
wire_of n = record { number = n }

pub same_wire : (v w : WireId) → Some v.number ≡ Some w.number → v ≡ w
same_wire v w e = let is : v.number ≡ w.number = cc in ap wire_of is

-- cells that are alike are equal where they drive and read the same
pub equal_cells : (c d : Cell) → Alike c d → target c ≡ target d → read_by c ≡ read_by d → c ≡ d
equal_cells _ _ (consts v w bits) t r = ap (λ x. Const x bits) (same_wire v w t)
equal_cells _ _ (copies v w a b) t r =
    let is : a ≡ b = cc in ap (λ x. Copy x a) (same_wire v w t) ∙ ap (λ x. Copy w x) is
equal_cells _ _ (joins v w parts others) t r = ap (λ x. Join x parts) (same_wire v w t) ∙ ap (λ x. Join w x) r
equal_cells _ _ (cuts v w a b high low) t r =
    let is : a ≡ b = cc in ap (λ x. Cut x a high low) (same_wire v w t) ∙ ap (λ x. Cut w x high low) is
equal_cells _ _ (uns v w a b op) t r =
    let is : a ≡ b = cc in ap (λ x. Un x op a) (same_wire v w t) ∙ ap (λ x. Un w op x) is
equal_cells _ _ (bins v w a b c d op) t r =
    let first : a ≡ c = cc in
    let second : b ≡ d = cc in
    ap (λ x. Bin x op a b) (same_wire v w t) ∙ ap (λ x. Bin w op x b) first ∙ ap (λ x. Bin w op c x) second
equal_cells _ _ (muxes v w c a b d x y) t r =
    let condition : c ≡ d = cc in
    let first : a ≡ x = cc in
    let second : b ≡ y = cc in
    ap (λ z. Mux z c a b) (same_wire v w t) ∙ ap (λ z. Mux w z a b) condition ∙ ap (λ z. Mux w d z b) first ∙ ap (λ z. Mux w d x z) second
equal_cells _ _ (regs v w a b domain initial) t r =
    let is : a ≡ b = cc in ap (λ x. Reg x domain initial a) (same_wire v w t) ∙ ap (λ x. Reg w domain initial x) is
equal_cells _ _ (rams v w domain words inputs others) t r =
    let read : inputs.read ≡ others.read = cc in
    let enable : inputs.enable ≡ others.enable = cc in
    let place : inputs.place ≡ others.place = cc in
    let value : inputs.value ≡ others.value = cc in
    ap (λ x. Ram x domain words inputs) (same_wire v w t) ∙ ap (λ x. Ram w domain words x) (same_inputs inputs others read enable place value)
  where
    same_inputs : (i j : RamIn) → i.read ≡ j.read → i.enable ≡ j.enable → i.place ≡ j.place → i.value ≡ j.value → i ≡ j
    same_inputs i j read enable place value =
        let first : i ≡ record { read = i.read; enable = i.enable; place = i.place; value = i.value } = refl in
        let second : j ≡ record { read = j.read; enable = j.enable; place = j.place; value = j.value } = refl in
        cc
