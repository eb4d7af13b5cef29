-- The shared net of a sound flat net is sound.
use Rattle.std.proofs.Common.{◌≡◌, ℕ, zero, suc, ◌+◌, ◌<◌, ◌≤◌, List, [], ◌∷◌, ◌++◌, length, map, take, get_or, Some, slice_get, refl, sym, ap, subst, ◌∙◌, arith, length-append}
use Rattle.std.specs.Prelude.{slice_index}
use Rattle.std.specs.List.{AllByRecursion}
use Rattle.std.proofs.lemmas.List.{length-map, length-take-le, take_at}
use Rattle.std.proofs.lemmas.Option.{slice_get-get_or, slice_get_within}
use Rattle.chw_base.specs.declared.index.WireId.{WireId}
use Rattle.chw_base.specs.declared.limits.TheConstants.{FLAT_WIRES}
use Rattle.chw_clock.specs.declared.event.Port.{Port}
use Rattle.chw_clock.specs.declared.event.Ports.{Ports}
use Rattle.net_rules.proofs.EachItem.{all_of_each}
use Rattle.netlist.specs.Feeds.{target}
use Rattle.netlist.specs.Sound.{DrivesFrom, FitsCell, Fits1, Fits2, IsWire, IsWireWidth, Sound}
use Rattle.netlist.specs.Wires.{read_by}
use Rattle.netlist.specs.declared.net.Cell.{Cell}
use Rattle.netlist.specs.declared.net.Flat.{Flat}
use Rattle.netlist.specs.declared.net.Op1.{Op1}
use Rattle.netlist.specs.declared.net.Op1.TheVariants.{Not, RedAnd, RedOr, RedXor}
use Rattle.netlist.specs.declared.net.Op2.{Op2}
use Rattle.netlist.specs.declared.net.Op2.TheVariants.{Add, Sub, Mul, And, Or, Xor, Eq, LtU, LtS, Shl, Shr, Sar}
use Rattle.netlist.proofs.Lengths.{fits_cell}
use Rattle.netlist.proofs.Places.{all_at}
use Rattle.share_laws.specs.Shares.{AreSharedCells, IsAmong, IsNumbered, IsSharedCell, Shares}
use Rattle.share_laws.specs.Shares.IsNumbered.{as_kept}
use Rattle.share_laws.specs.Shares.IsSharedCell.{as_constant, as_own}
use Rattle.share_laws.proofs.Alike.{Alike, alike}
use Rattle.share_laws.proofs.Alike.Alike.{bins, consts, copies, cuts, joins, muxes, rams, regs, uns}
use Rattle.share_laws.proofs.Renamed.{become_wide, count_shared, kept_within, new_width, shared_at, shared_target}
use Rattle.share_laws.proofs.Rising.{rises_fit}
use Rattle.share_laws.proofs.Widths.{AreAsWide, known_width, sums_alike, width_at}

-- a wire as wide as one that exists exists
wire_alike : (these those : List ℕ) (v w : WireId) → slice_get these v.number ≡ slice_get those w.number → IsWire these v → IsWire those w
wire_alike these those v w e l =
    slice_get_within those w.number (get_or these v.number 0) (sym e ∙ slice_get-get_or these v.number 0 l)

wires_alike : (these those : List ℕ) (vs ws : List WireId) → AreAsWide these those vs ws → AllByRecursion (IsWire these) vs → AllByRecursion (IsWire those) ws
wires_alike these those [] [] h all = tt
wires_alike these those [] (w ∷ ws) h all = absurd h
wires_alike these those (v ∷ vs) [] h all = absurd h
wires_alike these those (v ∷ vs) (w ∷ ws) h all = (wire_alike these those v w h.0 all.0, wires_alike these those vs ws h.1 all.1)

fits1_alike : (these those : List ℕ) (op : Op1) (v w a b : WireId) → slice_get these v.number ≡ slice_get those w.number
    → slice_get these a.number ≡ slice_get those b.number → Fits1 these op v a → Fits1 those op w b
fits1_alike these those Not v w a b t r f = (f.0, sym t ∙ f.1, sym r ∙ f.2)
fits1_alike these those RedAnd v w a b t r f = (sym t ∙ f.0, wire_alike these those a b r f.1)
fits1_alike these those RedOr v w a b t r f = (sym t ∙ f.0, wire_alike these those a b r f.1)
fits1_alike these those RedXor v w a b t r f = (sym t ∙ f.0, wire_alike these those a b r f.1)

fits2_alike : (these those : List ℕ) (op : Op2) (v w a b c d : WireId) → slice_get these v.number ≡ slice_get those w.number
    → slice_get these a.number ≡ slice_get those c.number → slice_get these b.number ≡ slice_get those d.number
    → Fits2 these op v a b → Fits2 those op w c d
fits2_alike these those Add v w a b c d t r u f = (f.0, f.1, sym t ∙ f.2, sym r ∙ f.3, sym u ∙ f.4)
fits2_alike these those Sub v w a b c d t r u f = (f.0, f.1, sym t ∙ f.2, sym r ∙ f.3, sym u ∙ f.4)
fits2_alike these those Mul v w a b c d t r u f = (f.0, f.1, sym t ∙ f.2, sym r ∙ f.3, sym u ∙ f.4)
fits2_alike these those And v w a b c d t r u f = (f.0, sym t ∙ f.1, sym r ∙ f.2, sym u ∙ f.3)
fits2_alike these those Or v w a b c d t r u f = (f.0, sym t ∙ f.1, sym r ∙ f.2, sym u ∙ f.3)
fits2_alike these those Xor v w a b c d t r u f = (f.0, sym t ∙ f.1, sym r ∙ f.2, sym u ∙ f.3)
fits2_alike these those Eq v w a b c d t r u f = (sym t ∙ f.0, (f.1.0, sym r ∙ f.1.1, sym u ∙ f.1.2))
fits2_alike these those LtU v w a b c d t r u f = (sym t ∙ f.0, (f.1.0, sym r ∙ f.1.1, sym u ∙ f.1.2))
fits2_alike these those LtS v w a b c d t r u f = (sym t ∙ f.0, (f.1.0, sym r ∙ f.1.1, sym u ∙ f.1.2))
fits2_alike these those Shl v w a b c d t r u f = (wire_alike these those b d u f.0, (f.1.0, sym t ∙ f.1.1, sym r ∙ f.1.2))
fits2_alike these those Shr v w a b c d t r u f = (wire_alike these those b d u f.0, (f.1.0, sym t ∙ f.1.1, sym r ∙ f.1.2))
fits2_alike these those Sar v w a b c d t r u f = (wire_alike these those b d u f.0, (f.1.0, sym t ∙ f.1.1, sym r ∙ f.1.2))

-- a cell that is alike fits as well, where it drives and reads wires as wide
fits_alike : (n : ℕ) (these those : List ℕ) (c d : Cell) → Alike c d → width_at these (target c) ≡ width_at those (target d)
    → AreAsWide these those (read_by c) (read_by d) → FitsCell n these c → FitsCell n those d
fits_alike n these those _ _ (consts v w bits) t r f = sym t ∙ f
fits_alike n these those _ _ (copies v w a b) t r f = (f.0, sym t ∙ f.1, sym r.0 ∙ f.2)
fits_alike n these those _ _ (joins v w parts others) t r f =
    (wires_alike these those parts others r f.0, sym t ∙ f.1 ∙ ap Some (sums_alike these those parts others 0 r))
fits_alike n these those _ _ (cuts v w a b high low) t r f = (f.0, sym t ∙ f.1, (f.2.0, f.2.1, sym r.0 ∙ f.2.2))
fits_alike n these those _ _ (uns v w a b op) t r f = fits1_alike these those op v w a b t r.0 f
fits_alike n these those _ _ (bins v w a b c d op) t r f = fits2_alike these those op v w a b c d t r.0 r.1.0 f
fits_alike n these those _ _ (muxes v w c a b d x y) t r f =
    (sym r.0 ∙ f.0, (f.1.0, sym t ∙ f.1.1, sym r.1.0 ∙ f.1.2, sym r.1.1.0 ∙ f.1.3))
fits_alike n these those _ _ (regs v w a b domain initial) t r f = (f.0, sym t ∙ f.1, sym r.0 ∙ f.2)
fits_alike n these those _ _ (rams v w domain words inputs others) t r f = (
  f.0,
  (
    f.1.0,
    f.1.1,
    sym r.0 ∙ f.1.2,
    sym r.1.0 ∙ f.1.3,
    sym r.1.1.0 ∙ f.1.4,
    (f.1.5.0, sym t ∙ f.1.5.1, sym r.1.1.1.0 ∙ f.1.5.2, f.1.5.3),
  ),
)

drives_from : (flat : Flat) (kept : List ℕ) (n : ℕ) (ws : List ℕ) (cells : List Cell) → AreSharedCells flat kept n ws cells → DrivesFrom n cells
drives_from flat kept n [] [] all = tt
drives_from flat kept n [] (c ∷ cells) all = absurd all
drives_from flat kept n (w ∷ ws) [] all = absurd all
drives_from flat kept n (w ∷ ws) (c ∷ cells) all = (shared_target flat kept w n c all.0, drives_from flat kept (n + 1) ws cells all.1)

widths_alike : (these those : List ℕ) (vs ws : List WireId) → AreAsWide these those vs ws
    → map (λ (w : WireId). slice_get those w.number) ws ≡ map (λ (w : WireId). slice_get these w.number) vs
widths_alike these those [] [] h = refl
widths_alike these those [] (w ∷ ws) h = absurd h
widths_alike these those (v ∷ vs) [] h = absurd h
widths_alike these those (v ∷ vs) (w ∷ ws) h =
    ap (λ o. o ∷ map (λ (w : WireId). slice_get those w.number) ws) (sym h.0) ∙ ap (λ os. slice_get these v.number ∷ os) (widths_alike these those vs ws h.1)

all_appended : {X : Type 0} (P : X → Type 0) (xs ys : List X) → AllByRecursion P xs → AllByRecursion P ys → AllByRecursion P (xs ++ ys)
all_appended P [] ys h k = k
all_appended P (x ∷ xs) ys h k = (h.0, all_appended P xs ys h.1 k)

all_taken : {X : Type 0} (P : X → Type 0) (n : ℕ) (xs : List X) → AllByRecursion P xs → AllByRecursion P (take n xs)
all_taken P zero xs h = tt
all_taken P (suc n) [] h = tt
all_taken P (suc n) (x ∷ xs) h = (h.0, all_taken P n xs h.1)

all_widths_kept : (widths ws : List ℕ) → AllByRecursion IsWireWidth widths → ((w : ℕ) → IsAmong ws w → w < length widths)
    → AllByRecursion IsWireWidth (map (λ w. slice_index widths w) ws)
all_widths_kept widths [] h within = tt
all_widths_kept widths (w ∷ ws) h within = (
  all_at IsWireWidth widths w (get_or widths w 0) h (slice_get-get_or widths w 0 (within w (zero, refl))),
  all_widths_kept widths ws h (λ v i. within v (suc i.0, i.1)),
)

module _ (flat shared : Flat) (sound : Sound flat) (s : Shares flat shared) where
  few : length flat.ports.inputs ≤ length flat.widths
  few = omega (arith, sound.all)

  taken_long : length (take (length flat.ports.inputs) flat.widths) ≡ length flat.ports.inputs
  taken_long = length-take-le (length flat.ports.inputs) flat.widths few

  -- the shared net has the inputs and the kept wires
  pub count_wires : length shared.widths ≡ length flat.ports.inputs + length s.kept
  count_wires =
      let rest = map (λ w. slice_index flat.widths w) s.kept in
      ap length s.widths ∙ length-append (take (length flat.ports.inputs) flat.widths) rest
      ∙ omega (arith, taken_long, length-map s.kept (λ w. slice_index flat.widths w))

  -- a kept wire has a cell of its own in the first net
  pub no_more : length shared.cells ≤ length flat.cells
  no_more =
      let fit = rises_fit (length flat.ports.inputs) (length flat.widths) s.kept s.rises few (λ w i. kept_within flat sound shared s w i) in
      omega (arith, fit, sound.all, count_shared flat s.kept (length flat.ports.inputs) s.kept shared.cells s.cells)

  fewer : length shared.widths ≤ FLAT_WIRES
  fewer =
      let fit = rises_fit (length flat.ports.inputs) (length flat.widths) s.kept s.rises few (λ w i. kept_within flat sound shared s w i) in
      omega (arith, count_wires, fit, sound.few)

  -- a shared cell fits
  shared_fits : (w n : ℕ) (cell : Cell) → IsNumbered (length flat.ports.inputs) s.kept w n → IsSharedCell flat s.kept w n cell
      → FitsCell (length flat.ports.domains) shared.widths cell
  shared_fits w n cell num (as_constant bits k e) =
      subst (λ x. FitsCell (length flat.ports.domains) shared.widths x) (sym e)
      (new_width flat sound shared s w n num ∙ known_width flat sound w bits k)
  shared_fits w n cell num (as_own own unknown has t same u reads) =
      let wide : width_at flat.widths (target own) ≡ width_at shared.widths (target cell) =
      ap (λ o. width_at flat.widths o) t ∙ sym (new_width flat sound shared s w n num) ∙ ap (λ o. width_at shared.widths o) (sym u) in
      fits_alike (length flat.ports.domains) flat.widths shared.widths own cell (alike own cell w same t) wide
      (become_wide flat sound shared s (read_by own) (read_by cell) reads) (fits_cell flat own sound has)

  fits_at : (k : ℕ) (cell : Cell) → slice_get shared.cells k ≡ Some cell → FitsCell (length shared.ports.domains) shared.widths cell
  fits_at k cell e =
      let at = shared_at flat s.kept (length flat.ports.inputs) s.kept shared.cells k cell s.cells e in
      subst (λ (p : Ports). FitsCell (length p.domains) shared.widths cell) (sym s.ports)
      (shared_fits at.w (length flat.ports.inputs + k) cell (as_kept k at.there refl) at.is_shared)

  pub shared_sound : Sound shared
  shared_sound =
      let rest = map (λ w. slice_index flat.widths w) s.kept in
      let inputs : map (λ (port : Port). port.width) flat.ports.inputs ≡ take (length flat.ports.inputs) shared.widths =
      sound.inputs ∙ sym (take_at (take (length flat.ports.inputs) flat.widths) rest (length flat.ports.inputs) taken_long)
      ∙ ap (λ ws. take (length flat.ports.inputs) ws) (sym s.widths) in
      let outputs : map (λ (w : WireId). slice_get shared.widths w.number) shared.outputs ≡ map (λ (port : Port). Some port.width) flat.ports.outputs =
      widths_alike flat.widths shared.widths flat.outputs shared.outputs (become_wide flat sound shared s flat.outputs shared.outputs s.outputs) ∙ sound.outputs in
      record {
        few = fewer;
        widths = subst (λ ws. AllByRecursion IsWireWidth ws) (sym s.widths)
            (all_appended IsWireWidth (take (length flat.ports.inputs) flat.widths) rest (all_taken IsWireWidth (length flat.ports.inputs) flat.widths sound.widths)
            (all_widths_kept flat.widths s.kept sound.widths (λ w i. kept_within flat sound shared s w i)));
        inputs = subst (λ (p : Ports). map (λ (port : Port). port.width) p.inputs ≡ take (length p.inputs) shared.widths) (sym s.ports) inputs;
        outputs = subst (λ (p : Ports). map (λ (w : WireId). slice_get shared.widths w.number) shared.outputs ≡ map (λ (port : Port). Some port.width) p.outputs) (sym s.ports) outputs;
        cells = all_of_each (FitsCell (length shared.ports.domains) shared.widths) shared.cells (λ k cell e. fits_at k cell e);
        in_order = subst (λ (p : Ports). DrivesFrom (length p.inputs) shared.cells) (sym s.ports)
            (drives_from flat s.kept (length flat.ports.inputs) s.kept shared.cells s.cells);
        all =
            let ports = ap (λ (p : Ports). length p.inputs) s.ports in
            omega (arith, ports, count_wires, count_shared flat s.kept (length flat.ports.inputs) s.kept shared.cells s.cells);
      }
