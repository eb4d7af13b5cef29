-- A sound flat net whose ports hold is a well formed net of one module.
use Rattle.std.proofs.Common.{◌≡◌, ℕ, zero, suc, ◌+◌, ◌<◌, List, [], ◌∷◌, ◌++◌, length, map, take, Option, Some, None, slice_get, refl, sym, ap, subst, ◌∙◌, arith}
use Rattle.std.specs.Prelude.{flat_map, option_and_then, option_map}
use Rattle.std.specs.List.{AllByRecursion}
use Rattle.std.proofs.lemmas.List.{length-map}
use Rattle.std.proofs.lemmas.Option.{slice_get-map, slice_get_within}
use Rattle.chw_base.specs.declared.index.WireId.{WireId}
use Rattle.chw_clock.specs.declared.event.Port.{Port}
use Rattle.net_rules.proofs.EachItem.{all_of_each}
use Rattle.net_rules.specs.PortsHold.{PortsHold}
use Rattle.net_rules.specs.WellFormed.{DriversHold, EachRuleHolds, HasFewWords, LimitsHold, NamesExist, NamesHold, PartExists, Together, WellFormed, WidthsAgree, WidthsHold, wire_driven_at}
use Rattle.net_rules.specs.declared.well_formed.NetCode.TheVariants.{Name, Width, Driver, Limit}
use Rattle.netlist.specs.Feeds.{target, target_at}
use Rattle.netlist.specs.Sound.{DrivesFrom, FitsCell, Fits1, Fits2, HasWidth, IsWire, Sound}
use Rattle.netlist.specs.Wires.{driven, read_by}
use Rattle.netlist.specs.declared.net.Cell.{Cell}
use Rattle.netlist.specs.declared.net.Cell.TheVariants.{Const, Copy, Join, Cut, Un, Bin, Mux, Reg, Ram, Use}
use Rattle.netlist.specs.declared.net.Flat.{Flat}
use Rattle.netlist.specs.declared.net.Module.{Module}
use Rattle.netlist.specs.declared.net.Op1.{Op1}
use Rattle.netlist.specs.declared.net.Op1.TheVariants.{Not}
use Rattle.netlist.specs.declared.net.Op2.{Op2}
use Rattle.netlist.specs.declared.net.Op2.TheVariants.{Add, Sub, Mul, And, Or, Xor, Eq, LtU, LtS}
use Rattle.netlist.proofs.Driven.{each_driven_once, target_in_order, target_is_wire}
use Rattle.netlist.proofs.Lengths.{fits_cell}
use Rattle.share_laws.specs.Shares.{as_net}

-- a wire with a width exists
is_wire : (widths : List ℕ) (w : WireId) (n : ℕ) → HasWidth widths w n → IsWire widths w
is_wire widths w n e = slice_get_within widths w.number n e

one_read : (widths : List ℕ) (op : Op1) (w a : WireId) → Fits1 widths op w a → IsWire widths a
one_read widths Not w a f = is_wire widths a f.0 f.2
one_read widths _ w a f = f.1

two_read : (widths : List ℕ) (op : Op2) (w a b : WireId) → Fits2 widths op w a b → IsWire widths a × IsWire widths b
two_read widths Add w a b f = (is_wire widths a f.0 f.3, is_wire widths b f.0 f.4)
two_read widths Sub w a b f = (is_wire widths a f.0 f.3, is_wire widths b f.0 f.4)
two_read widths Mul w a b f = (is_wire widths a f.0 f.3, is_wire widths b f.0 f.4)
two_read widths And w a b f = (is_wire widths a f.0 f.2, is_wire widths b f.0 f.3)
two_read widths Or w a b f = (is_wire widths a f.0 f.2, is_wire widths b f.0 f.3)
two_read widths Xor w a b f = (is_wire widths a f.0 f.2, is_wire widths b f.0 f.3)
two_read widths Eq w a b f = (is_wire widths a f.1.0 f.1.1, is_wire widths b f.1.0 f.1.2)
two_read widths LtU w a b f = (is_wire widths a f.1.0 f.1.1, is_wire widths b f.1.0 f.1.2)
two_read widths LtS w a b f = (is_wire widths a f.1.0 f.1.1, is_wire widths b f.1.0 f.1.2)
two_read widths _ w a b f = (is_wire widths a f.1.0 f.1.2, f.0)

-- what a cell that fits reads exists
pub reads_exist : (domains : ℕ) (widths : List ℕ) (cell : Cell) → FitsCell domains widths cell → AllByRecursion (IsWire widths) (read_by cell)
reads_exist domains widths (Const w bits) f = tt
reads_exist domains widths (Copy w a) f = (is_wire widths a f.0 f.2, tt)
reads_exist domains widths (Join w parts) f = f.0
reads_exist domains widths (Cut w a high low) f = (is_wire widths a f.2.0 f.2.2, tt)
reads_exist domains widths (Un w op a) f = (one_read widths op w a f, tt)
reads_exist domains widths (Bin w op a b) f = let both = two_read widths op w a b f in (both.0, (both.1, tt))
reads_exist domains widths (Mux w c a b) f = (is_wire widths c 1 f.0, (is_wire widths a f.1.0 f.1.2, (is_wire widths b f.1.0 f.1.3, tt)))
reads_exist domains widths (Reg w domain initial a) f = (is_wire widths a (length initial) f.2, tt)
reads_exist domains widths (Ram w domain words inputs) f =
    let ram = f.1 in (
      is_wire widths inputs.read _ ram.2,
      (is_wire widths inputs.enable 1 ram.3, (is_wire widths inputs.place _ ram.4, (is_wire widths inputs.value ram.5.0 ram.5.2, tt))),
    )
reads_exist domains widths (Use m reads drives) f = absurd f

-- the only wire that a cell with a target drives
record Drives (cell : Cell) (n : ℕ) : Type 0 where
  wire : WireId
  only : driven cell ≡ wire ∷ []
  number : wire.number ≡ n

drives_one : (cell : Cell) (n : ℕ) → target cell ≡ Some n → Drives cell n
drives_one (Const w bits) n t = record { wire = w; only = refl; number = cc }
drives_one (Copy w a) n t = record { wire = w; only = refl; number = cc }
drives_one (Join w parts) n t = record { wire = w; only = refl; number = cc }
drives_one (Cut w a high low) n t = record { wire = w; only = refl; number = cc }
drives_one (Un w op a) n t = record { wire = w; only = refl; number = cc }
drives_one (Bin w op a b) n t = record { wire = w; only = refl; number = cc }
drives_one (Mux w c a b) n t = record { wire = w; only = refl; number = cc }
drives_one (Reg w domain initial a) n t = record { wire = w; only = refl; number = cc }
drives_one (Ram w domain words inputs) n t = record { wire = w; only = refl; number = cc }
drives_one (Use m reads drives) n t = absurd (cc)

part_exists : (domains : ℕ) (widths : List ℕ) (cell : Cell) → FitsCell domains widths cell → PartExists domains [] cell
part_exists domains widths (Reg w domain initial a) f = f.0
part_exists domains widths (Ram w domain words inputs) f = f.0
part_exists domains widths (Use m reads drives) f = absurd f
part_exists domains widths _ f = tt

widths_agree : (domains : ℕ) (widths : List ℕ) (cell : Cell) → FitsCell domains widths cell → WidthsAgree [] widths cell
widths_agree domains widths (Reg w domain initial a) f = (f.1, f.2)
widths_agree domains widths (Ram w domain words inputs) f =
    let ram = f.1 in
    record { read = ram.2; enable = ram.3; place = ram.4; width = ram.5.0; shown = ram.5.1; value = ram.5.2; each_word = ram.5.3 }
widths_agree domains widths (Use m reads drives) f = absurd f
widths_agree domains widths _ f = f

few_words : (domains : ℕ) (widths : List ℕ) (cell : Cell) → FitsCell domains widths cell → HasFewWords cell
few_words domains widths (Ram w domain words inputs) f = (f.1.0, f.1.1)
few_words domains widths _ f = tt

-- where cells drive wires in order, the wires that they drive are their targets
driven_in_order : (n : ℕ) (cells : List Cell) → DrivesFrom n cells → (place : ℕ) → wire_driven_at (flat_map driven cells) place ≡ target_at cells place
driven_in_order n [] d place = refl
driven_in_order n (cell ∷ cells) d place = from place (λ p. driven_in_order (n + 1) cells d.1 p)
  where
    own : Drives cell n
    own = drives_one cell n d.0

    from : (place : ℕ) → ((p : ℕ) → wire_driven_at (flat_map driven cells) p ≡ target_at cells p)
        → wire_driven_at (driven cell ++ flat_map driven cells) place ≡ target_at (cell ∷ cells) place
    from zero rest =
        ap (λ ws. wire_driven_at (ws ++ flat_map driven cells) zero) own.only ∙ ap Some own.number ∙ sym d.0
    from (suc place) rest =
        ap (λ ws. wire_driven_at (ws ++ flat_map driven cells) (suc place)) own.only ∙ rest place

get_of_taken : {X : Type 0} (n : ℕ) (xs : List X) (k : ℕ) → k < n → slice_get (take n xs) k ≡ slice_get xs k
get_of_taken zero xs k l = absurd (omega (arith, l))
get_of_taken (suc n) [] k l = refl
get_of_taken (suc n) (x ∷ xs) zero l = refl
get_of_taken (suc n) (x ∷ xs) (suc k) l = get_of_taken n xs k (omega (arith, l))

-- a wire that is as wide as a port exists
has_port : (widths : List ℕ) (w : ℕ) (o : Option Port) → Some (slice_get widths w) ≡ option_map (λ (port : Port). Some port.width) o → w < length widths
has_port widths w None e = absurd (cc)
has_port widths w (Some port) e = let wide : slice_get widths w ≡ Some port.width = cc in slice_get_within widths w port.width wide

module _ (flat : Flat) (sound : Sound flat) where
  -- the outputs exist
  pub outputs_exist : AllByRecursion (IsWire flat.widths) flat.outputs
  outputs_exist = all_of_each (IsWire flat.widths) flat.outputs (λ k w e. there k w e)
    where
      there : (k : ℕ) (w : WireId) → slice_get flat.outputs k ≡ Some w → IsWire flat.widths w
      there k w e =
          let here : slice_get (map (λ (w : WireId). slice_get flat.widths w.number) flat.outputs) k ≡ Some (slice_get flat.widths w.number) =
          slice_get-map (λ (w : WireId). slice_get flat.widths w.number) flat.outputs k ∙ ap (λ o. option_map (λ (w : WireId). slice_get flat.widths w.number) o) e in
          has_port flat.widths w.number (slice_get flat.ports.outputs k)
          (sym here ∙ ap (λ os. slice_get os k) sound.outputs ∙ slice_get-map (λ (port : Port). Some port.width) flat.ports.outputs k)

module _ (flat : Flat) (sound : Sound flat) (hold : PortsHold flat.ports) where
  abbrev one_module : Module
  one_module = record { inputs = length flat.ports.inputs; widths = flat.widths; outputs = flat.outputs; cells = flat.cells }

  names_exist : (place : ℕ) (cell : Cell) → slice_get flat.cells place ≡ Some cell → NamesExist (length flat.ports.domains) [] flat.widths cell
  names_exist place cell e =
      let fits = fits_cell flat cell sound (place, e) in
      let t = target_in_order (length flat.ports.inputs) flat.cells sound.in_order place (slice_get_within flat.cells place cell e) in
      let number = length flat.ports.inputs + place in
      let own = drives_one cell number (sym (ap (λ o. option_and_then target o) e) ∙ t) in
      let within = target_is_wire flat sound place number t in
      let there : IsWire flat.widths own.wire = omega (arith, own.number, within) in
      record {
        driven = subst (λ ws. AllByRecursion (IsWire flat.widths) ws) (sym own.only) (there, tt);
        read = reads_exist (length flat.ports.domains) flat.widths cell fits;
        part = part_exists (length flat.ports.domains) flat.widths cell fits;
      }

  outputs_long : length flat.ports.outputs ≡ length flat.outputs
  outputs_long =
      let same = ap length sound.outputs in
      omega (arith, same, length-map flat.outputs (λ (w : WireId). slice_get flat.widths w.number), length-map flat.ports.outputs (λ (port : Port). Some port.width))

  outputs_agree : Together (λ (port : Port) (w : WireId). HasWidth flat.widths w port.width) flat.ports.outputs flat.outputs
  outputs_agree k port w e f =
      let here : slice_get (map (λ (w : WireId). slice_get flat.widths w.number) flat.outputs) k ≡ Some (slice_get flat.widths w.number) =
      slice_get-map (λ (w : WireId). slice_get flat.widths w.number) flat.outputs k ∙ ap (λ o. option_map (λ (w : WireId). slice_get flat.widths w.number) o) f in
      let there : slice_get (map (λ (port : Port). Some port.width) flat.ports.outputs) k ≡ Some (Some port.width) =
      slice_get-map (λ (port : Port). Some port.width) flat.ports.outputs k ∙ ap (λ o. option_map (λ (port : Port). Some port.width) o) e in
      let both : Some (slice_get flat.widths w.number) ≡ Some (Some port.width) = sym here ∙ ap (λ os. slice_get os k) sound.outputs ∙ there in
      cc

  inputs_agree : Together (λ (port : Port) (width : ℕ). port.width ≡ width) flat.ports.inputs flat.widths
  inputs_agree k port width e f =
      let here : slice_get (map (λ (port : Port). port.width) flat.ports.inputs) k ≡ Some port.width =
      slice_get-map (λ (port : Port). port.width) flat.ports.inputs k ∙ ap (λ o. option_map (λ (port : Port). port.width) o) e in
      let there = get_of_taken (length flat.ports.inputs) flat.widths k (slice_get_within flat.ports.inputs k port e) in
      let both : Some port.width ≡ Some width = sym here ∙ ap (λ ws. slice_get ws k) sound.inputs ∙ there ∙ f in
      cc

  names_hold : NamesHold (as_net flat) 0 one_module
  names_hold = record {
    cells = all_of_each (NamesExist (length flat.ports.domains) [] flat.widths) flat.cells (λ place cell e. names_exist place cell e);
    outputs = outputs_exist flat sound;
    top = λ e. record { rules = hold; inputs = refl; outputs = outputs_long };
  }

  widths_hold : WidthsHold (as_net flat) 0 one_module
  widths_hold = record {
    cells = all_of_each (WidthsAgree [] flat.widths) flat.cells
        (λ place cell e. widths_agree (length flat.ports.domains) flat.widths cell (fits_cell flat cell sound (place, e)));
    top = λ e. record { inputs = inputs_agree; outputs = outputs_agree };
  }

  drivers_hold : DriversHold (as_net flat) 0 one_module
  drivers_hold =
      let once = each_driven_once flat sound in
      let same = driven_in_order (length flat.ports.inputs) flat.cells sound.in_order in
      record {
        inputs = omega (arith, sound.all);
        drivers = record {
          free = λ place w e. once.free place w (sym (same place) ∙ e);
          driven = λ w l m. (let d = once.driven w l m in (d.0, same d.0 ∙ d.1));
          once = λ p q w e f. once.once p q w (sym (same p) ∙ e) (sym (same q) ∙ f);
        };
        outputs = λ l. absurd (omega (arith, l));
      }

  limits_hold : LimitsHold (as_net flat) 0 one_module
  limits_hold = record {
    widths = sound.widths;
    words = all_of_each HasFewWords flat.cells (λ place cell e. few_words (length flat.ports.domains) flat.widths cell (fits_cell flat cell sound (place, e)));
    modules = λ e. omega arith;
  }

  each_rule : EachRuleHolds (as_net flat) 0 one_module
  each_rule Name = names_hold
  each_rule Width = widths_hold
  each_rule Driver = drivers_hold
  each_rule Limit = limits_hold

  rules_at : (i : ℕ) (m : Module) → slice_get (as_net flat).modules i ≡ Some m → EachRuleHolds (as_net flat) i m
  rules_at zero m e = let is : one_module ≡ m = cc in subst (λ x. EachRuleHolds (as_net flat) 0 x) is each_rule
  rules_at (suc i) m e = absurd (let none : None ≡ Some m = e in cc)

  pub well_formed : WellFormed (as_net flat)
  well_formed = record { some = omega arith; rules = rules_at }
