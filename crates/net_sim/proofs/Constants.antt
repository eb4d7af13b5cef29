-- The wires of constants keep their bits.
use Rattle.std.proofs.Common.{◌≡◌, ◌≢◌, ℕ, ◌+◌, ◌-◌, ◌<◌, ◌≤◌, Bool, List, [], ◌++◌, length, map, set, drop, Some, ◌⊎◌, inl, inr, refl, sym, ap, ◌∙◌, arith}
use Rattle.std.proofs.lemmas.Bool.{cases_eq, cases_lt}
use Rattle.std.proofs.lemmas.List.{get_or-append_right, get_or-drop, get_or-set_other, get_or-set_same, set-get_or}
use Rattle.chw_base.specs.declared.index.WireId.{WireId}
use Rattle.chw_clock.specs.Histories.{HaveWidths}
use Rattle.chw_clock.specs.declared.event.Event.{Event}
use Rattle.netlist.specs.Feeds.{target}
use Rattle.netlist.specs.NetValue.{HasCell}
use Rattle.netlist.specs.Operators.{KeepsNothing}
use Rattle.netlist.specs.Sound.{FitsCell, Sound}
use Rattle.netlist.specs.declared.net.Cell.{Cell}
use Rattle.netlist.specs.declared.net.Cell.TheVariants.{Const, Reg, Ram, Use}
use Rattle.netlist.specs.declared.net.Flat.{Flat}
use Rattle.net_sim.specs.Settling.{Renews}
use Rattle.net_sim.specs.Stepping.{Settled}
use Rattle.net_sim.specs.Steps.{HaveConstants, IsHeld, Rests}
use Rattle.net_sim.specs.Tables.{given_in, value_in}
use Rattle.net_sim.specs.Ticking.{Stepped}
use Rattle.net_sim.proofs.Cells.{drives_no_input, same_cell}
use Rattle.net_sim.proofs.Incoming.{inputs_count}
use Rattle.net_sim.proofs.Renewing.{has_target, keeps_cases, target_within}

-- a settled table has the bits of all constants
pub constants_settled : (flat : Flat) (event : Event) (table : List (List Bool)) → Settled flat table event → HaveConstants flat table
constants_settled flat event table settled = λ w bits has. settled.cells (Const w bits) w.number has tt refl

-- no event changes them
pub constants_after : (flat : Flat) (event : Event) (table table' : List (List Bool)) (memories memories' : List (List (List Bool)))
    → HaveConstants flat table → Stepped flat event table memories table' memories' → HaveConstants flat table'
constants_after flat event table table' memories memories' held step = λ w bits has.
    step.stays (Const w bits) w.number has (λ moves. moves) refl ∙ held w bits has

-- nor do the inputs
pub constants_beside : (flat : Flat) (event : Event) (old put : List (List Bool)) → Sound flat → HaveWidths flat.ports.inputs event.inputs
    → put ≡ event.inputs ++ drop (length event.inputs) old → HaveConstants flat old → HaveConstants flat put
constants_beside flat event old put sound have is held = λ w bits has. from w bits has (cases_lt w.number (length flat.ports.inputs))
  where
    from : (w : WireId) (bits : List Bool) → HasCell flat (Const w bits)
        → (w.number < length flat.ports.inputs) ⊎ (length flat.ports.inputs ≤ w.number) → value_in put w.number ≡ bits
    from w bits has (inl lt) = absurd (drives_no_input flat w.number (Const w bits) sound has refl lt)
    from w bits has (inr le) =
        let n = length event.inputs in
        let above : n ≤ w.number = omega (arith, inputs_count flat event have) in
        let place : n + (w.number - n) ≡ w.number = omega arith in
        ap (λ l. value_in l w.number) is
        ∙ get_or-append_right event.inputs (drop n old) n w.number [] refl above ∙ get_or-drop n old (w.number - n) []
        ∙ ap (value_in old) place ∙ held w bits has

-- a cell that renews its wire changes no constant
pub constants_kept : (flat : Flat) (cell : Cell) (table new : List (List Bool)) (domains : ℕ) → Sound flat → HasCell flat cell
    → FitsCell domains (map length table) cell → Renews cell table new → HaveConstants flat table → HaveConstants flat new
constants_kept flat cell table new domains sound has fits renews held = from (keeps_cases cell)
  where
    beside : (keeps : KeepsNothing cell) (v : ℕ) → target cell ≡ Some v → new ≡ set table v (given_in table cell) → (w : WireId) (bits : List Bool)
        → HasCell flat (Const w bits) → (w.number ≡ v) ⊎ (w.number ≢ v) → value_in new w.number ≡ bits
    beside keeps v t is w bits has' (inl same) =
        let cell_is : cell ≡ Const w bits = same_cell flat v cell (Const w bits) sound has t has' (ap Some same) in
        ap (λ l. value_in l w.number) is ∙ ap (value_in (set table v (given_in table cell))) same
        ∙ get_or-set_same table v (given_in table cell) [] (target_within table domains v cell fits keeps t)
        ∙ ap (given_in table) cell_is
    beside keeps v t is w bits has' (inr apart) =
        ap (λ l. value_in l w.number) is ∙ get_or-set_other table v w.number (given_in table cell) [] apart ∙ held w bits has'

    from : KeepsNothing cell ⊎ (KeepsNothing cell → ⊥) → HaveConstants flat new
    from (inl keeps) =
        let to = has_target cell keeps in
        λ w bits has'. beside keeps to.0 to.1 (renews.wire keeps to.0 to.1) w bits has' (cases_eq w.number to.0)
    from (inr keeper) = λ w bits has'. ap (λ l. value_in l w.number) (renews.stays keeper) ∙ held w bits has'

-- a constant of the net has its bits
pub held_here : (flat : Flat) (table : List (List Bool)) (cell : Cell) → HasCell flat cell → HaveConstants flat table → IsHeld table cell
held_here flat table cell has held = λ w bits is. held w bits (has.0, has.1 ∙ ap Some is)

unchanged : (table : List (List Bool)) (w v : ℕ) (bits : List Bool) → value_in table w ≡ bits → Some w ≡ Some v → table ≡ set table v bits
unchanged table w v bits held same =
    let is : w ≡ v = cc in
    sym (set-get_or table v []) ∙ ap (set table v) (ap (value_in table) (sym is) ∙ held)

-- a cell that rests has renewed its wire
pub rest_renews : (cell : Cell) (table : List (List Bool)) → Rests cell → IsHeld table cell → Renews cell table table
rest_renews (Const w bits) table rests held = record {
  wire = λ keeps v t. unchanged table w.number v bits (held w bits refl) t;
  stays = λ no. absurd (no tt);
  widths = refl;
}
rest_renews (Reg w domain initial a) table rests held = record { wire = λ keeps v t. absurd keeps; stays = λ no. refl; widths = refl }
rest_renews (Ram w domain words inputs) table rests held = record { wire = λ keeps v t. absurd keeps; stays = λ no. refl; widths = refl }
rest_renews (Use m reads drives) table rests held = record { wire = λ keeps v t. absurd keeps; stays = λ no. refl; widths = refl }
rest_renews _ table rests held = absurd rests
