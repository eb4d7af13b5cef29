-- The wire to which copies lead from a wire, one after the other.
use Rattle.std.proofs.Common.{◌≡◌, ℕ, zero, suc, ◌<◌, ◌≤◌, ◌⊎◌, inl, inr, List, length, Some, slice_get, refl, ap, subst, ◌∙◌, arith}
use Rattle.std.specs.Prelude.{option_and_then, slice_index}
use Rattle.std.proofs.lemmas.Bool.{cases_lt}
use Rattle.netlist.specs.Feeds.{awaited_at, awaited_wire, target, target_at}
use Rattle.netlist.specs.NetValue.{HasCell}
use Rattle.netlist.specs.Orders.{OrdersCells}
use Rattle.netlist.specs.Sound.{Sound}
use Rattle.netlist.specs.declared.net.Cell.{Cell}
use Rattle.netlist.specs.declared.net.Flat.{Flat}
use Rattle.netlist.proofs.Driven.{each_driven_once}
use Rattle.netlist.proofs.Lengths.{fits_cell}
use Rattle.netlist.proofs.Lists.{target_within}
use Rattle.netlist.proofs.Places.{cell_there}
use Rattle.share_laws.specs.Same.{Copies, Same}
use Rattle.share_laws.specs.Same.Same.{chained, copied, itself}
use Rattle.share_laws.specs.Shares.{IsProper}
use Rattle.share_laws.specs.Shares.IsProper.{of_cell, of_input}
use Rattle.share_laws.proofs.Chosen.{Chosen, ChoosesOf, Decided, KnownOnce, chooses_copies, chooses_once, decide_copy}
use Rattle.share_laws.proofs.OneShared.{one_driver}
use Rattle.share_laws.proofs.Renamed.{proper_within}

pub data Leads (flat : Flat) : ℕ → ℕ → Type 0 where
  rests : (w : ℕ) → IsProper flat w → Leads flat w w
  steps : (w a p : ℕ) (cell : Cell) → HasCell flat cell → target cell ≡ Some w → ChoosesOf flat cell a → Leads flat a p → Leads flat w p

module _ (flat : Flat) (sound : Sound flat) where
  -- a cell that drives a proper wire copies nothing
  pub proper_copies : (w a : ℕ) (cell : Cell) → IsProper flat w → HasCell flat cell → target cell ≡ Some w → Copies flat cell a → ⊥
  proper_copies w a cell (of_input l) has t c =
      let free = (each_driven_once flat sound).free has.0 w (ap (λ o. option_and_then target o) has.1 ∙ t) in omega (arith, l, free)
  proper_copies w a cell (of_cell own there u none) has t c =
      let is : cell ≡ own = one_driver flat cell own w sound has there t u in
      none a (subst (λ x. Copies flat x a) is c)

  pub leads_proper : (w p : ℕ) → Leads flat w p → IsProper flat p
  leads_proper _ _ (rests w proper) = proper
  leads_proper _ _ (steps w a p cell has t ch rest) = leads_proper a p rest

  pub leads_same : (w p : ℕ) → Leads flat w p → Same flat w p
  leads_same _ _ (rests w proper) = itself w (proper_within flat sound w proper)
  leads_same _ _ (steps w a p cell has t ch rest) =
      chained w a p (copied cell w a has t (chooses_copies flat cell a ch)) (leads_same a p rest)

  -- how a wire that a cell drives leads on
  pub data LeadsBy (cell : Cell) (w p : ℕ) : Type 0 where
    at_rest : IsProper flat w → w ≡ p → LeadsBy cell w p
    onward : (a : ℕ) → ChoosesOf flat cell a → Leads flat a p → LeadsBy cell w p

  pub leads_by : (cell : Cell) (w p : ℕ) → HasCell flat cell → target cell ≡ Some w → Leads flat w p → LeadsBy cell w p
  leads_by cell _ _ has t (rests w proper) = at_rest proper refl
  leads_by cell _ _ has t (steps w a p other there u ch rest) =
      let is : other ≡ cell = one_driver flat other cell w sound there has u t in
      onward a (subst (λ x. ChoosesOf flat x a) is ch) rest

  -- copies lead from a wire to one
  rests_once : (w q : ℕ) → IsProper flat w → Leads flat w q → w ≡ q
  rests_once _ _ proper (rests w p) = refl
  rests_once _ _ proper (steps w a p cell has t ch rest) =
      absurd (proper_copies w a cell proper has t (chooses_copies flat cell a ch))

  module _ (once : KnownOnce flat) where
    steps_once : (w p q a : ℕ) (cell : Cell) → HasCell flat cell → target cell ≡ Some w → ChoosesOf flat cell a
        → (Leads flat a q → p ≡ q) → LeadsBy cell w q → p ≡ q
    steps_once w p q a cell has t ch rest (at_rest proper e) =
        absurd (proper_copies w a cell proper has t (chooses_copies flat cell a ch))
    steps_once w p q a cell has t ch rest (onward b other l) =
        let is : b ≡ a = chooses_once flat once cell b a other ch in
        rest (subst (λ n. Leads flat n q) is l)

    pub leads_once : (w p q : ℕ) → Leads flat w p → Leads flat w q → p ≡ q
    leads_once _ _ q (rests w proper) l = rests_once w q proper l
    leads_once _ _ q (steps w a p cell has t ch rest) l =
        steps_once w p q a cell has t ch (λ m. leads_once a p q rest m) (leads_by cell w q has t l)

  module _ (places : List ℕ) (order : OrdersCells flat.cells places) (decided : Decided flat) where
    -- the cell that drives the wire stands at this place of the order
    abbrev pub StandsAt : ℕ → ℕ → Type 0
    StandsAt w i = (i < length places) × (target_at flat.cells (slice_index places i) ≡ Some w)

    -- a wire leads to a proper one, that is an input or stands no later
    pub record Led (w limit : ℕ) : Type 0 where
      pub to : ℕ
      pub leads : Leads flat w to
      pub early : (to < length flat.ports.inputs) ⊎ ((i : ℕ) × (i ≤ limit) × StandsAt to i)

    later : (to n m : ℕ) → n ≤ m → (to < length flat.ports.inputs) ⊎ ((i : ℕ) × (i ≤ n) × StandsAt to i)
        → (to < length flat.ports.inputs) ⊎ ((i : ℕ) × (i ≤ m) × StandsAt to i)
    later to n m l (inl e) = inl e
    later to n m l (inr e) = inr (e.0, omega (arith, l, e.1), e.2)

    stepped : (w i : ℕ) (cell : Cell) → HasCell flat cell → target cell ≡ Some w → (c : Chosen flat cell) → Led c.from i → Led w i
    stepped w i cell has t c rest =
        record { to = rest.to; leads = steps w c.from rest.to cell has t c.chooses rest.leads; early = rest.early }

    pub led : (n i w : ℕ) → i < n → StandsAt w i → Led w i
    led zero i w l stands = absurd (omega (arith, l))
    led (suc n) i w l stands =
        let there = cell_there flat.cells (slice_index places i) w stands.1 in
        let has : HasCell flat there.0 = (slice_index places i, there.1) in
        from (λ j a m s. led n j a m s) there.0 has there.2 (decide_copy flat decided there.0 (fits_cell flat there.0 sound has)) there.1
      where
        input_led : (a : ℕ) → a < length flat.ports.inputs → Led a i
        input_led a m = record { to = a; leads = rests a (of_input m); early = inl m }

        onwards : ((j a : ℕ) → j < n → StandsAt a j → Led a j) → (cell : Cell) (c : Chosen flat cell) → slice_get flat.cells (slice_index places i) ≡ Some cell
            → (c.from < length flat.ports.inputs) ⊎ (length flat.ports.inputs ≤ c.from) → Led c.from i
        onwards earlier cell c at (inl m) = input_led c.from m
        onwards earlier cell c at (inr m) =
            let driven = (each_driven_once flat sound).driven c.from m c.within in
            let awaits : awaited_at flat.cells (slice_index places i) c.k ≡ Some c.from =
            ap (λ o. option_and_then (λ x. awaited_wire x c.k) o) at ∙ c.awaits in
            let before = order.after i c.k c.from driven.0 stands.0 awaits driven.1 in
            let there : StandsAt c.from before.0 =
            (omega (arith, before.1, stands.0), ap (λ p. target_at flat.cells p) before.2 ∙ driven.1) in
            let rest = earlier before.0 c.from (omega (arith, before.1, l)) there in
            record { to = rest.to; leads = rest.leads; early = later rest.to before.0 i (omega (arith, before.1)) rest.early }

        from : ((j a : ℕ) → j < n → StandsAt a j → Led a j) → (cell : Cell) → HasCell flat cell → target cell ≡ Some w → Chosen flat cell ⊎ ((a : ℕ) → Copies flat cell a → ⊥)
            → slice_get flat.cells (slice_index places i) ≡ Some cell → Led w i
        from earlier cell has t (inr none) at =
            record { to = w; leads = rests w (of_cell cell has t none); early = inr (i, omega arith, stands) }
        from earlier cell has t (inl c) at = stepped w i cell has t c (onwards earlier cell c at (cases_lt c.from (length flat.ports.inputs)))

    -- each wire leads to a proper one
    pub some_led : (w : ℕ) → w < length flat.widths → (p : ℕ) × Leads flat w p
    some_led w l = from (cases_lt w (length flat.ports.inputs))
      where
        from : (w < length flat.ports.inputs) ⊎ (length flat.ports.inputs ≤ w) → (p : ℕ) × Leads flat w p
        from (inl m) = (w, rests w (of_input m))
        from (inr m) =
            let driven = (each_driven_once flat sound).driven w m l in
            let at = order.all driven.0 (target_within flat.cells driven.0 w driven.1) in
            let stands : StandsAt w at.0 = (at.1, ap (λ p. target_at flat.cells p) at.2 ∙ driven.1) in
            let end = led (suc at.0) at.0 w (omega arith) stands in
            (end.to, end.leads)
