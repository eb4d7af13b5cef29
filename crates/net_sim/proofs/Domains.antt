-- Registers and RAMs that write their items domain by domain.
use Rattle.std.proofs.Common.{◌≡◌, ℕ, ◌+◌, ◌<◌, ◌≤◌, true, false, List, length, Some, slice_get, ◌⊎◌, inl, inr, refl, sym, ap, subst, ◌∙◌, arith}
use Rattle.std.specs.Prelude.{slice_index_or}
use Rattle.std.proofs.lemmas.Bool.{cases_lt}
use Rattle.chw_base.specs.declared.index.DomId.{DomId}
use Rattle.chw_clock.specs.Histories.{ticks}
use Rattle.chw_clock.specs.declared.event.Event.{Event}
use Rattle.netlist.specs.Feeds.{target}
use Rattle.netlist.specs.NetValue.{HasCell}
use Rattle.netlist.specs.Sound.{FitsCell, Sound}
use Rattle.netlist.specs.declared.net.Cell.{Cell}
use Rattle.netlist.specs.declared.net.Cell.TheVariants.{Reg, Ram}
use Rattle.netlist.specs.declared.net.Flat.{Flat}
use Rattle.net_sim.specs.Opening.{IsRam}
use Rattle.net_sim.specs.Ticking.{IsKeeper, IsKeeperOf, IsRamOf, Moves, MovesWords, Writes, WrittenBefore}
use Rattle.net_sim.proofs.Cells.{cell_fits, same_cell}
use Rattle.net_sim.proofs.Wiring.{is_wire}

-- a register or RAM of a domain drives a wire that is there
pub keeper_there : (domains size number : ℕ) (widths : List ℕ) (cell : Cell) → FitsCell domains widths cell → length widths ≡ size
    → IsKeeperOf number cell → (w : ℕ) × (target cell ≡ Some w) × (w < size)
keeper_there domains size number widths (Reg w domain initial a) fits count keeps =
    let is = is_wire widths w _ fits.1 in (w.number, refl, omega (arith, is))
keeper_there domains size number widths (Ram w domain words inputs) fits count keeps =
    let is = is_wire widths w _ fits.1.5.1 in (w.number, refl, omega (arith, is))
keeper_there domains size number widths _ fits count keeps = absurd keeps

-- a RAM of a domain is one of the domain's registers and RAMs
pub ram_keeper : (number : ℕ) (cell : Cell) → IsRamOf number cell → IsKeeperOf number cell
ram_keeper number (Ram w domain words inputs) is = is
ram_keeper number _ is = absurd is

-- a register or RAM of a domain is a RAM, or isn't
pub ram_cases : (number : ℕ) (cell : Cell) → IsKeeperOf number cell → IsRamOf number cell ⊎ (IsRamOf number cell → ⊥)
ram_cases number (Ram w domain words inputs) is = inl is
ram_cases number _ is = inr (λ ram. ram)

any_keeper : (number : ℕ) (cell : Cell) → IsKeeperOf number cell → IsKeeper cell
any_keeper number (Reg w domain initial a) is = tt
any_keeper number (Ram w domain words inputs) is = tt
any_keeper number _ is = absurd is

any_ram : (number : ℕ) (cell : Cell) → IsRamOf number cell → IsRam cell
any_ram number (Ram w domain words inputs) is = tt
any_ram number _ is = absurd is

own_ram : (number : ℕ) (cell : Cell) → IsKeeperOf number cell → IsRam cell → IsRamOf number cell
own_ram number (Ram w domain words inputs) is ram = is
own_ram number _ is ram = absurd ram

-- what a cell of a domain writes
pub keeper_writes : (X : Type 0) (none : X) (made : ℕ → Cell → X → X) (number : ℕ) (cell : Cell) (old new : List X) → IsKeeperOf number cell
    → Writes X none IsKeeper made cell old new → Writes X none (IsKeeperOf number) made cell old new
keeper_writes X none made number cell old new own writes = record {
  item = λ is w t. writes.item (any_keeper number cell is) w t;
  stays = λ no. absurd (no own);
}

pub ram_writes : (X : Type 0) (none : X) (made : ℕ → Cell → X → X) (number : ℕ) (cell : Cell) (old new : List X) → IsKeeperOf number cell
    → Writes X none IsRam made cell old new → Writes X none (IsRamOf number) made cell old new
ram_writes X none made number cell old new own writes = record {
  item = λ is w t. writes.item (any_ram number cell is) w t;
  stays = λ no. writes.stays (λ ram. no (own_ram number cell own ram));
}

-- a cell is of one domain
keeper_once : (a b : ℕ) (cell : Cell) → IsKeeperOf a cell → IsKeeperOf b cell → a ≡ b
keeper_once a b (Reg w domain initial x) p q = sym p ∙ q
keeper_once a b (Ram w domain words inputs) p q = sym p ∙ q
keeper_once a b _ p q = absurd p

-- the domain of this number
abbrev pub domain_of : ℕ → DomId
domain_of number = record { number = number }

-- the cell is of a kind of its domain, which is below a number and ticks in the event
pub record Below (Kind : ℕ → Cell → Type 0) (event : Event) (limit : ℕ) (cell : Cell) : Type 0 where
  pub number : ℕ
  pub lt : number < limit
  pub moves : ticks event (domain_of number) ≡ true
  pub kind : Kind number cell

-- below another limit
below_at : (Kind : ℕ → Cell → Type 0) (event : Event) (limit other : ℕ) (cell : Cell) (is : Below Kind event limit cell) → is.number < other
    → Below Kind event other cell
below_at Kind event limit other cell is lt = record { number = is.number; lt = lt; moves = is.moves; kind = is.kind }

module _ (X : Type 0) (none : X) (Kind : ℕ → Cell → Type 0) (keeps : (number : ℕ) (cell : Cell) → Kind number cell → IsKeeperOf number cell)
    (made : ℕ → Cell → X → X) (flat : Flat) (event : Event) (sound : Sound flat) where
  -- before the first domain nothing is written
  pub domain_none : (old : List X) → WrittenBefore X none (Below Kind event 0) made flat old old (length flat.cells)
  domain_none old = record {
    items = λ j w cell lt at is t. absurd (omega (arith, is.lt));
    others = λ w free. refl;
  }

  -- a domain that doesn't tick is passed over
  pub domain_still : (n : ℕ) (old now : List X) → ticks event (domain_of n) ≡ false
      → WrittenBefore X none (Below Kind event n) made flat old now (length flat.cells)
      → WrittenBefore X none (Below Kind event (n + 1)) made flat old now (length flat.cells)
  domain_still n old now still before = record {
    items = λ j w cell lt at is t. before.items j w cell lt at (lower cell is (cases_lt is.number n)) t;
    others = λ w free. before.others w (λ j cell lt at is t. free j cell lt at (below_at Kind event n (n + 1) cell is (omega (arith, is.lt))) t);
  }
    where
      lower : (cell : Cell) (is : Below Kind event (n + 1) cell) → (is.number < n) ⊎ (n ≤ is.number) → Below Kind event n cell
      lower cell is (inl lt) = below_at Kind event (n + 1) n cell is lt
      lower cell is (inr ge) =
          let same : is.number ≡ n = omega (arith, is.lt, ge) in
          let moves = subst (λ k. ticks event (domain_of k) ≡ true) same is.moves in
          absurd (cc)

  -- the cells of a domain that ticks have written theirs
  pub domain_moved : (n : ℕ) (old now new : List X) → ticks event (domain_of n) ≡ true
      → WrittenBefore X none (Below Kind event n) made flat old now (length flat.cells)
      → WrittenBefore X none (Kind n) made flat now new (length flat.cells)
      → WrittenBefore X none (Below Kind event (n + 1)) made flat old new (length flat.cells)
  domain_moved n old now new moves before its = record {
    items = λ j w cell lt at is t. item j w cell lt at t is (cases_lt is.number n);
    others = λ w free.
        its.others w (λ j cell lt at is t. free j cell lt at (record { number = n; lt = omega arith; moves = moves; kind = is }) t)
        ∙ before.others w (λ j cell lt at is t. free j cell lt at (below_at Kind event n (n + 1) cell is (omega (arith, is.lt))) t);
  }
    where
      -- the wire of a cell of another domain isn't written
      apart : (a b w : ℕ) (cell other : Cell) → HasCell flat cell → HasCell flat other → target cell ≡ Some w → target other ≡ Some w
          → Kind a cell → Kind b other → a < b → ⊥
      apart a b w cell other has has' t t' k k' lt =
          let same = same_cell flat w other cell sound has' t' has t in
          let once = keeper_once a b cell (keeps a cell k) (subst (IsKeeperOf b) same (keeps b other k')) in
          omega (arith, once)

      item : (j w : ℕ) (cell : Cell) → j < length flat.cells → slice_get flat.cells j ≡ Some cell → target cell ≡ Some w
          → (is : Below Kind event (n + 1) cell) → (is.number < n) ⊎ (n ≤ is.number)
          → slice_index_or new w none ≡ made w cell (slice_index_or old w none)
      item j w cell lt at t is (inl low) =
          its.others w (λ i other lt' at' k t'. apart is.number n w cell other (j, at) (i, at') t t' is.kind k low)
          ∙ before.items j w cell lt at (below_at Kind event (n + 1) n cell is low) t
      item j w cell lt at t is (inr ge) =
          let same : is.number ≡ n = omega (arith, is.lt, ge) in
          let kind = subst (λ k. Kind k cell) same is.kind in
          its.items j w cell lt at kind t
          ∙ ap (made w cell) (before.others w (λ i other lt' at' is' t'. apart is'.number n w other cell (i, at') (j, at) t' t is'.kind kind is'.lt))

-- cells of kinds that say the same of the net's cells
pub written_as : (X : Type 0) (none : X) (Kind Other : Cell → Type 0) (made : ℕ → Cell → X → X) (flat : Flat) (old new : List X) (limit : ℕ)
    → ((cell : Cell) → HasCell flat cell → Other cell → Kind cell) → ((cell : Cell) → Kind cell → Other cell)
    → WrittenBefore X none Kind made flat old new limit → WrittenBefore X none Other made flat old new limit
written_as X none Kind Other made flat old new limit to from before = record {
  items = λ j w cell lt at is t. before.items j w cell lt at (to cell (j, at) is) t;
  others = λ w free. before.others w (λ j cell lt at is t. free j cell lt at (from cell is) t);
}

-- what moves in an event is of a domain of the net
pub moves_below : (flat : Flat) (event : Event) (limit : ℕ) → Sound flat → limit ≡ length flat.ports.domains → (cell : Cell) → HasCell flat cell
    → Moves event cell → Below IsKeeperOf event limit cell
moves_below flat event limit sound all cell has moves = by cell (cell_fits flat cell sound has) moves
  where
    by : (cell : Cell) → FitsCell (length flat.ports.domains) flat.widths cell → Moves event cell → Below IsKeeperOf event limit cell
    by (Reg w domain initial a) fits moves = record { number = domain.number; lt = omega (arith, fits.0); moves = moves; kind = refl }
    by (Ram w domain words inputs) fits moves = record { number = domain.number; lt = omega (arith, fits.0); moves = moves; kind = refl }
    by _ fits moves = absurd moves

pub below_moves : (event : Event) (limit : ℕ) (cell : Cell) → Below IsKeeperOf event limit cell → Moves event cell
below_moves event limit (Reg w domain initial a) is = subst (λ n. ticks event (domain_of n) ≡ true) (sym is.kind) is.moves
below_moves event limit (Ram w domain words inputs) is = subst (λ n. ticks event (domain_of n) ≡ true) (sym is.kind) is.moves
below_moves event limit _ is = absurd is.kind

pub words_below : (flat : Flat) (event : Event) (limit : ℕ) → Sound flat → limit ≡ length flat.ports.domains → (cell : Cell) → HasCell flat cell
    → MovesWords event cell → Below IsRamOf event limit cell
words_below flat event limit sound all cell has moves = by cell (cell_fits flat cell sound has) moves
  where
    by : (cell : Cell) → FitsCell (length flat.ports.domains) flat.widths cell → MovesWords event cell → Below IsRamOf event limit cell
    by (Ram w domain words inputs) fits moves = record { number = domain.number; lt = omega (arith, fits.0); moves = moves; kind = refl }
    by _ fits moves = absurd moves

pub below_words : (event : Event) (limit : ℕ) (cell : Cell) → Below IsRamOf event limit cell → MovesWords event cell
below_words event limit (Ram w domain words inputs) is = subst (λ n. ticks event (domain_of n) ≡ true) (sym is.kind) is.moves
below_words event limit _ is = absurd is.kind
