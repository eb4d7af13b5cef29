-- A register keeps its bits, where all wires did before.
use Rattle.std.proofs.Common.{◌≡◌, ℕ, ◌==◌, Bool, true, false, List, [], ◌∷◌, length, Option, Some, None, slice_get, refl, subst, if◌then◌else◌, inl, inr, ◌⊎◌}
use Rattle.std.specs.List.{AllByRecursion}
use Rattle.std.proofs.lemmas.Bool.{eqb-true, or_cases}
use Rattle.std.proofs.lemmas.Option.{same_Some, slice_get_within}
use Rattle.chw_base.specs.declared.index.DomId.{DomId}
use Rattle.chw_base.specs.declared.index.WireId.{WireId}
use Rattle.chw_clock.specs.Histories.{FitsPorts, before, has_reset, is_one_of, is_reset, taken, ticks, unless_reset}
use Rattle.chw_clock.specs.declared.event.Event.{Event}
use Rattle.chw_clock.specs.declared.event.Ports.{Ports}
use Rattle.netlist.specs.NetValue.{HasCell, HasValue}
use Rattle.netlist.specs.Orders.{HasNoLoop}
use Rattle.netlist.specs.Sound.{FitsCell, Sound}
use Rattle.netlist.specs.declared.net.Cell.TheVariants.{Reg}
use Rattle.netlist.specs.declared.net.Flat.{Flat}
use Rattle.netlist.proofs.Before.{before_fits, before_shorter}
use Rattle.netlist.proofs.Lengths.{fits_cell}
use Rattle.netlist.proofs.Ordered.{an_order}
use Rattle.netlist.proofs.Values.{every_value}
use Rattle.bit_laws.specs.Bitnet.{BitValue, Bitnet, clock_of, reset_of}
use Rattle.bit_laws.specs.Bitnet.BitValue.{of_reset}
use Rattle.bit_laws.specs.Blast.{blast, register_nodes, reset_nodes, word}
use Rattle.bit_laws.specs.CellLaws.{HasWord}
use Rattle.bit_laws.specs.Keeping.{KeptBefore}
use Rattle.bit_laws.proofs.Cells.{as_wide}
use Rattle.bit_laws.proofs.Latches.{first_have, later_have, reset_first_have, reset_later_have}
use Rattle.bit_laws.proofs.Nodes.{nodes_there, word_length}
use Rattle.bit_laws.proofs.Words.{HasNodes}

-- in a sound net without a loop each wire has a value
pub value_at : (flat : Flat) (h : List Event) (w n : ℕ) → Sound flat → HasNoLoop flat → FitsPorts flat.ports h → slice_get flat.widths w ≡ Some n
    → HasValue flat h w
value_at flat h w n sound no_loop fits e =
    let order = an_order flat sound no_loop in every_value flat order.0 sound order.1 h fits w (slice_get_within flat.widths w n e)

-- where a register takes its input the reset wasn't asserted
took : (tick : Option (List Event)) (past : List Event) (domain : DomId) → unless_reset tick domain ≡ Some past
    → (tick ≡ Some past) × (is_reset past domain ≡ false)
took None past domain e = absurd (cc)
took (Some g) past domain e = by_reset (is_reset g domain) refl e
  where
    by_reset : (t : Bool) → is_reset g domain ≡ t → (if t then None else Some g) ≡ Some past → (Some g ≡ Some past) × (is_reset past domain ≡ false)
    by_reset true r e = absurd (cc)
    by_reset false r e = (e, subst (λ q. is_reset q domain ≡ false) (same_Some g past e) r)

-- where it takes none at a tick the reset was asserted
reset_at : (g : List Event) (domain : DomId) → unless_reset (Some g) domain ≡ None → is_reset g domain ≡ true
reset_at g domain e = by_reset (is_reset g domain) refl e
  where
    by_reset : (t : Bool) → is_reset g domain ≡ t → (if t then None else Some g) ≡ None → is_reset g domain ≡ true
    by_reset true r e = r
    by_reset false r e = absurd (cc)

-- a reset that is asserted is one of the ports
asserted_known : (ports : Ports) (event : Event) (domains : List DomId) (domain : DomId)
    → AllByRecursion (λ d. (ticks event d ≡ true) × (has_reset ports d ≡ true)) domains → is_one_of domains domain ≡ true → has_reset ports domain ≡ true
asserted_known ports event [] domain all e = absurd (cc)
asserted_known ports event (d ∷ domains) domain all e =
    by_case (or_cases (d.number == domain.number) (is_one_of domains domain) e) (λ f. asserted_known ports event domains domain all.1 f)
  where
    by_case : ((d.number == domain.number) ≡ true) ⊎ (is_one_of domains domain ≡ true) → (is_one_of domains domain ≡ true → has_reset ports domain ≡ true)
        → has_reset ports domain ≡ true
    by_case (inl is) rest =
        let same : d.number ≡ domain.number = eqb-true d.number domain.number is in
        subst (λ n. has_reset ports (record { number = n }) ≡ true) same all.0.1
    by_case (inr is) rest = rest is

known_reset : (ports : Ports) (past : List Event) (domain : DomId) → FitsPorts ports past → is_reset past domain ≡ true → has_reset ports domain ≡ true
known_reset ports [] domain fits r = absurd fits
known_reset ports (present ∷ older) domain fits r = asserted_known ports present present.resets domain fits.0.resets r

-- the bit of the reset's name
pub reset_value : (ports : Ports) (b : Bitnet) (past : List Event) (domain : DomId) → FitsPorts ports past → has_reset ports domain ≡ true
    → BitValue ports b past (reset_of ports domain) (is_reset past domain)
reset_value ports b [] domain fits known = absurd fits
reset_value ports b (present ∷ older) domain fits known = of_reset domain present older known

-- the nodes of a register, by whether its domain has a reset
plain_nodes : (flat : Flat) (v a : WireId) (domain : DomId) (initial : List Bool) → HasCell flat (Reg v domain initial a)
    → has_reset flat.ports domain ≡ false
    → HasNodes (blast flat) (register_nodes (clock_of flat.ports domain) (word flat v.number) (word flat a.number) initial)
plain_nodes flat v a domain initial has e =
    subst (λ t. HasNodes (blast flat) (if t then reset_nodes v.number (clock_of flat.ports domain) (reset_of flat.ports domain) (word flat v.number) (word flat a.number) initial
    else register_nodes (clock_of flat.ports domain) (word flat v.number) (word flat a.number) initial)) e (nodes_there flat (Reg v domain initial a) has)

guarded_nodes : (flat : Flat) (v a : WireId) (domain : DomId) (initial : List Bool) → HasCell flat (Reg v domain initial a)
    → has_reset flat.ports domain ≡ true
    → HasNodes (blast flat) (reset_nodes v.number (clock_of flat.ports domain) (reset_of flat.ports domain) (word flat v.number) (word flat a.number) initial)
guarded_nodes flat v a domain initial has e =
    subst (λ t. HasNodes (blast flat) (if t then reset_nodes v.number (clock_of flat.ports domain) (reset_of flat.ports domain) (word flat v.number) (word flat a.number) initial
    else register_nodes (clock_of flat.ports domain) (word flat v.number) (word flat a.number) initial)) e (nodes_there flat (Reg v domain initial a) has)

module _ (flat : Flat) (h : List Event) (sound : Sound flat) (fits : FitsPorts flat.ports h) (v a : WireId) (domain : DomId)
    (initial : List Bool) (has : HasCell flat (Reg v domain initial a)) where
  cell : FitsCell (length flat.ports.domains) flat.widths (Reg v domain initial a)
  cell = fits_cell flat (Reg v domain initial a) sound has

  as_long : length (word flat v.number) ≡ length (word flat a.number)
  as_long = as_wide flat v.number a.number (length initial) cell.1 cell.2

  as_many : length (word flat v.number) ≡ length initial
  as_many = word_length flat v.number (length initial) cell.1

  -- it has its initial bits where its domain hasn't ticked, or its reset was asserted
  pub register_first : HasNoLoop flat → KeptBefore flat h → taken h domain ≡ None → HasWord flat h v.number initial
  register_first no_loop kept e = by_tick (before h domain) refl e
    where
      asserted : (past : List Event) → before h domain ≡ Some past → is_reset past domain ≡ true → HasWord flat h v.number initial
      asserted past tick r =
          let past_fits = before_fits flat.ports h past domain fits tick in
          let known = known_reset flat.ports past domain past_fits r in
          let x = value_at flat past a.number (length initial) sound no_loop past_fits cell.2 in
          let own : HasWord flat past a.number x.bits = kept past a.number (before_shorter flat.ports h past domain fits tick) past_fits x.bits x.value in
          let reset : BitValue flat.ports (blast flat) past (reset_of flat.ports domain) true =
          subst (λ t. BitValue flat.ports (blast flat) past (reset_of flat.ports domain) t) r (reset_value flat.ports (blast flat) past domain past_fits known) in
          reset_later_have flat.ports (blast flat) h domain cell.0 v.number (reset_of flat.ports domain) past true (word flat v.number) (word flat a.number)
          initial x.bits tick as_long as_many (guarded_nodes flat v a domain initial has known) reset own

      none_yet : before h domain ≡ None → (t : Bool) → has_reset flat.ports domain ≡ t → HasWord flat h v.number initial
      none_yet tick true known =
          reset_first_have flat.ports (blast flat) h domain cell.0 v.number (reset_of flat.ports domain) (word flat v.number) (word flat a.number) initial
          tick as_long as_many (guarded_nodes flat v a domain initial has known)
      none_yet tick false known =
          first_have flat.ports (blast flat) h domain cell.0 (word flat v.number) (word flat a.number) initial tick as_long as_many
          (plain_nodes flat v a domain initial has known)

      by_tick : (tick : Option (List Event)) → before h domain ≡ tick → unless_reset tick domain ≡ None → HasWord flat h v.number initial
      by_tick None tick e = none_yet tick (has_reset flat.ports domain) refl
      by_tick (Some past) tick e = asserted past tick (reset_at past domain e)

  -- else those that its input had at the last tick
  pub register_later : (past : List Event) (bits : List Bool) → taken h domain ≡ Some past → HasWord flat past a.number bits → HasWord flat h v.number bits
  register_later past bits e own = by_reset (has_reset flat.ports domain) refl
    where
      both : (before h domain ≡ Some past) × (is_reset past domain ≡ false)
      both = took (before h domain) past domain e

      by_reset : (t : Bool) → has_reset flat.ports domain ≡ t → HasWord flat h v.number bits
      by_reset true known =
          let past_fits = before_fits flat.ports h past domain fits both.0 in
          let reset : BitValue flat.ports (blast flat) past (reset_of flat.ports domain) false =
          subst (λ t. BitValue flat.ports (blast flat) past (reset_of flat.ports domain) t) both.1 (reset_value flat.ports (blast flat) past domain past_fits known) in
          reset_later_have flat.ports (blast flat) h domain cell.0 v.number (reset_of flat.ports domain) past false (word flat v.number) (word flat a.number)
          initial bits both.0 as_long as_many (guarded_nodes flat v a domain initial has known) reset own
      by_reset false known =
          later_have flat.ports (blast flat) h domain cell.0 past (word flat v.number) (word flat a.number) initial bits both.0 as_long as_many
          (plain_nodes flat v a domain initial has known) own
