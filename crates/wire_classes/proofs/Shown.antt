-- The bits of a table that is settled for one event are the known ones.
use Rattle.std.proofs.Common.{◌≡◌, ℕ, ◌<◌, Bool, List, [], ◌∷◌, length, map, get_or, Some, slice_get, sym, ap, subst, ◌∙◌, arith}
use Rattle.std.proofs.lemmas.List.{length-map}
use Rattle.std.proofs.lemmas.Option.{slice_get-get_or, slice_get_within}
use Rattle.chw_base.specs.declared.index.DomId.{DomId}
use Rattle.chw_clock.specs.Histories.{FitsEvent, FitsPorts, HaveWidths}
use Rattle.chw_clock.specs.declared.event.Event.{Event}
use Rattle.chw_clock.specs.declared.event.Port.{Port}
use Rattle.chw_clock.specs.declared.event.Ports.{Ports}
use Rattle.net_rules.specs.PortsHold.{PortsHold}
use Rattle.net_sim.specs.Stepping.{ShowsValues}
use Rattle.net_sim.specs.Tables.{value_in}
use Rattle.netlist.specs.NetValue.{NetValue}
use Rattle.netlist.specs.Sound.{Sound}
use Rattle.netlist.specs.declared.net.Flat.{Flat}
use Rattle.share_laws.specs.Same.{IsKnown}
use Rattle.wire_classes.specs.Closed.{ShowsKnown}

-- bits of the ports' widths
pub have_widths : (ports : List Port) (bits : List (List Bool)) → map length bits ≡ map (λ (port : Port). port.width) ports → HaveWidths ports bits
have_widths [] [] e = tt
have_widths [] (b ∷ bits) e = absurd (cc)
have_widths (port ∷ ports) [] e = absurd (cc)
have_widths (port ∷ ports) (b ∷ bits) e =
    let one : length b ≡ port.width = cc in
    let rest : map length bits ≡ map (λ (port : Port). port.width) ports = cc in
    (one, have_widths ports bits rest)

abbrev event_of : List DomId → List DomId → List (List Bool) → Event
event_of ticks resets inputs = record { ticks = ticks; resets = resets; inputs = inputs }

abbrev pub first_domain : List DomId
first_domain = record { number = 0 } ∷ []

-- an event at which the first domain ticks, without a reset, is a history where the rules on ports hold
pub fits_first : (ports : Ports) (event : Event) → PortsHold ports → event.ticks ≡ first_domain → event.resets ≡ []
    → map length event.inputs ≡ map (λ (port : Port). port.width) ports.inputs → FitsPorts ports (event ∷ [])
fits_first ports event hold ticks resets widths =
    let fits : FitsEvent ports (event_of first_domain [] event.inputs) = record {
      some_tick = omega arith;
      known = (omega (arith, hold.domains.some), tt);
      resets = tt;
      inputs = have_widths ports.inputs event.inputs widths;
    } in
    let is : event_of first_domain [] event.inputs ≡ event =
    ap (λ l. event_of l [] event.inputs) (sym ticks) ∙ ap (λ l. event_of event.ticks l event.inputs) (sym resets) in
    (subst (FitsEvent ports) is fits, tt)

-- a wire has one value; known bits have their wire's width, and are its value
pub shows_known : (flat : Flat) (event : Event) (words : List (List Bool)) → Sound flat
    → ((h : List Event) (w : ℕ) (a b : List Bool) → NetValue flat h w a → NetValue flat h w b → a ≡ b)
    → ((w : ℕ) (bits : List Bool) → IsKnown flat w bits → slice_get flat.widths w ≡ Some (length bits))
    → ((w : ℕ) (bits : List Bool) → IsKnown flat w bits → NetValue flat (event ∷ []) w bits)
    → map length words ≡ flat.widths → ShowsValues flat words (event ∷ []) → ShowsKnown flat words
shows_known flat event words sound one_value wide known widths shows = record {
  widths = widths;
  known = λ w bits k.
      let there = slice_get_within flat.widths w (length bits) (wide w bits k) in
      let count : length words ≡ length flat.widths = sym (length-map words length) ∙ ap length widths in
      let within : w < length words = omega (arith, there, count) in
      let is : get_or words w [] ≡ bits = one_value (event ∷ []) w (value_in words w) bits (shows w there) (known w bits k) in
      slice_get-get_or words w [] within ∙ ap Some is;
}
