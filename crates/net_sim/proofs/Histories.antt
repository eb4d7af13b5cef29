-- Events put before a history, and what registers and RAMs show there.
use Rattle.std.proofs.Common.{◌≡◌, ℕ, Bool, true, false, List, ◌∷◌, Option, Some, None, refl, sym, ap, subst, ◌∙◌, if◌then◌else◌}
use Rattle.chw_base.specs.declared.index.DomId.{DomId}
use Rattle.chw_base.specs.declared.index.WireId.{WireId}
use Rattle.chw_clock.specs.Histories.{before, resets, taken, ticks, unless_reset, up_to_tick}
use Rattle.chw_clock.specs.declared.event.Event.{Event}
use Rattle.netlist.specs.NetValue.{HasCell, HasRam, Memory, NetValue, WordAt}
use Rattle.netlist.specs.NetValue.NetValue.{input, operated, first, later, unread, outside, shown}
use Rattle.netlist.specs.NetValue.WordAt.{unwritten, written, kept}
use Rattle.netlist.specs.Operators.{KeepsNothing}
use Rattle.netlist.specs.Sound.{Sound}
use Rattle.netlist.specs.declared.net.Cell.TheVariants.{Reg, Ram}
use Rattle.netlist.specs.declared.net.Flat.{Flat}
use Rattle.net_sim.proofs.Cells.{drives_no_input, same_cell}

-- an event in which the domain ticks is the last tick before the next
pub before_tick : (present event : Event) (past : List Event) (domain : DomId) → ticks event domain ≡ true
    → before (present ∷ event ∷ past) domain ≡ Some (event ∷ past)
before_tick present event past domain is =
    ap (λ t. if t then Some (event ∷ past) else up_to_tick past domain) is

-- another event is passed over
pub before_other : (present event : Event) (past : List Event) (domain : DomId) → ticks event domain ≡ false
    → before (event ∷ past) domain ≡ before (present ∷ event ∷ past) domain
before_other present event past domain is =
    sym (ap (λ t. if t then Some (event ∷ past) else up_to_tick past domain) is)

pub taken_reset : (present event : Event) (past : List Event) (domain : DomId) → ticks event domain ≡ true → resets event domain ≡ true
    → taken (present ∷ event ∷ past) domain ≡ None
taken_reset present event past domain is reset =
    ap (λ b. unless_reset b domain) (before_tick present event past domain is)
    ∙ (let none : Option (List Event) = None in ap (λ r. if r then none else Some (event ∷ past)) reset)

pub taken_tick : (present event : Event) (past : List Event) (domain : DomId) → ticks event domain ≡ true → resets event domain ≡ false
    → taken (present ∷ event ∷ past) domain ≡ Some (event ∷ past)
taken_tick present event past domain is reset =
    ap (λ b. unless_reset b domain) (before_tick present event past domain is)
    ∙ (let none : Option (List Event) = None in ap (λ r. if r then none else Some (event ∷ past)) reset)

-- a register shows the same at each history at which it has taken the same
pub register_elsewhere : (flat : Flat) (h g : List Event) (w a : WireId) (domain : DomId) (initial : List Bool) (n : ℕ) (bits : List Bool)
    → Sound flat → HasCell flat (Reg w domain initial a) → taken h domain ≡ taken g domain → n ≡ w.number → NetValue flat h n bits
    → NetValue flat g n bits
register_elsewhere flat _ g w a domain initial _ _ sound has same n_is (input n present past bits lt e) =
    absurd (drives_no_input flat n (Reg w domain initial a) sound has (ap Some (sym n_is)) lt)
register_elsewhere flat _ g w a domain initial _ _ sound has same n_is (operated cell n h values has' keeps t reads) =
    absurd (subst KeepsNothing (same_cell flat n cell (Reg w domain initial a) sound has' t has (ap Some (sym n_is))) keeps)
register_elsewhere flat _ g w a domain initial _ _ sound has same n_is (first v b domain' initial' h has' e) =
    let is : Reg v domain' initial' b ≡ Reg w domain initial a =
    same_cell flat v.number (Reg v domain' initial' b) (Reg w domain initial a) sound has' refl has (ap Some (sym n_is)) in
    let domains : domain' ≡ domain = cc in
    first v b domain' initial' g has' (ap (taken g) domains ∙ sym same ∙ ap (taken h) (sym domains) ∙ e)
register_elsewhere flat _ g w a domain initial _ _ sound has same n_is (later v b domain' initial' bits h past has' e u) =
    let is : Reg v domain' initial' b ≡ Reg w domain initial a =
    same_cell flat v.number (Reg v domain' initial' b) (Reg w domain initial a) sound has' refl has (ap Some (sym n_is)) in
    let domains : domain' ≡ domain = cc in
    later v b domain' initial' bits g past has' (ap (taken g) domains ∙ sym same ∙ ap (taken h) (sym domains) ∙ e) u
register_elsewhere flat _ g w a domain initial _ _ sound has same n_is (unread v ram width h has' wide e) =
    let is = same_cell flat v.number (Ram v ram.domain ram.words ram.inputs) (Reg w domain initial a) sound has' refl has (ap Some (sym n_is)) in
    absurd (cc)
register_elsewhere flat _ g w a domain initial _ _ sound has same n_is (outside v ram width h past address has' wide e u le) =
    let is = same_cell flat v.number (Ram v ram.domain ram.words ram.inputs) (Reg w domain initial a) sound has' refl has (ap Some (sym n_is)) in
    absurd (cc)
register_elsewhere flat _ g w a domain initial _ _ sound has same n_is (shown v ram h past address bits has' e u lt word) =
    let is = same_cell flat v.number (Ram v ram.domain ram.words ram.inputs) (Reg w domain initial a) sound has' refl has (ap Some (sym n_is)) in
    absurd (cc)

-- a RAM shows the same at each history at which it has ticked at the same one before
pub ram_elsewhere : (flat : Flat) (h g : List Event) (w : WireId) (ram : Memory) (n : ℕ) (bits : List Bool)
    → Sound flat → HasRam flat w ram → before h ram.domain ≡ before g ram.domain → n ≡ w.number → NetValue flat h n bits
    → NetValue flat g n bits
ram_elsewhere flat _ g w ram _ _ sound has same n_is (input n present past bits lt e) =
    absurd (drives_no_input flat n (Ram w ram.domain ram.words ram.inputs) sound has (ap Some (sym n_is)) lt)
ram_elsewhere flat _ g w ram _ _ sound has same n_is (operated cell n h values has' keeps t reads) =
    absurd (subst KeepsNothing (same_cell flat n cell (Ram w ram.domain ram.words ram.inputs) sound has' t has (ap Some (sym n_is))) keeps)
ram_elsewhere flat _ g w ram _ _ sound has same n_is (first v b domain' initial' h has' e) =
    let is = same_cell flat v.number (Reg v domain' initial' b) (Ram w ram.domain ram.words ram.inputs) sound has' refl has (ap Some (sym n_is)) in
    absurd (cc)
ram_elsewhere flat _ g w ram _ _ sound has same n_is (later v b domain' initial' bits h past has' e u) =
    let is = same_cell flat v.number (Reg v domain' initial' b) (Ram w ram.domain ram.words ram.inputs) sound has' refl has (ap Some (sym n_is)) in
    absurd (cc)
ram_elsewhere flat _ g w ram _ _ sound has same n_is (unread v other width h has' wide e) =
    let is : Ram v other.domain other.words other.inputs ≡ Ram w ram.domain ram.words ram.inputs =
    same_cell flat v.number _ _ sound has' refl has (ap Some (sym n_is)) in
    let domains : other.domain ≡ ram.domain = cc in
    unread v other width g has' wide (ap (before g) domains ∙ sym same ∙ ap (before h) (sym domains) ∙ e)
ram_elsewhere flat _ g w ram _ _ sound has same n_is (outside v other width h past address has' wide e u le) =
    let is : Ram v other.domain other.words other.inputs ≡ Ram w ram.domain ram.words ram.inputs =
    same_cell flat v.number _ _ sound has' refl has (ap Some (sym n_is)) in
    let domains : other.domain ≡ ram.domain = cc in
    outside v other width g past address has' wide (ap (before g) domains ∙ sym same ∙ ap (before h) (sym domains) ∙ e) u le
ram_elsewhere flat _ g w ram _ _ sound has same n_is (shown v other h past address bits has' e u lt word) =
    let is : Ram v other.domain other.words other.inputs ≡ Ram w ram.domain ram.words ram.inputs =
    same_cell flat v.number _ _ sound has' refl has (ap Some (sym n_is)) in
    let domains : other.domain ≡ ram.domain = cc in
    shown v other g past address bits has' (ap (before g) domains ∙ sym same ∙ ap (before h) (sym domains) ∙ e) u lt word

-- the words of a RAM are the same too
pub word_elsewhere : (flat : Flat) (h g : List Event) (ram : Memory) (address : ℕ) (bits : List Bool) → before h ram.domain ≡ before g ram.domain
    → WordAt flat ram h address bits → WordAt flat ram g address bits
word_elsewhere flat _ g _ _ _ same (unwritten ram h address bits e at) = unwritten ram g address bits (sym same ∙ e) at
word_elsewhere flat _ g _ _ _ same (written ram h past address enable place bits e on at is value) =
    written ram g past address enable place bits (sym same ∙ e) on at is value
word_elsewhere flat _ g _ _ _ same (kept ram h past address enable place bits e on at is word) =
    kept ram g past address enable place bits (sym same ∙ e) on at is word
