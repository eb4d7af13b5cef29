-- Registers: one latch after another, from the last bit of a list to the first.
use Rattle.std.proofs.Common.{◌≡◌, ℕ, suc, ◌+◌, ◌-◌, ◌<◌, Bool, true, false, List, [], ◌∷◌, ◌++◌, length, get_or, drop, refl, sym, ap, subst, ◌∙◌, add-one, arith, if◌then◌else◌}
use Rattle.std.proofs.lemmas.List.{drop_more}
use Rattle.chw_base.specs.declared.index.DomId.{DomId}
use Rattle.chw_base.specs.declared.index.WireId.{WireId}
use Rattle.chw_clock.specs.Histories.{has_reset}
use Rattle.netlist.specs.Sound.{FitsCell}
use Rattle.netlist.specs.declared.net.Cell.TheVariants.{Reg}
use Rattle.netlist.specs.declared.net.Flat.{Flat}
use Rattle.bit_laws.specs.BitNames.{bit_name, further, wire_name}
use Rattle.bit_laws.specs.Bitnet.{Node, clock_of, reset_of}
use Rattle.bit_laws.specs.Bitnet.Node.{latch}
use Rattle.bit_laws.specs.Blast.{gate_of, nodes_of, register_nodes, reset_nodes, word}
use Rattle.bit_laws.specs.Gates.Gate.{cleared, either}
use Rattle.bit_nodes.specs.Standing.{name_of, node_of}
use Rattle.bit_nodes.specs.declared.nodes.BitGate.TheVariants.{Cleared, Either}
use Rattle.bit_nodes.specs.declared.nodes.BitName.{BitName}
use Rattle.bit_nodes.specs.declared.nodes.BitName.TheVariants.{Bit}
use Rattle.bit_nodes.specs.declared.nodes.BitNode.{BitNode}
use Rattle.bit_nodes.specs.declared.nodes.BitNode.TheVariants.{Latch, Table}
use Rattle.bit_blast.specs.Adding.{Adds}
use Rattle.bit_blast.specs.Latches.{held_latch}
use Rattle.bit_blast.specs.Names.{lowest}
use Rattle.bit_blast.proofs.Adding.{added_as, both_added, one_added}
use Rattle.bit_blast.proofs.Counted.{length-word_names}
use Rattle.bit_blast.proofs.Places.{lowest_all}

-- one more bit of a list from its end
pub bits_more : (bits : List Bool) (n j : ℕ) (bit : Bool) → n ≡ length bits → j < n → bit ≡ get_or bits (n - 1 - j) false
    → drop (n - (j + 1)) bits ≡ bit ∷ drop (n - j) bits
bits_more bits n j bit e less f =
    let first : n - (j + 1) ≡ n - 1 - j = omega arith in
    let within : n - 1 - j < length bits = omega arith in
    let rest : n - 1 - j + 1 ≡ n - j = omega arith in
    ap (λ (m : ℕ). drop m bits) first ∙ drop_more bits (n - 1 - j) false within
    ∙ ap (λ (b : Bool). b ∷ drop (n - 1 - j + 1) bits) (sym f) ∙ ap (λ (m : ℕ). bit ∷ drop m bits) rest

-- the whole list
pub bits_all : (bits : List Bool) (n : ℕ) → drop (n - n) bits ≡ bits
bits_all bits n = let none : n - n ≡ 0 = omega arith in ap (λ (m : ℕ). drop m bits) none

pub latches_more : (flat : Flat) (old mid new : List BitNode) (w a : WireId) (domain : DomId) (bits : List Bool) (n j : ℕ) (bit : Bool)
    → n ≡ length bits → j < n
    → Adds flat old mid (register_nodes (clock_of flat.ports domain) (lowest flat w.number j) (lowest flat a.number j) (drop (n - j) bits))
    → new ≡ mid ++ Latch (Bit a j) (Bit w j) domain bit ∷ [] → bit ≡ get_or bits (n - 1 - j) false
    → Adds flat old new
    (register_nodes (clock_of flat.ports domain) (lowest flat w.number (j + 1)) (lowest flat a.number (j + 1)) (drop (n - (j + 1)) bits))
latches_more flat old mid new w a domain bits n j bit e less h p f =
    let clock = clock_of flat.ports domain in
    let before = register_nodes clock (lowest flat w.number j) (lowest flat a.number j) (drop (n - j) bits) in
    let own = drop (n - (j + 1)) bits in
    subst (λ (q : ℕ). Adds flat old new (register_nodes clock (lowest flat w.number q) (lowest flat a.number q) own)) (sym (add-one j))
    (added_as flat old new (before ++ latch (bit_name flat.ports a.number j) (bit_name flat.ports w.number j) clock bit ∷ [])
    (register_nodes clock (lowest flat w.number (suc j)) (lowest flat a.number (suc j)) own)
    (ap (λ (bs : List Bool). register_nodes clock (lowest flat w.number (suc j)) (lowest flat a.number (suc j)) bs)
    (sym (bits_more bits n j bit e less f)))
    (one_added flat old mid new before (Latch (Bit a j) (Bit w j) domain bit) h p))

-- the same behind gates
pub held_more : (flat : Flat) (old mid new : List BitNode) (w a : WireId) (domain : DomId) (bits : List Bool) (n j : ℕ) (bit : Bool)
    → n ≡ length bits → j < n
    → Adds flat old mid
    (reset_nodes w.number (clock_of flat.ports domain) (reset_of flat.ports domain) (lowest flat w.number j) (lowest flat a.number j) (drop (n - j) bits))
    → Adds flat mid new (held_latch flat w.number a.number domain j bit) → bit ≡ get_or bits (n - 1 - j) false
    → Adds flat old new
    (reset_nodes w.number (clock_of flat.ports domain) (reset_of flat.ports domain) (lowest flat w.number (j + 1)) (lowest flat a.number (j + 1))
    (drop (n - (j + 1)) bits))
held_more flat old mid new w a domain bits n j bit e less h p f =
    let k = w.number in
    let clock = clock_of flat.ports domain in
    let reset = reset_of flat.ports domain in
    let xs = lowest flat a.number j in
    let x = bit_name flat.ports a.number j in
    let before = reset_nodes k clock reset (lowest flat k j) xs (drop (n - j) bits) in
    let own = drop (n - (j + 1)) bits in
    let there : ℕ → List Node =
    λ (i : ℕ). before ++ gate_of (if bit then either else cleared) (x ∷ reset ∷ []) (further k i) ∷ latch (further k i) (bit_name flat.ports k j) clock bit ∷ [] in
    subst (λ (q : ℕ). Adds flat old new (reset_nodes k clock reset (lowest flat k q) (lowest flat a.number q) own)) (sym (add-one j))
    (added_as flat old new (there j) (reset_nodes k clock reset (lowest flat k (suc j)) (lowest flat a.number (suc j)) own)
    (ap there (sym (length-word_names (wire_name flat.ports a.number) j))
    ∙ ap (λ (bs : List Bool). reset_nodes k clock reset (lowest flat k (suc j)) (lowest flat a.number (suc j)) bs)
    (sym (bits_more bits n j bit e less f)))
    (both_added flat old mid new before (held_latch flat k a.number domain j bit) h p))

pub holding_is : (flat : Flat) (bit : Bool) (takes reset drives : BitName)
    → node_of flat (Table (if bit then Either takes reset else Cleared takes reset) drives)
    ≡ gate_of (if bit then either else cleared) (name_of flat takes ∷ name_of flat reset ∷ []) (name_of flat drives)
holding_is flat true takes reset drives = refl
holding_is flat false takes reset drives = refl

-- the latches of a register
abbrev pub latches_of : Flat → (w a : ℕ) → DomId → List Bool → Bool → (xs ys : List (List ℕ)) → List Node
latches_of flat w a domain bits held xs ys =
    if held then reset_nodes w (clock_of flat.ports domain) (reset_of flat.ports domain) xs ys bits
    else register_nodes (clock_of flat.ports domain) xs ys bits

pub register_is : (flat : Flat) (w a : WireId) (domain : DomId) (bits : List Bool) (held : Bool)
    → FitsCell (length flat.ports.domains) flat.widths (Reg w domain bits a) → has_reset flat.ports domain ≡ held
    → latches_of flat w.number a.number domain bits held (lowest flat w.number (length bits)) (lowest flat a.number (length bits))
    ≡ nodes_of flat (Reg w domain bits a)
register_is flat w a domain bits held fits e =
    let latches = latches_of flat w.number a.number domain bits in
    ap (λ (q : List (List ℕ)). latches held q (lowest flat a.number (length bits))) (lowest_all flat w.number (length bits) fits.1)
    ∙ ap (λ (q : List (List ℕ)). latches held (word flat w.number) q) (lowest_all flat a.number (length bits) fits.2)
    ∙ ap (λ (t : Bool). latches t (word flat w.number) (word flat a.number)) (sym e)

-- all latches
pub latches_all : (flat : Flat) (w a : WireId) (domain : DomId) (bits : List Bool) (n j : ℕ) → n ≡ length bits → j ≡ n
    → register_nodes (clock_of flat.ports domain) (lowest flat w.number j) (lowest flat a.number j) (drop (n - j) bits)
    ≡ register_nodes (clock_of flat.ports domain) (lowest flat w.number (length bits)) (lowest flat a.number (length bits)) bits
latches_all flat w a domain bits n j e f =
    let clock = clock_of flat.ports domain in
    ap (λ (q : ℕ). register_nodes clock (lowest flat w.number q) (lowest flat a.number q) (drop (n - q) bits)) f
    ∙ ap (λ (bs : List Bool). register_nodes clock (lowest flat w.number n) (lowest flat a.number n) bs) (bits_all bits n)
    ∙ ap (λ (q : ℕ). register_nodes clock (lowest flat w.number q) (lowest flat a.number q) bits) e

pub held_all : (flat : Flat) (w a : WireId) (domain : DomId) (bits : List Bool) (n j : ℕ) → n ≡ length bits → j ≡ n
    → reset_nodes w.number (clock_of flat.ports domain) (reset_of flat.ports domain) (lowest flat w.number j) (lowest flat a.number j) (drop (n - j) bits)
    ≡ reset_nodes w.number (clock_of flat.ports domain) (reset_of flat.ports domain) (lowest flat w.number (length bits))
    (lowest flat a.number (length bits)) bits
held_all flat w a domain bits n j e f =
    let nodes = reset_nodes w.number (clock_of flat.ports domain) (reset_of flat.ports domain) in
    ap (λ (q : ℕ). nodes (lowest flat w.number q) (lowest flat a.number q) (drop (n - q) bits)) f
    ∙ ap (λ (bs : List Bool). nodes (lowest flat w.number n) (lowest flat a.number n) bs) (bits_all bits n)
    ∙ ap (λ (q : ℕ). nodes (lowest flat w.number q) (lowest flat a.number q) bits) e
