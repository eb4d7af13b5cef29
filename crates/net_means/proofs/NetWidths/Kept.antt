-- What is said of the cells of a piece: their widths agree, and those of the wires that they drive
-- are within the limit.
use Rattle.std.proofs.Common.{ℕ, zero, suc, ◌≤◌, arith, List, [], ◌∷◌, refl}
use Rattle.std.specs.List.{AllByRecursion}
use Rattle.chw_base.specs.declared.index.WireId.{WireId}
use Rattle.netlist.specs.declared.net.Cell.{Cell}
use Rattle.netlist.specs.declared.net.Cell.TheVariants.{Use}
use Rattle.netlist.specs.declared.net.Module.{Module}
use Rattle.net_built.specs.Circuits.{Ground, module_of, used}
use Rattle.net_built.specs.Wires.{Piece, nothing, ◌▸◌, after, wire_count, new_wires}
use Rattle.net_means.specs.NetFits.Widths.{StandFrom}
use Rattle.net_means.proofs.NetFits.Wide.{stand_parts}
use Rattle.net_means.proofs.NetFits.WordWidths.{Agree, none_agree, then_agree}
use Rattle.net_means.proofs.NetWidths.Small.{Small, none_small, then_small}

pub record Kept (earlier : List Module) (all : List ℕ) (p : Piece) : Type 0 where
  pub agree : Agree earlier all p
  pub small : Small p.widths

pub none_kept : (earlier : List Module) (all : List ℕ) → Kept earlier all nothing
none_kept earlier all = record { agree = none_agree earlier all nothing refl; small = none_small }

pub then_kept : (earlier : List Module) (all : List ℕ) (at : ℕ) (p q : Piece) → StandFrom all at (p ▸ q).widths → (StandFrom all at p.widths → Kept earlier all p) → (StandFrom all (after at p) q.widths → Kept earlier all q) → Kept earlier all (p ▸ q)
then_kept earlier all at p q stand h k =
    let parts = stand_parts all at p.widths q.widths stand in
    let a = h parts.0 in
    let b = k parts.1 in
    record { agree = then_agree earlier all at p q stand (λ s. a.agree) (λ s. b.agree); small = then_small p.widths q.widths a.small b.small }

-- what holds of a use holds of the cells of a use, of which there are none where it gives nothing
pub used_all : (A : Cell → Type 0) (ground : Ground) (m at : ℕ) (reads : List WireId) (ws : List ℕ) → (1 ≤ wire_count ws → A (Use (module_of ground m) reads (new_wires at ws))) → AllByRecursion A (used ground m at reads ws).cells
used_all A ground m at reads [] h = tt
used_all A ground m at reads (zero ∷ ws) h = used_all A ground m at reads ws h
used_all A ground m at reads (suc w ∷ ws) h = (h (omega arith), tt)
