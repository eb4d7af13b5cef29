-- A cell of a module among the flat wires of an instance: what it drives, reads and gives.
use Rattle.std.proofs.Common.{◌≡◌, ℕ, ◌+◌, Bool, List, map, Some, refl, sym, ap, ◌∙◌}
use Rattle.chw_base.specs.declared.index.DomId.{DomId}
use Rattle.chw_base.specs.declared.index.WireId.{WireId}
use Rattle.net_flat.specs.Flattened.{NoUse, moved, wire_from}
use Rattle.netlist.specs.Feeds.{target}
use Rattle.netlist.specs.NetValue.{Memory}
use Rattle.netlist.specs.Operators.{KeepsNothing, operator}
use Rattle.netlist.specs.Wires.{read_by}
use Rattle.netlist.specs.declared.net.Cell.{Cell}
use Rattle.netlist.specs.declared.net.Cell.TheVariants.{Reg, Ram, Use}
use Rattle.netlist.specs.declared.net.RamIn.{RamIn}

pub target_moved : (base : ℕ) (cell : Cell) (w : ℕ) → target cell ≡ Some w → target (moved base cell) ≡ Some (base + w)
target_moved base (Use k reads drives) w e = absurd (cc)
target_moved base _ w e = cc

pub read_by_moved : (base : ℕ) (cell : Cell) → read_by (moved base cell) ≡ map (wire_from base) (read_by cell)
read_by_moved base (Use k reads drives) = refl
read_by_moved base _ = refl

pub operator_moved : (base : ℕ) (cell : Cell) (values : List (List Bool)) → operator (moved base cell) values ≡ operator cell values
operator_moved base (Use k reads drives) values = refl
operator_moved base _ values = refl

pub keeps_moved : (base : ℕ) (cell : Cell) → KeepsNothing cell → KeepsNothing (moved base cell)
keeps_moved base (Use k reads drives) keeps = keeps
keeps_moved base _ keeps = keeps

pub keeps_unmoved : (base : ℕ) (cell : Cell) → KeepsNothing (moved base cell) → KeepsNothing cell
keeps_unmoved base (Use k reads drives) keeps = keeps
keeps_unmoved base _ keeps = keeps

pub no_use : (cell : Cell) → KeepsNothing cell → NoUse cell
no_use (Use k reads drives) keeps = keeps
no_use _ keeps = tt

-- a RAM of a module among the flat wires of an instance
abbrev pub moved_memory : ℕ → Memory → Memory
moved_memory base ram = record {
  domain = ram.domain;
  words = ram.words;
  inputs = record {
    read = wire_from base ram.inputs.read;
    enable = wire_from base ram.inputs.enable;
    place = wire_from base ram.inputs.place;
    value = wire_from base ram.inputs.value;
  };
}

-- the cell of a module that a flat register is
pub record RegisterOf (base : ℕ) (cell : Cell) (w a : WireId) (domain : DomId) (initial : List Bool) : Type 0 where
  pub driven : WireId
  pub read : WireId
  pub «is» : cell ≡ Reg driven domain initial read
  pub driven_is : w.number ≡ base + driven.number
  pub read_is : a.number ≡ base + read.number

pub register_of : (base : ℕ) (cell : Cell) (w a : WireId) (domain : DomId) (initial : List Bool) → moved base cell ≡ Reg w domain initial a
    → RegisterOf base cell w a domain initial
register_of base (Reg v d bits b) w a domain initial e =
    let first : wire_from base v ≡ w = cc in
    let second : wire_from base b ≡ a = cc in
    let same_domain : d ≡ domain = cc in
    let same_initial : bits ≡ initial = cc in
    record {
      driven = v;
      read = b;
      «is» = ap (λ x. Reg v x bits b) same_domain ∙ ap (λ x. Reg v domain x b) same_initial;
      driven_is = ap (λ (x : WireId). x.number) (sym first);
      read_is = ap (λ (x : WireId). x.number) (sym second);
    }
register_of base _ w a domain initial e = absurd (cc)

-- the cell of a module that a flat RAM is
pub record MemoryOf (base : ℕ) (cell : Cell) (w : WireId) (ram : Memory) : Type 0 where
  pub driven : WireId
  pub inner : Memory
  pub «is» : cell ≡ Ram driven inner.domain inner.words inner.inputs
  pub driven_is : w.number ≡ base + driven.number
  pub ram_is : ram ≡ moved_memory base inner

abbrev memory : DomId → List (List Bool) → RamIn → Memory
memory domain words inputs = record { domain = domain; words = words; inputs = inputs }

same_memory : (a b : Memory) → a.domain ≡ b.domain → a.words ≡ b.words → a.inputs ≡ b.inputs → a ≡ b
same_memory a b d w i =
    ap (λ x. memory x a.words a.inputs) d ∙ ap (λ x. memory b.domain x a.inputs) w ∙ ap (λ x. memory b.domain b.words x) i

pub memory_of : (base : ℕ) (cell : Cell) (w : WireId) (ram : Memory) → moved base cell ≡ Ram w ram.domain ram.words ram.inputs
    → MemoryOf base cell w ram
memory_of base (Ram v d words inputs) w ram e =
    let inner : Memory = memory d words inputs in
    let first : wire_from base v ≡ w = cc in
    let same_domain : ram.domain ≡ d = cc in
    let same_words : ram.words ≡ words = cc in
    let same_inputs : ram.inputs ≡ (moved_memory base inner).inputs = cc in
    record {
      driven = v;
      inner = inner;
      «is» = refl;
      driven_is = ap (λ (x : WireId). x.number) (sym first);
      ram_is = same_memory ram (moved_memory base inner) same_domain same_words same_inputs;
    }
memory_of base _ w ram e = absurd (cc)
