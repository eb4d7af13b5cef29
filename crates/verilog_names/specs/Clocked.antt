-- The clocks and resets of a text, in tables.
use Rattle.std.specs.Prelude.{◌≡◌, ℕ, Bool, ◌==◌, ◌||◌, false, List, map, slice_index_or}
use Rattle.chw_base.specs.declared.index.DomId.{DomId}
use Rattle.chw_clock.specs.Histories.{is_one_of}
use Rattle.chw_clock.specs.declared.event.Ports.{Ports}
use Rattle.verilog_rules.specs.Declarations.{domains_of, port_of, resets_of}
use Rattle.verilog_tree.specs.declared.word.Line.{Line}
use Rattle.verilog_tree.specs.declared.word.Word.{Word}

-- the ports of a net whose last module has these clocks and resets, inputs and outputs
abbrev pub ports_from : (signals : List Word) → (inputs outputs : List Line) → Ports
ports_from signals inputs outputs = record {
  domains = domains_of signals;
  resets = resets_of 0 signals;
  inputs = map (port_of (domains_of signals)) inputs;
  outputs = map (port_of (domains_of signals)) outputs;
}

-- the marks are at the numbers of these domains
abbrev pub IsMarks : List DomId → List Bool → Type 0
IsMarks domains marks =
    (d : ℕ) → slice_index_or marks d false ≡ is_one_of domains (record { number = d })

-- one number more is marked
abbrev pub IsMarked : List Bool → ℕ → List Bool → Type 0
IsMarked before number after =
    (d : ℕ) → slice_index_or after d false ≡ ((number == d) || slice_index_or before d false)

-- the tables are those of the ports
pub record AreClocks (ports : Ports) (domains : List (List ℕ)) (marks : List Bool) : Type 0 where
  pub domains_are : domains ≡ ports.domains
  pub marks_are : IsMarks ports.resets marks
