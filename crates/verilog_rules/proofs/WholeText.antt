-- A text that was read, and of which all checks hold, denotes its net.
use Rattle.std.proofs.Common.{◌≡◌, ℕ, ◌+◌, ◌<◌, ◌≤◌, List, [], ◌∷◌, ◌++◌, length, map, take, Some, sym, ap, ◌∙◌, subst, arith}
use Rattle.std.specs.Prelude.{slice_get}
use Rattle.std.specs.List.{AllByRecursion, flat_map}
use Rattle.std.proofs.lemmas.Bool.{ltb-true}
use Rattle.std.proofs.lemmas.List.{length-map}
use Rattle.std.proofs.lemmas.Option.{same_Some}
use Rattle.chw_base.specs.declared.index.WireId.{WireId}
use Rattle.chw_base.specs.declared.limits.TheConstants.{MODULES}
use Rattle.chw_clock.specs.declared.event.Port.{Port as NetPort}
use Rattle.chw_clock.specs.declared.event.Ports.{Ports}
use Rattle.net_rules.specs.WellFormed.{HasFewWords, Holds, NamesExist, TopNamesHold, TopWidthsHold, WellFormed, WidthsAgree}
use Rattle.net_rules.specs.declared.well_formed.NetCode.{NetCode}
use Rattle.net_rules.specs.declared.well_formed.NetCode.TheVariants.{Driver, Limit, Name, Width}
use Rattle.netlist.specs.Sound.{HasWidth}
use Rattle.netlist.specs.declared.net.Cell.{Cell}
use Rattle.netlist.specs.declared.net.Module.{Module as NetModule}
use Rattle.verilog_text.specs.Grammar.{IsSource}
use Rattle.verilog_text.specs.VText.{VText}
use Rattle.verilog_tree.specs.Sources.{source_of}
use Rattle.verilog_tree.specs.declared.module.Module.{Module}
use Rattle.verilog_tree.specs.declared.module.Tree.{Tree}
use Rattle.verilog_tree.specs.declared.word.Line.{Line}
use Rattle.verilog_tree.specs.Marks.{IsTreeOf}
use Rattle.verilog_text.specs.VTokens.{Placed}
use Rattle.verilog_rules.specs.Declarations.{declared_words, input_wire, inputs_of, modules_of, outputs_of, port_of, ports_in, ports_of, wires_by}
use Rattle.verilog_rules.specs.Faults.{AllHold, IsTreeIn}
use Rattle.verilog_rules.specs.Limits.{limits_from, module_limits}
use Rattle.verilog_rules.specs.NameRules.{texts}
use Rattle.verilog_rules.specs.NetOf.{net_module, net_of, shown_wire}
use Rattle.verilog_rules.specs.Resolving.{resolved, resolved_modules}
use Rattle.verilog_rules.specs.Texts.{width}
use Rattle.verilog_rules.specs.WidthRules.{wire_widths}
use Rattle.verilog_rules.specs.declared.resolved.Driver.{Driver as ItsDriver}
use Rattle.verilog_rules.specs.declared.resolved.ResolvedModule.{ResolvedModule}
use Rattle.verilog_rules.specs.declared.resolved.Wire.{Wire}
use Rattle.verilog_rules.proofs.Denoting.{made}
use Rattle.verilog_rules.proofs.Distinct.{Once, names_once}
use Rattle.verilog_rules.proofs.Formed.{tree_formed}
use Rattle.verilog_rules.proofs.Holding.{AllTrue, second_part}
use Rattle.verilog_rules.proofs.ModulesWell.{ModuleWell, last_checked, last_fits, last_is, net_modules, outputs_some, well_at}
use Rattle.verilog_rules.proofs.Parts.{got_front}
use Rattle.verilog_rules.proofs.Texts.{TextChecked, text_checked, text_denotes}
use Rattle.verilog_rules.proofs.TextWell.{ports_hold}
use Rattle.verilog_rules.proofs.Used.{ModuleFits, got_mapped, got_mapped_back, got_shown}
use Rattle.verilog_rules.proofs.Wells.{CellWell, shown_long}

-- the cells, rule by rule
cells_exist : (domains : ℕ) (earlier : List NetModule) (widths : List ℕ) (cells : List Cell) → AllByRecursion (CellWell domains earlier widths) cells → AllByRecursion (NamesExist domains earlier widths) cells
cells_exist domains earlier widths [] all = tt
cells_exist domains earlier widths (c ∷ cells) all = (all.0.exist, cells_exist domains earlier widths cells all.1)

cells_agree : (domains : ℕ) (earlier : List NetModule) (widths : List ℕ) (cells : List Cell) → AllByRecursion (CellWell domains earlier widths) cells → AllByRecursion (WidthsAgree earlier widths) cells
cells_agree domains earlier widths [] all = tt
cells_agree domains earlier widths (c ∷ cells) all = (all.0.agree, cells_agree domains earlier widths cells all.1)

cells_few : (domains : ℕ) (earlier : List NetModule) (widths : List ℕ) (cells : List Cell) → AllByRecursion (CellWell domains earlier widths) cells → AllByRecursion HasFewWords cells
cells_few domains earlier widths [] all = tt
cells_few domains earlier widths (c ∷ cells) all = (all.0.few, cells_few domains earlier widths cells all.1)

modules_counted : (ports : Ports) (k : ℕ) (earl ms : List Module) → AllTrue (limits_from k ms) → k ≤ MODULES → k + length (net_modules ports earl ms) ≤ MODULES
modules_counted ports k earl [] all below = omega arith
modules_counted ports k earl (m ∷ ms) all below =
    let here : k < MODULES = ltb-true k MODULES all.0 in
    let more : k + 1 + length (net_modules ports (earl ++ m ∷ []) ms) ≤ MODULES =
    modules_counted ports (k + 1) (earl ++ m ∷ []) ms (second_part (module_limits k m) (limits_from (k + 1) ms) all) (omega arith) in
    omega arith

-- THE LAST MODULE

top_names : (tree : Tree) (c : TextChecked tree) → Once (texts (declared_words tree.last)) → TopNamesHold (ports_of tree) (net_module (made (ports_of tree) tree.earlier tree.last))
top_names tree c once =
    let ports : Ports = ports_of tree in
    let m : ResolvedModule = made ports tree.earlier tree.last in
    record {
      rules = ports_hold tree c once;
      inputs = length-map (inputs_of (ports_in tree.last)) (port_of ports.domains);
      outputs = length-map (outputs_of (ports_in tree.last)) (port_of ports.domains) ∙ sym (shown_long m.drivers 0 (outputs_of (ports_in tree.last)));
    }

top_widths : (tree : Tree) → ModuleFits tree.last (made (ports_of tree) tree.earlier tree.last) → TopWidthsHold (ports_of tree) (net_module (made (ports_of tree) tree.earlier tree.last))
top_widths tree fits =
    let ports : Ports = ports_of tree in
    let m : ResolvedModule = made ports tree.earlier tree.last in
    let ins : List Line = inputs_of (ports_in tree.last) in
    let outs : List Line = outputs_of (ports_in tree.last) in
    record {
      inputs = λ k p n at also.
          let l = got_mapped_back (port_of ports.domains) ins k p at in
          let front : slice_get (map input_wire ins) k ≡ Some (input_wire l.0) = got_mapped input_wire ins k l.0 l.1 in
          let whole : slice_get m.wires k ≡ Some (input_wire l.0) = got_front (map input_wire ins) (flat_map wires_by tree.last.items) k (input_wire l.0) front in
          let has : slice_get (wire_widths m) k ≡ Some (width l.0.range) = got_mapped (λ (w : Wire). width w.line.range) m.wires k (input_wire l.0) whole in
          ap (λ (q : NetPort). q.width) (sym l.2) ∙ same_Some (width l.0.range) n (sym has ∙ also);
      outputs = λ k p w at also.
          let l = got_mapped_back (port_of ports.domains) outs k p at in
          let shown = got_shown m.drivers 0 outs k w also in
          let same : shown.0 ≡ l.0 = same_Some shown.0 l.0 (sym shown.1 ∙ l.1) in
          let wide_is : width shown.0.range ≡ p.width = ap (λ (x : Line). width x.range) same ∙ ap (λ (q : NetPort). q.width) l.2 in
          let here : shown_wire m.drivers k ≡ w = from_zero m.drivers k w shown.2 in
          subst (λ (n : ℕ). HasWidth (wire_widths m) w n) wide_is (subst (λ (v : WireId). HasWidth (wire_widths m) v (width shown.0.range)) here (fits.wide_outputs k shown.0 shown.1));
    }
  where
    from_zero : (drivers : List ItsDriver) (k : ℕ) (w : WireId) → shown_wire drivers (0 + k) ≡ w → shown_wire drivers k ≡ w
    from_zero drivers k w is = let none : 0 + k ≡ k = omega arith in rw none at is

-- THE RULES

pub text_well_formed : (tree : Tree) → TextChecked tree → WellFormed (net_of (resolved tree))
text_well_formed tree c = record {
  some = at_least_one tree.earlier [];
  rules = λ i m found code. rule i m found (well_at (ports_of tree) [] [] (modules_of tree) c.modules tt i m found) code;
}
  where
    at_least_one : (ms earl : List Module) → 1 ≤ length (net_modules (ports_of tree) earl (ms ++ tree.last ∷ []))
    at_least_one [] earl = omega arith
    at_least_one (n ∷ ms) earl = omega arith

    rule : (i : ℕ) (m : NetModule) → slice_get (net_modules (ports_of tree) [] (modules_of tree)) i ≡ Some m
        → ModuleWell (length (ports_of tree).domains) (take i (net_modules (ports_of tree) [] (modules_of tree))) m → (code : NetCode) → Holds (net_of (resolved tree)) i m code
    rule i m found well Name = record {
      cells = cells_exist (length (ports_of tree).domains) (take i (net_modules (ports_of tree) [] (modules_of tree))) m.widths m.cells well.cells;
      outputs = well.outputs;
      top = λ is.
          let last = last_checked (ports_of tree) [] [] tree.earlier tree.last c.modules tt in
          let once : Once (texts (declared_words tree.last)) = names_once [] (declared_words tree.last) (λ name. omega arith) last.1.once in
          subst (TopNamesHold (ports_of tree)) (last_is (ports_of tree) [] tree.earlier tree.last i m found is) (top_names tree c once);
    }
    rule i m found well Width = record {
      cells = cells_agree (length (ports_of tree).domains) (take i (net_modules (ports_of tree) [] (modules_of tree))) m.widths m.cells well.cells;
      top = λ is.
          let last = last_checked (ports_of tree) [] [] tree.earlier tree.last c.modules tt in
          subst (TopWidthsHold (ports_of tree)) (last_is (ports_of tree) [] tree.earlier tree.last i m found is)
          (top_widths tree (last_fits (ports_of tree) tree.earlier last.0 tree.last last.1 last.2));
    }
    rule i m found well Driver = record {
      inputs = well.inputs;
      drivers = well.drivers;
      outputs = λ less.
          let x = got_mapped_back net_module (resolved_modules (ports_of tree) [] (modules_of tree)) i m found in
          let count : length (net_modules (ports_of tree) [] (modules_of tree)) ≡ length (resolved_modules (ports_of tree) [] (modules_of tree)) =
          length-map (resolved_modules (ports_of tree) [] (modules_of tree)) net_module in
          let some : 1 ≤ length x.0.outputs = outputs_some (resolved_modules (ports_of tree) [] (modules_of tree)) c.drivers i x.0 x.1 (subst (λ (n : ℕ). i + 1 < n) count less) in
          subst (λ (y : NetModule). 1 ≤ length y.outputs) x.2 (subst (λ (n : ℕ). 1 ≤ n) (sym (shown_long x.0.drivers 0 x.0.outputs)) some);
    }
    rule i m found well Limit = record {
      widths = well.narrow;
      words = cells_few (length (ports_of tree).domains) (take i (net_modules (ports_of tree) [] (modules_of tree))) m.widths m.cells well.cells;
      modules = λ zeroth.
          let all : 0 + length (net_modules (ports_of tree) [] (modules_of tree)) ≤ MODULES = modules_counted (ports_of tree) 0 [] (modules_of tree) c.limits (omega arith) in omega arith;
    }

-- the tokens of a tree are those of its source
abbrev pub AreSources : Type 0
AreSources = (tokens : List Placed) (tree : Tree) → IsTreeOf tokens tree → IsSource tokens (source_of tree)

pub checked_text : AreSources → (text : List ℕ) (tree : Tree) → IsTreeIn text tree → AllHold tree → VText text (net_of (resolved tree))
checked_text sources text tree read holds =
    let c : TextChecked tree = text_checked tree (tree_formed text read.tokens tree read.splits read.reads) holds in
    record {
      tokens = read.tokens;
      source = source_of tree;
      splits = read.splits;
      reads = sources read.tokens tree read.reads;
      denotes = text_denotes tree c;
      well_formed = text_well_formed tree c;
    }
