-- The printed text of a net denotes the net.
use Rattle.std.proofs.Common.{◌≡◌, ℕ, zero, suc, ◌+◌, ◌<◌, ◌≤◌, ◌^◌, List, [], ◌∷◌, ◌++◌, length, map, take, get_or, Some, inr, sym, refl, ap, ◌∙◌, subst, arith}
use Rattle.std.specs.Prelude.{slice_get, option_map}
use Rattle.std.specs.List.{AllByRecursion}
use Rattle.std.proofs.lemmas.List.{ext_get_or, length-map, length-take-le}
use Rattle.std.proofs.lemmas.Option.{get_or_from_slice_get}
use Rattle.chw_base.specs.declared.index.WireId.{WireId}
use Rattle.chw_clock.specs.declared.event.Port.{Port}
use Rattle.chw_clock.specs.declared.event.Ports.{Ports}
use Rattle.name_tables.specs.Names.{AreDistinct}
use Rattle.net_rules.specs.PortsHold.{PortsHold}
use Rattle.net_rules.specs.WellFormed.{HasFewWords, NamesExist, Together, WellFormed, WidthsAgree}
use Rattle.net_rules.specs.declared.well_formed.NetCode.TheVariants.{Driver, Limit, Name, Width}
use Rattle.netlist.specs.Sound.{HasWidth, IsWireWidth}
use Rattle.netlist.specs.declared.net.Module.{Module}
use Rattle.netlist.specs.declared.net.Net.{Net}
use Rattle.verilog_text.specs.Declared.{inputs_of, outputs_of, width_of}
use Rattle.verilog_text.specs.Denotes.{ArePorts, DenotesModule}
use Rattle.verilog_text.specs.Names.{input_name, input_text, module_name, output_name, output_text, top_name}
use Rattle.verilog_text.specs.Source.{Line, all_of}
use Rattle.verilog_text.specs.Text.{inner_scope, top_scope, width_in}
use Rattle.verilog_text.specs.VText.{AreCounted}
use Rattle.verilog_text.proofs.DistinctNames.{HasTag, not_among, not_in_both, numbered_distinct, ports_distinct, tag_numbered}
use Rattle.verilog_text.proofs.Numbered.{flat_numbered, map_numbered, numbered_get, numbered_length}
use Rattle.verilog_text.proofs.OneNet.{ports_hold}
use Rattle.verilog_text.proofs.PrintedCells.{Prints}
use Rattle.verilog_text.proofs.PrintedDenotes.{module_denotes}
use Rattle.verilog_text.proofs.PrintedDrivers.{drives_it}
use Rattle.verilog_text.proofs.PrintedFits.{all_at, all_from, few_modules, in_front, inner_fits, top_fits}
use Rattle.verilog_text.proofs.PrintedItems.{CellFacts, range_means}
use Rattle.verilog_text.proofs.PrintedModules.{ModuleFits, all_take, ports_some}
use Rattle.verilog_text.proofs.PrintedNames.{BitLaws}
use Rattle.verilog_text.proofs.PrintedSource.{inner_item, line_of, numbered_as, top_item}
use Rattle.verilog_text.proofs.PrintedWires.{PortsApart, input_line, inputs_are, output_line, outputs_are, scope_with}

-- what stands at the places of a list is the list
looked_up : {A B : Type 0} (d : B) (xs : List A) (ys : List B) → length xs ≡ length ys → numbered_as (λ k (x : A). get_or ys k d) 0 xs ≡ ys
looked_up {A} {B} d xs ys same =
    let make : ℕ → A → B = λ k x. get_or ys k d in
    let count = numbered_length (λ k (x : A). get_or ys k d) 0 xs in
    ext_get_or d (numbered_as (λ k (x : A). get_or ys k d) 0 xs) ys (count ∙ same) (λ i within. at xs i (omega arith))
  where
    some_at : (xs : List A) (i : ℕ) → i < length xs → (x : A) × (slice_get xs i ≡ Some x)
    some_at [] i within = absurd (omega arith)
    some_at (x ∷ xs) zero within = (x, refl)
    some_at (x ∷ xs) (suc i) within = some_at xs i (omega arith)

    at : (xs : List A) (i : ℕ) → i < length xs → get_or (numbered_as (λ k (x : A). get_or ys k d) 0 xs) i d ≡ get_or ys i d
    at xs i within =
        let found = some_at xs i within in
        let same : 0 + i ≡ i = omega arith in
        get_or_from_slice_get (numbered_as (λ k (x : A). get_or ys k d) 0 xs) i (get_or ys (0 + i) d) d
        (numbered_get (λ k (x : A). get_or ys k d) 0 i xs ∙ ap (option_map (λ (x : A). get_or ys (0 + i) d)) found.1)
        ∙ ap (λ (n : ℕ). get_or ys n d) same

tags_at : (t : ℕ) (name_of_port : Port → List ℕ) → ((p : Port) → HasTag t (name_of_port p)) → (ps : List Port) (k : ℕ) → k < length ps → HasTag t (get_or (map name_of_port ps) k [])
tags_at t name_of_port each [] k within = absurd (omega arith)
tags_at t name_of_port each (p ∷ ps) zero within = each p
tags_at t name_of_port each (p ∷ ps) (suc k) within = tags_at t name_of_port each ps k (omega arith)

-- the widths of the ports are those of their lines
input_widths : (ps : List Port) (widths : List ℕ) → length ps ≤ length widths → Together (λ (p : Port) width. p.width ≡ width) ps widths → take (length ps) widths ≡ map (λ (p : Port). p.width) ps
input_widths [] widths within same = refl
input_widths (p ∷ ps) [] within same = absurd (omega arith)
input_widths (p ∷ ps) (width ∷ widths) within same =
    let head = sym (same 0 p width refl refl) in
    let tail = input_widths ps widths (omega arith) (λ k x y first second. same (suc k) x y first second) in
    λ i. head i ∷ tail i

means_widths : (k : ℕ) (name_at : ℕ → List ℕ) (widths : List ℕ) → AllByRecursion IsWireWidth widths → numbered_as (λ j (width : ℕ). width_of (line_of width (name_at j)).range) k widths ≡ widths
means_widths k name_at [] all = refl
means_widths k name_at (width ∷ widths) all =
    let head = range_means width all.0 in
    let tail = means_widths (k + 1) name_at widths all.1 in
    λ i. head i ∷ tail i

output_widths : (m : Module) (k : ℕ) (name_at : ℕ → List ℕ) → AllByRecursion IsWireWidth m.widths → (ws : List WireId) (ps : List Port) → length ps ≡ length ws
    → Together (λ (p : Port) w. HasWidth m.widths w p.width) ps ws
    → numbered_as (λ j (w : WireId). width_of (line_of (width_in m w) (name_at j)).range) k ws ≡ map (λ (p : Port). p.width) ps
output_widths m k name_at all [] [] same wide = refl
output_widths m k name_at all [] (p ∷ ps) same wide = absurd (omega arith)
output_widths m k name_at all (w ∷ ws) [] same wide = absurd (omega arith)
output_widths m k name_at all (w ∷ ws) (p ∷ ps) same wide =
    let here = wide 0 p w refl refl in
    let width : width_in m w ≡ p.width = get_or_from_slice_get m.widths w.number p.width 0 here in
    let fit = all_at IsWireWidth m.widths w.number p.width all here in
    let head = ap (λ (n : ℕ). width_of (line_of n (name_at k)).range) width ∙ range_means p.width fit in
    let tail = output_widths m (k + 1) name_at all ws ps (omega arith) (λ j x y first second. wide (suc j) x y first second) in
    λ i. head i ∷ tail i

-- one more name that is new
pub distinct_last : (names : List (List ℕ)) (last : List ℕ) → AreDistinct names → AllByRecursion (λ (n : List ℕ). n ≡ last → ⊥) names → AreDistinct (names ++ last ∷ [])
distinct_last [] last distinct others = (refl, tt)
distinct_last (n ∷ names) last distinct others =
    (not_in_both names (last ∷ []) n distinct.0 (not_among last [] n others.0 refl), distinct_last names last distinct.1 others.1)

module _ (laws : BitLaws) (net : Net) (well : WellFormed net) (counted : AreCounted net) where
  abbrev ports : Ports
  ports = net.ports

  hold : PortsHold ports
  hold = ports_hold net well

  used_fits : (i k : ℕ) (used : Module) → slice_get (take i net.modules) k ≡ Some used → ModuleFits laws (inner_scope ports used) used
  used_fits i k used found = inner_fits laws net well counted k used (in_front i k net.modules used found)

  few_front : (i : ℕ) → length (take i net.modules) < 2 ^ 64
  few_front i = let few = few_modules laws net well counted in let front = length_front i net.modules in omega arith
    where
      length_front : (n : ℕ) (xs : List Module) → length (take n xs) ≤ length xs
      length_front zero xs = omega arith
      length_front (suc n) [] = omega arith
      length_front (suc n) (x ∷ xs) = let more = length_front n xs in omega arith

  -- what is known of the cells of a module
  facts : (i : ℕ) (m : Module) → slice_get net.modules i ≡ Some m → (input output : ℕ → List ℕ) (fits : ModuleFits laws (scope_with ports m input output) m)
      (apart : PortsApart ports m input output (ports_some laws (scope_with ports m input output) m fits) fits.inputs [])
      → AllByRecursion (CellFacts laws ports m input output fits apart (take i net.modules)) m.cells
  facts i m found input output fits apart =
      let rules = well.rules i m found in
      all_from (CellFacts laws ports m input output fits apart (take i net.modules)) m.cells (λ k cell at. record {
        exist = all_at (NamesExist (length ports.domains) (take i net.modules) m.widths) m.cells k cell (rules Name).cells at;
        agree = all_at (WidthsAgree (take i net.modules) m.widths) m.cells k cell (rules Width).cells at;
        few = all_at HasFewWords m.cells k cell (rules Limit).words at;
        prints = all_at (Prints laws (scope_with ports m input output) (length m.outputs) fits.names) m.cells k cell fits.cells at;
        drives_it = drives_it m.inputs (length m.widths) m.cells (rules Driver).drivers k cell at;
      })

  pub inner_denotes : (i : ℕ) (m : Module) → slice_get net.modules i ≡ Some m → (k : ℕ) → DenotesModule ports (numbered_as (inner_item ports) 0 (take i net.modules)) (inner_item ports k m) m
  inner_denotes i m found k =
      let fits = inner_fits laws net well counted i m found in
      let wires = fits.few_wires in
      let few_outputs = fits.few_outputs in
      let within = fits.inputs in
      let front = length-take-le m.inputs m.widths fits.inputs in
      let apart : PortsApart ports m input_text output_text (ports_some laws (inner_scope ports m) m fits) fits.inputs [] =
      record {
        domains = hold.domains.differ;
        inputs = subst AreDistinct (flat_numbered (λ (n : List ℕ). n ∷ []) (λ j (width : ℕ). input_text j) (λ j (width : ℕ). input_text j) 0 (take m.inputs m.widths) (λ j width. refl))
            (numbered_distinct 105 (λ j (width : ℕ). input_text j) (λ (n : List ℕ). n ∷ []) (λ j width. inr refl) 0 (take m.inputs m.widths) (omega arith));
        input_tags = λ j less. tag_numbered 105 j (omega arith);
        outputs = subst AreDistinct (flat_numbered (λ (n : List ℕ). n ∷ []) (λ j (w : WireId). output_text j) (λ j (w : WireId). output_text j) 0 m.outputs (λ j w. refl))
            (numbered_distinct 121 (λ j (w : WireId). output_text j) (λ (n : List ℕ). n ∷ []) (λ j w. inr refl) 0 m.outputs (omega arith));
        output_tags = λ j less. tag_numbered 121 j (omega arith);
      } in
      module_denotes laws ports m input_text output_text fits apart (take i net.modules) (few_front i) (used_fits i) (facts i m found input_text output_text fits apart) (module_name k)

  abbrev top_input : ℕ → List ℕ
  top_input k = get_or (map (input_name ports.domains) ports.inputs) k []

  abbrev top_output : ℕ → List ℕ
  top_output k = get_or (map (output_name ports.domains) ports.outputs) k []

  module _ (i : ℕ) (m : Module) (found : slice_get net.modules i ≡ Some m) (last : i + 1 ≡ length net.modules) where
    fit : ModuleFits laws (top_scope ports m) m
    fit = top_fits laws net well counted i m found last

    input_names : numbered_as (λ k (width : ℕ). top_input k) 0 (take m.inputs m.widths) ≡ map (input_name ports.domains) ports.inputs
    input_names =
        let top = (well.rules i m found Name).top last in
        let count = top.inputs in
        let front = length-take-le m.inputs m.widths fit.inputs in
        let names = length-map ports.inputs (input_name ports.domains) in
        looked_up [] (take m.inputs m.widths) (map (input_name ports.domains) ports.inputs) (omega arith)

    output_names : numbered_as (λ k (w : WireId). top_output k) 0 m.outputs ≡ map (output_name ports.domains) ports.outputs
    output_names =
        let top = (well.rules i m found Name).top last in
        let count = top.outputs in
        let names = length-map ports.outputs (output_name ports.domains) in
        looked_up [] m.outputs (map (output_name ports.domains) ports.outputs) (omega arith)

    top_apart : PortsApart ports m top_input top_output (ports_some laws (top_scope ports m) m fit) fit.inputs []
    top_apart =
        let top = (well.rules i m found Name).top last in
        let inputs_count = top.inputs in
        let outputs_count = top.outputs in
        record {
          domains = hold.domains.differ;
          inputs = subst AreDistinct (sym input_names) (ports_distinct 105 ports.domains hold.domains.names hold.domains.differ ports.inputs hold.inputs.0 hold.inputs.1);
          input_tags = λ k less. tags_at 2 (input_name ports.domains) (λ p. refl) ports.inputs k (omega arith);
          outputs = subst AreDistinct (sym output_names) (ports_distinct 111 ports.domains hold.domains.names hold.domains.differ ports.outputs hold.outputs.0 hold.outputs.1);
          output_tags = λ k less. tags_at 1 (output_name ports.domains) (λ p. refl) ports.outputs k (omega arith);
        }

    pub top_denotes : DenotesModule ports (numbered_as (inner_item ports) 0 (take i net.modules)) (top_item ports m) m
    top_denotes = module_denotes laws ports m top_input top_output fit top_apart (take i net.modules) (few_front i) (used_fits i) (facts i m found top_input top_output fit top_apart) top_name

    pub top_inputs : ArePorts (input_name ports.domains) (inputs_of (all_of (top_item ports m).ports)) ports.inputs
    top_inputs =
        let top = (well.rules i m found Name).top last in
        let widths = (well.rules i m found Width).top last in
        let count = top.inputs in
        let within = fit.inputs in
        let lines = inputs_are ports m top_input top_output (ports_some laws (top_scope ports m) m fit) fit.inputs top_name in
        record {
          names = ap (map (λ (l : Line). l.name)) lines ∙ (map_numbered (λ (l : Line). l.name) (input_line ports m top_input top_output) 0 (take m.inputs m.widths) ∙ input_names);
          widths = ap (map (λ (l : Line). width_of l.range)) lines
              ∙ (map_numbered (λ (l : Line). width_of l.range) (input_line ports m top_input top_output) 0 (take m.inputs m.widths)
              ∙ (means_widths 0 top_input (take m.inputs m.widths) (all_take IsWireWidth m.inputs m.widths fit.widths)
              ∙ (ap (λ (n : ℕ). take n m.widths) (sym count) ∙ input_widths ports.inputs m.widths (omega arith) widths.inputs)));
        }

    pub top_outputs : ArePorts (output_name ports.domains) (outputs_of (all_of (top_item ports m).ports)) ports.outputs
    top_outputs =
        let top = (well.rules i m found Name).top last in
        let widths = (well.rules i m found Width).top last in
        let lines = outputs_are ports m top_input top_output (ports_some laws (top_scope ports m) m fit) fit.inputs top_name in
        record {
          names = ap (map (λ (l : Line). l.name)) lines ∙ (map_numbered (λ (l : Line). l.name) (output_line ports m top_input top_output) 0 m.outputs ∙ output_names);
          widths = ap (map (λ (l : Line). width_of l.range)) lines
              ∙ (map_numbered (λ (l : Line). width_of l.range) (output_line ports m top_input top_output) 0 m.outputs
              ∙ output_widths m 0 top_output fit.widths m.outputs ports.outputs top.outputs widths.outputs);
        }
