-- The printed text of a module splits into the tokens of its item.
use Rattle.std.proofs.Common.{◌≡◌, ℕ, zero, suc, ◌+◌, ◌-◌, ◌<◌, ◌≤◌, ◌^◌, Bool, true, false, cond, eqb, List, [], ◌∷◌, ◌++◌, length, map, take, drop, get_or, Option, Some, None, sym, refl, ap, ◌∙◌, subst, append_assoc, arith}
use Rattle.std.specs.Prelude.{codes}
use Rattle.std.specs.List.{concat, flat_map, AllByRecursion}
use Rattle.std.proofs.lemmas.Bool.{eq-eqb, ne_eqb}
use Rattle.std.proofs.lemmas.Grind.{flat_map-append}
use Rattle.std.proofs.lemmas.List.{append-nil, length-map, length-append, length-take-le}
use Rattle.chw_base.specs.declared.index.WireId.{WireId}
use Rattle.chw_clock.specs.declared.event.Ports.{Ports}
use Rattle.netlist.specs.NetValue.{zeros}
use Rattle.netlist.specs.Sound.{IsWire, IsWireWidth}
use Rattle.netlist.specs.Wires.{driver, drives}
use Rattle.netlist.specs.declared.net.Cell.{Cell}
use Rattle.netlist.specs.declared.net.Cell.TheVariants.{Reg, Ram}
use Rattle.netlist.specs.declared.net.Module.{Module}
use Rattle.verilog_text.specs.Grammar.{commas as comma_tokens, item_tokens, keyword, memory_tokens, module_tokens, name, port_tokens, sign}
use Rattle.verilog_text.specs.Names.{memory_text, module_name, top_name, wire_text}
use Rattle.verilog_text.specs.Source.{Item, ModuleItem}
use Rattle.verilog_text.specs.Source.Item.{register_item, wire_item}
use Rattle.verilog_text.specs.Source.PortItem.{signal_port}
use Rattle.verilog_text.specs.Text.{Scope, cell_line, clock_item, clock_names, declaration, declarations, header_items, inner_scope, input_item, memory_declaration, module_text, numbered, output_item, output_lines, register_declaration, text_of_module, top_scope, width_in, wire_declaration}
use Rattle.verilog_text.specs.Text.{assign_line, literal_text, name_in}
use Rattle.verilog_text.specs.VForms.{HasForm, Token}
use Rattle.verilog_text.specs.VForms.Sort.{name as a_name}
use Rattle.verilog_text.proofs.Chunks.{Chunk, Reads, behind_free, blank, fixed, free, joined, mark, nought, reads_end, with_tokens, word}
use Rattle.verilog_text.proofs.Longest.{is_token_byte}
use Rattle.verilog_text.proofs.Pointwise.{Each, commas_chunk, concat_chunk, each_append, each_map, each_numbered}
use Rattle.verilog_text.proofs.PrintedCells.{NamesFit, Prints, assign_chunk, cell_chunk, clock_names_form, clock_names_some, line_chunk, literal_chunk, name_chunk, name_form, number_chunk, range_chunk}
use Rattle.verilog_text.proofs.PrintedNames.{BitLaws, HasBits, numbered_form, top_form}
use Rattle.verilog_text.proofs.PrintedSource.{cell_item, declared_item, declared_items, inner_item, input_of, items_of, line_of, memory_of, module_item, numbered_as, output_of, ports_of, several, shown_item, top_item}

pub all_take : {A : Type 0} (P : A → Type 0) (n : ℕ) (xs : List A) → AllByRecursion P xs → AllByRecursion P (take n xs)
all_take P zero xs all = tt
all_take P (suc n) [] all = tt
all_take P (suc n) (x ∷ xs) all = (all.0, all_take P n xs all.1)

pub all_drop : {A : Type 0} (P : A → Type 0) (n : ℕ) (xs : List A) → AllByRecursion P xs → AllByRecursion P (drop n xs)
all_drop P zero xs all = all
all_drop P (suc n) [] all = tt
all_drop P (suc n) (x ∷ xs) all = all_drop P n xs all.1

pub length_drop : {A : Type 0} (n : ℕ) (xs : List A) → n ≤ length xs → n + length (drop n xs) ≡ length xs
length_drop zero xs within = omega arith
length_drop (suc n) [] within = absurd (omega arith)
length_drop (suc n) (x ∷ xs) within = let more = length_drop n xs (omega arith) in omega arith

-- the width at a place is a wire's
width_at : (widths : List ℕ) (k : ℕ) → AllByRecursion IsWireWidth widths → k < length widths → IsWireWidth (get_or widths k 0)
width_at [] k all within = absurd (omega arith)
width_at (n ∷ widths) zero all within = all.0
width_at (n ∷ widths) (suc k) all within = width_at widths k all.1 (omega arith)

-- what a module prints has its forms, and its numbers are what a machine counts
pub record ModuleFits (laws : BitLaws) (scope : Scope) (m : Module) : Type 0 where
  pub names : NamesFit scope (length m.outputs)
  pub same_inputs : scope.inputs ≡ m.inputs
  pub inputs : m.inputs ≤ length m.widths
  pub widths : AllByRecursion IsWireWidth m.widths
  pub few_wires : length m.widths < 2 ^ 64
  pub few_cells : length m.cells < 2 ^ 64
  pub few_outputs : length m.outputs < 2 ^ 64
  pub cells : AllByRecursion (Prints laws scope (length m.outputs) names) m.cells
  pub outputs : AllByRecursion (IsWire m.widths) m.outputs

-- wire [7:0] w;
wire_declaration_chunk : (k width : ℕ) → k < 2 ^ 64 → width < 2 ^ 64 → Chunk (wire_declaration k width) (item_tokens (wire_item (line_of width (wire_text k)))) free
wire_declaration_chunk k width small width_small =
    line_chunk (joined (behind_free (behind_free (behind_free (fixed (word (codes "wire") ∷ blank 32 ∷ []) refl) (range_chunk width width_small)) (fixed (blank 32 ∷ []) refl))
    (name_chunk (wire_text k) (numbered_form 119 k refl small))) (λ rest ok. refl) (fixed (mark (codes ";") ∷ []) refl)) refl

-- reg [7:0] w = 8'h00;
register_chunk : (k width : ℕ) (initial : List Bool) → k < 2 ^ 64 → width < 2 ^ 64 → HasBits initial
    → Chunk (register_declaration k width initial) (item_tokens (register_item (line_of width (wire_text k)) (literal_text initial) None)) free
register_chunk k width initial small width_small has =
    line_chunk (joined (behind_free (joined (behind_free (behind_free (behind_free (fixed (word (codes "reg") ∷ blank 32 ∷ []) refl) (range_chunk width width_small)) (fixed (blank 32 ∷ []) refl))
    (name_chunk (wire_text k) (numbered_form 119 k refl small))) (λ rest ok. refl) (fixed (blank 32 ∷ mark (codes "=") ∷ blank 32 ∷ []) refl)) (literal_chunk initial has))
    (λ rest ok. refl) (fixed (mark (codes ";") ∷ []) refl)) refl

-- reg [7:0] r [0:4];
memory_declaration_chunk : (k width count : ℕ) → k < 2 ^ 64 → width < 2 ^ 64 → count < 2 ^ 64 → Chunk (memory_declaration k width count) (memory_tokens (memory_of k width count)) free
memory_declaration_chunk k width count small width_small count_small =
    line_chunk (joined (behind_free (joined (behind_free (behind_free (behind_free (fixed (word (codes "reg") ∷ blank 32 ∷ []) refl) (range_chunk width width_small)) (fixed (blank 32 ∷ []) refl))
    (name_chunk (memory_text k) (numbered_form 114 k refl small))) (λ rest ok. refl) (fixed (blank 32 ∷ mark (codes "[") ∷ nought ∷ mark (codes ":") ∷ []) refl))
    (number_chunk (count - 1) (omega arith))) (λ rest ok. refl) (fixed (mark (codes "]") ∷ mark (codes ";") ∷ []) refl)) refl

module _ (laws : BitLaws) (scope : Scope) (m : Module) (fits : ModuleFits laws scope m) where
  abbrev PrintsHere : Cell → Type 0
  PrintsHere cell = Prints laws scope (length m.outputs) fits.names cell

  abbrev Known : Option Cell → Type 0
  Known None = Unit {0}
  Known (Some cell) = PrintsHere cell

  driver_known : (cells : List Cell) (k : ℕ) → AllByRecursion PrintsHere cells → Known (driver cells k)
  driver_known [] k all = tt
  driver_known (cell ∷ cells) k all = by_case (drives k cell) (driver_known cells k all.1)
    where
      by_case : (b : Bool) → Known (driver cells k) → Known (cond b (Some cell) (driver cells k))
      by_case true later = all.0
      by_case false later = later

  declared_chunk : (o : Option Cell) → Known o → (k width : ℕ) → k < 2 ^ 64 → IsWireWidth width → Chunk (declaration o k width) (item_tokens (declared_item o k width)) free
  declared_chunk (Some (Reg w domain initial a)) known k width small has = let top = has.1 in register_chunk k width initial small (omega arith) known.2
  declared_chunk (Some (Ram w domain words inputs)) known k width small has =
      let top = has.1 in
      let some = has.0 in
      let long = laws.long width 0 in
      let few = known.2.1 in
      behind_free (register_chunk k width (zeros width) small (omega arith) (omega arith, omega arith)) (memory_declaration_chunk k width (length words) small (omega arith) (omega arith))
  declared_chunk _ known k width small has = let top = has.1 in wire_declaration_chunk k width small (omega arith)

  declarations_chunk : Chunk (declarations m) (flat_map item_tokens (declared_items m)) free
  declarations_chunk =
      let count = length_drop m.inputs m.widths fits.inputs in
      let few = fits.few_wires in
      concat_chunk item_tokens (numbered (λ k width. declaration (driver m.cells k) k width) m.inputs (drop m.inputs m.widths)) (declared_items m)
      (each_numbered item_tokens free IsWireWidth (2 ^ 64) (λ k width. declaration (driver m.cells k) k width) (λ k width. declared_item (driver m.cells k) k width)
      (λ k width small has. declared_chunk (driver m.cells k) (driver_known m.cells k fits.cells) k width small has) m.inputs (drop m.inputs m.widths) (omega arith)
      (all_drop IsWireWidth m.inputs m.widths fits.widths))

  cells_chunk : Chunk (concat (numbered (cell_line scope) 0 m.cells)) (flat_map item_tokens (numbered_as (cell_item scope) 0 m.cells)) free
  cells_chunk =
      let few = fits.few_cells in
      concat_chunk item_tokens (numbered (cell_line scope) 0 m.cells) (numbered_as (cell_item scope) 0 m.cells)
      (each_numbered item_tokens free PrintsHere (2 ^ 64) (cell_line scope) (cell_item scope)
      (λ k cell small is. cell_chunk laws scope (length m.outputs) fits.names k cell small is) 0 m.cells (omega arith) fits.cells)

  shown_chunk : Chunk (output_lines scope m.outputs) (flat_map item_tokens (numbered_as (shown_item scope) 0 m.outputs)) free
  shown_chunk =
      let few = fits.few_wires in
      concat_chunk item_tokens (numbered (λ k w. assign_line (scope.output k) (name_in scope w)) 0 m.outputs) (numbered_as (shown_item scope) 0 m.outputs)
      (each_numbered item_tokens free (IsWire m.widths) (length m.outputs) (λ k w. assign_line (scope.output k) (name_in scope w)) (shown_item scope)
      (λ k w within is. assign_chunk (scope.output k) (fits.names.output k within) (name_chunk (name_in scope w) (name_form scope (length m.outputs) fits.names w (omega arith))) refl)
      0 m.outputs (omega arith) fits.outputs)

  signal_chunk : (n : List ℕ) → HasForm a_name n → Chunk (clock_item n) (port_tokens (signal_port n)) is_token_byte
  signal_chunk n form = behind_free (fixed (word (codes "input") ∷ blank 32 ∷ []) refl) (name_chunk n form)

  input_chunk : (k width : ℕ) → k < scope.inputs → IsWireWidth width → Chunk (input_item width (scope.input k)) (port_tokens (input_of scope k width)) is_token_byte
  input_chunk k width within has =
      let top = has.1 in
      behind_free (behind_free (behind_free (fixed (word (codes "input") ∷ blank 32 ∷ []) refl) (range_chunk width (omega arith))) (fixed (blank 32 ∷ []) refl))
      (name_chunk (scope.input k) (fits.names.input k within))

  output_chunk : (k : ℕ) (w : WireId) → k < length m.outputs → IsWire m.widths w → Chunk (output_item (width_in m w) (scope.output k)) (port_tokens (output_of scope m k w)) is_token_byte
  output_chunk k w within is =
      let top = (width_at m.widths w.number fits.widths is).1 in
      behind_free (behind_free (behind_free (fixed (word (codes "output") ∷ blank 32 ∷ []) refl) (range_chunk (width_in m w) (omega arith))) (fixed (blank 32 ∷ []) refl))
      (name_chunk (scope.output k) (fits.names.output k within))

  ports_each : Each port_tokens is_token_byte (header_items scope m) (ports_of scope m)
  ports_each =
      let clocks : List (List ℕ) = clock_names scope.resets 0 scope.domains in
      let count = length-take-le m.inputs m.widths fits.inputs in
      let same = fits.same_inputs in
      each_append port_tokens is_token_byte (map clock_item clocks) _ (map signal_port clocks) _
      (each_map port_tokens is_token_byte (HasForm a_name) clock_item signal_port signal_chunk clocks (clock_names_form scope.resets 0 scope.domains fits.names.domains))
      (each_append port_tokens is_token_byte (numbered (λ k width. input_item width (scope.input k)) 0 (take m.inputs m.widths)) _ (numbered_as (input_of scope) 0 (take m.inputs m.widths)) _
      (each_numbered port_tokens is_token_byte IsWireWidth scope.inputs (λ k width. input_item width (scope.input k)) (input_of scope) input_chunk 0 (take m.inputs m.widths) (omega arith)
      (all_take IsWireWidth m.inputs m.widths fits.widths))
      (each_numbered port_tokens is_token_byte (IsWire m.widths) (length m.outputs) (λ k w. output_item (width_in m w) (scope.output k)) (output_of scope m) output_chunk 0 m.outputs (omega arith) fits.outputs))

  pub ports_some : 1 ≤ length (ports_of scope m)
  ports_some =
      let clocks : List (List ℕ) = clock_names scope.resets 0 scope.domains in
      omega (
        arith,
        clock_names_some scope.resets 0 scope.domains fits.names.some,
        length-map clocks signal_port,
        length-append (map signal_port clocks)
            (numbered_as (input_of scope) 0 (take m.inputs m.widths) ++ numbered_as (output_of scope m) 0 m.outputs),
      )

  pub module_chunk : (n : List ℕ) → HasForm a_name n → Chunk (module_text scope n m) (module_tokens (module_item scope n m)) free
  module_chunk n form =
      let declared : List Item = declared_items m in
      let cells : List Item = numbered_as (cell_item scope) 0 m.cells in
      let shown : List Item = numbered_as (shown_item scope) 0 m.outputs in
      let last : List Token = keyword (codes "endmodule") ∷ [] in
      let items : flat_map item_tokens declared ++ (flat_map item_tokens cells ++ (flat_map item_tokens shown ++ last)) ≡ flat_map item_tokens (items_of scope m) ++ last =
      ap (λ (l : List Token). flat_map item_tokens declared ++ l) (sym (append_assoc (flat_map item_tokens cells) (flat_map item_tokens shown) last) ∙ ap (λ (l : List Token). l ++ last) (sym (flat_map-append item_tokens cells shown)))
      ∙ (sym (append_assoc (flat_map item_tokens declared) (flat_map item_tokens (cells ++ shown)) last) ∙ ap (λ (l : List Token). l ++ last) (sym (flat_map-append item_tokens declared (cells ++ shown)))) in
      let ports : List Token = comma_tokens port_tokens (several (signal_port []) (ports_of scope m)).first (several (signal_port []) (ports_of scope m)).others in
      with_tokens (ap (λ (l : List Token). keyword (codes "module") ∷ name n ∷ sign (codes "(") ∷ (ports ++ sign (codes ")") ∷ sign (codes ";") ∷ l)) items)
      (behind_free (fixed (word (codes "module") ∷ blank 32 ∷ []) refl) (joined (name_chunk n form) (λ rest ok. refl)
      (behind_free (fixed (blank 32 ∷ mark (codes "(") ∷ []) refl)
      (joined (commas_chunk port_tokens is_token_byte refl (signal_port []) (header_items scope m) (ports_of scope m) ports_some ports_each) (λ rest ok. refl)
      (behind_free (fixed (mark (codes ")") ∷ mark (codes ";") ∷ blank 10 ∷ []) refl)
      (behind_free declarations_chunk (behind_free cells_chunk (behind_free shown_chunk (fixed (word (codes "endmodule") ∷ blank 10 ∷ []) refl)))))))))

-- modules before the last one, from a number on, and the last one
pub record NetFits (laws : BitLaws) (ports : Ports) (modules : List Module) (top : Module) : Type 0 where
  pub inner : AllByRecursion (λ (m : Module). ModuleFits laws (inner_scope ports m) m) modules
  pub last : ModuleFits laws (top_scope ports top) top
  pub few : length modules < 2 ^ 64

modules_each : (laws : BitLaws) (ports : Ports) (count k : ℕ) (modules : List Module) (top : Module) → k + length modules + 1 ≡ count → count ≤ 2 ^ 64
    → AllByRecursion (λ (m : Module). ModuleFits laws (inner_scope ports m) m) modules → ModuleFits laws (top_scope ports top) top
    → Each module_tokens free (numbered (text_of_module ports count) k (modules ++ top ∷ [])) (numbered_as (inner_item ports) k modules ++ top_item ports top ∷ [])
modules_each laws ports count k [] top counted small inner last =
    let is_last : eqb (k + 1) count ≡ true = eq-eqb (k + 1) count (omega arith) in (
      subst (λ (b : Bool). Chunk (cond b (module_text (top_scope ports top) top_name top) (module_text (inner_scope ports top) (module_name k) top)) (module_tokens (top_item ports top)) free)
          (sym is_last) (module_chunk laws (top_scope ports top) top last top_name top_form),
      tt,
    )
modules_each laws ports count k (m ∷ modules) top counted small inner last =
    let is_inner : eqb (k + 1) count ≡ false = ne_eqb (k + 1) count (λ same. omega arith) in (
      subst (λ (b : Bool). Chunk (cond b (module_text (top_scope ports m) top_name m) (module_text (inner_scope ports m) (module_name k) m)) (module_tokens (inner_item ports k m)) free)
          (sym is_inner) (module_chunk laws (inner_scope ports m) m inner.0 (module_name k) (numbered_form 109 k refl (omega arith))),
      modules_each laws ports count (k + 1) modules top (omega arith) small inner.1 last,
    )

-- the printed text splits into the tokens of the source
pub net_reads : (laws : BitLaws) (ports : Ports) (modules : List Module) (top : Module) → NetFits laws ports modules top
    → Reads (concat (numbered (text_of_module ports (length (modules ++ top ∷ []))) 0 (modules ++ top ∷ [])))
    (flat_map module_tokens (numbered_as (inner_item ports) 0 modules ++ top_item ports top ∷ []))
net_reads laws ports modules top fits =
    let count : ℕ = length (modules ++ top ∷ []) in
    let counted : count ≡ length modules + 1 = length-append modules (top ∷ []) in
    let few = fits.few in
    let items : List ModuleItem = numbered_as (inner_item ports) 0 modules ++ top_item ports top ∷ [] in
    let texts : List (List ℕ) = numbered (text_of_module ports count) 0 (modules ++ top ∷ []) in
    let chunk = concat_chunk module_tokens texts items (modules_each laws ports count 0 modules top (omega arith) (omega arith) fits.inner fits.last) in
    subst (λ (t : List ℕ). Reads t (flat_map module_tokens items)) (append-nil (concat texts))
    (subst (Reads (concat texts ++ [])) (append-nil (flat_map module_tokens items)) (chunk.reads [] [] tt reads_end))
