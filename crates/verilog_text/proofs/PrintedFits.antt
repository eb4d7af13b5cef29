-- What a well formed net prints has its forms.
use Rattle.std.proofs.Common.{◌≡◌, ℕ, zero, suc, ◌+◌, ◌<◌, ◌≤◌, ◌^◌, Bool, List, [], ◌∷◌, length, map, take, get_or, Some, sym, refl, ap, subst, arith}
use Rattle.std.specs.Prelude.{slice_get}
use Rattle.std.specs.List.{AllByRecursion}
use Rattle.std.proofs.lemmas.Option.{slice_get_within}
use Rattle.chw_base.specs.Names.{IsLowerWord, IsUpper}
use Rattle.chw_base.specs.declared.limits.TheConstants.{MODULES}
use Rattle.chw_base.specs.declared.index.WireId.{WireId}
use Rattle.chw_clock.specs.declared.event.Port.{Port}
use Rattle.net_rules.specs.PortsHold.{FitsPort, PortsHold}
use Rattle.net_rules.specs.WellFormed.{HasFewWords, NamesExist, WellFormed, WidthsAgree}
use Rattle.net_rules.specs.declared.well_formed.NetCode.TheVariants.{Driver, Limit, Name, Width}
use Rattle.netlist.specs.Sound.{HasWidth, IsWire, IsWireWidth, width_of_all}
use Rattle.netlist.specs.declared.net.Cell.{Cell}
use Rattle.netlist.specs.declared.net.Cell.TheVariants.{Const, Copy, Join, Cut, Un, Bin, Mux, Reg, Ram, Use}
use Rattle.netlist.specs.declared.net.Module.{Module}
use Rattle.netlist.specs.declared.net.Net.{Net}
use Rattle.verilog_text.specs.Names.{domain_name, input_name, output_name}
use Rattle.verilog_text.specs.Text.{Scope, inner_scope, top_scope, zero_word}
use Rattle.verilog_text.specs.VForms.{HasForm}
use Rattle.verilog_text.specs.VForms.Sort.{name as a_name}
use Rattle.verilog_text.specs.VText.{AreCounted, IsCounted}
use Rattle.verilog_text.proofs.OneNet.{ports_hold}
use Rattle.verilog_text.proofs.OnePorts.{upper_at}
use Rattle.verilog_text.proofs.PrintedCells.{IsSmall, NamesFit, Prints}
use Rattle.verilog_text.proofs.PrintedModules.{ModuleFits}
use Rattle.verilog_text.proofs.PrintedNames.{BitLaws, HasBits, input_form, numbered_form, output_form}

-- what holds of all holds at a place
pub all_at : {A : Type 0} (P : A → Type 0) (xs : List A) (k : ℕ) (x : A) → AllByRecursion P xs → slice_get xs k ≡ Some x → P x
all_at P [] k x all found = absurd (cc)
all_at P (y ∷ xs) zero x all found = let same : y ≡ x = cc in subst P same all.0
all_at P (y ∷ xs) (suc k) x all found = all_at P xs k x all.1 found

-- what holds at each place holds of all
pub all_from : {A : Type 0} (P : A → Type 0) (xs : List A) → ((k : ℕ) (x : A) → slice_get xs k ≡ Some x → P x) → AllByRecursion P xs
all_from P [] each = tt
all_from P (x ∷ xs) each = (each 0 x refl, all_from P xs (λ k y found. each (suc k) y found))

pub all_wider : {A : Type 0} (P Q : A → Type 0) → ((x : A) → P x → Q x) → (xs : List A) → AllByRecursion P xs → AllByRecursion Q xs
all_wider P Q wider [] all = tt
all_wider P Q wider (x ∷ xs) all = (wider x all.0, all_wider P Q wider xs all.1)

pub in_front : {A : Type 0} (n k : ℕ) (xs : List A) (x : A) → slice_get (take n xs) k ≡ Some x → slice_get xs k ≡ Some x
in_front zero k xs x found = absurd (cc)
in_front (suc n) k [] x found = absurd (cc)
in_front (suc n) zero (y ∷ xs) x found = found
in_front (suc n) (suc k) (y ∷ xs) x found = in_front n k xs x found

-- wires that exist have numbers that a machine counts
module _ (widths : List ℕ) (few : length widths < 2 ^ 64) (limits : AllByRecursion IsWireWidth widths) where
  small : (w : WireId) → IsWire widths w → IsSmall w
  small w is = omega arith

  all_small : (ws : List WireId) → AllByRecursion (IsWire widths) ws → AllByRecursion IsSmall ws
  all_small ws all = all_wider (IsWire widths) IsSmall small ws all

  has_bits : (w : WireId) (bits : List Bool) → HasWidth widths w (length bits) → HasBits bits
  has_bits w bits wide =
      let within = all_at IsWireWidth widths w.number (length bits) limits wide in
      let top = within.1 in (within.0, omega arith)

  words_have_bits : (n : ℕ) → IsWireWidth n → (words : List (List Bool)) → AllByRecursion (λ (word : List Bool). length word ≡ n) words → AllByRecursion HasBits words
  words_have_bits n within words all =
      all_wider (λ (word : List Bool). length word ≡ n) HasBits
      (λ word same. let some = within.0 in let top = within.1 in (omega (arith, same), omega (arith, same))) words all

  parts_some : (w : WireId) (parts : List WireId) → HasWidth widths w (width_of_all widths parts) → 1 ≤ length parts
  parts_some w [] wide = let within = all_at IsWireWidth widths w.number 0 limits wide in absurd (omega (arith, within.0))
  parts_some w (a ∷ parts) wide = omega arith

  module _ (laws : BitLaws) (scope : Scope) (n : ℕ) (fit : NamesFit scope n) (earlier : List Module)
      (few_modules : length earlier < 2 ^ 64) (used_counted : (k : ℕ) (used : Module) → slice_get earlier k ≡ Some used → (used.inputs < 2 ^ 64) × (length used.outputs < 2 ^ 64)) where
    cell_prints : (cell : Cell) → NamesExist (length scope.domains) earlier widths cell → WidthsAgree earlier widths cell → HasFewWords cell → Prints laws scope n fit cell
    cell_prints (Const w bits) exist agree few_words = (small w exist.driven.0, has_bits w bits agree)
    cell_prints (Copy w a) exist agree few_words = (small w exist.driven.0, small a exist.read.0)
    cell_prints (Join w parts) exist agree few_words = (small w exist.driven.0, parts_some w parts agree.1, all_small parts exist.read)
    cell_prints (Cut w a high low) exist agree few_words =
        let order = agree.0 in
        let wide = agree.2 in
        let below = wide.1 in
        let within = (all_at IsWireWidth widths a.number wide.0 limits wide.2).1 in
        (small w exist.driven.0, small a exist.read.0, omega arith, omega arith)
    cell_prints (Un w op a) exist agree few_words = (small w exist.driven.0, small a exist.read.0)
    cell_prints (Bin w op a b) exist agree few_words = (small w exist.driven.0, small a exist.read.0, small b exist.read.1.0)
    cell_prints (Mux w c a b) exist agree few_words = (small w exist.driven.0, small c exist.read.0, small a exist.read.1.0, small b exist.read.1.1.0)
    cell_prints (Reg w domain initial a) exist agree few_words = (small w exist.driven.0, exist.part, has_bits w initial agree.0, small a exist.read.0)
    cell_prints (Ram w domain words inputs) exist agree few_words =
        let within = all_at IsWireWidth widths w.number agree.width limits agree.shown in
        let bits = words_have_bits agree.width within words agree.each_word in (
          small w exist.driven.0,
          exist.part,
          (few_words.0, few_words.1, bits),
          zero_bits words few_words.0 bits,
          small inputs.read exist.read.0,
          small inputs.enable exist.read.1.0,
          small inputs.place exist.read.1.1.0,
          small inputs.value exist.read.1.1.1.0,
        )
      where
        zero_bits : (words : List (List Bool)) → 1 ≤ length words → AllByRecursion HasBits words → HasBits (zero_word words)
        zero_bits [] some all = absurd (omega arith)
        zero_bits (word ∷ words) some all =
            let long = laws.long (length word) 0 in
            let least = all.0.0 in
            let most = all.0.1 in
            (omega arith, omega arith)
    cell_prints (Use m reads drives) exist agree few_words =
        let part = exist.part in
        let place = slice_get_within earlier m.number part.used part.found in
        let counted = used_counted m.number part.used part.found in
        let inputs = part.inputs in
        let outputs = part.outputs in
        let few_inputs = counted.0 in
        let few_outputs = counted.1 in
        (omega arith, omega arith, omega arith, all_small reads exist.read, all_small drives exist.driven)

    pub all_print : (cells : List Cell) → AllByRecursion (NamesExist (length scope.domains) earlier widths) cells → AllByRecursion (WidthsAgree earlier widths) cells → AllByRecursion HasFewWords cells
        → AllByRecursion (Prints laws scope n fit) cells
    all_print [] exist agree few_words = tt
    all_print (cell ∷ cells) exist agree few_words = (cell_prints cell exist.0 agree.0 few_words.0, all_print cells exist.1 agree.1 few_words.1)

-- the names of the ports are names
ports_form : (name_of_port : List (List ℕ) → Port → List ℕ) → ((d : List (List ℕ)) (p : Port) → IsUpper (domain_name d p.dom) → IsLowerWord p.name → HasForm a_name (name_of_port d p))
    → (domains : List (List ℕ)) → AllByRecursion IsUpper domains → (ports : List Port) → AllByRecursion (FitsPort (length domains)) ports
    → (k : ℕ) → k < length ports → HasForm a_name (get_or (map (name_of_port domains) ports) k [])
ports_form name_of_port forms domains uppers [] fit k within = absurd (omega arith)
ports_form name_of_port forms domains uppers (p ∷ ports) fit zero within = forms domains p (upper_at domains p.dom.number uppers fit.0.0) fit.0.1
ports_form name_of_port forms domains uppers (p ∷ ports) fit (suc k) within = ports_form name_of_port forms domains uppers ports fit.1 k (omega arith)

module _ (laws : BitLaws) (net : Net) (well : WellFormed net) (counted : AreCounted net) where
  hold : PortsHold net.ports
  hold = ports_hold net well

  pub few_modules : length net.modules ≤ MODULES
  few_modules = at net.modules refl
    where
      at : (modules : List Module) → net.modules ≡ modules → length net.modules ≤ MODULES
      at [] is = omega (arith, ap length is)
      at (m ∷ modules) is = (well.rules 0 m (ap (λ (l : List Module). slice_get l 0) is) Limit).modules refl

  used_counted : (i k : ℕ) (used : Module) → slice_get (take i net.modules) k ≡ Some used → (used.inputs < 2 ^ 64) × (length used.outputs < 2 ^ 64)
  used_counted i k used found =
      let whole = in_front i k net.modules used found in
      let count = all_at IsCounted net.modules k used counted whole in
      let drivers = well.rules k used whole Driver in
      let inputs = drivers.inputs in
      let wires = count.wires in
      (omega arith, count.outputs)

  -- a module fits where its names do
  fits_with : (i : ℕ) (m : Module) → slice_get net.modules i ≡ Some m → (scope : Scope) → scope.domains ≡ net.ports.domains → scope.inputs ≡ m.inputs → NamesFit scope (length m.outputs)
      → ModuleFits laws scope m
  fits_with i m found scope same same_inputs fit =
      let rules = well.rules i m found in
      let exist = rules Name in
      let agree = rules Width in
      let drivers = rules Driver in
      let limits = rules Limit in
      let count = all_at IsCounted net.modules i m counted found in
      let few = few_modules in
      let front = length_front i net.modules in
      record {
        names = fit;
        same_inputs = same_inputs;
        inputs = drivers.inputs;
        widths = limits.widths;
        few_wires = count.wires;
        few_cells = count.cells;
        few_outputs = count.outputs;
        cells = all_print m.widths count.wires limits.widths laws scope (length m.outputs) fit (take i net.modules) (omega arith) (used_counted i) m.cells
            (subst (λ (d : List (List ℕ)). AllByRecursion (NamesExist (length d) (take i net.modules) m.widths) m.cells) (sym same) exist.cells) agree.cells limits.words;
        outputs = exist.outputs;
      }
    where
      length_front : (n : ℕ) (xs : List Module) → length (take n xs) ≤ length xs
      length_front zero xs = omega arith
      length_front (suc n) [] = omega arith
      length_front (suc n) (x ∷ xs) = let more = length_front n xs in omega arith

  pub inner_fits : (i : ℕ) (m : Module) → slice_get net.modules i ≡ Some m → ModuleFits laws (inner_scope net.ports m) m
  inner_fits i m found =
      let count = all_at IsCounted net.modules i m counted found in
      let drivers = well.rules i m found Driver in
      let inputs = drivers.inputs in
      let wires = count.wires in
      let outputs = count.outputs in
      fits_with i m found (inner_scope net.ports m) refl refl (record {
        domains = hold.domains.names;
        some = hold.domains.some;
        input = λ k within. numbered_form 105 k refl (omega arith);
        output = λ k within. numbered_form 121 k refl (omega arith);
      })

  pub top_fits : (i : ℕ) (m : Module) → slice_get net.modules i ≡ Some m → i + 1 ≡ length net.modules → ModuleFits laws (top_scope net.ports m) m
  top_fits i m found last =
      let top = (well.rules i m found Name).top last in
      let inputs = top.inputs in
      let outputs = top.outputs in
      fits_with i m found (top_scope net.ports m) refl refl (record {
        domains = hold.domains.names;
        some = hold.domains.some;
        input = λ k within. ports_form input_name (λ d p upper lower. input_form (domain_name d p.dom) p.name upper lower) net.ports.domains hold.domains.names net.ports.inputs hold.inputs.0 k (omega arith);
        output = λ k within. ports_form output_name (λ d p upper lower. output_form (domain_name d p.dom) p.name upper lower) net.ports.domains hold.domains.names net.ports.outputs hold.outputs.0 k (omega arith);
      })
