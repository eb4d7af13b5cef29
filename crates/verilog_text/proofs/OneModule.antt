-- A module of a source denotes at most one module of a net.
use Rattle.std.proofs.Common.{◌≡◌, ℕ, suc, ◌+◌, Bool, true, List, [], ◌∷◌, ◌++◌, length, map, Option, Some, None, sym, refl, ap, ◌∙◌, subst, append_assoc, arith}
use Rattle.std.specs.Prelude.{slice_get, option_map, take, drop}
use Rattle.std.specs.List.{flat_map}
use Rattle.std.specs.Str.Parse.{digits_value}
use Rattle.std.proofs.lemmas.List.{append_cancel_left, take_at, drop_at, map-append}
use Rattle.std.proofs.lemmas.Option.{same_Some}
use Rattle.chw_base.specs.Names.{is_digit}
use Rattle.chw_base.specs.declared.index.DomId.{DomId}
use Rattle.chw_base.specs.declared.index.ModId.{ModId}
use Rattle.chw_base.specs.declared.index.WireId.{WireId}
use Rattle.chw_bits.specs.Bits.{number_of}
use Rattle.chw_clock.specs.declared.event.Ports.{Ports}
use Rattle.name_tables.specs.Names.{is_among}
use Rattle.netlist.specs.declared.net.Cell.{Cell}
use Rattle.netlist.specs.declared.net.Cell.TheVariants.{Const, Copy, Join, Cut, Un, Bin, Mux, Reg, Ram, Use}
use Rattle.netlist.specs.declared.net.Module.{Module}
use Rattle.netlist.specs.declared.net.RamIn.{RamIn}
use Rattle.verilog_text.specs.Declared.{AreNamesOf, Declared, IsLiteralOf, IsNameOf, Kind, MeansBits, declared_by, input_wires, inputs_of, name_of, other_names, outputs_of, signals_of, value, wires_of}
use Rattle.verilog_text.specs.Declared.Kind.{a_register}
use Rattle.verilog_text.specs.Denotes.{AreWords, DenoteModules, DenotesModule, IsClockOf, IsRam, IsRegister, IsUse, ItemIs, ItemsAre, Part, RightIs, Scene, assigned_to, cells_of, scene_of}
use Rattle.verilog_text.specs.Denotes.ItemIs.{assigns, declares, keeps, moves, remembers, shows, uses}
use Rattle.verilog_text.specs.Denotes.Part.{a_cell, an_output}
use Rattle.verilog_text.specs.Denotes.RightIs.{is_binary, is_choice, is_constant, is_copy, is_cut, is_join, is_unary}
use Rattle.verilog_text.specs.Source.{Edge, FirstWord, Item, Line, ModuleItem, RamItem, Right, UseItem, all_of}
use Rattle.verilog_text.proofs.Firsts.{number_digits}
use Rattle.verilog_text.proofs.Places.{among_left, apart, distinct_right, placed_among}
use Rattle.verilog_text.proofs.Runs.{same_run}

-- a name is that of one wire
pub same_wire : (wires : List Declared) (name : List ℕ) (a b : WireId) → IsNameOf wires name a → IsNameOf wires name b → a ≡ b
same_wire wires name a b first second =
    let numbers : a.number ≡ b.number = same_Some _ _ (sym first ∙ second) in
    λ i. record { number = numbers i }

same_wires : (wires : List Declared) (names : List (List ℕ)) (a b : List WireId) → AreNamesOf wires names a → AreNamesOf wires names b → a ≡ b
same_wires wires [] [] [] first second = refl
same_wires wires [] [] (y ∷ b) first second = absurd second
same_wires wires [] (x ∷ a) b first second = absurd first
same_wires wires (name ∷ names) [] b first second = absurd first
same_wires wires (name ∷ names) (x ∷ a) [] first second = absurd second
same_wires wires (name ∷ names) (x ∷ a) (y ∷ b) first second =
    let head = same_wire wires name x y first.0 second.0 in
    let tail = same_wires wires names a b first.1 second.1 in
    λ i. head i ∷ tail i

-- a literal has one size and one number
pub same_literal : (text : List ℕ) (size number other_size other_number : ℕ) → IsLiteralOf text size number → IsLiteralOf text other_size other_number → (size ≡ other_size) × (number ≡ other_number)
same_literal text size number other_size other_number a b =
    let split : b.size_digits ++ 39 ∷ 104 ∷ b.digits ≡ a.size_digits ++ 39 ∷ 104 ∷ a.digits = sym b.parts.bytes_are ∙ a.parts.bytes_are in
    let parts = same_run is_digit a.size_digits (39 ∷ 104 ∷ a.digits) b.size_digits (39 ∷ 104 ∷ b.digits)
    (number_digits a.size_digits a.parts.size_is) refl (number_digits b.size_digits b.parts.size_is) refl split in
    let behind : 39 ∷ 104 ∷ b.digits ≡ 39 ∷ 104 ∷ a.digits = parts.1 in
    let digits : b.digits ≡ a.digits = cc in
    (sym a.size_is ∙ ap value (sym parts.0) ∙ b.size_is, sym a.number_is ∙ ap (digits_value 16) (sym digits) ∙ b.number_is)

-- bits of one length that mean one number are the same
abbrev pub SameBits : Type 0
SameBits = (xs ys : List Bool) → length xs ≡ length ys → number_of xs ≡ number_of ys → xs ≡ ys

module _ (law : SameBits) where
  pub same_meaning : (text : List ℕ) (a b : List Bool) → MeansBits text a → MeansBits text b → a ≡ b
  same_meaning text a b first second =
      let parts = same_literal text (length a) (number_of a) (length b) (number_of b) first second in
      law a b parts.0 parts.1

  -- a right side is that of one cell
  same_right : (wires : List Declared) (w : WireId) {right : Right} {a b : Cell} → RightIs wires w right a → RightIs wires w right b → a ≡ b
  same_right wires w (is_constant text x first) (is_constant _ y second) = ap (Const w) (same_meaning text x y first second)
  same_right wires w (is_copy name x first) (is_copy _ y second) = ap (Copy w) (same_wire wires name x y first second)
  same_right wires w (is_join names x first) (is_join _ y second) = ap (Join w) (same_wires wires (all_of names) x y first second)
  same_right wires w (is_cut name range x first) (is_cut _ _ y second) =
      ap (λ (a : WireId). Cut w a (value range.from) (value range.to)) (same_wire wires name x y first second)
  same_right wires w (is_unary op name x first) (is_unary _ _ y second) = ap (Un w op) (same_wire wires name x y first second)
  same_right wires w (is_binary op left right x y first second) (is_binary _ _ _ v z third fourth) =
      let lefts = same_wire wires left x v first third in
      let rights = same_wire wires right y z second fourth in
      λ i. Bin w op (lefts i) (rights i)
  same_right wires w (is_choice c a b x y z first second third) (is_choice _ _ _ u v t fourth fifth sixth) =
      let conditions = same_wire wires c x u first fourth in
      let lefts = same_wire wires a y v second fifth in
      let rights = same_wire wires b z t third sixth in
      λ i. Mux w (conditions i) (lefts i) (rights i)

  same_domain : (ports : Ports) (clock : List ℕ) (a b : DomId) → IsClockOf ports clock a → IsClockOf ports clock b → a ≡ b
  same_domain ports clock a b first second =
      let numbers : a.number ≡ b.number = same_Some _ _ (sym first ∙ second) in
      λ i. record { number = numbers i }

  same_register : (scene : Scene) (wires : List Declared) (edge : Edge) (w v : WireId) (domain other : DomId) (initial more : List Bool) (a b : WireId)
      → IsRegister scene wires edge w domain initial a → IsRegister scene wires edge v other more b → Reg w domain initial a ≡ Reg v other more b
  same_register scene wires edge w v domain other initial more a b first second =
      let registers = same_wire wires edge.register w v first.register second.register in
      let domains = same_domain scene.ports edge.clock domain other first.clock second.clock in
      let kinds : Some (a_kind first.literal) ≡ Some (a_kind second.literal) =
      sym first.declared ∙ ap (λ (x : WireId). kind_at x) registers ∙ second.declared in
      let literals : first.literal ≡ second.literal = cc in
      let bits = same_meaning second.literal initial more (subst (λ (t : List ℕ). MeansBits t initial) literals first.initial_bits) second.initial_bits in
      let takens = same_wire wires edge.a a b first.taken second.taken in
      λ i. Reg (registers i) (domains i) (bits i) (takens i)
    where
      a_kind : List ℕ → Kind
      a_kind text = a_register text None

      kind_at : WireId → Option Kind
      kind_at x = option_map (λ (d : Declared). d.kind) (slice_get wires x.number)

  same_words : (memory other : List ℕ) (place : ℕ) (words : List FirstWord) (a b : List (List Bool)) → AreWords memory place words a → AreWords other place words b → a ≡ b
  same_words memory other place [] [] [] first second = refl
  same_words memory other place [] [] (y ∷ b) first second = absurd second
  same_words memory other place [] (x ∷ a) b first second = absurd first
  same_words memory other place (word ∷ words) [] b first second = absurd first
  same_words memory other place (word ∷ words) (x ∷ a) [] first second = absurd second
  same_words memory other place (word ∷ words) (x ∷ a) (y ∷ b) first second =
      let head = same_meaning word.literal x y first.0.bits_are second.0.bits_are in
      let tail = same_words memory other (place + 1) words a b first.1 second.1 in
      λ i. head i ∷ tail i

  same_ram : (scene : Scene) (wires : List Declared) (item : RamItem) (w v : WireId) (domain other : DomId) (words more : List (List Bool)) (a b : RamIn)
      → IsRam scene wires item w domain words a → IsRam scene wires item v other more b → Ram w domain words a ≡ Ram v other more b
  same_ram scene wires item w v domain other words more a b first second =
      let registers = same_wire wires item.register w v first.register second.register in
      let domains = same_domain scene.ports item.clock domain other first.clock second.clock in
      let contents = same_words first.memory.name second.memory.name 0 (all_of item.words) words more first.words_are second.words_are in
      let reads = same_wire wires item.read.address a.read b.read first.read.address second.read.address in
      let enables = same_wire wires item.enable a.enable b.enable first.enable second.enable in
      let places = same_wire wires item.write.address a.place b.place first.write.address second.write.address in
      let values = same_wire wires item.value a.value b.value first.value_is second.value_is in
      λ i. Ram (registers i) (domains i) (contents i) (record { read = reads i; enable = enables i; place = places i; value = values i })

  same_use : (scene : Scene) (wires : List Declared) (item : UseItem) (m n : ModId) (reads drives more others : List WireId)
      → IsUse scene wires item m reads drives → IsUse scene wires item n more others → Use m reads drives ≡ Use n more others
  same_use scene wires item m n reads drives more others first second =
      let numbers : m.number ≡ n.number = same_Some _ _ (sym first.named ∙ second.named) in
      let used : first.used ≡ second.used = same_Some _ _ (sym first.found ∙ ap (slice_get scene.earlier) numbers ∙ second.found) in
      let signals : List (List ℕ) = signals_of (all_of second.used.ports) in
      let joined : signals ++ (first.read_names ++ first.driven_names) ≡ signals ++ (second.read_names ++ second.driven_names) =
      ap (λ (u : ModuleItem). signals_of (all_of u.ports) ++ (first.read_names ++ first.driven_names)) (sym used) ∙ sym first.joined ∙ second.joined in
      let names = append_cancel_left signals _ _ joined in
      let count : length first.read_names ≡ length second.read_names =
      first.inputs ∙ ap (λ (u : ModuleItem). length (inputs_of (all_of u.ports))) used ∙ sym second.inputs in
      let read_names : first.read_names ≡ second.read_names =
      sym (take_at first.read_names first.driven_names (length second.read_names) count) ∙ ap (take (length second.read_names)) names
      ∙ take_at second.read_names second.driven_names (length second.read_names) refl in
      let driven_names : first.driven_names ≡ second.driven_names =
      sym (drop_at first.read_names first.driven_names (length second.read_names) count) ∙ ap (drop (length second.read_names)) names
      ∙ drop_at second.read_names second.driven_names (length second.read_names) refl in
      let read = same_wires wires second.read_names reads more (subst (λ (x : List (List ℕ)). AreNamesOf wires x reads) read_names first.reads_are) second.reads_are in
      let driven = same_wires wires second.driven_names drives others (subst (λ (x : List (List ℕ)). AreNamesOf wires x drives) driven_names first.drives_are) second.drives_are in
      λ i. Use (record { number = numbers i }) (read i) (driven i)

  -- no name is an output's and a wire's
  abbrev AreApart : List Line → List Declared → Type 0
  AreApart outputs wires =
      (name : List ℕ) → is_among (map (λ (l : Line). l.name) outputs) name ≡ true → is_among (map name_of wires) name ≡ true → ⊥

  -- an item is one part
  same_item : (scene : Scene) (wires : List Declared) → AreApart scene.outputs wires → {item : Item} {a b : Part} → ItemIs scene wires item a → ItemIs scene wires item b → a ≡ b
  same_item scene wires apart_names (declares line) (declares _) = refl
  same_item scene wires apart_names (keeps line text memory) (keeps _ _ _) = refl
  same_item scene wires apart_names (assigns name right w x named kind is) (assigns _ _ v y named' kind' is') =
      let drivens = same_wire wires name w v named named' in
      ap a_cell (same_right wires v (subst (λ (u : WireId). RightIs wires u right x) drivens is) is')
  same_item scene wires apart_names (assigns name _ w x named kind is) (shows _ source k line a output found taken wide) =
      absurd (apart_names name (placed_among _ name k output) (placed_among _ name w.number named))
  same_item scene wires apart_names (shows name source k line a output found taken wide) (assigns _ _ w x named kind is) =
      absurd (apart_names name (placed_among _ name k output) (placed_among _ name w.number named))
  same_item scene wires apart_names (shows name source k line a output found taken wide) (shows _ _ j other b output' found' taken' wide') =
      let places : k ≡ j = same_Some _ _ (sym output ∙ output') in
      let takens = same_wire wires source a b taken taken' in
      λ i. an_output (places i) (takens i)
  same_item scene wires apart_names (moves edge w domain initial a is) (moves _ v other more b is') =
      ap a_cell (same_register scene wires edge w v domain other initial more a b is is')
  same_item scene wires apart_names (remembers item w domain words inputs is) (remembers _ v other more others is') =
      ap a_cell (same_ram scene wires item w v domain other words more inputs others is is')
  same_item scene wires apart_names (uses item m reads drives is) (uses _ n more others is') =
      ap a_cell (same_use scene wires item m n reads drives more others is is')

  -- fewer wires are apart too
  fewer_apart : (outputs : List Line) (wires more : List Declared) → AreApart outputs (wires ++ more) → AreApart outputs wires
  fewer_apart outputs wires more apart_names name output wire =
      apart_names name output
      (ap (λ (l : List (List ℕ)). is_among l name) (map-append name_of wires more) ∙ among_left (map name_of wires) (map name_of more) name wire)

  same_parts : (scene : Scene) (wires : List Declared) (items : List Item) (a b : List Part) → AreApart scene.outputs (wires ++ flat_map declared_by items)
      → ItemsAre scene wires items a → ItemsAre scene wires items b → a ≡ b
  same_parts scene wires [] [] [] apart_names first second = refl
  same_parts scene wires [] [] (y ∷ b) apart_names first second = absurd second
  same_parts scene wires [] (x ∷ a) b apart_names first second = absurd first
  same_parts scene wires (item ∷ items) [] b apart_names first second = absurd first
  same_parts scene wires (item ∷ items) (x ∷ a) [] apart_names first second = absurd second
  same_parts scene wires (item ∷ items) (x ∷ a) (y ∷ b) apart_names first second =
      let head = same_item scene wires (fewer_apart scene.outputs wires (flat_map declared_by (item ∷ items)) apart_names) first.0 second.0 in
      let behind : (wires ++ declared_by item) ++ flat_map declared_by items ≡ wires ++ flat_map declared_by (item ∷ items) =
      append_assoc wires (declared_by item) (flat_map declared_by items) in
      let tail = same_parts scene (wires ++ declared_by item) items a b
      (subst (AreApart scene.outputs) (sym behind) apart_names) first.1 second.1 in
      λ i. head i ∷ tail i

  -- lists that agree at each place
  same_outputs : (at : ℕ → List WireId) (a b : List WireId) → length a ≡ length b
      → ((k : ℕ) (w : WireId) → slice_get a k ≡ Some w → at k ≡ w ∷ []) → ((k : ℕ) (w : WireId) → slice_get b k ≡ Some w → at k ≡ w ∷ []) → a ≡ b
  same_outputs at [] [] count first second = refl
  same_outputs at [] (y ∷ b) count first second = absurd (omega arith)
  same_outputs at (x ∷ a) [] count first second = absurd (omega arith)
  same_outputs at (x ∷ a) (y ∷ b) count first second =
      let heads : x ∷ [] ≡ y ∷ [] = sym (first 0 x refl) ∙ second 0 y refl in
      let head : x ≡ y = cc in
      let tail = same_outputs (λ k. at (suc k)) a b (omega arith) (λ k w found. first (suc k) w found) (λ k w found. second (suc k) w found) in
      λ i. head i ∷ tail i

  pub same_module : (ports : Ports) (earlier : List ModuleItem) (m : ModuleItem) (a b : Module) → DenotesModule ports earlier m a → DenotesModule ports earlier m b → a ≡ b
  same_module ports earlier m a b first second =
      let scene : Scene = scene_of ports earlier m in
      let signals : List (List ℕ) = signals_of (all_of m.ports) in
      let outputs : List (List ℕ) = map (λ (l : Line). l.name) (outputs_of (all_of m.ports)) in
      let wires : List (List ℕ) = map name_of (wires_of m) in
      let others : List (List ℕ) = flat_map other_names m.items in
      let apart_names : AreApart scene.outputs (wires_of m) =
      λ name output wire. apart outputs (wires ++ others) name (distinct_right signals (outputs ++ (wires ++ others)) first.names) output (among_left wires others name wire) in
      let parts : first.parts ≡ second.parts = same_parts scene (input_wires m) m.items first.parts second.parts apart_names first.items second.items in
      let inputs : a.inputs ≡ b.inputs = first.inputs ∙ sym second.inputs in
      let widths : a.widths ≡ b.widths = first.widths ∙ sym second.widths in
      let cells : a.cells ≡ b.cells = first.cells ∙ ap cells_of parts ∙ sym second.cells in
      let shown : a.outputs ≡ b.outputs =
      same_outputs (λ k. assigned_to k second.parts) a.outputs b.outputs (first.outputs ∙ sym second.outputs)
      (λ k w found. ap (assigned_to k) (sym parts) ∙ first.assigned k w found) second.assigned in
      λ i. record { inputs = inputs i; widths = widths i; outputs = shown i; cells = cells i }

  pub same_modules : (ports : Ports) (earlier items : List ModuleItem) (a b : List Module) → DenoteModules ports earlier items a → DenoteModules ports earlier items b → a ≡ b
  same_modules ports earlier [] [] [] first second = refl
  same_modules ports earlier [] [] (y ∷ b) first second = absurd second
  same_modules ports earlier [] (x ∷ a) b first second = absurd first
  same_modules ports earlier (m ∷ items) [] b first second = absurd first
  same_modules ports earlier (m ∷ items) (x ∷ a) [] first second = absurd second
  same_modules ports earlier (m ∷ items) (x ∷ a) (y ∷ b) first second =
      let head = same_module ports earlier m x y first.0 second.0 in
      let tail = same_modules ports (earlier ++ m ∷ []) items a b first.1 second.1 in
      λ i. head i ∷ tail i
