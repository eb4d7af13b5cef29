-- Each output of the flat net has the bits of what the program means.
use Rattle.std.specs.Prelude.{slice_get}
use Rattle.std.specs.List.{AllByRecursion}
use Rattle.std.proofs.Common.{◌≡◌, ◌<◌, ℕ, zero, suc, Bool, List, [], ◌∷◌, length, Some, refl, sym, ap, ◌∙◌, subst}
use Rattle.chw_base.specs.declared.index.WireId.{WireId}
use Rattle.chw_clock.specs.Histories.{FitsPorts}
use Rattle.type_ports.specs.declared.ports.Leaf.{Leaf}
use Rattle.type_ports.specs.Ports.{Leaves}
use Rattle.chw_types.specs.SamePromises.{SameValues}
use Rattle.chw_types.specs.SameTypes.{SameTypes}
use Rattle.chw_types.specs.TypeTree.{no_types}
use Rattle.type_laws.specs.SameKept.{FieldsKeepSame}
use Rattle.chw_terms.specs.declared.program.Program.{Program}
use Rattle.chw_terms.specs.declared.scene.Made.{Made}
use Rattle.chw_terms.specs.declared.scene.Sort.{Sort}
use Rattle.chw_terms.specs.declared.scene.Sort.TheVariants.{Circuit}
use Rattle.chw_terms.specs.TermTree.{TermTree, global}
use Rattle.chw_typing.specs.Programs.{IsSound, setting_of}
use Rattle.chw_typing.specs.Scopes.{Setting, HasKind, IsTermType}
use Rattle.chw_typing.specs.Typing.{HasType}
use Rattle.chw_typing.specs.Alike.{AreLike}
use Rattle.rewriting.specs.Named.{UnderLambdas}
use Rattle.rewriting.specs.Origins.{setting_at, with_origins}
use Rattle.rewriting.specs.Steps.{origins_in}
use Rattle.rule_types.specs.States.{IsTypedState}
use Rattle.chw_layout.specs.Encodes.{Encodes}
use Rattle.chw_layout.specs.EncodingPromises.{EncodingHasWidth}
use Rattle.layout_laws.specs.LeavesAgree.{payloads, result_payloads}
use Rattle.chw_meaning.specs.Gives.{Better, Gives, LeafOf, leaves_port}
use Rattle.chw_meaning.specs.Means.{Fit, Means}
use Rattle.chw_meaning.specs.Values.{History, Thunk, none, closed, thunk_at}
use Rattle.carrying.specs.TermLaws.{onto, on_thunks, under_lambdas}
use Rattle.carrying.specs.YieldLaws.{ShownIsYielded}
use Rattle.netlist.specs.NetValue.{NetValue}
use Rattle.netlist.specs.Orders.{IsOrder}
use Rattle.netlist.specs.Sound.{IsWire, Sound}
use Rattle.netlist.specs.declared.net.Flat.{Flat}
use Rattle.netlist.specs.declared.net.Net.{Net}
use Rattle.net_flat.specs.Flattened.{IsFlatOf}
use Rattle.net_rules.specs.WellFormed.{NamesHold, WellFormed}
use Rattle.net_rules.specs.declared.well_formed.NetCode.TheVariants.{Name}
use Rattle.use_laws.specs.ValueIn.{IsModuleAt, ValueIn}
use Rattle.use_laws.specs.ValueIn.IsModuleAt.{top as module_at_top}
use Rattle.net_built.specs.Built.{ground_of}
use Rattle.net_built.specs.Modules.{IsModuleOf}
use Rattle.net_built.specs.Data.{HaveWidths, HasParts, port_parts}
use Rattle.net_built.specs.Terms.{Variable}
use Rattle.net_built.specs.Wires.{wire_count}
use Rattle.net_grounds.specs.Facts.{Facts}
use Rattle.net_means.proofs.NetFits.Beginning.{begins_with_circuit, begins_with_type}
use Rattle.net_means.proofs.Lists.{found_in_map, found_before_map, same_some}
use Rattle.normal_form.specs.Entries.{BeginsWithTop}
use Rattle.cell_bits.specs.Bearing.{Bears, bears_bits}
use Rattle.net_means.proofs.SideBits.Operands.{sound_alone, var_at}
use Rattle.net_means.specs.CircuitBits.Blocks.{BodyStands}
use Rattle.net_means.specs.CircuitBits.Instances.{Block, BlockAt, Design, HasBlock, Parameters, the_top}
use Rattle.net_means.specs.CircuitBits.Leaves.{HasAllOf, part_wires, LeafHas, VariableLeaf}
use Rattle.net_means.proofs.CircuitBits.Instances.{body_stands}
use Rattle.net_means.proofs.CircuitBits.Names.{variable_has_all}
use Rattle.net_means.proofs.CircuitBits.Ports.{parts_along}
use Rattle.net_means.proofs.CircuitBits.Signals.{wires_there}
use Rattle.net_means.proofs.CircuitBits.Uses.{follower_has}
use Rattle.net_means.specs.NetBits.Whole.{AllHaveBits}
use Rattle.net_means.specs.Outputs.{OutputMeans}
use Rattle.net_means.proofs.Ends.{Ending, block_ends, stands_built, block_plain, parameters_held}
use Rattle.net_means.proofs.Inputs.{Inputs, inputs, have}
use Rattle.net_means.proofs.Outputs.{OutputAt, output_at}
use Rattle.net_means.proofs.Parameters.{BodyTyped, body_typed, on_inputs, result_leaves}
use Rattle.net_means.proofs.Wholes.{function_follows, whole_function}

all_at : {A : Type 0} (P : A → Type 0) (xs : List A) (k : ℕ) (x : A) → AllByRecursion P xs → slice_get xs k ≡ Some x → P x
all_at P [] k x all e = absurd cc
all_at P (y ∷ xs) zero x all e = let is : y ≡ x = cc in subst P is all.0
all_at P (y ∷ xs) (suc k) x all e = all_at P xs k x all.1 e

pub follows_through : {p : Program} {h : History} {a b c : Thunk} → HasAllOf p h a b → HasAllOf p h b c → HasAllOf p h a c
follows_through f g n v x = let y = g n v x in f y.0 v y.1

one_value : {net : Net} {path : List ℕ} {h : History} {w : WireId} {bits : List Bool} → Bears net path h (w ∷ []) bits → ValueIn net path h w.number bits
one_value (bears_bits v) = v

-- the leaf of a thunk at a place has the payload of the port's leaf there
same_payload : (ls : List Leaf) (ms : List LeafOf) (k : ℕ) (l : Leaf) (m : LeafOf) → result_payloads ms ≡ payloads ls → slice_get ls k ≡ Some l → slice_get ms k ≡ Some m → m.payload ≡ l.payload
same_payload ls ms k l m same at there =
    same_some (found_in_map (λ (m : LeafOf). m.payload) ms k m there)
    (ap (λ ts. slice_get ts k) same ∙ found_in_map (λ (l : Leaf). l.payload) ls k l at)

-- what the outputs of the top's module are at a history of the program
module _ (facts : Facts) (all : AllHaveBits) (wide : EncodingHasWidth) (values : SameValues) (keep : FieldsKeepSame) (yielded : ShownIsYielded) (d : Design) (flat : Flat) (places : List ℕ) (formed : WellFormed d.net) (is_flat : IsFlatOf d.net flat) (sound : Sound flat) (order : IsOrder flat places) (it : Made) (typed : IsTypedState d.program d.state) (begins : BeginsWithTop d.program d.state) (first : slice_get d.state 0 ≡ Some it) (of : IsModuleOf (ground_of d.program d.built.order) it is_flat.m) (h : History) (fit : Fit d.program h) (fits : FitsPorts d.net.ports h) where
  abbrev s : Setting
  s = setting_at (origins_in d.program d.state)

  alone : IsSound (setting_of d.program)
  alone = sound_alone (origins_in d.program d.state) d.sound

  abbrev given : Inputs d.program.datas it.ty fit.are_ports.ins fit.are_ports.outs fit.streams
  given = inputs facts wide values keep d it h typed begins first fit

  circuit : it.sort ≡ Circuit
  circuit = begins_with_circuit begins it first

  at_top : IsModuleAt d.net [] is_flat.m
  at_top = module_at_top is_flat.place is_flat.m is_flat.top

  body : BodyStands d given.thunks [] h (onto given.thunks none) it is_flat.m
  body = body_stands d given.thunks [] h 0 (onto given.thunks none) it is_flat.m the_top first at_top of

  abbrev block : Sort → Block
  block sort = record { sort = sort; scope = body.scope; outside = onto given.thunks none; term = body.term; results = is_flat.m.outputs }

  stands : BlockAt d given.thunks [] h (block Circuit)
  stands = subst (λ sort. BlockAt d given.thunks [] h (block sort)) circuit body.stands

  built : HasBlock d [] (block Circuit)
  built = stands_built stands

  parameters : Parameters d.program.datas Circuit zero body.params [] body.scope
  parameters = subst (λ sort. Parameters d.program.datas sort zero body.params [] body.scope) circuit body.parameters

  below : BodyTyped (origins_in d.program d.state) body.scope body.term body.params given.thunks given.result
  below =
      let form = d.normal.bodies 0 it first in
      body_typed facts (origins_in d.program d.state) values keep d.sound body.term parameters (block_plain built.built)
      (subst (λ b. UnderLambdas [] b it.ty form.path form.vars form.inner) body.body form.under)
      (subst (λ b. HasType s [] [] b form.typed.type) body.body form.typed.has) form.typed.same tt given.given

  end : Ending d s h body.scope (onto given.thunks none) body.term is_flat.m.outputs below.type
  end = block_ends facts d s h (onto given.thunks none) built.built built.cells built.widths below.has below.scoped (parameters_held parameters (λ x it e. absurd cc))

  -- the variable that is given
  found : (v : Variable) × (slice_get end.inner end.x ≡ Some v) × (v.ty ≡ below.type)
  found = found_before_map (λ (v : Variable). v.ty) end.inner end.x below.type (var_at end.typed)

  abbrev v : Variable
  v = found.0

  like : AreLike (setting_of d.program) v.ty given.result
  like =
      let kinded : IsTermType s [] below.type = facts.terms.type_kinded end.typed d.sound end.scoped in
      record {
        kind = kinded.kind;
        has = subst (λ u. HasKind s [] u kinded.kind) (sym found.2) kinded.has;
        same = subst (λ u. SameTypes u given.result) (sym found.2) (facts.same.same_turned below.same);
      }

  held : (widths : List ℕ) × HasParts d.program.datas Circuit v.ty widths × (length v.wires ≡ wire_count widths)
  held = end.held end.x v found.1

  abbrev widths : List ℕ
  widths = held.0

  abbrev f : Thunk
  f = closed (d.wholes 0) none no_types

  abbrev whole : Thunk
  whole = on_thunks f given.thunks

  parts : HasParts d.program.datas Circuit given.result widths
  parts = parts_along facts d.program h alone values keep whole held.1 like

  leaves : Leaves d.program.datas given.result fit.are_ports.outs
  leaves = result_leaves given.given

  have_widths : HaveWidths d.program.datas (payloads fit.are_ports.outs) widths
  have_widths = of_port parts
    where
      of_port : HasParts d.program.datas Circuit given.result widths → HaveWidths d.program.datas (payloads fit.are_ports.outs) widths
      of_port (port_parts {leaves = ls} l has) =
          let there = facts.ports.leaves_there l whole in
          subst (λ ts. HaveWidths d.program.datas ts widths) (sym (facts.ports.leaves_agree l there.1) ∙ facts.ports.leaves_agree leaves there.1) has

  outputs_are : flat.outputs ≡ v.wires
  outputs_are = is_flat.outputs ∙ end.are ∙ wires_there end.inner end.x v found.1

  output : (k : ℕ) → k < length flat.outputs → OutputAt d.program.datas fit.are_ports.outs widths v.wires k
  output k l = output_at d.program.datas fit.are_ports.outs widths v.wires k have_widths held.2 (subst (λ (ws : List WireId). k < length ws) outputs_are l)

  whole_is : d.wholes 0 ≡ under_lambdas body.params (with_origins d.wholes body.term)
  whole_is = d.are_wholes 0 it first ∙ ap (with_origins d.wholes) body.body ∙ whole_function d.wholes body.params body.term

  -- the whole on the thunks has all that the variable's thunk has
  whole_follows : (th : Thunk) → thunk_at end.γ end.x ≡ Some th → HasAllOf d.program h whole th
  whole_follows th there =
      let e : TermTree = with_origins d.wholes body.term in
      let on_body : HasAllOf d.program h whole (closed e (onto given.thunks none) no_types) =
      subst (λ w. HasAllOf d.program h (on_thunks (closed w none no_types) given.thunks) (closed e (onto given.thunks none) no_types)) (sym whole_is)
      (function_follows facts d.program h body.params e given.thunks none no_types below.many) in
      follows_through on_body (follows_through end.follows (variable_has_all there))

  variable_leaf : (k : ℕ) (l : k < length flat.outputs) → VariableLeaf d.program d.net [] end.inner end.γ h end.x (output k l).number
  variable_leaf k l =
      all d flat places given.thunks [] h h (block Circuit) end.g end.inner end.γ formed is_flat sound order (have facts wide values keep d it h typed begins first fit) ([], refl) fits stands end.inside end.x (output k l).number v widths found.1 held.1 (output k l).within

  leaf : (k : ℕ) (l : k < length flat.outputs) → LeafHas d.program d.net [] h given.result whole v.wires (output k l).number
  leaf k l =
      let its = variable_leaf k l in
      let is : its.it ≡ v = same_some its.known found.1 in
      let has : LeafHas d.program d.net [] h v.ty its.thunk v.wires (output k l).number = subst (λ (v : Variable). LeafHas d.program d.net [] h v.ty its.thunk v.wires (output k l).number) is its.has in
      follower_has facts d.program d.net h values keep alone [] v.ty given.result its.thunk whole v.wires (output k l).number like (whole_follows its.thunk its.there) has

  value_in : (k : ℕ) (l : k < length flat.outputs) → ValueIn d.net [] h (output k l).wire.number (leaf k l).bits
  value_in k l =
      let has = leaf k l in
      let out = output k l in
      let same : has.widths ≡ widths = facts.built.parts_once has.parts parts in
      one_value (subst (λ (ws : List WireId). Bears d.net [] h ws has.bits) out.part (subst (λ ws. Bears d.net [] h (part_wires out.number ws v.wires) has.bits) same has.bears))

  pub output_means : ((w : ℕ) (bits : List Bool) → w < length is_flat.m.widths → ValueIn d.net [] h w bits → NetValue flat h w bits)
      → Better d.program fit.are_ports.it.ty (d.wholes 0) (global d.program.top.«def».number)
      → (k : ℕ) → k < length flat.outputs → OutputMeans d.program flat h k
  output_means through better k l =
      let has = leaf k l in
      let out = output k l in
      let y = yielded d.program has.leaf.payload has.leaf.thunk h has.bits d.constructors has.shows in
      let names : NamesHold d.net is_flat.place is_flat.m = formed.rules is_flat.place is_flat.m is_flat.top.stands Name in
      let wire : slice_get flat.outputs k ≡ Some out.wire = subst (λ (ws : List WireId). slice_get ws k ≡ Some out.wire) (sym outputs_are) out.is_wire in
      let within : out.wire.number < length is_flat.m.widths = all_at (IsWire is_flat.m.widths) is_flat.m.outputs k out.wire names.outputs (subst (λ (ws : List WireId). slice_get ws k ≡ Some out.wire) is_flat.outputs wire) in
      let type : it.ty ≡ fit.are_ports.it.ty = begins_with_type begins it fit.are_ports.it first fit.are_ports.top.held in
      let gives : Gives d.program (d.wholes 0) it.ty fit.streams h out.number y.datum =
      record {
        result = given.result;
        thunk = whole;
        on_inputs = on_inputs given.given f;
        leaves = has.is.leaves;
        are_leaves = leaves_port has.is.are;
        leaf = has.leaf;
        is_leaf = has.is.at;
        turns = y.turns;
        yields = y.yields;
      } in
      let means : Means d.program h k y.datum =
      record {
        it = fit.are_ports.it;
        ins = fit.are_ports.ins;
        outs = fit.are_ports.outs;
        top = fit.are_ports.top;
        streams = fit.streams;
        decode = fit.decode;
        leaf = out.number;
        is_port = out.is_port;
        gives = better fit.streams h out.number y.datum (subst (λ t. Gives d.program (d.wholes 0) t fit.streams h out.number y.datum) type gives);
      } in
      record {
        value = y.datum;
        means = means;
        leaf = out.leaf;
        is_leaf = out.is_leaf;
        wire = out.wire;
        is_output = wire;
        bits = has.bits;
        has = through out.wire.number has.bits within (value_in k l);
        encodes = subst (λ t. Encodes d.program.datas t y.datum has.bits) (same_payload fit.are_ports.outs has.is.leaves out.number out.leaf has.leaf (facts.ports.leaves_agree leaves has.is.are) out.is_leaf has.is.at) y.encodes;
      }
