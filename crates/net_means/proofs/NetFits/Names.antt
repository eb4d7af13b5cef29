-- What the cells of modules that are built name exists: wires, domains and modules.
use Rattle.std.proofs.Common.{◌≡◌, inl, inr, ℕ, zero, suc, ◌+◌, ◌≤◌, arith, List, [], ◌∷◌, ◌++◌, length, map, take, Some, refl, sym, ap, ◌∙◌, subst, length-append}
use Rattle.std.specs.Prelude.{flat_map}
use Rattle.std.specs.List.{slice_get, AllByRecursion}
use Rattle.std.proofs.lemmas.Option.{slice_get_within}
use Rattle.chw_base.specs.declared.index.WireId.{WireId}
use Rattle.chw_types.specs.declared.kind.Kind.{Kind}
use Rattle.chw_types.specs.TypeTree.{TypeTree}
use Rattle.type_laws.specs.SameKept.{FieldsKeepSame}
use Rattle.chw_typing.specs.Scopes.{Setting, HasKind}
use Rattle.chw_terms.specs.declared.program.Program.{Program}
use Rattle.chw_terms.specs.declared.scene.Made.{Made}
use Rattle.chw_terms.specs.declared.scene.Sort.{Sort}
use Rattle.chw_terms.specs.declared.scene.Sort.TheVariants.{Value, Circuit}
use Rattle.layout_laws.specs.SameLayout.{SameKeepsMeasure}
use Rattle.netlist.specs.Sound.{IsWire}
use Rattle.net_rules.specs.WellFormed.{PartExists, UseExists, NamesExist}
use Rattle.netlist.specs.Wires.{driven}
use Rattle.netlist.specs.declared.net.Cell.{Cell}
use Rattle.netlist.specs.declared.net.Cell.TheVariants.{Reg, Ram, Use}
use Rattle.netlist.specs.declared.net.Module.{Module}
use Rattle.netlist.specs.declared.net.Net.{Net}
use Rattle.normal_forms.specs.Normal.{IsNormal, HasForm}
use Rattle.rewriting.specs.Steps.{origins_in}
use Rattle.rewriting.specs.Origins.{MadeOf, setting_at, made_of}
use Rattle.chw_typing.specs.SpineLaws.{ConAtArguments, ConIsSaturated, PrimAtArguments}
use Rattle.rule_types.specs.States.{IsTypedState, StatesHaveTypedOrigins}
use Rattle.net_built.specs.Bodies.{BodyBuilt}
use Rattle.net_built.specs.Built.{Built, ground_of}
use Rattle.net_built.specs.InOrder.{DrivesInOrder}
use Rattle.net_built.specs.Circuits.{place_in}
use Rattle.net_built.specs.Data.{HasParts, value_part}
use Rattle.net_built.specs.Modules.{IsModuleOf, made_in}
use Rattle.net_built.specs.Terms.{operands_of, result_of, wires_at, wires_of_all}
use Rattle.net_built.specs.Wires.{wire_count, new_wires, Piece}
use Rattle.net_grounds.specs.Facts.{Facts}
use Rattle.net_means.proofs.Lists.{found_in_map, same_some}
use Rattle.net_means.specs.NetFits.Laws.{NamesThere}
use Rattle.net_means.proofs.NetFits.CircuitBodies.{circuit_body_ordered}
use Rattle.net_means.proofs.NetFits.Calls.{ParamParts, VarCount, body_params, spine_called, called_whole, result_parts, lifted_on, lifted_called, lifted_whole, lifted_parts}
use Rattle.net_means.proofs.NetFits.CircuitBodies.{none_held}
use Rattle.net_means.proofs.NetFits.CircuitDrivers.{port_count}
use Rattle.net_means.proofs.NetFits.CircuitReads.{LiftedCalls, CircuitCalls, DomainCells, circuit_body_reads}
use Rattle.net_means.proofs.NetFits.Drivers.{module_at}
use Rattle.net_means.proofs.NetFits.Outputs.{value_width, outputs_counted}
use Rattle.net_means.proofs.NetFits.Pieces.{count_from}
use Rattle.net_means.proofs.NetFits.Reading.{Under, IsPlain, Reads, ReadsWires, under_from}
use Rattle.net_means.proofs.NetFits.Scopes.{none_sized, variable_sized}
use Rattle.net_means.proofs.NetFits.Uses.{BeforePlace, AllBefore, order_behind, used_there}
use Rattle.net_means.proofs.NetFits.ValueDrivers.{value_body_ordered}
use Rattle.net_means.proofs.NetFits.ValueReads.{ValueCalls, body_reads}

under_first : (total : ℕ) (xs ys : List WireId) → Under total (xs ++ ys) → Under total xs
under_first total [] ys h = tt
under_first total (x ∷ xs) ys h = (h.0, under_first total xs ys h.1)

under_rest : (total : ℕ) (xs ys : List WireId) → Under total (xs ++ ys) → Under total ys
under_rest total [] ys h = h
under_rest total (x ∷ xs) ys h = under_rest total xs ys h.1

driven_each : (total : ℕ) (cells : List Cell) → Under total (flat_map driven cells) → AllByRecursion (λ cell. Under total (driven cell)) cells
driven_each total [] h = tt
driven_each total (cell ∷ cells) h = (under_first total (driven cell) (flat_map driven cells) h, driven_each total cells (under_rest total (driven cell) (flat_map driven cells) h))

-- where a cell drives a wire there is one
some_there : (total : ℕ) (ws : List WireId) → 1 ≤ length ws → Under total ws → 1 ≤ total
some_there total [] l h = absurd (omega (arith, l))
some_there total (w ∷ ws) l h = let here = h.0 in omega (arith, here)

names_each : (domains : ℕ) (earlier : List Module) (widths : List ℕ) (cells : List Cell) → AllByRecursion (λ cell. Under (length widths) (driven cell)) cells → AllByRecursion (λ cell. ReadsWires (λ cell. PartExists domains earlier cell) (length widths) cell) cells → AllByRecursion (NamesExist domains earlier widths) cells
names_each domains earlier widths [] h k = tt
names_each domains earlier widths (cell ∷ cells) h k = (
  record { driven = h.0; read = k.0.1.0 (some_there (length widths) (driven cell) k.0.0 h.0); part = k.0.1.1 },
  names_each domains earlier widths cells h.1 k.1,
)

-- what keeps nothing and is no use names no domain and no module
plain_part : (domains : ℕ) (earlier : List Module) (cell : Cell) → IsPlain cell → PartExists domains earlier cell
plain_part domains earlier (Reg w domain initial a) is = absurd is
plain_part domains earlier (Ram w domain words inputs) is = absurd is
plain_part domains earlier (Use m reads drives) is = absurd is
plain_part domains earlier _ is = tt

-- what is said of a body's cells and outputs
record BodyNames (sort : Sort) (domains : ℕ) (earlier : List Module) (inputs : List ℕ) (p : Piece) (outputs : List WireId) : Type 0 where
  pub order : DrivesInOrder (length inputs) p
  pub reads : Reads (λ cell. PartExists domains earlier cell) (length inputs + length p.widths) p
  pub outputs_there : (sort ≡ Value → 1 ≤ length inputs + length p.widths) → Under (length inputs + length p.widths) outputs

nowhere : (total x : ℕ) → Under total (wires_at [] x)
nowhere total zero = tt
nowhere total (suc x) = tt

module _ (facts : Facts) (keep : FieldsKeepSame) (law : SameKeepsMeasure) (con_args : ConAtArguments) (saturated : ConIsSaturated) (prim_args : PrimAtArguments) (typed_origins : StatesHaveTypedOrigins) (p : Program) (state : List Made) (net : Net) (of : Built p state net) (typed : IsTypedState p state) (normal : IsNormal p state) where
  -- the type of a made definition
  type_known : (m : ℕ) (it : Made) → slice_get state m ≡ Some it → slice_get (setting_at (origins_in p state)).made m ≡ Some it.ty
  type_known m it is = found_in_map (λ (x : MadeOf). x.ty) (map made_of state) m (made_of it) (found_in_map made_of state m it is)

  sort_of : (m : ℕ) (it : MadeOf) (jt : Made) (sort : Sort) → slice_get (origins_in p state).made m ≡ Some it → it.sort ≡ sort → slice_get state m ≡ Some jt → jt.sort ≡ sort
  sort_of m it jt sort known value is =
      let same : made_of jt ≡ it = same_some (found_in_map made_of state m jt is) known in
      ap (λ (x : MadeOf). x.sort) same ∙ value

  -- a use of a made definition that stands before is of its module, with as many inputs and outputs
  use_exists : (i : ℕ) → i ≤ length of.order → (sort : Sort) (m : ℕ) (it : MadeOf) → slice_get (origins_in p state).made m ≡ Some it → it.sort ≡ sort → BeforePlace p.datas state of.order i m → (reads : List WireId) (n : ℕ) (ws : List ℕ) → 1 ≤ wire_count ws
      → ((whole : TypeTree) → slice_get (setting_at (origins_in p state)).made m ≡ Some whole → HasParts p.datas sort (result_of whole) ws)
      → ((whole : TypeTree) (k : Kind) (ins : List ℕ) (r : TypeTree) → slice_get (setting_at (origins_in p state)).made m ≡ Some whole → HasKind (setting_at (origins_in p state)) [] whole k → ParamParts p.datas sort whole ins r → length reads ≡ length ins)
      → UseExists (take i net.modules) (place_in of.order m) reads (new_wires n ws)
  use_exists i l sort m it known value (inl (jt, is, none)) reads n ws some result inputs =
      let parts = subst (λ sort. HasParts p.datas sort (result_of jt.ty) ws) (sym (sort_of m it jt sort known value is)) (result jt.ty (type_known m jt is)) in
      let same : none.widths ≡ ws = facts.built.parts_once none.parts parts in
      let count : wire_count none.widths ≡ wire_count ws = ap (λ ws. wire_count ws) same in
      let are = none.are in
      absurd (omega (arith, some, count, are))
  use_exists i l sort m it known value (inr less) reads n ws some result inputs =
      let u = used_there p state net of i m l less in
      let s : Setting = setting_at (origins_in p state) in
      let body = normal.bodies m u.it u.is in
      let sound = (typed_origins p state typed).sound in
      let closed = (typed.each m u.it u.is).closed in
      let sorts = sort_of m it u.it sort known value u.is in
      let params = body_params facts keep law s sound u.made_of.body body.under body.typed.has body.typed.same in
      let parts = subst (λ sort. HasParts p.datas sort (result_of u.it.ty) ws) (sym sorts) (result u.it.ty (type_known m u.it u.is)) in
      let counted : length u.used.outputs ≡ wire_count ws =
      outputs_counted facts keep law s of.order u.it.sort u.it.body body.inner u.it.ty body.typed.type closed.kind body.path body.vars u.made_of.inputs u.made_of.cells u.used.outputs ws sound u.made_of.body body.under body.typed.has closed.has body.typed.same (λ v. facts.built.normal_free p state normal m u.it u.is v) parts in
      record {
        used = u.used;
        found = u.found;
        inputs =
            inputs u.it.ty closed.kind u.made_of.inputs (result_of u.it.ty) (type_known m u.it u.is) closed.has (subst (λ sort. ParamParts p.datas sort u.it.ty u.made_of.inputs (result_of u.it.ty)) sorts params) ∙ sym u.made_of.are_inputs;
        outputs = count_from n (wire_count ws) ∙ sym counted;
      }

  value_calls : (i : ℕ) → i ≤ length of.order → ValueCalls (origins_in p state) of.order (λ cell. PartExists (length net.ports.domains) (take i net.modules) cell) (λ m. BeforePlace p.datas state of.order i m)
  value_calls i l = λ vars scope e m n w t u k it known value head types variables has kind same wide fit sized before some.
      let s : Setting = setting_at (origins_in p state) in
      let sound = (typed_origins p state typed).sound in
      let counts : VarCount s Value vars scope =
      λ x t u k ws has kind same parts.
      let v = value_width parts in
      variable_sized facts law s sound vars scope x t u k v.0 fit (sized x) has kind same v.1 ∙ ap (λ ws. wire_count ws) (sym v.2) in
      use_exists i l Value m it known value before (wires_of_all scope (operands_of e)) n (w ∷ []) some
      (λ whole found. result_parts facts keep law s sound vars m whole found e t u k (w ∷ []) head types has kind same (value_part wide))
      (λ whole j ins r found of_kind params.
      called_whole facts keep law s sound t u k (w ∷ []) (wires_of_all scope (operands_of e)) ins r (spine_called facts s Value vars scope m whole j ins r counts found of_kind params e u head types variables has) kind same (value_part wide))

  circuit_calls : (i : ℕ) → i ≤ length of.order → CircuitCalls (origins_in p state) of.order (λ cell. PartExists (length net.ports.domains) (take i net.modules) cell) (λ m. BeforePlace p.datas state of.order i m)
  circuit_calls i l = λ vars scope e m n ws t u k it known circuit head types variables has kind same parts fit held before some.
      let s : Setting = setting_at (origins_in p state) in
      let sound = (typed_origins p state typed).sound in
      let counts : VarCount s Circuit vars scope = λ x t u k ws has kind same parts. port_count facts keep law s sound vars scope x t u k ws fit held has kind same parts in
      use_exists i l Circuit m it known circuit before (wires_of_all scope (operands_of e)) n ws some
      (λ whole found. result_parts facts keep law s sound vars m whole found e t u k ws head types has kind same parts)
      (λ whole j ins r found of_kind params.
      called_whole facts keep law s sound t u k ws (wires_of_all scope (operands_of e)) ins r (spine_called facts s Circuit vars scope m whole j ins r counts found of_kind params e u head types variables has) kind same parts)

  lifted_calls : (i : ℕ) → i ≤ length of.order → LiftedCalls (origins_in p state) of.order (λ cell. PartExists (length net.ports.domains) (take i net.modules) cell) (λ m. BeforePlace p.datas state of.order i m)
  lifted_calls i l = λ vars scope e count m lifted n ws t u k it known value has kind same parts fit held scoped before some.
      let s : Setting = setting_at (origins_in p state) in
      let sound = (typed_origins p state typed).sound in
      use_exists i l Value m it known value before (wires_of_all scope (lifted_on lifted)) n ws some
      (λ whole found. lifted_parts facts keep law prim_args s sound vars scope fit held scoped whole found lifted t u k ws has kind same parts)
      (λ whole j ins r found of_kind params.
      lifted_whole facts keep law prim_args s sound vars scope fit held scoped t u k ws (wires_of_all scope (lifted_on lifted)) ins r (lifted_called facts keep law prim_args s sound vars scope fit held scoped m whole j ins r found of_kind params lifted u has) kind same parts)

  domain_cells : (i : ℕ) → DomainCells (length p.domains) (λ cell. PartExists (length net.ports.domains) (take i net.modules) cell)
  domain_cells i =
      let many : length net.ports.domains ≡ length p.domains = ap (λ (ds : List (List ℕ)). length ds) of.ports.domains in
      record { reg = λ d l w bits a. omega (arith, l, many); ram = λ d l words w inputs. omega (arith, l, many) }

  by_sort : (i : ℕ) → i ≤ length of.order → (m : ℕ) (it : Made) (inputs : List ℕ) (cells : Piece) (outputs : List WireId) (sort : Sort) → slice_get state m ≡ Some it → AllBefore p.datas state of.order i (made_in it.body) → BodyBuilt (ground_of p of.order) sort [] 0 it.body inputs cells outputs → it.sort ≡ sort
      → BodyNames sort (length net.ports.domains) (take i net.modules) inputs cells outputs
  by_sort i l m it inputs cells outputs Value is before built value =
      let body = normal.bodies m it is in
      let s : Setting = setting_at (origins_in p state) in
      let sound = (typed_origins p state typed).sound in
      let free = facts.built.normal_free p state normal m it is value in
      let form = subst (λ sort. HasForm (origins_in p state) sort body.vars body.inner) value body.form in
      let total : ℕ = length inputs + length cells.widths in
      let room : 0 + length inputs + length cells.widths ≤ total = omega arith in
      let all = body_reads facts law (origins_in p state) of.order sound (λ cell. PartExists (length net.ports.domains) (take i net.modules) cell) (plain_part (length net.ports.domains) (take i net.modules)) (λ m. BeforePlace p.datas state of.order i m) (value_calls i l) total built body.under form before body.typed.has (record { same = tt }) (none_sized s) room (λ l y. nowhere total y) free in
      record {
        order = value_body_ordered facts law s of.order it.body body.typed.type inputs cells outputs sound body.typed.has free built;
        reads = all.0;
        outputs_there = λ l. all.1 (l refl);
      }
  by_sort i l m it inputs cells outputs Circuit is before built circuit =
      let body = normal.bodies m it is in
      let s : Setting = setting_at (origins_in p state) in
      let sound = (typed_origins p state typed).sound in
      let form = subst (λ sort. HasForm (origins_in p state) sort body.vars body.inner) circuit body.form in
      let total : ℕ = length inputs + length cells.widths in
      let room : 0 + length inputs + length cells.widths ≤ total = omega arith in
      let all = circuit_body_reads facts (origins_in p state) of.order sound (λ cell. PartExists (length net.ports.domains) (take i net.modules) cell) (plain_part (length net.ports.domains) (take i net.modules)) (λ m. BeforePlace p.datas state of.order i m) (domain_cells i) (lifted_calls i l) (circuit_calls i l) total built body.under form before body.typed.has (record { same = tt }) (none_held s) tt room tt in
      record {
        order =
            circuit_body_ordered facts keep law con_args saturated prim_args (origins_in p state) of.order it.body body.inner it.ty body.typed.type body.path body.vars inputs cells outputs sound body.typed.has body.under form built;
        reads = all.0;
        outputs_there = λ l. all.1;
      }

  made_names : (i : ℕ) → i ≤ length of.order → (m : ℕ) (it : Made) (built : Module) → slice_get state m ≡ Some it → AllBefore p.datas state of.order i (made_in it.body) → IsModuleOf (ground_of p of.order) it built → NamesThere net i built
  made_names i l m it built is before made_of =
      let inputs : List ℕ = made_of.inputs in
      let cells : Piece = made_of.cells in
      let body = by_sort i l m it inputs cells built.outputs it.sort is before made_of.body refl in
      let total : ℕ = length inputs + length cells.widths in
      let count : length built.widths ≡ total = ap (λ (ws : List ℕ). length ws) made_of.are_widths ∙ length-append inputs cells.widths in
      let drives : AllByRecursion (λ cell. Under total (driven cell)) cells.cells =
      driven_each total cells.cells (subst (Under total) (sym body.order) (under_from total (length inputs) (length cells.widths) (omega arith))) in
      let there = subst (λ n. AllByRecursion (λ cell. Under n (driven cell)) cells.cells) (sym count) drives in
      let reads = subst (λ n. AllByRecursion (λ cell. ReadsWires (λ cell. PartExists (length net.ports.domains) (take i net.modules) cell) n cell) cells.cells) (sym count) body.reads.cells in
      record {
        cells =
            subst (λ (cs : List Cell). AllByRecursion (NamesExist (length net.ports.domains) (take i net.modules) built.widths) cs) (sym made_of.are_cells) (names_each (length net.ports.domains) (take i net.modules) built.widths cells.cells there reads);
        outputs = subst (λ n. 1 ≤ n → Under n built.outputs) (sym count) (λ l. body.outputs_there (λ v. l));
      }

  pub names_there : (i : ℕ) (built : Module) → slice_get net.modules i ≡ Some built → NamesThere net i built
  names_there i built here =
      let at = module_at (ground_of p of.order) state of.order net.modules i built of.modules here in
      let within = slice_get_within of.order i at.number at.here in
      made_names i (omega (arith, within)) at.number at.it built at.is ((order_behind p state net of).each i at.number at.it at.here at.is) at.made_of

  -- the outputs of a circuit are wires
  pub circuit_outputs : (i : ℕ) → i ≤ length of.order → (m : ℕ) (it : Made) (built : Module) → slice_get state m ≡ Some it → AllBefore p.datas state of.order i (made_in it.body) → (made_of : IsModuleOf (ground_of p of.order) it built) → it.sort ≡ Circuit → AllByRecursion (IsWire built.widths) built.outputs
  circuit_outputs i l m it built is before made_of circuit =
      let body = by_sort i l m it made_of.inputs made_of.cells built.outputs it.sort is before made_of.body refl in
      let count : length built.widths ≡ length made_of.inputs + length made_of.cells.widths = ap (λ (ws : List ℕ). length ws) made_of.are_widths ∙ length-append made_of.inputs made_of.cells.widths in
      subst (λ n. Under n built.outputs) (sym count) (body.outputs_there (λ v. let e : Value ≡ Circuit = sym v ∙ circuit in absurd cc))
