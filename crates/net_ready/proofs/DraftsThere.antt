-- Of the block of a value that is ready there is a pass, whatever is known.
use Rattle.std.proofs.Common.{◌≡◌, ℕ, suc, ◌+◌, ◌-◌, List, ◌++◌, length, reverse, refl, sym, subst}
use Rattle.chw_base.specs.declared.index.WireId.{WireId}
use Rattle.chw_types.specs.declared.declarations.Data.{Data}
use Rattle.chw_types.specs.TypeTree.{TypeTree}
use Rattle.chw_terms.specs.declared.scene.Sort.TheVariants.{Value}
use Rattle.chw_terms.specs.TermTree.{TermTree, Group, Alts}
use Rattle.chw_typing.specs.HeadTypes.{PatternOf}
use Rattle.chw_typing.specs.Scopes.{declared}
use Rattle.chw_layout.specs.Measured.{HasWidth}
use Rattle.net_built.specs.Bodies.{ValueCells}
use Rattle.net_built.specs.Circuits.{Ground}
use Rattle.net_built.specs.Data.{field_cuts, Tested, tested_of, variables_from}
use Rattle.net_built.specs.Terms.{head_of, types_of, Variable}
use Rattle.net_built.specs.Wires.{Piece, after}
use Rattle.net_ready.specs.Drafts.{Known, known_at, on_wires, BlockDrafted, drafted_variable, drafted_letrec, GroupDrafted, drafted_none, drafted_and, SideDrafted, drafted_side, drafted_case, AltsDrafted, drafted_no_alts, drafted_alt}
use Rattle.net_ready.specs.Ready.{types_on, args_of, BlockReady, ready_variable, ready_letrec, GroupReady, ready_none, ready_and, SideReady, ready_value, ready_case, AltsReady, ready_no_alts, ready_alt}
use Rattle.net_ready.proofs.Arguments.{terms_among, types_are, terms_are}
use Rattle.net_ready.proofs.Scopes.{types_on_wires, field_types, types_with_more, variable_there}
use Rattle.net_ready.proofs.ValueSides.{value_cells}

abbrev over : List Data → List ℕ → Ground
over datas order = record { datas = datas; order = order }

mutual
  block_draft : (datas : List Data) (order : List ℕ) (known : Known) {vars : List TypeTree} {e : TermTree} → BlockReady datas Value vars e → (at : ℕ) (scope : List Variable) (n : ℕ) → types_on scope ≡ vars
      → (p : Piece) × (wires : List WireId) × (found : Known) × BlockDrafted (over datas order) known at scope n e p wires found
  block_draft datas order known ready_variable at scope n types = (_, _, _, drafted_variable)
  block_draft datas order known {vars} (ready_letrec {g = g} group) at scope n types =
      let bound : List Variable = on_wires (declared g) (known_at known at) in
      let inside = types_with_more bound scope (declared g) vars (types_on_wires (declared g) (known_at known at)) types in
      let all = group_draft datas order known group (suc at) (reverse bound ++ scope) n inside in
      (_, _, _, drafted_letrec all.3)

  group_draft : (datas : List Data) (order : List ℕ) (known : Known) {vars : List TypeTree} {g : Group} → GroupReady datas Value vars g → (at : ℕ) (scope : List Variable) (n : ℕ) → types_on scope ≡ vars
      → (p : Piece) × (found : List (List WireId)) × (inner : Known) × GroupDrafted (over datas order) known at scope n g p found inner
  group_draft datas order known ready_none at scope n types = (_, _, _, drafted_none)
  group_draft datas order known (ready_and side more) at scope n types =
      let first = side_draft datas order known side at scope n types in
      let rest = group_draft datas order known more (at + length first.2) scope (after n first.0) types in
      (_, _, _, drafted_and first.3 rest.3)

  side_draft : (datas : List Data) (order : List ℕ) (known : Known) {vars : List TypeTree} {t : TypeTree} {e : TermTree} → SideReady datas Value vars t e → (at : ℕ) (scope : List Variable) (n : ℕ) → types_on scope ≡ vars
      → (p : Piece) × (wires : List WireId) × (inner : Known) × SideDrafted (over datas order) known at scope n t e p wires inner
  side_draft datas order known (ready_value {e = e} {w = w} width ready) at scope n types =
      let c = value_cells (over datas order) scope n w (head_of e) (args_of e) ready in
      let p : Piece = c.0 in
      let typed = subst (λ ts. ValueCells (over datas order) scope n w (head_of e) ts (terms_among (args_of e)) p) (types_are e) c.1 in
      let cells = subst (λ es. ValueCells (over datas order) scope n w (head_of e) (types_of e) es p) (terms_are e) typed in
      (_, _, _, drafted_side width cells)
  side_draft datas order known {vars} (ready_case {x = x} {whole = whole} {u = u} held measured width ready) at scope n types =
      let it = variable_there scope vars x u types held in
      let on : Tested = tested_of datas it.0.ty whole n it.0.wires in
      let alts = alts_draft datas order known ready at scope it.0 (whole - on.bits) (after n on.cells) types it.2 in
      (_, _, _, drafted_case on it.1 (subst (λ t. HasWidth datas t whole) (sym it.2) measured) width refl alts.3)

  alts_draft : (datas : List Data) (order : List ℕ) (known : Known) {vars : List TypeTree} {u : TypeTree} {alts : Alts} → AltsReady datas vars u alts → (at : ℕ) (scope : List Variable) (it : Variable) (below n : ℕ) → types_on scope ≡ vars → it.ty ≡ u
      → (p : Piece) × (results : List (List WireId)) × (inner : Known) × AltsDrafted (over datas order) known at scope it below n alts p results inner
  alts_draft datas order known ready_no_alts at scope it below n types ty = (_, _, _, drafted_no_alts)
  alts_draft datas order known {vars} (ready_alt {fields = fields} {q = q} widths pattern have block more) at scope it below n types ty =
      let p : Piece = field_cuts below it.wires widths n in
      let front : List Variable = variables_from n fields widths in
      let inside = types_with_more front scope fields vars (field_types datas fields widths n have) types in
      let first = block_draft datas order known block at (reverse front ++ scope) (after n p) inside in
      let rest = alts_draft datas order known more (at + length first.2) scope it below (after (after n p) first.0) types ty in
      (_, _, _, drafted_alt widths (subst (λ t. PatternOf datas t q fields) (sym ty) pattern) have refl first.3 rest.3)

pub draft_there : (ground : Ground) (known : Known) {vars : List TypeTree} {e : TermTree} → BlockReady ground.datas Value vars e → (at : ℕ) (scope : List Variable) (n : ℕ) → types_on scope ≡ vars
    → (p : Piece) × (wires : List WireId) × (found : Known) × BlockDrafted ground known at scope n e p wires found
draft_there ground known ready at scope n types = block_draft ground.datas ground.order known ready at scope n types
