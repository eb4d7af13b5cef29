-- Blocks, letrecs, right sides and cases, each by its parts.
use Rattle.std.proofs.Common.{◌≡◌, ◌∙◌, ◌++◌, ◌<◌, ap, sym, subst, refl, arith, ℕ, [], length, take, Some, IfOk}
use Rattle.std.proofs.lemmas.Result.{IfOk-weaker, on_ok_weaker}
use Rattle.std.specs.List.{slice_get}
use Rattle.chw_terms.specs.declared.scene.Sort.TheVariants.{Value}
use Rattle.chw_terms.specs.PartsFall.{alt_smaller, binding_smaller}
use Rattle.chw_terms.specs.declared.term.Head.TheVariants.{Case}
use Rattle.chw_terms.specs.TermSize.{tree_size}
use Rattle.chw_terms.specs.TermTree.{var, letrec, case_of}
use Rattle.chw_terms.specs.TermView.{tree_of, group_of, alts_of}
use Rattle.chw_types.specs.TypeTree.{TypeTree}
use Rattle.chw_typing.specs.Scopes.{declared}
use Rattle.chw_layout.specs.Measured.{HasWidth}
use Rattle.net_built.specs.Circuits.{Ground}
use Rattle.net_built.specs.Data.{tested_of, variables_from, words_of}
use Rattle.net_built.specs.Terms.{head_of, wires_at}
use Rattle.net_built.specs.Wires.{nothing}
use Rattle.net_ready.specs.Drafts.{Known, AltsDrafted, BlockDrafted, drafted_variable, SideDrafted}
use Rattle.net_ready.specs.Ready.{types_on, args_of, AltsReady, BlockReady, GroupReady, SideReady, ValueReady}
use Rattle.value_build.specs.Added.{Adds, next}
use Rattle.value_build.specs.Drafting.{Drafts, AltDrafted, CaseDrafted}
use Rattle.value_build.specs.Groups.{bound_of}
use Rattle.value_build.specs.InScope.{in_scope, as_variable, as_variables}
use Rattle.value_build.specs.ReadyParts.{AltReady, CaseReady, IsMeasured}
use Rattle.value_build.specs.Tests.{first_of, IsChoice, IsTested}
use Rattle.value_build.specs.declared.drafts.Draft.{Draft}
use Rattle.value_build.proofs.DraftParts.{drafts_nothing, drafts_cells, place_there, letrec_drafted, case_drafted, case_side_drafted, alt_drafted}
use Rattle.value_build.proofs.DraftRows.{group_begun, group_grown, group_whole, alts_begun, alts_grown, alts_whole, GroupSoFar, AltsSoFar}
use Rattle.value_build.proofs.Ready.{alt_at, alt_block, block_args, bound_types, case_shape, flat_ready, in_scope_held, letrec_group, letrec_name, name_number, no_other_block, on_there, side_at, side_measured, types_entered}
use Rattle.value_build.proofs.Scopes.{scope_left}
use Rattle.value_build.proofs.Spines.{bare_is}
use Rattle.value_build.proofs.blocks.+blocks.Goals as goal

-- a variable
pub block-returns-in-Var-clause-drafted : goal.block-returns-in-Var-clause-drafted
block-returns-in-Var-clause-drafted t c =
    let args = c.e.inside.args in
    let ground = c.args.base.now in
    let known = c.args.known.now in
    let x : ℕ = c.in-Var.x.number in
    let scope = in_scope c.args.scope.now.items in
    let draft = c.args.draft.now in
    let none = block_args c.e.inside.head args.items c.args.e.now c.e.view_is c.requires in
    let whole : var x ≡ c.args.e.now =
    sym (ap tree_of c.in-Var.is) ∙ sym (bare_is (tree_of c.e.inside.head) args.items none) ∙ c.e.view_is in
    let wires : c.wires_at.result.now ≡ wires_at scope x =
    c.wires_at.ensures ∙ ap (λ vs. wires_at (in_scope vs) x) c.deref.ensures.value in
    IfOk-weaker c.copy_wires.result (λ same. same ≡ c.wires_at.result.now)
    (λ ws. Drafts (λ at n p inner. BlockDrafted ground known at scope n c.args.e.now p ws inner) draft draft)
    (λ ws is. drafts_nothing (λ at n p inner. BlockDrafted ground known at scope n c.args.e.now p ws inner) draft
    (subst (λ f. BlockDrafted ground known (length draft.found.items) scope (next draft.into) f nothing ws []) whole
    (subst (λ vs. BlockDrafted ground known (length draft.found.items) scope (next draft.into) (var x) nothing vs []) (sym (is ∙ wires)) drafted_variable)))
    c.copy_wires.ensures

-- a letrec
pub block-returns-in-LetRec-clause-drafted : goal.block-returns-in-LetRec-clause-drafted
block-returns-in-LetRec-clause-drafted t c =
    let args = c.e.inside.args in
    let scope = in_scope c.args.scope.now.items in
    let none = block_args c.e.inside.head args.items c.args.e.now c.e.view_is c.requires in
    let whole : letrec (group_of c.deref-in-LetRec.result.now) c.deref-in-LetRec-2.result.now ≡ c.args.e.now =
    (λ i. letrec (group_of (c.deref-in-LetRec.ensures.value i)) (c.deref-in-LetRec-2.ensures i)) ∙ sym (ap tree_of c.in-LetRec.is)
    ∙ sym (bare_is (tree_of c.e.inside.head) args.items none) ∙ c.e.view_is in
    subst (λ f. IfOk c.letrec.result (λ ws. Drafts (λ at n p inner. BlockDrafted c.args.base.now c.args.known.now at scope n f p ws inner) c.args.draft.now c.letrec.new.draft)) whole c.letrec.ensures.drafted

pub letrec-fill-requires : goal.letrec-fill-requires
letrec-fill-requires t c =
    let opened = c.in_ok-place.ensures in
    let drafted = c.in_ok-found.ensures.drafted in
    place_there c.args.draft.now.found.items c.make_place.new.self.found.items c.sides.new.draft.found.items drafted.inner c.in_ok-place.place opened.at opened.found drafted.found

pub letrec-returns-clause-drafted : goal.letrec-returns-clause-drafted
letrec-returns-clause-drafted t c =
    let ground = c.args.base.now in
    let known = c.args.known.now in
    let outer = as_variables c.args.scope.now.items in
    let inner = as_variables c.enter.new.scope.items in
    let x : ℕ = c.name_of-x.result.number in
    let place : ℕ = c.in_ok-place.place in
    let s = c.args.draft.now in
    let v = c.fill.new.self in
    let group = group_of c.args.bindings.now in
    let bound = c.in_ok-enter.ensures ∙ ap (λ ws. outer ++ bound_of c.args.bindings.now ws) c.known_at.ensures in
    IfOk-weaker c.copy_wires-result.result (λ same. same ≡ c.wires_at.result.now)
    (λ ws. Drafts (λ at n p within. BlockDrafted ground known at (in_scope c.args.scope.now.items) n (letrec group c.args.body.now) p ws within) s v)
    (λ ws is. subst (λ f. Drafts (λ at n p within. BlockDrafted ground known at (in_scope c.args.scope.now.items) n (letrec group f) p ws within) s v)
    (sym c.name_of-x.ensures)
    (letrec_drafted ground known c.args.bindings.now x place c.in_ok-found.found.items ws outer inner s c.make_place.new.self c.sides.new.draft v
    c.in_ok-place.ensures bound (is ∙ c.wires_at.ensures ∙ ap (λ vs. wires_at (in_scope vs) x) (c.deref.ensures.value ∙ c.in_ok-found.ensures.scope))
    c.in_ok-found.ensures.drafted c.fill.ensures))
    c.copy_wires-result.ensures

pub letrec-returns-clause-scope : goal.letrec-returns-clause-scope
letrec-returns-clause-scope t c =
    let outer = c.args.scope.now.items in
    let left : c.len-left.result ≡ length outer = c.len-left.ensures ∙ c.args.scope.now.ok.0 in
    IfOk-weaker c.copy_wires-result.result (λ same. same ≡ c.wires_at.result.now) (λ _. c.truncate.new.self.items ≡ outer)
    (λ _ _. c.truncate.ensures.items
    ∙ (λ i. take (left i) ((c.in_ok-found.ensures.scope) i))
    ∙ scope_left outer c.enter.new.scope.items (bound_of c.args.bindings.now c.known_at.result.now) c.in_ok-enter.ensures)
    c.copy_wires-result.ensures

-- a case
pub case-returns-clause-drafted : goal.case-returns-clause-drafted
case-returns-clause-drafted t c =
    let ground = c.args.base.now in
    let known = c.args.known.now in
    let scope = in_scope c.args.scope.now.items in
    let it = as_variable c.in_ok-it.it in
    let x : ℕ = c.name_of-x.result.number in
    let alts = alts_of c.args.alts.now in
    let s = c.args.draft.now in
    let u = c.case_on-wires.new.draft in
    let w = c.args.w in
    let held : slice_get scope x ≡ Some it =
    subst (λ vs. slice_get (in_scope vs) x ≡ Some it) c.deref.ensures.value c.in_ok-it.ensures in
    IfOk-weaker c.case_on-wires.result (λ ws. Drafts (λ at n p inner. CaseDrafted ground known at scope it n w alts p ws inner) s u)
    (λ ws. (ty : TypeTree) → HasWidth ground.datas ty w
    → Drafts (λ at n p inner. SideDrafted ground known at scope n ty (case_of c.args.on.now alts) p ws inner) s u)
    (λ ws drafted ty measured. subst (λ f. Drafts (λ at n p inner. SideDrafted ground known at scope n ty (case_of f alts) p ws inner) s u) (sym c.name_of-x.ensures)
    (case_side_drafted ground known scope it x w alts ty ws s u held measured drafted))
    c.case_on-wires.ensures.drafted

-- an alternative
pub alternative-returns-clause-drafted : goal.alternative-returns-clause-drafted
alternative-returns-clause-drafted t c =
    let ground = c.args.base.now in
    let known = c.args.known.now in
    let it = as_variable c.args.it.now in
    let s = c.args.draft.now in
    let m : Draft = record { into = c.bind_fields.new.into; found = s.found } in
    let u = c.block-wires.new.draft in
    let inner = c.bind_fields.new.scope.items in
    let a = c.args.alt.now in
    IfOk-weaker c.block-wires.result
    (λ ws. Drafts (λ at n p within. BlockDrafted c.bind_fields.new.base known at (in_scope inner) n a.body p ws within) m u)
    (λ ws. Drafts (λ at n p within. AltDrafted ground known at (in_scope c.args.scope.now.items) it c.args.below n a.pattern a.body p ws within) s u)
    (λ ws drafted. alt_drafted ground known it c.args.below a.pattern a.body ws (as_variables c.args.scope.now.items) (as_variables inner) s m u
    c.in_ok-bind_fields.ensures.bound refl
    (subst (λ (g : Ground). Drafts (λ at n p within. BlockDrafted g known at (in_scope inner) n a.body p ws within) m u) c.bind_fields.ensures.base drafted))
    c.block-wires.ensures.drafted

pub alternative-returns-clause-scope : goal.alternative-returns-clause-scope
alternative-returns-clause-scope t c =
    let outer = c.args.scope.now.items in
    let inner = c.bind_fields.new.scope.items in
    let fields = c.in_ok-bind_fields.ensures.bound.are in
    let left : c.len-left.result ≡ length outer = c.len-left.ensures ∙ c.args.scope.now.ok.0 in
    on_ok_weaker c.block-wires.result
    (λ same. c.truncate.ensures.items
    ∙ (λ i. take (left i) (same i))
    ∙ scope_left outer inner (variables_from (next c.args.draft.now.into) c.in_ok-bind_fields.ensures.bound.fields fields.widths) fields.bound)
    c.block-wires.ensures.scope

-- the right sides
pub sides-loop-binding-init : goal.sides-loop-binding-init
sides-loop-binding-init t c =
    let ground = c.args.base.now in
    let scope = in_scope c.args.scope.now.items in record {
      drafted = subst (λ ws. Drafts (λ at n p inner. GroupSoFar ground c.args.known.now at scope n c.args.bindings.now 0 ws inner p) c.args.draft.now c.args.draft.now)
          (sym c.new-found.ensures.items) (group_begun ground c.args.known.now scope c.args.bindings.now c.args.draft.now);
      scope = refl;
      base = refl;
    }

pub sides-loop-binding-preserved : goal.sides-loop-binding-preserved
sides-loop-binding-preserved t c =
    let so = c.loop-binding.invariant in
    let known = c.args.known.now in
    let b = c.binding-item.result in
    let ws = c.in_ok-side.field-0 in
    let m = c.loop-binding.draft in
    let u = c.side.new.draft in record {
      drafted = group_grown c.args.base.now known (in_scope c.args.scope.now.items) c.args.bindings.now c.loop-binding.binding-index b
          c.loop-binding.found.items c.push.new.self.items ws c.args.draft.now m u
          c.loop-binding-test.true c.binding-item.is c.in_ok-push.ensures.items so.drafted
          (subst (λ vs. Drafts (λ at n p inner. SideDrafted c.args.base.now known at (in_scope vs) n b.ty b.body p ws inner) m u) so.scope
          (subst (λ (g : Ground). Drafts (λ at n p inner. SideDrafted g known at (in_scope c.loop-binding.scope.items) n b.ty b.body p ws inner) m u) so.base
          c.in_ok-side.ensures.drafted));
      scope = c.in_ok-side.ensures.scope ∙ so.scope;
      base = c.side.ensures.base ∙ so.base;
    }

pub sides-returns-clause-drafted : goal.sides-returns-clause-drafted
sides-returns-clause-drafted t c =
    group_whole c.args.base.now c.args.known.now (in_scope c.args.scope.now.items) c.args.bindings.now c.loop-binding.binding-index c.loop-binding.found.items
    c.args.draft.now c.loop-binding.draft (omega (arith, c.loop-binding-test.false)) c.loop-binding.invariant.drafted

-- the alternatives
pub alternatives-loop-alt-init : goal.alternatives-loop-alt-init
alternatives-loop-alt-init t c =
    let ground = c.args.base.now in
    let scope = in_scope c.args.scope.now.items in
    let it = as_variable c.args.it.now in record {
      drafted = subst (λ ws. Drafts (λ at n p inner. AltsSoFar ground c.args.known.now at scope it c.args.below n c.args.alts.now 0 ws inner p) c.args.draft.now c.args.draft.now)
          (sym c.new-results.ensures.items) (alts_begun ground c.args.known.now scope it c.args.below c.args.alts.now c.args.draft.now);
      scope = refl;
      base = refl;
    }

pub alternatives-loop-alt-preserved : goal.alternatives-loop-alt-preserved
alternatives-loop-alt-preserved t c =
    let so = c.loop-alt.invariant in
    let known = c.args.known.now in
    let ws = c.in_ok-alternative.field-0 in
    let a = c.alt-item.result in
    let m = c.loop-alt.draft in
    let u = c.alternative.new.draft in
    let it = as_variable c.args.it.now in record {
      drafted = alts_grown c.args.base.now known (in_scope c.args.scope.now.items) it c.args.below c.args.alts.now c.loop-alt.alt-index a
          c.loop-alt.results.items c.push.new.self.items ws c.args.draft.now m u
          c.loop-alt-test.true c.alt-item.is c.in_ok-push.ensures.items so.drafted
          (subst (λ vs. Drafts (λ at n p inner. AltDrafted c.args.base.now known at (in_scope vs) it c.args.below n a.pattern a.body p ws inner) m u) so.scope
          (subst (λ (g : Ground). Drafts (λ at n p inner. AltDrafted g known at (in_scope c.loop-alt.scope.items) it c.args.below n a.pattern a.body p ws inner) m u) so.base
          c.in_ok-alternative.ensures.drafted));
      scope = c.in_ok-alternative.ensures.scope ∙ so.scope;
      base = c.alternative.ensures.base ∙ so.base;
    }

pub alternatives-returns-clause-drafted : goal.alternatives-returns-clause-drafted
alternatives-returns-clause-drafted t c =
    alts_whole c.args.base.now c.args.known.now (in_scope c.args.scope.now.items) (as_variable c.args.it.now) c.args.below c.args.alts.now c.loop-alt.alt-index c.loop-alt.results.items
    c.args.draft.now c.loop-alt.draft (omega (arith, c.loop-alt-test.false)) c.loop-alt.invariant.drafted

-- each part is ready
pub block-unreachable-requires : goal.block-unreachable-requires
block-unreachable-requires t c =
    no_other_block c.e.inside.head c.e.inside.args.items c.args.e.now c.e.view_is c.requires c.in_default.not-Var c.in_default.not-LetRec

pub block-letrec-requires : goal.block-letrec-requires
block-letrec-requires t c =
    let args = c.e.inside.args in
    let types = types_on (in_scope c.args.scope.now.items) in
    let none = block_args c.e.inside.head args.items c.args.e.now c.e.view_is c.requires in
    let whole : letrec (group_of c.deref-in-LetRec.result.now) c.deref-in-LetRec-2.result.now ≡ c.args.e.now =
    (λ i. letrec (group_of (c.deref-in-LetRec.ensures.value i)) (c.deref-in-LetRec-2.ensures i)) ∙ sym (ap tree_of c.in-LetRec.is)
    ∙ sym (bare_is (tree_of c.e.inside.head) args.items none) ∙ c.e.view_is in
    let size : tree_size (letrec (group_of c.deref-in-LetRec.result.now) c.deref-in-LetRec-2.result.now) ≡ tree_size c.args.e.now = ap tree_size whole in
    (omega (arith, c.decreases, size), subst (λ f. BlockReady c.args.base.now.datas Value types f) (sym whole) c.requires)

pub letrec-name_of-x-requires : goal.letrec-name_of-x-requires
letrec-name_of-x-requires t c = letrec_name c.requires

pub letrec-sides-requires : goal.letrec-sides-requires
letrec-sides-requires t c =
    let outer = as_variables c.args.scope.now.items in
    let inner = as_variables c.enter.new.scope.items in
    let group = group_of c.args.bindings.now in
    let wires = c.known_at.result.now in
    let types = types_entered outer inner (bound_of c.args.bindings.now wires) (declared group) c.in_ok-enter.ensures (bound_types c.args.bindings.now wires) in
    (omega (arith, c.decreases), subst (λ ts. GroupReady c.args.base.now.datas Value ts group) (sym types) (letrec_group c.requires))

pub sides-side-requires : goal.sides-side-requires
sides-side-requires t c =
    let so = c.loop-binding.invariant in
    let b = c.binding-item.result in
    let here = side_at c.args.bindings.now c.loop-binding.binding-index b c.requires c.loop-binding-test.true c.binding-item.is in (
      omega (arith, c.decreases, binding_smaller c.args.bindings.now c.loop-binding.binding-index b _ c.loop-binding-test.true c.binding-item.is),
      subst (λ (g : Ground). SideReady g.datas Value (types_on (in_scope c.loop-binding.scope.items)) b.ty b.body) (sym so.base)
          (subst (λ vs. SideReady c.args.base.now.datas Value (types_on (in_scope vs)) b.ty b.body) (sym so.scope) here),
    )

pub side-width-requires : goal.side-width-requires
side-width-requires t c = side_measured c.requires

pub side-case-requires : goal.side-case-requires
side-case-requires t c =
    let g = c.args.base.now in
    let ty = c.args.t.now in
    let e = c.args.e.now in
    let types = types_on (in_scope c.args.scope.now.items) in
    let inside = c.e.inside in
    let on = c.deref.result.now in
    let alts = alts_of c.deref-in-Case.result.now in
    let shape = case_shape g.datas types inside.head inside.args.items ty e c.in-Case.on c.in-Case.alts c.e.view_is c.requires c.in-Case.is in
    let same : tree_of (Case c.in-Case.on c.in-Case.alts) ≡ case_of on alts =
    λ i. case_of (sym c.deref.ensures i) (alts_of (sym c.deref-in-Case.ensures.value i)) in
    let whole : case_of on alts ≡ e =
    sym same ∙ sym (ap tree_of c.in-Case.is) ∙ sym (bare_is (tree_of inside.head) inside.args.items shape.0) ∙ c.e.view_is in
    let ready : CaseReady g.datas types on alts =
    subst (λ f. CaseReady g.datas types f alts) (sym c.deref.ensures)
    (subst (λ xs. CaseReady g.datas types c.in-Case.on.value (alts_of xs)) (sym c.deref-in-Case.ensures.value) shape.1) in
    (omega (arith, c.decreases, ap tree_size whole), subst (λ (k : Ground). CaseReady k.datas types on alts) (sym c.width.ensures.same) ready)

pub side-returns-in-Case-clause-drafted : goal.side-returns-in-Case-clause-drafted
side-returns-in-Case-clause-drafted t c =
    let g = c.args.base.now in
    let h = c.width.new.self in
    let known = c.args.known.now in
    let ty = c.args.t.now in
    let e = c.args.e.now in
    let scope = in_scope c.args.scope.now.items in
    let s = c.args.draft.now in
    let v = c.case.new.draft in
    let inside = c.e.inside in
    let w = c.in_ok-w.w in
    let on = c.deref.result.now in
    let alts = alts_of c.deref-in-Case.result.now in
    let shape = case_shape g.datas (types_on scope) inside.head inside.args.items ty e c.in-Case.on c.in-Case.alts c.e.view_is c.requires c.in-Case.is in
    let same : tree_of (Case c.in-Case.on c.in-Case.alts) ≡ case_of on alts =
    λ i. case_of (sym c.deref.ensures i) (alts_of (sym c.deref-in-Case.ensures.value i)) in
    let whole : case_of on alts ≡ e =
    sym same ∙ sym (ap tree_of c.in-Case.is) ∙ sym (bare_is (tree_of inside.head) inside.args.items shape.0) ∙ c.e.view_is in
    IfOk-weaker c.case.result
    (λ ws. (u : TypeTree) → HasWidth h.datas u w → Drafts (λ at n p inner. SideDrafted h known at scope n u (case_of on alts) p ws inner) s v)
    (λ ws. Drafts (λ at n p inner. SideDrafted g known at scope n ty e p ws inner) s v)
    (λ ws drafted. subst (λ f. Drafts (λ at n p inner. SideDrafted g known at scope n ty f p ws inner) s v) whole
    (subst (λ (k : Ground). Drafts (λ at n p inner. SideDrafted k known at scope n ty (case_of on alts) p ws inner) s v) c.width.ensures.same
    (drafted ty (subst (λ (k : Ground). HasWidth k.datas ty w) (sym c.width.ensures.same) c.in_ok-w.ensures.width))))
    c.case.ensures.drafted

pub side-returns-in_default-clause-drafted : goal.side-returns-in_default-clause-drafted
side-returns-in_default-clause-drafted t c =
    let g = c.args.base.now in
    let h = c.width.new.self in
    let known = c.args.known.now in
    let ty = c.args.t.now in
    let e = c.args.e.now in
    let s = c.args.draft.now in
    let v : Draft = record { into = c.flat_side.new.into; found = s.found } in
    let w = c.in_ok-w.w in
    let scope = in_scope c.args.scope.now.items in
    let held : in_scope c.deref-in_default.result.now ≡ scope = ap in_scope c.deref-in_default.ensures.value in
    let at : ℕ = length s.found.items in
    IfOk-weaker c.flat_side.result
    (λ ws. (known : Known) (at : ℕ) (u : TypeTree) → HasWidth h.datas u w → Adds (λ p. SideDrafted h known at (in_scope c.deref-in_default.result.now) (next s.into) u e p ws []) s.into v.into)
    (λ ws. Drafts (λ at n p inner. SideDrafted g known at scope n ty e p ws inner) s v)
    (λ ws drafted. drafts_cells (λ at n p inner. SideDrafted g known at scope n ty e p ws inner) s v refl
    (subst (λ vs. Adds (λ p. SideDrafted g known at vs (next s.into) ty e p ws []) s.into v.into) held
    (subst (λ (k : Ground). Adds (λ p. SideDrafted k known at (in_scope c.deref-in_default.result.now) (next s.into) ty e p ws []) s.into v.into) c.width.ensures.same
    (drafted known at ty (subst (λ (k : Ground). HasWidth k.datas ty w) (sym c.width.ensures.same) c.in_ok-w.ensures.width)))))
    c.flat_side.ensures.drafted

pub side-flat_side-requires : goal.side-flat_side-requires
side-flat_side-requires t c =
    let ty = c.args.t.now in
    let e = c.args.e.now in
    let types = types_on (in_scope c.args.scope.now.items) in
    let inside = c.e.inside in
    subst (λ (g : Ground). ValueReady g.datas (head_of e) (args_of e)) (sym c.width.ensures.same)
    (flat_ready c.args.base.now.datas types inside.head inside.args.items ty e c.e.view_is c.requires c.in_default.not-Case)

pub case-name_of-x-requires : goal.case-name_of-x-requires
case-name_of-x-requires t c = (c.requires.x, c.requires.is)

pub case-variable_at-requires : goal.case-variable_at-requires
case-variable_at-requires t c =
    let same = name_number c.requires.x c.name_of-x.result.number (sym c.requires.is ∙ c.name_of-x.ensures) in
    subst (λ vs. c.name_of-x.result.number < length vs) (sym c.deref.ensures.value)
    (in_scope_held c.args.scope.now.items c.name_of-x.result.number c.requires.ty (subst (λ x. slice_get (types_on (in_scope c.args.scope.now.items)) x ≡ Some c.requires.ty) same c.requires.held))

pub case-case_on-wires-requires : goal.case-case_on-wires-requires
case-case_on-wires-requires t c =
    let datas = c.args.base.now.datas in
    let scope = in_scope c.args.scope.now.items in
    let it = as_variable c.in_ok-it.it in
    let x = c.name_of-x.result.number in
    let same = name_number c.requires.x x (sym c.requires.is ∙ c.name_of-x.ensures) in
    let held : slice_get scope x ≡ Some it =
    subst (λ vs. slice_get (in_scope vs) x ≡ Some it) c.deref.ensures.value c.in_ok-it.ensures in
    let ty : it.ty ≡ c.requires.ty = on_there scope x c.requires.ty it (subst (λ y. slice_get (types_on scope) y ≡ Some c.requires.ty) same c.requires.held) held in (
      omega (arith, c.decreases),
      (
        subst (IsMeasured datas) (sym ty) c.requires.measured,
        subst (λ u. AltsReady datas (types_on scope) u (alts_of c.args.alts.now)) (sym ty) c.requires.alternatives,
      ),
    )

pub alternatives-alternative-requires : goal.alternatives-alternative-requires
alternatives-alternative-requires t c =
    let so = c.loop-alt.invariant in
    let a = c.alt-item.result in
    let u = c.args.it.now.ty in
    let here = alt_at c.args.alts.now c.loop-alt.alt-index a c.requires c.loop-alt-test.true c.alt-item.is in (
      omega (arith, c.decreases, alt_smaller c.args.alts.now c.loop-alt.alt-index a _ c.loop-alt-test.true c.alt-item.is),
      subst (λ (g : Ground). AltReady g.datas (types_on (in_scope c.loop-alt.scope.items)) u a.pattern a.body) (sym so.base)
          (subst (λ vs. AltReady c.args.base.now.datas (types_on (in_scope vs)) u a.pattern a.body) (sym so.scope) here),
    )

pub alternative-bind_fields-requires : goal.alternative-bind_fields-requires
alternative-bind_fields-requires t c = c.requires.pattern

pub alternative-block-wires-requires : goal.alternative-block-wires-requires
alternative-block-wires-requires t c =
    let datas = c.args.base.now.datas in
    let a = c.args.alt.now in
    let bound = c.in_ok-bind_fields.ensures.bound in
    let outer = as_variables c.args.scope.now.items in
    let inner = as_variables c.bind_fields.new.scope.items in
    let ready = alt_block datas outer inner c.args.it.now.ty a.pattern a.body bound.fields bound.are.widths (next c.args.draft.now.into) c.requires bound.binds bound.are.are bound.are.bound in (
      omega (arith, c.decreases),
      subst (λ (g : Ground). BlockReady g.datas Value (types_on (in_scope c.bind_fields.new.scope.items)) a.body) (sym c.bind_fields.ensures.base) ready,
    )

pub case_on-alternatives-requires : goal.case_on-alternatives-requires
case_on-alternatives-requires t c = (
  omega (arith, c.decreases),
  subst (λ (g : Ground). AltsReady g.datas (types_on (in_scope c.args.scope.now.items)) c.args.it.now.ty (alts_of c.args.alts.now)) (sym c.width.ensures.same) c.requires.ready,
)

pub case_on-choice-requires : goal.case_on-choice-requires
case_on-choice-requires t c = (
  types_on (in_scope c.args.scope.now.items),
  subst (λ (g : Ground). AltsReady g.datas (types_on (in_scope c.args.scope.now.items)) c.args.it.now.ty (alts_of c.args.alts.now)) (sym (c.alternatives.ensures.base ∙ c.width.ensures.same)) c.requires.ready,
)

-- a case on a variable
pub case_on-returns-clause-drafted : goal.case_on-returns-clause-drafted
case_on-returns-clause-drafted t c =
    let g = c.args.base.now in
    let h = c.width.new.self in
    let k = c.alternatives.new.base in
    let known = c.args.known.now in
    let scope = in_scope c.args.scope.now.items in
    let it = as_variable c.args.it.now in
    let alts = alts_of c.args.alts.now in
    let w = c.args.w in
    let on = c.in_ok-on.on in
    let whole = c.in_ok-whole.whole in
    let below = c.saturating_sub-below.result in
    let results = c.in_ok-results.results.items in
    let given = c.deref.result.now in
    let s = c.args.draft.now in
    let m : Draft = record { into = c.cut_tested.new.into; found = s.found } in
    let u = c.alternatives.new.draft in
    let v : Draft = record { into = c.choice.new.into; found = u.found } in
    let same : k ≡ g = c.alternatives.ensures.base ∙ c.width.ensures.same in
    let tested = subst (λ (l : Ground). IsTested (tested_of l.datas it.ty whole (next s.into) it.wires) s.into m.into on) c.width.ensures.same c.in_ok-on.ensures in
    let built = subst (λ b. Drafts (λ at n p inner. AltsDrafted g known at scope it b n alts p results inner) m u) c.saturating_sub-below.ensures
    (subst (λ (l : Ground). Drafts (λ at n p inner. AltsDrafted l known at scope it below n alts p results inner) m u) c.width.ensures.same c.in_ok-results.ensures.drafted) in
    IfOk-weaker c.choice.result
    (IsChoice on.bits on.wires (words_of on.bits (first_of k.datas it.ty) alts) given w u.into v.into)
    (λ ws. Drafts (λ at n p inner. CaseDrafted g known at scope it n w alts p ws inner) s v)
    (λ ws chosen. case_drafted g known scope it whole w alts results ws on s m u v c.in_ok-whole.ensures.width tested refl built
    (subst (λ rs. IsChoice on.bits on.wires (words_of on.bits (first_of g.datas it.ty) alts) rs w u.into v.into ws) c.deref.ensures.value
    (subst (λ (l : Ground). IsChoice on.bits on.wires (words_of on.bits (first_of l.datas it.ty) alts) given w u.into v.into ws) same chosen))
    refl)
    c.choice.ensures
