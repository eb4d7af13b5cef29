-- The block of a typed circuit in normal form is ready.
use Rattle.std.proofs.Common.{◌≡◌, ◌<◌, ℕ, List, [], ◌∷◌, ◌++◌, Some, refl, sym, subst}
use Rattle.std.specs.List.{slice_get, AllByRecursion}
use Rattle.std.proofs.lemmas.List.{map-append}
use Rattle.chw_base.specs.declared.index.ConId.{ConId}
use Rattle.chw_types.specs.declared.kind.Kind.{Kind}
use Rattle.chw_types.specs.SamePromises.{SameValues}
use Rattle.chw_types.specs.TypeTree.{TypeTree}
use Rattle.type_ports.specs.Ports.{IsPort}
use Rattle.type_laws.specs.SameKept.{FieldsKeepSame}
use Rattle.chw_terms.specs.declared.scene.Sort.TheVariants.{Circuit}
use Rattle.chw_terms.specs.declared.term.Pattern.{Pattern}
use Rattle.chw_terms.specs.declared.term.Pattern.TheVariants.{OfCon}
use Rattle.chw_terms.specs.TermTree.{TermTree, var, made, letrec, con, case_of, Group, no_alts, alt}
use Rattle.chw_typing.specs.HeadTypes.{PatternOf}
use Rattle.chw_typing.specs.Programs.{IsSound}
use Rattle.chw_typing.specs.Scopes.{Setting, AreTermTypes, declared}
use Rattle.chw_typing.specs.Typing.{HasType, h_letrec, h_case, AreBound, none_bound, bound_and}
use Rattle.chw_layout.specs.EncodingPromises.{ValueIsEncoded}
use Rattle.layout_laws.specs.SameLayout.{SameKeepsMeasure}
use Rattle.rewriting.specs.Origins.{Origins, setting_at}
use Rattle.normal_forms.specs.Circuits.{IsCircuitSide, of_variable, of_register, of_block_ram, of_synchronizer, of_pure, of_lifted, of_call, of_constructor, of_projection, IsLiftedCall, lifted_on_one, lifted_on_more, AreCircuitSides, no_circuit_sides, circuit_side_and, IsCircuitBody, circuit_variable, circuit_letrec}
use Rattle.normal_forms.specs.Normal.{HoldsWidths}
use Rattle.normal_forms.specs.Parts.{EachDeclared}
use Rattle.net_built.specs.Circuits.{IsLifted, lifted_on_one as on_one, lifted_on_more as on_more}
use Rattle.net_built.specs.Terms.{head_of}
use Rattle.net_ready.specs.Ready.{args_of, IsTakenApart, CircuitReady, BlockReady, ready_variable, ready_letrec, GroupReady, ready_none, ready_and, ready_circuit}
use Rattle.net_grounds.specs.Facts.{Facts}
use Rattle.net_means.proofs.NetFits.Scopes.{var_at}
use Rattle.net_means.proofs.NetFits.Shapes.{names}
use Rattle.net_there.proofs.Heads.{are_names, are_types_then_names, of_head}
use Rattle.net_there.proofs.Measured.{HasSomeParts, AllHaveParts, all_more, item_of_all, all_hold_parts, pattern_parts}
use Rattle.net_there.proofs.Signals.{Typed, pure_ready, register_ready, block_ram_ready}

-- the declared types of bindings of circuits are ports
sides_named : {o : Origins} {g : Group} → AreCircuitSides o g → AllByRecursion (λ t. IsPort o.program.datas t) (declared g)
sides_named no_circuit_sides = tt
sides_named (circuit_side_and named form more) = (named, sides_named more)

-- the variables on which a made definition is lifted
lifted_names : {m n : ℕ} {u : TermTree} → IsLiftedCall m u n → (xs : List ℕ) × IsLifted m u (names xs)
lifted_names (lifted_on_one {x = x}) = (x ∷ [], on_one)
lifted_names {m} (lifted_on_more {x = x} more) =
    let rest = lifted_names more in
    (rest.0 ++ x ∷ [], subst (IsLifted m _) (sym (map-append (λ x. var x) rest.0 (x ∷ []))) (on_more rest.1))

-- what a typed projection takes apart
record Projected (s : Setting) (vars : List TypeTree) (x : ℕ) (q : Pattern) : Type 0 where
  of : TypeTree
  held : slice_get vars x ≡ Some of
  fields : List TypeTree
  pattern : PatternOf s.datas of q fields

projected : {s : Setting} {vars : List TypeTree} {x : ℕ} {q : Pattern} {e : TermTree} {t : TypeTree} → HasType s [] vars (case_of (var x) (alt q e no_alts)) t → Projected s vars x q
projected (h_case {u = u} of looked kind b typed of_kind functions more hidden) = record { of = u; held = var_at of; fields = b.fields; pattern = b.pattern }

module _ (facts : Facts) (values : SameValues) (keep : FieldsKeepSame) (law : SameKeepsMeasure) (encoded : ValueIsEncoded) (o : Origins) (sound : IsSound (setting_at o)) where
  lifted_ready : (vars : List TypeTree) (widths : List ℕ) {e : TermTree} {m n : ℕ} → IsLiftedCall m e n → CircuitReady o.program.datas vars widths (head_of e) (args_of e)
  lifted_ready vars widths lifted_on_one = tt
  lifted_ready vars widths {m = m} (lifted_on_more more) = let rest = lifted_names more in (m, rest.0, rest.1)

  projection_ready : {vars : List TypeTree} {t : TypeTree} {x n z : ℕ} {c : ConId} → z < n → AllHaveParts o.program.datas Circuit vars → HasType (setting_at o) [] vars (case_of (var x) (alt (OfCon c n) (var z) no_alts)) t → IsTakenApart o.program.datas vars x c n × (z < n)
  projection_ready {vars} {x = x} less parts typed =
      let p = projected typed in
      let whole = item_of_all (HasSomeParts o.program.datas Circuit) vars x p.of parts p.held in
      let fields = pattern_parts facts p.pattern whole.1 in
      (record { ty = p.of; held = p.held; fields = p.fields; pattern = p.pattern; parts = fields.0; have = fields.1 }, less)

  side_ready : {vars : List TypeTree} {t : TypeTree} {e : TermTree} {widths : List ℕ} → IsCircuitSide o e → AllHaveParts o.program.datas Circuit vars → Typed facts values keep law encoded o sound vars t e widths → CircuitReady o.program.datas vars widths (head_of e) (args_of e)
  side_ready of_variable parts typed = tt
  side_ready (of_register {d = d} {a = a} {c = c} {x = x} constant) parts typed = register_ready facts values keep law encoded o sound d a c x constant typed
  side_ready (of_block_ram {d = d} {n = n} {k = k} {a = a} {c = c} {x = x} {y = y} {w = w} constant wide) parts typed = block_ram_ready facts values keep law encoded o sound d n k a c x y w constant wide typed
  side_ready of_synchronizer parts typed = tt
  side_ready (of_pure {d = d} {a = a} {c = c} constant) parts typed = pure_ready facts values keep law encoded o sound d a c constant typed
  side_ready {vars} {widths = widths} (of_lifted m known value lifted) parts typed = lifted_ready vars widths lifted
  side_ready {vars} {widths = widths} (of_call m xs known circuit count) parts typed = of_head (CircuitReady o.program.datas vars widths) (made m) refl refl [] xs (are_names xs)
  side_ready {vars} {widths = widths} (of_constructor c types xs known count) parts typed = of_head (CircuitReady o.program.datas vars widths) (con c) refl refl types xs (are_types_then_names types xs)
  side_ready (of_projection less) parts typed = projection_ready less parts typed.has

  group_ready : {vars : List TypeTree} {g : Group} {k : Kind} → AreCircuitSides o g → AllHaveParts o.program.datas Circuit (declared g) → AllHaveParts o.program.datas Circuit vars → AreBound (setting_at o) [] vars k g → AreTermTypes (setting_at o) [] vars → GroupReady o.program.datas Circuit vars g
  group_ready no_circuit_sides own parts none_bound scoped = ready_none
  group_ready {vars} (circuit_side_and {t = t} {e = e} named form forms) own parts (bound_and {j = j} kind functions typed same rest) scoped =
      let one : Typed facts values keep law encoded o sound vars t e own.0.0 = record { scoped = scoped; type = _; has = typed; kind = j; of_kind = kind; same = same; parts = own.0.1 } in
      ready_and (ready_circuit own.0.1 (side_ready form parts one)) (group_ready forms own.1 parts rest scoped)

  pub block_ready : {vars : List TypeTree} {e : TermTree} {u : TypeTree} → IsCircuitBody o e → EachDeclared (HoldsWidths o.program.datas) e → AllHaveParts o.program.datas Circuit vars → HasType (setting_at o) [] vars e u → AreTermTypes (setting_at o) [] vars → BlockReady o.program.datas Circuit vars e
  block_ready circuit_variable all parts typed scoped = ready_variable
  block_ready {vars} (circuit_letrec {g = g} {x = x} sides) all parts (h_letrec typed of_kind bound) scoped =
      let own = all_hold_parts o.program.datas Circuit (declared g) (sides_named sides) (all [] (letrec g (var x)) refl) in
      let inside = all_more (HasSomeParts o.program.datas Circuit) (declared g) vars own parts in
      ready_letrec (group_ready sides own inside bound (facts.scopes.typed_more (setting_at o) [] (declared g) vars (facts.scopes.bound_typed bound) scoped))
