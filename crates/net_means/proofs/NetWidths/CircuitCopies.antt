-- Right sides of circuits that copy wires: these are as wide as the parts of the right side's type.
use Rattle.std.specs.Prelude.{drop, take}
use Rattle.std.proofs.Common.{◌≡◌, ℕ, zero, suc, ◌-◌, ◌<◌, arith, List, [], ◌∷◌, ◌++◌, length, map, Some, refl, sym, ap, ◌∙◌, subst}
use Rattle.std.specs.List.{slice_get}
use Rattle.std.proofs.lemmas.List.{append-nil}
use Rattle.chw_base.specs.declared.index.ConId.{ConId}
use Rattle.chw_base.specs.declared.index.WireId.{WireId}
use Rattle.chw_types.specs.declared.declarations.Data.{Data}
use Rattle.chw_types.specs.declared.kind.Kind.{Kind}
use Rattle.chw_types.specs.declared.kind.Kind.TheVariants.{Dom, Val}
use Rattle.type_ports.specs.declared.ports.Leaf.{Leaf}
use Rattle.chw_types.specs.Arguments.{arguments}
use Rattle.chw_types.specs.Kinds.{KindsOf, kind_and}
use Rattle.type_ports.specs.Ports.{LeavesOfAll, no_leaves, leaves_and}
use Rattle.chw_types.specs.SameTypes.{SameTypes}
use Rattle.chw_types.specs.TypeMoves.{Substitution, sub}
use Rattle.chw_types.specs.TypeTree.{TypeTree, TypeTrees, no_types, type_and, ty_var, data_of, signal}
use Rattle.chw_types.specs.TypeView.{trees_of}
use Rattle.type_laws.specs.SameKept.{FieldsKeepSame}
use Rattle.chw_prims.specs.declared.prim.Primitive.TheVariants.{UnsafeSynchronizer}
use Rattle.chw_terms.specs.Constructors.{Constructor, con_at}
use Rattle.chw_terms.specs.declared.scene.Sort.TheVariants.{Circuit}
use Rattle.chw_terms.specs.declared.term.Pattern.TheVariants.{OfCon}
use Rattle.chw_terms.specs.TermTree.{TermTree, var, con, prim, case_of, no_alts, alt}
use Rattle.chw_terms.specs.TermView.{applied}
use Rattle.chw_typing.specs.HeadTypes.{PatternOf, of_con}
use Rattle.chw_typing.specs.Programs.{IsSound}
use Rattle.chw_typing.specs.Scopes.{Setting, HasKind, AreTermTypes, AreSame, with_more}
use Rattle.chw_typing.specs.Typing.{HasType, HasTypeUpTo, h_case, Binds}
use Rattle.chw_layout.specs.Measured.{fits}
use Rattle.layout_laws.specs.SameLayout.{SameKeepsMeasure}
use Rattle.chw_typing.specs.Given.{types_then, AreGiven}
use Rattle.chw_typing.specs.SpineLaws.{ConAtArguments, ConIsSaturated, PrimAtArguments}
use Rattle.net_built.specs.Circuits.{HaveParts, field_wires}
use Rattle.net_built.specs.Data.{HaveWidths, HasParts, port_parts}
use Rattle.net_built.specs.Terms.{Variable, wires_at, wires_of_all}
use Rattle.net_built.specs.Wires.{present, wire_count}
use Rattle.net_grounds.specs.Facts.{Facts}
use Rattle.net_means.proofs.Lists.{same_some}
use Rattle.net_means.specs.NetFits.Widths.{AreWide}
use Rattle.net_means.proofs.NetFits.CircuitDrivers.{AllKinded, fields_kinded, type_count, term_count, types_counted, terms_counted}
use Rattle.net_means.proofs.NetFits.Ports.{payloads, parts_kept, present_append, split, con_leaves, parts_at, signal_part, port_asks}
use Rattle.net_means.proofs.NetFits.Scopes.{Fits, Found, found, var_at, wires_there, bound_fields}
use Rattle.net_means.proofs.NetFits.Shapes.{names}
use Rattle.net_means.proofs.NetFits.WordWidths.{wide_append}
use Rattle.net_means.proofs.NetWidths.PortsWide.{PortsWide, port_wide}
use Rattle.net_means.proofs.NetFits.CircuitDrivers.{new_or_outer, new_one}

-- the widths of all fields together
abbrev all_present : List (List ℕ) → List ℕ
all_present [] = []
all_present (ws ∷ more) = present ws ++ all_present more

module _ (all : List ℕ) where
  -- of wires as wide as these and those, the first and the others
  wide_front : (wires : List WireId) (vs ws : List ℕ) → AreWide all wires (vs ++ ws) → AreWide all (take (length vs) wires) vs
  wide_front [] [] ws h = tt
  wide_front [] (v ∷ vs) ws h = absurd h
  wide_front (a ∷ wires) [] ws h = tt
  wide_front (a ∷ wires) (v ∷ vs) ws h = (h.0, wide_front wires vs ws h.1)

  wide_back : (wires : List WireId) (vs ws : List ℕ) → AreWide all wires (vs ++ ws) → AreWide all (drop (length vs) wires) ws
  wide_back [] [] ws h = h
  wide_back [] (v ∷ vs) ws h = absurd h
  wide_back (a ∷ wires) [] ws h = h
  wide_back (a ∷ wires) (v ∷ vs) ws h = wide_back wires vs ws h.1

  field_wide : (j : ℕ) (parts : List (List ℕ)) (wires : List WireId) (ws : List ℕ) → slice_get parts j ≡ Some ws → AreWide all wires (all_present parts) → AreWide all (field_wires j parts wires) (present ws)
  field_wide j [] wires ws e h = absurd cc
  field_wide zero (x ∷ parts) wires ws e h =
      let is : x ≡ ws = cc in
      subst (λ ws. AreWide all (take (wire_count x) wires) (present ws)) is (wide_front wires (present x) (all_present parts) h)
  field_wide (suc j) (x ∷ parts) wires ws e h = field_wide j parts (drop (wire_count x) wires) ws e (wide_back wires (present x) (all_present parts) h)

-- the parts of a port are those of its fields
leaves_present : Facts → {datas : List Data} {fs : List TypeTree} {σ : Substitution} {ls : List Leaf} → LeavesOfAll datas fs σ ls → (ws : List ℕ) (parts : List (List ℕ)) → HaveWidths datas (payloads ls) ws → HaveParts datas (map (λ f. sub f σ) fs) parts → present ws ≡ all_present parts
leaves_present facts no_leaves [] [] h k = refl
leaves_present facts no_leaves [] (x ∷ parts) h k = absurd k
leaves_present facts no_leaves (w ∷ ws) parts h k = absurd h
leaves_present facts (leaves_and a b) ws [] h k = absurd k
leaves_present facts {datas} (leaves_and {ls = ls} {ms = ms} a b) ws (x ∷ parts) h k =
    let s = split datas ls ms ws h in
    let first : s.first ≡ x = facts.built.parts_once (port_parts a s.have) k.0 in
    let rest = leaves_present facts b s.rest parts s.others k.1 in
    ap (λ ws. present ws) s.are ∙ present_append s.first s.rest ∙ (λ i. present (first i) ++ rest i)

pattern_present : Facts → {datas : List Data} {t : TypeTree} {c : ConId} {n : ℕ} {fields : List TypeTree} {ws : List ℕ} (parts : List (List ℕ)) → PatternOf datas t (OfCon c n) fields → HasParts datas Circuit t ws → HaveParts datas fields parts → present ws ≡ all_present parts
pattern_present facts {datas} {ws = ws} parts (of_con {d = d} {c = c} it known of n) (port_parts l h) k = leaves_present facts (con_leaves facts datas c.number d it known of l) ws parts h k

module _ (facts : Facts) (keep : FieldsKeepSame) (law : SameKeepsMeasure) (s : Setting) (sound : IsSound s) (all : List ℕ) (vars : List TypeTree) (scope : List Variable) (fit : Fits vars scope) (wide : PortsWide s.datas all scope) where
  -- given to fields, variables have wires as wide as the fields' parts
  given_wide : {fs : List TypeTree} {σ : Substitution} {ls : List Leaf} → LeavesOfAll s.datas fs σ ls → (xs ws : List ℕ) → AllKinded s σ fs → AreGiven s [] vars (map (λ f. sub f σ) fs) (names xs) → HaveWidths s.datas (payloads ls) ws
      → AreWide all (wires_of_all scope (names xs)) (present ws)
  given_wide no_leaves [] [] kinded given h = tt
  given_wide no_leaves [] (w ∷ ws) kinded given h = absurd h
  given_wide no_leaves (x ∷ xs) ws kinded given h = absurd given
  given_wide (leaves_and a b) [] ws kinded given h = absurd given
  given_wide {σ = σ} (leaves_and {f = f} {ls = ls} {ms = ms} a b) (x ∷ xs) ws kinded given h =
      let parts = split s.datas ls ms ws h in
      let one = port_wide facts keep law s sound all vars scope x (sub f σ) given.0.type kinded.0.0 parts.first fit wide given.0.has kinded.0.1 given.0.same (port_parts a parts.have) in
      let rest = given_wide b xs parts.rest kinded.1 given.1 parts.others in
      subst (λ ws. AreWide all (wires_at scope x ++ wires_of_all scope (names xs)) ws) (sym (ap (λ ws. present ws) parts.are ∙ present_append parts.first parts.rest)) (wide_append all (wires_at scope x) (wires_of_all scope (names xs)) (present parts.first) (present parts.rest) one rest)

  -- the operands of a product have the wires of its parts
  pub product_wide : ConAtArguments → ConIsSaturated → (c : ℕ) (it : Constructor) (types : List TypeTree) (xs : List ℕ) (t u : TypeTree) (k : Kind) (ws : List ℕ)
      → AreTermTypes s [] vars → con_at s.datas c ≡ Some it → HasType s [] vars (applied (con c) (types_then types (names xs))) u → HasKind s [] t k → SameTypes t u → HasParts s.datas Circuit t ws
      → AreWide all (wires_of_all scope (names xs)) (present ws)
  product_wide arguments_law saturated c it types xs t u k ws scoped known typed kind same has =
      let args = saturated s [] vars c it (types_then types (names xs)) u sound scoped known typed (port_asks facts has u same) in
      let are : types_then types (names xs) ≡ types_then args.0.types args.0.es =
      args.0.are ∙ ap (λ more. types_then args.0.types args.0.es ++ more) args.1 ∙ append-nil (types_then args.0.types args.0.es) in
      let on_types : length types ≡ length it.it.params = sym (types_counted types (names xs)) ∙ ap (λ args. type_count args) are ∙ types_counted args.0.types args.0.es ∙ args.0.on_types in
      let on_terms : length (names xs) ≡ length it.decl.fields = sym (terms_counted types (names xs)) ∙ ap (λ args. term_count args) are ∙ terms_counted args.0.types args.0.es ∙ args.0.on_terms in
      let at = arguments_law s [] vars c it types (names xs) u sound scoped known on_types on_terms typed in
      let whole : HasParts s.datas Circuit (data_of it.of (trees_of types)) ws =
      parts_kept facts keep law s sound t (data_of it.of (trees_of types)) ws (record { kind = k; has = kind; same = facts.same.same_through same (facts.same.same_turned at.2) }) has in
      of_leaves whole (fields_kinded facts s sound c it (trees_of types) known at.0) at.1
    where
      of_leaves : {ts : TypeTrees} → HasParts s.datas Circuit (data_of it.of ts) ws → AllKinded s (arguments ts) it.decl.fields → AreGiven s [] vars (map (λ f. sub f (arguments ts)) it.decl.fields) (names xs) → AreWide all (wires_of_all scope (names xs)) (present ws)
      of_leaves (port_parts l h) kinded given = given_wide (con_leaves facts s.datas c it.of it known refl l) xs ws kinded given h

-- a typed case with one alternative
record OneCase (s : Setting) (vars : List TypeTree) (x n : ℕ) (c : ConId) (e : TermTree) (t : TypeTree) : Type 0 where
  pub of : TypeTree
  pub is : slice_get vars x ≡ Some of
  pub kind : Kind
  pub has : HasKind s [] of kind
  pub bnd : List TypeTree
  pub binding : Binds s [] of (OfCon c n) bnd
  pub typed : HasType s [] (with_more bnd vars) e t

one_case : {s : Setting} {vars : List TypeTree} {x n : ℕ} {c : ConId} {e : TermTree} {t : TypeTree} → HasType s [] vars (case_of (var x) (alt (OfCon c n) e no_alts)) t → OneCase s vars x n c e t
one_case (h_case {bound = bnd} {u = u} {j = j} of looked kind b typed of_kind functions more hidden) = record { of = u; is = var_at of; kind = j; has = kind; bnd = bnd; binding = b; typed = typed }

same_found : {scope : List Variable} {x : ℕ} {t : TypeTree} {it : Variable} → Found scope x t → slice_get scope x ≡ Some it → SameTypes t it.ty
same_found {t = t} {it = it} f e = let is : f.it ≡ it = same_some f.is e in subst (λ (v : Variable). SameTypes t v.ty) is f.same

module _ (facts : Facts) (keep : FieldsKeepSame) (law : SameKeepsMeasure) (s : Setting) (sound : IsSound s) (all : List ℕ) (vars : List TypeTree) (scope : List Variable) (fit : Fits vars scope) (wide : PortsWide s.datas all scope) where
  -- the field that a projection takes has the wires of its parts
  pub projection_wide : (x count z : ℕ) (c : ConId) (it : Variable) (fields : List TypeTree) (parts : List (List ℕ)) (t u : TypeTree) (k : Kind) (ws : List ℕ)
      → z < count → slice_get scope x ≡ Some it → PatternOf s.datas it.ty (OfCon c count) fields → HaveParts s.datas fields parts → HasType s [] vars (case_of (var x) (alt (OfCon c count) (var z) no_alts)) u → HasKind s [] t k → SameTypes t u → HasParts s.datas Circuit t ws
      → AreWide all (field_wires (count - 1 - z) parts it.wires) (present ws)
  projection_wide x count z c it fields parts t u k ws less is pattern have typed kind same has =
      let one = one_case typed in
      let of : SameTypes one.of it.ty = same_found (found facts vars scope x one.of fit one.is) is in
      let same_fields : AreSame one.bnd fields = bound_fields facts s one.of it.ty (OfCon c count) fields one.bnd one.kind sound one.has of one.binding pattern in
      let counted : length one.bnd ≡ count = facts.patterns.binds one.binding in
      let place = new_one one.bnd vars z u (omega (arith, less, counted)) (new_or_outer one.bnd vars z u (var_at one.typed)) in
      let at = place.1 in
      let field = facts.scopes.same_at one.bnd fields place.0 u same_fields place.2 in
      let part = parts_at s.datas fields parts place.0 field.0 have field.1 in
      let kept = parts_kept facts keep law s sound t field.0 ws (record { kind = k; has = kind; same = facts.same.same_through same field.2 }) has in
      let width : part.0 ≡ ws = facts.built.parts_once part.2 kept in
      let number : count - 1 - z ≡ place.0 = omega (arith, at, counted) in
      let h = wide x it is in
      let total : AreWide all it.wires (all_present parts) = subst (AreWide all it.wires) (pattern_present facts parts pattern h.have have) h.wide in
      subst (λ j. AreWide all (field_wires j parts it.wires) (present ws)) (sym number)
      (subst (λ ws. AreWide all (field_wires place.0 parts it.wires) (present ws)) width (field_wide all place.0 parts it.wires part.0 part.1 total))

  third_kind : {d b a : TypeTree} {i j k : Kind} → KindsOf s.datas s.domains [] (type_and d (type_and b (type_and a no_types))) (i ∷ j ∷ k ∷ []) → HasKind s [] a k
  third_kind (kind_and p (kind_and q (kind_and r n))) = r

  -- a signal that crosses into another domain has the wires of its parts
  pub crossing_wide : PrimAtArguments → (d b a : TypeTree) (x : ℕ) (t u : TypeTree) (k : Kind) (ws : List ℕ)
      → AreTermTypes s [] vars → HasType s [] vars (applied (prim UnsafeSynchronizer) (types_then (d ∷ b ∷ a ∷ []) (var x ∷ []))) u → HasKind s [] t k → SameTypes t u → HasParts s.datas Circuit t ws
      → AreWide all (wires_at scope x) (present ws)
  unfolding sub
  crossing_wide prims d b a x t u k ws scoped typed kind same has =
      let args = prims s [] vars UnsafeSynchronizer (Dom ∷ Dom ∷ Val ∷ []) (signal (ty_var 2) (ty_var 0) ∷ []) (signal (ty_var 1) (ty_var 0)) (d ∷ b ∷ a ∷ []) (var x ∷ []) u sound scoped refl refl refl typed in
      let gives : SameTypes (signal b a) u = args.gives in
      let whole : HasParts s.datas Circuit (signal b a) ws = parts_kept facts keep law s sound t (signal b a) ws (record { kind = k; has = kind; same = facts.same.same_through same (facts.same.same_turned gives) }) has in
      let part = signal_part whole in
      let given : HasTypeUpTo s [] vars (var x) (signal d a) = args.args_given.0 in
      let at = found facts vars scope x given.type fit (var_at given.has) in
      let form = facts.same.as_signal (facts.same.same_through given.same at.same) in
      let it = wide x at.it at.is in
      let narrow = signal_part (subst (λ t. HasParts s.datas Circuit t it.parts) form.2 it.have) in
      let carried = law (fits part.0) s a form.1 sound (record { kind = Val; has = third_kind args.have; same = form.4 }) part.1 in
      let width : narrow.0 ≡ part.0 = facts.widths.width_once narrow.1 carried in
      let are : it.parts ≡ ws = narrow.2 ∙ ap (λ w. w ∷ []) width ∙ sym part.2 in
      subst (λ ws. AreWide all (wires_at scope x) (present ws)) are (subst (λ (wires : List WireId). AreWide all wires (present it.parts)) (sym (wires_there scope x at.it at.is)) it.wide)
