-- A body in normal form is blocked nowhere.
use Rattle.std.proofs.Common.{◌≡◌, ◌⊎◌, inl, inr, ℕ, true, List, [], ◌∷◌, ◌++◌, map, length, Some, refl, sym, ap, ◌∙◌, subst}
use Rattle.std.specs.Prelude.{option_and_then}
use Rattle.std.specs.List.{slice_get, AllByRecursion}
use Rattle.chw_types.specs.declared.declarations.Data.{Data}
use Rattle.type_ports.specs.Ports.{IsPort}
use Rattle.type_ports.specs.Representable.{Representable}
use Rattle.chw_types.specs.SameTypes.{SameTypes}
use Rattle.chw_types.specs.TypeMoves.{sub}
use Rattle.chw_types.specs.TypeTree.{TypeTree, ty_var, fun, signal}
use Rattle.chw_types.specs.declared.kind.Kind.TheVariants.{Dom, Val}
use Rattle.type_laws.proofs.SameForms.{as_signal}
use Rattle.chw_prims.specs.declared.prim.Primitive.{Primitive as Prim}
use Rattle.chw_prims.specs.declared.prim.Primitive.TheVariants.{VGet, VGetC, VAt, Fmap, Ap}
use Rattle.chw_prims.specs.Schemas.{row_of, schema_type}
use Rattle.chw_terms.specs.declared.scene.Mode.TheVariants.{HC}
use Rattle.chw_terms.specs.declared.term.Arg.{Arg}
use Rattle.chw_terms.specs.declared.term.Arg.TheVariants.{OfType}
use Rattle.chw_terms.specs.TermTree.{TermTree, var, made, prim}
use Rattle.chw_terms.specs.TermView.{applied}
use Rattle.chw_typing.specs.Scopes.{AreTermTypes, IsTermType}
use Rattle.chw_typing.specs.Typing.{HasType}
use Rattle.chw_typing.proofs.Kinded.{type_kinded}
use Rattle.chw_typing.proofs.OneType.{one_type}
use Rattle.chw_typing.proofs.SameScopes.{are_same_self}
use Rattle.chw_layout.specs.declared.outcome.NoLayout.{NoLayout}
use Rattle.layout_laws.specs.SameLayout.{SameNumber}
use Rattle.chw_typing.specs.Given.{types_then}
use Rattle.chw_typing.specs.Paths.{part_at}
use Rattle.chw_typing.proofs.ContextPlaces.{around_is_part}
use Rattle.chw_typing.proofs.FoundTyped.{found_is_type}
use Rattle.chw_typing.proofs.PathParts.{part_behind}
use Rattle.chw_typing.proofs.Typed.{part_typed}
use Rattle.rewriting.specs.Active.{IsActive, at_it, below, IsPlaceOf}
use Rattle.rewriting.specs.Lifted.{FindsAt}
use Rattle.rewriting.specs.Named.{mode_of}
use Rattle.rewriting.specs.Origins.{MadeOf, Origins, setting_at}
use Rattle.rewriting.specs.Spots.{Spot, spot, HasLets, TakesElement}
use Rattle.rewriting.proofs.Around.{place_around}
use Rattle.rewriting.proofs.Lambdas.{one_under}
use Rattle.normal_forms.specs.Blocked.{Block, recursion, payload, limit, Passes, by_width, by_leaf, IsRowOnSignals, Size, sizes_in, IsOver, types_asked, IsBlocked}
use Rattle.normal_forms.specs.Circuits.{IsLiftedCall, lifted_on_one, lifted_on_more}
use Rattle.normal_forms.specs.Normal.{HoldsWidths, IsNormalBody}
use Rattle.normal_laws.specs.Laws.{PassesThere, by_its_type, by_its_size}
use Rattle.normal_laws.proofs.Alike.{like_passes_none}
use Rattle.normal_laws.proofs.Along.{Carried, Known, carried_below, carried_root, place_below}
use Rattle.normal_laws.proofs.Built.{Laws, built_within, held_place}
use Rattle.normal_laws.proofs.Declared.{limit_stands, passes_none, circuit_on_signals, lifted_on_signals}
use Rattle.normal_laws.proofs.Fits.{Fitting, Fits, width_holds}
use Rattle.normal_laws.proofs.Payloads.{Ground, no_payload, place_ported, place_scope}
use Rattle.normal_laws.proofs.Places.{Stands, a_name, a_block, a_side, a_circuit, a_circuit_side, a_lifted, a_constant, PrimStands, in_values, in_circuits, in_lifted, prim_stands, place_stands}
use Rattle.normal_laws.proofs.Recursion.{no_recursion}
use Rattle.normal_laws.proofs.Sizes.{all_at, known_at, no_size}

no_value : {datas : List Data} {d t : TypeTree} → Representable datas (signal d t) → ⊥
no_value r = elim r [ ]

abbrev IsSignal : TypeTree → Type 0
IsSignal t = (d : TypeTree) × (u : TypeTree) × (t ≡ signal d u)

takes_no_signals : (p : Prim) → TakesElement p → IsRowOnSignals (row_of p) → ⊥
takes_no_signals VGet t r = r
takes_no_signals VGetC t r = r
takes_no_signals VAt t r = r
takes_no_signals _ t r = absurd t

module _ (o : Origins) (fitting : Fitting o) (ground : Ground o) (number : SameNumber) (it : MadeOf) (body : TermTree) (closed : IsTermType (setting_at o) [] it.ty) (h : IsNormalBody o it body) where
  laws : Laws
  laws = record { one = fitting.one; kept = fitting.kept; keep = fitting.keep }

  known : {path : List ℕ} {at : Spot} {e : TermTree} → IsPlaceOf o it body path at e → Known o at e
  known {path} {at} {e} place =
      record {
        stands = place_stands o it body e path at h place;
        typed = place_scope o ground it body e path at h.typed place;
        all = λ p y is. h.widths (path ++ p) y (part_behind path body p ∙ ap (option_and_then (λ z. part_at z p)) (around_is_part (place_around o it body e path at fitting.sound h.typed place)) ∙ is);
        held = held_place o fitting.sound laws it body e path at h place;
        ported = place_ported o ground it body e path at closed h place;
      }

  carried_along : {path p : List ℕ} {at to : Spot} {e x : TermTree} → IsPlaceOf o it body path at e → IsActive o at e p to x → Carried o at e → Carried o to x
  carried_along place at_it c = c
  carried_along place (below b r) c = carried_along (place_below place b) r (carried_below o fitting ground.named ground.prims b (known place) c)

  carried : {path : List ℕ} {at : Spot} {e : TermTree} → IsPlaceOf o it body path at e → Carried o at e
  carried r =
      let same = one_under h.under r.under in
      let root : Carried o (spot (mode_of it.sort) true r.vars) r.term = subst (λ vs. Carried o (spot (mode_of it.sort) true vs) r.term) same.1 (carried_root o it body h r.term) in
      carried_along {path = r.root ++ []} (record { root = r.root; vars = r.vars; term = r.term; under = r.under; rest = []; active = at_it; is = refl }) r.active root

  -- what is lifted has the type of a signal
  fmap_signal : (vars : List TypeTree) (d a b : TypeTree) (f s : TermTree) (t : TypeTree) → AreTermTypes (setting_at o) [] vars → HasType (setting_at o) [] vars (applied (prim Fmap) (types_then (d ∷ a ∷ b ∷ []) (f ∷ s ∷ []))) t → IsSignal t
  unfolding sub
  fmap_signal vars d a b f s t typed has =
      let all = ground.prims (setting_at o) [] vars Fmap (Dom ∷ Val ∷ Val ∷ []) (fun (ty_var 1) (ty_var 0) ∷ signal (ty_var 2) (ty_var 1) ∷ []) (signal (ty_var 2) (ty_var 0)) (d ∷ a ∷ b ∷ []) (f ∷ s ∷ []) t fitting.sound typed refl refl refl has in
      let gives : SameTypes (signal d b) t = all.gives in
      let found = as_signal gives in (found.0, found.1, found.2)

  ap_signal : (vars : List TypeTree) (d a b : TypeTree) (f s : TermTree) (t : TypeTree) → AreTermTypes (setting_at o) [] vars → HasType (setting_at o) [] vars (applied (prim Ap) (types_then (d ∷ a ∷ b ∷ []) (f ∷ s ∷ []))) t → IsSignal t
  unfolding sub
  ap_signal vars d a b f s t typed has =
      let all = ground.prims (setting_at o) [] vars Ap (Dom ∷ Val ∷ Val ∷ []) (signal (ty_var 2) (fun (ty_var 1) (ty_var 0)) ∷ signal (ty_var 2) (ty_var 1) ∷ []) (signal (ty_var 2) (ty_var 0)) (d ∷ a ∷ b ∷ []) (f ∷ s ∷ []) t fitting.sound typed refl refl refl has in
      let gives : SameTypes (signal d b) t = all.gives in
      let found = as_signal gives in (found.0, found.1, found.2)

  lifted_signal : {vars : List TypeTree} {m n : ℕ} {e : TermTree} → IsLiftedCall m e n → (t : TypeTree) → AreTermTypes (setting_at o) [] vars → HasType (setting_at o) [] vars e t → IsSignal t
  lifted_signal {vars} {m} (lifted_on_one {d = d} {a = a} {b = b} {x = x}) t typed has = fmap_signal vars d a b (made m) (var x) t typed has
  lifted_signal {vars} (lifted_on_more {d = d} {a = a} {b = b} {u = u} {x = x} more) t typed has = ap_signal vars d a b u (var x) t typed has

  lifted_no_name : {m n : ℕ} {e : TermTree} → IsLiftedCall m e n → (x : ℕ) → e ≡ var x → ⊥
  lifted_no_name lifted_on_one x q = cc
  lifted_no_name (lifted_on_more more) x q = cc

  lifted_passes_none : {at : Spot} {m n : ℕ} {e : TermTree} (t : TypeTree) (l : NoLayout) → at.mode ≡ HC → IsLiftedCall m e n → AreTermTypes (setting_at o) [] at.vars → Carried o at e → HasType (setting_at o) [] at.vars e t → Passes o.program.datas t l → ⊥
  lifted_passes_none t l q call typed c has (by_width r m) = let is = lifted_signal call t typed has in no_value (subst (Representable o.program.datas) is.2 r)
  lifted_passes_none {at} {e = e} t l q call typed c has (by_leaf {ls = ls} leaves get m first) = by (c.unnamed q)
    where
      by : ((x : ℕ) × (e ≡ var x)) ⊎ ((t : TypeTree) → HasType (setting_at o) [] at.vars e t → IsPort o.program.datas t → ⊥) → ⊥
      by (inl name) = lifted_no_name call name.0 name.1
      by (inr none) = none t has (ls, leaves)

  -- a variable
  name_passes_none : (vars : List TypeTree) (x : ℕ) (t : TypeTree) (l : NoLayout) → AllByRecursion (HoldsWidths o.program.datas) vars → HasType (setting_at o) [] vars (var x) t → Passes o.program.datas t l → ⊥
  name_passes_none vars x t l all has passes = passes_none fitting.one o.program.datas t l (all_at (HoldsWidths o.program.datas) vars x t all (known_at has)) passes

  fits_passes_none : (vars : List TypeTree) {e : TermTree} (t : TypeTree) (l : NoLayout) → AreTermTypes (setting_at o) [] vars → Fits o vars e → HasType (setting_at o) [] vars e t → Passes o.program.datas t l → ⊥
  fits_passes_none vars t l typed f has passes =
      let kind = type_kinded has fitting.sound typed in
      let same = one_type has f.has fitting.sound typed typed (are_same_self vars) in
      like_passes_none (setting_at o) fitting.sound fitting.keep fitting.one fitting.kept f.type t l (width_holds o fitting f.type f.width) (record { kind = kind.kind; has = kind.has; same = same }) passes

  -- by the type of what stands there
  type_free : {path : List ℕ} {at : Spot} {e : TermTree} (t : TypeTree) (l : NoLayout) → IsPlaceOf o it body path at e → Stands o at e → FindsAt o at e t → Passes o.program.datas t l → ⊥
  type_free {at = at} t l place (a_name {x = x}) finds passes = name_passes_none at.vars x t l (carried place).scope (found_is_type finds) passes
  type_free {path} {at} {e} t l place (a_block v b) finds passes = built_within o fitting.sound laws it body e path at t l h place (subst HasLets (sym v) tt) finds passes
  type_free {path} {at} {e} t l place (a_side v b) finds passes = built_within o fitting.sound laws it body e path at t l h place (subst HasLets (sym v) tt) finds passes
  type_free {path} {at} {e} t l place (a_circuit v b) finds passes = built_within o fitting.sound laws it body e path at t l h place (subst HasLets (sym v) tt) finds passes
  type_free {path} {at} {e} t l place (a_circuit_side v b) finds passes = built_within o fitting.sound laws it body e path at t l h place (subst HasLets (sym v) tt) finds passes
  type_free t l place (a_lifted m call) finds passes = lifted_passes_none t l m call (known place).typed (carried place) (found_is_type finds) passes
  type_free {at = at} {e = e} t l place (a_constant m k) finds passes = by ((carried place).constant m)
    where
      by : ((x : ℕ) × (e ≡ var x)) ⊎ Fits o at.vars e → ⊥
      by (inl name) = name_passes_none at.vars name.0 t l (carried place).scope (subst (λ f. HasType (setting_at o) [] at.vars f t) name.1 (found_is_type finds)) passes
      by (inr f) = fits_passes_none at.vars t l (known place).typed f (found_is_type finds) passes

  -- by a size
  size_free : {path : List ℕ} {at : Spot} (p : Prim) (types : List TypeTree) (more : List Arg) (i : ℕ) (size : Size) (l : NoLayout) → IsPlaceOf o it body path at (applied (prim p) (map (λ t. OfType t) types ++ more)) → TakesElement p → length types ≡ types_asked (schema_type p)
      → slice_get (sizes_in (schema_type p)) i ≡ Some size → IsOver types size l → ⊥
  size_free {path} {at} p types more i size l place takes many get over = by (prim_stands p (map (λ t. OfType t) types ++ more) (known place).stands refl)
    where
      by : PrimStands o at p (map (λ t. OfType t) types ++ more) → ⊥
      by (in_values v s) =
          let typed = part_typed (place_around o it body (applied (prim p) (map (λ t. OfType t) types ++ more)) path at fitting.sound h.typed place) fitting.sound tt h.typed.type h.typed.has in
          no_size o fitting.sound ground.prims number at.vars typed.0 ((carried place).values v) p types more typed.1.0 i size l takes s typed.1.1 many get over
      by (in_circuits v c) = takes_no_signals p takes (circuit_on_signals o.program.datas p (map (λ t. OfType t) types ++ more) c)
      by (in_lifted v lifted) = takes_no_signals p takes (lifted_on_signals p (map (λ t. OfType t) types ++ more) lifted)

  there_free : {path : List ℕ} {at : Spot} {e : TermTree} (l : NoLayout) → IsPlaceOf o it body path at e → PassesThere o at e l → ⊥
  there_free l place (by_its_type {t = t} finds passes) = type_free t l place (known place).stands finds passes
  there_free l place (by_its_size p types more i size takes many get over) = size_free p types more i size l place takes many get over

  pub not_blocked : (path : List ℕ) (b : Block) → IsBlocked o it body path b → ⊥
  not_blocked path (recursion cycle) blocked = no_recursion o it body path cycle h blocked refl
  not_blocked path (payload t) blocked = no_payload o ground it body path t closed h blocked refl
  not_blocked path (limit l) blocked = let found = limit_stands o fitting.one fitting.sound it body h path l blocked refl in there_free l found.2 found.3
