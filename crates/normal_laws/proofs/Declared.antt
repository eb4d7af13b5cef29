-- No leading lambda and no binding of a body in normal form passes a limit, nor do primitives but those that take an element.
use Rattle.std.proofs.Common.{◌≡◌, ◌⊎◌, inl, inr, ℕ, zero, suc, List, ◌++◌, map, replicate, Some, Contains, refl, sym, subst}
use Rattle.std.specs.List.{slice_get, AllByRecursion}
use Rattle.std.proofs.lemmas.Option.{slice_get_within, get_or_from_slice_get}
use Rattle.chw_types.specs.declared.declarations.Data.{Data}
use Rattle.chw_types.specs.TypeTree.{TypeTree}
use Rattle.chw_prims.specs.declared.prim.Primitive.{Primitive as Prim}
use Rattle.chw_prims.specs.Schemas.{row_of}
use Rattle.chw_terms.specs.declared.scene.Mode.{Mode}
use Rattle.chw_terms.specs.declared.scene.Mode.TheVariants.{V, K}
use Rattle.chw_terms.specs.declared.term.Arg.{Arg}
use Rattle.chw_terms.specs.declared.term.Arg.TheVariants.{OfType}
use Rattle.chw_terms.specs.TermTree.{TermTree, lam, letrec, prim, Group, no_bindings, bind}
use Rattle.chw_terms.specs.TermView.{applied}
use Rattle.chw_typing.specs.Programs.{IsSound}
use Rattle.chw_typing.specs.Scopes.{declared}
use Rattle.chw_layout.specs.declared.outcome.NoLayout.{NoLayout}
use Rattle.chw_layout.specs.Measured.{fits, too_wide}
use Rattle.chw_layout.specs.Refusals.{OneMeasure}
use Rattle.chw_typing.specs.Groups.{binding_at}
use Rattle.chw_typing.proofs.ContextPlaces.{around_is_part}
use Rattle.rewriting.specs.Active.{IsPlaceOf}
use Rattle.rewriting.specs.Origins.{MadeOf, Origins, setting_at}
use Rattle.rewriting.specs.Spots.{Spot, IsOnWords, TakesElement}
use Rattle.rewriting.proofs.Around.{place_around}
use Rattle.normal_forms.specs.Blocked.{Block, limit, Passes, by_width, by_leaf, IsRowOnSignals, SizesCount, PassesAt, by_type, by_binding, by_size, BlocksAt, by_recursion, by_payload, by_limit, IsBlocked, at_place, at_lambda}
use Rattle.normal_forms.specs.Normal.{HoldsWidths, IsNormalBody}
use Rattle.normal_laws.specs.Laws.{PassesThere, by_its_type, by_its_size}
use Rattle.normal_laws.proofs.Forms.{LiftedPrim, on_made, on_lifted, CircuitPrim, as_register, as_ram, as_synchronizer, as_pure, as_lifted}
use Rattle.normal_laws.proofs.Places.{PrimStands, in_values, in_circuits, in_lifted, prim_stands, place_stands}

pub contains_at : {X : Type 0} (xs : List X) (i : ℕ) (x : X) → slice_get xs i ≡ Some x → Contains xs x
contains_at xs i x is = (i, slice_get_within xs i x is, get_or_from_slice_get xs i x x is)

pub fits_no_limit : (w : ℕ) (l : NoLayout) → fits w ≡ too_wide l → ⊥
fits_no_limit w l q = cc

-- a type whose widths hold passes no limit
pub passes_none : OneMeasure → (datas : List Data) (t : TypeTree) (l : NoLayout) → HoldsWidths datas t → Passes datas t l → ⊥
passes_none one datas t l h (by_width r m) = let w = h.value r in fits_no_limit w.0 l (one datas t (fits w.0) (too_wide l) w.1 m)
passes_none one datas t l h (by_leaf {ls = ls} {i = i} {leaf = leaf} leaves at m first) =
    let w = h.leaves ls leaf leaves (contains_at ls i leaf at) in fits_no_limit w.0 l (one datas leaf.payload (fits w.0) (too_wide l) w.1 m)

pub declared_holds : (P : TypeTree → Type 0) (g : Group) (i : ℕ) (b : TypeTree × TermTree) → AllByRecursion P (declared g) → binding_at g i ≡ Some b → P b.0
declared_holds P no_bindings i b all h = absurd cc
declared_holds P (bind t e g) zero b all h = let is : (t, e) ≡ b = cc in subst (λ (c : TypeTree × TermTree). P c.0) is all.0
declared_holds P (bind t e g) (suc i) b all h = declared_holds P g i b all.1 h

-- primitives of circuits are on signals
on_signals : (p r : Prim) → p ≡ r → IsRowOnSignals (row_of r) → IsRowOnSignals (row_of p)
on_signals p r q h = subst (λ x. IsRowOnSignals (row_of x)) (sym q) h

pub lifted_on_signals : (p : Prim) (args : List Arg) → LiftedPrim p args → IsRowOnSignals (row_of p)
lifted_on_signals p args (on_made d a b is are) = on_signals p _ is tt
lifted_on_signals p args (on_lifted d a b is are l) = on_signals p _ is tt

pub circuit_on_signals : (datas : List Data) (p : Prim) (args : List Arg) → CircuitPrim datas p args → IsRowOnSignals (row_of p)
circuit_on_signals datas p args (as_register d a x is are k) = on_signals p _ is tt
circuit_on_signals datas p args (as_ram d n w a x y is are k h) = on_signals p _ is tt
circuit_on_signals datas p args (as_synchronizer d e a x is are) = on_signals p _ is tt
circuit_on_signals datas p args (as_pure d a is are k) = on_signals p _ is tt
circuit_on_signals datas p args (as_lifted l) = lifted_on_signals p args l

no_value_in_constants : (m : Mode) → m ≡ V → m ≡ K → ⊥
no_value_in_constants m v k = cc

by_element : (o : Origins) (at : Spot) (p : Prim) (args : List Arg) → SizesCount at p → PrimStands o at p args → TakesElement p
by_element o at p args counts (in_values v s) = of s.sort
  where
    of : IsOnWords p ⊎ TakesElement p → TakesElement p
    of (inl words) = absurd (no_value_in_constants at.mode v (counts.1 words))
    of (inr takes) = takes
by_element o at p args counts (in_circuits v c) = absurd (counts.0 (circuit_on_signals o.program.datas p args c))
by_element o at p args counts (in_lifted v l) = absurd (counts.0 (lifted_on_signals p args l))

module _ (o : Origins) (one : OneMeasure) (sound : IsSound (setting_at o)) (it : MadeOf) (body : TermTree) (h : IsNormalBody o it body) where
  passes_there : {path : List ℕ} {at : Spot} {e : TermTree} {i : ℕ} {l : NoLayout} → IsPlaceOf o it body path at e → PassesAt o at e i l → PassesThere o at e l
  passes_there place (by_type finds p) = by_its_type finds p
  passes_there {path} {at} {l = l} place (by_binding {g = g} {e = e} {i = i} {b = b} known p) =
      let part = around_is_part (place_around o it body (letrec g e) path at sound h.typed place) in
      let all : AllByRecursion (HoldsWidths o.program.datas) (declared g) = h.widths path (letrec g e) part in
      absurd (passes_none one o.program.datas b.0 l (declared_holds (HoldsWidths o.program.datas) g i b all known) p)
  passes_there {path} {at} place (by_size p types more {i = i} {size = size} counts n get over) =
      let args : List Arg = map (λ t. OfType t) types ++ more in
      let stands = place_stands o it body (applied (prim p) args) path at h place in
      by_its_size p types more i size (by_element o at p args counts (prim_stands p args stands refl)) n get over

  there : {path : List ℕ} {at : Spot} {e : TermTree} {b : Block} (l : NoLayout) → IsPlaceOf o it body path at e → BlocksAt o at e b → b ≡ limit l → PassesThere o at e l
  there l place (by_recursion i more through w) q = absurd cc
  there l place (by_payload p args j g get n) q = absurd cc
  there {at = at} {e = e} l place (by_limit {l = k} passes first) q =
      let same : k ≡ l = cc in subst (PassesThere o at e) same (passes_there place passes)

  pub limit_stands : (path : List ℕ) (l : NoLayout) {b : Block} → IsBlocked o it body path b → b ≡ limit l → (at : Spot) × (e : TermTree) × IsPlaceOf o it body path at e × PassesThere o at e l
  limit_stands path l (at_place {at = at} {e = e} place blocks) q = (at, e, place, there l place blocks q)
  limit_stands path l (at_lambda {e = e} {i = i} {t = t} {l = k} under less part passes) q =
      absurd (passes_none one o.program.datas t k (h.widths (replicate i 0) (lam t e) part).0 passes)
