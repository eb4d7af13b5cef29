-- At rest, where values or circuits are built, a made definition is called on variables, as many as its type asks for.
use Rattle.std.proofs.Common.{◌≡◌, ◌∙◌, refl, sym, ap, subst, ℕ, suc, List, [], ◌∷◌, length, map, Some}
use Rattle.std.specs.List.{slice_get}
use Rattle.chw_types.specs.declared.declarations.Data.{Data}
use Rattle.chw_types.specs.declared.kind.Kind.{Kind}
use Rattle.chw_types.specs.TypeTree.{TypeTree, fun, for_all}
use Rattle.type_ports.specs.Representable.{Representable}
use Rattle.chw_terms.specs.declared.scene.Mode.{Mode}
use Rattle.chw_terms.specs.declared.scene.Mode.TheVariants.{V, C, HV, HC, K}
use Rattle.chw_terms.specs.declared.scene.Sort.{Sort}
use Rattle.chw_terms.specs.declared.scene.Sort.TheVariants.{Value, Circuit}
use Rattle.chw_terms.specs.declared.term.Arg.{Arg}
use Rattle.chw_terms.specs.declared.term.Arg.TheVariants.{OfTerm}
use Rattle.chw_terms.specs.TermTree.{TermTree, var, made}
use Rattle.chw_terms.specs.TermView.{applied}
use Rattle.chw_typing.specs.Given.{types_then}
use Rattle.chw_typing.specs.Programs.{IsSound}
use Rattle.chw_typing.specs.Scopes.{Setting, HasKind}
use Rattle.chw_typing.specs.Typing.{HasType, h_made}
use Rattle.chw_typing.specs.TypedSpines.{AtArguments, at_none, at_term, at_type}
use Rattle.chw_typing.proofs.Kinded.{function_parts, type_kinded}
use Rattle.chw_typing.proofs.Lists.{found_before_map}
use Rattle.chw_typing.proofs.NamedParts.{not_both}
use Rattle.normal_forms.specs.Values.{IsSide, side_call}
use Rattle.rewriting.specs.Named.{IsNamed, LeadsToNamed, to_named, from_named, mode_of}
use Rattle.rewriting.specs.Operands.{of_made}
use Rattle.rewriting.specs.Origins.{MadeOf, Origins, setting_at}
use Rattle.rewriting.specs.SceneLaws.{SameKeepsNamed}
use Rattle.rewriting.specs.Shapes.{IsVariable}
use Rattle.rewriting.specs.Spots.{Spot, HasLets, asked_for}
use Rattle.rest_places.specs.Chains.{MadeAreNamed}
use Rattle.rest_places.specs.Rest.{IsRestPlace}
use Rattle.rest_places.proofs.Operands.{call_operands_are_variables}
use Rattle.rest_places.proofs.Ports.{no_function}
use Rattle.ended_laws.proofs.DataSides.{values_have_lets}
use Rattle.ended_laws.proofs.PrimSides.{one_name, is_named}

-- no type that is named asks for anything
no_named_function : (datas : List Data) (m : Mode) (a b : TypeTree) → IsNamed datas m (fun a b) → ⊥
no_named_function datas V a b n = elim n [ ]
no_named_function datas HV a b n = elim n [ ]
no_named_function datas C a b n = elim n.1 [ ]
no_named_function datas HC a b n = elim n.1 [ ]
no_named_function datas K a b n = n

no_named_for_all : (datas : List Data) (m : Mode) (k : Kind) (t : TypeTree) → IsNamed datas m (for_all k t) → ⊥
no_named_for_all datas V k t n = elim n [ ]
no_named_for_all datas HV k t n = elim n [ ]
no_named_for_all datas C k t n = elim n.1 [ ]
no_named_for_all datas HC k t n = elim n.1 [ ]
no_named_for_all datas K k t n = n

pub named_asks_none : (datas : List Data) (m : Mode) (t : TypeTree) → IsNamed datas m t → asked_for t ≡ 0
named_asks_none datas m (fun a b) n = absurd (no_named_function datas m a b n)
named_asks_none datas m (for_all k t) n = absurd (no_named_for_all datas m k t n)
named_asks_none datas m _ n = refl

-- of a function that leads to named types, the parameter's type and what the result's leads to
function_leads : {datas : List Data} (m : Mode) {a b : TypeTree} → LeadsToNamed datas m (fun a b) → IsNamed datas m a × LeadsToNamed datas m b
function_leads {datas} m {a} {b} (to_named n) = absurd (no_named_function datas m a b n)
function_leads m (from_named n l) = (n, l)

for_all_leads : {datas : List Data} (m : Mode) {k : Kind} {t : TypeTree} → LeadsToNamed datas m (for_all k t) → ⊥
for_all_leads {datas} m {k} {t} (to_named n) = no_named_for_all datas m k t n

-- what a type leads to behind arguments
pub leads_behind : {s : Setting} {vars : List TypeTree} {u t : TypeTree} {args : List Arg} (m : Mode) → AtArguments s [] vars u args t → LeadsToNamed s.datas m u → LeadsToNamed s.datas m t
leads_behind m at_none l = l
leads_behind m (at_term d x rest) l = leads_behind m rest (function_leads m l).1
leads_behind m (at_type k x j rest) l = absurd (for_all_leads m l)

-- no representable type leads to a port
no_circuit : {datas : List Data} {t : TypeTree} → Representable datas t → LeadsToNamed datas C t → ⊥
no_circuit r (to_named port) = not_both r port
no_circuit r (from_named port l) = no_function r

-- arguments that are variables, so many
pub record AreNames (args : List Arg) (n : ℕ) : Type 0 where
  pub names : List ℕ
  pub are : args ≡ types_then [] (map (λ x. var x) names)
  pub many : length names ≡ n

-- the arguments of a type that leads to named types are variables, if those of named types are
names_along : SameKeepsNamed → (o : Origins) (vars : List TypeTree) (m : Mode) {u t : TypeTree} {args : List Arg} {k : Kind} → IsSound (setting_at o) → AtArguments (setting_at o) [] vars u args t → LeadsToNamed o.program.datas m u → HasKind (setting_at o) [] u k → asked_for t ≡ 0 → ((i : ℕ) (a : TermTree) (c : TypeTree) → slice_get args i ≡ Some (OfTerm a) → HasType (setting_at o) [] vars a c → IsNamed o.program.datas m c → IsVariable a) → AreNames args (asked_for u)
names_along kept o vars m sound at_none l k none each = record { names = []; are = refl; many = sym none }
names_along kept o vars m sound (at_term {b = b} {c = c} {a = a} d same rest) l k none each =
    let leads = function_leads m l in
    let kinds = function_parts k in
    let name = one_name a (each 0 a c refl d (kept (setting_at o) m b c kinds.0 sound kinds.1 same leads.0)) in
    let more = names_along kept o vars m sound rest leads.1 kinds.2 none (λ i x t h. each (suc i) x t h) in
    record { names = name.0 ∷ more.names; are = λ i. OfTerm (name.1 i) ∷ more.are i; many = ap suc more.many }
names_along kept o vars m sound (at_type k x j rest) l kind none each = absurd (for_all_leads m l)

-- a made definition and its type
pub record MadeThere (o : Origins) (m : ℕ) (u : TypeTree) : Type 0 where
  pub it : MadeOf
  pub there : slice_get o.made m ≡ Some it
  pub type : it.ty ≡ u

pub made_there : (o : Origins) (m : ℕ) (u : TypeTree) → slice_get (setting_at o).made m ≡ Some u → MadeThere o m u
made_there o m u is = let found = found_before_map (λ (it : MadeOf). it.ty) o.made m u is in record { it = found.0; there = found.1; type = found.2 }

module _ (kept : SameKeepsNamed) (o : Origins) (named : MadeAreNamed o) where
  -- a made definition of the place's sort is called on variables, as many as its type asks for
  pub call_on_names : (at : Spot) (m : ℕ) (args : List Arg) (t u : TypeTree) → HasLets at.mode → IsRestPlace o at (applied (made m) args) t → IsNamed o.program.datas at.mode t → slice_get (setting_at o).made m ≡ Some u → AtArguments (setting_at o) [] at.vars u args t → LeadsToNamed o.program.datas at.mode u → AreNames args (asked_for u)
  call_on_names at m args t u lets p value is leads to =
      let kinded = type_kinded (h_made is) p.place.sound p.place.vars in
      names_along kept o at.vars at.mode p.place.sound leads to kinded.has (named_asks_none o.program.datas at.mode t value)
      (λ i a c h d n. call_operands_are_variables o at (applied (made m) args) t _ a c p (of_made m args i lets h) d n)

  -- where values are built it is one of values
  value_sort : (m : ℕ) (args : List Arg) (vars : List TypeTree) (t u : TypeTree) (there : MadeThere o m u) → AtArguments (setting_at o) [] vars u args t → Representable o.program.datas t → there.it.sort ≡ Value
  value_sort m args vars t u there leads r = by there.it.sort refl
    where
      by : (s : Sort) → there.it.sort ≡ s → there.it.sort ≡ Value
      by Value q = q
      by Circuit q =
          let to = subst (λ s. LeadsToNamed o.program.datas (mode_of s) there.it.ty) q (named m there.it there.there) in
          absurd (no_circuit r (leads_behind C leads (subst (LeadsToNamed o.program.datas C) there.type to)))

  -- where values are built the call of a made definition is a right side of the normal form
  pub made_side : (at : Spot) (m : ℕ) (args : List Arg) (t u : TypeTree) → at.mode ≡ V → IsRestPlace o at (applied (made m) args) t → Representable o.program.datas t → slice_get (setting_at o).made m ≡ Some u → AtArguments (setting_at o) [] at.vars u args t → IsSide o at.vars (applied (made m) args)
  made_side at m args t u k p r is leads =
      let there = made_there o m u is in
      let sort = value_sort m args at.vars t u there leads r in
      let value = subst (λ s. LeadsToNamed o.program.datas (mode_of s) there.it.ty) sort (named m there.it there.there) in
      let to = subst (λ mode. LeadsToNamed o.program.datas mode u) (sym k) (subst (LeadsToNamed o.program.datas V) there.type value) in
      let call = call_on_names at m args t u (values_have_lets k) p (is_named o k r) is leads to in
      subst (λ args. IsSide o at.vars (applied (made m) args)) (sym call.are)
      (side_call m call.names there.there sort (call.many ∙ ap asked_for (sym there.type)))
