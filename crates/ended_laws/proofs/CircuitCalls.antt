-- Where circuits are built, the call of a made definition at rest is of a circuit, on variables.
use Rattle.std.proofs.Common.{◌≡◌, ◌∙◌, refl, sym, ap, subst, ℕ, List, [], Some}
use Rattle.std.specs.List.{slice_get}
use Rattle.chw_types.specs.declared.declarations.Data.{Data}
use Rattle.chw_types.specs.TypeTree.{TypeTree}
use Rattle.type_ports.specs.Ports.{IsPort}
use Rattle.chw_terms.specs.declared.scene.Mode.TheVariants.{V, C}
use Rattle.chw_terms.specs.declared.scene.Sort.{Sort}
use Rattle.chw_terms.specs.declared.scene.Sort.TheVariants.{Value, Circuit}
use Rattle.chw_terms.specs.declared.term.Arg.{Arg}
use Rattle.chw_terms.specs.TermTree.{made}
use Rattle.chw_terms.specs.TermView.{applied}
use Rattle.chw_typing.specs.TypedSpines.{AtArguments}
use Rattle.chw_typing.proofs.NamedParts.{not_both}
use Rattle.normal_forms.specs.Circuits.{IsCircuitSide, of_call}
use Rattle.rewriting.specs.Named.{IsNamed, LeadsToNamed, to_named, from_named, mode_of}
use Rattle.rewriting.specs.Origins.{Origins, setting_at}
use Rattle.rewriting.specs.SceneLaws.{SameKeepsNamed}
use Rattle.rewriting.specs.Spots.{Spot, HasLets, asked_for}
use Rattle.rest_places.specs.Chains.{MadeAreNamed}
use Rattle.rest_places.specs.Rest.{IsRestPlace}
use Rattle.ended_laws.proofs.MadeCalls.{MadeThere, made_there, leads_behind, call_on_names}

-- no port leads to a representable type
no_value : {datas : List Data} {t : TypeTree} → IsPort datas t → LeadsToNamed datas V t → ⊥
no_value port (to_named r) = not_both r port
no_value port (from_named r l) = elim port.1 [ ]

pub circuits_have_lets : (at : Spot) → at.mode ≡ C → HasLets at.mode
circuits_have_lets at k = subst HasLets (sym k) tt

module _ (kept : SameKeepsNamed) (o : Origins) (named : MadeAreNamed o) where
  -- where circuits are built it is one of circuits
  circuit_sort : (m : ℕ) (args : List Arg) (vars : List TypeTree) (t u : TypeTree) (there : MadeThere o m u) → AtArguments (setting_at o) [] vars u args t → IsPort o.program.datas t → there.it.sort ≡ Circuit
  circuit_sort m args vars t u there leads port = by there.it.sort refl
    where
      by : (s : Sort) → there.it.sort ≡ s → there.it.sort ≡ Circuit
      by Circuit q = q
      by Value q =
          let to = subst (λ s. LeadsToNamed o.program.datas (mode_of s) there.it.ty) q (named m there.it there.there) in
          absurd (no_value port (leads_behind V leads (subst (LeadsToNamed o.program.datas V) there.type to)))

  -- the call of a made definition is a right side of the normal form
  pub circuit_call : (at : Spot) (m : ℕ) (args : List Arg) (t u : TypeTree) → at.mode ≡ C → IsRestPlace o at (applied (made m) args) t → IsPort o.program.datas t → slice_get (setting_at o).made m ≡ Some u → AtArguments (setting_at o) [] at.vars u args t → IsCircuitSide o (applied (made m) args)
  circuit_call at m args t u k p port is leads =
      let there = made_there o m u is in
      let sort = circuit_sort m args at.vars t u there leads port in
      let circuit = subst (λ s. LeadsToNamed o.program.datas (mode_of s) there.it.ty) sort (named m there.it there.there) in
      let to = subst (λ mode. LeadsToNamed o.program.datas mode u) (sym k) (subst (LeadsToNamed o.program.datas C) there.type circuit) in
      let call = call_on_names kept o named at m args t u (circuits_have_lets at k) p (subst (λ mode. IsNamed o.program.datas mode t) (sym k) port) is leads to in
      subst (λ args. IsCircuitSide o (applied (made m) args)) (sym call.are)
      (of_call m call.names there.there sort (call.many ∙ ap asked_for (sym there.type)))
