-- What registers, block RAMs and constant signals at rest begin with is a constant, and a block RAM's content has a width.
use Rattle.std.proofs.Common.{◌≡◌, refl, subst, ℕ, false, List, [], Some}
use Rattle.std.specs.List.{slice_get}
use Rattle.chw_types.specs.declared.kind.Kind.TheVariants.{Val}
use Rattle.chw_types.specs.SameTypes.{SameTypes}
use Rattle.chw_types.specs.TypeTree.{TypeTree, signal}
use Rattle.chw_types.proofs.SameLaws.{same_turned, same_through}
use Rattle.type_laws.proofs.SameForms.{as_signal}
use Rattle.type_ports.specs.Ports.{IsPort}
use Rattle.type_ports.specs.Representable.{Representable}
use Rattle.chw_prims.specs.declared.prim.Primitive.{Primitive as Prim}
use Rattle.chw_layout.specs.Measured.{Measure, fits, too_wide, Measured, HasWidth}
use Rattle.chw_layout.specs.Refusals.{RepresentableIsMeasured}
use Rattle.layout_laws.specs.SameLayout.{SameKeepsMeasure}
use Rattle.chw_terms.specs.declared.scene.Mode.TheVariants.{V, C, K}
use Rattle.chw_terms.specs.declared.term.Arg.{Arg}
use Rattle.chw_terms.specs.declared.term.Arg.TheVariants.{OfTerm, OfType}
use Rattle.chw_terms.specs.TermTree.{TermTree, prim}
use Rattle.chw_terms.specs.TermView.{applied}
use Rattle.chw_typing.specs.Scopes.{HasKind}
use Rattle.chw_typing.specs.Typing.{HasTypeUpTo}
use Rattle.chw_typing.proofs.Kinded.{type_kinded}
use Rattle.chw_typing.proofs.TypedFound.{typed_found}
use Rattle.normal_forms.specs.Blocked.{by_width, by_type}
use Rattle.normal_forms.specs.Circuits.{IsConstant}
use Rattle.rewriting.specs.Active.{begins}
use Rattle.rewriting.specs.Origins.{Origins, setting_at}
use Rattle.rewriting.specs.SceneLaws.{NamedIsDecided, NamedIsTermKind, SameKeepsNamed}
use Rattle.rewriting.specs.Spots.{Spot, spot, BeginsWith}
use Rattle.rule_types.proofs.Applied.{payload_kind}
use Rattle.rest_places.specs.Constants.{NoUnrolled}
use Rattle.rest_places.specs.Rest.{IsRestPlace}
use Rattle.rest_places.proofs.Below.{rest_below}
use Rattle.rest_places.proofs.Ports.{payload_of}
use Rattle.rest_places.proofs.Sizes.{no_limit}
use Rattle.rest_places.proofs.Standing.{constants_stand}
use Rattle.rest_places.proofs.Steps.{retyped}

-- the payload of a signal that is a port
pub payload_stands : SameKeepsNamed → (o : Origins) (at : Spot) (e : TermTree) (d a t : TypeTree) → IsRestPlace o at e t → IsPort o.program.datas t → SameTypes (signal d a) t → Representable o.program.datas a
payload_stands kept o at e d a t p port same =
    let parts = as_signal same in
    let of = type_kinded p.has p.place.sound p.place.vars in
    let kind = payload_kind (setting_at o) (subst (λ t. HasKind (setting_at o) [] t of.kind) parts.2 of.has) in
    let own = subst (IsPort o.program.datas) parts.2 port in
    kept (setting_at o) V parts.1 a Val p.place.sound kind (same_turned parts.4) (payload_of own.1)

-- a representable type of a term at rest has a width
pub some_width : RepresentableIsMeasured → SameKeepsMeasure → SameKeepsNamed → (o : Origins) (at : Spot) (c : TermTree) (u v : TypeTree) → IsRestPlace o at c v → Representable o.program.datas u → HasKind (setting_at o) [] u Val → SameTypes u v → (w : ℕ) × HasWidth o.program.datas u w
some_width measured same_measure kept o at c u v p r kind same = by m.0 m.1
  where
    m : (m : Measure) × Measured o.program.datas u m
    m = measured o.program.datas u r

    by : (m : Measure) → Measured o.program.datas u m → (w : ℕ) × HasWidth o.program.datas u w
    by (fits w) h = (w, h)
    by (too_wide l) h =
        let found = typed_found c p.has p.place.sound p.place.vars in
        let there = same_through same found.same in
        let value = kept (setting_at o) V u found.type Val p.place.sound kind there r in
        let wide = same_measure (too_wide l) (setting_at o) u found.type p.place.sound (record { kind = Val; has = kind; same = there }) h in
        absurd (no_limit o at c v p 0 l (by_type found.is (by_width value wide)))

module _ (decided : NamedIsDecided) (kind_named : NamedIsTermKind) (kept : SameKeepsNamed) (unrolled : NoUnrolled) (o : Origins) where
  -- the content at the beginning, of a representable payload, is at rest
  pub content_at_rest : (at : Spot) (p : Prim) (args : List Arg) (i j : ℕ) (a u t : TypeTree) (c : TermTree) → at.mode ≡ C → BeginsWith p i j → slice_get args j ≡ Some (OfType a) → Representable o.program.datas a → slice_get args i ≡ Some (OfTerm c) → (given : HasTypeUpTo (setting_at o) [] at.vars c u) → IsRestPlace o at (applied (prim p) args) t
      → IsRestPlace o (spot K false at.vars) c given.type
  content_at_rest at p args i j a u t c k b type r is given rest =
      retyped (rest_below decided o at (spot K false at.vars) (applied (prim p) args) c t _ rest (begins p i j args k b type r is)).1 given.has

  -- so one of a representable type is a constant
  pub content_stands : (at : Spot) (u : TypeTree) (c : TermTree) → (given : HasTypeUpTo (setting_at o) [] at.vars c u) → HasKind (setting_at o) [] u Val → Representable o.program.datas u → IsRestPlace o (spot K false at.vars) c given.type → IsConstant o.program.datas c
  content_stands at u c given kind value there =
      constants_stand decided kind_named kept unrolled o (spot K false at.vars) c given.type refl there (kept (setting_at o) V u given.type Val there.place.sound kind given.same value)
