-- Whether a type of a term is named is whether the one that is found is.
use Rattle.std.proofs.Common.{◌≡◌, ◌↔◌, IsTrue, Bool, true, false, not, refl, List, []}
use Rattle.chw_types.specs.TypeTree.{TypeTree}
use Rattle.chw_terms.specs.declared.scene.Mode.{Mode}
use Rattle.chw_terms.specs.declared.scene.Mode.TheVariants.{K}
use Rattle.chw_terms.specs.TermTree.{TermTree}
use Rattle.chw_typing.specs.Laws.{OneType, TypesAreTermTypes}
use Rattle.chw_typing.specs.Scopes.{Setting}
use Rattle.chw_typing.specs.Typing.{HasType}
use Rattle.rewriting.specs.SceneLaws.{SameKeepsNamed}
use Rattle.rewriting.specs.Named.{IsNamed}
use Rattle.rewriting.specs.Origins.{Origins, setting_at}
use Rattle.rewriting.specs.Spots.{Spot}
use Rattle.term_types.specs.Answers.{IsReady}
use Rattle.flow_demanded.specs.Demanding.{IsUnnamed}
use Rattle.flow_demanded.proofs.Parts.{false_is_no_truth}

-- where one type of a term is named, so is each
pub each_named : OneType → TypesAreTermTypes → SameKeepsNamed → (s : Setting) (vars : List TypeTree) (mode : Mode) (a : TermTree) (t u : TypeTree) → IsReady s [] vars → HasType s [] vars a t → HasType s [] vars a u → IsNamed s.datas mode t → IsNamed s.datas mode u
each_named one terms kept s vars mode a t u r h g n =
    let it = terms s [] vars a t r.0 r.1 h in
    kept s mode t u it.kind r.0 it.has (one s [] vars a t u r.0 r.1 h g) n

-- so whether a term's type isn't named is decided by the one that is found
pub decided : (o : Origins) (at : Spot) (a : TermTree) (t : TypeTree) (is : Bool) → (at.mode ≡ K → ⊥) → HasType (setting_at o) [] at.vars a t → ((u : TypeTree) → HasType (setting_at o) [] at.vars a u → IsNamed o.program.datas at.mode t → IsNamed o.program.datas at.mode u) → (IsTrue is ↔ IsNamed o.program.datas at.mode t) → IsTrue (not is) ↔ IsUnnamed o at a
decided o at a t true m h all n = (λ f. absurd (false_is_no_truth f), λ u. absurd (u.unnamed (all u.type u.has (n.0 refl))))
decided o at a t false m h all n = (λ f. record { no_constant = m; type = t; has = h; unnamed = λ k. false_is_no_truth (n.1 k) }, λ u. refl)

-- a term without a type has none
pub without_type : (o : Origins) (at : Spot) (a : TermTree) → ((u : TypeTree) → HasType (setting_at o) [] at.vars a u → ⊥) → IsTrue false ↔ IsUnnamed o at a
without_type o at a none = (λ f. absurd (false_is_no_truth f), λ u. absurd (none u.type u.has))

-- nor is there one in constants
pub in_constant : (o : Origins) (at : Spot) (a : TermTree) → at.mode ≡ K → IsTrue false ↔ IsUnnamed o at a
in_constant o at a m = (λ f. absurd (false_is_no_truth f), λ u. absurd (u.no_constant m))
