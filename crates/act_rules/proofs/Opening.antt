-- A definition with its first parameters written out gives what the definition gives.
use Rattle.std.specs.Prelude.{slice_get}
use Rattle.std.proofs.Common.{◌≡◌, ℕ, List, [], Some, sym, ap, ◌∙◌, subst}
use Rattle.chw_types.specs.TypeTree.{TypeTree}
use Rattle.chw_terms.specs.declared.program.Def.{Def}
use Rattle.chw_terms.specs.declared.program.Program.{Program}
use Rattle.chw_terms.specs.TermTree.{global, made}
use Rattle.chw_typing.specs.HeadTypes.{from_each}
use Rattle.chw_typing.specs.Programs.{IsSound, IsTyped, setting_of}
use Rattle.chw_typing.specs.Typing.{HasType, h_global}
use Rattle.chw_typing.proofs.Lists.{found_in_map}
use Rattle.chw_meaning.specs.Values.{closed_type}
use Rattle.chw_meaning.specs.Gives.{Better}
use Rattle.acts.specs.Acts.{acts_from}
use Rattle.rewriting.specs.Origins.{with_origins, eta_expanded}
use Rattle.acts.specs.Terms.{ActsAs}
use Rattle.acts.proofs.Better.{acts_gives}
use Rattle.acts.proofs.Eta.{eta_acts}
use Rattle.acts.proofs.Forms.{TermsAct}
use Rattle.acts.proofs.Globals.{origins_itself}

opening_acts : (p : Program) → IsSound (setting_of p) → IsTyped p → (d : ℕ) (args : List TypeTree) (r : TypeTree) → HasType (setting_of p) [] [] (global d) (from_each args r) → ActsAs p (from_each args r) (eta_expanded args (global d)) (global d)
unfolding with_origins
opening_acts p sound typed d args r has n δ γ' γ known names =
    subst (λ e. TermsAct p (acts_from p n) (closed_type (from_each args r) δ) e γ' δ (global d) γ δ) (origins_itself (eta_expanded args (global d)))
    (eta_acts p sound typed [] made made {e = global d} args r (λ x t e. absurd (cc)) tt has (λ m u e. absurd (cc)) n δ γ' γ known names)

pub opening_gives : (p : Program) → IsSound (setting_of p) → IsTyped p → (d : ℕ) (it : Def) (args : List TypeTree) (r : TypeTree) → slice_get p.defs d ≡ Some it → it.ty ≡ from_each args r → Better p it.ty (eta_expanded args (global d)) (global d)
opening_gives p sound typed d it args r at is =
    let found = found_in_map (λ (d : Def). d.ty) p.defs d it at in
    let kind = typed.types d it.ty found in
    let has : HasType (setting_of p) [] [] (global d) (from_each args r) = h_global (found ∙ ap Some is) in
    acts_gives p sound typed it.ty kind.kind (eta_expanded args (global d)) (global d) kind.has
    (subst (λ t. ActsAs p t (eta_expanded args (global d)) (global d)) (sym is) (opening_acts p sound typed d args r has))
