-- No rule has an instance where a term is still.
use Rattle.std.proofs.Common.{◌≡◌, ◌∙◌, sym, refl, subst, ℕ, true, false, List}
use Rattle.chw_terms.specs.declared.rule.Rule.{Rule}
use Rattle.chw_terms.specs.declared.term.Arg.{Arg}
use Rattle.chw_terms.specs.TermTree.{TermTree, global, made}
use Rattle.chw_terms.specs.TermView.{applied}
use Rattle.chw_typing.specs.Programs.{IsSound}
use Rattle.rewriting.specs.Active.{IsActive, at_it, below}
use Rattle.rewriting.specs.Calls.{OfWhole, spec_call, anf_call, anf_result}
use Rattle.rewriting.specs.Instances.{HasInstance, on_core, on_whole}
use Rattle.rewriting.specs.Operands.{StandsInCall, of_global, of_made, NeedsName}
use Rattle.rewriting.specs.Origins.{Origins, setting_at}
use Rattle.rewriting.specs.Spots.{Spot, HasLets}
use Rattle.quiet_sides.proofs.Acts.{acts}
use Rattle.quiet_sides.proofs.Below.{IsStill, a_side, a_bare_name, a_lifted, a_constant, IsSpine, side_spine, lifted_is_spine, below_still}
use Rattle.quiet_sides.proofs.Forms.{a_name, form_of, form_applied, on_applied, on_core as at_core}
use Rattle.quiet_sides.proofs.Arguments.{lifted_form}
use Rattle.quiet_sides.proofs.Refused.{no_act}
use Rattle.quiet_sides.proofs.Spines.{QuietSpine, SpineIs, made_bare}
use Rattle.quiet_sides.proofs.Still.{no_variable_instance, no_written_instance}

no_call : {at : Spot} {e x : TermTree} {path : List ℕ} {o : Origins} → StandsInCall at e path x → NeedsName o at x → SpineIs QuietSpine e → ⊥
no_call (of_global d args i l g) n q = on_applied QuietSpine (global d) args (record { itself = refl; alone = refl }) q
no_call (of_made m args i {a = a} l g) n q = n.no_variable (on_applied QuietSpine (made m) args (made_bare m) q i a g)

no_global : (d : ℕ) (args : List Arg) → SpineIs QuietSpine (applied (global d) args) → ⊥
no_global d args q = on_applied QuietSpine (global d) args (record { itself = refl; alone = refl }) q

no_whole : {o : Origins} {at : Spot} {r : Rule} {e new : TermTree} → IsSpine o at e → OfWhole o at r e new → ⊥
no_whole s (spec_call l c n) = no_global c.of c.args (subst (SpineIs QuietSpine) c.is s.quiet)
no_whole s (anf_call f t) = no_call f.is.0 f.is.1 s.quiet
no_whole s (anf_result l r n w u t) = let two : true ≡ false = sym r ∙ s.no_result in cc

-- names are called there alone
no_spine : {o : Origins} {at : Spot} {r : Rule} {e new : TermTree} → IsSound (setting_at o) → IsSpine o at e → (form_of e ≡ a_name → HasLets at.mode) → HasInstance o at r e new → ⊥
no_spine {o} {at} {r} h s l (on_core core core' rest {t = t} m has) =
    no_act o at h s.typed rest t s.no_constant (λ f. l (form_applied rest core ∙ f)) has (acts o at r core core' m) (at_core QuietSpine core rest s.quiet)
no_spine h s l (on_whole w t) = no_whole s w

pub no_still : {o : Origins} {at : Spot} {r : Rule} {e new : TermTree} → IsSound (setting_at o) → IsStill o at e → HasInstance o at r e new → ⊥
no_still h (a_side t l r q) i = no_spine h (side_spine t l r q) (λ f. l) i
no_still h (a_bare_name v) i = no_variable_instance v i
no_still h (a_lifted t k r l) i = no_spine h (lifted_is_spine t k r l) (λ f. let g = lifted_form l in absurd cc) i
no_still h (a_constant k w) i = no_written_instance w k i

pub active_still : {o : Origins} {at to : Spot} {e x : TermTree} {p : List ℕ} → IsStill o at e → IsActive o at e p to x → IsStill o to x
active_still s at_it = s
active_still s (below b r) = active_still (below_still s b) r
