-- Terms with arguments, and without.
use Rattle.std.proofs.Common.{◌≡◌, refl, subst, List, [], ◌∷◌}
use Rattle.chw_terms.specs.declared.term.Arg.{Arg}
use Rattle.chw_terms.specs.declared.term.Arg.TheVariants.{OfTerm, OfType}
use Rattle.chw_terms.specs.TermTree.{TermTree}
use Rattle.chw_terms.specs.TermView.{applied, applied_to}
use Rattle.flow_cases.specs.Heads.{IsApplied}

applied_some : (args : List Arg) (a : Arg) (e : TermTree) → IsApplied (applied e (a ∷ args))
applied_some [] (OfTerm x) e = tt
applied_some [] (OfType t) e = tt
applied_some (b ∷ args) a e = applied_some args b (applied_to e a)

pub applied_unless : (h : TermTree) (args : List Arg) (e : TermTree) → (args ≡ [] → ⊥) → applied h args ≡ e → IsApplied e
applied_unless h [] e some q = absurd (some refl)
applied_unless h (a ∷ args) e some q = subst IsApplied q (applied_some args a h)
