-- What stands for a name.
use Rattle.std.proofs.Common.{◌≡◌, sym, subst, ℕ, Some, None, slice_get}
use Rattle.chw_terms.specs.declared.program.Def.{Def}
use Rattle.chw_terms.specs.declared.rule.Rule.{Rule}
use Rattle.chw_terms.specs.declared.rule.Rule.TheVariants.{Unfold}
use Rattle.chw_terms.specs.TermTree.{TermTree, global, made}
use Rattle.rewriting.specs.Origins.{MadeOf, Origins}
use Rattle.rewriting.specs.Spots.{Spot, HasLets}
use Rattle.rewriting.specs.Names.{OfNames, unfold_global, unfold_made}

pub body_made : (o : Origins) (at : Spot) (d : ℕ) (it : Def) (e e' : TermTree) → (HasLets at.mode → ⊥) → e ≡ global d → slice_get o.program.defs d ≡ Some it → e' ≡ it.body → OfNames o at Unfold e e'
body_made o at d it e e' n q g r =
    subst (λ e. OfNames o at Unfold e e') (sym q) (subst (OfNames o at Unfold (global d)) (sym r) (unfold_global n g))

pub origin_made : (o : Origins) (at : Spot) (m : ℕ) (it : MadeOf) (e e' : TermTree) → (HasLets at.mode → ⊥) → e ≡ made m → slice_get o.made m ≡ Some it → e' ≡ it.origin → OfNames o at Unfold e e'
origin_made o at m it e e' n q g r =
    subst (λ e. OfNames o at Unfold e e') (sym q) (subst (OfNames o at Unfold (made m)) (sym r) (unfold_made n g))

-- nothing where there is no such definition
pub no_body : {o : Origins} {at : Spot} {r : Rule} {e e' : TermTree} (d : ℕ) → e ≡ global d → slice_get o.program.defs d ≡ None → OfNames o at r e e' → ⊥
no_body {o} d q none (unfold_global {d = c} {it = it} n g) =
    let same : c ≡ d = cc in
    let there : slice_get o.program.defs d ≡ Some it = subst (λ d. slice_get o.program.defs d ≡ Some it) same g in
    absurd cc
no_body d q none (unfold_made n g) = absurd cc

pub no_origin : {o : Origins} {at : Spot} {r : Rule} {e e' : TermTree} (m : ℕ) → e ≡ made m → slice_get o.made m ≡ None → OfNames o at r e e' → ⊥
no_origin {o} m q none (unfold_made {m = k} {it = it} n g) =
    let same : k ≡ m = cc in
    let there : slice_get o.made m ≡ Some it = subst (λ m. slice_get o.made m ≡ Some it) same g in
    absurd cc
no_origin m q none (unfold_global n g) = absurd cc
