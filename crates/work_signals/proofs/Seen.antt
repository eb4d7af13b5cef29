-- A primitive on arguments, as it is seen.
use Rattle.std.proofs.Common.{◌≡◌, ◌∙◌, sym, ap, List, [], ◌∷◌, Option, Some, None, Bor}
use Rattle.std.specs.Prelude.{MatchOption}
use Rattle.chw_types.specs.TypeTree.{TypeTree}
use Rattle.chw_prims.specs.declared.prim.Primitive.{Primitive as Prim}
use Rattle.chw_terms.specs.declared.term.Arg.{Arg}
use Rattle.chw_terms.specs.declared.term.Head.{Head}
use Rattle.chw_terms.specs.declared.term.Head.TheVariants.{PrimOf}
use Rattle.chw_terms.specs.TermTree.{TermTree, prim}
use Rattle.chw_terms.specs.TermView.{tree_of, applied}
use Rattle.chw_typing.specs.Given.{types_then}
use Rattle.rewriting.proofs.Spines.{head_is, args_are}
use Rattle.rule_parts.proofs.Heads.{bare}
use Rattle.work_signals.specs.declared.views.Lifted.{Lifted}

-- a head that isn't the primitive
pub no_prim : (p : Prim) (h : Head) (args given : List Arg)
    → (tree_of h ≡ prim p → ⊥) → applied (tree_of h) args ≡ applied (prim p) given → ⊥
no_prim p h args given none q =
    none (head_is (tree_of h) (prim p) args given (bare h) (bare (PrimOf p)) q)

-- two primitives that one head is
pub one_prim : (p q : Prim) (h : TermTree) → h ≡ prim p → h ≡ prim q → p ≡ q
one_prim p q h i j = cc

args_of_prim : (p : Prim) (h : Head) (args given : List Arg)
    → applied (tree_of h) args ≡ applied (prim p) given → args ≡ given
args_of_prim p h args given q =
    args_are (tree_of h) (prim p) args given (bare h) (bare (PrimOf p)) q

-- three types and two terms behind the primitive
pub lifted_seen : (p : Prim) (h : Head) (args : List Arg) (r : Option Lifted)
    → tree_of h ≡ prim p
    → MatchOption r
    ((d a b : TypeTree) (f s : TermTree) → args ≡ types_then (d ∷ a ∷ b ∷ []) (f ∷ s ∷ []) → ⊥)
    (λ l. args
    ≡ types_then (l.dom.now ∷ l.from.now ∷ l.to.now ∷ []) (l.function.now ∷ l.signal.now ∷ []))
    → MatchOption r
    ((d a b : TypeTree) (f s : TermTree)
    → applied (tree_of h) args ≡ applied (prim p) (types_then (d ∷ a ∷ b ∷ []) (f ∷ s ∷ [])) → ⊥)
    (λ l. applied (tree_of h) args
    ≡ applied (prim p)
    (types_then (l.dom.now ∷ l.from.now ∷ l.to.now ∷ []) (l.function.now ∷ l.signal.now ∷ [])))
lifted_seen p h args (Some l) q is = λ i. applied (q i) (is i)
lifted_seen p h args None q none = λ d a b f s e.
    none d a b f s (args_of_prim p h args (types_then (d ∷ a ∷ b ∷ []) (f ∷ s ∷ [])) e)

-- two types and a term behind the primitive
pub constant_seen : (p : Prim) (h : Head) (args : List Arg) (e : TermTree)
    (r : Option (Bor TermTree))
    → tree_of h ≡ prim p → applied (tree_of h) args ≡ e
    → MatchOption r
    ((d a : TypeTree) (v : TermTree) → args ≡ types_then (d ∷ a ∷ []) (v ∷ []) → ⊥)
    (λ v. (d a : TypeTree) × (args ≡ types_then (d ∷ a ∷ []) (v.now ∷ [])))
    → MatchOption r
    ((d a : TypeTree) (v : TermTree)
    → e ≡ applied (prim p) (types_then (d ∷ a ∷ []) (v ∷ [])) → ⊥)
    (λ v. (d a : TypeTree) × (e ≡ applied (prim p) (types_then (d ∷ a ∷ []) (v.now ∷ []))))
constant_seen p h args e (Some v) q whole is =
    (is.0, is.1, sym whole ∙ (λ i. applied (q i) (is.2 i)))
constant_seen p h args e None q whole none = λ d a v e'.
    none d a v (args_of_prim p h args (types_then (d ∷ a ∷ []) (v ∷ [])) (whole ∙ e'))
