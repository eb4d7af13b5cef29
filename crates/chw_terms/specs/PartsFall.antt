-- An argument of a spine, and each part of a head, is smaller than the whole, so that a walk over a term ends.
use Rattle.std.specs.Prelude.{◌≡◌, ℕ, suc, zero, ◌+◌, ◌<◌, ◌≤◌, List, [], ◌∷◌, length}
use Rattle.std.proofs.Common.{subst, sym, get_or, arith}
use Rattle.chw_terms.specs.TermTree.{TermTree}
use Rattle.chw_terms.specs.TermSize.{tree_size, terms_size, group_size, alts_size, args_size}
use Rattle.chw_terms.specs.TermView.{terms_of, group_of, alts_of}
use Rattle.chw_terms.specs.declared.term.Alt.{Alt}
use Rattle.chw_terms.specs.declared.term.Arg.{Arg}
use Rattle.chw_terms.specs.declared.term.Arg.TheVariants.{OfTerm, OfType}
use Rattle.chw_terms.specs.declared.term.Binding.{Binding}

args_more : (a : Arg) (args : List Arg) → args_size (a ∷ args) ≡ args_size (a ∷ []) + args_size args
args_more (OfTerm e) args = omega arith
args_more (OfType t) args = omega arith

pub arg_smaller : (args : List Arg) (i : ℕ) (a d : Arg) → i < length args → a ≡ get_or args i d → args_size (a ∷ []) ≤ args_size args
arg_smaller [] i a d l is = absurd (omega arith)
arg_smaller (b ∷ args) zero a d l is = subst (λ x. args_size (x ∷ []) ≤ args_size (b ∷ args)) (sym is) (omega (arith, args_more b args))
arg_smaller (b ∷ args) (suc i) a d l is = omega (arith, args_more b args, arg_smaller args i a d (omega arith) is)

pub term_smaller : (es : List TermTree) (i : ℕ) (e d : TermTree) → i < length es → e ≡ get_or es i d → tree_size e + 1 ≤ terms_size (terms_of es)
term_smaller [] i e d l is = absurd (omega arith)
term_smaller (f ∷ es) zero e d l is = subst (λ x. tree_size x + 1 ≤ terms_size (terms_of (f ∷ es))) (sym is) (omega arith)
term_smaller (f ∷ es) (suc i) e d l is = omega (arith, term_smaller es i e d (omega arith) is)

pub binding_smaller : (bs : List Binding) (i : ℕ) (b d : Binding) → i < length bs → b ≡ get_or bs i d → tree_size b.body + 1 ≤ group_size (group_of bs)
binding_smaller [] i b d l is = absurd (omega arith)
binding_smaller (c ∷ bs) zero b d l is = subst (λ x. tree_size x.body + 1 ≤ group_size (group_of (c ∷ bs))) (sym is) (omega arith)
binding_smaller (c ∷ bs) (suc i) b d l is = omega (arith, binding_smaller bs i b d (omega arith) is)

pub alt_smaller : (alts : List Alt) (i : ℕ) (a d : Alt) → i < length alts → a ≡ get_or alts i d → tree_size a.body + 1 ≤ alts_size (alts_of alts)
alt_smaller [] i a d l is = absurd (omega arith)
alt_smaller (b ∷ alts) zero a d l is = subst (λ x. tree_size x.body + 1 ≤ alts_size (alts_of (b ∷ alts))) (sym is) (omega arith)
alt_smaller (b ∷ alts) (suc i) a d l is = omega (arith, alt_smaller alts i a d (omega arith) is)
