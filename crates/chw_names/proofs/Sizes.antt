-- Each item of a list is smaller than the list, so that a walk over a tree ends.
use Rattle.std.proofs.Common.{◌≡◌, ℕ, zero, suc, ◌+◌, ◌<◌, ◌≤◌, List, [], ◌∷◌, length, get_or, sym, ◌∙◌, subst, arith}
use Rattle.chw_grammar.specs.declared.term_tree.Alternative.{Alternative}
use Rattle.chw_grammar.specs.declared.term_tree.Argument.{Argument}
use Rattle.chw_grammar.specs.declared.term_tree.Argument.TheVariants.{OfTerm, OfType}
use Rattle.chw_grammar.specs.declared.term_tree.Binding.{Binding}
use Rattle.chw_grammar.specs.TermSize.{term_size, terms_size, bindings_size, alternatives_size, arguments_size}
use Rattle.chw_grammar.specs.TermTree.{Tm}
use Rattle.chw_grammar.specs.TermView.{terms_of, bindings_of, alternatives_of, arguments_of}
use Rattle.chw_grammar.specs.TypeSize.{type_size, types_size}
use Rattle.chw_grammar.specs.TypeTree.{Ty}
use Rattle.chw_grammar.specs.TypeView.{types_of}

pub type_smaller : (ts : List Ty) (i : ℕ) (t d : Ty) → i < length ts → t ≡ get_or ts i d → type_size t + 1 ≤ types_size (types_of ts)
type_smaller [] i t d l is = absurd (omega arith)
type_smaller (u ∷ ts) zero t d l is = subst (λ x. type_size x + 1 ≤ types_size (types_of (u ∷ ts))) (sym is) (omega arith)
type_smaller (u ∷ ts) (suc i) t d l is = omega (arith, type_smaller ts i t d (omega arith) is)

pub term_smaller : (es : List Tm) (i : ℕ) (e d : Tm) → i < length es → e ≡ get_or es i d → term_size e + 1 ≤ terms_size (terms_of es)
term_smaller [] i e d l is = absurd (omega arith)
term_smaller (f ∷ es) zero e d l is = subst (λ x. term_size x + 1 ≤ terms_size (terms_of (f ∷ es))) (sym is) (omega arith)
term_smaller (f ∷ es) (suc i) e d l is = omega (arith, term_smaller es i e d (omega arith) is)

pub binding_smaller : (bs : List Binding) (i : ℕ) (b d : Binding) → i < length bs → b ≡ get_or bs i d → term_size b.term + 1 ≤ bindings_size (bindings_of bs)
binding_smaller [] i b d l is = absurd (omega arith)
binding_smaller (c ∷ bs) zero b d l is = subst (λ x. term_size x.term + 1 ≤ bindings_size (bindings_of (c ∷ bs))) (sym is) (omega arith)
binding_smaller (c ∷ bs) (suc i) b d l is = omega (arith, binding_smaller bs i b d (omega arith) is)

pub alternative_smaller : (alts : List Alternative) (i : ℕ) (a d : Alternative) → i < length alts → a ≡ get_or alts i d → term_size a.term + 1 ≤ alternatives_size (alternatives_of alts)
alternative_smaller [] i a d l is = absurd (omega arith)
alternative_smaller (b ∷ alts) zero a d l is = subst (λ x. term_size x.term + 1 ≤ alternatives_size (alternatives_of (b ∷ alts))) (sym is) (omega arith)
alternative_smaller (b ∷ alts) (suc i) a d l is = omega (arith, alternative_smaller alts i a d (omega arith) is)

one_more : (a : Argument) (args : List Argument) → arguments_size (arguments_of args) ≤ arguments_size (arguments_of (a ∷ args))
one_more (OfTerm e) args = omega arith
one_more (OfType t) args = omega arith

-- an argument that is a term
pub argument_smaller : (args : List Argument) (i : ℕ) (e : Tm) (a d : Argument) → i < length args → a ≡ get_or args i d → a ≡ OfTerm e → term_size e + 1 ≤ arguments_size (arguments_of args)
argument_smaller [] i e a d l is here = absurd (omega arith)
argument_smaller (b ∷ args) zero e a d l is here = subst (λ x. term_size e + 1 ≤ arguments_size (arguments_of (x ∷ args))) (sym here ∙ is) (omega arith)
argument_smaller (b ∷ args) (suc i) e a d l is here = omega (arith, one_more b args, argument_smaller args i e a d (omega arith) is here)
