-- Each part of a list of parts is smaller than the list, so that the walks over a tree end.
use Rattle.std.proofs.Common.{◌≡◌, ℕ, suc, zero, ◌+◌, ◌<◌, ◌≤◌, List, [], ◌∷◌, length, get_or, subst, sym, arith}
use Rattle.chw_grammar.specs.declared.term_tree.Alternative.{Alternative}
use Rattle.chw_grammar.specs.declared.term_tree.Argument.{Argument}
use Rattle.chw_grammar.specs.declared.term_tree.Argument.TheVariants.{OfTerm, OfType}
use Rattle.chw_grammar.specs.declared.term_tree.Binding.{Binding}
use Rattle.chw_grammar.specs.TermSize.{term_size, terms_size, bindings_size, alternatives_size, arguments_size}
use Rattle.chw_grammar.specs.TermTree.{Tm}
use Rattle.chw_grammar.specs.TermView.{terms_of, bindings_of, alternatives_of, arguments_of}
use Rattle.chw_grammar.specs.TypeSize.{type_size, types_size}
use Rattle.chw_grammar.specs.TypeTree.{Ty}
use Rattle.chw_grammar.specs.TypeView.{types_of}

pub type_smaller : (ts : List Ty) (i : ℕ) (t d : Ty) → i < length ts → t ≡ get_or ts i d → type_size t + 1 ≤ types_size (types_of ts)
type_smaller [] i t d l is = absurd (omega arith)
type_smaller (u ∷ ts) zero t d l is = subst (λ x. type_size x + 1 ≤ types_size (types_of (u ∷ ts))) (sym is) (omega arith)
type_smaller (u ∷ ts) (suc i) t d l is = omega (arith, type_smaller ts i t d (omega arith) is)

pub term_smaller : (es : List Tm) (i : ℕ) (e d : Tm) → i < length es → e ≡ get_or es i d → term_size e + 1 ≤ terms_size (terms_of es)
term_smaller [] i e d l is = absurd (omega arith)
term_smaller (f ∷ es) zero e d l is = subst (λ x. term_size x + 1 ≤ terms_size (terms_of (f ∷ es))) (sym is) (omega arith)
term_smaller (f ∷ es) (suc i) e d l is = omega (arith, term_smaller es i e d (omega arith) is)

pub binding_smaller : (bs : List Binding) (i : ℕ) (b d : Binding) → i < length bs → b ≡ get_or bs i d → term_size b.term + 1 ≤ bindings_size (bindings_of bs)
binding_smaller [] i b d l is = absurd (omega arith)
binding_smaller (c ∷ bs) zero b d l is = subst (λ (x : Binding). term_size x.term + 1 ≤ bindings_size (bindings_of (c ∷ bs))) (sym is) (omega arith)
binding_smaller (c ∷ bs) (suc i) b d l is = omega (arith, binding_smaller bs i b d (omega arith) is)

pub alternative_smaller : (more : List Alternative) (i : ℕ) (a d : Alternative) → i < length more → a ≡ get_or more i d → term_size a.term + 1 ≤ alternatives_size (alternatives_of more)
alternative_smaller [] i a d l is = absurd (omega arith)
alternative_smaller (b ∷ more) zero a d l is = subst (λ (x : Alternative). term_size x.term + 1 ≤ alternatives_size (alternatives_of (b ∷ more))) (sym is) (omega arith)
alternative_smaller (b ∷ more) (suc i) a d l is = omega (arith, alternative_smaller more i a d (omega arith) is)

arguments_more : (a : Argument) (args : List Argument) → arguments_size (arguments_of (a ∷ args)) ≡ arguments_size (arguments_of (a ∷ [])) + arguments_size (arguments_of args)
arguments_more (OfTerm e) args = omega arith
arguments_more (OfType t) args = omega arith

pub argument_smaller : (args : List Argument) (i : ℕ) (a d : Argument) → i < length args → a ≡ get_or args i d → arguments_size (arguments_of (a ∷ [])) ≤ arguments_size (arguments_of args)
argument_smaller [] i a d l is = absurd (omega arith)
argument_smaller (b ∷ args) zero a d l is = subst (λ x. arguments_size (arguments_of (x ∷ [])) ≤ arguments_size (arguments_of (b ∷ args))) (sym is) (omega (arith, arguments_more b args))
argument_smaller (b ∷ args) (suc i) a d l is = omega (arith, arguments_more b args, argument_smaller args i a d (omega arith) is)
