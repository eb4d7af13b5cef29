-- Heads at the arguments so far.
use Rattle.std.proofs.Common.{◌≡◌, ℕ, suc, zero, ◌+◌, ◌<◌, ◌≤◌, refl, sym, ap, ◌∙◌, subst, List, [], ◌∷◌, ◌++◌, length, take, drop, get_or}
use Rattle.std.proofs.lemmas.List.{take_all}
use Rattle.chw_types.specs.declared.kind.Kind.{Kind}
use Rattle.chw_types.specs.TypeTree.{TypeTree}
use Rattle.chw_types.proofs.SumsFound.{next_dropped}
use Rattle.chw_terms.specs.TermTree.{TermTree}
use Rattle.chw_terms.specs.TermView.{applied_to, applied}
use Rattle.chw_terms.specs.declared.term.Arg.{Arg}
use Rattle.chw_terms.proofs.Spines.{applied_last, applied_more}
use Rattle.chw_typing.specs.Scopes.{Setting}
use Rattle.term_types.specs.Answers.{HasNoType, IsTyped}
use Rattle.seen_types.specs.declared.found.Found.{Found}
use Rattle.term_types.proofs.Applied.{applied_none}
use Rattle.seen_types.proofs.EachItem.{next_taken}

one_more : (h : TermTree) (args : List Arg) (i : ℕ) (a d : Arg) → i < length args → a ≡ get_or args i d → applied h (take (i + 1) args) ≡ applied_to (applied h (take i args)) a
one_more h args i a d l is = ap (applied h) (next_taken args i a d l is) ∙ applied_last h (take i args) a

pub spine_next : {s : Setting} {kinds : List Kind} {vars : List TypeTree} (h : TermTree) (args : List Arg) (i : ℕ) (a d : Arg) (f : Found) → i < length args → a ≡ get_or args i d → IsTyped s kinds vars (applied_to (applied h (take i args)) a) f → IsTyped s kinds vars (applied h (take (i + 1) args)) f
spine_next {s} {kinds} {vars} h args i a d f l is t = subst (λ e. IsTyped s kinds vars e f) (sym (one_more h args i a d l is)) t

taken_dropped : (args : List Arg) (i : ℕ) → take i args ++ drop i args ≡ args
taken_dropped [] zero = refl
taken_dropped [] (suc i) = refl
taken_dropped (a ∷ args) zero = refl
taken_dropped (a ∷ args) (suc i) = ap (λ xs. a ∷ xs) (taken_dropped args i)

pub spine_none : {s : Setting} {kinds : List Kind} {vars : List TypeTree} (h : TermTree) (args : List Arg) (i : ℕ) (a d : Arg) → i < length args → a ≡ get_or args i d → HasNoType s kinds vars (applied_to (applied h (take i args)) a) → HasNoType s kinds vars (applied h args)
spine_none {s} {kinds} {vars} h args i a d l is never =
    let at : applied h args ≡ applied (applied_to (applied h (take i args)) a) (drop (i + 1) args) =
    ap (applied h) (sym (taken_dropped args i)) ∙ applied_more h (take i args) (drop i args) ∙ ap (applied (applied h (take i args))) (next_dropped args i a d l is) in
    subst (HasNoType s kinds vars) (sym at) (applied_none (applied_to (applied h (take i args)) a) (drop (i + 1) args) never)

pub spine_all : {s : Setting} {kinds : List Kind} {vars : List TypeTree} (h : TermTree) (args : List Arg) (i : ℕ) (f : Found) → length args ≤ i → IsTyped s kinds vars (applied h (take i args)) f → IsTyped s kinds vars (applied h args) f
spine_all {s} {kinds} {vars} h args i f l t = subst (λ xs. IsTyped s kinds vars (applied h xs) f) (take_all i args l) t
