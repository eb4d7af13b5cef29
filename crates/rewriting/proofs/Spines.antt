-- The head and the arguments of an application.
use Rattle.std.proofs.Common.{◌≡◌, ◌∙◌, sym, ap, refl, List, [], ◌∷◌, ◌++◌, length, append_assoc, take, drop}
use Rattle.std.proofs.Math.Seq.{drop-append_seam, take-append_seam}
use Rattle.std.proofs.lemmas.List.{append-nil as nothing_behind}
use Rattle.chw_terms.specs.declared.term.Arg.{Arg}
use Rattle.chw_terms.specs.declared.term.Arg.TheVariants.{OfTerm, OfType}
use Rattle.chw_terms.specs.TermTree.{TermTree, app, ty_app}
use Rattle.chw_terms.specs.TermView.{applied}
use Rattle.chw_types.specs.TypeTree.{TypeTree}
use Rattle.chw_typing.specs.Given.{types_then}
use Rattle.rewriting.proofs.Lists.{mapped_same}

abbrev pub head_of : TermTree → TermTree
head_of (app f a) = head_of f
head_of (ty_app f t) = head_of f
head_of e = e

abbrev pub args_of : TermTree → List Arg
args_of (app f a) = args_of f ++ OfTerm a ∷ []
args_of (ty_app f t) = args_of f ++ OfType t ∷ []
args_of e = []

pub head_applied : (args : List Arg) (e : TermTree) → head_of (applied e args) ≡ head_of e
head_applied [] e = refl
head_applied (OfTerm a ∷ args) e = head_applied args (app e a)
head_applied (OfType t ∷ args) e = head_applied args (ty_app e t)

pub args_applied : (args : List Arg) (e : TermTree) → args_of (applied e args) ≡ args_of e ++ args
args_applied [] e = sym (nothing_behind (args_of e))
args_applied (OfTerm a ∷ args) e = args_applied args (app e a) ∙ append_assoc (args_of e) (OfTerm a ∷ []) args
args_applied (OfType t ∷ args) e = args_applied args (ty_app e t) ∙ append_assoc (args_of e) (OfType t ∷ []) args

-- no application
pub record IsBare (e : TermTree) : Type 0 where
  pub itself : head_of e ≡ e
  pub alone : args_of e ≡ []

-- a head and arguments are those of the application
pub head_is : (h k : TermTree) (args more : List Arg) → IsBare h → IsBare k → applied h args ≡ applied k more → h ≡ k
head_is h k args more b d q =
    sym b.itself ∙ sym (head_applied args h) ∙ ap head_of q ∙ head_applied more k ∙ d.itself

pub args_are : (h k : TermTree) (args more : List Arg) → IsBare h → IsBare k → applied h args ≡ applied k more → args ≡ more
args_are h k args more b d q =
    sym (ap (λ xs. xs ++ args) b.alone) ∙ sym (args_applied args h) ∙ ap args_of q ∙ args_applied more k ∙ ap (λ xs. xs ++ more) d.alone

-- lists of one length with others behind them
pub fronts_same : {X : Type 0} (xs ys us vs : List X) → length xs ≡ length ys → xs ++ us ≡ ys ++ vs → xs ≡ ys
fronts_same xs ys us vs n q =
    sym (take-append_seam xs us) ∙ ap (take (length xs)) q ∙ ap (λ k. take k (ys ++ vs)) n ∙ take-append_seam ys vs

pub backs_same : {X : Type 0} (xs ys us vs : List X) → length xs ≡ length ys → xs ++ us ≡ ys ++ vs → us ≡ vs
backs_same xs ys us vs n q =
    sym (drop-append_seam xs us) ∙ ap (drop (length xs)) q ∙ ap (λ k. drop k (ys ++ vs)) n ∙ drop-append_seam ys vs

-- types and terms as arguments
pub record SameGiven (types types' : List TypeTree) (es es' : List TermTree) : Type 0 where
  pub on_types : types ≡ types'
  pub on_terms : es ≡ es'

pub given_same : (types types' : List TypeTree) (es es' : List TermTree) → types_then types es ≡ types_then types' es' → SameGiven types types' es es'
given_same [] [] es es' q = record { on_types = refl; on_terms = mapped_same (λ e. OfTerm e) (λ e f q. cc) es es' q }
given_same [] (t ∷ ts) [] es' q = absurd cc
given_same [] (t ∷ ts) (e ∷ es) es' q = absurd cc
given_same (t ∷ ts) [] es [] q = absurd cc
given_same (t ∷ ts) [] es (e ∷ es') q = absurd cc
given_same (t ∷ ts) (u ∷ us) es es' q =
    let first : t ≡ u = cc in
    let rest : types_then ts es ≡ types_then us es' = cc in
    let same = given_same ts us es es' rest in
    record { on_types = λ i. first i ∷ same.on_types i; on_terms = same.on_terms }
