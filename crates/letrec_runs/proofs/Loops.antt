-- Lists of bindings of which one more is passed.
use Rattle.std.proofs.Common.{◌≡◌, ◌∙◌, ◌<◌, ◌+◌, ℕ, sym, ap, subst, List, [], ◌∷◌, ◌++◌, length, take, get_or}
use Rattle.std.specs.List.{AllByRecursion}
use Rattle.std.proofs.lemmas.List.{take_more}
use Rattle.chw_types.specs.TypeTree.{TypeTree}
use Rattle.chw_terms.specs.declared.term.Binding.{Binding}
use Rattle.chw_terms.specs.TermView.{group_of}
use Rattle.chw_typing.specs.Scopes.{declared}
use Rattle.letrec_runs.proofs.Groups.{declared_joined}

-- the types of one binding more
pub declared_more : (bs : List Binding) (i : ℕ) (b : Binding) → i < length bs → b ≡ get_or bs i b
    → declared (group_of (take (i + 1) bs)) ≡ declared (group_of (take i bs)) ++ b.ty ∷ []
declared_more bs i b l is =
    ap (λ xs. declared (group_of xs)) (take_more bs i b l)
    ∙ declared_joined (take i bs) (get_or bs i b ∷ []) ∙ ap (λ (x : Binding). declared (group_of (take i bs)) ++ x.ty ∷ []) (sym is)

all_and_one : (P : TypeTree → Type 0) (ts : List TypeTree) (t : TypeTree) → AllByRecursion P ts → P t → AllByRecursion P (ts ++ t ∷ [])
all_and_one P [] t h p = (p, tt)
all_and_one P (u ∷ ts) t h p = (h.0, all_and_one P ts t h.1 p)

pub named_more : (P : TypeTree → Type 0) (bs : List Binding) (i : ℕ) (b : Binding) → i < length bs → b ≡ get_or bs i b → P b.ty
    → AllByRecursion P (declared (group_of (take i bs))) → AllByRecursion P (declared (group_of (take (i + 1) bs)))
named_more P bs i b l is p h = subst (AllByRecursion P) (sym (declared_more bs i b l is)) (all_and_one P (declared (group_of (take i bs))) b.ty h p)
