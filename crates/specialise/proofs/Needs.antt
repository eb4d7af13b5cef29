-- Which terms need names.
use Rattle.std.proofs.Common.{◌≡◌, ◌∙◌, ◌<◌, ◌≤◌, ◌+◌, inl, inr, ℕ, List, [], length, ap, sym, refl, Some}
use Rattle.std.proofs.Common.{get_or, arith, subst, Bool, IsTrue, ◌↔◌, Result, Ok, Err}
use Rattle.std.specs.Prelude.{IfOk}
use Rattle.std.proofs.lemmas.Bool.{cases_order}
use Rattle.std.proofs.lemmas.List.{get_or_default}
use Rattle.std.proofs.lemmas.Option.{slice_get_read}
use Rattle.chw_types.specs.declared.declarations.Data.{Data}
use Rattle.chw_types.specs.TypeTree.{TypeTree}
use Rattle.chw_terms.specs.declared.term.Arg.{Arg}
use Rattle.chw_terms.specs.declared.term.Arg.TheVariants.{OfTerm}
use Rattle.chw_terms.specs.TermTree.{TermTree}
use Rattle.chw_typing.specs.Laws.{OneType, TypesAreTermTypes}
use Rattle.chw_typing.specs.Finding.{Finds}
use Rattle.chw_typing.specs.FoundLaws.{FoundIsType}
use Rattle.term_types.specs.Answers.{IsReady}
use Rattle.rewriting.specs.SceneLaws.{SameKeepsNamed}
use Rattle.rewriting.specs.Named.{IsNamed}
use Rattle.rewriting.specs.Origins.{Origins, setting_at}
use Rattle.rewriting.specs.Spots.{Spot}
use Rattle.rewriting.specs.Operands.{NeedsName}
use Rattle.rewriting.specs.Shapes.{IsVariable}
use Rattle.rule_parts.specs.Cores.{HasTypeAt}
use Rattle.call_types.specs.Arguments.{AllTyped}
use Rattle.specialise.specs.Calls.{NoneNeedsName}

-- one that is no variable does where the type that is found is named
pub needs_found : {o : Origins} {at : Spot} (x : TermTree) (t : TypeTree) → FoundIsType
    → (IsVariable x → ⊥) → Finds (setting_at o) [] at.vars x t
    → IsNamed o.program.datas at.mode t → NeedsName o at x
needs_found {o} {at} x t is_type none found named = record {
  no_variable = none;
  type = t;
  has = is_type (setting_at o) [] at.vars x t found;
  named = named;
}

-- the type that is found for a term that needs a name is named
pub found_is_named : {o : Origins} {at : Spot} (x : TermTree) (t : TypeTree) → OneType
    → TypesAreTermTypes → FoundIsType → SameKeepsNamed → IsReady (setting_at o) [] at.vars
    → Finds (setting_at o) [] at.vars x t → NeedsName o at x → IsNamed o.program.datas at.mode t
found_is_named {o} {at} x t one kinded is_type kept ready found needs =
    let s = setting_at o in
    let kind = kinded s [] at.vars x needs.type ready.0 ready.1 needs.has in
    kept s at.mode needs.type t kind.kind ready.0 kind.has
    (one s [] at.vars x needs.type t ready.0 ready.1 needs.has (is_type s [] at.vars x t found))
    needs.named

-- no argument before this number needs a name
abbrev pub NoneBefore : Origins → Spot → List Arg → ℕ → Type 0
NoneBefore o at args n =
    (a : TermTree) (k : ℕ) → k < n → k < length args
    → get_or args k (OfTerm a) ≡ OfTerm a → NeedsName o at a → ⊥

-- one argument needs a name
abbrev pub IsNeeding : Origins → Spot → Arg → Type 0
IsNeeding o at arg = (a : TermTree) × (arg ≡ OfTerm a) × NeedsName o at a

same_item : (args : List Arg) (n k : ℕ) (arg : Arg) (a : TermTree) → k ≡ n → k < length args
    → arg ≡ get_or args n arg → get_or args k (OfTerm a) ≡ OfTerm a → arg ≡ OfTerm a
same_item args n k arg a e l q is =
    q ∙ ap (λ j. get_or args j arg) (sym e) ∙ get_or_default args k arg (OfTerm a) l ∙ is

pub none_more : {o : Origins} {at : Spot} (args : List Arg) (n : ℕ) (arg : Arg)
    → arg ≡ get_or args n arg → NoneBefore o at args n → (IsNeeding o at arg → ⊥)
    → NoneBefore o at args (n + 1)
none_more args n arg q before here a k m l is needs = elim (cases_order k n) [
  | inl e ↦ here (a, same_item args n k arg a e l q is, needs)
  | inr r ↦ elim r [ inl j ↦ before a k j l is needs | inr j ↦ absurd (omega (arith, m, j)) ]
]

pub none_of_all : {o : Origins} {at : Spot} (args : List Arg) (n : ℕ) → length args ≤ n
    → NoneBefore o at args n → NoneNeedsName o at args
none_of_all args n all before a c needs =
    let l = c.1 in before a c.0 (omega (arith, l, all)) l c.2 needs

pub one_needs : {o : Origins} {at : Spot} (args : List Arg) (n : ℕ) (arg : Arg) → n < length args
    → arg ≡ get_or args n arg → IsNeeding o at arg → NoneNeedsName o at args → ⊥
one_needs args n arg l q needs none =
    let here : get_or args n (OfTerm needs.0) ≡ OfTerm needs.0 =
    get_or_default args n (OfTerm needs.0) arg l ∙ sym q ∙ needs.1 in
    none needs.0 (n, l, here) needs.2

-- what is told of a type's being named tells whether the term needs a name
pub decided : {E : Type 0} (o : Origins) (at : Spot) (x : TermTree) (t : TypeTree)
    (seen : List Data) (r : Result Bool E) → seen ≡ o.program.datas
    → IfOk r (λ is. IsTrue is ↔ IsNamed seen at.mode t)
    → (IsNamed o.program.datas at.mode t → NeedsName o at x)
    → (NeedsName o at x → IsNamed o.program.datas at.mode t)
    → IfOk r (λ is. IsTrue is ↔ NeedsName o at x)
decided o at x t seen (Err e) q h f g = tt
decided o at x t seen (Ok b) q h f g = (
  λ y. f (subst (λ ds. IsNamed ds at.mode t) q (h.0 y)),
  λ n. h.1 (subst (λ ds. IsNamed ds at.mode t) (sym q) (g n)),
)

-- an argument that is a term needs one where the term does
pub of_term : {E : Type 0} (o : Origins) (at : Spot) (arg : Arg) (a : TermTree) (r : Result Bool E)
    → arg ≡ OfTerm a → IfOk r (λ is. IsTrue is ↔ NeedsName o at a)
    → IfOk r (λ is. IsTrue is ↔ IsNeeding o at arg)
of_term o at arg a (Err e) q h = tt
of_term o at arg a (Ok b) q h = (λ y. (a, q, h.0 y), back)
  where
    back : IsNeeding o at arg → IsTrue b
    back n =
        let both : OfTerm n.0 ≡ OfTerm a = sym n.1 ∙ q in
        let same : n.0 ≡ a = cc in
        h.1 (subst (NeedsName o at) same n.2)

-- the argument of a number has a type, where it is a term
pub argument_typed : (o : Origins) (at : Spot) (args : List Arg) (n : ℕ) (arg : Arg)
    → n < length args → arg ≡ get_or args n arg → AllTyped o at args → (a : TermTree)
    → arg ≡ OfTerm a → HasTypeAt o at a
argument_typed o at args n arg l q typed a is =
    typed n a (slice_get_read args (length args) n arg refl l q ∙ ap Some is)
