-- The named types of variables in scope.
use Rattle.std.proofs.Common.{◌≡◌, ◌∙◌, ap, sym, refl, subst, ℕ, zero, suc, ◌+◌, ◌<◌, ◌≤◌}
use Rattle.std.proofs.Common.{List, [], ◌∷◌, ◌++◌, map, length, take, get_or, arith}
use Rattle.std.proofs.Common.{Some}
use Rattle.std.specs.List.{slice_get, AllByRecursion}
use Rattle.std.proofs.lemmas.List.{map-append, take_all, take_more}
use Rattle.std.proofs.lemmas.Option.{same_Some}
use Rattle.chw_base.specs.declared.index.VarIx.{VarIx}
use Rattle.chw_types.specs.TypeTree.{TypeTree}
use Rattle.chw_terms.specs.declared.term.Arg.{Arg}
use Rattle.chw_terms.specs.declared.term.Arg.TheVariants.{OfTerm}
use Rattle.chw_terms.specs.TermTree.{TermTree, var}
use Rattle.rewriting.specs.Named.{IsNamed}
use Rattle.rewriting.specs.Origins.{Origins}
use Rattle.rewriting.specs.Spots.{Spot}
use Rattle.specialise.specs.Calls.{HasNamedType, HaveTypes}
use Rattle.specialise.specs.Closed.{numbers}

-- another variable's type
all_push : {X : Type 0} (P : X → Type 0) (xs : List X) (x : X) → AllByRecursion P xs → P x
    → AllByRecursion P (xs ++ x ∷ [])
all_push P [] x h p = (p, tt)
all_push P (y ∷ xs) x h p = (h.0, all_push P xs x h.1 p)

pub types_push : {o : Origins} {at : Spot} (xs : List ℕ) (ts : List TypeTree) (x : ℕ)
    (t : TypeTree) → HaveTypes o at xs ts → HasNamedType o at x t
    → HaveTypes o at (xs ++ x ∷ []) (ts ++ t ∷ [])
types_push {o} {at} xs ts x t h n = record {
  are = map-append (slice_get at.vars) xs (x ∷ [])
      ∙ (λ i. h.are i ++ n.0 i ∷ [])
      ∙ sym (map-append (λ (u : TypeTree). Some u) ts (t ∷ []));
  named = all_push (IsNamed o.program.datas at.mode) ts t h.named n.1;
}

pub numbers_more : (free : List VarIx) (i : ℕ) (d : VarIx) → i < length free
    → numbers (take (i + 1) free) ≡ numbers (take i free) ++ (get_or free i d).number ∷ []
numbers_more free i d l =
    ap numbers (take_more free i d l)
    ∙ map-append (λ (x : VarIx). x.number) (take i free) (get_or free i d ∷ [])

pub typed_more : {o : Origins} {at : Spot} (free : List VarIx) (i : ℕ) (d : VarIx)
    (ts next : List TypeTree) (t : TypeTree) → i < length free
    → HaveTypes o at (numbers (take i free)) ts → HasNamedType o at (get_or free i d).number t
    → next ≡ ts ++ t ∷ [] → HaveTypes o at (numbers (take (i + 1) free)) next
typed_more {o} {at} free i d ts next t l h n q =
    subst (λ xs. HaveTypes o at xs next) (sym (numbers_more free i d l))
    (subst (HaveTypes o at (numbers (take i free) ++ (get_or free i d).number ∷ [])) (sym q)
    (types_push (numbers (take i free)) ts (get_or free i d).number t h n))

-- a variable with no such type
pub none_have : (o : Origins) (at : Spot) (xs : List ℕ) (k x : ℕ) → slice_get xs k ≡ Some x
    → ((t : TypeTree) → HasNamedType o at x t → ⊥) → (ts : List TypeTree) → HaveTypes o at xs ts
    → ⊥
none_have o at [] k x e none ts h = absurd cc
none_have o at (y ∷ xs) k x e none [] h = let are = h.are in absurd cc
none_have o at (y ∷ xs) zero x e none (t ∷ ts) h =
    let are = h.are in
    let first : slice_get at.vars y ≡ Some t = cc in
    none t (subst (λ y. slice_get at.vars y ≡ Some t) (same_Some y x e) first, h.named.0)
none_have o at (y ∷ xs) (suc k) x e none (t ∷ ts) h =
    let are = h.are in
    let rest : map (slice_get at.vars) xs ≡ map (λ u. Some u) ts = cc in
    none_have o at xs k x e none ts (record { are = rest; named = h.named.1 })

pub number_at : (free : List VarIx) (i : ℕ) (d : VarIx) → i < length free
    → slice_get (numbers free) i ≡ Some (get_or free i d).number
number_at [] i d l = absurd (omega arith)
number_at (w ∷ free) zero d l = refl
number_at (w ∷ free) (suc i) d l = number_at free i d (omega arith)

pub all_typed : (o : Origins) (at : Spot) (free : List VarIx) (i : ℕ) (ts : List TypeTree)
    → length free ≤ i → HaveTypes o at (numbers (take i free)) ts → HaveTypes o at (numbers free) ts
all_typed o at free i ts all h =
    subst (λ vs. HaveTypes o at (numbers vs) ts) (take_all i free all) h

-- a made definition on variables, one more
pub args_more : (free : List VarIx) (i : ℕ) (d : VarIx) (done next : List Arg) (a : TermTree)
    → i < length free → done ≡ map (λ x. OfTerm (var x)) (numbers (take i free))
    → a ≡ var (get_or free i d).number → next ≡ done ++ OfTerm a ∷ []
    → next ≡ map (λ x. OfTerm (var x)) (numbers (take (i + 1) free))
args_more free i d done next a l h v q =
    q
    ∙ (λ j. h j ++ OfTerm (v j) ∷ [])
    ∙ sym (map-append (λ x. OfTerm (var x)) (numbers (take i free)) ((get_or free i d).number ∷ []))
    ∙ ap (map (λ x. OfTerm (var x))) (sym (numbers_more free i d l))

pub all_args : (free : List VarIx) (i : ℕ) (done : List Arg) → length free ≤ i
    → done ≡ map (λ x. OfTerm (var x)) (numbers (take i free))
    → done ≡ map (λ x. OfTerm (var x)) (numbers free)
all_args free i done all h =
    h ∙ ap (λ vs. map (λ x. OfTerm (var x)) (numbers vs)) (take_all i free all)
