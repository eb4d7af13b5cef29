-- What a term of a type gives at an argument.
use Rattle.std.proofs.Common.{◌≡◌, true, false, Option, refl, sym, ap, ◌∙◌, subst, List}
use Rattle.std.specs.Prelude.{Some, None, MatchOption}
use Rattle.std.proofs.lemmas.Bool.{false≢true}
use Rattle.chw_types.specs.declared.kind.Kind.{Kind}
use Rattle.chw_types.specs.declared.kind.Kind.TheVariants.{Nat, Dom, Val, Cir}
use Rattle.chw_types.specs.TypeTree.{TypeTree, fun, for_all}
use Rattle.chw_types.specs.TypeMoves.{put}
use Rattle.chw_types.specs.SameFound.{same_kind}
use Rattle.chw_types.specs.SameTypes.{SameTypes}
use Rattle.chw_types.proofs.KindsFound.{one_kind}
use Rattle.chw_typing.specs.Scopes.{Setting, HasKind}
use Rattle.chw_typing.specs.Finding.{settled}
use Rattle.seen_types.specs.declared.found.Found.{Found}
use Rattle.term_spines.specs.Forms.{TakesNot, TakesType, TakesTypeNot}
use Rattle.term_spines.specs.Kinding.{LacksKind, LacksKindUpTo, IsSettled}

-- an argument of another type than the parameter's
pub takes_not : (t arg from to : TypeTree) → t ≡ fun from to → (SameTypes from arg → ⊥) → TakesNot t arg
takes_not t arg from to is never a b e h =
    let both : fun a b ≡ fun from to = sym e ∙ is in
    let same : a ≡ from = cc in
    never (subst (λ x. SameTypes x arg) same h)

pub kinds_are : (j k : Kind) → same_kind j k ≡ true → j ≡ k
kinds_are Nat Nat e = refl
kinds_are Dom Dom e = refl
kinds_are Val Val e = refl
kinds_are Cir Cir e = refl
kinds_are _ _ e = absurd (cc)

kind_itself : (k : Kind) → same_kind k k ≡ true
kind_itself Nat = refl
kind_itself Dom = refl
kind_itself Val = refl
kind_itself Cir = refl

kinds_differ : (j k : Kind) → same_kind j k ≡ false → j ≡ k → ⊥
kinds_differ j k e is = false≢true (sym e ∙ ap (same_kind j) (sym is) ∙ kind_itself j)

-- a type argument without a kind
pub type_unkinded : (s : Setting) (kinds : List Kind) (t arg : TypeTree) → LacksKind s kinds arg → TakesTypeNot s kinds t arg
type_unkinded s kinds t arg never j k of u h is d same e = never j d

-- a type argument of another kind
pub type_of_other : (s : Setting) (kinds : List Kind) (t arg of : TypeTree) (j k : Kind) → t ≡ for_all k of → HasKind s kinds arg j → same_kind j k ≡ false → TakesTypeNot s kinds t arg
type_of_other s kinds t arg of j k is d differ i m of' u h is' d' same e =
    let both : for_all i of' ≡ for_all k of = sym is' ∙ is in
    let asked : i ≡ k = cc in
    kinds_differ j k differ (one_kind d d' ∙ asked)

pub type_told : (s : Setting) (kinds : List Kind) (t arg of put_in : TypeTree) (j k : Kind) (r : Option Found) → t ≡ for_all k of → HasKind s kinds arg j → same_kind j k ≡ true → put_in ≡ put of 0 arg → MatchOption r (LacksKindUpTo s kinds put_in) (λ f. IsSettled s kinds put_in f) → MatchOption r (TakesTypeNot s kinds t arg) (λ f. TakesType s kinds t arg f)
type_told s kinds t arg of put_in j k (Some f) is d same e h = record {
  j = k;
  of = of;
  is = is;
  kind = subst (HasKind s kinds arg) (kinds_are j k same) d;
  settled = subst (λ x. settled s kinds x ≡ f.ty) e h.0;
  kinded = h.1;
}
type_told s kinds t arg of put_in j k None is d same e never = λ i m of' u h is' d' same' l.
    let both : for_all i of' ≡ for_all k of = sym is' ∙ is in
    let bodies : of' ≡ of = cc in
    never u m h (subst (λ x. SameTypes x u) (ap (λ x. put x 0 arg) bodies ∙ sym e) same') l
