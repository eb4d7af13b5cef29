-- What a case leaves out, by its first alternative.
use Rattle.std.proofs.Common.{◌≡◌, ℕ, Bool, sym, ap, ◌∙◌, subst, List, [], ◌∷◌, Option, Some}
use Rattle.std.specs.Prelude.{MatchOption}
use Rattle.std.specs.List.{slice_get}
use Rattle.std.proofs.lemmas.Option.{none-some, same_Some}
use Rattle.chw_base.specs.declared.index.ConId.{ConId}
use Rattle.chw_types.specs.declared.kind.Scalar.{Scalar}
use Rattle.chw_types.specs.declared.declarations.Data.{Data}
use Rattle.chw_terms.specs.declared.term.Alt.{Alt}
use Rattle.chw_terms.specs.declared.term.Pattern.TheVariants.{OfCon, OfLit}
use Rattle.chw_terms.specs.TermTree.{Alts, alt}
use Rattle.chw_terms.specs.TermView.{alts_of}
use Rattle.chw_typing.specs.Alternatives.{HasDefault}
use Rattle.chw_check.specs.declared.cases.lacks.Lacks.TheVariants.{Constructor, Default}
use Rattle.chw_check.specs.declared.cases.lacks.Sought.{Sought}
use Rattle.chw_check.specs.declared.cases.lacks.Sought.TheVariants.{Constructors, Defaults}
use Rattle.chw_check.specs.LeavesOut.{LeavesOut, a_constructor, a_default}
use Rattle.chw_check.specs.WithoutAlternative.{IsMissing, NoneMissing}

-- constructors are sought, and the first is for one
pub constructor_left : (datas : List Data) (sought : Sought) (alts : List Alt) (a : Alt) (c : ConId) (n : ℕ) (d : ConId) → sought ≡ Constructors → Some a ≡ slice_get alts 0 → a.pattern ≡ OfCon c n
    → (HasDefault (alts_of alts) → ⊥) → IsMissing datas c.number (alts_of alts) d.number → LeavesOut datas sought (alts_of alts) (Constructor d)
constructor_left datas sought [] a c n d s first is none missing = absurd (none-some a (sym first))
constructor_left datas sought (x ∷ more) a c n d s first is none missing =
    subst (λ q. LeavesOut datas q (alts_of (x ∷ more)) (Constructor d)) (sym s)
    (subst (λ p. (HasDefault (alt p x.body (alts_of more)) → ⊥) → IsMissing datas c.number (alt p x.body (alts_of more)) d.number → LeavesOut datas Constructors (alt p x.body (alts_of more)) (Constructor d))
    (sym (ap (λ (y : Alt). y.pattern) (sym (same_Some a x first)) ∙ is)) (λ no_default m. a_constructor m.it m.lacking no_default m.is m.at m.same m.not_for m.earlier) none missing)

-- defaults are sought, and the first is for a literal
pub default_left : (datas : List Data) (sought : Sought) (alts : List Alt) (a : Alt) (r : Scalar) (bits : List Bool) → sought ≡ Defaults → Some a ≡ slice_get alts 0 → a.pattern ≡ OfLit r bits
    → (HasDefault (alts_of alts) → ⊥) → LeavesOut datas sought (alts_of alts) Default
default_left datas sought [] a r bits s first is none = absurd (none-some a (sym first))
default_left datas sought (x ∷ more) a r bits s first is none =
    subst (λ q. LeavesOut datas q (alts_of (x ∷ more)) Default) (sym s)
    (subst (λ p. (HasDefault (alt p x.body (alts_of more)) → ⊥) → LeavesOut datas Defaults (alt p x.body (alts_of more)) Default)
    (sym (ap (λ (y : Alt). y.pattern) (sym (same_Some a x first)) ∙ is)) (λ no_default. a_default no_default) none)

pub missing_found : (datas : List Data) (c : ℕ) (alts : Alts) (r : Option ConId) (d : ConId) → r ≡ Some d → MatchOption r (NoneMissing datas c alts) (λ d. IsMissing datas c alts d.number) → IsMissing datas c alts d.number
missing_found datas c alts r d is h = subst (λ o. MatchOption o (NoneMissing datas c alts) (λ (d : ConId). IsMissing datas c alts d.number)) is h
