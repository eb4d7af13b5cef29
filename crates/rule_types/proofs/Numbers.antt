-- The number of a made definition with an origin has the origin's type, up to naturals.
use Rattle.std.proofs.Common.{◌∷◌, ◌≡◌, List, Some, [], ap, arith, inl, inr, map, subst, suc, zero, ℕ}
use Rattle.std.specs.List.{slice_get}
use Rattle.chw_types.proofs.SameLaws.{same_through, same_turned}
use Rattle.chw_types.specs.SameTypes.{SameTypes}
use Rattle.chw_types.specs.TypeTree.{TypeTree}
use Rattle.chw_terms.specs.TermTree.{TermTree, made}
use Rattle.chw_typing.proofs.OneType.{one_type}
use Rattle.chw_typing.proofs.TermsEvaluated.{type_evaluated}
use Rattle.chw_typing.specs.Typing.{HasTypeUpTo, h_made}
use Rattle.rewriting.specs.Origins.{MadeOf, Origins, setting_at}
use Rattle.rewriting.proofs.Lists.{origin_within}
use Rattle.rewriting.specs.Numbers.{HasOrigin, IsNumberOf}
use Rattle.rule_types.specs.Laws.{AreTypedOrigins}

pub origin_same_type : (o : Origins) (e : TermTree) (t : TypeTree) (m : ℕ) → AreTypedOrigins o → HasTypeUpTo (setting_at o) [] [] e t → (h : HasOrigin o e m) → SameTypes t h.0.ty
origin_same_type o e t m w d h =
    let other = (w.origins m h.0 h.1).0 in
    let mine = type_evaluated d.has w.sound tt [] tt tt in
    let theirs = subst (λ f. HasTypeUpTo (setting_at o) [] [] f other.type) h.2 (type_evaluated other.has w.sound tt [] tt tt) in
    let same = one_type mine.has theirs.has w.sound tt tt tt in
    same_through (same_through d.same (same_through mine.same same)) (same_turned (same_through other.same theirs.same))

type_at : (ms : List MadeOf) (m : ℕ) (it : MadeOf) → slice_get ms m ≡ Some it → slice_get (map (λ (m : MadeOf). m.ty) ms) m ≡ Some it.ty
type_at [] m it e = absurd cc
type_at (x ∷ ms) zero it e = let is : x ≡ it = cc in ap (λ (x : MadeOf). Some x.ty) is
type_at (x ∷ ms) (suc m) it e = type_at ms m it e

pub number_typed : (o : Origins) (vars : List TypeTree) (e : TermTree) (t : TypeTree) (m n : ℕ) → AreTypedOrigins o → HasTypeUpTo (setting_at o) [] [] e t → HasOrigin o e n → IsNumberOf o e m → HasTypeUpTo (setting_at o) [] vars (made m) t
number_typed o vars e t m n w d h (inl k, f) = record { type = k.0.ty; has = h_made (type_at o.made m k.0 k.1); same = origin_same_type o e t m w d k }
number_typed o vars e t m n w d h (inr q, f) = let within = origin_within o e n h in absurd (f n (omega (arith, q, within)) h)
