-- More made definitions in the setting.
use Rattle.std.proofs.Common.{◌≡◌, ℕ, suc, zero, List, [], ◌∷◌, ◌++◌, Some}
use Rattle.std.specs.List.{slice_get}
use Rattle.chw_types.specs.declared.kind.Kind.{Kind}
use Rattle.chw_types.specs.TypeTree.{TypeTree}
use Rattle.chw_terms.specs.declared.term.Pattern.{Pattern}
use Rattle.chw_terms.specs.TermTree.{TermTree, Terms, Group, Alts}
use Rattle.chw_typing.specs.Scopes.{Setting, IsTermType, AreTermTypes}
use Rattle.chw_typing.specs.Programs.{IsSound, AreClosed}
use Rattle.chw_typing.specs.Typing.{Binds, HasType, h_var, h_global, h_made, h_lam, h_app, h_ty_lam, h_ty_app, h_letrec, h_con, h_prim, h_lit, h_vec, h_case, AreBound, none_bound, bound_and, AllHave, none_have, have_and, AllGive, none_give, give_and}
use Rattle.chw_typing.specs.TypedPartLaws.{with_made}

found_in_first : (xs ys : List TypeTree) (x : ℕ) (t : TypeTree) → slice_get xs x ≡ Some t → slice_get (xs ++ ys) x ≡ Some t
found_in_first [] ys x t e = absurd cc
found_in_first (a ∷ xs) ys zero t e = e
found_in_first (a ∷ xs) ys (suc x) t e = found_in_first xs ys x t e

pub term_type_with_made : (s : Setting) (more : List TypeTree) (kinds : List Kind) (t : TypeTree) → IsTermType s kinds t → IsTermType (with_made s more) kinds t
term_type_with_made s more kinds t h = record { kind = h.kind; has = h.has; of_terms = h.of_terms }

pub term_types_with_made : (s : Setting) (more : List TypeTree) (kinds : List Kind) (ts : List TypeTree) → AreTermTypes s kinds ts → AreTermTypes (with_made s more) kinds ts
term_types_with_made s more kinds [] h = tt
term_types_with_made s more kinds (t ∷ ts) h = (term_type_with_made s more kinds t h.0, term_types_with_made s more kinds ts h.1)

binds_with_made : (s : Setting) (more : List TypeTree) (kinds : List Kind) (u : TypeTree) (q : Pattern) (bound : List TypeTree) → Binds s kinds u q bound → Binds (with_made s more) kinds u q bound
binds_with_made s more kinds u q bound b = record { fields = b.fields; pattern = b.pattern; same = b.same; typed = term_types_with_made s more kinds bound b.typed }

mutual
  pub typed_with_made : {s : Setting} {kinds : List Kind} {vars : List TypeTree} {e : TermTree} {t : TypeTree} → HasType s kinds vars e t → (more : List TypeTree) → HasType (with_made s more) kinds vars e t
  typed_with_made (h_var e) more = h_var e
  typed_with_made (h_global e) more = h_global e
  typed_with_made {s} (h_made {m = m} {t = t} e) more = h_made (found_in_first s.made more m t e)
  typed_with_made (h_lam d k) more = h_lam (typed_with_made d more) k
  typed_with_made (h_app d e x) more = h_app (typed_with_made d more) (typed_with_made e more) x
  typed_with_made (h_ty_lam d) more = h_ty_lam (typed_with_made d more)
  typed_with_made (h_ty_app d k x l) more = h_ty_app (typed_with_made d more) k x l
  typed_with_made (h_letrec d l b) more = h_letrec (typed_with_made d more) l (bound_with_made b more)
  typed_with_made (h_con e) more = h_con e
  typed_with_made h_prim more = h_prim
  typed_with_made (h_lit l) more = h_lit l
  typed_with_made {s} {kinds} (h_vec {t = t} k d) more = h_vec (term_type_with_made s more kinds t k) (all_have_with_made d more)
  typed_with_made {s} {kinds} (h_case {bound = bound} {q = q} {u = u} d i j p e k a o n) more =
      h_case (typed_with_made d more) i j (binds_with_made s more kinds u q bound p) (typed_with_made e more) k a (all_give_with_made o more) n

  pub bound_with_made : {s : Setting} {kinds : List Kind} {vars : List TypeTree} {k : Kind} {g : Group} → AreBound s kinds vars k g → (more : List TypeTree) → AreBound (with_made s more) kinds vars k g
  bound_with_made none_bound more = none_bound
  bound_with_made (bound_and j f d x b) more = bound_and j f (typed_with_made d more) x (bound_with_made b more)

  pub all_have_with_made : {s : Setting} {kinds : List Kind} {vars : List TypeTree} {t : TypeTree} {es : Terms} → AllHave s kinds vars t es → (more : List TypeTree) → AllHave (with_made s more) kinds vars t es
  all_have_with_made none_have more = none_have
  all_have_with_made (have_and d x ds) more = have_and (typed_with_made d more) x (all_have_with_made ds more)

  pub all_give_with_made : {s : Setting} {kinds : List Kind} {vars : List TypeTree} {u t : TypeTree} {alts : Alts} → AllGive s kinds vars u t alts → (more : List TypeTree) → AllGive (with_made s more) kinds vars u t alts
  all_give_with_made none_give more = none_give
  all_give_with_made {s} {kinds} {u = u} (give_and {bound = bound} {q = q} p d x ds) those =
      give_and (binds_with_made s those kinds u q bound p) (typed_with_made d those) x (all_give_with_made ds those)

closed_join : (s : Setting) (xs ys : List TypeTree) → AreClosed s xs → AreClosed s ys → AreClosed s (xs ++ ys)
closed_join s [] ys h g x t e = g x t e
closed_join s (a ∷ xs) ys h g zero t e = h zero t e
closed_join s (a ∷ xs) ys h g (suc x) t e = closed_join s xs ys (λ y u f. h (suc y) u f) g x t e

closed_with_made : (s : Setting) (more ts : List TypeTree) → AreClosed s ts → AreClosed (with_made s more) ts
closed_with_made s more ts h x t e = term_type_with_made s more [] t (h x t e)

pub sound_with_made : (s : Setting) (more : List TypeTree) → IsSound s → AreClosed s more → IsSound (with_made s more)
sound_with_made s more h c =
    record {
      begins = h.begins;
      kinds = h.kinds;
      fields = λ d it t e f. term_type_with_made s more _ t (h.fields d it t e f);
      defs = closed_with_made s more s.defs h.defs;
      made = closed_with_made s more (s.made ++ more) (closed_join s s.made more h.made c);
    }
