-- What is at a place of a term, with what is in scope there.
use Rattle.std.specs.Prelude.{◌≡◌, ℕ, suc, List, [], ◌∷◌, Some}
use Rattle.chw_types.specs.declared.kind.Kind.{Kind}
use Rattle.chw_types.specs.TypeTree.{TypeTree}
use Rattle.chw_terms.specs.TermTree.{TermTree, lam, app, ty_lam, ty_app, letrec, vec_lit, case_of}
use Rattle.chw_terms.specs.TermTree.{Terms, Group, Alts}
use Rattle.chw_typing.specs.Scopes.{Setting, under_binder, with_more, declared}
use Rattle.chw_typing.specs.Typing.{Binds, HasType}
use Rattle.chw_typing.specs.Paths.{element_at, part_of_group, Branch, branch_at}

-- in a scope of type variables of these kinds and variables of these types, the innermost first,
-- the path of the term leads to a scope and a part in it
pub data Around (s : Setting) : List Kind → List TypeTree → TermTree → List ℕ
    → List Kind → List TypeTree → TermTree → Type 0 where
  here : {kinds : List Kind} {vars : List TypeTree} {e : TermTree}
      → Around s kinds vars e [] kinds vars e
  in_lam : {kinds ks : List Kind} {vars vs : List TypeTree} {a : TypeTree} {e x : TermTree}
      {p : List ℕ}
      → Around s kinds (a ∷ vars) e p ks vs x
      → Around s kinds vars (lam a e) (0 ∷ p) ks vs x
  in_ty_lam : {kinds ks : List Kind} {vars vs : List TypeTree} {j : Kind} {e x : TermTree}
      {p : List ℕ}
      → Around s (j ∷ kinds) (under_binder vars) e p ks vs x
      → Around s kinds vars (ty_lam j e) (0 ∷ p) ks vs x
  in_function : {kinds ks : List Kind} {vars vs : List TypeTree} {f a x : TermTree} {p : List ℕ}
      → Around s kinds vars f p ks vs x
      → Around s kinds vars (app f a) (0 ∷ p) ks vs x
  in_argument : {kinds ks : List Kind} {vars vs : List TypeTree} {f a x : TermTree} {p : List ℕ}
      → Around s kinds vars a p ks vs x
      → Around s kinds vars (app f a) (1 ∷ p) ks vs x
  in_ty_app : {kinds ks : List Kind} {vars vs : List TypeTree} {f x : TermTree} {t : TypeTree}
      {p : List ℕ}
      → Around s kinds vars f p ks vs x
      → Around s kinds vars (ty_app f t) (0 ∷ p) ks vs x
  -- right sides and the body see what the group binds
  in_letrec : {kinds ks : List Kind} {vars vs : List TypeTree} {g : Group} {e b x : TermTree}
      {i : ℕ} {p : List ℕ}
      → part_of_group g e i ≡ Some b
      → Around s kinds (with_more (declared g) vars) b p ks vs x
      → Around s kinds vars (letrec g e) (i ∷ p) ks vs x
  in_vector : {kinds ks : List Kind} {vars vs : List TypeTree} {t : TypeTree} {es : Terms}
      {e x : TermTree} {i : ℕ} {p : List ℕ}
      → element_at es i ≡ Some e
      → Around s kinds vars e p ks vs x
      → Around s kinds vars (vec_lit t es) (i ∷ p) ks vs x
  in_scrutinee : {kinds ks : List Kind} {vars vs : List TypeTree} {e x : TermTree} {alts : Alts}
      {p : List ℕ}
      → Around s kinds vars e p ks vs x
      → Around s kinds vars (case_of e alts) (0 ∷ p) ks vs x
  -- the pattern binds the fields of a type of the scrutinee
  in_branch : {kinds ks : List Kind} {vars vs bound : List TypeTree} {u : TypeTree} {e x : TermTree}
      {alts : Alts} {a : Branch} {i : ℕ} {p : List ℕ}
      → branch_at alts i ≡ Some a
      → HasType s kinds vars e u
      → Binds s kinds u a.pattern bound
      → Around s kinds (with_more bound vars) a.body p ks vs x
      → Around s kinds vars (case_of e alts) (suc i ∷ p) ks vs x
