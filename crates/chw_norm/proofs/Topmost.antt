-- The term below leading lambdas.
use Rattle.std.proofs.Common.{◌≡◌, ◌∙◌, ◌+◌, ◌≤◌, ℕ, refl, sym, ap, subst, arith, List, [], ◌∷◌}
use Rattle.std.proofs.Common.{◌++◌, length, reverse, true}
use Rattle.std.specs.Prelude.{Err, IfOk, Ok, Result}
use Rattle.std.proofs.lemmas.List.{append-nil, append_assoc}
use Rattle.chw_types.specs.TypeTree.{TypeTree, fun}
use Rattle.chw_terms.specs.declared.scene.Made.{Made}
use Rattle.chw_terms.specs.declared.scene.Place.{Place}
use Rattle.chw_terms.specs.Depth.{depth, parts_depth}
use Rattle.chw_terms.specs.TermTree.{TermTree, lam}
use Rattle.chw_typing.specs.Given.{AsksForNone}
use Rattle.rewriting.specs.Named.{mode_of, UnderLambdas, under_none, under_one}
use Rattle.rewriting.specs.Spots.{spot}
use Rattle.chw_norm.specs.GoingOn.{IsEntered, IsTopOf}

-- what holds of a result that is there
pub if_ok_more : {A E : Type 0} (r : Result A E) (P Q : Type 0) → (P → Q)
    → IfOk r (λ x. P) → IfOk r (λ x. Q)
if_ok_more (Ok x) P Q f h = f h
if_ok_more (Err e) P Q f h = tt

-- where the type is no function type, that is the term itself
record IsHere (q : List ℕ) (vs vars : List TypeTree) : Type 0 where
  path : q ≡ []
  scope : vs ≡ vars

here : {vars vs : List TypeTree} {e x : TermTree} {t : TypeTree} {q : List ℕ}
    → UnderLambdas vars e t q vs x → ((a b : TypeTree) → t ≡ fun a b → ⊥) → IsHere q vs vars
here (under_none asks) none = record { path = refl; scope = refl }
here (under_one {b = b} {t = t} same u) none = absurd (none b t refl)

pub entered_here : (at : Place) (path : List ℕ) (e : TermTree) (t : TypeTree)
    → ((a b : TypeTree) → t ≡ fun a b → ⊥) → IsEntered at at path path e t
entered_here at path e t none q vs x u =
    let is = here u none in record {
      goes = sym (append-nil path) ∙ ap (λ r. path ++ r) (sym is.path);
      mode = refl;
      result = refl;
      vars = sym is.scope;
    }

-- below one lambda
record IsUnder (vars : List TypeTree) (a : TypeTree) (body : TermTree) (t : TypeTree)
    (q : List ℕ) (vs : List TypeTree) (x : TermTree) : Type 0 where
  rest : List ℕ
  path : q ≡ 0 ∷ rest
  under : UnderLambdas (a ∷ vars) body t rest vs x

one_under : {vars vs : List TypeTree} {e x : TermTree} {u : TypeTree} {q : List ℕ}
    → UnderLambdas vars e u q vs x → (a : TypeTree) (body : TermTree) (b t : TypeTree)
    → e ≡ lam a body → u ≡ fun b t → IsUnder vars a body t q vs x
one_under (under_none asks) a body b t term function = absurd (subst AsksForNone function asks)
one_under {vars} {vs} {x = x} (under_one {a = c} {b = d} {t = w} {e = f} {p = p} same u) a body b t term function =
    let type : w ≡ t = cc in
    let of : c ≡ a = cc in
    let inner : f ≡ body = cc in
    record {
      rest = p;
      path = refl;
      under =
          subst (λ z. UnderLambdas (a ∷ vars) body z p vs x) type
          (subst (λ z. UnderLambdas (a ∷ vars) z w p vs x) inner
          (subst (λ z. UnderLambdas (z ∷ vars) f w p vs x) of u));
    }

pub entered_further : (at mid at' : Place) (path path' : List ℕ) (e : TermTree) (a : TypeTree)
    (body : TermTree) (b t u : TypeTree) → e ≡ lam a body → u ≡ fun b t
    → mid.mode ≡ at.mode → mid.result ≡ at.result → reverse mid.vars ≡ a ∷ reverse at.vars
    → IsEntered mid at' (path ++ 0 ∷ []) path' body t → IsEntered at at' path path' e u
entered_further at mid at' path path' e a body b t u term function mode result vars h q vs x under =
    let one = one_under under a body b t term function in
    let on = h one.rest vs x
    (subst (λ ts. UnderLambdas ts body t one.rest vs x) (sym vars) one.under) in
    record {
      goes = on.goes ∙ append_assoc path (0 ∷ []) one.rest ∙ ap (λ r. path ++ r) (sym one.path);
      mode = on.mode ∙ mode;
      result = on.result ∙ result;
      vars = on.vars;
    }

-- from the root
pub top_there : (it : Made) (at at' : Place) (path : List ℕ)
    → at.mode ≡ mode_of it.sort → at.result ≡ true → reverse at.vars ≡ []
    → IsEntered at at' [] path it.body it.ty → IsTopOf it at' path
top_there it at at' path mode result vars h q vs x under =
    let on = h q vs x (subst (λ ts. UnderLambdas ts it.body it.ty q vs x) (sym vars) under) in (
      on.goes,
      ap (λ m. spot m at'.result (reverse at'.vars)) (on.mode ∙ mode)
          ∙ ap (λ r. spot (mode_of it.sort) r (reverse at'.vars)) (on.result ∙ result)
          ∙ ap (λ ts. spot (mode_of it.sort) true ts) on.vars,
    )

-- a term is deeper by the lambdas above it
parts_under : {vars vs : List TypeTree} {e x : TermTree} {t : TypeTree} {q : List ℕ}
    → UnderLambdas vars e t q vs x → length q + parts_depth x ≤ parts_depth e
unfolding parts_depth
parts_under (under_none asks) = omega arith
parts_under (under_one same u) = let inner = parts_under u in omega (arith, inner)

pub depth_under : {vars vs : List TypeTree} {e x : TermTree} {t : TypeTree} {q : List ℕ}
    → UnderLambdas vars e t q vs x → length q + depth x ≤ depth e
depth_under u = omega (arith, parts_under u)
