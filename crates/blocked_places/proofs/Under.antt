-- What blocks leading lambdas, and the places below them.
use Rattle.std.proofs.Common.{◌≡◌, inl, inr, ◌∙◌, sym, ap, refl, subst, ℕ, zero, suc, ◌<◌, arith}
use Rattle.std.proofs.Common.{List, [], ◌∷◌, ◌++◌, length, replicate, reverse, Option, Some, None, true}
use Rattle.std.proofs.lemmas.List.{append-nil as nothing_behind}
use Rattle.std.proofs.lemmas.Option.{same_Some}
use Rattle.chw_types.specs.SameTypes.{SameTypes}
use Rattle.chw_types.specs.TypeTree.{TypeTree, fun}
use Rattle.chw_terms.specs.declared.scene.Made.{Made}
use Rattle.chw_terms.specs.declared.scene.Mode.{Mode}
use Rattle.chw_terms.specs.declared.scene.Scene.{Scene}
use Rattle.chw_terms.specs.declared.term.Arg.{Arg}
use Rattle.chw_terms.specs.TermTree.{TermTree, lam}
use Rattle.chw_terms.specs.TermView.{applied}
use Rattle.chw_typing.specs.Scopes.{Setting, setting_in}
use Rattle.chw_layout.specs.declared.outcome.NoLayout.{NoLayout}
use Rattle.std.specs.List.{slice_get}
use Rattle.chw_typing.specs.Given.{AsksForNone}
use Rattle.chw_typing.specs.Paths.{part_at}
use Rattle.rewriting.specs.Named.{mode_of, UnderLambdas, under_none, under_one}
use Rattle.rewriting.specs.Origins.{MadeOf, Origins, made_of, origins_of}
use Rattle.rewriting.specs.Active.{at_it, IsPlaceOf}
use Rattle.rewriting.specs.PlaceLaws.{PlaceOfSceneIsTyped}
use Rattle.rewriting.specs.Spots.{spot}
use Rattle.rewriting.specs.Typed.{IsTypedScene}
use Rattle.rewriting.proofs.Spines.{IsBare, head_is}
use Rattle.active_parts.specs.Grounds.{IsTypedAt}
use Rattle.normal_forms.specs.Blocked.{Block, limit, rank_of, Passes, IsBlocked, at_place, at_lambda}
use Rattle.blocked_places.specs.Answers.{block_of}
use Rattle.blocked_places.specs.Firsts.{FindsOf}
use Rattle.blocked_places.specs.Walks.{Blocking, IsBeforeThere, IsFirstAt, FindsFirst}
use Rattle.blocked_places.specs.Walks.{AnswersBody, GoesOn, IsPartOf, IsActiveBlock, IsLambdaBlock}
use Rattle.blocked_places.specs.Walks.{InBody, LeadsToTyped}
use Rattle.blocked_places.specs.declared.block.Block.{Block as What}
use Rattle.blocked_places.specs.declared.bodies.BlockedPart.{BlockedPart}
use Rattle.blocked_places.specs.declared.trail.Trail.{Trail}
use Rattle.blocked_places.proofs.Nearest.{Among, Behind, finds_same, found_behind, no_root}

-- below no lambda the term is as it is
record NoLambda (vars : List TypeTree) (e : TermTree) (t : TypeTree) (p : List ℕ)
    (vs : List TypeTree) (x : TermTree) : Type 0
  where
    asks : AsksForNone t
    path : p ≡ []
    scope : vs ≡ vars
    term : x ≡ e

no_lambda : {vars vs : List TypeTree} {e x : TermTree} {t : TypeTree} {p : List ℕ}
    → UnderLambdas vars e t p vs x → ((a b : TypeTree) → t ≡ fun a b → ⊥)
    → NoLambda vars e t p vs x
no_lambda (under_none asks) none = record { asks = asks; path = refl; scope = refl; term = refl }
no_lambda (under_one {b = b} {t = t} s u) none = absurd (none b t refl)

only_active : (o : Origins) (m : Mode) (vars : List TypeTree) (e : TermTree) (t : TypeTree)
    → ((a b : TypeTree) → t ≡ fun a b → ⊥)
    → Among (InBody o m vars e t) (IsActiveBlock o (spot m true vars) e)
only_active o m vars e t none p b (inl l) =
    let it = no_lambda l.under none in absurd (omega (arith, l.within, ap length it.path))
only_active o m vars e t none p b (inr u) =
    let it = no_lambda u.under none in
    subst (λ q. IsActiveBlock o (spot m true vars) e q b) (sym (u.is ∙ ap (λ q. q ++ u.rest) it.path))
    (subst (λ vs. IsActiveBlock o (spot m true vs) e u.rest b) it.scope
    (subst (λ f. IsActiveBlock o (spot m true u.scope) f u.rest b) it.term u.there))

active_only : (o : Origins) (s : Setting) (m : Mode) (vars : List TypeTree) (e : TermTree)
    (t : TypeTree)
    → ((a b : TypeTree) → t ≡ fun a b → ⊥) → LeadsToTyped s m vars e t
    → Among (IsActiveBlock o (spot m true vars) e) (InBody o m vars e t)
active_only o s m vars e t none l p b h =
    let it = no_lambda l.3 none in
    inr (record { root = []; scope = vars; inner = e; under = under_none it.asks; rest = p; is = refl; there = h })

pub found_without : (o : Origins) (s : Setting) (m : Mode) (vars : List TypeTree) (e : TermTree)
    (t : TypeTree) (answer : Option Trail)
    → ((a b : TypeTree) → t ≡ fun a b → ⊥) → LeadsToTyped s m vars e t
    → FindsFirst (IsActiveBlock o (spot m true vars) e) answer
    → FindsFirst (InBody o m vars e t) answer
found_without o s m vars e t answer none l =
    finds_same (IsActiveBlock o (spot m true vars) e) (InBody o m vars e t) answer
    (active_only o s m vars e t none l) (only_active o m vars e t none)

pub typed_there : (s : Setting) (m : Mode) (vars : List TypeTree) (e : TermTree) (t : TypeTree)
    → ((a b : TypeTree) → t ≡ fun a b → ⊥) → LeadsToTyped s m vars e t
    → IsTypedAt s (spot m true vars) e
typed_there s m vars e t none l =
    let it = no_lambda l.3 none in
    subst (λ vs. IsTypedAt s (spot m true vs) e) it.scope
    (subst (λ f. IsTypedAt s (spot m true l.1) f) it.term l.4)

-- below one lambda
record OneLambda (vars : List TypeTree) (e : TermTree) (b t : TypeTree) (p : List ℕ)
    (vs : List TypeTree) (x : TermTree) : Type 0
  where
    of : TypeTree
    body : TermTree
    rest : List ℕ
    is : e ≡ lam of body
    same : SameTypes of b
    path : p ≡ 0 ∷ rest
    under : UnderLambdas (of ∷ vars) body t rest vs x

one_lambda : {vars vs : List TypeTree} {e x : TermTree} {u : TypeTree} {p : List ℕ}
    → UnderLambdas vars e u p vs x → (b t : TypeTree) → u ≡ fun b t → OneLambda vars e b t p vs x
one_lambda (under_none {t = u} asks) b t h = absurd (subst AsksForNone h asks)
one_lambda {vars} {vs} {x = x} (under_one {a = a} {b = c} {t = w} {e = e} {p = p} s u) b t h =
    let first : c ≡ b = cc in
    let rest : w ≡ t = cc in
    record {
      of = a;
      body = e;
      rest = p;
      is = refl;
      same = subst (SameTypes a) first s;
      path = refl;
      under = subst (λ z. UnderLambdas (a ∷ vars) e z p vs x) rest u;
    }

bare_lam : (a : TypeTree) (e : TermTree) → IsBare (lam a e)
bare_lam a e = record { itself = refl; alone = refl }

-- the lambda of a term in memory is the one that is led below
pub record ThisLambda (vars : List TypeTree) (e : TermTree) (a : TypeTree) (body : TermTree)
    (b t : TypeTree) : Type 0
  where
    pub is : e ≡ lam a body
    pub same : SameTypes a b

record SameLambda (a of : TypeTree) (body inner : TermTree) : Type 0 where
  types : of ≡ a
  bodies : inner ≡ body

same_lambda : (a of : TypeTree) (body inner : TermTree) → lam of inner ≡ lam a body
    → SameLambda a of body inner
same_lambda a of body inner h = record { types = cc; bodies = cc }

lambda_here : (a of : TypeTree) (body inner : TermTree) (args : List Arg)
    → lam of inner ≡ applied (lam a body) args → SameLambda a of body inner
lambda_here a of body inner args h =
    let none : List Arg = [] in
    same_lambda a of body inner
    (head_is (lam of inner) (lam a body) none args (bare_lam of inner) (bare_lam a body) h)

pub this_lambda : (s : Setting) (m : Mode) (vars : List TypeTree) (e : TermTree) (a : TypeTree)
    (body : TermTree) (args : List Arg) (b t : TypeTree)
    → e ≡ applied (lam a body) args → LeadsToTyped s m vars e (fun b t)
    → ThisLambda vars e a body b t
this_lambda s m vars e a body args b t h l =
    let it = one_lambda l.3 b t refl in
    let here = lambda_here a it.of body it.body args (sym it.is ∙ h) in
    record {
      is = it.is ∙ ap (λ z. lam z it.body) here.types ∙ ap (lam a) here.bodies;
      same = subst (λ z. SameTypes z b) here.types it.same;
    }

pub no_function : (s : Setting) (m : Mode) (vars : List TypeTree) (e : TermTree) (b t : TypeTree)
    → LeadsToTyped s m vars e (fun b t)
    → ((a : TypeTree) (body : TermTree) → e ≡ lam a body → ⊥) → ⊥
no_function s m vars e b t l none =
    let it = one_lambda l.3 b t refl in none it.of it.body it.is

leads_on : (s : Setting) (m : Mode) (vars : List TypeTree) (a : TypeTree) (body : TermTree)
    (b t : TypeTree)
    → LeadsToTyped s m vars (lam a body) (fun b t) → LeadsToTyped s m (a ∷ vars) body t
leads_on s m vars a body b t l =
    let it = one_lambda l.3 b t refl in
    let here = same_lambda a it.of body it.body (sym it.is) in (
      it.rest,
      l.1,
      l.2,
      subst (λ z. UnderLambdas (z ∷ vars) body t it.rest l.1 l.2) here.types
          (subst (λ f. UnderLambdas (it.of ∷ vars) f t it.rest l.1 l.2) here.bodies it.under),
      l.4,
    )

pub leads_under : (s : Setting) (m : Mode) (vars : List TypeTree) (e : TermTree) (a : TypeTree)
    (body : TermTree) (args : List Arg) (b t u : TypeTree)
    → e ≡ applied (lam a body) args → u ≡ fun b t → LeadsToTyped s m vars e u
    → LeadsToTyped s m (a ∷ vars) body t
leads_under s m vars e a body args b t u term function l =
    let there = subst (LeadsToTyped s m vars e) function l in
    let this = this_lambda s m vars e a body args b t term there in
    leads_on s m vars a body b t (subst (λ z. LeadsToTyped s m vars z (fun b t)) this.is there)

-- under the lambda that a term is
under_this : (vars : List TypeTree) (a : TypeTree) (body : TermTree) (b t : TypeTree) (p : List ℕ)
    (vs : List TypeTree) (x : TermTree)
    → UnderLambdas vars (lam a body) (fun b t) p vs x
    → (rest : List ℕ) × (p ≡ 0 ∷ rest) × UnderLambdas (a ∷ vars) body t rest vs x
under_this vars a body b t p vs x h =
    let it = one_lambda h b t refl in
    let here = same_lambda a it.of body it.body (sym it.is) in (
      it.rest,
      it.path,
      subst (λ z. UnderLambdas (z ∷ vars) body t it.rest vs x) here.types
          (subst (λ f. UnderLambdas (it.of ∷ vars) f t it.rest vs x) here.bodies it.under),
    )

lambda_out : (o : Origins) (m : Mode) (vars : List TypeTree) (a : TypeTree) (body : TermTree)
    (b t : TypeTree) (p rest : List ℕ) (c : Block)
    → SameTypes a b → p ≡ 0 ∷ rest → InBody o m (a ∷ vars) body t rest c
    → InBody o m vars (lam a body) (fun b t) p c
lambda_out o m vars a body b t p rest c same is (inl l) =
    inl
    (record {
      root = 0 ∷ l.root;
      scope = l.scope;
      inner = l.inner;
      under = under_one same l.under;
      number = suc l.number;
      within = omega (arith, l.within);
      of = l.of;
      body = l.body;
      there = l.there;
      what = l.what;
      passes = l.passes;
      path_is = is ∙ ap (λ q. 0 ∷ q) l.path_is;
      block_is = l.block_is;
    })
lambda_out o m vars a body b t p rest c same is (inr u) =
    inr
    (record {
      root = 0 ∷ u.root;
      scope = u.scope;
      inner = u.inner;
      under = under_one same u.under;
      rest = u.rest;
      is = is ∙ ap (λ q. 0 ∷ q) u.is;
      there = u.there;
    })

-- the outermost lambda, or what is below it
lambda_number : (o : Origins) (m : Mode) (vars : List TypeTree) (a : TypeTree) (body : TermTree)
    (b t : TypeTree) (p : List ℕ) (c : Block) (l : IsLambdaBlock o.program.datas vars (lam a body) (fun b t) p c)
    (n : ℕ) → l.number ≡ n → FindsOf TypeTree (Passes o.program.datas) a None
    → Behind (0 ∷ []) (InBody o m (a ∷ vars) body t) p c
lambda_number o m vars a body b t p c l zero is none =
    let at : part_at (lam a body) (replicate 0 0) ≡ Some (lam l.of l.body) =
    subst (λ k. part_at (lam a body) (replicate k 0) ≡ Some (lam l.of l.body)) is l.there in
    let here = same_lambda l.of a l.body body (same_Some (lam a body) (lam l.of l.body) at) in
    absurd (none l.what (subst (λ z. Passes o.program.datas z l.what) (sym here.types) l.passes))
lambda_number o m vars a body b t p c l (suc n) is none =
    let u = under_this vars a body b t l.root l.scope l.inner l.under in
    record {
      rest = replicate n 0;
      is = l.path_is ∙ ap (λ k. replicate k 0) is;
      there =
          inl
          (record {
            root = u.0;
            scope = l.scope;
            inner = l.inner;
            under = u.2;
            number = n;
            within = omega (arith, l.within, is, ap length u.1);
            of = l.of;
            body = l.body;
            there = subst (λ k. part_at (lam a body) (replicate k 0) ≡ Some (lam l.of l.body)) is l.there;
            what = l.what;
            passes = l.passes;
            path_is = refl;
            block_is = l.block_is;
          });
    }

lambda_in : (o : Origins) (m : Mode) (vars : List TypeTree) (a : TypeTree) (body : TermTree)
    (b t : TypeTree)
    → FindsOf TypeTree (Passes o.program.datas) a None
    → Among (InBody o m vars (lam a body) (fun b t)) (Behind (0 ∷ []) (InBody o m (a ∷ vars) body t))
lambda_in o m vars a body b t none p c (inl l) =
    lambda_number o m vars a body b t p c l l.number refl none
lambda_in o m vars a body b t none p c (inr h) =
    let u = under_this vars a body b t h.root h.scope h.inner h.under in
    record {
      rest = u.0 ++ h.rest;
      is = h.is ∙ ap (λ q. q ++ h.rest) u.1;
      there =
          inr
          (record {
            root = u.0;
            scope = h.scope;
            inner = h.inner;
            under = u.2;
            rest = h.rest;
            is = refl;
            there = h.there;
          });
    }

pub found_under : (o : Origins) (s : Setting) (m : Mode) (vars : List TypeTree) (e : TermTree)
    (a : TypeTree) (body : TermTree) (args : List Arg) (b t u : TypeTree)
    (found answer : Option Trail)
    → e ≡ applied (lam a body) args → u ≡ fun b t → LeadsToTyped s m vars e u
    → FindsOf TypeTree (Passes o.program.datas) a None
    → FindsFirst (InBody o m (a ∷ vars) body t) found → GoesOn (0 ∷ []) found answer
    → FindsFirst (InBody o m vars e u) answer
found_under o s m vars e a body args b t u found answer term function l none first on =
    let this = this_lambda s m vars e a body args b t term (subst (LeadsToTyped s m vars e) function l) in
    let inner = InBody o m (a ∷ vars) body t in
    let whole : FindsFirst (InBody o m vars (lam a body) (fun b t)) answer =
    finds_same (Behind (0 ∷ []) inner) (InBody o m vars (lam a body) (fun b t)) answer
    (λ p c h. lambda_out o m vars a body b t p h.rest c this.same h.is h.there)
    (lambda_in o m vars a body b t none)
    (found_behind (0 ∷ []) inner found answer first on) in
    subst (λ z. FindsFirst (InBody o m vars z u) answer) (sym this.is)
    (subst (λ v. FindsFirst (InBody o m vars (lam a body) v) answer) (sym function) whole)

-- the outermost lambda
no_root_under : (root rest : List ℕ) → root ≡ 0 ∷ rest → (more : List ℕ) → [] ≡ root ++ more → ⊥
no_root_under root rest e more h =
    let q : [] ≡ (0 ∷ rest) ++ more = h ∙ ap (λ r. r ++ more) e in absurd cc

pub found_lambda : (o : Origins) (s : Setting) (m : Mode) (vars : List TypeTree) (e : TermTree)
    (a : TypeTree) (body : TermTree) (args : List Arg) (b t u : TypeTree) (back : List ℕ)
    (what : NoLayout)
    → e ≡ applied (lam a body) args → u ≡ fun b t → LeadsToTyped s m vars e u
    → Passes o.program.datas a what → back ≡ []
    → IsFirstAt (InBody o m vars e u) (reverse back) (limit what)
found_lambda o s m vars e a body args b t u back what term function l passes empty =
    subst (λ z. IsFirstAt (InBody o m vars z u) (reverse back) (limit what)) (sym this.is)
    (subst (λ v. IsFirstAt (InBody o m vars (lam a body) v) (reverse back) (limit what)) (sym function)
    (subst (λ p. IsFirstAt H p (limit what)) (sym (ap reverse empty))
    (record { it = inl here; first = before; distinct = tt })))
  where
    there : LeadsToTyped s m vars e (fun b t)
    there = subst (LeadsToTyped s m vars e) function l

    this : ThisLambda vars e a body b t
    this = this_lambda s m vars e a body args b t term there

    H : Blocking
    H = InBody o m vars (lam a body) (fun b t)

    led : LeadsToTyped s m vars (lam a body) (fun b t)
    led = subst (λ z. LeadsToTyped s m vars z (fun b t)) this.is there

    under : (rest : List ℕ) × (led.0 ≡ 0 ∷ rest) × UnderLambdas (a ∷ vars) body t rest led.1 led.2
    under = under_this vars a body b t led.0 led.1 led.2 led.3

    here : IsLambdaBlock o.program.datas vars (lam a body) (fun b t) [] (limit what)
    here =
        record {
          root = led.0;
          scope = led.1;
          inner = led.2;
          under = led.3;
          number = 0;
          within = omega (arith, ap length under.1);
          of = a;
          body = body;
          there = refl;
          what = what;
          passes = passes;
          path_is = refl;
          block_is = refl;
        }

    rank : (c : Block) → H [] c → rank_of c < 2 → ⊥
    rank c (inl k) h = absurd (omega (arith, h, ap rank_of k.block_is))
    rank c (inr k) h =
        let u' = under_this vars a body b t k.root k.scope k.inner k.under in
        no_root_under k.root u'.0 u'.1 k.rest k.is

    before : (q : List ℕ) (c : Block) → H q c → IsBeforeThere q c [] (limit what) → ⊥
    before q c x (inl h) = no_root q h
    before q c x (inr h) = rank c (subst (λ p. H p c) h.0 x) h.1

-- below the leading lambdas of a typed made definition there is a typed term
pub made_leads : PlaceOfSceneIsTyped → (scene : Scene) (m : ℕ) (it : Made) → IsTypedScene scene
    → slice_get scene.made.now m ≡ Some it
    → LeadsToTyped (setting_in scene) (mode_of it.sort) [] it.body it.ty
made_leads law scene m it h is =
    let of = (h.made m it is).body_leads in
    let at = spot (mode_of it.sort) true of.vars in
    let place : IsPlaceOf (origins_of scene) (made_of it) it.body of.path at of.body =
    record { root = of.path; vars = of.vars; term = of.body; under = of.under; rest = []; active = at_it; is = sym (nothing_behind of.path) } in
    let typed = law scene m it of.path at of.body h is place in
    (of.path, of.vars, of.body, of.under, (typed.0, typed.1))

-- what blocks a body
in_body : (o : Origins) (it : MadeOf) (body : TermTree)
    → Among (InBody o (mode_of it.sort) [] body it.ty) (IsBlocked o it body)
in_body o it body p b (inl l) =
    subst (λ q. IsBlocked o it body q b) (sym l.path_is)
    (subst (λ c. IsBlocked o it body (replicate l.number 0) c) (sym l.block_is)
    (at_lambda l.under l.within l.there l.passes))
in_body o it body p b (inr u) =
    at_place (record { root = u.root; vars = u.scope; term = u.inner; under = u.under; rest = u.rest; active = u.there.active; is = u.is }) u.there.blocks

blocked_in : {o : Origins} {it : MadeOf} {body : TermTree} {p : List ℕ} {b : Block}
    → IsBlocked o it body p b → InBody o (mode_of it.sort) [] body it.ty p b
blocked_in (at_place {at = at} {e = e} place blocks) =
    inr
    (record {
      root = place.root;
      scope = place.vars;
      inner = place.term;
      under = place.under;
      rest = place.rest;
      is = place.is;
      there = record { spot = at; term = e; active = place.active; blocks = blocks };
    })
blocked_in (at_lambda {root = root} {vars = vars} {inner = inner} {e = e} {i = i} {t = t} {l = l} under within there passes) =
    inl
    (record {
      root = root;
      scope = vars;
      inner = inner;
      under = under;
      number = i;
      within = within;
      of = t;
      body = e;
      there = there;
      what = l;
      passes = passes;
      path_is = refl;
      block_is = refl;
    })

first_same : (H K : Blocking) (p : List ℕ) (b : Block) → Among H K → Among K H → IsFirstAt H p b
    → IsFirstAt K p b
first_same H K p b to back is =
    record {
      it = to p b is.it;
      first = λ q c x h. is.first q c (back q c x) h;
      distinct = is.distinct;
    }

pub body_answered : (o : Origins) (it : MadeOf) (body : TermTree) (found : Option Trail)
    (answer : Option BlockedPart)
    → FindsFirst (InBody o (mode_of it.sort) [] body it.ty) found → IsPartOf found answer
    → AnswersBody o it body answer
body_answered o it body None answer none is =
    subst (AnswersBody o it body) (sym is) (λ p b x. none p b (blocked_in x))
body_answered o it body (Some f) None first is = absurd is
body_answered o it body (Some f) (Some g) first is =
    let whole = first_same (InBody o (mode_of it.sort) [] body it.ty) (IsBlocked o it body) (reverse f.back.items) (block_of f.block)
    (in_body o it body) (λ p b x. blocked_in x) first in
    subst (λ q. IsFirstAt (IsBlocked o it body) q (block_of g.block)) (sym is.0)
    (subst (λ (k : What). IsFirstAt (IsBlocked o it body) (reverse f.back.items) (block_of k)) (sym is.1) whole)
