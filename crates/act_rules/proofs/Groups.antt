-- The right sides of groups that are joined, renamed, and stand for made definitions; and their types.
use Rattle.std.specs.Prelude.{slice_get}
use Rattle.std.proofs.Common.{◌≡◌, ◌+◌, ◌<◌, ℕ, suc, zero, List, ◌∷◌, Some, refl, sym, ap, ◌∙◌, subst, arith}
use Rattle.chw_types.specs.declared.kind.Kind.{Kind}
use Rattle.chw_types.specs.TypeTree.{TypeTree}
use Rattle.chw_types.specs.TypeMoves.{Renaming}
use Rattle.chw_types.specs.SameTypes.{SameTypes}
use Rattle.chw_terms.specs.TermMoves.{rename, rename_group, Substitution, sub, sub_group}
use Rattle.chw_terms.specs.TermTree.{TermTree, letrec, Group, no_bindings, bind, size_of}
use Rattle.chw_typing.specs.Scopes.{Setting, HasKind, with_more, declared}
use Rattle.chw_typing.specs.Typing.{HasType, h_letrec, AreBound, none_bound, bound_and}
use Rattle.chw_typing.proofs.Lists.{turned_onto}
use Rattle.chw_typing.specs.Groups.{joined}
use Rattle.chw_meaning.specs.Values.{body_at}
use Rattle.rewriting.specs.Origins.{with_origins, with_origins_group}

pub body_origins : (o : ℕ → TermTree) (g : Group) (i : ℕ) (e : TermTree) → body_at g i ≡ Some e → body_at (with_origins_group o g) i ≡ Some (with_origins o e)
unfolding with_origins
body_origins o no_bindings i e is = cc
body_origins o (bind t x g) zero e is = let same : x ≡ e = cc in ap (λ e. Some (with_origins o e)) same
body_origins o (bind t x g) (suc i) e is = body_origins o g i e is

pub body_renamed : (g : Group) (ρ : Renaming) (i : ℕ) (e : TermTree) → body_at g i ≡ Some e → body_at (rename_group g ρ) i ≡ Some (rename e ρ)
unfolding rename
body_renamed no_bindings ρ i e is = cc
body_renamed (bind t x g) ρ zero e is = let same : x ≡ e = cc in ap (λ e. Some (rename e ρ)) same
body_renamed (bind t x g) ρ (suc i) e is = body_renamed g ρ i e is

pub size_renamed : (g : Group) (ρ : Renaming) → size_of (rename_group g ρ) ≡ size_of g
unfolding rename
size_renamed no_bindings ρ = refl
size_renamed (bind t e g) ρ = ap suc (size_renamed g ρ)

pub body_put : (g : Group) (σ : Substitution) (i : ℕ) (e : TermTree) → body_at g i ≡ Some e → body_at (sub_group g σ) i ≡ Some (sub e σ)
unfolding sub
body_put no_bindings σ i e is = cc
body_put (bind t x g) σ zero e is = let same : x ≡ e = cc in ap (λ e. Some (sub e σ)) same
body_put (bind t x g) σ (suc i) e is = body_put g σ i e is

pub size_put : (g : Group) (σ : Substitution) → size_of (sub_group g σ) ≡ size_of g
unfolding sub
size_put no_bindings σ = refl
size_put (bind t e g) σ = ap suc (size_put g σ)

pub first_joined : (g h : Group) (i : ℕ) (e : TermTree) → body_at g i ≡ Some e → body_at (joined g h) i ≡ Some e
first_joined no_bindings h i e is = cc
first_joined (bind t x g) h zero e is = is
first_joined (bind t x g) h (suc i) e is = first_joined g h i e is

pub second_joined : (g h : Group) (i : ℕ) → body_at (joined g h) (size_of g + i) ≡ body_at h i
second_joined no_bindings h i = ap (body_at h) (let e : 0 + i ≡ i = omega arith in e)
second_joined (bind t x g) h i = ap (body_at (joined (bind t x g) h)) (let e : suc (size_of g) + i ≡ suc (size_of g + i) = omega arith in e) ∙ second_joined g h i

-- a binding of a typed group: its right side has the declared type, up to naturals
pub record BoundAt (s : Setting) (kinds : List Kind) (vars : List TypeTree) (g : Group) (j : ℕ) (t : TypeTree) : Type 0 where
  pub kind : Kind
  pub has_kind : HasKind s kinds t kind
  pub right : TermTree
  pub is : body_at g j ≡ Some right
  pub type : TypeTree
  pub has : HasType s kinds vars right type
  pub same : SameTypes t type

pub bound_at : {s : Setting} {kinds : List Kind} {vars : List TypeTree} {k : Kind} {g : Group} → AreBound s kinds vars k g → (j : ℕ) (t : TypeTree) → slice_get (declared g) j ≡ Some t → BoundAt s kinds vars g j t
bound_at none_bound j t i = cc
bound_at {s} {kinds} {vars} (bound_and {j = k} {t = u} {u = v} {e = e} {g = g} kt fs d x bs) zero t i =
    let is : u ≡ t = cc in
    subst (BoundAt s kinds vars (bind u e g) zero) is (record { kind = k; has_kind = kt; right = e; is = refl; type = v; has = d; same = x })
bound_at (bound_and kt fs d x bs) (suc j) t i =
    let one = bound_at bs j t i in
    record { kind = one.kind; has_kind = one.has_kind; right = one.right; is = one.is; type = one.type; has = one.has; same = one.same }

-- the bindings of the first of two joined groups
pub joined_below : (g h : Group) (i : ℕ) → i < size_of g → body_at (joined g h) i ≡ body_at g i
joined_below no_bindings h i less = absurd (let e : suc i ≡ zero = omega (arith, less) in cc)
joined_below (bind t e g) h zero less = refl
joined_below (bind t e g) h (suc i) less = joined_below g h i (omega (arith, less))

-- the type of the binding between
pub declared_between : (front : Group) (t : TypeTree) (e : TermTree) (back : Group) → slice_get (declared (joined front (bind t e back))) (size_of front) ≡ Some t
declared_between no_bindings t e back = refl
declared_between (bind u x front) t e back = declared_between front t e back

-- a typed letrec
pub record LetTyped (s : Setting) (kinds : List Kind) (vars : List TypeTree) (g : Group) (e : TermTree) (t : TypeTree) : Type 0 where
  pub kind : Kind
  pub has : HasType s kinds (with_more (declared g) vars) e t
  pub bound : AreBound s kinds (with_more (declared g) vars) kind g

pub let_typed : {s : Setting} {kinds : List Kind} {vars : List TypeTree} {g : Group} {e : TermTree} {t : TypeTree} → HasType s kinds vars (letrec g e) t → LetTyped s kinds vars g e t
let_typed (h_letrec {k = k} d kt bs) = record { kind = k; has = d; bound = bs }

-- the bindings without the one between are typed as before
pub others_bound : {s : Setting} {kinds : List Kind} {vars : List TypeTree} {k : Kind} (front back : Group) (t : TypeTree) (e : TermTree) → AreBound s kinds vars k (joined front (bind t e back)) → AreBound s kinds vars k (joined front back)
others_bound no_bindings back t e (bound_and kt fs d x bs) = bs
others_bound (bind u a front) back t e (bound_and kt fs d x bs) = bound_and kt fs d x (others_bound front back t e bs)

-- the types of the variables, the one between apart
pub between_apart : (front back : Group) (t : TypeTree) (e : TermTree) (vars : List TypeTree) → with_more (declared (joined front (bind t e back))) vars ≡ with_more (declared back) (t ∷ with_more (declared front) vars)
between_apart no_bindings back t e vars = turned_onto t (declared back) vars
between_apart (bind u a front) back t e vars =
    turned_onto u (declared (joined front (bind t e back))) vars ∙ between_apart front back t e (u ∷ vars) ∙ ap (λ us. with_more (declared back) (t ∷ us)) (sym (turned_onto u (declared front) vars))

pub joined_apart : (front back : Group) (vars : List TypeTree) → with_more (declared (joined front back)) vars ≡ with_more (declared back) (with_more (declared front) vars)
joined_apart no_bindings back vars = refl
joined_apart (bind u a front) back vars =
    turned_onto u (declared (joined front back)) vars ∙ joined_apart front back (u ∷ vars) ∙ ap (with_more (declared back)) (sym (turned_onto u (declared front) vars))
