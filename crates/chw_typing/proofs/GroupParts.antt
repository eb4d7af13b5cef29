-- What groups declare, and what depends on the patterns of alternatives alone.
use Rattle.std.proofs.Common.{◌≡◌, ℕ, suc, zero, ◌+◌, ◌<◌, arith, List, ◌∷◌, ◌++◌, reverse, inl, inr, refl, sym, ap, ◌∙◌, subst, append_assoc}
use Rattle.std.proofs.lemmas.List.{reverse-append}
use Rattle.chw_types.specs.declared.declarations.Data.{Data}
use Rattle.chw_types.specs.TypeTree.{TypeTree}
use Rattle.chw_types.specs.TypeMoves.{Renaming}
use Rattle.chw_terms.specs.declared.term.Pattern.{Pattern}
use Rattle.chw_terms.specs.declared.term.Pattern.TheVariants.{OfCon, OfLit, Default}
use Rattle.chw_terms.specs.TermTree.{TermTree, Group, no_bindings, bind, Alts, no_alts, alt, size_of}
use Rattle.chw_terms.specs.TermMoves.{rename, rename_group, rename_alts, Substitution, sub, sub_group, sub_alts}
use Rattle.chw_typing.specs.Scopes.{with_more, declared}
use Rattle.chw_typing.specs.Alternatives.{Hides, HidesNone, NoneHidden, HasDefault, IsFor, ForAll, IsCovered}
use Rattle.chw_typing.specs.Groups.{joined, binding_at, Reached, from_body, from_side, each_body, patterns}

pub declared_joined : (g h : Group) → declared (joined g h) ≡ declared g ++ declared h
declared_joined no_bindings h = refl
declared_joined (bind t e g) h = ap (λ ts. t ∷ ts) (declared_joined g h)

pub size_joined : (g h : Group) → size_of (joined g h) ≡ size_of g + size_of h
size_joined no_bindings h = let e : size_of h ≡ 0 + size_of h = omega arith in e
size_joined (bind t e g) h = let d = size_joined g h in omega (arith, d)

pub first_of_joined : (g h : Group) (i : ℕ) → i < size_of g → binding_at (joined g h) i ≡ binding_at g i
first_of_joined no_bindings h i l = absurd (omega (arith, l))
first_of_joined (bind t e g) h zero l = refl
first_of_joined (bind t e g) h (suc i) l = first_of_joined g h i (omega (arith, l))

pub second_of_joined : (g h : Group) (i : ℕ) → binding_at (joined g h) (size_of g + i) ≡ binding_at h i
second_of_joined no_bindings h i = let e : 0 + i ≡ i = omega arith in ap (binding_at h) e
second_of_joined (bind t e g) h i =
    let d : suc (size_of g) + i ≡ suc (size_of g + i) = omega arith in
    ap (binding_at (bind t e (joined g h))) d ∙ second_of_joined g h i

pub joined_renamed : (g h : Group) (ρ : Renaming) → rename_group (joined g h) ρ ≡ joined (rename_group g ρ) (rename_group h ρ)
unfolding rename
joined_renamed no_bindings h ρ = refl
joined_renamed (bind t e g) h ρ = ap (bind t (rename e ρ)) (joined_renamed g h ρ)

pub joined_put : (g h : Group) (σ : Substitution) → sub_group (joined g h) σ ≡ joined (sub_group g σ) (sub_group h σ)
unfolding sub
joined_put no_bindings h σ = refl
joined_put (bind t e g) h σ = ap (bind t (sub e σ)) (joined_put g h σ)

pub reached_is_binding : (g : Group) (e : TermTree) (i : ℕ) → Reached g e i → i < size_of g
reached_is_binding g e i (from_body l o) = l
reached_is_binding g e i (from_side r b l o) = l

pub with_more_twice : (us ts vars : List TypeTree) → with_more us (with_more ts vars) ≡ with_more (ts ++ us) vars
with_more_twice us ts vars = sym (append_assoc (reverse us) (reverse ts) vars) ∙ ap (λ xs. xs ++ vars) (sym (reverse-append ts us))

pub patterns_of_each : (f : ℕ → TermTree → TermTree) (alts : Alts) → patterns (each_body f alts) ≡ patterns alts
patterns_of_each f no_alts = refl
patterns_of_each f (alt q e more) = ap (λ qs. q ∷ qs) (patterns_of_each f more)

pub patterns_renamed : (alts : Alts) (ρ : Renaming) → patterns (rename_alts alts ρ) ≡ patterns alts
unfolding rename_alts
patterns_renamed no_alts ρ = refl
patterns_renamed (alt q e more) ρ = ap (λ qs. q ∷ qs) (patterns_renamed more ρ)

pub patterns_put : (alts : Alts) (σ : Substitution) → patterns (sub_alts alts σ) ≡ patterns alts
unfolding sub_alts
patterns_put no_alts σ = refl
patterns_put (alt q e more) σ = ap (λ qs. q ∷ qs) (patterns_put more σ)

hides_none_by : (p : Pattern) (alts more : Alts) → patterns alts ≡ patterns more → HidesNone p alts → HidesNone p more
hides_none_by p no_alts no_alts e h = tt
hides_none_by p no_alts (alt r f those) e h = absurd cc
hides_none_by p (alt q e these) no_alts e' h = absurd cc
hides_none_by p (alt q e these) (alt r f those) s h =
    let same : q ≡ r = cc in
    let rest : patterns these ≡ patterns those = cc in
    (subst (λ q. Hides p q → ⊥) same h.0, hides_none_by p these those rest h.1)

pub none_hidden_by : (alts more : Alts) → patterns alts ≡ patterns more → NoneHidden alts → NoneHidden more
none_hidden_by no_alts no_alts s h = tt
none_hidden_by no_alts (alt r f those) s h = absurd cc
none_hidden_by (alt q e these) no_alts s h = absurd cc
none_hidden_by (alt q e these) (alt r f those) s h =
    let same : q ≡ r = cc in
    let rest : patterns these ≡ patterns those = cc in
    (subst (λ q. HidesNone q those) same (hides_none_by q these those rest h.0), none_hidden_by these those rest h.1)

default_first : (q : Pattern) (e f : TermTree) (these those : Alts) → (HasDefault these → HasDefault those) → HasDefault (alt q e these) → HasDefault (alt q f those)
default_first Default e f these those g h = tt
default_first (OfCon c n) e f these those g h = g h
default_first (OfLit s b) e f these those g h = g h

has_default_by : (alts more : Alts) → patterns alts ≡ patterns more → HasDefault alts → HasDefault more
has_default_by no_alts more s h = absurd h
has_default_by (alt q e these) no_alts s h = absurd cc
has_default_by (alt q e these) (alt r f those) s h =
    let same : q ≡ r = cc in
    let rest : patterns these ≡ patterns those = cc in
    subst (λ q. HasDefault (alt q f those)) same (default_first q e f these those (has_default_by these those rest) h)

for_first : (c : ℕ) (q : Pattern) (e f : TermTree) (these those : Alts) → (IsFor c these → IsFor c those) → IsFor c (alt q e these) → IsFor c (alt q f those)
for_first c Default e f these those g h = g h
for_first c (OfCon d n) e f these those g (inl h) = inl h
for_first c (OfCon d n) e f these those g (inr h) = inr (g h)
for_first c (OfLit s b) e f these those g h = g h

is_for_by : (c : ℕ) (alts more : Alts) → patterns alts ≡ patterns more → IsFor c alts → IsFor c more
is_for_by c no_alts more s h = absurd h
is_for_by c (alt q e these) no_alts s h = absurd cc
is_for_by c (alt q e these) (alt r f those) s h =
    let same : q ≡ r = cc in
    let rest : patterns these ≡ patterns those = cc in
    subst (λ q. IsFor c (alt q f those)) same (for_first c q e f these those (is_for_by c these those rest) h)

pub covered_by : (datas : List Data) (alts more : Alts) → patterns alts ≡ patterns more → IsCovered datas alts → IsCovered datas more
covered_by datas alts more s (inl h) = inl (has_default_by alts more s h)
covered_by datas alts more s (inr h) = inr (for_all h)
  where
    for_all : ForAll datas alts → ForAll datas more
    for_all h = record {
      con = h.con;
      has = is_for_by h.con alts more s h.has;
      it = h.it;
      is = h.is;
      each = λ c other at of. is_for_by c alts more s (h.each c other at of);
    }
