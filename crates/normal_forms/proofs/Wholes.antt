-- A made definition is one whole, and one where none uses itself.
use Rattle.std.proofs.Common.{◌≡◌, ℕ, suc, zero, Bool, true, false, ◌||◌, refl, ap, ◌∙◌, arith, subst, ◌<◌, List, [], ◌∷◌, length, Option, Some, None, eq-eqb}
use Rattle.std.specs.List.{slice_get}
use Rattle.std.proofs.lemmas.Bool.{or_left, or_right}
use Rattle.chw_terms.specs.declared.scene.Made.{Made}
use Rattle.chw_terms.specs.TermTree.{TermTree, var, global, made, lam, app, ty_lam, ty_app, letrec, con, prim, lit, vec_lit, case_of, Terms, no_terms, term_and, Group, no_bindings, bind, Alts, no_alts, alt}
use Rattle.rewriting.specs.Origins.{with_origins, with_origins_all, with_origins_group, with_origins_alts}
use Rattle.chw_typing.proofs.Reaching.{place_of, place_earlier}
use Rattle.normal_forms.specs.Laws.{WholeIsThere}
use Rattle.normal_forms.specs.Uses.{names_made, any_names_made, group_names_made, alts_name_made, Uses, IsAcyclic, WholeOf, whole_of}

-- the same terms for the made definitions that stand in a term
abbrev Agree : (ℕ → Bool) → (ℕ → TermTree) → (ℕ → TermTree) → Type 0
Agree P o u = (n : ℕ) → P n ≡ true → o n ≡ u n

on_left : (P Q : ℕ → Bool) (o u : ℕ → TermTree) → Agree (λ n. P n || Q n) o u → Agree P o u
on_left P Q o u h n p = h n (or_left (P n) (Q n) p)

on_right : (P Q : ℕ → Bool) (o u : ℕ → TermTree) → Agree (λ n. P n || Q n) o u → Agree Q o u
on_right P Q o u h n p = h n (or_right (P n) (Q n) p)

mutual
  unfolding with_origins

  put_where : (e : TermTree) (o u : ℕ → TermTree) → Agree (names_made e) o u → with_origins o e ≡ with_origins u e
  put_where (var x) o u h = refl
  put_where (global d) o u h = refl
  put_where (made m) o u h = h m (eq-eqb m m refl)
  put_where (lam t e) o u h = ap (lam t) (put_where e o u h)
  put_where (app f a) o u h = λ i. app (put_where f o u (on_left (names_made f) (names_made a) o u h) i) (put_where a o u (on_right (names_made f) (names_made a) o u h) i)
  put_where (ty_lam k e) o u h = ap (ty_lam k) (put_where e o u h)
  put_where (ty_app f t) o u h = ap (λ x. ty_app x t) (put_where f o u h)
  put_where (letrec g e) o u h =
      λ i. letrec (group_where g o u (on_left (group_names_made g) (names_made e) o u h) i) (put_where e o u (on_right (group_names_made g) (names_made e) o u h) i)
  put_where (con c) o u h = refl
  put_where (prim p) o u h = refl
  put_where (lit s bs) o u h = refl
  put_where (vec_lit t es) o u h = ap (vec_lit t) (all_where es o u h)
  put_where (case_of e alts) o u h =
      λ i. case_of (put_where e o u (on_left (names_made e) (alts_name_made alts) o u h) i) (alts_where alts o u (on_right (names_made e) (alts_name_made alts) o u h) i)

  all_where : (es : Terms) (o u : ℕ → TermTree) → Agree (any_names_made es) o u → with_origins_all o es ≡ with_origins_all u es
  all_where no_terms o u h = refl
  all_where (term_and e es) o u h =
      λ i. term_and (put_where e o u (on_left (names_made e) (any_names_made es) o u h) i) (all_where es o u (on_right (names_made e) (any_names_made es) o u h) i)

  group_where : (g : Group) (o u : ℕ → TermTree) → Agree (group_names_made g) o u → with_origins_group o g ≡ with_origins_group u g
  group_where no_bindings o u h = refl
  group_where (bind t e g) o u h =
      λ i. bind t (put_where e o u (on_left (names_made e) (group_names_made g) o u h) i) (group_where g o u (on_right (names_made e) (group_names_made g) o u h) i)

  alts_where : (alts : Alts) (o u : ℕ → TermTree) → Agree (alts_name_made alts) o u → with_origins_alts o alts ≡ with_origins_alts u alts
  alts_where no_alts o u h = refl
  alts_where (alt q e more) o u h =
      λ i. alt q (put_where e o u (on_left (names_made e) (alts_name_made more) o u h) i) (alts_where more o u (on_right (names_made e) (alts_name_made more) o u h) i)

pub one_whole : {state : List Made} {m k : ℕ} {e f : TermTree} → WholeOf state m e → WholeOf state k f → m ≡ k → e ≡ f
one_whole {state} (whole_of {it = it} o is each) (whole_of {it = jt} u js every) same =
    let one : it ≡ jt = cc in
    put_where it.body o u (λ n h. one_whole (each n (it, is, h)) (every n (jt, js, subst (λ (k : Made). names_made k.body n ≡ true) one h)) refl)
    ∙ ap (λ (k : Made). with_origins u k.body) one

it_at : (state : List Made) (m : ℕ) → m < length state → (it : Made) × (slice_get state m ≡ Some it)
it_at [] m l = absurd (omega arith)
it_at (it ∷ state) zero l = (it, refl)
it_at (it ∷ state) (suc m) l = it_at state m (omega arith)

-- whether a made definition uses another
uses_at : Option Made → ℕ → Bool
uses_at None n = false
uses_at (Some it) n = names_made it.body n

goes : List Made → ℕ → ℕ → Bool
goes state m n = uses_at (slice_get state m) n

use_found : (o : Option Made) (n : ℕ) → uses_at o n ≡ true → (it : Made) × (o ≡ Some it) × (names_made it.body n ≡ true)
unfolding uses_at
use_found None n h = absurd cc
use_found (Some it) n h = (it, refl, h)

to_use : (state : List Made) (m n : ℕ) → goes state m n ≡ true → Uses state m n
unfolding goes
to_use state m n h = use_found (slice_get state m) n h

from_use : (state : List Made) (m n : ℕ) (it : Made) → slice_get state m ≡ Some it → names_made it.body n ≡ true → goes state m n ≡ true
unfolding goes uses_at
from_use state m n it is h = ap (λ o. uses_at o n) is ∙ h

Whole : List Made → ℕ → Type 0
Whole state m = (e : TermTree) × WholeOf state m e

-- the whole of a made definition that is used
pick : (state : List Made) (it : Made) → ((n : ℕ) → names_made it.body n ≡ true → Whole state n) → (n : ℕ) (b : Bool) → names_made it.body n ≡ b → TermTree
unfolding Whole
pick state it wholes n true h = (wholes n h).0
pick state it wholes n false h = made n

picked : (state : List Made) (it : Made) (wholes : (n : ℕ) → names_made it.body n ≡ true → Whole state n) (n : ℕ) (b : Bool) (h : names_made it.body n ≡ b) → names_made it.body n ≡ true → WholeOf state n (pick state it wholes n b h)
unfolding Whole pick
picked state it wholes n true h g = (wholes n h).1
picked state it wholes n false h g = absurd cc

whole_from : (state : List Made) (m : ℕ) (it : Made) → slice_get state m ≡ Some it → ((n : ℕ) → names_made it.body n ≡ true → Whole state n) → Whole state m
unfolding Whole
whole_from state m it is wholes = (
  _,
  whole_of {it = it} (λ n. pick state it wholes n (names_made it.body n) refl) is
      (λ n u. let one : u.0 ≡ it = cc in picked state it wholes n (names_made it.body n) refl (subst (λ (k : Made). names_made k.body n ≡ true) one u.2)),
)

module _ (state : List Made) (none : IsAcyclic state) (there : (j n : ℕ) → Uses state j n → n < length state) where
  place : ℕ → ℕ
  place m = place_of (goes state) (Uses state) (to_use state) none (length state) m

  earlier : (m n : ℕ) → n < length state → goes state m n ≡ true → place n < place m
  unfolding place
  earlier m n l h = place_earlier (goes state) (Uses state) (to_use state) none (length state) m n l h

  whole_below : (k m : ℕ) → place m < k → m < length state → Whole state m
  whole_below zero m l w = absurd (omega (arith, l))
  whole_below (suc k) m l w =
      let at = it_at state m w in
      whole_from state m at.0 at.1
      (λ n h. let in_range : n < length state = there m n (at.0, at.1, h) in
      let falls : place n < place m = earlier m n in_range (from_use state m n at.0 at.1 h) in
      whole_below k n (omega (arith, falls, l)) in_range)

pub whole_is_there : WholeIsThere
unfolding Whole
whole_is_there state m none there l = whole_below state none there (suc (place state none there m)) m (omega arith) l
