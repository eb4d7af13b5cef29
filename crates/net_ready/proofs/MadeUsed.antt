-- The made definitions that stand in a body are used by it, and steps along uses lead to earlier
-- places.
use Rattle.std.proofs.Common.{◌≡◌, ℕ, zero, suc, ◌<◌, Bool, true, false, ◌||◌, arith, List, [], ◌∷◌, ◌++◌, length, Some, refl, sym, subst, eq-eqb}
use Rattle.std.specs.List.{slice_get, AllByRecursion}
use Rattle.std.proofs.lemmas.Bool.{or_left, or_right}
use Rattle.chw_terms.specs.declared.scene.Made.{Made}
use Rattle.chw_terms.specs.TermTree.{TermTree, var, global, made, lam, app, ty_lam, ty_app, letrec, con, prim, lit, vec_lit, case_of, Terms, no_terms, term_and, Group, no_bindings, bind, Alts, no_alts, alt}
use Rattle.chw_typing.proofs.Reaching.{place_of, place_earlier}
use Rattle.normal_forms.specs.Uses.{names_made, any_names_made, group_names_made, alts_name_made, Uses, IsAcyclic}
use Rattle.net_built.specs.Modules.{made_in, made_in_all, made_in_group, made_in_alts}

pub all_along : {P Q : ℕ → Type 0} → ((m : ℕ) → P m → Q m) → (ms : List ℕ) → AllByRecursion P ms → AllByRecursion Q ms
all_along f [] h = tt
all_along f (m ∷ ms) h = (f m h.0, all_along f ms h.1)

pub all_append : (P : ℕ → Type 0) (ms ns : List ℕ) → AllByRecursion P ms → AllByRecursion P ns → AllByRecursion P (ms ++ ns)
all_append P [] ns h k = k
all_append P (m ∷ ms) ns h k = (h.0, all_append P ms ns h.1 k)

-- all of two lists pass one of two tests
either_passes : (a b : ℕ → Bool) (ms ns : List ℕ) → AllByRecursion (λ m. a m ≡ true) ms → AllByRecursion (λ m. b m ≡ true) ns → AllByRecursion (λ m. (a m || b m) ≡ true) (ms ++ ns)
either_passes a b ms ns h k =
    all_append (λ m. (a m || b m) ≡ true) ms ns (all_along (λ m e. or_left (a m) (b m) e) ms h) (all_along (λ m e. or_right (a m) (b m) e) ns k)

mutual
  pub all_named : (e : TermTree) → AllByRecursion (λ m. names_made e m ≡ true) (made_in e)
  all_named (var x) = tt
  all_named (global d) = tt
  all_named (made m) = (eq-eqb m m refl, tt)
  all_named (lam t e) = all_named e
  all_named (app f a) = either_passes (names_made f) (names_made a) (made_in f) (made_in a) (all_named f) (all_named a)
  all_named (ty_lam k e) = all_named e
  all_named (ty_app f t) = all_named f
  all_named (letrec g e) = either_passes (group_names_made g) (names_made e) (made_in_group g) (made_in e) (all_named_group g) (all_named e)
  all_named (con c) = tt
  all_named (prim p) = tt
  all_named (lit s bits) = tt
  all_named (vec_lit t es) = all_named_all es
  all_named (case_of e alts) = either_passes (names_made e) (alts_name_made alts) (made_in e) (made_in_alts alts) (all_named e) (all_named_alts alts)

  all_named_all : (es : Terms) → AllByRecursion (λ m. any_names_made es m ≡ true) (made_in_all es)
  all_named_all no_terms = tt
  all_named_all (term_and e es) = either_passes (names_made e) (any_names_made es) (made_in e) (made_in_all es) (all_named e) (all_named_all es)

  all_named_group : (g : Group) → AllByRecursion (λ m. group_names_made g m ≡ true) (made_in_group g)
  all_named_group no_bindings = tt
  all_named_group (bind t e g) = either_passes (names_made e) (group_names_made g) (made_in e) (made_in_group g) (all_named e) (all_named_group g)

  all_named_alts : (alts : Alts) → AllByRecursion (λ m. alts_name_made alts m ≡ true) (made_in_alts alts)
  all_named_alts no_alts = tt
  all_named_alts (alt q e more) = either_passes (names_made e) (alts_name_made more) (made_in e) (made_in_alts more) (all_named e) (all_named_alts more)

-- whether a made definition uses another
abbrev uses_at : List Made → ℕ → ℕ → Bool
uses_at [] a b = false
uses_at (it ∷ state) zero b = names_made it.body b
uses_at (it ∷ state) (suc a) b = uses_at state a b

to_use : (state : List Made) (a b : ℕ) → uses_at state a b ≡ true → Uses state a b
to_use [] a b h = absurd cc
to_use (it ∷ state) zero b h = (it, refl, h)
to_use (it ∷ state) (suc a) b h = to_use state a b h

from_use : (state : List Made) (a b : ℕ) (it : Made) → slice_get state a ≡ Some it → names_made it.body b ≡ true → uses_at state a b ≡ true
from_use [] a b it is h = absurd cc
from_use (jt ∷ state) zero b it is h = let same : jt ≡ it = cc in subst (λ (it : Made). names_made it.body b ≡ true) (sym same) h
from_use (jt ∷ state) (suc a) b it is h = from_use state a b it is h

pub made_there : (state : List Made) (m : ℕ) → m < length state → (it : Made) × (slice_get state m ≡ Some it)
made_there [] m l = absurd (omega (arith, l))
made_there (it ∷ state) zero l = (it, refl)
made_there (it ∷ state) (suc m) l = made_there state m (omega (arith, l))

module _ (state : List Made) (none : IsAcyclic state) (there : (m n : ℕ) → Uses state m n → n < length state) where
  -- the place of a made definition, above those that it uses
  pub place : ℕ → ℕ
  place m = place_of (uses_at state) (Uses state) (to_use state) none (length state) m

  pub place_falls : (m n : ℕ) (it : Made) → slice_get state m ≡ Some it → names_made it.body n ≡ true → (n < length state) × (place n < place m)
  unfolding place
  place_falls m n it is h =
      let within : n < length state = there m n (it, is, h) in
      (within, place_earlier (uses_at state) (Uses state) (to_use state) none (length state) m n within (from_use state m n it is h))
