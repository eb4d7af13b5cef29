-- A made definition stands in a term where its number is listed.
use Rattle.std.proofs.Common.{◌≡◌, ℕ, Bool, true, false, ◌||◌, ◌==◌, List, ◌++◌, refl, sym, ◌∙◌}
use Rattle.std.proofs.lemmas.List.Folds.{list_any-append}
use Rattle.chw_terms.specs.TermTree.{TermTree, var, global, made, lam, app, ty_lam, ty_app, letrec, con, prim, lit, vec_lit, case_of, Terms, no_terms, term_and, Group, no_bindings, bind, Alts, no_alts, alt}
use Rattle.data_kinds.proofs.Listing.{is_listed}
use Rattle.normal_forms.specs.Uses.{names_made, any_names_made, group_names_made, alts_name_made}
use Rattle.normal_form.specs.MadeIn.{made_in, made_in_all, made_in_group, made_in_alts}

-- a number is listed in one of two lists
both : (ms ns : List ℕ) (n : ℕ) (a b : Bool) → a ≡ is_listed ms n → b ≡ is_listed ns n → (a || b) ≡ is_listed (ms ++ ns) n
both ms ns n a b p q = (λ i. p i || q i) ∙ sym (list_any-append (λ m. m == n) ms ns)

or_none : (b : Bool) → b ≡ (b || false)
or_none true = refl
or_none false = refl

mutual
  unfolding made_in

  pub made_listed : (e : TermTree) (n : ℕ) → names_made e n ≡ is_listed (made_in e) n
  made_listed (var x) n = refl
  made_listed (global d) n = refl
  made_listed (made m) n = or_none (m == n)
  made_listed (lam t e) n = made_listed e n
  made_listed (app f a) n = both (made_in f) (made_in a) n (names_made f n) (names_made a n) (made_listed f n) (made_listed a n)
  made_listed (ty_lam k e) n = made_listed e n
  made_listed (ty_app f t) n = made_listed f n
  made_listed (letrec g e) n = both (made_in_group g) (made_in e) n (group_names_made g n) (names_made e n) (group_listed g n) (made_listed e n)
  made_listed (con c) n = refl
  made_listed (prim p) n = refl
  made_listed (lit s bs) n = refl
  made_listed (vec_lit t es) n = all_listed es n
  made_listed (case_of s alts) n = both (made_in s) (made_in_alts alts) n (names_made s n) (alts_name_made alts n) (made_listed s n) (alts_listed alts n)

  all_listed : (es : Terms) (n : ℕ) → any_names_made es n ≡ is_listed (made_in_all es) n
  all_listed no_terms n = refl
  all_listed (term_and e es) n = both (made_in e) (made_in_all es) n (names_made e n) (any_names_made es n) (made_listed e n) (all_listed es n)

  group_listed : (g : Group) (n : ℕ) → group_names_made g n ≡ is_listed (made_in_group g) n
  group_listed no_bindings n = refl
  group_listed (bind t e g) n = both (made_in e) (made_in_group g) n (names_made e n) (group_names_made g n) (made_listed e n) (group_listed g n)

  alts_listed : (alts : Alts) (n : ℕ) → alts_name_made alts n ≡ is_listed (made_in_alts alts) n
  alts_listed no_alts n = refl
  alts_listed (alt q e more) n = both (made_in e) (made_in_alts more) n (names_made e n) (alts_name_made more n) (made_listed e n) (alts_listed more n)
