-- What stands in a type or a term is what is listed of it.
use Rattle.std.proofs.Common.{◌≡◌, ℕ, zero, suc, Bool, true, false, ◌||◌, ◌==◌, List, [], ◌∷◌, ◌++◌, get_or, Contains, flat_map, slice_get, Some, refl, sym, ap, ◌∙◌, eq-eqb, eqb-true}
use Rattle.std.specs.List.{list_any}
use Rattle.std.proofs.lemmas.List.{get_or_default}
use Rattle.std.proofs.lemmas.Option.{slice_get-get_or}
use Rattle.std.proofs.lemmas.List.Folds.{list_any-append, list_any_at, Any-from_list_any}
use Rattle.chw_types.specs.TypeTree.{TypeTree, ty_var, nat_lit, nat_sum, nat_product, domain, scalar, vector, data_of, fun, signal, for_all, TypeTrees, no_types, type_and}
use Rattle.chw_terms.specs.References.{names_data, any_names_data, names_def, any_names_def, group_names_def, alts_name_def}
use Rattle.chw_terms.specs.TermTree.{TermTree, var, global, made, lam, app, ty_lam, ty_app, letrec, con, prim, lit, vec_lit, case_of, Terms, no_terms, term_and, Group, no_bindings, bind, Alts, no_alts, alt}
use Rattle.data_kinds.specs.Named.{datas_in, datas_in_all, defs_in, defs_in_all, defs_in_group, defs_in_alts}

-- whether a number is listed
abbrev pub is_listed : List ℕ → ℕ → Bool
is_listed ns d = list_any (λ n. n == d) ns

-- a number is listed in one of two lists
both : (ms ns : List ℕ) (d : ℕ) (a b : Bool) → a ≡ is_listed ms d → b ≡ is_listed ns d → (a || b) ≡ is_listed (ms ++ ns) d
both ms ns d a b p q = (λ i. p i || q i) ∙ sym (list_any-append (λ n. n == d) ms ns)

mutual
  unfolding datas_in

  pub datas_listed : (t : TypeTree) (d : ℕ) → names_data t d ≡ is_listed (datas_in t) d
  datas_listed (ty_var x) d = refl
  datas_listed (nat_lit n) d = refl
  datas_listed (nat_sum a b) d = both (datas_in a) (datas_in b) d (names_data a d) (names_data b d) (datas_listed a d) (datas_listed b d)
  datas_listed (nat_product a b) d = both (datas_in a) (datas_in b) d (names_data a d) (names_data b d) (datas_listed a d) (datas_listed b d)
  datas_listed (domain c) d = refl
  datas_listed (scalar s w) d = datas_listed w d
  datas_listed (vector n t) d = both (datas_in n) (datas_in t) d (names_data n d) (names_data t d) (datas_listed n d) (datas_listed t d)
  datas_listed (data_of c ts) d = ap (λ b. (c == d) || b) (all_datas_listed ts d)
  datas_listed (fun a b) d = both (datas_in a) (datas_in b) d (names_data a d) (names_data b d) (datas_listed a d) (datas_listed b d)
  datas_listed (signal c t) d = both (datas_in c) (datas_in t) d (names_data c d) (names_data t d) (datas_listed c d) (datas_listed t d)
  datas_listed (for_all k t) d = datas_listed t d

  pub all_datas_listed : (ts : TypeTrees) (d : ℕ) → any_names_data ts d ≡ is_listed (datas_in_all ts) d
  all_datas_listed no_types d = refl
  all_datas_listed (type_and t ts) d = both (datas_in t) (datas_in_all ts) d (names_data t d) (any_names_data ts d) (datas_listed t d) (all_datas_listed ts d)

or_none : (b : Bool) → b ≡ (b || false)
or_none true = refl
or_none false = refl

mutual
  unfolding defs_in

  pub defs_listed : (e : TermTree) (d : ℕ) → names_def e d ≡ is_listed (defs_in e) d
  defs_listed (var x) d = refl
  defs_listed (global c) d = or_none (c == d)
  defs_listed (made m) d = refl
  defs_listed (lam t e) d = defs_listed e d
  defs_listed (app f a) d = both (defs_in f) (defs_in a) d (names_def f d) (names_def a d) (defs_listed f d) (defs_listed a d)
  defs_listed (ty_lam k e) d = defs_listed e d
  defs_listed (ty_app f t) d = defs_listed f d
  defs_listed (letrec g e) d = both (defs_in_group g) (defs_in e) d (group_names_def g d) (names_def e d) (group_listed g d) (defs_listed e d)
  defs_listed (con c) d = refl
  defs_listed (prim p) d = refl
  defs_listed (lit s bs) d = refl
  defs_listed (vec_lit t es) d = all_defs_listed es d
  defs_listed (case_of s alts) d = both (defs_in s) (defs_in_alts alts) d (names_def s d) (alts_name_def alts d) (defs_listed s d) (alts_listed alts d)

  pub all_defs_listed : (es : Terms) (d : ℕ) → any_names_def es d ≡ is_listed (defs_in_all es) d
  all_defs_listed no_terms d = refl
  all_defs_listed (term_and e es) d = both (defs_in e) (defs_in_all es) d (names_def e d) (any_names_def es d) (defs_listed e d) (all_defs_listed es d)

  pub group_listed : (g : Group) (d : ℕ) → group_names_def g d ≡ is_listed (defs_in_group g) d
  group_listed no_bindings d = refl
  group_listed (bind t e g) d = both (defs_in e) (defs_in_group g) d (names_def e d) (group_names_def g d) (defs_listed e d) (group_listed g d)

  pub alts_listed : (alts : Alts) (d : ℕ) → alts_name_def alts d ≡ is_listed (defs_in_alts alts) d
  alts_listed no_alts d = refl
  alts_listed (alt q e more) d = both (defs_in e) (defs_in_alts more) d (names_def e d) (alts_name_def more d) (defs_listed e d) (alts_listed more d)

-- a number is listed where it stands in the list
pub is_contained : (ns : List ℕ) (d : ℕ) → is_listed ns d ≡ true → Contains ns d
is_contained ns d h =
    let found = Any-from_list_any (λ n. n == d) ns h in
    let same : found.1 ≡ d = eqb-true found.1 d found.4 in
    (found.0, found.2, get_or_default ns found.0 d found.1 found.2 ∙ found.3 ∙ same)

pub contained_is : (ns : List ℕ) (d : ℕ) → Contains ns d → is_listed ns d ≡ true
contained_is ns d h = list_any_at (λ n. n == d) ns h.0 d h.1 (eq-eqb (get_or ns h.0 d) d h.2)

module _ {X : Type 0} (f : X → List ℕ) where
  -- a number is listed for one of some items
  listed_for_one : (xs : List X) (d : ℕ) → is_listed (flat_map f xs) d ≡ list_any (λ x. is_listed (f x) d) xs
  listed_for_one [] d = refl
  listed_for_one (x ∷ xs) d = list_any-append (λ n. n == d) (f x) (flat_map f xs) ∙ ap (λ b. is_listed (f x) d || b) (listed_for_one xs d)

  pub listed_at : (xs : List X) (i : ℕ) (x : X) (d : ℕ) → slice_get xs i ≡ Some x → is_listed (f x) d ≡ true → is_listed (flat_map f xs) d ≡ true
  listed_at xs i x d h l = listed_for_one xs d ∙ at_item xs i h
    where
      true_after : (b : Bool) → (b || true) ≡ true
      true_after true = refl
      true_after false = refl

      at_item : (xs : List X) (i : ℕ) → slice_get xs i ≡ Some x → list_any (λ x. is_listed (f x) d) xs ≡ true
      at_item [] i h = absurd (cc)
      at_item (y ∷ ys) zero h = let same : y ≡ x = cc in ap (λ z. is_listed (f z) d || list_any (λ x. is_listed (f x) d) ys) same ∙ ap (λ b. b || list_any (λ x. is_listed (f x) d) ys) l
      at_item (y ∷ ys) (suc i) h = ap (λ b. is_listed (f y) d || b) (at_item ys i h) ∙ true_after (is_listed (f y) d)

  -- and for which
  pub listed_where : (xs : List X) (d : ℕ) → is_listed (flat_map f xs) d ≡ true → (i : ℕ) × (x : X) × (slice_get xs i ≡ Some x) × (is_listed (f x) d ≡ true)
  listed_where xs d h =
      let found = Any-from_list_any (λ x. is_listed (f x) d) xs (sym (listed_for_one xs d) ∙ h) in
      (found.0, found.1, slice_get-get_or xs found.0 found.1 found.2 ∙ ap Some found.3, found.4)
