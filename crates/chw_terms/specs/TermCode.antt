-- How the logic stores a term: as a tree of numbers, which gives it back.
use Rattle.std.specs.Prelude.{◌≡◌, ℕ, suc, zero, Bool, List, refl}
use Rattle.std.proofs.Common.{sym, ap, ◌∙◌}
use Rattle.std.specs.Coded.{Coded}
use base.Stored.{Gv, gnil, gnum, gcons}
use Rattle.chw_bits.specs.BitsCode.{bits_code, bits_back, bits_same}
use Rattle.chw_types.specs.TypeTree.{TypeTree}
use Rattle.chw_types.specs.TypeCode.{kind_number, kind_at, kind_back, scalar_number, scalar_at, scalar_back, number_in, node, tree_code as type_code, tree_back as type_back, tree_same as type_same}
use Rattle.chw_terms.specs.PrimCode.{prim_number, prim_at, prim_back}
use Rattle.chw_terms.specs.TermTree.{TermTree, var, global, made, lam, app, ty_lam, ty_app, letrec, con, prim, lit, vec_lit, case_of, Terms, no_terms, term_and, Group, no_bindings, bind, Alts, no_alts, alt}
use Rattle.chw_terms.specs.declared.term.Pattern.{Pattern}
use Rattle.chw_terms.specs.declared.term.Pattern.TheVariants.{OfCon, OfLit, Default}

abbrev pub pattern_code : Pattern → Gv
pattern_code (OfCon c n) = node 0 (gnum c.number) (gnum n)
pattern_code (OfLit s bs) = node 1 (gnum (scalar_number s)) (bits_code bs)
pattern_code Default = gnil

-- the pattern with this tag, of what its parts give
abbrev pub pattern_at : ℕ → (c n : ℕ) → List Bool → Pattern
pattern_at zero c n bs = OfCon (record { number = c }) n
pattern_at (suc k) c n bs = OfLit (scalar_at c) bs

abbrev pub pattern_back : Gv → Pattern
pattern_back (gcons tag (gcons a b)) = pattern_at (number_in tag) (number_in a) (number_in b) (bits_back b)
pattern_back _ = Default

pub pattern_same : (q : Pattern) → pattern_back (pattern_code q) ≡ q
pattern_same (OfCon c n) = refl
pattern_same (OfLit s bs) = λ i. OfLit (scalar_back s i) (bits_same bs i)
pattern_same Default = refl

abbrev mutual
  pub tree_code : TermTree → Gv
  tree_code (var x) = node 0 (gnum x) gnil
  tree_code (global d) = node 1 (gnum d) gnil
  tree_code (made m) = node 2 (gnum m) gnil
  tree_code (lam t e) = node 3 (type_code t) (tree_code e)
  tree_code (app f a) = node 4 (tree_code f) (tree_code a)
  tree_code (ty_lam k e) = node 5 (gnum (kind_number k)) (tree_code e)
  tree_code (ty_app f t) = node 6 (type_code t) (tree_code f)
  tree_code (letrec g e) = node 7 (group_code g) (tree_code e)
  tree_code (con c) = node 8 (gnum c) gnil
  tree_code (prim p) = node 9 (gnum (prim_number p)) gnil
  tree_code (lit s bs) = node 10 (gnum (scalar_number s)) (bits_code bs)
  tree_code (vec_lit t es) = node 11 (type_code t) (terms_code es)
  tree_code (case_of s alts) = node 12 (alts_code alts) (tree_code s)

  pub terms_code : Terms → Gv
  terms_code no_terms = gnil
  terms_code (term_and e es) = gcons (tree_code e) (terms_code es)

  pub group_code : Group → Gv
  group_code no_bindings = gnil
  group_code (bind t e g) = gcons (type_code t) (gcons (tree_code e) (group_code g))

  pub alts_code : Alts → Gv
  alts_code no_alts = gnil
  alts_code (alt q e more) = gcons (pattern_code q) (gcons (tree_code e) (alts_code more))

-- the term with this tag, of what its first part gives as a number, a type, a term, a group and alternatives, and its second part
-- as a term, as terms and as bits
abbrev pub tree_at : ℕ → (n : ℕ) (t : TypeTree) (a : TermTree) (g : Group) (alts : Alts) (e : TermTree) (es : Terms) (bs : List Bool) → TermTree
tree_at zero n t a g alts e es bs = var n
tree_at (suc zero) n t a g alts e es bs = global n
tree_at (suc (suc zero)) n t a g alts e es bs = made n
tree_at (suc (suc (suc zero))) n t a g alts e es bs = lam t e
tree_at (suc (suc (suc (suc zero)))) n t a g alts e es bs = app a e
tree_at (suc (suc (suc (suc (suc zero))))) n t a g alts e es bs = ty_lam (kind_at n) e
tree_at (suc (suc (suc (suc (suc (suc zero)))))) n t a g alts e es bs = ty_app e t
tree_at (suc (suc (suc (suc (suc (suc (suc zero))))))) n t a g alts e es bs = letrec g e
tree_at (suc (suc (suc (suc (suc (suc (suc (suc zero)))))))) n t a g alts e es bs = con n
tree_at (suc (suc (suc (suc (suc (suc (suc (suc (suc zero))))))))) n t a g alts e es bs = prim (prim_at n)
tree_at (suc (suc (suc (suc (suc (suc (suc (suc (suc (suc zero)))))))))) n t a g alts e es bs = lit (scalar_at n) bs
tree_at (suc (suc (suc (suc (suc (suc (suc (suc (suc (suc (suc zero))))))))))) n t a g alts e es bs = vec_lit t es
tree_at (suc (suc (suc (suc (suc (suc (suc (suc (suc (suc (suc (suc k)))))))))))) n t a g alts e es bs = case_of e alts

abbrev mutual
  pub tree_back : Gv → TermTree
  tree_back (gcons tag (gcons a b)) =
      tree_at (number_in tag) (number_in a) (type_back a) (tree_back a) (group_back a) (alts_back a) (tree_back b) (terms_back b) (bits_back b)
  tree_back _ = var 0

  pub terms_back : Gv → Terms
  terms_back (gcons e es) = term_and (tree_back e) (terms_back es)
  terms_back _ = no_terms

  pub group_back : Gv → Group
  group_back (gcons t (gcons e g)) = bind (type_back t) (tree_back e) (group_back g)
  group_back _ = no_bindings

  pub alts_back : Gv → Alts
  alts_back (gcons q (gcons e more)) = alt (pattern_back q) (tree_back e) (alts_back more)
  alts_back _ = no_alts

mutual
  pub tree_same : (e : TermTree) → tree_back (tree_code e) ≡ e
  tree_same (var x) = refl
  tree_same (global d) = refl
  tree_same (made m) = refl
  tree_same (lam t e) = λ i. lam (type_same t i) (tree_same e i)
  tree_same (app f a) = λ i. app (tree_same f i) (tree_same a i)
  tree_same (ty_lam k e) = λ i. ty_lam (kind_back k i) (tree_same e i)
  tree_same (ty_app f t) = λ i. ty_app (tree_same f i) (type_same t i)
  tree_same (letrec g e) = λ i. letrec (group_same g i) (tree_same e i)
  tree_same (con c) = refl
  tree_same (prim p) = λ i. prim (prim_back p i)
  tree_same (lit s bs) = λ i. lit (scalar_back s i) (bits_same bs i)
  tree_same (vec_lit t es) = λ i. vec_lit (type_same t i) (terms_same es i)
  tree_same (case_of s alts) = λ i. case_of (tree_same s i) (alts_same alts i)

  pub terms_same : (es : Terms) → terms_back (terms_code es) ≡ es
  terms_same no_terms = refl
  terms_same (term_and e es) = λ i. term_and (tree_same e i) (terms_same es i)

  pub group_same : (g : Group) → group_back (group_code g) ≡ g
  group_same no_bindings = refl
  group_same (bind t e g) = λ i. bind (type_same t i) (tree_same e i) (group_same g i)

  pub alts_same : (alts : Alts) → alts_back (alts_code alts) ≡ alts
  alts_same no_alts = refl
  alts_same (alt q e more) = λ i. alt (pattern_same q i) (tree_same e i) (alts_same more i)

abbrev pub coded_tree : Coded TermTree
coded_tree = record { code = tree_code; inj = λ x y p. sym (tree_same x) ∙ (ap tree_back p ∙ tree_same y) }
