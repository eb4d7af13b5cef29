-- The made definitions that a term names.
use Rattle.std.proofs.Common.{◌≡◌, ℕ, suc, zero, refl, ap, sym, subst, ◌∙◌, List, [], ◌∷◌, length, map, Some}
use Rattle.std.proofs.lemmas.Option.{slice_get-map}
use Rattle.std.specs.Prelude.{option_map}
use Rattle.std.specs.List.{slice_get}
use Rattle.chw_types.specs.TypeMoves.{Renaming, lift, lift_by}
use Rattle.chw_types.specs.TypeTree.{TypeTree}
use Rattle.chw_types.specs.declared.kind.Kind.{Kind}
use Rattle.chw_terms.specs.TermMoves.{rename, rename_all, rename_alts, rename_group}
use Rattle.chw_terms.specs.TermTree.{Alts, Group, TermTree, Terms, alt, app, bind, binders, case_of, con, global, lam, letrec, lit, made, no_alts, no_bindings, no_terms, prim, size_of, term_and, ty_app, ty_lam, var, vec_lit}
use Rattle.chw_terms.specs.TermView.{applied}
use Rattle.chw_terms.specs.declared.term.Arg.{Arg}
use Rattle.chw_terms.specs.declared.term.Arg.TheVariants.{OfTerm, OfType}
use Rattle.chw_terms.specs.declared.term.Pattern.{Pattern}
use Rattle.chw_typing.proofs.Lists.{found_in_map}
use Rattle.chw_typing.specs.Scopes.{AreTermTypes, IsTermType, Setting}
use Rattle.chw_typing.specs.Typing.{AllGive, AllHave, AreBound, Binds, HasType, bound_and, give_and, h_app, h_case, h_con, h_global, h_lam, h_letrec, h_lit, h_made, h_prim, h_ty_app, h_ty_lam, h_var, h_vec, have_and, none_bound, none_give, none_have}
use Rattle.chw_typing.specs.Given.{types_then}
use Rattle.chw_typing.specs.Finding.{Finds, f_app, f_case, f_con, f_global, f_lam, f_letrec, f_lit, f_made, f_prim, f_ty_app, f_ty_lam, f_var, f_vec}
use Rattle.chw_typing.proofs.PathParts.{way_to}
use Rattle.chw_typing.proofs.PathSpines.{spine_argument}
use Rattle.chw_typing.specs.Paths.{branch_at, child, element_at, part_at, part_of_group}
use Rattle.rewriting.specs.Origins.{under_each, with_origins, with_origins_all, with_origins_alts, with_origins_group}

abbrev mutual
  -- each made definition that the term names is one of these
  pub NamesOnly : (ℕ → Type 0) → TermTree → Type 0
  NamesOnly P (made m) = P m
  NamesOnly P (lam t e) = NamesOnly P e
  NamesOnly P (app f a) = NamesOnly P f × NamesOnly P a
  NamesOnly P (ty_lam k e) = NamesOnly P e
  NamesOnly P (ty_app f t) = NamesOnly P f
  NamesOnly P (letrec g e) = GroupNames P g × NamesOnly P e
  NamesOnly P (vec_lit t es) = AllName P es
  NamesOnly P (case_of e alts) = NamesOnly P e × AltsName P alts
  NamesOnly P _ = Unit {0}

  pub AllName : (ℕ → Type 0) → Terms → Type 0
  AllName P no_terms = Unit {0}
  AllName P (term_and e es) = NamesOnly P e × AllName P es

  pub GroupNames : (ℕ → Type 0) → Group → Type 0
  GroupNames P no_bindings = Unit {0}
  GroupNames P (bind t e g) = NamesOnly P e × GroupNames P g

  pub AltsName : (ℕ → Type 0) → Alts → Type 0
  AltsName P no_alts = Unit {0}
  AltsName P (alt q e more) = NamesOnly P e × AltsName P more

-- a part names no others
element_names : (P : ℕ → Type 0) (es : Terms) (i : ℕ) (c : TermTree) → AllName P es → element_at es i ≡ Some c → NamesOnly P c
element_names P no_terms i c h at = absurd cc
element_names P (term_and e es) zero c h at = let is : e ≡ c = cc in subst (NamesOnly P) is h.0
element_names P (term_and e es) (suc i) c h at = element_names P es i c h.1 at

group_part_names : (P : ℕ → Type 0) (g : Group) (e : TermTree) (i : ℕ) (c : TermTree) → GroupNames P g → NamesOnly P e → part_of_group g e i ≡ Some c → NamesOnly P c
group_part_names P no_bindings e zero c h b at = let is : e ≡ c = cc in subst (NamesOnly P) is b
group_part_names P no_bindings e (suc i) c h b at = absurd cc
group_part_names P (bind t r g) e zero c h b at = let is : r ≡ c = cc in subst (NamesOnly P) is h.0
group_part_names P (bind t r g) e (suc i) c h b at = group_part_names P g e i c h.1 b at

branch_names : (P : ℕ → Type 0) (alts : Alts) (i : ℕ) (c : TermTree) → AltsName P alts → option_map (λ a. a.body) (branch_at alts i) ≡ Some c → NamesOnly P c
branch_names P no_alts i c h at = absurd cc
branch_names P (alt q e more) zero c h at = let is : e ≡ c = cc in subst (NamesOnly P) is h.0
branch_names P (alt q e more) (suc i) c h at = branch_names P more i c h.1 at

child_names : (P : ℕ → Type 0) (e c : TermTree) (i : ℕ) → NamesOnly P e → child e i ≡ Some c → NamesOnly P c
child_names P (lam t e) c zero h at = let is : e ≡ c = cc in subst (NamesOnly P) is h
child_names P (ty_lam k e) c zero h at = let is : e ≡ c = cc in subst (NamesOnly P) is h
child_names P (app f a) c zero h at = let is : f ≡ c = cc in subst (NamesOnly P) is h.0
child_names P (app f a) c (suc zero) h at = let is : a ≡ c = cc in subst (NamesOnly P) is h.1
child_names P (ty_app f t) c zero h at = let is : f ≡ c = cc in subst (NamesOnly P) is h
child_names P (letrec g e) c i h at = group_part_names P g e i c h.0 h.1 at
child_names P (vec_lit t es) c i h at = element_names P es i c h at
child_names P (case_of e alts) c zero h at = let is : e ≡ c = cc in subst (NamesOnly P) is h.0
child_names P (case_of e alts) c (suc i) h at = branch_names P alts i c h.1 at
child_names P _ c _ h at = absurd cc

pub part_names : (path : List ℕ) (P : ℕ → Type 0) (e x : TermTree) → NamesOnly P e → part_at e path ≡ Some x → NamesOnly P x
part_names [] P e x h at = let is : e ≡ x = cc in subst (NamesOnly P) is h
part_names (i ∷ path) P e x h at =
    let way = way_to (child e i) path x at in
    part_names path P way.to x (child_names P e way.to i h way.is) way.part

-- nor do the head of a spine and its arguments
pub core_names : (P : ℕ → Type 0) (e : TermTree) (args : List Arg) → NamesOnly P (applied e args) → NamesOnly P e
core_names P e [] h = h
core_names P e (OfTerm a ∷ args) h = (core_names P (app e a) args h).0
core_names P e (OfType t ∷ args) h = core_names P (ty_app e t) args h

pub argument_names : (P : ℕ → Type 0) (args : List Arg) (e a : TermTree) (i : ℕ) → NamesOnly P (applied e args) → slice_get args i ≡ Some (OfTerm a) → NamesOnly P a
argument_names P args e a i h is = part_names _ P (applied e args) a h (spine_argument args e a i is)

-- the first of some terms behind types
pub behind_types : (types : List TypeTree) (es : List TermTree) (x : TermTree) → slice_get es 0 ≡ Some x → slice_get (types_then types es) (length types) ≡ Some (OfTerm x)
behind_types [] es x h = found_in_map (λ e. OfTerm e) es 0 x h
behind_types (t ∷ types) es x h = behind_types types es x h

-- nor does a term with other variables, below lambdas
mutual
  unfolding rename

  pub renamed_names : (P : ℕ → Type 0) (e : TermTree) (ρ : Renaming) → NamesOnly P e → NamesOnly P (rename e ρ)
  renamed_names P (var x) ρ h = tt
  renamed_names P (global d) ρ h = tt
  renamed_names P (made m) ρ h = h
  renamed_names P (lam t e) ρ h = renamed_names P e (lift ρ) h
  renamed_names P (app f a) ρ h = (renamed_names P f ρ h.0, renamed_names P a ρ h.1)
  renamed_names P (ty_lam k e) ρ h = renamed_names P e ρ h
  renamed_names P (ty_app f t) ρ h = renamed_names P f ρ h
  renamed_names P (letrec g e) ρ h =
      let under = lift_by (size_of g) ρ in
      (renamed_group_names P g under h.0, renamed_names P e under h.1)
  renamed_names P (con c) ρ h = tt
  renamed_names P (prim p) ρ h = tt
  renamed_names P (lit s b) ρ h = tt
  renamed_names P (vec_lit t es) ρ h = renamed_all_names P es ρ h
  renamed_names P (case_of e alts) ρ h = (renamed_names P e ρ h.0, renamed_alts_names P alts ρ h.1)

  renamed_all_names : (P : ℕ → Type 0) (es : Terms) (ρ : Renaming) → AllName P es → AllName P (rename_all es ρ)
  renamed_all_names P no_terms ρ h = tt
  renamed_all_names P (term_and e es) ρ h = (renamed_names P e ρ h.0, renamed_all_names P es ρ h.1)

  renamed_group_names : (P : ℕ → Type 0) (g : Group) (ρ : Renaming) → GroupNames P g → GroupNames P (rename_group g ρ)
  renamed_group_names P no_bindings ρ h = tt
  renamed_group_names P (bind t e g) ρ h = (renamed_names P e ρ h.0, renamed_group_names P g ρ h.1)

  renamed_alts_names : (P : ℕ → Type 0) (alts : Alts) (ρ : Renaming) → AltsName P alts → AltsName P (rename_alts alts ρ)
  renamed_alts_names P no_alts ρ h = tt
  renamed_alts_names P (alt q e more) ρ h = (renamed_names P e (lift_by (binders q) ρ) h.0, renamed_alts_names P more ρ h.1)

pub under_each_names : (P : ℕ → Type 0) (ts : List TypeTree) (e : TermTree) → NamesOnly P e → NamesOnly P (under_each ts e)
under_each_names P [] e h = h
under_each_names P (t ∷ ts) e h = under_each_names P ts e h

-- items of two lists that are the same at these places
abbrev pub Alike : {X : Type 0} → (ℕ → Type 0) → List X → List X → Type 0
Alike P xs ys = (m : ℕ) → P m → slice_get xs m ≡ slice_get ys m

pub turned : {X : Type 0} (P : ℕ → Type 0) (xs ys : List X) → Alike P xs ys → Alike P ys xs
turned P xs ys alike m h = sym (alike m h)

pub mapped_alike : {X Y : Type 0} (f : X → Y) (P : ℕ → Type 0) (xs ys : List X) → Alike P xs ys → Alike P (map f xs) (map f ys)
mapped_alike f P xs ys alike m h = slice_get-map f xs m ∙ ap (option_map f) (alike m h) ∙ sym (slice_get-map f ys m)

-- a typed term names made definitions that are there
mutual
  pub typed_names : {s : Setting} {kinds : List Kind} {vars : List TypeTree} {e : TermTree} {t : TypeTree} → HasType s kinds vars e t → (P : ℕ → Type 0) → ((m : ℕ) (u : TypeTree) → slice_get s.made m ≡ Some u → P m) → NamesOnly P e
  typed_names (h_var e) P h = tt
  typed_names (h_global e) P h = tt
  typed_names (h_made {m = m} {t = t} e) P h = h m t e
  typed_names (h_lam d k) P h = typed_names d P h
  typed_names (h_app d e x) P h = (typed_names d P h, typed_names e P h)
  typed_names (h_ty_lam d) P h = typed_names d P h
  typed_names (h_ty_app d k x l) P h = typed_names d P h
  typed_names (h_letrec d l b) P h = (bound_names b P h, typed_names d P h)
  typed_names (h_con e) P h = tt
  typed_names h_prim P h = tt
  typed_names (h_lit l) P h = tt
  typed_names (h_vec k d) P h = all_have_names d P h
  typed_names (h_case d i j p e k a o n) P h = (typed_names d P h, (typed_names e P h, all_give_names o P h))

  bound_names : {s : Setting} {kinds : List Kind} {vars : List TypeTree} {k : Kind} {g : Group} → AreBound s kinds vars k g → (P : ℕ → Type 0) → ((m : ℕ) (u : TypeTree) → slice_get s.made m ≡ Some u → P m) → GroupNames P g
  bound_names none_bound P h = tt
  bound_names (bound_and j f d x b) P h = (typed_names d P h, bound_names b P h)

  all_have_names : {s : Setting} {kinds : List Kind} {vars : List TypeTree} {t : TypeTree} {es : Terms} → AllHave s kinds vars t es → (P : ℕ → Type 0) → ((m : ℕ) (u : TypeTree) → slice_get s.made m ≡ Some u → P m) → AllName P es
  all_have_names none_have P h = tt
  all_have_names (have_and d x ds) P h = (typed_names d P h, all_have_names ds P h)

  all_give_names : {s : Setting} {kinds : List Kind} {vars : List TypeTree} {u t : TypeTree} {alts : Alts} → AllGive s kinds vars u t alts → (P : ℕ → Type 0) → ((m : ℕ) (u : TypeTree) → slice_get s.made m ≡ Some u → P m) → AltsName P alts
  all_give_names none_give P h = tt
  all_give_names (give_and p d x ds) P h = (typed_names d P h, all_give_names ds P h)

-- with made definitions of other types in the setting
abbrev pub with_types : Setting → List TypeTree → Setting
with_types s ts = record s { made = ts }

term_type_there : (s : Setting) (ts : List TypeTree) (kinds : List Kind) (t : TypeTree) → IsTermType s kinds t → IsTermType (with_types s ts) kinds t
term_type_there s ts kinds t h = record { kind = h.kind; has = h.has; of_terms = h.of_terms }

pub term_types_there : (s : Setting) (ts : List TypeTree) (kinds : List Kind) (us : List TypeTree) → AreTermTypes s kinds us → AreTermTypes (with_types s ts) kinds us
term_types_there s ts kinds [] h = tt
term_types_there s ts kinds (u ∷ us) h = (term_type_there s ts kinds u h.0, term_types_there s ts kinds us h.1)

binds_there : (s : Setting) (ts : List TypeTree) (kinds : List Kind) (u : TypeTree) (q : Pattern) (bound : List TypeTree) → Binds s kinds u q bound → Binds (with_types s ts) kinds u q bound
binds_there s ts kinds u q bound b = record { fields = b.fields; pattern = b.pattern; same = b.same; typed = term_types_there s ts kinds bound b.typed }

-- a term keeps its type where those that it names are the same
mutual
  pub typed_there : {s : Setting} {kinds : List Kind} {vars : List TypeTree} {e : TermTree} {t : TypeTree} → HasType s kinds vars e t → (ts : List TypeTree) (P : ℕ → Type 0) → Alike P s.made ts → NamesOnly P e → HasType (with_types s ts) kinds vars e t
  typed_there (h_var e) ts P same h = h_var e
  typed_there (h_global e) ts P same h = h_global e
  typed_there (h_made {m = m} e) ts P same h = h_made (sym (same m h) ∙ e)
  typed_there (h_lam d k) ts P same h = h_lam (typed_there d ts P same h) k
  typed_there (h_app d e x) ts P same h = h_app (typed_there d ts P same h.0) (typed_there e ts P same h.1) x
  typed_there (h_ty_lam d) ts P same h = h_ty_lam (typed_there d ts P same h)
  typed_there (h_ty_app d k x l) ts P same h = h_ty_app (typed_there d ts P same h) k x l
  typed_there (h_letrec d l b) ts P same h = h_letrec (typed_there d ts P same h.1) l (bound_there b ts P same h.0)
  typed_there (h_con e) ts P same h = h_con e
  typed_there h_prim ts P same h = h_prim
  typed_there (h_lit l) ts P same h = h_lit l
  typed_there {s} {kinds} (h_vec {t = t} k d) ts P same h = h_vec (term_type_there s ts kinds t k) (all_have_there d ts P same h)
  typed_there {s} {kinds} (h_case {bound = bound} {q = q} {u = u} d i j p e k a o n) ts P same h =
      h_case (typed_there d ts P same h.0) i j (binds_there s ts kinds u q bound p) (typed_there e ts P same h.1.0) k a (all_give_there o ts P same h.1.1) n

  bound_there : {s : Setting} {kinds : List Kind} {vars : List TypeTree} {k : Kind} {g : Group} → AreBound s kinds vars k g → (ts : List TypeTree) (P : ℕ → Type 0) → Alike P s.made ts → GroupNames P g → AreBound (with_types s ts) kinds vars k g
  bound_there none_bound ts P same h = none_bound
  bound_there (bound_and j f d x b) ts P same h = bound_and j f (typed_there d ts P same h.0) x (bound_there b ts P same h.1)

  all_have_there : {s : Setting} {kinds : List Kind} {vars : List TypeTree} {t : TypeTree} {es : Terms} → AllHave s kinds vars t es → (ts : List TypeTree) (P : ℕ → Type 0) → Alike P s.made ts → AllName P es → AllHave (with_types s ts) kinds vars t es
  all_have_there none_have ts P same h = none_have
  all_have_there (have_and d x ds) ts P same h = have_and (typed_there d ts P same h.0) x (all_have_there ds ts P same h.1)

  all_give_there : {s : Setting} {kinds : List Kind} {vars : List TypeTree} {u t : TypeTree} {alts : Alts} → AllGive s kinds vars u t alts → (ts : List TypeTree) (P : ℕ → Type 0) → Alike P s.made ts → AltsName P alts → AllGive (with_types s ts) kinds vars u t alts
  all_give_there none_give ts P same h = none_give
  all_give_there {s} {kinds} {u = u} (give_and {bound = bound} {q = q} p d x ds) ts P same h =
      give_and (binds_there s ts kinds u q bound p) (typed_there d ts P same h.0) x (all_give_there ds ts P same h.1)

-- and the same type is found for it
pub found_there : {s : Setting} {kinds : List Kind} {vars : List TypeTree} {e : TermTree} {t : TypeTree} → Finds s kinds vars e t → (ts : List TypeTree) (P : ℕ → Type 0) → Alike P s.made ts → NamesOnly P e → Finds (with_types s ts) kinds vars e t
found_there (f_var e) ts P same h = f_var e
found_there (f_global e) ts P same h = f_global e
found_there (f_made {m = m} e) ts P same h = f_made (sym (same m h) ∙ e)
found_there (f_lam f k) ts P same h = f_lam (found_there f ts P same h) k
found_there (f_app f g x) ts P same h = f_app (found_there f ts P same h.0) (found_there g ts P same h.1) x
found_there (f_ty_lam f) ts P same h = f_ty_lam (found_there f ts P same h)
found_there (f_ty_app f k s l) ts P same h = f_ty_app (found_there f ts P same h) k s l
found_there (f_letrec f k b) ts P same h = f_letrec (found_there f ts P same h.1) k (bound_there b ts P same h.0)
found_there (f_con e) ts P same h = f_con e
found_there f_prim ts P same h = f_prim
found_there (f_lit l) ts P same h = f_lit l
found_there {s} {kinds} (f_vec {t = t} k d) ts P same h = f_vec (term_type_there s ts kinds t k) (all_have_there d ts P same h)
found_there {s} {kinds} (f_case {bound = bound} f l k p m a g x y o n) ts P same h =
    f_case (found_there f ts P same h.0) l k p m (term_types_there s ts kinds bound a) (found_there g ts P same h.1.0) x y (all_give_there o ts P same h.1.1) n

-- and a term with terms for made definitions is the same
mutual
  unfolding with_origins

  pub put_alike : (f g : ℕ → TermTree) (P : ℕ → Type 0) → ((m : ℕ) → P m → f m ≡ g m) → (e : TermTree) → NamesOnly P e → with_origins f e ≡ with_origins g e
  put_alike f g P same (var x) h = refl
  put_alike f g P same (global d) h = refl
  put_alike f g P same (made m) h = same m h
  put_alike f g P same (lam t e) h = ap (lam t) (put_alike f g P same e h)
  put_alike f g P same (app a b) h = λ i. app (put_alike f g P same a h.0 i) (put_alike f g P same b h.1 i)
  put_alike f g P same (ty_lam k e) h = ap (ty_lam k) (put_alike f g P same e h)
  put_alike f g P same (ty_app a t) h = ap (λ a. ty_app a t) (put_alike f g P same a h)
  put_alike f g P same (letrec b e) h = λ i. letrec (put_alike_group f g P same b h.0 i) (put_alike f g P same e h.1 i)
  put_alike f g P same (con c) h = refl
  put_alike f g P same (prim q) h = refl
  put_alike f g P same (lit s b) h = refl
  put_alike f g P same (vec_lit t es) h = ap (vec_lit t) (put_alike_all f g P same es h)
  put_alike f g P same (case_of e alts) h = λ i. case_of (put_alike f g P same e h.0 i) (put_alike_alts f g P same alts h.1 i)

  put_alike_all : (f g : ℕ → TermTree) (P : ℕ → Type 0) → ((m : ℕ) → P m → f m ≡ g m) → (es : Terms) → AllName P es → with_origins_all f es ≡ with_origins_all g es
  put_alike_all f g P same no_terms h = refl
  put_alike_all f g P same (term_and e es) h = λ i. term_and (put_alike f g P same e h.0 i) (put_alike_all f g P same es h.1 i)

  put_alike_group : (f g : ℕ → TermTree) (P : ℕ → Type 0) → ((m : ℕ) → P m → f m ≡ g m) → (b : Group) → GroupNames P b → with_origins_group f b ≡ with_origins_group g b
  put_alike_group f g P same no_bindings h = refl
  put_alike_group f g P same (bind t e b) h = λ i. bind t (put_alike f g P same e h.0 i) (put_alike_group f g P same b h.1 i)

  put_alike_alts : (f g : ℕ → TermTree) (P : ℕ → Type 0) → ((m : ℕ) → P m → f m ≡ g m) → (alts : Alts) → AltsName P alts → with_origins_alts f alts ≡ with_origins_alts g alts
  put_alike_alts f g P same no_alts h = refl
  put_alike_alts f g P same (alt q e more) h = λ i. alt q (put_alike f g P same e h.0 i) (put_alike_alts f g P same more h.1 i)
