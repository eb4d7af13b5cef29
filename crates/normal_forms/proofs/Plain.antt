-- What holds of the parts of a term, by recursion over the term; and a term that declares wires alone.
use Rattle.std.proofs.Common.{◌≡◌, ◌⊎◌, ℕ, suc, zero, ap, subst, List, [], ◌∷◌, map, Some}
use Rattle.std.specs.List.{AllByRecursion}
use Rattle.std.specs.Prelude.{option_map}
use Rattle.chw_types.specs.declared.declarations.Data.{Data}
use Rattle.type_ports.specs.Ports.{IsPort}
use Rattle.type_ports.specs.Representable.{Representable}
use Rattle.chw_types.specs.TypeMoves.{Renaming}
use Rattle.chw_types.specs.TypeTree.{TypeTree}
use Rattle.chw_terms.specs.declared.term.Arg.TheVariants.{OfTerm}
use Rattle.chw_terms.specs.TermTree.{TermTree, var, global, made, lam, app, ty_lam, ty_app, letrec, con, prim, lit, vec_lit, case_of, Terms, no_terms, term_and, Group, no_bindings, bind, Alts, no_alts, alt}
use Rattle.chw_terms.specs.TermView.{applied, terms_of}
use Rattle.chw_terms.specs.TypesMoved.{rename_types, rename_types_all, rename_types_group, rename_types_alts}
use Rattle.chw_typing.specs.Given.{types_then}
use Rattle.chw_typing.specs.Paths.{child, Branch, element_at, part_of_group, branch_at, part_at}
use Rattle.chw_typing.proofs.PathParts.{way_to}
use Rattle.normal_forms.specs.Parts.{declared_by, IsTypeLambda, LooksAtVariable, HasClosedTypes}
use Rattle.normal_forms.specs.Values.{on_names}

abbrev mutual
  pub AllParts : (TermTree → Type 0) → TermTree → Type 0
  AllParts P (lam t e) = P (lam t e) × AllParts P e
  AllParts P (app f a) = P (app f a) × (AllParts P f × AllParts P a)
  AllParts P (ty_lam k e) = P (ty_lam k e) × AllParts P e
  AllParts P (ty_app f t) = P (ty_app f t) × AllParts P f
  AllParts P (letrec g e) = P (letrec g e) × (AllOfGroup P g × AllParts P e)
  AllParts P (vec_lit t es) = P (vec_lit t es) × AllOfTerms P es
  AllParts P (case_of e alts) = P (case_of e alts) × (AllParts P e × AllOfAlts P alts)
  AllParts P (var x) = P (var x)
  AllParts P (global d) = P (global d)
  AllParts P (made m) = P (made m)
  AllParts P (con c) = P (con c)
  AllParts P (prim p) = P (prim p)
  AllParts P (lit s b) = P (lit s b)

  pub AllOfTerms : (TermTree → Type 0) → Terms → Type 0
  AllOfTerms P no_terms = Unit {0}
  AllOfTerms P (term_and e es) = AllParts P e × AllOfTerms P es

  pub AllOfGroup : (TermTree → Type 0) → Group → Type 0
  AllOfGroup P no_bindings = Unit {0}
  AllOfGroup P (bind t e g) = AllParts P e × AllOfGroup P g

  pub AllOfAlts : (TermTree → Type 0) → Alts → Type 0
  AllOfAlts P no_alts = Unit {0}
  AllOfAlts P (alt q e more) = AllParts P e × AllOfAlts P more

the_term : (P : TermTree → Type 0) (e : TermTree) → AllParts P e → P e
the_term P (lam t e) h = h.0
the_term P (app f a) h = h.0
the_term P (ty_lam k e) h = h.0
the_term P (ty_app f t) h = h.0
the_term P (letrec g e) h = h.0
the_term P (vec_lit t es) h = h.0
the_term P (case_of e alts) h = h.0
the_term P (var x) h = h
the_term P (global d) h = h
the_term P (made m) h = h
the_term P (con c) h = h
the_term P (prim p) h = h
the_term P (lit s b) h = h

pub element_holds : (P : TermTree → Type 0) (es : Terms) (i : ℕ) (c : TermTree) → AllOfTerms P es → element_at es i ≡ Some c → AllParts P c
element_holds P no_terms i c h is = absurd cc
element_holds P (term_and e es) zero c h is = let same : e ≡ c = cc in subst (AllParts P) same h.0
element_holds P (term_and e es) (suc i) c h is = element_holds P es i c h.1 is

pub side_holds : (P : TermTree → Type 0) (g : Group) (b : TermTree) (i : ℕ) (c : TermTree) → AllOfGroup P g → AllParts P b → part_of_group g b i ≡ Some c → AllParts P c
side_holds P no_bindings b zero c h k is = let same : b ≡ c = cc in subst (AllParts P) same k
side_holds P no_bindings b (suc i) c h k is = absurd cc
side_holds P (bind t e g) b zero c h k is = let same : e ≡ c = cc in subst (AllParts P) same h.0
side_holds P (bind t e g) b (suc i) c h k is = side_holds P g b i c h.1 k is

pub branch_holds : (P : TermTree → Type 0) (alts : Alts) (i : ℕ) (c : TermTree) → AllOfAlts P alts → option_map (λ a. a.body) (branch_at alts i) ≡ Some c → AllParts P c
branch_holds P no_alts i c h is = absurd cc
branch_holds P (alt q e more) zero c h is = let same : e ≡ c = cc in subst (AllParts P) same h.0
branch_holds P (alt q e more) (suc i) c h is = branch_holds P more i c h.1 is

pub alternative_holds : (P : TermTree → Type 0) (alts : Alts) (i : ℕ) (a : Branch) → AllOfAlts P alts → branch_at alts i ≡ Some a → AllParts P a.body
alternative_holds P alts i a h is = branch_holds P alts i a.body h (ap (option_map (λ (b : Branch). b.body)) is)

child_holds : (P : TermTree → Type 0) (e c : TermTree) (i : ℕ) → AllParts P e → child e i ≡ Some c → AllParts P c
child_holds P (lam t e) c zero h is = let same : e ≡ c = cc in subst (AllParts P) same h.1
child_holds P (ty_lam k e) c zero h is = let same : e ≡ c = cc in subst (AllParts P) same h.1
child_holds P (app f a) c zero h is = let same : f ≡ c = cc in subst (AllParts P) same h.1.0
child_holds P (app f a) c (suc zero) h is = let same : a ≡ c = cc in subst (AllParts P) same h.1.1
child_holds P (ty_app f t) c zero h is = let same : f ≡ c = cc in subst (AllParts P) same h.1
child_holds P (letrec g e) c i h is = side_holds P g e i c h.1.0 h.1.1 is
child_holds P (vec_lit t es) c i h is = element_holds P es i c h.1 is
child_holds P (case_of e alts) c zero h is = let same : e ≡ c = cc in subst (AllParts P) same h.1.0
child_holds P (case_of e alts) c (suc i) h is = branch_holds P alts i c h.1.1 is
child_holds P _ c _ h is = absurd cc

-- the part at a path
pub part_holds : (P : TermTree → Type 0) (path : List ℕ) (e x : TermTree) → AllParts P e → part_at e path ≡ Some x → P x
part_holds P [] e x h is = let same : e ≡ x = cc in subst P same (the_term P e h)
part_holds P (i ∷ path) e x h is =
    let way = way_to (child e i) path x is in
    part_holds P path way.to x (child_holds P e way.to i h way.is) way.part

-- the closed types of a term are those of its parts, where no type variable is bound
element_closed : (es : Terms) (i : ℕ) (c : TermTree) (ρ : Renaming) → rename_types_all es ρ ≡ es → element_at es i ≡ Some c → rename_types c ρ ≡ c
unfolding rename_types
element_closed no_terms i c ρ h is = absurd cc
element_closed (term_and e es) zero c ρ h is = let same : e ≡ c = cc in let first : rename_types e ρ ≡ e = cc in subst (λ x. rename_types x ρ ≡ x) same first
element_closed (term_and e es) (suc i) c ρ h is = let more : rename_types_all es ρ ≡ es = cc in element_closed es i c ρ more is

side_closed : (g : Group) (b : TermTree) (i : ℕ) (c : TermTree) (ρ : Renaming) → rename_types_group g ρ ≡ g → rename_types b ρ ≡ b → part_of_group g b i ≡ Some c → rename_types c ρ ≡ c
unfolding rename_types
side_closed no_bindings b zero c ρ h k is = let same : b ≡ c = cc in subst (λ x. rename_types x ρ ≡ x) same k
side_closed no_bindings b (suc i) c ρ h k is = absurd cc
side_closed (bind t e g) b zero c ρ h k is = let same : e ≡ c = cc in let first : rename_types e ρ ≡ e = cc in subst (λ x. rename_types x ρ ≡ x) same first
side_closed (bind t e g) b (suc i) c ρ h k is = let more : rename_types_group g ρ ≡ g = cc in side_closed g b i c ρ more k is

branch_closed : (alts : Alts) (i : ℕ) (c : TermTree) (ρ : Renaming) → rename_types_alts alts ρ ≡ alts → option_map (λ a. a.body) (branch_at alts i) ≡ Some c → rename_types c ρ ≡ c
unfolding rename_types
branch_closed no_alts i c ρ h is = absurd cc
branch_closed (alt q e more) zero c ρ h is = let same : e ≡ c = cc in let first : rename_types e ρ ≡ e = cc in subst (λ x. rename_types x ρ ≡ x) same first
branch_closed (alt q e more) (suc i) c ρ h is = let rest : rename_types_alts more ρ ≡ more = cc in branch_closed more i c ρ rest is

child_closed : (e c : TermTree) (i : ℕ) (ρ : Renaming) → (IsTypeLambda e → ⊥) → rename_types e ρ ≡ e → child e i ≡ Some c → rename_types c ρ ≡ c
unfolding rename_types
child_closed (lam t e) c zero ρ n h is = let same : e ≡ c = cc in let one : rename_types e ρ ≡ e = cc in subst (λ x. rename_types x ρ ≡ x) same one
child_closed (ty_lam k e) c i ρ n h is = absurd (n tt)
child_closed (app f a) c zero ρ n h is = let same : f ≡ c = cc in let one : rename_types f ρ ≡ f = cc in subst (λ x. rename_types x ρ ≡ x) same one
child_closed (app f a) c (suc zero) ρ n h is = let same : a ≡ c = cc in let one : rename_types a ρ ≡ a = cc in subst (λ x. rename_types x ρ ≡ x) same one
child_closed (ty_app f t) c zero ρ n h is = let same : f ≡ c = cc in let one : rename_types f ρ ≡ f = cc in subst (λ x. rename_types x ρ ≡ x) same one
child_closed (letrec g e) c i ρ n h is = let group : rename_types_group g ρ ≡ g = cc in let body : rename_types e ρ ≡ e = cc in side_closed g e i c ρ group body is
child_closed (vec_lit t es) c i ρ n h is = let all : rename_types_all es ρ ≡ es = cc in element_closed es i c ρ all is
child_closed (case_of e alts) c zero ρ n h is = let same : e ≡ c = cc in let one : rename_types e ρ ≡ e = cc in subst (λ x. rename_types x ρ ≡ x) same one
child_closed (case_of e alts) c (suc i) ρ n h is = let all : rename_types_alts alts ρ ≡ alts = cc in branch_closed alts i c ρ all is
child_closed _ c _ ρ n h is = absurd cc

-- representable, or a port
abbrev pub IsWire : List Data → TypeTree → Type 0
IsWire datas t = Representable datas t ⊎ IsPort datas t

-- a term that declares wires alone, and is neither a type lambda nor a case but on a variable
pub record IsPlain (datas : List Data) (x : TermTree) : Type 0 where
  pub wires : AllByRecursion (IsWire datas) (declared_by x)
  pub no_type_lambda : IsTypeLambda x → ⊥
  pub looks : LooksAtVariable x

pub part_closed : (datas : List Data) (path : List ℕ) (e x : TermTree) → AllParts (IsPlain datas) e → HasClosedTypes e → part_at e path ≡ Some x → HasClosedTypes x
part_closed datas [] e x h closed is = let same : e ≡ x = cc in subst HasClosedTypes same closed
part_closed datas (i ∷ path) e x h closed is =
    let way = way_to (child e i) path x is in
    part_closed datas path way.to x (child_holds (IsPlain datas) e way.to i h way.is)
    (λ ρ. child_closed e way.to i ρ (the_term (IsPlain datas) e h).no_type_lambda (closed ρ) way.is) way.part

-- spines
pub plain_var : (datas : List Data) (x : ℕ) → IsPlain datas (var x)
plain_var datas x = record { wires = tt; no_type_lambda = λ h. h; looks = tt }

plain_app : (datas : List Data) (f a : TermTree) → IsPlain datas (app f a)
plain_app datas f a = record { wires = tt; no_type_lambda = λ h. h; looks = tt }

plain_ty_app : (datas : List Data) (f : TermTree) (t : TypeTree) → IsPlain datas (ty_app f t)
plain_ty_app datas f t = record { wires = tt; no_type_lambda = λ h. h; looks = tt }

abbrev pub ArePlain : List Data → List TermTree → Type 0
ArePlain datas es = AllByRecursion (AllParts (IsPlain datas)) es

on_terms_plain : (datas : List Data) (es : List TermTree) (e : TermTree) → AllParts (IsPlain datas) e → ArePlain datas es → AllParts (IsPlain datas) (applied e (map (λ a. OfTerm a) es))
on_terms_plain datas [] e h all = h
on_terms_plain datas (a ∷ es) e h all = on_terms_plain datas es (app e a) (plain_app datas e a, (h, all.0)) all.1

pub spine_plain : (datas : List Data) (types : List TypeTree) (es : List TermTree) (e : TermTree) → AllParts (IsPlain datas) e → ArePlain datas es → AllParts (IsPlain datas) (applied e (types_then types es))
spine_plain datas [] es e h all = on_terms_plain datas es e h all
spine_plain datas (t ∷ types) es e h all = spine_plain datas types es (ty_app e t) (plain_ty_app datas e t, h) all

names_plain : (datas : List Data) (xs : List ℕ) → ArePlain datas (map (λ x. var x) xs)
names_plain datas [] = tt
names_plain datas (x ∷ xs) = (plain_var datas x, names_plain datas xs)

pub on_names_plain : (datas : List Data) (types : List TypeTree) (xs : List ℕ) (e : TermTree) → AllParts (IsPlain datas) e → AllParts (IsPlain datas) (on_names e types xs)
on_names_plain datas types xs e h = spine_plain datas types (map (λ x. var x) xs) e h (names_plain datas xs)

pub terms_plain : (datas : List Data) (es : List TermTree) → ArePlain datas es → AllOfTerms (IsPlain datas) (terms_of es)
terms_plain datas [] all = tt
terms_plain datas (e ∷ es) all = (all.0, terms_plain datas es all.1)

pub vector_names_plain : (datas : List Data) (xs : List ℕ) → AllOfTerms (IsPlain datas) (terms_of (map (λ x. var x) xs))
vector_names_plain datas xs = terms_plain datas (map (λ x. var x) xs) (names_plain datas xs)
