-- What a step below a term reads of it: the step is also below each term that is alike there.
use Rattle.std.proofs.Common.{◌≡◌, ◌∙◌, ◌≤◌, ℕ, suc, refl, sym, ap, subst, true, false}
use Rattle.std.proofs.Common.{List, [], ◌∷◌, length, Some}
use Rattle.std.specs.List.{slice_get}
use Rattle.std.specs.Prelude.{option_map}
use Rattle.chw_types.specs.TypeTree.{TypeTree}
use Rattle.chw_prims.specs.Schemas.{schema_type}
use Rattle.chw_terms.specs.declared.scene.Mode.TheVariants.{K}
use Rattle.chw_terms.specs.declared.term.Arg.{Arg}
use Rattle.chw_terms.specs.declared.term.Arg.TheVariants.{OfTerm, OfType}
use Rattle.chw_terms.specs.TermTree.{TermTree, letrec, con, prim, vec_lit, case_of}
use Rattle.chw_terms.specs.TermTree.{Terms, Group, Alts, size_of}
use Rattle.chw_terms.specs.TermView.{applied}
use Rattle.chw_typing.specs.Scopes.{declared, with_more}
use Rattle.chw_typing.specs.Groups.{binding_at, patterns}
use Rattle.chw_typing.specs.Paths.{argument_path, Branch, element_at, part_of_group}
use Rattle.rewriting.specs.Named.{IsNamed}
use Rattle.rewriting.specs.Origins.{Origins}
use Rattle.rewriting.specs.Active.{Below, right_side, let_body, constant_body, scrutinee}
use Rattle.rewriting.specs.Active.{branch, of_constructor, of_words, of_element, of_vector}
use Rattle.rewriting.specs.Active.{demanded, begins}
use Rattle.rewriting.specs.Spots.{Spot, spot, HasLets, asked_for, head_mode, scrutinee_mode}
use Rattle.rewriting.proofs.Parts.{body_at, side_at}
use Rattle.rewriting.proofs.Spines.{args_applied, args_of, head_applied, head_of}
use Rattle.step_order.proofs.Others.{binding_of, branch_body, branch_of, mode_of_patterns}
use Rattle.step_order.proofs.Others.{size_declared}

-- a step to a right side or to the body of a letrec reads the declared types
abbrev pub MovesInLet : Origins → Spot → Group → ℕ → Spot → Type 0
MovesInLet o at g i at' =
    (h : Group) (f y : TermTree) → declared h ≡ declared g → part_of_group h f i ≡ Some y
    → Below o at (letrec h f) (i ∷ []) at' y

pub data InLet (o : Origins) (at : Spot) (g : Group) (e : TermTree)
    : List ℕ → Spot → TermTree → Type 0 where
  in_let : {i : ℕ} {at' : Spot} {x : TermTree}
      → part_of_group g e i ≡ Some x → MovesInLet o at g i at'
      → InLet o at g e (i ∷ []) at' x

-- a step to a scrutinee or to an alternative reads the scrutinee and the patterns
pub data InCase (o : Origins) (at : Spot) (s : TermTree) (alts : Alts)
    : List ℕ → Spot → TermTree → Type 0 where
  in_scrutinee : {at' : Spot}
      → at' ≡ spot (scrutinee_mode o.program.datas at.mode alts) false at.vars
      → ((more : Alts) → patterns more ≡ patterns alts
      → Below o at (case_of s more) (0 ∷ []) at' s)
      → InCase o at s alts (0 ∷ []) at' s
  in_branch : {i : ℕ} {at' : Spot} {x : TermTree}
      → branch_body alts i ≡ Some x
      → ((more : Alts) (y : TermTree) → patterns more ≡ patterns alts
      → branch_body more i ≡ Some y → Below o at (case_of s more) (suc i ∷ []) at' y)
      → InCase o at s alts (suc i ∷ []) at' x

-- a step to an element reads nothing
pub data InVector (o : Origins) (at : Spot) (t : TypeTree) (es : Terms)
    : List ℕ → Spot → TermTree → Type 0 where
  in_vector : {i : ℕ} {at' : Spot} {x : TermTree}
      → element_at es i ≡ Some x
      → ((fs : Terms) (y : TermTree) → element_at fs i ≡ Some y
      → Below o at (vec_lit t fs) (i ∷ []) at' y)
      → InVector o at t es (i ∷ []) at' x

-- as many arguments, and the same types among them
pub record AreAlike (args more : List Arg) : Type 0 where
  pub many : length more ≡ length args
  pub types : (j : ℕ) (t : TypeTree)
      → slice_get args j ≡ Some (OfType t) → slice_get more j ≡ Some (OfType t)

-- a step to an argument reads these; one to a demanded argument reads the argument too
pub data InSpine (o : Origins) (at : Spot) (h : TermTree) (args : List Arg) (i : ℕ) (at' : Spot)
    (x : TermTree) : Type 0 where
  of_any : slice_get args i ≡ Some (OfTerm x)
      → ((more : List Arg) (y : TermTree) → AreAlike args more
      → slice_get more i ≡ Some (OfTerm y)
      → Below o at (applied h more) (argument_path i (length args)) at' y)
      → InSpine o at h args i at' x
  of_this : slice_get args i ≡ Some (OfTerm x)
      → at' ≡ spot (head_mode at.mode) false at.vars
      → ((more : List Arg) → AreAlike args more
      → slice_get more i ≡ Some (OfTerm x)
      → Below o at (applied h more) (argument_path i (length args)) at' x)
      → InSpine o at h args i at' x

-- the heads of applications with active arguments
abbrev pub IsHead : TermTree → Type 0
IsHead (con c) = Unit {0}
IsHead (prim p) = Unit {0}
IsHead e = ⊥

-- a step by the form of the term
pub data BelowBy (o : Origins) (at : Spot) : TermTree → List ℕ → Spot → TermTree → Type 0 where
  by_let : {g : Group} {e x : TermTree} {p : List ℕ} {at' : Spot}
      → InLet o at g e p at' x → BelowBy o at (letrec g e) p at' x
  by_case : {s x : TermTree} {alts : Alts} {p : List ℕ} {at' : Spot}
      → InCase o at s alts p at' x → BelowBy o at (case_of s alts) p at' x
  by_vector : {t : TypeTree} {es : Terms} {x : TermTree} {p : List ℕ} {at' : Spot}
      → InVector o at t es p at' x → BelowBy o at (vec_lit t es) p at' x
  by_spine : (h : TermTree) (args : List Arg) (i : ℕ) {at' : Spot} {x : TermTree}
      → IsHead h → InSpine o at h args i at' x
      → BelowBy o at (applied h args) (argument_path i (length args)) at' x

side_moves : (o : Origins) (at : Spot) (g : Group) (i : ℕ) (b : TypeTree × TermTree)
    → HasLets at.mode → binding_at g i ≡ Some b → IsNamed o.program.datas at.mode b.0
    → MovesInLet o at g i (spot at.mode false (with_more (declared g) at.vars))
side_moves o at g i b lets is named h f y d part =
    subst
    (λ ts. Below o at (letrec h f) (i ∷ []) (spot at.mode false (with_more ts at.vars)) y)
    d (right_side {b = (b.0, y)} lets (binding_of g h f y i b d is part) named)

-- the spot of the body follows from the declared types
body_moves : (o : Origins) (at : Spot) (g : Group) (to : List TypeTree → Spot)
    → ((h : Group) (f : TermTree) → Below o at (letrec h f) (size_of h ∷ []) (to (declared h)) f)
    → MovesInLet o at g (size_of g) (to (declared g))
body_moves o at g to step h f y d part =
    let size = size_declared g h d in
    let last : part_of_group h f (size_of h) ≡ Some y =
    subst (λ n. part_of_group h f n ≡ Some y) (sym size) part in
    let there : part_of_group h f (size_of h) ≡ Some f = body_at h f in
    let is : f ≡ y = cc in
    subst (λ n. Below o at (letrec h f) (n ∷ []) (to (declared g)) y) size
    (subst (λ ts. Below o at (letrec h f) (size_of h ∷ []) (to ts) y) d
    (subst (λ z. Below o at (letrec h f) (size_of h ∷ []) (to (declared h)) z) is (step h f)))

-- the path of an argument is the same among as many
same_path : {o : Origins} {at at' : Spot} {e x : TermTree} {args more : List Arg} (i : ℕ)
    → AreAlike args more
    → Below o at e (argument_path i (length more)) at' x
    → Below o at e (argument_path i (length args)) at' x
same_path {o} {at} {at'} {e} {x} i alike b =
    subst (λ n. Below o at e (argument_path i n) at' x) alike.many b

pub below_by : {o : Origins} {at at' : Spot} {e x : TermTree} {p : List ℕ}
    → Below o at e p at' x → BelowBy o at e p at' x
below_by {o} {at} (right_side {g = g} {e = e} {i = i} {b = b} lets is named) =
    by_let (in_let (side_at g e i b is) (side_moves o at g i b lets is named))
below_by {o} {at} (let_body {g = g} {e = e} lets) =
    by_let (in_let (body_at g e)
    (body_moves o at g (λ ts. spot at.mode true (with_more ts at.vars)) (λ h f. let_body lets)))
below_by {o} {at} (constant_body {g = g} {e = e} k) =
    by_let (in_let (body_at g e)
    (body_moves o at g (λ ts. spot K false (with_more ts at.vars)) (λ h f. constant_body k)))
below_by {o} {at} (scrutinee {s = s} {alts = alts} d n) =
    by_case (in_scrutinee refl (λ more same.
    subst (λ m. Below o at (case_of s more) (0 ∷ []) (spot m false at.vars) s)
    (mode_of_patterns o.program.datas at.mode alts more same) (scrutinee d n)))
below_by (branch {i = i} {alts = alts} {a = a} v s n is q) =
    by_case (in_branch (ap (option_map (λ (b : Branch). b.body)) is) (λ more y same part.
    branch {a = record { pattern = a.pattern; body = y }} v s n
    (branch_of alts more i a y same is part) q))
below_by (of_constructor c i args k is many s) =
    by_spine (con c) args i tt (of_any s (λ more y alike there.
    same_path i alike (of_constructor c i more k is (alike.many ∙ many) there)))
below_by (of_words p i args k words many within s) =
    by_spine (prim p) args i tt (of_any s (λ more y alike there.
    let enough = subst (λ n. asked_for (schema_type p) ≤ n) (sym alike.many) many in
    same_path i alike (of_words p i more k words enough within there)))
below_by (of_element p i args k takes within s) =
    by_spine (prim p) args i tt (of_any s (λ more y alike there.
    same_path i alike (of_element p i more k takes within there)))
below_by (of_vector k is) = by_vector (in_vector is (λ fs y there. of_vector k there))
below_by (demanded {p = p} {i = i} {args = args} d) =
    by_spine (prim p) args i tt (of_this d.is refl (λ more alike there.
    same_path i alike (demanded (record {
      no_constant = d.no_constant;
      looks = d.looks;
      is = there;
      type = d.type;
      has = d.has;
      unnamed = d.unnamed;
    }))))
below_by (begins p i j args {t = t} m b type r s) =
    by_spine (prim p) args i tt (of_any s (λ more y alike there.
    same_path i alike (begins p i j more m b (alike.types j t type) r there)))

-- at the argument of one number
abbrev pub AtArgument
    : Origins → Spot → TermTree → List Arg → List ℕ → Spot → TermTree → Type 0
AtArgument o at h args p at' x =
    (i : ℕ) × (p ≡ argument_path i (length args)) × InSpine o at h args i at' x

-- a step by the head of the term
abbrev pub BelowHead
    : Origins → Spot → TermTree → List Arg → List ℕ → Spot → TermTree → Type 0
BelowHead o at (letrec g e) args p at' x = InLet o at g e p at' x
BelowHead o at (case_of s alts) args p at' x = InCase o at s alts p at' x
BelowHead o at (vec_lit t es) args p at' x = InVector o at t es p at' x
BelowHead o at h args p at' x = AtArgument o at h args p at' x

-- such a head is that of its application, and the arguments are all
spine_head : (h : TermTree) (args : List Arg) → IsHead h → head_of (applied h args) ≡ h
spine_head (con c) args k = head_applied args (con c)
spine_head (prim p) args k = head_applied args (prim p)
spine_head _ args k = absurd k

spine_args : (h : TermTree) (args : List Arg) → IsHead h → args_of (applied h args) ≡ args
spine_args (con c) args k = args_applied args (con c)
spine_args (prim p) args k = args_applied args (prim p)
spine_args _ args k = absurd k

module _ {o : Origins} {at at' : Spot} {x : TermTree} {p : List ℕ} where
  to_head : (h : TermTree) (args : List Arg)
      → IsHead h → AtArgument o at h args p at' x → BelowHead o at h args p at' x
  to_head (con c) args k a = a
  to_head (prim q) args k a = a
  to_head _ args k a = absurd k

  from_head : (h : TermTree) (args : List Arg)
      → IsHead h → BelowHead o at h args p at' x → AtArgument o at h args p at' x
  from_head (con c) args k b = b
  from_head (prim q) args k b = b
  from_head _ args k b = absurd k

by_head : {o : Origins} {at at' : Spot} {e x : TermTree} {p : List ℕ}
    → BelowBy o at e p at' x → BelowHead o at (head_of e) (args_of e) p at' x
by_head (by_let i) = i
by_head (by_case i) = i
by_head (by_vector i) = i
by_head {o} {at} {at'} {x = x} {p = p} (by_spine h args i k s) =
    subst (λ f. BelowHead o at f (args_of (applied h args)) p at' x) (sym (spine_head h args k))
    (subst (λ xs. BelowHead o at h xs p at' x) (sym (spine_args h args k))
    (to_head h args k (i, refl, s)))

pub below_head : {o : Origins} {at at' : Spot} {e x : TermTree} {p : List ℕ}
    → Below o at e p at' x → BelowHead o at (head_of e) (args_of e) p at' x
below_head b = by_head (below_by b)

-- a step below an application is at an argument
pub below_spine : {o : Origins} {at at' : Spot} {x : TermTree} {p : List ℕ}
    (h : TermTree) (args : List Arg)
    → IsHead h → Below o at (applied h args) p at' x → AtArgument o at h args p at' x
below_spine {o} {at} {at'} {x} {p} h args k b =
    from_head h args k
    (subst (λ xs. BelowHead o at h xs p at' x) (spine_args h args k)
    (subst (λ f. BelowHead o at f (args_of (applied h args)) p at' x) (spine_head h args k)
    (below_head b)))
