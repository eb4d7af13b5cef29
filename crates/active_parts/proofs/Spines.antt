-- The places below a constructor and a primitive with arguments, and of other heads with arguments.
use Rattle.std.proofs.Common.{◌≡◌, ◌⊎◌, inl, inr, ℕ, zero, suc, ◌<◌, ◌-◌, ◌+◌, refl, sym, ap, ◌∙◌, subst, arith, List, [], ◌∷◌, ◌++◌, length, replicate, Some, slice_get, false}
use Rattle.std.proofs.lemmas.Option.{slice_get_within}
use Rattle.chw_base.specs.declared.index.ConId.{ConId}
use Rattle.chw_prims.specs.declared.prim.Primitive.{Primitive as Prim}
use Rattle.chw_terms.specs.declared.scene.Mode.{Mode}
use Rattle.chw_terms.specs.declared.scene.Mode.TheVariants.{C, K}
use Rattle.chw_terms.specs.declared.term.Arg.{Arg}
use Rattle.chw_terms.specs.declared.term.Arg.TheVariants.{OfTerm, OfType}
use Rattle.chw_terms.specs.declared.term.Head.{Head}
use Rattle.chw_terms.specs.declared.term.Head.TheVariants.{Var, Global, Made, Lam, TyLam, LetRec, Con, PrimOf, Lit, VecLit, Case}
use Rattle.chw_terms.specs.Constructors.{Constructor, con_at}
use Rattle.chw_terms.specs.TermTree.{TermTree, var, letrec, con, prim, vec_lit, case_of}
use Rattle.chw_terms.specs.TermView.{tree_of, applied_to, applied}
use Rattle.chw_typing.specs.HeadTypes.{con_type}
use Rattle.chw_typing.specs.Paths.{argument_path}
use Rattle.rewriting.specs.Origins.{Origins}
use Rattle.rewriting.specs.Active.{Below, right_side, let_body, constant_body, scrutinee, branch, of_constructor, of_words, of_element, of_vector, demanded, begins}
use Rattle.rewriting.specs.Spots.{Spot, spot, asked_for, head_mode}
use Rattle.rewriting.proofs.OneStep.{leads}
use Rattle.rewriting.proofs.Spines.{IsBare, head_of, head_applied, head_is, args_are}
use Rattle.rule_parts.proofs.Heads.{bare}
use Rattle.active_parts.specs.Below.{IsConstantAt, IsDemandedAt, IsContentAt, WhyActive, why_constant, why_demanded, why_content}
use Rattle.active_parts.specs.Parts.{arguments_of, part_path, path_to, HasNoPart, AreAmongFirst}
use Rattle.active_parts.proofs.Heads.{no_spine}
use Rattle.active_parts.proofs.Ways.{way_to_argument}

bare_con : (c : ℕ) → IsBare (con c)
bare_con c = record { itself = refl; alone = refl }

bare_prim : (p : Prim) → IsBare (prim p)
bare_prim p = record { itself = refl; alone = refl }

con_is : (c d : ℕ) → con c ≡ con d → c ≡ d
con_is c d h = cc

prim_is : (p q : Prim) → prim p ≡ prim q → p ≡ q
prim_is p q h = cc

other_head : (p : Prim) (c : ℕ) (more args : List Arg) → applied (prim p) more ≡ applied (con c) args → ⊥
other_head p c more args q = let is : prim p ≡ con c = head_is (prim p) (con c) more args (bare_prim p) (bare_con c) q in absurd cc

-- a step below a constructor leads to an argument
pub record AtConstant (o : Origins) (at : Spot) (c : ℕ) (args : List Arg) (p : List ℕ) (at' : Spot) (x : TermTree) : Type 0 where
  pub number : ℕ
  pub constant : at.mode ≡ K
  pub it : Constructor
  pub is : con_at o.program.datas c ≡ Some it
  pub saturated : length args ≡ asked_for (con_type it)
  pub item : slice_get args number ≡ Some (OfTerm x)
  pub path : p ≡ argument_path number (length args)
  pub place : at' ≡ spot K false at.vars

con_parts : {o : Origins} {at at' : Spot} {t x : TermTree} {p : List ℕ} → Below o at t p at' x → (c : ℕ) (args : List Arg) → t ≡ applied (con c) args → AtConstant o at c args p at' x
con_parts {o} {at} {at'} {x = x} {p = path} (of_constructor d i more {it = it} {a = a} k s l r) c args q =
    let same : more ≡ args = args_are (con d) (con c) more args (bare_con d) (bare_con c) q in
    let head : d ≡ c = con_is d c (head_is (con d) (con c) more args (bare_con d) (bare_con c) q) in
    record {
      number = i;
      constant = k;
      it = it;
      is = subst (λ z. con_at o.program.datas z ≡ Some it) head s;
      saturated = subst (λ z. length z ≡ asked_for (con_type it)) same l;
      item = subst (λ z. slice_get z i ≡ Some (OfTerm a)) same r;
      path = ap (λ z. argument_path i (length z)) same;
      place = refl;
    }
con_parts (of_words p i more k w l m r) c args q = absurd (other_head p c more args q)
con_parts (of_element p i more k w m r) c args q = absurd (other_head p c more args q)
con_parts (demanded {p = p} {args = more} d) c args q = absurd (other_head p c more args q)
con_parts (begins p i j more m b t v r) c args q = absurd (other_head p c more args q)
con_parts (right_side {g = g} {e = e} l s n) c args q = absurd (no_spine args (con c) (letrec g e) refl refl (λ z. absurd cc) (sym q))
con_parts (let_body {g = g} {e = e} l) c args q = absurd (no_spine args (con c) (letrec g e) refl refl (λ z. absurd cc) (sym q))
con_parts (constant_body {g = g} {e = e} k) c args q = absurd (no_spine args (con c) (letrec g e) refl refl (λ z. absurd cc) (sym q))
con_parts (scrutinee {s = s} {alts = alts} d n) c args q = absurd (no_spine args (con c) (case_of s alts) refl refl (λ z. absurd cc) (sym q))
con_parts (branch {x = y} {alts = alts} v s n b r) c args q = absurd (no_spine args (con c) (case_of (var y) alts) refl refl (λ z. absurd cc) (sym q))
con_parts (of_vector {t = t} {es = es} k s) c args q = absurd (no_spine args (con c) (vec_lit t es) refl refl (λ z. absurd cc) (sym q))

-- a step below a primitive leads to an argument
pub record AtArgument (o : Origins) (at : Spot) (q : Prim) (args : List Arg) (p : List ℕ) (at' : Spot) (x : TermTree) : Type 0 where
  pub number : ℕ
  pub item : slice_get args number ≡ Some (OfTerm x)
  pub path : p ≡ argument_path number (length args)
  pub mode : Mode
  pub why : WhyActive o at q args number x mode
  pub place : at' ≡ spot mode false at.vars

at_argument : (o : Origins) (at : Spot) (p q : Prim) (more args : List Arg) (i : ℕ) (a : TermTree) (m : Mode) → applied (prim p) more ≡ applied (prim q) args → slice_get more i ≡ Some (OfTerm a) → WhyActive o at p more i a m → AtArgument o at q args (argument_path i (length more)) (spot m false at.vars) a
at_argument o at p q more args i a m h s why =
    let same : more ≡ args = args_are (prim p) (prim q) more args (bare_prim p) (bare_prim q) h in
    let head : p ≡ q = prim_is p q (head_is (prim p) (prim q) more args (bare_prim p) (bare_prim q) h) in
    record {
      number = i;
      item = subst (λ z. slice_get z i ≡ Some (OfTerm a)) same s;
      path = ap (λ z. argument_path i (length z)) same;
      mode = m;
      why = subst (λ z. WhyActive o at z args i a m) head (subst (λ z. WhyActive o at p z i a m) same why);
      place = refl;
    }

prim_parts : {o : Origins} {at at' : Spot} {t x : TermTree} {p : List ℕ} → Below o at t p at' x → (q : Prim) (args : List Arg) → t ≡ applied (prim q) args → AtArgument o at q args p at' x
prim_parts {o} {at} (of_words p i more {a = a} k w l m r) q args h = at_argument o at p q more args i a K h r (why_constant k (m, inr (w, l)))
prim_parts {o} {at} (of_element p i more {a = a} k w m r) q args h = at_argument o at p q more args i a K h r (why_constant k (m, inl w))
prim_parts {o} {at} (demanded {p = p} {i = i} {args = more} {a = a} d) q args h =
    at_argument o at p q more args i a (head_mode at.mode) h d.is (why_demanded d.no_constant (d.looks, (d.type, d.has, d.unnamed)))
prim_parts {o} {at} (begins p i j more {t = t} {a = a} m b v r s) q args h = at_argument o at p q more args i a K h s (why_content m (j, t, b, v, r))
prim_parts (of_constructor c i more k s l r) q args h = absurd (other_head q c args more (sym h))
prim_parts (right_side {g = g} {e = e} l s n) q args h = absurd (no_spine args (prim q) (letrec g e) refl refl (λ z. absurd cc) (sym h))
prim_parts (let_body {g = g} {e = e} l) q args h = absurd (no_spine args (prim q) (letrec g e) refl refl (λ z. absurd cc) (sym h))
prim_parts (constant_body {g = g} {e = e} k) q args h = absurd (no_spine args (prim q) (letrec g e) refl refl (λ z. absurd cc) (sym h))
prim_parts (scrutinee {s = s} {alts = alts} d n) q args h = absurd (no_spine args (prim q) (case_of s alts) refl refl (λ z. absurd cc) (sym h))
prim_parts (branch {x = y} {alts = alts} v s n b r) q args h = absurd (no_spine args (prim q) (case_of (var y) alts) refl refl (λ z. absurd cc) (sym h))
prim_parts (of_vector {t = t} {es = es} k s) q args h = absurd (no_spine args (prim q) (vec_lit t es) refl refl (λ z. absurd cc) (sym h))

-- it is a place below
below_by : {o : Origins} {at : Spot} {q : Prim} {args : List Arg} {i : ℕ} {a : TermTree} {m : Mode} → WhyActive o at q args i a m → slice_get args i ≡ Some (OfTerm a) → Below o at (applied (prim q) args) (argument_path i (length args)) (spot m false at.vars) a
below_by {q = q} {args} {i} (why_constant k (l, inl w)) s = of_element q i args k w l s
below_by {q = q} {args} {i} (why_constant k (l, inr w)) s = of_words q i args k w.0 w.1 l s
below_by {q = q} {args} {i} (why_demanded n d) s =
    demanded (record { no_constant = n; looks = d.0; is = s; type = d.1.0; has = d.1.1; unnamed = d.1.2 })
below_by {q = q} {args} {i} (why_content c b) s = begins q i b.0 args c b.2 b.3 b.4 s

pub active_argument : (o : Origins) (at : Spot) (q : Prim) (args : List Arg) (i : ℕ) (a : TermTree) (m : Mode) → WhyActive o at q args i a m → slice_get args i ≡ Some (OfTerm a) → Below o at (applied (prim q) args) (argument_path i (length args)) (spot m false at.vars) a
active_argument o at q args i a m why s = below_by why s

-- paths to arguments
abbrev to_argument : ℕ → List ℕ
to_argument k = replicate k 0 ++ 1 ∷ []

zeros_are : (k l : ℕ) → to_argument k ≡ to_argument l → k ≡ l
zeros_are zero zero h = refl
zeros_are zero (suc l) h = absurd cc
zeros_are (suc k) zero h = absurd cc
zeros_are (suc k) (suc l) h = ap suc (zeros_are k l cc)

pub one_argument : (n i j : ℕ) → i < n → j < n → argument_path i n ≡ argument_path j n → i ≡ j
one_argument n i j l m h = let k : n - 1 - i ≡ n - 1 - j = zeros_are (n - 1 - i) (n - 1 - j) h in omega (arith, k, l, m)

-- the item at the path of a number
item_there : (args : List Arg) (i j : ℕ) (x : TermTree) (p : List ℕ)
    → slice_get args j ≡ Some (OfTerm x) → p ≡ argument_path j (length args) → i < length args
    → p ≡ argument_path i (length args) → j ≡ i
item_there args i j x p s is l q =
    one_argument (length args) j i (slice_get_within args j (OfTerm x) s) l (sym is ∙ q)

-- what isn't a term is no place
no_type : (args : List Arg) (i j : ℕ) (a : Arg) (x : TermTree) (p : List ℕ)
    → slice_get args i ≡ Some a → ((e : _) → a ≡ OfTerm e → ⊥)
    → slice_get args j ≡ Some (OfTerm x) → p ≡ argument_path j (length args)
    → p ≡ argument_path i (length args) → ⊥
no_type args i j a x p s none s' is q =
    let same = item_there args i j x p s' is (slice_get_within args i a s) q in
    let there : slice_get args i ≡ Some (OfTerm x) = subst (λ k. slice_get args k ≡ Some (OfTerm x)) same s' in
    none x cc

-- nothing is a place below a constructor that isn't saturated, or in no constant
pub no_constants : (o : Origins) (at : Spot) (c : ℕ) (args : List Arg) (p : List ℕ)
    → (at.mode ≡ K → (it : Constructor) → con_at o.program.datas c ≡ Some it
    → length args ≡ asked_for (con_type it) → ⊥)
    → HasNoPart o at (applied (con c) args) p
no_constants o at c args p none at' x h =
    let there = con_parts h c args refl in none there.constant there.it there.is there.saturated

-- where there is no reason, an argument of a primitive is no place
pub no_argument : (o : Origins) (at : Spot) (q : Prim) (args : List Arg) (i : ℕ) (a : TermTree)
    → slice_get args i ≡ Some (OfTerm a) → ((m : Mode) → WhyActive o at q args i a m → ⊥)
    → HasNoPart o at (applied (prim q) args) (argument_path i (length args))
no_argument o at q args i a s none at' x h =
    let there = prim_parts h q args refl in
    let same = item_there args i there.number x (argument_path i (length args)) there.item there.path (slice_get_within args i (OfTerm a) s) refl in
    let item : slice_get args i ≡ Some (OfTerm x) = subst (λ n. slice_get args n ≡ Some (OfTerm x)) same there.item in
    let term : x ≡ a = cc in
    none there.mode (subst (λ n. WhyActive o at q args n a there.mode) same (subst (λ z. WhyActive o at q args there.number z there.mode) term there.why))

-- the numbers of arguments that are places
pub con_number : {o : Origins} {at at' : Spot} {c : ℕ} {args : List Arg} {p : List ℕ} {x : TermTree}
    → AtConstant o at c args p at' x
    → (i : ℕ) × (i < length args) × (p ≡ argument_path i (length args))
con_number {args = args} {x = x} it =
    (it.number, slice_get_within args it.number (OfTerm x) it.item, it.path)

pub prim_number : {o : Origins} {at at' : Spot} {q : Prim} {args : List Arg} {p : List ℕ} {x : TermTree}
    → AtArgument o at q args p at' x
    → (i : ℕ) × (i < length args) × (p ≡ argument_path i (length args))
prim_number {args = args} {x = x} it =
    (it.number, slice_get_within args it.number (OfTerm x) it.item, it.path)

-- how many arguments a spine has
one_more : (e : TermTree) (a : Arg) → arguments_of (applied_to e a) ≡ suc (arguments_of e)
one_more e (OfTerm a) = refl
one_more e (OfType t) = refl

pub arguments_counted : (args : List Arg) (e : TermTree)
    → arguments_of (applied e args) ≡ length args + arguments_of e
arguments_counted [] e = omega arith
arguments_counted (a ∷ args) e = omega (arith, arguments_counted args (applied_to e a), one_more e a)

-- a spine has places below it only if its head is a constructor or a primitive
abbrev pub HasArguments : TermTree → Type 0
HasArguments (con c) = Unit {0}
HasArguments (prim p) = Unit {0}
HasArguments _ = ⊥

of_spine : {o : Origins} {at at' : Spot} {e x : TermTree} {p : List ℕ} → Below o at e p at' x
    → (arguments_of e ≡ 0) ⊎ HasArguments (head_of e)
of_spine (right_side l s n) = inl refl
of_spine (let_body l) = inl refl
of_spine (constant_body k) = inl refl
of_spine (scrutinee d n) = inl refl
of_spine (branch v s n b r) = inl refl
of_spine (of_vector k s) = inl refl
of_spine (of_constructor c i args k s l r) = inr (subst HasArguments (sym (head_applied args (con c))) tt)
of_spine (of_words p i args k w l m r) = inr (subst HasArguments (sym (head_applied args (prim p))) tt)
of_spine (of_element p i args k w m r) = inr (subst HasArguments (sym (head_applied args (prim p))) tt)
of_spine (demanded {p = p} {args = args} d) = inr (subst HasArguments (sym (head_applied args (prim p))) tt)
of_spine (begins p i j args m b t v r) = inr (subst HasArguments (sym (head_applied args (prim p))) tt)

pub no_spine_parts : (o : Origins) (at : Spot) (h : TermTree) (args : List Arg) (p : List ℕ)
    → head_of h ≡ h → (HasArguments h → ⊥) → (args ≡ [] → ⊥)
    → HasNoPart o at (applied h args) p
no_spine_parts o at h args p is none some at' x b = by args some (of_spine b)
  where
    by : (xs : List Arg) → (xs ≡ [] → ⊥)
        → (arguments_of (applied h xs) ≡ 0) ⊎ HasArguments (head_of (applied h xs)) → ⊥
    by [] m k = m refl
    by (y ∷ xs) m (inl n) = omega (arith, n, arguments_counted (y ∷ xs) h)
    by (y ∷ xs) m (inr k) = none (subst HasArguments (head_applied (y ∷ xs) h ∙ is) k)

-- where an argument isn't active
no_circuit : (m : Mode) → m ≡ K → m ≡ C → ⊥
no_circuit m k c = absurd cc

why_no_constant : {o : Origins} {at : Spot} {q : Prim} {args : List Arg} {i : ℕ} {a : TermTree} {m : Mode} → WhyActive o at q args i a m → at.mode ≡ K → (IsConstantAt q (length args) i → ⊥) → ⊥
why_no_constant (why_constant k c) l none = none c
why_no_constant (why_demanded n d) l none = n l
why_no_constant {at = at} (why_content c b) l none = no_circuit at.mode l c

pub no_constant : (o : Origins) (at : Spot) (q : Prim) (args : List Arg) (i : ℕ) (a : TermTree) → at.mode ≡ K → (IsConstantAt q (length args) i → ⊥) → (m : Mode) → WhyActive o at q args i a m → ⊥
no_constant o at q args i a k none m why = why_no_constant why k none

why_not_else : {o : Origins} {at : Spot} {q : Prim} {args : List Arg} {i : ℕ} {a : TermTree} {m : Mode} → WhyActive o at q args i a m → (at.mode ≡ K → ⊥) → (IsDemandedAt o at q i a → ⊥) → (at.mode ≡ C → IsContentAt o.program.datas q args i → ⊥) → ⊥
why_not_else (why_constant k c) l none other = l k
why_not_else (why_demanded n d) l none other = none d
why_not_else (why_content c b) l none other = other c b

pub not_active : (o : Origins) (at : Spot) (q : Prim) (args : List Arg) (i : ℕ) (a : TermTree) → (at.mode ≡ K → ⊥) → (IsDemandedAt o at q i a → ⊥) → (at.mode ≡ C → IsContentAt o.program.datas q args i → ⊥) → (m : Mode) → WhyActive o at q args i a m → ⊥
not_active o at q args i a l none other m why = why_not_else why l none other

-- a head of another form alone has no parts
pub no_children : (h : Head) → ((bs e : _) → h ≡ LetRec bs e → ⊥)
    → ((s alts : _) → h ≡ Case s alts → ⊥) → ((t es : _) → h ≡ VecLit t es → ⊥)
    → (o : Origins) (at : Spot) (p : List ℕ) → HasNoPart o at (tree_of h) p
no_children (LetRec bs e) l c v o at p at' x b = l bs e refl
no_children (Case s alts) l c v o at p at' x b = c s alts refl
no_children (VecLit t es) l c v o at p at' x b = v t es refl
no_children (Con k) l c v o at p at' x b =
    let there = con_parts b k.number [] refl in
    let none : List Arg = [] in
    let within = slice_get_within none there.number (OfTerm x) there.item in
    omega (arith, within)
no_children (PrimOf q) l c v o at p at' x b =
    let there = prim_parts b q [] refl in
    let none : List Arg = [] in
    let within = slice_get_within none there.number (OfTerm x) there.item in
    omega (arith, within)
no_children (Var y) l c v o at p at' x b = leads b
no_children (Global d) l c v o at p at' x b = leads b
no_children (Made m) l c v o at p at' x b = leads b
no_children (Lam t e) l c v o at p at' x b = leads b
no_children (TyLam k e) l c v o at p at' x b = leads b
no_children (Lit s w) l c v o at p at' x b = leads b

-- the heads that have places in their arguments, and the others
data OfSpine (h : Head) : Type 0 where
  a_con : (c : ConId) → h ≡ Con c → OfSpine h
  a_prim : (p : Prim) → h ≡ PrimOf p → OfSpine h
  another : (HasArguments (tree_of h) → ⊥) → OfSpine h

seen : (h : Head) → OfSpine h
seen (Con c) = a_con c refl
seen (PrimOf p) = a_prim p refl
seen (Var x) = another (λ h. h)
seen (Global d) = another (λ h. h)
seen (Made m) = another (λ h. h)
seen (Lam t e) = another (λ h. h)
seen (TyLam k e) = another (λ h. h)
seen (LetRec bs e) = another (λ h. h)
seen (Lit s b) = another (λ h. h)
seen (VecLit t es) = another (λ h. h)
seen (Case e alts) = another (λ h. h)

pub no_others : (h : Head) (args : List Arg) → ((c : _) → h ≡ Con c → ⊥)
    → ((p : _) → h ≡ PrimOf p → ⊥) → (args ≡ [] → ⊥) → (o : Origins) (at : Spot) (p : List ℕ)
    → HasNoPart o at (applied (tree_of h) args) p
no_others h args no_con no_prim some o at p = by (seen h)
  where
    by : OfSpine h → HasNoPart o at (applied (tree_of h) args) p
    by (a_con c is) = absurd (no_con c is)
    by (a_prim q is) = absurd (no_prim q is)
    by (another none) = no_spine_parts o at (tree_of h) args p (bare h).itself none some

some_item : {X : Type 0} (xs : List X) (i : ℕ) (a : X) → slice_get xs i ≡ Some a → xs ≡ [] → ⊥
some_item xs i a s none =
    let within = slice_get_within xs i a s in let empty = ap length none in omega (arith, within, empty)

pub no_type_below : (h : Head) (args : List Arg) (i : ℕ) (a : Arg)
    → slice_get args i ≡ Some a → ((e : _) → a ≡ OfTerm e → ⊥) → (o : Origins) (at : Spot)
    → HasNoPart o at (applied (tree_of h) args) (argument_path i (length args))
no_type_below h args i a s none o at at' x b = by (seen h)
  where
    path : List ℕ
    path = argument_path i (length args)

    by : OfSpine h → ⊥
    by (a_con c is) =
        let there = con_parts b c.number args (ap (λ k. applied (tree_of k) args) is) in
        no_type args i there.number a x path s none there.item there.path refl
    by (a_prim q is) =
        let there = prim_parts b q args (ap (λ k. applied (tree_of k) args) is) in
        no_type args i there.number a x path s none there.item there.path refl
    by (another other) =
        no_spine_parts o at (tree_of h) args path (bare h).itself other (some_item args i a s) at' x b

-- the number of a part of a spine
pub head_alone : (h : Head) → arguments_of (tree_of h) ≡ 0
head_alone (Con c) = refl
head_alone (PrimOf p) = refl
head_alone (Var x) = refl
head_alone (Global d) = refl
head_alone (Made m) = refl
head_alone (Lam t e) = refl
head_alone (TyLam k e) = refl
head_alone (LetRec bs e) = refl
head_alone (Lit s b) = refl
head_alone (VecLit t es) = refl
head_alone (Case e alts) = refl

pub all_arguments : (h : Head) (args : List Arg) → arguments_of (applied (tree_of h) args) ≡ length args
all_arguments h args = omega (arith, arguments_counted args (tree_of h), head_alone h)

pub path_of_argument : (h : Head) (args : List Arg) (i : ℕ) → (args ≡ [] → ⊥)
    → argument_path i (length args) ≡ path_to (applied (tree_of h) args) i
path_of_argument h args i some =
    way_to_argument (length args) i (not_empty args some) ∙ ap (λ n. part_path n i) (sym (all_arguments h args))
  where
    not_empty : (xs : List Arg) → (xs ≡ [] → ⊥) → length xs ≡ 0 → ⊥
    not_empty [] f is = f refl
    not_empty (x ∷ xs) f is = omega (arith, is)

pub con_among : (mode : Mode) (c : ConId) (args : List Arg) → (args ≡ [] → ⊥)
    → AreAmongFirst mode (applied (tree_of (Con c)) args) (length args)
con_among mode c args some o at at' path x m b =
    let it = con_number (con_parts b c.number args refl) in
    (it.0, it.1, it.2 ∙ path_of_argument (Con c) args it.0 some)

pub no_con_among : (mode : Mode) (c : ConId) (args : List Arg) → (mode ≡ K → ⊥)
    → AreAmongFirst mode (applied (tree_of (Con c)) args) 0
no_con_among mode c args none o at at' path x m b =
    absurd (none (sym m ∙ (con_parts b c.number args refl).constant))

pub prim_among : (mode : Mode) (p : Prim) (args : List Arg) → (args ≡ [] → ⊥)
    → AreAmongFirst mode (applied (tree_of (PrimOf p)) args) (length args)
prim_among mode p args some o at at' path x m b =
    let it = prim_number (prim_parts b p args refl) in
    (it.0, it.1, it.2 ∙ path_of_argument (PrimOf p) args it.0 some)
