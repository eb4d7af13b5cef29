-- The places below a letrec, a case and a vector.
use Rattle.std.proofs.Common.{◌≡◌, inl, inr, ℕ, zero, suc, ◌<◌, ◌+◌, refl, sym, ap, ◌∙◌, subst}
use Rattle.std.proofs.Common.{arith, List, [], ◌∷◌, length, Some, slice_get, true, false}
use Rattle.std.proofs.lemmas.Option.{slice_get_within}
use Rattle.chw_types.specs.declared.declarations.Data.{Data}
use Rattle.chw_types.specs.TypeTree.{TypeTree}
use Rattle.chw_terms.specs.declared.scene.Mode.{Mode}
use Rattle.chw_terms.specs.declared.scene.Mode.TheVariants.{V, C, HV, HC, K}
use Rattle.chw_terms.specs.declared.term.Alt.{Alt}
use Rattle.chw_terms.specs.declared.term.Arg.{Arg}
use Rattle.chw_terms.specs.declared.term.Binding.{Binding}
use Rattle.chw_terms.specs.TermTree.{TermTree, var, letrec, con, prim, vec_lit, case_of, size_of}
use Rattle.chw_terms.specs.TermView.{applied, terms_of, group_of, alts_of}
use Rattle.chw_typing.specs.HeadTypes.{PatternOf}
use Rattle.chw_typing.specs.Scopes.{with_more, declared}
use Rattle.chw_typing.specs.Typing.{HasType}
use Rattle.chw_typing.specs.Groups.{binding_at}
use Rattle.chw_typing.specs.Paths.{element_at, Branch, branch_at}
use Rattle.rewriting.specs.Named.{IsNamed}
use Rattle.rewriting.specs.Origins.{Origins, setting_at}
use Rattle.rewriting.specs.Active.{Below, right_side, let_body, constant_body, scrutinee, branch}
use Rattle.rewriting.specs.Active.{of_constructor, of_words, of_element, of_vector, demanded, begins}
use Rattle.rewriting.specs.Spots.{Spot, spot, HasLets, scrutinee_mode}
use Rattle.rewriting.proofs.OneStep.{head_of, head_applied}
use Rattle.active_parts.specs.Below.{IsUnnamed}
use Rattle.active_parts.specs.Parts.{HasParts, gives_result, HasNoPart, AreAmongFirst}

-- an application of a constructor or a primitive has that head
pub no_spine : (args : List Arg) (h e : TermTree) → head_of h ≡ h → head_of e ≡ e → (h ≡ e → ⊥)
    → applied h args ≡ e → ⊥
no_spine args h e is is' not q = not (sym is ∙ sym (head_applied args h) ∙ ap head_of q ∙ is')

-- letrecs
size_listed : (bs : List Binding) → size_of (group_of bs) ≡ length bs
size_listed [] = refl
size_listed (b ∷ bs) = ap suc (size_listed bs)

record Listed (bs : List Binding) (i : ℕ) (b : TypeTree × TermTree) : Type 0 where
  item : Binding
  at : slice_get bs i ≡ Some item
  ty : item.ty ≡ b.0

binding_listed : (bs : List Binding) (i : ℕ) (b : TypeTree × TermTree)
    → binding_at (group_of bs) i ≡ Some b → Listed bs i b
binding_listed [] i b h = absurd cc
binding_listed (x ∷ bs) zero b h =
    let is : (x.ty, x.body) ≡ b = cc in
    record { item = x; at = refl; ty = ap (λ (c : TypeTree × TermTree). c.0) is }
binding_listed (x ∷ bs) (suc i) b h =
    let more = binding_listed bs i b h in record { item = more.item; at = more.at; ty = more.ty }

listed_binding : (bs : List Binding) (i : ℕ) (x : Binding)
    → slice_get bs i ≡ Some x → binding_at (group_of bs) i ≡ Some (x.ty, x.body)
listed_binding [] i x h = absurd cc
listed_binding (y ∷ bs) zero x h =
    let is : y ≡ x = cc in ap (λ (c : Binding). Some (c.ty, c.body)) is
listed_binding (y ∷ bs) (suc i) x h = listed_binding bs i x h

-- below a letrec are its right sides of named types, and its body
pub data LetPart (o : Origins) (at : Spot) (bs : List Binding) (p : List ℕ) : Type 0 where
  at_side : (i : ℕ) (b : Binding) → slice_get bs i ≡ Some b
      → IsNamed o.program.datas at.mode b.ty → p ≡ i ∷ [] → LetPart o at bs p
  at_body : p ≡ length bs ∷ [] → LetPart o at bs p

body_part : (o : Origins) (at : Spot) (g : _) (e f : TermTree) (bs : List Binding)
    → letrec g e ≡ letrec (group_of bs) f → LetPart o at bs (size_of g ∷ [])
body_part o at g e f bs q =
    let is : g ≡ group_of bs = cc in
    at_body (ap (λ n. n ∷ []) (ap size_of is ∙ size_listed bs))

let_part : {o : Origins} {at at' : Spot} {t x : TermTree} {p : List ℕ} → Below o at t p at' x
    → (bs : List Binding) (e : TermTree) → t ≡ letrec (group_of bs) e
    → HasParts at.mode × LetPart o at bs p
let_part {o} {at} (right_side {g = g} {i = i} {b = b} l s n) bs e q =
    let is : g ≡ group_of bs = cc in
    let item = binding_listed bs i b (subst (λ h. binding_at h i ≡ Some b) is s) in
    (inl l, at_side i item.item item.at (subst (IsNamed o.program.datas at.mode) (sym item.ty) n) refl)
let_part {o} {at} (let_body {g = g} {e = f} l) bs e q = (inl l, body_part o at g f e bs q)
let_part {o} {at} (constant_body {g = g} {e = f} k) bs e q = (inr k, body_part o at g f e bs q)
let_part (scrutinee d n) bs e q = absurd cc
let_part (branch v s n b r) bs e q = absurd cc
let_part (of_vector k s) bs e q = absurd cc
let_part (of_constructor c i args k s l r) bs e q =
    absurd (no_spine args (con c) (letrec (group_of bs) e) refl refl (λ z. absurd cc) q)
let_part (of_words p i args k w l m r) bs e q =
    absurd (no_spine args (prim p) (letrec (group_of bs) e) refl refl (λ z. absurd cc) q)
let_part (of_element p i args k w m r) bs e q =
    absurd (no_spine args (prim p) (letrec (group_of bs) e) refl refl (λ z. absurd cc) q)
let_part (demanded {p = p} {args = args} d) bs e q =
    absurd (no_spine args (prim p) (letrec (group_of bs) e) refl refl (λ z. absurd cc) q)
let_part (begins p i j args m b t v r) bs e q =
    absurd (no_spine args (prim p) (letrec (group_of bs) e) refl refl (λ z. absurd cc) q)

pub below_let : {o : Origins} {at at' : Spot} {bs : List Binding} {e x : TermTree} {p : List ℕ}
    → Below o at (letrec (group_of bs) e) p at' x → HasParts at.mode × LetPart o at bs p
below_let {bs = bs} {e} b = let_part b bs e refl

-- the number of such a part
pub let_number : {o : Origins} {at : Spot} {bs : List Binding} {p : List ℕ}
    → LetPart o at bs p → (i : ℕ) × (i < length bs + 1) × (p ≡ i ∷ [])
let_number {bs = bs} (at_side i b s n is) =
    let l = slice_get_within bs i b s in (i, omega (arith, l), is)
let_number {bs = bs} (at_body is) = (length bs, omega arith, is)

-- the right side of a number
named_lets : (datas : List Data) (m : Mode) (t : TypeTree) → HasParts m → IsNamed datas m t → HasLets m
named_lets datas m t (inl l) n = l
named_lets datas m t (inr k) n = absurd (subst (λ z. IsNamed datas z t) k n)

pub side_below : (o : Origins) (at : Spot) (bs : List Binding) (e : TermTree) (i : ℕ) (b : Binding)
    → HasParts at.mode → slice_get bs i ≡ Some b → IsNamed o.program.datas at.mode b.ty
    → Below o at (letrec (group_of bs) e) (i ∷ [])
    (spot at.mode false (with_more (declared (group_of bs)) at.vars)) b.body
side_below o at bs e i b m s n =
    right_side {b = (b.ty, b.body)} (named_lets o.program.datas at.mode b.ty m n) (listed_binding bs i b s) n

named_there : {o : Origins} {at : Spot} {bs : List Binding} {p : List ℕ} → LetPart o at bs p
    → (i : ℕ) (b : Binding) → p ≡ i ∷ [] → slice_get bs i ≡ Some b → IsNamed o.program.datas at.mode b.ty
named_there {o} {at} {bs} (at_side j c t n is) i b q s =
    let same : j ≡ i = cc in
    let there : slice_get bs i ≡ Some c = subst (λ k. slice_get bs k ≡ Some c) same t in
    let item : c ≡ b = cc in
    subst (λ (z : Binding). IsNamed o.program.datas at.mode z.ty) item n
named_there {bs = bs} (at_body is) i b q s =
    let same : i ≡ length bs = cc in
    absurd (let l = slice_get_within bs i b s in omega (arith, l, same))

pub no_side : (o : Origins) (at : Spot) (bs : List Binding) (e : TermTree) (i : ℕ) (b : Binding)
    → slice_get bs i ≡ Some b → (IsNamed o.program.datas at.mode b.ty → ⊥)
    → HasNoPart o at (letrec (group_of bs) e) (i ∷ [])
no_side o at bs e i b s none at' x h = none (named_there (below_let h).1 i b refl s)

-- the body
lets_give : (m : Mode) → HasLets m → gives_result m ≡ true
lets_give V l = refl
lets_give C l = refl
lets_give HV l = absurd l
lets_give HC l = absurd l
lets_give K l = absurd l

body_at : (o : Origins) (at : Spot) (bs : List Binding) (e : TermTree) → HasParts at.mode
    → Below o at (letrec (group_of bs) e) (size_of (group_of bs) ∷ [])
    (spot at.mode (gives_result at.mode) (with_more (declared (group_of bs)) at.vars)) e
body_at o at bs e (inl l) =
    let g = group_of bs in
    subst (λ r. Below o at (letrec g e) (size_of g ∷ []) (spot at.mode r (with_more (declared g) at.vars)) e)
    (sym (lets_give at.mode l)) (let_body l)
body_at o at bs e (inr k) =
    let g = group_of bs in
    subst (λ m. Below o at (letrec g e) (size_of g ∷ []) (spot m (gives_result m) (with_more (declared g) at.vars)) e)
    (sym k) (constant_body k)

pub body_below : (o : Origins) (at : Spot) (bs : List Binding) (e : TermTree) (i : ℕ)
    → HasParts at.mode → i ≡ length bs
    → Below o at (letrec (group_of bs) e) (i ∷ [])
    (spot at.mode (gives_result at.mode) (with_more (declared (group_of bs)) at.vars)) e
body_below o at bs e i m is =
    let there = spot at.mode (gives_result at.mode) (with_more (declared (group_of bs)) at.vars) in
    subst (λ n. Below o at (letrec (group_of bs) e) (n ∷ []) there e) (size_listed bs ∙ sym is) (body_at o at bs e m)

-- no others
pub no_more_sides : (o : Origins) (at : Spot) (bs : List Binding) (e : TermTree) (i : ℕ)
    → length bs < i → HasNoPart o at (letrec (group_of bs) e) (i ∷ [])
no_more_sides o at bs e i l at' x h =
    let it = let_number (below_let h).1 in
    let same : i ≡ it.0 = cc in
    omega (arith, l, it.1, same)

pub no_let_parts : (o : Origins) (at : Spot) (bs : List Binding) (e : TermTree) (p : List ℕ)
    → (HasParts at.mode → ⊥) → HasNoPart o at (letrec (group_of bs) e) p
no_let_parts o at bs e p none at' x h = none (below_let h).0

-- cases: what it is on, and the alternatives
record ListedBranch (alts : List Alt) (i : ℕ) (a : Branch) : Type 0 where
  item : Alt
  at : slice_get alts i ≡ Some item
  pattern : item.pattern ≡ a.pattern

branch_listed : (alts : List Alt) (i : ℕ) (a : Branch)
    → branch_at (alts_of alts) i ≡ Some a → ListedBranch alts i a
branch_listed [] i a h = absurd cc
branch_listed (x ∷ alts) zero a h =
    let is : record { pattern = x.pattern; body = x.body } ≡ a = cc in
    record { item = x; at = refl; pattern = ap (λ (b : Branch). b.pattern) is }
branch_listed (x ∷ alts) (suc i) a h =
    let more = branch_listed alts i a h in
    record { item = more.item; at = more.at; pattern = more.pattern }

pub listed_branch : (alts : List Alt) (i : ℕ) (x : Alt)
    → slice_get alts i ≡ Some x
    → branch_at (alts_of alts) i ≡ Some (record { pattern = x.pattern; body = x.body })
listed_branch [] i x h = absurd cc
listed_branch (y ∷ alts) zero x h =
    let is : y ≡ x = cc in ap (λ (c : Alt). Some (record { pattern = c.pattern; body = c.body })) is
listed_branch (y ∷ alts) (suc i) x h = listed_branch alts i x h

pub data CasePart (o : Origins) (at : Spot) (s : TermTree) (alts : List Alt) (p : List ℕ) : Type 0
  where
    at_scrutinee : p ≡ 0 ∷ [] → IsUnnamed o at s → CasePart o at s alts p
    at_branch : (i x : ℕ) (u : TypeTree) (a : Alt)
        → p ≡ suc i ∷ [] → at.mode ≡ V → s ≡ var x → slice_get at.vars x ≡ Some u
        → IsNamed o.program.datas V u → slice_get alts i ≡ Some a → CasePart o at s alts p

case_part : {o : Origins} {at at' : Spot} {t x : TermTree} {p : List ℕ} → Below o at t p at' x
    → (s : TermTree) (alts : List Alt) → t ≡ case_of s (alts_of alts) → CasePart o at s alts p
case_part {o} {at} (scrutinee {s = f} {u = u} d n) s alts q =
    let is : f ≡ s = cc in
    at_scrutinee refl (u, subst (λ z. HasType (setting_at o) [] at.vars z u) is d, n)
case_part (branch {x = x} {i = i} {alts = more} {u = u} {a = a} v s n b r) on alts q =
    let is : on ≡ var x = cc in
    let rest : more ≡ alts_of alts = cc in
    let item = branch_listed alts i a (subst (λ z. branch_at z i ≡ Some a) rest b) in
    at_branch i x u item.item refl v is s n item.at
case_part (right_side l s n) on alts q = absurd cc
case_part (let_body l) on alts q = absurd cc
case_part (constant_body k) on alts q = absurd cc
case_part (of_vector k s) on alts q = absurd cc
case_part (of_constructor c i args k s l r) on alts q =
    absurd (no_spine args (con c) (case_of on (alts_of alts)) refl refl (λ z. absurd cc) q)
case_part (of_words p i args k w l m r) on alts q =
    absurd (no_spine args (prim p) (case_of on (alts_of alts)) refl refl (λ z. absurd cc) q)
case_part (of_element p i args k w m r) on alts q =
    absurd (no_spine args (prim p) (case_of on (alts_of alts)) refl refl (λ z. absurd cc) q)
case_part (demanded {p = p} {args = args} d) on alts q =
    absurd (no_spine args (prim p) (case_of on (alts_of alts)) refl refl (λ z. absurd cc) q)
case_part (begins p i j args m b t v r) on alts q =
    absurd (no_spine args (prim p) (case_of on (alts_of alts)) refl refl (λ z. absurd cc) q)

pub below_case : {o : Origins} {at at' : Spot} {s x : TermTree} {alts : List Alt} {p : List ℕ}
    → Below o at (case_of s (alts_of alts)) p at' x → CasePart o at s alts p
below_case {s = s} {alts = alts} b = case_part b s alts refl

-- the numbers of such parts
pub case_number : {o : Origins} {at : Spot} {s : TermTree} {alts : List Alt} {p : List ℕ}
    → CasePart o at s alts p → (i : ℕ) × (i < length alts + 1) × (p ≡ i ∷ [])
case_number (at_scrutinee is n) = (0, omega arith, is)
case_number {alts = alts} (at_branch i x u a is v q s n b) =
    let l = slice_get_within alts i a b in (suc i, omega (arith, l), is)

pub only_scrutinee : {o : Origins} {at : Spot} {s : TermTree} {alts : List Alt} {p : List ℕ}
    → CasePart o at s alts p → (at.mode ≡ V → ⊥) → (i : ℕ) × (i < 1) × (p ≡ i ∷ [])
only_scrutinee (at_scrutinee is n) none = (0, omega arith, is)
only_scrutinee (at_branch i x u a is v q s n b) none = absurd (none v)

-- what a case is on
unnamed_there : {o : Origins} {at : Spot} {s : TermTree} {alts : List Alt} {p : List ℕ}
    → CasePart o at s alts p → p ≡ 0 ∷ [] → IsUnnamed o at s
unnamed_there (at_scrutinee is n) q = n
unnamed_there (at_branch i x u a is v t s n b) q = absurd cc

pub no_scrutinee : (o : Origins) (at : Spot) (s : TermTree) (alts : List Alt)
    → (IsUnnamed o at s → ⊥) → HasNoPart o at (case_of s (alts_of alts)) (0 ∷ [])
no_scrutinee o at s alts none at' x h = none (unnamed_there (below_case h) refl)

pub scrutinee_below : (o : Origins) (at : Spot) (s : TermTree) (alts : List Alt) → IsUnnamed o at s
    → Below o at (case_of s (alts_of alts)) (0 ∷ [])
    (spot (scrutinee_mode o.program.datas at.mode (alts_of alts)) false at.vars) s
scrutinee_below o at s alts u = scrutinee u.1 u.2

-- an alternative
pub record BranchPart (o : Origins) (at : Spot) (s : TermTree) (alts : List Alt) (i : ℕ) : Type 0
  where
    pub number : ℕ
    pub type : TypeTree
    pub item : Alt
    pub mode : at.mode ≡ V
    pub is : s ≡ var number
    pub of : slice_get at.vars number ≡ Some type
    pub named : IsNamed o.program.datas V type
    pub listed : slice_get alts i ≡ Some item

branch_there : {o : Origins} {at : Spot} {s : TermTree} {alts : List Alt} {p : List ℕ}
    → CasePart o at s alts p → (i : ℕ) → p ≡ suc i ∷ [] → BranchPart o at s alts i
branch_there (at_scrutinee is n) i q = absurd cc
branch_there {alts = alts} (at_branch j x u a is v t s n b) i q =
    let same : j ≡ i = cc in
    record {
      number = x;
      type = u;
      item = a;
      mode = v;
      is = t;
      of = s;
      named = n;
      listed = subst (λ k. slice_get alts k ≡ Some a) same b;
    }

pub no_branch : (o : Origins) (at : Spot) (s : TermTree) (alts : List Alt) (i : ℕ)
    → (BranchPart o at s alts i → ⊥) → HasNoPart o at (case_of s (alts_of alts)) (suc i ∷ [])
no_branch o at s alts i none at' x h = none (branch_there (below_case h) i refl)

pub branch_below : (o : Origins) (at : Spot) (s : TermTree) (alts : List Alt) (x i : ℕ)
    (u : TypeTree) (a : Alt) (fields : List TypeTree)
    → at.mode ≡ V → s ≡ var x → slice_get at.vars x ≡ Some u → IsNamed o.program.datas V u
    → slice_get alts i ≡ Some a → PatternOf o.program.datas u a.pattern fields
    → Below o at (case_of s (alts_of alts)) (suc i ∷ []) (spot V true (with_more fields at.vars)) a.body
branch_below o at s alts x i u a fields v is of n b q =
    subst (λ z. Below o at (case_of z (alts_of alts)) (suc i ∷ []) (spot V true (with_more fields at.vars)) a.body)
    (sym is)
    (branch {a = record { pattern = a.pattern; body = a.body }} v of n (listed_branch alts i a b) q)

-- vectors: the elements, in a constant
element_listed : (es : List TermTree) (i : ℕ) (a : TermTree)
    → element_at (terms_of es) i ≡ Some a → slice_get es i ≡ Some a
element_listed [] i a h = absurd cc
element_listed (e ∷ es) zero a h = h
element_listed (e ∷ es) (suc i) a h = element_listed es i a h

listed_element : (es : List TermTree) (i : ℕ) (a : TermTree)
    → slice_get es i ≡ Some a → element_at (terms_of es) i ≡ Some a
listed_element [] i a h = absurd cc
listed_element (e ∷ es) zero a h = h
listed_element (e ∷ es) (suc i) a h = listed_element es i a h

pub record VectorPart (at : Spot) (es : List TermTree) (p : List ℕ) : Type 0 where
  pub constant : at.mode ≡ K
  pub number : ℕ
  pub item : TermTree
  pub listed : slice_get es number ≡ Some item
  pub is : p ≡ number ∷ []

vector_part : {o : Origins} {at at' : Spot} {t x : TermTree} {p : List ℕ} → Below o at t p at' x
    → (ty : TypeTree) (es : List TermTree) → t ≡ vec_lit ty (terms_of es) → VectorPart at es p
vector_part (of_vector {es = more} {i = i} {a = a} k s) ty es q =
    let rest : more ≡ terms_of es = cc in
    record {
      constant = k;
      number = i;
      item = a;
      listed = element_listed es i a (subst (λ z. element_at z i ≡ Some a) rest s);
      is = refl;
    }
vector_part (right_side l s n) ty es q = absurd cc
vector_part (let_body l) ty es q = absurd cc
vector_part (constant_body k) ty es q = absurd cc
vector_part (scrutinee d n) ty es q = absurd cc
vector_part (branch v s n b r) ty es q = absurd cc
vector_part (of_constructor c i args k s l r) ty es q =
    absurd (no_spine args (con c) (vec_lit ty (terms_of es)) refl refl (λ z. absurd cc) q)
vector_part (of_words p i args k w l m r) ty es q =
    absurd (no_spine args (prim p) (vec_lit ty (terms_of es)) refl refl (λ z. absurd cc) q)
vector_part (of_element p i args k w m r) ty es q =
    absurd (no_spine args (prim p) (vec_lit ty (terms_of es)) refl refl (λ z. absurd cc) q)
vector_part (demanded {p = p} {args = args} d) ty es q =
    absurd (no_spine args (prim p) (vec_lit ty (terms_of es)) refl refl (λ z. absurd cc) q)
vector_part (begins p i j args m b t v r) ty es q =
    absurd (no_spine args (prim p) (vec_lit ty (terms_of es)) refl refl (λ z. absurd cc) q)

pub below_vector : {o : Origins} {at at' : Spot} {ty : TypeTree} {x : TermTree}
    {es : List TermTree} {p : List ℕ}
    → Below o at (vec_lit ty (terms_of es)) p at' x → VectorPart at es p
below_vector {ty = ty} {es = es} b = vector_part b ty es refl

pub no_element : (o : Origins) (at : Spot) (ty : TypeTree) (es : List TermTree) (i : ℕ)
    → (at.mode ≡ K → (a : TermTree) → slice_get es i ≡ Some a → ⊥)
    → HasNoPart o at (vec_lit ty (terms_of es)) (i ∷ [])
no_element o at ty es i none at' x h =
    let it = below_vector h in
    let same : it.number ≡ i = cc (it.is) in
    none it.constant it.item (subst (λ k. slice_get es k ≡ Some it.item) same it.listed)

pub element_below : (o : Origins) (at : Spot) (ty : TypeTree) (es : List TermTree) (i : ℕ)
    (a : TermTree) → at.mode ≡ K → slice_get es i ≡ Some a
    → Below o at (vec_lit ty (terms_of es)) (i ∷ []) (spot K false at.vars) a
element_below o at ty es i a k s = of_vector k (listed_element es i a s)

-- how many parts come into question
pub let_among : (mode : Mode) (bs : List Binding) (e : TermTree) (n : ℕ) → n ≡ length bs + 1
    → AreAmongFirst mode (letrec (group_of bs) e) n
let_among mode bs e n is o at at' path x m b =
    let it = let_number (below_let b).1 in (it.0, omega (arith, is, it.1), it.2)

pub no_let_among : (mode : Mode) (bs : List Binding) (e : TermTree) → (HasParts mode → ⊥)
    → AreAmongFirst mode (letrec (group_of bs) e) 0
no_let_among mode bs e none o at at' path x m b = absurd (none (subst HasParts m (below_let b).0))

pub case_among : (mode : Mode) (s : TermTree) (alts : List Alt) (n : ℕ) → n ≡ length alts + 1
    → AreAmongFirst mode (case_of s (alts_of alts)) n
case_among mode s alts n is o at at' path x m b =
    let it = case_number (below_case b) in (it.0, omega (arith, is, it.1), it.2)

pub scrutinee_among : (mode : Mode) (s : TermTree) (alts : List Alt) → (mode ≡ V → ⊥)
    → AreAmongFirst mode (case_of s (alts_of alts)) 1
scrutinee_among mode s alts none o at at' path x m b =
    only_scrutinee (below_case b) (λ v. none (sym m ∙ v))

pub vector_among : (mode : Mode) (ty : TypeTree) (es : List TermTree) (n : ℕ) → n ≡ length es
    → AreAmongFirst mode (vec_lit ty (terms_of es)) n
vector_among mode ty es n is o at at' path x m b =
    let it = below_vector b in
    let l = slice_get_within es it.number it.item it.listed in
    (it.number, omega (arith, is, l), it.is)

pub no_vector_among : (mode : Mode) (ty : TypeTree) (es : List TermTree) → (mode ≡ K → ⊥)
    → AreAmongFirst mode (vec_lit ty (terms_of es)) 0
no_vector_among mode ty es none o at at' path x m b = absurd (none (sym m ∙ (below_vector b).constant))
