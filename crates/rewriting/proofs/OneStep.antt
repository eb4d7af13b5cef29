-- One step from a place to a path leads to one spot.
use Rattle.std.proofs.Common.{◌≡◌, ℕ, suc, refl, sym, ap, subst, ◌∙◌, true, false, List, [], ◌∷◌, Some}
use Rattle.std.specs.List.{slice_get}
use Rattle.std.specs.Prelude.{Bool}
use Rattle.chw_types.specs.declared.kind.Scalar.{Scalar}
use Rattle.chw_types.specs.declared.declarations.Data.{Data}
use Rattle.chw_types.specs.TypeTree.{TypeTree}
use Rattle.chw_prims.specs.declared.prim.Primitive.{Primitive as Prim}
use Rattle.chw_prims.specs.declared.prim.Primitive.TheVariants.{VGet, VGetC, VAt, Fmap, Ap}
use Rattle.chw_terms.specs.declared.scene.Mode.{Mode}
use Rattle.chw_terms.specs.declared.scene.Mode.TheVariants.{V, C, K}
use Rattle.chw_terms.specs.declared.term.Arg.{Arg}
use Rattle.chw_terms.specs.declared.term.Arg.TheVariants.{OfTerm, OfType}
use Rattle.chw_terms.specs.declared.term.Pattern.{Pattern}
use Rattle.chw_terms.specs.declared.term.Pattern.TheVariants.{OfLit}
use Rattle.chw_terms.specs.Constructors.{Constructor}
use Rattle.chw_terms.specs.TermTree.{TermTree, var, app, ty_app, letrec, con, prim, vec_lit, case_of, Group, no_bindings, bind, Alts, size_of}
use Rattle.chw_terms.specs.TermView.{applied_to, applied}
use Rattle.chw_typing.specs.HeadTypes.{fields_at, PatternOf, of_con, of_lit, of_any}
use Rattle.chw_typing.specs.Scopes.{with_more, declared}
use Rattle.chw_typing.specs.Groups.{binding_at}
use Rattle.chw_typing.specs.Paths.{Branch, branch_at, part_at}
use Rattle.rewriting.specs.Origins.{Origins}
use Rattle.rewriting.specs.Active.{Below, right_side, let_body, constant_body, scrutinee, branch, of_constructor, of_words, of_element, of_vector, demanded, begins}
use Rattle.rewriting.specs.Spots.{Spot, spot, HasLets, head_mode, scrutinee_mode, LooksAt, BeginsWith}
use Rattle.rewriting.proofs.Parts.{below_is_part}

-- the head of a term with its arguments
abbrev pub head_of : TermTree → TermTree
head_of (app f a) = head_of f
head_of (ty_app f t) = head_of f
head_of e = e

head_applied_to : (e : TermTree) (a : Arg) → head_of (applied_to e a) ≡ head_of e
head_applied_to e (OfTerm a) = refl
head_applied_to e (OfType t) = refl

pub head_applied : (args : List Arg) (e : TermTree) → head_of (applied e args) ≡ head_of e
head_applied [] e = refl
head_applied (a ∷ args) e = head_applied args (applied_to e a) ∙ head_applied_to e a

-- the spots below a letrec
pub data InLet (at : Spot) (g : Group) (p : List ℕ) (at' : Spot) : Type 0 where
  to_side : (i : ℕ) (b : TypeTree × TermTree) → HasLets at.mode → binding_at g i ≡ Some b → p ≡ i ∷ [] → at' ≡ spot at.mode false (with_more (declared g) at.vars) → InLet at g p at'
  to_body : HasLets at.mode → p ≡ size_of g ∷ [] → at' ≡ spot at.mode true (with_more (declared g) at.vars) → InLet at g p at'
  to_constant : at.mode ≡ K → at' ≡ spot K false (with_more (declared g) at.vars) → InLet at g p at'

-- those below a case
pub data InCase (datas : List Data) (at : Spot) (s : TermTree) (alts : Alts) (p : List ℕ) (at' : Spot) : Type 0 where
  to_scrutinee : p ≡ 0 ∷ [] → at' ≡ spot (scrutinee_mode datas at.mode alts) false at.vars → InCase datas at s alts p at'
  to_branch : (x i : ℕ) (u : TypeTree) (a : Branch) (fields : List TypeTree) → p ≡ suc i ∷ [] → s ≡ var x → slice_get at.vars x ≡ Some u → branch_at alts i ≡ Some a → PatternOf datas u a.pattern fields → at' ≡ spot V true (with_more fields at.vars) → InCase datas at s alts p at'

-- and those below a primitive
pub data InPrim (at : Spot) (p : Prim) (at' : Spot) : Type 0 where
  to_word : at.mode ≡ K → at' ≡ spot K false at.vars → InPrim at p at'
  to_demanded : (i : ℕ) → (at.mode ≡ K → ⊥) → LooksAt p i → at' ≡ spot (head_mode at.mode) false at.vars → InPrim at p at'
  to_beginning : (i j : ℕ) → at.mode ≡ C → BeginsWith p i j → at' ≡ spot K false at.vars → InPrim at p at'

-- where a step may lead, by the head of the term
abbrev pub Leads : List Data → Spot → TermTree → List ℕ → Spot → Type 0
Leads datas at (letrec g e) p at' = InLet at g p at'
Leads datas at (case_of s alts) p at' = InCase datas at s alts p at'
Leads datas at (prim q) p at' = InPrim at q at'
Leads datas at (con c) p at' = at' ≡ spot K false at.vars
Leads datas at (vec_lit t es) p at' = at' ≡ spot K false at.vars
Leads datas at _ p at' = ⊥

at_head : (datas : List Data) (at at' : Spot) (args : List Arg) (h : TermTree) (p : List ℕ) → head_of h ≡ h → Leads datas at h p at' → Leads datas at (head_of (applied h args)) p at'
at_head datas at at' args h p is l = subst (λ e. Leads datas at e p at') (sym (head_applied args h ∙ is)) l

pub leads : {o : Origins} {at at' : Spot} {e x : TermTree} {p : List ℕ} → Below o at e p at' x → Leads o.program.datas at (head_of e) p at'
leads (right_side {i = i} {b = b} l s n) = to_side i b l s refl refl
leads (let_body l) = to_body l refl refl
leads (constant_body k) = to_constant k refl
leads (scrutinee d n) = to_scrutinee refl refl
leads (branch {x = x} {i = i} {u = u} {a = a} {fields = fields} v s n b p) = to_branch x i u a fields refl refl s b p refl
leads {o} {at} {at'} {p = p} (of_constructor c i args k s l r) = at_head o.program.datas at at' args (con c) p refl refl
leads {o} {at} {at'} {p = p} (of_words q i args k w l m r) = at_head o.program.datas at at' args (prim q) p refl (to_word k refl)
leads {o} {at} {at'} {p = p} (of_element q i args k w m r) = at_head o.program.datas at at' args (prim q) p refl (to_word k refl)
leads (of_vector k s) = refl
leads {o} {at} {at'} {p = p} (demanded {p = q} {i = i} {args = args} d) = at_head o.program.datas at at' args (prim q) p refl (to_demanded i d.no_constant d.looks refl)
leads {o} {at} {at'} {p = p} (begins q i j args m b t v r) = at_head o.program.datas at at' args (prim q) p refl (to_beginning i j m b refl)

no_side : (g : Group) (b : TypeTree × TermTree) → binding_at g (size_of g) ≡ Some b → ⊥
no_side no_bindings b h = absurd cc
no_side (bind t e g) b h = no_side g b h

no_lets : (m : Mode) → HasLets m → m ≡ K → ⊥
no_lets m l k = subst HasLets k l

not_body : (g : Group) (i : ℕ) (b : TypeTree × TermTree) (p : List ℕ) → binding_at g i ≡ Some b → p ≡ i ∷ [] → p ≡ size_of g ∷ [] → ⊥
not_body g i b p s x y = let is : i ≡ size_of g = cc in no_side g b (subst (λ n. binding_at g n ≡ Some b) is s)

one_in_let : {at at' at'' : Spot} {g : Group} {p : List ℕ} → InLet at g p at' → InLet at g p at'' → at' ≡ at''
one_in_let (to_side i b l s x is) (to_side j c m t y is') = is ∙ sym is'
one_in_let {g = g} {p = p} (to_side i b l s x is) (to_body m y is') = absurd (not_body g i b p s x y)
one_in_let {at} (to_side i b l s x is) (to_constant k is') = absurd (no_lets at.mode l k)
one_in_let {g = g} {p = p} (to_body l x is) (to_side j c m t y is') = absurd (not_body g j c p t y x)
one_in_let (to_body l x is) (to_body m y is') = is ∙ sym is'
one_in_let {at} (to_body l x is) (to_constant k is') = absurd (no_lets at.mode l k)
one_in_let {at} (to_constant k is) (to_side j c m t y is') = absurd (no_lets at.mode m k)
one_in_let {at} (to_constant k is) (to_body m y is') = absurd (no_lets at.mode m k)
one_in_let (to_constant k is) (to_constant l is') = is ∙ sym is'

literal_binds_none : {datas : List Data} {u : TypeTree} {s : Scalar} {bits : List Bool} {fs : List TypeTree} → PatternOf datas u (OfLit s bits) fs → fs ≡ []
literal_binds_none (of_lit l e) = refl

-- a pattern of a type binds one list of types
one_pattern : {datas : List Data} {u : TypeTree} {q : Pattern} {fs gs : List TypeTree} → PatternOf datas u q fs → PatternOf datas u q gs → fs ≡ gs
one_pattern (of_con {ts = ts} it e o n) (of_con other e' o' n') =
    let is : it ≡ other = cc in ap (λ (k : Constructor). fields_at k ts) is
one_pattern (of_lit l e) q = sym (literal_binds_none q)
one_pattern of_any of_any = refl

pattern_at : (datas : List Data) (u v : TypeTree) (a b : Branch) (fs gs : List TypeTree) → u ≡ v → a ≡ b → PatternOf datas u a.pattern fs → PatternOf datas v b.pattern gs → fs ≡ gs
pattern_at datas u v a b fs gs is same p q =
    one_pattern (subst (λ (c : Branch). PatternOf datas v c.pattern fs) same (subst (λ w. PatternOf datas w a.pattern fs) is p)) q

one_branch : (datas : List Data) (vars : List TypeTree) (alts : Alts) (s : TermTree) (p : List ℕ) (x y i j : ℕ) (u v : TypeTree) (a b : Branch) (fs gs : List TypeTree) → p ≡ suc i ∷ [] → p ≡ suc j ∷ [] → s ≡ var x → s ≡ var y → slice_get vars x ≡ Some u → slice_get vars y ≡ Some v → branch_at alts i ≡ Some a → branch_at alts j ≡ Some b → PatternOf datas u a.pattern fs → PatternOf datas v b.pattern gs → fs ≡ gs
one_branch datas vars alts s p x y i j u v a b fs gs pi pj sx sy ux vy ai bj q r =
    let xy : x ≡ y = cc in
    let ij : i ≡ j = cc in
    let uv : u ≡ v = cc in
    let ab : a ≡ b = cc in
    pattern_at datas u v a b fs gs uv ab q r

not_scrutinee : (p : List ℕ) (i : ℕ) → p ≡ 0 ∷ [] → p ≡ suc i ∷ [] → ⊥
not_scrutinee p i x y = absurd cc

one_in_case : {datas : List Data} {at at' at'' : Spot} {s : TermTree} {alts : Alts} {p : List ℕ} → InCase datas at s alts p at' → InCase datas at s alts p at'' → at' ≡ at''
one_in_case (to_scrutinee x is) (to_scrutinee y is') = is ∙ sym is'
one_in_case {p = p} (to_scrutinee x is) (to_branch y j v b gs q t w c r is') = absurd (not_scrutinee p j x q)
one_in_case {p = p} (to_branch x i u a fs q s w b r is) (to_scrutinee y is') = absurd (not_scrutinee p i y q)
one_in_case {datas} {at} {s = s} {alts} {p} (to_branch x i u a fs q n w b r is) (to_branch y j v c gs q' n' w' b' r' is') =
    is ∙ ap (λ ts. spot V true (with_more ts at.vars)) (one_branch datas at.vars alts s p x y i j u v a c fs gs q q' n n' w w' b b' r r') ∙ sym is'

-- no primitive both looks at an argument and begins with one
not_both : (p : Prim) (i j k : ℕ) → LooksAt p i → BeginsWith p j k → ⊥
not_both VGet i j k l b = b
not_both VGetC i j k l b = b
not_both VAt i j k l b = b
not_both Fmap i j k l b = b
not_both Ap i j k l b = b
not_both _ i j k l b = l

constant_is_no_circuit : (m : Mode) → m ≡ K → m ≡ C → ⊥
constant_is_no_circuit m k c = absurd cc

one_in_prim : {at at' at'' : Spot} {p : Prim} → InPrim at p at' → InPrim at p at'' → at' ≡ at''
one_in_prim (to_word k is) (to_word l is') = is ∙ sym is'
one_in_prim (to_word k is) (to_demanded i n l is') = absurd (n k)
one_in_prim {at} (to_word k is) (to_beginning i j m b is') = is ∙ sym is'
one_in_prim (to_demanded i n l is) (to_word k is') = absurd (n k)
one_in_prim (to_demanded i n l is) (to_demanded j m k is') = is ∙ sym is'
one_in_prim {p = p} (to_demanded i n l is) (to_beginning j k m b is') = absurd (not_both p i j k l b)
one_in_prim (to_beginning i j m b is) (to_word k is') = is ∙ sym is'
one_in_prim {p = p} (to_beginning i j m b is) (to_demanded k n l is') = absurd (not_both p k i j l b)
one_in_prim (to_beginning i j m b is) (to_beginning k l n c is') = is ∙ sym is'

one_leads : (datas : List Data) (at at' at'' : Spot) (h : TermTree) (p : List ℕ) → Leads datas at h p at' → Leads datas at h p at'' → at' ≡ at''
one_leads datas at at' at'' (letrec g e) p l r = one_in_let l r
one_leads datas at at' at'' (case_of s alts) p l r = one_in_case l r
one_leads datas at at' at'' (prim q) p l r = one_in_prim l r
one_leads datas at at' at'' (con c) p l r = l ∙ sym r
one_leads datas at at' at'' (vec_lit t es) p l r = l ∙ sym r
one_leads datas at at' at'' _ p l r = absurd l

pub one_part : (e x y : TermTree) (p : List ℕ) → part_at e p ≡ Some x → part_at e p ≡ Some y → x ≡ y
one_part e x y p l r = cc

pub one_below : (o : Origins) (at at' at'' : Spot) (e x y : TermTree) (p : List ℕ) → Below o at e p at' x → Below o at e p at'' y → (at' ≡ at'') × (x ≡ y)
one_below o at at' at'' e x y p l r = (one_leads o.program.datas at at' at'' (head_of e) p (leads l) (leads r), one_part e x y p (below_is_part l) (below_is_part r))
