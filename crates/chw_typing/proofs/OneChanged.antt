-- Right sides, elements and alternatives of which one changes.
use Rattle.std.proofs.Common.{◌≡◌, ℕ, zero, suc, refl, ap, subst, List, ◌∷◌, Some}
use Rattle.chw_types.specs.declared.kind.Kind.{Kind}
use Rattle.chw_types.specs.TypeTree.{TypeTree}
use Rattle.chw_types.proofs.SameLaws.{same_self, same_through}
use Rattle.chw_terms.specs.declared.term.Pattern.{Pattern}
use Rattle.chw_terms.specs.TermTree.{TermTree, Terms, no_terms, term_and, Group, no_bindings, bind, Alts, no_alts, alt}
use Rattle.chw_typing.specs.Scopes.{Setting, with_more, declared}
use Rattle.chw_typing.specs.Typing.{count, Binds, HasType, AreBound, none_bound, bound_and, AllHave, none_have, have_and, AllGive, none_give, give_and, HasTypeUpTo}
use Rattle.chw_typing.specs.Groups.{patterns}
use Rattle.chw_typing.specs.Paths.{element_at, with_element, part_of_group, with_side, with_body, Branch, branch_at, with_branch}

pub declared_with_side : (g : Group) (i : ℕ) (y : TermTree) → declared (with_side g i y) ≡ declared g
declared_with_side no_bindings i y = refl
declared_with_side (bind t e g) zero y = refl
declared_with_side (bind t e g) (suc i) y = ap (λ ts. t ∷ ts) (declared_with_side g i y)

pub count_with_element : (es : Terms) (i : ℕ) (y : TermTree) → count (with_element es i y) ≡ count es
count_with_element no_terms i y = refl
count_with_element (term_and e es) zero y = refl
count_with_element (term_and e es) (suc i) y = ap suc (count_with_element es i y)

pub patterns_with_branch : (alts : Alts) (i : ℕ) (y : TermTree) → patterns (with_branch alts i y) ≡ patterns alts
patterns_with_branch no_alts i y = refl
patterns_with_branch (alt q e more) zero y = refl
patterns_with_branch (alt q e more) (suc i) y = ap (λ qs. q ∷ qs) (patterns_with_branch more i y)

-- the term has, up to naturals, each type of the other
abbrev pub MayReplace : Setting → List Kind → List TypeTree → TermTree → TermTree → Type 0
MayReplace s kinds vars x y = (u : TypeTree) → HasType s kinds vars x u → HasTypeUpTo s kinds vars y u

-- what a group and its body keep
pub record GroupKept (s : Setting) (kinds : List Kind) (vars : List TypeTree) (k : Kind) (g : Group) (e : TermTree) (t : TypeTree) : Type 0 where
  pub sides : AreBound s kinds vars k g
  pub body : HasTypeUpTo s kinds vars e t

unchanged : (s : Setting) (kinds : List Kind) (vars : List TypeTree) (e : TermTree) (t : TypeTree) → HasType s kinds vars e t → HasTypeUpTo s kinds vars e t
unchanged s kinds vars e t d = record { type = t; has = d; same = same_self t }

pub group_kept : {s : Setting} {kinds : List Kind} {vars : List TypeTree} {k : Kind} {g : Group} → AreBound s kinds vars k g → (e : TermTree) (t : TypeTree) → HasType s kinds vars e t → (i : ℕ) (b y : TermTree) → part_of_group g e i ≡ Some b → MayReplace s kinds vars b y → GroupKept s kinds vars k (with_side g i y) (with_body g e i y) t
group_kept {s} {kinds} {vars} none_bound e t d zero b y h f =
    let is : e ≡ b = cc in
    record { sides = none_bound; body = f t (subst (λ x. HasType s kinds vars x t) is d) }
group_kept none_bound e t d (suc i) b y h f = absurd cc
group_kept {s} {kinds} {vars} (bound_and {u = u} {e = r} l m c x bs) e t d zero b y h f =
    let is : r ≡ b = cc in
    let of = f u (subst (λ x. HasType s kinds vars x u) is c) in
    record { sides = bound_and l m of.has (same_through x of.same) bs; body = unchanged s kinds vars e t d }
group_kept (bound_and l m c x bs) e t d (suc i) b y h f =
    let rest = group_kept bs e t d i b y h f in
    record { sides = bound_and l m c x rest.sides; body = rest.body }

pub elements_kept : {s : Setting} {kinds : List Kind} {vars : List TypeTree} {t : TypeTree} {es : Terms} → AllHave s kinds vars t es → (i : ℕ) (b y : TermTree) → element_at es i ≡ Some b → MayReplace s kinds vars b y → AllHave s kinds vars t (with_element es i y)
elements_kept none_have i b y h f = none_have
elements_kept {s} {kinds} {vars} (have_and {u = u} {e = e} d x ds) zero b y h f =
    let is : e ≡ b = cc in
    let of = f u (subst (λ x. HasType s kinds vars x u) is d) in
    have_and of.has (same_through x of.same) ds
elements_kept (have_and d x ds) (suc i) b y h f = have_and d x (elements_kept ds i b y h f)

-- whatever the pattern binds, the body may be replaced
abbrev pub MayReplaceIn : Setting → List Kind → List TypeTree → TypeTree → Branch → TermTree → Type 0
MayReplaceIn s kinds vars u a y = (bound : List TypeTree) → Binds s kinds u a.pattern bound → MayReplace s kinds (with_more bound vars) a.body y

branch_kept : (s : Setting) (kinds : List Kind) (vars bound : List TypeTree) (u v : TypeTree) (a c : Branch) (y : TermTree) → c ≡ a → MayReplaceIn s kinds vars u a y → Binds s kinds u c.pattern bound → HasType s kinds (with_more bound vars) c.body v → HasTypeUpTo s kinds (with_more bound vars) y v
branch_kept s kinds vars bound u v a c y is f b d =
    f bound (subst (λ z. Binds s kinds u z.pattern bound) is b) v (subst (λ z. HasType s kinds (with_more bound vars) z.body v) is d)

-- the body of the first alternative
pub first_kept : (s : Setting) (kinds : List Kind) (vars bound : List TypeTree) (u v : TypeTree) (q : Pattern) (e : TermTree) (a : Branch) (y : TermTree) → Some (record { pattern = q; body = e }) ≡ Some a → MayReplaceIn s kinds vars u a y → Binds s kinds u q bound → HasType s kinds (with_more bound vars) e v → HasTypeUpTo s kinds (with_more bound vars) y v
first_kept s kinds vars bound u v q e a y h f b d =
    let c : Branch = record { pattern = q; body = e } in
    let is : c ≡ a = cc in
    branch_kept s kinds vars bound u v a c y is f b d

pub alternatives_kept : {s : Setting} {kinds : List Kind} {vars : List TypeTree} {u t : TypeTree} {alts : Alts} → AllGive s kinds vars u t alts → (i : ℕ) (a : Branch) (y : TermTree) → branch_at alts i ≡ Some a → MayReplaceIn s kinds vars u a y → AllGive s kinds vars u t (with_branch alts i y)
alternatives_kept none_give i a y h f = none_give
alternatives_kept {s} {kinds} {vars} {u} (give_and {bound = bound} {v = v} {q = q} {e = e} b d x ds) zero a y h f =
    let of = first_kept s kinds vars bound u v q e a y h f b d in
    give_and b of.has (same_through x of.same) ds
alternatives_kept (give_and b d x ds) (suc i) a y h f = give_and b d x (alternatives_kept ds i a y h f)
