-- Variables in scope: their types, and how many wires they have.
use Rattle.std.proofs.Common.{◌≡◌, ℕ, zero, suc, ◌+◌, arith, List, [], ◌∷◌, ◌++◌, length, map, reverse, Some, refl, sym, ap, ◌∙◌, subst, unwrap_or, option_map}
use Rattle.std.specs.List.{slice_get}
use Rattle.chw_base.specs.declared.index.WireId.{WireId}
use Rattle.chw_types.specs.declared.kind.Kind.{Kind}
use Rattle.chw_types.specs.SameTypes.{SameTypes}
use Rattle.chw_types.specs.TypeTree.{TypeTree}
use Rattle.chw_terms.specs.declared.term.Pattern.{Pattern}
use Rattle.chw_terms.specs.TermTree.{TermTree, var, app, ty_app}
use Rattle.chw_typing.specs.HeadTypes.{PatternOf}
use Rattle.chw_typing.specs.Programs.{IsSound}
use Rattle.chw_typing.specs.Scopes.{Setting, HasKind, AreSame, with_more}
use Rattle.chw_typing.specs.Typing.{HasType, h_var, Binds}
use Rattle.chw_layout.specs.Measured.{fits, HasWidth}
use Rattle.layout_laws.specs.SameLayout.{SameKeepsMeasure}
use Rattle.net_built.specs.Data.{HaveWidths, variables_from}
use Rattle.net_built.specs.Terms.{head_of, types_of, operands_of, Variable, variable, wires_at}
use Rattle.net_built.specs.Wires.{new_wires, wire_count}
use Rattle.net_grounds.specs.Facts.{Facts}
use Rattle.net_means.specs.SideBits.Sides.{types_in}
use Rattle.net_means.proofs.Lists.{found_before_map, reverse_cons, turned_onto}
use Rattle.net_means.proofs.NetFits.Pieces.{count_from}

-- the variable of this number has as many wires as its type's width asks for
abbrev pub SizedAt : Setting → List Variable → ℕ → Type 0
SizedAt s scope x =
    (v : Variable) (w : ℕ) → slice_get scope x ≡ Some v → HasWidth s.datas v.ty w → length v.wires ≡ wire_count (w ∷ [])

-- the scope has, up to naturals, variables of these types
pub record Fits (vars : List TypeTree) (scope : List Variable) : Type 0 where
  pub same : AreSame vars (map (λ (v : Variable). v.ty) scope)

pub none_sized : (s : Setting) (x : ℕ) → SizedAt s [] x
none_sized s x v w e h = absurd cc

pub one_sized : Facts → (s : Setting) (t : TypeTree) (n w : ℕ) (scope : List Variable) → HasWidth s.datas t w → ((x : ℕ) → SizedAt s scope x) → (x : ℕ) → SizedAt s (variable t (new_wires n (w ∷ [])) ∷ scope) x
one_sized facts s t n w scope has all zero v k e h =
    let is : variable t (new_wires n (w ∷ [])) ≡ v = cc in
    let type : t ≡ v.ty = ap (λ (v : Variable). v.ty) is in
    let same : w ≡ k = facts.widths.width_once has (subst (λ t. HasWidth s.datas t k) (sym type) h) in
    sym (ap (λ (v : Variable). length v.wires) is) ∙ count_from n (wire_count (w ∷ [])) ∙ ap (λ w. wire_count (w ∷ [])) same
one_sized facts s t n w scope has all (suc x) v k e h = all x v k e h

-- several that come in turn before others
next_sized : (s : Setting) (v : Variable) (b scope : List Variable) (y : ℕ)
    → ((k : ℕ) → length (v ∷ b) ≡ suc k + y → SizedAt s (v ∷ b) k)
    → ((z : ℕ) → y ≡ z + length (v ∷ b) → SizedAt s scope z)
    → (z : ℕ) → y ≡ z + length b → SizedAt s (v ∷ scope) z
next_sized s v b scope y inner outer zero h u w e g = inner 0 (omega (arith, h)) u w e g
next_sized s v b scope y inner outer (suc z) h u w e g = outer z (omega (arith, h)) u w e g

pub onto_sized : (s : Setting) (b scope : List Variable) (y : ℕ)
    → ((k : ℕ) → length b ≡ suc k + y → SizedAt s b k)
    → ((z : ℕ) → y ≡ z + length b → SizedAt s scope z)
    → SizedAt s (reverse b ++ scope) y
onto_sized s [] scope y inner outer = outer y (omega arith)
onto_sized s (v ∷ b) scope y inner outer =
    subst (λ (l : List Variable). SizedAt s l y) (sym (turned_onto v b scope))
    (onto_sized s b (v ∷ scope) y (λ k h. inner (suc k) (omega (arith, h))) (next_sized s v b scope y inner outer))

pub fields_sized : Facts → (s : Setting) (n : ℕ) (ts : List TypeTree) (ws : List ℕ) → HaveWidths s.datas ts ws → (x : ℕ) → SizedAt s (variables_from n ts ws) x
fields_sized facts s n [] [] h x = none_sized s x
fields_sized facts s n [] (w ∷ ws) h x = absurd h
fields_sized facts s n (t ∷ ts) [] h x = absurd h
fields_sized facts s n (t ∷ ts) (w ∷ ws) h x = one_sized facts s t n w (variables_from (n + wire_count (w ∷ [])) ts ws) h.0 (fields_sized facts s (n + wire_count (w ∷ [])) ts ws h.1) x

pub fields_types : (s : Setting) (n : ℕ) (ts : List TypeTree) (ws : List ℕ) → HaveWidths s.datas ts ws → types_in (variables_from n ts ws) ≡ ts
fields_types s n [] [] h = refl
fields_types s n [] (w ∷ ws) h = absurd h
fields_types s n (t ∷ ts) [] h = absurd h
fields_types s n (t ∷ ts) (w ∷ ws) h = ap (λ us. t ∷ us) (fields_types s (n + wire_count (w ∷ [])) ts ws h.1)

types_append : (xs ys : List Variable) → types_in (xs ++ ys) ≡ types_in xs ++ types_in ys
types_append [] ys = refl
types_append (x ∷ xs) ys = ap (λ ts. x.ty ∷ ts) (types_append xs ys)

types_reversed : (b : List Variable) → types_in (reverse b) ≡ reverse (types_in b)
types_reversed [] = refl
types_reversed (x ∷ b) =
    ap (λ l. types_in l) (reverse_cons x b) ∙ types_append (reverse b) (x ∷ []) ∙ ap (λ ts. ts ++ x.ty ∷ []) (types_reversed b) ∙ sym (reverse_cons x.ty (types_in b))

pub fits_more : Facts → (new vars : List TypeTree) (b scope : List Variable) → AreSame new (types_in b) → Fits vars scope → Fits (with_more new vars) (reverse b ++ scope)
fits_more facts new vars b scope h k =
    let types : types_in (reverse b ++ scope) ≡ reverse (types_in b) ++ types_in scope =
    types_append (reverse b) scope ∙ ap (λ ts. ts ++ types_in scope) (types_reversed b) in
    record { same = subst (AreSame (with_more new vars)) (sym types) (facts.scopes.same_more new (types_in b) vars (types_in scope) h k.same) }

-- the variable that has a type has it up to naturals
pub record Found (scope : List Variable) (x : ℕ) (t : TypeTree) : Type 0 where
  pub it : Variable
  pub is : slice_get scope x ≡ Some it
  pub same : SameTypes t it.ty

pub found : Facts → (vars : List TypeTree) (scope : List Variable) (x : ℕ) (t : TypeTree) → Fits vars scope → slice_get vars x ≡ Some t → Found scope x t
found facts vars scope x t fit e =
    let at = facts.scopes.same_at vars (types_in scope) x t fit.same e in
    let v = found_before_map (λ (v : Variable). v.ty) scope x at.0 at.1 in
    record { it = v.0; is = v.1; same = subst (SameTypes t) (sym v.2) at.2 }

pub var_at : {s : Setting} {kinds : List Kind} {vars : List TypeTree} {x : ℕ} {t : TypeTree} → HasType s kinds vars (var x) t → slice_get vars x ≡ Some t
var_at (h_var is) = is

pub wires_there : (scope : List Variable) (x : ℕ) (v : Variable) → slice_get scope x ≡ Some v → wires_at scope x ≡ v.wires
wires_there scope x v e = ap (λ o. unwrap_or (option_map (λ (v : Variable). v.wires) o) []) e

-- a type that is the same up to naturals has the width
pub width_kept : SameKeepsMeasure → (s : Setting) → IsSound s → (t u : TypeTree) (k : Kind) (w : ℕ) → HasKind s [] t k → SameTypes t u → HasWidth s.datas t w → HasWidth s.datas u w
width_kept law s sound t u k w kind same h = law (fits w) s t u sound (record { kind = k; has = kind; same = same }) h

-- a typed variable has as many wires as the width of a type asks for that is the same up to naturals
pub variable_sized : Facts → SameKeepsMeasure → (s : Setting) → IsSound s → (vars : List TypeTree) (scope : List Variable) (x : ℕ) (t u : TypeTree) (k : Kind) (w : ℕ) → Fits vars scope → SizedAt s scope x → HasType s [] vars (var x) u → HasKind s [] t k → SameTypes t u → HasWidth s.datas t w
    → length (wires_at scope x) ≡ wire_count (w ∷ [])
variable_sized facts law s sound vars scope x t u k w fit sized typed kind same has =
    let at = found facts vars scope x u fit (var_at typed) in
    let wide = width_kept law s sound t at.it.ty k w kind (facts.same.same_through same at.same) has in
    ap (λ (ws : List WireId). length ws) (wires_there scope x at.it at.is) ∙ sized at.it w at.is wide

-- the fields that a pattern binds are, up to naturals, those of the variable's type
pub bound_fields : Facts → (s : Setting) (u v : TypeTree) (q : Pattern) (fields bnd : List TypeTree) (j : Kind) → IsSound s → HasKind s [] u j → SameTypes u v → Binds s [] u q bnd → PatternOf s.datas v q fields → AreSame bnd fields
bound_fields facts s u v q fields bnd j sound kind same b formed =
    let p = facts.patterns.pattern_same b.pattern sound [] j v kind same in
    let is : p.types ≡ fields = facts.patterns.one_pattern p.of formed refl refl in
    facts.scopes.are_same_through bnd b.fields fields (facts.scopes.are_same_turned b.fields bnd b.same) (subst (AreSame b.fields) is p.same)

no_end : {A : Type 0} (xs : List A) (x : A) → xs ++ x ∷ [] ≡ [] → ⊥
no_end [] x e = absurd cc
no_end (y ∷ xs) x e = absurd cc

-- a head that is a variable and is given nothing is the whole
pub variable_alone : (e : TermTree) (x : ℕ) → head_of e ≡ var x → types_of e ≡ [] → operands_of e ≡ [] → e ≡ var x
variable_alone (app f a) x h k l = absurd (no_end (operands_of f) a l)
variable_alone (ty_app f t) x h k l = absurd (no_end (types_of f) t k)
variable_alone _ x h k l = h
