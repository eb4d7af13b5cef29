-- Vectors, their elements, and the primitives that take one.
use Rattle.std.specs.Prelude.{take, drop, min, ◌*◌}
use Rattle.std.proofs.Common.{◌≡◌, ◌<◌, ◌+◌, ℕ, suc, zero, Bool, List, [], ◌∷◌, ◌++◌, length, Some, refl, sym, ap, ◌∙◌, subst, arith}
use Rattle.std.proofs.Math.Seq.{take-append_seam, drop-append-add}
use Rattle.chw_bits.specs.Bits.{number_of}
use Rattle.chw_types.specs.declared.kind.Scalar.{Scalar}
use Rattle.chw_types.specs.TypeTree.{TypeTree, scalar, vector, TypeTrees}
use Rattle.chw_prims.specs.declared.prim.Primitive.TheVariants.{VGet, VAt}
use Rattle.chw_terms.specs.declared.program.Program.{Program}
use Rattle.chw_terms.specs.Evaluated.{evaluated}
use Rattle.chw_terms.specs.TermTree.{TermTree, prim, vec_lit, Terms}
use Rattle.chw_terms.specs.TermView.{applied}
use Rattle.chw_typing.proofs.EvaluatedTypes.{same_evaluated}
use Rattle.chw_typing.specs.Given.{types_then}
use Rattle.chw_layout.specs.Measured.{closed_value, HasWidth}
use Rattle.chw_layout.proofs.Fitting.{element_width}
use Rattle.layout_laws.specs.SameLayout.{SameNumber}
use Rattle.chw_meaning.specs.Values.{History, Value, vec_of, Thunk, closed, element, Thunks, thunk_at, count_of, closed_type, closed_all}
use Rattle.chw_meaning.specs.Steps.{at_index}
use Rattle.chw_meaning.specs.Eval.{plus, Forces, f_closed, f_element, e_vec, Runs, r_goes_to, r_looks_up, Looks}
use Rattle.chw_meaning.proofs.Widths.{width_once}
use Rattle.carrying.specs.Carrying.{Holds, holds_elements, Shows, shows_nothing, shows_bits, CarryEach, carry_none, carry_each}
use Rattle.carrying.proofs.Spines.{prim_whole}
use Rattle.carrying.proofs.Terms.{shows_through}
use Rattle.carrying.proofs.Widths.{held_shows, shown_length}
use Rattle.carrying.proofs.Words.{shown_looks}

pub vector_carries : (p : Program) (n t u : TypeTree) (w : ℕ) (es : Terms) (γ : Thunks) (δ : TypeTrees) (b : List Bool) → HasWidth p.datas (vector n t) w → count_of (closed_all es γ δ) ≡ closed_value n → CarryEach p t (closed_all es γ δ) b → (h : History) → Shows p (vector n t) (closed (vec_lit u es) γ δ) h b
vector_carries p n t u w es γ δ b has many each h = held_shows w has (f_closed e_vec) (holds_elements many each)

-- the element of this number carries these bits
record ElementAt (p : Program) (t : TypeTree) (ths : Thunks) (j : ℕ) (b : List Bool) : Type 0 where
  thunk : Thunk
  at : thunk_at ths j ≡ Some thunk
  carries : (h : History) → Shows p t thunk h b

element_at : {p : Program} {t : TypeTree} {ths : Thunks} {b : List Bool} (w j : ℕ) → HasWidth p.datas t w → CarryEach p t ths b → j < count_of ths → ElementAt p t ths j (take w (drop (j * w) b))
element_at w j has carry_none l = absurd (omega (arith, l))
element_at {p} {t} w zero has (carry_each {th = th} {ths = ths} {b = b} {more = more} f fs) l =
    let many : length b ≡ w = shown_length (f []) has in
    let start : 0 * w ≡ 0 = omega arith in
    let same : b ≡ take w (drop (0 * w) (b ++ more)) =
    sym (take-append_seam b more) ∙ (λ i. take (many i) (drop (sym start i) (b ++ more))) in
    record { thunk = th; at = refl; carries = λ h. subst (λ x. Shows p t th h x) same (f h) }
element_at {p} {t} w (suc j) has (carry_each {th = th} {ths = ths} {b = b} {more = more} f fs) l =
    let many : length b ≡ w = shown_length (f []) has in
    let next : length b + j * w ≡ suc j * w = omega (arith, many) in
    let rest = element_at w j has fs (omega (arith, l)) in
    let same : take w (drop (j * w) more) ≡ take w (drop (suc j * w) (b ++ more)) =
    ap (take w) (sym (drop-append-add b more (j * w)) ∙ ap (λ k. drop k (b ++ more)) next) in
    record { thunk = rest.thunk; at = rest.at; carries = λ h. subst (λ x. Shows p t rest.thunk h x) same (rest.carries h) }

-- a value that holds a vector's bits is a vector
record IsVector (p : Program) (n t : TypeTree) (v : Value) (b : List Bool) : Type 0 where
  ths : Thunks
  is : v ≡ vec_of ths
  many : count_of ths ≡ closed_value n
  each : CarryEach p t ths b

is_vector : {p : Program} {n t : TypeTree} {v : Value} {b : List Bool} → Holds p (vector n t) v b → IsVector p n t v b
is_vector (holds_elements {ths = ths} many each) = record { ths = ths; is = refl; many = many; each = each }

-- of a vector of width 0 with elements these have width 0
no_width : (n a : ℕ) → 0 < n → 0 ≡ n * a → a ≡ 0
no_width (suc n) zero l e = refl
no_width (suc n) (suc a) l e = absurd (let m : suc n * suc a ≡ suc a + n * suc a = omega arith in omega (arith, e, m))
no_width zero a l e = absurd (omega (arith, l))

pub element_shows : (p : Program) (n t : TypeTree) (w j : ℕ) (th : Thunk) (h : History) (b : List Bool) → HasWidth p.datas t w → j < closed_value n → Shows p (vector n t) th h b → Shows p t (element j th) h (take w (drop (j * w) b))
element_shows p n t w j th h b has l (shows_nothing z) =
    let x = element_width z in
    let same : w ≡ 0 = width_once has x.element ∙ no_width (closed_value n) x.a (omega (arith, l)) x.is in
    subst (λ k. Shows p t (element j th) h (take k (drop (j * w) []))) (sym same) (shows_nothing (subst (λ k. HasWidth p.datas t k) same has))
element_shows p n t w j th h b has l (shows_bits {n = m} wide f held) =
    let v = is_vector held in
    let at = element_at w j has v.each (omega (arith, l, v.many)) in
    let force = subst (λ v. Forces p m th h v) v.is f in
    shows_through (λ k x g. (suc (plus m k), f_element force at.at g)) (at.carries h)

number_typed : SameNumber → (t : TypeTree) (δ : TypeTrees) → closed_value (evaluated (closed_type t δ)) ≡ closed_value (closed_type t δ)
number_typed same t δ = sym (same (closed_type t δ) (evaluated (closed_type t δ)) (same_evaluated (closed_type t δ)))

pub vget_shows : (p : Program) (n t i m a : TypeTree) (w j : ℕ) (v : TermTree) (γ : Thunks) (δ : TypeTrees) (h : History) (b : List Bool) → SameNumber → HasWidth p.datas t w → closed_value (closed_type i δ) ≡ j → j < closed_value n → Shows p (vector n t) (closed v γ δ) h b → Shows p t (closed (applied (prim VGet) (types_then (i ∷ m ∷ a ∷ []) (v ∷ []))) γ δ) h (take w (drop (j * w) b))
vget_shows p n t i m a w j v γ δ h b same has is l s =
    let number : j ≡ closed_value (evaluated (closed_type i δ)) = sym (number_typed same i δ ∙ is) in
    shows_through
    (λ k x f.
    let force = subst (λ j. Forces p k (element j (closed v γ δ)) h x) number f in
    let d = prim_whole p VGet γ δ h (i ∷ m ∷ a ∷ []) (v ∷ []) refl refl k x (r_goes_to force) in
    (d.0, f_closed d.1))
    (element_shows p n t w j (closed v γ δ) h b has l s)

-- what an element at an index does
at_index_runs : {p : Program} {n m : ℕ} {h : History} {x : Value} (last k : ℕ) (v i : Thunk) (b : List Bool) → Looks p m k i h b → Forces p n (element (min (number_of b) last) v) h x → (r : ℕ) × Runs p r (at_index last k v i) h x
at_index_runs {p} {n} {m} {h} {x} zero k v i b looks f =
    let first : min (number_of b) 0 ≡ 0 = omega arith in
    (n, r_goes_to (subst (λ j. Forces p n (element j v) h x) first f))
at_index_runs {n = n} {m = m} (suc last) k v i b looks f = (plus m n, r_looks_up looks f)

pub vat_shows : (p : Program) (n t m k a : TypeTree) (s : Scalar) (c : TypeTree) (w last : ℕ) (v i : TermTree) (γ : Thunks) (δ : TypeTrees) (h : History) (b x : List Bool) → SameNumber → HasWidth p.datas t w → closed_value (closed_type m δ) ≡ last → closed_value n ≡ suc last → Shows p (vector n t) (closed v γ δ) h b → closed_value (closed_type k δ) ≡ length x → Shows p (scalar s c) (closed i γ δ) h x → Shows p t (closed (applied (prim VAt) (types_then (m ∷ k ∷ a ∷ []) (v ∷ i ∷ []))) γ δ) h (take w (drop (min (number_of x) last * w) b))
vat_shows p n t m k a s c w last v i γ δ h b x same has is many shown long index =
    let j = min (number_of x) last in
    let number : last ≡ closed_value (evaluated (closed_type m δ)) = sym (number_typed same m δ ∙ is) in
    let width : length x ≡ closed_value (evaluated (closed_type k δ)) = sym (number_typed same k δ ∙ long) in
    let below : j < closed_value n = omega (arith, many) in
    let looks = shown_looks index in
    shows_through
    (λ r y f.
    let run = at_index_runs last (length x) (closed v γ δ) (closed i γ δ) x looks.1 f in
    let step = subst (λ n. Runs p run.0 (at_index n (closed_value (evaluated (closed_type k δ))) (closed v γ δ) (closed i γ δ)) h y) number
    (subst (λ k. Runs p run.0 (at_index last k (closed v γ δ) (closed i γ δ)) h y) width run.1) in
    let d = prim_whole p VAt γ δ h (m ∷ k ∷ a ∷ []) (v ∷ i ∷ []) refl refl run.0 y step in
    (d.0, f_closed d.1))
    (element_shows p n t w j (closed v γ δ) h b has below shown)
