-- Primitives that apply a function to each element, or make the elements: their unrolled forms.
use Rattle.std.specs.Prelude.{Some}
use Rattle.std.proofs.Common.{◌≡◌, ◌≤◌, ℕ, suc, zero, Bool, List, [], ◌∷◌, map, sym, subst, arith, length, ◌∙◌}
use Rattle.chw_base.specs.declared.limits.TheConstants.{SCALAR_BITS, VECTOR_LENGTH}
use Rattle.chw_bits.specs.Bits.{bits_of}
use Rattle.chw_bits.proofs.Numbers.{length-bits_of}
use Rattle.chw_types.specs.declared.kind.Kind.{Kind}
use Rattle.chw_types.specs.declared.kind.Scalar.TheVariants.{U}
use Rattle.chw_types.specs.Polynomials.{greatest}
use Rattle.chw_types.specs.TypeMoves.{sub}
use Rattle.chw_types.specs.TypeTree.{TypeTree, ty_var, scalar, vector, fun, TypeTrees}
use Rattle.chw_prims.specs.declared.prim.Primitive.{Primitive as Prim}
use Rattle.chw_prims.specs.declared.row.Row.TheVariants.{Mapped, Zipped, Generated, Replicated}
use Rattle.chw_terms.specs.declared.program.Program.{Program}
use Rattle.chw_terms.specs.Evaluated.{evaluated}
use Rattle.chw_terms.specs.TermTree.{TermTree, var, app, lit}
use Rattle.chw_terms.specs.TermView.{terms_of}
use Rattle.chw_terms.specs.Unrolled.{each as list_each, vec_of as vector_term, element as element_term, index, body_of}
use Rattle.chw_layout.specs.Datum.{word}
use Rattle.chw_layout.specs.Measured.{closed_value}
use Rattle.chw_meaning.specs.Values.{closed, applied, element, known, Thunks}
use Rattle.chw_meaning.specs.Steps.{by_row, each_from}
use Rattle.chw_meaning.specs.Eval.{e_lit, f_closed, f_known}
use Rattle.rewriting.specs.Origins.{with_origins, with_origins_all}
use Rattle.acts.specs.Levels.{Levels, thunk_has, ThunksAct}
use Rattle.acts.specs.Acts.{acts_from}
use Rattle.acts.proofs.Forms.{bits_act}
use Rattle.acts.proofs.Levels.{IsLevels, from_turns}
use Rattle.act_rules.proofs.NameElements.{number_closed}
use Rattle.act_rules.proofs.Payloads.{app_at}
use Rattle.unroll_laws.proofs.Sized.{IsNumber, Sized1, is_sized_1, sized_view_1, Sized2, is_sized_2, sized_view_2, Sized3, is_sized_3, sized_view_3, TwiceSized, is_twice_sized, twice_sized_view}
use Rattle.act_rules.proofs.Given.{at_env, given_at}
use Rattle.act_rules.proofs.PrimElements.{TermSteps, element_named, vector_steps, each_named}
use Rattle.act_rules.proofs.Shapes.{WithinLimits, RowUnrolls, on_one, on_two, on_three}
use Rattle.act_rules.proofs.Words.{number_up}

-- a number within a limit, in any environment
pub closed_within : (most : ℕ) (t : TypeTree) (n : ℕ) (δ : TypeTrees) → IsNumber t n → n ≤ most → most ≤ greatest → closed_value (at_env δ t) ≡ n
closed_within most t n δ e l m = number_closed t δ n e (omega (arith, l, m))

-- vmap f v
abbrev mapped_body : Kind → ℕ → TypeTree → TypeTree → TermTree
mapped_body k n a b = vector_term b (list_each n (λ j. app (var 1) (element_term k n a (var 0) j)))

mapped_at : (p : Program) (k : Kind) {types : List TypeTree} {body : TermTree} → Sized2 (mapped_body k) types body → WithinLimits (Mapped k) types → RowUnrolls p (Mapped k) (fun (ty_var 1) (ty_var 0) ∷ vector (ty_var 2) (ty_var 1) ∷ []) (vector (ty_var 2) (ty_var 0)) types body
unfolding sub evaluated with_origins
mapped_at p k (is_sized_2 {size = size} {a = a} {b = b} m e) limits q o n γ δ xs all =
    on_two p (acts_from p n) (vector size' a') (fun a' b') (closed (var 0) γ δ) (closed (var 1) γ δ)
    (λ xs. TermSteps p (acts_from p n) (vector size' b') (with_origins o (mapped_body k m (evaluated a) (evaluated b))) γ δ (by_row (Mapped k) q (given_at δ (size ∷ a ∷ b ∷ [])) xs))
    (λ f v fs vs. vector_steps l size' b' (evaluated b) (with_origins_all o (terms_of (list_each m term))) γ δ (each_from zero (closed_value size') (λ j. applied f (element j v)))
    (each_named p (acts_from p n) o γ δ b' term (λ j. applied f (element j v)) m (closed_value size') (closed_within VECTOR_LENGTH size m δ e within (omega arith))
    (λ j less. app_at l a' b' (var 1) (element_term k m (evaluated a) (var 0) j) γ δ f (element j v) fs (element_named l k m (evaluated a) (var 0) γ δ size' a' j v (omega (arith, less, within)) vs))))
    xs all
  where
    l : IsLevels p (acts_from p n)
    l = from_turns p n

    size' : TypeTree
    size' = at_env δ size

    a' : TypeTree
    a' = at_env δ a

    b' : TypeTree
    b' = at_env δ b

    term : ℕ → TermTree
    term j = app (var 1) (element_term k m (evaluated a) (var 0) j)

    within : m ≤ VECTOR_LENGTH
    within = number_up VECTOR_LENGTH size m e limits.short.0

pub mapped : (p : Program) (k : Kind) (types : List TypeTree) (body : TermTree) → body_of (Mapped k) (map evaluated types) ≡ Some body → WithinLimits (Mapped k) types → RowUnrolls p (Mapped k) (fun (ty_var 1) (ty_var 0) ∷ vector (ty_var 2) (ty_var 1) ∷ []) (vector (ty_var 2) (ty_var 0)) types body
mapped p k types body e = mapped_at p k (sized_view_2 (mapped_body k) types body e)

-- vzipWith f v w
abbrev zipped_body : Kind → ℕ → TypeTree → TypeTree → TypeTree → TermTree
zipped_body k n a b c = vector_term c (list_each n (λ j. app (app (var 2) (element_term k n a (var 1) j)) (element_term k n b (var 0) j)))

zipped_at : (p : Program) (k : Kind) {types : List TypeTree} {body : TermTree} → Sized3 (zipped_body k) types body → WithinLimits (Zipped k) types → RowUnrolls p (Zipped k) (fun (ty_var 2) (fun (ty_var 1) (ty_var 0)) ∷ vector (ty_var 3) (ty_var 2) ∷ vector (ty_var 3) (ty_var 1) ∷ []) (vector (ty_var 3) (ty_var 0)) types body
unfolding sub evaluated with_origins
zipped_at p k (is_sized_3 {size = size} {a = a} {b = b} {c = c} m e) limits q o n γ δ xs all =
    on_three p (acts_from p n) (vector size' b') (vector size' a') (fun a' (fun b' c')) (closed (var 0) γ δ) (closed (var 1) γ δ) (closed (var 2) γ δ)
    (λ xs. TermSteps p (acts_from p n) (vector size' c') (with_origins o (zipped_body k m (evaluated a) (evaluated b) (evaluated c))) γ δ (by_row (Zipped k) q (given_at δ (size ∷ a ∷ b ∷ c ∷ [])) xs))
    (λ f v w fs vs ws. vector_steps l size' c' (evaluated c) (with_origins_all o (terms_of (list_each m term))) γ δ (each_from zero (closed_value size') (λ j. applied (applied f (element j v)) (element j w)))
    (each_named p (acts_from p n) o γ δ c' term (λ j. applied (applied f (element j v)) (element j w)) m (closed_value size') (closed_within VECTOR_LENGTH size m δ e within (omega arith))
    (λ j less. app_at l b' c' (app (var 2) (element_term k m (evaluated a) (var 1) j)) (element_term k m (evaluated b) (var 0) j) γ δ (applied f (element j v)) (element j w)
    (app_at l a' (fun b' c') (var 2) (element_term k m (evaluated a) (var 1) j) γ δ f (element j v) fs (element_named l k m (evaluated a) (var 1) γ δ size' a' j v (omega (arith, less, within)) vs))
    (element_named l k m (evaluated b) (var 0) γ δ size' b' j w (omega (arith, less, within)) ws))))
    xs all
  where
    l : IsLevels p (acts_from p n)
    l = from_turns p n

    size' : TypeTree
    size' = at_env δ size

    a' : TypeTree
    a' = at_env δ a

    b' : TypeTree
    b' = at_env δ b

    c' : TypeTree
    c' = at_env δ c

    term : ℕ → TermTree
    term j = app (app (var 2) (element_term k m (evaluated a) (var 1) j)) (element_term k m (evaluated b) (var 0) j)

    within : m ≤ VECTOR_LENGTH
    within = number_up VECTOR_LENGTH size m e limits.short.0

pub zipped : (p : Program) (k : Kind) (types : List TypeTree) (body : TermTree) → body_of (Zipped k) (map evaluated types) ≡ Some body → WithinLimits (Zipped k) types → RowUnrolls p (Zipped k) (fun (ty_var 2) (fun (ty_var 1) (ty_var 0)) ∷ vector (ty_var 3) (ty_var 2) ∷ vector (ty_var 3) (ty_var 1) ∷ []) (vector (ty_var 3) (ty_var 0)) types body
zipped p k types body e = zipped_at p k (sized_view_3 (zipped_body k) types body e)

-- a literal as a known word
literal_known : {p : Program} {r : Levels} → IsLevels p r → (w : TypeTree) (b : List Bool) → length b ≡ closed_value w → (γ : Thunks) (δ : TypeTrees) → ThunksAct p r (scalar U w) (closed (lit U b) γ δ) (known (word b))
literal_known {p} l w b wide γ δ h' h m v al (f_closed e_lit) = bits_act l (suc zero) U w b (thunk_has p (known (word b)) h) wide (suc zero, f_known)

-- vgenerate f
abbrev generated_body : Kind → ℕ → ℕ → TypeTree → TermTree
generated_body kind n k a = vector_term a (list_each n (λ j. app (var 0) (index k j)))

generated_at : (p : Program) (kind : Kind) {types : List TypeTree} {body : TermTree} → TwiceSized (generated_body kind) types body → WithinLimits (Generated kind) types → RowUnrolls p (Generated kind) (fun (scalar U (ty_var 1)) (ty_var 0) ∷ []) (vector (ty_var 2) (ty_var 0)) types body
unfolding sub evaluated with_origins
generated_at p kind (is_twice_sized {size = size} {other = width} {a = a} m k e f) limits q o n γ δ xs all =
    on_one p (acts_from p n) (fun (scalar U width') a') (closed (var 0) γ δ)
    (λ xs. TermSteps p (acts_from p n) (vector size' a') (with_origins o (generated_body kind m k (evaluated a))) γ δ (by_row (Generated kind) q (given_at δ (size ∷ width ∷ a ∷ [])) xs))
    (λ g gs. vector_steps l size' a' (evaluated a) (with_origins_all o (terms_of (list_each m term))) γ δ (each_from zero (closed_value size') (λ j. applied g (known (word (bits_of (closed_value width') j)))))
    (each_named p (acts_from p n) o γ δ a' term (λ j. applied g (known (word (bits_of (closed_value width') j)))) m (closed_value size') (closed_within VECTOR_LENGTH size m δ e within (omega arith))
    (λ j less. app_at l (scalar U width') a' (var 0) (index k j) γ δ g (known (word (bits_of (closed_value width') j))) gs
    (subst (λ i. ThunksAct p (acts_from p n) (scalar U width') (closed (index k j) γ δ) (known (word (bits_of i j)))) (sym wide) (literal_known l width' (bits_of k j) (length-bits_of k j ∙ sym wide) γ δ)))))
    xs all
  where
    l : IsLevels p (acts_from p n)
    l = from_turns p n

    size' : TypeTree
    size' = at_env δ size

    width' : TypeTree
    width' = at_env δ width

    a' : TypeTree
    a' = at_env δ a

    term : ℕ → TermTree
    term j = app (var 0) (index k j)

    within : m ≤ VECTOR_LENGTH
    within = number_up VECTOR_LENGTH size m e limits.short.0

    wide : closed_value width' ≡ k
    wide = closed_within SCALAR_BITS width k δ f (number_up SCALAR_BITS width k f limits.narrow.0) (omega arith)

pub generated : (p : Program) (kind : Kind) (types : List TypeTree) (body : TermTree) → body_of (Generated kind) (map evaluated types) ≡ Some body → WithinLimits (Generated kind) types → RowUnrolls p (Generated kind) (fun (scalar U (ty_var 1)) (ty_var 0) ∷ []) (vector (ty_var 2) (ty_var 0)) types body
generated p kind types body e = generated_at p kind (twice_sized_view (generated_body kind) types body e)

-- vreplicate x
abbrev replicated_body : Kind → ℕ → TypeTree → TermTree
replicated_body kind n a = vector_term a (list_each n (λ j. var 0))

replicated_at : (p : Program) (kind : Kind) {types : List TypeTree} {body : TermTree} → Sized1 (replicated_body kind) types body → WithinLimits (Replicated kind) types → RowUnrolls p (Replicated kind) (ty_var 0 ∷ []) (vector (ty_var 1) (ty_var 0)) types body
unfolding sub evaluated with_origins
replicated_at p kind (is_sized_1 {size = size} {a = a} m e) limits q o n γ δ xs all =
    on_one p (acts_from p n) a' (closed (var 0) γ δ)
    (λ xs. TermSteps p (acts_from p n) (vector size' a') (with_origins o (replicated_body kind m (evaluated a))) γ δ (by_row (Replicated kind) q (given_at δ (size ∷ a ∷ [])) xs))
    (λ x acts. vector_steps (from_turns p n) size' a' (evaluated a) (with_origins_all o (terms_of (list_each m (λ j. var 0)))) γ δ (each_from zero (closed_value size') (λ j. x))
    (each_named p (acts_from p n) o γ δ a' (λ j. var 0) (λ j. x) m (closed_value size') (closed_within VECTOR_LENGTH size m δ e (number_up VECTOR_LENGTH size m e limits.short.0) (omega arith)) (λ j less. acts)))
    xs all
  where
    size' : TypeTree
    size' = at_env δ size

    a' : TypeTree
    a' = at_env δ a

pub replicated : (p : Program) (kind : Kind) (types : List TypeTree) (body : TermTree) → body_of (Replicated kind) (map evaluated types) ≡ Some body → WithinLimits (Replicated kind) types → RowUnrolls p (Replicated kind) (ty_var 0 ∷ []) (vector (ty_var 1) (ty_var 0)) types body
replicated p kind types body e = replicated_at p kind (sized_view_1 (replicated_body kind) types body e)
