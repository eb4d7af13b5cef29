-- The kept parts, from step to step.
use Rattle.std.specs.Prelude.{◌≡◌, ℕ, ◌<◌, ◌≤◌, Option, Some, None, Result, Ok, Err, IfOk, List, [], ◌∷◌, refl}
use Rattle.std.proofs.Common.{arith, sym, ap, ◌∙◌, subst}
use Rattle.chw_base.specs.declared.limits.TheConstants.{NESTING}
use Rattle.chw_grammar.specs.declared.program.Tree.{Tree}
use Rattle.chw_grammar.specs.Height.{tree_height}
use Rattle.parser_parts.specs.declared.action.Action.{Action}
use Rattle.parser_parts.specs.declared.heights.Measure.{Measure}
use Rattle.parser_parts.specs.declared.parts.Parts.{Parts}
use Rattle.parser_parts.specs.declared.value.Value.{Value}
use Rattle.parser_parts.specs.declared.value.Value.TheVariants.{Whole}
use Rattle.parser_parts.specs.Actions.{made}
use Rattle.parser_parts.specs.Heights.{value_height, measure, measures, highest, newest, others, raised, shape_of}
use Rattle.parser_parts.specs.Parts.{Kept, Stands, IsPut, IsActed}
use Rattle.parser_parts.proofs.Peaks.{newest_low, others_low, still_high}
use Rattle.parser_parts.proofs.Raised.{heights_raised}

abbrev StandsFor : Option (List Value) → List Measure → List Value → Type 0
StandsFor values ms vs = (ms ≡ measures vs) × Kept values vs (highest (measures vs))

put_kept : (v : Value) (old new : Option (List Value)) (vs : List Value) → value_height v ≤ 1 → IsPut v old new
    → Kept old vs (highest (measures vs)) → Kept new (v ∷ vs) (highest (measures (v ∷ vs)))
put_kept v (Some us) new vs low e k =
    let s : us ≡ vs = k.0 in
    let f : List Value → Option (List Value) = λ ws. Some (v ∷ ws) in
    let le : highest (measures (v ∷ vs)) ≤ NESTING = omega (arith, k.1, low) in
    subst (λ (z : Option (List Value)). Kept z (v ∷ vs) (highest (measures (v ∷ vs)))) (sym (e ∙ ap f s)) (refl, le)
put_kept v None new vs low e k =
    let gt : NESTING < highest (measures (v ∷ vs)) = omega (arith, k) in
    subst (λ (z : Option (List Value)). Kept z (v ∷ vs) (highest (measures (v ∷ vs)))) (sym e) gt

pub put_stands : (v : Value) (old new : Parts) → value_height v ≤ 1 → IsPut v old.values new.values → new.heights ≡ measure v ∷ old.heights
    → (vs : List Value) → Stands old vs → Stands new (v ∷ vs)
put_stands v old new low put e vs s = record {
  heights = e ∙ ap (λ (z : List Measure). measure v ∷ z) s.heights;
  kept = put_kept v old.values new.values vs low put s.kept;
}

raised_is : (x : Action) (ms : List Measure) (old : Parts) (vs us : List Value) → Stands old vs → made x vs ≡ Some us
    → ms ≡ raised (shape_of x) old.heights → ms ≡ measures us
raised_is x ms old vs us s m e = e ∙ (ap (raised (shape_of x)) s.heights ∙ heights_raised x vs us m)

-- a part became too high, and all are let go of
pub let_go : (x : Action) (old new : Parts) (h : ℕ) → new.heights ≡ raised (shape_of x) old.heights → h ≡ (newest new.heights).height
    → NESTING < h → new.values ≡ None → (vs us : List Value) → Stands old vs → made x vs ≡ Some us → Stands new us
let_go x old new h e f gt n vs us s m =
    let is : new.heights ≡ measures us = raised_is x new.heights old vs us s m e in
    let top : (newest new.heights).height ≡ (newest (measures us)).height = ap (λ (z : List Measure). (newest z).height) is in
    let high : NESTING < highest (measures us) = omega (arith, newest_low (measures us), top, f, gt) in
    record { heights = is; kept = subst (λ (z : Option (List Value)). Kept z us (highest (measures us))) (sym n) high }

acted_kept : (x : Action) (old new : Option (List Value)) (vs us : List Value) → made x vs ≡ Some us → IsActed x old new
    → (NESTING < highest (measures vs) → NESTING < highest (measures us)) → (highest (measures vs) ≤ NESTING → highest (measures us) ≤ NESTING)
    → Kept old vs (highest (measures vs)) → Kept new us (highest (measures us))
acted_kept x (Some ws) new vs us m a high low k =
    let s : made x ws ≡ Some us = ap (made x) k.0 ∙ m in
    subst (λ (z : Option (List Value)). Kept z us (highest (measures us))) (sym (a us s)) (refl, low k.1)
acted_kept x None new vs us m a high low k = subst (λ (z : Option (List Value)). Kept z us (highest (measures us))) (sym a) (high k)

top_or_others : (ms : List Measure) → (newest ms).height ≤ NESTING → highest (others ms) ≤ NESTING → highest ms ≤ NESTING
top_or_others [] a b = omega arith
top_or_others (m ∷ ms) a b = omega arith

pub acted_stands : (x : Action) (old new : Parts) (h : ℕ) → new.heights ≡ raised (shape_of x) old.heights → h ≡ (newest new.heights).height
    → h ≤ NESTING → IsActed x old.values new.values → (vs us : List Value) → Stands old vs → made x vs ≡ Some us → Stands new us
acted_stands x old new h e f le a vs us s m =
    let is : new.heights ≡ measures us = raised_is x new.heights old vs us s m e in
    let was : raised (shape_of x) (measures vs) ≡ measures us = heights_raised x vs us m in
    let top : (newest new.heights).height ≡ (newest (measures us)).height = ap (λ (z : List Measure). (newest z).height) is in
    let high : NESTING < highest (measures vs) → NESTING < highest (measures us) =
    λ gt. subst (λ (z : List Measure). NESTING < highest z) was (still_high (shape_of x) (measures vs) gt) in
    let behind : highest (others (measures us)) ≤ highest (measures vs) =
    subst (λ (z : List Measure). highest (others z) ≤ highest (measures vs)) was (others_low (shape_of x) (measures vs)) in
    let low : highest (measures vs) ≤ NESTING → highest (measures us) ≤ NESTING =
    λ fits. top_or_others (measures us) (omega (arith, top, f, le)) (omega (arith, behind, fits)) in
    record { heights = is; kept = acted_kept x old.values new.values vs us m a high low s.kept }

pub if_done : {T E A B : Type 0} (r : Result T E) → IfOk r (λ (z : T). A) → (A → B) → IfOk r (λ (z : T). B)
if_done (Ok x) h f = f h
if_done (Err e) h f = tt

-- the tree at the end

pub too_high : (values : Option (List Value)) (tree : Tree) → values ≡ None → Kept values (Whole tree ∷ []) (highest (measures (Whole tree ∷ [])))
    → NESTING < tree_height tree
too_high values tree e k =
    let high : NESTING < highest (measures (Whole tree ∷ [])) =
    subst (λ (z : Option (List Value)). Kept z (Whole tree ∷ []) (highest (measures (Whole tree ∷ [])))) e k in
    omega (arith, high)

pub low_tree : (values : Option (List Value)) (us rest : List Value) (v : Value) (t tree : Tree) → values ≡ Some us → us ≡ v ∷ rest → v ≡ Whole t
    → Kept values (Whole tree ∷ []) (highest (measures (Whole tree ∷ []))) → (t ≡ tree) × (tree_height tree ≤ NESTING)
low_tree values us rest v t tree e f g k =
    let both : (us ≡ Whole tree ∷ []) × (highest (measures (Whole tree ∷ [])) ≤ NESTING) =
    subst (λ (z : Option (List Value)). Kept z (Whole tree ∷ []) (highest (measures (Whole tree ∷ [])))) e k in
    let s : us ≡ Whole tree ∷ [] = both.0 in
    let le = both.1 in
    (cc, omega (arith, le))

pub no_other : (values : Option (List Value)) (us : List Value) (tree : Tree) → values ≡ Some us
    → Kept values (Whole tree ∷ []) (highest (measures (Whole tree ∷ []))) → us ≡ Whole tree ∷ []
no_other values us tree e k =
    let both : (us ≡ Whole tree ∷ []) × (highest (measures (Whole tree ∷ [])) ≤ NESTING) =
    subst (λ (z : Option (List Value)). Kept z (Whole tree ∷ []) (highest (measures (Whole tree ∷ [])))) e k in
    both.0
