-- The wires of variables that come in turn before others.
use Rattle.std.proofs.Common.{◌≡◌, ℕ, zero, suc, ◌+◌, ◌-◌, ◌<◌, true, arith, List, [], ◌∷◌, ◌++◌, length, reverse, refl, sym, ap, ◌∙◌, append_assoc}
use Rattle.std.specs.Prelude.{nat_lt}
use Rattle.std.proofs.lemmas.Bool.{or_left, or_right, and_from, lt-ltb}
use Rattle.std.proofs.lemmas.List.{length-map, reverse-append}
use Rattle.chw_base.specs.declared.index.WireId.{WireId}
use Rattle.chw_types.specs.declared.declarations.Data.{Data}
use Rattle.chw_types.specs.Arguments.{arguments}
use Rattle.chw_types.specs.TypeMoves.{sub}
use Rattle.chw_types.specs.TypeTree.{TypeTree}
use Rattle.chw_terms.specs.declared.term.Pattern.{Pattern}
use Rattle.chw_terms.specs.Occurs.{occurs, occurs_group}
use Rattle.chw_terms.specs.TermTree.{Group, no_bindings, bind, binders, size_of}
use Rattle.chw_typing.specs.HeadTypes.{PatternOf, of_con, of_lit, of_any}
use Rattle.chw_typing.specs.Scopes.{declared}
use Rattle.net_built.specs.Data.{HaveWidths, variables_from}
use Rattle.net_built.specs.Loops.{side_at, refers}
use Rattle.net_built.specs.Terms.{Variable, wires_at}
use Rattle.net_built.specs.Wires.{wire_count}
use Rattle.net_built.proofs.ValueSizes.{no_more}
use Rattle.net_ready.specs.Drafts.{on_wires}
use Rattle.net_ready.proofs.Agreed.{wires_in}

-- the first of a list in reverse comes last
reverse_onto : (x : Variable) (b s : List Variable) → reverse (x ∷ b) ++ s ≡ reverse b ++ (x ∷ s)
reverse_onto x b s = ap (λ (l : List Variable). l ++ s) (reverse-append (x ∷ []) b) ∙ append_assoc (reverse b) (x ∷ []) s

wires_along : {s u : List Variable} (x : ℕ) → s ≡ u → wires_at s x ≡ wires_at u x
wires_along x e = ap (λ (s : List Variable). wires_at s x) e

next_wires : (v w : Variable) (s u b c : List Variable) (y : ℕ)
    → ((k : ℕ) → length (v ∷ b) ≡ suc k + y → wires_at (v ∷ b) k ≡ wires_at (w ∷ c) k)
    → ((z : ℕ) → y ≡ z + length (v ∷ b) → wires_at s z ≡ wires_at u z)
    → (z : ℕ) → y ≡ z + length b → wires_at (v ∷ s) z ≡ wires_at (w ∷ u) z
next_wires v w s u b c y inner outer zero h = inner 0 (omega (arith, h))
next_wires v w s u b c y inner outer (suc z) h = outer z (omega (arith, h))

-- a variable is one of several that come in turn before others, or one of those
pub onto_wires : (b c s u : List Variable) (y : ℕ) → length b ≡ length c
    → ((k : ℕ) → length b ≡ suc k + y → wires_at b k ≡ wires_at c k)
    → ((z : ℕ) → y ≡ z + length b → wires_at s z ≡ wires_at u z)
    → wires_at (reverse b ++ s) y ≡ wires_at (reverse c ++ u) y
onto_wires [] [] s u y e inner outer = outer y (omega arith)
onto_wires [] (w ∷ c) s u y e inner outer = no_more e
onto_wires (v ∷ b) [] s u y e inner outer = no_more (sym e)
onto_wires (v ∷ b) (w ∷ c) s u y e inner outer =
    let fewer : length b ≡ length c = omega (arith, e) in
    let within : (k : ℕ) → length b ≡ suc k + y → wires_at b k ≡ wires_at c k = λ k h. inner (suc k) (omega (arith, h)) in
    wires_along y (reverse_onto v b s) ∙ onto_wires b c (v ∷ s) (w ∷ u) y fewer within (next_wires v w s u b c y inner outer) ∙ sym (wires_along y (reverse_onto w c u))

-- a variable is one of the front, or one of those behind
pub front_wires : (front s u : List Variable) (y : ℕ) → ((z : ℕ) → y ≡ z + length front → wires_at s z ≡ wires_at u z) → wires_at (front ++ s) y ≡ wires_at (front ++ u) y
front_wires [] s u y outer = outer y (omega arith)
front_wires (v ∷ front) s u zero outer = refl
front_wires (v ∷ front) s u (suc y) outer = front_wires front s u y (λ z h. outer z (omega (arith, h)))

pub variables_count : (datas : List Data) (ts : List TypeTree) (ws : List ℕ) (n : ℕ) → HaveWidths datas ts ws → length (variables_from n ts ws) ≡ length ts
variables_count datas [] [] n h = refl
variables_count datas [] (w ∷ ws) n h = absurd h
variables_count datas (t ∷ ts) [] n h = absurd h
variables_count datas (t ∷ ts) (w ∷ ws) n h = ap suc (variables_count datas ts ws (n + wire_count (w ∷ [])) h.1)

pub pattern_count : {datas : List Data} {u : TypeTree} {q : Pattern} {fs : List TypeTree} → PatternOf datas u q fs → length fs ≡ binders q
pattern_count (of_con {ts = ts} it i j k) = length-map it.decl.fields (λ f. sub f (arguments ts)) ∙ k
pattern_count (of_lit l s) = refl
pattern_count of_any = refl

-- what occurs in a right side occurs in the group
pub side_in_group : (g : Group) (i y : ℕ) → i < size_of g → occurs (side_at g i) y ≡ true → occurs_group g y ≡ true
unfolding occurs occurs_group
side_in_group no_bindings i y l h = absurd (omega (arith, l))
side_in_group (bind t e g) zero y l h = or_left (occurs e y) (occurs_group g y) h
side_in_group (bind t e g) (suc i) y l h = or_right (occurs e y) (occurs_group g y) (side_in_group g i y (omega (arith, l)) h)

-- a variable that occurs in a right side and is that of a binding is referred to
pub same_place : (g : Group) (i k y : ℕ) → size_of g ≡ suc k + y → occurs (side_at g i) y ≡ true → refers g i k ≡ true
same_place g i k y e h =
    let place : size_of g - 1 - k ≡ y = omega (arith, e) in
    let below : k < size_of g = omega (arith, e) in
    and_from (nat_lt k (size_of g)) (occurs (side_at g i) (size_of g - 1 - k)) (lt-ltb k (size_of g) below) (ap (λ z. occurs (side_at g i) z) place ∙ h)

pub bound_count : (g : Group) (wires : List (List WireId)) → length (on_wires (declared g) wires) ≡ size_of g
bound_count no_bindings wires = refl
bound_count (bind t e g) [] = ap suc (bound_count g [])
bound_count (bind t e g) (w ∷ wires) = ap suc (bound_count g wires)

-- the wires of a binding among the variables of a letrec
pub bound_wires : (g : Group) (wires : List (List WireId)) (k : ℕ) → k < size_of g → wires_at (on_wires (declared g) wires) k ≡ wires_in wires k
bound_wires no_bindings wires k l = absurd (omega (arith, l))
bound_wires (bind t e g) [] zero l = refl
bound_wires (bind t e g) [] (suc k) l = bound_wires g [] k (omega (arith, l))
bound_wires (bind t e g) (w ∷ wires) zero l = refl
bound_wires (bind t e g) (w ∷ wires) (suc k) l = bound_wires g wires k (omega (arith, l))
