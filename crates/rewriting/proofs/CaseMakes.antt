-- What a rule makes of a case, and of an applied function, is one term.
use Rattle.std.proofs.Common.{◌≡◌, ◌∙◌, sym, ap, refl, subst, ℕ, List, [], length}
use Rattle.std.proofs.Common.{Bool}
use Rattle.chw_types.specs.declared.kind.Scalar.{Scalar}
use Rattle.chw_types.specs.TypeTree.{TypeTree}
use Rattle.chw_types.specs.TypeView.{trees_of}
use Rattle.chw_terms.specs.declared.rule.Rule.{Rule}
use Rattle.chw_terms.specs.declared.term.Arg.{Arg}
use Rattle.chw_terms.specs.declared.term.Pattern.{Pattern}
use Rattle.chw_terms.specs.declared.term.Pattern.TheVariants.{OfCon, OfLit, Default}
use Rattle.chw_terms.specs.TermMoves.{shift}
use Rattle.chw_terms.specs.TermTree.{TermTree, var, app, ty_app, letrec, con, lit, case_of, no_bindings, bind, Alts, no_alts, alt}
use Rattle.chw_terms.specs.TermView.{applied}
use Rattle.chw_terms.specs.Unrolled.{named}
use Rattle.chw_typing.specs.Alternatives.{Hides}
use Rattle.chw_typing.specs.HeadTypes.{fields_at}
use Rattle.chw_typing.specs.Scopes.{Setting}
use Rattle.chw_typing.proofs.Patterns.{one_pattern}
use Rattle.chw_typing.specs.Finding.{Finds}
use Rattle.chw_typing.proofs.FoundOnce.{one_found}
use Rattle.chw_typing.specs.Groups.{each_body}
use Rattle.chw_typing.specs.Given.{types_then}
use Rattle.chw_typing.specs.Paths.{Branch}
use Rattle.rewriting.specs.Origins.{Origins}
use Rattle.rewriting.specs.Spots.{Spot}
use Rattle.rewriting.specs.Cases.{OfCases, case_con, case_lit, case_any, case_let, case_case, proj}
use Rattle.rewriting.specs.Functions.{OfFunctions, ty_beta, beta, app_let, app_let_type, app_case, app_case_type}
use Rattle.rewriting.specs.Shapes.{IsTakenBy, by_first, by_later, with_fields, or_body, projections, shift_alts}
use Rattle.rewriting.proofs.Spines.{head_of, head_applied, head_is, args_are, given_same}

-- one type is found, also for a term that is the same
pub one_type_found : {s : Setting} {vars : List TypeTree} {e f : TermTree} {t u : TypeTree} → Finds s [] vars e t → Finds s [] vars f u → e ≡ f → t ≡ u
one_type_found {s} {vars} {u = u} d g q = one_found d (subst (λ e. Finds s [] vars e u) (sym q) g) refl

pub one_function : {o : Origins} {at : Spot} {r r' : Rule} {e f a b : TermTree} → OfFunctions o at r e a → OfFunctions o at r' f b → r ≡ r' → e ≡ f → a ≡ b
one_function ty_beta ty_beta k q = cc
one_function beta beta k q = cc
one_function app_let app_let k q = cc
one_function app_let_type app_let_type k q = cc
one_function (app_case {e = e} {a = a} {alts = alts} d) (app_case {e = f} {a = b} {alts = those} g) k q =
    let arg : a ≡ b = cc in
    let type = one_type_found d g arg in
    let inner : e ≡ f = cc in
    let all : alts ≡ those = cc in
    λ i. letrec (bind (type i) (shift (arg i) 0 1) no_bindings) (case_of (shift (inner i) 0 1) (each_body (λ n f. app f (var n)) (shift_alts (all i) 0 1)))
one_function (app_case_type {e = e} {alts = alts} {a = a}) (app_case_type {e = f} {alts = those} {a = b}) k q =
    let arg : a ≡ b = cc in
    let inner : e ≡ f = cc in
    let all : alts ≡ those = cc in
    λ i. case_of (inner i) (each_body (λ n f. ty_app f (arg i)) (all i))
one_function ty_beta beta k q = absurd cc
one_function ty_beta app_let k q = absurd cc
one_function ty_beta app_let_type k q = absurd cc
one_function ty_beta (app_case g) k q = absurd cc
one_function ty_beta app_case_type k q = absurd cc
one_function beta ty_beta k q = absurd cc
one_function beta app_let k q = absurd cc
one_function beta app_let_type k q = absurd cc
one_function beta (app_case g) k q = absurd cc
one_function beta app_case_type k q = absurd cc
one_function app_let ty_beta k q = absurd cc
one_function app_let beta k q = absurd cc
one_function app_let app_let_type k q = absurd cc
one_function app_let (app_case g) k q = absurd cc
one_function app_let app_case_type k q = absurd cc
one_function app_let_type ty_beta k q = absurd cc
one_function app_let_type beta k q = absurd cc
one_function app_let_type app_let k q = absurd cc
one_function app_let_type (app_case g) k q = absurd cc
one_function app_let_type app_case_type k q = absurd cc
one_function (app_case d) ty_beta k q = absurd cc
one_function (app_case d) beta k q = absurd cc
one_function (app_case d) app_let k q = absurd cc
one_function (app_case d) app_let_type k q = absurd cc
one_function (app_case d) app_case_type k q = absurd cc
one_function app_case_type ty_beta k q = absurd cc
one_function app_case_type beta k q = absurd cc
one_function app_case_type app_let k q = absurd cc
one_function app_case_type app_let_type k q = absurd cc
one_function app_case_type (app_case g) k q = absurd cc

-- the first alternative that takes something is one
one_taken : {p p' : Pattern} {alts alts' : Alts} {b b' : Branch} → IsTakenBy p alts b → IsTakenBy p' alts' b' → p ≡ p' → alts ≡ alts' → b ≡ b'
one_taken (by_first {q = q} {e = e} h) (by_first {q = q'} {e = e'} h') x y =
    let pattern : q ≡ q' = cc in
    let body : e ≡ e' = cc in
    λ i. record { pattern = pattern i; body = body i }
one_taken {p' = p'} (by_first {q = q} h) (by_later {q = q'} n d) x y =
    let pattern : q ≡ q' = cc in
    absurd (n (subst (λ q. Hides q p') pattern (subst (Hides q) x h)))
one_taken {p} (by_later {q = q} n d) (by_first {q = q'} h) x y =
    let pattern : q ≡ q' = cc in
    absurd (n (subst (λ q. Hides q p) (sym pattern) (subst (Hides q') (sym x) h)))
one_taken (by_later {more = more} n d) (by_later {more = more'} n' d') x y =
    let rest : more ≡ more' = cc in
    one_taken d d' x rest

-- a default takes whatever comes to it
default_taken : {p : Pattern} {alts : Alts} {b : Branch} → IsTakenBy p alts b → (f : TermTree) → alts ≡ alt Default f no_alts → b ≡ record { pattern = Default; body = f }
default_taken (by_first {q = q} {e = e} h) f y =
    let pattern : q ≡ Default = cc in
    let body : e ≡ f = cc in
    λ i. record { pattern = pattern i; body = body i }
default_taken {p} (by_later {q = q} n d) f y =
    let pattern : q ≡ Default = cc in
    absurd (n (subst (λ q. Hides q p) (sym pattern) tt))

-- a constructor on arguments is no literal
no_literal : (c : ℕ) (args : List Arg) (r : Scalar) (bits : List Bool) → applied (con c) args ≡ lit r bits → ⊥
no_literal c args r bits q = let e : con c ≡ lit r bits = sym (head_applied args (con c)) ∙ ap head_of q in absurd cc

pub one_case : {o : Origins} {at : Spot} {r r' : Rule} {e f a b : TermTree} → OfCases o at r e a → OfCases o at r' f b → r ≡ r' → e ≡ f → a ≡ b
one_case (case_con c {it = it} types es {alts = alts} {b = b} i t s d) (case_con c' {it = it'} types' es' {alts = alts'} {b = b'} i' t' s' d') k q =
    let whole : applied (con c) (types_then types es) ≡ applied (con c') (types_then types' es') = cc in
    let all : alts ≡ alts' = cc in
    let head : con c ≡ con c' = head_is (con c) (con c') (types_then types es) (types_then types' es') (record { itself = refl; alone = refl }) (record { itself = refl; alone = refl }) whole in
    let args = given_same types types' es es' (args_are (con c) (con c') (types_then types es) (types_then types' es') (record { itself = refl; alone = refl }) (record { itself = refl; alone = refl }) whole) in
    let number : c ≡ c' = cc in
    let is : it ≡ it' = cc in
    let taken = one_taken d d' (λ i. OfCon (record { number = number i }) (length (args.on_terms i))) all in
    λ i. with_fields (taken i).pattern (fields_at (is i) (trees_of (args.on_types i))) (args.on_terms i) (taken i).body
one_case (case_con c types es i t s d) (case_lit {r = r} {bits = bits} g) k q =
    let whole : applied (con c) (types_then types es) ≡ lit r bits = cc in
    absurd (no_literal c (types_then types es) r bits whole)
one_case (case_con c {it = it} types es {alts = alts} i t s d) (case_any {f = f}) k q =
    let all : alts ≡ alt Default f no_alts = cc in
    let taken = default_taken d f all in
    λ i. with_fields (taken i).pattern (fields_at it (trees_of types)) es (taken i).body
one_case (case_lit {r = r} {bits = bits} g) (case_con c types es i t s d) k q =
    let whole : applied (con c) (types_then types es) ≡ lit r bits = cc in
    absurd (no_literal c (types_then types es) r bits whole)
one_case (case_lit {r = r} {bits = bits} {alts = alts} d) (case_lit {r = r'} {bits = bits'} {alts = alts'} d') k q =
    let all : alts ≡ alts' = cc in
    let sort : r ≡ r' = cc in
    let word : bits ≡ bits' = cc in
    ap (λ b. b.body) (one_taken d d' (λ i. OfLit (sort i) (word i)) all)
one_case (case_lit {alts = alts} d) (case_any {f = f}) k q =
    let all : alts ≡ alt Default f no_alts = cc in
    ap (λ b. b.body) (default_taken d f all)
one_case (case_any {f = f}) (case_con c {it = it} types es {alts = alts} i t s d) k q =
    let all : alts ≡ alt Default f no_alts = cc in
    let taken = default_taken d f all in
    sym (λ i. with_fields (taken i).pattern (fields_at it (trees_of types)) es (taken i).body)
one_case (case_any {f = f}) (case_lit {alts = alts} d) k q =
    let all : alts ≡ alt Default f no_alts = cc in
    sym (ap (λ b. b.body) (default_taken d f all))
one_case case_any case_any k q = cc
one_case case_let case_let k q = cc
one_case (case_case {e = e} {inner = inner} {alts = alts} h n) (case_case {e = f} {inner = inside} {alts = those} h' n') k q =
    let looked : e ≡ f = cc in
    let first : inner ≡ inside = cc in
    let all : alts ≡ those = cc in
    λ i. case_of (looked i) (each_body (λ n f. case_of f (shift_alts (all i) 0 n)) (first i))
one_case (proj {x = x} {n = n} {c = c} {e = e} {t = t} {fields = fields} m s p d w v) (proj {x = x'} {n = n'} {c = c'} {e = e'} {t = t'} {fields = fields'} m' s' p' d' w' v') k q =
    let name : x ≡ x' = cc in
    let count : n ≡ n' = cc in
    let number : c ≡ c' = cc in
    let body : e ≡ e' = cc in
    let type : t ≡ t' = cc in
    let same = one_pattern d d' type (λ i. OfCon (number i) (count i)) in
    λ i. or_body (named (same i) (projections (number i) (count i) (name i))) (body i)
one_case (case_con c types es i t s d) case_let k q = absurd cc
one_case (case_lit d) case_let k q = absurd cc
one_case case_any case_let k q = absurd cc
one_case (case_con c types es i t s d) (case_case h' n') k q = absurd cc
one_case (case_lit d) (case_case h' n') k q = absurd cc
one_case case_any (case_case h' n') k q = absurd cc
one_case (case_con c types es i t s d) (proj m' s' p' d' w' v') k q = absurd cc
one_case (case_lit d) (proj m' s' p' d' w' v') k q = absurd cc
one_case case_any (proj m' s' p' d' w' v') k q = absurd cc
one_case case_let (case_con c' types' es' i' t' s' d') k q = absurd cc
one_case case_let (case_lit d') k q = absurd cc
one_case case_let case_any k q = absurd cc
one_case case_let (case_case h' n') k q = absurd cc
one_case case_let (proj m' s' p' d' w' v') k q = absurd cc
one_case (case_case h n) (case_con c' types' es' i' t' s' d') k q = absurd cc
one_case (case_case h n) (case_lit d') k q = absurd cc
one_case (case_case h n) case_any k q = absurd cc
one_case (case_case h n) case_let k q = absurd cc
one_case (case_case h n) (proj m' s' p' d' w' v') k q = absurd cc
one_case (proj m s p d w v) (case_con c' types' es' i' t' s' d') k q = absurd cc
one_case (proj m s p d w v) (case_lit d') k q = absurd cc
one_case (proj m s p d w v) case_any k q = absurd cc
one_case (proj m s p d w v) case_let k q = absurd cc
one_case (proj m s p d w v) (case_case h' n') k q = absurd cc
