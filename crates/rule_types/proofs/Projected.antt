-- The parts of a port as projections.
use Rattle.std.proofs.Common.{◌++◌, ◌+◌, ◌-◌, ◌∙◌, ◌∷◌, ◌≡◌, List, Some, [], ap, arith, length, map, refl, reverse, subst, suc, sym, zero, ℕ}
use Rattle.std.proofs.lemmas.List.{length-reverse}
use Rattle.std.proofs.lemmas.Option.{slice_get_within}
use Rattle.std.specs.List.{range_with_len, slice_get}
use Rattle.chw_base.specs.declared.index.ConId.{ConId}
use Rattle.chw_types.specs.Kinds.{HasFunctions}
use Rattle.chw_types.specs.TypeTree.{TypeTree}
use Rattle.chw_types.specs.declared.kind.Kind.{Kind}
use Rattle.chw_terms.specs.TermTree.{TermTree, alt, case_of, letrec, no_alts, var}
use Rattle.chw_terms.specs.Unrolled.{named}
use Rattle.chw_terms.specs.declared.term.Pattern.TheVariants.{OfCon}
use Rattle.chw_typing.proofs.Lists.{turned_onto}
use Rattle.chw_typing.proofs.SameScopes.{are_same_self}
use Rattle.chw_typing.specs.HeadTypes.{IsLookedAt, PatternOf}
use Rattle.chw_typing.specs.Scopes.{AreTermTypes, HasKind, Setting, declared, with_more}
use Rattle.chw_typing.specs.Typing.{AreBound, HasType, HasTypeUpTo, bound_and, h_case, h_letrec, h_var, none_bound, none_give}
use Rattle.chw_typing.specs.Given.{AllAllow, AreGiven}
use Rattle.rewriting.specs.Shapes.{projections}
use Rattle.rule_types.proofs.Bodies.{renames_past, up_to}
use Rattle.rule_types.proofs.Fields.{allowed_typed}

-- what stands behind a list
at_end : {A : Type 0} (xs more : List A) (m : ℕ) (t : A) → length xs ≡ m → slice_get (xs ++ t ∷ more) m ≡ Some t
at_end [] more zero t l = refl
at_end [] more (suc m) t l = absurd (omega (arith, l))
at_end (x ∷ xs) more zero t l = absurd (omega (arith, l))
at_end (x ∷ xs) more (suc m) t l = at_end xs more m t (omega (arith, l))

-- of a list turned around, so many before the end
pub reversed_at : {A : Type 0} (ts more : List A) (i m : ℕ) (t : A) → m + suc i ≡ length ts → slice_get ts i ≡ Some t → slice_get (reverse ts ++ more) m ≡ Some t
reversed_at [] more i m t l e = absurd (cc)
reversed_at (u ∷ ts) more zero m t l e =
    let is : u ≡ t = cc in
    let last : length (reverse ts) ≡ m = length-reverse ts ∙ omega (arith, l) in
    ap (λ xs. slice_get xs m) (turned_onto u ts more)
    ∙ at_end (reverse ts) more m u last
    ∙ ap Some is
reversed_at (u ∷ ts) more (suc i) m t l e =
    ap (λ xs. slice_get xs m) (turned_onto u ts more) ∙ reversed_at ts (u ∷ more) i m t (omega (arith, l)) e

-- a term of each of these types, by its number
given_from : (s : Setting) (kinds : List Kind) (vars ts : List TypeTree) (from : ℕ) (f : ℕ → TermTree) → ((i j : ℕ) (t : TypeTree) → j ≡ from + i → slice_get ts i ≡ Some t → HasTypeUpTo s kinds vars (f j) t) → AreGiven s kinds vars ts (map f (range_with_len from (length ts)))
given_from s kinds vars [] from f h = tt
given_from s kinds vars (t ∷ ts) from f h =
    (h 0 from t (omega arith) refl, given_from s kinds vars ts (from + 1) f (λ i j u l e. h (suc i) j u (omega (arith, l)) e))

declared_named : (s : Setting) (kinds : List Kind) (vars : List TypeTree) (ts : List TypeTree) (es : List TermTree) → AreGiven s kinds vars ts es → declared (named ts es) ≡ ts
declared_named s kinds vars [] [] h = refl
declared_named s kinds vars (t ∷ ts) (e ∷ es) h = ap (λ us. t ∷ us) (declared_named s kinds vars ts es h.1)
declared_named s kinds vars [] (e ∷ es) h = absurd h
declared_named s kinds vars (t ∷ ts) [] h = absurd h

named_bound : (s : Setting) (kinds : List Kind) (vars : List TypeTree) (k : Kind) (ts : List TypeTree) (es : List TermTree) → AreGiven s kinds vars ts es → AllAllow s kinds k ts → AreBound s kinds vars k (named ts es)
named_bound s kinds vars k [] [] h a = none_bound
named_bound s kinds vars k (t ∷ ts) (e ∷ es) h a = bound_and a.0.1 a.0.2 h.0.has h.0.same (named_bound s kinds vars k ts es h.1 a.1)
named_bound s kinds vars k [] (e ∷ es) h a = absurd h
named_bound s kinds vars k (t ∷ ts) [] h a = absurd h

-- a letrec of terms that see its names
pub named_typed : {s : Setting} {kinds : List Kind} {vars : List TypeTree} (ts : List TypeTree) (es : List TermTree) (k : Kind) {e : TermTree} {u : TypeTree} → AreGiven s kinds (with_more ts vars) ts es → AllAllow s kinds k ts → HasType s kinds (with_more ts vars) e u → HasKind s kinds u k → HasType s kinds vars (letrec (named ts es) e) u
named_typed {s} {kinds} {vars} ts es k {e} {u} given allow d l =
    let same = sym (declared_named s kinds (with_more ts vars) ts es given) in
    h_letrec (subst (λ us. HasType s kinds (with_more us vars) e u) same d) l
    (subst (λ us. AreBound s kinds (with_more us vars) k (named ts es)) same (named_bound s kinds (with_more ts vars) k ts es given allow))

-- a part of a variable's value, where all its names are seen
projection_typed : (s : Setting) (vars fields : List TypeTree) (t : TypeTree) (c : ConId) (x n i m : ℕ) (f : TypeTree) (j k : Kind) → slice_get vars x ≡ Some t → IsLookedAt t → HasKind s [] t j → PatternOf s.datas t (OfCon c n) fields → AreTermTypes s [] fields → length fields ≡ n → m + suc i ≡ length fields → slice_get fields i ≡ Some f → HasKind s [] f k → HasFunctions j k → HasType s [] (with_more fields vars) (case_of (var (x + n)) (alt (OfCon c n) (var m) no_alts)) f
projection_typed s vars fields t c x n i m f j k e look kt pattern typed l at g kf allow =
    h_case (h_var (renames_past fields vars n l x t e)) look kt
    (record { fields = fields; pattern = pattern; same = are_same_self fields; typed = typed })
    (h_var (reversed_at fields (with_more fields vars) i m f at g)) kf allow none_give (tt, tt)

-- all parts
pub projections_typed : (s : Setting) (vars fields : List TypeTree) (t : TypeTree) (c : ConId) (x n : ℕ) (j : Kind) → slice_get vars x ≡ Some t → IsLookedAt t → HasKind s [] t j → PatternOf s.datas t (OfCon c n) fields → AllAllow s [] j fields → ((i : ℕ) (f : TypeTree) → slice_get fields i ≡ Some f → (k : Kind) × HasKind s [] f k × HasFunctions j k) → length fields ≡ n → AreGiven s [] (with_more fields vars) fields (projections c n x)
projections_typed s vars fields t c x n j e look kt pattern all each l =
    subst (λ m. AreGiven s [] (with_more fields vars) fields (map (λ i. case_of (var (x + n)) (alt (OfCon c n) (var (n - 1 - i)) no_alts)) (range_with_len 0 m))) l
    (given_from s [] (with_more fields vars) fields 0 (λ i. case_of (var (x + n)) (alt (OfCon c n) (var (n - 1 - i)) no_alts)) here)
  where
    here : (i m : ℕ) (f : TypeTree) → m ≡ 0 + i → slice_get fields i ≡ Some f → HasTypeUpTo s [] (with_more fields vars) (case_of (var (x + n)) (alt (OfCon c n) (var (n - 1 - m)) no_alts)) f
    here i m f is g =
        let at = each i f g in
        let inside = slice_get_within fields i f g in
        let place : (n - 1 - m) + suc i ≡ length fields = omega (arith, is, l, inside) in
        up_to (projection_typed s vars fields t c x n i (n - 1 - m) f j at.0 e look kt pattern (allowed_typed s [] j fields all) l place g at.1 at.2)
