-- No made definition occurs in a right side that is neither a call nor a case.
use Rattle.std.proofs.Common.{◌≡◌, ℕ, List, [], ◌∷◌, ap, refl}
use Rattle.chw_types.specs.TypeTree.{TypeTree}
use Rattle.chw_terms.specs.TermTree.{TermTree, var, made, app, ty_app, con, prim, vec_lit, case_of, term_and, Alts}
use Rattle.chw_terms.specs.TermView.{applied, terms_of}
use Rattle.chw_typing.specs.Given.{types_then}
use Rattle.rewriting.specs.Origins.{Origins, HoldsNoMade, with_origins, with_origins_all}
use Rattle.normal_forms.specs.Values.{IsSide, side_variable, side_literal, side_constructor, side_vector, side_primitive, side_call, side_case}
use Rattle.net_built.specs.Terms.{head_of}
use Rattle.net_means.proofs.SideBits.Heads.{names, the_head}

spine_keeps : (o : ℕ → TermTree) (f : TermTree) (types : List TypeTree) (xs : List ℕ) → with_origins o f ≡ f → with_origins o (applied f (types_then types (names xs))) ≡ applied f (types_then types (names xs))
unfolding with_origins
spine_keeps o f [] [] e = e
spine_keeps o f [] (x ∷ xs) e = spine_keeps o (app f (var x)) [] xs (ap (λ g. app g (var x)) e)
spine_keeps o f (t ∷ types) xs e = spine_keeps o (ty_app f t) types xs (ap (λ g. ty_app g t) e)

names_keep : (o : ℕ → TermTree) (xs : List ℕ) → with_origins_all o (terms_of (names xs)) ≡ terms_of (names xs)
unfolding with_origins
names_keep o [] = refl
names_keep o (x ∷ xs) = ap (λ es. term_and (var x) es) (names_keep o xs)

pub holds_no_made : {o : Origins} {vars : List TypeTree} {e : TermTree} → IsSide o vars e → ((m : ℕ) → ¬ (head_of e ≡ made m)) → ((s : TermTree) (alts : Alts) → ¬ (e ≡ case_of s alts)) → HoldsNoMade e
unfolding with_origins
holds_no_made side_variable no_call no_case o = refl
holds_no_made side_literal no_call no_case o = refl
holds_no_made (side_constructor c types xs at count) no_call no_case o = spine_keeps o (con c) types xs refl
holds_no_made (side_vector t xs) no_call no_case o = ap (λ es. vec_lit t es) (names_keep o xs)
holds_no_made (side_primitive q types xs kind count) no_call no_case o = spine_keeps o (prim q) types xs refl
holds_no_made (side_call m xs at sort count) no_call no_case o = absurd (no_call m (the_head (record { head = refl; types = refl; operands = refl }) [] xs))
holds_no_made (side_case {x = x} {alts = alts} at parts) no_call no_case o = absurd (no_case (var x) alts refl)
