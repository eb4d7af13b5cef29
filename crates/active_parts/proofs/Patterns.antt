-- Each pattern of a typed case on a variable is one for values of the variable's type.
use Rattle.std.proofs.Common.{◌≡◌, ℕ, zero, suc, refl, subst, List, [], Some, slice_get}
use Rattle.chw_types.specs.TypeTree.{TypeTree}
use Rattle.chw_terms.specs.declared.scene.Scene.{Scene}
use Rattle.chw_terms.specs.declared.term.Alt.{Alt}
use Rattle.chw_terms.specs.TermTree.{TermTree, var, case_of, Alts, no_alts, alt}
use Rattle.chw_terms.specs.TermView.{alts_of}
use Rattle.chw_typing.specs.Scopes.{Setting, setting_in}
use Rattle.chw_typing.specs.Typing.{HasType, h_var, h_case, Binds}
use Rattle.chw_typing.specs.Paths.{Branch, branch_at}
use Rattle.chw_typing.proofs.Typed.{given_typed}
use Rattle.active_parts.specs.Below.{HasFields}
use Rattle.active_parts.proofs.Heads.{listed_branch}

at_variable : {s : Setting} {vars : List TypeTree} {x : ℕ} {t : TypeTree} → HasType s [] vars (var x) t → slice_get vars x ≡ Some t
at_variable (h_var is) = is

one_variable : (vars : List TypeTree) (x : ℕ) (t u : TypeTree) → slice_get vars x ≡ Some t → slice_get vars x ≡ Some u → t ≡ u
one_variable vars x t u a b = cc

fields_bound : (s : Setting) (u v : TypeTree) (q : List TypeTree) (a b : Branch) → v ≡ u → a ≡ b → Binds s [] v a.pattern q → HasFields s.datas u b.pattern
fields_bound s u v q a b is same d = subst (λ z. HasFields s.datas u z.pattern) same (subst (λ z. HasFields s.datas z a.pattern) is (d.fields, d.pattern))

branch_fields : (s : Setting) (vars : List TypeTree) (x : ℕ) (u t : TypeTree) (alts : Alts) (i : ℕ) (b : Branch) → slice_get vars x ≡ Some u → HasType s [] vars (case_of (var x) alts) t → branch_at alts i ≡ Some b → HasFields s.datas u b.pattern
branch_fields s vars x u t (alt q f more) zero b is (h_case {bound = bound} {u = v} d looked l c e m allows o n) at =
    let a : Branch = record { pattern = q; body = f } in
    let same : a ≡ b = cc in
    fields_bound s u v bound a b (one_variable vars x v u (at_variable d) is) same c
branch_fields s vars x u t (alt q f more) (suc i) b is (h_case {u = v} d looked l c e m allows o n) at =
    let there = given_typed o i b at in
    fields_bound s u v there.bound b b (one_variable vars x v u (at_variable d) is) refl there.binds
branch_fields s vars x u t no_alts i b is d at = absurd cc

pub has_fields : (scene : Scene) (vars : List TypeTree) (on : TermTree) (x : ℕ) (u t : TypeTree)
    (alts : List Alt) (i : ℕ) (a : Alt) → on ≡ var x → slice_get vars x ≡ Some u
    → HasType (setting_in scene) [] vars (case_of on (alts_of alts)) t → slice_get alts i ≡ Some a
    → HasFields scene.program.now.datas u a.pattern
has_fields scene vars on x u t alts i a same is d at =
    let s = setting_in scene in
    let typed = subst (λ e. HasType s [] vars (case_of e (alts_of alts)) t) same d in
    let b : Branch = record { pattern = a.pattern; body = a.body } in
    branch_fields s vars x u t (alts_of alts) i b is typed (listed_branch alts i a at)
