-- What is below a quiet right side.
use Rattle.std.proofs.Common.{arith, zero, suc, ◌≡◌, inl, inr, sym, refl, subst, ℕ, false, List, [], Some}
use Rattle.chw_prims.specs.declared.prim.Primitive.{Primitive as Prim}
use Rattle.chw_prims.specs.declared.prim.Primitive.TheVariants.{Fmap}
use Rattle.chw_terms.specs.declared.scene.Mode.{Mode}
use Rattle.chw_terms.specs.declared.scene.Mode.TheVariants.{V, C, HV, HC, K}
use Rattle.chw_terms.specs.declared.term.Arg.{Arg}
use Rattle.chw_terms.specs.TermTree.{TermTree, var, con, prim, Alts, no_alts, alt}
use Rattle.chw_terms.specs.declared.term.Pattern.TheVariants.{OfCon}
use Rattle.chw_terms.specs.TermView.{applied}
use Rattle.chw_typing.specs.Scopes.{AreTermTypes}
use Rattle.chw_typing.specs.Paths.{Branch, branch_at}
use Rattle.rewriting.specs.Active.{Below, right_side, let_body, constant_body, scrutinee, branch, of_constructor, of_words, of_element, of_vector, demanded, begins}
use Rattle.rewriting.specs.Origins.{Origins, setting_at}
use Rattle.rewriting.specs.Shapes.{IsVariable}
use Rattle.rewriting.specs.Spots.{Spot, HasLets, head_mode, LooksAt, BeginsWith}
use Rattle.quiet_sides.specs.Quiet.{IsWritten, IsProjection, IsLifted, IsQuiet}
use Rattle.quiet_sides.proofs.Forms.{Form, a_variable, a_literal, form_of, form_applied, variable_form, on_applied}
use Rattle.quiet_sides.proofs.Arguments.{quiet_argument, content_not_seen}
use Rattle.quiet_sides.proofs.Spines.{LiftsBy, by_fmap, by_ap, QuietPrim, QuietAlts, QuietSpine, SpineIs, QuietArgument, named, content, function, WrittenSpine, written_spine, quiet_spine, lifted_quiet, prim_bare, con_bare}

-- where no rule acts: at a right side, a variable, a lifted function, and a constant
pub data IsStill (o : Origins) (at : Spot) (e : TermTree) : Type 0 where
  a_side : AreTermTypes (setting_at o) [] at.vars → HasLets at.mode → at.result ≡ false → IsQuiet e → IsStill o at e
  a_bare_name : IsVariable e → IsStill o at e
  a_lifted : AreTermTypes (setting_at o) [] at.vars → (at.mode ≡ K → ⊥) → at.result ≡ false → IsLifted e → IsStill o at e
  a_constant : at.mode ≡ K → IsWritten e → IsStill o at e

-- a side or a lifted function has a quiet spine
pub record IsSpine (o : Origins) (at : Spot) (e : TermTree) : Type 0 where
  pub typed : AreTermTypes (setting_at o) [] at.vars
  pub no_constant : at.mode ≡ K → ⊥
  pub no_result : at.result ≡ false
  pub quiet : SpineIs QuietSpine e

no_lets_in_constants : (m : Mode) → HasLets m → m ≡ K → ⊥
no_lets_in_constants m l q = subst HasLets q l

pub side_spine : {o : Origins} {at : Spot} {e : TermTree} → AreTermTypes (setting_at o) [] at.vars → HasLets at.mode → at.result ≡ false → IsQuiet e → IsSpine o at e
side_spine {at = at} t l r q = record { typed = t; no_constant = no_lets_in_constants at.mode l; no_result = r; quiet = quiet_spine q }

pub lifted_is_spine : {o : Origins} {at : Spot} {e : TermTree} → AreTermTypes (setting_at o) [] at.vars → (at.mode ≡ K → ⊥) → at.result ≡ false → IsLifted e → IsSpine o at e
lifted_is_spine t k r l = record { typed = t; no_constant = k; no_result = r; quiet = lifted_quiet l }

-- below variables there is nothing, and below written constants only such
abbrev Has : Form → Type 0
Has a_variable = ⊥
Has a_literal = ⊥
Has _ = Unit {0}

below_form : {o : Origins} {at to : Spot} {e x : TermTree} {p : List ℕ} → Below o at e p to x → Has (form_of e)
below_form (right_side l h n) = tt
below_form (let_body l) = tt
below_form (constant_body k) = tt
below_form (scrutinee d n) = tt
below_form (branch v h n s q) = tt
below_form (of_constructor c i args k h l s) = subst Has (sym (form_applied args (con c))) tt
below_form (of_words p i args k w l m s) = subst Has (sym (form_applied args (prim p))) tt
below_form (of_element p i args k w m s) = subst Has (sym (form_applied args (prim p))) tt
below_form (of_vector k s) = tt
below_form (demanded {p = p} {args = args} d) = subst Has (sym (form_applied args (prim p))) tt
below_form (begins p i j args m b t r s) = subst Has (sym (form_applied args (prim p))) tt

none_below_name : {o : Origins} {at to : Spot} {e x : TermTree} {p : List ℕ} → IsVariable e → Below o at e p to x → ⊥
none_below_name {e = e} v b = subst Has (variable_form e v) (below_form b)

written_no_prim : (p : Prim) (args : List Arg) → IsWritten (applied (prim p) args) → ⊥
written_no_prim p args w = on_applied WrittenSpine (prim p) args (prim_bare p) (written_spine w)

below_written : {o : Origins} {at to : Spot} {e x : TermTree} {p : List ℕ} → IsWritten e → Below o at e p to x → IsStill o to x
below_written w (right_side l h n) = absurd (written_spine w)
below_written w (let_body l) = absurd (written_spine w)
below_written w (constant_body k) = absurd (written_spine w)
below_written w (scrutinee d n) = absurd (written_spine w)
below_written w (branch v h n s q) = absurd (written_spine w)
below_written w (of_constructor c i args {a = a} k h l s) = a_constant refl (on_applied WrittenSpine (con c) args (con_bare c) (written_spine w) i a s)
below_written w (of_words p i args k h l m s) = absurd (written_no_prim p args w)
below_written w (of_element p i args k h m s) = absurd (written_no_prim p args w)
below_written w (of_vector {i = i} {a = a} k s) = a_constant refl ((written_spine w).1 i a s)
below_written w (demanded {p = p} {args = args} d) = absurd (written_no_prim p args w)
below_written w (begins p i j args m b t r s) = absurd (written_no_prim p args w)

-- below a side
heads_no_constants : (m : Mode) → (m ≡ K → ⊥) → head_mode m ≡ K → ⊥
heads_no_constants V n q = cc
heads_no_constants C n q = cc
heads_no_constants HV n q = cc
heads_no_constants HC n q = cc
heads_no_constants K n q = n refl

looks_at_made : (p : Prim) (i : ℕ) → p ≡ Fmap → i ≡ 3 → LooksAt p i → ⊥
looks_at_made p i e q l = let four : i ≡ 4 = subst (λ p. LooksAt p i) e l in absurd (omega (arith, q, four))

projected_name : (alts : Alts) → IsProjection alts → (i : ℕ) (a : Branch) → branch_at alts i ≡ Some a → IsVariable a.body
projected_name (alt (OfCon c n) (var j) no_alts) h i a q = one i a q
  where
    one : (i : ℕ) (a : Branch) → branch_at (alt (OfCon c n) (var j) no_alts) i ≡ Some a → IsVariable a.body
    one zero a q = let is : record { pattern = OfCon c n; body = var j } ≡ a = cc in subst (λ (a : Branch). IsVariable a.body) is tt
    one (suc i) a q = absurd cc
projected_name _ h i a q = absurd h

body_name : (alts : Alts) → QuietAlts alts → (i : ℕ) (a : Branch) → branch_at alts i ≡ Some a → IsVariable a.body
body_name alts (inl h) i a q = projected_name alts h i a q
body_name alts (inr h) i a q = h.names i a q

demanded_still : (o : Origins) (at : Spot) {p : Prim} {i : ℕ} {a : TermTree} → AreTermTypes (setting_at o) [] at.vars → LooksAt p i → (at.mode ≡ K → ⊥) → QuietArgument p i a → IsStill o (record { mode = head_mode at.mode; result = false; vars = at.vars }) a
demanded_still o at t l k (named v) = a_bare_name v
demanded_still o at t l k (content r (inl v)) = a_bare_name v
demanded_still o at {p = p} {i = i} t l k (content r (inr w)) = absurd (content_not_seen p i w.0 l)
demanded_still o at {p = p} {i = i} t l k (function q (by_fmap e h)) = absurd (looks_at_made p i e q l)
demanded_still o at t l k (function q (by_ap e h)) = a_lifted t (heads_no_constants at.mode k) refl h

begins_lifted : (p : Prim) (i j : ℕ) (f : TermTree) → LiftsBy p f → BeginsWith p i j → ⊥
begins_lifted p i j f (by_fmap e h) b = subst (λ p. BeginsWith p i j) e b
begins_lifted p i j f (by_ap e h) b = subst (λ p. BeginsWith p i j) e b

content_still : (o : Origins) (to : Spot) (j : ℕ) {p : Prim} {i : ℕ} {a : TermTree} → to.mode ≡ K → BeginsWith p i j → QuietArgument p i a → IsStill o to a
content_still o to j k b (named v) = a_bare_name v
content_still o to j k b (content r (inl v)) = a_bare_name v
content_still o to j k b (content r (inr w)) = a_constant k w.1
content_still o to j {p = p} {i = i} {a = a} k b (function q f) = absurd (begins_lifted p i j a f b)

prim_spine : {p : Prim} {args : List Arg} → SpineIs QuietSpine (applied (prim p) args) → QuietPrim p args
prim_spine {p} {args} q = on_applied QuietSpine (prim p) args (prim_bare p) q

below_spine : {o : Origins} {at to : Spot} {e x : TermTree} {p : List ℕ} → IsSpine o at e → Below o at e p to x → IsStill o to x
below_spine s (right_side l h n) = absurd s.quiet
below_spine s (let_body l) = absurd s.quiet
below_spine s (constant_body k) = absurd s.quiet
below_spine s (scrutinee d n) = a_bare_name s.quiet.1
below_spine s (branch {i = i} {alts = alts} {a = a} v h n b q) = a_bare_name (body_name alts s.quiet.2 i a b)
below_spine s (of_constructor c i args k h l g) = absurd (s.no_constant k)
below_spine s (of_words p i args k w l m g) = absurd (s.no_constant k)
below_spine s (of_element p i args k w m g) = absurd (s.no_constant k)
below_spine s (of_vector k g) = absurd (s.no_constant k)
below_spine {o} {at} s (demanded {p = p} {i = i} {args = args} {a = a} d) = demanded_still o at s.typed d.looks s.no_constant (quiet_argument (prim_spine s.quiet) i a d.is)
below_spine {o} {to = to} s (begins p i j args {a = a} m b t r g) = content_still o to j refl b (quiet_argument (prim_spine s.quiet) i a g)

pub below_still : {o : Origins} {at to : Spot} {e x : TermTree} {p : List ℕ} → IsStill o at e → Below o at e p to x → IsStill o to x
below_still (a_side t l r q) b = below_spine (side_spine t l r q) b
below_still (a_bare_name v) b = absurd (none_below_name v b)
below_still (a_lifted t k r l) b = below_spine (lifted_is_spine t k r l) b
below_still (a_constant k w) b = below_written w b
