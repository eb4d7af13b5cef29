-- Signals show what the signals that they are made of show.
use Rattle.std.proofs.Common.{◌≡◌, ℕ, Bool, List, [], ◌∷◌, Some, None, refl, sym, ap, subst}
use Rattle.chw_clock.specs.Histories.{taken}
use Rattle.chw_types.specs.TypeTree.{TypeTree, domain, TypeTrees}
use Rattle.chw_prims.specs.declared.prim.Primitive.TheVariants.{Fmap, Ap, Pure, Register, UnsafeSynchronizer}
use Rattle.chw_terms.specs.declared.program.Program.{Program}
use Rattle.chw_terms.specs.Evaluated.{evaluated}
use Rattle.chw_terms.specs.TermTree.{TermTree, prim}
use Rattle.chw_terms.specs.TermView.{applied as applied_to_all}
use Rattle.chw_typing.specs.Given.{types_then}
use Rattle.chw_meaning.specs.Values.{History, Value, Thunk, closed, applied, sample, Thunks, closed_type}
use Rattle.chw_meaning.specs.Steps.{samples, delays, in_domain}
use Rattle.chw_meaning.specs.Eval.{dom, Forces, f_closed, f_applied, Runs, r_goes_to, r_samples, r_first, r_later}
use Rattle.carrying.specs.Carrying.{Shows}
use Rattle.carrying.proofs.Spines.{prim_whole}
use Rattle.carrying.proofs.Terms.{shows_through}

pub pure_shows : (p : Program) (t d a : TypeTree) (v : TermTree) (γ : Thunks) (δ : TypeTrees) (h : History) (b : List Bool) → Shows p t (closed v γ δ) h b → Shows p t (closed (applied_to_all (prim Pure) (types_then (d ∷ a ∷ []) (v ∷ []))) γ δ) h b
pure_shows p t d a v γ δ h b s =
    shows_through (λ n x f. let e = prim_whole p Pure γ δ h (d ∷ a ∷ []) (v ∷ []) refl refl n x (r_goes_to f) in (e.0, f_closed e.1)) s

-- a function on a sample is what runs
sampled : {p : Program} {n : ℕ} {f s : Thunk} {h : History} {v : Value} → Forces p n (applied f (sample s h)) h v → Runs p n (samples f s) h v
sampled (f_applied f d) = r_samples f d

pub map_shows : (p : Program) (t d a c : TypeTree) (f s : TermTree) (γ : Thunks) (δ : TypeTrees) (h : History) (b : List Bool) → Shows p t (applied (closed f γ δ) (sample (closed s γ δ) h)) h b → Shows p t (closed (applied_to_all (prim Fmap) (types_then (d ∷ a ∷ c ∷ []) (f ∷ s ∷ []))) γ δ) h b
map_shows p t d a c f s γ δ h b shown =
    shows_through (λ n x g. let e = prim_whole p Fmap γ δ h (d ∷ a ∷ c ∷ []) (f ∷ s ∷ []) refl refl n x (sampled g) in (e.0, f_closed e.1)) shown

pub ap_shows : (p : Program) (t d a c : TypeTree) (u s : TermTree) (γ : Thunks) (δ : TypeTrees) (h : History) (b : List Bool) → Shows p t (applied (closed u γ δ) (sample (closed s γ δ) h)) h b → Shows p t (closed (applied_to_all (prim Ap) (types_then (d ∷ a ∷ c ∷ []) (u ∷ s ∷ []))) γ δ) h b
ap_shows p t d a c u s γ δ h b shown =
    shows_through (λ n x g. let e = prim_whole p Ap γ δ h (d ∷ a ∷ c ∷ []) (u ∷ s ∷ []) refl refl n x (sampled g) in (e.0, f_closed e.1)) shown

-- a domain is evaluated
domain_stays : (t : TypeTree) (k : ℕ) → t ≡ domain k → domain k ≡ evaluated t
unfolding evaluated
domain_stays t k e = sym (ap evaluated e)

-- what a register's delay has, the register has
delay_has : (p : Program) (d a : TypeTree) (k : ℕ) (i s : TermTree) (γ : Thunks) (δ : TypeTrees) (h : History) (n : ℕ) (x : Value) → closed_type d δ ≡ domain k → Runs p n (delays k (closed i γ δ) (closed s γ δ)) h x → (m : ℕ) × Forces p m (closed (applied_to_all (prim Register) (types_then (d ∷ a ∷ []) (i ∷ s ∷ []))) γ δ) h x
delay_has p d a k i s γ δ h n x is run =
    let step = subst (λ t. Runs p n (in_domain t (λ c. delays c (closed i γ δ) (closed s γ δ))) h x) (domain_stays (closed_type d δ) k is) run in
    let e = prim_whole p Register γ δ h (d ∷ a ∷ []) (i ∷ s ∷ []) refl refl n x step in
    (e.0, f_closed e.1)

pub register_first : (p : Program) (t d a : TypeTree) (k : ℕ) (i s : TermTree) (γ : Thunks) (δ : TypeTrees) (h : History) (b : List Bool) → closed_type d δ ≡ domain k → taken h (dom k) ≡ None → Shows p t (closed i γ δ) h b → Shows p t (closed (applied_to_all (prim Register) (types_then (d ∷ a ∷ []) (i ∷ s ∷ []))) γ δ) h b
register_first p t d a k i s γ δ h b is never shown = shows_through (λ n x f. delay_has p d a k i s γ δ h n x is (r_first never f)) shown

pub register_later : (p : Program) (t d a : TypeTree) (k : ℕ) (i s : TermTree) (γ : Thunks) (δ : TypeTrees) (g h : History) (b : List Bool) → closed_type d δ ≡ domain k → taken h (dom k) ≡ Some g → Shows p t (closed s γ δ) g b → Shows p t (closed (applied_to_all (prim Register) (types_then (d ∷ a ∷ []) (i ∷ s ∷ []))) γ δ) h b
register_later p t d a k i s γ δ g h b is last shown = shows_through (λ n x f. delay_has p d a k i s γ δ h n x is (r_later last f)) shown

pub crossing_shows : (p : Program) (t d e a : TypeTree) (s : TermTree) (γ : Thunks) (δ : TypeTrees) (h : History) (b : List Bool) → Shows p t (closed s γ δ) h b → Shows p t (closed (applied_to_all (prim UnsafeSynchronizer) (types_then (d ∷ e ∷ a ∷ []) (s ∷ []))) γ δ) h b
crossing_shows p t d e a s γ δ h b shown =
    shows_through (λ n x f. let r = prim_whole p UnsafeSynchronizer γ δ h (d ∷ e ∷ a ∷ []) (s ∷ []) refl refl n x (r_goes_to f) in (r.0, f_closed r.1)) shown
