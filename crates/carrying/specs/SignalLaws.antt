-- What bits a signal shows at a history, made of other signals.
use Rattle.std.specs.Prelude.{◌≡◌, ℕ, Bool, List, [], ◌∷◌, Some, None}
use Rattle.chw_clock.specs.Histories.{taken}
use Rattle.chw_types.specs.TypeTree.{TypeTree, domain, TypeTrees}
use Rattle.chw_prims.specs.declared.prim.Primitive.TheVariants.{Fmap, Ap, Pure, Register}
use Rattle.chw_prims.specs.declared.prim.Primitive.TheVariants.{UnsafeSynchronizer}
use Rattle.chw_terms.specs.declared.program.Program.{Program}
use Rattle.chw_terms.specs.TermTree.{TermTree, prim}
use Rattle.chw_terms.specs.TermView.{applied as applied_to_all}
use Rattle.chw_typing.specs.Given.{types_then}
use Rattle.chw_meaning.specs.Values.{History, closed, applied, sample, Thunks, closed_type}
use Rattle.chw_meaning.specs.Eval.{dom}
use Rattle.carrying.specs.Carrying.{Shows}

-- a constant signal shows what its value shows
abbrev pub PureShows : Type 0
PureShows =
    (p : Program) (t d a : TypeTree) (v : TermTree) (γ : Thunks) (δ : TypeTrees) (h : History)
    (b : List Bool)
    → Shows p t (closed v γ δ) h b
    → Shows p t (closed (applied_to_all (prim Pure) (types_then (d ∷ a ∷ []) (v ∷ []))) γ δ) h b

-- `fmap` shows what the function shows on the signal's sample
abbrev pub MapShows : Type 0
MapShows =
    (p : Program) (t d a c : TypeTree) (f s : TermTree) (γ : Thunks) (δ : TypeTrees)
    (h : History) (b : List Bool)
    → Shows p t (applied (closed f γ δ) (sample (closed s γ δ) h)) h b
    → Shows p t
    (closed (applied_to_all (prim Fmap) (types_then (d ∷ a ∷ c ∷ []) (f ∷ s ∷ []))) γ δ) h b

-- and so does `ap`, with the function that a signal has there
abbrev pub ApShows : Type 0
ApShows =
    (p : Program) (t d a c : TypeTree) (u s : TermTree) (γ : Thunks) (δ : TypeTrees)
    (h : History) (b : List Bool)
    → Shows p t (applied (closed u γ δ) (sample (closed s γ δ) h)) h b
    → Shows p t
    (closed (applied_to_all (prim Ap) (types_then (d ∷ a ∷ c ∷ []) (u ∷ s ∷ []))) γ δ) h b

-- a register shows its first value until its domain has ticked before the present event, and then
-- what its signal showed at the last of those ticks
abbrev pub RegisterShowsFirst : Type 0
RegisterShowsFirst =
    (p : Program) (t d a : TypeTree) (k : ℕ) (i s : TermTree) (γ : Thunks) (δ : TypeTrees)
    (h : History) (b : List Bool)
    → closed_type d δ ≡ domain k → taken h (dom k) ≡ None → Shows p t (closed i γ δ) h b
    → Shows p t
    (closed (applied_to_all (prim Register) (types_then (d ∷ a ∷ []) (i ∷ s ∷ []))) γ δ) h b

abbrev pub RegisterShowsLater : Type 0
RegisterShowsLater =
    (p : Program) (t d a : TypeTree) (k : ℕ) (i s : TermTree) (γ : Thunks) (δ : TypeTrees)
    (g h : History) (b : List Bool)
    → closed_type d δ ≡ domain k → taken h (dom k) ≡ Some g → Shows p t (closed s γ δ) g b
    → Shows p t
    (closed (applied_to_all (prim Register) (types_then (d ∷ a ∷ []) (i ∷ s ∷ []))) γ δ) h b

-- a signal that is taken into another domain shows what it shows
abbrev pub CrossingShows : Type 0
CrossingShows =
    (p : Program) (t d e a : TypeTree) (s : TermTree) (γ : Thunks) (δ : TypeTrees) (h : History)
    (b : List Bool)
    → Shows p t (closed s γ δ) h b
    → Shows p t
    (closed (applied_to_all (prim UnsafeSynchronizer) (types_then (d ∷ e ∷ a ∷ []) (s ∷ []))) γ δ)
    h b
