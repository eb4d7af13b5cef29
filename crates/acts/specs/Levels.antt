-- What is asked of the values of a computation, as against the values of another, turn by turn.
use Rattle.std.specs.Prelude.{◌≡◌, ℕ, suc, zero}
use Rattle.chw_types.specs.TypeTree.{TypeTree, ty_var, nat_lit, nat_sum, nat_product, domain}
use Rattle.chw_types.specs.TypeTree.{scalar, vector, data_of, fun, signal, for_all, TypeTrees}
use Rattle.chw_terms.specs.declared.program.Program.{Program}
use Rattle.chw_terms.specs.TermTree.{TermTree}
use Rattle.chw_meaning.specs.Values.{History, Value, Thunk, Thunks}
use Rattle.chw_meaning.specs.Eval.{Evals, Forces}

-- what is asked of a value of a type, as against the set of values that the other side has
abbrev pub Level : Type 1
Level = TypeTree → Value → (Value → Type 0) → Type 0

-- number m is what is asked after m more turns
abbrev pub Levels : Type 1
Levels = ℕ → Level

-- the levels after so many turns
abbrev pub later : ℕ → Levels → Levels
later zero r = r
later (suc m) r = later m (λ k. r (suc k))

-- signals are looked at at one history, and everything else at any two
abbrev pub Alike : TypeTree → History → History → Type 0
Alike (ty_var x) h' h = Unit {0}
Alike (nat_lit n) h' h = Unit {0}
Alike (nat_sum a b) h' h = Unit {0}
Alike (nat_product a b) h' h = Unit {0}
Alike (domain d) h' h = Unit {0}
Alike (scalar x w) h' h = Unit {0}
Alike (vector n t) h' h = Unit {0}
Alike (data_of d ts) h' h = Unit {0}
Alike (fun a b) h' h = Unit {0}
Alike (signal d a) h' h = h' ≡ h
Alike (for_all k t) h' h = Unit {0}

-- a computation as the first side: the values that it has at a history, in so many turns
abbrev pub First : Type 1
First = ℕ → History → Value → Type 0

-- a computation as the second side: the values that it has at a history
abbrev pub Second : Type 1
Second = History → Value → Type 0

-- each value of the first meets what is asked of it as against the values of the second, with the
-- turns that are left
abbrev pub RunsAct : Levels → TypeTree → First → Second → Type 0
RunsAct r t first second =
    (h' h : History) (m : ℕ) (v : Value)
    → Alike t h' h → first m h' v → later m r zero t v (second h)

-- what a term has in an environment of thunks and closed types
abbrev pub term_runs : Program → TermTree → Thunks → TypeTrees → First
term_runs p e γ δ = λ m h v. Evals p m e γ δ h v

abbrev pub term_has : Program → TermTree → Thunks → TypeTrees → Second
term_has p e γ δ = λ h v. (m : ℕ) × Evals p m e γ δ h v

-- what a thunk has
abbrev pub thunk_runs : Program → Thunk → First
thunk_runs p x = λ m h v. Forces p m x h v

abbrev pub thunk_has : Program → Thunk → Second
thunk_has p x = λ h v. (m : ℕ) × Forces p m x h v

abbrev pub ThunksAct : Program → Levels → TypeTree → Thunk → Thunk → Type 0
ThunksAct p r t x' x = RunsAct r t (thunk_runs p x') (thunk_has p x)
