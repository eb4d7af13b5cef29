-- What is promised of terms that act as others.
use Rattle.std.specs.Prelude.{ℕ, suc, List, [], ◌∷◌}
use Rattle.std.specs.List.{AllByRecursion}
use Rattle.chw_types.specs.declared.kind.Kind.{Kind}
use Rattle.chw_types.specs.TypeTree.{TypeTree, signal, TypeTrees}
use Rattle.chw_types.specs.TypeMoves.{Renaming}
use Rattle.chw_types.specs.SameTypes.{SameTypes}
use Rattle.chw_terms.specs.declared.program.Program.{Program}
use Rattle.chw_terms.specs.Evaluated.{put_type_in}
use Rattle.chw_terms.specs.TermMoves.{rename, Substitution, sub}
use Rattle.chw_terms.specs.TermTree.{TermTree}
use Rattle.chw_terms.specs.Tidy.{IsTidy}
use Rattle.chw_layout.specs.Datum.{Datum}
use Rattle.chw_layout.specs.Encodes.{IsValueOf}
use Rattle.chw_typing.specs.Scopes.{HasKind, AreTermTypes}
use Rattle.chw_typing.specs.HeadTypes.{from_each}
use Rattle.chw_typing.specs.Programs.{IsTyped, AreClosed, setting_of}
use Rattle.chw_typing.specs.Typing.{HasType}
use Rattle.chw_meaning.specs.Values.{Thunk, stream, known, Thunks, closed_type}
use Rattle.chw_meaning.specs.Gives.{Input, Given, Better}
use Rattle.acts.specs.Levels.{RunsAct, term_runs, term_has, ThunksAct}
use Rattle.acts.specs.Acts.{acts_from}
use Rattle.acts.specs.Terms.{TiedBy, Kinded, ActsUnder, ActsAs, Chain, OriginsAct, OriginsTyped}
use Rattle.rewriting.specs.Origins.{with_origins, eta_expanded}
use Rattle.acts.specs.Terms.{ArePut, with_argument, setting_with}

-- thunks that act so for a number of turns do so for one less
abbrev pub FewerTurnsAskLess : Type 0
FewerTurnsAskLess =
    (p : Program) (n : ℕ) (t : TypeTree) (x' x : Thunk)
    → ThunksAct p (acts_from p (suc n)) t x' x → ThunksAct p (acts_from p n) t x' x

-- thunks that act so at a closed type do so at each closed type that is the same up to naturals,
-- where both have kinds
abbrev pub SameTypesAct : Type 0
SameTypesAct =
    (p : Program) (n : ℕ) (t u : TypeTree) (j k : Kind) (x' x : Thunk)
    → IsTidy p → IsTyped p
    → HasKind (setting_of p) [] t j → HasKind (setting_of p) [] u k → SameTypes t u
    → ThunksAct p (acts_from p n) t x' x → ThunksAct p (acts_from p n) u x' x

-- a data value acts as itself at its type
abbrev pub DataAct : Type 0
DataAct =
    (p : Program) (n : ℕ) (t : TypeTree) (d : Datum)
    → IsValueOf p.datas t d → ThunksAct p (acts_from p n) t (known d) (known d)

-- so does a stream of data values, at a signal of their type
abbrev pub StreamsAct : Type 0
StreamsAct =
    (p : Program) (n : ℕ) (d t : TypeTree) (ds : List Datum)
    → AllByRecursion (IsValueOf p.datas t) ds
    → ThunksAct p (acts_from p n) (signal d t) (stream ds) (stream ds)

-- so does whatever a parameter is given
abbrev pub InputsAct : Type 0
InputsAct =
    (p : Program) (n : ℕ) (t : TypeTree) (k : Kind) (ins more : List Input) (x : Thunk)
    → IsTidy p → IsTyped p
    → HasKind (setting_of p) [] t k → Given p.datas t ins x more
    → ThunksAct p (acts_from p n) t x x

-- a typed term acts as itself: renamed on both sides, with terms for its made definitions that act
-- so, and in environments whose variables do
abbrev pub TypedTermsAct : Type 0
TypedTermsAct =
    (p : Program) (types : List TypeTree) (o' o : ℕ → TermTree)
    (kinds : List Kind) (vars : List TypeTree) (e : TermTree) (t : TypeTree) (ρ' ρ : Renaming)
    → IsTidy p → IsTyped p
    → AreClosed (setting_of p) types → OriginsAct p types o' o
    → AreTermTypes (setting_with p types) kinds vars
    → HasType (setting_with p types) kinds vars e t
    → (n : ℕ) (δ : TypeTrees) (γ' γ : Thunks)
    → Kinded p kinds δ → TiedBy p (acts_from p n) vars ρ' ρ δ γ' γ
    → RunsAct (acts_from p n) (closed_type t δ)
    (term_runs p (with_origins o' (rename e ρ')) γ' δ)
    (term_has p (with_origins o (rename e ρ)) γ δ)

-- a typed term with a type put into it acts as the term with the type in its environment
abbrev pub PutTypeActs : Type 0
PutTypeActs =
    (p : Program) (types : List TypeTree) (o : ℕ → TermTree) (j : Kind)
    (kinds : List Kind) (vars : List TypeTree) (e : TermTree) (t a : TypeTree) (ρ' ρ : Renaming)
    → IsTidy p → IsTyped p
    → AreClosed (setting_of p) types → OriginsTyped p types o
    → AreTermTypes (setting_with p types) (j ∷ kinds) vars
    → HasType (setting_with p types) (j ∷ kinds) vars e t
    → HasKind (setting_of p) kinds a j
    → (n : ℕ) (δ : TypeTrees) (γ' γ : Thunks)
    → Kinded p kinds δ → TiedBy p (acts_from p n) vars ρ' ρ (with_argument a δ) γ' γ
    → RunsAct (acts_from p n) (closed_type t (with_argument a δ))
    (term_runs p (with_origins o (put_type_in (rename e ρ') a)) γ' δ)
    (term_has p (with_origins o (rename e ρ)) γ (with_argument a δ))

-- a typed term with terms put for its variables acts as the term in an environment that has their
-- thunks
abbrev pub PutTermsAct : Type 0
PutTermsAct =
    (p : Program) (types : List TypeTree) (o : ℕ → TermTree)
    (kinds : List Kind) (vars : List TypeTree) (e : TermTree) (t : TypeTree)
    (σ : Substitution) (ρ : Renaming)
    → IsTidy p → IsTyped p
    → AreClosed (setting_of p) types → OriginsTyped p types o
    → AreTermTypes (setting_with p types) kinds vars
    → HasType (setting_with p types) kinds vars e t
    → (n : ℕ) (δ : TypeTrees) (γ' γ : Thunks)
    → Kinded p kinds δ → ArePut p types o kinds (acts_from p n) vars σ ρ δ γ' γ
    → RunsAct (acts_from p n) (closed_type t δ)
    (term_runs p (with_origins o (sub e σ)) γ' δ)
    (term_has p (with_origins o (rename e ρ)) γ δ)

-- a typed function acts as itself with its first parameters written out
abbrev pub EtaActs : Type 0
EtaActs =
    (p : Program) (types : List TypeTree) (o' o : ℕ → TermTree)
    (kinds : List Kind) (vars : List TypeTree) (e : TermTree) (args : List TypeTree) (r : TypeTree)
    → IsTidy p → IsTyped p
    → AreClosed (setting_of p) types → OriginsAct p types o' o
    → AreTermTypes (setting_with p types) kinds vars
    → HasType (setting_with p types) kinds vars e (from_each args r)
    → ActsUnder p kinds vars
    (with_origins o' (eta_expanded args e)) (with_origins o e) (from_each args r)

-- a closed term that acts as another gives nothing that the other doesn't
abbrev pub ActsGives : Type 0
ActsGives =
    (p : Program) (t : TypeTree) (k : Kind) (e' e : TermTree)
    → IsTidy p → IsTyped p
    → HasKind (setting_of p) [] t k → ActsAs p t e' e → Better p t e' e

-- neither does the first term of a chain give what the last one doesn't
abbrev pub ChainGives : Type 0
ChainGives =
    (p : Program) (t : TypeTree) (k : Kind) (e' e : TermTree)
    → IsTidy p → IsTyped p
    → HasKind (setting_of p) [] t k → Chain p t e' e → Better p t e' e
