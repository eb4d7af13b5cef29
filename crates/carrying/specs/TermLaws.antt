-- What bits terms and thunks show that go on with another one.
use Rattle.std.specs.Prelude.{◌≡◌, ℕ, Bool, List, [], ◌∷◌, length, map, Some, slice_get}
use Rattle.chw_types.specs.declared.kind.Scalar.{Scalar}
use Rattle.chw_types.specs.TypeTree.{TypeTree, scalar, TypeTrees, no_types}
use Rattle.chw_terms.specs.declared.program.Def.{Def}
use Rattle.chw_terms.specs.declared.program.Program.{Program}
use Rattle.chw_terms.specs.declared.term.Arg.TheVariants.{OfTerm}
use Rattle.chw_terms.specs.TermTree.{TermTree, var, global, lam, letrec, lit, Group}
use Rattle.chw_terms.specs.TermView.{applied as applied_to_all}
use Rattle.chw_layout.specs.Datum.{Datum}
use Rattle.chw_layout.specs.Encodes.{Encodes}
use Rattle.chw_layout.specs.Measured.{HasWidth}
use Rattle.chw_meaning.specs.Values.{History, closure, Thunk, closed, applied, member, sample}
use Rattle.chw_meaning.specs.Values.{stream, known, Thunks, none, thunk_and, thunk_at, in_group}
use Rattle.chw_meaning.specs.Values.{body_at, item_at}
use Rattle.chw_meaning.specs.Eval.{Forces}
use Rattle.carrying.specs.Carrying.{Shows, Carries}

-- these thunks before the others, the last one first
abbrev pub onto : List Thunk → Thunks → Thunks
onto [] γ = γ
onto (x ∷ xs) γ = onto xs (thunk_and x γ)

-- a function of parameters of these types, the first one outermost
abbrev pub under_lambdas : List TypeTree → TermTree → TermTree
under_lambdas [] e = e
under_lambdas (t ∷ ts) e = lam t (under_lambdas ts e)

-- a thunk applied to these, the first one first
abbrev pub on_thunks : Thunk → List Thunk → Thunk
on_thunks f [] = f
on_thunks f (x ∷ xs) = on_thunks (applied f x) xs

-- the thunks of terms
abbrev pub each_closed : List TermTree → Thunks → TypeTrees → List Thunk
each_closed es γ δ = map (λ e. closed e γ δ) es

-- a literal carries its own bits
abbrev pub LiteralCarries : Type 0
LiteralCarries =
    (p : Program) (s : Scalar) (n : TypeTree) (b : List Bool) (γ : Thunks) (δ : TypeTrees)
    → HasWidth p.datas (scalar s n) (length b) → Carries p (scalar s n) (closed (lit s b) γ δ) b

-- a variable shows what its thunk shows
abbrev pub VariableShows : Type 0
VariableShows =
    (p : Program) (t : TypeTree) (x : ℕ) (th : Thunk) (γ : Thunks) (δ : TypeTrees) (h : History)
    (b : List Bool)
    → thunk_at γ x ≡ Some th → Shows p t th h b → Shows p t (closed (var x) γ δ) h b

-- a definition what its body shows
abbrev pub GlobalShows : Type 0
GlobalShows =
    (p : Program) (t : TypeTree) (d : ℕ) (it : Def) (γ : Thunks) (δ : TypeTrees) (h : History)
    (b : List Bool)
    → slice_get p.defs d ≡ Some it → Shows p t (closed it.body none no_types) h b
    → Shows p t (closed (global d) γ δ) h b

-- a group what its body shows inside the group
abbrev pub LetShows : Type 0
LetShows =
    (p : Program) (t : TypeTree) (g : Group) (e : TermTree) (γ : Thunks) (δ : TypeTrees)
    (h : History) (b : List Bool)
    → Shows p t (closed e (in_group g γ δ) δ) h b → Shows p t (closed (letrec g e) γ δ) h b

-- a member of a group what its right side shows there
abbrev pub MemberShows : Type 0
MemberShows =
    (p : Program) (t : TypeTree) (g : Group) (i : ℕ) (e : TermTree) (γ : Thunks) (δ : TypeTrees)
    (h : History) (b : List Bool)
    → body_at g i ≡ Some e → Shows p t (closed e (in_group g γ δ) δ) h b
    → Shows p t (member g i γ δ) h b

-- a sample of a thunk at a history carries what the thunk shows there
abbrev pub SampleCarries : Type 0
SampleCarries =
    (p : Program) (t : TypeTree) (th : Thunk) (g : History) (b : List Bool)
    → Shows p t th g b → Carries p t (sample th g) b

-- a function applied to a thunk shows what its body shows with the thunk as its variable
abbrev pub AppliedShows : Type 0
AppliedShows =
    (p : Program) (t : TypeTree) (n : ℕ) (f a : Thunk) (e : TermTree) (γ : Thunks)
    (δ : TypeTrees) (h : History) (b : List Bool)
    → Forces p n f h (closure e γ δ) → Shows p t (closed e (thunk_and a γ) δ) h b
    → Shows p t (applied f a) h b

-- so does a function of several parameters that is applied to as many thunks
abbrev pub FunctionShows : Type 0
FunctionShows =
    (p : Program) (t : TypeTree) (params : List TypeTree) (e : TermTree) (xs : List Thunk)
    (γ : Thunks) (δ : TypeTrees) (h : History) (b : List Bool)
    → length params ≡ length xs → Shows p t (closed e (onto xs γ) δ) h b
    → Shows p t (on_thunks (closed (under_lambdas params e) γ δ) xs) h b

-- and to as many terms
abbrev pub CallShows : Type 0
CallShows =
    (p : Program) (t : TypeTree) (params : List TypeTree) (e : TermTree) (es : List TermTree)
    (γ : Thunks) (δ : TypeTrees) (h : History) (b : List Bool)
    → length params ≡ length es → Shows p t (closed e (onto (each_closed es γ δ) γ) δ) h b
    → Shows p t
    (closed (applied_to_all (under_lambdas params e) (map (λ a. OfTerm a) es)) γ δ) h b

-- a data value carries its encoding
abbrev pub DataCarry : Type 0
DataCarry =
    (p : Program) (t : TypeTree) (w : ℕ) (d : Datum) (b : List Bool)
    → HasWidth p.datas t w → Encodes p.datas t d b → Carries p t (known d) b

-- a stream shows the encoding of its data value for the present event
abbrev pub StreamShows : Type 0
StreamShows =
    (p : Program) (t : TypeTree) (w : ℕ) (ds : List Datum) (d : Datum) (h : History)
    (b : List Bool)
    → HasWidth p.datas t w → item_at ds h ≡ Some d → Encodes p.datas t d b
    → Shows p t (stream ds) h b
