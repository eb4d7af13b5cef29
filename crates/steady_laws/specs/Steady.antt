-- Terms, values and thunks that are the same at every history.
use Rattle.std.specs.Prelude.{◌≡◌, ℕ, Bool, List, [], length, Some, slice_get}
use Rattle.chw_types.specs.declared.kind.Kind.TheVariants.{Val}
use Rattle.chw_types.specs.TypeTree.{TypeTree, TypeTrees}
use Rattle.chw_types.specs.Kinds.{KindOf}
use Rattle.chw_prims.specs.declared.row.Row.{Row}
use Rattle.chw_prims.specs.declared.row.Row.TheVariants.{Mapping, Applying, Delay, Memory}
use Rattle.chw_prims.specs.Schemas.{row_of}
use Rattle.chw_terms.specs.declared.program.Def.{Def}
use Rattle.chw_terms.specs.declared.program.Program.{Program}
use Rattle.chw_terms.specs.TermTree.{TermTree, global, lam, app, ty_lam, ty_app, letrec, prim, vec_lit, case_of, Terms, no_terms, term_and, Group, no_bindings, bind, Alts, no_alts, alt}
use Rattle.chw_layout.specs.Datum.{Datum}
use Rattle.chw_meaning.specs.Values.{History, Head, con_head, prim_head, Value, bits, con_of, vec_of, closure, ty_closure, partial, Thunk, closed, applied, member, field, element, sample, known, Thunks, none, thunk_and}
use Rattle.chw_meaning.specs.Eval.{Forces}

-- the primitives of this line don't look at the history: all but those that map a signal, delay it or remember it
abbrev pub IsSteadyRow : Row → Type 0
IsSteadyRow Mapping = ⊥
IsSteadyRow Applying = ⊥
IsSteadyRow Delay = ⊥
IsSteadyRow Memory = ⊥
IsSteadyRow _ = Unit {0}

-- the closed type is one of values
abbrev pub IsOfValues : Program → TypeTree → Type 0
IsOfValues p t = KindOf p.datas (length p.domains) [] t Val

abbrev mutual
  -- no primitive in the term looks at the history, and each definition in it has a type of values
  pub IsSteady : Program → TermTree → Type 0
  IsSteady p (global d) = (it : Def) → slice_get p.defs d ≡ Some it → IsOfValues p it.ty
  IsSteady p (lam t e) = IsSteady p e
  IsSteady p (app f a) = IsSteady p f × IsSteady p a
  IsSteady p (ty_lam k e) = IsSteady p e
  IsSteady p (ty_app f t) = IsSteady p f
  IsSteady p (letrec g e) = GroupIsSteady p g × IsSteady p e
  IsSteady p (prim q) = IsSteadyRow (row_of q)
  IsSteady p (vec_lit t es) = AllAreSteady p es
  IsSteady p (case_of s alts) = IsSteady p s × AltsAreSteady p alts
  IsSteady p _ = Unit {0}

  pub AllAreSteady : Program → Terms → Type 0
  AllAreSteady p no_terms = Unit {0}
  AllAreSteady p (term_and e es) = IsSteady p e × AllAreSteady p es

  pub GroupIsSteady : Program → Group → Type 0
  GroupIsSteady p no_bindings = Unit {0}
  GroupIsSteady p (bind t e g) = IsSteady p e × GroupIsSteady p g

  pub AltsAreSteady : Program → Alts → Type 0
  AltsAreSteady p no_alts = Unit {0}
  AltsAreSteady p (alt q e more) = IsSteady p e × AltsAreSteady p more

abbrev pub IsSteadyHead : Head → Type 0
IsSteadyHead (con_head c) = Unit {0}
IsSteadyHead (prim_head q) = IsSteadyRow (row_of q)

mutual
  -- all that is left to be evaluated in the value is steady
  pub data SteadyValue (p : Program) : Value → Type 0 where
    steady_bits : {b : List Bool} → SteadyValue p (bits b)
    steady_con : {c : ℕ} {ths : Thunks} → SteadyThunks p ths → SteadyValue p (con_of c ths)
    steady_vec : {ths : Thunks} → SteadyThunks p ths → SteadyValue p (vec_of ths)
    steady_closure : {e : TermTree} {γ : Thunks} {δ : TypeTrees} → IsSteady p e → SteadyThunks p γ → SteadyValue p (closure e γ δ)
    steady_ty_closure : {e : TermTree} {γ : Thunks} {δ : TypeTrees} → IsSteady p e → SteadyThunks p γ → SteadyValue p (ty_closure e γ δ)
    steady_partial : {hd : Head} {ts : TypeTrees} {ths : Thunks} → IsSteadyHead hd → SteadyThunks p ths → SteadyValue p (partial hd ts ths)

  -- the thunk is made of steady terms, data values and samples; no stream is steady. A sample is looked at at its own history: it is steady
  -- where what it gives there is
  pub data SteadyThunk (p : Program) : Thunk → Type 0 where
    steady_closed : {e : TermTree} {γ : Thunks} {δ : TypeTrees} → IsSteady p e → SteadyThunks p γ → SteadyThunk p (closed e γ δ)
    steady_applied : {f a : Thunk} → SteadyThunk p f → SteadyThunk p a → SteadyThunk p (applied f a)
    steady_member : {g : Group} {i : ℕ} {γ : Thunks} {δ : TypeTrees} → GroupIsSteady p g → SteadyThunks p γ → SteadyThunk p (member g i γ δ)
    steady_field : {i : ℕ} {th : Thunk} → SteadyThunk p th → SteadyThunk p (field i th)
    steady_element : {j : ℕ} {th : Thunk} → SteadyThunk p th → SteadyThunk p (element j th)
    steady_sample : {th : Thunk} {h : History} → ((n : ℕ) (v : Value) → Forces p n th h v → SteadyValue p v) → SteadyThunk p (sample th h)
    steady_known : {d : Datum} → SteadyThunk p (known d)

  pub data SteadyThunks (p : Program) : Thunks → Type 0 where
    steady_none : SteadyThunks p none
    steady_and : {th : Thunk} {ths : Thunks} → SteadyThunk p th → SteadyThunks p ths → SteadyThunks p (thunk_and th ths)
