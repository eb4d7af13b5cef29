-- Which terms are calls that become made definitions.
use Rattle.std.proofs.Common.{◌≡◌, ◌∙◌, ◌⊎◌, inl, inr, ap, sym, refl, subst, ℕ, List, []}
use Rattle.std.proofs.Common.{Contains, Option, Some, None}
use Rattle.std.specs.Option.{option_map}
use Rattle.chw_base.specs.declared.index.DefId.{DefId}
use Rattle.chw_types.specs.TypeTree.{TypeTree}
use Rattle.chw_terms.specs.declared.term.Arg.{Arg}
use Rattle.chw_terms.specs.declared.term.Arg.TheVariants.{OfTerm}
use Rattle.chw_terms.specs.declared.term.Head.{Head}
use Rattle.chw_terms.specs.declared.term.Head.TheVariants.{Var, Global, Made, Lam, TyLam, LetRec}
use Rattle.chw_terms.specs.declared.term.Head.TheVariants.{Con, PrimOf, Lit, VecLit, Case}
use Rattle.chw_terms.specs.FreeVariables.{free_in}
use Rattle.chw_terms.specs.TermMoves.{rename}
use Rattle.chw_terms.specs.TermTree.{TermTree, var, global, made, lam, app, ty_lam, ty_app}
use Rattle.chw_terms.specs.TermTree.{letrec, con, prim, lit, vec_lit, case_of}
use Rattle.chw_terms.specs.TermView.{tree_of, applied}
use Rattle.chw_typing.specs.HeadTypes.{from_each}
use Rattle.chw_typing.specs.Typing.{HasType}
use Rattle.chw_typing.specs.Finding.{Finds}
use Rattle.chw_typing.specs.FoundLaws.{OneFound}
use Rattle.rewriting.specs.Calls.{IsCall, call_origin, to_lambdas}
use Rattle.rewriting.specs.Named.{IsNamed}
use Rattle.rewriting.specs.Origins.{MadeOf, Origins, origin_of, setting_at, under_each}
use Rattle.rewriting.specs.Runs.{sort_at}
use Rattle.rewriting.specs.Shapes.{IsVariable}
use Rattle.rewriting.specs.Spots.{Spot}
use Rattle.rewriting.proofs.Spines.{IsBare, head_is, args_are}
use Rattle.rule_parts.proofs.Heads.{bare}
use Rattle.specialise.specs.Calls.{HaveTypes, IsPlain, NoneNeedsName, AnswersTypes}
use Rattle.specialise.specs.Closed.{closed}
use Rattle.specialise.specs.Seeds.{IsOfCall}
use Rattle.specialise.proofs.Lambdas.{origin_under}

-- a term is a variable or not
variable_or_not : (a : TermTree) → IsVariable a ⊎ (IsVariable a → ⊥)
variable_or_not (var x) = inl tt
variable_or_not (global d) = inr (λ k. k)
variable_or_not (made m) = inr (λ k. k)
variable_or_not (lam t e) = inr (λ k. k)
variable_or_not (app f a) = inr (λ k. k)
variable_or_not (ty_lam k e) = inr (λ k. k)
variable_or_not (ty_app f t) = inr (λ k. k)
variable_or_not (letrec g e) = inr (λ k. k)
variable_or_not (con c) = inr (λ k. k)
variable_or_not (prim p) = inr (λ k. k)
variable_or_not (lit s b) = inr (λ k. k)
variable_or_not (vec_lit t es) = inr (λ k. k)
variable_or_not (case_of s alts) = inr (λ k. k)

-- another head is no name of a definition
no_global : (h : Head) (d : ℕ) → ((d : _) → h ≡ Global d → ⊥) → tree_of h ≡ global d → ⊥
no_global (Var x) d none q = absurd cc
no_global (Global c) d none q = none c refl
no_global (Made m) d none q = absurd cc
no_global (Lam t e) d none q = absurd cc
no_global (TyLam k e) d none q = absurd cc
no_global (LetRec bs e) d none q = absurd cc
no_global (Con c) d none q = absurd cc
no_global (PrimOf p) d none q = absurd cc
no_global (Lit s b) d none q = absurd cc
no_global (VecLit t es) d none q = absurd cc
no_global (Case e alts) d none q = absurd cc

bare_global : (d : ℕ) → IsBare (global d)
bare_global d = record { itself = refl; alone = refl }

pub not_plain : {o : Origins} {at : Spot} {e : TermTree} (h : Head) (args : List Arg)
    → ((d : _) → h ≡ Global d → ⊥) → applied (tree_of h) args ≡ e → IsPlain o at e → ⊥
not_plain h args none q p =
    no_global h p.0 none
    (head_is (tree_of h) (global p.0) args p.1 (bare h) (bare_global p.0) (q ∙ p.2))

-- at the name of a definition the arguments tell
pub plain_there : {o : Origins} {at : Spot} {e : TermTree} (h : Head) (d : DefId)
    (args : List Arg) → h ≡ Global d → applied (tree_of h) args ≡ e → NoneNeedsName o at args
    → IsPlain o at e
plain_there h d args is q none =
    (d.number, args, sym q ∙ ap (λ h. applied (tree_of h) args) is, none)

pub plain_needs_none : {o : Origins} {at : Spot} {e : TermTree} (h : Head) (args : List Arg)
    → applied (tree_of h) args ≡ e → IsPlain o at e → NoneNeedsName o at args
plain_needs_none {o} {at} h args q p =
    let same : args ≡ p.1 =
    args_are (tree_of h) (global p.0) args p.1 (bare h) (bare_global p.0) (q ∙ p.2) in
    subst (NoneNeedsName o at) (sym same) p.3

-- one whose type isn't named is none
pub named_call : {o : Origins} {at : Spot} {e : TermTree} {types : List TypeTree}
    {gives : TypeTree} (t : TypeTree) → OneFound → Finds (setting_at o) [] at.vars e t
    → IsCall o at e types gives → IsNamed o.program.datas at.mode t
named_call {o} {at} {e} {types} {gives} t one f c =
    subst (IsNamed o.program.datas at.mode) (one (setting_at o) [] at.vars e gives t c.has f)
    c.named

-- it is plain: no argument of one needs a name
pub called_plain : {o : Origins} {at : Spot} {e : TermTree} {types : List TypeTree}
    {gives : TypeTree} → IsCall o at e types gives → IsPlain o at e
called_plain c = (
  c.of,
  c.args,
  c.is,
  λ a there needs. needs.no_variable (c.on_variables a needs.type there needs.has needs.named),
)

variable_there : (o : Origins) (at : Spot) (args : List Arg) (a : TermTree) (u : TypeTree)
    → NoneNeedsName o at args → Contains args (OfTerm a) → HasType (setting_at o) [] at.vars a u
    → IsNamed o.program.datas at.mode u → IsVariable a
variable_there o at args a u none there has named = elim (variable_or_not a) [
  | inl v ↦ v
  | inr other ↦
      absurd (none a there (record { no_variable = other; type = u; has = has; named = named }))
]

-- its free variables have named types
pub called_types : {o : Origins} {at : Spot} {e : TermTree} {types : List TypeTree}
    {gives : TypeTree} (free : List ℕ) → free ≡ free_in e → IsCall o at e types gives
    → HaveTypes o at free types
called_types {o} {at} {e} {types} free q c =
    subst (λ xs. HaveTypes o at xs types) (sym q)
    (record { are = c.free; named = c.free_named })

-- and where all that is so, it is one, and becomes this
pub is_called : {o : Origins} {at : Spot} (e : TermTree) (free : List ℕ) (types : List TypeTree)
    (gives : TypeTree) → IsPlain o at e → Finds (setting_at o) [] at.vars e gives
    → IsNamed o.program.datas at.mode gives → free ≡ free_in e → HaveTypes o at free types
    → IsCall o at e types gives
is_called {o} {at} e free types gives plain f named all have =
    let types_of : HaveTypes o at (free_in e) types =
    subst (λ xs. HaveTypes o at xs types) all have in
    record {
      of = plain.0;
      args = plain.1;
      is = plain.2;
      has = f;
      named = named;
      on_variables = λ a u there has it.
          variable_there o at plain.1 a u plain.3 there has it;
      free = types_of.are;
      free_named = types_of.named;
    }

pub seed_made : {o : Origins} {at : Spot} (e : TermTree) (free : List ℕ) (types : List TypeTree)
    (gives : TypeTree) (it : MadeOf) (inner : TermTree) → IsCall o at e types gives
    → free ≡ free_in e → inner ≡ closed o (to_lambdas free) e → it.origin ≡ under_each types inner
    → it.ty ≡ from_each types gives → it.sort ≡ sort_at at.mode → IsOfCall o at e it
seed_made {o} {at} e free types gives it inner c all inside origin ty sort =
    let body : inner ≡ origin_of o (rename e (to_lambdas (free_in e))) =
    inside ∙ ap (λ xs. closed o (to_lambdas xs) e) all in
    let whole : it.origin ≡ call_origin o types e =
    origin ∙ ap (under_each types) body ∙ origin_under o types (rename e (to_lambdas (free_in e))) in
    record {
      types = types;
      gives = gives;
      call = c;
      is = λ i. record { origin = whole i; ty = ty i; sort = sort i };
    }

-- what an answer says of types
pub no_types : {A : Type 0} (f : A → List TypeTree) (o : Origins) (at : Spot) (xs : List ℕ)
    (r : Option A) → ((x : A) → r ≡ Some x → ⊥) → AnswersTypes o at xs (option_map f r)
    → (ts : List TypeTree) → HaveTypes o at xs ts → ⊥
no_types f o at xs None none h = h
no_types f o at xs (Some x) none h = absurd (none x refl)

pub types_are : {A : Type 0} (f : A → List TypeTree) (o : Origins) (at : Spot) (xs : List ℕ)
    (r : Option A) (x : A) → r ≡ Some x → AnswersTypes o at xs (option_map f r)
    → HaveTypes o at xs (f x)
types_are f o at xs r x q h = subst (λ r. AnswersTypes o at xs (option_map f r)) q h
