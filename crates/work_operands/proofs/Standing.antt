-- Where operands stand: among arguments, as a scrutinee, among elements.
use Rattle.std.proofs.Common.{◌≡◌, ◌∙◌, sym, refl, subst, ℕ, zero, List, [], ◌∷◌, ◌++◌, length}
use Rattle.std.proofs.Common.{Some}
use Rattle.std.specs.List.{slice_get}
use Rattle.std.proofs.lemmas.List.{append-nil as nothing_behind}
use Rattle.chw_types.specs.TypeTree.{TypeTree}
use Rattle.chw_prims.specs.declared.prim.Primitive.{Primitive as Prim}
use Rattle.chw_prims.specs.Schemas.{schema_type}
use Rattle.chw_terms.specs.Constructors.{Constructor, con_at}
use Rattle.chw_terms.specs.declared.term.Arg.{Arg}
use Rattle.chw_terms.specs.declared.term.Arg.TheVariants.{OfTerm}
use Rattle.chw_terms.specs.TermTree.{TermTree, global, made, con, prim, vec_lit, case_of, Terms}
use Rattle.chw_terms.specs.TermTree.{Alts}
use Rattle.chw_terms.specs.TermView.{applied}
use Rattle.chw_terms.proofs.Spines.{applied_more}
use Rattle.chw_typing.specs.HeadTypes.{con_type}
use Rattle.chw_typing.specs.Paths.{element_at, argument_path}
use Rattle.rewriting.specs.Origins.{Origins}
use Rattle.rewriting.specs.Spots.{Spot, HasLets, asked_for}
use Rattle.rewriting.specs.Operands.{StandsAt, of_prim, of_case, of_con, of_vector, StandsInCall}
use Rattle.rewriting.specs.Operands.{of_global, of_made}
use Rattle.rewriting.proofs.Spines.{IsBare, head_is, args_are, fronts_same}
use Rattle.work_operands.specs.declared.operands.Operands.{Operands}
use Rattle.work_operands.specs.declared.operands.Operands.TheVariants.{Each, OfPrim}
use Rattle.work_operands.specs.Firsts.{IsAmong, AreParted, IsName}

-- heads are no applications
pub bare_prim : (p : Prim) → IsBare (prim p)
bare_prim p = record { itself = refl; alone = refl }

pub bare_con : (c : ℕ) → IsBare (con c)
bare_con c = record { itself = refl; alone = refl }

pub bare_case : (e : TermTree) (alts : Alts) → IsBare (case_of e alts)
bare_case e alts = record { itself = refl; alone = refl }

pub bare_vector : (t : TypeTree) (es : Terms) → IsBare (vec_lit t es)
bare_vector t es = record { itself = refl; alone = refl }

-- an operand among the first so many arguments
pub record InArgs (among : Operands) (n : ℕ) (args : List Arg) (path : List ℕ)
    (x : TermTree) : Type 0 where
  pub core : List Arg
  pub rest : List Arg
  pub parted : AreParted args n core rest
  pub number : ℕ
  pub operand : IsAmong among number
  pub is : slice_get core number ≡ Some (OfTerm x)
  pub at_path : path ≡ argument_path number (length core)

-- an operand of a head on arguments
pub data StandsIn (o : Origins) (at : Spot) (h : TermTree) (args : List Arg) (path : List ℕ)
    (x : TermTree) : Type 0 where
  in_prim : (p : Prim) → h ≡ prim p → InArgs (OfPrim p) (asked_for (schema_type p)) args path x
      → StandsIn o at h args path x
  in_con : (c : ℕ) (it : Constructor) → h ≡ con c → HasLets at.mode
      → con_at o.program.datas c ≡ Some it → InArgs Each (asked_for (con_type it)) args path x
      → StandsIn o at h args path x
  in_case : (alts : Alts) → h ≡ case_of x alts → path ≡ zero ∷ [] → StandsIn o at h args path x
  in_vector : (t : TypeTree) (es : Terms) (i : ℕ) → h ≡ vec_lit t es → HasLets at.mode
      → element_at es i ≡ Some x → path ≡ i ∷ [] → StandsIn o at h args path x

pub stands_in : {o : Origins} {at : Spot} {e x : TermTree} {path : List ℕ} (h : TermTree)
    (args rest : List Arg) → IsBare h → StandsAt o at e path x → applied h args ≡ applied e rest
    → StandsIn o at h args path x
stands_in h args rest b (of_prim p core i n k g) q =
    let whole : applied h args ≡ applied (prim p) (core ++ rest) =
    q ∙ sym (applied_more (prim p) core rest) in
    in_prim p (head_is h (prim p) args (core ++ rest) b (bare_prim p) whole)
    (record {
      core = core;
      rest = rest;
      parted = record {
        are = args_are h (prim p) args (core ++ rest) b (bare_prim p) whole;
        count = n;
      };
      number = i;
      operand = k;
      is = g;
      at_path = refl;
    })
stands_in h args rest b (of_case {e = e} {alts = alts}) q =
    in_case alts (head_is h (case_of e alts) args rest b (bare_case e alts) q) refl
stands_in h args rest b (of_con c {it = it} core i m k n g) q =
    let whole : applied h args ≡ applied (con c) (core ++ rest) =
    q ∙ sym (applied_more (con c) core rest) in
    in_con c it (head_is h (con c) args (core ++ rest) b (bare_con c) whole) m k
    (record {
      core = core;
      rest = rest;
      parted = record {
        are = args_are h (con c) args (core ++ rest) b (bare_con c) whole;
        count = n;
      };
      number = i;
      operand = tt;
      is = g;
      at_path = refl;
    })
stands_in h args rest b (of_vector {t = t} {es = es} {i = i} m k) q =
    in_vector t es i (head_is h (vec_lit t es) args rest b (bare_vector t es) q) m k refl

-- an operand of a call
pub record InCall (at : Spot) (h : TermTree) (args : List Arg) (path : List ℕ)
    (x : TermTree) : Type 0 where
  pub lets : HasLets at.mode
  pub name : IsName h
  pub number : ℕ
  pub is : slice_get args number ≡ Some (OfTerm x)
  pub at_path : path ≡ argument_path number (length args)

called : {at : Spot} {path : List ℕ} {x : TermTree} (h k : TermTree) (args given : List Arg) (i : ℕ)
    → IsBare h → IsBare k → IsName k → HasLets at.mode → slice_get given i ≡ Some (OfTerm x)
    → path ≡ argument_path i (length given) → applied h args ≡ applied k given
    → InCall at h args path x
called {at} {path} {x} h k args given i b d name m g p q =
    let same : args ≡ given = args_are h k args given b d q in
    record {
      lets = m;
      name = subst IsName (sym (head_is h k args given b d q)) name;
      number = i;
      is = subst (λ args. slice_get args i ≡ Some (OfTerm x)) (sym same) g;
      at_path = subst (λ args. path ≡ argument_path i (length args)) (sym same) p;
    }

pub in_call : {at : Spot} {e x : TermTree} {path : List ℕ} (h : TermTree) (args : List Arg)
    → IsBare h → StandsInCall at e path x → applied h args ≡ e → InCall at h args path x
in_call h args b (of_global d given i m g) q =
    called h (global d) args given i b (record { itself = refl; alone = refl }) tt m g refl q
in_call h args b (of_made d given i m g) q =
    called h (made d) args given i b (record { itself = refl; alone = refl }) tt m g refl q

-- of a head of one form
pub prim_in : {o : Origins} {at : Spot} {args : List Arg} {path : List ℕ} {x : TermTree} (p : Prim)
    → StandsIn o at (prim p) args path x → InArgs (OfPrim p) (asked_for (schema_type p)) args path x
prim_in {args = args} {path = path} {x = x} p (in_prim p' q i) =
    let same : p' ≡ p = cc in
    subst (λ p. InArgs (OfPrim p) (asked_for (schema_type p)) args path x) same i
prim_in p (in_con c it q m k i) = absurd cc
prim_in p (in_case alts q r) = absurd cc
prim_in p (in_vector t es i q m k r) = absurd cc

pub record InCon (o : Origins) (at : Spot) (c : ℕ) (args : List Arg) (path : List ℕ)
    (x : TermTree) : Type 0 where
  pub it : Constructor
  pub lets : HasLets at.mode
  pub is : con_at o.program.datas c ≡ Some it
  pub args_in : InArgs Each (asked_for (con_type it)) args path x

pub con_in : {o : Origins} {at : Spot} {args : List Arg} {path : List ℕ} {x : TermTree} (c : ℕ)
    → StandsIn o at (con c) args path x → InCon o at c args path x
con_in c (in_prim p q i) = absurd cc
con_in {o} c (in_con c' it q m k i) =
    let same : c' ≡ c = cc in
    record {
      it = it;
      lets = m;
      is = subst (λ c. con_at o.program.datas c ≡ Some it) same k;
      args_in = i;
    }
con_in c (in_case alts q r) = absurd cc
con_in c (in_vector t es i q m k r) = absurd cc

pub case_in : {o : Origins} {at : Spot} {args : List Arg} {path : List ℕ} {x : TermTree}
    (e : TermTree) (alts : Alts) → StandsIn o at (case_of e alts) args path x
    → StandsAt o at (case_of e alts) path x
case_in e alts (in_prim p q i) = absurd cc
case_in e alts (in_con c it q m k i) = absurd cc
case_in {o} {at} {path = path} {x = x} e alts (in_case alts' q r) =
    let same : e ≡ x = cc in
    subst (λ path. StandsAt o at (case_of e alts) path x) (sym r)
    (subst (StandsAt o at (case_of e alts) (zero ∷ [])) same of_case)
case_in e alts (in_vector t es i q m k r) = absurd cc

pub vector_in : {o : Origins} {at : Spot} {args : List Arg} {path : List ℕ} {x : TermTree}
    (t : TypeTree) (es : Terms) → StandsIn o at (vec_lit t es) args path x
    → StandsAt o at (vec_lit t es) path x
vector_in t es (in_prim p q i) = absurd cc
vector_in t es (in_con c it q m k i) = absurd cc
vector_in t es (in_case alts q r) = absurd cc
vector_in {o} {at} {path = path} {x = x} t es (in_vector t' es' i q m k r) =
    let same : es' ≡ es = cc in
    subst (λ path. StandsAt o at (vec_lit t es) path x) (sym r)
    (of_vector m (subst (λ es. element_at es i ≡ Some x) same k))

-- the first so many of just as many arguments are these
pub whole_core : (args core rest : List Arg) (n : ℕ) → length args ≡ n → AreParted args n core rest
    → args ≡ core
whole_core args core rest n m p =
    fronts_same args core [] rest (m ∙ sym p.count) (nothing_behind args ∙ p.are)
