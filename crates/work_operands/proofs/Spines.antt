-- What a head on arguments becomes, where the first operand gets its name.
use Rattle.std.proofs.Common.{◌≡◌, ◌∙◌, sym, refl, ap, subst, ℕ, ◌<◌, List, []}
use Rattle.std.proofs.Common.{length, Some}
use Rattle.std.specs.List.{slice_get}
use Rattle.std.proofs.lemmas.List.{append-nil as nothing_behind}
use Rattle.chw_prims.specs.declared.prim.Primitive.{Primitive as Prim}
use Rattle.chw_prims.specs.Schemas.{schema_type}
use Rattle.chw_terms.specs.Constructors.{Constructor, con_at}
use Rattle.chw_terms.specs.declared.rule.Rule.TheVariants.{Anf}
use Rattle.chw_terms.specs.declared.term.Arg.{Arg}
use Rattle.chw_terms.specs.declared.term.Arg.TheVariants.{OfTerm}
use Rattle.chw_terms.specs.TermTree.{TermTree, var, lam, ty_lam, letrec, lit, global, made, con}
use Rattle.chw_terms.specs.TermTree.{prim}
use Rattle.chw_terms.specs.TermView.{applied}
use Rattle.chw_terms.proofs.Spines.{applied_more}
use Rattle.chw_typing.specs.HeadTypes.{con_type}
use Rattle.chw_typing.specs.Paths.{IsEarlier, argument_path}
use Rattle.rewriting.specs.Origins.{Origins}
use Rattle.rewriting.specs.Spots.{Spot, HasLets, asked_for}
use Rattle.rewriting.specs.Calls.{OfWhole, anf_call}
use Rattle.rewriting.specs.Operands.{StandsAt, of_prim, of_con, StandsInCall, of_global, of_made}
use Rattle.rewriting.specs.Operands.{NeedsName, NoneNeedsName, IsFirstOperand, IsFirstOfCall}
use Rattle.rewriting.specs.Operands.{OfOperands, anf, with_name}
use Rattle.rewriting.proofs.Spines.{IsBare, backs_same}
use Rattle.rule_parts.specs.Cores.{MakesOf, of_core}
use Rattle.work_operands.specs.declared.operands.Operands.{Operands}
use Rattle.work_operands.specs.declared.operands.Operands.TheVariants.{Each, OfPrim}
use Rattle.work_operands.specs.Firsts.{NoneNamed, IsFirstNamed, IsAmong}
use Rattle.work_operands.specs.Firsts.{AreParted, IsName}
use Rattle.work_operands.specs.Named.{with_arg_named}
use Rattle.work_operands.proofs.Named.{HasNoVariables, prim_stays, con_stays, global_stays}
use Rattle.work_operands.proofs.Named.{made_stays, argument_named, earlier_argument, within}
use Rattle.work_operands.proofs.Standing.{bare_prim, bare_con, InArgs, StandsIn, in_prim, in_con}
use Rattle.work_operands.proofs.Standing.{in_case, in_vector, stands_in, InCall, in_call, prim_in}
use Rattle.work_operands.proofs.Standing.{con_in, whole_core}

-- no operand needs a name, wherever it stands
pub none_needs : (o : Origins) (at : Spot) (h : TermTree) (args : List Arg) → IsBare h
    → ((path : List ℕ) (x : TermTree) → StandsIn o at h args path x → NeedsName o at x → ⊥)
    → ((path : List ℕ) (x : TermTree) → InCall at h args path x → NeedsName o at x → ⊥)
    → NoneNeedsName o at (applied h args)
none_needs o at h args b no_part no_arg = record {
  in_core = λ core rest path x q i. no_part path x (stands_in h args rest b i.0 q) i.1;
  in_call = λ path x i. no_arg path x (in_call h args b i.0 refl) i.1;
}

none_in_args : {o : Origins} {at : Spot} {among : Operands} {n : ℕ} {args : List Arg}
    {path : List ℕ} {x : TermTree} → NoneNamed o at among args n → InArgs among n args path x
    → NeedsName o at x → ⊥
none_in_args {n = n} {x = x} none i needs =
    let less = subst (λ n. i.number < n) i.parted.count (within i.core i.number x i.is) in
    none i.core i.rest i.parted i.number x less i.operand i.is needs

pub prim_needs_none : (o : Origins) (at : Spot) (p : Prim) (args : List Arg)
    → NoneNamed o at (OfPrim p) args (asked_for (schema_type p))
    → NoneNeedsName o at (applied (prim p) args)
prim_needs_none o at p args none =
    none_needs o at (prim p) args (bare_prim p)
    (λ path x i needs. none_in_args none (prim_in p i) needs) (λ path x i needs. i.name)

pub con_needs_none : (o : Origins) (at : Spot) (c : ℕ) (args : List Arg)
    → ((it : Constructor) → HasLets at.mode → con_at o.program.datas c ≡ Some it
    → NoneNamed o at Each args (asked_for (con_type it)))
    → NoneNeedsName o at (applied (con c) args)
con_needs_none o at c args none = none_needs o at (con c) args (bare_con c)
    (λ path x i needs.
    let it = con_in c i in none_in_args (none it.it it.lets it.is) it.args_in needs)
    (λ path x i needs. i.name)

no_part_of_name : {o : Origins} {at : Spot} {args : List Arg} {path : List ℕ} {x : TermTree}
    (h : TermTree) → IsName h → StandsIn o at h args path x → ⊥
no_part_of_name h n (in_prim p q i) = subst IsName q n
no_part_of_name h n (in_con c it q m k i) = subst IsName q n
no_part_of_name h n (in_case alts q r) = subst IsName q n
no_part_of_name h n (in_vector t es i q m k r) = subst IsName q n

bare_name : (h : TermTree) → IsName h → IsBare h
bare_name (global d) n = record { itself = refl; alone = refl }
bare_name (made m) n = record { itself = refl; alone = refl }
bare_name _ n = absurd n

name_stays : (h : TermTree) → IsName h → HasNoVariables h
name_stays (global d) n = global_stays d
name_stays (made m) n = made_stays m
name_stays _ n = absurd n

-- all arguments, and no others
all_parted : (args : List Arg) → AreParted args (length args) args []
all_parted args = record { are = sym (nothing_behind args); count = refl }

pub call_needs_none : (o : Origins) (at : Spot) (h : TermTree) (args : List Arg) → IsName h
    → (HasLets at.mode → NoneNamed o at Each args (length args))
    → NoneNeedsName o at (applied h args)
call_needs_none o at h args name none = none_needs o at h args (bare_name h name)
    (λ path x i needs. no_part_of_name h name i)
    (λ path x i needs.
    none i.lets args [] (all_parted args) i.number x (within args i.number x i.is) tt i.is needs)

-- the first operand of a primitive or of a constructor
first_named : {o : Origins} {at : Spot} {among : Operands} {n : ℕ} {e : TermTree} (h : TermTree)
    (args : List Arg) → HasNoVariables h
    → ((core : List Arg) (i : ℕ) (x : TermTree) → length core ≡ n → IsAmong among i
    → slice_get core i ≡ Some (OfTerm x)
    → StandsAt o at (applied h core) (argument_path i (length core)) x)
    → ((core : List Arg) (path : List ℕ) (x : TermTree) → StandsAt o at (applied h core) path x
    → InArgs among n core path x)
    → IsFirstNamed o at among h args n e → MakesOf o at Anf (applied h args) e
first_named {o} {at} {among} {n} {e} h args v stands inside f =
    let i = f.number in
    let t = f.type in
    let x = f.operand in
    let path = argument_path i (length f.core) in
    let first : IsFirstOperand o at (applied h f.core) path x = record {
      is = (stands f.core i x f.parted.count f.first.operand f.first.is, f.first.needs.0);
      first = λ q y p l.
          let j = inside f.core q y p.0 in
          let same : f.core ≡ j.core = whole_core f.core j.core j.rest n f.parted.count j.parted in
          let there : q ≡ argument_path j.number (length f.core) =
          j.at_path ∙ ap (λ core. argument_path j.number (length core)) (sym same) in
          let earlier = subst (λ q. IsEarlier q path) there l in
          let less = earlier_argument j.number i (length f.core) earlier in
          let is = subst (λ core. slice_get core j.number ≡ Some (OfTerm y)) (sym same) j.is in
          f.first.first j.number y less j.operand is p.1;
    } in
    let named = argument_named h f.core i t x v f.first.is in
    let e' = with_arg_named h f.core i t x in
    let made : MakesOf o at Anf (applied (applied h f.core) f.rest) (applied e' f.rest) =
    of_core (applied h f.core) e' f.rest
    (subst (OfOperands o at Anf (applied h f.core)) named (anf first f.first.needs.1)) in
    let whole : applied (applied h f.core) f.rest ≡ applied h args =
    sym (applied_more h f.core f.rest) ∙ ap (applied h) (sym f.parted.are) in
    subst (λ e. MakesOf o at Anf (applied h args) e) (sym f.is)
    (subst (λ d. MakesOf o at Anf d (applied e' f.rest)) whole made)

pub prim_named : {o : Origins} {at : Spot} {e : TermTree} (p : Prim) (args : List Arg)
    → IsFirstNamed o at (OfPrim p) (prim p) args (asked_for (schema_type p)) e
    → MakesOf o at Anf (applied (prim p) args) e
prim_named p args f = first_named (prim p) args (prim_stays p)
    (λ core i x n a g. of_prim p core i n a g)
    (λ core path x s. prim_in p (stands_in (prim p) core [] (bare_prim p) s refl)) f

pub con_named : {o : Origins} {at : Spot} {e : TermTree} (c : ℕ) (it : Constructor)
    (args : List Arg) → HasLets at.mode → con_at o.program.datas c ≡ Some it
    → IsFirstNamed o at Each (con c) args (asked_for (con_type it)) e
    → MakesOf o at Anf (applied (con c) args) e
con_named {o} c it args m k f =
    first_named (con c) args (con_stays c) (λ core i x n a g. of_con c core i m k n g)
    (λ core path x s.
    let i = con_in c (stands_in (con c) core [] (bare_con c) s refl) in
    let same : i.it ≡ it = (let both : Some i.it ≡ Some it = sym i.is ∙ k in cc) in
    subst (λ it. InArgs Each (asked_for (con_type it)) core path x) same i.args_in)
    f

call_stands : {at : Spot} {x : TermTree} (h : TermTree) (args : List Arg) (i : ℕ) → IsName h
    → HasLets at.mode → slice_get args i ≡ Some (OfTerm x)
    → StandsInCall at (applied h args) (argument_path i (length args)) x
call_stands (global d) args i n m g = of_global d args i m g
call_stands (made d) args i n m g = of_made d args i m g
call_stands _ args i n m g = absurd n

-- the first argument of a call
pub call_named : {o : Origins} {at : Spot} {e : TermTree} (h : TermTree) (args : List Arg)
    → IsName h → HasLets at.mode → IsFirstNamed o at Each h args (length args) e
    → OfWhole o at Anf (applied h args) e
call_named {o} {at} {e} h args name m f =
    let i = f.number in
    let t = f.type in
    let x = f.operand in
    let path = argument_path i (length args) in
    let all : args ≡ f.core = whole_core args f.core f.rest (length args) refl f.parted in
    let both = sym f.parted.are ∙ sym (nothing_behind args) in
    let none : f.rest ≡ [] = backs_same f.core args f.rest [] f.parted.count both in
    let is : slice_get args i ≡ Some (OfTerm x) =
    subst (λ core. slice_get core i ≡ Some (OfTerm x)) (sym all) f.first.is in
    let first : IsFirstOfCall o at (applied h args) path x = record {
      is = (call_stands h args i name m is, f.first.needs.0);
      first = λ q y p l.
          let j = in_call h args (bare_name h name) p.0 refl in
          let earlier = subst (λ q. IsEarlier q path) j.at_path l in
          let less = earlier_argument j.number i (length args) earlier in
          let is = subst (λ core. slice_get core j.number ≡ Some (OfTerm y)) all j.is in
          f.first.first j.number y less tt is p.1;
    } in
    let named : with_name (applied h args) path t x ≡ e =
    argument_named h args i t x (name_stays h name) is
    ∙ (λ k. applied (with_arg_named h (all k) i t x) (sym none k)) ∙ sym f.is in
    subst (OfWhole o at Anf (applied h args)) named (anf_call first f.first.needs.1)

-- heads that have no operands
abbrev pub HasNoOperands : TermTree → Type 0
HasNoOperands (var x) = Unit {0}
HasNoOperands (lam t e) = Unit {0}
HasNoOperands (ty_lam k e) = Unit {0}
HasNoOperands (letrec g e) = Unit {0}
HasNoOperands (lit s bits) = Unit {0}
HasNoOperands _ = ⊥

no_part_of_other : {o : Origins} {at : Spot} {args : List Arg} {path : List ℕ} {x : TermTree}
    (h : TermTree) → HasNoOperands h → StandsIn o at h args path x → ⊥
no_part_of_other h n (in_prim p q i) = subst HasNoOperands q n
no_part_of_other h n (in_con c it q m k i) = subst HasNoOperands q n
no_part_of_other h n (in_case alts q r) = subst HasNoOperands q n
no_part_of_other h n (in_vector t es i q m k r) = subst HasNoOperands q n

no_name : (h : TermTree) → HasNoOperands h → IsName h → ⊥
no_name (global d) n m = n
no_name (made d) n m = n
no_name _ n m = m

pub other_needs_none : (o : Origins) (at : Spot) (h : TermTree) (args : List Arg) → IsBare h
    → HasNoOperands h → NoneNeedsName o at (applied h args)
other_needs_none o at h args b n =
    none_needs o at h args b (λ path x i needs. no_part_of_other h n i)
    (λ path x i needs. no_name h n i.name)
