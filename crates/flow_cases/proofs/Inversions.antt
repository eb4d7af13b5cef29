-- What a case has of which a rule on cases makes something.
use Rattle.std.proofs.Common.{◌≡◌, ◌∙◌, ℕ, sym, ap, refl, subst, Bool, List, [], length, Some, slice_get, ◌⊎◌, inl, inr}
use Rattle.chw_base.specs.declared.index.ConId.{ConId}
use Rattle.chw_types.specs.declared.kind.Scalar.{Scalar}
use Rattle.type_ports.specs.Ports.{IsPort}
use Rattle.chw_types.specs.TypeTree.{TypeTree}
use Rattle.chw_terms.specs.Constructors.{Constructor, con_at}
use Rattle.chw_terms.specs.declared.rule.Rule.{Rule}
use Rattle.chw_terms.specs.declared.rule.Rule.TheVariants.{CaseCon, CaseLet, CaseCase, Proj}
use Rattle.chw_terms.specs.declared.scene.Mode.TheVariants.{C}
use Rattle.chw_terms.specs.declared.term.Arg.{Arg}
use Rattle.chw_terms.specs.declared.term.Head.{Head}
use Rattle.chw_terms.specs.declared.term.Pattern.TheVariants.{OfCon, OfLit, Default}
use Rattle.chw_terms.specs.TermTree.{TermTree, var, letrec, con, lit, case_of, Group, Alts, no_alts, alt}
use Rattle.chw_terms.specs.TermView.{tree_of, applied}
use Rattle.chw_typing.specs.HeadTypes.{PatternOf}
use Rattle.chw_typing.specs.Typing.{HasType}
use Rattle.chw_typing.specs.Given.{types_then}
use Rattle.chw_typing.specs.Paths.{Branch}
use Rattle.rewriting.specs.Named.{IsNamed}
use Rattle.rewriting.specs.Origins.{Origins, setting_at}
use Rattle.rewriting.specs.Spots.{Spot}
use Rattle.rewriting.specs.Cases.{OfCases, case_con, case_lit, case_any, case_let, case_case, proj}
use Rattle.rewriting.specs.Shapes.{IsTakenBy}
use Rattle.rewriting.proofs.Spines.{head_of, head_applied, head_is, args_are}
use Rattle.rule_parts.proofs.Heads.{bare}
use Rattle.flow_cases.specs.Ports.{IsPortCase}

-- a case on a letrec
pub of_let : {o : Origins} {at : Spot} {r : Rule} {e e' : TermTree} → OfCases o at r e e' → r ≡ CaseLet → (on : TermTree) (alts : Alts) → e ≡ case_of on alts → (g : Group) × (b : TermTree) × (on ≡ letrec g b)
of_let (case_con c types es i t s d) k on alts q = absurd cc
of_let (case_lit d) k on alts q = absurd cc
of_let case_any k on alts q = absurd cc
of_let (case_let {g = g} {e = b}) k on alts q = (g, b, cc)
of_let (case_case h n) k on alts q = absurd cc
of_let (proj m s p d w v) k on alts q = absurd cc

-- a case on a case, whose type isn't named
pub record OnCase (o : Origins) (at : Spot) (on : TermTree) : Type 0 where
  pub first : TermTree
  pub inner : Alts
  pub is : on ≡ case_of first inner
  pub type : TypeTree
  pub has : HasType (setting_at o) [] at.vars on type
  pub unnamed : IsNamed o.program.datas at.mode type → ⊥

pub of_case : {o : Origins} {at : Spot} {r : Rule} {e e' : TermTree} → OfCases o at r e e' → r ≡ CaseCase → (on : TermTree) (alts : Alts) → e ≡ case_of on alts → OnCase o at on
of_case (case_con c types es i t s d) k on alts q = absurd cc
of_case (case_lit d) k on alts q = absurd cc
of_case case_any k on alts q = absurd cc
of_case case_let k on alts q = absurd cc
of_case {o} {at} (case_case {e = first} {inner = inner} {t = t} h n) k on alts q =
    let is : on ≡ case_of first inner = cc in
    record {
      first = first;
      inner = inner;
      is = is;
      type = t;
      has = subst (λ e. HasType (setting_at o) [] at.vars e t) (sym is) h;
      unnamed = n;
    }
of_case (proj m s p d w v) k on alts q = absurd cc

-- in circuits, a case on a port
pub record OnPort (o : Origins) (at : Spot) (on : TermTree) (alts : Alts) : Type 0 where
  pub number : ℕ
  pub con : ConId
  pub names : ℕ
  pub body : TermTree
  pub is : IsPortCase on alts number con names body
  pub mode : at.mode ≡ C
  pub type : TypeTree
  pub found : slice_get at.vars number ≡ Some type
  pub port : IsPort o.program.datas type
  pub fields : List TypeTree
  pub pattern : PatternOf o.program.datas type (OfCon con names) fields

pub of_port : {o : Origins} {at : Spot} {r : Rule} {e e' : TermTree} → OfCases o at r e e' → r ≡ Proj → (on : TermTree) (alts : Alts) → e ≡ case_of on alts → OnPort o at on alts
of_port (case_con c types es i t s d) k on alts q = absurd cc
of_port (case_lit d) k on alts q = absurd cc
of_port case_any k on alts q = absurd cc
of_port case_let k on alts q = absurd cc
of_port (case_case h n) k on alts q = absurd cc
of_port (proj {x = x} {n = n} {c = c} {e = e} {more = more} {t = t} {fields = fields} m s p d w v) k on alts q =
    let variable : on ≡ var x = cc in
    let first : alts ≡ alt (OfCon c n) e more = cc in
    record {
      number = x;
      con = c;
      names = n;
      body = e;
      is = record { variable = variable; more = more; first = first; others = w; whole = v };
      mode = m;
      type = t;
      found = s;
      port = p;
      fields = fields;
      pattern = d;
    }

-- a case on a constructor with all its arguments, for which there is an alternative
pub record OnConstructor (o : Origins) (on : TermTree) (alts : Alts) : Type 0 where
  pub number : ℕ
  pub it : Constructor
  pub types : List TypeTree
  pub es : List TermTree
  pub is : on ≡ applied (con number) (types_then types es)
  pub at : con_at o.program.datas number ≡ Some it
  pub on_types : length types ≡ length it.it.params
  pub on_terms : length es ≡ length it.decl.fields
  pub branch : Branch
  pub taken : IsTakenBy (OfCon (record { number = number }) (length es)) alts branch

-- a case on a literal, for which there is an alternative
pub record OnLiteral (on : TermTree) (alts : Alts) : Type 0 where
  pub sort : Scalar
  pub bits : List Bool
  pub is : on ≡ lit sort bits
  pub branch : Branch
  pub taken : IsTakenBy (OfLit sort bits) alts branch

-- a case with a default alone
abbrev pub HasAny : Alts → Type 0
HasAny alts = (f : TermTree) × (alts ≡ alt Default f no_alts)

pub of_known : {o : Origins} {at : Spot} {r : Rule} {e e' : TermTree} → OfCases o at r e e' → r ≡ CaseCon → (on : TermTree) (alts : Alts) → e ≡ case_of on alts → (OnConstructor o on alts ⊎ OnLiteral on alts) ⊎ HasAny alts
of_known (case_con c {it = it} types es {alts = those} {b = b} i t s d) k on alts q =
    let is : on ≡ applied (con c) (types_then types es) = cc in
    let all : those ≡ alts = cc in
    inl (inl (record {
      number = c;
      it = it;
      types = types;
      es = es;
      is = is;
      at = i;
      on_types = t;
      on_terms = s;
      branch = b;
      taken = subst (λ alts. IsTakenBy (OfCon (record { number = c }) (length es)) alts b) all d;
    }))
of_known (case_lit {r = sort} {bits = bits} {alts = those} {b = b} d) k on alts q =
    let is : on ≡ lit sort bits = cc in
    let all : those ≡ alts = cc in
    inl (inr (record { sort = sort; bits = bits; is = is; branch = b; taken = subst (λ alts. IsTakenBy (OfLit sort bits) alts b) all d }))
of_known (case_any {f = f}) k on alts q = let all : alts ≡ alt Default f no_alts = cc in inr (f, all)
of_known case_let k on alts q = absurd cc
of_known (case_case h n) k on alts q = absurd cc
of_known (proj m s p d w v) k on alts q = absurd cc

-- a constructor on arguments is no literal
pub no_literal : (c : ℕ) (args : List Arg) (r : Scalar) (bits : List Bool) → applied (con c) args ≡ lit r bits → ⊥
no_literal c args r bits q = let e : con c ≡ lit r bits = sym (head_applied args (con c)) ∙ ap head_of q in absurd cc

-- where a constructor is looked at and there is no default alone, it has all its arguments
pub record Constructed (o : Origins) (c : ℕ) (args : List Arg) (alts : Alts) : Type 0 where
  pub it : Constructor
  pub types : List TypeTree
  pub es : List TermTree
  pub are : args ≡ types_then types es
  pub at : con_at o.program.datas c ≡ Some it
  pub on_types : length types ≡ length it.it.params
  pub on_terms : length es ≡ length it.decl.fields
  pub branch : Branch
  pub taken : IsTakenBy (OfCon (record { number = c }) (length es)) alts branch

pub constructed : (o : Origins) (at : Spot) (c : ℕ) (args : List Arg) (alts : Alts) (e' : TermTree) → (HasAny alts → ⊥) → OfCases o at CaseCon (case_of (applied (con c) args) alts) e' → Constructed o c args alts
constructed o at c args alts e' none m = elim (of_known m refl (applied (con c) args) alts refl) [
  | inl known ↦ elim known [
    | inl h ↦
        let given = types_then h.types h.es in
        let same : con c ≡ con h.number = head_is (con c) (con h.number) args given (record { itself = refl; alone = refl }) (record { itself = refl; alone = refl }) h.is in
        let number : h.number ≡ c = cc in
        record {
          it = h.it;
          types = h.types;
          es = h.es;
          are = args_are (con c) (con h.number) args given (record { itself = refl; alone = refl }) (record { itself = refl; alone = refl }) h.is;
          at = subst (λ c. con_at o.program.datas c ≡ Some h.it) number h.at;
          on_types = h.on_types;
          on_terms = h.on_terms;
          branch = h.branch;
          taken = subst (λ c. IsTakenBy (OfCon (record { number = c }) (length h.es)) alts h.branch) number h.taken;
        }
    | inr h ↦ absurd (no_literal c args h.sort h.bits h.is)
  ]
  | inr any ↦ absurd (none any)
]

-- where a literal is, an alternative takes it
pub literal_taken : (o : Origins) (at : Spot) (r : Scalar) (bits : List Bool) (alts : Alts) (e' : TermTree) → (HasAny alts → ⊥) → OfCases o at CaseCon (case_of (lit r bits) alts) e' → (b : Branch) × IsTakenBy (OfLit r bits) alts b
literal_taken o at r bits alts e' none m = elim (of_known m refl (lit r bits) alts refl) [
  | inl known ↦ elim known [
    | inl h ↦ absurd (no_literal h.number (types_then h.types h.es) r bits (sym h.is))
    | inr h ↦
        let sort : h.sort ≡ r = let q = h.is in cc in
        let word : h.bits ≡ bits = let q = h.is in cc in
        (h.branch, subst (λ r. IsTakenBy (OfLit r bits) alts h.branch) sort (subst (λ bits. IsTakenBy (OfLit h.sort bits) alts h.branch) word h.taken))
  ]
  | inr any ↦ absurd (none any)
]

-- a literal with arguments isn't looked at
pub literal_applied : (o : Origins) (at : Spot) (r : Scalar) (bits : List Bool) (args : List Arg) (alts : Alts) (e' : TermTree) → (HasAny alts → ⊥) → (args ≡ [] → ⊥) → OfCases o at CaseCon (case_of (applied (lit r bits) args) alts) e' → ⊥
literal_applied o at r bits args alts e' none some m = elim (of_known m refl (applied (lit r bits) args) alts refl) [
  | inl known ↦ elim known [
    | inl h ↦
        let no : lit r bits ≡ con h.number = sym (head_applied args (lit r bits)) ∙ ap head_of h.is ∙ head_applied (types_then h.types h.es) (con h.number) in absurd cc
    | inr h ↦ some (args_are (lit r bits) (lit h.sort h.bits) args [] (record { itself = refl; alone = refl }) (record { itself = refl; alone = refl }) h.is)
  ]
  | inr any ↦ none any
]

-- where a literal without arguments is, an alternative takes it
pub bare_literal_taken : (o : Origins) (at : Spot) (r : Scalar) (bits : List Bool) (args : List Arg) (alts : Alts) (e' : TermTree) → (HasAny alts → ⊥) → args ≡ [] → OfCases o at CaseCon (case_of (applied (lit r bits) args) alts) e' → (b : Branch) × IsTakenBy (OfLit r bits) alts b
bare_literal_taken o at r bits args alts e' none empty m =
    literal_taken o at r bits alts e' none (subst (λ args. OfCases o at CaseCon (case_of (applied (lit r bits) args) alts) e') empty m)

-- no other head is looked at
pub nothing_known : (o : Origins) (at : Spot) (h : Head) (args : List Arg) (on : TermTree) (alts : Alts) (e' : TermTree) → (HasAny alts → ⊥) → ((c : ℕ) → tree_of h ≡ con c → ⊥) → ((r : Scalar) (bits : List Bool) → tree_of h ≡ lit r bits → ⊥) → applied (tree_of h) args ≡ on → OfCases o at CaseCon (case_of on alts) e' → ⊥
nothing_known o at h args on alts e' none no_con no_lit q m = elim (of_known m refl on alts refl) [
  | inl known ↦ elim known [
    | inl k ↦ no_con k.number (head_is (tree_of h) (con k.number) args (types_then k.types k.es) (bare h) (record { itself = refl; alone = refl }) (q ∙ k.is))
    | inr k ↦ no_lit k.sort k.bits (head_is (tree_of h) (lit k.sort k.bits) args [] (bare h) (record { itself = refl; alone = refl }) (q ∙ k.is))
  ]
  | inr any ↦ none any
]
