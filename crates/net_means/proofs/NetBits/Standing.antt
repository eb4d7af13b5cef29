-- Blocks that stand in an instance are typed, and in normal form.
use Rattle.std.proofs.Common.{Bool, List, Some, [], ap, refl, reverse, subst, suc, sym, zero, ℕ, ◌++◌, ◌∙◌, ◌∷◌, ◌≡◌}
use Rattle.std.specs.Prelude.{slice_get}
use Rattle.chw_typing.specs.Typing.{AllGive, Binds, HasType, give_and, h_lam}
use Rattle.chw_terms.specs.TermTree.{Alts, Group, TermTree, alt, bind, case_of, lam, no_bindings, var}
use Rattle.chw_typing.specs.Programs.{AltsAreComplete, IsComplete, IsSound}
use Rattle.normal_forms.specs.Values.{AreBlocks, block_and}
use Rattle.chw_typing.specs.Scopes.{AreTermTypes, HasKind, IsTermType, Setting, declared, with_more}
use Rattle.net_grounds.specs.Facts.{Facts}
use Rattle.net_means.proofs.Lists.{found_in_map, same_some}
use Rattle.net_means.specs.CircuitBits.Instances.{Block, BlockAt, Design, HasBlock, NoLambda, Parameters, an_alternative, no_parameter, parameter_and, the_body, unseen_alternative}
use Rattle.net_built.specs.Bodies.{BlockBuilt, block_letrec, block_variable}
use Rattle.chw_types.specs.declared.kind.Kind.TheVariants.{Cir, Dom, Nat, Val}
use Rattle.chw_terms.specs.declared.scene.Sort.TheVariants.{Circuit, Value}
use Rattle.chw_types.specs.declared.declarations.ConDecl.{ConDecl}
use Rattle.chw_types.specs.declared.declarations.Data.{Data}
use Rattle.net_means.proofs.NetFits.Scopes.{Fits, fields_types, var_at}
use Rattle.net_means.proofs.NetBits.Forms.{FormOf, Formed, GroupFormed, ScopeHeld, ValueForm, fields_held, held_onto, inside_formed, none_held, one_held, origins, setting, side_formed, types_onto}
use Rattle.net_built.specs.Circuits.{Ground}
use Rattle.normal_forms.specs.Normal.{HasForm}
use Rattle.chw_types.specs.Kinds.{HasFunctions, IsOfTerms}
use Rattle.net_built.specs.Loops.{HasNoLoops, HasNoLoopsIn}
use Rattle.net_built.specs.Data.{HasParts, HaveWidths, port_parts, variables_from}
use Rattle.chw_layout.specs.Measured.{HasWidth, Measure, Measured, MeasuredCons, MeasuredFields, con_measured, field_measured, measured_data}
use Rattle.chw_meaning.specs.Values.{History, Thunk, Thunks, body_at}
use Rattle.net_means.specs.SideBits.Cases.{IsFirst, first_here, first_later}
use Rattle.chw_types.specs.declared.kind.Kind.{Kind}
use Rattle.type_ports.specs.declared.ports.Leaf.{Leaf}
use Rattle.type_ports.specs.Ports.{Leaves, leaves_and, leaves_of_fields, one_leaf}
use Rattle.chw_terms.specs.declared.scene.Made.{Made}
use Rattle.chw_terms.specs.declared.term.Pattern.{Pattern}
use Rattle.chw_typing.specs.HeadTypes.{PatternOf, fields_at, from_each, of_any, of_con, of_lit}
use Rattle.net_built.specs.Wires.{Piece}
use Rattle.layout_laws.specs.SameLayout.{SameKeepsMeasure}
use Rattle.chw_types.specs.SameTypes.{SameTypes}
use Rattle.chw_terms.specs.declared.scene.Sort.{Sort}
use Rattle.chw_types.specs.TypeMoves.{Substitution, sub}
use Rattle.carrying.specs.DataLaws.{Taken}
use Rattle.chw_types.specs.TypeTree.{TypeTree, TypeTrees, data_of, fun}
use Rattle.rewriting.specs.Named.{UnderLambdas, under_none, under_one}
use Rattle.net_built.specs.Terms.{Variable}
use Rattle.chw_base.specs.declared.index.WireId.{WireId}
use Rattle.net_means.proofs.NetFits.ValueDrivers.{alternative, case_typed}
use Rattle.chw_types.specs.Arguments.{arguments}
use Rattle.net_means.proofs.NetFits.CallShapes.{case_side}
use Rattle.net_means.specs.SideBits.Sides.{types_in}
use Rattle.carrying.specs.TermLaws.{under_lambdas}

-- a port has no width
of_field : {datas : List Data} {f : TypeTree} {fs : List TypeTree} {σ : Substitution} {m : Measure} → MeasuredFields datas (f ∷ fs) σ m → (n : Measure) × Measured datas (sub f σ) n
of_field (field_measured {m = m} first rest) = (m, first)

con_field : {datas : List Data} {c : ConDecl} {f : TypeTree} {fs : List TypeTree} {σ : Substitution} {m : Measure} → c.fields ≡ f ∷ fs → MeasuredCons datas (c ∷ []) σ m → (n : Measure) × Measured datas (sub f σ) n
con_field {datas} {σ = σ} e (con_measured {m = m} fields rest) = of_field (subst (λ gs. MeasuredFields datas gs σ m) e fields)

first_field : {datas : List Data} {d : ℕ} {it : Data} {ts : TypeTrees} {c : ConDecl} {f : TypeTree} {fs : List TypeTree} {m : Measure} → slice_get datas d ≡ Some it → it.cons ≡ c ∷ [] → c.fields ≡ f ∷ fs → Measured datas (data_of d ts) m → (n : Measure) × Measured datas (sub f (arguments ts)) n
first_field {datas} {ts = ts} known one fields (measured_data {it = other} {m = m} there many cons) =
    let same = same_some known there in
    let is = ap (λ (it : Data). it.cons) (sym same) ∙ one in
    con_field fields (subst (λ cs. MeasuredCons datas cs (arguments ts) m) is cons)

port_unmeasured : {datas : List Data} {ls : List Leaf} {m : Measure} (t : TypeTree) → Leaves datas t ls → Measured datas t m → ⊥
port_unmeasured t (one_leaf r) h = elim h [ ]
port_unmeasured t (leaves_of_fields {ts = ts} {f = f} known many one fields (leaves_and first rest)) h =
    let inner = first_field known one fields h in
    port_unmeasured (sub f (arguments ts)) first inner.1

pub port_unwide : {datas : List Data} {t : TypeTree} {ws : List ℕ} {w : ℕ} → HasParts datas Circuit t ws → HasWidth datas t w → ⊥
port_unwide {t = t} (port_parts leaves has) h = port_unmeasured t leaves h

-- an alternative of a case
pub data HasAlt : Alts → Pattern → TermTree → Type 0 where
  alt_here : {q : Pattern} {e : TermTree} {more : Alts} → HasAlt (alt q e more) q e
  alt_later : {q r : Pattern} {e f : TermTree} {more : Alts} → HasAlt more r f → HasAlt (alt q e more) r f

pub alt_of_first : {datas : List Data} {x : List Bool} {alts : Alts} {k : ℕ} {a : Taken} → IsFirst datas x alts k a → HasAlt alts a.pattern a.body
alt_of_first (first_here holds) = alt_here
alt_of_first (first_later fails rest) = alt_later (alt_of_first rest)

record AltFormed (d : Design) (scope : List Variable) (u : TypeTree) (q : Pattern) (f : TermTree) : Type 0 where
  bnd : List TypeTree
  binding : Binds (setting d) [] u q bnd
  type : TypeTree
  typed : HasType (setting d) [] (with_more bnd (types_in scope)) f type
  form : ValueForm d f

alt_formed : (d : Design) (scope : List Variable) {u v w : TypeTree} {names : List TypeTree} {alts : Alts} {q : Pattern} {f : TermTree} → HasAlt alts q f → AllGive (setting d) [] (types_in scope) u v alts → AreBlocks (origins d) names w alts → HasNoLoopsIn alts → AltsAreComplete d.program.datas alts
    → AltFormed d scope u q f
alt_formed d scope {names = names} alt_here (give_and {bound = bnd} {v = v} b typed same more) (block_and {fields = fs} pattern block others) free complete =
    record { bnd = bnd; binding = b; type = v; typed = typed; form = record { names = with_more fs names; block = block; free = free.0; complete = complete.0 } }
alt_formed d scope (alt_later rest) (give_and b typed same more) (block_and pattern block others) free complete = alt_formed d scope rest more others free.1 complete.1

-- the fields of a type with a kind
pub pattern_typed : Facts → (s : Setting) → IsSound s → {t : TypeTree} {q : Pattern} {fields : List TypeTree} → PatternOf s.datas t q fields → IsTermType s [] t → AreTermTypes s [] fields
pattern_typed facts s sound (of_con {d = d} {c = c} {ts = ts} it known of count) typed =
    let kinds = facts.kinds.constructor_arguments s [] c.number d it ts typed.kind known of typed.has in
    let place = facts.constructors.is_constructor s.datas c.number it known in
    let here : slice_get s.datas d ≡ Some it.it = subst (λ d. slice_get s.datas d ≡ Some it.it) of place.data_type in
    let own = facts.kinds.of_terms_kind s.datas s.domains it.it (sound.kinds d it.it here) in
    facts.scopes.allowed_typed s [] Cir (fields_at it ts) (facts.kinds.fields_allow s c.number it ts Cir sound known kinds (allows it.it.kind own))
  where
    allows : (k : Kind) → IsOfTerms k → HasFunctions k Cir
    allows Val h = tt
    allows Cir h = tt
    allows Nat h = absurd h
    allows Dom h = absurd h
pattern_typed facts s sound (of_lit l e) typed = tt
pattern_typed facts s sound of_any typed = tt

pub declared_there : (g : Group) (i : ℕ) (e : TermTree) → body_at g i ≡ Some e → (t : TypeTree) × (slice_get (declared g) i ≡ Some t)
declared_there no_bindings i e at = absurd cc
declared_there (bind t f g) zero e at = (t, refl)
declared_there (bind t f g) (suc i) e at = declared_there g i e at

pub parameters_in : {datas : List Data} {sort : Sort} {n : ℕ} {params : List TypeTree} {scope all : List Variable} → Parameters datas sort n params scope all → ScopeHeld datas sort scope → ScopeHeld datas sort all
parameters_in no_parameter held = held
parameters_in {datas} {sort} {n} (parameter_and {t = t} {widths = widths} {scope = scope} parts more) held = parameters_in more (one_held datas sort t n widths scope parts held)

module _ (facts : Facts) (law : SameKeepsMeasure) (d : Design) where
  -- the scope of an alternative's block
  opened : {scope : List Variable} {u : TypeTree} {q : Pattern} {f : TermTree} {j : Kind} (x m : ℕ) (it : Variable) (fields : List TypeTree) (widths : List ℕ) (γ : Thunks) (results : List WireId)
      → AreTermTypes (setting d) [] (types_in scope) → ScopeHeld d.program.datas Value scope → slice_get scope x ≡ Some it → HasType (setting d) [] (types_in scope) (var x) u → HasKind (setting d) [] u j
      → PatternOf d.program.datas it.ty q fields → HaveWidths d.program.datas fields widths → AltFormed d scope u q f
      → Formed d (record { sort = Value; scope = reverse (variables_from m fields widths) ++ scope; outside = γ; term = f; results = results })
  opened {scope} {u} {q} {f} {j} x m it fields widths γ results scoped held known typed kind pattern have a =
      let front = variables_from m fields widths in
      let is : slice_get (types_in scope) x ≡ Some it.ty = found_in_map (λ (v : Variable). v.ty) scope x it known in
      let own : u ≡ it.ty = same_some (var_at typed) is in
      let fit : Fits (types_in scope) scope = record { same = facts.scopes.are_same_self (types_in scope) } in
      let there = alternative facts (setting d) (types_in scope) a.bnd fields scope q u it.ty j m widths d.sound fit kind (subst (SameTypes u) own (facts.same.same_self u)) a.binding pattern have in
      let inner : AreTermTypes (setting d) [] (types_in (reverse front ++ scope)) =
      subst (AreTermTypes (setting d) []) (ap (λ ts. with_more ts (types_in scope)) (sym (fields_types (setting d) m fields widths have)) ∙ sym (types_onto front scope))
      (facts.scopes.typed_more (setting d) [] fields (types_in scope) (pattern_typed facts (setting d) d.sound pattern (facts.scopes.typed_at (setting d) [] (types_in scope) x it.ty scoped is)) scoped) in
      let retyped = facts.terms.same_variables (setting d) [] (with_more a.bnd (types_in scope)) (types_in (reverse front ++ scope)) f a.type d.sound
      (facts.scopes.typed_more (setting d) [] a.bnd (types_in scope) a.binding.typed scoped) inner there.fit.same a.typed in
      record {
        scoped = inner;
        held = held_onto d.program.datas Value front scope (fields_held d.program.datas m fields widths have) held;
        type = retyped.type;
        typed = retyped.has;
        form = a.form;
      }

  -- the block of an alternative of a binding
  of_alternative : (sort : Sort) (m : ℕ) {g : Group} {scope : List Variable} {x : ℕ} {alts : Alts} {q : Pattern} {f : TermTree} {it : Variable} {whole : ℕ} (i : ℕ) (fields : List TypeTree) (widths : List ℕ) (γ : Thunks) (results : List WireId) → GroupFormed d sort g scope → body_at g i ≡ Some (case_of (var x) alts)
      → HasAlt alts q f → slice_get scope x ≡ Some it → HasWidth d.program.datas it.ty whole → PatternOf d.program.datas it.ty q fields → HaveWidths d.program.datas fields widths
      → Formed d (record { sort = Value; scope = reverse (variables_from m fields widths) ++ scope; outside = γ; term = f; results = results })
  of_alternative Value m {g} {scope} {x} {alts} {it = it} i fields widths γ results formed at has known wide pattern have =
      let t = declared_there g i (case_of (var x) alts) at in
      let side = side_formed d formed i t.0 (case_of (var x) alts) t.1 at in
      let c = case_typed facts side.typed.has in
      let blocks = case_side side.form.side x alts refl in
      opened x m it fields widths γ results formed.scoped formed.held known c.typed c.has pattern have
      (alt_formed d scope has c.give blocks.blocks side.form.free side.form.complete.2)
  of_alternative Circuit m {x = x} {it = it} i fields widths γ results formed at has known wide pattern have = let held = formed.held x it known in absurd (port_unwide held.1 wide)

  -- below the lambdas of a body
  pub record UnderParams (e : TermTree) (params : List TypeTree) (t : TypeTree) (scope : List Variable) : Type 0 where
    pub type : TypeTree
    pub typed : HasType (setting d) [] (types_in scope) e type
    pub scoped : AreTermTypes (setting d) [] (types_in scope)
    pub is : t ≡ from_each params type

  pub typed_below : {sort : Sort} {n : ℕ} {params : List TypeTree} {scope all : List Variable} (e : TermTree) (t : TypeTree) → Parameters d.program.datas sort n params scope all → HasType (setting d) [] (types_in scope) (under_lambdas params e) t → AreTermTypes (setting d) [] (types_in scope) → UnderParams e params t all
  typed_below e t no_parameter typed scoped = record { type = t; typed = typed; scoped = scoped; is = refl }
  typed_below e t (parameter_and {t = a} parts more) (h_lam {b = b} {k = k} typed kind) scoped =
      let rest = typed_below e b more typed (facts.kinds.function_takes (setting d) [] a b k kind, scoped) in
      record { type = rest.type; typed = rest.typed; scoped = rest.scoped; is = ap (fun a) rest.is }

  pub no_form : (sort : Sort) (t : TypeTree) (e : TermTree) (vars : List TypeTree) → HasForm (origins d) sort vars (lam t e) → ⊥
  no_form Value t e vars form = elim form [ ]
  no_form Circuit t e vars form = elim form [ ]

  form_below : (sort : Sort) (params : List TypeTree) (e : TermTree) {inner : TermTree} {ty : TypeTree} {path : List ℕ} {vs vars : List TypeTree} → NoLambda e → UnderLambdas vs (under_lambdas params e) ty path vars inner → HasForm (origins d) sort vars inner → HasForm (origins d) sort vars e
  form_below sort [] e plain (under_none asks) form = form
  form_below sort [] _ plain (under_one same more) form = absurd plain
  form_below sort (t ∷ params) e plain (under_none {vars = vars} asks) form = absurd (no_form sort t (under_lambdas params e) vars form)
  form_below sort (t ∷ params) e plain (under_one same more) form = form_below sort params e plain more form

  free_below : (params : List TypeTree) (e : TermTree) → HasNoLoops (under_lambdas params e) → HasNoLoops e
  free_below [] e h = h
  free_below (t ∷ params) e h = free_below params e h

  complete_below : (params : List TypeTree) (e : TermTree) → IsComplete d.program.datas (under_lambdas params e) → IsComplete d.program.datas e
  complete_below [] e h = h
  complete_below (t ∷ params) e h = complete_below params e h

  form_of : (sort : Sort) (e : TermTree) (vars : List TypeTree) → HasForm (origins d) sort vars e → (sort ≡ Value → HasNoLoops e) → IsComplete d.program.datas e → FormOf d sort e
  form_of Value e vars form free complete = record { names = vars; block = form; free = free refl; complete = complete }
  form_of Circuit e vars form free complete = form

  pub block_plain : {ground : Ground} {sort : Sort} {scope : List Variable} {n : ℕ} {e : TermTree} {p : Piece} {r : List WireId} → BlockBuilt ground sort scope n e p r → NoLambda e
  block_plain block_variable = tt
  block_plain (block_letrec bound more) = tt

  pub body_formed : (m : ℕ) {path : List ℕ} {γ : Thunks} {it : Made} {params : List TypeTree} {e : TermTree} {scope : List Variable} {results : List WireId} → slice_get d.state m ≡ Some it → it.body ≡ under_lambdas params e → Parameters d.program.datas it.sort zero params [] scope
      → HasBlock d path (record { sort = it.sort; scope = scope; outside = γ; term = e; results = results }) → Formed d (record { sort = it.sort; scope = scope; outside = γ; term = e; results = results })
  body_formed m {it = it} {params} {e} known is parameters block =
      let normal = d.normal.bodies m it known in
      let below = typed_below e normal.typed.type parameters (subst (λ b. HasType (setting d) [] [] b normal.typed.type) is normal.typed.has) tt in
      let plain = block_plain block.built in
      let form = form_below it.sort params e plain (subst (λ b. UnderLambdas [] b it.ty normal.path normal.vars normal.inner) is normal.under) normal.form in
      record {
        scoped = below.scoped;
        held = parameters_in parameters (none_held d.program.datas it.sort);
        type = below.type;
        typed = below.typed;
        form = form_of it.sort e normal.vars form (λ v. free_below params e (subst HasNoLoops is (facts.built.normal_free d.program d.state d.normal m it known v))) (complete_below params e (subst (IsComplete d.program.datas) is normal.complete));
      }

  -- so is each block that stands
  pub formed : {inputs : List Thunk} {path : List ℕ} {h : History} {b : Block} → BlockAt d inputs path h b → Formed d b
  formed (the_body {m = m} at known is parameters block) = body_formed m known is parameters block
  formed (an_alternative {b = b} {m = m} {results = results} i at inside is f known first block) =
      of_alternative b.sort m i _ _ _ results (inside_formed facts law d inside (formed at)) is (alt_of_first first) known f.wide f.pattern f.sizes
  formed (unseen_alternative {b = b} {results = results} i n m widths at inside is unseen known wide pattern have cells block) =
      of_alternative b.sort m i _ _ _ results (inside_formed facts law d inside (formed at)) is alt_here known wide pattern have
