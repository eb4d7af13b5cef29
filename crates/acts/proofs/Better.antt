-- A term that acts as another gives nothing else.
use Rattle.std.specs.Prelude.{slice_get}
use Rattle.std.proofs.Common.{◌≡◌, ◌+◌, ℕ, suc, zero, List, [], ◌∷◌, ◌++◌, length, map, reverse, Some, refl, sym, ap, ◌∙◌, subst, arith}
use Rattle.std.proofs.lemmas.List.{append-nil}
use Rattle.chw_types.specs.declared.kind.Kind.{Kind}
use Rattle.chw_types.specs.declared.declarations.ConDecl.{ConDecl}
use Rattle.chw_types.specs.declared.declarations.Data.{Data}
use Rattle.chw_types.specs.TypeTree.{TypeTree, domain, data_of, signal, TypeTrees, no_types}
use Rattle.chw_types.specs.TypeMoves.{Substitution, sub}
use Rattle.chw_types.specs.Arguments.{arguments}
use Rattle.type_ports.specs.Representable.{Representable}
use Rattle.chw_terms.specs.declared.program.Program.{Program}
use Rattle.chw_terms.specs.Constructors.{con_at}
use Rattle.chw_terms.specs.TermTree.{TermTree}
use Rattle.chw_layout.specs.Encodes.{first_constructor}
use Rattle.chw_typing.specs.Scopes.{HasKind}
use Rattle.chw_typing.specs.HeadTypes.{fields_at}
use Rattle.chw_typing.specs.Programs.{IsSound, IsTyped, setting_of}
use Rattle.chw_typing.proofs.Kinded.{function_parts}
use Rattle.chw_typing.proofs.Lists.{turned_onto}
use Rattle.chw_meaning.specs.Values.{History, Thunk, closed, applied, field, none}
use Rattle.chw_meaning.specs.Gives.{Yields, Input, Given, OnInputs, on_all, on_next, LeafOf, leaf_of, PortLeaves, leaf_signal, leaves_product, FieldLeaves, no_field_leaves, field_leaves, HasLeaves, leaf_value, leaves_port, Better}
use Rattle.acts.specs.Levels.{thunk_has, ThunksAct}
use Rattle.acts.specs.Acts.{acts_from}
use Rattle.acts.specs.Terms.{ActsAs, Chain, chain_end, chain_and}
use Rattle.acts.proofs.Closing.{closed_stays}
use Rattle.acts.proofs.Fields.{field_acts}
use Rattle.acts.proofs.Forms.{TermsAct, thunk_acts, applied_acts}
use Rattle.acts.proofs.Given.{given_acts}
use Rattle.acts.proofs.Globals.{globals_from, no_names}
use Rattle.acts.proofs.Levels.{from_turns, from_signal}
use Rattle.acts.proofs.Values.{placed_con}
use Rattle.acts.proofs.Yields.{ActsHere, at_once, field_slot, yields_act}

-- thunks that act so for any number of turns
abbrev pub ActsEver : Program → TypeTree → Thunk → Thunk → Type 0
ActsEver p t x' x = (n : ℕ) → ThunksAct p (acts_from p n) t x' x

-- the second thunk, on the same inputs
record OnAlso (p : Program) (t : TypeTree) (on : Thunk) (ins : List Input) (result : TypeTree) (first : Thunk) : Type 0 where
  pub second : Thunk
  pub on_inputs : OnInputs p.datas t on ins result second
  pub acts : ActsEver p result first second

-- leaves of one payload, which act so at every history
abbrev LeafActs : Program → LeafOf → LeafOf → Type 0
LeafActs p first second =
    (first.payload ≡ second.payload) × ((n : ℕ) (h : History) → ActsHere p n second.payload first.thunk second.thunk h)

abbrev LeavesAct : Program → List LeafOf → List LeafOf → Type 0
LeavesAct p [] [] = Unit {0}
LeavesAct p (first ∷ firsts) (second ∷ seconds) = LeafActs p first second × LeavesAct p firsts seconds
LeavesAct p _ _ = ⊥

leaves_append : (p : Program) (as' bs' as2 bs2 : List LeafOf) → LeavesAct p as' bs' → LeavesAct p as2 bs2 → LeavesAct p (as' ++ as2) (bs' ++ bs2)
leaves_append p [] [] as2 bs2 h k = k
leaves_append p (a ∷ as') (b ∷ bs') as2 bs2 h k = (h.0, leaves_append p as' bs' as2 bs2 h.1 k)
leaves_append p [] (b ∷ bs') as2 bs2 h k = absurd h
leaves_append p (a ∷ as') [] as2 bs2 h k = absurd h

leaf_found : (p : Program) (firsts seconds : List LeafOf) (k : ℕ) (first : LeafOf) → LeavesAct p firsts seconds → slice_get firsts k ≡ Some first → (second : LeafOf) × (slice_get seconds k ≡ Some second) × LeafActs p first second
leaf_found p [] [] k first h e = cc
leaf_found p (a ∷ firsts) (b ∷ seconds) zero first h e = let same : a ≡ first = cc in (b, refl, subst (λ a. LeafActs p a b) same h.0)
leaf_found p (a ∷ firsts) (b ∷ seconds) (suc k) first h e = leaf_found p firsts seconds k first h.1 e
leaf_found p [] (b ∷ seconds) k first h e = absurd h
leaf_found p (a ∷ firsts) [] k first h e = absurd h

-- the leaves of the second thunk
record LeavesAlso (p : Program) (t : TypeTree) (th : Thunk) (firsts : List LeafOf) : Type 0 where
  pub seconds : List LeafOf
  pub are : PortLeaves p.datas t th seconds
  pub act : LeavesAct p firsts seconds

record FieldsAlso (p : Program) (fs : List TypeTree) (σ : Substitution) (th : Thunk) (firsts : List LeafOf) : Type 0 where
  pub seconds : List LeafOf
  pub are : FieldLeaves p.datas fs σ th seconds
  pub act : LeavesAct p firsts seconds

module _ (p : Program) (sound : IsSound (setting_of p)) where
  signal_leaf : (d : ℕ) (t : TypeTree) (x' x : Thunk) → ActsEver p (signal (domain d) t) x' x → LeafActs p (leaf_of t x') (leaf_of t x)
  signal_leaf d t x' x acts = (refl, λ n h i v f. from_signal (from_turns p n) i (domain d) t v (thunk_has p x h) (acts n h h i v refl f))

  mutual
    port_leaves_act : {datas : List Data} {t : TypeTree} {x' : Thunk} {ls : List LeafOf} → PortLeaves datas t x' ls → datas ≡ p.datas → (x : Thunk) → ActsEver p t x' x → LeavesAlso p t x ls
    port_leaves_act {datas} (leaf_signal {d = d} {t = t} {th = x'} rep) same x acts =
        record { seconds = leaf_of t x ∷ []; are = leaf_signal (subst (λ datas. Representable datas t) same rep); act = (signal_leaf d t x' x acts, tt) }
    port_leaves_act {datas} (leaves_product {d = d} {it = it} {ts = ts} {k = k} {f = f} {fs = fs} {th = x'} e cons fields ls) same x acts =
        let at = ap (λ datas. slice_get datas d) (sym same) ∙ e in
        let only = ap (λ ks. slice_get ks zero) cons in
        let one : length it.cons ≡ 1 = ap length cons in
        let held = placed_con p.datas d zero it k at only in
        let types = ap (λ fs. reverse (map (λ f. sub f (arguments ts)) fs)) fields ∙ sym (append-nil (reverse (map (λ f. sub f (arguments ts)) (f ∷ fs)))) in
        let rest = field_leaves_act ls same (first_constructor p.datas d + zero) d it k ts [] x held one refl types acts in
        record { seconds = rest.seconds; are = leaves_product at cons fields rest.are; act = rest.act }

    field_leaves_act : {datas : List Data} {fs : List TypeTree} {σ : Substitution} {x' : Thunk} {ls : List LeafOf} → FieldLeaves datas fs σ x' ls → datas ≡ p.datas → (c d : ℕ) (it : Data) (k : ConDecl) (ts : TypeTrees) (rest : List TypeTree) (x : Thunk) → con_at p.datas c ≡ Some (record { of = d; it = it; decl = k }) → length it.cons ≡ 1 → σ ≡ arguments ts → reverse (map (λ f. sub f (arguments ts)) k.fields) ≡ reverse (map (λ f. sub f σ) fs) ++ rest → ActsEver p (data_of d ts) x' x → FieldsAlso p fs σ x ls
    field_leaves_act no_field_leaves same c d it k ts rest x held one is types acts = record { seconds = []; are = no_field_leaves; act = tt }
    field_leaves_act {σ = σ} {x' = x'} (field_leaves {f = f} {fs = fs} {ls = ls} {ms = ms} a more) same c d it k ts rest x held one is types acts =
        let slot : slice_get (reverse (fields_at (record { of = d; it = it; decl = k }) ts)) (length fs) ≡ Some (sub f σ) = ap (λ us. slice_get us (length fs)) types ∙ field_slot f fs σ rest in
        let part : ActsEver p (sub f σ) (field (length fs) x') (field (length fs) x) = λ n. field_acts (from_turns p n) c d ts (record { of = d; it = it; decl = k }) (length fs) (sub f σ) x' x held refl one slot (acts n) in
        let first = port_leaves_act a same (field (length fs) x) part in
        let others = field_leaves_act more same c d it k ts (sub f σ ∷ rest) x held one is (types ∙ turned_onto (sub f σ) (map (λ f. sub f σ) fs) rest) acts in
        record { seconds = first.seconds ++ others.seconds; are = field_leaves first.are others.are; act = leaves_append p ls first.seconds ms others.seconds first.act others.act }

  record AllLeaves (t : TypeTree) (th : Thunk) (firsts : List LeafOf) : Type 0 where
    pub seconds : List LeafOf
    pub are : HasLeaves p.datas t th seconds
    pub act : LeavesAct p firsts seconds

  leaves_act : {t : TypeTree} {x' : Thunk} {ls : List LeafOf} → HasLeaves p.datas t x' ls → (x : Thunk) → ActsEver p t x' x → AllLeaves t x ls
  leaves_act (leaf_value {t = t} {th = x'} rep) x acts =
      record { seconds = leaf_of t x ∷ []; are = leaf_value rep; act = ((refl, λ n h. at_once n h (acts n)), tt) }
  leaves_act (leaves_port a) x acts = let q = port_leaves_act a refl x acts in record { seconds = q.seconds; are = leaves_port q.are; act = q.act }

  on_also : IsTyped p → {datas : List Data} {t r : TypeTree} {on' th : Thunk} {ins : List Input} → OnInputs datas t on' ins r th → datas ≡ p.datas → (on : Thunk) (j : Kind) → HasKind (setting_of p) [] t j → ActsEver p t on' on → OnAlso p t on ins r th
  on_also typed on_all same on j k acts = record { second = on; on_inputs = on_all; acts = acts }
  on_also typed {datas} (on_next {a = a} {b = b} {on = on'} {x = x} {ins = ins} {more = more} given rest) same on j k acts =
      let kinds = function_parts k in
      let own = subst (λ datas. Given datas a ins x more) same given in
      let next : ActsEver p b (applied on' x) (applied on x) = λ n. applied_acts (from_turns p n) a b on' on x x (acts n) (given_acts p sound (acts_from p n) (from_turns p n) (globals_from p sound typed n) own kinds.0 kinds.1) in
      let q = on_also typed rest same (applied on x) j kinds.2 next in
      record { second = q.second; on_inputs = on_next own q.on_inputs; acts = q.acts }

  -- what acts so gives nothing else
  pub acts_gives : IsTyped p → (t : TypeTree) (j : Kind) (e' e : TermTree) → HasKind (setting_of p) [] t j → ActsAs p t e' e → Better p t e' e
  acts_gives typed t j e' e kd acts ins h k d g =
      let start : ActsEver p t (closed e' none no_types) (closed e none no_types) = λ n. thunk_acts (from_turns p n) t e' e none none no_types no_types (subst (λ u. TermsAct p (acts_from p n) u e' none no_types e none no_types) (closed_stays p no_types kd) (acts n no_types none none tt (no_names p (acts_from p n) (λ x. x) (λ x. x) no_types none none))) in
      let on = on_also typed g.on_inputs refl (closed e none no_types) j kd start in
      let leaves = leaves_act g.are_leaves on.second on.acts in
      let leaf = leaf_found p g.leaves leaves.seconds k g.leaf leaves.act g.is_leaf in
      let given = subst (λ t. Yields p g.turns t g.leaf.thunk h d) leaf.2.0 g.yields in
      let result = yields_act given (suc g.turns) leaf.0.thunk (omega arith) (leaf.2.1 (suc g.turns) h) in
      record { result = g.result; thunk = on.second; on_inputs = on.on_inputs; leaves = leaves.seconds; are_leaves = leaves.are; leaf = leaf.0; is_leaf = leaf.1; turns = result.0; yields = result.1 }

  -- so does a chain
  pub chain_gives : IsTyped p → (t : TypeTree) (j : Kind) → HasKind (setting_of p) [] t j → {e' e : TermTree} → Chain p t e' e → Better p t e' e
  chain_gives typed t j kd chain_end ins h k d g = g
  chain_gives typed t j kd (chain_and {c = c} {b = b} acts more) ins h k d g = chain_gives typed t j kd more ins h k d (acts_gives typed t j c b kd acts ins h k d g)
