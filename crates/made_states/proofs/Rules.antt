-- What rules make of a term hangs on the made definitions that it names, and on no others.
use Rattle.std.proofs.Common.{◌∙◌, ℕ, refl, sym, subst, List, [], ◌∷◌, length, Contains}
use Rattle.std.proofs.lemmas.Option.{slice_get_read}
use Rattle.chw_prims.specs.declared.prim.Primitive.{Primitive as Prim}
use Rattle.chw_terms.specs.TermTree.{TermTree, con, global, made, prim, vec_lit}
use Rattle.chw_terms.specs.TermView.{applied}
use Rattle.chw_terms.specs.declared.program.Program.{Program}
use Rattle.chw_terms.specs.declared.rule.Rule.{Rule}
use Rattle.chw_terms.specs.declared.term.Arg.{Arg}
use Rattle.chw_terms.specs.declared.term.Arg.TheVariants.{OfTerm}
use Rattle.chw_types.specs.TypeTree.{TypeTree}
use Rattle.chw_typing.specs.Given.{types_then}
use Rattle.chw_typing.proofs.PathParts.{part_below}
use Rattle.rewriting.specs.Origins.{MadeOf, Origins}
use Rattle.rewriting.specs.Spots.{Spot}
use Rattle.rewriting.specs.Calls.{IsCall}
use Rattle.rewriting.specs.Cases.{OfCases, case_any, case_case, case_con, case_let, case_lit, proj}
use Rattle.rewriting.specs.Demanded.{DemandsCase, DemandsLet, OfDemanded, prim_case, prim_let}
use Rattle.rewriting.specs.Functions.{OfFunctions, app_case, app_case_type, app_let, app_let_type, beta, ty_beta}
use Rattle.rewriting.specs.Lets.{OfLets, dead, flat_body, flat_side, inline}
use Rattle.rewriting.specs.Lifted.{Joins, ap_ap, ap_fmap, ap_pure, ap_value, fmap_ap, fmap_fmap, fmap_pure}
use Rattle.rewriting.specs.Names.{OfNames, unfold_global, unfold_made}
use Rattle.rewriting.specs.Operands.{IsFirstOfCall, IsFirstOperand, IsOperand, IsOperandOfCall, NeedsName, NoneNeedsName, OfOperands, StandsAt, StandsInCall, anf, of_case, of_con, of_global, of_made, of_prim, of_vector}
use Rattle.rewriting.specs.Primitives.{HasUnnamedVector, OfPrimitives, delta, elem, elem_at, unroll}
use Rattle.rewriting.specs.Signals.{IsLifted}
use Rattle.made_states.proofs.Names.{Alike, NamesOnly, argument_names, behind_types, core_names, part_names, turned}
use Rattle.made_states.proofs.Places.{demands_seen, found_seen, seen, typed_seen}

-- operands and arguments name no others
stands_names : {o : Origins} {at : Spot} {e x : TermTree} {path : List ℕ} (P : ℕ → Type 0) → StandsAt o at e path x → NamesOnly P e → NamesOnly P x
stands_names P (of_prim q args i {a = a} n k is) h = argument_names P args (prim q) a i h is
stands_names P of_case h = h.0
stands_names P (of_con c args i {a = a} m k n is) h = argument_names P args (con c) a i h is
stands_names P (of_vector {t = t} {es = es} {i = i} {a = a} m is) h = part_names (i ∷ []) P (vec_lit t es) a h (part_below (vec_lit t es) a i [] is)

pub stands_in_call_names : {at : Spot} {e x : TermTree} {path : List ℕ} (P : ℕ → Type 0) → StandsInCall at e path x → NamesOnly P e → NamesOnly P x
stands_in_call_names P (of_global d args i {a = a} m is) h = argument_names P args (global d) a i h is
stands_in_call_names P (of_made d args i {a = a} m is) h = argument_names P args (made d) a i h is

contained_names : (P : ℕ → Type 0) (args : List Arg) (e a : TermTree) → NamesOnly P (applied e args) → Contains args (OfTerm a) → NamesOnly P a
contained_names P args e a h there =
    argument_names P args e a there.0 h (slice_get_read args (length args) there.0 (OfTerm a) refl there.1 (sym there.2))

module _ (p : Program) (xs ys : List MadeOf) (P : ℕ → Type 0) (alike : Alike P xs ys) where
  pub functions_seen : {at : Spot} {r : Rule} {e e' : TermTree} → OfFunctions (seen p xs) at r e e' → NamesOnly P e → OfFunctions (seen p ys) at r e e'
  functions_seen ty_beta h = ty_beta
  functions_seen beta h = beta
  functions_seen app_let h = app_let
  functions_seen app_let_type h = app_let_type
  functions_seen (app_case f) h = app_case (found_seen p xs ys P alike h.1 f)
  functions_seen app_case_type h = app_case_type

  pub cases_seen : {at : Spot} {r : Rule} {e e' : TermTree} → OfCases (seen p xs) at r e e' → NamesOnly P e → OfCases (seen p ys) at r e e'
  cases_seen (case_con c types es k m n t) h = case_con c types es k m n t
  cases_seen (case_lit t) h = case_lit t
  cases_seen case_any h = case_any
  cases_seen case_let h = case_let
  cases_seen (case_case d n) h = case_case (typed_seen p xs ys P alike h.0 d) n
  cases_seen (proj m v q f d n) h = proj m v q f d n

  pub lets_seen : {at : Spot} {r : Rule} {e e' : TermTree} → OfLets (seen p xs) at r e e' → OfLets (seen p ys) at r e e'
  lets_seen (flat_side front t cs x back n none) = flat_side front t cs x back n none
  lets_seen (flat_body n none) = flat_body n none
  lets_seen (dead n marks some) = dead n marks some
  lets_seen (inline front t x back n u occurs each) = inline front t x back n u occurs each

  pub names_seen : {at : Spot} {r : Rule} {e e' : TermTree} → OfNames (seen p xs) at r e e' → NamesOnly P e → OfNames (seen p ys) at r e e'
  names_seen (unfold_global n is) h = unfold_global n is
  names_seen (unfold_made {m = m} n is) h = unfold_made n (sym (alike m h) ∙ is)

  needs_seen : {at : Spot} {x : TermTree} → NamesOnly P x → NeedsName (seen p xs) at x → NeedsName (seen p ys) at x
  needs_seen h n = record { no_variable = n.no_variable; type = n.type; has = typed_seen p xs ys P alike h n.has; named = n.named }

  stands_seen : {at : Spot} {e x : TermTree} {path : List ℕ} → StandsAt (seen p xs) at e path x → StandsAt (seen p ys) at e path x
  stands_seen (of_prim q args i n k is) = of_prim q args i n k is
  stands_seen of_case = of_case
  stands_seen (of_con c args i m k n is) = of_con c args i m k n is
  stands_seen (of_vector m is) = of_vector m is

  operand_seen : {at : Spot} {e x : TermTree} {path : List ℕ} → NamesOnly P e → IsOperand (seen p xs) at e path x → IsOperand (seen p ys) at e path x
  operand_seen h of = (stands_seen of.0, needs_seen (stands_names P of.0 h) of.1)

  operand_of_call_seen : {at : Spot} {e x : TermTree} {path : List ℕ} → NamesOnly P e → IsOperandOfCall (seen p xs) at e path x → IsOperandOfCall (seen p ys) at e path x
  operand_of_call_seen h of = (of.0, needs_seen (stands_in_call_names P of.0 h) of.1)

  vector_seen : {at : Spot} {es : List TermTree} (types : List TypeTree) (e : TermTree) → NamesOnly P (applied e (types_then types es)) → HasUnnamedVector (seen p xs) at es → HasUnnamedVector (seen p ys) at es
  vector_seen {es = es} types e h v =
      let named = argument_names P (types_then types es) e v.vector (length types) h (behind_types types es v.vector v.is_first) in
      record { no_constant = v.no_constant; vector = v.vector; is_first = v.is_first; type = v.type; has = typed_seen p xs ys P alike named v.has; unnamed = v.unnamed }

  pub primitives_seen : {at : Spot} {r : Rule} {e e' : TermTree} → OfPrimitives (seen p xs) at r e e' → NamesOnly P e → OfPrimitives (seen p ys) at r e e'
  primitives_seen (unroll {p = q} {types = types} {es = es} can by_word is) h = unroll can (λ at_word. vector_seen types (prim q) h (by_word at_word)) is
  primitives_seen (elem q i least is) h = elem q i least is
  primitives_seen (elem_at m n least is) h = elem_at m n least is
  primitives_seen (delta m v) h = delta m v

  pub joins_seen : {at : Spot} {e e' : TermTree} → Joins (seen p xs) at e e' → NamesOnly P e → Joins (seen p ys) at e e'
  joins_seen ap_pure h = ap_pure
  joins_seen fmap_pure h = fmap_pure
  joins_seen (fmap_fmap f g) h = fmap_fmap f (found_seen p xs ys P alike h.1.0.1 g)
  joins_seen (fmap_ap f u) h = fmap_ap f (found_seen p xs ys P alike h.1.0.1 u)
  joins_seen (ap_value n f u) h = ap_value n f (found_seen p xs ys P alike h.0.1 u)
  joins_seen (ap_fmap n f u g) h = ap_fmap n f (found_seen p xs ys P alike h.0.1 u) (found_seen p xs ys P alike h.1.0.1 g)
  joins_seen (ap_ap n f u v) h = ap_ap n f (found_seen p xs ys P alike h.0.1 u) (found_seen p xs ys P alike h.1.0.1 v)

  pub lifted_seen : {at : Spot} {g : TermTree} {t r : TypeTree} {ts : List TypeTree} → NamesOnly P g → IsLifted (seen p xs) at g t ts r → IsLifted (seen p ys) at g t ts r
  lifted_seen h l = record { closed = l.closed; not_made = l.not_made; has = found_seen p xs ys P alike h l.has; takes = l.takes; gives = l.gives }

-- and where it is asked that there is nothing
module _ (p : Program) (xs ys : List MadeOf) (P : ℕ → Type 0) (alike : Alike P xs ys) where
  let_back : {at : Spot} {q : Prim} {args : List Arg} {i : ℕ} → NamesOnly P (applied (prim q) args) → DemandsLet (seen p ys) at q args i → DemandsLet (seen p xs) at q args i
  let_back {q = q} {args = args} {i = i} h d =
      (d.0, d.1, demands_seen p ys xs P (turned P xs ys alike) (argument_names P args (prim q) _ i h d.2.is) d.2)

  case_back : {at : Spot} {q : Prim} {args : List Arg} {i : ℕ} → NamesOnly P (applied (prim q) args) → DemandsCase (seen p ys) at q args i → DemandsCase (seen p xs) at q args i
  case_back {q = q} {args = args} {i = i} h d =
      (d.0, d.1, demands_seen p ys xs P (turned P xs ys alike) (argument_names P args (prim q) _ i h d.2.is) d.2)

  pub demanded_seen : {at : Spot} {r : Rule} {e e' : TermTree} → OfDemanded (seen p xs) at r e e' → NamesOnly P e → OfDemanded (seen p ys) at r e e'
  demanded_seen (prim_let {p = q} {args = args} {i = i} n d first) h =
      prim_let n (demands_seen p xs ys P alike (argument_names P args (prim q) _ i h d.is) d) (λ j l is. first j l (let_back h is))
  demanded_seen (prim_case {p = q} {args = args} {i = i} n d first none) h =
      prim_case n (demands_seen p xs ys P alike (argument_names P args (prim q) _ i h d.is) d) (λ j l is. first j l (case_back h is)) (λ j is. none j (let_back h is))

  first_operand_seen : {at : Spot} {e x : TermTree} {path : List ℕ} → NamesOnly P e → IsFirstOperand (seen p xs) at e path x → IsFirstOperand (seen p ys) at e path x
  first_operand_seen h f =
      record { is = operand_seen p xs ys P alike h f.is; first = λ q y of. f.first q y (operand_seen p ys xs P (turned P xs ys alike) h of) }

  pub first_of_call_seen : {at : Spot} {e x : TermTree} {path : List ℕ} → NamesOnly P e → IsFirstOfCall (seen p xs) at e path x → IsFirstOfCall (seen p ys) at e path x
  first_of_call_seen h f =
      record { is = operand_of_call_seen p xs ys P alike h f.is; first = λ q y of. f.first q y (operand_of_call_seen p ys xs P (turned P xs ys alike) h of) }

  pub none_seen : {at : Spot} {e : TermTree} → NamesOnly P e → NoneNeedsName (seen p xs) at e → NoneNeedsName (seen p ys) at e
  none_seen h n =
      record {
        in_core = λ core rest path x is of. n.in_core core rest path x is (operand_seen p ys xs P (turned P xs ys alike) (core_names P core rest (subst (NamesOnly P) is h)) of);
        in_call = λ path x of. n.in_call path x (operand_of_call_seen p ys xs P (turned P xs ys alike) h of);
      }

  pub operands_seen : {at : Spot} {r : Rule} {e e' : TermTree} → OfOperands (seen p xs) at r e e' → NamesOnly P e → OfOperands (seen p ys) at r e e'
  operands_seen (anf first f) h = anf (first_operand_seen h first) (found_seen p xs ys P alike (stands_names P first.is.0 h) f)

  pub call_seen : {at : Spot} {e : TermTree} {ts : List TypeTree} {t : TypeTree} → NamesOnly P e → IsCall (seen p xs) at e ts t → IsCall (seen p ys) at e ts t
  call_seen h call =
      record {
        of = call.of;
        args = call.args;
        is = call.is;
        has = found_seen p xs ys P alike h call.has;
        named = call.named;
        on_variables = λ a u there d. call.on_variables a u there (typed_seen p ys xs P (turned P xs ys alike) (contained_names P call.args (global call.of) a (subst (NamesOnly P) call.is h) there) d);
        free = call.free;
        free_named = call.free_named;
      }
