-- At rest an operand of a named type is a variable.
use Rattle.std.proofs.Common.{◌≡◌, ◌∙◌, ◌⊎◌, ◌<◌, ◌-◌, inl, inr, refl, sym, ap, subst, ℕ, suc, zero, List, [], ◌∷◌, ◌++◌, length, replicate, arith, true, Some}
use Rattle.std.specs.List.{slice_get}
use Rattle.std.proofs.lemmas.Option.{slice_get_within}
use Rattle.chw_types.specs.TypeTree.{TypeTree}
use Rattle.chw_terms.specs.declared.rule.Rule.TheVariants.{Anf}
use Rattle.chw_terms.specs.declared.term.Arg.{Arg}
use Rattle.chw_terms.specs.declared.term.Arg.TheVariants.{OfTerm}
use Rattle.chw_terms.specs.TermTree.{TermTree, var, global, made, letrec, con, prim}
use Rattle.chw_terms.specs.TermView.{applied}
use Rattle.chw_typing.specs.Paths.{IsEarlier, argument_path}
use Rattle.chw_typing.specs.Typing.{HasType}
use Rattle.chw_typing.proofs.TypedFound.{typed_found}
use Rattle.rewriting.specs.Calls.{anf_call, anf_result}
use Rattle.rewriting.specs.Named.{IsNamed}
use Rattle.rewriting.specs.Operands.{StandsAt, of_prim, of_case, of_con, of_vector, StandsInCall, of_global, of_made, IsOperand, IsOperandOfCall, NoneNeedsName, with_name, anf}
use Rattle.rewriting.specs.Origins.{Origins, setting_at}
use Rattle.rewriting.specs.Shapes.{IsVariable, IsLet}
use Rattle.rewriting.specs.Spots.{Spot, HasLets}
use Rattle.rewriting.proofs.Spines.{args_of, args_applied}
use Rattle.rest_places.specs.Rest.{IsRestPlace}
use Rattle.rest_places.proofs.Steps.{no_core, no_whole}

-- the place of this number: that of an argument, or a child of a term without arguments
data IsPlaceOf (e : TermTree) (i : ℕ) (path : List ℕ) : Type 0 where
  of_argument : i < length (args_of e) → path ≡ argument_path i (length (args_of e)) → IsPlaceOf e i path
  of_child : args_of e ≡ [] → path ≡ i ∷ [] → IsPlaceOf e i path

argument_place : (h : TermTree) (args : List Arg) (i : ℕ) (a : Arg) → args_of h ≡ [] → slice_get args i ≡ Some a → IsPlaceOf (applied h args) i (argument_path i (length args))
argument_place h args i a none is =
    let all : args_of (applied h args) ≡ args = args_applied args h ∙ ap (λ xs. xs ++ args) none in
    let within = slice_get_within args i a is in
    of_argument (subst (λ xs. i < length xs) (sym all) within) (ap (λ xs. argument_path i (length xs)) (sym all))

operand_place : {o : Origins} {at : Spot} {e x : TermTree} {path : List ℕ} → StandsAt o at e path x → (i : ℕ) × IsPlaceOf e i path
operand_place (of_prim p args i {a = a} n k g) = (i, argument_place (prim p) args i (OfTerm a) refl g)
operand_place of_case = (0, of_child refl refl)
operand_place (of_con c args i {a = a} m k n g) = (i, argument_place (con c) args i (OfTerm a) refl g)
operand_place (of_vector {i = i} m g) = (i, of_child refl refl)

call_operand_place : {at : Spot} {e x : TermTree} {path : List ℕ} → StandsInCall at e path x → (i : ℕ) × IsPlaceOf e i path
call_operand_place (of_global d args i {a = a} m g) = (i, argument_place (global d) args i (OfTerm a) refl g)
call_operand_place (of_made m args i {a = a} l g) = (i, argument_place (made m) args i (OfTerm a) refl g)

-- an earlier place has a smaller number
more_zeros : (n m : ℕ) → IsEarlier (replicate n 0 ++ 1 ∷ []) (replicate m 0 ++ 1 ∷ []) → m < n
more_zeros zero zero (inl l) = omega (arith, l)
more_zeros zero zero (inr h) = absurd h.1
more_zeros zero (suc m) (inl l) = omega (arith, l)
more_zeros zero (suc m) (inr h) = omega (arith, h.0)
more_zeros (suc n) zero h = omega arith
more_zeros (suc n) (suc m) (inl l) = omega (arith, l)
more_zeros (suc n) (suc m) (inr h) = let less = more_zeros n m h.1 in omega (arith, less)

earlier_child : (i j : ℕ) → IsEarlier (i ∷ []) (j ∷ []) → i < j
earlier_child i j (inl l) = l
earlier_child i j (inr h) = absurd h.1

earlier_is_less : {e : TermTree} {i j : ℕ} {p q : List ℕ} → IsPlaceOf e i p → IsPlaceOf e j q → IsEarlier p q → i < j
earlier_is_less {e} {i} {j} {p} {q} (of_argument l is) (of_argument m at) h =
    let n = length (args_of e) in
    let there : IsEarlier (argument_path i n) (argument_path j n) = subst (λ p. IsEarlier p (argument_path j n)) is (subst (IsEarlier p) at h) in
    let less = more_zeros (n - 1 - i) (n - 1 - j) there in
    omega (arith, less, l, m)
earlier_is_less {j = j} (of_argument l is) (of_child none at) h = let no = ap length none in absurd (omega (arith, no, l))
earlier_is_less (of_child none is) (of_argument l at) h = let no = ap length none in absurd (omega (arith, no, l))
earlier_is_less {i = i} {j = j} {p = p} (of_child none is) (of_child n at) h =
    earlier_child i j (subst (λ p. IsEarlier p (j ∷ [])) is (subst (IsEarlier p) at h))

-- where none is the first, there is none
none_without_first : (P : List ℕ → TermTree → Type 0) (e : TermTree) → ((path : List ℕ) (x : TermTree) → P path x → (i : ℕ) × IsPlaceOf e i path) → ((path : List ℕ) (x : TermTree) → P path x → ((q : List ℕ) (y : TermTree) → P q y → IsEarlier q path → ⊥) → ⊥) → (path : List ℕ) (x : TermTree) → P path x → ⊥
none_without_first P e place no_first path x h = let at = place path x h in below (suc at.0) path x h at.0 at.1 (omega arith)
  where
    below : (n : ℕ) (path : List ℕ) (x : TermTree) → P path x → (i : ℕ) → IsPlaceOf e i path → i < n → ⊥
    below zero path x h i at l = omega (arith, l)
    below (suc n) path x h i at l =
        no_first path x h (λ q y other earlier.
        let before = place q y other in
        let less = earlier_is_less before.1 at earlier in
        below n q y other before.0 before.1 (omega (arith, less, l)))

-- at rest no operand needs a name
pub no_operand : (o : Origins) (at : Spot) (core : TermTree) (rest : List Arg) (t : TypeTree) → IsRestPlace o at (applied core rest) t → (path : List ℕ) (x : TermTree) → IsOperand o at core path x → ⊥
no_operand o at core rest t p =
    none_without_first (IsOperand o at core) core (λ path x h. operand_place h.0)
    (λ path x h first.
    let found = typed_found x h.1.has p.place.sound p.place.vars in
    no_core Anf core (with_name core path found.type x) rest (anf (record { is = h; first = first }) found.is) p)

pub no_operand_of_call : (o : Origins) (at : Spot) (e : TermTree) (t : TypeTree) → IsRestPlace o at e t → (path : List ℕ) (x : TermTree) → IsOperandOfCall o at e path x → ⊥
no_operand_of_call o at e t p =
    none_without_first (IsOperandOfCall o at e) e (λ path x h. call_operand_place h.0)
    (λ path x h first.
    let found = typed_found x h.1.has p.place.sound p.place.vars in
    no_whole Anf (anf_call (record { is = h; first = first }) found.is) p)

pub none_needs_name : (o : Origins) (at : Spot) (e : TermTree) (t : TypeTree) → IsRestPlace o at e t → NoneNeedsName o at e
none_needs_name o at e t p =
    record {
      in_core = λ core rest path x is h. no_operand o at core rest t (subst (λ e. IsRestPlace o at e t) is p) path x h;
      in_call = no_operand_of_call o at e t p;
    }

-- a term is a variable, where it can't be none
variable_or_not : (x : TermTree) → ((IsVariable x → ⊥) → ⊥) → IsVariable x
variable_or_not (var x) n = tt
variable_or_not _ n = absurd (n (λ v. v))

pub operands_are_variables : (o : Origins) (at : Spot) (core : TermTree) (rest : List Arg) (t : TypeTree) (path : List ℕ) (x : TermTree) (u : TypeTree) → IsRestPlace o at (applied core rest) t → StandsAt o at core path x → HasType (setting_at o) [] at.vars x u → IsNamed o.program.datas at.mode u → IsVariable x
operands_are_variables o at core rest t path x u p s d n =
    variable_or_not x (λ no. no_operand o at core rest t p path x (s, record { no_variable = no; type = u; has = d; named = n }))

pub call_operands_are_variables : (o : Origins) (at : Spot) (e : TermTree) (t : TypeTree) (path : List ℕ) (x : TermTree) (u : TypeTree) → IsRestPlace o at e t → StandsInCall at e path x → HasType (setting_at o) [] at.vars x u → IsNamed o.program.datas at.mode u → IsVariable x
call_operands_are_variables o at e t path x u p s d n =
    variable_or_not x (λ no. no_operand_of_call o at e t p path x (s, record { no_variable = no; type = u; has = d; named = n }))

-- what a result place gives is a variable, or a letrec gives it
pub result_is_named : (o : Origins) (at : Spot) (e : TermTree) (t : TypeTree) → HasLets at.mode → at.result ≡ true → IsRestPlace o at e t → IsVariable e ⊎ IsLet e
result_is_named o at e t l r p = by e (λ v k. wrong v k)
  where
    wrong : (IsVariable e → ⊥) → (IsLet e → ⊥) → ⊥
    wrong v k = let found = typed_found e p.has p.place.sound p.place.vars in no_whole Anf (anf_result l r v k (none_needs_name o at e t p) found.is) p

    by : (x : TermTree) → ((IsVariable x → ⊥) → (IsLet x → ⊥) → ⊥) → IsVariable x ⊎ IsLet x
    by (var x) n = inl tt
    by (letrec g e) n = inr tt
    by _ n = absurd (n (λ v. v) (λ k. k))
