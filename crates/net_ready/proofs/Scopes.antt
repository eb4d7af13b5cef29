-- The types of the variables in scope.
use Rattle.std.proofs.Common.{◌≡◌, ℕ, zero, suc, ◌+◌, List, [], ◌∷◌, ◌++◌, reverse, Some, refl, sym, ap, ◌∙◌}
use Rattle.std.specs.List.{slice_get}
use Rattle.std.proofs.lemmas.List.{reverse-append}
use Rattle.chw_base.specs.declared.index.WireId.{WireId}
use Rattle.chw_types.specs.declared.declarations.Data.{Data}
use Rattle.chw_types.specs.TypeTree.{TypeTree}
use Rattle.chw_typing.specs.Scopes.{with_more}
use Rattle.net_built.specs.Data.{HaveWidths, variables_from}
use Rattle.net_built.specs.Terms.{Variable}
use Rattle.net_built.specs.Wires.{wire_count}
use Rattle.net_ready.specs.Drafts.{on_wires}
use Rattle.net_ready.specs.Ready.{types_on}

pub types_on_wires : (ts : List TypeTree) (wires : List (List WireId)) → types_on (on_wires ts wires) ≡ ts
types_on_wires [] wires = refl
types_on_wires (t ∷ ts) [] = ap (λ ts. t ∷ ts) (types_on_wires ts [])
types_on_wires (t ∷ ts) (w ∷ wires) = ap (λ ts. t ∷ ts) (types_on_wires ts wires)

-- the types of fields
pub field_types : (datas : List Data) (ts : List TypeTree) (widths : List ℕ) (n : ℕ) → HaveWidths datas ts widths → types_on (variables_from n ts widths) ≡ ts
field_types datas [] [] n h = refl
field_types datas [] (w ∷ widths) n h = absurd h
field_types datas (t ∷ ts) [] n h = absurd h
field_types datas (t ∷ ts) (w ∷ widths) n h = ap (λ ts. t ∷ ts) (field_types datas ts widths (n + wire_count (w ∷ [])) h.1)

types_append : (xs ys : List Variable) → types_on (xs ++ ys) ≡ types_on xs ++ types_on ys
types_append [] ys = refl
types_append (x ∷ xs) ys = ap (λ ts. x.ty ∷ ts) (types_append xs ys)

types_reversed : (b : List Variable) → types_on (reverse b) ≡ reverse (types_on b)
types_reversed [] = refl
types_reversed (x ∷ b) =
    ap (λ l. types_on l) (reverse-append (x ∷ []) b) ∙ types_append (reverse b) (x ∷ []) ∙ ap (λ ts. ts ++ x.ty ∷ []) (types_reversed b)
    ∙ sym (reverse-append (x.ty ∷ []) (types_on b))

-- the types where these are bound together
pub types_with_more : (b s : List Variable) (new vars : List TypeTree) → types_on b ≡ new → types_on s ≡ vars → types_on (reverse b ++ s) ≡ with_more new vars
types_with_more b s new vars e f = types_append (reverse b) s ∙ (λ i. types_reversed b i ++ types_on s) ∙ (λ i. with_more (e i) (f i))

-- a variable of a type that is in scope
pub variable_there : (s : List Variable) (vars : List TypeTree) (x : ℕ) (t : TypeTree) → types_on s ≡ vars → slice_get vars x ≡ Some t → (it : Variable) × (slice_get s x ≡ Some it) × (it.ty ≡ t)
variable_there [] [] x t e h = absurd cc
variable_there [] (u ∷ vars) x t e h = absurd cc
variable_there (v ∷ s) [] x t e h = absurd cc
variable_there (v ∷ s) (u ∷ vars) zero t e h =
    let first : v.ty ≡ u = cc in
    let there : u ≡ t = cc in
    (v, refl, first ∙ there)
variable_there (v ∷ s) (u ∷ vars) (suc x) t e h = let rest : types_on s ≡ vars = cc in variable_there s vars x t rest h
