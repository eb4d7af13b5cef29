-- What keeps the type of a call, by the kinds that the line asks for: one or two numbers, and one, two or three types.
use Rattle.std.proofs.Common.{◌≡◌, ℕ, refl, List, [], ◌∷◌, map, length}
use Rattle.chw_types.specs.declared.kind.Kind.{Kind}
use Rattle.chw_types.specs.declared.kind.Kind.TheVariants.{Nat}
use Rattle.chw_types.specs.TypeTree.{TypeTree}
use Rattle.chw_types.specs.Kinds.{IsOfTerms}
use Rattle.chw_prims.specs.declared.row.Row.{Row}
use Rattle.chw_prims.specs.Schemas.{row_type}
use Rattle.chw_terms.specs.TermTree.{TermTree, letrec}
use Rattle.chw_terms.specs.TermMoves.{shift}
use Rattle.chw_terms.specs.Evaluated.{evaluated}
use Rattle.chw_terms.specs.Unrolled.{named, at_types}
use Rattle.chw_typing.specs.Scopes.{HasKind, with_more}
use Rattle.chw_typing.specs.HeadTypes.{for_each, from_each}
use Rattle.chw_typing.specs.Typing.{HasTypeUpTo}
use Rattle.chw_typing.proofs.EvaluatedTypes.{kind_evaluated}
use Rattle.chw_typing.specs.Given.{IsSaturated}
use Rattle.unroll_laws.proofs.Kept.{Call, call_of, kept}
use Rattle.unroll_laws.proofs.Sized.{IsNumber, number_small, term_small, first_kind, later_kinds}

-- in the scope of the arguments' names, the body has the type of the result
abbrev pub BodyFits : (row : Row) (types : List TypeTree) (args : List TermTree) → Call row types args → List TypeTree → TypeTree → TermTree → Type 0
BodyFits row types args c ps r e = HasTypeUpTo c.s c.kinds (with_more (map (at_types types) ps) c.vars) e (at_types types r)

-- the letrec with the body has the type of the call
abbrev pub LetFits : (row : Row) (types : List TypeTree) (args : List TermTree) → Call row types args → List TypeTree → TermTree → Type 0
LetFits row types args c ps e = HasTypeUpTo c.s c.kinds c.vars (letrec (named (map (at_types types) ps) (map (λ e. shift e 0 (length args)) args)) e) c.t

pub kept_1 : (row : Row) (size a : TypeTree) (args : List TermTree) (c : Call row (size ∷ a ∷ []) args) (n : ℕ) (k : Kind) (ps : List TypeTree) (r : TypeTree) (e : TermTree) → IsNumber size n → IsOfTerms k → row_type row ≡ for_each (Nat ∷ k ∷ []) (from_each ps r) → length args ≡ length ps → (HasKind c.s c.kinds (evaluated a) k → BodyFits row (size ∷ a ∷ []) args c ps r e) → LetFits row (size ∷ a ∷ []) args c ps e
kept_1 row size a args c n k ps r e num o is l fits =
    kept row (size ∷ a ∷ []) args c (Nat ∷ k ∷ []) ps r e body.type is (number_small size n num, (term_small of_a o, tt)) call body.has body.same
  where
    call : IsSaturated c.s c.kinds c.vars (Nat ∷ k ∷ []) ps r (size ∷ a ∷ []) args c.t
    call = call_of row (size ∷ a ∷ []) args c (Nat ∷ k ∷ []) ps r is refl l

    of_a : HasKind c.s c.kinds a k
    of_a = first_kind (later_kinds call.have)

    body : BodyFits row (size ∷ a ∷ []) args c ps r e
    body = fits (kind_evaluated of_a)

pub kept_2 : (row : Row) (size a b : TypeTree) (args : List TermTree) (c : Call row (size ∷ a ∷ b ∷ []) args) (n : ℕ) (k : Kind) (ps : List TypeTree) (r : TypeTree) (e : TermTree) → IsNumber size n → IsOfTerms k → row_type row ≡ for_each (Nat ∷ k ∷ k ∷ []) (from_each ps r) → length args ≡ length ps → (HasKind c.s c.kinds (evaluated a) k → HasKind c.s c.kinds (evaluated b) k → BodyFits row (size ∷ a ∷ b ∷ []) args c ps r e) → LetFits row (size ∷ a ∷ b ∷ []) args c ps e
kept_2 row size a b args c n k ps r e num o is l fits =
    kept row (size ∷ a ∷ b ∷ []) args c (Nat ∷ k ∷ k ∷ []) ps r e body.type is (number_small size n num, (term_small of_a o, (term_small of_b o, tt))) call body.has body.same
  where
    call : IsSaturated c.s c.kinds c.vars (Nat ∷ k ∷ k ∷ []) ps r (size ∷ a ∷ b ∷ []) args c.t
    call = call_of row (size ∷ a ∷ b ∷ []) args c (Nat ∷ k ∷ k ∷ []) ps r is refl l

    of_a : HasKind c.s c.kinds a k
    of_a = first_kind (later_kinds call.have)

    of_b : HasKind c.s c.kinds b k
    of_b = first_kind (later_kinds (later_kinds call.have))

    body : BodyFits row (size ∷ a ∷ b ∷ []) args c ps r e
    body = fits (kind_evaluated of_a) (kind_evaluated of_b)

pub kept_3 : (row : Row) (size a b d : TypeTree) (args : List TermTree) (c : Call row (size ∷ a ∷ b ∷ d ∷ []) args) (n : ℕ) (k : Kind) (ps : List TypeTree) (r : TypeTree) (e : TermTree) → IsNumber size n → IsOfTerms k → row_type row ≡ for_each (Nat ∷ k ∷ k ∷ k ∷ []) (from_each ps r) → length args ≡ length ps → (HasKind c.s c.kinds (evaluated a) k → HasKind c.s c.kinds (evaluated b) k → HasKind c.s c.kinds (evaluated d) k → BodyFits row (size ∷ a ∷ b ∷ d ∷ []) args c ps r e) → LetFits row (size ∷ a ∷ b ∷ d ∷ []) args c ps e
kept_3 row size a b d args c n k ps r e num o is l fits =
    kept row (size ∷ a ∷ b ∷ d ∷ []) args c (Nat ∷ k ∷ k ∷ k ∷ []) ps r e body.type is (number_small size n num, (term_small of_a o, (term_small of_b o, (term_small of_d o, tt)))) call body.has body.same
  where
    call : IsSaturated c.s c.kinds c.vars (Nat ∷ k ∷ k ∷ k ∷ []) ps r (size ∷ a ∷ b ∷ d ∷ []) args c.t
    call = call_of row (size ∷ a ∷ b ∷ d ∷ []) args c (Nat ∷ k ∷ k ∷ k ∷ []) ps r is refl l

    of_a : HasKind c.s c.kinds a k
    of_a = first_kind (later_kinds call.have)

    of_b : HasKind c.s c.kinds b k
    of_b = first_kind (later_kinds (later_kinds call.have))

    of_d : HasKind c.s c.kinds d k
    of_d = first_kind (later_kinds (later_kinds (later_kinds call.have)))

    body : BodyFits row (size ∷ a ∷ b ∷ d ∷ []) args c ps r e
    body = fits (kind_evaluated of_a) (kind_evaluated of_b) (kind_evaluated of_d)

pub kept_twice : (row : Row) (size other a : TypeTree) (args : List TermTree) (c : Call row (size ∷ other ∷ a ∷ []) args) (n m : ℕ) (k : Kind) (ps : List TypeTree) (r : TypeTree) (e : TermTree) → IsNumber size n → IsNumber other m → IsOfTerms k → row_type row ≡ for_each (Nat ∷ Nat ∷ k ∷ []) (from_each ps r) → length args ≡ length ps → (HasKind c.s c.kinds (evaluated a) k → BodyFits row (size ∷ other ∷ a ∷ []) args c ps r e) → LetFits row (size ∷ other ∷ a ∷ []) args c ps e
kept_twice row size other a args c n m k ps r e num also o is l fits =
    kept row (size ∷ other ∷ a ∷ []) args c (Nat ∷ Nat ∷ k ∷ []) ps r e body.type is (number_small size n num, (number_small other m also, (term_small of_a o, tt))) call body.has body.same
  where
    call : IsSaturated c.s c.kinds c.vars (Nat ∷ Nat ∷ k ∷ []) ps r (size ∷ other ∷ a ∷ []) args c.t
    call = call_of row (size ∷ other ∷ a ∷ []) args c (Nat ∷ Nat ∷ k ∷ []) ps r is refl l

    of_a : HasKind c.s c.kinds a k
    of_a = first_kind (later_kinds (later_kinds call.have))

    body : BodyFits row (size ∷ other ∷ a ∷ []) args c ps r e
    body = fits (kind_evaluated of_a)
